-- Elements of lists, by tests.
use Rattle.std.proofs.Common.{◌≡◌, ◌<◌, ◌≤◌, ◌||◌, inl, inr, ℕ, zero, suc, Bool, true, false, cond, List, [], ◌∷◌, ◌++◌, length, get_or, count_by, refl, sym, ap, ap₂, subst, ◌∙◌, arith}
use Rattle.std.specs.Prelude.{Contains, filter, max}
use Rattle.std.specs.List.{flat_map, fold, list_any}
use Rattle.std.proofs.lemmas.List.Elements.{Contains-append_cases, Contains-append_right}
use Rattle.std.proofs.lemmas.List.Sums.{sum_by-cons}
pub use Rattle.std.proofs.lemmas.Bool.{or_left, or_right}
pub use Rattle.std.proofs.lemmas.Grind.{same_number_lists as lists_same}

pub same_test : (a b : Bool) → (a ≡ true → b ≡ true) → (b ≡ true → a ≡ true) → a ≡ b
same_test true true f g = refl
same_test true false f g = sym (f refl)
same_test false true f g = g refl
same_test false false f g = refl

-- ---- tests of lists

pub any_of : {X : Type 0} (t : X → Bool) (xs : List X) (x : X) → Contains xs x → t x ≡ true → list_any t xs ≡ true
any_of t [] x (k, low, e) h = absurd (omega (arith, low))
any_of t (y ∷ xs) x (zero, low, e) h = or_left (t y) (list_any t xs) (ap t e ∙ h)
any_of t (y ∷ xs) x (suc k, low, e) h = or_right (t y) (list_any t xs) (any_of t xs x (k, omega (arith, low), e) h)

pub found_of : {X : Type 0} (t : X → Bool) (xs : List X) → list_any t xs ≡ true → (x : X) × Contains xs x × (t x ≡ true)
found_of t [] h = absurd (cc)
found_of {X} t (y ∷ xs) h = by (t y) refl h (found_of t xs)
  where
    by : (b : Bool) → t y ≡ b → (b || list_any t xs) ≡ true → (list_any t xs ≡ true → (x : X) × Contains xs x × (t x ≡ true)) → (x : X) × Contains (y ∷ xs) x × (t x ≡ true)
    by true e g more = (y, (0, omega arith, refl), e)
    by false e g more = (let r = more g in (r.0, (suc r.1.0, (let low = r.1.1 in omega (arith, low)), r.1.2), r.2))

pub passes : {X : Type 0} (t : X → Bool) (xs : List X) (x : X) → Contains (filter t xs) x → t x ≡ true
passes t [] x (k, low, e) = absurd (omega (arith, low))
passes {X} t (y ∷ xs) x at = by (t y) refl at (passes t xs x)
  where
    by : (b : Bool) → t y ≡ b → Contains (cond b (y ∷ filter t xs) (filter t xs)) x → (Contains (filter t xs) x → t x ≡ true) → t x ≡ true
    by true e (zero, low, f) more = sym (ap t f) ∙ e
    by true e (suc k, low, f) more = more (k, omega (arith, low), f)
    by false e c more = more c

pub any_same : {X : Type 0} (t s : X → Bool) (xs : List X) → ((x : X) → Contains xs x → t x ≡ s x) → list_any t xs ≡ list_any s xs
any_same t s [] same = refl
any_same t s (x ∷ xs) same = ap₂ (λ (a b : Bool). a || b) (same x (0, omega arith, refl)) (any_same t s xs (λ y at. same y (suc at.0, (let low = at.1 in omega (arith, low)), at.2)))

pub in_left : {Y : Type 0} (ys zs : List Y) (y : Y) → Contains ys y → Contains (ys ++ zs) y
in_left [] zs y (k, low, e) = absurd (omega (arith, low))
in_left (a ∷ ys) zs y (zero, low, e) = (0, omega arith, e)
in_left (a ∷ ys) zs y (suc k, low, e) = let r = in_left ys zs y (k, omega (arith, low), e) in (suc r.0, (let l = r.1 in omega (arith, l)), r.2)

pub in_flat : {X Y : Type 0} (f : X → List Y) (xs : List X) (x : X) (y : Y) → Contains xs x → Contains (f x) y → Contains (flat_map f xs) y
in_flat f [] x y (k, low, e) at = absurd (omega (arith, low))
in_flat {X} {Y} f (z ∷ xs) x y (zero, low, e) at = in_left (f z) (flat_map f xs) y (subst (λ (w : X). Contains (f w) y) (sym e) at)
in_flat f (z ∷ xs) x y (suc k, low, e) at = Contains-append_right (f z) (flat_map f xs) y (in_flat f xs x y (k, omega (arith, low), e) at)

pub from_flat : {X Y : Type 0} (f : X → List Y) (xs : List X) (y : Y) → Contains (flat_map f xs) y → (x : X) × Contains xs x × Contains (f x) y
from_flat f [] y (k, low, e) = absurd (omega (arith, low))
from_flat f (x ∷ xs) y at = elim (Contains-append_cases (f x) (flat_map f xs) y at) [
  | inl here ↦ (x, (0, omega arith, refl), here)
  | inr later ↦ (let r = from_flat f xs y later in (r.0, (suc r.1.0, (let low = r.1.1 in omega (arith, low)), r.1.2), r.2))
]

-- ---- the only one

abbrev pub one : Bool → ℕ
one b = cond b 1 0

count_some : {X : Type 0} (t : X → Bool) (xs : List X) (x : X) → Contains xs x → t x ≡ true → 1 ≤ count_by t xs
count_some t [] x (k, low, e) h = absurd (omega (arith, low))
count_some t (y ∷ xs) x (zero, low, e) h =
    let here : one (t y) ≡ 1 = ap one (ap t e ∙ h) in
    omega (arith, here, sum_by-cons (λ z. cond (t z) 1 0) y xs)
count_some t (y ∷ xs) x (suc k, low, e) h = let more = count_some t xs x (k, omega (arith, low), e) h in omega (arith, more, sum_by-cons (λ z. cond (t z) 1 0) y xs)

pub only_one : {X : Type 0} (t : X → Bool) (xs : List X) (a b : X) → count_by t xs ≤ 1 → Contains xs a → Contains xs b → t a ≡ true → t b ≡ true → a ≡ b
only_one t [] a b few (i, li, ei) (j, lj, ej) ta tb = absurd (omega (arith, li))
only_one t (y ∷ xs) a b few (zero, li, ei) (zero, lj, ej) ta tb = sym ei ∙ ej
only_one t (y ∷ xs) a b few (zero, li, ei) (suc j, lj, ej) ta tb =
    absurd (let more = count_some t xs b (j, omega (arith, lj), ej) tb in
    let here : one (t y) ≡ 1 = ap one (ap t ei ∙ ta) in
    omega (arith, more, here, few, sum_by-cons (λ z. cond (t z) 1 0) y xs))
only_one t (y ∷ xs) a b few (suc i, li, ei) (zero, lj, ej) ta tb =
    absurd (let more = count_some t xs a (i, omega (arith, li), ei) ta in
    let here : one (t y) ≡ 1 = ap one (ap t ej ∙ tb) in
    omega (arith, more, here, few, sum_by-cons (λ z. cond (t z) 1 0) y xs))
only_one t (y ∷ xs) a b few (suc i, li, ei) (suc j, lj, ej) ta tb =
    only_one t xs a b (omega (arith, few, sum_by-cons (λ z. cond (t z) 1 0) y xs)) (i, omega (arith, li), ei) (j, omega (arith, lj), ej) ta tb

-- ---- the greatest value

most_from : {X : Type 0} (f : X → ℕ) (n : ℕ) (xs : List X) → n ≤ fold (λ k x. max k (f x)) n xs
most_from f n [] = omega arith
most_from f n (x ∷ xs) = let more = most_from f (max n (f x)) xs in omega (arith, more)

pub most_above : {X : Type 0} (f : X → ℕ) (n : ℕ) (xs : List X) (x : X) → Contains xs x → f x ≤ fold (λ k y. max k (f y)) n xs
most_above f n [] x (k, low, e) = absurd (omega (arith, low))
most_above f n (y ∷ xs) x (zero, low, e) = let more = most_from f (max n (f y)) xs in let same = ap f e in omega (arith, more, same)
most_above f n (y ∷ xs) x (suc k, low, e) = most_above f (max n (f y)) xs x (k, omega (arith, low), e)

pub most_below : {X : Type 0} (f : X → ℕ) (n m : ℕ) (xs : List X) → n ≤ m → ((x : X) → Contains xs x → f x ≤ m) → fold (λ k x. max k (f x)) n xs ≤ m
most_below f n m [] low all = low
most_below f n m (x ∷ xs) low all =
    most_below f (max n (f x)) m xs (let first = all x (0, omega arith, refl) in omega (arith, low, first)) (λ y at. all y (suc at.0, (let l = at.1 in omega (arith, l)), at.2))

-- Lists with the same elements have the same greatest value.
pub most_same : {X : Type 0} (f : X → ℕ) (xs ys : List X) → ((x : X) → Contains xs x → Contains ys x) → ((x : X) → Contains ys x → Contains xs x) → fold (λ k x. max k (f x)) 0 xs ≡ fold (λ k x. max k (f x)) 0 ys
most_same f xs ys there back =
    let a = most_below f 0 (fold (λ k x. max k (f x)) 0 ys) xs (omega arith) (λ x at. most_above f 0 ys x (there x at)) in
    let b = most_below f 0 (fold (λ k x. max k (f x)) 0 xs) ys (omega arith) (λ x at. most_above f 0 xs x (back x at)) in
    omega (arith, a, b)

-- ---- by places

pub at_place : (xs : List ℕ) (k x : ℕ) → k < length xs → get_or xs k 0 ≡ x → Contains xs x
at_place [] k x low e = absurd (omega (arith, low))
at_place (y ∷ xs) zero x low e = (0, omega arith, e)
at_place (y ∷ xs) (suc k) x low e = let r = at_place xs k x (omega (arith, low)) e in (suc r.0, (let l = r.1 in omega (arith, l)), r.2)
