-- Elements of lists, of mapped lists and of flattened ones; how many pass a test.
use Rattle.std.proofs.Common.{◌≡◌, ◌≤◌, ◌⊎◌, inl, inr, ⊎_elim, ℕ, zero, suc, ◌+◌, Bool, true, false, cond, List, [], ◌∷◌, map, refl, sym, ap, subst, ◌∙◌, arith, Some}
use Rattle.std.specs.Prelude.{Contains, IsPermutation, sum_by, slice_get, find, filter}
use Rattle.std.specs.List.{flat_map}
use Rattle.std.proofs.lemmas.List.Elements.{Contains-append_cases}
use Rattle.std.proofs.lemmas.List.Sorted.{sum_by-IsPermutation}
use Rattle.std.proofs.lemmas.List.Sums.{sum_by-cons}
use Rattle.fc_image.proofs.PathsLemmas.{many, only_one}
use Rattle.fc_tree.proofs.WalkedLemmas.{same_some, same_place, place_of}
use Rattle.fc_image.proofs.EntriesLemmas.{later as contains_later, cases as contains_cases}

pub contains_here : {X : Type 0} (x : X) (xs : List X) → Contains (x ∷ xs) x
contains_here x xs = (0, omega arith, refl)

pub no_element : {X : Type 0} (x : X) → Contains [] x → ⊥
no_element x at = absurd (omega (arith, at.1))

-- what a mapped list holds
pub from_map : {X Y : Type 0} (f : X → Y) (xs : List X) (y : Y) → Contains (map f xs) y → (x : X) × Contains xs x × (f x ≡ y)
from_map f [] y at = absurd (no_element y at)
from_map f (x ∷ xs) y at =
    ⊎_elim (λ e. (x, contains_here x xs, e)) (λ later. let r = from_map f xs y later in (r.0, contains_later x r.0 xs r.1, r.2))
    (contains_cases (f x) y (map f xs) at)

pub in_map : {X Y : Type 0} (f : X → Y) (xs : List X) (x : X) → Contains xs x → Contains (map f xs) (f x)
in_map f [] x at = absurd (no_element x at)
in_map f (y ∷ xs) x at =
    ⊎_elim (λ e. subst (λ z. Contains (map f (y ∷ xs)) (f z)) e (contains_here (f y) (map f xs))) (λ later. contains_later (f y) (f x) (map f xs) (in_map f xs x later))
    (contains_cases y x xs at)

-- what a flattened list holds
pub from_flat : {X Y : Type 0} (f : X → List Y) (xs : List X) (y : Y) → Contains (flat_map f xs) y → (x : X) × Contains xs x × Contains (f x) y
from_flat f [] y at = absurd (no_element y at)
from_flat f (x ∷ xs) y at =
    ⊎_elim (λ here. (x, contains_here x xs, here)) (λ later. let r = from_flat f xs y later in (r.0, contains_later x r.0 xs r.1, r.2))
    (Contains-append_cases (f x) (flat_map f xs) y at)

-- the first element that passes is one
pub found_passes : {X : Type 0} (t : X → Bool) (xs : List X) (x : X) → find t xs ≡ Some x → Contains xs x × (t x ≡ true)
found_passes t [] x h = absurd (cc)
found_passes {X} t (y ∷ xs) x h = by (t y) refl h (found_passes t xs x)
  where
    by : (b : Bool) → t y ≡ b → cond b (Some y) (find t xs) ≡ Some x → (find t xs ≡ Some x → Contains xs x × (t x ≡ true)) → Contains (y ∷ xs) x × (t x ≡ true)
    by true e g more = let is = same_some y x g in (subst (λ (z : X). Contains (y ∷ xs) z) is (contains_here y xs), subst (λ (z : X). t z ≡ true) is e)
    by false e g more = let r = more g in (contains_later y x xs r.0, r.1)

-- what passes is kept
pub in_filter : {X : Type 0} (t : X → Bool) (xs : List X) (x : X) → Contains xs x → t x ≡ true → Contains (filter t xs) x
in_filter t [] x at h = absurd (no_element x at)
in_filter t (y ∷ xs) x at h = by (t y) refl (contains_cases y x xs at) (λ later. in_filter t xs x later h)
  where
    by : (b : Bool) → t y ≡ b → (y ≡ x) ⊎ Contains xs x → (Contains xs x → Contains (filter t xs) x) → Contains (cond b (y ∷ filter t xs) (filter t xs)) x
    by true e (inl same) more = subst (λ z. Contains (y ∷ filter t xs) z) same (contains_here y (filter t xs))
    by true e (inr later) more = contains_later y x (filter t xs) (more later)
    by false e (inl same) more = let two : true ≡ false = sym h ∙ sym (ap t same) ∙ e in absurd (cc)
    by false e (inr later) more = more later

-- ---- how many pass

pub some_many : {X : Type 0} (t : X → Bool) (xs : List X) (x : X) → Contains xs x → t x ≡ true → 1 ≤ many t xs
unfolding many
some_many t [] x at h = absurd (no_element x at)
some_many t (y ∷ xs) x at h =
    ⊎_elim (λ e. let here : t y ≡ true = ap t e ∙ h in rw here (omega arith)) (λ later. let r = some_many t xs x later h in omega arith)
    (contains_cases y x xs at)

-- of a list where one passes there are no two that pass
pub one_passes : {X : Type 0} (t : X → Bool) (xs : List X) (x y : X) → many t xs ≤ 1 → Contains xs x → Contains xs y → t x ≡ true → t y ≡ true → x ≡ y
one_passes t xs x y low at bt h g =
    let i = place_of xs x at in
    let j = place_of xs y bt in
    same_place xs i.0 x y i.1 (ap (slice_get xs) (only_one t xs i.0 j.0 x y low i.1 j.1 h g) ∙ j.1)

many_sum : {X : Type 0} (t : X → Bool) (xs : List X) → many t xs ≡ sum_by (λ x. cond (t x) 1 0) xs
unfolding many
many_sum t [] = refl
many_sum t (x ∷ xs) = ap (λ (n : ℕ). cond (t x) 1 0 + n) (many_sum t xs) ∙ sym (sum_by-cons (λ x. cond (t x) 1 0) x xs)

pub many_permuted : {X : Type 0} (t : X → Bool) (xs ys : List X) → IsPermutation xs ys → many t ys ≡ many t xs
many_permuted t xs ys same = many_sum t ys ∙ sum_by-IsPermutation (λ x. cond (t x) 1 0) xs ys same ∙ sym (many_sum t xs)

pub many_mapped : {X Y : Type 0} (t : Y → Bool) (f : X → Y) (xs : List X) → many t (map f xs) ≡ many (λ x. t (f x)) xs
unfolding many
many_mapped t f [] = refl
many_mapped t f (x ∷ xs) = ap (λ (n : ℕ). cond (t (f x)) 1 0 + n) (many_mapped t f xs)
