-- Tests, lists and paths.
use Rattle.std.proofs.Common.{◌≡◌, ◌<◌, ◌⊎◌, inl, inr, ℕ, zero, suc, ◌-◌, Bool, true, false, cond, List, [], ◌∷◌, ◌++◌, length, map, take, refl, ap, ap₂, ◌∙◌, arith, Some, None, Option}
use Rattle.std.specs.Prelude.{Contains, IsPermutation, filter, remove, slice_get, ◌&&◌, ◌||◌, ◌==◌}
use Rattle.std.specs.List.{flat_map, list_any}
use Rattle.std.specs.Option.{option_map_or, option_and_then}
use Rattle.std.proofs.lemmas.List.Elements.{Contains-append_cases}
use Rattle.std.proofs.lemmas.List.Sorted.{IsPermutation-remove}
use Rattle.fc_names.specs.Names.{Path}
use Rattle.fc_model.specs.Tree.{holder}
use Rattle.fc_image.proofs.EntriesLemmas.{at_place as place_of}
use Rattle.std.proofs.lemmas.Bool.{or_left}
pub use Rattle.fc_zone.proofs.ZoneLemmas.{Contains-head as first_in}
pub use Rattle.fc_image.proofs.EntriesLemmas.{later as next_in}
pub use Rattle.fc_plan.proofs.IdBits.{or_false}

-- ---- tests

pub clash : (b : Bool) → b ≡ true → b ≡ false → ⊥
clash true y n = cc
clash false y n = cc

pub and_false : (b : Bool) → (b && false) ≡ false
and_false true = refl
and_false false = refl

pub or_cases : (a b : Bool) → (a || b) ≡ true → (a ≡ true → ⊥) → (b ≡ true → ⊥) → ⊥
or_cases true b h first second = first refl
or_cases false b h first second = second h

pub not_zero : (n : ℕ) → (n == 0) ≡ false → 0 < n
not_zero zero h = absurd (cc)
not_zero (suc n) h = omega arith

pub and_then_none : {X Y : Type 0} (f : X → Option Y) (o : Option X) → o ≡ None → option_and_then f o ≡ None
and_then_none f None e = refl
and_then_none f (Some x) e = absurd (cc)

pub map_or_none : {X Y : Type 0} (f : X → Y) (o : Option X) (d : Y) → o ≡ None → option_map_or f o d ≡ d
map_or_none f None d e = refl
map_or_none f (Some x) d e = absurd (cc)

-- ---- elements

pub cases_cons : {X : Type 0} (x : X) (xs : List X) (y : X) → Contains (x ∷ xs) y → (x ≡ y) ⊎ Contains xs y
cases_cons x xs y (zero, low, e) = inl e
cases_cons x xs y (suc i, low, e) = inr (i, omega (arith, low), e)

pub nothing_in : {X : Type 0} (x : X) → Contains [] x → ⊥
nothing_in x at = omega (arith, at.1)

-- an element passes a test
pub any_in : {X : Type 0} (t : X → Bool) (xs : List X) (x : X) → Contains xs x → t x ≡ true → list_any t xs ≡ true
any_in t [] x at h = absurd (nothing_in x at)
any_in t (y ∷ xs) x at h = elim (cases_cons y xs x at) [
  | inl is ↦ or_left (t y) (list_any t xs) (ap t is ∙ h)
  | inr later ↦ or_right (t y) (list_any t xs) (any_in t xs x later h)
]
  where
    or_right : (a b : Bool) → b ≡ true → (a || b) ≡ true
    or_right true b g = refl
    or_right false b g = g

-- which one does
pub in_any : {X : Type 0} (t : X → Bool) (xs : List X) → list_any t xs ≡ true → (x : X) × Contains xs x × (t x ≡ true)
in_any t [] h = absurd (cc)
in_any t (y ∷ xs) h = by (t y) refl h (in_any t xs)
  where
    by : (b : Bool) → t y ≡ b → (b || list_any t xs) ≡ true → (list_any t xs ≡ true → (x : _) × Contains xs x × (t x ≡ true)) → (x : _) × Contains (y ∷ xs) x × (t x ≡ true)
    by true e g more = (y, first_in y xs, e)
    by false e g more = let r = more g in (r.0, next_in y r.0 xs r.1, r.2)

pub filter_same : {X : Type 0} (p q : X → Bool) (xs : List X) → ((x : X) → Contains xs x → p x ≡ q x) → filter p xs ≡ filter q xs
filter_same p q [] all = refl
filter_same p q (x ∷ xs) all = ap₂ (λ (b : Bool) (ys : List _). cond b (x ∷ ys) ys) (all x (first_in x xs)) (filter_same p q xs (λ y h. all y (next_in x y xs h)))

pub map_same : {X : Type 0} (f : X → X) → ((x : X) → f x ≡ x) → (xs : List X) → map f xs ≡ xs
map_same f same [] = refl
map_same f same (x ∷ xs) = ap₂ (λ (y : _) (ys : List _). y ∷ ys) (same x) (map_same f same xs)

-- from which list of many it is
pub in_flat : {X Y : Type 0} (f : X → List Y) (xs : List X) (y : Y) → Contains (flat_map f xs) y → (x : X) × Contains xs x × Contains (f x) y
in_flat f [] y at = absurd (nothing_in y at)
in_flat f (x ∷ xs) y at = elim (Contains-append_cases (f x) (flat_map f xs) y at) [
  | inl here ↦ (x, first_in x xs, here)
  | inr later ↦ (let r = in_flat f xs y later in (r.0, next_in x r.0 xs r.1, r.2))
]

-- ---- paths

pub long_pushed : (path : Path) (name : List ℕ) → length (path ++ name ∷ []) ≡ suc (length path)
long_pushed [] name = refl
long_pushed (x ∷ path) name = ap suc (long_pushed path name)

take_front : (path : Path) (name : List ℕ) → take (length path) (path ++ name ∷ []) ≡ path
take_front [] name = refl
take_front (x ∷ path) name = ap (λ (p : Path). x ∷ p) (take_front path name)

pub holder_pushed : (path : Path) (name : List ℕ) → holder (path ++ name ∷ []) ≡ path
holder_pushed path name =
    ap (λ (n : ℕ). take n (path ++ name ∷ [])) (let long = long_pushed path name in let e : length (path ++ name ∷ []) - 1 ≡ length path = omega (arith, long) in e) ∙ take_front path name

-- ---- elements by number

pub without_it : {X : Type 0} (xs : List X) (i : ℕ) (x : X) → slice_get xs i ≡ Some x → IsPermutation xs (x ∷ remove xs i)
without_it xs i x at = let place = place_of xs i x at in IsPermutation-remove xs i x place.0 place.1
