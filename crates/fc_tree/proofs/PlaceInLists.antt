-- Elements of lists, by their places.
use Rattle.std.proofs.Common.{◌≡◌, ℕ, zero, suc, ◌+◌, ◌⊎◌, inl, inr, List, [], ◌∷◌, ◌++◌, length, refl, ap, ◌∙◌, arith, Some, Option}
use Rattle.std.specs.Prelude.{Contains, Result, Ok, Err, slice_get, slice_set}

pub some_same : {X : Type 0} (x y : X) → (let o : Option X = Some x in o) ≡ Some y → x ≡ y
some_same x y e = cc

pub contains_front : {X : Type 0} (xs ys : List X) (y : X) → Contains xs y → Contains (xs ++ ys) y
contains_front [] ys y (k, h, e) = absurd (omega arith)
contains_front (x ∷ xs) ys y (zero, h, e) = (zero, omega arith, e)
contains_front (x ∷ xs) ys y (suc k, h, e) = let r = contains_front xs ys y (k, omega arith, e) in (suc r.0, omega (arith, r.1), r.2)

pub contains_last : {X : Type 0} (xs : List X) (y : X) → Contains (xs ++ y ∷ []) y
contains_last [] y = (zero, omega arith, refl)
contains_last (x ∷ xs) y = let r = contains_last xs y in (suc r.0, omega (arith, r.1), r.2)

pub contains_more : {X : Type 0} (xs : List X) (y z : X) → Contains (xs ++ y ∷ []) z → Result (Contains xs z) (y ≡ z)
contains_more [] y z (zero, h, e) = Err e
contains_more [] y z (suc k, h, e) = absurd (omega arith)
contains_more (x ∷ xs) y z (zero, h, e) = Ok (zero, omega arith, e)
contains_more (x ∷ xs) y z (suc k, h, e) = elim (contains_more xs y z (k, omega arith, e)) [
  | Ok c ↦ Ok (suc c.0, omega (arith, c.1), c.2)
  | Err s ↦ Err s
]

pub contains_at : {X : Type 0} (xs : List X) (i : ℕ) (x : X) → slice_get xs i ≡ Some x → Contains xs x
contains_at [] i x e = absurd (cc)
contains_at (y ∷ xs) zero x e = (zero, omega arith, some_same y x e)
contains_at (y ∷ xs) (suc i) x e = let r = contains_at xs i x e in (suc r.0, omega (arith, r.1), r.2)

pub get_cases : {X : Type 0} (xs ys : List X) (i : ℕ) (x : X) → slice_get (xs ++ ys) i ≡ Some x → (slice_get xs i ≡ Some x) ⊎ ((j : ℕ) × (i ≡ length xs + j) × (slice_get ys j ≡ Some x))
get_cases [] ys i x e = inr (i, omega arith, e)
get_cases (z ∷ xs) ys zero x e = inl e
get_cases (z ∷ xs) ys (suc i) x e = elim (get_cases xs ys i x e) [
  | inl f ↦ inl f
  | inr r ↦ inr (r.0, omega (arith, r.1), r.2)
]

pub get_back : {X : Type 0} (xs ys : List X) (i j : ℕ) (x : X) → i ≡ length xs + j → slice_get ys j ≡ Some x → slice_get (xs ++ ys) i ≡ Some x
get_back [] ys i j x is e = ap (slice_get ys) (let h : i ≡ j = omega (arith, is) in h) ∙ e
get_back (z ∷ xs) ys zero j x is e = absurd (omega (arith, is))
get_back (z ∷ xs) ys (suc i) j x is e = get_back xs ys i j x (omega (arith, is)) e

pub get_set : {X : Type 0} (xs : List X) (at i : ℕ) (n m : X) → slice_get xs at ≡ Some n
    → ((i ≡ at) × (slice_get (slice_set xs at m) i ≡ Some m)) ⊎ ((i ≡ at → ⊥) × (slice_get (slice_set xs at m) i ≡ slice_get xs i))
get_set [] at i n m e = absurd (cc)
get_set (x ∷ xs) zero zero n m e = inl (refl, refl)
get_set (x ∷ xs) zero (suc i) n m e = inr ((λ h. omega (arith, h)), refl)
get_set (x ∷ xs) (suc at) zero n m e = inr ((λ h. omega (arith, h)), refl)
get_set (x ∷ xs) (suc at) (suc i) n m e = elim (get_set xs at i n m e) [
  | inl r ↦ inl ((let h = r.0 in omega (arith, h)), r.1)
  | inr r ↦ inr ((λ h. r.0 (omega (arith, h))), r.1)
]
