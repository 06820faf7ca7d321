-- Lists in which one element is set, put in or taken out.
use Rattle.std.proofs.Common.{◌≡◌, ℕ, zero, suc, List, [], ◌∷◌, map, take, drop, refl, sym, ap, ap₂, subst, Some, insert, remove, slice_get}
use Rattle.std.specs.Prelude.{Contains, IsPermutation, slice_set}
use Rattle.std.proofs.lemmas.List.{set_split}
use Rattle.std.proofs.lemmas.List.Sorted.{IsPermutation-sym, IsPermutation-middle, IsPermutation-insert, IsPermutation-remove, Contains-permutation}
use Rattle.std.proofs.lemmas.Option.{slice_get_within, get_or_from_slice_get}
use Rattle.fc_tree.proofs.MemberLemmas.{contains_here}
use Rattle.fc_image.proofs.EntriesLemmas.{later as contains_later}

module _ {X : Type 0} where
  -- an element, and the others
  pub cut_at : (xs : List X) (i : ℕ) (x : X) → slice_get xs i ≡ Some x → IsPermutation xs (x ∷ remove xs i)
  cut_at xs i x is = IsPermutation-remove xs i x (slice_get_within xs i x is) (sym (get_or_from_slice_get xs i x x is))

  -- another in its place
  pub set_at : (xs : List X) (i : ℕ) (x y : X) → slice_get xs i ≡ Some x → IsPermutation (slice_set xs i y) (y ∷ remove xs i)
  set_at xs i x y is =
      subst (λ (zs : List X). IsPermutation zs (y ∷ remove xs i)) (sym (set_split xs i y (slice_get_within xs i x is)))
      (IsPermutation-middle (take i xs) y (drop (suc i) xs))

  -- one more
  pub put_at : (xs : List X) (i : ℕ) (x : X) → IsPermutation (insert xs i x) (x ∷ xs)
  put_at xs i x = IsPermutation-sym (x ∷ xs) (insert xs i x) (IsPermutation-insert xs i x)

  -- what stands in the second list
  pub in_other : (xs ys : List X) → IsPermutation xs ys → (x : X) → Contains xs x → Contains ys x
  in_other xs ys same x at = Contains-permutation xs ys x same at

  pub in_first : (xs ys : List X) → IsPermutation xs ys → (x : X) → Contains ys x → Contains xs x
  in_first xs ys same x at = Contains-permutation ys xs x (IsPermutation-sym xs ys same) at

pub map_fixed : {X : Type 0} (g : X → X) (xs : List X) → ((x : X) → Contains xs x → g x ≡ x) → map g xs ≡ xs
map_fixed g [] same = refl
map_fixed {X} g (x ∷ xs) same =
    ap₂ (λ (y : X) (ys : List X). y ∷ ys) (same x (contains_here x xs)) (map_fixed g xs (λ y at. same y (contains_later x y xs at)))

-- a map and the elements that are left
pub map_remove : {X Y : Type 0} (f : X → Y) (xs : List X) (i : ℕ) → map f (remove xs i) ≡ remove (map f xs) i
map_remove f [] zero = refl
map_remove f [] (suc i) = refl
map_remove f (x ∷ xs) zero = refl
map_remove {Y = Y} f (x ∷ xs) (suc i) = ap (λ (ys : List Y). f x ∷ ys) (map_remove f xs i)
