-- The listings and objects of a volume, cut as edits ask for it.
use Rattle.std.specs.Prelude.{◌≡◌, ◌⊎◌, ℕ, false, List, [], ◌∷◌, ◌++◌, Some, Contains, IsPermutation, slice_get}
use Rattle.fc_image.specs.Layout.{Layout}
use Rattle.fc_image.specs.Walk.{Listing, Object, is_directory_object}
use Rattle.fc_image.specs.Objects.{objects_of}
use Rattle.fc_image.specs.Sound.{AreSound}
use Rattle.fc_changes.specs.Owed.{GoesAlone}

pub record CutLaw : Type 0 where
  -- a directory and the others, or two of them
  pub one : (listings : List Listing) (l : Listing) → Contains listings l → (rest : List Listing) × IsPermutation listings (l ∷ rest)
  pub two : (listings : List Listing) (k l : Listing) → Contains listings k → Contains listings l → (k ≡ l → ⊥) → (rest : List Listing) × IsPermutation listings (k ∷ l ∷ rest)
  -- the directory l, and the listing of its child o if that is an empty directory
  pub alone : (layout : Layout) (listings : List Listing) (l : Listing) (i : ℕ) (o : Object) → AreSound layout listings → Contains listings l → slice_get l.children i ≡ Some o
      → (is_directory_object o ≡ false) ⊎ ((d : Listing) × Contains listings d × (d.object ≡ o) × (d.children ≡ []))
      → (out rest : List Listing) × GoesAlone out o × IsPermutation listings (out ++ l ∷ rest)
  -- a child and all other objects
  pub others : (layout : Layout) (listings : List Listing) (l : Listing) (i : ℕ) (o : Object) → AreSound layout listings → Contains listings l → slice_get l.children i ≡ Some o
      → (stay : List Object) × IsPermutation (objects_of listings) (o ∷ stay)
