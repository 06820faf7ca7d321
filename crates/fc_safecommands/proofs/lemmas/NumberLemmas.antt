-- Objects of a view by the numbers of their nodes.
use Rattle.std.proofs.Common.{◌≡◌, ◌&&◌, ◌==◌, ℕ, Bool, true, false, Some, refl, ap, ◌∙◌}
use Rattle.std.specs.Prelude.{Contains}
use Rattle.fc_names.specs.Names.{Path, is_same_path}
use Rattle.fc_newmap.specs.Map.{Map}
use Rattle.fc_image.specs.Opening.{Opened}
use Rattle.fc_image.specs.Objects.{objects_of}
use Rattle.fc_image.specs.Walk.{Listing, Object, is_directory_object}
use Rattle.fc_placing.proofs.CopyingLemmas.{dirs_same}
use Rattle.fc_tree.specs.Nodes.{number_of}
use Rattle.fc_tree.specs.Parts.{Parts}
use Rattle.fc_tree.proofs.PlaceLemmas.{same_number}
use Rattle.fc_tree.proofs.SoundLemmas.{folds_alike, same_object}
use Rattle.fc_tree.proofs.WalkedLemmas.{listed_directory}
use Rattle.fc_safe.specs.Views.{IsNodeOf, IsViewOf}

module _ (m : Map) (h : Parts) (v : Opened) (view : IsViewOf m h v) where
  -- the number of a path that folds alike
  pub number_at : (path p : Path) (k : ℕ) → is_same_path path p ≡ true → number_of h.nodes p ≡ Some k → number_of h.nodes path ≡ Some k
  number_at path p k same at = same_number h.nodes path p (folds_alike path p same) ∙ at

  pub one_is : (path : Path) (k : ℕ) → number_of h.nodes path ≡ Some k → (o : Object) (n : ℕ) → IsNodeOf h v o n → (k == n) ≡ is_same_path path o.path
  one_is path k at o n node = dirs_same h.nodes path o.path k n at node.1

  -- what is at the path of a listed directory is a directory
  pub directory_at : (path : Path) (l : Listing) → Contains v.listings l → is_same_path path l.object.path ≡ true → (o : Object) → Contains (objects_of v.listings) o → is_same_path path o.path ≡ true → is_directory_object o ≡ true
  directory_at path l listed above o at same =
      let there = listed_directory v.layout v.listings view.sound l listed in
      ap is_directory_object (same_object v.layout v.listings view.sound path o l.object at there.0 same above) ∙ there.1

  pub held_is : (path : Path) (l : Listing) (k : ℕ) → Contains v.listings l → is_same_path path l.object.path ≡ true → number_of h.nodes l.object.path ≡ Some k → (o : Object) (n : ℕ) → IsNodeOf h v o n
      → (k == n) ≡ (is_directory_object o && is_same_path path o.path)
  held_is path l k listed above number o n node =
      one_is path k (number_at path l.object.path k above number) o n node ∙ by (is_same_path path o.path) (is_directory_object o) (directory_at path l listed above o node.0)
    where
      by : (b d : Bool) → (b ≡ true → d ≡ true) → b ≡ (d && b)
      by true true dir = refl
      by true false dir = absurd (let bad = dir refl in cc)
      by false true dir = refl
      by false false dir = refl
