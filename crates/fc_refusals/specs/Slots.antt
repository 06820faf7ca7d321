-- The places of files and of renamed objects, among the objects of a walk.
use Rattle.std.specs.Prelude.{◌≡◌, ◌<◌, ℕ, true, false, List, length, Some, Contains}
use Rattle.std.specs.Ordering.{nat_cmp}
use Rattle.std.specs.FinMap.{FinMap}
use Rattle.fc_names.specs.Names.{Path, folded_path, is_same_name, is_same_path}
use Rattle.fc_model.specs.Tree.{holder, is_prefix, last_name}
use Rattle.fc_dirs.specs.Entries.{has_name, without_entry}
use Rattle.fc_dirs.specs.Directory.{entries_of}
use Rattle.fc_model.specs.Answer.{is_above}
use Rattle.fc_image.specs.Walk.{Listing, Object, is_directory_object}
use Rattle.fc_image.specs.Objects.{objects_of}
use Rattle.fc_tree.specs.declared.node.Node.{Node}
use Rattle.fc_tree.specs.Nodes.{number_of}
use Rattle.fc_refusals.specs.declared.target.Renaming.{Renaming}
use Rattle.fc_refusals.specs.declared.target.Slot.{Slot}
use Rattle.fc_refusals.specs.declared.target.Target.{Target}
use Rattle.fc_refusals.specs.Targets.{IsTarget, IsVacant}

-- a target that is a file
pub record IsFile (nodes : FinMap nat_cmp Node) (listings : List Listing) (path : Path) (t : Target) : Type 0 where
  pub target : IsTarget nodes listings path t
  pub file : is_directory_object target.object ≡ false

-- a new entry at a path at which nothing is, or the place of a file
abbrev pub IsSlot : FinMap nat_cmp Node → List Listing → Path → Slot → Type 0
IsSlot nodes listings path (Slot.New dir) = IsVacant nodes listings path dir
IsSlot nodes listings path (Slot.Over target) = IsFile nodes listings path target

-- Nothing but what is renamed is at the new path, and the node is that of the directory that holds it then, which isn't below
-- what is renamed.
pub record IsDestination (nodes : FinMap nat_cmp Node) (listings : List Listing) (from to : Path) (n : ℕ) : Type 0 where
  pub listing : Listing
  pub listed : Contains listings listing
  pub above : is_same_path (holder to) listing.object.path ≡ true
  pub holder_is : number_of nodes listing.object.path ≡ Some n
  pub no_root : 0 < length to
  pub free : (o : Object) → Contains (objects_of listings) o → is_same_path to o.path ≡ true → is_same_path from o.path ≡ true
  pub named : (o : Object) → Contains listing.children o → is_same_name (last_name to) o.entry.name ≡ true → is_same_path from o.path ≡ true
  pub not_into : is_above from to ≡ false

-- What is renamed, and the directory that holds it then. Beside what is renamed the new name is free there; and if that is another
-- directory, it isn't at or below what is renamed.
pub record IsRenaming (nodes : FinMap nat_cmp Node) (listings : List Listing) (from to : Path) (r : Renaming) : Type 0 where
  pub target : IsTarget nodes listings from r.target
  pub destination : IsDestination nodes listings from to r.holder
  pub within : r.holder ≡ r.target.holder → (destination.listing ≡ target.listing)
      × (has_name (without_entry r.target.at (entries_of target.listing.content)) (last_name to) ≡ false)
  pub across : (r.holder ≡ r.target.holder → ⊥) → (has_name (entries_of destination.listing.content) (last_name to) ≡ false)
      × (is_prefix (folded_path target.object.path) (folded_path destination.listing.object.path) ≡ false)
