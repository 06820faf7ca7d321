-- What commands are about, among the objects of a walk.
use Rattle.std.specs.Prelude.{◌≡◌, ◌<◌, ◌⊎◌, ℕ, true, false, List, [], length, slice_get, Contains, Option, Some, None, Result, Ok, Err}
use Rattle.std.specs.Ordering.{nat_cmp}
use Rattle.std.specs.FinMap.{FinMap}
use Rattle.fc_names.specs.declared.refusal.Refusal.{Refusal}
use Rattle.fc_names.specs.Names.{Path, is_same_path}
use Rattle.fc_model.specs.Tree.{holder, last_name}
use Rattle.fc_dirs.specs.Entries.{has_name}
use Rattle.fc_dirs.specs.Directory.{entries_of}
use Rattle.fc_image.specs.Walk.{Listing, Object, is_directory_object}
use Rattle.fc_image.specs.Objects.{object_at}
use Rattle.fc_tree.specs.declared.node.Node.{Node}
use Rattle.fc_tree.specs.Nodes.{number_of}
use Rattle.fc_refusals.specs.declared.target.Target.{Target}

-- why there is no answer, if there is none
abbrev pub refusal_of : {A : Type 0} → Result A Refusal → Option Refusal
refusal_of (Ok answer) = None
refusal_of (Err refusal) = Some refusal

-- The target is the object at the path: child `at` of a listing whose node is the holder, with a node of its own.
pub record IsTarget (nodes : FinMap nat_cmp Node) (listings : List Listing) (path : Path) (t : Target) : Type 0 where
  pub listing : Listing
  pub object : Object
  pub listed : Contains listings listing
  pub at : slice_get listing.children t.at ≡ Some object
  pub path_is : is_same_path path object.path ≡ true
  pub above : is_same_path (holder path) listing.object.path ≡ true
  pub holder_is : number_of nodes listing.object.path ≡ Some t.holder
  pub node_is : number_of nodes object.path ≡ Some t.node

-- a file, or a directory that holds nothing
abbrev pub IsEmpty : List Listing → Object → Type 0
IsEmpty listings o = (is_directory_object o ≡ false) ⊎ ((l : Listing) × Contains listings l × (l.object ≡ o) × (l.children ≡ []))

-- a target that may go
pub record IsRemovable (nodes : FinMap nat_cmp Node) (listings : List Listing) (path : Path) (t : Target) : Type 0 where
  pub target : IsTarget nodes listings path t
  pub empty : IsEmpty listings target.object

-- Nothing is at the path, and the node is that of the directory that would hold it.
pub record IsVacant (nodes : FinMap nat_cmp Node) (listings : List Listing) (path : Path) (n : ℕ) : Type 0 where
  pub listing : Listing
  pub listed : Contains listings listing
  pub above : is_same_path (holder path) listing.object.path ≡ true
  pub holder_is : number_of nodes listing.object.path ≡ Some n
  pub no_root : 0 < length path
  pub absent : object_at listings path ≡ None
  pub no_name : has_name (entries_of listing.content) (last_name path) ≡ false
