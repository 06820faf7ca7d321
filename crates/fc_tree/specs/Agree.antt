-- Parts of a volume that agree with each other, with no disk at hand.
use Rattle.std.specs.Prelude.{◌≡◌, ℕ, List, Option, Some, None, Result, Ok, Err, Contains, slice_get}
use Rattle.std.specs.Option.{option_and_then}
use Rattle.std.specs.Ordering.{nat_cmp}
use Rattle.std.specs.FinMap.{FinMap, get}
use Rattle.fc_record.specs.declared.Kind.{Kind}
use Rattle.fc_dirs.specs.declared.DirFault.{DirFault}
use Rattle.fc_dirs.specs.declared.DirFault.TheVariants as dirs
use Rattle.fc_names.specs.declared.name.NameForm.{NameForm}
use Rattle.fc_names.specs.declared.name.NameForm.TheVariants as forms
use Rattle.fc_dirs.specs.declared.SmallForm.TheVariants.{Bytes1280, Bytes2048}
use Rattle.fc_dirs.specs.Small.{IsSmall}
use Rattle.fc_dirs.specs.Big.{IsBig}
use Rattle.fc_dirs.specs.Directory.{Directory}
use Rattle.fc_image.specs.Layout.{Layout, dir_form}
use Rattle.fc_image.specs.Walk.{Listing, Object, Reader, walk}
use Rattle.fc_image.specs.Objects.{objects_of, listing_at}
use Rattle.fc_image.specs.Opening.{reserved_in, misplaced_sector}
use Rattle.fc_tree.specs.declared.node.Body.{Body}
use Rattle.fc_tree.specs.declared.node.Body.TheVariants as bodies
use Rattle.fc_tree.specs.declared.node.Node.{Node}
use Rattle.fc_tree.specs.Nodes.{number_of, HasNode, HoldObjects}
use Rattle.fc_tree.specs.Parts.{Parts, AreOwners}

-- what a node's body says
abbrev pub content_in : Body → Result Directory DirFault
content_in bodies.File = Err dirs.Magic
content_in (bodies.Small dir) = Ok (Directory.Small dir)
content_in (bodies.Big dir) = Ok (Directory.Big dir)

-- what a node says; none, and a file, is no directory
abbrev pub said_by : Option Node → Result Directory DirFault
said_by None = Err dirs.Magic
said_by (Some node) = content_in node.body

-- the nodes tell what a directory says
abbrev pub reader_of_nodes : FinMap nat_cmp Node → Reader
reader_of_nodes nodes o = said_by (option_and_then (get nodes) (number_of nodes o.path))

-- a directory has the form of the disc's directories, and a big one the length of its entry
abbrev pub HasForm : NameForm → ℕ → Directory → Type 0
HasForm forms.Seven len (Directory.Small dir) = dir.form ≡ Bytes1280
HasForm forms.Ten len (Directory.Small dir) = dir.form ≡ Bytes2048
HasForm forms.Long len (Directory.Big dir) = dir.size ≡ len
HasForm _ len _ = ⊥

-- a directory that bytes can say
abbrev pub IsDirectory : Directory → Type 0
IsDirectory (Directory.Small dir) = IsSmall dir
IsDirectory (Directory.Big dir) = IsBig dir

-- Nodes that a walk over their own directories finds, if some sectors are reserved: it meets no fault, they are its
-- objects', and bytes can say each directory.
pub record AreWalked (nodes : FinMap nat_cmp Node) (layout : Layout) (reserved : List ℕ) (address size : ℕ) (listings : List Listing) : Type 0 where
  pub walked : walk (reader_of_nodes nodes) layout reserved address size ≡ Ok listings
  pub held : HoldObjects nodes listings
  pub forms : (l : Listing) → Contains listings l → HasForm (dir_form layout) l.object.entry.len l.content
  pub bodies : (l : Listing) → Contains listings l → IsDirectory l.content

-- The nodes are numbered in the order of the objects.
abbrev pub InOrder : FinMap nat_cmp Node → List Listing → Type 0
InOrder nodes listings = (i : ℕ) (o : Object) → slice_get (objects_of listings) i ≡ Some o → number_of nodes o.path ≡ Some i

-- The walk over the nodes' directories, from the address and size of node 0, meets no fault on a disc of this kind; no
-- sector of the map or of a boot block lies in a hole or a movable identifier; the owners are theirs.
pub record Agree (kind : Kind) (parts : Parts) : Type 0 where
  pub root : Node
  pub root_is : get parts.nodes 0 ≡ Some root
  pub listings : List Listing
  pub walked : AreWalked parts.nodes parts.layout (reserved_in kind parts.layout) root.entry.address root.entry.len listings
  pub map_placed : misplaced_sector kind parts.layout (objects_of listings) ≡ None
  pub owned : AreOwners parts.owners parts.nodes parts.layout (objects_of listings)

-- The nodes of a tree tell what the listings say from which they were made.
abbrev pub NodesLaw : Type 0
NodesLaw = (nodes : FinMap nat_cmp Node) (listings : List Listing) (l : Listing) → HasNode nodes listings l.object
    → listing_at listings l.object.path ≡ Some l → reader_of_nodes nodes l.object ≡ Ok l.content
