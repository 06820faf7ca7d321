-- A walk over directories, as far as it has come.
use Rattle.std.specs.Prelude.{Contains, ◌≡◌, ◌<◌, ℕ, false, true, List, [], ◌∷◌, ◌++◌, map, reverse, slice_get, slice_set, Option, Some, Result, Ok, Err}
use Rattle.std.specs.Option.{ForSome}
use Rattle.fc_names.specs.Names.{Path, is_directory}
use Rattle.fc_dirs.specs.declared.DirError.{DirError}
use Rattle.fc_dirs.specs.declared.DirError.TheVariants as errors
use Rattle.fc_dirs.specs.declared.DirFault.{DirFault}
use Rattle.fc_dirs.specs.Directory.{Directory, entries_of}
use Rattle.fc_image.specs.declared.ImageFault.{ImageFault}
use Rattle.fc_image.specs.declared.ImageFault.TheVariants as faults
use Rattle.fc_image.specs.Layout.{Layout, dir_form}
use Rattle.fc_image.specs.Walk.{◌>>=◌, Listing, Object, Reader, at_path, children_of, reader_of, walk}
use Rattle.fc_image.specs.Laws.{Tells}
use Rattle.fc_image.specs.Edits.{IsAt}
use Rattle.fc_tree.specs.declared.node.Body.TheVariants as bodies
use Rattle.fc_tree.specs.declared.node.Node.{Node}
use Rattle.fc_tree.specs.declared.node.TreeError.{TreeError}
use Rattle.fc_tree.specs.Agree.{HasForm, IsDirectory}
use Rattle.fc_image.specs.Sound.{AreSound}
use Rattle.fc_tree.specs.Nodes.{body_in}
use Rattle.fc_tree.specs.Numbered.{AreNumbered}
use Rattle.fc_tree.specs.Taken.{AreTaken, Marks}

-- ---- nodes and the objects that they stand for

-- names lead from the node of a number up to the root, its own name first
abbrev pub Leads : List Node → ℕ → Path → Type 0
Leads nodes at [] = at ≡ 0
Leads nodes at (name ∷ names) = (n : Node) × (slice_get nodes at ≡ Some n) × (n.entry.name ≡ name) × (n.holder < at) × Leads nodes n.holder names

-- the node of a number has the object's entry, its names lead to the object's path, and the object has its place
pub record HoldsObject (layout : Layout) (nodes : List Node) (at : ℕ) (o : Object) : Type 0 where
  pub node : Node
  pub is : slice_get nodes at ≡ Some node
  pub entry : node.entry ≡ o.entry
  pub names : Path
  pub leads : Leads nodes at names
  pub path : o.path ≡ reverse names
  pub placed : IsAt layout o

-- the node of an object that a directory holds, before it is read
abbrev pub new_node : ℕ → Object → Node
new_node at o = record { holder = at; entry = o.entry; body = bodies.File }

-- the node of this number is a file's
abbrev pub IsFileAt : List Node → ℕ → Type 0
IsFileAt nodes i = (n : Node) → slice_get nodes i ≡ Some n → is_directory n.entry.attrs ≡ false

-- the node of this number is a directory's
abbrev pub IsDirectoryAt : List Node → ℕ → Type 0
IsDirectoryAt nodes i = (n : Node) → slice_get nodes i ≡ Some n → is_directory n.entry.attrs ≡ true

-- ---- errors

-- The error is this fault. A disk's fault and out of memory say nothing.
abbrev pub FailsAs : {A : Type 0} → Result A ImageFault → TreeError → Type 0
FailsAs result (TreeError.Image fault) = result ≡ Err fault
FailsAs result TreeError.DiskFault = Unit {0}
FailsAs result TreeError.NoMemory = Unit {0}

-- The error is that the object at this path takes what is taken.
abbrev pub IsOverlap : Path → TreeError → Type 0
IsOverlap path (TreeError.Image fault) = fault ≡ faults.Overlap path
IsOverlap path TreeError.DiskFault = ⊥
IsOverlap path TreeError.NoMemory = Unit {0}

-- The error is that the directory at this path has this fault. Out of memory says nothing.
abbrev pub IsDamaged : Path → DirFault → TreeError → Type 0
IsDamaged path damage (TreeError.Image fault) = fault ≡ faults.Directory path damage
IsDamaged path damage TreeError.DiskFault = ⊥
IsDamaged path damage TreeError.NoMemory = Unit {0}

-- The error is the fault of a directory's bytes. Out of memory says nothing.
abbrev pub IsSaidBy : Result Directory DirFault → DirError → Type 0
IsSaidBy said (errors.Fault fault) = said ≡ Err fault
IsSaidBy said errors.NoMemory = Unit {0}

-- ---- a directory that is visited

-- the node, if its directory says this
abbrev pub with_body : Node → Directory → Node
with_body n dir = record { holder = n.holder; entry = n.entry; body = body_in dir }

-- the objects of what a directory at this path says, and then the sectors that are taken
abbrev pub said_children : Layout → List ℕ → Path → Result Directory DirFault → Result (List Object × List ℕ) ImageFault
said_children layout before path said = at_path path said >>= λ dir. children_of layout before path (entries_of dir)

-- The directory of the object of node `at` was read. Its node has what it says, and the nodes of the objects that it holds
-- stand after the others.
pub record IsVisited (layout : Layout) (told : Option (List ℕ)) (was nodes : List Node) (at : ℕ) (o : Object) (before : List ℕ) (marks : Marks) : Type 0 where
  pub node : Node
  pub node_is : slice_get was at ≡ Some node
  pub dir : Directory
  pub form : HasForm (dir_form layout) o.entry.len dir
  pub sound : IsDirectory dir
  pub tells : ForSome told (λ image. reader_of image layout o ≡ Ok dir)
  pub children : List Object
  pub after : List ℕ
  pub held : children_of layout before o.path (entries_of dir) ≡ Ok (children, after)
  pub taken : AreTaken marks after
  pub nodes_are : nodes ≡ slice_set (was ++ map (new_node at) children) at (with_body node dir)

-- ---- the whole walk

-- The nodes are those of the objects that a walk finds, in its order, by each reader that tells what the nodes' directories
-- say; and if the disk tells its bytes, they say that.
pub record IsFound (layout : Layout) (reserved : List ℕ) (address size : ℕ) (told : Option (List ℕ)) (nodes : List Node) : Type 0 where
  pub listings : List Listing
  pub walks : (read : Reader) → Tells read listings → walk read layout reserved address size ≡ Ok listings
  pub numbered : AreNumbered nodes listings
  pub sound : AreSound layout listings
  pub forms : (l : Listing) → Contains listings l → HasForm (dir_form layout) l.object.entry.len l.content
  pub bodies : (l : Listing) → Contains listings l → IsDirectory l.content
  pub tells : ForSome told (λ image. Tells (reader_of image layout) listings)
