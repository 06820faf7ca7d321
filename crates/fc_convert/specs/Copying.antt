-- What becomes of a volume on which objects are made.
use Rattle.std.specs.Prelude.{◌≡◌, ◌≤◌, ◌++◌, ◌∷◌, [], ℕ, false, true, if◌then◌else◌, List, Option, Some, Result, Ok, Err, IsFalse}
use Rattle.std.specs.List.{flat_map}
use Rattle.std.specs.Option.{ForSome}
use Rattle.fc_device.specs.declared.disk.Disk.{Ghosts}
use Rattle.fc_device.specs.Calls.{SameForm}
use Rattle.fc_device.specs.Faults.{Rose}
use Rattle.fc_device.specs.Stops.{LeavesOnly}
use Rattle.fc_record.specs.declared.Kind.{Kind}
use Rattle.fc_names.specs.declared.name.NameForm.{NameForm}
use Rattle.fc_names.specs.declared.refusal.Refusal.{Refusal}
use Rattle.fc_names.specs.Names.{Path, is_directory}
use Rattle.fc_model.specs.Tree.{Body, Node, bytes_of_node, node_at}
use Rattle.fc_model.specs.Command.{Command}
use Rattle.fc_image.specs.Layout.{dir_form}
use Rattle.fc_image.specs.Objects.{tree_of}
use Rattle.fc_image.specs.effects.Effect.{State}
use Rattle.fc_tree.specs.declared.node.Node.{Node as Found}
use Rattle.fc_tree.specs.Nodes.{nodes_of}
use Rattle.fc_fit.specs.Commands.{making_command, object_commands}
use Rattle.fc_fit.specs.Doing.{DoAll, StopIn}
use Rattle.fc_fit.specs.Fit.{is_attrs_right}
use Rattle.fc_fit.specs.Found.{node_in}
use Rattle.fc_volume.specs.Volume.{Volume, parts_of}
use Rattle.fc_convert.specs.declared.copying.CopyError.{CopyError}
use Rattle.fc_convert.specs.declared.copying.CopyError.TheVariants as errors
use Rattle.fc_convert.specs.declared.ending.ConvertEnd.{ConvertEnd}
use Rattle.fc_convert.specs.declared.ending.ConvertEnd.TheVariants.{FromFault, NoMemory, NoRoom, ToFault}
use Rattle.fc_convert.specs.Opened.{Holds, IsOpen}

-- ---- the target

-- P, unless the target failed
abbrev pub UnlessTo : {T : Type 0} → Result T CopyError → Type 0 → Type 0
UnlessTo (Ok value) P = P
UnlessTo (Err (errors.Refused refusal)) P = P
UnlessTo (Err errors.From) P = P
UnlessTo (Err errors.NoMemory) P = P
UnlessTo (Err errors.To) P = Unit {0}

-- what stays of it
pub record KeepsTarget {E T : Type 0} (e : Ghosts E) (was v : Volume) (old new : E) (result : Result T CopyError) : Type 0 where
  pub ready : UnlessTo result (IsOpen e false v new)
  pub dirs : UnlessTo result (dir_form (parts_of v).layout ≡ dir_form (parts_of was).layout)
  pub form : SameForm e old new
  pub goes : LeavesOnly e.moment e.left_since old new (λ image. Unit {0})
  pub faults : e.faults old ≤ e.faults new
  pub cause : result ≡ Err errors.To → Rose (e.faults old) (e.faults new)

-- The target stopped at one of these commands, with this state, as it was refused.
abbrev pub StopsAt : {E : Type 0} → Ghosts E → NameForm → Kind → List Command → State → E → Refusal → Type 0
StopsAt e form kind commands s new refusal = (state : State) × StopIn form kind commands s state refusal × (e.bytes new ≡ Some state.image)

-- What a target that held a state has, by how these commands were answered.
abbrev pub Makes : {E : Type 0} → Ghosts E → NameForm → Kind → List Command → State → Volume → E → Result (Unit {0}) CopyError → Type 0
Makes e form kind commands s v new (Ok done) = (next : State) × DoAll form kind s commands next × Holds e kind next v new
Makes e form kind commands s v new (Err (errors.Refused refusal)) = StopsAt e form kind commands s new refusal
Makes e form kind commands s v new (Err error) = Unit {0}

-- It is so of each state that it held.
abbrev pub MakesAll : {E : Type 0} → Ghosts E → List Command → (was v : Volume) → (old new : E) → Result (Unit {0}) CopyError → Type 0
MakesAll e commands was v old new result = (kind : Kind) (s : State) → Holds e kind s was old → Makes e (dir_form (parts_of was).layout) kind commands s v new result

-- ---- the source

-- As far as the source tells, this node stands at the path.
abbrev pub IsNodeAt : {D : Type 0} → Ghosts D → Volume → D → Path → Node → Type 0
IsNodeAt d v disk path node = (kind : Kind) (s : State) → Holds d kind s v disk → node_at (tree_of s.image s.view.layout s.view.listings) path ≡ Some node

-- A file of these bytes does.
abbrev pub IsFileAt : {D : Type 0} → Ghosts D → Volume → D → Path → List ℕ → Type 0
IsFileAt d v disk path bytes = (kind : Kind) (s : State) → Holds d kind s v disk → bytes_of_node (node_at (tree_of s.image s.view.layout s.view.listings) path) ≡ bytes

-- The path leads to a file.
abbrev pub IsFileNode : Volume → Path → Type 0
IsFileNode v path = (node : Found) × (node_in (nodes_of v.tree) path ≡ Some node) × (is_directory node.entry.attrs ≡ false)

-- a node as one of a tree, with these bytes if it is a file's
abbrev pub model_of : Found → List ℕ → Node
model_of node bytes = record {
  name = node.entry.name;
  attrs = node.entry.attrs;
  load = node.entry.load;
  exec = node.entry.exec;
  body = if is_directory node.entry.attrs then Body.Directory else Body.File bytes;
}

-- the command that makes an object, alone
abbrev pub making_commands : Path → Node → List Command
making_commands path node = making_command path node ∷ []

-- Of the node to which the path leads these commands were made, with the bytes that the source has, as far as it tells.
abbrev pub MakesObject : {D E : Type 0} → Ghosts D → Ghosts E → (Path → Node → List Command) → Volume → D → Path → (was v : Volume) → (old new : E) → Result (Unit {0}) CopyError → Type 0
MakesObject d e commands source from path was v old new result = (bytes : List ℕ) × ((node : Found) → node_in (nodes_of source.tree) path ≡ Some node
    → IsNodeAt d source from path (model_of node bytes) × MakesAll e (commands path (model_of node bytes)) was v old new result)

-- These objects stand at the paths.
abbrev pub AreNodesAt : {D : Type 0} → Ghosts D → Volume → D → List Path → List (Path × Node) → Type 0
AreNodesAt d v disk [] [] = Unit {0}
AreNodesAt d v disk (path ∷ paths) (object ∷ objects) = (object.0 ≡ path) × IsNodeAt d v disk path object.1 × AreNodesAt d v disk paths objects
AreNodesAt d v disk _ _ = ⊥

-- the commands that make objects
abbrev pub all_commands : List (Path × Node) → List Command
all_commands objects = flat_map (λ o. object_commands o.0 o.1) objects

-- The node at a path has attributes that an entry of this form holds.
abbrev pub FitsAt : NameForm → Volume → Path → Type 0
FitsAt form v path = ForSome (node_in (nodes_of v.tree) path) (λ node. is_attrs_right form node.entry.attrs ≡ true)

-- ---- all objects

-- The objects at these paths are all on the target, which held a state before.
abbrev pub AreCopied : {D E : Type 0} → Ghosts D → Ghosts E → (source : Volume) → (from : D) → (was v : Volume) → (old new : E) → List Path → Type 0
AreCopied d e source from was v old new paths = (objects : List (Path × Node)) × AreNodesAt d source from paths objects
    × ((kind : Kind) (s : State) → Holds e kind s was old → (next : State) × DoAll (dir_form (parts_of was).layout) kind s (all_commands objects) next × Holds e kind next v new)

-- Those before this path are, and of the commands for the object there one is refused.
pub record StopsCopying {D E : Type 0} (d : Ghosts D) (e : Ghosts E) (source : Volume) (from : D) (was : Volume) (old new : E) (paths : List Path) (path : Path) (refusal : Refusal) : Type 0 where
  pub before : List Path
  pub behind : List Path
  pub cut : paths ≡ before ++ path ∷ behind
  pub objects : List (Path × Node)
  pub nodes : AreNodesAt d source from before objects
  pub next : Node
  pub stands : IsNodeAt d source from path next
  pub stops : (kind : Kind) (s : State) → Holds e kind s was old
      → (mid : State) × DoAll (dir_form (parts_of was).layout) kind s (all_commands objects) mid × StopsAt e (dir_form (parts_of was).layout) kind (object_commands path next) mid new refusal

-- What of the objects at these paths is made, by the end.
abbrev pub CopiesAll : {D E : Type 0} → Ghosts D → Ghosts E → (source : Volume) → (from : D) → (was v : Volume) → (old new : E) → List Path → Result (Unit {0}) ConvertEnd → Type 0
CopiesAll d e source from was v old new paths (Ok done) = AreCopied d e source from was v old new paths
CopiesAll d e source from was v old new paths (Err (NoRoom path refusal)) = StopsCopying d e source from was old new paths path refusal
CopiesAll d e source from was v old new paths (Err FromFault) = Unit {0}
CopiesAll d e source from was v old new paths (Err ToFault) = Unit {0}
CopiesAll d e source from was v old new paths (Err NoMemory) = Unit {0}
CopiesAll d e source from was v old new paths (Err end) = ⊥

-- P, unless the target failed
abbrev pub UnlessToFault : Result (Unit {0}) ConvertEnd → Type 0 → Type 0
UnlessToFault (Err ToFault) P = Unit {0}
UnlessToFault result P = P

-- what stays of the target's disk
pub record KeepsOpen {E : Type 0} (e : Ghosts E) (old new : E) (result : Result (Unit {0}) ConvertEnd) : Type 0 where
  pub settled : UnlessToFault result (IsFalse (e.pending new))
  pub form : SameForm e old new
  pub goes : LeavesOnly e.moment e.left_since old new (λ image. Unit {0})
  pub faults : e.faults old ≤ e.faults new
