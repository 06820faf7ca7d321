-- The commands that make a tree.
use Rattle.std.specs.Prelude.{◌%◌, List, [], ◌∷◌, filter}
use Rattle.std.specs.List.{flat_map}
use Rattle.std.specs.FinMap.{entries}
use Rattle.fc_names.specs.Names.{Path}
use Rattle.fc_model.specs.Tree.{Tree, Node, Body}
use Rattle.fc_model.specs.Command.{Command}
use Rattle.fc_fit.specs.Fit.{spelled_key, is_below_root}

-- the command that makes an object
abbrev pub making_command : Path → Node → Command
making_command path n = making n.body
  where
    making : Body → Command
    making (Body.File bytes) = Command.Save path n.load n.exec bytes
    making Body.Directory = Command.Cdir path

-- an object is made, then gets its words and bits 0 to 2, and then all its attributes
abbrev pub object_commands : Path → Node → List Command
object_commands path n = making_command path n ∷ Command.Set path n.load n.exec (n.attrs % 8) ∷ Command.Mark path n.attrs ∷ []

-- the commands for some objects
abbrev pub commands_for : Tree → List (Path × Node) → List Command
commands_for t objects = flat_map (λ e. object_commands (spelled_key t e.0) e.1) objects

-- all objects but the root, by rising folded paths, so that each directory comes before what it holds
abbrev pub objects_in : Tree → List (Path × Node)
objects_in t = filter is_below_root (entries t)
