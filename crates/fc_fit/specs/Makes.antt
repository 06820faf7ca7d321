-- A law: the commands for a tree that fits make it, object by object.
use Rattle.std.specs.Prelude.{◌≡◌, false, List, [], ◌∷◌, ◌++◌, None, Some, Ok}
use Rattle.std.specs.FinMap.{from_entries, get}
use Rattle.fc_names.specs.declared.name.NameForm.{NameForm}
use Rattle.fc_names.specs.Names.{Path, is_directory}
use Rattle.fc_format.specs.declared.Format.{Format}
use Rattle.fc_model.specs.Answer.{answer}
use Rattle.fc_model.specs.Command.{Command}
use Rattle.fc_model.specs.Tree.{IsTree, Node, Tree, is_directory_body, root_node}
use Rattle.fc_fit.specs.Commands.{commands_for, object_commands, objects_in}
use Rattle.fc_fit.specs.Fit.{form_of, spelled_key, unfit}

-- the root and some objects
abbrev pub tree_with : List (Path × Node) → Tree
tree_with objects = from_entries (([], root_node) ∷ objects)

-- The commands are accepted one after another, and lead from one tree to the other.
abbrev pub Accepts : NameForm → Tree → List Command → Tree → Type 0
Accepts form t [] t' = t' ≡ t
Accepts form t (c ∷ commands) t' = (mid : Tree) × (answer t form false c ≡ Ok mid) × Accepts form mid commands t'

-- Bit 3 of each node's attributes says whether it is a directory.
abbrev pub AreMarked : Tree → Type 0
AreMarked t = (key : Path) (node : Node) → get t key ≡ Some node → is_directory node.attrs ≡ is_directory_body node.body

-- Of a tree that fits, the commands for the objects before one make these, and those for the next make it; all make the tree.
pub record MakesTree (format : Format) (t : Tree) : Type 0 where
  pub before : (front : List (Path × Node)) (next : Path × Node) (rest : List (Path × Node)) → objects_in t ≡ front ++ next ∷ rest
      → Accepts (form_of format) (tree_with []) (commands_for t front) (tree_with front)
      × Accepts (form_of format) (tree_with front) (object_commands (spelled_key t next.0) next.1) (tree_with (front ++ next ∷ []))
  pub all : Accepts (form_of format) (tree_with []) (commands_for t (objects_in t)) t

abbrev pub MakesLaw : Type 0
MakesLaw = (format : Format) (t : Tree) → IsTree t → AreMarked t → unfit format t ≡ None → MakesTree format t
