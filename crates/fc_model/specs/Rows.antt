-- Refusals, worked out over a small tree: the root, a directory D with a directory E in it, and a locked file L.
use Rattle.std.specs.Prelude.{◌≡◌, ℕ, Bool, true, false, List, [], ◌∷◌, Option, Some, None, codes}
use Rattle.std.specs.FinMap.{empty, insert}
use Rattle.fc_names.specs.declared.name.NameForm.TheVariants.{Ten}
use Rattle.fc_names.specs.declared.refusal.Refusal.{Refusal}
use Rattle.fc_names.specs.declared.refusal.Refusal.TheVariants as refusals
use Rattle.fc_names.specs.Names.{Path}
use Rattle.fc_model.specs.Tree.{Body, Node, Tree, root_node}
use Rattle.fc_model.specs.Command.{Command}
use Rattle.fc_model.specs.Answer.{reasons, first_of}

-- a directory of that name
abbrev pub dir : List ℕ → Node
dir name = record { name = name; attrs = 8; load = 0; exec = 0; body = Body.Directory }

-- a file of one byte
abbrev pub file : List ℕ → ℕ → Node
file name attrs = record { name = name; attrs = attrs; load = 0; exec = 0; body = Body.File (1 ∷ []) }

-- $.D
abbrev pub d : Path
d = codes "D" ∷ []

-- $.D.E
abbrev pub e : Path
e = codes "D" ∷ codes "E" ∷ []

-- the path of the file, in the other case
abbrev pub l : Path
l = codes "l" ∷ []

-- the tree
abbrev pub tree : Tree
tree = insert (insert (insert (insert empty [] root_node) d (dir (codes "D"))) e (dir (codes "E"))) (codes "L" ∷ []) (file (codes "L") 5)

-- why a command over the tree is refused
abbrev pub refusal : Bool → Command → Option Refusal
refusal read_only c = first_of (reasons tree Ten read_only c)

-- commands, and why they are refused
pub record AnswerRows : Type 0 where
  pub into_itself : refusal false (Command.Rename d (codes "d" ∷ codes "E" ∷ codes "X" ∷ [])) ≡ Some refusals.IntoItself
  pub no_holder : refusal false (Command.Rename d (codes "D" ∷ codes "Q" ∷ codes "X" ∷ [])) ≡ Some refusals.NotFound
  pub itself : refusal false (Command.Rename d d) ≡ None
  pub root_renamed : refusal false (Command.Rename [] (codes "X" ∷ [])) ≡ Some refusals.RootRefused
  pub to_root : refusal false (Command.Rename d []) ≡ Some refusals.Exists
  pub root_to_root : refusal false (Command.Rename [] []) ≡ Some refusals.RootRefused
  pub to_present : refusal false (Command.Rename d l) ≡ Some refusals.Exists
  pub file_as_holder : refusal false (Command.Rename l (codes "L" ∷ codes "X" ∷ [])) ≡ Some refusals.NotDirectory
  pub locked_rename : refusal false (Command.Rename l (codes "M" ∷ [])) ≡ Some refusals.Locked
  pub locked : refusal false (Command.Delete l) ≡ Some refusals.Locked
  pub locked_save : refusal false (Command.Save l 0 0 []) ≡ Some refusals.Locked
  pub set : refusal false (Command.Set l 0 0 5) ≡ None
  pub read_only : refusal true (Command.Set l 0 0 5) ≡ Some refusals.ReadOnly
  pub absent_first : refusal true (Command.Delete (codes "None" ∷ [])) ≡ Some refusals.NotFound
  pub compact : refusal true Command.Compact ≡ Some refusals.ReadOnly
  pub load_root : refusal false (Command.Load []) ≡ Some refusals.IsDirectory
  pub cat_file : refusal false (Command.Cat l) ≡ Some refusals.NotDirectory
  pub below_file : refusal false (Command.Load (codes "L" ∷ codes "X" ∷ [])) ≡ Some refusals.NotDirectory
  pub bad_name : refusal true (Command.Save (codes "Q" ∷ codes "A B" ∷ []) 0 0 []) ≡ Some refusals.BadName
  pub save_root : refusal false (Command.Save [] 0 0 []) ≡ Some refusals.IsDirectory
  pub cdir_present : refusal false (Command.Cdir d) ≡ Some refusals.Exists
  pub cdir_root : refusal false (Command.Cdir []) ≡ Some refusals.Exists
  pub cdir_new : refusal false (Command.Cdir (codes "D" ∷ codes "F" ∷ [])) ≡ None
  pub reclaim : refusal true Command.Reclaim ≡ Some refusals.ReadOnly
