-- What commands leave on a disc, one after another, and what those for a tree leave on a fresh volume.
use Rattle.std.specs.Prelude.{◌≡◌, ◌++◌, ◌∷◌, [], false, List, None, Ok, Option, Some}
use Rattle.fc_record.specs.declared.Kind.{Kind}
use Rattle.fc_names.specs.declared.name.NameForm.{NameForm}
use Rattle.fc_names.specs.declared.refusal.Refusal.{Refusal}
use Rattle.fc_names.specs.Names.{Path}
use Rattle.fc_model.specs.Answer.{answer, first_of, reasons}
use Rattle.fc_model.specs.Command.{Command}
use Rattle.fc_model.specs.Tree.{IsTree, Node, Tree}
use Rattle.fc_image.specs.Opening.{open_image}
use Rattle.fc_image.specs.Stays.{OpensAs}
use Rattle.fc_image.specs.effects.Effect.{Changes, State, tree_in}
use Rattle.fc_image.specs.effects.Short.{short}
use Rattle.fc_format.specs.declared.Format.{Format}
use Rattle.fc_format.specs.Fresh.{format_size, fresh_image, zeros}
use Rattle.fc_fit.specs.Commands.{commands_for, making_command, object_commands, objects_in}
use Rattle.fc_fit.specs.Fit.{form_of, spelled_key, unfit}
use Rattle.fc_fit.specs.Makes.{AreMarked, tree_with}

-- On a disc with names of this form the command is accepted, and done.
abbrev pub Does : NameForm → Kind → State → Command → State → Type 0
Does form kind s c s' = (t : Tree) × (answer (tree_in s) form false c ≡ Ok t) × (short s.view c ≡ None) × Changes kind s s' c t

-- The commands are accepted and done, one after another.
abbrev pub DoAll : NameForm → Kind → State → List Command → State → Type 0
DoAll form kind s [] s' = s' ≡ s
DoAll form kind s (c ∷ commands) s' = (mid : State) × Does form kind s c mid × DoAll form kind mid commands s'

-- Nothing in the tree refuses the command, but there is no space for it.
abbrev pub IsShort : NameForm → State → Command → Refusal → Type 0
IsShort form s c refusal = (t : Tree) × (answer (tree_in s) form false c ≡ Ok t) × (short s.view c ≡ Some refusal)

-- why a command is refused, if it is: by the tree, or for want of space
abbrev pub refusal_by : NameForm → State → Command → Option Refusal
refusal_by form s c = first_of (reasons (tree_in s) form false c ++ short s.view c ∷ [])

-- Some of these commands are done, and the next is refused.
pub record StopIn (form : NameForm) (kind : Kind) (commands : List Command) (s state : State) (refusal : Refusal) : Type 0 where
  pub front : List Command
  pub next : Command
  pub rest : List Command
  pub cut : commands ≡ front ++ next ∷ rest
  pub done : DoAll form kind s front state
  pub refused : refusal_by form state next ≡ Some refusal

-- ---- on a fresh volume

-- The fresh volume of the format, as the kind that it opens as. The target is made anew, of bytes 0 and as long as the disc.
pub record IsFreshState (format : Format) (kind : Kind) (s : State) : Type 0 where
  pub image : s.image ≡ fresh_image format (zeros (format_size format))
  pub accepted : open_image s.image ≡ Ok s.view
  pub is_kind : s.view.kind ≡ kind
  pub opens : OpensAs s.image kind s.view

-- The target opens as the kind of the fresh volume. It is what the commands for all objects leave of it, and holds the source's tree.
pub record IsConverted (format : Format) (kind : Kind) (t : Tree) (s' : State) : Type 0 where
  pub fresh : State
  pub starts : IsFreshState format kind fresh
  pub done : DoAll (form_of format) kind fresh (commands_for t (objects_in t)) s'
  pub opens : OpensAs s'.image kind s'.view
  pub tree : tree_in s' ≡ t

-- The target opens as the kind of the fresh volume. It is what the commands for the objects before one leave of it, holds these and the
-- root, and has no room for the next.
pub record HasNoRoom (format : Format) (kind : Kind) (t : Tree) (path : Path) (refusal : Refusal) (s' : State) : Type 0 where
  pub fresh : State
  pub starts : IsFreshState format kind fresh
  pub before : List (Path × Node)
  pub next : Path × Node
  pub behind : List (Path × Node)
  pub cut : objects_in t ≡ before ++ next ∷ behind
  pub done : DoAll (form_of format) kind fresh (commands_for t before) s'
  pub opens : OpensAs s'.image kind s'.view
  pub tree : tree_in s' ≡ tree_with before
  pub at : path ≡ spelled_key t next.0
  pub refused : IsShort (form_of format) s' (making_command path next.1) refusal

-- ---- the law

-- Over a tree that fits: if all its commands are done on a fresh volume, it is converted; if one of an object's is refused, it is the one
-- that makes it, for want of space.
pub record ConvertsTree (format : Format) (kind : Kind) (t : Tree) (fresh : State) : Type 0 where
  pub all : (s : State) → DoAll (form_of format) kind fresh (commands_for t (objects_in t)) s → IsConverted format kind t s
  pub some : (before : List (Path × Node)) (next : Path × Node) (behind : List (Path × Node)) (mid s : State) (refusal : Refusal) → objects_in t ≡ before ++ next ∷ behind
      → DoAll (form_of format) kind fresh (commands_for t before) mid
      → StopIn (form_of format) kind (object_commands (spelled_key t next.0) next.1) mid s refusal
      → HasNoRoom format kind t (spelled_key t next.0) refusal s

abbrev pub ConvertsLaw : Type 0
ConvertsLaw = (format : Format) (kind : Kind) (t : Tree) (fresh : State) → IsTree t → AreMarked t → unfit format t ≡ None → IsFreshState format kind fresh
    → ConvertsTree format kind t fresh
