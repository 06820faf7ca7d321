-- What a changing command does in the safe mode, and what a crash inside it leaves.
use Rattle.std.specs.Prelude.{◌≡◌, ◌⊎◌, ℕ, List}
use Rattle.fc_record.specs.declared.Kind.{Kind}
use Rattle.fc_model.specs.Tree.{Tree}
use Rattle.fc_model.specs.Command.{Command}
use Rattle.fc_image.specs.Objects.{tree_of}
use Rattle.fc_image.specs.Opening.{Opened}
use Rattle.fc_image.specs.Stays.{OpensAs}
use Rattle.fc_image.specs.effects.Effect.{State, tree_in, OpensAgain, copies_file}
use Rattle.fc_image.specs.safe.SafeSteady.{SafeSteady}

-- what a changing command does in the safe mode
pub record SafeChanges (kind : Kind) (s s' : State) (c : Command) (t : Tree) : Type 0 where
  pub opens : OpensAgain kind s'
  pub tree : tree_in s' ≡ t
  pub steady : SafeSteady s.image s'.image s.view s'.view c (copies_file s.view c)

-- The image opens as that kind, and has this tree. After the Ok of a command every crash leaves this, with the tree after it.
pub record HasTree (kind : Kind) (t : Tree) (image : List ℕ) : Type 0 where
  pub view : Opened
  pub opens : OpensAs image kind view
  pub tree : tree_of image view.layout view.listings ≡ t

-- what every crash inside a command leaves: the tree before it, or t, the tree after it
abbrev pub HasTreeBeforeOrAfter : Kind → State → Tree → List ℕ → Type 0
HasTreeBeforeOrAfter kind s t image = HasTree kind (tree_in s) image ⊎ HasTree kind t image
