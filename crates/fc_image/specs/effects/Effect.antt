-- What a command does to an image.
use Rattle.std.specs.Prelude.{◌≡◌, ℕ, Bool, false, List, drop}
use Rattle.std.specs.Option.{option_map_or}
use Rattle.fc_record.specs.declared.Kind.{Kind}
use Rattle.fc_record.specs.Kinds.{disc_size}
use Rattle.fc_model.specs.Tree.{Tree}
use Rattle.fc_model.specs.Command.{Command}
use Rattle.fc_image.specs.Objects.{objects_of, object_at, tree_of}
use Rattle.fc_image.specs.Opening.{Opened}
use Rattle.fc_image.specs.Stays.{OpensAs, HasEqualCopies}
use Rattle.fc_image.specs.effects.Short.{is_copied}
use Rattle.fc_image.specs.effects.Placed.{Placed}
use Rattle.fc_image.specs.effects.Steady.{Steady, OutsideSteady}
use Rattle.fc_image.specs.effects.Settled.{Compacted, IdleStay, ObjectsStay}

-- an image, and what it says
pub record State : Type 0 where
  pub image : List ℕ
  pub view : Opened

-- the tree of an image
abbrev pub tree_in : State → Tree
tree_in s = tree_of s.image s.view.layout s.view.listings

-- the new image opens as before, with two equal sound copies on a new map
pub record OpensAgain (kind : Kind) (s : State) : Type 0 where
  pub opens : OpensAs s.image kind s.view
  pub copies : HasEqualCopies s.image s.view.layout

-- the command is a rename that copies a file
abbrev pub copies_file : Opened → Command → Bool
copies_file v (Command.Rename from to) = option_map_or (is_copied v from to) (object_at v.listings from) false
copies_file v _ = false

-- what an accepted command does that changes the tree
pub record Changes (kind : Kind) (s s' : State) (c : Command) (t : Tree) : Type 0 where
  pub opens : OpensAgain kind s'
  pub tree : tree_in s' ≡ t
  pub placed : Placed s.view s'.view c
  pub steady : Steady s.image s'.image s.view s'.view c (copies_file s.view c)

-- what compaction does
pub record Compacts (kind : Kind) (s s' : State) : Type 0 where
  pub opens : OpensAgain kind s'
  pub tree : tree_in s' ≡ tree_in s
  pub compacted : Compacted s.view s'.view
  pub objects : ObjectsStay s.image s'.image s.view.layout s.view s'.view
  pub idle : IdleStay s.view.layout s'.view.layout (objects_of s.view.listings)
  pub outside : OutsideSteady s.image s'.image s.view s'.view Command.Compact s.view.layout s'.view.layout
  pub behind : drop (disc_size kind) s'.image ≡ drop (disc_size kind) s.image
