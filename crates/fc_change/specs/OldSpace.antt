-- Space that is taken from an old map, and space that goes back.
use Rattle.std.specs.Prelude.{◌≡◌, ◌<◌, ◌≤◌, ℕ, length, if◌then◌else◌, ◌==◌, Option, Some, None}
use Rattle.std.specs.Option.{option_map_or}
use Rattle.std.specs.FinMap.{get}
use Rattle.fc_dirs.specs.declared.Entry.{Entry}
use Rattle.fc_oldmap.specs.declared.Hole.{Hole}
use Rattle.fc_oldmap.specs.Holes.{AreHoles, after_give, hole, hole_limit}
use Rattle.fc_oldmap.specs.OldMap.{OldMapContent, map_units}
use Rattle.fc_image.specs.Layout.{Layout, dir_form}
use Rattle.fc_image.specs.Walk.{object_size}
use Rattle.fc_image.specs.effects.Short.{holes_without, old_need}
use Rattle.fc_laws.specs.nodes.Edits.{Nodes}
use Rattle.fc_changes.specs.old.Owed.{holding}
use Rattle.fc_laws.specs.old.agree.Spaces.{CanGive}
use Rattle.fc_tree.specs.declared.node.Node.{Node}

-- The holes lie after the map.
abbrev pub LieBehind : OldMapContent → Type 0
LieBehind space = AreHoles space.disc_units space.sector_units (map_units space.sector_units) space.holes

-- the units that the object of an entry takes, and where
abbrev pub units_of : OldMapContent → Entry → ℕ
units_of space e = old_need space (object_size (dir_form (Layout.Old space)) e)

abbrev pub space_at : OldMapContent → Entry → Hole
space_at space e = hole e.address (units_of space e)

-- the map with the space of n bytes taken, at the front of the first hole that is long enough; no bytes take none
abbrev pub map_taken : OldMapContent → ℕ → OldMapContent
map_taken space n = holding space (holes_without (old_need space n) space.holes)

-- the map with the space of an entry's object given back, if it has any
abbrev pub with_space_of : Entry → OldMapContent → OldMapContent
with_space_of e space = if units_of space e == 0 then space else holding space (after_give (space_at space e) space.holes)

-- with that of the object of a node, if one goes
abbrev pub map_given : OldMapContent → Nodes → Option ℕ → OldMapContent → OldMapContent
map_given space nodes None now = now
map_given space nodes (Some n) now = option_map_or (λ (node : Node). with_space_of node.entry now) (get nodes n) now

-- the units that the object of a node takes, if one goes
abbrev pub units_given : OldMapContent → Nodes → Option ℕ → ℕ
units_given space nodes None = 0
units_given space nodes (Some n) = option_map_or (λ (node : Node). units_of space node.entry) (get nodes n) 0

-- the map after a step, if there is one
abbrev pub map_after : OldMapContent → Option OldMapContent → OldMapContent
map_after space None = space
map_after space (Some now) = now

-- The step leads from one map to the other, which has no more holes than a map can have; there is none if they are the same.
abbrev pub IsMapNow : OldMapContent → OldMapContent → Option OldMapContent → Type 0
IsMapNow was now None = now ≡ was
IsMapNow was now (Some space) = (space ≡ now) × (length now.holes ≤ hole_limit)

-- ---- what has to be known

abbrev pub IsSameDisc : Layout → OldMapContent → Type 0
IsSameDisc (Layout.New m) space = ⊥
IsSameDisc (Layout.Old disc) space = space ≡ holding disc space.holes

-- The space of a node's object can be given back to a map of these holes.
pub record CanFreeFrom (disc now : OldMapContent) (nodes : Nodes) (n : ℕ) : Type 0 where
  pub node : Node
  pub there : get nodes n ≡ Some node
  pub free : 0 < units_of disc node.entry → CanGive disc now.holes (space_at disc node.entry)

-- So it can once n bytes are taken.
abbrev pub CanFree : OldMapContent → ℕ → Nodes → ℕ → Type 0
CanFree space bytes nodes n = CanFreeFrom space (map_taken space bytes) nodes n
