-- A change that was written and taken over, in the parts of a volume.
use Rattle.std.specs.Prelude.{◌≡◌, ℕ, None}
use Rattle.std.specs.FinMap.{get}
use Rattle.fc_newmap.specs.NewMap.{IsNewMap}
use Rattle.fc_oldmap.specs.OldMap.{IsOldMap}
use Rattle.fc_image.specs.Layout.{Layout}
use Rattle.fc_tree.specs.Parts.{Parts}
use Rattle.fc_change.specs.After.{AreOwnersAfter, nodes_after, owners_admitted}
use Rattle.fc_change.specs.OldSpace.{LieBehind}
use Rattle.fc_commands.specs.declared.stages.Prepared.{Prepared}
use Rattle.fc_commands.specs.Written.{IsGivenOn}

-- These are the parts afterwards; `number`, which no node has before, is that of the node of an object that comes, and the owners before have
-- room for it.
pub record IsRun (h now : Parts) (p : Prepared) (number : ℕ) : Type 0 where
  pub given : IsGivenOn h.layout p.ready now.layout
  pub free : get h.nodes number ≡ None
  pub nodes : now.nodes ≡ nodes_after p.change number h.nodes
  pub owners : AreOwnersAfter now.layout h.nodes p.change (owners_admitted h.layout p.change.object number h.owners) now.owners

-- The map of a layout is one.
abbrev pub IsMapIn : Layout → Type 0
IsMapIn (Layout.New m) = IsNewMap m
IsMapIn (Layout.Old space) = IsOldMap space

-- The same; the holes of an old map lie after it.
abbrev pub IsMapOf : Layout → Type 0
IsMapOf (Layout.New m) = IsNewMap m
IsMapOf (Layout.Old space) = IsOldMap space × LieBehind space

-- An old map's holes lie after it.
abbrev pub KeepsBehind : Layout → Type 0
KeepsBehind (Layout.New m) = Unit {0}
KeepsBehind (Layout.Old space) = LieBehind space
