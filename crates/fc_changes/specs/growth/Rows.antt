-- Premises of growth on a small map, right and spoilt.
use Rattle.std.specs.Prelude.{◌≡◌, [], ◌∷◌}
use Rattle.fc_zone.specs.declared.RunKind.TheVariants.{Hole}
use Rattle.fc_newmap.specs.Map.{Map}
use Rattle.fc_newmap.specs.Rows.{run}
use Rattle.fc_image.specs.Rows.{small_sector}
use Rattle.fc_image.specs.Walk.{Object}
use Rattle.fc_image.specs.effects.WrittenRows.{map_with, used}
use Rattle.fc_changes.specs.growth.Grown.{IsGrowthSpace, NewPlace, at_place}

-- a directory in identifier 3, of which `used` has 16 bits and beside it a hole of 16
abbrev pub a_directory : Object
a_directory = record { path = (65 ∷ []) ∷ []; entry = record { name = 65 ∷ []; load = 0; exec = 0; len = 2048; address = 768; attrs = 8; last = 0 }; sectors = 4 ∷ 5 ∷ [] }

-- it moves into the hole, and what it had is a hole
abbrev pub moved : Map
moved = map_with 15 (small_sector 0x18 0x82 (0 ∷ 0x80 ∷ 3 ∷ 0x80 ∷ []))

-- alone in its identifier, with new space
abbrev pub alone_place : NewPlace
alone_place = record { address = 768; len = 4096; sectors = 6 ∷ 7 ∷ []; id = 3; parts = (0, run 560 16 Hole) ∷ [] }

-- where it lies
abbrev pub there_place : NewPlace
there_place = record { address = 768; len = 4096; sectors = 4 ∷ 5 ∷ 6 ∷ 7 ∷ []; id = 0; parts = [] }

pub record GrownRows : Type 0 where
  -- a directory alone in its identifier gets new space, and its old runs go back
  pub alone : IsGrowthSpace used moved 0 [] alone_place (3 ∷ [])
  -- with room where it lies the map stays
  pub there : IsGrowthSpace used used 0 [] there_place []
  -- the old runs have to go back, and the new ones have to be taken
  pub not_back : IsGrowthSpace used moved 0 [] alone_place [] → ⊥
  pub not_taken : IsGrowthSpace used used 0 [] alone_place (3 ∷ []) → ⊥
  -- its entry says where it lies
  pub entry : (at_place alone_place a_directory).entry.len ≡ 4096
