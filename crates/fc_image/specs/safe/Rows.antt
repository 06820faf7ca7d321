-- Taking by first fit, worked out.
use Rattle.std.specs.Prelude.{◌≡◌, List, [], ◌∷◌, Some, None}
use Rattle.fc_record.specs.Rows.{f}
use Rattle.fc_zone.specs.declared.RunKind.TheVariants.{Hole}
use Rattle.fc_record.specs.Record.{geometry}
use Rattle.fc_record.specs.Kinds.{map_record}
use Rattle.fc_newmap.specs.Map.{Map, ZoneRun}
use Rattle.fc_newmap.specs.Rows.{run}
use Rattle.fc_image.specs.Rows.{used_sector, fresh_sector}
use Rattle.fc_image.specs.safe.FirstFit.{first_fit}
use Rattle.fc_image.specs.safe.SafeSteady.{HaveRuns, holes_unneeded}
use Rattle.fc_image.specs.safe.SafeShort.{fitted}

-- holes of 16, 16 and 64 bits
abbrev pub three : List ZoneRun
three = (4, run 32 16 Hole) ∷ (5, run 32 16 Hole) ∷ (6, run 32 64 Hole) ∷ []

-- identifier 3 with 16 bits, and a hole
abbrev pub used : Map
used = record { geometry = geometry (map_record used_sector); zones = used_sector ∷ [] }

-- one hole
abbrev pub fresh : Map
fresh = record { geometry = geometry (map_record fresh_sector); zones = fresh_sector ∷ [] }

-- On the maps q is 8 and min 16, and on an F both are 16.
pub record FitRows : Type 0 where
  pub first : first_fit f 16 three ≡ Some ((4, run 32 16 Hole) ∷ [])
  pub large : first_fit f 32 three ≡ Some ((6, run 32 32 Hole) ∷ [])
  pub whole : first_fit f 64 three ≡ Some ((6, run 32 64 Hole) ∷ [])
  pub several : first_fit f 80 three ≡ Some ((4, run 32 16 Hole) ∷ (5, run 32 16 Hole) ∷ (6, run 32 48 Hole) ∷ [])
  pub full : first_fit f 112 three ≡ None
  -- a need that was met from the front of a hole
  pub met : HaveRuns used (3 ∷ []) (((0, run 544 16 Hole) ∷ []) ∷ [])
  -- two needs from one hole, one after the other
  pub both : fitted used (16 ∷ 32 ∷ []) ((0, run 600 160 Hole) ∷ []) ≡ Some (((0, run 600 16 Hole) ∷ []) ∷ ((0, run 616 32 Hole) ∷ []) ∷ [])
  pub left : holes_unneeded fresh (((0, run 544 16 Hole) ∷ []) ∷ ((0, run 560 8 Hole) ∷ []) ∷ []) ≡ (0, run 568 8 Hole) ∷ []
