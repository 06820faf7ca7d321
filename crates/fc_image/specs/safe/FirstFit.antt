-- The holes that the safe mode takes.
use Rattle.std.specs.Prelude.{ℕ, ◌-◌, max, nat_le, List, [], ◌∷◌, if◌then◌else◌, Option, Some, None}
use Rattle.std.specs.List.{find}
use Rattle.std.specs.Option.{option_map}
use Rattle.fc_record.specs.declared.Geometry.{Geometry}
use Rattle.fc_newmap.specs.Map.{ZoneRun}
use Rattle.fc_image.specs.effects.Placed.{front_of}

-- Holes are taken whole, until one has what is still missing.
unfoldable pub gathered : Geometry → ℕ → List ZoneRun → Option (List ZoneRun)
gathered g bits [] = None
gathered g bits (hole ∷ holes) =
    if nat_le bits hole.1.len then Some (front_of g (max bits g.min) hole ∷ [])
    else option_map (λ parts. hole ∷ parts) (gathered g (bits - hole.1.len) holes)

-- from one hole, if one has the bits
abbrev pub in_one_or : Geometry → ℕ → List ZoneRun → Option ZoneRun → Option (List ZoneRun)
in_one_or g bits holes (Some hole) = Some (front_of g bits hole ∷ [])
in_one_or g bits holes None = gathered g bits holes

-- the front of the first hole that has the bits, else parts of several holes from the first on
unfoldable pub first_fit : Geometry → ℕ → List ZoneRun → Option (List ZoneRun)
first_fit g bits holes = in_one_or g bits holes (find (λ hole. nat_le bits hole.1.len) holes)
