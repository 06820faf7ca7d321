use Rattle.std.proofs.Common.{◌≡◌, ◌-◌}
use Rattle.fc_oldmap.specs.OldMap.{holes_of, map_units, wrong_hole}
use Rattle.fc_oldmap.proofs.ReadLemmas.{holes_from}
use Rattle.fc_oldmap.proofs.read.read_holes.Given as goal

-- the holes before are read, and the first that is wrong is that of the holes that are left
abbrev pub invariant-loop-index : goal.invariant-loop-index
invariant-loop-index l =
    record { read : l.holes.items ≡ holes_of l.b l.index; left : wrong_hole l.disc_units l.sector_units l.index l.floor (holes_from l.b l.index (l.count - l.index)) ≡ wrong_hole l.disc_units l.sector_units 0 (map_units l.sector_units) (holes_of l.b l.count) }
