use Rattle.std.proofs.Common.{arith}
use Rattle.fc_space.proofs.SumLemmas.{holes_low}
use Rattle.fc_volume.proofs.volume.Volume.free.Goals as goal

pub old_free-requires : goal.old_free-requires
old_free-requires c =
    let m = c.in-OldMapped.map in
    let low = holes_low m.disc_units m.sector_units 0 m.holes c.holes.ensures.map.holes in
    rw c.holes.ensures.holes (omega (arith, low, c.holes.ensures.map.disc))
