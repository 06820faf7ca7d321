use Rattle.std.proofs.Common.{refl}
use Rattle.fc_bytes.specs.Bits.{bits, num, low_bits}
use Rattle.fc_zone.specs.Reading.{runs_from, runs_of}
use Rattle.fc_newmap.proofs.rows.Goals as goal

pub returns : goal.returns
unfolding bits num low_bits runs_from runs_of
returns c = record { holes = refl; free = refl; two = refl; two_extent = refl; two_sectors = refl; order = refl; order_413 = refl; held = refl; beyond = refl }
