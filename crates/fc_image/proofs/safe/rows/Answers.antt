use Rattle.std.proofs.Common.{refl}
use Rattle.fc_bytes.specs.Bits.{bits, num, low_bits}
use Rattle.fc_bytes.specs.Checks.{carry_sum}
use Rattle.fc_zone.specs.Reading.{runs_from, runs_of}
use Rattle.fc_image.specs.safe.FirstFit.{first_fit, gathered}
use Rattle.fc_image.specs.safe.SafeShort.{fitted}
use Rattle.fc_image.proofs.safe.rows.Goals as goal

pub returns : goal.returns
unfolding bits num low_bits carry_sum runs_from runs_of first_fit gathered fitted
returns c = record { first = refl; large = refl; whole = refl; several = refl; full = refl; met = (refl, tt); both = refl; left = refl }
