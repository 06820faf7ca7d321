use Rattle.std.proofs.Common.{refl}
use Rattle.fc_bytes.specs.Checks.{carry_sum, accumulated}
use Rattle.fc_bytes.proofs.checks.rows.Goals as goal

pub returns : goal.returns
unfolding carry_sum accumulated
returns c = record { zone = refl; boot = refl; starts = refl; lengths = refl; small_root = refl; big_root = refl }
