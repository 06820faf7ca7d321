use Rattle.std.proofs.Common.{refl}
use Rattle.fc_newmap.proofs.copies.gate.Goals as goal

pub returns : goal.returns
returns c = record { two = refl; three = refl; four = refl; five = refl; six = refl; seven = refl; eight = refl; nine = refl; row = refl }
