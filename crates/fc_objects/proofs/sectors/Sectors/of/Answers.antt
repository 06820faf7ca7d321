use Rattle.std.proofs.Common.{refl}
use Rattle.fc_objects.proofs.AheadLemmas.{ahead_all}
use Rattle.fc_objects.proofs.sectors.Sectors.of.Goals as goal

pub returns : goal.returns
returns c = ahead_all (record { row = record { first = 0; sectors = 0 }; rest = c.args.place }) refl
