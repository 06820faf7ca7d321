use Rattle.std.proofs.Common.{arith}
use Rattle.fc_image.specs.effects.Short.{old_need}
use Rattle.fc_change.proofs.OldTakingLemmas.{never_so_many}
use Rattle.fc_change.proofs.placing.old.take_from.Goals as goal

pub returns-in_default-clause-refused : goal.returns-in_default-clause-refused
returns-in_default-clause-refused c =
    never_so_many c.args.map.now (old_need c.args.map.now c.args.bytes) c.holes.ensures.map (let high = c.in_default.ensures in let same = c.units_for.ensures in omega (arith, high, same))
