use Rattle.std.proofs.Common.{arith}
use Rattle.fc_change.proofs.ShortageLemmas.{id_few}
use Rattle.fc_change.proofs.placing.shortage.has_ids.Goals as goal

pub overflow_add-from : goal.overflow_add-from
overflow_add-from c = let few = id_few c.args.map.now.geometry c.in-Some.id c.is_map.ensures.of_record c.in-Some.ensures.low in omega (arith, few)
