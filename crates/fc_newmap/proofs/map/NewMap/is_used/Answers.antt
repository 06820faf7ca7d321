use Rattle.std.proofs.Common.{◌∙◌}
use Rattle.fc_newmap.proofs.IdLemmas.{used_bits, used_by_first}
use Rattle.fc_newmap.proofs.map.NewMap.is_used.Goals as goal

pub returns-in-Some : goal.returns-in-Some
returns-in-Some c = used_bits c.args.self.now c.args.id c.in-Some.bits c.is_map.ensures c.in-Some.ensures

pub returns-in-None : goal.returns-in-None
returns-in-None c = c.is_some.ensures ∙ used_by_first c.args.self.now c.args.id c.first_run.result c.is_map.ensures c.first_run.ensures
