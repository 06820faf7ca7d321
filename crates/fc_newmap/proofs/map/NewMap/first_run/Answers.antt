use Rattle.fc_newmap.specs.Map.{id_runs}
use Rattle.fc_newmap.proofs.WalkLemmas.{first_is}
use Rattle.fc_newmap.proofs.map.NewMap.first_run.Goals as goal

pub returns : goal.returns
returns c = first_is c.args.self.now (id_runs c.args.self.now c.args.id) c.next.new.self c.next.result (c.next.ensures.value (id_runs c.args.self.now c.args.id) c.start.ensures.stands)
