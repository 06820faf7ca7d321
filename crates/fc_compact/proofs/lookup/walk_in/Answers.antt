use Rattle.std.proofs.Common.{List, append-nil, subst}
use Rattle.fc_newmap.specs.Map.{ZoneRun, runs_of}
use Rattle.fc_newmap.specs.RunsLaw.{placed}
use Rattle.fc_newmap.specs.Walk.{StandsBefore}
use Rattle.fc_compact.proofs.lookup.walk_in.Goals as goal

pub returns : goal.returns
returns c = subst (λ (ps : List ZoneRun). StandsBefore c.args.map.now ps c.from_zone.result) (append-nil (placed c.args.z (runs_of c.args.map.now c.args.z))) c.from_zone.ensures.stands
