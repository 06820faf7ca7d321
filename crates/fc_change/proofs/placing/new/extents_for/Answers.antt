use Rattle.std.proofs.Common.{subst}
use Rattle.fc_placing.specs.declared.placing.Placing.{Placing}
use Rattle.fc_placing.proofs.ExtentLemmas.{parts_in_zones}
use Rattle.fc_change.specs.Places.{HasSectorsAt}
use Rattle.fc_change.proofs.placing.new.extents_for.Goals as goal

pub extents_in-requires : goal.extents_in-requires
extents_in-requires c =
    parts_in_zones c.args.map.now c.is_map.ensures c.args.bytes c.in-New.plan
    (subst (λ (p : Placing). HasSectorsAt c.args.map.now p c.args.address c.args.bytes) c.in-New.is c.requires.some)
