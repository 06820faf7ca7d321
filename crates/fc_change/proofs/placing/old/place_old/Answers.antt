use Rattle.fc_change.specs.Held.{parts_of}
use Rattle.fc_change.proofs.OldGivingLemmas.{never_full, placed_old}
use Rattle.fc_change.proofs.RefusalLemmas.{none_refused}
use Rattle.fc_change.proofs.placing.old.place_old.Goals as goal

pub returns-clause-places : goal.returns-clause-places
returns-clause-places c =
    placed_old c.args.map.now (parts_of c.args.held.now) c.args.wants.now c.in_ok-place.field-0 c.in-Ok.given c.step_to.result c.step_to-2.result c.in_ok-place.ensures.taken c.in-Ok.ensures.now
    c.in-Ok.ensures.none c.step_to.ensures c.step_to-2.ensures

pub returns-clause-refused : goal.returns-clause-refused
returns-clause-refused c =
    none_refused c.args.map.now (parts_of c.args.held.now) c.args.wants.now c.in_ok-place.ensures.refused
    (never_full c.args.map.now (parts_of c.args.held.now) c.args.wants.now c.in_ok-place.field-0 c.in-Ok.given c.holes.ensures.map c.in_ok-place.ensures.taken c.in-Ok.ensures.now)
