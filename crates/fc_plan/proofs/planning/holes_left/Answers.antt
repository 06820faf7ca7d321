use Rattle.std.proofs.Common.{get_or, sym}
use Rattle.std.proofs.lemmas.List.{drop_more}
use Rattle.fc_zone.specs.declared.RunKind.TheVariants.{Hole}
use Rattle.fc_newmap.specs.Map.{ZoneRun}
use Rattle.fc_plan.specs.Plan.{left_of_both}
use Rattle.fc_plan.proofs.Order.{first_fits, left_stepped, rest_low}
use Rattle.fc_plan.proofs.planning.holes_left.Goals as goal

abbrev none : ZoneRun
none = (0, record { start = 0; len = 0; kind = Hole })

pub left_behind-requires-clause-part : goal.left_behind-requires-clause-part
left_behind-requires-clause-part c =
    first_fits (get_or c.args.holes.now c.loop-hole.hole-index none) c.loop-hole.rest.now c.loop-hole.invariant.low c.first_at.result (sym c.first_at.ensures)

pub loop-hole-preserved : goal.loop-hole-preserved
loop-hole-preserved c =
    let holes = c.args.holes.now in
    let hole = get_or holes c.loop-hole.hole-index none in
    let next = left_stepped holes c.loop-hole.rest.now c.loop-hole.left.items (left_of_both holes c.args.parts.now) c.loop-hole.hole-index hole
    (drop_more holes c.loop-hole.hole-index none c.loop-hole-test.true) c.loop-hole.invariant.left in
    record {
      left = rw (c.in_ok-push.ensures, c.left_behind.ensures, c.first_at.ensures, c.rest_at-rest.ensures) next;
      low = rw c.rest_at-rest.ensures (rest_low hole c.loop-hole.rest.now c.loop-hole.invariant.low);
    }
