use Rattle.std.proofs.Common.{◌+◌, Some, sym, ap, subst, ◌∙◌, arith}
use Rattle.fc_plan.proofs.Starts.{IsLeast, begin_at, least_more, least_other}
use Rattle.fc_plan.proofs.beginnings.first_start.Goals as goal
use Rattle.fc_plan.proofs.beginnings.first_start.Goals.{then-may_have+in_ok-start_in, else-may_have}

pub loop-i-preserved : goal.loop-i-preserved
loop-i-preserved c =
    let m = c.args.map.now in
    let ids = c.args.ids.now in
    let is = c.loop-i.invariant in
    elim c.if-may_have.branch [
      | then-may_have+in_ok-start_in w ↦
          subst (IsLeast m ids c.args.z (c.loop-i.i + 1)) (ap Some (sym w.least.ensures) ∙ sym w.first-is)
          (least_more m ids c.args.z c.loop-i.i w.in_ok-start_in.field-0 c.loop-i.first is w.in_ok-start_in.ensures)
      | else-may_have w ↦
          subst (IsLeast m ids c.args.z (c.loop-i.i + 1)) (sym w.first-is) (least_other m ids c.args.z c.loop-i.i c.loop-i.first is (c.may_have.ensures w.if-may_have.false))
    ]

pub returns : goal.returns
returns c = begin_at c.args.map.now c.args.ids.now c.args.z c.loop-i.i c.loop-i.first c.requires.map c.requires.zone (let past = c.loop-i-test.false in omega arith) c.loop-i.invariant
