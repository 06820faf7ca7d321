use Rattle.std.proofs.Common.{ℕ, Option, sym, subst}
use Rattle.fc_placing.specs.Leaving.{LeavesIds, LeavesUsed}
use Rattle.fc_change.specs.Places.{AreLeft}
use Rattle.fc_change.proofs.placing.leavings.gone_by.Goals as goal

pub returns : goal.returns
returns c =
    subst (λ (o : Option ℕ). AreLeft c.args.owners.now o c.args.shared c.in_ok-gone.gone.items) (sym c.in-Some.is) (
      subst (LeavesIds c.args.owners.now c.in-Some.node c.args.shared) (sym c.in_ok-gone.ensures) c.left_by_replaced.ensures.exactly,
      subst (LeavesUsed c.args.owners.now) (sym c.in_ok-gone.ensures) c.left_by_replaced.ensures.used,
    )
