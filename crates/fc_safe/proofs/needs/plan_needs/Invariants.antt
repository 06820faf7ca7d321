use Rattle.fc_safe.proofs.NeedsLemmas.{AreMetSoFar}
use Rattle.fc_safe.proofs.needs.plan_needs.Given as goal

abbrev pub invariant-loop-need : goal.invariant-loop-need
invariant-loop-need l = AreMetSoFar l.map l.needs l.need-index l.plans.items l.supply
