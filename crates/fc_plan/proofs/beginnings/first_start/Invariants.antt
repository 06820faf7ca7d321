use Rattle.fc_plan.proofs.Starts.{IsLeast}
use Rattle.fc_plan.proofs.beginnings.first_start.Given as goal

abbrev pub invariant-loop-i : goal.invariant-loop-i
invariant-loop-i l = IsLeast l.fn.map l.fn.ids l.z l.i l.first
