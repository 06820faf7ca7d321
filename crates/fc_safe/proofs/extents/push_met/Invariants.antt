use Rattle.std.proofs.Common.{take}
use Rattle.fc_safe.proofs.ExtentLemmas.{AreTakenOf}
use Rattle.fc_safe.proofs.extents.push_met.Given as goal

abbrev pub invariant-loop-part : goal.invariant-loop-part
invariant-loop-part l = AreTakenOf l.g l.plan.id l.ahead l.fn.place.items l.place.items l.fn.wanted l.left (take l.part-index l.plan.parts.items)
