use Rattle.std.proofs.Common.{take}
use Rattle.fc_placing.proofs.ExtentLemmas.{ArePushed}
use Rattle.fc_placing.proofs.extents.push_met.Given as goal

abbrev pub invariant-loop-part : goal.invariant-loop-part
invariant-loop-part l = ArePushed l.g l.plan.id l.ahead l.fn.place.items l.place.items l.fn.need l.need (take l.part-index l.plan.parts.items)
