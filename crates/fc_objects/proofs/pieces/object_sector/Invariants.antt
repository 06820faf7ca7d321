use Rattle.std.proofs.Common.{◌-◌, length}
use Rattle.fc_objects.proofs.ExtentLemmas.{LeadsTo}
use Rattle.fc_objects.proofs.pieces.object_sector.Given as goal

abbrev pub invariant-loop-i : goal.invariant-loop-i
invariant-loop-i l = LeadsTo l.at l.sector l.i l.left

abbrev pub decreases-loop-i : goal.decreases-loop-i
decreases-loop-i l = length l.at - l.i
