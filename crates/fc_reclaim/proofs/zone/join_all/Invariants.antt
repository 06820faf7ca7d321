use Rattle.std.proofs.Common.{length}
use Rattle.fc_newmap.specs.Map.{runs_of}
use Rattle.fc_reclaim.proofs.JoinLemmas.{IsJoining}
use Rattle.fc_reclaim.proofs.zone.join_all.Given as goal

abbrev pub invariant-loop-next : goal.invariant-loop-next
invariant-loop-next l = IsJoining l.fn.map l.map l.z l.fn.first l.hole

abbrev pub decreases-loop-next : goal.decreases-loop-next
decreases-loop-next l = length (runs_of l.map l.z)
