use Rattle.std.proofs.Common.{ℕ, length}
use Rattle.fc_alloc.specs.Owners.{AreInOrder}
use Rattle.fc_placing.proofs.Groups.{IsAheadOrPassed}
use Rattle.fc_placing.proofs.share.first_share.Given as goal

abbrev pub invariant-loop-first : goal.invariant-loop-first
invariant-loop-first l = record {
  order : AreInOrder l.rest;
  each : (id : ℕ) → IsAheadOrPassed l.map l.owners l.held l.dir l.need l.rest id;
}

abbrev pub decreases-loop-first : goal.decreases-loop-first
decreases-loop-first l = length l.rest
