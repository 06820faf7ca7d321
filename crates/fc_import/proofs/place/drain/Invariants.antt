use Rattle.std.proofs.Common.{◌≡◌, ◌≤◌, ◌<◌, ◌+◌, ◌++◌, ℕ, List, length}
use Rattle.fc_import.specs.Imports.{HasLeft, IsSameSupply}
use Rattle.fc_import.proofs.place.drain.Given as goal

abbrev pub invariant-loop-more : goal.invariant-loop-more
invariant-loop-more g l = record {
  piece : (piece : List ℕ) × (g.B.Supply.given l.from ≡ g.B.Supply.given l.fn.from ++ piece) × (length piece + l.more ≡ l.left);
  has : HasLeft g.B.Supply l.more l.from;
  room : 0 < length l.block;
  supply : IsSameSupply g.B.Supply l.fn.from l.from;
  faults : g.B.Supply.faults l.fn.from ≤ g.B.Supply.faults l.from;
}

abbrev pub decreases-loop-more : goal.decreases-loop-more
decreases-loop-more g l = l.more
