use Rattle.std.proofs.Common.{length, ◌-◌, ◌≤◌, take}
use Rattle.fc_program.specs.Writing.{Wrote}
use Rattle.fc_program.proofs.sink.write_all.Given as goal

abbrev pub invariant-loop-at : goal.invariant-loop-at
invariant-loop-at g l = record {
  within : l.at ≤ length l.piece;
  wrote : Wrote (g.K.Sink.taken l.fn.out) (g.K.Sink.taken l.out) (take l.at l.piece);
  faults : g.K.Sink.faults l.fn.out ≤ g.K.Sink.faults l.out;
}

abbrev pub decreases-loop-at : goal.decreases-loop-at
decreases-loop-at g l = length l.piece - l.at
