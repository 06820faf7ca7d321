use Rattle.std.proofs.Common.{take}
use Rattle.fc_placing.specs.Lows.{IsLow}
use Rattle.fc_placing.proofs.lows.free_low.Given as goal

abbrev pub invariant-loop-o : goal.invariant-loop-o
invariant-loop-o l = IsLow l.map l.need (take l.o-index l.owners) l.low
