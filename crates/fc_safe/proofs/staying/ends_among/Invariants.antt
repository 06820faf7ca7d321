use Rattle.std.proofs.Common.{take}
use Rattle.fc_safe.proofs.StayingLemmas.{AreEnds}
use Rattle.fc_safe.proofs.staying.ends_among.Given as goal

abbrev pub invariant-loop-o : goal.invariant-loop-o
invariant-loop-o l = AreEnds l.g l.moving (take l.o-index l.list) l.ids l.ends.items
