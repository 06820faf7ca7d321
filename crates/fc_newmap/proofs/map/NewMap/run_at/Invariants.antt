use Rattle.fc_newmap.specs.Walk.{bits_left}
use Rattle.fc_newmap.proofs.BitLemmas.{IsAhead}
use Rattle.fc_newmap.proofs.map.NewMap.run_at.Given as goal

abbrev pub invariant-loop-g : goal.invariant-loop-g
invariant-loop-g l = IsAhead l.self l.bit l.walk

abbrev pub decreases-loop-g : goal.decreases-loop-g
decreases-loop-g l = bits_left l.walk
