use Rattle.fc_newmap.specs.Walk.{bits_left}
use Rattle.fc_space.proofs.NthLemmas.{Seeks}
use Rattle.fc_space.proofs.new.sector_of_id.Given as goal

abbrev pub invariant-loop-z : goal.invariant-loop-z
invariant-loop-z l = Seeks l.map l.fn.id l.fn.number l.cursor l.left

abbrev pub decreases-loop-z : goal.decreases-loop-z
decreases-loop-z l = bits_left l.cursor.walk
