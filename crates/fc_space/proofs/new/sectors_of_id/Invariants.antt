use Rattle.fc_newmap.specs.Walk.{bits_left}
use Rattle.fc_space.specs.Space.{HaveSectors}
use Rattle.fc_space.proofs.SearchLemmas.{Searches}
use Rattle.fc_space.proofs.new.sectors_of_id.Given as goal

abbrev pub invariant-loop-need : goal.invariant-loop-need
invariant-loop-need l = record {
  searches : Searches l.map l.fn.id l.fn.skip l.fn.need l.place.items l.cursor l.skip l.need;
  each : HaveSectors l.place.items;
}

abbrev pub decreases-loop-need : goal.decreases-loop-need
decreases-loop-need l = bits_left l.cursor.walk
