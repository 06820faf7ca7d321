use Rattle.std.proofs.Common.{◌≡◌, ◌++◌, ◌∷◌, [], List, true}
use Rattle.fc_zone.specs.declared.Run.{Run}
use Rattle.fc_newmap.specs.Map.{runs_of}
use Rattle.fc_newmap.specs.RunsLaw.{placed}
use Rattle.fc_newmap.specs.Walk.{StandsBefore, bits_left}
use Rattle.fc_image.specs.effects.Settled.{passes_adjacent}
use Rattle.fc_compact.specs.Compaction.{is_done_by}
use Rattle.fc_compact.proofs.settlement.is_settled_in.Given as goal

abbrev pub invariant-loop-next : goal.invariant-loop-next
invariant-loop-next l = record {
  front : List Run;
  left : List Run;
  cut : runs_of l.map l.z ≡ front ++ l.run ∷ left;
  stands : StandsBefore l.map (placed l.z left) l.walk;
  done : passes_adjacent (is_done_by l.map.geometry l.owners) (front ++ l.run ∷ []) ≡ true;
}

abbrev pub decreases-loop-next : goal.decreases-loop-next
decreases-loop-next l = bits_left l.walk
