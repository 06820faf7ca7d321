use Rattle.std.proofs.Common.{◌≡◌, ◌-◌, ◌++◌, ◌∷◌, List}
use Rattle.fc_zone.specs.Cursor.{StandsBetween}
use Rattle.fc_zone.specs.declared.Run.{Run}
use Rattle.fc_newmap.specs.Edits.{IsEdit}
use Rattle.fc_newmap.specs.Map.{runs_of, sector_of, shape}
use Rattle.fc_image.specs.effects.Moves.{with_holes_joined}
use Rattle.fc_compact.specs.Slides.{HasRuns}
use Rattle.fc_compact.proofs.holes.join_holes_in.Given as goal

abbrev pub invariant-loop-next : goal.invariant-loop-next
invariant-loop-next l = record {
  front : List Run;
  rest : List Run;
  cut : HasRuns l.map l.z (front ++ l.run ∷ rest);
  all : with_holes_joined (runs_of l.fn.map l.z) ≡ front ++ with_holes_joined (l.run ∷ rest);
  edit : IsEdit l.fn.map l.map l.z;
  shape : l.shape ≡ shape l.fn.map.geometry l.z;
  passed : List Run;
  stands : StandsBetween l.shape (sector_of l.map l.z) passed rest l.place;
}

abbrev pub decreases-loop-next : goal.decreases-loop-next
decreases-loop-next l = l.shape.end - l.place.at
