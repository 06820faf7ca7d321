use Rattle.std.proofs.Common.{◌≡◌, ◌-◌, ◌++◌, List, map}
use Rattle.fc_zone.specs.Cursor.{StandsBetween}
use Rattle.fc_zone.specs.declared.Run.{Run}
use Rattle.fc_newmap.specs.Edits.{IsEdit}
use Rattle.fc_newmap.specs.Map.{runs_of, sector_of, shape}
use Rattle.fc_compact.specs.Joins.{freed}
use Rattle.fc_compact.specs.Slides.{HasRuns}
use Rattle.fc_compact.proofs.release.release_in.Given as goal

abbrev pub invariant-loop-run : goal.invariant-loop-run
invariant-loop-run l = record {
  done : List Run;
  left : List Run;
  cut : runs_of l.fn.map l.z ≡ done ++ left;
  runs : HasRuns l.map l.z (map (freed l.id) done ++ left);
  edit : IsEdit l.fn.map l.map l.z;
  shape : l.shape ≡ shape l.fn.map.geometry l.z;
  passed : List Run;
  stands : StandsBetween l.shape (sector_of l.map l.z) passed left l.place;
}

abbrev pub decreases-loop-run : goal.decreases-loop-run
decreases-loop-run l = l.shape.end - l.place.at
