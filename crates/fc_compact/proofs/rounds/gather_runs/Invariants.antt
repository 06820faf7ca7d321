use Rattle.std.proofs.Common.{◌≡◌, ◌≤◌, ◌-◌, List, ◌∷◌, ◌++◌, false}
use Rattle.std.specs.Option.{ForSome}
use Rattle.fc_device.specs.Calls.{SameForm}
use Rattle.fc_zone.specs.declared.Run.{Run}
use Rattle.fc_zone.specs.Cursor.{StandsBetween}
use Rattle.fc_newmap.specs.Map.{Map, sector_of, shape}
use Rattle.fc_compact.specs.Rounds.{Carrying, Gathers, Spares, StaysInHoles}
use Rattle.fc_compact.specs.Slides.{HasRuns}
use Rattle.fc_compact.proofs.GatherLemmas.{FrontIn}
use Rattle.fc_compact.proofs.rounds.gather_runs.Given as goal

abbrev pub invariant-loop-next : goal.invariant-loop-next
invariant-loop-next g l = record {
  form : SameForm g.D.Disk l.fn.disk l.disk;
  kept : (m : Map) → Spares m l.fn.map l.owners l.z → StaysInHoles g.D.Disk l.fn.disk l.disk m;
  carrying : (m : Map) → Spares m l.fn.map l.owners l.z → ForSome (g.D.Disk.bytes l.fn.disk) (Carrying m l.fn.map l.owners)
      → ForSome (g.D.Disk.bytes l.disk) (Carrying m l.map l.owners);
  gathers : Gathers l.owners l.fn.map l.map l.z l.any;
  still : l.any ≡ false → l.disk ≡ l.fn.disk;
  front : List Run;
  rest : List Run;
  cut : HasRuns l.map l.z (front ++ l.run ∷ rest);
  passed : List Run;
  ahead : HasRuns l.fn.map l.z (passed ++ rest);
  few : l.fresh ≤ l.run.len;
  in_holes : (m : Map) → Spares m l.fn.map l.owners l.z → FrontIn m l.z l.run l.fresh;
  faults : g.D.Disk.faults l.fn.disk ≤ g.D.Disk.faults l.disk;
  shape : l.shape ≡ shape l.fn.map.geometry l.z;
  gone : List Run;
  stands : StandsBetween l.shape (sector_of l.map l.z) gone rest l.place;
}

abbrev pub decreases-loop-next : goal.decreases-loop-next
decreases-loop-next g l = l.shape.end - l.place.at
