use Rattle.std.proofs.Common.{◌≡◌, ◌≤◌, ◌+◌, ◌-◌, List}
use Rattle.fc_record.specs.Record.{end_bit, first_bit}
use Rattle.fc_zone.specs.Cursor.{StandsBetween}
use Rattle.fc_zone.specs.declared.Run.{Run}
use Rattle.fc_newmap.specs.Map.{sector_of, shape}
use Rattle.fc_reclaim.specs.Lost.{goes_back}
use Rattle.fc_reclaim.proofs.PassLemmas.{IsPassing}
use Rattle.fc_reclaim.proofs.zone.reclaim_in.Given as goal

abbrev pub invariant-loop-run : goal.invariant-loop-run
invariant-loop-run l = record {
  left : List Run;
  done : List Run;
  passing : IsPassing (goes_back l.boot l.owners l.fn.map.geometry) l.z l.fn.map l.map l.chain left l.bits;
  shape : l.shape ≡ shape l.fn.map.geometry l.z;
  stands : StandsBetween l.shape (sector_of l.map l.z) done left l.place;
  few : first_bit l.z + l.bits ≤ l.place.at;
  short : first_bit l.z + l.bits ≤ end_bit l.fn.map.geometry l.z;
}

abbrev pub decreases-loop-run : goal.decreases-loop-run
decreases-loop-run l = l.shape.end - l.place.at
