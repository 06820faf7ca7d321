use Rattle.std.proofs.Common.{◌≡◌, ◌≤◌, ℕ, List, false}
use Rattle.fc_device.specs.Calls.{SameForm}
use Rattle.fc_changes.specs.old.Owed.{IsWritten}
use Rattle.fc_squash.specs.Places.{Leaves}
use Rattle.fc_squash.specs.Sliding.{TellsAsBefore, TimeGoesOn}
use Rattle.fc_tree.specs.Nodes.{nodes_of}
use Rattle.fc_volume.specs.OldCompacting.{DirectoriesWrittenBy, HaveDirectories, marks}
use Rattle.fc_volume.proofs.old.compacting.writing.write_directories.Given as goal

-- the directories so far are written
abbrev pub invariant-loop-n : goal.invariant-loop-n
invariant-loop-n g l = record {
  form : SameForm g.D.Disk l.fn.disk l.disk;
  written : DirectoriesWrittenBy g.D.Disk l.fn.disk l.disk l.map (nodes_of l.tree) (marks l.spares) l.n;
  places : (sectors : List ℕ) → HaveDirectories l.map (nodes_of l.tree) sectors → Leaves g.D.Disk l.fn.disk l.disk (IsWritten l.map sectors);
  stops : TimeGoesOn g.D.Disk l.fn.disk l.disk;
  told : TellsAsBefore g.D.Disk l.fn.disk l.disk;
  settled : g.D.Disk.pending l.disk ≡ false;
  faults : g.D.Disk.faults l.fn.disk ≤ g.D.Disk.faults l.disk;
}
