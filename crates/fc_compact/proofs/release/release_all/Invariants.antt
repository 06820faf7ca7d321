use Rattle.std.proofs.Common.{◌≡◌, ℕ, take}
use Rattle.fc_newmap.specs.Map.{runs_of}
use Rattle.fc_compact.specs.Joins.{EditsListed, all_freed, changed_runs}
use Rattle.fc_compact.proofs.release.release_all.Given as goal

abbrev pub invariant-loop-z : goal.invariant-loop-z
invariant-loop-z l = record {
  edits : EditsListed l.fn.map l.map l.changed;
  runs : (y : ℕ) → runs_of l.map y ≡ changed_runs (all_freed l.id) (take l.z-index l.changed) y (runs_of l.fn.map y);
}
