use Rattle.std.proofs.Common.{◌≡◌, ℕ, take}
use Rattle.fc_newmap.specs.Map.{runs_of}
use Rattle.fc_image.specs.effects.Moves.{with_holes_joined}
use Rattle.fc_compact.specs.Joins.{EditsListed, changed_runs}
use Rattle.fc_compact.proofs.holes.join_holes.Given as goal

abbrev pub invariant-loop-z : goal.invariant-loop-z
invariant-loop-z l = record {
  edits : EditsListed l.fn.map l.map l.changed;
  runs : (y : ℕ) → runs_of l.map y ≡ changed_runs with_holes_joined (take l.z-index l.changed) y (runs_of l.fn.map y);
}
