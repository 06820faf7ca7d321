use Rattle.std.proofs.Common.{◌≡◌, ◌≤◌, ◌*◌, sum_by, take}
use Rattle.fc_dirs.specs.Big.{name_space}
use Rattle.fc_fit.specs.Misfits.{names_of}
use Rattle.fc_fit.proofs.fit.names_space.Given as goal

abbrev pub invariant-loop-e : goal.invariant-loop-e
invariant-loop-e l = record {
  value : l.space ≡ sum_by name_space (names_of (take l.e-index l.entries));
  most : l.space ≤ 256 * l.e-index;
}
