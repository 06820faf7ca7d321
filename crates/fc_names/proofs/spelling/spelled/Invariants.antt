use Rattle.std.proofs.Common.{◌≡◌, ◌≤◌, ◌*◌, length, take}
use Rattle.fc_names.specs.Paths.{spelled_name}
use Rattle.fc_names.proofs.spelling.spelled.Given as goal

abbrev pub invariant-loop-c : goal.invariant-loop-c
invariant-loop-c l = (l.text.items ≡ spelled_name (take l.c-index l.name)) × (length l.text.items ≤ 3 * l.c-index)
