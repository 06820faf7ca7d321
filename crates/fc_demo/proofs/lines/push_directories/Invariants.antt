use Rattle.std.proofs.Common.{◌≡◌, ◌++◌, codes}
use Rattle.std.specs.List.{flat_map, range_with_len}
use Rattle.fc_runs.specs.Demo.{dir_path, with_newline}
use Rattle.fc_demo.proofs.lines.push_directories.Given as goal

abbrev pub invariant-loop-d : goal.invariant-loop-d
invariant-loop-d l = l.into.items ≡ l.fn.into.items ++ flat_map (λ d. with_newline (codes "cdir " ++ dir_path d)) (range_with_len 0 l.d)
