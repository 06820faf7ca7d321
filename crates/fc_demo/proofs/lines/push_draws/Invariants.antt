use Rattle.std.proofs.Common.{◌≡◌, ◌++◌, ◌-◌}
use Rattle.fc_runs.specs.Demo.{demo_lines}
use Rattle.fc_demo.proofs.lines.push_draws.Given as goal

abbrev pub invariant-loop-i : goal.invariant-loop-i
invariant-loop-i l = l.fn.into.items ++ demo_lines l.n 0 l.n ≡ l.into.items ++ demo_lines (l.n - l.i) l.i l.x
