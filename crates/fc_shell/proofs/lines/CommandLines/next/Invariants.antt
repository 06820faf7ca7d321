use Rattle.std.proofs.Common.{◌≡◌}
use Rattle.fc_shell.specs.Left.{commands_left, size_left, text_left}
use Rattle.fc_shell.proofs.lines.CommandLines.next.Given as goal

abbrev pub invariant-loop-self : goal.invariant-loop-self
invariant-loop-self l = commands_left l.fn.self ≡ commands_left l.self

abbrev pub decreases-loop-self : goal.decreases-loop-self
decreases-loop-self l = size_left (text_left l.self)
