use Rattle.std.proofs.Common.{◌≤◌, ◌-◌, length}
use Rattle.fc_shell.specs.Script.{Gave}
use Rattle.fc_shell.proofs.script.read_script.Given as goal

abbrev pub invariant-loop-piece : goal.invariant-loop-piece
invariant-loop-piece g l =
    let source = g.S.Source in
    Gave (source.left l.fn.script) (source.left l.script) l.bytes.items × (source.faults l.fn.script ≤ source.faults l.script) × (length l.bytes.items ≤ 16777217)

abbrev pub decreases-loop-piece : goal.decreases-loop-piece
decreases-loop-piece g l = 16777217 - length l.bytes.items
