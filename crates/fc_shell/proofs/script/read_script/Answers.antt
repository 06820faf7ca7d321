use Rattle.std.proofs.Common.{◌≡◌, length, arith}
use Rattle.fc_shell.proofs.ScriptLemmas.{too_long}
use Rattle.fc_shell.proofs.script.read_script.Goals as goal

pub returns-clause-script : goal.returns-clause-script
returns-clause-script g c =
    let left = g.S.Source.left in
    let all : length c.loop-piece.bytes.items ≡ 16777217 = omega (arith, c.loop-piece.invariant.2, c.loop-piece-test.false, c.len.ensures) in
    too_long (left c.args.script.now) (left c.loop-piece.script) c.loop-piece.bytes.items all c.loop-piece.invariant.0
