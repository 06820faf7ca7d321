use Rattle.std.proofs.Common.{◌≡◌, ◌++◌, ℕ, suc, ◌+◌, ◌-◌, sym, ap, ◌∙◌, arith}
use Rattle.fc_runs.specs.Demo.{demo_lines}
use Rattle.fc_demo.proofs.LineLemmas.{lines_left, no_lines}
use Rattle.fc_demo.proofs.lines.push_draws.Goals as goal

pub loop-i-preserved : goal.loop-i-preserved
loop-i-preserved c =
    let n = c.args.n in
    let i = c.loop-i.i in
    let left : n - i ≡ suc (n - (i + 1)) = omega (arith, c.loop-i-test.true) in
    c.loop-i.invariant ∙ lines_left (n - (i + 1)) i (n - i) c.loop-i.x c.in_ok-x.x c.loop-i.into.items c.push_draw.new.into.items left c.in_ok-x.ensures

pub returns : goal.returns
returns c =
    let none : c.args.n - c.loop-i.i ≡ 0 = omega (arith, c.loop-i-test.false) in
    sym (c.loop-i.invariant ∙ ap (λ (k : ℕ). c.loop-i.into.items ++ demo_lines k c.loop-i.i c.loop-i.x) none ∙ no_lines c.loop-i.i c.loop-i.x c.loop-i.into.items)
