use Rattle.std.proofs.Common.{rules, arith, ◌+◌, ℕ, List, drop, slice_index_or, subst}
use Rattle.fc_format.proofs.ZoneLemmas.{LaidUpTo, next_owned, run_more, same_shape}
use Rattle.fc_format.proofs.zones.lay_out.Goals as goal

pub loop-run-preserved : goal.loop-run-preserved
loop-run-preserved c =
    let shape = c.args.shape.now in
    let all = c.args.owned.now in
    let i = c.loop-run.run-index in
    let was = c.loop-run.invariant in
    let here = subst (λ (l : List (ℕ × ℕ)). LaidUpTo shape c.args.b.now c.loop-run.b c.loop-run.at l all) (next_owned all i c.loop-run-test.true) was.laid in
    record {
      bytes = λ i. omega (arith, c.type_inv.b i);
      shape = same_shape shape c.loop-run.b c.take_front.new.b (search rules) was.shape;
      laid = run_more shape c.args.b.now c.loop-run.b c.take_front.new.b c.loop-run.at (slice_index_or all i (0, 0)) (drop (i + 1) all) all here (c.take_front.ensures c.args.b.now);
    }
