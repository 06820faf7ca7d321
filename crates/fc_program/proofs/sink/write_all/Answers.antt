use Rattle.std.proofs.Common.{◌≤◌, length, ◌-◌, arith}
use Rattle.fc_program.proofs.WritingLemmas.{wrote_more}
use Rattle.fc_program.proofs.sink.write_all.Goals as goal

pub loop-at-preserved : goal.loop-at-preserved
loop-at-preserved g c =
    let k = g.K.Sink.taken in
    let fits : c.in_ok-at.field-0 ≤ length c.args.piece.now - c.loop-at.at = omega (arith, c.in_ok-at.ensures.bound, c.loop-at.invariant.within) in
    record {
      within = omega (arith, fits, c.loop-at.invariant.within);
      wrote = wrote_more (k c.args.out.now) (k c.loop-at.out) (k c.write.new.self) c.args.piece.now c.loop-at.at c.in_ok-at.field-0 (length c.args.piece.now - c.loop-at.at) fits
          c.loop-at.invariant.wrote c.in_ok-at.ensures.takes;
      faults = omega (arith, c.loop-at.invariant.faults, c.write.ensures.cause.later);
    }
