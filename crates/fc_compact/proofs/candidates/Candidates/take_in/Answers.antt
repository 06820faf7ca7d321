use Rattle.std.proofs.Common.{false, length, ap, arith}
use Rattle.fc_compact.proofs.CandidatesLemmas.{taken_more}
use Rattle.fc_compact.proofs.candidates.Candidates.take_in.Goals as goal

pub loop-i-init : goal.loop-i-init
loop-i-init c = record {
  rises = λ i j less lt. absurd (let e = ap length c.clear.ensures in omega (arith, e, lt));
  taken = λ o there several. absurd (let l = there.1 in omega arith);
  none = λ e. c.clear.ensures;
}

pub loop-i-preserved : goal.loop-i-preserved
loop-i-preserved c = record {
  rises = c.put_several.ensures.rises;
  taken = taken_more c.args.seen.now c.loop-i.self.ids.items c.put_several.new.self.ids.items c.args.list.now c.loop-i.i (omega (arith, c.loop-i-test.true)) record { id = 0; dir = 0; node = 0; file = false; low = 0; first = 0; sectors = 0 }
      c.put_several.ensures.there c.put_several.ensures.others c.loop-i.invariant.taken;
  none = λ e. absurd (omega (arith, e));
}
