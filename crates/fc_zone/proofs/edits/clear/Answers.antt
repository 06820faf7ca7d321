use Rattle.std.proofs.Common.{◌≤◌, ◌+◌, length, ◌∙◌, inl, inr, arith}
use Rattle.fc_bytes.specs.Bits.{bits}
use Rattle.fc_bytes.specs.BitLaws.{length-bits, SameOutside-field, AreZero-written, AreZero-join}
use Rattle.fc_zone.proofs.edits.clear.Goals as goal

pub loop-at-preserved : goal.loop-at-preserved
loop-at-preserved c =
    let old = c.loop-at.b in
    let new = c.put_bits.new.b in
    let at = c.loop-at.at in
    let count = c.min-count.result in
    let inv = c.loop-at.invariant in
    let room : at + count ≤ length (bits old) = omega (arith, length-bits old, c.loop-at.auto.b) in
    let kept = SameOutside-field (bits old) (bits new) at count 0 c.put_bits.ensures.bits room in
    record {
      onward = omega arith;
      inside = omega arith;
      zeros = AreZero-join (bits new) c.args.from at (at + count) (λ k low high. kept k (inl high) ∙ inv.zeros k low high) (AreZero-written (bits old) (bits new) at count c.put_bits.ensures.bits room);
      same = λ k side. elim side [ inl low ↦ kept k (inl (omega arith)) ∙ inv.same k (inl low) | inr high ↦ kept k (inr high) ∙ inv.same k (inr (omega arith)) ];
    }
