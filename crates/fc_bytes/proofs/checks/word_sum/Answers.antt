use Rattle.std.proofs.Common.{◌≡◌, ◌+◌, ◌-◌, ◌^◌, ap, ◌∙◌, arith, refl}
use Rattle.std.proofs.Math.Seq.{drop-length}
use Rattle.std.proofs.lemmas.List.{take_rest}
use Rattle.byteorder.specs.Endian.{little_number}
use Rattle.fc_bytes.specs.Checks.{carry_sum}
use Rattle.fc_bytes.proofs.WordLemmas.{carry_sum-drop}
use Rattle.fc_bytes.proofs.checks.word_sum.Goals as goal

pub loop-i-init : goal.loop-i-init
unfolding carry_sum
loop-i-init c = record { whole = c.requires; within = omega arith; sum = rw (drop-length c.args.bytes.now) refl; below = omega arith }

pub loop-i-preserved : goal.loop-i-preserved
loop-i-preserved c =
    let bs = c.args.bytes.now in
    let i = c.loop-i.i in
    let before = c.loop-i.invariant in
    let whole : (i - 4) + 4 ≡ i = omega arith in
    record {
      whole = omega arith;
      within = omega arith;
      sum = carry_sum-drop (2 ^ 32) bs (i - 4) i c.loop-i.sum c.from.result whole before.within before.sum (c.from.ensures ∙ c.read_u32-word.ensures ∙ ap (little_number 4) (take_rest bs (i - 4)));
      below = omega arith;
    }
