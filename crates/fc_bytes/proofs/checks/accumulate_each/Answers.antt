use Rattle.std.proofs.Common.{◌≡◌, ◌<◌, ◌+◌, ◌*◌, length, drop, ap, ◌∙◌, sym, arith}
use Rattle.std.specs.List.{fold}
use Rattle.std.proofs.lemmas.List.{length-drop, take_rest}
use Rattle.byteorder.specs.Endian.{little_number}
use Rattle.fc_bytes.specs.Words.{words, u32_at}
use Rattle.fc_bytes.specs.Checks.{accumulate}
use Rattle.fc_bytes.proofs.WordLemmas.{words-drop, words-few}
use Rattle.fc_bytes.proofs.checks.accumulate_each.Goals as goal

pub loop-i-preserved : goal.loop-i-preserved
loop-i-preserved c =
    let bs = c.args.bytes.now in
    let i = c.loop-i.i in
    let next : 4 * i + 4 ≡ 4 * (i + 1) = omega arith in
    let split = ap (fold accumulate c.loop-i.sum) (words-drop bs (4 * i) (omega arith)) in
    ap (λ sum. fold accumulate sum (words (drop (4 * (i + 1)) bs))) (c.accumulate-sum.ensures ∙ ap (accumulate c.loop-i.sum) (c.read_u32.ensures ∙ ap (little_number 4) (take_rest bs (4 * i))))
    ∙ sym (split ∙ ap (λ n. fold accumulate (accumulate c.loop-i.sum (u32_at bs (4 * i))) (words (drop n bs))) next)
    ∙ c.loop-i.invariant

pub returns : goal.returns
returns c =
    let bs = c.args.bytes.now in
    let few : length (drop (4 * c.loop-i.i) bs) < 4 = omega (arith, length-drop (4 * c.loop-i.i) bs) in
    sym (ap (fold accumulate c.loop-i.sum) (words-few (drop (4 * c.loop-i.i) bs) few)) ∙ c.loop-i.invariant
