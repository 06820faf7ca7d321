use Rattle.std.proofs.Common.{◌≡◌, ◌+◌, ◌*◌, drop, sym, ap, ◌∙◌, arith}
use Rattle.std.specs.List.{fold}
use Rattle.std.proofs.lemmas.List.{drop-drop, take_rest}
use Rattle.fc_bytes.specs.Words.{words}
use Rattle.fc_bytes.specs.Checks.{accumulate}
use Rattle.fc_bytes.proofs.checks.accumulate_fours.Goals as goal

pub loop-i-preserved : goal.loop-i-preserved
loop-i-preserved c =
    let bs = c.args.bytes.now in
    let i = c.loop-i.i in
    let sum = c.loop-i.sum in
    let next : 16 * i + 16 ≡ 16 * (i + 1) = omega arith in
    let rest = take_rest bs (16 * i) in
    let behind = ap (drop 16) rest ∙ drop-drop 16 (16 * i) bs ∙ ap (λ n. drop n bs) next in
    ap (λ bytes. fold accumulate c.accumulate_four-sum.result (words bytes)) (sym behind) ∙ c.accumulate_four-sum.ensures
    ∙ ap (λ bytes. fold accumulate sum (words bytes)) rest ∙ c.loop-i.invariant
