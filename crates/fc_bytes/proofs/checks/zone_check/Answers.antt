use Rattle.std.proofs.Common.{◌+◌, ◌/◌, ◌%◌, ◌^◌, ◌<◌, slice_index, ap, ◌∙◌, arith}
use Rattle.std.proofs.lemmas.List.{take_rest}
use Rattle.fc_bytes.specs.Words.{words}
use Rattle.fc_bytes.specs.Checks.{byte_xor, carry_sum}
use Rattle.fc_bytes.proofs.WordLemmas.{carry_sum-first}
use Rattle.fc_bytes.proofs.checks.zone_check.Goals as goal

pub returns : goal.returns
returns c =
    let byte : slice_index c.args.b.now 0 < 256 = omega (arith, c.type_inv.b 0) in
    let rest = ap (λ bytes. carry_sum (2 ^ 32) 0 (words bytes)) (take_rest c.args.b.now 4) in
    let sum = carry_sum-first (2 ^ 32) c.args.b.now c.word_sum-sum.result c.read_u32.result (omega arith) byte (c.word_sum-sum.ensures.sum ∙ rest) c.read_u32.ensures in
    c.byte_xor.ensures ∙ ap (λ n. byte_xor (n % 2 ^ 32)) (ap (λ w. c.word_sum-sum.result % 2 ^ 32 + c.word_sum-sum.result / 2 ^ 32 + w) c.from.ensures ∙ sum)
