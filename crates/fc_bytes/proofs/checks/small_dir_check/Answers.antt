use Rattle.std.proofs.Common.{◌≡◌, ◌-◌, ◌*◌, ◌/◌, ◌%◌, take, drop, sym, ap, ◌∙◌, arith}
use Rattle.std.specs.List.{fold}
use Rattle.fc_bytes.specs.Words.{words, bytes_at}
use Rattle.fc_bytes.specs.Checks.{accumulate, byte_xor}
use Rattle.fc_bytes.proofs.WordLemmas.{accumulated-parts}
use Rattle.fc_bytes.proofs.checks.small_dir_check.Goals as goal

pub returns : goal.returns
returns c =
    let b = c.args.b.now in
    let end = c.args.end in
    let left : end - end / 4 * 4 ≡ end % 4 = omega arith in
    let over = c.accumulate_bytes-sum.ensures ∙ ap (λ n. fold accumulate c.accumulate_words-sum.result (take n (drop (end / 4 * 4) b))) left in
    c.byte_xor.ensures ∙ ap byte_xor (sym (accumulated-parts (words (take end b)) (bytes_at b (end / 4 * 4) (end % 4)) (words (bytes_at b 2008 36)) c.accumulate_words-sum.result c.accumulate_bytes-sum.result c.accumulate_words.result c.accumulate_words-sum.ensures over c.accumulate_words.ensures))
