use Rattle.std.proofs.Common.{◌-◌, length, take, drop, sym, ap, ◌∙◌}
use Rattle.std.specs.List.{fold}
use Rattle.std.proofs.lemmas.List.{take_rest}
use Rattle.fc_bytes.specs.Words.{words, bytes_at}
use Rattle.fc_bytes.specs.Checks.{accumulate, byte_xor}
use Rattle.fc_bytes.proofs.WordLemmas.{accumulated-parts}
use Rattle.fc_bytes.proofs.checks.big_dir_check.Goals as goal

pub returns : goal.returns
returns c =
    let b = c.args.b.now in
    let tail = drop (length b - 8) b in
    let all = take_rest b (length b - 8) in
    let word = c.accumulate_words-sum-2.ensures ∙ ap (λ bytes. fold accumulate c.accumulate_words-sum.result (words (take 4 bytes))) all in
    let last = c.accumulate_bytes.ensures ∙ ap (λ bytes. fold accumulate c.accumulate_words-sum-2.result (take 3 (drop 4 bytes))) all in
    c.byte_xor.ensures ∙ ap byte_xor (sym (accumulated-parts (words (take c.args.upto b)) (words (take 4 tail)) (bytes_at tail 4 3) c.accumulate_words-sum.result c.accumulate_words-sum-2.result c.accumulate_bytes.result c.accumulate_words-sum.ensures word last))
