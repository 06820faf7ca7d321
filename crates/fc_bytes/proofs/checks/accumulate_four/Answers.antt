use Rattle.std.proofs.Common.{drop, sym, ap, ◌∙◌}
use Rattle.std.specs.List.{fold}
use Rattle.std.proofs.lemmas.List.{take_rest}
use Rattle.byteorder.specs.Endian.{little_number}
use Rattle.fc_bytes.specs.Words.{words}
use Rattle.fc_bytes.specs.Checks.{accumulate}
use Rattle.fc_bytes.proofs.TurnLemmas.{taken_four}
use Rattle.fc_bytes.proofs.WordLemmas.{words-four}
use Rattle.fc_bytes.proofs.checks.accumulate_four.Goals as goal

pub returns : goal.returns
returns c =
    let bs = c.args.bytes.now in
    let sum = c.args.sum in
    let rest = words (drop 16 bs) in
    let first = c.read_u32-a.ensures in
    let second = c.read_u32-b.ensures ∙ ap (little_number 4) (take_rest bs 4) in
    let third = c.read_u32-c.ensures ∙ ap (little_number 4) (take_rest bs 8) in
    let fourth = c.read_u32-d.ensures ∙ ap (little_number 4) (take_rest bs 12) in
    let taken = taken_four sum c.read_u32-a.result c.read_u32-b.result c.read_u32-c.result c.read_u32-d.result c.ranges.sum.fits c.read_u32-a.type_inv c.read_u32-b.type_inv c.read_u32-c.type_inv in
    rw (c.rotate_right.ensures, c.rotate_right-2.ensures, c.rotate_right-3.ensures, c.rotate_right-4.ensures)
    (ap (λ n. fold accumulate n rest) taken
    ∙ (λ i. fold accumulate (accumulate (accumulate (accumulate (accumulate sum (first i)) (second i)) (third i)) (fourth i)) rest)
    ∙ sym (ap (fold accumulate sum) (words-four bs c.requires)))
