use Rattle.std.proofs.Common.{ℕ, ◌+◌, ◌*◌, ap, ◌∙◌, sym, map, slice_index, [], ◌∷◌, arith}
use Rattle.std.specs.List.{range_with_len}
use Rattle.std.specs.Int.Bits.{bit_xor}
use Rattle.std.proofs.lemmas.List.Sums.{fold-append}
use Rattle.std.proofs.lemmas.List.FromFn.{map-range_with_len_more}
use Rattle.fc_bytes.specs.Checks.{xor_all}
use Rattle.fc_bytes.proofs.checks.cross_total.Goals as goal

pub loop-z-preserved : goal.loop-z-preserved
loop-z-preserved c =
    let cross = λ (z : ℕ). slice_index c.args.map.now (z * c.args.sector + 3) in
    let z = c.loop-z.z in
    let more = map-range_with_len_more cross 0 z z (omega arith) in
    ap (λ total. bit_xor total (cross z)) c.loop-z.invariant ∙ sym (ap xor_all more ∙ fold-append bit_xor 0 (map cross (range_with_len 0 z)) (cross z ∷ []))
