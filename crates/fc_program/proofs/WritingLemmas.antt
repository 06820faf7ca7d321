-- Parts of texts, one after another.
use Rattle.std.proofs.Common.{◌≡◌, ℕ, ◌+◌, ◌≤◌, List, ◌++◌, take, drop, Option, Some, None, option_map, ap, sym, subst, ◌∙◌, arith, append_assoc}
use Rattle.std.proofs.lemmas.List.{take-take}
use Rattle.std.proofs.Math.Seq.{take-add}
use Rattle.fc_program.specs.Writing.{Wrote}

-- one text after another
pub wrote_both : (before mid after : Option (List ℕ)) (a b : List ℕ) → Wrote before mid a → Wrote mid after b → Wrote before after (a ++ b)
wrote_both None mid after a b first second = second ∙ ap (option_map (λ taken. taken ++ b)) first
wrote_both (Some taken) mid after a b first second = second ∙ ap (option_map (λ taken. taken ++ b)) first ∙ ap Some (append_assoc taken a b)

-- a piece goes on from `at`
pub wrote_more : (before mid after : Option (List ℕ)) (piece : List ℕ) (at n k : ℕ) → n ≤ k → Wrote before mid (take at piece)
    → Wrote mid after (take n (take k (drop at piece))) → Wrote before after (take (at + n) piece)
wrote_more before mid after piece at n k fits first second =
    let same : take at piece ++ take n (take k (drop at piece)) ≡ take (at + n) piece = ap (λ rest. take at piece ++ rest) (take-take n k (drop at piece) fits) ∙ sym (take-add at n piece) in
    subst (Wrote before after) same (wrote_both before mid after (take at piece) (take n (take k (drop at piece))) first second)
