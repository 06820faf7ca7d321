use Rattle.std.proofs.Common.{◌≡◌, ◌+◌, ◌++◌, ◌∷◌, [], List, ℕ, ap, arith, sym, ◌∙◌}
use Rattle.std.specs.List.{range_with_len}
use Rattle.fc_newmap.proofs.CoverLemmas.{range_cut}
use Rattle.fc_tree.proofs.index.numbers_below.Goals as goal

pub loop-n-preserved : goal.loop-n-preserved
loop-n-preserved c =
    let n = c.loop-n.n in
    let here : 0 + n ≡ n = omega arith in
    c.in_ok-push.ensures.items ∙ ap (λ (l : List ℕ). l ++ n ∷ []) c.loop-n.invariant ∙ sym (range_cut 0 n 1 ∙ ap (λ (k : ℕ). range_with_len 0 n ++ range_with_len k 1) here)
