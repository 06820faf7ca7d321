use Rattle.std.proofs.Common.{◌<◌, ◌++◌, ◌∷◌, ◌∙◌, [], ℕ, List, ap, ap₂, append_assoc, arith, get_or, length, sym, take, Some}
use Rattle.std.proofs.lemmas.Grind.{get_or_default_zero}
use Rattle.fc_safe.specs.Moving.{paired_needs}
use Rattle.fc_safe.specs.declared.needs.Need.{Need}
use Rattle.fc_safe.proofs.MovingLemmas.{paired_more}
use Rattle.fc_safe.proofs.moving.push_moved.Goals as goal

pub loop-i-preserved : goal.loop-i-preserved
loop-i-preserved c =
    let ids : List ℕ = c.args.moved.now.ids.items in
    let ends : List ℕ = c.args.moved.now.ends.items in
    let old : List Need = c.args.needs.now.items in
    let i = c.loop-i.i in
    let one : Need = record { id = Some (get_or ids i 0); bytes = get_or ends i 0 } in
    let test = c.loop-i-test.true in
    let end = c.len-i-end.ensures in
    let low : i < length ids = omega (arith, test, end) in
    let many = c.requires in
    c.in_ok-push.ensures
    ∙ ap₂ (λ (a b : ℕ). c.loop-i.needs.items ++ (let n : Need = record { id = Some a; bytes = b } in n) ∷ [])
    (c.index.ensures ∙ get_or_default_zero ids i c.index.result.now low) (c.index-in-loop-i.ensures ∙ get_or_default_zero ends i c.index-in-loop-i.result.now (omega (arith, low, many)))
    ∙ ap (λ (ns : List Need). ns ++ one ∷ []) c.loop-i.invariant
    ∙ append_assoc old (paired_needs (take i ids) (take i ends)) (one ∷ [])
    ∙ ap (λ (ns : List Need). old ++ ns) (sym (paired_more ids ends i low c.requires))
