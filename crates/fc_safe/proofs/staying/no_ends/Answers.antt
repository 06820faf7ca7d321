use Rattle.std.proofs.Common.{◌++◌, ◌∷◌, ◌∙◌, [], ℕ, List, ap, get_or, map, sym, take}
use Rattle.std.proofs.lemmas.List.{map-append, take_more}
use Rattle.fc_safe.proofs.staying.no_ends.Goals as goal

pub loop-preserved : goal.loop-preserved
loop-preserved c =
    let ids = c.args.ids.now in
    let i = c.loop.index in
    c.in_ok-push.ensures ∙ ap (λ (xs : List ℕ). xs ++ 0 ∷ []) c.loop.invariant
    ∙ sym (ap (map (λ (id : ℕ). 0)) (take_more ids i 0 c.loop-test.true) ∙ map-append (λ (id : ℕ). 0) (take i ids) (get_or ids i 0 ∷ []))
