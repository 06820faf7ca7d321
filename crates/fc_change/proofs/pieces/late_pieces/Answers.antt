use Rattle.std.proofs.Common.{List, ◌++◌, ◌∷◌, [], take, refl, sym, ap, subst, ◌∙◌}
use Rattle.std.specs.Prelude.{Contains}
use Rattle.std.proofs.lemmas.List.{take_more}
use Rattle.std.proofs.lemmas.List.Elements.{Contains-get_or}
use Rattle.fc_change.specs.declared.change.Says.{Says}
use Rattle.fc_change.specs.Held.{parts_of}
use Rattle.fc_change.specs.Prepared.{ArePiecesOf}
use Rattle.fc_change.proofs.PieceLemmas.{pieces_append}
use Rattle.fc_change.proofs.pieces.late_pieces.Goals as goal

pub push_late-requires : goal.push_late-requires
push_late-requires c = c.requires c.said-item.result (subst (Contains c.args.says.now) (sym c.said-item.is) (Contains-get_or c.args.says.now c.loop-said.said-index _ c.loop-said-test.true))

pub loop-said-preserved : goal.loop-said-preserved
loop-said-preserved c =
    let h = parts_of c.args.held.now in
    let says = c.args.says.now in
    let i = c.loop-said.said-index in
    let one = c.in_ok-push_late.ensures in
    let s = c.said-item.result in
    subst (λ (ss : List Says). ArePiecesOf h.layout h.nodes c.args.grown.now ss c.push_late.new.pieces.items)
    (sym (take_more says i _ c.loop-said-test.true ∙ ap (λ (q : Says). take i says ++ q ∷ []) (sym c.said-item.is)))
    (pieces_append h.layout h.nodes c.args.grown.now (take i says) (s ∷ []) (take i says ++ s ∷ []) c.loop-said.pieces.items one.more c.push_late.new.pieces.items c.loop-said.invariant one.are refl one.after)
