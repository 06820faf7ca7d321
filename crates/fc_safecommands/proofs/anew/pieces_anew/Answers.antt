use Rattle.std.proofs.Common.{◌≡◌, ◌++◌, ◌∷◌, ◌∙◌, ◌<◌, [], List, ap, subst, sym, take, get_or, length}
use Rattle.std.proofs.lemmas.List.{take_more}
use Rattle.fc_change.specs.declared.change.Says.{Says}
use Rattle.fc_change.specs.Held.{parts_of}
use Rattle.fc_writing.specs.declared.ready.Piece.{Piece}
use Rattle.fc_safecommands.specs.Anew.{PiecesAnew}
use Rattle.fc_safecommands.proofs.AnewLemmas.{piece_more}
use Rattle.fc_safecommands.proofs.anew.pieces_anew.Goals as goal

pub loop-said-preserved : goal.loop-said-preserved
loop-said-preserved c =
    let m = c.args.map.now in
    let h = parts_of c.args.held.now in
    let plans = c.args.plans.now in
    let grown = c.args.grown.now in
    let says : List Says = c.args.change.now.says.items in
    let i = c.loop-said.said-index in
    let low : i < length says = subst (λ (ss : List Says). i < length ss) c.deref-said-items.ensures.value c.loop-said-test.true in
    let one : get_or says i c.said-item.result ≡ c.said-item.result = ap (λ (ss : List Says). get_or ss i c.said-item.result) (sym c.deref-said-items.ensures.value) ∙ sym c.said-item.is in
    subst (λ (ss : List Says). PiecesAnew m h plans grown ss c.push.new.list.items) (sym (take_more says i c.said-item.result low ∙ ap (λ (s : Says). take i says ++ s ∷ []) one))
    (subst (λ (ps : List Piece). PiecesAnew m h plans grown (take i says ++ c.said-item.result ∷ []) ps) (sym c.in_ok-push.ensures)
    (piece_more m h plans grown (take i says) c.loop-said.pieces.items c.said-item.result c.in_ok-piece.piece c.loop-said.invariant c.in_ok-piece.ensures))
