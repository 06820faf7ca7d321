use Rattle.std.proofs.Common.{◌∷◌, ◌++◌, [], List, Option, Some, sym, ap, subst, ◌∙◌}
use Rattle.fc_drafts.specs.declared.draft.Draft.{Draft}
use Rattle.fc_writing.specs.declared.ready.Piece.{Piece}
use Rattle.fc_change.specs.declared.change.Turned.TheVariants as turns
use Rattle.fc_change.specs.declared.spaces.Place.{Place}
use Rattle.fc_change.specs.Prepared.{IsNewPiece}
use Rattle.fc_change.proofs.pieces.made_pieces.Goals as goal

pub returns : goal.returns
returns c dir e =
    let items = c.push.new.list.items in
    subst (λ (f : Option Draft). IsNewPiece (turns.Comes dir e f) c.args.place.now items) (sym c.in-Some.is)
    (subst (λ (p : Option Place). IsNewPiece (turns.Comes dir e (Some c.in-Some.draft)) p items) (sym c.in-Some-place.is) (
      c.in_ok-piece.piece,
      c.in_ok-push.ensures ∙ ap (λ (ps : List Piece). ps ++ c.in_ok-piece.piece ∷ []) c.new-pieces.ensures.items,
      c.in_ok-piece.ensures.place ∙ c.in_ok-copy_of.ensures ∙ c.deref.ensures.value,
      c.in_ok-piece.ensures.drafted,
    ))
