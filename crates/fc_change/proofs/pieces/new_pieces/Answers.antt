use Rattle.std.proofs.Common.{ℕ, sym, subst}
use Rattle.std.proofs.lemmas.Result.{IfOk-weaker}
use Rattle.fc_dirs.specs.declared.Entry.{Entry}
use Rattle.fc_change.specs.declared.change.Turned.{Turned}
use Rattle.fc_change.specs.declared.change.Turned.TheVariants as turns
use Rattle.fc_change.specs.Prepared.{IsNewPiece}
use Rattle.fc_change.proofs.pieces.new_pieces.Goals as goal

pub returns-in-Comes : goal.returns-in-Comes
returns-in-Comes c =
    let w = c.in-Comes in
    IfOk-weaker c.made_pieces.result (λ pieces. (dir : ℕ) (e : Entry) → IsNewPiece (turns.Comes dir e w.draft) c.args.place.now pieces.items) (λ pieces. IsNewPiece c.args.object.now c.args.place.now pieces.items)
    (λ pieces all. subst (λ (o : Turned). IsNewPiece o c.args.place.now pieces.items) (sym w.is) (all w.field-0 w.field-1)) c.made_pieces.ensures
