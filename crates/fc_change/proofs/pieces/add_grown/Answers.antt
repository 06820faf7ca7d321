use Rattle.std.proofs.Common.{◌∷◌, [], refl, ◌∙◌}
use Rattle.fc_change.proofs.PieceLemmas.{one_early}
use Rattle.fc_change.proofs.pieces.add_grown.Goals as goal

pub returns : goal.returns
returns c = (
  c.in_ok-piece.piece ∷ [],
  one_early c.args.grown.now c.in-Some.g c.args.says.now (c.in_ok-piece.piece ∷ []) c.in-Some.is c.if-not-g.false (
    c.said_of-said.result.now,
    c.said_of-said.ensures.told,
    c.said_of-said.ensures.node,
    c.in_ok-piece.piece,
    refl,
    c.in_ok-piece.ensures.place ∙ c.in_ok-copy_of.ensures ∙ c.deref.ensures.value,
    c.in_ok-piece.ensures.drafted,
  ),
  c.in_ok-push.ensures,
)
