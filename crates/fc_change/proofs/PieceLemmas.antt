-- Pieces of what is told, one after another.
use Rattle.std.proofs.Common.{◌≡◌, Bool, true, false, List, [], ◌∷◌, ◌++◌, Option, Some, None, filter, not, refl, sym, subst, eq-eqb}
use Rattle.std.proofs.lemmas.Bool.{ne_eqb}
use Rattle.std.proofs.lemmas.List.Elements.{filter-append}
use Rattle.fc_image.specs.Layout.{Layout}
use Rattle.fc_laws.specs.nodes.Edits.{Nodes}
use Rattle.fc_change.specs.declared.change.Says.{Says}
use Rattle.fc_writing.specs.declared.ready.Piece.{Piece}
use Rattle.fc_change.specs.declared.spaces.GrownPlace.{GrownPlace}
use Rattle.fc_change.specs.Prepared.{ArePiecesOf, IsDrafted, IsGrownPiece, IsLatePiece, IsMovedPiece, IsPieceIn, IsPieceOf, PiecesMatch, is_moved}

matches_append : (layout : Layout) (nodes : Nodes) (grown : Option GrownPlace) (ss ts : List Says) (ps qs : List Piece) → PiecesMatch layout nodes grown ss ps → PiecesMatch layout nodes grown ts qs → PiecesMatch layout nodes grown (ss ++ ts) (ps ++ qs)
matches_append layout nodes grown [] ts [] qs one two = two
matches_append layout nodes grown [] ts (p ∷ ps) qs one two = absurd one
matches_append layout nodes grown (s ∷ ss) ts [] qs one two = absurd one
matches_append layout nodes grown (s ∷ ss) ts (p ∷ ps) qs one two = (one.0, matches_append layout nodes grown ss ts ps qs one.1 two)

pub pieces_append : (layout : Layout) (nodes : Nodes) (grown : Option GrownPlace) (ss ts all : List Says) (ps qs now : List Piece) → ArePiecesOf layout nodes grown ss ps → ArePiecesOf layout nodes grown ts qs
    → all ≡ ss ++ ts → now ≡ ps ++ qs → ArePiecesOf layout nodes grown all now
pieces_append layout nodes grown ss ts all ps qs now one two are after =
    subst (λ (says : List Says). ArePiecesOf layout nodes grown says now) (sym are)
    (subst (λ (pieces : List Piece). ArePiecesOf layout nodes grown (ss ++ ts) pieces) (sym after)
    (subst (λ (says : List Says). PiecesMatch layout nodes grown says (ps ++ qs)) (sym (filter-append (λ (s : Says). not (is_moved grown s.node)) ss ts))
    (matches_append layout nodes grown (filter (λ (s : Says). not (is_moved grown s.node)) ss) (filter (λ (s : Says). not (is_moved grown s.node)) ts) ps qs one two)))

pub one_early : (grown : Option GrownPlace) (g : GrownPlace) (says : List Says) (ps : List Piece) → grown ≡ Some g → g.moves ≡ true → IsMovedPiece true g says ps → IsGrownPiece grown says ps
one_early grown g says ps is moves piece =
    subst (λ (o : Option GrownPlace). IsGrownPiece o says ps) (sym is) (subst (λ (b : Bool). IsMovedPiece b g says ps) (sym moves) piece)
