-- Where owners lie in the plans of their identifiers.
use Rattle.std.proofs.Common.{◌≡◌, ◌<◌, ℕ, zero, suc, ◌+◌, ◌==◌, Bool, true, false, cond, List, [], ◌∷◌, ◌++◌, length, get_or, take, ap, ◌∙◌, arith, Some, None, Option}
use Rattle.std.specs.Prelude.{filter}
use Rattle.std.specs.List.{find}
use Rattle.std.proofs.lemmas.List.{take_more}
use Rattle.std.proofs.lemmas.List.Elements.{filter-append}
use Rattle.fc_alloc.specs.declared.owner.Owner.{Owner}
use Rattle.fc_newmap.specs.Map.{Map}
use Rattle.fc_plan.specs.declared.plan.Plan.{Plan}
use Rattle.fc_tree.specs.Parts.{Parts}
use Rattle.fc_writing.specs.declared.ready.Piece.{Piece}
use Rattle.fc_writing.specs.declared.ready.Transfer.{Transfer}
use Rattle.fc_change.specs.declared.change.Says.{Says}
use Rattle.fc_change.specs.declared.spaces.GrownPlace.{GrownPlace}
use Rattle.fc_safecommands.specs.Anew.{AreTakenAlong, IsEarlyPiece, IsTakenAlong, PiecesAnew}

-- ---- the first of a list

pub find_more : {X : Type 0} (t : X → Bool) (xs : List X) (i : ℕ) (d : X) → i < length xs → find t (take i xs) ≡ None → t (get_or xs i d) ≡ false → find t (take (i + 1) xs) ≡ None
find_more t [] i d low e f = absurd (omega (arith, low))
find_more t (x ∷ xs) zero d low e f = ap (λ (b : Bool). cond b (Some x) None) f
find_more {X} t (x ∷ xs) (suc i) d low e f =
    ap (λ (n : ℕ). find t (take n (x ∷ xs))) (let s : suc i + 1 ≡ suc (i + 1) = omega arith in s) ∙ by (t x) e (find_more t xs i d (omega (arith, low)))
  where
    by : (b : Bool) → cond b (Some x) (find t (take i xs)) ≡ None → (find t (take i xs) ≡ None → t (get_or xs i d) ≡ false → find t (take (i + 1) xs) ≡ None) → cond b (Some x) (find t (take (i + 1) xs)) ≡ None
    by true g more = absurd (cc)
    by false g more = more g f

pub find_here : {X : Type 0} (t : X → Bool) (xs : List X) (i : ℕ) (d : X) → i < length xs → find t (take i xs) ≡ None → t (get_or xs i d) ≡ true → find t xs ≡ Some (get_or xs i d)
find_here t [] i d low e f = absurd (omega (arith, low))
find_here {X} t (x ∷ xs) zero d low e f = ap (λ (b : Bool). let o : Option X = cond b (Some x) (find t xs) in o) f
find_here {X} t (x ∷ xs) (suc i) d low e f = by (t x) e (find_here t xs i d (omega (arith, low)))
  where
    by : (b : Bool) → cond b (Some x) (find t (take i xs)) ≡ None → (find t (take i xs) ≡ None → t (get_or xs i d) ≡ true → find t xs ≡ Some (get_or xs i d)) → cond b (Some x) (find t xs) ≡ Some (get_or xs i d)
    by true g more = absurd (cc)
    by false g more = more g f

-- ---- one more

pub piece_more : (m : Map) (h : Parts) (plans : List Plan) (grown : Option GrownPlace) (says : List Says) (pieces : List Piece) (s : Says) (p : Piece) → PiecesAnew m h plans grown says pieces → IsEarlyPiece m h plans grown s p
    → PiecesAnew m h plans grown (says ++ s ∷ []) (pieces ++ p ∷ [])
piece_more m h plans grown [] [] s p before is = (is, tt)
piece_more m h plans grown [] (q ∷ pieces) s p before is = absurd before
piece_more m h plans grown (t ∷ says) [] s p before is = absurd before
piece_more m h plans grown (t ∷ says) (q ∷ pieces) s p before is = (before.0, piece_more m h plans grown says pieces s p before.1 is)

pub along_more : (m : Map) (h : Parts) (plans : List Plan) (owners : List Owner) (transfers : List Transfer) (o : Owner) (t : Transfer) → AreTakenAlong m h plans owners transfers → IsTakenAlong m h plans o t
    → AreTakenAlong m h plans (owners ++ o ∷ []) (transfers ++ t ∷ [])
along_more m h plans [] [] o t before is = (is, tt)
along_more m h plans [] (q ∷ transfers) o t before is = absurd before
along_more m h plans (p ∷ owners) [] o t before is = absurd before
along_more m h plans (p ∷ owners) (q ∷ transfers) o t before is = (before.0, along_more m h plans owners transfers o t before.1 is)

pub along_next : {X : Type 0} (t : X → Bool) (xs : List X) (i : ℕ) (d : X) → i < length xs → filter t (take (i + 1) xs) ≡ filter t (take i xs) ++ cond (t (get_or xs i d)) (get_or xs i d ∷ []) []
along_next t xs i d low = ap (filter t) (take_more xs i d low) ∙ filter-append t (take i xs) (get_or xs i d ∷ [])
