-- A walk that goes past holes.
use Rattle.std.proofs.Common.{◌≡◌, ℕ, Bool, true, false, cond, List, [], ◌∷◌, ◌++◌, sym, ap, subst, ◌∙◌}
use Rattle.fc_zone.specs.declared.Run.{Run}
use Rattle.fc_zone.specs.declared.ZoneShape.{ZoneShape}
use Rattle.fc_zone.specs.declared.cursor.Cursor.{Cursor}
use Rattle.fc_zone.specs.Cursor.{StandsBetween}
use Rattle.fc_newmap.specs.Map.{is_hole}
use Rattle.fc_reclaim.specs.Zone.{behind_holes}

-- of these runs it has passed some holes
pub record HasPassed (shape : ZoneShape) (b : List ℕ) (left : List Run) (past : Cursor) : Type 0 where
  pub passed : List Run
  pub rest : List Run
  pub stands : StandsBetween shape b passed rest past
  pub same : behind_holes left ≡ behind_holes rest

pub past_on : (shape : ZoneShape) (b : List ℕ) (left : List Run) (past ahead : Cursor) (next : Run) → (is : HasPassed shape b left past) → is_hole next.kind ≡ true
    → (rest : List Run) × ((is.rest ≡ next ∷ rest) × StandsBetween shape b (is.passed ++ next ∷ []) rest ahead) → HasPassed shape b left ahead
past_on shape b left past ahead next is hole step = record {
  passed = is.passed ++ next ∷ [];
  rest = step.0;
  stands = step.1.1;
  same = is.same ∙ ap behind_holes step.1.0 ∙ ap (λ (t : Bool). cond t (behind_holes step.0) (next ∷ step.0)) hole;
}

pub past_stops : (shape : ZoneShape) (b : List ℕ) (left : List Run) (past : Cursor) (next : Run) (rest : List Run) → (is : HasPassed shape b left past) → is_hole next.kind ≡ false → is.rest ≡ next ∷ rest
    → (passed : List Run) × StandsBetween shape b passed (behind_holes left) past
past_stops shape b left past next rest is other step =
    (is.passed, subst (λ (rs : List Run). StandsBetween shape b is.passed rs past) (step ∙ sym (is.same ∙ ap behind_holes step ∙ ap (λ (t : Bool). cond t (behind_holes rest) (next ∷ rest)) other)) is.stands)

pub past_ends : (shape : ZoneShape) (b : List ℕ) (left : List Run) (past : Cursor) → (is : HasPassed shape b left past) → is.rest ≡ [] → (passed : List Run) × StandsBetween shape b passed (behind_holes left) past
past_ends shape b left past is none = (is.passed, subst (λ (rs : List Run). StandsBetween shape b is.passed rs past) (none ∙ sym (is.same ∙ ap behind_holes none)) is.stands)
