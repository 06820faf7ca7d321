-- Holes that touch, as one.
use Rattle.std.proofs.Common.{◌≡◌, ℕ, ◌+◌, Bool, true, false, cond, List, [], ◌∷◌, refl, sym, ap, ◌∙◌, arith}
use Rattle.std.specs.Prelude.{◌&&◌, filter}
use Rattle.fc_zone.specs.declared.Run.{Run}
use Rattle.fc_zone.specs.declared.RunKind.{RunKind}
use Rattle.fc_zone.specs.declared.RunKind.TheVariants as kinds
use Rattle.fc_newmap.specs.Map.{ZoneRun, has_id, is_hole}
use Rattle.fc_newmap.specs.RunsLaw.{placed}
use Rattle.fc_image.specs.effects.Moves.{before_holes, with_holes_joined}
use Rattle.fc_compact.specs.Joins.{are_holes, hole_or_next, joined, passed}
use Rattle.fc_record.proofs.KindLemmas.{and_first as first_hole, and_second as second_hole}
use Rattle.fc_compact.proofs.HoldLemmas.{hole_kind}

-- two holes, the first before others
before_hole : (one two : Run) (runs : List Run) → are_holes one two ≡ true → before_holes one (two ∷ runs) ≡ joined one two ∷ runs
before_hole one two runs e = ap (λ b. cond b (joined one two ∷ runs) (one ∷ (two ∷ runs))) e

-- and two runs that aren't both holes
before_other : (one two : Run) (runs : List Run) → are_holes one two ≡ false → before_holes one (two ∷ runs) ≡ one ∷ (two ∷ runs)
before_other one two runs e = ap (λ b. cond b (joined one two ∷ runs) (one ∷ (two ∷ runs))) e

same_second : (a b c : Bool) → (a && b) ≡ true → (a && c) ≡ (b && c)
same_second true true c e = refl
same_second true false c e = absurd (cc)
same_second false b c e = absurd (cc)

-- The first of the runs is done: it becomes one hole with the next, or it stays.
pub pair_joined : (run next : Run) (rest : List Run) → with_holes_joined (run ∷ (next ∷ rest)) ≡ passed run next (with_holes_joined (hole_or_next run next ∷ rest))
pair_joined run next rest = by (are_holes run next) refl
  where
    both : (w : List Run) → are_holes run next ≡ true → before_holes run (before_holes next w) ≡ before_holes (joined run next) w
    both [] e = before_hole run next [] e
    both (h ∷ t) e = more (are_holes next h) refl
      where
        more : (b : Bool) → are_holes next h ≡ b → before_holes run (before_holes next (h ∷ t)) ≡ before_holes (joined run next) (h ∷ t)
        more true f =
            ap (before_holes run) (before_hole next h t f) ∙ before_hole run (joined next h) t e
            ∙ ap (λ (n : ℕ). record run { len = n } ∷ t) (let s : run.len + (next.len + h.len) ≡ run.len + next.len + h.len = omega arith in s)
            ∙ sym (before_hole (joined run next) h t (same_second (is_hole run.kind) (is_hole next.kind) (is_hole h.kind) e ∙ f))
        more false f =
            ap (before_holes run) (before_other next h t f) ∙ before_hole run next (h ∷ t) e
            ∙ sym (before_other (joined run next) h t (same_second (is_hole run.kind) (is_hole next.kind) (is_hole h.kind) e ∙ f))

    other : (w : List Run) → are_holes run next ≡ false → before_holes run (before_holes next w) ≡ run ∷ before_holes next w
    other [] e = before_other run next [] e
    other (h ∷ t) e = more (are_holes next h) refl
      where
        more : (b : Bool) → are_holes next h ≡ b → before_holes run (before_holes next (h ∷ t)) ≡ run ∷ before_holes next (h ∷ t)
        more true f = ap (before_holes run) (before_hole next h t f) ∙ before_other run (joined next h) t e ∙ sym (ap (λ (rs : List Run). run ∷ rs) (before_hole next h t f))
        more false f = ap (before_holes run) (before_other next h t f) ∙ before_other run next (h ∷ t) e ∙ sym (ap (λ (rs : List Run). run ∷ rs) (before_other next h t f))

    by : (b : Bool) → are_holes run next ≡ b → with_holes_joined (run ∷ (next ∷ rest)) ≡ passed run next (with_holes_joined (hole_or_next run next ∷ rest))
    by true e =
        both (with_holes_joined rest) e
        ∙ sym (ap (λ c. cond c (before_holes (cond c (joined run next) next) (with_holes_joined rest)) (run ∷ before_holes (cond c (joined run next) next) (with_holes_joined rest))) e)
    by false e =
        other (with_holes_joined rest) e
        ∙ sym (ap (λ c. cond c (before_holes (cond c (joined run next) next) (with_holes_joined rest)) (run ∷ before_holes (cond c (joined run next) next) (with_holes_joined rest))) e)

-- ---- identifiers keep their runs

no_id : (k : ℕ) (kind : RunKind) → is_hole kind ≡ true → has_id k kind ≡ false
no_id k kinds.Hole e = refl
no_id k (kinds.Id id) e = absurd (cc)

pub same_kind : (one two : Run) → are_holes one two ≡ true → one.kind ≡ two.kind
same_kind one two e =
    hole_kind one.kind (first_hole (is_hole one.kind) (is_hole two.kind) e) ∙ sym (hole_kind two.kind (second_hole (is_hole one.kind) (is_hole two.kind) e))

module _ (k z : ℕ) where
  ids_before : (run : Run) (runs : List Run)
      → filter (λ (p : ZoneRun). has_id k p.1.kind) (placed z (before_holes run runs)) ≡ filter (λ (p : ZoneRun). has_id k p.1.kind) (placed z (run ∷ runs))
  ids_before run [] = refl
  ids_before run (next ∷ runs) = by (are_holes run next) refl
    where
      by : (b : Bool) → are_holes run next ≡ b
          → filter (λ (p : ZoneRun). has_id k p.1.kind) (placed z (before_holes run (next ∷ runs))) ≡ filter (λ (p : ZoneRun). has_id k p.1.kind) (placed z (run ∷ (next ∷ runs)))
      by false e = ap (λ (rs : List Run). filter (λ (p : ZoneRun). has_id k p.1.kind) (placed z rs)) (before_other run next runs e)
      by true e =
          let one : has_id k run.kind ≡ false = no_id k run.kind (first_hole (is_hole run.kind) (is_hole next.kind) e) in
          let two : has_id k next.kind ≡ false = no_id k next.kind (second_hole (is_hole run.kind) (is_hole next.kind) e) in
          let left : List ZoneRun = filter (λ (p : ZoneRun). has_id k p.1.kind) (placed z runs) in
          ap (λ (rs : List Run). filter (λ (p : ZoneRun). has_id k p.1.kind) (placed z rs)) (before_hole run next runs e)
          ∙ ap (λ b. cond b ((z, joined run next) ∷ left) left) one
          ∙ sym (ap (λ b. cond b ((z, run) ∷ cond (has_id k next.kind) ((z, next) ∷ left) left) (cond (has_id k next.kind) ((z, next) ∷ left) left)) one
          ∙ ap (λ b. cond b ((z, next) ∷ left) left) two)

  pub ids_joined : (runs : List Run)
      → filter (λ (p : ZoneRun). has_id k p.1.kind) (placed z (with_holes_joined runs)) ≡ filter (λ (p : ZoneRun). has_id k p.1.kind) (placed z runs)
  ids_joined [] = refl
  ids_joined (run ∷ runs) =
      ids_before run (with_holes_joined runs) ∙ ap (λ (ps : List ZoneRun). cond (has_id k run.kind) ((z, run) ∷ ps) ps) (ids_joined runs)
