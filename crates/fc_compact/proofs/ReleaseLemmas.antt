-- The runs of an identifier that become holes, and a hole whose front becomes a run.
use Rattle.std.proofs.Common.{◌≡◌, ◌<◌, ℕ, Bool, true, false, cond, List, [], ◌∷◌, ◌++◌, map, refl, sym, ap, ◌∙◌, append_assoc, arith}
use Rattle.std.specs.Prelude.{filter}
use Rattle.std.proofs.lemmas.Bool.{eqb-true, ne_eqb}
use Rattle.std.proofs.lemmas.List.{map-append}
use Rattle.fc_zone.specs.declared.Run.{Run}
use Rattle.fc_zone.specs.declared.RunKind.{RunKind}
use Rattle.fc_zone.specs.declared.RunKind.TheVariants as kinds
use Rattle.fc_zone.specs.Edits.{HasHoleAt, HasRunAt}
use Rattle.fc_newmap.specs.Map.{Map, ZoneRun, has_id, sector_of, shape}
use Rattle.fc_newmap.specs.NewMap.{IsNewMap}
use Rattle.fc_newmap.specs.RunsLaw.{placed}
use Rattle.fc_newmap.proofs.ComposeLemmas.{zone_cut}
use Rattle.fc_compact.specs.Joins.{HasBetween, all_freed, freed, hole_part}
use Rattle.fc_compact.specs.Slides.{HasRuns, hole_at}

-- the runs of a zone that a walk has before it
pub placed_none : (z : ℕ) (runs : List Run) → placed z runs ≡ [] → runs ≡ []
placed_none z [] e = refl
placed_none z (x ∷ runs) e = absurd (cc)

pub placed_first : (z : ℕ) (runs : List Run) (p : ZoneRun) (rest : List ZoneRun) → placed z runs ≡ p ∷ rest → (left : List Run) × (runs ≡ p.1 ∷ left) × (rest ≡ placed z left)
placed_first z [] p rest e = absurd (cc)
placed_first z (x ∷ runs) p rest e = (runs, ap (λ (r : Run). r ∷ runs) (ap (λ (q : ZoneRun). q.1) (one e)), two e)
  where
    one : (let q : ZoneRun = (z, x) in q ∷ placed z runs ≡ p ∷ rest) → (let q : ZoneRun = (z, x) in q ≡ p)
    one f = cc

    two : (let q : ZoneRun = (z, x) in q ∷ placed z runs ≡ p ∷ rest) → rest ≡ placed z runs
    two f = cc

pub freed_more : (id : ℕ) (done rest : List Run) (run : Run) → map (freed id) (done ++ run ∷ []) ++ rest ≡ map (freed id) done ++ freed id run ∷ rest
freed_more id done rest run =
    ap (λ (rs : List Run). rs ++ rest) (map-append (freed id) done (run ∷ [])) ∙ append_assoc (map (freed id) done) (freed id run ∷ []) rest

-- where a run is released
pub run_is_at : (m : Map) (z : ℕ) (run : Run) → IsNewMap m → z < m.geometry.zones → HasBetween m z run → HasRunAt (shape m.geometry z) (sector_of m z) run.start
run_is_at m z run is low between = (run, (refl, (between.0, (between.1, zone_cut m z (between.0 ++ run ∷ between.1) is low between.2))))

-- ---- what an identifier has then

pub freed_none : (id z : ℕ) (runs : List Run) → filter (λ (p : ZoneRun). has_id id p.1.kind) (placed z (all_freed id runs)) ≡ []
freed_none id z [] = refl
freed_none id z (run ∷ runs) = by (has_id id run.kind) refl (freed_none id z runs)
  where
    by : (b : Bool) → has_id id run.kind ≡ b → filter (λ (p : ZoneRun). has_id id p.1.kind) (placed z (all_freed id runs)) ≡ []
        → cond (has_id id (cond b (record run { kind = kinds.Hole }) run).kind) ((z, cond b (record run { kind = kinds.Hole }) run) ∷ filter (λ (p : ZoneRun). has_id id p.1.kind) (placed z (all_freed id runs))) (filter (λ (p : ZoneRun). has_id id p.1.kind) (placed z (all_freed id runs))) ≡ []
    by true e none = none
    by false e none = ap (λ b. cond b ((z, run) ∷ filter (λ (p : ZoneRun). has_id id p.1.kind) (placed z (all_freed id runs))) (filter (λ (p : ZoneRun). has_id id p.1.kind) (placed z (all_freed id runs)))) e ∙ none

pub freed_other : (id k z : ℕ) (runs : List Run) → (k ≡ id → ⊥) → filter (λ (p : ZoneRun). has_id k p.1.kind) (placed z (all_freed id runs)) ≡ filter (λ (p : ZoneRun). has_id k p.1.kind) (placed z runs)
freed_other id k z [] other = refl
freed_other id k z (run ∷ runs) other =
    by (has_id id run.kind) refl (freed_other id k z runs other)
  where
    of_other : (kind : RunKind) → has_id id kind ≡ true → has_id k kind ≡ false
    of_other kinds.Hole e = refl
    of_other (kinds.Id owner) e = ne_eqb owner k (λ same. other (sym same ∙ eqb-true owner id e))

    by : (b : Bool) → has_id id run.kind ≡ b → filter (λ (p : ZoneRun). has_id k p.1.kind) (placed z (all_freed id runs)) ≡ filter (λ (p : ZoneRun). has_id k p.1.kind) (placed z runs)
        → cond (has_id k (cond b (record run { kind = kinds.Hole }) run).kind) ((z, cond b (record run { kind = kinds.Hole }) run) ∷ (filter (λ (p : ZoneRun). has_id k p.1.kind) (placed z (all_freed id runs)))) (filter (λ (p : ZoneRun). has_id k p.1.kind) (placed z (all_freed id runs)))
        ≡ cond (has_id k run.kind) ((z, run) ∷ filter (λ (p : ZoneRun). has_id k p.1.kind) (placed z runs)) (filter (λ (p : ZoneRun). has_id k p.1.kind) (placed z runs))
    by true e same = same ∙ sym (ap (λ b. cond b ((z, run) ∷ filter (λ (p : ZoneRun). has_id k p.1.kind) (placed z runs)) (filter (λ (p : ZoneRun). has_id k p.1.kind) (placed z runs))) (of_other run.kind e))
    by false e same = ap (λ (ps : List ZoneRun). cond (has_id k run.kind) ((z, run) ∷ ps) ps) same

-- ---- the front of a hole

pub hole_part_some : (start len : ℕ) (rest : List Run) → 0 < len → hole_part start len rest ≡ hole_at start len ∷ rest
hole_part_some start len rest some = ap (λ b. cond b rest (hole_at start len ∷ rest)) (ne_eqb len 0 (omega arith))

pub hole_is_at : (m : Map) (z start len : ℕ) (front rest : List Run) → IsNewMap m → z < m.geometry.zones → HasRuns m z (front ++ hole_at start len ∷ rest) → HasHoleAt (shape m.geometry z) (sector_of m z) start
hole_is_at m z start len front rest is low runs = (hole_at start len, (refl, refl, (front, (rest, zone_cut m z (front ++ hole_at start len ∷ rest) is low runs))))
