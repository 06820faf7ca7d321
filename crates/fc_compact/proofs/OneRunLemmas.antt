-- An identifier that has one run.
use Rattle.std.proofs.Common.{◌≡◌, ◌<◌, ◌≤◌, ℕ, ◌+◌, Bool, true, false, cond, List, [], ◌∷◌, ◌++◌, refl, sym, ap, ap₂, subst, ◌∙◌}
use Rattle.std.specs.Prelude.{◌==◌, ◌||◌, filter}
use Rattle.std.proofs.lemmas.Bool.{eq-eqb, ne_eqb}
use Rattle.std.proofs.lemmas.List.{map-append}
use Rattle.std.proofs.lemmas.List.Elements.{filter-append}
use Rattle.std.proofs.lemmas.Grind.{flat_map-append}
use Rattle.fc_zone.specs.declared.Run.{Run}
use Rattle.fc_newmap.specs.Map.{Map, ZoneRun, has_id, id_runs, runs_in, runs_of, search_order}
use Rattle.fc_newmap.specs.RunsLaw.{placed}
use Rattle.fc_newmap.proofs.CoverLemmas.{order_Distinct, split_once}
use Rattle.fc_newmap.proofs.PlaceLemmas.{in_back, in_front, in_order_of, order_in}
use Rattle.fc_compact.specs.Joins.{hole_part, ids_in}
use Rattle.fc_compact.specs.Slides.{hole_at, run_at}
use Rattle.fc_device.specs.Numbers.{is_listed as is_in}

-- ---- one run alone

module _ (m : Map) (id : ℕ) where
  abbrev of_id : ZoneRun → Bool
  of_id p = has_id id p.1.kind

  none_in : (zones : List ℕ) → ((y : ℕ) → is_in zones y ≡ true → ids_in m id y ≡ []) → filter of_id (runs_in m zones) ≡ []
  none_in [] none = refl
  none_in (x ∷ zones) none =
      filter-append of_id (placed x (runs_of m x)) (runs_in m zones)
      ∙ ap (λ (ps : List ZoneRun). ps ++ filter of_id (runs_in m zones)) (none x (ap (λ b. b || is_in zones x) (eq-eqb x x refl)))
      ∙ none_in zones (λ y i. none y (in_back (x ∷ []) zones y i))

  -- where one zone alone has runs of the identifier, these are all
  pub one_zone_runs : (z : ℕ) (p : ZoneRun) → 1 ≤ m.geometry.zones → z < m.geometry.zones → ids_in m id z ≡ p ∷ [] → ((y : ℕ) → y < m.geometry.zones → (y ≡ z → ⊥) → ids_in m id y ≡ []) → id_runs m id ≡ p ∷ []
  one_zone_runs z p some low here none =
      let order = search_order m.geometry id in
      let cut = split_once order z (order_Distinct m.geometry id) (in_order_of m.geometry id z some low) in
      let inside : (y : ℕ) → is_in (cut.0 ++ z ∷ cut.1) y ≡ true → y < m.geometry.zones = λ y i. order_in m.geometry id y some (subst (λ (ys : List ℕ). is_in ys y ≡ true) (sym cut.2) i) in
      let first : filter of_id (runs_in m cut.0) ≡ [] =
      none_in cut.0 (λ y i. none y (inside y (in_front cut.0 (z ∷ cut.1) y i)) (λ same. clash cut.0 y z same i cut.3)) in
      let last : filter of_id (runs_in m cut.1) ≡ [] =
      none_in cut.1 (λ y i. none y (inside y (in_back cut.0 (z ∷ cut.1) y (in_back (z ∷ []) cut.1 y i))) (λ same. clash cut.1 y z same i cut.4)) in
      ap (λ (zs : List ℕ). filter of_id (runs_in m zs)) cut.2
      ∙ ap (filter of_id) (flat_map-append (λ y. placed y (runs_of m y)) cut.0 (z ∷ cut.1))
      ∙ filter-append of_id (runs_in m cut.0) (placed z (runs_of m z) ++ runs_in m cut.1)
      ∙ ap (λ (ps : List ZoneRun). ps ++ filter of_id (placed z (runs_of m z) ++ runs_in m cut.1)) first
      ∙ filter-append of_id (placed z (runs_of m z)) (runs_in m cut.1)
      ∙ ap₂ (λ (ps qs : List ZoneRun). ps ++ qs) here last
    where
      clash : (zones : List ℕ) (y x : ℕ) → y ≡ x → is_in zones y ≡ true → is_in zones x ≡ false → ⊥
      clash zones y x same i out = let e : is_in zones y ≡ false = ap (is_in zones) same ∙ out in cc

-- a run at the front of a hole, among runs that aren't the identifier's
pub taken_one : (id z start len left : ℕ) (front rest : List Run) → filter (λ (p : ZoneRun). has_id id p.1.kind) (placed z (front ++ hole_at start (len + left) ∷ rest)) ≡ []
    → filter (λ (p : ZoneRun). has_id id p.1.kind) (placed z (front ++ run_at start len id ∷ hole_part (start + len) left rest)) ≡ (z, run_at start len id) ∷ []
taken_one id z start len left front rest none =
    let t : ZoneRun → Bool = λ p. has_id id p.1.kind in
    let parts = nil_parts (filter t (placed z front)) (filter t (placed z rest)) (sym (split_ids id front (hole_at start (len + left) ∷ rest)) ∙ none) in
    split_ids id front (run_at start len id ∷ hole_part (start + len) left rest)
    ∙ ap (λ (ps : List ZoneRun). ps ++ filter t (placed z (run_at start len id ∷ hole_part (start + len) left rest))) parts.0
    ∙ ap (λ (b : Bool). cond b ((z, run_at start len id) ∷ filter t (placed z (hole_part (start + len) left rest))) (filter t (placed z (hole_part (start + len) left rest)))) (eq-eqb id id refl)
    ∙ ap (λ (ps : List ZoneRun). (z, run_at start len id) ∷ ps) (part_ids (left == 0) ∙ parts.1)
  where
    split_ids : (k : ℕ) (xs ys : List Run) → filter (λ (p : ZoneRun). has_id k p.1.kind) (placed z (xs ++ ys)) ≡ filter (λ (p : ZoneRun). has_id k p.1.kind) (placed z xs) ++ filter (λ (p : ZoneRun). has_id k p.1.kind) (placed z ys)
    split_ids k xs ys =
        ap (filter (λ (p : ZoneRun). has_id k p.1.kind)) (map-append (λ (run : Run). let p : ZoneRun = (z, run) in p) xs ys)
        ∙ filter-append (λ (p : ZoneRun). has_id k p.1.kind) (placed z xs) (placed z ys)

    nil_parts : (xs ys : List ZoneRun) → xs ++ ys ≡ [] → (xs ≡ []) × (ys ≡ [])
    nil_parts [] ys e = (refl, e)
    nil_parts (x ∷ xs) ys e = absurd (cc)

    part_ids : (b : Bool) → filter (λ (p : ZoneRun). has_id id p.1.kind) (placed z (cond b rest (hole_at (start + len) left ∷ rest))) ≡ filter (λ (p : ZoneRun). has_id id p.1.kind) (placed z rest)
    part_ids true = refl
    part_ids false = refl

pub taken_other : (id k z start len left : ℕ) (front rest : List Run) → (k ≡ id → ⊥) → filter (λ (p : ZoneRun). has_id k p.1.kind) (placed z (front ++ run_at start len id ∷ hole_part (start + len) left rest))
    ≡ filter (λ (p : ZoneRun). has_id k p.1.kind) (placed z (front ++ hole_at start (len + left) ∷ rest))
taken_other id k z start len left front rest other =
    let t : ZoneRun → Bool = λ p. has_id k p.1.kind in
    split_ids front (run_at start len id ∷ hole_part (start + len) left rest)
    ∙ ap (λ (ps : List ZoneRun). filter t (placed z front) ++ ps)
    (ap (λ (b : Bool). cond b ((z, run_at start len id) ∷ filter t (placed z (hole_part (start + len) left rest))) (filter t (placed z (hole_part (start + len) left rest)))) (ne_eqb id k (λ e. other (sym e)))
    ∙ part_ids (left == 0))
    ∙ sym (split_ids front (hole_at start (len + left) ∷ rest))
  where
    split_ids : (xs ys : List Run) → filter (λ (p : ZoneRun). has_id k p.1.kind) (placed z (xs ++ ys)) ≡ filter (λ (p : ZoneRun). has_id k p.1.kind) (placed z xs) ++ filter (λ (p : ZoneRun). has_id k p.1.kind) (placed z ys)
    split_ids xs ys =
        ap (filter (λ (p : ZoneRun). has_id k p.1.kind)) (map-append (λ (run : Run). let p : ZoneRun = (z, run) in p) xs ys)
        ∙ filter-append (λ (p : ZoneRun). has_id k p.1.kind) (placed z xs) (placed z ys)

    part_ids : (b : Bool) → filter (λ (p : ZoneRun). has_id k p.1.kind) (placed z (cond b rest (hole_at (start + len) left ∷ rest))) ≡ filter (λ (p : ZoneRun). has_id k p.1.kind) (placed z rest)
    part_ids true = refl
    part_ids false = refl
