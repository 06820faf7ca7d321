-- The runs of zones after a join, as Joined says them.
use Rattle.std.proofs.Common.{◌≡◌, ◌<◌, inl, inr, ℕ, zero, suc, ◌+◌, ◌-◌, Bool, true, false, cond, List, [], ◌∷◌, ◌++◌, length, length-append, refl, sym, ap, ap₂, subst, ◌∙◌, arith, append_assoc}
use Rattle.std.specs.Prelude.{◌==◌, ◌||◌, ◌&&◌}
use Rattle.std.specs.List.{list_any, flat_map}
use Rattle.std.proofs.lemmas.Bool.{cases_eq, eq-eqb, eqb-true, lt-ltb, le-ltb, ne_eqb, false_from_ne_true as not_true}
use Rattle.std.proofs.lemmas.Grind.{flat_map-append}
use Rattle.fc_zone.specs.declared.Run.{Run}
use Rattle.fc_zone.specs.declared.RunKind.TheVariants as kinds
use Rattle.fc_zone.proofs.UniqueLemmas.{same_cut}
use Rattle.fc_newmap.specs.Map.{Map, ZoneRun, bits_in, has_id, id_runs, runs_of, sector_of, shape}
use Rattle.fc_newmap.specs.NewMap.{IsNewMap}
use Rattle.fc_newmap.proofs.ComposeLemmas.{zone_cut}
use Rattle.fc_image.specs.effects.Moves.{cut_run, is_joined_in, is_the_hole, rejoined, runs_joined, with_holes_joined}
use Rattle.fc_image.specs.effects.Placed.{front_of}
use Rattle.fc_compact.specs.Joins.{HasBetween, all_freed, changed_runs, freed, has_run_in, hole_part, is_listed}
use Rattle.fc_compact.specs.Slides.{HasRuns, hole_at, run_at}
use Rattle.fc_compact.proofs.HoldLemmas.{has_run_same}
use Rattle.fc_compact.proofs.ReleaseLemmas.{hole_part_some}
use Rattle.fc_record.proofs.KindLemmas.{and_second as second_true}

-- where the hole isn't among the runs, the identifier's are freed
freed_there : (len : ℕ) (hole : ZoneRun) (id y : ℕ) (runs : List Run) → list_any (is_the_hole hole y) runs ≡ false → flat_map (rejoined len hole id y) runs ≡ all_freed id runs
freed_there len hole id y [] none = refl
freed_there len hole id y (run ∷ runs) none = by (is_the_hole hole y run) none (freed_there len hole id y runs)
  where
    as_freed : (b : Bool) → cond b (record run { kind = kinds.Hole } ∷ []) (run ∷ []) ≡ cond b (record run { kind = kinds.Hole }) run ∷ []
    as_freed true = refl
    as_freed false = refl

    by : (b : Bool) → (b || list_any (is_the_hole hole y) runs) ≡ false → (list_any (is_the_hole hole y) runs ≡ false → flat_map (rejoined len hole id y) runs ≡ all_freed id runs)
        → cond b (cut_run len (kinds.Id id) run) (cond (has_id id run.kind) (record run { kind = kinds.Hole } ∷ []) (run ∷ [])) ++ flat_map (rejoined len hole id y) runs ≡ freed id run ∷ all_freed id runs
    by true e more = absurd (cc)
    by false e more = ap₂ (λ (rs ss : List Run). rs ++ ss) (as_freed (has_id id run.kind)) (more e)

never_there : (hole : ZoneRun) (y : ℕ) (runs : List Run) → (hole.0 == y) ≡ false → list_any (is_the_hole hole y) runs ≡ false
never_there hole y [] e = refl
never_there hole y (run ∷ runs) e = ap (λ b. (b && (hole.1.start == run.start)) || list_any (is_the_hole hole y) runs) e ∙ never_there hole y runs e

any_cut : (f : Run → Bool) (xs : List Run) → list_any f xs ≡ true → (front : List Run) × (x : Run) × (rest : List Run) × (xs ≡ front ++ x ∷ rest) × (f x ≡ true)
any_cut f [] e = absurd (cc)
any_cut f (x ∷ xs) e = by (f x) refl e (λ more. any_cut f xs more)
  where
    by : (b : Bool) → f x ≡ b → (b || list_any f xs) ≡ true → (list_any f xs ≡ true → (front : List Run) × (y : Run) × (rest : List Run) × (xs ≡ front ++ y ∷ rest) × (f y ≡ true))
        → (front : List Run) × (y : Run) × (rest : List Run) × (x ∷ xs ≡ front ++ y ∷ rest) × (f y ≡ true)
    by true g h more = ([], x, xs, refl, g)
    by false g h more = let r = more h in (x ∷ r.0, r.1, r.2, ap (λ (l : List Run). x ∷ l) r.3, r.4)

module _ (m : Map) (is : IsNewMap m) (z : ℕ) (low : z < m.geometry.zones) (front rest : List Run) (hole : Run) (runs : HasRuns m z (front ++ hole ∷ rest)) where
  -- no other run begins where the hole does
  none_before : list_any (is_the_hole (z, hole) z) front ≡ false
  none_before = not_true (list_any (is_the_hole (z, hole) z) front) (λ e. clash (any_cut (is_the_hole (z, hole) z) front e))
    where
      clash : ((before : List Run) × (x : Run) × (after : List Run) × (front ≡ before ++ x ∷ after) × (is_the_hole (z, hole) z x ≡ true)) → ⊥
      clash (before, x, after, cut, found) =
          let same : hole.start ≡ x.start = eqb-true hole.start x.start (second_true (z == z) (hole.start == x.start) found) in
          let other : HasRuns m z (before ++ x ∷ (after ++ hole ∷ rest)) = runs ∙ ap (λ (rs : List Run). rs ++ hole ∷ rest) cut ∙ append_assoc before (x ∷ after) (hole ∷ rest) in
          let e = same_cut (shape m.geometry z) (sector_of m z) front before rest (after ++ hole ∷ rest) hole x (zone_cut m z (front ++ hole ∷ rest) is low runs) (zone_cut m z (before ++ x ∷ (after ++ hole ∷ rest)) is low other) same in
          omega (arith, ap length e.0, ap length cut, length-append before (x ∷ after))

  none_behind : list_any (is_the_hole (z, hole) z) rest ≡ false
  none_behind = not_true (list_any (is_the_hole (z, hole) z) rest) (λ e. clash (any_cut (is_the_hole (z, hole) z) rest e))
    where
      clash : ((before : List Run) × (x : Run) × (after : List Run) × (rest ≡ before ++ x ∷ after) × (is_the_hole (z, hole) z x ≡ true)) → ⊥
      clash (before, x, after, cut, found) =
          let same : hole.start ≡ x.start = eqb-true hole.start x.start (second_true (z == z) (hole.start == x.start) found) in
          let other : HasRuns m z ((front ++ hole ∷ before) ++ x ∷ after) = runs ∙ ap (λ (rs : List Run). front ++ hole ∷ rs) cut ∙ sym (append_assoc front (hole ∷ before) (x ∷ after)) in
          let e = same_cut (shape m.geometry z) (sector_of m z) front (front ++ hole ∷ before) rest after hole x (zone_cut m z (front ++ hole ∷ rest) is low runs) (zone_cut m z ((front ++ hole ∷ before) ++ x ∷ after) is low other) same in
          omega (arith, ap length e.0, length-append front (hole ∷ before))

-- what becomes of the hole
cut_front : (start len left id : ℕ) (rest : List Run) → cut_run len (kinds.Id id) (hole_at start (len + left)) ++ rest ≡ run_at start len id ∷ hole_part (start + len) left rest
cut_front start len zero id rest =
    ap (λ (b : Bool). (run_at start len id ∷ cond b (hole_at (start + len) (len + 0 - len) ∷ []) []) ++ rest) (le-ltb len (len + 0) (omega arith))
cut_front start len (suc n) id rest =
    ap (λ (b : Bool). (run_at start len id ∷ cond b (hole_at (start + len) (len + suc n - len) ∷ []) []) ++ rest) (lt-ltb len (len + suc n) (omega arith))
    ∙ ap (λ (k : ℕ). run_at start len id ∷ (hole_at (start + len) k ∷ rest)) (let e : len + suc n - len ≡ suc n = omega arith in e)
    ∙ ap (λ (rs : List Run). run_at start len id ∷ rs) (sym (hole_part_some (start + len) (suc n) rest (omega arith)))

module _ (m m' : Map) (is : IsNewMap m) (id z start len left : ℕ) (zones : List ℕ) (low : z < m.geometry.zones)
    (between : HasBetween m z (hole_at start (len + left)))
    (listed : (y : ℕ) → y < m.geometry.zones → is_listed zones y ≡ ((y == z) || has_run_in m id y))
    (len_is : (front_of m.geometry (bits_in (id_runs m id)) (z, hole_at start (len + left))).1.len ≡ len)
    (taken : (front rest : List Run) → HasRuns m z (front ++ hole_at start (len + left) ∷ rest)
    → HasRuns m' z (with_holes_joined (all_freed id front ++ run_at start len id ∷ hole_part (start + len) left (all_freed id rest))))
    (free : (y : ℕ) → (y ≡ z → ⊥) → runs_of m' y ≡ changed_runs (λ runs. with_holes_joined (all_freed id runs)) zones y (runs_of m y)) where
  abbrev hole : ZoneRun
  hole = (z, hole_at start (len + left))

  abbrev of : ℕ → ℕ → Run → List Run
  of n y run = rejoined n hole id y run

  named : (y : ℕ) → y < m.geometry.zones → is_joined_in m hole id y ≡ ((y == z) || has_run_in m id y)
  named y below = ap₂ (λ (a b : Bool). a || b) (turned z y) (sym (has_run_same m is id y below))
    where
      turned : (a b : ℕ) → (a == b) ≡ (b == a)
      turned a b = elim (cases_eq a b) [
        | inl e ↦ eq-eqb a b e ∙ sym (eq-eqb b a (sym e))
        | inr ne ↦ ne_eqb a b ne ∙ sym (ne_eqb b a (λ e. ne (sym e)))
      ]

  here : runs_of m' z ≡ with_holes_joined (flat_map (of len z) (runs_of m z))
  here =
      let front = between.0 in
      let rest = between.1 in
      let gap = hole_at start (len + left) in
      let the_hole : is_the_hole hole z gap ≡ true = ap₂ (λ (a b : Bool). a && b) (eq-eqb z z refl) (eq-eqb start start refl) in
      taken front rest between.2
      ∙ sym (ap with_holes_joined
      (ap (flat_map (of len z)) between.2 ∙ flat_map-append (of len z) front (gap ∷ rest)
      ∙ ap₂ (λ (rs ss : List Run). rs ++ ss) (freed_there len hole id z front (none_before m is z low front rest gap between.2))
      (ap₂ (λ (b : Bool) (ss : List Run). cond b (cut_run len (kinds.Id id) gap) (gap ∷ []) ++ ss) the_hole (freed_there len hole id z rest (none_behind m is z low front rest gap between.2))
      ∙ cut_front start len left id (all_freed id rest))))

  there : (y : ℕ) → (y ≡ z → ⊥) → with_holes_joined (all_freed id (runs_of m y)) ≡ with_holes_joined (flat_map (of len y) (runs_of m y))
  there y other = ap with_holes_joined (sym (freed_there len hole id y (runs_of m y) (never_there hole y (runs_of m y) (ne_eqb z y (λ e. other (sym e))))))

  pub zones_joined : (y : ℕ) → y < m.geometry.zones → runs_of m' y ≡ runs_joined m hole id y
  zones_joined y below =
      elim (cases_eq y z) [
        | inl same ↦ subst (λ (x : ℕ). runs_of m' x ≡ cond (is_joined_in m hole id x) (with_holes_joined (flat_map (of len x) (runs_of m x))) (runs_of m x)) (sym same)
            (here ∙ sym (ap (λ b. cond b (with_holes_joined (flat_map (of len z) (runs_of m z))) (runs_of m z)) (named z low ∙ ap (λ b. b || has_run_in m id z) (eq-eqb z z refl))))
        | inr other ↦ free y other
            ∙ ap₂ (λ (b : Bool) (rs : List Run). cond b rs (runs_of m y)) (listed y below ∙ sym (named y below)) (there y other)
      ]
      ∙ ap (λ (n : ℕ). cond (is_joined_in m hole id y) (with_holes_joined (flat_map (of n y) (runs_of m y))) (runs_of m y)) (sym len_is)
