-- The longest holes of zones, and of the whole map.
use Rattle.std.proofs.Common.{◌≡◌, ◌<◌, ◌≤◌, ◌⊎◌, inl, inr, ℕ, zero, suc, ◌+◌, max, Bool, true, false, List, [], ◌∷◌, ◌++◌, length, take, get_or, set, refl, sym, ap, subst, ◌∙◌, arith}
use Rattle.std.specs.Prelude.{◌==◌, ◌||◌, Option, Some, None, IfNone, IfSome, Contains}
use Rattle.std.specs.List.{fold}
use Rattle.std.proofs.lemmas.Bool.{cases_eq, cases_lt, eq-eqb, ne_eqb, or_parts as neither}
use Rattle.std.proofs.lemmas.List.{get_or-set_other, get_or-set_same, take_more}
use Rattle.std.proofs.lemmas.List.Folds.{list_any-append}
use Rattle.fc_zone.specs.declared.Run.{Run}
use Rattle.fc_newmap.specs.Map.{Map, ZoneRun, all_runs, hole_runs, is_hole, runs_of, zone_numbers}
use Rattle.fc_newmap.specs.NewMap.{IsNewMap}
use Rattle.fc_newmap.specs.RunsLaw.{placed}
use Rattle.fc_newmap.proofs.PlaceLemmas.{filter_in, in_filter, in_range, in_zone, range_in, zone_in}
use Rattle.fc_compact.specs.Joins.{is_listed}
use Rattle.fc_compact.specs.Longest.{AreLongest, IsLongest, holes_of, longest_in}
use Rattle.fc_compact.proofs.HoldLemmas.{run_between, run_is_long, some_min}

-- ---- the longest of some runs

abbrev most_of : ℕ → List ZoneRun → ℕ
most_of n ps = fold (λ n (p : ZoneRun). max n p.1.len) n ps

least : (ps : List ZoneRun) (n : ℕ) → n ≤ most_of n ps
least [] n = omega arith
least (p ∷ ps) n = (let l = least ps (max n p.1.len) in omega (arith, l))

holds : (ps : List ZoneRun) (n : ℕ) (p : ZoneRun) → Contains ps p → p.1.len ≤ most_of n ps
holds [] n p (k, h, e) = absurd (omega arith)
holds (q ∷ ps) n p (zero, h, e) = (let l = least ps (max n q.1.len) in omega (arith, l, ap (λ (r : ZoneRun). r.1.len) e))
holds (q ∷ ps) n p (suc k, h, e) = holds ps (max n q.1.len) p (k, omega arith, e)

at_most : (ps : List ZoneRun) (n most : ℕ) → n ≤ most → ((p : ZoneRun) → Contains ps p → p.1.len ≤ most) → most_of n ps ≤ most
at_most [] n most low each = low
at_most (q ∷ ps) n most low each =
    let here = each q (0, omega arith, refl) in
    at_most ps (max n q.1.len) most (omega (arith, low, here)) (λ p there. each p (suc there.0, (let l = there.1 in omega arith), there.2))

attained : (ps : List ZoneRun) (n : ℕ) → (most_of n ps ≡ n) ⊎ ((p : ZoneRun) × (Contains ps p × (p.1.len ≡ most_of n ps)))
attained [] n = inl refl
attained (q ∷ ps) n = elim (attained ps (max n q.1.len)) [
  | inl same ↦ (elim (cases_lt n q.1.len) [
    | inl less ↦ inr (q, ((0, omega arith, refl), omega (arith, same, less)))
    | inr ge ↦ inl (omega (arith, same, ge))
  ])
  | inr found ↦ inr (found.0, ((suc found.1.0.0, (let l = found.1.0.1 in omega arith), found.1.0.2), found.1.1))
]

-- ---- holes by zones

placed_zone : (z : ℕ) (runs : List Run) (p : ZoneRun) → Contains (placed z runs) p → p.0 ≡ z
placed_zone z [] p (k, h, e) = absurd (omega arith)
placed_zone z (run ∷ runs) p (zero, h, e) = sym (ap (λ (q : ZoneRun). q.0) e)
placed_zone z (run ∷ runs) p (suc k, h, e) = placed_zone z runs p (k, omega arith, e)

module _ (m : Map) where
  pub hole_of_map : (z : ℕ) → z < m.geometry.zones → (p : ZoneRun) → Contains (holes_of m z) p → Contains (hole_runs m) p × (p.0 ≡ z)
  hole_of_map z low p there =
      let f = filter_in (λ (q : ZoneRun). is_hole q.1.kind) (placed z (runs_of m z)) p there in
      let here = placed_zone z (runs_of m z) p f.0 in
      let all : Contains (all_runs m) p = in_zone m (zone_numbers m.geometry) p (in_range 0 m.geometry.zones p.0 (omega arith) (omega (arith, low, here))) (subst (λ (y : ℕ). Contains (placed y (runs_of m y)) p) (sym here) f.0) in
      (in_filter (λ (q : ZoneRun). is_hole q.1.kind) (all_runs m) p all f.1, here)

  hole_of_zone : (p : ZoneRun) → Contains (hole_runs m) p → (p.0 < m.geometry.zones) × Contains (holes_of m p.0) p
  hole_of_zone p there =
      let f = filter_in (λ (q : ZoneRun). is_hole q.1.kind) (all_runs m) p there in
      let i = zone_in m (zone_numbers m.geometry) p f.0 in
      let low = range_in 0 m.geometry.zones p.0 i.0 in
      (omega (arith, low.1), in_filter (λ (q : ZoneRun). is_hole q.1.kind) (placed p.0 (runs_of m p.0)) p i.1 f.1)

  hole_long : IsNewMap m → (p : ZoneRun) → Contains (hole_runs m) p → 0 < p.1.len
  hole_long is p there =
      let low = (hole_of_zone p there).0 in
      let between = run_between m (zone_numbers m.geometry) p (filter_in (λ (q : ZoneRun). is_hole q.1.kind) (all_runs m) p there).0 in
      omega (arith, run_is_long m is p.0 low between.0 between.1 p.1 between.2, some_min m is p.0 low between.0 between.1 p.1 between.2)

  module _ (lens : List ℕ) (are : AreLongest m lens) (z len : ℕ) (low : z < m.geometry.zones) (most : (y : ℕ) → y < m.geometry.zones → get_or lens y 0 ≤ get_or lens z 0) (e : len ≡ get_or lens z 0) where
    -- no hole is longer
    no_longer : (p : ZoneRun) → Contains (hole_runs m) p → p.1.len ≤ len
    no_longer p there =
        let here = hole_of_zone p there in
        omega (arith, holds (holes_of m p.0) 0 p here.1, are p.0 here.0, most p.0 here.0, e)

    pub longest_is : IsNewMap m → (r : Option ZoneRun) → IfSome r (λ p. Contains (holes_of m z) p × (p.1.len ≡ len)) → IfNone r ((p : ZoneRun) → Contains (holes_of m z) p → p.1.len ≡ len → ⊥) → IsLongest m r
    longest_is is (Some p) found none =
        let there = (hole_of_map z low p found.0).0 in
        (there, omega (arith, found.1, holds (hole_runs m) 0 p there, at_most (hole_runs m) 0 len (omega arith) no_longer))
    longest_is is None found none = empty (hole_runs m) (λ p there. never p there)
      where
        never : (p : ZoneRun) → Contains (hole_runs m) p → ⊥
        never p there =
            let some = hole_long is p there in
            let short = no_longer p there in
            let all = are z low in
            elim (attained (holes_of m z) 0) [
              | inl zero_is ↦ absurd (omega (arith, some, short, all, e, zero_is))
              | inr hole ↦ none hole.0 hole.1.0 (hole.1.1 ∙ sym all ∙ sym e)
            ]

        empty : (ps : List ZoneRun) → ((p : ZoneRun) → Contains ps p → ⊥) → ps ≡ []
        empty [] out = refl
        empty (p ∷ ps) out = absurd (out p (0, omega arith, refl))

-- ---- zones that are measured again

-- The zones of a list have the lengths of their longest holes, and others those that they had.
pub record Measured (m : Map) (zones was lens : List ℕ) : Type 0 where
  pub here : (y : ℕ) → is_listed zones y ≡ true → get_or lens y 0 ≡ longest_in m y
  pub others : (y : ℕ) → is_listed zones y ≡ false → get_or lens y 0 ≡ get_or was y 0

pub none_measured : (m : Map) (was : List ℕ) → Measured m [] was was
none_measured m was = record { here = λ y e. absurd (cc); others = λ y e. refl }

pub measured_more : (m : Map) (zones : List ℕ) (i z : ℕ) → i < length zones → z ≡ get_or zones i 0 → (was old new : List ℕ) → z < length old → new ≡ set old z (longest_in m z)
    → Measured m (take i zones) was old → Measured m (take (i + 1) zones) was new
measured_more m zones i z lt named was old new low e before = record {
  here = λ y there. elim (cases_eq y z) [
    | inl same ↦ (ap (λ (k : ℕ). get_or new k 0) same ∙ ap (λ (xs : List ℕ). get_or xs z 0) e ∙ get_or-set_same old z (longest_in m z) 0 low ∙ ap (longest_in m) (sym same))
    | inr other ↦ (other_len y other ∙ before.here y (sym (or_last (is_listed (take i zones) y)) ∙ ap (λ b. is_listed (take i zones) y || b) (sym (last_is y other)) ∙ sym (more y) ∙ there))
  ];
  others = λ y out.
      let both = neither (is_listed (take i zones) y) ((z == y) || false) (sym (more y) ∙ out) in
      other_len y (λ same. (let t = ap (λ b. b || false) (eq-eqb z y (sym same)) in let f = both.1 in cc)) ∙ before.others y both.0;
}
  where
    more : (y : ℕ) → is_listed (take (i + 1) zones) y ≡ (is_listed (take i zones) y || ((z == y) || false))
    more y =
        ap (λ (xs : List ℕ). is_listed xs y) (take_more zones i 0 lt ∙ ap (λ (k : ℕ). take i zones ++ k ∷ []) (sym named))
        ∙ list_any-append (λ k. k == y) (take i zones) (z ∷ [])

    last_is : (y : ℕ) → (y ≡ z → ⊥) → ((z == y) || false) ≡ false
    last_is y other = ap (λ b. b || false) (ne_eqb z y (λ same. other (sym same)))

    or_last : (b : Bool) → (b || false) ≡ b
    or_last true = refl
    or_last false = refl

    other_len : (y : ℕ) → (y ≡ z → ⊥) → get_or new y 0 ≡ get_or old y 0
    other_len y other = ap (λ (xs : List ℕ). get_or xs y 0) e ∙ get_or-set_other old z y (longest_in m z) 0 other

pub all_more : (m : Map) (z v : ℕ) (old new : List ℕ) → new ≡ set old z v → v ≡ longest_in m z → z < length old → ((y : ℕ) → y < z → get_or old y 0 ≡ longest_in m y)
    → (y : ℕ) → y < z + 1 → get_or new y 0 ≡ longest_in m y
all_more m z v old new e is low done y lt = elim (cases_eq y z) [
  | inl same ↦ (ap (λ (k : ℕ). get_or new k 0) same ∙ ap (λ (xs : List ℕ). get_or xs z 0) e ∙ get_or-set_same old z v 0 low ∙ is ∙ ap (longest_in m) (sym same))
  | inr other ↦ (ap (λ (xs : List ℕ). get_or xs y 0) e ∙ get_or-set_other old z y v 0 other ∙ done y (omega (arith, lt, other)))
]
