-- What a survey says of a map, before a join and after it.
use Rattle.std.proofs.Common.{◌≡◌, ◌<◌, ◌≤◌, ◌⊎◌, inl, inr, ℕ, zero, suc, ◌+◌, ◌-◌, Bool, true, false, cond, List, [], ◌∷◌, ◌++◌, length, take, get_or, refl, sym, ap, ap₂, subst, ◌∙◌, arith}
use Rattle.std.specs.Prelude.{◌==◌, ◌||◌, All, filter}
use Rattle.std.specs.List.{flat_map, list_any, range_with_len}
use Rattle.std.proofs.lemmas.Bool.{cases_eq, cases_lt, eq-eqb, ne_eqb, or_parts as neither}
use Rattle.std.proofs.lemmas.List.{length-take, take_all}
use Rattle.std.proofs.lemmas.List.Elements.{All-filter, All-take}
use Rattle.fc_record.specs.declared.Geometry.{Geometry}
use Rattle.fc_zone.specs.declared.Run.{Run}
use Rattle.fc_newmap.specs.Map.{Map, ZoneRun, bits_in, id_runs, is_hole, longest, runs_of, zone_numbers}
use Rattle.fc_newmap.specs.RunsLaw.{placed}
use Rattle.fc_image.specs.effects.Moves.{rejoined, with_holes_joined}
use Rattle.fc_image.specs.effects.Placed.{front_of}
use Rattle.fc_image.specs.effects.Settled.{zones_with}
use Rattle.fc_compact.specs.declared.candidates.Candidates.{Candidates}
use Rattle.fc_compact.specs.declared.survey.Survey.{Survey}
use Rattle.fc_compact.specs.Candidates.{AreCandidates, HasJoined, SeesFew, zones_at}
use Rattle.fc_compact.specs.Joins.{HoldsRuns, has_run_in, is_listed, join_zones}
use Rattle.fc_compact.specs.Longest.{AreLongest, longest_in}
use Rattle.fc_newmap.specs.NewMap.{IsNewMap}
use Rattle.fc_compact.proofs.FoundLemmas.{listed_passes, range_below}
use Rattle.fc_compact.proofs.HoldLemmas.{has_run_same, zones_same}
use Rattle.fc_compact.proofs.LongestLemmas.{Measured}
use Rattle.fc_compact.proofs.SideLemmas.{above, below, cut_at, zone_added}

-- ---- the zones of an identifier

pub zones_low : (m : Map) (id : ℕ) (zones : List ℕ) → zones ≡ take 9 (zones_with m id) → All (λ z. z < m.geometry.zones) zones
zones_low m id zones e =
    let n = m.geometry.zones in
    let t : ℕ → Bool = λ z. list_any (λ (p : ZoneRun). p.0 == z) (id_runs m id) in
    subst (All (λ z. z < n)) (sym e) (All-take (λ (z : ℕ). z < n) 9 (zones_with m id) (All-filter t (λ (z : ℕ). z < n) (range_with_len 0 n) (range_below n)))

pub holds_all : (m : Map) → IsNewMap m → (id : ℕ) (zones : List ℕ) → zones ≡ zones_with m id → HoldsRuns m id zones
holds_all m is id zones e = record { test = has_run_in m id; are = e ∙ zones_same m is id; all = λ z there. there }

-- the zones that a join changes are those of the identifier's runs, and that of the hole
pub zones_joined_are : (m : Map) → IsNewMap m → (id z : ℕ) → z < m.geometry.zones → (zones : List ℕ) → zones ≡ zones_with m id → below z zones ++ z ∷ above z zones ≡ join_zones m id z
zones_joined_are m is id z low zones e =
    ap (λ (xs : List ℕ). below z xs ++ z ∷ above z xs) (e ∙ zones_same m is id) ∙ zone_added (has_run_in m id) z m.geometry.zones low

pub few_are_all : (zones all : List ℕ) → zones ≡ take 9 all → length zones < 9 → (zones ≡ all) × (length all ≤ 8)
few_are_all zones all e short = elim (cases_few (length all)) [
  | inl few ↦ (e ∙ take_all 9 all (omega (arith, few)), few)
  | inr many ↦ absurd (let l = length-take 9 all in let f = ap length e in omega (arith, l, f, short, many))
]
  where
    cases_few : (n : ℕ) → (n ≤ 8) ⊎ (9 ≤ n)
    cases_few n = elim (cases_lt n 9) [
      | inl less ↦ inl (omega (arith, less))
      | inr ge ↦ inr ge
    ]

pub many_are_more : (zones all : List ℕ) → zones ≡ take 9 all → length zones ≡ 9 → 9 ≤ length all
many_are_more zones all e full = (let l = length-take 9 all in let f = ap length e in omega (arith, l, f, full))

none_pass : (t : ℕ → Bool) (from n : ℕ) → ((y : ℕ) → from ≤ y → y < from + n → t y ≡ false) → filter t (range_with_len from n) ≡ []
none_pass t from zero none = refl
none_pass t from (suc n) none =
    ap (λ b. cond b (from ∷ filter t (range_with_len (from + 1) n)) (filter t (range_with_len (from + 1) n))) (none from (omega arith) (omega arith))
    ∙ none_pass t (from + 1) n (λ y low high. none y (omega (arith, low)) (omega (arith, high)))

-- an identifier of one run stands in one zone
pub one_zone_with : (m : Map) (id zone : ℕ) (run : Run) → zone < m.geometry.zones → id_runs m id ≡ (zone, run) ∷ [] → zones_with m id ≡ zone ∷ []
one_zone_with m id zone run low one =
    let n = m.geometry.zones in
    let t : ℕ → Bool = λ y. (zone == y) || false in
    let other : (y : ℕ) → (zone ≡ y → ⊥) → t y ≡ false = λ y ne. ap (λ b. b || false) (ne_eqb zone y ne) in
    ap (λ (ps : List ZoneRun). filter (λ y. list_any (λ (p : ZoneRun). p.0 == y) ps) (zone_numbers m.geometry)) one
    ∙ cut_at t zone n low
    ∙ ap₂ (λ (xs ys : List ℕ). xs ++ (cond (t zone) (zone ∷ []) [] ++ ys))
    (none_pass t 0 zone (λ y from to. other y (λ e. omega (arith, to, e))))
    (none_pass t (zone + 1) (n - (zone + 1)) (λ y from to. other y (λ e. omega (arith, from, e))))
    ∙ ap (λ b. cond (b || false) (zone ∷ []) [] ++ []) (eq-eqb zone zone refl)

same_zones_with : (m m' : Map) (id : ℕ) → m'.geometry ≡ m.geometry → id_runs m' id ≡ id_runs m id → zones_with m' id ≡ zones_with m id
same_zones_with m m' id geometry same =
    ap₂ (λ (ps : List ZoneRun) (g : Geometry). filter (λ y. list_any (λ (p : ZoneRun). p.0 == y) ps) (zone_numbers g)) same geometry

-- ---- after a join

module _ (m m' : Map) (s : Survey) (id zone : ℕ) (has : HasJoined m m' s id zone) (low : zone < m.geometry.zones) where
  pub few_now : SeesFew s.seen m'
  few_now k few = elim (cases_eq k id) [
    | inl same ↦ (let one = ap length has.joined.one in let e = ap (λ (j : ℕ). length (id_runs m' j)) same in omega (arith, one, e))
    | inr other ↦ (let was = has.survey.few k few in let e = ap length (has.joined.others k other) in omega (arith, was, e))
  ]

  -- the identifier stands in the hole's zone, and all others where they stood
  pub candidates_now : (c : Candidates) → c.ids ≡ s.candidates.ids → length c.zones.items ≡ length s.candidates.ids.items
      → ((k : ℕ) → k < length s.candidates.ids.items → get_or s.candidates.ids.items k 0 ≡ id → zones_at c k ≡ zone ∷ [])
      → ((k : ℕ) → (get_or s.candidates.ids.items k 0 ≡ id → ⊥) → zones_at c k ≡ zones_at s.candidates k) → AreCandidates m' c
  candidates_now c ids size here others = record {
    rises = subst (λ x. (i j : ℕ) → i < j → j < length x.items → get_or x.items i 0 < get_or x.items j 0) (sym ids) has.survey.candidates.rises;
    size = size ∙ ap (λ x. length x.items) (sym ids);
    zones = λ k lt.
        let before : k < length s.candidates.ids.items = omega (arith, lt, ap (λ x. length x.items) ids) in
        subst (λ (i : ℕ). zones_at c k ≡ take 9 (zones_with m' i)) (ap (λ x. get_or x.items k 0) (sym ids)) (by k before);
  }
    where
      by : (k : ℕ) → k < length s.candidates.ids.items → zones_at c k ≡ take 9 (zones_with m' (get_or s.candidates.ids.items k 0))
      by k lt = elim (cases_eq (get_or s.candidates.ids.items k 0) id) [
        | inl same ↦ (
            let one = one_zone_with m' id zone _ (subst (λ (g : Geometry). zone < g.zones) (sym has.geometry) low) has.joined.one in
            here k lt same ∙ sym (ap (take 9) (ap (zones_with m') same ∙ one)))
        | inr other ↦ (others k other ∙ has.survey.candidates.zones k lt
            ∙ ap (take 9) (sym (same_zones_with m m' (get_or s.candidates.ids.items k 0) has.geometry (has.joined.others (get_or s.candidates.ids.items k 0) other))))
      ]

  -- zones that were measured again, and all others, have their longest holes
  pub lens_now : (zones mid lens : List ℕ) → zones ≡ take 9 (zones_with m id) → Measured m' zones s.lens mid → Measured m' (zone ∷ []) mid lens → AreLongest m' lens
  lens_now zones mid lens e first second y lt =
      let below : y < m.geometry.zones = subst (λ (g : Geometry). y < g.zones) has.geometry lt in
      by below (is_listed (zone ∷ []) y) (is_listed zones y) refl refl
    where
      all : zones ≡ filter (has_run_in m id) (range_with_len 0 m.geometry.zones)
      all = e ∙ take_all 9 (zones_with m id) (let f = has.few in omega (arith, f)) ∙ zones_same m has.map id

      by : y < m.geometry.zones → (a b : Bool) → is_listed (zone ∷ []) y ≡ a → is_listed zones y ≡ b → get_or lens y 0 ≡ longest_in m' y
      by below true b f g = second.here y f
      by below false true f g = second.others y f ∙ first.here y g
      by below false false f g =
          let away : (zone == y) ≡ false = (neither (zone == y) false f).0 in
          let none : list_any (λ (p : ZoneRun). p.0 == y) (id_runs m id) ≡ false =
          sym (has_run_same m has.map id y below) ∙ sym (ap (λ (xs : List ℕ). is_listed xs y) all ∙ listed_passes (has_run_in m id) m.geometry.zones y below) ∙ g in
          let same : runs_of m' y ≡ runs_of m y = has.joined.zones y below ∙ ap₂ (λ (a b : Bool). joined_or a b) away none in
          second.others y f ∙ first.others y g ∙ has.survey.lens y below
          ∙ ap (λ (runs : List Run). longest (filter (λ (p : ZoneRun). is_hole p.1.kind) (placed y runs))) (sym same)
        where
          joined_or : Bool → Bool → List Run
          joined_or a b = cond (a || b) (with_holes_joined (flat_map (rejoined (front_of m.geometry (bits_in (id_runs m id)) (zone, has.hole)).1.len (zone, has.hole) id y) (runs_of m y))) (runs_of m y)
