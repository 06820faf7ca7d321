-- Where the runs of an identifier are all of whose bits are those of the two that were counted last.
use Rattle.std.proofs.Common.{◌≡◌, ◌<◌, ◌≤◌, ◌⊎◌, ℕ, ◌+◌, Bool, true, false, cond, Some, None, List, ◌∷◌, refl, sym, ap, ap₂, subst, ◌∙◌, inl, inr, arith, eq-eqb, min, max}
use Rattle.std.specs.Prelude.{◌==◌, Contains}
use Rattle.std.specs.Option.{IfSome}
use Rattle.std.specs.List.{range_with_len}
use Rattle.std.specs.Prelude.{sum_by}
use Rattle.std.proofs.lemmas.Bool.{cases_eq, cases_lt, ne_eqb}
use Rattle.std.proofs.lemmas.List.Sums.{sum_by-cons}
use Rattle.fc_record.specs.declared.Geometry.{Geometry}
use Rattle.fc_record.specs.Record.{end_bit, first_bit}
use Rattle.fc_zone.specs.declared.Run.{Run}
use Rattle.fc_newmap.specs.declared.tally.IdTally.{IdTally}
use Rattle.fc_newmap.specs.declared.tally.NewestRun.{NewestRun}
use Rattle.fc_newmap.specs.Map.{Map, bits_in, has_id, home_zone, runs_of, shape}
use Rattle.fc_newmap.specs.NewMap.{IsNewMap}
use Rattle.fc_newmap.specs.RunsLaw.{placed}
use Rattle.fc_newmap.specs.Tally.{AreApart, IsBitOf, IsFirstIn, IsNewest, IsRow, bits_at, bits_there, first_of_two, has_run_of, id_runs_in, is_told, start_at, zones_before}
use Rattle.fc_newmap.specs.Walk.{zone_up}
use Rattle.fc_newmap.proofs.AheadLemmas.{before_up, up_low}
use Rattle.fc_newmap.proofs.HeldLemmas.{geometry_facts}
use Rattle.fc_newmap.proofs.PlaceLemmas.{home_low}
use Rattle.fc_newmap.proofs.RowLemmas.{RunsOf, any_none, not_both}
use Rattle.fc_newmap.proofs.RowChangeLemmas.{before_same}
use Rattle.fc_newmap.proofs.ZoneRunLemmas.{contains_cut, spelled_within}
use Rattle.fc_newmap.proofs.BitSumLemmas.{bits_by_zones, bits_of_id, of_runs, part, part-append, share}
use Rattle.fc_newmap.proofs.NewestLemmas.{covered_both, covered_low, none_early, one_low, three_low, two_low}

there_is : (run : NewestRun) (before : ℕ) → before ≡ run.before → bits_there run before ≡ run.len
there_is run before e = ap (λ (b : Bool). cond b run.len 0) (eq-eqb before run.before e)

there_not : (run : NewestRun) (before : ℕ) → (before ≡ run.before → ⊥) → bits_there run before ≡ 0
there_not run before ne = ap (λ (b : Bool). cond b run.len 0) (ne_eqb before run.before ne)

there_none : (run : NewestRun) (before : ℕ) → run.len ≡ 0 → bits_there run before ≡ 0
there_none run before none = elim (cases_eq before run.before) [
  | inl same ↦ there_is run before same ∙ none
  | inr other ↦ there_not run before other
]

-- a run's bits are among those of its identifier in its zone
some_part : (id z : ℕ) (runs : List Run) (run : Run) → Contains runs run → has_id id run.kind ≡ true → run.len ≤ part id z runs
some_part id z runs run c of_id =
    let cut = contains_cut runs run c in
    let parts : part id z runs ≡ part id z cut.0 + part id z (run ∷ cut.1) = ap (part id z) cut.2 ∙ part-append id z cut.0 (run ∷ cut.1) in
    let sum = sum_by-cons (bits_of_id id) (z, run) (placed z cut.1) in
    let own : share id run.kind run.len ≡ run.len = ap (λ (b : Bool). cond b run.len 0) of_id in
    omega (arith, parts, sum, own)

-- no bits there, so no run
none_there : (m : Map) (id z : ℕ) → IsNewMap m → z < m.geometry.zones → part id z (runs_of m z) ≤ 0 → has_run_of m id z ≡ false
none_there m id z is low none = any_none id (runs_of m z) (λ run c of_id.
    let zone = is.right z low in
    let within = spelled_within (shape m.geometry z) _ (runs_of m z) (first_bit z) (end_bit m.geometry z) run zone.spelled c in
    omega (arith, some_part id z (runs_of m z) run c of_id, within.1, none))

-- ---- the bits of two runs are all

module _ (m : Map) (id : ℕ) (is : IsNewMap m) where
  abbrev part_of : ℕ → ℕ
  part_of y = part id y (runs_of m y)

  -- those of one are in its zone
  part_low : (run : NewestRun) → (at : IsNewest m.geometry id (RunsOf m) run) → run.len ≤ part_of at.zone
  part_low run at =
      let zone = is.right at.zone at.low in
      covered_low id at.zone (shape m.geometry at.zone) _ (runs_of m at.zone) (first_bit at.zone) (end_bit m.geometry at.zone) run.start run.len zone.spelled at.bits

  -- those of one alone
  one_high : (run : NewestRun) → (at : IsNewest m.geometry id (RunsOf m) run) → sum_by part_of (range_with_len 0 m.geometry.zones) ≡ run.len → (y : ℕ) → y < m.geometry.zones
      → part_of y ≤ bits_there run (zones_before m.geometry id y)
  one_high run at all y low = elim (cases_eq y at.zone) [
    | inl here ↦ (
        let there = there_is run (zones_before m.geometry id y) (ap (zones_before m.geometry id) here ∙ at.before) in
        omega (arith, one_low part_of y m.geometry.zones low, all, there))
    | inr other ↦ omega (arith, two_low part_of at.zone y m.geometry.zones at.low low other, part_low run at, all)
  ]

  module _ (one two : NewestRun) (at : IsNewest m.geometry id (RunsOf m) one) (at' : IsNewest m.geometry id (RunsOf m) two) (apart : AreApart one two) where
    -- in one zone they are in order
    in_order : at.zone ≡ at'.zone → (one.start + one.len ≤ two.start) ⊎ ((two.start + two.len ≤ one.start) ⊎ ((one.len ≡ 0) ⊎ (two.len ≡ 0)))
    in_order same = elim (cases_lt two.start (one.start + one.len)) [
      | inl less ↦ elim (cases_lt one.start (two.start + two.len)) [
        | inl less' ↦ elim (cases_eq one.len 0) [
          | inl none ↦ inr (inr (inl none))
          | inr some ↦ elim (cases_eq two.len 0) [
            | inl none ↦ inr (inr (inr none))
            | inr some' ↦ (
                let before : one.before ≡ two.before = sym at.before ∙ ap (zones_before m.geometry id) same ∙ at'.before in
                absurd (apart (max one.start two.start) before (omega arith) (omega (arith, some)) (omega arith) (omega (arith, some'))))
          ]
        ]
        | inr past ↦ inr (inl past)
      ]
      | inr past ↦ inl past
    ]

    both_low : at.zone ≡ at'.zone → one.len + two.len ≤ part_of at.zone
    both_low same =
        let z = at.zone in
        let zone = is.right z at.low in
        let bits' : (bit : ℕ) → two.start ≤ bit → bit < two.start + two.len → IsBitOf id (RunsOf m z) bit = λ bit from to. subst (λ (y : ℕ). IsBitOf id (RunsOf m y) bit) (sym same) (at'.bits bit from to) in
        let by = covered_both id z (shape m.geometry z) _ (runs_of m z) (first_bit z) (end_bit m.geometry z) in
        elim (in_order same) [
          | inl first ↦ by one.start one.len two.start two.len first zone.spelled at.bits bits'
          | inr not_first ↦ elim not_first [
            | inl last ↦ omega (arith, by two.start two.len one.start one.len last zone.spelled bits' at.bits)
            | inr none ↦ elim none [
              | inl empty ↦ (let low = ap part_of same in omega (arith, part_low two at', low, empty))
              | inr empty ↦ omega (arith, part_low one at, empty)
            ]
          ]
        ]

    both_high : sum_by part_of (range_with_len 0 m.geometry.zones) ≡ one.len + two.len → (y : ℕ) → y < m.geometry.zones
        → part_of y ≤ bits_there one (zones_before m.geometry id y) + bits_there two (zones_before m.geometry id y)
    both_high all y low =
        let zones = m.geometry.zones in
        let before = zones_before m.geometry id y in
        let there : y ≡ at.zone → bits_there one before ≡ one.len = λ here. there_is one before (ap (zones_before m.geometry id) here ∙ at.before) in
        let there' : y ≡ at'.zone → bits_there two before ≡ two.len = λ here. there_is two before (ap (zones_before m.geometry id) here ∙ at'.before) in
        elim (cases_eq at.zone at'.zone) [
          | inl same ↦ elim (cases_eq y at.zone) [
            | inl here ↦ omega (arith, one_low part_of y zones low, all, there here, there' (here ∙ same))
            | inr other ↦ omega (arith, two_low part_of at.zone y zones at.low low other, both_low same, all)
          ]
          | inr apart' ↦ elim (cases_eq y at.zone) [
            | inl here ↦ (
                let mine = ap part_of here in
                omega (arith, two_low part_of at'.zone at.zone zones at'.low at.low apart', part_low two at', all, there here, mine))
            | inr other ↦ elim (cases_eq y at'.zone) [
              | inl here ↦ (
                  let mine = ap part_of here in
                  omega (arith, two_low part_of at.zone at'.zone zones at.low at'.low (λ e. apart' (sym e)), part_low one at, all, there' here, mine))
              | inr other' ↦ omega (arith, three_low part_of at.zone at'.zone y zones at.low at'.low low (λ e. apart' (sym e)) other other', part_low one at, part_low two at', all)
            ]
          ]
        ]

-- ---- what a row says of a zone

module _ (m : Map) (id : ℕ) (row : IdTally) (is : IsNewMap m) (says : IsRow m id row) where
  row_sum : sum_by (part_of m id is) (range_with_len 0 m.geometry.zones) ≡ row.bits
  row_sum = (let facts = geometry_facts m.geometry is.of_record in sym (bits_by_zones m id facts.zones) ∙ sym says.bits)

  -- by its row, an identifier has no more bits there
  told_high : row.bits ≡ row.newest.len + row.former.len → (y : ℕ) → y < m.geometry.zones
      → part id y (runs_of m y) ≤ bits_there row.newest (zones_before m.geometry id y) + bits_there row.former (zones_before m.geometry id y)
  told_high all y low = elim (cases_eq row.newest.len 0) [
    | inl none ↦ elim (cases_eq row.former.len 0) [
      | inl none' ↦ omega (arith, one_low (part_of m id is) y m.geometry.zones low, row_sum, all, none, none')
      | inr some' ↦ omega (arith, one_high m id is row.former (says.former some') (row_sum ∙ omega (arith, all, none)) y low)
    ]
    | inr some ↦ elim (cases_eq row.former.len 0) [
      | inl none' ↦ omega (arith, one_high m id is row.newest (says.newest some) (row_sum ∙ omega (arith, all, none')) y low)
      | inr some' ↦ both_high m id is row.newest row.former (says.newest some) (says.former some') says.apart (row_sum ∙ all) y low
    ]
  ]

  pub row_high : (y : ℕ) → y < m.geometry.zones → part id y (runs_of m y) ≤ bits_at row (zones_before m.geometry id y)
  row_high y low = elim (cases_eq row.bits (row.newest.len + row.former.len)) [
    | inl all ↦ rw (eq-eqb row.bits (row.newest.len + row.former.len) all) (told_high all y low)
    | inr other ↦ rw (ne_eqb row.bits (row.newest.len + row.former.len) other) (let one = one_low (part_of m id is) y m.geometry.zones low in omega (arith, one, row_sum))
  ]

  pub none_at : (y : ℕ) → y < m.geometry.zones → bits_at row (zones_before m.geometry id y) ≡ 0 → has_run_of m id y ≡ false
  none_at y low none = none_there m id y is low (omega (arith, row_high y low, none))

  pub none_told : (y : ℕ) → y < m.geometry.zones → is_told row ≡ true → bits_there row.newest (zones_before m.geometry id y) ≡ 0 → bits_there row.former (zones_before m.geometry id y) ≡ 0 → has_run_of m id y ≡ false
  none_told y low told none none' =
      none_at y low (ap (λ (b : Bool). cond b (bits_there row.newest (zones_before m.geometry id y) + bits_there row.former (zones_before m.geometry id y)) row.bits) told ∙ ap₂ (λ (a b : ℕ). a + b) none none')

  pub bits_high_in : (y : ℕ) → y < m.geometry.zones → bits_in (id_runs_in m id y) ≤ bits_at row (zones_before m.geometry id y)
  bits_high_in y low = omega (arith, of_runs id (placed y (runs_of m y)), row_high y low)

-- ---- the zone of a run

pub not_there : (g : Geometry) (id : ℕ) (run : NewestRun) (y zone : ℕ) → run.before < g.zones → y < g.zones → zone ≡ zone_up g (home_zone g id) run.before → (y ≡ zone → ⊥) → bits_there run (zones_before g id y) ≡ 0
not_there g id run y zone few low is other =
    there_not run (zones_before g id y) (λ e.
    other (before_same g id y zone low (subst (λ (k : ℕ). k < g.zones) (sym is) (up_low g (home_zone g id) run.before (home_low g id (omega arith)) few)) (e ∙ sym (ap (zones_before g id) is ∙ before_up g id run.before few))))

-- ---- where the first run begins

none_of : (n : ℕ) → (n == 0) ≡ true → n ≡ 0
none_of n is = elim (cases_eq n 0) [
  | inl e ↦ e
  | inr ne ↦ absurd (not_both (n == 0) is (ne_eqb n 0 ne))
]

some_of : (n : ℕ) → (n == 0) ≡ false → n ≡ 0 → ⊥
some_of n not e = not_both (n == 0) (eq-eqb n 0 e) not

module _ (m : Map) (id y : ℕ) (is : IsNewMap m) (low : y < m.geometry.zones) where
  -- all its bits there are these
  first_at : (a n b k : ℕ) → (n ≡ 0 → ⊥) → a + n ≤ b → ((bit : ℕ) → a ≤ bit → bit < a + n → IsBitOf id (RunsOf m y) bit) → ((bit : ℕ) → b ≤ bit → bit < b + k → IsBitOf id (RunsOf m y) bit)
      → part id y (runs_of m y) ≤ n + k → IsFirstIn m id y a
  first_at a n b k some order one two high =
      let zone = is.right y low in
      let least : (run : Run) → Contains (runs_of m y) run → has_id id run.kind ≡ true → a ≤ run.start = λ run c of_id.
      none_early id y (shape m.geometry y) _ (runs_of m y) (first_bit y) (end_bit m.geometry y) a n b k run zone.spelled c of_id order one two high in
      let bit = one a (omega arith) (omega (arith, some)) in
      let from = bit.from in
      record {
        run = bit.run;
        among = bit.among;
        of_id = bit.of_id;
        begins = omega (arith, from, least bit.run bit.among bit.of_id);
        least = least;
      }

  -- a counted run that has bits there is there
  its_bits : (run : NewestRun) → ((run.len ≡ 0 → ⊥) → IsNewest m.geometry id (RunsOf m) run) → (bits_there run (zones_before m.geometry id y) ≡ 0 → ⊥)
      → (run.len ≡ 0 → ⊥) × (zones_before m.geometry id y ≡ run.before) × ((bit : ℕ) → run.start ≤ bit → bit < run.start + run.len → IsBitOf id (RunsOf m y) bit)
  its_bits run at some =
      let long : run.len ≡ 0 → ⊥ = λ none. some (there_none run (zones_before m.geometry id y) none) in
      let known = at long in
      elim (cases_eq (zones_before m.geometry id y) run.before) [
        | inl same ↦ (
            let here = before_same m.geometry id known.zone y known.low low (known.before ∙ sym same) in
            (long, same, λ bit from to. subst (λ (k : ℕ). IsBitOf id (RunsOf m k) bit) here (known.bits bit from to)))
        | inr other ↦ absurd (some (there_not run (zones_before m.geometry id y) other))
      ]

  alone : (run : NewestRun) → ((run.len ≡ 0 → ⊥) → IsNewest m.geometry id (RunsOf m) run) → (bits_there run (zones_before m.geometry id y) ≡ 0 → ⊥)
      → part id y (runs_of m y) ≤ bits_there run (zones_before m.geometry id y) → IsFirstIn m id y run.start
  alone run at some high =
      let there = its_bits run at some in
      let len = there_is run (zones_before m.geometry id y) there.1 in
      first_at run.start run.len (run.start + run.len) 0 there.0 (omega arith) there.2 (λ bit past to. absurd (omega arith)) (omega (arith, high, len))

  both : (one two : NewestRun) → ((one.len ≡ 0 → ⊥) → IsNewest m.geometry id (RunsOf m) one) → ((two.len ≡ 0 → ⊥) → IsNewest m.geometry id (RunsOf m) two) → AreApart one two
      → (bits_there one (zones_before m.geometry id y) ≡ 0 → ⊥) → (bits_there two (zones_before m.geometry id y) ≡ 0 → ⊥)
      → part id y (runs_of m y) ≤ bits_there one (zones_before m.geometry id y) + bits_there two (zones_before m.geometry id y) → IsFirstIn m id y (min one.start two.start)
  both one two at at' apart some some' high =
      let there = its_bits one at some in
      let there' = its_bits two at' some' in
      let len = there_is one (zones_before m.geometry id y) there.1 in
      let len' = there_is two (zones_before m.geometry id y) there'.1 in
      elim (cases_lt two.start (one.start + one.len)) [
        | inl less ↦ elim (cases_lt one.start (two.start + two.len)) [
          | inl less' ↦ (
              let long = there.0 in
              let long' = there'.0 in
              absurd (apart (max one.start two.start) (sym there.1 ∙ there'.1) (omega arith) (omega (arith, long)) (omega arith) (omega (arith, long'))))
          | inr past ↦ (
              let least : min one.start two.start ≡ two.start = omega (arith, past) in
              rw least (first_at two.start two.len one.start one.len there'.0 past there'.2 there.2 (omega (arith, high, len, len'))))
        ]
        | inr past ↦ (
            let least : min one.start two.start ≡ one.start = omega (arith, past) in
            rw least (first_at one.start one.len two.start two.len there.0 past there.2 there'.2 (omega (arith, high, len, len'))))
      ]

  pub told_start : (row : IdTally) → IsRow m id row → IfSome (start_at row (zones_before m.geometry id y)) (IsFirstIn m id y)
  told_start row says = by (is_told row) refl
    where
      pick : (a b : Bool) → (bits_there row.newest (zones_before m.geometry id y) == 0) ≡ a → (bits_there row.former (zones_before m.geometry id y) == 0) ≡ b → part id y (runs_of m y) ≤ bits_there row.newest (zones_before m.geometry id y) + bits_there row.former (zones_before m.geometry id y)
          → IfSome (cond a (cond b None (Some row.former.start)) (cond b (Some row.newest.start) (Some (min row.newest.start row.former.start)))) (IsFirstIn m id y)
      pick true true none none' high = tt
      pick true false none some high = alone row.former says.former (some_of _ some) (omega (arith, high, none_of _ none))
      pick false true some none high = alone row.newest says.newest (some_of _ some) (omega (arith, high, none_of _ none))
      pick false false some some' high = both row.newest row.former says.newest says.former says.apart (some_of _ some) (some_of _ some') high

      all_of : is_told row ≡ true → row.bits ≡ row.newest.len + row.former.len
      all_of told = elim (cases_eq row.bits (row.newest.len + row.former.len)) [
        | inl all ↦ all
        | inr other ↦ absurd (not_both (is_told row) told (ne_eqb row.bits (row.newest.len + row.former.len) other))
      ]

      by : (b : Bool) → is_told row ≡ b → IfSome (cond b (first_of_two row (zones_before m.geometry id y)) None) (IsFirstIn m id y)
      by false none = tt
      by true told = pick (bits_there row.newest (zones_before m.geometry id y) == 0) (bits_there row.former (zones_before m.geometry id y) == 0) refl refl (told_high m id row is says (all_of told) y low)
