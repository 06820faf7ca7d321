-- A search for an identifier that begins and ends where its runs can begin and end.
use Rattle.std.proofs.Common.{◌≡◌, ◌<◌, ◌≤◌, ◌⊎◌, ℕ, zero, suc, ◌+◌, ◌-◌, Bool, true, false, cond, List, [], ◌∷◌, ◌++◌, refl, sym, ap, ap₂, subst, ◌∙◌, inl, inr, arith}
use Rattle.std.specs.Prelude.{Contains, filter}
use Rattle.std.proofs.lemmas.Bool.{cases_eq, cases_lt, le-leb, lt-leb, or_parts as neither, true_from_ne_false}
use Rattle.std.proofs.lemmas.List.{append-nil, map-append}
use Rattle.std.proofs.lemmas.List.Concat.{flat_map-append}
use Rattle.std.proofs.lemmas.List.Elements.{Contains-append_left, filter-append}
use Rattle.fc_record.specs.declared.Geometry.{Geometry}
use Rattle.fc_record.specs.Record.{end_bit, first_bit}
use Rattle.fc_zone.specs.declared.Run.{Run}
use Rattle.fc_zone.specs.Edits.{HasRunAt}
use Rattle.fc_newmap.specs.declared.tally.IdTally.{IdTally}
use Rattle.fc_newmap.specs.declared.tally.Search.{Search}
use Rattle.fc_newmap.specs.declared.walk.Walk.{Walk}
use Rattle.fc_newmap.specs.Map.{Map, ZoneRun, bits_in, has_id, home_zone, id_runs, runs_in, runs_of, search_order, sector_of, shape}
use Rattle.fc_newmap.specs.NewMap.{IsNewMap}
use Rattle.fc_newmap.specs.RunsLaw.{placed}
use Rattle.fc_newmap.specs.Tally.{IsFirstIn, IsRow, IsSearch, has_run_of, zones_before}
use Rattle.fc_newmap.specs.Walk.{StandsAt, StandsBefore, StandsBeforeFirst, zone_after, zone_up, zones_from}
use Rattle.fc_newmap.proofs.ComposeLemmas.{zone_cut}
use Rattle.fc_newmap.proofs.PlaceLemmas.{home_low}
use Rattle.fc_newmap.proofs.RowLemmas.{any_none, any_of, not_below}
use Rattle.fc_newmap.proofs.RowChangeLemmas.{before_same}
use Rattle.fc_newmap.proofs.ZoneRunLemmas.{contains_cut, front_before}
use Rattle.fc_newmap.proofs.WalkLemmas.{after_last, after_other, filter_later, of_id, order_is}

-- ---- zones up, and round

up_after : (g : Geometry) (y n : ℕ) → zone_up g (zone_after g y) n ≡ zone_after g (zone_up g y n)
up_after g y zero = refl
up_after g y (suc n) = up_after g (zone_after g y) n

zones_cut : (g : Geometry) (y a b : ℕ) → zones_from g y (a + b) ≡ zones_from g y a ++ zones_from g (zone_up g y a) b
zones_cut g y zero b = ap (zones_from g y) (let e : zero + b ≡ b = omega arith in e)
zones_cut g y (suc a) b =
    ap (zones_from g y) (let e : suc a + b ≡ suc (a + b) = omega arith in e) ∙ ap (λ (zs : List ℕ). y ∷ zs) (zones_cut g (zone_after g y) a b)

-- the zone's number
pub up_is : (g : Geometry) (y n : ℕ) → y < g.zones → n < g.zones → (y + n < g.zones → zone_up g y n ≡ y + n) × (g.zones ≤ y + n → zone_up g y n + g.zones ≡ y + n)
up_is g y zero low few = (λ h. (let e : y ≡ y + zero = omega arith in e), λ h. absurd (omega arith))
up_is g y (suc n) low few =
    let before = up_is g y n low (omega arith) in
    let up = up_after g y n in (
      λ h. (let at = before.0 (omega arith) in up ∙ ap (zone_after g) at ∙ after_other g (y + n) (λ e. omega arith) ∙ (let e : y + n + 1 ≡ y + suc n = omega arith in e)),
      λ h. elim (cases_lt (y + n) g.zones) [
        | inl less ↦ (
            let at = before.0 less in
            let last : zone_up g y (suc n) ≡ 0 = up ∙ ap (zone_after g) at ∙ after_last g (y + n) (omega arith) in
            omega (arith, last))
        | inr more ↦ (
            let at = before.1 (omega arith) in
            let next : zone_up g y (suc n) ≡ zone_up g y n + 1 = up ∙ after_other g (zone_up g y n) (λ e. omega (arith, at, e)) in
            omega (arith, next, at))
      ],
    )

pub up_low : (g : Geometry) (y n : ℕ) → y < g.zones → n < g.zones → zone_up g y n < g.zones
up_low g y n low few =
    let is = up_is g y n low few in
    elim (cases_lt (y + n) g.zones) [
      | inl less ↦ omega (arith, is.0 less)
      | inr more ↦ omega (arith, is.1 (omega arith))
    ]

-- how many zones the search comes to before it
pub before_up : (g : Geometry) (id n : ℕ) → n < g.zones → zones_before g id (zone_up g (home_zone g id) n) ≡ n
before_up g id n few =
    let home = home_zone g id in
    let low = home_low g id (omega arith) in
    let up = zone_up g home n in
    let is = up_is g home n low few in
    elim (cases_lt (home + n) g.zones) [
      | inl less ↦ (
          let at : up ≡ home + n = is.0 less in
          ap (λ (b : Bool). cond b (up - home) (g.zones - home + up)) (le-leb home up (omega (arith, at))) ∙ (let e : up - home ≡ n = omega (arith, at) in e))
      | inr more ↦ (
          let at : up + g.zones ≡ home + n = is.1 (omega arith) in
          ap (λ (b : Bool). cond b (up - home) (g.zones - home + up)) (lt-leb home up (omega (arith, at))) ∙ (let e : g.zones - home + up ≡ n = omega (arith, at) in e))
    ]

-- ---- zones with no run of the identifier

none_placed : (id z : ℕ) (runs : List Run) → any_of id runs ≡ false → filter (of_id id) (placed z runs) ≡ []
none_placed id z [] none = refl
none_placed id z (run ∷ runs) none =
    let r = neither (has_id id run.kind) (any_of id runs) none in
    filter_later id (z, run) (placed z runs) r.0 ∙ none_placed id z runs r.1

-- between these places of the search
none_between : (m : Map) (id j n : ℕ) → j + n ≤ m.geometry.zones → ((z : ℕ) → z < m.geometry.zones → j ≤ zones_before m.geometry id z → zones_before m.geometry id z < j + n → has_run_of m id z ≡ false)
    → filter (of_id id) (runs_in m (zones_from m.geometry (zone_up m.geometry (home_zone m.geometry id) j) n)) ≡ []
none_between m id j zero within none = refl
none_between m id j (suc n) within none =
    let g = m.geometry in
    let home = home_zone g id in
    let z = zone_up g home j in
    let low = up_low g home j (home_low g id (omega arith)) (omega arith) in
    let at : zones_before g id z ≡ j = before_up g id j (omega arith) in
    let first : filter (of_id id) (placed z (runs_of m z)) ≡ [] = none_placed id z (runs_of m z) (none z low (omega (arith, at)) (omega (arith, at))) in
    let rest : filter (of_id id) (runs_in m (zones_from g (zone_after g z) n)) ≡ [] =
    ap (λ (y : ℕ). filter (of_id id) (runs_in m (zones_from g y n))) (sym (up_after g home j))
    ∙ none_between m id (suc j) n (omega arith) (λ y in' from to. none y in' (omega (arith, from)) (omega (arith, to))) in
    filter-append (of_id id) (placed z (runs_of m z)) (runs_in m (zones_from g (zone_after g z) n)) ∙ ap₂ (λ (xs ys : List ZoneRun). xs ++ ys) first rest

-- the identifier's runs of zones one after another
found_in : (m : Map) (id : ℕ) (xs ys : List ℕ) → filter (of_id id) (runs_in m (xs ++ ys)) ≡ filter (of_id id) (runs_in m xs) ++ filter (of_id id) (runs_in m ys)
found_in m id xs ys = ap (filter (of_id id)) (flat_map-append (λ z. placed z (runs_of m z)) xs ys) ∙ filter-append (of_id id) (runs_in m xs) (runs_in m ys)

-- a search comes to all of them
all_found : (m : Map) (id : ℕ) (search : Search) → IsSearch m id search
    → id_runs m id ≡ filter (of_id id) (runs_in m (zones_from m.geometry (zone_up m.geometry (home_zone m.geometry id) search.ahead) (suc search.more)))
all_found m id search is =
    let g = m.geometry in
    let home = home_zone g id in
    let first = zone_up g home search.ahead in
    let within = is.within in
    let n = search.ahead + suc search.more in
    let left = g.zones - n in
    let order : search_order g id ≡ (zones_from g home search.ahead ++ zones_from g first (suc search.more)) ++ zones_from g (zone_up g home n) left =
    sym (order_is g id (g.zones - 1) (omega (arith, within))) ∙ ap (zones_from g home) (let e : suc (g.zones - 1) ≡ n + left = omega (arith, within) in e)
    ∙ zones_cut g home n left ∙ ap (λ (zs : List ℕ). zs ++ zones_from g (zone_up g home n) left) (zones_cut g home search.ahead (suc search.more)) in
    let before : filter (of_id id) (runs_in m (zones_from g home search.ahead)) ≡ [] =
    none_between m id 0 search.ahead (omega (arith, within)) (λ z low from to. is.ahead z low (omega (arith, to))) in
    let after : filter (of_id id) (runs_in m (zones_from g (zone_up g home n) left)) ≡ [] = none_between m id n left (omega (arith, within)) (λ z low from to. is.reach z low (omega (arith, from))) in
    let here = filter (of_id id) (runs_in m (zones_from g first (suc search.more))) in
    ap (λ (zs : List ℕ). filter (of_id id) (runs_in m zs)) order
    ∙ found_in m id (zones_from g home search.ahead ++ zones_from g first (suc search.more)) (zones_from g (zone_up g home n) left)
    ∙ ap₂ (λ (xs ys : List ZoneRun). xs ++ ys) (found_in m id (zones_from g home search.ahead) (zones_from g first (suc search.more)) ∙ ap (λ (xs : List ZoneRun). xs ++ here) before) after ∙ append-nil here

pub started_search : (m : Map) (id first : ℕ) (search : Search) (walk : Walk) → IsSearch m id search → first ≡ zone_up m.geometry (home_zone m.geometry id) search.ahead → StandsBeforeFirst m id first search.more walk
    → StandsAt m (id_runs m id) (record { id = id; walk = walk })
started_search m id first search walk is at stands = record {
  all = stands.0;
  walk = stands.1.0;
  of_id = all_found m id search is ∙ ap (λ (y : ℕ). filter (of_id id) (runs_in m (zones_from m.geometry y (suc search.more)))) (sym at) ∙ sym stands.1.1;
}

-- where its first run begins
pub start_there : (m : Map) (id first : ℕ) (search : Search) → IsSearch m id search → first ≡ zone_up m.geometry (home_zone m.geometry id) search.ahead → first < m.geometry.zones → (search.start ≡ 0 → ⊥)
    → IsFirstIn m id first search.start
start_there m id first search is at low some =
    let within = is.within in
    is.start first low (ap (zones_before m.geometry id) at ∙ before_up m.geometry id search.ahead (omega (arith, within))) some

-- ---- the first run of the identifier in a zone

first_cut : (m : Map) (id z start : ℕ) (first : IsFirstIn m id z start) → (front rest : List Run) × (runs_of m z ≡ front ++ first.run ∷ rest)
first_cut m id z start first = contains_cut (runs_of m z) first.run first.among

pub first_has : (m : Map) (id z start : ℕ) → IsNewMap m → z < m.geometry.zones → IsFirstIn m id z start → HasRunAt (shape m.geometry z) (sector_of m z) start
first_has m id z start is low first =
    let cut = first_cut m id z start first in
    (first.run, (first.begins, (cut.0, (cut.1, zone_cut m z (cut.0 ++ first.run ∷ cut.1) is low cut.2))))

-- the runs before it are of others
none_before : (m : Map) (id z start : ℕ) (front rest : List Run) (first : IsFirstIn m id z start) → IsNewMap m → z < m.geometry.zones → runs_of m z ≡ front ++ first.run ∷ rest → any_of id front ≡ false
none_before m id z start front rest first is low cut = any_none id front (λ run c of_id.
    let zone = zone_cut m z (front ++ first.run ∷ rest) is low cut in
    let before = front_before (shape m.geometry z) _ front rest (first_bit z) (end_bit m.geometry z) first.run run zone.spelled c in
    let all : Contains (runs_of m z) run = subst (λ (runs : List Run). Contains runs run) (sym cut) (Contains-append_left front (first.run ∷ rest) run c) in
    let least = first.least run all of_id in
    let begins = first.begins in
    not_below start run.start least (omega (arith, before, begins)))

pub stands_first : (m : Map) (id z start more : ℕ) (walk : Walk) → IsNewMap m → z < m.geometry.zones → IsFirstIn m id z start
    → ((front rest : List Run) (run : Run) → runs_of m z ≡ front ++ run ∷ rest → run.start ≡ start
    → StandsBefore m (placed z (run ∷ rest) ++ runs_in m (zones_from m.geometry (zone_after m.geometry z) more)) walk) → StandsBeforeFirst m id z more walk
stands_first m id z start more walk is low first stands =
    let cut = first_cut m id z start first in
    let here = placed z (first.run ∷ cut.1) in
    let others = runs_in m (zones_from m.geometry (zone_after m.geometry z) more) in
    let whole : filter (of_id id) (placed z (runs_of m z)) ≡ filter (of_id id) here =
    ap (λ (runs : List Run). filter (of_id id) (placed z runs)) cut.2
    ∙ ap (filter (of_id id)) (map-append (λ (run : Run). let p : ZoneRun = (z, run) in p) cut.0 (first.run ∷ cut.1))
    ∙ filter-append (of_id id) (placed z cut.0) here
    ∙ ap (λ (xs : List ZoneRun). xs ++ filter (of_id id) here) (none_placed id z cut.0 (none_before m id z start cut.0 cut.1 first is low cut.2)) in (
      here ++ others,
      (
        stands cut.0 cut.1 first.run cut.2 first.begins,
        filter-append (of_id id) here others ∙ ap (λ (xs : List ZoneRun). xs ++ filter (of_id id) others) (sym whole) ∙ sym (filter-append (of_id id) (placed z (runs_of m z)) others),
      ),
    )

-- ---- the search that a row allows

-- the search comes to fewer zones before one than there are
pub before_low : (g : Geometry) (id z : ℕ) → z < g.zones → zones_before g id z < g.zones
before_low g id z low =
    let home = home_zone g id in
    let home_in = home_low g id (omega arith) in
    elim (cases_lt z home) [
      | inl less ↦ subst (λ (n : ℕ). n < g.zones) (sym (ap (λ (b : Bool). cond b (z - home) (g.zones - home + z)) (lt-leb home z less))) (omega arith)
      | inr more ↦ subst (λ (n : ℕ). n < g.zones) (sym (ap (λ (b : Bool). cond b (z - home) (g.zones - home + z)) (le-leb home z more))) (omega arith)
    ]

pub row_search : (m : Map) (id : ℕ) (row : IdTally) (search : Search) (last : ℕ) → last + 1 ≡ m.geometry.zones → IsRow m id row → search.ahead ≤ row.ahead → search.ahead + search.more ≤ last
    → (search.ahead + search.more < last → row.reach ≤ search.ahead + search.more + 1) → ((search.start ≡ 0 → ⊥) → (search.ahead ≡ row.ahead) × (search.start ≡ row.start)) → IsSearch m id search
row_search m id row search last all is ahead within reach start = record {
  within = omega arith;
  ahead = λ z low less. is.ahead z low (omega (arith, less));
  reach = λ z low more.
      elim (cases_lt (search.ahead + search.more) last) [
        | inl early ↦ is.reach z low (omega (arith, more, reach early))
        | inr late ↦ absurd (not_below (search.ahead + search.more + 1) (zones_before m.geometry id z) more (omega (arith, before_low m.geometry id z low)))
      ];
  start = λ z low e some.
      (let known = start some in
      subst (IsFirstIn m id z) (sym known.1) (is.start z low (e ∙ known.0) (λ none. some (known.1 ∙ none))));
}

pub whole_search : (m : Map) (id last : ℕ) → last + 1 ≡ m.geometry.zones → IsSearch m id (record { ahead = 0; more = last; start = 0 })
whole_search m id last all = record {
  within = omega arith;
  ahead = λ z low less. absurd (omega (arith, less));
  reach = λ z low more. absurd (not_below (last + 1) (zones_before m.geometry id z) (omega (arith, more)) (omega (arith, before_low m.geometry id z low)));
  start = λ z low e some. absurd (some refl);
}

-- ---- the next zone that may have runs of an identifier

-- Both zones and the first one that may have some, by where the search begins.
further : (zones home ahead reach z y first before later : ℕ)
    → (home + ahead < zones → first ≡ home + ahead) → (zones ≤ home + ahead → first + zones ≡ home + ahead)
    → (home ≤ z → before + home ≡ z) → (z < home → before + home ≡ zones + z) → (home ≤ y → later + home ≡ y) → (y < home → later + home ≡ zones + y)
    → home < zones → ahead < zones → y < zones → z ≤ y → (ahead ≤ before → reach ≤ before) → (z < first → y < first) → ahead ≤ later → reach ≤ later
further zones home ahead reach z y first before later whole round z_above z_below y_above y_below home_in few low from none early behind =
    elim (cases_lt z home) [
      | inl zb ↦ (
          let zb' = z_below zb in
          elim (cases_lt y home) [
            | inl yb ↦ (let yb' = y_below yb in elim (cases_lt (home + ahead) zones) [ inl w ↦ (let w' = whole w in grind arith) | inr w ↦ (let w' = round w in grind arith) ])
            | inr ya ↦ (let ya' = y_above ya in elim (cases_lt (home + ahead) zones) [ inl w ↦ (let w' = whole w in grind arith) | inr w ↦ (let w' = round w in grind arith) ])
          ])
      | inr za ↦ (
          let za' = z_above za in
          let ya' = y_above (omega arith) in
          elim (cases_lt (home + ahead) zones) [ inl w ↦ (let w' = whole w in grind arith) | inr w ↦ (let w' = round w in grind arith) ])
    ]

before_is : (g : Geometry) (id z : ℕ) → z < g.zones → (home_zone g id ≤ z → zones_before g id z + home_zone g id ≡ z) × (z < home_zone g id → zones_before g id z + home_zone g id ≡ g.zones + z)
before_is g id z low =
    let home = home_zone g id in
    let home_in = home_low g id (omega arith) in (
      λ h. ap (λ (b : Bool). cond b (z - home) (g.zones - home + z) + home) (le-leb home z h) ∙ (let e : z - home + home ≡ z = omega arith in e),
      λ h. ap (λ (b : Bool). cond b (z - home) (g.zones - home + z) + home) (lt-leb home z h) ∙ (let e : g.zones - home + z + home ≡ g.zones + z = omega arith in e),
    )

pub none_till : (g : Geometry) (id ahead reach z y first : ℕ) → z < g.zones → y < g.zones → ahead < g.zones → first ≡ zone_up g (home_zone g id) ahead
    → (ahead ≤ zones_before g id z → reach ≤ zones_before g id z) → z ≤ y → (z < first → y < first) → (zones_before g id y < ahead) ⊎ (reach ≤ zones_before g id y)
none_till g id ahead reach z y first z_low low few is none from early =
    let home = home_zone g id in
    let home_in = home_low g id (omega arith) in
    let up = up_is g home ahead home_in few in
    let bz = before_is g id z z_low in
    let by = before_is g id y low in
    elim (cases_lt (zones_before g id y) ahead) [
      | inl less ↦ inl less
      | inr more ↦ inr (further g.zones home ahead reach z y first (zones_before g id z) (zones_before g id y) (λ h. is ∙ up.0 h) (λ h. ap (λ (n : ℕ). n + g.zones) is ∙ up.1 h) bz.0 bz.1 by.0 by.1 home_in few low from none early more)
    ]

-- by a row
pub none_by : (m : Map) (id : ℕ) (row : IdTally) (y : ℕ) → IsRow m id row → y < m.geometry.zones → (zones_before m.geometry id y < row.ahead) ⊎ (row.reach ≤ zones_before m.geometry id y) → has_run_of m id y ≡ false
none_by m id row y is low (inl less) = is.ahead y low less
none_by m id row y is low (inr more) = is.reach y low more

-- ---- one zone has all runs

-- if no zone has a run of the identifier, it has no bits
no_bits : (m : Map) (id : ℕ) → 1 ≤ m.geometry.zones → ((z : ℕ) → z < m.geometry.zones → has_run_of m id z ≡ false) → bits_in (id_runs m id) ≡ 0
no_bits m id some none =
    let g = m.geometry in
    let empty : id_runs m id ≡ [] = ap (λ (zs : List ℕ). filter (of_id id) (runs_in m zs)) (sym (order_is g id (g.zones - 1) (omega (arith, some))))
    ∙ none_between m id 0 (suc (g.zones - 1)) (omega (arith, some)) (λ z low from to. none z low) in
    ap bits_in empty

-- it has some, and but one zone may have them
pub only_zone : (m : Map) (id : ℕ) (row : IdTally) (z : ℕ) → IsRow m id row → z < m.geometry.zones → (row.bits ≡ 0 → ⊥) → row.ahead < m.geometry.zones → row.reach ≡ row.ahead + 1 → z ≡ zone_up m.geometry (home_zone m.geometry id) row.ahead
    → has_run_of m id z ≡ true
only_zone m id row z is low some few reach at = true_from_ne_false (has_run_of m id z) (λ none.
    some (is.bits ∙ no_bits m id (omega arith) (λ y y_low. elim (cases_lt (zones_before m.geometry id y) row.ahead) [
      | inl less ↦ is.ahead y y_low less
      | inr more ↦ elim (cases_eq (zones_before m.geometry id y) row.ahead) [
        | inl same ↦ (
            let here = before_same m.geometry id y z y_low low (same ∙ sym (ap (zones_before m.geometry id) at ∙ before_up m.geometry id row.ahead few)) in
            ap (has_run_of m id) here ∙ none)
        | inr other ↦ is.reach y y_low (omega (arith, reach, more, other))
      ]
    ])))
