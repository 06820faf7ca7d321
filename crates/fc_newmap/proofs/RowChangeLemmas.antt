-- A row of a tally, when a run comes and when one goes.
use Rattle.std.proofs.Common.{◌≡◌, ◌<◌, ◌≤◌, ℕ, ◌+◌, ◌-◌, Bool, true, false, cond, refl, sym, ap, subst, ◌∙◌, inl, inr, arith, eq-eqb, ap₂, min, max}
use Rattle.std.specs.Prelude.{◌⊎◌, ◌&&◌, ◌==◌, nat_le, nat_lt}
use Rattle.std.proofs.lemmas.Bool.{cases_eq, cases_lt, ne_eqb, lt-ltb, le-ltb, le-leb, lt-leb}
use Rattle.fc_record.specs.declared.Geometry.{Geometry}
use Rattle.fc_zone.specs.declared.Run.{Run}
use Rattle.fc_newmap.specs.declared.tally.IdTally.{IdTally}
use Rattle.fc_newmap.specs.declared.tally.NewestRun.{NewestRun}
use Rattle.fc_newmap.specs.Map.{has_id, home_zone}
use Rattle.fc_newmap.specs.Tally.{AreApart, IsBitOf, IsFirst, IsNewest, first_start, former_of, meets, newest_left, newest_of, no_newest, row_left, row_with, start_left, zones_before}
use Rattle.fc_newmap.proofs.PlaceLemmas.{home_low}
use Rattle.fc_newmap.proofs.RowLemmas.{Covers, Fits, bit_in, newest_kept, not_below, not_both, spans_of}

-- ---- a run more

-- the search comes to each zone once
pub before_same : (g : Geometry) (id y z : ℕ) → y < g.zones → z < g.zones → zones_before g id y ≡ zones_before g id z → y ≡ z
before_same g id y z in' low e =
    let home = home_zone g id in
    let home_in = home_low g id (omega arith) in
    elim (cases_lt y home) [
      | inl y_low ↦ elim (cases_lt z home) [
        | inl z_low ↦ (let f = sym (below home y y_low) ∙ e ∙ below home z z_low in omega (arith, f))
        | inr z_high ↦ (let f = sym (below home y y_low) ∙ e ∙ above home z z_high in omega (arith, f))
      ]
      | inr y_high ↦ elim (cases_lt z home) [
        | inl z_low ↦ (let f = sym (above home y y_high) ∙ e ∙ below home z z_low in omega (arith, f))
        | inr z_high ↦ (let f = sym (above home y y_high) ∙ e ∙ above home z z_high in omega (arith, f))
      ]
    ]
  where
    below : (home z : ℕ) → z < home → cond (nat_le home z) (z - home) (g.zones - home + z) ≡ g.zones - home + z
    below home z h = ap (λ (b : Bool). cond b (z - home) (g.zones - home + z)) (lt-leb home z h)

    above : (home z : ℕ) → home ≤ z → cond (nat_le home z) (z - home) (g.zones - home + z) ≡ z - home
    above home z h = ap (λ (b : Bool). cond b (z - home) (g.zones - home + z)) (le-leb home z h)

-- No bit of the run in the zone is the identifier's.
abbrev pub IsNew : Geometry → ℕ → ℕ → (ℕ → Run → Type 0) → Run → Type 0
IsNew g id z In run = (bit : ℕ) → run.start ≤ bit → bit < run.start + run.len → IsBitOf id (In z) bit → ⊥

-- those runs, and one more in a zone
abbrev pub More : (ℕ → Run → Type 0) → ℕ → Run → ℕ → Run → Type 0
More In z run y other = In y other ⊎ ((y ≡ z) × (other ≡ run))

start_before : (row : IdTally) (before start : ℕ) → before < row.ahead → first_start row before start ≡ start
start_before row before start h =
    ap (λ (b : Bool). cond b start (cond (before == row.ahead) (min row.start start) row.start)) (lt-ltb before row.ahead h)

start_there : (row : IdTally) (before start : ℕ) → before ≡ row.ahead → first_start row before start ≡ min row.start start
start_there row before start e =
    ap (λ (b : Bool). cond b start (cond (before == row.ahead) (min row.start start) row.start)) (le-ltb before row.ahead (omega arith))
    ∙ ap (λ (b : Bool). cond b (min row.start start) row.start) (eq-eqb before row.ahead e)

start_after : (row : IdTally) (before start : ℕ) → row.ahead < before → first_start row before start ≡ row.start
start_after row before start h =
    ap (λ (b : Bool). cond b start (cond (before == row.ahead) (min row.start start) row.start)) (le-ltb before row.ahead (omega arith))
    ∙ ap (λ (b : Bool). cond b (min row.start start) row.start) (ne_eqb before row.ahead (λ e. omega arith))

module _ (g : Geometry) (id z : ℕ) (In : ℕ → Run → Type 0) (row : IdTally) (run : Run) (low : z < g.zones) (is : has_id id run.kind ≡ true) (fits : Fits g id In row) where
  -- it is in a zone before all others
  first_before : zones_before g id z < row.ahead → IsFirst id (More In z run z) run.start
  first_before less = record {
    run = run;
    among = inr (refl, refl);
    of_id = is;
    begins = refl;
    least = λ other in' of_id. elim in' [
      | inl old ↦ absurd (not_below row.ahead (zones_before g id z) (fits.ahead z other low old of_id) less)
      | inr new ↦ (let same = ap (λ (u : Run). u.start) new.1 in omega (arith, same))
    ];
  }

  -- it is in the zone of the first
  first_there : IsFirst id (In z) row.start → IsFirst id (More In z run z) (min row.start run.start)
  first_there first = elim (cases_lt run.start row.start) [
    | inl less ↦ record {
      run = run;
      among = inr (refl, refl);
      of_id = is;
      begins = omega arith;
      least = λ other in' of_id. least other in' of_id;
    }
    | inr more ↦ (let begins = first.begins in record {
      run = first.run;
      among = inl first.among;
      of_id = first.of_id;
      begins = omega (arith, begins);
      least = λ other in' of_id. least other in' of_id;
    })
  ]
    where
      least : (other : Run) → More In z run z other → has_id id other.kind ≡ true → min row.start run.start ≤ other.start
      least other in' of_id = elim in' [
        | inl old ↦ (let low' = first.least other old of_id in omega (arith, low'))
        | inr new ↦ (let same = ap (λ (u : Run). u.start) new.1 in omega (arith, same))
      ]

  -- it is in another zone
  first_later : (y : ℕ) → (y ≡ z → ⊥) → IsFirst id (In y) row.start → IsFirst id (More In z run y) row.start
  first_later y other_zone first = record {
    run = first.run;
    among = inl first.among;
    of_id = first.of_id;
    begins = first.begins;
    least = λ other in' of_id. elim in' [
      | inl old ↦ first.least other old of_id
      | inr new ↦ absurd (other_zone new.0)
    ];
  }

  first_more : (y : ℕ) → y < g.zones → zones_before g id y ≡ min row.ahead (zones_before g id z) → (first_start row (zones_before g id z) run.start ≡ 0 → ⊥)
      → IsFirst id (More In z run y) (first_start row (zones_before g id z) run.start)
  first_more y y_low e some = elim (cases_lt (zones_before g id z) row.ahead) [
    | inl less ↦ (
        let here = before_same g id y z y_low low (e ∙ right_least row.ahead (zones_before g id z) less) in
        at_zone y here (subst (IsFirst id (More In z run z)) (sym (start_before row (zones_before g id z) run.start less)) (first_before less)))
    | inr more ↦ elim (cases_eq (zones_before g id z) row.ahead) [
      | inl same ↦ (
          let here = before_same g id y z y_low low (e ∙ both_least row.ahead (zones_before g id z) same) in
          let was : row.start ≡ 0 → ⊥ = λ none. some (start_there row (zones_before g id z) run.start same ∙ ap (λ (n : ℕ). min n run.start) none ∙ least_none run.start) in
          at_zone y here (subst (IsFirst id (More In z run z)) (sym (start_there row (zones_before g id z) run.start same)) (first_there (fits.start z low same was))))
      | inr other ↦ (
          let after : row.ahead < zones_before g id z = above row.ahead (zones_before g id z) more other in
          let there : zones_before g id y ≡ row.ahead = e ∙ left_least row.ahead (zones_before g id z) more in
          let start = start_after row (zones_before g id z) run.start after in
          subst (IsFirst id (More In z run y)) (sym start)
          (first_later y (λ h. other (ap (zones_before g id) (sym h) ∙ there)) (fits.start y y_low there (λ none. some (start ∙ none)))))
    ]
  ]
    where
      at_zone : (y : ℕ) {start : ℕ} → y ≡ z → IsFirst id (More In z run z) start → IsFirst id (More In z run y) start
      at_zone y {start} e first = subst (λ (k : ℕ). IsFirst id (More In z run k) start) (sym e) first

      least_none : (n : ℕ) → min 0 n ≡ 0
      least_none n = omega arith

      right_least : (a b : ℕ) → b < a → min a b ≡ b
      right_least a b h = omega arith

      left_least : (a b : ℕ) → a ≤ b → min a b ≡ a
      left_least a b h = omega arith

      both_least : (a b : ℕ) → b ≡ a → min a b ≡ b
      both_least a b h = omega arith

      above : (a b : ℕ) → a ≤ b → (b ≡ a → ⊥) → a < b
      above a b h other = omega arith

  -- the newest has no bits of this one, and stays
  newest_apart : (len : ℕ) → len ≡ run.len → IsNew g id z In run → AreApart (record { before = zones_before g id z; start = run.start; len = len }) row.newest
  newest_apart len whole new bit same from to from' to' =
      let newest = fits.newest (λ none. omega (arith, none, from', to')) in
      let here = before_same g id newest.zone z newest.low low (newest.before ∙ sym same) in
      new bit from (subst (λ (n : ℕ). bit < run.start + n) whole to) (subst (λ (y : ℕ). IsBitOf id (In y) bit) here (newest.bits bit from' to'))

  newest_more : (newest : NewestRun) → IsNewest g id In newest → IsNewest g id (More In z run) newest
  newest_more newest is = newest_kept g id In (More In z run) newest (λ y y_low. spans_of id (In y) (More In z run y) (λ u c. inl c)) is

  pub fits_more : (len : ℕ) → len ≡ run.len → IsNew g id z In run → Fits g id (More In z run) (row_with row (zones_before g id z) run.start len)
  fits_more len whole new = record {
    ahead = λ y other y_low in' of_id. elim in' [
      | inl old ↦ left_low row.ahead (zones_before g id z) (zones_before g id y) (fits.ahead y other y_low old of_id)
      | inr new ↦ right_low row.ahead (zones_before g id z) (zones_before g id y) (ap (zones_before g id) new.0)
    ];
    reach = λ y other y_low in' of_id. elim in' [
      | inl old ↦ left_high row.reach (zones_before g id z) (zones_before g id y) (fits.reach y other y_low old of_id)
      | inr new ↦ right_high row.reach (zones_before g id z) (zones_before g id y) (ap (zones_before g id) new.0)
    ];
    start = first_more;
    newest = λ some. record {
      zone = z;
      low = low;
      before = refl;
      bits = λ bit from to. record {
        run = run;
        among = inr (refl, refl);
        of_id = is;
        from = from;
        before = subst (λ (n : ℕ). bit < run.start + n) whole to;
      };
    };
    former = λ some. newest_more row.newest (fits.newest some);
    apart = newest_apart len whole new;
  }
    where
      left_low : (a b n : ℕ) → a ≤ n → min a b ≤ n
      left_low a b n h = omega arith

      right_low : (a b n : ℕ) → n ≡ b → min a b ≤ n
      right_low a b n h = omega arith

      left_high : (a b n : ℕ) → n < a → n < max a (b + 1)
      left_high a b n h = omega arith

      right_high : (a b n : ℕ) → n ≡ b → n < max a (b + 1)
      right_high a b n h = omega arith

-- ---- a run less

start_gone : (row : IdTally) (before start : ℕ) → before ≡ row.ahead → start ≡ row.start → start_left row before start ≡ 0
start_gone row before start zone at =
    ap₂ (λ (a b : Bool). cond (a && b) 0 row.start) (eq-eqb before row.ahead zone) (eq-eqb start row.start at)

start_stays : (row : IdTally) (before start : ℕ) → (before ≡ row.ahead → start ≡ row.start → ⊥) → start_left row before start ≡ row.start
start_stays row before start other = elim (cases_eq before row.ahead) [
  | inl zone ↦ ap₂ (λ (a b : Bool). cond (a && b) 0 row.start) (eq-eqb before row.ahead zone) (ne_eqb start row.start (other zone))
  | inr ne ↦ ap (λ (a : Bool). cond (a && (start == row.start)) 0 row.start) (ne_eqb before row.ahead ne)
]

meets_there : (newest : NewestRun) (before start len bit : ℕ) → before ≡ newest.before → newest.start ≤ bit → bit < newest.start + newest.len → start ≤ bit → bit < start + len → meets newest before start len ≡ true
meets_there newest before start len bit zone from to from' to' =
    ap (λ (a : Bool). a && cond (nat_le start newest.start) (nat_lt newest.start (start + len)) (nat_lt start (newest.start + newest.len))) (eq-eqb before newest.before zone)
    ∙ elim (cases_lt newest.start start) [
      | inl less ↦ ap (λ (b : Bool). cond b (nat_lt newest.start (start + len)) (nat_lt start (newest.start + newest.len))) (lt-leb start newest.start less)
          ∙ lt-ltb start (newest.start + newest.len) (omega arith)
      | inr more ↦ ap (λ (b : Bool). cond b (nat_lt newest.start (start + len)) (nat_lt start (newest.start + newest.len))) (le-leb start newest.start more)
          ∙ lt-ltb newest.start (start + len) (omega arith)
    ]

-- the two that are left have no bits in common
known_apart : (none : Bool) (newest former : NewestRun) → AreApart newest former → AreApart (cond none former newest) (cond none no_newest former)
known_apart true newest former apart = λ bit same from to from' to'. absurd (omega (arith, from', to'))
known_apart false newest former apart = apart

left_apart : (met met' : Bool) (newest former : NewestRun) → AreApart newest former
    → AreApart (newest_of (cond met no_newest newest) (cond met' no_newest former)) (former_of (cond met no_newest newest) (cond met' no_newest former))
left_apart met met' newest former apart =
    known_apart ((cond met no_newest newest).len == 0) (cond met no_newest newest) (cond met' no_newest former) (by met met')
  where
    by : (met met' : Bool) → AreApart (cond met no_newest newest) (cond met' no_newest former)
    by true met' = λ bit same from to from' to'. absurd (omega (arith, from, to))
    by false true = λ bit same from to from' to'. absurd (omega (arith, from', to'))
    by false false = apart

module _ (g : Geometry) (id z : ℕ) (In Those : ℕ → Run → Type 0) (row : IdTally) (run : Run) (back : (y : ℕ) → Covers id (Those y) (In y)) (kept : (y : ℕ) (other : Run) → In y other → More Those z run y other) (fits : Fits g id In row) where
  -- the first is another
  first_stays : (y : ℕ) → y < g.zones → zones_before g id y ≡ row.ahead → (row.start ≡ 0 → ⊥) → (zones_before g id z ≡ row.ahead → run.start ≡ row.start → ⊥) → IsFirst id (Those y) row.start
  first_stays y low e some other =
      let first = fits.start y low e some in
      record {
        run = first.run;
        among = elim (kept y first.run first.among) [
          | inl still ↦ still
          | inr gone ↦ absurd (other (ap (zones_before g id) (sym gone.0) ∙ e) (ap (λ (u : Run). u.start) (sym gone.1) ∙ first.begins))
        ];
        of_id = first.of_id;
        begins = first.begins;
        least = λ next in' of_id. (let x = back y next in' of_id in omega (arith, x.1.2, first.least x.0 x.1.0 x.1.1));
      }

  first_less : (y : ℕ) → y < g.zones → zones_before g id y ≡ row.ahead → (start_left row (zones_before g id z) run.start ≡ 0 → ⊥) → IsFirst id (Those y) (start_left row (zones_before g id z) run.start)
  first_less y low e some =
      let other : zones_before g id z ≡ row.ahead → run.start ≡ row.start → ⊥ = λ zone at. some (start_gone row (zones_before g id z) run.start zone at) in
      let is = start_stays row (zones_before g id z) run.start other in
      subst (IsFirst id (Those y)) (sym is) (first_stays y low e (λ none. some (is ∙ none)) other)

  -- the newest, or the one before it, is another, and has no bits of this one
  newest_stays : (newest : NewestRun) → meets newest (zones_before g id z) run.start run.len ≡ false → IsNewest g id In newest → IsNewest g id Those newest
  newest_stays newest apart is = record {
    zone = is.zone;
    low = is.low;
    before = is.before;
    bits = λ bit from to.
        (let b = is.bits bit from to in
        elim (kept is.zone b.run b.among) [
          | inl still ↦ bit_in id (In is.zone) (Those is.zone) bit b still
          | inr gone ↦ absurd (not_both (meets newest (zones_before g id z) run.start run.len)
              (meets_there newest (zones_before g id z) run.start run.len bit (ap (zones_before g id) (sym gone.0) ∙ is.before) from to
              (subst (λ (u : Run). u.start ≤ bit) gone.1 b.from) (subst (λ (u : Run). bit < u.start + u.len) gone.1 b.before))
              apart)
        ]);
  }

  newest_less : (was : NewestRun) (met : Bool) → meets was (zones_before g id z) run.start run.len ≡ met → ((was.len ≡ 0 → ⊥) → IsNewest g id In was)
      → ((cond met no_newest was).len ≡ 0 → ⊥) → IsNewest g id Those (cond met no_newest was)
  newest_less was true met is some = absurd (some refl)
  newest_less was false met is some = newest_stays was met (is some)

  -- what is left of the two
  abbrev left_of : NewestRun → NewestRun
  left_of was = newest_left was (zones_before g id z) run.start run.len

  is_left : (was : NewestRun) → ((was.len ≡ 0 → ⊥) → IsNewest g id In was) → ((left_of was).len ≡ 0 → ⊥) → IsNewest g id Those (left_of was)
  is_left was is = newest_less was (meets was (zones_before g id z) run.start run.len) refl is

  newest_known : (newest former : NewestRun) (none : Bool) → ((newest.len ≡ 0 → ⊥) → IsNewest g id Those newest) → ((former.len ≡ 0 → ⊥) → IsNewest g id Those former)
      → ((cond none former newest).len ≡ 0 → ⊥) → IsNewest g id Those (cond none former newest)
  newest_known newest former true is was = was
  newest_known newest former false is was = is

  former_known : (former : NewestRun) (none : Bool) → ((former.len ≡ 0 → ⊥) → IsNewest g id Those former) → ((cond none no_newest former).len ≡ 0 → ⊥) → IsNewest g id Those (cond none no_newest former)
  former_known former true was some = absurd (some refl)
  former_known former false was some = was some

  pub fits_left : Fits g id Those (row_left row (zones_before g id z) run.start run.len)
  fits_left = record {
    ahead = λ y other low in' is. (let x = back y other in' is in fits.ahead y x.0 low x.1.0 x.1.1);
    reach = λ y other low in' is. (let x = back y other in' is in fits.reach y x.0 low x.1.0 x.1.1);
    start = first_less;
    newest = newest_known (left_of row.newest) (left_of row.former) ((left_of row.newest).len == 0) (is_left row.newest fits.newest) (is_left row.former fits.former);
    former = former_known (left_of row.former) ((left_of row.newest).len == 0) (is_left row.former fits.former);
    apart = left_apart (meets row.newest (zones_before g id z) run.start run.len) (meets row.former (zones_before g id z) run.start run.len) row.newest row.former fits.apart;
  }
