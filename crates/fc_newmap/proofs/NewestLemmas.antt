-- The last runs of an identifier, when their bits are all that are left.
use Rattle.std.proofs.Common.{◌≡◌, ◌<◌, ◌≤◌, ℕ, zero, suc, ◌+◌, ◌-◌, Bool, true, cond, List, [], ◌∷◌, ◌++◌, refl, sym, ap, subst, ◌∙◌, inl, inr, arith, eq-eqb, max}
use Rattle.std.specs.Prelude.{◌⊎◌, ◌==◌, Contains, Ok, Err, sum_by}
use Rattle.std.specs.List.{range_with_len}
use Rattle.std.proofs.lemmas.Bool.{cases_eq, ne_eqb, cases_lt}
use Rattle.std.proofs.lemmas.List.Elements.{Contains-append_cases}
use Rattle.std.proofs.lemmas.List.Sums.{sum_by-cons}
use Rattle.fc_bytes.specs.Bits.{bits}
use Rattle.fc_record.specs.Record.{first_bit, end_bit}
use Rattle.fc_zone.specs.declared.Run.{Run}
use Rattle.fc_zone.specs.declared.ZoneShape.{ZoneShape}
use Rattle.fc_zone.specs.Zone.{Spells}
use Rattle.fc_zone.proofs.HolderLemmas.{Spells-split}
use Rattle.fc_newmap.specs.declared.tally.IdTally.{IdTally}
use Rattle.fc_newmap.specs.Map.{Map, ZoneRun, bits_in, has_id, id_runs, runs_of, shape, zone_numbers}
use Rattle.fc_newmap.specs.NewMap.{IsNewMap}
use Rattle.fc_newmap.specs.RunsLaw.{placed}
use Rattle.fc_newmap.specs.Tally.{IsBitOf, IsFirst, IsNewest, row_only, zones_before}
use Rattle.fc_newmap.proofs.HeldLemmas.{geometry_facts}
use Rattle.fc_newmap.proofs.PlaceLemmas.{contains_cases, contains_none, in_id_runs, in_range, in_zone}
use Rattle.fc_newmap.proofs.RowLemmas.{Fits, RunsOf, bit_in}
use Rattle.fc_newmap.proofs.RowChangeLemmas.{before_same}
use Rattle.fc_newmap.proofs.ZoneRunLemmas.{contains_cut, placed_contains, spelled_within}
use Rattle.fc_newmap.proofs.BitSumLemmas.{bits_by_zones, bits_of_id, part, part-append, share, sum_one}
use Rattle.fc_newmap.proofs.TallyRowLemmas.{share_is}

-- ---- runs have bits

member_low : (p : ZoneRun) (runs : List ZoneRun) → Contains runs p → p.1.len ≤ bits_in runs
member_low p [] c = absurd (contains_none p c)
member_low p (q ∷ runs) c =
    let sum = sum_by-cons (λ (r : ZoneRun). r.1.len) q runs in
    elim (contains_cases q runs p c) [
      | Ok here ↦ (let len = ap (λ (r : ZoneRun). r.1.len) here in omega (arith, sum, len))
      | Err later ↦ omega (arith, sum, member_low p runs later)
    ]

-- an identifier with a run has bits
pub some_bits : (m : Map) (id z : ℕ) (run : Run) → IsNewMap m → z < m.geometry.zones → Contains (runs_of m z) run → has_id id run.kind ≡ true → bits_in (id_runs m id) ≡ 0 → ⊥
some_bits m id z run is low c of_id none =
    let facts = geometry_facts m.geometry is.of_record in
    let all = in_zone m (zone_numbers m.geometry) (z, run) (in_range 0 m.geometry.zones z (omega arith) (omega arith)) (placed_contains z (runs_of m z) run c) in
    let among = member_low (z, run) (id_runs m id) (in_id_runs m id (z, run) facts.zones all of_id) in
    let zone = is.right z low in
    let within = spelled_within (shape m.geometry z) _ (runs_of m z) (first_bit z) (end_bit m.geometry z) run zone.spelled c in
    omega (arith, among, within.1, none)

-- ---- the newest run alone

-- bits that all are the identifier's, one row of them after another
pub covered_both : (id z : ℕ) (shape : ZoneShape) (bs : List ℕ) (runs : List Run) (at end a n b k : ℕ) → a + n ≤ b → Spells shape bs at runs end → ((bit : ℕ) → a ≤ bit → bit < a + n → IsBitOf id (Contains runs) bit)
    → ((bit : ℕ) → b ≤ bit → bit < b + k → IsBitOf id (Contains runs) bit) → n + k ≤ part id z runs
covered_both id z shape bs [] at end a zero b zero apart h one two = omega arith
covered_both id z shape bs [] at end a (suc n) b k apart h one two = (let bit = one a (omega arith) (omega arith) in absurd (contains_none bit.run bit.among))
covered_both id z shape bs [] at end a zero b (suc k) apart h one two = (let bit = two b (omega arith) (omega arith) in absurd (contains_none bit.run bit.among))
covered_both id z shape bs (run ∷ runs) at end a n b k apart h one two =
    let sum = sum_by-cons (bits_of_id id) (z, run) (placed z runs) in
    let first = h.0 in
    let later : (bit : ℕ) → at + run.len ≤ bit → IsBitOf id (Contains (run ∷ runs)) bit → IsBitOf id (Contains runs) bit = λ bit past x. elim (contains_cases run runs x.run x.among) [
      | Ok here ↦ (let low = subst (λ (u : Run). bit < u.start + u.len) (sym here) x.before in absurd (omega (arith, low, first)))
      | Err rest ↦ bit_in id (Contains (run ∷ runs)) (Contains runs) bit x rest
    ] in
    let here : (bit : ℕ) → IsBitOf id (Contains (run ∷ runs)) bit → (at + run.len ≤ bit) ⊎ ((at ≤ bit) × (share id run.kind run.len ≡ run.len)) = λ bit x. elim (contains_cases run runs x.run x.among) [
      | Ok is ↦ (
          let from = subst (λ (u : Run). u.start ≤ bit) (sym is) x.from in
          inr (omega (arith, from, first), share_is id run.kind run.len true (ap (λ (u : Run). has_id id u.kind) is ∙ x.of_id)))
      | Err rest ↦ (let within = spelled_within shape bs runs (at + run.len) end x.run h.3 rest in let low = x.from in inl (omega (arith, within.0, low)))
    ] in
    let rest = covered_both id z shape bs runs (at + run.len) end (max a (at + run.len)) (a + n - max a (at + run.len)) (max b (at + run.len)) (b + k - max b (at + run.len)) (omega arith) h.3
    (λ bit low to. later bit (omega (arith, low)) (one bit (omega (arith, low)) (omega (arith, low, to))))
    (λ bit low to. later bit (omega (arith, low)) (two bit (omega (arith, low)) (omega (arith, low, to)))) in
    let own = share id run.kind run.len in
    elim (cases_eq n 0) [
      | inl no_first ↦ elim (cases_eq k 0) [
        | inl none ↦ omega (arith, no_first, none)
        | inr some ↦ elim (here b (two b (omega arith) (omega arith))) [
          | inl past ↦ omega (arith, sum, rest, no_first, past)
          | inr met ↦ omega (arith, sum, rest, no_first, met.0, met.1)
        ]
      ]
      | inr some ↦ elim (here a (one a (omega arith) (omega arith))) [
        | inl past ↦ omega (arith, sum, rest, past)
        | inr met ↦ omega (arith, sum, rest, met.0, met.1)
      ]
    ]

pub covered_low : (id z : ℕ) (shape : ZoneShape) (bs : List ℕ) (runs : List Run) (at end from n : ℕ) → Spells shape bs at runs end → ((bit : ℕ) → from ≤ bit → bit < from + n → IsBitOf id (Contains runs) bit) → n ≤ part id z runs
covered_low id z shape bs runs at end from n h covered =
    let low = covered_both id z shape bs runs at end from n (from + n) 0 (omega arith) h covered (λ bit past to. absurd (omega arith)) in
    omega (arith, low)

-- If the identifier has no other bits there, none of its runs begins before them.
pub none_early : (id z : ℕ) (shape : ZoneShape) (bs : List ℕ) (runs : List Run) (at end a n b k : ℕ) (run : Run) → Spells shape bs at runs end → Contains runs run → has_id id run.kind ≡ true → a + n ≤ b
    → ((bit : ℕ) → a ≤ bit → bit < a + n → IsBitOf id (Contains runs) bit) → ((bit : ℕ) → b ≤ bit → bit < b + k → IsBitOf id (Contains runs) bit) → part id z runs ≤ n + k → a ≤ run.start
none_early id z shape bs runs at end a n b k run h c of_id apart one two high = elim (cases_lt run.start a) [
  | inl less ↦ (
      let cut = contains_cut runs run c in
      let front = cut.0 in
      let rest = cut.1 in
      let spelled : Spells shape bs at (front ++ run ∷ rest) end = subst (λ (rs : List Run). Spells shape bs at rs end) cut.2 h in
      let split = Spells-split shape bs front (run ∷ rest) at end spelled in
      let first = split.2.0 in
      let within = spelled_within shape bs runs at end run h c in
      let after : (bit : ℕ) → split.0 + run.len ≤ bit → IsBitOf id (Contains runs) bit → IsBitOf id (Contains rest) bit = λ bit past x.
      elim (Contains-append_cases front (run ∷ rest) x.run (subst (λ (rs : List Run). Contains rs x.run) cut.2 x.among)) [
        | inl early ↦ (
            let ends = spelled_within shape bs front at split.0 x.run split.1 early in
            let low = x.before in
            absurd (omega (arith, ends.2, low, past)))
        | inr more ↦ elim (contains_cases run rest x.run more) [
          | Ok here ↦ (let low = subst (λ (u : Run). bit < u.start + u.len) (sym here) x.before in absurd (omega (arith, low, first, past)))
          | Err late ↦ bit_in id (Contains runs) (Contains rest) bit x late
        ]
      ] in
      let left = covered_both id z shape bs rest (split.0 + run.len) end (max a (split.0 + run.len)) (a + n - max a (split.0 + run.len)) (max b (split.0 + run.len)) (b + k - max b (split.0 + run.len)) (omega arith) split.2.3
      (λ bit low to. after bit (omega (arith, low)) (one bit (omega (arith, low)) (omega (arith, low, to))))
      (λ bit low to. after bit (omega (arith, low)) (two bit (omega (arith, low)) (omega (arith, low, to)))) in
      let parts : part id z runs ≡ part id z front + part id z (run ∷ rest) = ap (part id z) cut.2 ∙ part-append id z front (run ∷ rest) in
      let sum = sum_by-cons (bits_of_id id) (z, run) (placed z rest) in
      absurd (omega (arith, left, within.1, parts, sum, first, high, less, share_is id run.kind run.len true of_id)))
  | inr more ↦ more
]

pub one_low : (f : ℕ → ℕ) (z n : ℕ) → z < n → f z ≤ sum_by f (range_with_len 0 n)
one_low f z n low = let s = sum_one f f z 0 n (omega arith) (omega arith) (λ y other. refl) in omega (arith, s.1.0)

pub two_low : (f : ℕ → ℕ) (y z n : ℕ) → y < n → z < n → (z ≡ y → ⊥) → f y + f z ≤ sum_by f (range_with_len 0 n)
two_low f y z n y_low z_low other =
    let f' : ℕ → ℕ = λ k. cond (k == y) 0 (f k) in
    let s = sum_one f f' y 0 n (omega arith) (omega arith) (λ k ne. ap (λ (b : Bool). cond b 0 (f k)) (ne_eqb k y ne)) in
    let low = one_low f' z n z_low in
    let kept : f' z ≡ f z = ap (λ (b : Bool). cond b 0 (f z)) (ne_eqb z y other) in
    let none : f' y ≡ 0 = ap (λ (b : Bool). cond b 0 (f y)) (eq-eqb y y refl) in
    omega (arith, s.1.0, s.1.1, low, kept, none)

pub three_low : (f : ℕ → ℕ) (x y z n : ℕ) → x < n → y < n → z < n → (y ≡ x → ⊥) → (z ≡ x → ⊥) → (z ≡ y → ⊥) → f x + f y + f z ≤ sum_by f (range_with_len 0 n)
three_low f x y z n x_low y_low z_low yx zx zy =
    let f' : ℕ → ℕ = λ k. cond (k == x) 0 (f k) in
    let s = sum_one f f' x 0 n (omega arith) (omega arith) (λ k ne. ap (λ (b : Bool). cond b 0 (f k)) (ne_eqb k x ne)) in
    let low = two_low f' y z n y_low z_low zy in
    let kept : f' y ≡ f y = ap (λ (b : Bool). cond b 0 (f y)) (ne_eqb y x yx) in
    let kept' : f' z ≡ f z = ap (λ (b : Bool). cond b 0 (f z)) (ne_eqb z x zx) in
    let none : f' x ≡ 0 = ap (λ (b : Bool). cond b 0 (f x)) (eq-eqb x x refl) in
    omega (arith, s.1.0, s.1.1, low, kept, kept', none)

-- An identifier has no bits but those of its newest run.
module _ (m : Map) (id : ℕ) (row : IdTally) (is : IsNewMap m) (fits : Fits m.geometry id (RunsOf m) row) (newest : IsNewest m.geometry id (RunsOf m) row.newest) (all : bits_in (id_runs m id) ≡ row.newest.len) where
  abbrev bits_at : ℕ → ℕ
  bits_at y = part id y (runs_of m y)

  sum_is : sum_by bits_at (range_with_len 0 m.geometry.zones) ≡ row.newest.len
  sum_is = (let facts = geometry_facts m.geometry is.of_record in sym (bits_by_zones m id facts.zones) ∙ all)

  newest_low : row.newest.len ≤ bits_at newest.zone
  newest_low =
      let zone = is.right newest.zone newest.low in
      covered_low id newest.zone (shape m.geometry newest.zone) _ (runs_of m newest.zone) (first_bit newest.zone) (end_bit m.geometry newest.zone) row.newest.start row.newest.len zone.spelled newest.bits

  -- its runs are in that zone
  only_there : (y : ℕ) (run : Run) → y < m.geometry.zones → Contains (runs_of m y) run → has_id id run.kind ≡ true → y ≡ newest.zone
  only_there y run low c of_id = elim (cases_eq y newest.zone) [
    | inl here ↦ here
    | inr other ↦ (
        let zone = is.right y low in
        let within = spelled_within (shape m.geometry y) _ (runs_of m y) (first_bit y) (end_bit m.geometry y) run zone.spelled c in
        let cut = contains_cut (runs_of m y) run c in
        let parts : bits_at y ≡ part id y cut.0 + part id y (run ∷ cut.1) = ap (part id y) cut.2 ∙ part-append id y cut.0 (run ∷ cut.1) in
        let sum = sum_by-cons (bits_of_id id) (y, run) (placed y cut.1) in
        absurd (omega (arith, two_low bits_at newest.zone y m.geometry.zones newest.low low other, sum_is, newest_low, within.1, parts, sum, share_is id run.kind run.len true of_id)))
  ]

  -- none begins before it
  none_before : (run : Run) → Contains (runs_of m newest.zone) run → has_id id run.kind ≡ true → row.newest.start ≤ run.start
  none_before run c of_id =
      let z = newest.zone in
      let zone = is.right z newest.low in
      let start = row.newest.start in
      let len = row.newest.len in
      let high = one_low bits_at z m.geometry.zones newest.low in
      none_early id z (shape m.geometry z) _ (runs_of m z) (first_bit z) (end_bit m.geometry z) start len (start + len) 0 run zone.spelled c of_id (omega arith) newest.bits (λ bit past to. absurd (omega arith)) (omega (arith, high, sum_is))

  pub fits_only : (row.newest.len ≡ 0 → ⊥) → Fits m.geometry id (RunsOf m) (row_only row)
  fits_only some =
      let g = m.geometry in
      let b = newest.bits row.newest.start (omega arith) (omega arith) in
      let low = none_before b.run b.among b.of_id in
      let from = b.from in
      let before = newest.before in
      let ahead = fits.ahead newest.zone b.run newest.low b.among b.of_id in
      record {
        ahead = λ y run y_low c of_id.
            (let here = ap (zones_before g id) (only_there y run y_low c of_id) ∙ before in
            let old = fits.ahead y run y_low c of_id in
            omega (arith, here, old));
        reach = λ y run y_low c of_id.
            (let here = ap (zones_before g id) (only_there y run y_low c of_id) ∙ before in
            let old = fits.reach y run y_low c of_id in
            omega (arith, here, old));
        start = λ y y_low e some'.
            (let here : zones_before g id y ≡ zones_before g id newest.zone = omega (arith, e, before, ahead) in
            let same = before_same g id y newest.zone y_low newest.low here in
            let first : IsFirst id (RunsOf m newest.zone) row.newest.start = record {
              run = b.run;
              among = b.among;
              of_id = b.of_id;
              begins = omega (arith, low, from);
              least = none_before;
            } in
            subst (λ (k : ℕ). IsFirst id (RunsOf m k) row.newest.start) (sym same) first);
        newest = λ some'. newest;
        former = fits.former;
        apart = fits.apart;
      }
