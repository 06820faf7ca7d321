-- The runs of a zone, one after another, before and after an edit of it.
use Rattle.std.proofs.Common.{◌≡◌, ◌<◌, ◌≤◌, ℕ, ◌+◌, ◌-◌, true, false, List, [], ◌∷◌, ◌++◌, refl, sym, ap, subst, ◌∙◌, inl, inr, arith, ap₂, zero, suc, get_or, drop}
use Rattle.std.specs.Prelude.{◌⊎◌, Contains, Ok, Err}
use Rattle.std.specs.List.{range_with_len}
use Rattle.std.proofs.lemmas.Bool.{cases_eq}
use Rattle.std.proofs.lemmas.List.Elements.{Contains-append_cases, Contains-append_left, Contains-append_right}
use Rattle.fc_zone.specs.declared.Run.{Run}
use Rattle.fc_zone.specs.declared.ZoneShape.{ZoneShape}
use Rattle.fc_zone.specs.Zone.{Spells}
use Rattle.fc_zone.proofs.HolderLemmas.{Spells-split}
use Rattle.fc_record.specs.Record.{end_bit, first_bit}
use Rattle.fc_newmap.specs.Map.{Map, ZoneRun, all_runs, has_id, runs_in, runs_of, shape}
use Rattle.fc_newmap.specs.NewMap.{IsNewMap}
use Rattle.fc_newmap.proofs.ComposeLemmas.{zone_cut}
use Rattle.fc_newmap.specs.RunsLaw.{placed}
use Rattle.fc_newmap.specs.Tally.{IsBitOf}
use Rattle.fc_newmap.proofs.PlaceLemmas.{contains_cases, contains_none, range_in, zone_in}
use Rattle.fc_zone.proofs.ZoneLemmas.{Contains-head as contains_here, Contains-tail as contains_later}
use Rattle.fc_newmap.proofs.RowLemmas.{Covers, Spans, bit_in, not_both}
use Rattle.fc_newmap.proofs.RowChangeLemmas.{IsNew, More}

-- ---- the runs of one zone change

covers_same : (id : ℕ) (In : Run → Type 0) → Covers id In In
covers_same id In run in' is = (run, (in', is, omega arith))

pub covers_nil : (id : ℕ) (Those : Run → Type 0) → Covers id (Contains []) Those
covers_nil id Those = λ other c is. absurd (contains_none other c)

pub covers_cons : (id : ℕ) (run : Run) (runs : List Run) (Those : Run → Type 0) → (has_id id run.kind ≡ true → (other : Run) × (Those other × (has_id id other.kind ≡ true) × (other.start ≤ run.start)))
    → Covers id (Contains runs) Those → Covers id (Contains (run ∷ runs)) Those
covers_cons id run runs Those first rest = λ other c is. elim (contains_cases run runs other c) [
  | Ok here ↦ (
      let x = first (ap (λ (u : Run). has_id id u.kind) here ∙ is) in
      (x.0, (x.1.0, x.1.1, subst (λ (u : Run). x.0.start ≤ u.start) here x.1.2)))
  | Err later ↦ rest other later is
]

-- a run that isn't one of the identifier
pub covers_none : (id : ℕ) (run : Run) (Those : Run → Type 0) → has_id id run.kind ≡ false → Covers id (Contains (run ∷ [])) Those
covers_none id run Those none = covers_cons id run [] Those (λ is. absurd (not_both (has_id id run.kind) is none)) (covers_nil id Those)

covers_mid : (id : ℕ) (front olds news rest : List Run) → Covers id (Contains olds) (Contains news) → Covers id (Contains (front ++ (olds ++ rest))) (Contains (front ++ (news ++ rest)))
covers_mid id front olds news rest mid run c is = elim (Contains-append_cases front (olds ++ rest) run c) [
  | inl first ↦ (run, (Contains-append_left front (news ++ rest) run first, is, omega arith))
  | inr more ↦ elim (Contains-append_cases olds rest run more) [
    | inl old ↦ (let x = mid run old is in (x.0, (Contains-append_right front (news ++ rest) x.0 (Contains-append_left news rest x.0 x.1.0), x.1.1, x.1.2)))
    | inr last ↦ (run, (Contains-append_right front (news ++ rest) run (Contains-append_right news rest run last), is, omega arith))
  ]
]

spans_same : (id : ℕ) (In : Run → Type 0) → Spans id In In
spans_same id In bit b = b

pub spans_nil : (id : ℕ) (Those : Run → Type 0) → Spans id (Contains []) Those
spans_nil id Those = λ bit b. absurd (contains_none b.run b.among)

pub spans_cons : (id : ℕ) (run : Run) (runs : List Run) (Those : Run → Type 0) → (has_id id run.kind ≡ true → (bit : ℕ) → run.start ≤ bit → bit < run.start + run.len → IsBitOf id Those bit)
    → Spans id (Contains runs) Those → Spans id (Contains (run ∷ runs)) Those
spans_cons id run runs Those first rest = λ bit b. elim (contains_cases run runs b.run b.among) [
  | Ok here ↦ first (ap (λ (u : Run). has_id id u.kind) here ∙ b.of_id) bit
      (subst (λ (u : Run). u.start ≤ bit) (sym here) b.from) (subst (λ (u : Run). bit < u.start + u.len) (sym here) b.before)
  | Err later ↦ rest bit (bit_in id (Contains (run ∷ runs)) (Contains runs) bit b later)
]

pub spans_none : (id : ℕ) (run : Run) (Those : Run → Type 0) → has_id id run.kind ≡ false → Spans id (Contains (run ∷ [])) Those
spans_none id run Those none = spans_cons id run [] Those (λ is. absurd (not_both (has_id id run.kind) is none)) (spans_nil id Those)

spans_mid : (id : ℕ) (front olds news rest : List Run) → Spans id (Contains olds) (Contains news) → Spans id (Contains (front ++ (olds ++ rest))) (Contains (front ++ (news ++ rest)))
spans_mid id front olds news rest mid bit b =
    let Was = Contains (front ++ (olds ++ rest)) in
    let Now = Contains (front ++ (news ++ rest)) in
    elim (Contains-append_cases front (olds ++ rest) b.run b.among) [
      | inl first ↦ bit_in id Was Now bit b (Contains-append_left front (news ++ rest) b.run first)
      | inr more ↦ elim (Contains-append_cases olds rest b.run more) [
        | inl old ↦ (
            let x = mid bit (bit_in id Was (Contains olds) bit b old) in
            bit_in id (Contains news) Now bit x (Contains-append_right front (news ++ rest) x.run (Contains-append_left news rest x.run x.among)))
        | inr last ↦ bit_in id Was Now bit b (Contains-append_right front (news ++ rest) b.run (Contains-append_right news rest b.run last))
      ]
    ]

pub spans_edited : (id z : ℕ) (was now : ℕ → List Run) (front olds news rest : List Run) → ((y : ℕ) → (y ≡ z → ⊥) → now y ≡ was y) → was z ≡ front ++ (olds ++ rest) → now z ≡ front ++ (news ++ rest)
    → Spans id (Contains olds) (Contains news) → (y : ℕ) → Spans id (Contains (was y)) (Contains (now y))
spans_edited id z was now front olds news rest others cut made mid y = elim (cases_eq y z) [
  | inl here ↦ subst (λ (k : ℕ). Spans id (Contains (was k)) (Contains (now k))) (sym here)
      (subst (λ (runs : List Run). Spans id (Contains (was z)) (Contains runs)) (sym made)
      (subst (λ (runs : List Run). Spans id (Contains runs) (Contains (front ++ (news ++ rest)))) (sym cut) (spans_mid id front olds news rest mid)))
  | inr other ↦ subst (λ (runs : List Run). Spans id (Contains (was y)) (Contains runs)) (sym (others y other)) (spans_same id (Contains (was y)))
]

pub covers_edited : (id z : ℕ) (was now : ℕ → List Run) (front olds news rest : List Run) → ((y : ℕ) → (y ≡ z → ⊥) → now y ≡ was y) → was z ≡ front ++ (olds ++ rest) → now z ≡ front ++ (news ++ rest)
    → Covers id (Contains olds) (Contains news) → (y : ℕ) → Covers id (Contains (was y)) (Contains (now y))
covers_edited id z was now front olds news rest others cut made mid y = elim (cases_eq y z) [
  | inl here ↦ subst (λ (k : ℕ). Covers id (Contains (was k)) (Contains (now k))) (sym here)
      (subst (λ (runs : List Run). Covers id (Contains (was z)) (Contains runs)) (sym made)
      (subst (λ (runs : List Run). Covers id (Contains runs) (Contains (front ++ (news ++ rest)))) (sym cut) (covers_mid id front olds news rest mid)))
  | inr other ↦ subst (λ (runs : List Run). Covers id (Contains (was y)) (Contains runs)) (sym (others y other)) (covers_same id (Contains (was y)))
]

-- a run becomes one of the identifier
module _ (id z : ℕ) (was now : ℕ → List Run) (front rest : List Run) (old new : Run) (others : (y : ℕ) → (y ≡ z → ⊥) → now y ≡ was y) (cut : was z ≡ front ++ old ∷ rest) (made : now z ≡ front ++ new ∷ rest) where
  pub more_there : has_id id old.kind ≡ false → has_id id new.kind ≡ true → (y : ℕ) → Covers id (More (λ k. Contains (was k)) z new y) (Contains (now y))
  more_there none of_id y = λ run in' is. elim in' [
    | inl c ↦ covers_edited id z was now front (old ∷ []) (new ∷ []) rest others cut made (covers_none id old (Contains (new ∷ [])) none) y run c is
    | inr at ↦ (
        let there : Contains (front ++ new ∷ rest) new = Contains-append_right front (new ∷ rest) new (contains_here new rest) in
        let start = ap (λ (u : Run). u.start) at.1 in
        (new, (subst (λ (k : ℕ). Contains (now k) new) (sym at.0) (subst (λ (runs : List Run). Contains runs new) (sym made) there), of_id, omega (arith, start))))
  ]

  pub more_spans : has_id id old.kind ≡ false → (y : ℕ) → Spans id (More (λ k. Contains (was k)) z new y) (Contains (now y))
  more_spans none y = λ bit b. elim b.among [
    | inl c ↦ spans_edited id z was now front (old ∷ []) (new ∷ []) rest others cut made (spans_none id old (Contains (new ∷ [])) none) y bit
        (bit_in id (More (λ k. Contains (was k)) z new y) (Contains (was y)) bit b c)
    | inr at ↦ (
        let there : Contains (front ++ new ∷ rest) new = Contains-append_right front (new ∷ rest) new (contains_here new rest) in
        bit_in id (More (λ k. Contains (was k)) z new y) (Contains (now y)) bit b
        (subst (λ (u : Run). Contains (now y) u) (sym at.1) (subst (λ (k : ℕ). Contains (now k) new) (sym at.0) (subst (λ (runs : List Run). Contains runs new) (sym made) there))))
  ]

  -- each run now was there, or is the new one
  pub was_or_new : (y : ℕ) (run : Run) → Contains (now y) run → More (λ k. Contains (was k)) z new y run
  was_or_new y run c = elim (cases_eq y z) [
    | inl here ↦ elim (Contains-append_cases front (new ∷ rest) run (subst (λ (runs : List Run). Contains runs run) made (subst (λ (k : ℕ). Contains (now k) run) here c))) [
      | inl first ↦ inl (back run (Contains-append_left front (old ∷ rest) run first) y here)
      | inr more ↦ elim (contains_cases new rest run more) [
        | Ok same ↦ inr (here, sym same)
        | Err last ↦ inl (back run (Contains-append_right front (old ∷ rest) run (contains_later old rest run last)) y here)
      ]
    ]
    | inr other ↦ inl (subst (λ (runs : List Run). Contains runs run) (others y other) c)
  ]
    where
      back : (run : Run) → Contains (front ++ old ∷ rest) run → (y : ℕ) → y ≡ z → Contains (was y) run
      back run c y here = subst (λ (k : ℕ). Contains (was k) run) (sym here) (subst (λ (runs : List Run). Contains runs run) (sym cut) c)

  pub more_back : (y : ℕ) → Covers id (Contains (now y)) (More (λ k. Contains (was k)) z new y)
  more_back y = λ run c is. (run, (was_or_new y run c, is, omega arith))

-- ---- runs one after another

pub spelled_within : (shape : ZoneShape) (bs : List ℕ) (runs : List Run) (at end : ℕ) (run : Run) → Spells shape bs at runs end → Contains runs run → (at ≤ run.start) × (0 < run.len) × (run.start + run.len ≤ end)
spelled_within shape bs [] at end run h c = absurd (contains_none run c)
spelled_within shape bs (x ∷ runs) at end run h c = elim (contains_cases x runs run c) [
  | Ok here ↦ (
      let long = h.1.long in
      let first = h.0 in
      let rest = Spells-ends shape bs runs (at + x.len) end h.3 in
      let len = ap (λ (u : Run). u.len) here in
      let start = ap (λ (u : Run). u.start) here in
      (omega (arith, first, start), omega (arith, long, len), omega (arith, first, start, len, rest)))
  | Err later ↦ (let r = spelled_within shape bs runs (at + x.len) end run h.3 later in (omega (arith, r.0), r.1, r.2))
]
  where
    Spells-ends : (shape : ZoneShape) (bs : List ℕ) (runs : List Run) (at end : ℕ) → Spells shape bs at runs end → at ≤ end
    Spells-ends shape bs [] at end h = omega arith
    Spells-ends shape bs (x ∷ runs) at end h = let rest = Spells-ends shape bs runs (at + x.len) end h.3 in omega (arith, rest)

-- the runs before one begin before it
pub front_before : (shape : ZoneShape) (bs : List ℕ) (front rest : List Run) (at end : ℕ) (run other : Run) → Spells shape bs at (front ++ run ∷ rest) end → Contains front other → other.start < run.start
front_before shape bs front rest at end run other h c =
    let cut = Spells-split shape bs front (run ∷ rest) at end h in
    let within = spelled_within shape bs front at cut.0 other cut.1 c in
    let first = cut.2.0 in
    omega (arith, within.1, within.2, first)

-- they end before it
pub front_ends : (shape : ZoneShape) (bs : List ℕ) (front rest : List Run) (at end : ℕ) (run other : Run) → Spells shape bs at (front ++ run ∷ rest) end → Contains front other → other.start + other.len ≤ run.start
front_ends shape bs front rest at end run other h c =
    let cut = Spells-split shape bs front (run ∷ rest) at end h in
    let within = spelled_within shape bs front at cut.0 other cut.1 c in
    let first = cut.2.0 in
    omega (arith, within.2, first)

-- a run that isn't the identifier's has none of its bits
pub none_within : (id : ℕ) (shape : ZoneShape) (bs : List ℕ) (front rest : List Run) (at end : ℕ) (run : Run) → Spells shape bs at (front ++ run ∷ rest) end → has_id id run.kind ≡ false → (bit : ℕ) → run.start ≤ bit → bit < run.start + run.len
    → IsBitOf id (Contains (front ++ run ∷ rest)) bit → ⊥
none_within id shape bs front rest at end run h none bit from to b = elim (Contains-append_cases front (run ∷ rest) b.run b.among) [
  | inl early ↦ (
      let ends = front_ends shape bs front rest at end run b.run h early in
      let before = b.before in
      absurd (omega (arith, ends, before, from)))
  | inr more ↦ elim (contains_cases run rest b.run more) [
    | Ok here ↦ absurd (not_both (has_id id b.run.kind) b.of_id (ap (λ (u : Run). has_id id u.kind) (sym here) ∙ none))
    | Err late ↦ (
        let cut = Spells-split shape bs front (run ∷ rest) at end h in
        let first = cut.2.0 in
        let within = spelled_within shape bs rest (cut.0 + run.len) end b.run cut.2.3 late in
        let low = b.from in
        absurd (omega (arith, within.0, first, low, to)))
  ]
]

pub next_after : (shape : ZoneShape) (bs : List ℕ) (front rest : List Run) (at end : ℕ) (one two : Run) → Spells shape bs at (front ++ one ∷ two ∷ rest) end → two.start ≡ one.start + one.len
next_after shape bs front rest at end one two h =
    let cut = Spells-split shape bs front (one ∷ two ∷ rest) at end h in
    let first = cut.2.0 in
    let next = cut.2.3.0 in
    omega (arith, first, next)

pub contains_cut : (runs : List Run) (run : Run) → Contains runs run → (front rest : List Run) × (runs ≡ front ++ run ∷ rest)
contains_cut [] run c = absurd (contains_none run c)
contains_cut (x ∷ runs) run c = elim (contains_cases x runs run c) [
  | Ok here ↦ ([], runs, ap (λ (u : Run). u ∷ runs) here)
  | Err later ↦ (let r = contains_cut runs run later in (x ∷ r.0, r.1, ap (λ (us : List Run). x ∷ us) r.2))
]

-- ---- runs with their zones

pub placed_contains : (z : ℕ) (runs : List Run) (run : Run) → Contains runs run → Contains (placed z runs) (z, run)
placed_contains z [] run c = absurd (contains_none run c)
placed_contains z (x ∷ runs) run c = elim (contains_cases x runs run c) [
  | Ok here ↦ subst (λ (u : Run). Contains (placed z (u ∷ runs)) (z, run)) (sym here) (contains_here (let p : ZoneRun = (z, run) in p) (placed z runs))
  | Err later ↦ contains_later (let p : ZoneRun = (z, x) in p) (placed z runs) (z, run) (placed_contains z runs run later)
]

pub contains_placed : (z : ℕ) (runs : List Run) (run : Run) → Contains (placed z runs) (z, run) → Contains runs run
contains_placed z [] run c = absurd (contains_none (let p : ZoneRun = (z, run) in p) c)
contains_placed z (x ∷ runs) run c = elim (contains_cases (let p : ZoneRun = (z, x) in p) (placed z runs) (z, run) c) [
  | Ok here ↦ subst (λ (u : Run). Contains (x ∷ runs) u) (ap (λ (p : ZoneRun). p.1) here) (contains_here x runs)
  | Err later ↦ contains_later x runs run (contains_placed z runs run later)
]

placed_zone : (z : ℕ) (runs : List Run) (p : ZoneRun) → Contains (placed z runs) p → p.0 ≡ z
placed_zone z [] p c = absurd (contains_none p c)
placed_zone z (x ∷ runs) p c = elim (contains_cases (let q : ZoneRun = (z, x) in q) (placed z runs) p c) [
  | Ok here ↦ ap (λ (q : ZoneRun). q.0) (sym here)
  | Err later ↦ placed_zone z runs p later
]

-- A run that a pass comes to is one of these in a zone, or comes after them.
cut_placed : (z : ℕ) (runs : List Run) (others passed rest : List ZoneRun) (p : ZoneRun) → passed ++ p ∷ rest ≡ placed z runs ++ others
    → ((front tail : List Run) × ((runs ≡ front ++ p.1 ∷ tail) × (passed ≡ placed z front) × (p.0 ≡ z))) ⊎ ((later : List ZoneRun) × ((passed ≡ placed z runs ++ later) × (later ++ p ∷ rest ≡ others)))
cut_placed z [] others passed rest p e = inr (passed, (refl, e))
cut_placed z (run ∷ runs) others [] rest p e =
    let here : p ≡ (z, run) = ap (λ (l : List ZoneRun). get_or l 0 p) e in
    inl ([], runs, (ap (λ (q : ZoneRun). q.1 ∷ runs) (sym here), refl, ap (λ (q : ZoneRun). q.0) here))
cut_placed z (run ∷ runs) others (q ∷ passed) rest p e =
    let here : q ≡ (z, run) = ap (λ (l : List ZoneRun). get_or l 0 q) e in
    elim (cut_placed z runs others passed rest p (ap (λ (l : List ZoneRun). drop 1 l) e)) [
      | inl c ↦ inl (run ∷ c.0, c.1, (ap (λ (us : List Run). run ∷ us) c.2.0, ap₂ (λ (u : ZoneRun) (us : List ZoneRun). u ∷ us) here c.2.1, c.2.2))
      | inr c ↦ inr (c.0, (ap₂ (λ (u : ZoneRun) (us : List ZoneRun). u ∷ us) here c.1.0, c.1.1))
    ]

-- Those of its zone that the pass came to are before it there.
front_of : (m : Map) (from n : ℕ) (passed rest : List ZoneRun) (p : ZoneRun) → passed ++ p ∷ rest ≡ runs_in m (range_with_len from n)
    → (front tail : List Run) × ((runs_of m p.0 ≡ front ++ p.1 ∷ tail) × ((other : Run) → Contains passed (p.0, other) → Contains front other))
front_of m from zero passed rest p e = absurd (contains_none p (subst (λ (l : List ZoneRun). Contains l p) e (Contains-append_right passed (p ∷ rest) p (contains_here p rest))))
front_of m from (suc n) passed rest p e =
    let others = runs_in m (range_with_len (from + 1) n) in
    elim (cut_placed from (runs_of m from) others passed rest p e) [
      | inl c ↦ (
        c.0,
        c.1,
        (
          ap (runs_of m) c.2.2 ∙ c.2.0,
          λ other in'. contains_placed from c.0 other (subst (λ (y : ℕ). Contains (placed from c.0) (y, other)) c.2.2 (subst (λ (l : List ZoneRun). Contains l (p.0, other)) c.2.1 in')),
        ),
      )
      | inr c ↦ (
          let r = front_of m (from + 1) n c.0 rest p c.1.1 in
          let there : Contains others p = subst (λ (l : List ZoneRun). Contains l p) c.1.1 (Contains-append_right c.0 (p ∷ rest) p (contains_here p rest)) in
          let above = range_in (from + 1) n p.0 (zone_in m (range_with_len (from + 1) n) p there).0 in (
            r.0,
            r.1,
            (
              r.2.0,
              λ other in'. elim (Contains-append_cases (placed from (runs_of m from)) c.0 (p.0, other) (subst (λ (l : List ZoneRun). Contains l (p.0, other)) c.1.0 in')) [
                | inl early ↦ (let zone = placed_zone from (runs_of m from) (p.0, other) early in absurd (omega (arith, zone, above.0)))
                | inr late ↦ r.2.1 other late
              ],
            ),
          ))
    ]

-- so the run has no bits of theirs
pub new_run : (m : Map) (passed rest : List ZoneRun) (p : ZoneRun) (id : ℕ) → IsNewMap m → p.0 < m.geometry.zones → passed ++ p ∷ rest ≡ all_runs m → IsNew m.geometry id p.0 (λ y other. Contains passed (y, other)) p.1
new_run m passed rest p id is low e = λ bit from to b.
    let r = front_of m 0 m.geometry.zones passed rest p e in
    let zone = zone_cut m p.0 (r.0 ++ p.1 ∷ r.1) is low r.2.0 in
    let ends = front_ends (shape m.geometry p.0) _ r.0 r.1 (first_bit p.0) (end_bit m.geometry p.0) p.1 b.run zone.spelled (r.2.1 b.run b.among) in
    let before = b.before in
    omega (arith, ends, before, from)
