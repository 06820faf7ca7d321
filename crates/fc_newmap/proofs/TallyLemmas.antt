-- The tally of a map's runs, and what edits make of it.
use Rattle.std.proofs.Common.{◌≡◌, ◌<◌, ◌≤◌, ℕ, ◌+◌, ◌-◌, ◌^◌, Bool, true, false, cond, Option, Some, None, List, [], ◌∷◌, ◌++◌, length, refl, sym, ap, subst, ◌∙◌, inl, inr, arith, eq-eqb}
use Rattle.std.specs.Prelude.{Contains, filter}
use Rattle.std.specs.Option.{IfSome, option_map, unwrap_or}
use Rattle.std.specs.Global.{Vec}
use Rattle.std.proofs.Math.Nat.{pow-le-pow_right}
use Rattle.std.proofs.lemmas.Bool.{cases_eq, cases_lt}
use Rattle.std.proofs.lemmas.List.{get_or_past}
use Rattle.fc_bytes.specs.Bits.{bits}
use Rattle.fc_record.specs.declared.Geometry.{Geometry}
use Rattle.fc_record.specs.Record.{first_bit, end_bit}
use Rattle.fc_zone.specs.declared.Run.{Run}
use Rattle.fc_zone.specs.declared.RunKind.{RunKind}
use Rattle.fc_zone.specs.declared.RunKind.TheVariants.{Hole, Id}
use Rattle.fc_zone.specs.Zone.{HasRun}
use Rattle.fc_zone.specs.Edits.{HasHoleAt, HasRunAt, HasRunToSplit, HasRunsToMerge}
use Rattle.fc_zone.proofs.ReadingLemmas.{runs_of_zone}
use Rattle.fc_newmap.specs.declared.tally.IdTally.{IdTally}
use Rattle.fc_newmap.specs.Map.{Map, bits_in, has_id, id_runs, runs_of, sector_of, shape}
use Rattle.fc_newmap.specs.Edits.{IsEdit, KeepsRuns, MergesIn, RelabelsIn, SplitsIn}
use Rattle.fc_newmap.specs.NewMap.{IsOfRecord}
use Rattle.fc_newmap.specs.RunsLaw.{placed}
use Rattle.fc_newmap.specs.Tally.{HasBits, HasRoom, IsBitOf, IsRow, IsTally, IsTallyOf, counted, no_row, row_left, row_less, row_of, row_only, row_with, uncounted, zones_before}
use Rattle.fc_newmap.proofs.ComposeLemmas.{runs_other, zone_cut}
use Rattle.fc_newmap.proofs.GeometryLemmas.{facts_of_valid}
use Rattle.fc_newmap.proofs.HeldLemmas.{geometry_facts}
use Rattle.fc_newmap.proofs.PlaceLemmas.{id_runs_by_zones}
use Rattle.fc_newmap.proofs.RowLemmas.{Covers, Fits, RunsOf, Spans, fits_kept, fits_none, fits_row, row_fits, spans_of}
use Rattle.fc_newmap.proofs.RowChangeLemmas.{IsNew, More, fits_left, fits_more}
use Rattle.fc_newmap.proofs.ZoneRunLemmas.{covers_cons, covers_edited, covers_nil, covers_none, more_back, more_spans, more_there, next_after, none_within, spans_cons, spans_edited, spans_nil, spans_none, was_or_new}
use Rattle.fc_zone.proofs.ZoneLemmas.{Contains-head as contains_here, Contains-tail as contains_later}
use Rattle.fc_newmap.proofs.BitSumLemmas.{bits_high, bits_merged, bits_relabelled, bits_split, share}
use Rattle.fc_newmap.proofs.TallyRowLemmas.{counted_bits, counted_long, counted_row, less_bits_are, less_none, less_only, less_some, share_is, uncounted_long, uncounted_row}
use Rattle.fc_newmap.proofs.NewestLemmas.{fits_only, some_bits}

-- ---- how many identifiers

pub idlen_few : (g : Geometry) → IsOfRecord g → g.idlen ≤ 19
idlen_few g of = let facts = facts_of_valid of.0 of.1.0 in subst (λ (h : Geometry). h.idlen ≤ 19) of.1.1 facts.idlen_high

pub ids_few : (g : Geometry) → IsOfRecord g → 2 ^ g.idlen ≤ 2 ^ 19
ids_few g of = pow-le-pow_right {n = 2} (omega arith) (idlen_few g of)

-- ---- a tally after an edit

-- a row that fits after it
row_after : (m n : Map) (id : ℕ) (row : IdTally) → n.geometry ≡ m.geometry → row.bits ≡ bits_in (id_runs n id) → Fits m.geometry id (RunsOf n) row → IsRow n id row
row_after m n id row same bits fits = fits_row n id row bits (subst (λ (g : Geometry). Fits g id (RunsOf n) row) (sym same) fits)

-- all runs stay
pub same_tally : (m n : Map) (tally : Option (Vec IdTally)) → KeepsRuns m n → IsTallyOf tally m → IsTallyOf tally n
same_tally m n None keeps is = tt
same_tally m n (Some rows) keeps is = λ id low. (
    let facts = geometry_facts m.geometry keeps.was.of_record in
    let old = is id low in
    row_after m n id (row_of rows.items id) keeps.geometry
    (old.bits ∙ ap bits_in (sym (id_runs_by_zones m n id keeps.geometry facts.zones (λ z h. ap (λ (rs : List Run). filter (λ p. has_id id p.1.kind) (placed z rs)) (keeps.runs z)))))
    (fits_kept m.geometry id (RunsOf m) (RunsOf n) (row_of rows.items id)
    (λ z in' run c of_id. (run, (subst (λ (rs : List Run). Contains rs run) (sym (keeps.runs z)) c, of_id, omega arith)))
    (λ z in' run c of_id. (run, (subst (λ (rs : List Run). Contains rs run) (keeps.runs z) c, of_id, omega arith)))
    (λ z in'. spans_of id (RunsOf m z) (RunsOf n z) (λ run c. subst (λ (rs : List Run). Contains rs run) (sym (keeps.runs z)) c))
    (row_fits m id (row_of rows.items id) old)))

tally_on : (m n : Map) (old new : Option (Vec IdTally)) (f : List IdTally → List IdTally) → option_map (λ (rows : Vec IdTally). rows.items) new ≡ option_map (λ (rows : Vec IdTally). f rows.items) old
    → ((rows : List IdTally) → IsTally m rows → IsTally n (f rows)) → IsTallyOf old m → IsTallyOf new n
tally_on m n None None f e step is = tt
tally_on m n None (Some rows) f e step is = absurd (cc)
tally_on m n (Some rows) None f e step is = absurd (cc)
tally_on m n (Some old) (Some new) f e step is = subst (IsTally n) (sym (ap (λ (o : Option (List IdTally)). unwrap_or o []) e)) (step old.items is)

-- the run that is looked up before an edit
abbrev pub IsRunFrom : Map → ℕ → ℕ → Run → Type 0
IsRunFrom m z start result = (front rest : List Run) (run : Run) → runs_of m z ≡ front ++ run ∷ rest → run.start ≡ start → result ≡ run

module _ (m n : Map) (z start : ℕ) (edit : IsEdit m n z) (low : z < m.geometry.zones) where
  cut_of : (run : Run) → (r : HasRun (shape m.geometry z) (sector_of m z) run) → runs_of m z ≡ r.0 ++ run ∷ r.1.0
  cut_of run r = runs_of_zone (shape m.geometry z) (sector_of m z) (r.0 ++ run ∷ r.1.0) r.1.1

  -- a run of another kind at this place
  pub bits_changed : (kind : RunKind) (run : Run) (id : ℕ) → HasRunAt (shape m.geometry z) (sector_of m z) start → IsRunFrom m z start run → RelabelsIn m n z start kind
      → bits_in (id_runs n id) + share id run.kind run.len ≡ bits_in (id_runs m id) + share id kind run.len
  bits_changed kind run id has is relabels =
      let r = has.1.1 in
      let cut = cut_of has.0 r in
      subst (λ (u : Run). bits_in (id_runs n id) + share id u.kind u.len ≡ bits_in (id_runs m id) + share id kind u.len) (sym (is r.0 r.1.0 has.0 cut has.1.0))
      (bits_relabelled m n z id r.0 r.1.0 has.0 kind edit low cut (subst (λ (k : ℕ). RelabelsIn m n z k kind) (sym has.1.0) relabels))

  -- a hole becomes a run of an identifier
  module _ (id : ℕ) (hole : Run) (has : HasHoleAt (shape m.geometry z) (sector_of m z) start) (is : IsRunFrom m z start hole) (relabels : RelabelsIn m n z start (Id id)) where
    bits_more : (k : ℕ) → bits_in (id_runs n k) ≡ bits_in (id_runs m k) + share k (Id id) hole.len
    bits_more k =
        let r = has.1.2 in
        let kind : hole.kind ≡ Hole = ap (λ (u : Run). u.kind) (is r.0 r.1.0 has.0 (cut_of has.0 r) has.1.0) ∙ has.1.1 in
        let all = bits_changed (Id id) hole k (has.0, (has.1.0, r)) is relabels in
        omega (arith, all, ap (λ (q : RunKind). share k q hole.len) kind)

    pub label_room : (tally : Option (Vec IdTally)) → IsTallyOf tally m → IfSome tally (λ rows. HasRoom m.geometry rows.items (Id id) hole.len)
    label_room None tallied = tt
    label_room (Some rows) tallied =
        let more = bits_more id in
        let mine : share id (Id id) hole.len ≡ hole.len = ap (λ (b : Bool). cond b hole.len 0) (eq-eqb id id refl) in
        let high = bits_high n id edit.map in
        let zones = ap (λ (g : Geometry). g.zones) edit.geometry in
        elim (cases_lt id (length rows.items)) [
          | inl in' ↦ (let row = tallied id in' in omega (arith, row.bits, more, mine, high, zones))
          | inr past ↦ omega (arith, ap (λ (r : IdTally). r.bits) (get_or_past rows.items id no_row (omega arith)), more, mine, high, zones)
        ]

    -- no run of the others changes
    label_other : (k : ℕ) (row : IdTally) → has_id k (Id id) ≡ false → Fits m.geometry k (RunsOf m) row → Fits m.geometry k (RunsOf n) row
    label_other k row other fits =
        let r = has.1.2 in
        let cut = cut_of has.0 r in
        let new : Run = record has.0 { kind = Id id } in
        let made = relabels r.0 r.1.0 has.0 cut has.1.0 in
        fits_kept m.geometry k (RunsOf m) (RunsOf n) row
        (λ y in'. covers_edited k z (runs_of m) (runs_of n) r.0 (has.0 ∷ []) (new ∷ []) r.1.0 (λ u ne. runs_other m n z u edit ne) cut made (covers_none k has.0 (Contains (new ∷ [])) (ap (has_id k) has.1.1)) y)
        (λ y in'. covers_edited k z (runs_of n) (runs_of m) r.0 (new ∷ []) (has.0 ∷ []) r.1.0 (λ u ne. sym (runs_other m n z u edit ne)) made cut (covers_none k new (Contains (has.0 ∷ [])) other) y)
        (λ y in'. spans_edited k z (runs_of m) (runs_of n) r.0 (has.0 ∷ []) (new ∷ []) r.1.0 (λ u ne. runs_other m n z u edit ne) cut made (spans_none k has.0 (Contains (new ∷ [])) (ap (has_id k) has.1.1)) y)
        fits

    label_mine : (k : ℕ) (row : IdTally) → has_id k (Id id) ≡ true → Fits m.geometry k (RunsOf m) row → Fits m.geometry k (RunsOf n) (row_with row (zones_before m.geometry k z) hole.start hole.len)
    label_mine k row mine fits =
        let r = has.1.2 in
        let cut = cut_of has.0 r in
        let new : Run = record has.0 { kind = Id id } in
        let made = relabels r.0 r.1.0 has.0 cut has.1.0 in
        let others : (u : ℕ) → (u ≡ z → ⊥) → runs_of n u ≡ runs_of m u = λ u ne. runs_other m n z u edit ne in
        let start : has.0.start ≡ hole.start = ap (λ (u : Run). u.start) (sym (is r.0 r.1.0 has.0 cut has.1.0)) in
        let zone = zone_cut m z (r.0 ++ has.0 ∷ r.1.0) edit.was low cut in
        let first : IsNew m.geometry k z (RunsOf m) new = λ bit from to b.
        none_within k (shape m.geometry z) _ r.0 r.1.0 (first_bit z) (end_bit m.geometry z) has.0 zone.spelled (ap (has_id k) has.1.1) bit from to
        (subst (λ (runs : List Run). IsBitOf k (Contains runs) bit) cut b) in
        subst (λ (s : ℕ). Fits m.geometry k (RunsOf n) (row_with row (zones_before m.geometry k z) s hole.len)) start
        (fits_kept m.geometry k (More (RunsOf m) z new) (RunsOf n) (row_with row (zones_before m.geometry k z) new.start hole.len)
        (λ y in'. more_there k z (runs_of m) (runs_of n) r.0 r.1.0 has.0 new others cut made (ap (has_id k) has.1.1) mine y)
        (λ y in'. more_back k z (runs_of m) (runs_of n) r.0 r.1.0 has.0 new others cut made y)
        (λ y in'. more_spans k z (runs_of m) (runs_of n) r.0 r.1.0 has.0 new others cut made (ap (has_id k) has.1.1) y)
        (fits_more m.geometry k z (RunsOf m) row new low mine fits hole.len (ap (λ (u : Run). u.len) (is r.0 r.1.0 has.0 cut has.1.0)) first))

    label_fits : (rows : List IdTally) (k : ℕ) → k < length rows → Fits m.geometry k (RunsOf m) (row_of rows k) → Fits m.geometry k (RunsOf n) (row_of (counted m.geometry rows z (Id id) hole.start hole.len) k)
    label_fits rows k in' fits = elim (counted_row m.geometry rows z (Id id) hole.start hole.len k in') [
      | inl other ↦ subst (Fits m.geometry k (RunsOf n)) (sym other.1) (label_other k (row_of rows k) other.0 fits)
      | inr mine ↦ subst (Fits m.geometry k (RunsOf n)) (sym mine.1) (label_mine k (row_of rows k) mine.0 fits)
    ]

    pub label_tally : (g : Geometry) (old new : Option (Vec IdTally)) → g ≡ m.geometry → option_map (λ (rows : Vec IdTally). rows.items) new ≡ option_map (λ (rows : Vec IdTally). counted g rows.items z (Id id) hole.start hole.len) old
        → IsTallyOf old m → IsTallyOf new n
    label_tally g old new same e = tally_on m n old new (λ rows. counted g rows z (Id id) hole.start hole.len) e (λ rows tallied k in'.
        let in'' : k < length rows = omega (arith, in', counted_long g rows z (Id id) hole.start hole.len) in
        let row = tallied k in'' in
        let fits = label_fits rows k in'' (row_fits m k (row_of rows k) row) in
        row_after m n k (row_of (counted g rows z (Id id) hole.start hole.len) k) edit.geometry (omega (arith, counted_bits g rows z (Id id) hole.start hole.len k in'', row.bits, bits_more k))
        (subst (λ (h : Geometry). Fits m.geometry k (RunsOf n) (row_of (counted h rows z (Id id) hole.start hole.len) k)) (sym same) fits))

  -- a run becomes a hole
  module _ (run : Run) (has : HasRunAt (shape m.geometry z) (sector_of m z) start) (is : IsRunFrom m z start run) (relabels : RelabelsIn m n z start Hole) where
    bits_less : (k : ℕ) → bits_in (id_runs n k) + share k run.kind run.len ≡ bits_in (id_runs m k) + 0
    bits_less k = bits_changed Hole run k has is relabels

    pub release_bits : (tally : Option (Vec IdTally)) → IsTallyOf tally m → IfSome tally (λ rows. HasBits rows.items run.kind run.len)
    release_bits None tallied = tt
    release_bits (Some rows) tallied = by run.kind refl
      where
        by : (kind : RunKind) → run.kind ≡ kind → HasBits rows.items kind run.len
        by Hole k = tt
        by (Id id) k = λ in'.
            let row = tallied id in' in
            let mine : share id run.kind run.len ≡ run.len = ap (λ (q : RunKind). share id q run.len) k ∙ ap (λ (b : Bool). cond b run.len 0) (eq-eqb id id refl) in
            omega (arith, row.bits, mine, bits_less id)

    -- no run is new
    release_back : (k y : ℕ) → Covers k (RunsOf n y) (RunsOf m y)
    release_back k =
        let r = has.1.1 in
        let cut = cut_of has.0 r in
        let hole : Run = record has.0 { kind = Hole } in
        covers_edited k z (runs_of n) (runs_of m) r.0 (hole ∷ []) (has.0 ∷ []) r.1.0 (λ u ne. sym (runs_other m n z u edit ne)) (relabels r.0 r.1.0 has.0 cut has.1.0) cut (covers_none k hole (Contains (has.0 ∷ [])) refl)

    -- no run of the others goes
    release_there : (k y : ℕ) → has_id k run.kind ≡ false → Covers k (RunsOf m y) (RunsOf n y)
    release_there k y other =
        let r = has.1.1 in
        let cut = cut_of has.0 r in
        let hole : Run = record has.0 { kind = Hole } in
        let same : has_id k has.0.kind ≡ has_id k run.kind = ap (λ (u : Run). has_id k u.kind) (sym (is r.0 r.1.0 has.0 cut has.1.0)) in
        covers_edited k z (runs_of m) (runs_of n) r.0 (has.0 ∷ []) (hole ∷ []) r.1.0 (λ u ne. runs_other m n z u edit ne) cut (relabels r.0 r.1.0 has.0 cut has.1.0) (covers_none k has.0 (Contains (hole ∷ [])) (same ∙ other)) y

    release_spans : (k y : ℕ) → has_id k run.kind ≡ false → Spans k (RunsOf m y) (RunsOf n y)
    release_spans k y other =
        let r = has.1.1 in
        let cut = cut_of has.0 r in
        let hole : Run = record has.0 { kind = Hole } in
        let same : has_id k has.0.kind ≡ has_id k run.kind = ap (λ (u : Run). has_id k u.kind) (sym (is r.0 r.1.0 has.0 cut has.1.0)) in
        spans_edited k z (runs_of m) (runs_of n) r.0 (has.0 ∷ []) (hole ∷ []) r.1.0 (λ u ne. runs_other m n z u edit ne) cut (relabels r.0 r.1.0 has.0 cut has.1.0) (spans_none k has.0 (Contains (hole ∷ [])) (same ∙ other)) y

    -- no other run goes
    release_kept : (k y : ℕ) (other : Run) → Contains (runs_of m y) other → More (RunsOf n) z run y other
    release_kept k y other c =
        let r = has.1.1 in
        let cut = cut_of has.0 r in
        let hole : Run = record has.0 { kind = Hole } in
        subst (λ (u : Run). More (RunsOf n) z u y other) (sym (is r.0 r.1.0 has.0 cut has.1.0))
        (was_or_new k z (runs_of n) (runs_of m) r.0 r.1.0 hole has.0 (λ u ne. sym (runs_other m n z u edit ne)) (relabels r.0 r.1.0 has.0 cut has.1.0) cut y other c)

    release_mine : (k : ℕ) (row : IdTally) → has_id k run.kind ≡ true → IsRow m k row → Fits m.geometry k (RunsOf n) (row_less m.geometry row (zones_before m.geometry k z) run.start run.len)
    release_mine k row mine says =
        let g = m.geometry in
        let before = zones_before g k z in
        let bits = says.bits in
        let share = share_is k run.kind run.len true mine in
        let less = bits_less k in
        elim (cases_eq row.bits run.len) [
          | inl last ↦ (
              let none : bits_in (id_runs n k) ≡ 0 = omega (arith, bits, less, share, last) in
              subst (Fits g k (RunsOf n)) (sym (less_none g row before run.start run.len last))
              (fits_none g k (RunsOf n) (λ y other in' c of_id. some_bits n k y other edit.map (subst (λ (h : Geometry). y < h.zones) (sym edit.geometry) in') c of_id none)))
          | inr more ↦ (
              let left = row_left row before run.start run.len in
              let fits : Fits g k (RunsOf n) left = fits_left g k z (RunsOf m) (RunsOf n) row run (release_back k) (release_kept k) (row_fits m k row says) in
              elim (cases_eq left.bits left.newest.len) [
                | inl only ↦ (
                    let fits' : Fits n.geometry k (RunsOf n) left = subst (λ (h : Geometry). Fits h k (RunsOf n) left) (sym edit.geometry) fits in
                    let all : bits_in (id_runs n k) ≡ left.newest.len = omega (arith, bits, less, share, only) in
                    let some : left.newest.len ≡ 0 → ⊥ = λ none. more (omega (arith, bits, less, share, only, none)) in
                    subst (Fits g k (RunsOf n)) (sym (less_only g row before run.start run.len more only))
                    (subst (λ (h : Geometry). Fits h k (RunsOf n) (row_only left)) edit.geometry (fits_only n k left edit.map fits' (fits'.newest some) all some)))
                | inr other ↦ subst (Fits g k (RunsOf n)) (sym (less_some g row before run.start run.len more other)) fits
              ])
        ]

    release_fits : (rows : List IdTally) (k : ℕ) → k < length rows → IsRow m k (row_of rows k) → Fits m.geometry k (RunsOf n) (row_of (uncounted m.geometry rows z run.kind run.start run.len) k)
    release_fits rows k in' says = elim (uncounted_row m.geometry rows z run.kind run.start run.len k in') [
      | inl other ↦ subst (Fits m.geometry k (RunsOf n)) (sym other.1)
          (fits_kept m.geometry k (RunsOf m) (RunsOf n) (row_of rows k) (λ y low'. release_there k y other.0) (λ y low'. release_back k y) (λ y low'. release_spans k y other.0) (row_fits m k (row_of rows k) says))
      | inr mine ↦ subst (Fits m.geometry k (RunsOf n)) (sym mine.1) (release_mine k (row_of rows k) mine.0 says)
    ]

    less_bits : (rows : List IdTally) (k : ℕ) → k < length rows → IsRow m k (row_of rows k) → (row_of (uncounted m.geometry rows z run.kind run.start run.len) k).bits ≡ bits_in (id_runs n k)
    less_bits rows k in' says =
        let bits = says.bits in
        elim (uncounted_row m.geometry rows z run.kind run.start run.len k in') [
          | inl other ↦ omega (arith, ap (λ (r : IdTally). r.bits) other.1, bits, bits_less k, share_is k run.kind run.len false other.0)
          | inr mine ↦ omega (arith, ap (λ (r : IdTally). r.bits) mine.1 ∙ less_bits_are m.geometry (row_of rows k) (zones_before m.geometry k z) run.start run.len, bits, bits_less k, share_is k run.kind run.len true mine.0)
        ]

    pub release_tally : (g : Geometry) (old new : Option (Vec IdTally)) → g ≡ m.geometry → option_map (λ (rows : Vec IdTally). rows.items) new ≡ option_map (λ (rows : Vec IdTally). uncounted g rows.items z run.kind run.start run.len) old
        → IsTallyOf old m → IsTallyOf new n
    release_tally g old new same e = tally_on m n old new (λ rows. uncounted g rows z run.kind run.start run.len) e (λ rows tallied k in'.
        let in'' : k < length rows = omega (arith, in', uncounted_long g rows z run.kind run.start run.len) in
        let row = tallied k in'' in
        subst (λ (h : Geometry). IsRow n k (row_of (uncounted h rows z run.kind run.start run.len) k)) (sym same)
        (row_after m n k (row_of (uncounted m.geometry rows z run.kind run.start run.len) k) edit.geometry (less_bits rows k in'' row) (release_fits rows k in'' row)))

  -- a run is cut in two
  pub split_tally : (len : ℕ) (tally : Option (Vec IdTally)) → HasRunToSplit (shape m.geometry z) (sector_of m z) start len → SplitsIn m n z start len → IsTallyOf tally m → IsTallyOf tally n
  split_tally len None has splits tallied = tt
  split_tally len (Some rows) has splits tallied = λ k in'.
      let r = has.1.2 in
      let can = has.1.1 in
      let room = can.rest_room in
      let row = tallied k in' in
      let cut = cut_of has.0 r in
      let here = subst (λ (s : ℕ). SplitsIn m n z s len) (sym has.1.0) splits in
      let made = here r.0 r.1.0 has.0 cut refl in
      let one : Run = record has.0 { len = len } in
      let two : Run = record has.0 { start = has.0.start + len; len = has.0.len - len } in
      let there : Covers k (Contains (has.0 ∷ [])) (Contains (one ∷ two ∷ [])) =
      covers_cons k has.0 [] (Contains (one ∷ two ∷ [])) (λ is. (one, (contains_here one (two ∷ []), is, omega arith))) (covers_nil k (Contains (one ∷ two ∷ []))) in
      let back : Covers k (Contains (one ∷ two ∷ [])) (Contains (has.0 ∷ [])) =
      covers_cons k one (two ∷ []) (Contains (has.0 ∷ [])) (λ is. (has.0, (contains_here has.0 [], is, omega arith)))
      (covers_cons k two [] (Contains (has.0 ∷ [])) (λ is. (has.0, (contains_here has.0 [], is, omega arith))) (covers_nil k (Contains (has.0 ∷ [])))) in
      let spans : Spans k (Contains (has.0 ∷ [])) (Contains (one ∷ two ∷ [])) =
      spans_cons k has.0 [] (Contains (one ∷ two ∷ [])) (λ is bit from to. elim (cases_lt bit (has.0.start + len)) [
        | inl less ↦ record { run = one; among = contains_here one (two ∷ []); of_id = is; from = from; before = less }
        | inr past ↦ record { run = two; among = contains_later one (two ∷ []) two (contains_here two []); of_id = is; from = past; before = omega arith }
      ]) (spans_nil k (Contains (one ∷ two ∷ []))) in
      row_after m n k (row_of rows.items k) edit.geometry (row.bits ∙ sym (bits_split m n z k len r.0 r.1.0 has.0 edit low cut (omega (arith, room)) here))
      (fits_kept m.geometry k (RunsOf m) (RunsOf n) (row_of rows.items k)
      (λ y low'. covers_edited k z (runs_of m) (runs_of n) r.0 (has.0 ∷ []) (one ∷ two ∷ []) r.1.0 (λ u ne. runs_other m n z u edit ne) cut made there y)
      (λ y low'. covers_edited k z (runs_of n) (runs_of m) r.0 (one ∷ two ∷ []) (has.0 ∷ []) r.1.0 (λ u ne. sym (runs_other m n z u edit ne)) made cut back y)
      (λ y low'. spans_edited k z (runs_of m) (runs_of n) r.0 (has.0 ∷ []) (one ∷ two ∷ []) r.1.0 (λ u ne. runs_other m n z u edit ne) cut made spans y)
      (row_fits m k (row_of rows.items k) row))

  -- two runs are joined
  pub merge_tally : (tally : Option (Vec IdTally)) → HasRunsToMerge (shape m.geometry z) (sector_of m z) start → MergesIn m n z start → IsTallyOf tally m → IsTallyOf tally n
  merge_tally None has merges tallied = tt
  merge_tally (Some rows) has merges tallied = λ k in'.
      let r = has.4 in
      let zone = r.1.1 in
      let cut = runs_of_zone (shape m.geometry z) (sector_of m z) (r.0 ++ has.0 ∷ has.1 ∷ r.1.0) zone in
      let row = tallied k in' in
      let here = subst (λ (s : ℕ). MergesIn m n z s) (sym has.2) merges in
      let made = here r.0 r.1.0 has.0 has.1 cut refl in
      let all : Run = record has.0 { len = has.0.len + has.1.len } in
      let order = next_after (shape m.geometry z) _ r.0 r.1.0 (first_bit z) (end_bit m.geometry z) has.0 has.1 zone.spelled in
      let there : Covers k (Contains (has.0 ∷ has.1 ∷ [])) (Contains (all ∷ [])) =
      covers_cons k has.0 (has.1 ∷ []) (Contains (all ∷ [])) (λ is. (all, (contains_here all [], is, omega arith)))
      (covers_cons k has.1 [] (Contains (all ∷ [])) (λ is. (all, (contains_here all [], ap (has_id k) has.3 ∙ is, omega (arith, order)))) (covers_nil k (Contains (all ∷ [])))) in
      let back : Covers k (Contains (all ∷ [])) (Contains (has.0 ∷ has.1 ∷ [])) =
      covers_cons k all [] (Contains (has.0 ∷ has.1 ∷ [])) (λ is. (has.0, (contains_here has.0 (has.1 ∷ []), is, omega arith))) (covers_nil k (Contains (has.0 ∷ has.1 ∷ []))) in
      let spans : Spans k (Contains (has.0 ∷ has.1 ∷ [])) (Contains (all ∷ [])) =
      spans_cons k has.0 (has.1 ∷ []) (Contains (all ∷ [])) (λ is bit from to. record { run = all; among = contains_here all []; of_id = is; from = from; before = omega arith })
      (spans_cons k has.1 [] (Contains (all ∷ []))
      (λ is bit from to. record { run = all; among = contains_here all []; of_id = ap (has_id k) has.3 ∙ is; from = omega (arith, order); before = omega (arith, order) })
      (spans_nil k (Contains (all ∷ [])))) in
      row_after m n k (row_of rows.items k) edit.geometry (row.bits ∙ sym (bits_merged m n z k r.0 r.1.0 has.0 has.1 edit low cut has.3 here))
      (fits_kept m.geometry k (RunsOf m) (RunsOf n) (row_of rows.items k)
      (λ y low'. covers_edited k z (runs_of m) (runs_of n) r.0 (has.0 ∷ has.1 ∷ []) (all ∷ []) r.1.0 (λ u ne. runs_other m n z u edit ne) cut made there y)
      (λ y low'. covers_edited k z (runs_of n) (runs_of m) r.0 (all ∷ []) (has.0 ∷ has.1 ∷ []) r.1.0 (λ u ne. sym (runs_other m n z u edit ne)) made cut back y)
      (λ y low'. spans_edited k z (runs_of m) (runs_of n) r.0 (has.0 ∷ has.1 ∷ []) (all ∷ []) r.1.0 (λ u ne. runs_other m n z u edit ne) cut made spans y)
      (row_fits m k (row_of rows.items k) row))
