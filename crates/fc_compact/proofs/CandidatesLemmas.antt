-- Identifiers of a rising list, and the zones that stand beside them.
use Rattle.std.proofs.Common.{◌≡◌, ◌<◌, ◌≤◌, ◌⊎◌, inl, inr, ℕ, suc, ◌+◌, ◌-◌, ◌%◌, Bool, true, false, cond, List, [], ◌∷◌, ◌++◌, length, length-append, take, drop, get_or, set, refl, sym, ap, subst, ◌∙◌, append-nil, arith}
use Rattle.std.specs.Prelude.{◌==◌, ◌||◌, All, Contains, Result, Ok, Err, MatchResult, filter, insert}
use Rattle.std.specs.List.{list_any, range_with_len, refill}
use Rattle.std.specs.List.Sorted.{IsBinarySearchResult}
use Rattle.std.specs.Ordering.{nat_cmp}
use Rattle.std.specs.Result.{result_ok}
use Rattle.std.proofs.Math.Seq.{take-append_seam}
use Rattle.std.proofs.lemmas.Bool.{cases_eq, cases_lt, eq-eqb, eqb-true, ne_eqb}
use Rattle.std.proofs.lemmas.List.{get_or-set_other, get_or-set_same, length-set, length-take, take-append-le, take_all, take_more}
use Rattle.std.proofs.lemmas.List.Edits.{get_or-insert_above, get_or-insert_at, get_or-insert_below, length-insert}
use Rattle.std.proofs.lemmas.List.Elements.{All-filter, All-get_or, All-take, Contains-get_or, Contains-push_cases, at_from_Contains}
use Rattle.std.proofs.lemmas.List.Folds.{list_any-append}
use Rattle.std.proofs.lemmas.List.Sorted.{searched}
use Rattle.arrayvec.specs.ArrayVec.{ArrayVec}
use Rattle.fc_zone.specs.declared.Run.{Run}
use Rattle.fc_zone.specs.declared.RunKind.TheVariants.{Id}
use Rattle.fc_newmap.specs.Map.{Map, has_id, runs_of}
use Rattle.fc_newmap.specs.NewMap.{IsNewMap}
use Rattle.fc_compact.specs.declared.candidates.Candidates.{Candidates}
use Rattle.fc_alloc.specs.declared.owner.Owner.{Owner}
use Rattle.fc_compact.specs.Candidates.{AreCandidates, AreFoundIn, AreTakenIn, IsPlaced, Rises, places, zones_at}
use Rattle.fc_compact.specs.Joins.{has_run_in, is_listed}
use Rattle.fc_compact.proofs.FoundLemmas.{or_true, passed_more, range_below}
use Rattle.fc_compact.proofs.HoldLemmas.{zones_same}

-- ---- places

pub at_place : (ids : List ℕ) (k id : ℕ) → k < length ids → get_or ids k 0 ≡ id → Contains ids id
at_place ids k id low e = subst (Contains ids) e (Contains-get_or ids k 0 low)

pub place_in : (ids : List ℕ) (id : ℕ) → Contains ids id → (k : ℕ) × ((k < length ids) × (get_or ids k 0 ≡ id))
place_in ids id there = let r = at_from_Contains ids id there in (r.0, (r.1, r.2 0))

pub not_falling : (ids : List ℕ) → Rises ids → (i j : ℕ) → i ≤ j → j < length ids → get_or ids i 0 ≤ get_or ids j 0
not_falling ids rises i j le low = elim (cases_lt i j) [
  | inl less ↦ (let l = rises i j less low in omega (arith, l))
  | inr ge ↦ (let e : i ≡ j = omega (arith, le, ge) in let f = ap (λ (k : ℕ). get_or ids k 0) e in omega (arith, f))
]

-- an identifier stands in one place
pub one_place : (ids : List ℕ) → Rises ids → (i j : ℕ) → i < length ids → j < length ids → get_or ids i 0 ≡ get_or ids j 0 → i ≡ j
one_place ids rises i j low high e = elim (cases_lt i j) [
  | inl less ↦ absurd (let l = rises i j less high in omega (arith, l, e))
  | inr ge ↦ (elim (cases_lt j i) [
    | inl more ↦ absurd (let l = rises j i more low in omega (arith, l, e))
    | inr le ↦ omega (arith, ge, le)
  ])
]

-- what a search for an identifier finds
abbrev pub IsFoundAt : List ℕ → ℕ → Result ℕ ℕ → Type 0
IsFoundAt ids id r = MatchResult r (λ k. (k < length ids) × (get_or ids k 0 ≡ id)) (λ k. (k ≤ length ids) × ((i : ℕ) → i < k → get_or ids i 0 < id) × ((i : ℕ) → k ≤ i → i < length ids → id < get_or ids i 0))

pub found_at : (ids xs : List ℕ) (id : ℕ) (r : Result ℕ ℕ) → xs ≡ ids → Rises ids → IsBinarySearchResult (λ y. nat_cmp y id) xs r → IsFoundAt ids id r
found_at ids xs id r e rises position = subst (λ (ys : List ℕ). IsFoundAt ys id r) e (searched xs id r position (not_falling xs (subst Rises (sym e) rises)))

pub not_there : (ids : List ℕ) (id k : ℕ) → ((i : ℕ) → i < k → get_or ids i 0 < id) → ((i : ℕ) → k ≤ i → i < length ids → id < get_or ids i 0) → (i : ℕ) → i < length ids → get_or ids i 0 ≡ id → ⊥
not_there ids id k low high i lt e = elim (cases_lt i k) [
  | inl less ↦ (let l = low i less in omega (arith, l, e))
  | inr ge ↦ (let l = high i ge lt in omega (arith, l, e))
]

-- ---- an identifier more

module _ (ids : List ℕ) (at id : ℕ) (within : at ≤ length ids) where
  after : (k : ℕ) → at < k → get_or (insert ids at id) k 0 ≡ get_or ids (k - 1) 0
  after k more = ap (λ (n : ℕ). get_or (insert ids at id) n 0) (let e : k ≡ (k - 1) + 1 = omega (arith, more) in e) ∙ get_or-insert_above ids at id 0 (k - 1) (omega (arith, more)) within

  before : (k : ℕ) → k < at → get_or (insert ids at id) k 0 ≡ get_or ids k 0
  before k less = get_or-insert_below ids at id 0 k less within

  here : get_or (insert ids at id) at 0 ≡ id
  here = get_or-insert_at ids at id 0 within

  pub rises_more : Rises ids → ((i : ℕ) → i < at → get_or ids i 0 < id) → ((i : ℕ) → at ≤ i → i < length ids → id < get_or ids i 0) → Rises (insert ids at id)
  rises_more rises low high i j less lt =
      let long = length-insert ids at id within in
      elim (cases_lt j at) [
        | inl j_low ↦ (let l = rises i j less (omega (arith, j_low, within)) in let a = before i (omega (arith, less, j_low)) in let b = before j j_low in omega (arith, l, a, b))
        | inr j_high ↦ (elim (cases_eq j at) [
          | inl j_at ↦ (let a = before i (omega (arith, less, j_at)) in let b = ap (λ (k : ℕ). get_or (insert ids at id) k 0) j_at in let l = low i (omega (arith, less, j_at)) in omega (arith, a, b, l, here))
          | inr j_not ↦ (
              let more : at < j = omega (arith, j_high, j_not) in
              let b = after j more in
              let short : j - 1 < length ids = omega (arith, lt, long, more) in
              elim (cases_lt i at) [
                | inl i_low ↦ (let a = before i i_low in let l = rises i (j - 1) (omega (arith, i_low, more)) short in omega (arith, a, b, l))
                | inr i_high ↦ (elim (cases_eq i at) [
                  | inl i_at ↦ (let a = ap (λ (k : ℕ). get_or (insert ids at id) k 0) i_at in let l = high (j - 1) (omega (arith, more)) short in omega (arith, a, b, l, here))
                  | inr i_not ↦ (let over : at < i = omega (arith, i_high, i_not) in let a = after i over in let l = rises (i - 1) (j - 1) (omega (arith, less, over)) short in omega (arith, a, b, l))
                ])
              ])
        ])
      ]

  pub others_more : (k : ℕ) → Contains ids k → Contains (insert ids at id) k
  others_more k there =
      let p = place_in ids k there in
      let long = length-insert ids at id within in
      elim (cases_lt p.0 at) [
        | inl less ↦ at_place (insert ids at id) p.0 k (omega (arith, long, p.1.0)) (before p.0 less ∙ p.1.1)
        | inr ge ↦ at_place (insert ids at id) (p.0 + 1) k (omega (arith, long, p.1.0)) (get_or-insert_above ids at id 0 p.0 ge within ∙ p.1.1)
      ]

pub taken_more : (seen was now : List ℕ) (list : List Owner) (i : ℕ) → i < length list → (d : Owner) → (2 ≤ get_or seen ((get_or list i d).id % places) 0 → Contains now (get_or list i d).id)
    → ((k : ℕ) → Contains was k → Contains now k) → AreTakenIn seen was (take i list) → AreTakenIn seen now (take (i + 1) list)
taken_more seen was now list i lt d there others before o listed several =
    elim (Contains-push_cases (take i list) (get_or list i d) o (subst (λ (l : List Owner). Contains l o) (take_more list i d lt) listed)) [
      | inl earlier ↦ others o.id (before o earlier several)
      | inr same ↦ subst (λ (x : Owner). Contains now x.id) same (there (subst (λ (x : Owner). 2 ≤ get_or seen (x.id % places) 0) (sym same) several))
    ]

pub placed_is : (ids : List ℕ) (id : ℕ) (r : Result ℕ ℕ) → IsFoundAt ids id r → IsPlaced ids id (result_ok r)
placed_is ids id (Ok k) found = found
placed_is ids id (Err k) found = not_there ids id k found.1 found.2

pub not_full : (zones : List ℕ) (full : Bool) → full ≡ (length zones == 9) → full ≡ false → length zones ≤ 9 → length zones < 9
not_full zones full e none most = elim (cases_lt (length zones) 9) [
  | inl less ↦ less
  | inr ge ↦ absurd (let f = eq-eqb (length zones) 9 (omega (arith, ge, most)) in let h = sym none ∙ e ∙ f in cc)
]

-- ---- a zone more beside an identifier

none_above : (front : List ℕ) (z : ℕ) → All (λ y. y < z) front → is_listed front z ≡ false
none_above [] z low = refl
none_above (y ∷ front) z low =
    let here = All-get_or (λ (x : ℕ). x < z) (y ∷ front) 0 0 (omega arith) low in
    ap (λ b. b || is_listed front z) (ne_eqb y z (λ e. omega (arith, here, e)))
    ∙ none_above front z (λ k d lt. low (suc k) d (omega (arith, lt)))

last_there : (front : List ℕ) (z : ℕ) → is_listed (front ++ z ∷ []) z ≡ true
last_there front z = list_any-append (λ y. y == z) front (z ∷ []) ∙ ap (λ b. is_listed front z || (b || false)) (eq-eqb z z refl) ∙ or_true (is_listed front z)

module _ (front : List ℕ) (z : ℕ) (low : All (λ y. y < z) front) (old : List ℕ) where
  short_all : (xs : List ℕ) → old ≡ take 9 xs → length old < 9 → old ≡ xs
  short_all xs e short = elim (cases_lt (length xs) 9) [
    | inl less ↦ e ∙ take_all 9 xs (omega (arith, less))
    | inr ge ↦ absurd (let l = length-take 9 xs in let f = ap length e in omega (arith, l, f, short, ge))
  ]

  -- nine are there, or the zone is
  pub zone_kept : (there : Bool) → old ≡ take 9 (front ++ cond there (z ∷ []) []) → (length old ≡ 9) ⊎ (is_listed old z ≡ true) → old ≡ take 9 (front ++ z ∷ [])
  zone_kept true e any = e
  zone_kept false e any =
      let f : old ≡ take 9 front = e ∙ ap (take 9) (append-nil front) in
      elim any [
        | inl nine ↦ (let l = length-take 9 front in let g = ap length f in f ∙ sym (take-append-le 9 front (z ∷ []) (omega (arith, l, g, nine))))
        | inr there ↦ absurd (let g = none_above (take 9 front) z (All-take (λ (y : ℕ). y < z) 9 front low) in let h = sym there ∙ ap (λ (xs : List ℕ). is_listed xs z) f ∙ g in cc)
      ]

  pub zone_put : (there : Bool) → old ≡ take 9 (front ++ cond there (z ∷ []) []) → length old < 9 → is_listed old z ≡ false → old ++ z ∷ [] ≡ take 9 (front ++ z ∷ [])
  zone_put true e short out = absurd (
      let f = short_all (front ++ z ∷ []) e short in
      let h = sym out ∙ ap (λ (xs : List ℕ). is_listed xs z) f ∙ last_there front z in
      cc)
  zone_put false e short out =
      let f = short_all front (e ∙ ap (take 9) (append-nil front)) short in
      let long = length-append front (z ∷ []) in
      let l = ap length f in
      ap (λ (xs : List ℕ). xs ++ z ∷ []) f ∙ sym (take_all 9 (front ++ z ∷ []) (omega (arith, long, l, short)))

-- ---- a run more

any_more : (id : ℕ) (done : List Run) (run : Run) → list_any (λ (r : Run). has_id id r.kind) (done ++ run ∷ []) ≡ (list_any (λ (r : Run). has_id id r.kind) done || (has_id id run.kind || false))
any_more id done run = list_any-append (λ (r : Run). has_id id r.kind) done (run ∷ [])

not_last : (a b : Bool) → b ≡ false → (a || (b || false)) ≡ a
not_last true b e = refl
not_last false b e = ap (λ (c : Bool). c || false) e

at_last : (a b : Bool) → b ≡ true → (a || (b || false)) ≡ true
at_last true b e = refl
at_last false b e = ap (λ (c : Bool). c || false) e

module _ (m : Map) (z : ℕ) (done : List Run) (run : Run) (old new : Candidates) (ids : new.ids ≡ old.ids) (size : length new.zones.items ≡ length old.ids.items) (was : AreFoundIn m z done old) where
  pub seen_more : ((k : ℕ) → k < length old.ids.items → has_id (get_or old.ids.items k 0) run.kind ≡ false → zones_at new k ≡ zones_at old k)
      → ((k : ℕ) → k < length old.ids.items → has_id (get_or old.ids.items k 0) run.kind ≡ true
      → (front : List ℕ) (there : Bool) → All (λ y. y < z) front → zones_at old k ≡ take 9 (front ++ cond there (z ∷ []) []) → zones_at new k ≡ take 9 (front ++ z ∷ []))
      → AreFoundIn m z (done ++ run ∷ []) new
  seen_more others put = record {
    size = size ∙ ap (λ x. length x.items) (sym ids);
    zones = λ k lt.
        let low : k < length old.ids.items = omega (arith, lt, ap (λ x. length x.items) ids) in
        subst (λ (id : ℕ). zones_at new k ≡ take 9 (filter (has_run_in m id) (range_with_len 0 z) ++ cond (list_any (λ (r : Run). has_id id r.kind) (done ++ run ∷ [])) (z ∷ []) []))
        (ap (λ x. get_or x.items k 0) (sym ids)) (by k low (has_id (get_or old.ids.items k 0) run.kind) refl);
  }
    where
      by : (k : ℕ) → k < length old.ids.items → (b : Bool) → has_id (get_or old.ids.items k 0) run.kind ≡ b
          → zones_at new k ≡ take 9 (filter (has_run_in m (get_or old.ids.items k 0)) (range_with_len 0 z) ++ cond (list_any (λ (r : Run). has_id (get_or old.ids.items k 0) r.kind) (done ++ run ∷ [])) (z ∷ []) [])
      by k low true e =
          let id = get_or old.ids.items k 0 in
          let front = filter (has_run_in m id) (range_with_len 0 z) in
          put k low e front (list_any (λ (r : Run). has_id id r.kind) done) (All-filter (has_run_in m id) (λ (y : ℕ). y < z) (range_with_len 0 z) (range_below z)) (was.zones k low)
          ∙ ap (λ (b : Bool). take 9 (front ++ cond b (z ∷ []) [])) (sym (any_more id done run ∙ at_last (list_any (λ (r : Run). has_id id r.kind) done) (has_id id run.kind) e))
      by k low false e =
          let id = get_or old.ids.items k 0 in
          let front = filter (has_run_in m id) (range_with_len 0 z) in
          others k low e ∙ was.zones k low
          ∙ ap (λ (b : Bool). take 9 (front ++ cond b (z ∷ []) [])) (sym (any_more id done run ∙ not_last (list_any (λ (r : Run). has_id id r.kind) done) (has_id id run.kind) e))

-- ---- one of the rows

pub refilled : {X : Type 0} (xs ws : List X) → length ws ≡ length xs → refill (length xs) xs ws ≡ ws
refilled xs ws e = ap (λ (n : ℕ). take n (ws ++ drop (length ws) xs)) (sym e) ∙ take-append_seam ws (drop (length ws) xs)

abbrev pub Row : Type 0
Row = ArrayVec ℕ

pub seen_put : (m : Map) (z : ℕ) (done : List Run) (run : Run) (old : Candidates) (items : List Row) (k id : ℕ) (row : Row) → Rises old.ids.items → length old.zones.items ≡ length old.ids.items
    → k < length old.ids.items → get_or old.ids.items k 0 ≡ id → run.kind ≡ Id id → items ≡ set old.zones.items k row
    → ((front : List ℕ) (there : Bool) → All (λ y. y < z) front → zones_at old k ≡ take 9 (front ++ cond there (z ∷ []) []) → row.items ≡ take 9 (front ++ z ∷ []))
    → AreFoundIn m z done old → AreFoundIn m z (done ++ run ∷ []) (record { ids = old.ids; zones = record { items = items } })
seen_put m z done run old items k id row rises size low named kind is put was =
    seen_more m z done run old (record { ids = old.ids; zones = record { items = items } }) refl (ap length is ∙ length-set old.zones.items k row ∙ size) was others here
  where
    other : (j : ℕ) → has_id (get_or old.ids.items j 0) run.kind ≡ false → j ≡ k → ⊥
    other j away same =
        let e : (id == get_or old.ids.items j 0) ≡ false = ap (has_id (get_or old.ids.items j 0)) (sym kind) ∙ away in
        let f = eq-eqb id (get_or old.ids.items j 0) (sym named ∙ ap (λ (i : ℕ). get_or old.ids.items i 0) (sym same)) in
        let g = sym e ∙ f in
        cc

    others : (j : ℕ) → j < length old.ids.items → has_id (get_or old.ids.items j 0) run.kind ≡ false → zones_at (record { ids = old.ids; zones = record { items = items } }) j ≡ zones_at old j
    others j lt away = ap (λ (rows : List Row). (get_or rows j (record { items = [] })).items) is ∙ ap (λ (r : Row). r.items) (get_or-set_other old.zones.items k j row (record { items = [] }) (other j away))

    here : (j : ℕ) → j < length old.ids.items → has_id (get_or old.ids.items j 0) run.kind ≡ true
        → (front : List ℕ) (there : Bool) → All (λ y. y < z) front → zones_at old j ≡ take 9 (front ++ cond there (z ∷ []) []) → zones_at (record { ids = old.ids; zones = record { items = items } }) j ≡ take 9 (front ++ z ∷ [])
    here j lt mine front there below e =
        let same_id : id ≡ get_or old.ids.items j 0 = eqb-true id (get_or old.ids.items j 0) (ap (has_id (get_or old.ids.items j 0)) (sym kind) ∙ mine) in
        let same : j ≡ k = one_place old.ids.items rises j k lt low (sym same_id ∙ sym named) in
        ap (λ (i : ℕ). (get_or items i (record { items = [] })).items) same
        ∙ ap (λ (rows : List Row). (get_or rows k (record { items = [] })).items) is
        ∙ ap (λ (r : Row). r.items) (get_or-set_same old.zones.items k row (record { items = [] }) (omega (arith, low, size)))
        ∙ put front there below (ap (zones_at old) (sym same) ∙ e)

-- ---- a zone more, and all zones

pub zone_seen : (m : Map) (z : ℕ) (c : Candidates) → AreFoundIn m z (runs_of m z) c → AreFoundIn m (z + 1) [] c
zone_seen m z c was = record {
  size = was.size;
  zones = λ k lt.
      let t = has_run_in m (get_or c.ids.items k 0) in
      was.zones k lt ∙ ap (take 9) (by (filter t (range_with_len 0 z)) (t z) ∙ ap (λ (xs : List ℕ). xs ++ []) (sym (passed_more t z)));
}
  where
    by : (front : List ℕ) (b : Bool) → front ++ cond b (z ∷ []) [] ≡ cond b (front ++ z ∷ []) front ++ []
    by front true = sym (append-nil (front ++ z ∷ []))
    by front false = refl

pub all_seen : (m : Map) (n : ℕ) (c : Candidates) → IsNewMap m → n ≡ m.geometry.zones → Rises c.ids.items → AreFoundIn m n [] c → AreCandidates m c
all_seen m n c is e rises was = record {
  rises = rises;
  size = was.size;
  zones = λ k lt.
      let id = get_or c.ids.items k 0 in
      was.zones k lt ∙ ap (take 9) (append-nil (filter (has_run_in m id) (range_with_len 0 n)) ∙ ap (λ (j : ℕ). filter (has_run_in m id) (range_with_len 0 j)) e ∙ sym (zones_same m is id));
}
