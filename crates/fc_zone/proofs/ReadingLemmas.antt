-- The function that reads a zone against the relation of a zone and its runs.
use Rattle.std.proofs.Common.{◌≡◌, ◌<◌, ◌≤◌, ◌≢◌, ℕ, zero, suc, ◌+◌, ◌-◌, Option, Some, None, List, [], ◌∷◌, length, drop, get_or, slice_index, slice_range, Bool, true, false, cond, eqb, refl, sym, ap, ◌∙◌, arith}
use Rattle.std.specs.Prelude.{◌&&◌, ◌==◌, Result, Ok, Err}
use Rattle.std.specs.List.{prefix_len}
use Rattle.std.specs.Option.{option_eq}
use Rattle.std.proofs.lemmas.Bool.{eqb-true, eqb-false, eq-eqb, ne_eqb, leb-true, le-leb}
use Rattle.std.proofs.lemmas.List.{get_or-take, get_or-drop, length-take, length-drop}
use Rattle.std.proofs.lemmas.List.Sums.{prefix_len_passes, prefix_len_stops}
use Rattle.std.specs.Cmp.Derive.{both_true}
use Rattle.fc_bytes.specs.Bits.{bits}
use Rattle.fc_bytes.specs.BitLaws.{AreBits, AreBits-bits, length-bits}
use Rattle.fc_zone.specs.declared.ZoneShape.{ZoneShape}
use Rattle.fc_zone.specs.declared.Run.{Run}
use Rattle.fc_zone.specs.declared.RunKind.{RunKind}
use Rattle.fc_zone.specs.declared.RunKind.TheVariants.{Hole, Id}
use Rattle.fc_zone.specs.Zone.{IsShapeOf, IsRun, HasField, field_at, Spells, next_hole, first_hole, Chain, hole_starts, start_if_hole, Zone}
use Rattle.fc_zone.specs.Reading.{end_of_run, is_run, run_of, end_of_chain, cons_ok, runs_from, in_zone, zone_of, runs_or_none, runs_of}
use Rattle.fc_zone.proofs.ZoneLemmas.{Spells-le}

pub first_part : (a b : Bool) → (a && b) ≡ true → a ≡ true
first_part true b e = refl
first_part false b e = e

second_part : (a b : Bool) → (a && b) ≡ true → b ≡ true
second_part true b e = e
second_part false b e = absurd (cc)

is_one : (b : ℕ) → b < 2 → b ≢ 0 → b ≡ 1
is_one b low some = omega arith

-- zeros and then a 1: as many as there are
zeros_first : (l : List ℕ) (n : ℕ) → ((k : ℕ) → k < n → get_or l k 0 ≡ 0) → get_or l n 0 ≡ 1 → prefix_len (λ b. b == 0) l ≡ n
zeros_first [] n zeros one = absurd (omega arith)
zeros_first (x ∷ xs) zero zeros one = let test : eqb x 0 ≡ false = ne_eqb x 0 (λ e. omega arith) in rw test refl
zeros_first (x ∷ xs) (suc n) zeros one =
    let test : eqb x 0 ≡ true = eq-eqb x 0 (zeros 0 (omega arith)) in
    rw test (let rest = zeros_first xs n (λ k h. zeros (suc k) (omega arith)) one in omega arith)

-- what the test `hole == Some(at)` says
names_it : (hole : Option ℕ) (at : ℕ) → option_eq eqb hole (Some at) ≡ true → hole ≡ Some at
names_it None at h = absurd (cc)
names_it (Some place) at h = ap Some (eqb-true place at h)

module _ (shape : ZoneShape) (bs : List ℕ) where
  tail : ℕ → List ℕ
  tail s = slice_range bs s shape.end

  tail_at : (s k : ℕ) → k < shape.end - s → get_or (tail s) k 0 ≡ slice_index bs (s + k)
  unfolding tail
  tail_at s k h = get_or-take (shape.end - s) (drop s bs) k 0 h ∙ get_or-drop s bs k 0

  -- the first 1 after the field ends the run
  pub IsRun-end_of_run : (at end : ℕ) → IsRun shape bs at end → end_of_run shape bs at ≡ end
  unfolding tail
  IsRun-end_of_run at end r =
      let s = at + shape.idlen in
      let long = r.long in
      let fits = r.within in
      let n = end - 1 - s in
      let back : s + n ≡ end - 1 = omega arith in
      let count = zeros_first (tail s) n
      (λ k h. tail_at s k (omega arith) ∙ r.zeros (s + k) (omega arith) (omega arith))
      (tail_at s n (omega arith) ∙ ap (slice_index bs) back ∙ r.last) in
      ap (λ z. s + z + 1) count ∙ omega arith

  pub IsRun-is_run : (at end : ℕ) → IsRun shape bs at end → is_run shape bs at ≡ true
  IsRun-is_run at end r =
      let e = IsRun-end_of_run at end r in
      both_true (both_true (le-leb _ _ (rw e r.within)) (eq-eqb _ _ r.begins)) (eq-eqb _ _ (rw e r.ends))

  -- ---- what is so is read

  -- what the chain names lies further on
  not_named : (runs : List Run) (at later : ℕ) (hole : Option ℕ) → Spells shape bs later runs shape.end → Chain shape bs hole (hole_starts runs) None → at < later
      → option_eq eqb hole (Some at) ≡ false
  not_named [] at later hole h chain lt = rw chain refl
  not_named (run ∷ runs) at later hole h chain lt = by run.kind chain (λ c. not_named runs at (later + run.len) hole h.3 c (let l = h.1.long in omega arith))
    where
      by : (k : RunKind) → Chain shape bs hole (start_if_hole k run.start (hole_starts runs)) None → (Chain shape bs hole (hole_starts runs) None → option_eq eqb hole (Some at) ≡ false)
          → option_eq eqb hole (Some at) ≡ false
      by Hole c others = rw c.0 (ne_eqb run.start at (let first = h.0 in omega arith))
      by (Id id) c others = others c

  kind_is : (k : RunKind) (start at field later : ℕ) (hole : Option ℕ) (runs : List Run) → start ≡ at → HasField k field
      → Chain shape bs hole (start_if_hole k start (hole_starts runs)) None → Spells shape bs later runs shape.end → at < later
      → (b : Bool) × (option_eq eqb hole (Some at) ≡ b) × (cond b Hole (Id field) ≡ k) × Chain shape bs (cond b (next_hole shape bs at) hole) (hole_starts runs) None
  kind_is Hole start at field later hole runs here has chain others lt = (true, rw chain.0 (eq-eqb start at here), refl, rw (← here) chain.1)
  kind_is (Id id) start at field later hole runs here has chain others lt = (false, not_named runs at later hole others chain lt, ap Id (sym has), chain)

  -- the first of the runs that are left, from its place, its length and the hole that the chain names
  pub run_is_read : (run : Run) (rest : List Run) (at : ℕ) (hole : Option ℕ) → Spells shape bs at (run ∷ rest) shape.end → Chain shape bs hole (hole_starts (run ∷ rest)) None
      → run_of hole at run.len (field_at shape bs at) ≡ run
  run_is_read run rest at hole h chain =
      let long = h.1.long in
      let k = kind_is run.kind run.start at (field_at shape bs at) (at + run.len) hole rest h.0 h.2 chain h.3 (omega arith) in
      let first : record { start = at; len = run.len; kind = cond k.0 Hole (Id (field_at shape bs at)) } ≡ run = (λ i. record { start = (sym h.0) i; len = run.len; kind = k.2 i }) in
      rw k.1 first

  -- what the chain names after it
  pub chain_past : (run : Run) (rest : List Run) (at : ℕ) (hole : Option ℕ) → Spells shape bs at (run ∷ rest) shape.end → Chain shape bs hole (hole_starts (run ∷ rest)) None
      → Chain shape bs (cond (option_eq eqb hole (Some at)) (next_hole shape bs at) hole) (hole_starts rest) None
  chain_past run rest at hole h chain =
      let long = h.1.long in
      let k = kind_is run.kind run.start at (field_at shape bs at) (at + run.len) hole rest h.0 h.2 chain h.3 (omega arith) in
      rw k.1 k.3

  pub Spells-runs_from : (runs : List Run) (fuel at : ℕ) (hole : Option ℕ) → Spells shape bs at runs shape.end → Chain shape bs hole (hole_starts runs) None → shape.end ≤ at + fuel
      → runs_from fuel shape bs at hole ≡ Ok runs
  unfolding runs_from
  Spells-runs_from [] zero at hole h chain room = rw (eq-eqb at shape.end h, chain) refl
  Spells-runs_from [] (suc fuel) at hole h chain room = rw (eq-eqb at shape.end h, chain) refl
  Spells-runs_from (run ∷ runs) zero at hole h chain room = absurd (let long = h.1.long in let fits = h.1.within in omega arith)
  Spells-runs_from (run ∷ runs) (suc fuel) at hole h chain room =
      let is = h.1 in
      let long = is.long in
      let fits = is.within in
      let ends = IsRun-end_of_run at (at + run.len) is in
      let len : end_of_run shape bs at - at ≡ run.len = omega arith in
      let rest = Spells-runs_from runs fuel (at + run.len) _ h.3 (chain_past run runs at hole h chain) (omega arith) in
      rw (ne_eqb at shape.end (omega arith), IsRun-is_run at (at + run.len) is, len, rest)
      (ap (λ (r : Run). Ok (r ∷ runs)) (run_is_read run runs at hole h chain))

-- a zone is read as its list of runs
pub Zone-zone_of : (shape : ZoneShape) (sector : List ℕ) (runs : List Run) → Zone shape sector runs → zone_of shape sector ≡ Ok runs
Zone-zone_of shape sector runs zone =
    rw (Spells-runs_from shape (bits sector) runs (shape.end - shape.first) shape.first (first_hole (bits sector)) zone.spelled zone.chained (omega arith)) refl

pub runs_of_zone : (shape : ZoneShape) (sector : List ℕ) (runs : List Run) → Zone shape sector runs → runs_of shape sector ≡ runs
unfolding runs_of
runs_of_zone shape sector runs zone = ap runs_or_none (Zone-zone_of shape sector runs zone)

-- ---- what is read is so

module _ (shape : ZoneShape) (bs : List ℕ) (are_bits : AreBits bs) (within : shape.end ≤ length bs) where
  length-tail : (s : ℕ) → s ≤ shape.end → length (tail shape bs s) ≡ shape.end - s
  unfolding tail
  length-tail s le = omega (arith, length-take (shape.end - s) (drop s bs), length-drop s bs)

  pub is_run-IsRun : (at : ℕ) → is_run shape bs at ≡ true → IsRun shape bs at (end_of_run shape bs at)
  unfolding tail
  is_run-IsRun at h =
      let s = at + shape.idlen in
      let n = prefix_len (λ b. b == 0) (tail shape bs s) in
      let fits : end_of_run shape bs at ≤ shape.end = leb-true _ _ (first_part _ _ (first_part _ _ h)) in
      let len = length-tail s (omega arith) in
      let stops = prefix_len_stops (λ b. b == 0) (tail shape bs s) 0 (omega arith) in
      let place : end_of_run shape bs at - 1 ≡ s + n = omega arith in
      record {
        long = omega arith;
        within = fits;
        zeros = λ k from to.
            (let passes = prefix_len_passes (λ b. b == 0) (tail shape bs s) (k - s) 0 (omega arith) in
            let back : s + (k - s) ≡ k = omega arith in
            rw (← back) (sym (tail_at shape bs s (k - s) (omega arith)) ∙ eqb-true _ _ passes));
        last = rw place (rw (← tail_at shape bs s n (omega arith)) (is_one _ (rw (tail_at shape bs s n (omega arith)) (are_bits (s + n))) (eqb-false _ 0 stops)));
        begins = eqb-true _ _ (second_part _ _ (first_part _ _ h));
        ends = eqb-true _ _ (second_part _ _ h);
      }

  -- from a place on the bits are these runs up to the zone's end, and the chain names their holes
  abbrev pub Right : ℕ → Option ℕ → List Run → Type 0
  Right at hole runs = Spells shape bs at runs shape.end × Chain shape bs hole (hole_starts runs) None

  at_end : (at : ℕ) (hole : Option ℕ) (runs : List Run) → at ≡ shape.end → end_of_chain hole ≡ Ok runs → Right at hole runs
  at_end at None [] here e = (here, refl)
  at_end at None (run ∷ runs) here e = absurd (cc)
  at_end at (Some place) runs here e = absurd (cc)

  field_is : (b : Bool) (field : ℕ) → HasField (cond b Hole (Id field)) field
  field_is true field = tt
  field_is false field = refl

  chain_is : (b : Bool) (at field : ℕ) (hole : Option ℕ) (places : List ℕ) → option_eq eqb hole (Some at) ≡ b
      → Chain shape bs (cond b (next_hole shape bs at) hole) places None → Chain shape bs hole (start_if_hole (cond b Hole (Id field)) at places) None
  chain_is true at field hole places e chain = (names_it hole at e, chain)
  chain_is false at field hole places e chain = chain

  one_more : (at : ℕ) (hole : Option ℕ) (rest : Result (List Run) ℕ) (runs : List Run) → is_run shape bs at ≡ true
      → cons_ok (run_of hole at (end_of_run shape bs at - at) (field_at shape bs at)) rest ≡ Ok runs
      → ((others : List Run) → rest ≡ Ok others
      → Right (at + (end_of_run shape bs at - at)) (cond (option_eq eqb hole (Some at)) (next_hole shape bs at) hole) others)
      → Right at hole runs
  one_more at hole rest [] h e right = absurd (none rest e)
    where
      none : (r : Result (List Run) ℕ) → cons_ok (run_of hole at (end_of_run shape bs at - at) (field_at shape bs at)) r ≡ Ok [] → ⊥
      none (Ok others) e' = cc
      none (Err place) e' = cc
  one_more at hole (Err place) (run ∷ runs) h e right = absurd (cc)
  one_more at hole (Ok others) (run ∷ runs) h e right =
      let is = is_run-IsRun at h in
      let long = is.long in
      let after : at + (end_of_run shape bs at - at) ≡ end_of_run shape bs at = omega arith in
      let first : run_of hole at (end_of_run shape bs at - at) (field_at shape bs at) ≡ run = cc in
      let same : others ≡ runs = cc in
      let both = right others refl in
      let b = option_eq eqb hole (Some at) in
      rw (← first, ← same) ((
        (refl, rw after is, field_is b (field_at shape bs at), both.0),
        chain_is b at (field_at shape bs at) hole (hole_starts others) refl both.1,
      ))

  pub runs_from-Right : (fuel at : ℕ) (hole : Option ℕ) (runs : List Run) → runs_from fuel shape bs at hole ≡ Ok runs → Right at hole runs
  unfolding runs_from
  runs_from-Right zero at hole runs e = by (at == shape.end) refl e
    where
      by : (b : Bool) → (at == shape.end) ≡ b → cond b (end_of_chain hole) (Err at) ≡ Ok runs → Right at hole runs
      by true t e' = at_end at hole runs (eqb-true _ _ t) e'
      by false t e' = absurd (cc)
  runs_from-Right (suc fuel) at hole runs e =
      by (at == shape.end) (is_run shape bs at) refl refl e (λ others h. runs_from-Right fuel _ _ others h)
    where
      rest : Result (List Run) ℕ
      rest = runs_from fuel shape bs (at + (end_of_run shape bs at - at)) (cond (option_eq eqb hole (Some at)) (next_hole shape bs at) hole)

      run : Run
      run = run_of hole at (end_of_run shape bs at - at) (field_at shape bs at)

      by : (b r : Bool) → (at == shape.end) ≡ b → is_run shape bs at ≡ r → cond b (end_of_chain hole) (cond r (cons_ok run rest) (Err at)) ≡ Ok runs
          → ((others : List Run) → rest ≡ Ok others → Right (at + (end_of_run shape bs at - at)) (cond (option_eq eqb hole (Some at)) (next_hole shape bs at) hole) others)
          → Right at hole runs
      by true r t u e' later = at_end at hole runs (eqb-true _ _ t) e'
      by false false t u e' later = absurd (cc)
      by false true t u e' later = one_more at hole rest runs u e' later

  -- ---- a fault is read

  no_run : (at : ℕ) → ((end : ℕ) → IsRun shape bs at end → ⊥) → (b : Bool) → is_run shape bs at ≡ b → b ≡ false
  no_run at none true e = absurd (none (end_of_run shape bs at) (is_run-IsRun at e))
  no_run at none false e = refl

  -- no run begins where these end
  pub faulty_run : (runs : List Run) (fuel from at : ℕ) (hole : Option ℕ) → Spells shape bs from runs at → at < shape.end → ((end : ℕ) → IsRun shape bs at end → ⊥) → shape.end ≤ from + fuel
      → runs_from fuel shape bs from hole ≡ Err at
  unfolding runs_from
  faulty_run [] zero from at hole h early none room = absurd (omega arith)
  faulty_run [] (suc fuel) from at hole h early none room =
      rw (h, ne_eqb at shape.end (omega arith), no_run at none (is_run shape bs at) refl) refl
  faulty_run (run ∷ runs) zero from at hole h early none room = absurd (let long = h.1.long in let le = Spells-le shape bs runs (from + run.len) at h.3 in omega arith)
  faulty_run (run ∷ runs) (suc fuel) from at hole h early none room =
      let is = h.1 in
      let long = is.long in
      let le = Spells-le shape bs runs (from + run.len) at h.3 in
      let ends = IsRun-end_of_run shape bs from (from + run.len) is in
      let len : end_of_run shape bs from - from ≡ run.len = omega arith in
      let rest = faulty_run runs fuel (from + run.len) at (cond (option_eq eqb hole (Some from)) (next_hole shape bs from) hole) h.3 early none (omega arith) in
      rw (ne_eqb from shape.end (omega arith), IsRun-is_run shape bs from (from + run.len) is, len, rest) refl

pub in_zone-Ok : (zone : ℕ) (r : Result (List Run) ℕ) (runs : List Run) → in_zone zone r ≡ Ok runs → r ≡ Ok runs
in_zone-Ok zone (Ok others) runs e = ap (λ (rs : List Run). Ok rs) (cc)
in_zone-Ok zone (Err place) runs e = absurd (cc)

pub zone_of-Zone : (shape : ZoneShape) (sector : List ℕ) (runs : List Run) → IsShapeOf sector shape → zone_of shape sector ≡ Ok runs → Zone shape sector runs
zone_of-Zone shape sector runs is e =
    let within = is.within in
    let both = runs_from-Right shape (bits sector) (AreBits-bits sector) (omega (arith, length-bits sector)) _ shape.first _ runs (in_zone-Ok shape.zone _ runs e) in
    record { spelled = both.0; chained = both.1 }
