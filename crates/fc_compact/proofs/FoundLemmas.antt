-- Walks over the runs of a zone, and what they find.
use Rattle.std.proofs.Common.{◌≡◌, ◌<◌, ◌≤◌, ℕ, ◌+◌, ◌-◌, Bool, true, false, cond, List, [], ◌∷◌, ◌++◌, length, refl, sym, ap, ◌∙◌, append-nil, length-append, arith}
use Rattle.std.specs.Prelude.{◌||◌, ◌==◌, All, filter}
use Rattle.std.specs.List.{list_any, range_with_len}
use Rattle.std.specs.List.Sorted.{IsStrictlyIncreasing}
use Rattle.std.proofs.lemmas.Bool.{eqb-true, ne_eqb}
use Rattle.std.proofs.lemmas.List.Elements.{filter-append}
use Rattle.std.proofs.lemmas.List.FromFn.{get_or-range_with_len, length-range_with_len}
use Rattle.fc_newmap.specs.Map.{Map, ZoneRun, has_id, runs_of}
use Rattle.fc_newmap.specs.RunsLaw.{placed}
use Rattle.fc_compact.specs.Joins.{has_run_in, ids_in, is_listed}
use Rattle.fc_newmap.proofs.CoverLemmas.{range_cut}
use Rattle.fc_newmap.proofs.PlaceLemmas.{in_range}
use Rattle.fc_zone.specs.declared.Run.{Run}
use Rattle.fc_device.specs.Numbers.{is_listed as is_in}

pub or_true : (b : Bool) → (b || true) ≡ true
or_true true = refl
or_true false = refl

pub any_there : (f : Run → Bool) (done rest : List Run) (run : Run) → f run ≡ true → list_any f (done ++ run ∷ rest) ≡ true
any_there f [] rest run e = ap (λ b. b || list_any f rest) e
any_there f (x ∷ done) rest run e = ap (λ b. f x || b) (any_there f done rest run e) ∙ or_true (f x)

pub none_more : (f : Run → Bool) (done : List Run) (run : Run) → list_any f done ≡ false → f run ≡ false → list_any f (done ++ run ∷ []) ≡ false
none_more f [] run none e = ap (λ b. b || false) e
none_more f (x ∷ done) run none e = by (f x) none (λ rest. none_more f done run rest e)
  where
    by : (b : Bool) → (b || list_any f done) ≡ false → (list_any f done ≡ false → list_any f (done ++ run ∷ []) ≡ false) → (b || list_any f (done ++ run ∷ [])) ≡ false
    by true g more = absurd (cc)
    by false g more = more g

-- ---- numbers of a range that pass a test

pub passed_more : (t : ℕ → Bool) (z : ℕ) → filter t (range_with_len 0 (z + 1)) ≡ cond (t z) (filter t (range_with_len 0 z) ++ z ∷ []) (filter t (range_with_len 0 z))
passed_more t z =
    ap (filter t) (range_cut 0 z 1) ∙ filter-append t (range_with_len 0 z) (range_with_len (0 + z) 1)
    ∙ ap (λ (k : ℕ). filter t (range_with_len 0 z) ++ filter t (k ∷ [])) (let e : 0 + z ≡ z = omega arith in e)
    ∙ by (t z)
  where
    by : (b : Bool) → filter t (range_with_len 0 z) ++ cond b (z ∷ []) [] ≡ cond b (filter t (range_with_len 0 z) ++ z ∷ []) (filter t (range_with_len 0 z))
    by true = refl
    by false = append-nil (filter t (range_with_len 0 z))

pub passed_room : (t : ℕ → Bool) (z n : ℕ) → z < n → t z ≡ true → length (filter t (range_with_len 0 z)) + 1 ≤ length (filter t (range_with_len 0 n))
passed_room t z n lt e =
    let all : filter t (range_with_len 0 n) ≡ filter t (range_with_len 0 (z + 1)) ++ filter t (range_with_len (0 + (z + 1)) (n - (z + 1))) =
    ap (λ (k : ℕ). filter t (range_with_len 0 k)) (let f : n ≡ z + 1 + (n - (z + 1)) = omega arith in f) ∙ ap (filter t) (range_cut 0 (z + 1) (n - (z + 1))) ∙ filter-append t (range_with_len 0 (z + 1)) (range_with_len (0 + (z + 1)) (n - (z + 1))) in
    let more : filter t (range_with_len 0 (z + 1)) ≡ filter t (range_with_len 0 z) ++ z ∷ [] = passed_more t z ∙ ap (λ b. cond b (filter t (range_with_len 0 z) ++ z ∷ []) (filter t (range_with_len 0 z))) e in
    omega (arith, ap length all, length-append (filter t (range_with_len 0 (z + 1))) (filter t (range_with_len (0 + (z + 1)) (n - (z + 1)))), ap length more, length-append (filter t (range_with_len 0 z)) (z ∷ []))

pub range_rises : (from n : ℕ) → IsStrictlyIncreasing (range_with_len from n)
range_rises from n k lt =
    let size = length-range_with_len from n in
    omega (arith, get_or-range_with_len from n k 0 (omega (arith, lt, size)), get_or-range_with_len from n (k + 1) 0 (omega (arith, lt, size)))

pub range_below : (n : ℕ) → All (λ y. y < n) (range_with_len 0 n)
range_below n k d lt = let low : k < n = omega (arith, lt, length-range_with_len 0 n) in omega (arith, low, get_or-range_with_len 0 n k d low)

-- a zone with no run of the identifier has none
pub no_ids : (m : Map) (id z : ℕ) → (has_run_in m id z ≡ true → ⊥) → ids_in m id z ≡ []
no_ids m id z never = none (runs_of m z) never
  where
    none : (runs : List Run) → (list_any (λ (run : Run). has_id id run.kind) runs ≡ true → ⊥) → filter (λ (p : ZoneRun). has_id id p.1.kind) (placed z runs) ≡ []
    none [] out = refl
    none (run ∷ runs) out = by (has_id id run.kind) out (none runs)
      where
        by : (b : Bool) → ((b || list_any (λ (run : Run). has_id id run.kind) runs) ≡ true → ⊥) → ((list_any (λ (run : Run). has_id id run.kind) runs ≡ true → ⊥) → filter (λ (p : ZoneRun). has_id id p.1.kind) (placed z runs) ≡ [])
            → cond b ((z, run) ∷ filter (λ (p : ZoneRun). has_id id p.1.kind) (placed z runs)) (filter (λ (p : ZoneRun). has_id id p.1.kind) (placed z runs)) ≡ []
        by true g more = absurd (g refl)
        by false g more = more g

passes_stay : (t : ℕ → Bool) (y : ℕ) (zs : List ℕ) → t y ≡ true → is_in zs y ≡ true → is_listed (filter t zs) y ≡ true
passes_stay t y [] e j = absurd (cc)
passes_stay t y (x ∷ zs) e j = step (x == y) (t x) refl refl j (λ later. passes_stay t y zs e later)
  where
    step : (a b : Bool) → (x == y) ≡ a → t x ≡ b → (a || is_in zs y) ≡ true → (is_in zs y ≡ true → is_listed (filter t zs) y ≡ true) → is_listed (cond b (x ∷ filter t zs) (filter t zs)) y ≡ true
    step true true f g k more = ap (λ b. b || is_listed (filter t zs) y) f
    step true false f g k more = absurd (let h = ap t (eqb-true x y f) in cc)
    step false true f g k more = ap (λ b. b || is_listed (filter t zs) y) f ∙ more k
    step false false f g k more = more k

others_go : (t : ℕ → Bool) (y : ℕ) (zs : List ℕ) → t y ≡ false → is_listed (filter t zs) y ≡ false
others_go t y [] e = refl
others_go t y (x ∷ zs) e = step (t x) refl (others_go t y zs e)
  where
    step : (b : Bool) → t x ≡ b → is_listed (filter t zs) y ≡ false → is_listed (cond b (x ∷ filter t zs) (filter t zs)) y ≡ false
    step false g more = more
    step true g more = ap (λ b. b || is_listed (filter t zs) y) (ne_eqb x y (λ same. (let h = ap t same in cc))) ∙ more

-- a number of a range is among those that pass exactly if it passes
pub listed_passes : (t : ℕ → Bool) (n y : ℕ) → y < n → is_listed (filter t (range_with_len 0 n)) y ≡ t y
listed_passes t n y low = by (t y) refl
  where
    by : (b : Bool) → t y ≡ b → is_listed (filter t (range_with_len 0 n)) y ≡ t y
    by true e = passes_stay t y (range_with_len 0 n) e (in_range 0 n y (omega arith) (omega (arith, low))) ∙ sym e
    by false e = others_go t y (range_with_len 0 n) e ∙ sym e
