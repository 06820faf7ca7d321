-- Holes and parts in their order: those of a map rise, and so do those that parts leave.
use Rattle.std.proofs.Common.{◌≡◌, ◌<◌, ◌≤◌, ◌⊎◌, ◌==◌, ℕ, zero, suc, ◌+◌, ◌-◌, Bool, true, false, cond, List, [], ◌∷◌, ◌++◌, length, get_or, All, Contains, Option, Some, None, refl, sym, ap, ap₂, ◌∙◌, inl, inr, arith, subst}
use Rattle.std.specs.Prelude.{AllPairs, IfSome, drop, filter}
use Rattle.std.proofs.lemmas.List.{append_assoc}
use Rattle.std.specs.List.{AllByRecursion, find, range_with_len}
use Rattle.std.specs.List.Sorted.{IsSortedByKey}
use Rattle.std.proofs.lemmas.Bool.{and_parts, cases_order, cond_both, eqb-true, eq-eqb, and_from, cases_Bool as either_test}
use Rattle.std.proofs.lemmas.List.Elements.{All-head, All-tail, Contains-get_or, recursion_from_All}
use Rattle.fc_bytes.specs.Bits.{bits}
use Rattle.fc_record.specs.declared.Geometry.{Geometry}
use Rattle.fc_record.specs.Record.{first_bit, end_bit}
use Rattle.fc_zone.specs.declared.Run.{Run}
use Rattle.fc_zone.specs.Zone.{Spells}
use Rattle.fc_newmap.specs.Map.{Map, ZoneRun, all_runs, hole_runs, is_hole, runs_in, runs_of, sector_of, shape}
use Rattle.fc_newmap.specs.NewMap.{IsNewMap}
use Rattle.fc_newmap.specs.RunsLaw.{placed}
use Rattle.fc_image.specs.effects.Placed.{BeginsBefore, HasRunLength, IsFront, holes_left, left_behind, stands_at}
use Rattle.fc_plan.specs.Plan.{AreApart, AreFreeRuns, AreInOrder, EndsBefore, IsFreeRun, IsFrontOfOne, first_at, left_of_both, rest_at}
use Rattle.fc_plan.proofs.MapLemmas.{count_at, count_at-cons, count_here, count_other, holes_placed}
use Rattle.fc_plan.proofs.Pairs.{in_order, pair_cmp}
use Rattle.fc_plan.proofs.Left.{count_at-positive, end_low, left_behind-long, rest_of, same_hole, left_of_none as left_nothing}
use Rattle.fc_plan.proofs.Taken.{stands_at-same}

-- ---- by recursion

pub both_all : {X : Type 0} (P : X → Type 0) (xs ys : List X) → AllByRecursion P xs → AllByRecursion P ys → AllByRecursion P (xs ++ ys)
both_all P [] ys a b = b
both_all P (x ∷ xs) ys a b = (a.0, both_all P xs ys a.1 b)

pub weaken_all : {X : Type 0} (P Q : X → Type 0) → ((x : X) → P x → Q x) → (xs : List X) → AllByRecursion P xs → AllByRecursion Q xs
weaken_all P Q f [] a = tt
weaken_all P Q f (x ∷ xs) a = (f x a.0, weaken_all P Q f xs a.1)

pub of_all : {X : Type 0} (P : X → Type 0) → ((x : X) → P x) → (xs : List X) → AllByRecursion P xs
of_all P f [] = tt
of_all P f (x ∷ xs) = (f x, of_all P f xs)

pub filter_all : {X : Type 0} (P : X → Type 0) (t : X → Bool) (xs : List X) → AllByRecursion P xs → AllByRecursion P (filter t xs)
filter_all P t [] a = tt
filter_all P t (x ∷ xs) a = cond_both (t x) (x ∷ filter t xs) (filter t xs) (AllByRecursion P) (λ e. (a.0, filter_all P t xs a.1)) (λ e. filter_all P t xs a.1)

-- ---- the order of a map's runs

order-append : (xs ys : List ZoneRun) → AreInOrder xs → AreInOrder ys → AllByRecursion (λ (x : ZoneRun). AllByRecursion (EndsBefore x) ys) xs → AreInOrder (xs ++ ys)
order-append [] ys a b c = b
order-append (x ∷ xs) ys a b c = (both_all (EndsBefore x) xs ys a.0 c.0, order-append xs ys a.1 b c.1)

pub order-filter : (t : ZoneRun → Bool) (xs : List ZoneRun) → AreInOrder xs → AreInOrder (filter t xs)
order-filter t [] a = tt
order-filter t (x ∷ xs) a =
    cond_both (t x) (x ∷ filter t xs) (filter t xs) AreInOrder
    (λ e. (filter_all (EndsBefore x) t xs a.0, order-filter t xs a.1))
    (λ e. order-filter t xs a.1)

module _ (g : Geometry) (z : ℕ) (bs : List ℕ) where
  ends_before_all : (p : ZoneRun) (runs : List Run) (at end : ℕ) → p.0 ≡ z → p.1.start + p.1.len ≤ at → Spells (shape g z) bs at runs end → AllByRecursion (EndsBefore p) (placed z runs)
  ends_before_all p [] at end here low h = tt
  ends_before_all p (run ∷ runs) at end here low h =
      let start = h.0 in
      (inr (here, omega arith), ends_before_all p runs (at + run.len) end here (omega arith) h.3)

  zone_order : (runs : List Run) (at end : ℕ) → Spells (shape g z) bs at runs end → AreInOrder (placed z runs)
  zone_order [] at end h = tt
  zone_order (run ∷ runs) at end h =
      let start = h.0 in
      let p : ZoneRun = (z, run) in
      (ends_before_all p runs (at + run.len) end refl (omega arith) h.3, zone_order runs (at + run.len) end h.3)

zone_is : (z : ℕ) (runs : List Run) → AllByRecursion (λ (p : ZoneRun). p.0 ≡ z) (placed z runs)
zone_is z [] = tt
zone_is z (run ∷ runs) = (refl, zone_is z runs)

zones_above : (m : Map) (n z low : ℕ) → low < z → AllByRecursion (λ (p : ZoneRun). low < p.0) (runs_in m (range_with_len z n))
zones_above m zero z low h = tt
zones_above m (suc zero) z low h =
    both_all (λ (p : ZoneRun). low < p.0) (placed z (runs_of m z)) [] (weaken_all (λ (p : ZoneRun). p.0 ≡ z) (λ (p : ZoneRun). low < p.0) (λ p e. omega arith) (placed z (runs_of m z)) (zone_is z (runs_of m z))) tt
zones_above m (suc (suc n)) z low h =
    both_all (λ (p : ZoneRun). low < p.0) (placed z (runs_of m z)) (runs_in m (range_with_len (z + 1) (suc n)))
    (weaken_all (λ (p : ZoneRun). p.0 ≡ z) (λ (p : ZoneRun). low < p.0) (λ p e. omega arith) (placed z (runs_of m z)) (zone_is z (runs_of m z)))
    (zones_above m (suc n) (z + 1) low (omega arith))

zones_order : (m : Map) → IsNewMap m → (n z : ℕ) → z + n ≤ m.geometry.zones → AreInOrder (runs_in m (range_with_len z n))
zones_order m is zero z fits = tt
zones_order m is (suc zero) z fits =
    order-append (placed z (runs_of m z)) []
    (zone_order m.geometry z (bits (sector_of m z)) (runs_of m z) (first_bit z) (end_bit m.geometry z) (is.right z (omega arith)).spelled) tt
    (of_all (λ (x : ZoneRun). AllByRecursion (EndsBefore x) []) (λ x. tt) (placed z (runs_of m z)))
zones_order m is (suc (suc n)) z fits =
    order-append (placed z (runs_of m z)) (runs_in m (range_with_len (z + 1) (suc n)))
    (zone_order m.geometry z (bits (sector_of m z)) (runs_of m z) (first_bit z) (end_bit m.geometry z) (is.right z (omega arith)).spelled)
    (zones_order m is (suc n) (z + 1) (omega arith))
    (weaken_all (λ (p : ZoneRun). p.0 ≡ z) (λ (x : ZoneRun). AllByRecursion (EndsBefore x) (runs_in m (range_with_len (z + 1) (suc n))))
    (λ x e. weaken_all (λ (p : ZoneRun). z < p.0) (EndsBefore x) (λ p lt. inl (omega arith)) (runs_in m (range_with_len (z + 1) (suc n))) (zones_above m (suc n) (z + 1) z (omega arith)))
    (placed z (runs_of m z)) (zone_is z (runs_of m z)))

-- the holes of a map rise, and each has a length that a run may have
pub map_holes-free : (m : Map) → IsNewMap m → AreFreeRuns m.geometry (hole_runs m)
map_holes-free m is = record {
  each = recursion_from_All (IsFreeRun m.geometry) (hole_runs m) (λ k d in'.
      let h = holes_placed m is k d in' in
      record { long = h.long; low = end_low m.geometry (get_or (hole_runs m) k d) is.of_record h.in_zone });
  order = order-filter (λ p. is_hole p.1.kind) (all_runs m) (zones_order m is m.geometry.zones 0 (omega arith));
}

-- ---- places

-- two that stand at one place
pub same_place : (p q : ZoneRun) → stands_at p q ≡ true → (p.0 ≡ q.0) × (p.1.start ≡ q.1.start)
same_place p q e =
    let h = and_parts (p.0 == q.0) (p.1.start == q.1.start) e in
    (eqb-true p.0 q.0 h.0, eqb-true p.1.start q.1.start h.1)

pub ends_then_begins : (p q : ZoneRun) → 0 < p.1.len → EndsBefore p q → BeginsBefore p q
ends_then_begins p q some (inl low) = inl low
ends_then_begins p q some (inr (same, low)) = inr (same, omega arith)

pub begins_then : (p q r : ZoneRun) → BeginsBefore p q → BeginsBefore q r → BeginsBefore p r
begins_then p q r (inl a) (inl b) = inl (omega arith)
begins_then p q r (inl a) (inr (e, b)) = inl (omega arith)
begins_then p q r (inr (e, a)) (inl b) = inl (omega arith)
begins_then p q r (inr (e, a)) (inr (f, b)) = inr (e ∙ f, omega arith)

pub begins_at : (p q r : ZoneRun) → stands_at p q ≡ true → BeginsBefore q r → BeginsBefore p r
begins_at p q r e (inl a) = let h = same_place p q e in inl (omega (arith, h.0))
begins_at p q r e (inr (f, a)) = let h = same_place p q e in inr (h.0 ∙ f, omega (arith, h.1))

pub begins_until : (p q r : ZoneRun) → stands_at q r ≡ true → BeginsBefore p q → BeginsBefore p r
begins_until p q r e (inl a) = let h = same_place q r e in inl (omega (arith, h.0))
begins_until p q r e (inr (f, a)) = let h = same_place q r e in inr (f ∙ h.0, omega (arith, h.1))

pub not_both : (p q : ZoneRun) → stands_at p q ≡ true → BeginsBefore p q → ⊥
not_both p q e (inl a) = let h = same_place p q e in omega (arith, h.0)
not_both p q e (inr (f, a)) = let h = same_place p q e in omega (arith, h.1)

pub not_both_turned : (p q : ZoneRun) → stands_at q p ≡ true → BeginsBefore p q → ⊥
not_both_turned p q e (inl a) = let h = same_place q p e in omega (arith, h.0)
not_both_turned p q e (inr (f, a)) = let h = same_place q p e in omega (arith, h.1)

pub elsewhere : (p q : ZoneRun) → (stands_at p q ≡ true → ⊥) → stands_at p q ≡ false
elsewhere p q never = elim (either_test (stands_at p q)) [
  | inl here ↦ absurd (never here)
  | inr e ↦ e
]

-- ---- at most one begins at a place

none_after : (place p : ZoneRun) (rest : List ZoneRun) → 0 < p.1.len → stands_at place p ≡ true → AllByRecursion (EndsBefore p) rest → count_at place rest ≡ 0
none_after place p [] some here a = refl
none_after place p (q ∷ rest) some here a =
    count_other place q rest (elsewhere place q (λ there.
    (let h = same_place place p here in let k = same_place place q there in not_both p q (and_from (p.0 == q.0) (p.1.start == q.1.start) (eq-eqb p.0 q.0 (sym h.0 ∙ k.0)) (eq-eqb p.1.start q.1.start (sym h.1 ∙ k.1))) (ends_then_begins p q some a.0))))
    ∙ none_after place p rest some here a.1

pub order-apart : (xs : List ZoneRun) → AllByRecursion (λ (p : ZoneRun). 0 < p.1.len) xs → AreInOrder xs → AreApart xs
order-apart [] some a place = omega arith
order-apart (p ∷ xs) some a place = elim (either_test (stands_at place p)) [
  | inl here ↦ (let none = none_after place p xs some.0 here a.0 in omega (arith, count_here place p xs here))
  | inr other ↦ (let one = order-apart xs some.1 a.1 place in omega (arith, count_other place p xs other))
]

pub free_apart : (g : Geometry) (holes : List ZoneRun) → 0 < g.min → AreFreeRuns g holes → AreApart holes
free_apart g holes some free = order-apart holes (weaken_all (IsFreeRun g) (λ (p : ZoneRun). 0 < p.1.len) (λ p f. let long = f.long.0 in omega arith) holes free.each) free.order

-- ---- parts that rise

abbrev pub Rising : List ZoneRun → Type 0
Rising [] = Unit {0}
Rising (p ∷ ps) = AllByRecursion (BeginsBefore p) ps × Rising ps

pub rising_of : (ps : List ZoneRun) → AllPairs BeginsBefore ps → Rising ps
rising_of [] pairs = tt
rising_of (p ∷ ps) pairs = (
  recursion_from_All (BeginsBefore p) ps (λ k d in'. pairs 0 (suc k) d (omega arith) (omega arith)),
  rising_of ps (λ i j d lt in'. pairs (suc i) (suc j) d (omega arith) (omega arith)),
)

two_at : (place : ZoneRun) (xs : List ZoneRun) (i j : ℕ) (d : ZoneRun) → i < j → j < length xs → stands_at place (get_or xs i d) ≡ true → stands_at place (get_or xs j d) ≡ true → 2 ≤ count_at place xs
two_at place [] i j d lt in' a b = absurd (omega arith)
two_at place (x ∷ xs) i zero d lt in' a b = absurd (omega arith)
two_at place (x ∷ xs) zero (suc j) d lt in' a b =
    let more = count_at-positive place (get_or xs j d) xs (Contains-get_or xs j d (omega arith)) b in
    omega (arith, count_here place x xs a)
two_at place (x ∷ xs) (suc i) (suc j) d lt in' a b =
    let more = two_at place xs i j d (omega arith) (omega arith) a b in
    omega (arith, count_at-cons place x xs)

-- by zone, and then by the place where a part begins
abbrev pub place_key : ZoneRun → ℕ × ℕ
place_key p = (p.0, p.1.start)

pub rising_by_place : (xs : List ZoneRun) → IsSortedByKey place_key pair_cmp xs → AreApart xs → AllPairs BeginsBefore xs
rising_by_place xs sorted apart i j d lt in' =
    let p = get_or xs i d in
    let q = get_or xs j d in
    let order : (p.0 ≤ q.0) × (q.0 ≡ p.0 → p.1.start ≤ q.1.start) = in_order place_key xs sorted i j d (omega arith) in' in
    elim (cases_order p.0 q.0) [
      | inr (inl less) ↦ inl less
      | inr (inr more) ↦ absurd (omega (arith, order.0, more))
      | inl same ↦ elim (cases_order p.1.start q.1.start) [
        | inr (inl less) ↦ inr (same, less)
        | inr (inr more) ↦ absurd (omega (arith, order.1 (sym same), more))
        | inl alike ↦
            absurd (
            let here : stands_at p p ≡ true = and_from (p.0 == p.0) (p.1.start == p.1.start) (eq-eqb p.0 p.0 refl) (eq-eqb p.1.start p.1.start refl) in
            let there : stands_at p q ≡ true = and_from (p.0 == q.0) (p.1.start == q.1.start) (eq-eqb p.0 q.0 same) (eq-eqb p.1.start q.1.start alike) in
            let two = two_at p xs i j d lt in' here there in
            let one = apart p in
            omega arith)
      ]
    ]

-- ---- both met in one walk

-- the part stands at one of the holes
abbrev pub StandsIn : List ZoneRun → ZoneRun → Type 0
StandsIn [] p = ⊥
StandsIn (hole ∷ holes) p = (stands_at hole p ≡ true) ⊎ StandsIn holes p

pub stands_in : (holes : List ZoneRun) (hole p : ZoneRun) → Contains holes hole → stands_at hole p ≡ true → StandsIn holes p
stands_in [] hole p (k, in', e) test = absurd (omega arith)
stands_in (h ∷ holes) hole p (zero, in', e) test = let same : h ≡ hole = e in inl (ap (λ (x : ZoneRun). stands_at x p) same ∙ test)
stands_in (h ∷ holes) hole p (suc k, in', e) test = inr (stands_in holes hole p (k, omega arith, e) test)

pub later_than : (h p : ZoneRun) (holes : List ZoneRun) → 0 < h.1.len → AllByRecursion (EndsBefore h) holes → StandsIn holes p → BeginsBefore h p
later_than h p [] some a s = absurd s
later_than h p (k ∷ holes) some a (inl here) = begins_until h k p here (ends_then_begins h k some a.0)
later_than h p (k ∷ holes) some a (inr more) = later_than h p holes some a.1 more

pub find_nothing : (t : ZoneRun → Bool) (ps : List ZoneRun) → AllByRecursion (λ (p : ZoneRun). t p ≡ false) ps → find t ps ≡ None
find_nothing t [] a = refl
find_nothing t (p ∷ ps) a = ap (λ (b : Bool). cond b (Some p) (find t ps)) a.0 ∙ find_nothing t ps a.1

-- at holes where no part more stands nothing changes
left_without : (part : ZoneRun) (parts holes : List ZoneRun) → AllByRecursion (λ (h : ZoneRun). stands_at h part ≡ false) holes → holes_left holes (part ∷ parts) ≡ holes_left holes parts
left_without part parts [] a = refl
left_without part parts (h ∷ holes) a =
    ap₂ (λ (b : Bool) (rest : List ZoneRun). left_behind h (cond b (Some part) (find (stands_at h) parts)) ++ rest) a.0 (left_without part parts holes a.1)

abbrev pub ArePositive : List ZoneRun → Type 0
ArePositive holes = AllByRecursion (λ (p : ZoneRun). 0 < p.1.len) holes

pub left_is : (holes parts : List ZoneRun) → ArePositive holes → AreInOrder holes → Rising parts → AllByRecursion (StandsIn holes) parts → holes_left holes parts ≡ left_of_both holes parts
left_is [] parts some order rising among = refl
left_is (h ∷ holes) [] some order rising among = left_nothing (h ∷ holes)
left_is (h ∷ holes) (p ∷ ps) some order rising among =
    go (stands_at h p) refl (left_is holes ps some.1 order.1 rising.1) (left_is holes (p ∷ ps) some.1 order.1 rising)
  where
    go : (b : Bool) → stands_at h p ≡ b
        → (AllByRecursion (StandsIn holes) ps → holes_left holes ps ≡ left_of_both holes ps)
        → (AllByRecursion (StandsIn holes) (p ∷ ps) → holes_left holes (p ∷ ps) ≡ left_of_both holes (p ∷ ps))
        → left_behind h (cond b (Some p) (find (stands_at h) ps)) ++ holes_left holes (p ∷ ps) ≡ cond b (left_behind h (Some p) ++ left_of_both holes ps) (h ∷ left_of_both holes (p ∷ ps))
    go true here taken passed =
        let away : AllByRecursion (λ (k : ZoneRun). stands_at k p ≡ false) holes =
        weaken_all (EndsBefore h) (λ (k : ZoneRun). stands_at k p ≡ false)
        (λ k before. elsewhere k p (λ there. not_both_turned h k (let a = same_place h p here in let b = same_place k p there in and_from (k.0 == h.0) (k.1.start == h.1.start) (eq-eqb k.0 h.0 (b.0 ∙ sym a.0)) (eq-eqb k.1.start h.1.start (b.1 ∙ sym a.1))) (ends_then_begins h k some.0 before)))
        holes order.0 in
        let behind : AllByRecursion (StandsIn holes) ps = keep ps rising.0 among.1 in
        ap (λ (rest : List ZoneRun). left_behind h (Some p) ++ rest) (left_without p ps holes away ∙ taken behind)
      where
        keep : (qs : List ZoneRun) → AllByRecursion (BeginsBefore p) qs → AllByRecursion (StandsIn (h ∷ holes)) qs → AllByRecursion (StandsIn holes) qs
        keep [] a b = tt
        keep (q ∷ qs) a (inl at_h, b) = absurd (not_both h q at_h (begins_at h p q here a.0))
        keep (q ∷ qs) a (inr more, b) = (more, keep qs a.1 b)
    go false away taken passed =
        let first : StandsIn holes p = drop_first among.0 in
        let after : BeginsBefore h p = later_than h p holes some.0 order.0 first in
        let none : find (stands_at h) ps ≡ None =
        find_nothing (stands_at h) ps
        (weaken_all (BeginsBefore p) (λ (q : ZoneRun). stands_at h q ≡ false) (λ q b. elsewhere h q (λ at_h. not_both h q at_h (begins_then h p q after b))) ps rising.0) in
        let others : AllByRecursion (StandsIn holes) (p ∷ ps) = (first, keep ps rising.0 among.1 after) in
        ap₂ (λ (o : Option ZoneRun) (rest : List ZoneRun). left_behind h o ++ rest) none (passed others)
      where
        drop_first : StandsIn (h ∷ holes) p → StandsIn holes p
        drop_first (inl at_h) = absurd (cc)
        drop_first (inr more) = more

        keep : (qs : List ZoneRun) → AllByRecursion (BeginsBefore p) qs → AllByRecursion (StandsIn (h ∷ holes)) qs → BeginsBefore h p → AllByRecursion (StandsIn holes) qs
        keep [] a b after = tt
        keep (q ∷ qs) a (inl at_h, b) after = absurd (not_both h q at_h (begins_then h p q after a.0))
        keep (q ∷ qs) a (inr more, b) after = (more, keep qs a.1 b after)

-- ---- what is left rises

-- each part is the front of the hole at which it stands
abbrev pub AreFronts : Geometry → List ZoneRun → List ZoneRun → Type 0
AreFronts g holes parts = AllByRecursion (λ (h : ZoneRun). AllByRecursion (λ (p : ZoneRun). stands_at h p ≡ true → IsFront g h p) parts) holes

pub are_fronts : (g : Geometry) (holes parts : List ZoneRun) → AreApart holes → All (IsFrontOfOne g holes) parts → AreFronts g holes parts
are_fronts g holes parts apart fronts =
    recursion_from_All (λ (h : ZoneRun). AllByRecursion (λ (p : ZoneRun). stands_at h p ≡ true → IsFront g h p) parts) holes
    (λ k d in'. let h = get_or holes k d in
    recursion_from_All (λ (p : ZoneRun). stands_at h p ≡ true → IsFront g h p) parts
    (λ i e below there. let p = get_or parts i e in let f = fronts i e below in
    let at : stands_at h f.0 ≡ true = sym (stands_at-same h f.0 p f.2.at_front) ∙ there in
    let same : h ≡ f.0 = same_hole holes h f.0 (apart h) (Contains-get_or holes k d in') f.1 at in
    subst (λ (x : ZoneRun). IsFront g x p) (sym same) f.2))

before_rest : (x h p : ZoneRun) → EndsBefore x h → AllByRecursion (EndsBefore x) (left_behind h (Some p))
before_rest x h p before =
    cond_both (p.1.len == h.1.len) [] (rest_of h p ∷ []) (AllByRecursion (EndsBefore x)) (λ e. tt) (λ e. (go before, tt))
  where
    go : EndsBefore x h → EndsBefore x (rest_of h p)
    go (inl low) = inl low
    go (inr (same, low)) = inr (same, omega arith)

before_left : (x : ZoneRun) (holes parts : List ZoneRun) → AllByRecursion (EndsBefore x) holes → AllByRecursion (EndsBefore x) (left_of_both holes parts)
before_left x [] parts a = tt
before_left x (h ∷ holes) [] a = a
before_left x (h ∷ holes) (p ∷ ps) a =
    cond_both (stands_at h p) (left_behind h (Some p) ++ left_of_both holes ps) (h ∷ left_of_both holes (p ∷ ps)) (AllByRecursion (EndsBefore x))
    (λ e. both_all (EndsBefore x) (left_behind h (Some p)) (left_of_both holes ps) (before_rest x h p a.0) (before_left x holes ps a.1))
    (λ e. (a.0, before_left x holes (p ∷ ps) a.1))

rest_before : (h p : ZoneRun) (holes : List ZoneRun) → p.1.len ≤ h.1.len → AllByRecursion (EndsBefore h) holes → AllByRecursion (EndsBefore (rest_of h p)) holes
rest_before h p holes within a = weaken_all (EndsBefore h) (EndsBefore (rest_of h p)) (λ q b. go q b) holes a
  where
    go : (q : ZoneRun) → EndsBefore h q → EndsBefore (rest_of h p) q
    go q (inl low) = inl low
    go q (inr (same, low)) = inr (same, omega arith)

rest_free : (g : Geometry) (h p : ZoneRun) → IsFreeRun g h → HasRunLength g p → IsFront g h p → AllByRecursion (IsFreeRun g) (left_behind h (Some p))
rest_free g h p free long front =
    go (left_behind-long g h p free.long long front.rest)
  where
    low_rest : h.1.start + p.1.len + (h.1.len - p.1.len) ≤ 8192
    low_rest = let within = front.within in let low = free.low in omega arith

    go : All (HasRunLength g) (left_behind h (Some p)) → AllByRecursion (IsFreeRun g) (left_behind h (Some p))
    go all = by (p.1.len == h.1.len) all
      where
        by : (b : Bool) → All (HasRunLength g) (cond b [] (rest_of h p ∷ [])) → AllByRecursion (IsFreeRun g) (cond b [] (rest_of h p ∷ []))
        by true all = tt
        by false all = (record { long = All-head (HasRunLength g) (rest_of h p) [] all; low = low_rest }, tt)

pub left-free : (g : Geometry) (holes parts : List ZoneRun) → AreFronts g holes parts → AllByRecursion (HasRunLength g) parts
    → AllByRecursion (IsFreeRun g) holes → AreInOrder holes → AllByRecursion (IsFreeRun g) (left_of_both holes parts) × AreInOrder (left_of_both holes parts)
left-free g [] parts fronts long free order = (tt, tt)
left-free g (h ∷ holes) [] fronts long free order = (free, order)
left-free g (h ∷ holes) (p ∷ ps) fronts long free order =
    cond_both (stands_at h p) (left_behind h (Some p) ++ left_of_both holes ps) (h ∷ left_of_both holes (p ∷ ps)) (λ (xs : List ZoneRun). AllByRecursion (IsFreeRun g) xs × AreInOrder xs)
    (λ e. here e (left-free g holes ps (weaken_all (λ (k : ZoneRun). AllByRecursion (λ (q : ZoneRun). stands_at k q ≡ true → IsFront g k q) (p ∷ ps)) (λ (k : ZoneRun). AllByRecursion (λ (q : ZoneRun). stands_at k q ≡ true → IsFront g k q) ps) (λ k a. a.1) holes fronts.1) long.1 free.1 order.1))
    (λ e. let rest = left-free g holes (p ∷ ps) fronts.1 long free.1 order.1 in ((free.0, rest.0), (before_left h holes (p ∷ ps) order.0, rest.1)))
  where
    here : stands_at h p ≡ true → AllByRecursion (IsFreeRun g) (left_of_both holes ps) × AreInOrder (left_of_both holes ps)
        → AllByRecursion (IsFreeRun g) (left_behind h (Some p) ++ left_of_both holes ps) × AreInOrder (left_behind h (Some p) ++ left_of_both holes ps)
    here e rest =
        let front : IsFront g h p = fronts.0.0 e in (
          both_all (IsFreeRun g) (left_behind h (Some p)) (left_of_both holes ps) (rest_free g h p free.0 long.0 front) rest.0,
          cond_both (p.1.len == h.1.len) [] (rest_of h p ∷ []) (λ (xs : List ZoneRun). AreInOrder (xs ++ left_of_both holes ps))
              (λ same. rest.1)
              (λ other. (before_left (rest_of h p) holes ps (rest_before h p holes front.within order.0), rest.1)),
        )

-- ---- one step of the walk

left_of_none : (holes : List ZoneRun) → left_of_both holes [] ≡ holes
left_of_none [] = refl
left_of_none (h ∷ holes) = refl

left_step : (h : ZoneRun) (holes parts : List ZoneRun) → left_of_both (h ∷ holes) parts ≡ left_behind h (first_at h parts) ++ left_of_both holes (rest_at h parts)
left_step h holes [] = ap (λ (xs : List ZoneRun). h ∷ xs) (sym (left_of_none holes))
left_step h holes (p ∷ ps) = by (stands_at h p)
  where
    by : (b : Bool) → cond b (left_behind h (Some p) ++ left_of_both holes ps) (h ∷ left_of_both holes (p ∷ ps)) ≡ left_behind h (cond b (Some p) None) ++ left_of_both holes (cond b ps (p ∷ ps))
    by true = refl
    by false = refl

pub left_stepped : (holes parts left all : List ZoneRun) (i : ℕ) (h : ZoneRun) → drop i holes ≡ h ∷ drop (i + 1) holes → left ++ left_of_both (drop i holes) parts ≡ all
    → (left ++ left_behind h (first_at h parts)) ++ left_of_both (drop (i + 1) holes) (rest_at h parts) ≡ all
left_stepped holes parts left all i h e so_far =
    append_assoc left (left_behind h (first_at h parts)) (left_of_both (drop (i + 1) holes) (rest_at h parts))
    ∙ ap (λ (xs : List ZoneRun). left ++ xs) (sym (left_step h (drop (i + 1) holes) parts) ∙ ap (λ (hs : List ZoneRun). left_of_both hs parts) (sym e)) ∙ so_far

pub first_fits : (h : ZoneRun) (parts : List ZoneRun) → All (λ (p : ZoneRun). p.1.len ≤ 8192) parts → (o : Option ZoneRun) → first_at h parts ≡ o → IfSome o (λ p. p.1.len ≤ 8192)
first_fits h [] low o e = subst (λ (x : Option ZoneRun). IfSome x (λ p. p.1.len ≤ 8192)) e tt
first_fits h (p ∷ ps) low o e = subst (λ (x : Option ZoneRun). IfSome x (λ p. p.1.len ≤ 8192)) e (by (stands_at h p))
  where
    by : (b : Bool) → IfSome (cond b (Some p) None) (λ p. p.1.len ≤ 8192)
    by true = All-head (λ (q : ZoneRun). q.1.len ≤ 8192) p ps low
    by false = tt

pub rest_low : (h : ZoneRun) (parts : List ZoneRun) → All (λ (p : ZoneRun). p.1.len ≤ 8192) parts → All (λ (p : ZoneRun). p.1.len ≤ 8192) (rest_at h parts)
rest_low h [] low = low
rest_low h (p ∷ ps) low = cond_both (stands_at h p) ps (p ∷ ps) (All (λ (q : ZoneRun). q.1.len ≤ 8192)) (λ e. All-tail (λ (q : ZoneRun). q.1.len ≤ 8192) p ps low) (λ e. low)
