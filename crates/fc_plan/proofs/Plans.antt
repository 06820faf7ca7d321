-- Plans: a choice of parts, in their order.
use Rattle.std.proofs.Common.{◌≡◌, ◌<◌, ◌≤◌, ℕ, zero, suc, true, cond, List, [], ◌∷◌, length, get_or, All, Contains, inl, inr, refl, sym, ◌∙◌, arith}
use Rattle.std.specs.List.{AllByRecursion}
use Rattle.std.specs.List.Sorted.{IsPermutation, IsSortedByKey}
use Rattle.std.proofs.lemmas.List.Elements.{All-contains, All-from_recursion, recursion_from_All}
use Rattle.std.proofs.lemmas.List.Sorted.{All-permutation, length_permutation, sum_by-IsPermutation}
use Rattle.fc_record.specs.declared.Geometry.{Geometry}
use Rattle.fc_newmap.specs.Map.{ZoneRun, bits_in}
use Rattle.fc_newmap.specs.NewMap.{IsOfRecord}
use Rattle.fc_newmap.proofs.HeldLemmas.{geometry_facts, shape_fits}
use Rattle.std.proofs.lemmas.List.{length-replicate}
use Rattle.std.specs.Prelude.{replicate, ◌%◌}
use Rattle.fc_image.specs.effects.Placed.{BeginsBefore, HasRunLength, IsPlan, IsTaken, holes_left, stands_at}
use Rattle.fc_plan.specs.Plan.{AreApart, AreFreeRuns, AreParts, IsChoice, IsFreeRun, IsFrontOfOne, left_of_both}
use Rattle.fc_plan.proofs.MapLemmas.{count_at, count_here, count_other}
use Rattle.fc_plan.proofs.Left.{count_at-positive}
use Rattle.fc_plan.proofs.Taken.{stands_at-same}
use Rattle.fc_plan.proofs.Pairs.{pair_cmp}
use Rattle.fc_plan.proofs.Order.{Rising, StandsIn, are_fronts, begins_at, elsewhere, free_apart, left-free, left_is, not_both, place_key, rising_by_place, rising_of, stands_in, weaken_all}
use Rattle.std.proofs.lemmas.Bool.{cases_Bool as either_test}

pub taken_moved : (g : Geometry) (holes : List ZoneRun) (bits : ℕ) (parts ordered : List ZoneRun) → IsPermutation parts ordered → IsTaken g holes bits parts → IsTaken g holes bits ordered
taken_moved g holes bits parts ordered moved taken =
    let same : bits_in ordered ≡ bits_in parts = sum_by-IsPermutation (λ (p : ZoneRun). p.1.len) parts ordered moved in
    let count : length ordered ≡ length parts = length_permutation parts ordered moved in
    record {
      fronts = All-permutation (IsFrontOfOne g holes) parts ordered moved taken.fronts;
      enough = rw same taken.enough;
      few_more = rw same taken.few_more;
      fewest = rw count taken.fewest;
    }

-- a front is no longer than its hole
pub lens_low : (g : Geometry) (holes parts : List ZoneRun) → AllByRecursion (IsFreeRun g) holes → All (IsFrontOfOne g holes) parts → All (λ (p : ZoneRun). p.1.len ≤ 8192) parts
lens_low g holes parts free fronts k d in' =
    let front = fronts k d in' in
    let low = (All-contains (IsFreeRun g) holes front.0 (All-from_recursion (IsFreeRun g) holes free) front.1).low in
    let within = front.2.within in
    omega arith

-- the parts of a choice in the order of their places
pub plan_of : (g : Geometry) (holes : List ZoneRun) (bits : ℕ) (parts ordered : List ZoneRun) → 0 < g.min → AreFreeRuns g holes → IsChoice g holes bits parts
    → IsPermutation parts ordered → IsSortedByKey place_key pair_cmp ordered → IsPlan g holes bits ordered
plan_of g holes bits parts ordered some free choice moved sorted =
    let apart : AreApart ordered = λ place. (
    let count : count_at place ordered ≡ count_at place parts = sum_by-IsPermutation (λ (q : ZoneRun). cond (stands_at place q) 1 0) parts ordered moved in
    let once = choice.cut.once place in
    let one = free_apart g holes some free place in
    omega arith) in
    record {
      taken = taken_moved g holes bits parts ordered moved choice.taken;
      long = All-permutation (HasRunLength g) parts ordered moved choice.cut.long;
      rising = rising_by_place ordered sorted apart;
    }

-- ---- a plan can be cut

none_later : (place p : ZoneRun) (ps : List ZoneRun) → stands_at place p ≡ true → AllByRecursion (BeginsBefore p) ps → count_at place ps ≡ 0
none_later place p [] here a = refl
none_later place p (q ∷ ps) here a =
    count_other place q ps (elsewhere place q (λ there. not_both place q there (begins_at place p q here a.0))) ∙ none_later place p ps here a.1

pub rising_apart : (ps : List ZoneRun) → Rising ps → AreApart ps
rising_apart [] a place = omega arith
rising_apart (p ∷ ps) a place = elim (either_test (stands_at place p)) [
  | inl here ↦ (let none = none_later place p ps here a.0 in omega (arith, count_here place p ps here))
  | inr other ↦ (let one = rising_apart ps a.1 place in omega (arith, count_other place p ps other))
]

counted : (place : ZoneRun) (ps : List ZoneRun) → 1 ≤ count_at place ps → (p : ZoneRun) × Contains ps p × (stands_at place p ≡ true)
counted place [] some = absurd (omega arith)
counted place (p ∷ ps) some = elim (either_test (stands_at place p)) [
  | inl here ↦ (p, (zero, omega arith, refl), here)
  | inr other ↦ (let rest = counted place ps (omega (arith, count_other place p ps other)) in (rest.0, (suc rest.1.0, omega (arith, rest.1.1), rest.1.2), rest.2))
]

pub once_of : (g : Geometry) (holes parts : List ZoneRun) → All (IsFrontOfOne g holes) parts → AreApart parts → (place : ZoneRun) → count_at place parts ≤ count_at place holes
once_of g holes parts fronts apart place = go (count_at place parts) refl
  where
    go : (n : ℕ) → count_at place parts ≡ n → n ≤ count_at place holes
    go zero e = omega arith
    go (suc n) e =
        let one = apart place in
        let at = counted place parts (omega arith) in
        let f = All-contains (IsFrontOfOne g holes) parts at.0 fronts at.1 in
        let there : stands_at place f.0 ≡ true = sym (stands_at-same place f.0 at.0 f.2.at_front) ∙ at.2 in
        let some = count_at-positive place f.0 holes f.1 there in
        omega arith

pub cut_of_plan : (g : Geometry) (holes : List ZoneRun) (bits : ℕ) (parts : List ZoneRun) → IsPlan g holes bits parts → AreParts g holes parts
cut_of_plan g holes bits parts plan = record {
  fronts = plan.taken.fronts;
  once = once_of g holes parts plan.taken.fronts (rising_apart parts (rising_of parts plan.rising));
  long = plan.long;
}

-- ---- what parts leave

module _ (g : Geometry) (holes parts : List ZoneRun) (some : 0 < g.min) (free : AreFreeRuns g holes) (fronts : All (IsFrontOfOne g holes) parts) where
  pub left_by_parts : Rising parts → left_of_both holes parts ≡ holes_left holes parts
  left_by_parts rising =
      sym (left_is holes parts (weaken_all (IsFreeRun g) (λ (p : ZoneRun). 0 < p.1.len) (λ p f. let long = f.long.0 in omega arith) holes free.each) free.order rising
      (recursion_from_All (StandsIn holes) parts (λ k d in'. let f = fronts k d in' in stands_in holes f.0 (get_or parts k d) f.1 f.2.at_front)))

  pub parts_leave_free : All (HasRunLength g) parts → AreFreeRuns g (left_of_both holes parts)
  parts_leave_free long =
      let h = left-free g holes parts (are_fronts g holes parts (free_apart g holes some free) fronts) (recursion_from_All (HasRunLength g) parts long) free.each free.order in
      record { each = h.0; order = h.1 }

module _ (g : Geometry) (holes parts : List ZoneRun) (some : 0 < g.min) (free : AreFreeRuns g holes) (bits : ℕ) (plan : IsPlan g holes bits parts) where
  pub left_of_plan : left_of_both holes parts ≡ holes_left holes parts
  left_of_plan = left_by_parts g holes parts some free plan.taken.fronts (rising_of parts plan.rising)

  pub left_is_free : AreFreeRuns g (left_of_both holes parts)
  left_is_free = parts_leave_free g holes parts some free plan.taken.fronts plan.long

-- ---- the shortest run

pub min_whole : (g : Geometry) → IsOfRecord g → g.min % g.q ≡ 0
min_whole g of =
    let some = (geometry_facts g of).zones in
    (shape_fits g 0 (replicate g.sector 0) of (omega arith) (length-replicate g.sector 0)).least_whole

pub min_some : (g : Geometry) → IsOfRecord g → 0 < g.min
min_some g of =
    let some = (geometry_facts g of).zones in
    let room = (shape_fits g 0 (replicate g.sector 0) of (omega arith) (length-replicate g.sector 0)).least_room in
    omega arith
