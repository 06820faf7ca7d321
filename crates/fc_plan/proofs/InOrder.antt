-- The runs that a plan's parts become, in the order in which they are looked for.
use Rattle.std.proofs.Common.{◌≡◌, ◌<◌, ◌≤◌, ◌&&◌, ◌==◌, ℕ, zero, suc, Bool, true, false, cond, List, [], ◌∷◌, ◌++◌, get_or, Contains, Option, Some, None, refl, sym, ap, ap₂, ◌∙◌, inl, inr, arith, eq-eqb}
use Rattle.std.specs.Prelude.{AllPairs, filter, ◌||◌}
use Rattle.std.specs.List.{AllByRecursion, find, flat_map, list_any}
use Rattle.std.proofs.lemmas.Bool.{and_left, eqb-true, ne_eqb, cases_Bool as either_test}
use Rattle.std.proofs.lemmas.List.{map-append}
use Rattle.std.proofs.lemmas.List.Concat.{flat_map-append}
use Rattle.std.proofs.lemmas.List.Elements.{All-contains, Contains-get_or, recursion_from_All}
use Rattle.std.proofs.lemmas.List.Kept.{AllPairs-filter}
use Rattle.fc_newmap.specs.Map.{Map, ZoneRun, all_runs, has_id, hole_runs, id_runs, is_hole, is_used, runs_in, runs_of, search_order}
use Rattle.fc_newmap.specs.NewMap.{IsNewMap}
use Rattle.fc_newmap.specs.RunsLaw.{placed}
use Rattle.fc_newmap.proofs.HeldLemmas.{geometry_facts}
use Rattle.fc_newmap.proofs.PlaceLemmas.{filter_in, id_run_in, in_back, in_filter, order_in}
use Rattle.fc_image.specs.effects.Placed.{BeginsBefore, stands_at}
use Rattle.fc_plan.specs.Plan.{AreInOrder, AreParts, EndsBefore, IsFreeRun, IsFrontOfOne}
use Rattle.fc_plan.specs.Taking.{as_runs, own_of, own_runs, part_taken, with_id}
use Rattle.fc_plan.proofs.MapLemmas.{count_at, count_other}
use Rattle.fc_plan.proofs.Takes.{stands_at-sym}
use Rattle.fc_plan.proofs.TakenRuns.{filter_as_map}
use Rattle.fc_plan.proofs.Ordered.{all_taken, is_free, none_taken, same_part, taken_of, taken_others}
use Rattle.fc_plan.proofs.Order.{ArePositive, Rising, StandsIn, begins_at, begins_then, elsewhere, ends_then_begins, filter_all, find_nothing, later_than, map_holes-free, not_both, not_both_turned, order-filter, rising_of, same_place, stands_in, weaken_all}
use Rattle.fc_plan.proofs.GivenRuns.{at_zone, in_zone}
use Rattle.fc_newmap.proofs.ZoneWalkLemmas.{shape_of_zone}
use Rattle.fc_device.specs.Numbers.{is_listed as is_in}
use Rattle.fc_zone.proofs.ZoneLemmas.{Contains-head as contains_here, Contains-tail as contains_later}

-- ---- holes and parts that both rise

none_at : (p : ZoneRun) (holes : List ZoneRun) → AllByRecursion (λ (k : ZoneRun). stands_at k p ≡ false) holes → count_at p holes ≡ 0
none_at p [] a = refl
none_at p (h ∷ holes) a = count_other p h holes (stands_at-sym p h ∙ a.0) ∙ none_at p holes a.1

taken_in_turn : (id : ℕ) (holes parts : List ZoneRun) → ArePositive holes → AreInOrder holes → Rising parts → AllByRecursion (StandsIn holes) parts → all_taken id parts holes ≡ as_runs id parts
taken_in_turn id holes [] some order rising among = none_taken id holes
taken_in_turn id [] (p ∷ ps) some order rising among = absurd among.0
taken_in_turn id (h ∷ holes) (p ∷ ps) some order rising among =
    go (stands_at h p) refl (taken_in_turn id holes ps some.1 order.1 rising.1) (taken_in_turn id holes (p ∷ ps) some.1 order.1 rising)
  where
    go : (b : Bool) → stands_at h p ≡ b
        → (AllByRecursion (StandsIn holes) ps → all_taken id ps holes ≡ as_runs id ps)
        → (AllByRecursion (StandsIn holes) (p ∷ ps) → all_taken id (p ∷ ps) holes ≡ as_runs id (p ∷ ps))
        → part_taken id h (cond b (Some p) (find (stands_at h) ps)) ++ all_taken id (p ∷ ps) holes ≡ as_runs id (p ∷ ps)
    go true here taken passed =
        let away : AllByRecursion (λ (k : ZoneRun). stands_at k p ≡ false) holes =
        weaken_all (EndsBefore h) (λ (k : ZoneRun). stands_at k p ≡ false)
        (λ k before. elsewhere k p (λ there. not_both_turned h k (let a = same_place h p here in let b = same_place k p there in and_both (eq-eqb k.0 h.0 (b.0 ∙ sym a.0)) (eq-eqb k.1.start h.1.start (b.1 ∙ sym a.1))) (ends_then_begins h k some.0 before)))
        holes order.0 in
        ap₂ (λ (x : ZoneRun) (xs : List ZoneRun). x ∷ xs) (same_part id h p here) (taken_others id p ps holes (none_at p holes away) ∙ taken (keep ps rising.0 among.1))
      where
        and_both : {a b : Bool} → a ≡ true → b ≡ true → (a && b) ≡ true
        and_both e f = ap₂ (λ (x y : Bool). x && y) e f

        keep : (qs : List ZoneRun) → AllByRecursion (BeginsBefore p) qs → AllByRecursion (StandsIn (h ∷ holes)) qs → AllByRecursion (StandsIn holes) qs
        keep [] a b = tt
        keep (q ∷ qs) a (inl at_h, b) = absurd (not_both h q at_h (begins_at h p q here a.0))
        keep (q ∷ qs) a (inr more, b) = (more, keep qs a.1 b)
    go false away taken passed =
        let first : StandsIn holes p = drop_first among.0 in
        let after : BeginsBefore h p = later_than h p holes some.0 order.0 first in
        let none : find (stands_at h) ps ≡ None =
        find_nothing (stands_at h) ps
        (weaken_all (BeginsBefore p) (λ (q : ZoneRun). stands_at h q ≡ false) (λ q b. elsewhere h q (λ at_h. not_both h q at_h (begins_then h p q after b))) ps rising.0) in
        let others : AllByRecursion (StandsIn holes) (p ∷ ps) = (first, keep ps rising.0 among.1 after) in
        ap (λ (o : Option ZoneRun). part_taken id h o ++ all_taken id (p ∷ ps) holes) none ∙ passed others
      where
        drop_first : StandsIn (h ∷ holes) p → StandsIn holes p
        drop_first (inl at_h) = absurd (cc)
        drop_first (inr more) = more

        keep : (qs : List ZoneRun) → AllByRecursion (BeginsBefore p) qs → AllByRecursion (StandsIn (h ∷ holes)) qs → BeginsBefore h p → AllByRecursion (StandsIn holes) qs
        keep [] a b after = tt
        keep (q ∷ qs) a (inl at_h, b) after = absurd (not_both h q at_h (begins_then h p q after a.0))
        keep (q ∷ qs) a (inr more, b) after = (more, keep qs a.1 b after)

-- ---- the parts of one zone

-- the part that is taken of a run, if that is a hole
abbrev pub part_of_run : ℕ → List ZoneRun → ZoneRun → List ZoneRun
part_of_run id parts p = cond (is_hole p.1.kind) (taken_of id parts p) []

found_in_zone : (z : ℕ) (p : ZoneRun) (parts : List ZoneRun) → p.0 ≡ z → find (stands_at p) parts ≡ find (stands_at p) (filter (at_zone z) parts)
found_in_zone z p [] e = refl
found_in_zone z p (q ∷ parts) e = elim (either_test (q.0 == z)) [
  | inl here ↦
      ap (λ (o : Option ZoneRun). cond (stands_at p q) (Some q) o) (found_in_zone z p parts e)
      ∙ ap (λ (b : Bool). find (stands_at p) (cond b (q ∷ filter (at_zone z) parts) (filter (at_zone z) parts))) (sym here)
  | inr other ↦
      ap (λ (b : Bool). cond b (Some q) (find (stands_at p) parts)) (and_left (p.0 == q.0) (p.1.start == q.1.start) (ne_eqb p.0 q.0 (λ same. (let no : true ≡ false = sym (eq-eqb q.0 z (sym same ∙ e)) ∙ other in cc))))
      ∙ found_in_zone z p parts e
      ∙ ap (λ (b : Bool). find (stands_at p) (cond b (q ∷ filter (at_zone z) parts) (filter (at_zone z) parts))) (sym other)
]

taken_in_zone : (id z : ℕ) (parts holes : List ZoneRun) → AllByRecursion (λ (p : ZoneRun). p.0 ≡ z) holes → all_taken id parts holes ≡ all_taken id (filter (at_zone z) parts) holes
taken_in_zone id z parts [] a = refl
taken_in_zone id z parts (h ∷ holes) a =
    ap₂ (λ (o : Option ZoneRun) (xs : List ZoneRun). part_taken id h o ++ xs) (found_in_zone z h parts a.0) (taken_in_zone id z parts holes a.1)

in_this_zone : (z : ℕ) (xs : List ZoneRun) → AllByRecursion (λ (p : ZoneRun). p.0 ≡ z) (filter (at_zone z) xs)
in_this_zone z [] = tt
in_this_zone z (x ∷ xs) = by (x.0 == z) refl (in_this_zone z xs)
  where
    by : (b : Bool) → (x.0 == z) ≡ b → AllByRecursion (λ (p : ZoneRun). p.0 ≡ z) (filter (at_zone z) xs) → AllByRecursion (λ (p : ZoneRun). p.0 ≡ z) (cond b (x ∷ filter (at_zone z) xs) (filter (at_zone z) xs))
    by true e h = (eqb-true x.0 z e, h)
    by false e h = h

module _ (m : Map) (is : IsNewMap m) (parts : List ZoneRun) (are : AreParts m.geometry (hole_runs m) parts) (rising : AllPairs BeginsBefore parts) (id : ℕ) where
  some : 1 ≤ m.geometry.zones
  some = (geometry_facts m.geometry is.of_record).zones

  zone_parts : (z : ℕ) → z < m.geometry.zones → flat_map (part_of_run id parts) (placed z (runs_of m z)) ≡ as_runs id (filter (at_zone z) parts)
  zone_parts z low =
      let here = filter (at_zone z) (hole_runs m) in
      let free = map_holes-free m is in
      let same : here ≡ filter is_free (placed z (runs_of m z)) = in_zone is_free m z m.geometry.zones 0 (omega arith) (omega arith) in
      let room = (shape_of_zone m z is low).least_room in
      let positive : ArePositive (hole_runs m) = weaken_all (IsFreeRun m.geometry) (λ (p : ZoneRun). 0 < p.1.len) (λ p f. (let long = f.long.0 in omega arith)) (hole_runs m) free.each in
      let among : AllByRecursion (StandsIn here) (filter (at_zone z) parts) =
      recursion_from_All (StandsIn here) (filter (at_zone z) parts)
      (λ k d in'. let q = get_or (filter (at_zone z) parts) k d in
      let chosen = filter_in (at_zone z) parts q (Contains-get_or (filter (at_zone z) parts) k d in') in
      let front = All-contains (IsFrontOfOne m.geometry (hole_runs m)) parts q are.fronts chosen.0 in
      let there = same_place front.0 q front.2.at_front in
      stands_in here front.0 q (in_filter (at_zone z) (hole_runs m) front.0 front.1 (eq-eqb front.0.0 z (there.0 ∙ eqb-true q.0 z chosen.1))) front.2.at_front) in
      filter_as_map is_free (taken_of id parts) (placed z (runs_of m z))
      ∙ ap (all_taken id parts) (sym same)
      ∙ taken_in_zone id z parts here (in_this_zone z (hole_runs m))
      ∙ taken_in_turn id here (filter (at_zone z) parts) (filter_all (λ (p : ZoneRun). 0 < p.1.len) (at_zone z) (hole_runs m) positive) (order-filter (at_zone z) (hole_runs m) free.order)
      (rising_of (filter (at_zone z) parts) (AllPairs-filter BeginsBefore (at_zone z) parts rising)) among

  zones_parts : (zones : List ℕ) → ((z : ℕ) → is_in zones z ≡ true → z < m.geometry.zones) → flat_map (part_of_run id parts) (runs_in m zones) ≡ as_runs id (flat_map (λ z. filter (at_zone z) parts) zones)
  zones_parts [] all = refl
  zones_parts (z ∷ zones) all =
      flat_map-append (part_of_run id parts) (placed z (runs_of m z)) (runs_in m zones)
      ∙ ap₂ (λ (xs ys : List ZoneRun). xs ++ ys) (zone_parts z (all z (ap (λ b. b || is_in zones z) (eq-eqb z z refl)))) (zones_parts zones (λ y h. all y (in_back (z ∷ []) zones y h)))
      ∙ sym (map-append (with_id id) (filter (at_zone z) parts) (flat_map (λ y. filter (at_zone y) parts) zones))

  -- all parts, in the order of the search
  pub parts_in_turn : flat_map (part_of_run id parts) (runs_in m (search_order m.geometry id)) ≡ as_runs id (flat_map (λ z. filter (at_zone z) parts) (search_order m.geometry id))
  parts_in_turn = zones_parts (search_order m.geometry id) (λ z h. order_in m.geometry id z some h)

-- ---- what an identifier has besides

own_alone : (id : ℕ) (parts xs : List ZoneRun) → ((p : ZoneRun) → Contains xs p → has_id id p.1.kind ≡ false) → flat_map (own_of id parts) xs ≡ flat_map (part_of_run id parts) xs
own_alone id parts [] none = refl
own_alone id parts (p ∷ xs) none =
    ap₂ (λ (b : Bool) (ys : List ZoneRun). cond (is_hole p.1.kind) (taken_of id parts p) (cond b (p ∷ []) []) ++ ys) (none p (contains_here p xs)) (own_alone id parts xs (λ q h. none q (contains_later p xs q h)))

pub any_there : (t : ZoneRun → Bool) (xs : List ZoneRun) (p : ZoneRun) → Contains xs p → t p ≡ true → list_any t xs ≡ true
any_there t [] p (k, h, e) test = absurd (omega arith)
any_there t (x ∷ xs) p (zero, h, e) test = (let same : x ≡ p = e in ap (λ (b : Bool). b || list_any t xs) (ap t same ∙ test))
any_there t (x ∷ xs) p (suc k, h, e) test = ap (λ (b : Bool). t x || b) (any_there t xs p (k, omega arith, e) test) ∙ or_true (t x)
  where
    or_true : (b : Bool) → (b || true) ≡ true
    or_true true = refl
    or_true false = refl

-- an unused identifier has no run
pub unused_none : (m : Map) (id : ℕ) → IsNewMap m → is_used m id ≡ false → (p : ZoneRun) → Contains (id_runs m id) p → ⊥
unused_none m id is unused p at =
    let among = id_run_in m id p (geometry_facts m.geometry is.of_record).zones at in
    let no : true ≡ false = sym (any_there (λ (q : ZoneRun). has_id id q.1.kind) (all_runs m) p among.0 among.1) ∙ unused in
    cc

pub own_of_new : (m : Map) (id : ℕ) (parts : List ZoneRun) → ((p : ZoneRun) → Contains (id_runs m id) p → ⊥) → own_runs m id parts ≡ flat_map (part_of_run id parts) (runs_in m (search_order m.geometry id))
own_of_new m id parts none =
    own_alone id parts (runs_in m (search_order m.geometry id))
    (λ p at. elim (either_test (has_id id p.1.kind)) [
      | inl own ↦ absurd (none p (in_filter (λ (q : ZoneRun). has_id id q.1.kind) (runs_in m (search_order m.geometry id)) p at own))
      | inr other ↦ other
    ])

pub none_listed : (xs : List ZoneRun) → ((p : ZoneRun) → Contains xs p → ⊥) → xs ≡ []
none_listed [] none = refl
none_listed (x ∷ xs) none = absurd (none x (contains_here x xs))
