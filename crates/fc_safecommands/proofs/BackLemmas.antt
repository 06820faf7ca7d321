-- Runs that go back make the same holes, whether they are taken in the order of the disc or identifier by identifier.
use Rattle.std.proofs.Common.{◌≡◌, ◌<◌, ◌≤◌, ◌+◌, ◌-◌, ◌&&◌, ◌||◌, ◌⊎◌, inl, inr, ℕ, zero, suc, Bool, true, false, cond, List, [], ◌∷◌, ◌++◌, append-nil, filter, fold, flat_map, refl, sym, ap, ap₂, subst, ◌∙◌, arith, eq-eqb}
use Rattle.std.specs.Prelude.{◌==◌, Contains}
use Rattle.std.specs.List.{range_with_len}
use Rattle.std.proofs.lemmas.Bool.{eqb-true, ne_eqb}
use Rattle.std.proofs.lemmas.List.{map-append}
use Rattle.std.proofs.lemmas.List.Elements.{All-contains, All-from_recursion, filter-append}
use Rattle.std.proofs.lemmas.List.Sums.{fold-append}
use Rattle.fc_record.specs.declared.Geometry.{Geometry}
use Rattle.fc_record.specs.Record.{first_bit, id_limit}
use Rattle.fc_oldmap.specs.declared.Hole.{Hole}
use Rattle.fc_oldmap.specs.Holes.{after_give, hole}
use Rattle.fc_zone.specs.declared.Run.{Run}
use Rattle.fc_zone.specs.declared.RunKind.{RunKind}
use Rattle.fc_zone.specs.declared.RunKind.TheVariants as kinds
use Rattle.fc_newmap.specs.Map.{Map, ZoneRun, all_runs, has_id, hole_runs, id_runs, is_hole, runs_in, runs_of, search_order, zone_numbers}
use Rattle.fc_newmap.specs.NewMap.{IsNewMap}
use Rattle.fc_newmap.specs.RunsLaw.{placed}
use Rattle.fc_newmap.proofs.CoverLemmas.{Distinct, order_Distinct}
use Rattle.fc_newmap.proofs.HeldLemmas.{geometry_facts}
use Rattle.fc_newmap.proofs.PlaceLemmas.{filter_in, in_order_of, range_in, zone_in}
use Rattle.fc_changes.proofs.BasicLemmas.{and_false}
use Rattle.fc_changes.proofs.lemmas.old.HoleLemmas.{IsIn, IsInOne, in_given}
use Rattle.fc_image.specs.Layout.{is_among}
use Rattle.fc_image.specs.effects.Placed.{holes_left}
use Rattle.fc_image.specs.effects.Steady.{has_id_that, holes_with, runs_that, zone_holes}
use Rattle.fc_image.specs.safe.SafeSteady.{holes_unneeded}
use Rattle.fc_image.proofs.FreeLemmas.{among_range}
use Rattle.fc_plan.specs.declared.plan.Plan.{Plan}
use Rattle.fc_plan.specs.Giving.{as_spaces, is_one_of}
use Rattle.fc_plan.specs.Parts.{fronts}
use Rattle.fc_plan.specs.Plan.{AreFreeRuns, AreInOrder, EndsBefore, IsFreeRun}
use Rattle.fc_plan.proofs.GivenRuns.{at_zone, in_zone, spaces_of_zone}
use Rattle.fc_plan.proofs.Order.{map_holes-free, rising_of}
use Rattle.fc_plan.proofs.Plans.{left_by_parts, parts_leave_free}
use Rattle.fc_plan.proofs.Spaces.{Lie, spelled_lie}
use Rattle.fc_tree.proofs.MemberLemmas.{from_map}
use Rattle.fc_writing.specs.Steps.{CanTakeAll}
use Rattle.fc_safe.specs.Needs.{parts_of}
use Rattle.fc_safe.proofs.CoverLemmas.{AreCovered, left_covers}
use Rattle.fc_safecommands.proofs.GiveLemmas.{AreSpread, IsClear, Rise, first_or_last, rise_given, rise_with, spread_given}

-- ---- spaces that pass a test

abbrev space : ZoneRun → Hole
space p = hole p.1.start p.1.len

abbrev chosen : (ZoneRun → Bool) → List ZoneRun → List Hole
chosen t ps = as_spaces (filter t ps)

-- of a test that passes no more
module _ (s u : ZoneRun → Bool) (fewer : (p : ZoneRun) → s p ≡ true → u p ≡ true) where
  fewer_in : (ps : List ZoneRun) (n : ℕ) → IsInOne (chosen s ps) n → IsInOne (chosen u ps) n
  fewer_in [] n i = i
  fewer_in (p ∷ ps) n i = by (s p) (u p) (fewer p) (fewer_in ps n) i
    where
      by : (a b : Bool) → (a ≡ true → b ≡ true) → (IsInOne (chosen s ps) n → IsInOne (chosen u ps) n) → IsInOne (as_spaces (cond a (p ∷ filter s ps) (filter s ps))) n → IsInOne (as_spaces (cond b (p ∷ filter u ps) (filter u ps))) n
      by true true more rest (inl here) = inl here
      by true true more rest (inr later) = inr (rest later)
      by true false more rest j = absurd (let bad = more refl in cc)
      by false true more rest j = inr (rest j)
      by false false more rest j = rest j

  fewer_clear : (x : Hole) (ps : List ZoneRun) → IsClear x (chosen u ps) → IsClear x (chosen s ps)
  fewer_clear x ps clear n i j = clear n i (fewer_in ps n j)

  fewer_spread : (hs : List Hole) (ps : List ZoneRun) → AreSpread hs (chosen u ps) → AreSpread hs (chosen s ps)
  fewer_spread hs [] spread = tt
  fewer_spread hs (p ∷ ps) spread = by (s p) (u p) (fewer p) (fewer_spread hs ps) spread
    where
      by : (a b : Bool) → (a ≡ true → b ≡ true) → (AreSpread hs (chosen u ps) → AreSpread hs (chosen s ps)) → AreSpread hs (as_spaces (cond b (p ∷ filter u ps) (filter u ps))) → AreSpread hs (as_spaces (cond a (p ∷ filter s ps) (filter s ps)))
      by true true more rest k = (k.0, k.1, fewer_clear (space p) ps k.2, rest k.3)
      by true false more rest k = absurd (let bad = more refl in cc)
      by false true more rest k = rest k.3
      by false false more rest k = rest k

in_with : (hs xs : List Hole) (n : ℕ) → IsInOne (holes_with hs xs) n → IsInOne hs n ⊎ IsInOne xs n
in_with hs [] n i = inl i
in_with hs (x ∷ xs) n i = elim (in_with (after_give x hs) xs n i) [
  | inl given ↦ elim (in_given x hs n given) [ inl of_x ↦ inr (inl of_x) | inr of_hs ↦ inl of_hs ]
  | inr later ↦ inr (inr later)
]

-- Those that pass one of two tests go back as those that pass the first, and then those that pass the second.
module _ (s t u : ZoneRun → Bool) (either : (p : ZoneRun) → u p ≡ (s p || t p)) (never : (p : ZoneRun) → s p ≡ true → t p ≡ true → ⊥) where
  first_in : (p : ZoneRun) → s p ≡ true → u p ≡ true
  first_in p e = either p ∙ ap (λ (b : Bool). b || t p) e

  record Parted (hs : List Hole) (ps : List ZoneRun) : Type 0 where
    same : holes_with hs (chosen u ps) ≡ holes_with (holes_with hs (chosen s ps)) (chosen t ps)
    spread : AreSpread (holes_with hs (chosen s ps)) (chosen t ps)

  parted : (hs : List Hole) (ps : List ZoneRun) → Rise 0 hs → AreSpread hs (chosen u ps) → Parted hs ps
  parted hs [] rise spread = record { same = refl; spread = tt }
  parted hs (p ∷ ps) rise spread = let r = by (s p) (t p) (u p) (either p) (never p) (parted (after_give (space p) hs) ps) (parted hs ps) spread in record { same = r.0; spread = r.1 }
    where
      given : (Rise 0 (after_give (space p) hs) → AreSpread (after_give (space p) hs) (chosen u ps) → Parted (after_give (space p) hs) ps) → AreSpread hs (space p ∷ chosen u ps) → Parted (after_give (space p) hs) ps
      given more k = more (rise_given 0 (space p) hs (omega arith) k.0 rise k.1) (spread_given (space p) hs (chosen u ps) k.2 k.3)

      by : (a b c : Bool) → c ≡ (a || b) → (a ≡ true → b ≡ true → ⊥)
          → (Rise 0 (after_give (space p) hs) → AreSpread (after_give (space p) hs) (chosen u ps) → Parted (after_give (space p) hs) ps) → (Rise 0 hs → AreSpread hs (chosen u ps) → Parted hs ps) → AreSpread hs (as_spaces (cond c (p ∷ filter u ps) (filter u ps)))
          → (holes_with hs (as_spaces (cond c (p ∷ filter u ps) (filter u ps))) ≡ holes_with (holes_with hs (as_spaces (cond a (p ∷ filter s ps) (filter s ps)))) (as_spaces (cond b (p ∷ filter t ps) (filter t ps))))
          × AreSpread (holes_with hs (as_spaces (cond a (p ∷ filter s ps) (filter s ps)))) (as_spaces (cond b (p ∷ filter t ps) (filter t ps)))
      by true true c e both more others k = absurd (both refl refl)
      by true false true e both more others k = let r = given more k in (r.same, r.spread)
      by true false false e both more others k = absurd (cc)
      by false true false e both more others k = absurd (cc)
      by false true true e both more others k =
          let x : Hole = space p in
          let r = given more k in
          let less = fewer_spread s u first_in hs ps k.3 in
          let clear = fewer_clear s u first_in x ps k.2 in
          let rest = others rise k.3 in (
            r.same ∙ ap (λ (ks : List Hole). holes_with ks (chosen t ps)) (first_or_last x hs (chosen s ps) k.0 rise k.1 clear less),
            (
              k.0,
              (λ n i j. elim (in_with hs (chosen s ps) n j) [ inl of_hs ↦ k.1 n i of_hs | inr of_s ↦ clear n i of_s ]),
              fewer_clear t u (λ q f. either q ∙ ap (λ (b : Bool). s q || b) f ∙ or_true (s q)) x ps k.2,
              rest.spread,
            ),
          )
        where
          or_true : (b : Bool) → (b || true) ≡ true
          or_true true = refl
          or_true false = refl
      by false false true e both more others k = absurd (cc)
      by false false false e both more others k = let rest = others rise k in (rest.same, rest.spread)

-- ---- the runs of a zone

-- a space that passes is a run's
chosen_in : (t : ZoneRun → Bool) (ps : List ZoneRun) (n : ℕ) → IsInOne (chosen t ps) n → (p : ZoneRun) × Contains ps p × (t p ≡ true) × IsIn (space p) n
chosen_in t [] n i = absurd i
chosen_in t (q ∷ ps) n i = by (t q) refl (chosen_in t ps n) i
  where
    later : (p : ZoneRun) × Contains ps p × (t p ≡ true) × IsIn (space p) n → (p : ZoneRun) × Contains (q ∷ ps) p × (t p ≡ true) × IsIn (space p) n
    later r = (r.0, (suc r.1.0, (let low = r.1.1 in omega (arith, low)), r.1.2), r.2, r.3)

    by : (b : Bool) → t q ≡ b → (IsInOne (chosen t ps) n → (p : ZoneRun) × Contains ps p × (t p ≡ true) × IsIn (space p) n) → IsInOne (as_spaces (cond b (q ∷ filter t ps) (filter t ps))) n → (p : ZoneRun) × Contains (q ∷ ps) p × (t p ≡ true) × IsIn (space p) n
    by true e rest (inl here) = (q, (0, omega arith, refl), e, here)
    by true e rest (inr more) = later (rest more)
    by false e rest j = later (rest j)

begins_after : (at : ℕ) (runs : List Run) (r : Run) → Lie at runs → Contains runs r → at ≤ r.start
begins_after at [] r lie (i, low, e) = absurd (omega (arith, low))
begins_after at (a ∷ runs) r lie (zero, low, e) = let first = lie.0 in let same : a.start ≡ r.start = ap (λ (x : Run). x.start) e in omega (arith, first, same)
begins_after at (a ∷ runs) r lie (suc i, low, e) = let more = begins_after (at + a.len) runs r lie.2 (i, omega (arith, low), e) in omega (arith, more)

-- Two runs with a unit in common are one.
one_run : (at : ℕ) (runs : List Run) (r q : Run) (n : ℕ) → Lie at runs → Contains runs r → Contains runs q → IsIn (hole r.start r.len) n → IsIn (hole q.start q.len) n → r ≡ q
one_run at [] r q n lie (i, low, e) b of_r of_q = absurd (omega (arith, low))
one_run at (a ∷ runs) r q n lie (zero, low, e) (zero, low', f) of_r of_q = sym e ∙ f
one_run at (a ∷ runs) r q n lie (zero, low, e) (suc j, low', f) of_r of_q = absurd (
    let begins = begins_after (at + a.len) runs q lie.2 (j, omega (arith, low'), f) in
    let first = lie.0 in
    let start : a.start ≡ r.start = ap (λ (x : Run). x.start) e in
    let len : a.len ≡ r.len = ap (λ (x : Run). x.len) e in
    let last = of_r.1 in
    let from = of_q.0 in
    omega (arith, begins, first, start, len, last, from))
one_run at (a ∷ runs) r q n lie (suc i, low, e) (zero, low', f) of_r of_q = absurd (
    let begins = begins_after (at + a.len) runs r lie.2 (i, omega (arith, low), e) in
    let first = lie.0 in
    let start : a.start ≡ q.start = ap (λ (x : Run). x.start) f in
    let len : a.len ≡ q.len = ap (λ (x : Run). x.len) f in
    let last = of_q.1 in
    let from = of_r.0 in
    omega (arith, begins, first, start, len, last, from))
one_run at (a ∷ runs) r q n lie (suc i, low, e) (suc j, low', f) of_r of_q = one_run (at + a.len) runs r q n lie.2 (i, omega (arith, low), e) (j, omega (arith, low'), f) of_r of_q

-- Runs that aren't holes are spread, if holes are clear of them.
runs_spread : (hs : List Hole) (t : ZoneRun → Bool) → ((p : ZoneRun) → t p ≡ true → is_hole p.1.kind ≡ false) → (z at : ℕ) (runs : List Run) → Lie at runs
    → ((r : Run) → Contains runs r → is_hole r.kind ≡ false → IsClear (hole r.start r.len) hs) → AreSpread hs (chosen t (placed z runs))
runs_spread hs t kind z at [] lie clear = tt
runs_spread hs t kind z at (r ∷ runs) lie clear =
    by (t (z, r)) refl (runs_spread hs t kind z (at + r.len) runs lie.2 (λ q at_q other. clear q (suc at_q.0, (let low = at_q.1 in omega (arith, low)), at_q.2) other))
  where
    by : (b : Bool) → t (z, r) ≡ b → AreSpread hs (chosen t (placed z runs)) → AreSpread hs (as_spaces (cond b ((z, r) ∷ filter t (placed z runs)) (filter t (placed z runs))))
    by false e rest = rest
    by true e rest = (
      lie.1,
      clear r (0, omega arith, refl) (kind (z, r) e),
      (λ n i j.
          (let p = chosen_in t (placed z runs) n j in
          let q = from_map (λ (x : Run). let y : ZoneRun = (z, x) in y) runs p.0 p.1 in
          let begins = begins_after (at + r.len) runs q.0 lie.2 q.1 in
          let same : q.0.start ≡ p.0.1.start = ap (λ (y : ZoneRun). y.1.start) q.2 in
          let first = lie.0 in
          let last = i.1 in
          let from = p.3.0 in
          omega (arith, begins, same, first, last, from))),
      rest,
    )

-- ---- the holes that plans leave

-- Holes in order rise in a zone.
rise_in : (z from : ℕ) (ps : List ZoneRun) → AreInOrder ps → ((p : ZoneRun) → Contains ps p → 0 < p.1.len) → ((p : ZoneRun) → Contains ps p → p.0 ≡ z → from ≤ p.1.start) → Rise from (zone_holes ps z)
rise_in z from [] order some low = tt
rise_in z from (q ∷ ps) order some low = by (q.0 == z) refl (λ least. rise_in z least ps order.1 (λ p at. some p (later p at)))
  where
    later : (p : ZoneRun) → Contains ps p → Contains (q ∷ ps) p
    later p at = (suc at.0, (let l = at.1 in omega (arith, l)), at.2)

    by : (b : Bool) → (q.0 == z) ≡ b → ((least : ℕ) → ((p : ZoneRun) → Contains ps p → p.0 ≡ z → least ≤ p.1.start) → Rise least (zone_holes ps z)) → Rise from (as_spaces (cond b (q ∷ filter (at_zone z) ps) (filter (at_zone z) ps)))
    by false e rest = rest from (λ p at zone. low p (later p at) zone)
    by true e rest =
        let here = eqb-true q.0 z e in (
          low q (0, omega arith, refl) here,
          some q (0, omega arith, refl),
          rest (q.1.start + q.1.len) (λ p at zone.
              elim (All-contains (EndsBefore q) ps p (All-from_recursion (EndsBefore q) ps order.0) at) [ inl less ↦ absurd (omega (arith, less, here, zone)) | inr ends ↦ ends.1 ]),
        )

-- what plans leave of holes
module _ (g : Geometry) (some : 0 < g.min) where
  free_left : (holes : List ZoneRun) (plans : List Plan) → AreFreeRuns g holes → CanTakeAll g holes plans → AreFreeRuns g (fold holes_left holes (parts_of plans))
  free_left holes [] free can = free
  free_left holes (p ∷ plans) free can =
      let parts = fronts p.parts.items in
      free_left (holes_left holes parts) plans
      (subst (AreFreeRuns g) (left_by_parts g holes parts some free can.0.cut.fronts (rising_of parts can.0.rising)) (parts_leave_free g holes parts some free can.0.cut.fronts can.0.cut.long)) can.1

all_covers : (holes : List ZoneRun) (parts : List (List ZoneRun)) (z s n : ℕ) → AreCovered (fold holes_left holes parts) z s n → AreCovered holes z s n
all_covers holes [] z s n c = c
all_covers holes (ps ∷ parts) z s n c = left_covers holes ps z s n (all_covers (holes_left holes ps) parts z s n c)

-- ---- the runs of one identifier in a zone

none_there : (t : ZoneRun → Bool) (z y : ℕ) (runs : List Run) → (y ≡ z → ⊥) → filter (at_zone z) (filter t (placed y runs)) ≡ []
none_there t z y [] other = refl
none_there t z y (run ∷ runs) other = by (t (y, run)) (none_there t z y runs other)
  where
    by : (b : Bool) → filter (at_zone z) (filter t (placed y runs)) ≡ [] → filter (at_zone z) (cond b ((y, run) ∷ filter t (placed y runs)) (filter t (placed y runs))) ≡ []
    by true h = ap₂ (λ (b : Bool) (xs : List ZoneRun). cond b ((y, run) ∷ xs) xs) (ne_eqb y z other) h
    by false h = h

module _ (t : ZoneRun → Bool) (m : Map) (z : ℕ) where
  two : (xs ys : List ZoneRun) → filter (at_zone z) (filter t (xs ++ ys)) ≡ filter (at_zone z) (filter t xs) ++ filter (at_zone z) (filter t ys)
  two xs ys = ap (filter (at_zone z)) (filter-append t xs ys) ∙ filter-append (at_zone z) (filter t xs) (filter t ys)

  here : filter (at_zone z) (filter t (placed z (runs_of m z))) ≡ filter t (placed z (runs_of m z))
  here = ap (λ (xs : List ZoneRun). filter (at_zone z) (filter t xs)) (sym (append-nil (placed z (runs_of m z)))) ∙ in_zone t m z 1 z (omega arith) (omega arith)

  none_in : (zones : List ℕ) → is_among zones z ≡ false → filter (at_zone z) (filter t (runs_in m zones)) ≡ []
  none_in [] none = refl
  none_in (y ∷ zones) none = by (y == z) refl (none_in zones) none
    where
      by : (b : Bool) → (y == z) ≡ b → (is_among zones z ≡ false → filter (at_zone z) (filter t (runs_in m zones)) ≡ []) → (b || is_among zones z) ≡ false → filter (at_zone z) (filter t (runs_in m (y ∷ zones))) ≡ []
      by true e rest f = absurd (cc)
      by false e rest f =
          two (placed y (runs_of m y)) (runs_in m zones)
          ∙ ap₂ (λ (xs ys : List ZoneRun). xs ++ ys) (none_there t z y (runs_of m y) (λ same. absurd (let yes = eq-eqb y z same in cc))) (rest f)

  pub zone_part : (zones : List ℕ) → Distinct zones → is_among zones z ≡ true → filter (at_zone z) (filter t (runs_in m zones)) ≡ filter t (placed z (runs_of m z))
  zone_part [] once e = absurd (cc)
  zone_part (y ∷ zones) once e = by (y == z) refl (zone_part zones once.1) e
    where
      by : (b : Bool) → (y == z) ≡ b → (is_among zones z ≡ true → filter (at_zone z) (filter t (runs_in m zones)) ≡ filter t (placed z (runs_of m z))) → (b || is_among zones z) ≡ true → filter (at_zone z) (filter t (runs_in m (y ∷ zones))) ≡ filter t (placed z (runs_of m z))
      by true f rest g =
          let same = eqb-true y z f in
          two (placed y (runs_of m y)) (runs_in m zones)
          ∙ ap₂ (λ (xs ys : List ZoneRun). xs ++ ys) (ap (λ (k : ℕ). filter (at_zone z) (filter t (placed k (runs_of m k)))) same ∙ here)
          (none_in zones (ap (is_among zones) (sym same) ∙ once.0))
          ∙ append-nil (filter t (placed z (runs_of m z)))
      by false f rest g =
          two (placed y (runs_of m y)) (runs_in m zones)
          ∙ ap₂ (λ (xs ys : List ZoneRun). xs ++ ys) (none_there t z y (runs_of m y) (λ same. absurd (let yes = eq-eqb y z same in cc))) (rest g)

-- ---- identifier by identifier

abbrev of : (ℕ → Bool) → ZoneRun → Bool
of t p = has_id_that t p.1.kind

same_kind : (t u : ℕ → Bool) → ((k : ℕ) → t k ≡ u k) → (kind : RunKind) → has_id_that t kind ≡ has_id_that u kind
same_kind t u same kinds.Hole = refl
same_kind t u same (kinds.Id k) = same k

same_chosen : (s t : ZoneRun → Bool) → ((p : ZoneRun) → s p ≡ t p) → (ps : List ZoneRun) → chosen s ps ≡ chosen t ps
same_chosen s t same [] = refl
same_chosen s t same (p ∷ ps) = by (s p) (t p) (same p) (same_chosen s t same ps)
  where
    by : (a b : Bool) → a ≡ b → chosen s ps ≡ chosen t ps → as_spaces (cond a (p ∷ filter s ps) (filter s ps)) ≡ as_spaces (cond b (p ∷ filter t ps) (filter t ps))
    by true true e h = ap (λ (hs : List Hole). space p ∷ hs) h
    by false false e h = h
    by true false e h = absurd (cc)
    by false true e h = absurd (cc)

none_chosen : (s : ZoneRun → Bool) → ((p : ZoneRun) → s p ≡ false) → (ps : List ZoneRun) → chosen s ps ≡ []
none_chosen s none [] = refl
none_chosen s none (p ∷ ps) = ap (λ (b : Bool). as_spaces (cond b (p ∷ filter s ps) (filter s ps))) (none p) ∙ none_chosen s none ps

module _ (m : Map) (is : IsNewMap m) (given : ℕ → Bool) (z : ℕ) (low : z < m.geometry.zones) where
  abbrev runs : List ZoneRun
  runs = placed z (runs_of m z)

  abbrev back : ℕ → List ZoneRun
  back id = cond (given id) (id_runs m id) []

  abbrev among : List ℕ → ZoneRun → Bool
  among ids = of (λ (k : ℕ). given k && is_one_of ids k)

  id_part : (id : ℕ) → zone_holes (id_runs m id) z ≡ chosen (λ (p : ZoneRun). has_id id p.1.kind) runs
  id_part id =
      ap as_spaces (zone_part (λ (p : ZoneRun). has_id id p.1.kind) m z (search_order m.geometry id) (order_Distinct m.geometry id) (in_order_of m.geometry id z (geometry_facts m.geometry is.of_record).zones low))

  zone_append : (xs ys : List ZoneRun) → zone_holes (xs ++ ys) z ≡ zone_holes xs z ++ zone_holes ys z
  zone_append xs ys = ap as_spaces (filter-append (at_zone z) xs ys) ∙ map-append (λ (p : ZoneRun). hole p.1.start p.1.len) (filter (at_zone z) xs) (filter (at_zone z) ys)

  module _ (id : ℕ) (ids : List ℕ) (gives : given id ≡ true) (once : is_among ids id ≡ false) where
    either_kind : (kind : RunKind) → has_id_that (λ (k : ℕ). given k && is_one_of (id ∷ ids) k) kind ≡ (has_id id kind || has_id_that (λ (k : ℕ). given k && is_one_of ids k) kind)
    either_kind kinds.Hole = refl
    either_kind (kinds.Id k) = by (k == id) refl (id == k) refl
      where
        by : (a : Bool) → (k == id) ≡ a → (b : Bool) → (id == k) ≡ b → (given k && (b || is_one_of ids k)) ≡ (a || (given k && is_one_of ids k))
        by true e b f =
            let same = eqb-true k id e in
            ap₂ (λ (x y : Bool). x && (y || is_one_of ids k)) (ap given same ∙ gives) (sym f ∙ eq-eqb id k (sym same))
        by false e true f = absurd (let yes = eq-eqb k id (sym (eqb-true id k f)) in cc)
        by false e false f = refl

    never_kind : (kind : RunKind) → has_id id kind ≡ true → has_id_that (λ (k : ℕ). given k && is_one_of ids k) kind ≡ true → ⊥
    never_kind kinds.Hole e f = absurd (cc)
    never_kind (kinds.Id k) e f =
        let same = eqb-true k id e in
        let none : is_one_of ids k ≡ false = ap (is_one_of ids) same ∙ once in
        let bad : true ≡ false = sym f ∙ ap (λ (b : Bool). given k && b) none ∙ and_false (given k) in cc

  skips : (id : ℕ) (ids : List ℕ) → given id ≡ false → (kind : RunKind) → has_id_that (λ (k : ℕ). given k && is_one_of (id ∷ ids) k) kind ≡ has_id_that (λ (k : ℕ). given k && is_one_of ids k) kind
  skips id ids gives = same_kind (λ (k : ℕ). given k && is_one_of (id ∷ ids) k) (λ (k : ℕ). given k && is_one_of ids k) (λ k. by k (id == k) refl)
    where
      by : (k : ℕ) (b : Bool) → (id == k) ≡ b → (given k && (b || is_one_of ids k)) ≡ (given k && is_one_of ids k)
      by k true e =
          let no : given k ≡ false = ap given (sym (eqb-true id k e)) ∙ gives in
          ap (λ (x : Bool). x && true) no ∙ sym (ap (λ (x : Bool). x && is_one_of ids k) no)
      by k false e = refl

  by_ids : (ids : List ℕ) (hs : List Hole) → Distinct ids → Rise 0 hs → AreSpread hs (chosen (among ids) runs) → holes_with hs (zone_holes (flat_map back ids) z) ≡ holes_with hs (chosen (among ids) runs)
  by_ids [] hs once rise spread =
      sym (ap (holes_with hs) (none_chosen (among []) (λ p. same_kind (λ (k : ℕ). given k && false) (λ k. false) (λ k. and_false (given k)) p.1.kind ∙ nothing p.1.kind) runs))
    where
      nothing : (kind : RunKind) → has_id_that (λ k. false) kind ≡ false
      nothing kinds.Hole = refl
      nothing (kinds.Id k) = refl
  by_ids (id ∷ ids) hs once rise spread = by (given id) refl (λ ks. by_ids ids ks once.1)
    where
      by : (b : Bool) → given id ≡ b
          → ((ks : List Hole) → Rise 0 ks → AreSpread ks (chosen (among ids) runs) → holes_with ks (zone_holes (flat_map back ids) z) ≡ holes_with ks (chosen (among ids) runs)) → holes_with hs (zone_holes (cond b (id_runs m id) [] ++ flat_map back ids) z) ≡ holes_with hs (chosen (among (id ∷ ids)) runs)
      by false e rest =
          let same = same_chosen (among (id ∷ ids)) (among ids) (λ p. skips id ids e p.1.kind) runs in
          rest hs rise (subst (AreSpread hs) same spread) ∙ ap (holes_with hs) (sym same)
      by true e rest =
          let own : ZoneRun → Bool = λ p. has_id id p.1.kind in
          let p = parted own (among ids) (among (id ∷ ids)) (λ r. either_kind id ids e once.0 r.1.kind) (λ r. never_kind id ids e once.0 r.1.kind) hs runs rise spread in
          let mine = fewer_spread own (among (id ∷ ids)) (λ r f. either_kind id ids e once.0 r.1.kind ∙ ap (λ (b : Bool). b || among ids r) f) hs runs spread in
          ap (holes_with hs) (zone_append (id_runs m id) (flat_map back ids)) ∙ fold-append (λ (ks : List Hole) (x : Hole). after_give x ks) hs (zone_holes (id_runs m id) z) (zone_holes (flat_map back ids) z)
          ∙ ap (λ (xs : List Hole). holes_with (holes_with hs xs) (zone_holes (flat_map back ids) z)) (id_part id)
          ∙ rest (holes_with hs (chosen own runs)) (rise_with hs (chosen own runs) rise mine) p.spread
          ∙ sym p.same

-- ---- all that goes back

range_once : (from n : ℕ) → Distinct (range_with_len from n)
range_once from zero = tt
range_once from (suc n) = (none (is_among (range_with_len (from + 1) n) from) refl, range_once (from + 1) n)
  where
    none : (b : Bool) → is_among (range_with_len (from + 1) n) from ≡ b → b ≡ false
    none true e = absurd (let r = (range_in (from + 1) n from e).0 in omega (arith, r))
    none false e = refl

module _ (m : Map) (is : IsNewMap m) (some : 0 < m.geometry.min) (plans : List Plan) (can : CanTakeAll m.geometry (hole_runs m) plans) (gone : List ℕ) (given : ℕ → Bool)
    (same : (id : ℕ) → 3 ≤ id → is_one_of gone id ≡ given id) (low : (id : ℕ) → is_one_of gone id ≡ true → 3 ≤ id) (high : (id : ℕ) → given id ≡ true → id < id_limit m.geometry) where
  abbrev left : List ZoneRun
  left = holes_unneeded m (parts_of plans)

  free : AreFreeRuns m.geometry left
  free = free_left m.geometry some (hole_runs m) plans (map_holes-free m is) can

  positive : (p : ZoneRun) → Contains left p → 0 < p.1.len
  positive p at = let least = (All-contains (IsFreeRun m.geometry) left p (All-from_recursion (IsFreeRun m.geometry) left free.each) at).long.0 in omega (arith, least, some)

  -- no run of an identifier has a unit of what is left
  clear : (z : ℕ) → z < m.geometry.zones → (r : Run) → Contains (runs_of m z) r → is_hole r.kind ≡ false → IsClear (hole r.start r.len) (zone_holes left z)
  clear z below r at other n of_r of_left =
      let k = chosen_in (at_zone z) left n of_left in
      let zone = eqb-true k.0.0 z k.2 in
      let c = all_covers (hole_runs m) (parts_of plans) z n 1 (k.0, k.1, record { zone = zone; some = omega arith; from = k.3.0; to = (let last = k.3.1 in omega (arith, last)) }) in
      let f = filter_in (λ (p : ZoneRun). is_hole p.1.kind) (all_runs m) c.0 c.1 in
      let there = (zone_in m (zone_numbers m.geometry) c.0 f.0).1 in
      let q = from_map (λ (x : Run). let y : ZoneRun = (c.0.0, x) in y) (runs_of m c.0.0) c.0 there in
      let in_zone : Contains (runs_of m z) q.0 = subst (λ (y : ℕ). Contains (runs_of m y) q.0) c.2.zone q.1 in
      let start : q.0.start ≡ c.0.1.start = ap (λ (y : ZoneRun). y.1.start) q.2 in
      let len : q.0.len ≡ c.0.1.len = ap (λ (y : ZoneRun). y.1.len) q.2 in
      let from = c.2.from in
      let to = c.2.to in
      let one = one_run (first_bit z) (runs_of m z) r q.0 n (spelled_lie _ _ (runs_of m z) (first_bit z) _ (is.right z below).spelled) at in_zone of_r (omega (arith, from, start), omega (arith, to, start, len)) in
      let bad : false ≡ true = sym other ∙ ap (λ (x : Run). is_hole x.kind) one ∙ ap (λ (y : ZoneRun). is_hole y.1.kind) q.2 ∙ f.1 in cc

  abbrev ids : List ℕ
  ids = range_with_len 3 (id_limit m.geometry - 3)

  one_of_them : (k : ℕ) → (given k && is_one_of ids k) ≡ is_one_of gone k
  one_of_them k = by (is_one_of gone k) refl (given k) refl (is_one_of ids k) refl
    where
      by : (a : Bool) → is_one_of gone k ≡ a → (b : Bool) → given k ≡ b → (c : Bool) → is_one_of ids k ≡ c → (b && c) ≡ a
      by true e true f true g = refl
      by true e true f false g = absurd (
          let least = low k e in
          let most = high k f in
          let there : is_one_of ids k ≡ true = among_range 3 (id_limit m.geometry - 3) k least (omega (arith, least, most)) in cc)
      by true e false f c g = absurd (let yes = same k (low k e) in cc)
      by false e true f true g = absurd (let least = (range_in 3 (id_limit m.geometry - 3) k g).0 in let no = same k least in cc)
      by false e true f false g = refl
      by false e false f c g = refl

  -- The holes are the same.
  pub back_same : (z : ℕ) → z < m.geometry.zones
      → holes_with (zone_holes left z) (zone_holes (runs_that (is_one_of gone) m) z) ≡ holes_with (zone_holes left z) (zone_holes (flat_map (λ (id : ℕ). cond (given id) (id_runs m id) []) ids) z)
  back_same z below =
      let runs : List ZoneRun = placed z (runs_of m z) in
      let all : chosen (of (is_one_of gone)) runs ≡ chosen (among m is given z below ids) runs =
      same_chosen (of (is_one_of gone)) (among m is given z below ids) (λ p. same_kind (is_one_of gone) (λ (k : ℕ). given k && is_one_of ids k) (λ k. sym (one_of_them k)) p.1.kind) runs in
      let rise = rise_in z 0 left free.order positive (λ p at zone. omega arith) in
      let spread = runs_spread (zone_holes left z) (among m is given z below ids) (λ p e. not_hole p.1.kind e) z (first_bit z) (runs_of m z)
      (spelled_lie _ _ (runs_of m z) (first_bit z) _ (is.right z below).spelled) (clear z below) in
      ap (holes_with (zone_holes left z)) (spaces_of_zone (of (is_one_of gone)) m z below ∙ all)
      ∙ sym (by_ids m is given z below ids (zone_holes left z) (range_once 3 (id_limit m.geometry - 3)) rise spread)
    where
      not_hole : (kind : RunKind) → has_id_that (λ (k : ℕ). given k && is_one_of ids k) kind ≡ true → is_hole kind ≡ false
      not_hole kinds.Hole e = absurd (cc)
      not_hole (kinds.Id k) e = refl
