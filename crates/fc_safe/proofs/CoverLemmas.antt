-- Plans that are made one after another take no bit twice, so that no two of their parts begin at one place.
use Rattle.std.proofs.Common.{◌≡◌, ◌<◌, ◌≤◌, ◌==◌, ◌⊎◌, inl, inr, ℕ, zero, suc, ◌+◌, ◌-◌, Bool, true, false, cond, List, [], ◌∷◌, ◌++◌, refl, sym, ap, subst, ◌∙◌, arith, Some, None, Option, Contains}
use Rattle.std.specs.List.{AllByRecursion, find}
use Rattle.std.proofs.lemmas.List.Elements.{All-contains, All-from_recursion, Contains-append_cases}
use Rattle.std.proofs.lemmas.List.Sums.{sum_by-append, sum_by-cons}
use Rattle.fc_record.specs.declared.Geometry.{Geometry}
use Rattle.fc_record.specs.Record.{first_bit, end_bit}
use Rattle.fc_newmap.specs.Map.{Map, ZoneRun, hole_runs}
use Rattle.fc_newmap.specs.NewMap.{IsNewMap}
use Rattle.fc_newmap.specs.Walk.{IsInZone}
use Rattle.fc_image.specs.effects.Placed.{HasRunLength, holes_left, left_behind, stands_at}
use Rattle.fc_plan.specs.declared.plan.Plan.{Plan}
use Rattle.fc_plan.specs.Parts.{fronts}
use Rattle.fc_plan.specs.Plan.{AreApart, AreFreeRuns, AreInOrder, EndsBefore, IsFrontOfOne}
use Rattle.fc_plan.proofs.Left.{count_at-positive}
use Rattle.fc_plan.proofs.Composed.{found_some}
use Rattle.fc_plan.proofs.MapLemmas.{IsPlaced, count_at, holes_placed}
use Rattle.fc_plan.proofs.Order.{free_apart, rising_of, same_place}
use Rattle.fc_plan.proofs.Plans.{left_by_parts, parts_leave_free}
use Rattle.fc_plan.proofs.Taken.{find_is}
use Rattle.fc_writing.specs.Steps.{CanTakeAll}
use Rattle.fc_safe.specs.FirstSpace.{all_fronts}

-- ---- places that holes cover

-- Some bits of a zone lie in the hole.
pub record Covers (h : ZoneRun) (z s n : ℕ) : Type 0 where
  pub zone : h.0 ≡ z
  pub some : 0 < n
  pub from : h.1.start ≤ s
  pub to : s + n ≤ h.1.start + h.1.len

abbrev pub AreCovered : List ZoneRun → (z s n : ℕ) → Type 0
AreCovered holes z s n = (h : ZoneRun) × Contains holes h × Covers h z s n

covered_later : (h : ZoneRun) (holes : List ZoneRun) (z s n : ℕ) → AreCovered holes z s n → AreCovered (h ∷ holes) z s n
covered_later h holes z s n c = (c.0, (suc c.1.0, (let low = c.1.1 in omega (arith, low)), c.1.2), c.2)

covered_rest : (h : ZoneRun) (holes : List ZoneRun) (z s n : ℕ) → AreCovered (h ∷ holes) z s n → Covers h z s n ⊎ AreCovered holes z s n
covered_rest h holes z s n (k, (zero, low, e), covers) = inl (subst (λ (x : ZoneRun). Covers x z s n) (sym e) covers)
covered_rest h holes z s n (k, (suc i, low, e), covers) = inr (k, (i, omega (arith, low), e), covers)

covered_both : (xs ys : List ZoneRun) (z s n : ℕ) → AreCovered (xs ++ ys) z s n → AreCovered xs z s n ⊎ AreCovered ys z s n
covered_both xs ys z s n (h, at, covers) = elim (Contains-append_cases xs ys h at) [ inl here ↦ inl (h, here, covers) | inr there ↦ inr (h, there, covers) ]

no_cover : (z s n : ℕ) → AreCovered [] z s n → ⊥
no_cover z s n (h, (i, low, e), covers) = omega (arith, low)

-- What is left of a hole lies in it, behind the part that was taken.
behind_one : (h : ZoneRun) (o : Option ZoneRun) (z s n : ℕ) → AreCovered (left_behind h o) z s n → Covers h z s n × ((p : ZoneRun) → o ≡ Some p → h.1.start + p.1.len ≤ s)
behind_one h None z s n c = elim (covered_rest h [] z s n c) [ inl covers ↦ (covers, λ p e. absurd (cc)) | inr none ↦ absurd (no_cover z s n none) ]
behind_one h (Some q) z s n c = by (q.1.len == h.1.len) c
  where
    rest : ZoneRun
    rest = (h.0, record h.1 { start = h.1.start + q.1.len; len = h.1.len - q.1.len })

    by : (b : Bool) → AreCovered (cond b [] ((h.0, record h.1 { start = h.1.start + q.1.len; len = h.1.len - q.1.len }) ∷ [])) z s n
        → Covers h z s n × ((p : ZoneRun) → (let o : Option ZoneRun = Some q in o) ≡ Some p → h.1.start + p.1.len ≤ s)
    by true none = absurd (no_cover z s n none)
    by false some = elim (covered_rest (h.0, record h.1 { start = h.1.start + q.1.len; len = h.1.len - q.1.len }) [] z s n some) [
      | inl covers ↦
          (let from : h.1.start + q.1.len ≤ s = covers.from in
          let to : s + n ≤ h.1.start + q.1.len + (h.1.len - q.1.len) = covers.to in
          let bits = covers.some in (
            record { zone = covers.zone; some = bits; from = omega (arith, from); to = omega (arith, from, to, bits) },
            λ p e. subst (λ (x : ZoneRun). h.1.start + x.1.len ≤ s) (let same : q ≡ p = cc in same) from,
          ))
      | inr none ↦ absurd (no_cover z s n none)
    ]

pub left_covers : (holes parts : List ZoneRun) (z s n : ℕ) → AreCovered (holes_left holes parts) z s n → AreCovered holes z s n
left_covers [] parts z s n c = absurd (no_cover z s n c)
left_covers (h ∷ holes) parts z s n c = elim (covered_both (left_behind h (find (stands_at h) parts)) (holes_left holes parts) z s n c) [
  | inl here ↦ (h, (0, omega arith, refl), (behind_one h (find (stands_at h) parts) z s n here).0)
  | inr later ↦ covered_later h holes z s n (left_covers holes parts z s n later)
]

-- ---- a part that was taken

apart_first : (h : ZoneRun) (holes : List ZoneRun) (s n : ℕ) → AllByRecursion (EndsBefore h) holes → s < h.1.start + h.1.len → AreCovered holes h.0 s n → ⊥
apart_first h holes s n after to (k, at, covers) = by (All-contains (EndsBefore h) holes k (All-from_recursion (EndsBefore h) holes after) at)
  where
    by : EndsBefore h k → ⊥
    by (inl less) = let same = covers.zone in omega (arith, less, same)
    by (inr (zone, ends)) = let begins = covers.from in omega (arith, ends, begins, to)

-- Nothing that is left of the holes covers where it began.
pub none_left : (holes parts : List ZoneRun) (h p : ZoneRun) (n : ℕ) → AreInOrder holes → Contains holes h → find (stands_at h) parts ≡ Some p → 0 < h.1.len → 0 < p.1.len → stands_at h p ≡ true
    → AreCovered (holes_left holes parts) p.0 p.1.start n → ⊥
none_left [] parts h p n order (i, low, e) found some taken at c = omega (arith, low)
none_left (k ∷ holes) parts h p n order (zero, low, e) found some taken at c = elim (covered_both (left_behind k (find (stands_at k) parts)) (holes_left holes parts) p.0 p.1.start n c) [
  | inl here ↦
      (let same : k ≡ h = e in
      let behind = (behind_one k (find (stands_at k) parts) p.0 p.1.start n here).1 p (ap (λ (x : ZoneRun). find (stands_at x) parts) same ∙ found) in
      let place = same_place h p at in
      let start : k.1.start ≡ h.1.start = ap (λ (x : ZoneRun). x.1.start) same in
      let begins = place.1 in
      omega (arith, behind, taken, start, begins))
  | inr later ↦
      (let place = same_place h p at in
      let same : k ≡ h = e in
      let start : p.1.start ≡ k.1.start = sym place.1 ∙ ap (λ (x : ZoneRun). x.1.start) (sym same) in
      let zone : p.0 ≡ k.0 = sym place.0 ∙ ap (λ (x : ZoneRun). x.0) (sym same) in
      let long : k.1.len ≡ h.1.len = ap (λ (x : ZoneRun). x.1.len) same in
      apart_first k holes p.1.start n order.0 (omega (arith, start, some, long))
      (subst (λ (z : ℕ). AreCovered holes z p.1.start n) zone (left_covers holes parts p.0 p.1.start n later)))
]
none_left (k ∷ holes) parts h p n order (suc i, low, e) found some taken at c =
    let place = same_place h p at in
    let zone = place.0 in
    let start = place.1 in
    let mine : AreCovered holes p.0 p.1.start 1 = (h, (i, omega (arith, low), e), record { zone = zone; some = omega arith; from = omega (arith, start); to = omega (arith, start, some) }) in
    elim (covered_both (left_behind k (find (stands_at k) parts)) (holes_left holes parts) p.0 p.1.start n c) [
      | inl here ↦
          (let covers = (behind_one k (find (stands_at k) parts) p.0 p.1.start n here).0 in
          let to = covers.to in
          let bits = covers.some in
          apart_first k holes p.1.start 1 order.0 (omega (arith, to, bits)) (subst (λ (z : ℕ). AreCovered holes z p.1.start 1) (sym covers.zone) mine))
      | inr later ↦ none_left holes parts h p n order.1 (i, omega (arith, low), e) found some taken at later
    ]

-- ---- plans, one after another

from_fronts : (plan : Plan) (plans : List Plan) (q : ZoneRun) → Contains (all_fronts (plan ∷ plans)) q → Contains (fronts plan.parts.items) q ⊎ Contains (all_fronts plans) q
from_fronts plan plans q at = Contains-append_cases (fronts plan.parts.items) (all_fronts plans) q at

module _ (g : Geometry) (some : 0 < g.min) where
  -- Each part lies in one of the holes.
  pub covered_all : (holes : List ZoneRun) (plans : List Plan) (q : ZoneRun) → CanTakeAll g holes plans → Contains (all_fronts plans) q → AreCovered holes q.0 q.1.start q.1.len
  covered_all holes [] q can (i, low, e) = absurd (omega (arith, low))
  covered_all holes (plan ∷ plans) q can at = elim (from_fronts plan plans q at) [
    | inl here ↦
        (let f = All-contains (IsFrontOfOne g holes) (fronts plan.parts.items) q can.0.cut.fronts here in
        let long = All-contains (HasRunLength g) (fronts plan.parts.items) q can.0.cut.long here in
        let place = same_place f.0 q f.2.at_front in
        let start = place.1 in
        let within = f.2.within in
        let least = long.0 in
        (f.0, f.1, record { zone = place.0; some = omega (arith, least, some); from = omega (arith, start); to = omega (arith, start, within) }))
    | inr later ↦ left_covers holes (fronts plan.parts.items) q.0 q.1.start q.1.len (covered_all (holes_left holes (fronts plan.parts.items)) plans q can.1 later)
  ]

  counted_at : (place : ZoneRun) (ps : List ZoneRun) → 1 ≤ count_at place ps → (p : ZoneRun) × Contains ps p × (stands_at place p ≡ true)
  counted_at place [] few = absurd (omega (arith, few))
  counted_at place (p ∷ ps) few = by (stands_at place p) refl (counted_at place ps)
    where
      by : (b : Bool) → stands_at place p ≡ b → (1 ≤ count_at place ps → (q : ZoneRun) × Contains ps q × (stands_at place q ≡ true)) → (q : ZoneRun) × Contains (p ∷ ps) q × (stands_at place q ≡ true)
      by true e more = (p, (0, omega arith, refl), e)
      by false e more =
          let count : count_at place (p ∷ ps) ≡ cond (stands_at place p) 1 0 + count_at place ps = sum_by-cons (λ (x : ZoneRun). cond (stands_at place x) 1 0) p ps in
          let none : cond (stands_at place p) 1 0 ≡ 0 = ap (λ (b : Bool). let n : ℕ = cond b 1 0 in n) e in
          let r = more (omega (arith, count, none, few)) in
          (r.0, (suc r.1.0, (let low = r.1.1 in omega (arith, low)), r.1.2), r.2)

  -- A part of the first plan and one of a later plan don't begin at one place.
  two_apart : (holes : List ZoneRun) (plan : Plan) (plans : List Plan) (p q : ZoneRun) → AreFreeRuns g holes → CanTakeAll g holes (plan ∷ plans)
      → Contains (fronts plan.parts.items) p → Contains (all_fronts plans) q → p.0 ≡ q.0 → p.1.start ≡ q.1.start → ⊥
  two_apart holes plan plans p q free can at bt zone start =
      let parts = fronts plan.parts.items in
      let f = All-contains (IsFrontOfOne g holes) parts p can.0.cut.fronts at in
      let long = All-contains (HasRunLength g) parts p can.0.cut.long at in
      let least = long.0 in
      let within = f.2.within in
      let there : stands_at f.0 p ≡ true = f.2.at_front in
      let x = found_some f.0 parts (count_at-positive f.0 p parts at there) in
      let is = find_is (stands_at f.0) x.0 parts x.1 in
      let mine = All-contains (HasRunLength g) parts x.0 can.0.cut.long is.0 in
      let lowest = mine.0 in
      let here = same_place f.0 x.0 is.1 in
      let own = same_place f.0 p there in
      let covered = covered_all (holes_left holes parts) plans q can.1 bt in
      let zones : q.0 ≡ x.0.0 = sym zone ∙ sym own.0 ∙ here.0 in
      let starts : q.1.start ≡ x.0.1.start = sym start ∙ sym own.1 ∙ here.1 in
      none_left holes parts f.0 x.0 q.1.len free.order f.1 x.1 (omega (arith, least, within, some)) (omega (arith, lowest, some)) is.1
      (subst (λ (z : ℕ). AreCovered (holes_left holes parts) z x.0.1.start q.1.len) zones (subst (λ (n : ℕ). AreCovered (holes_left holes parts) q.0 n q.1.len) starts covered))

  rest_free : (holes : List ZoneRun) (plan : Plan) (plans : List Plan) → AreFreeRuns g holes → CanTakeAll g holes (plan ∷ plans) → AreFreeRuns g (holes_left holes (fronts plan.parts.items))
  rest_free holes plan plans free can =
      let parts = fronts plan.parts.items in
      subst (AreFreeRuns g) (left_by_parts g holes parts some free can.0.cut.fronts (rising_of parts can.0.rising)) (parts_leave_free g holes parts some free can.0.cut.fronts can.0.cut.long)

  pub all_apart : (holes : List ZoneRun) (plans : List Plan) → AreFreeRuns g holes → CanTakeAll g holes plans → AreApart (all_fronts plans)
  all_apart holes [] free can place = omega arith
  all_apart holes (plan ∷ plans) free can place =
      let parts = fronts plan.parts.items in
      let sum : count_at place (all_fronts (plan ∷ plans)) ≡ count_at place parts + count_at place (all_fronts plans) = sum_by-append (λ (x : ZoneRun). cond (stands_at place x) 1 0) parts (all_fronts plans) in
      let once = can.0.cut.once place in
      let one = free_apart g holes some free place in
      let rest = all_apart (holes_left holes parts) plans (rest_free holes plan plans free can) can.1 place in
      by (count_at place parts) (count_at place (all_fronts plans)) sum (omega (arith, once, one)) rest (λ a b.
      (let p = counted_at place parts a in
      let q = counted_at place (all_fronts plans) b in
      let here = same_place place p.0 p.2 in
      let there = same_place place q.0 q.2 in
      two_apart holes plan plans p.0 q.0 free can p.1 q.1 (sym here.0 ∙ there.0) (sym here.1 ∙ there.1)))
    where
      by : (a b : ℕ) → count_at place (all_fronts (plan ∷ plans)) ≡ a + b → a ≤ 1 → b ≤ 1 → (1 ≤ a → 1 ≤ b → ⊥) → count_at place (all_fronts (plan ∷ plans)) ≤ 1
      by zero b e low high none = omega (arith, e, high)
      by (suc a) zero e low high none = omega (arith, e, low)
      by (suc a) (suc b) e low high none = absurd (none (omega arith) (omega arith))

-- ---- parts of a map's holes

pub fronts_in_zones : (m : Map) → IsNewMap m → 0 < m.geometry.min → (plans : List Plan) (q : ZoneRun) → CanTakeAll m.geometry (hole_runs m) plans → Contains (all_fronts plans) q → IsInZone m.geometry q
fronts_in_zones m is some plans q can at =
    let c = covered_all m.geometry some (hole_runs m) plans q can at in
    let hole = (All-contains (IsPlaced m.geometry) (hole_runs m) c.0 (holes_placed m is) c.1).in_zone in
    let zone = c.2.zone in
    let from = c.2.from in
    let to = c.2.to in
    let low = hole.zone in
    let first : first_bit q.0 ≤ c.0.1.start = subst (λ (z : ℕ). first_bit z ≤ c.0.1.start) zone hole.from in
    let last : c.0.1.start + c.0.1.len ≤ end_bit m.geometry q.0 = subst (λ (z : ℕ). c.0.1.start + c.0.1.len ≤ end_bit m.geometry z) zone hole.to in
    record { zone = omega (arith, zone, low); from = omega (arith, first, from); to = omega (arith, last, to) }
