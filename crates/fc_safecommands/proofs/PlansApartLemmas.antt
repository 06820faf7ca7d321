-- Plans that are made one after another: no sector lies in the parts of two, all lie in holes, and no plan has one twice.
use Rattle.std.proofs.Common.{◌≡◌, ◌<◌, ◌≤◌, ◌+◌, ◌-◌, ◌*◌, ◌/◌, ◌%◌, ◌==◌, inl, inr, ℕ, zero, suc, true, List, [], ◌∷◌, refl, sym, ap, subst, ◌∙◌, arith, Option, Some}
use Rattle.std.specs.Prelude.{AllPairs, Contains}
use Rattle.std.specs.List.{find}
use Rattle.std.proofs.Math.Nat.{div-mul-le_self, mul-le-mul_right}
use Rattle.std.proofs.lemmas.List.Elements.{All-contains, All-from_recursion, Contains-append_cases, Contains-append_left, Contains-append_right}
use Rattle.std.proofs.lemmas.Nat.{le-div}
use Rattle.fc_record.specs.Record.{base, first_bit}
use Rattle.fc_record.specs.declared.Geometry.{Geometry}
use Rattle.fc_newmap.specs.Map.{Map, ZoneRun, all_runs, disc_bit, first_sector, hole_runs, is_hole, sector_count}
use Rattle.fc_newmap.specs.NewMap.{IsNewMap}
use Rattle.fc_newmap.specs.RunsLaw.{HoldsSector, IsGeometry}
use Rattle.fc_newmap.proofs.CoverLemmas.{Distinct}
use Rattle.fc_newmap.proofs.PlaceLemmas.{filter_in, held_in}
use Rattle.fc_newmap.proofs.RunsLemmas.{runs_apart, sectors_add}
use Rattle.fc_image.specs.Layout.{Layout, hole_sectors, is_among}
use Rattle.fc_image.specs.effects.Placed.{BeginsBefore, HasRunLength, holes_left, left_behind, stands_at}
use Rattle.fc_laws.proofs.lemmas.agree.BeforeLemmas.{new_shape}
use Rattle.fc_plan.specs.declared.plan.Plan.{Plan}
use Rattle.fc_plan.specs.Parts.{fronts}
use Rattle.fc_plan.specs.Plan.{AreApart, AreFreeRuns, IsFreeRun, IsFrontOfOne}
use Rattle.fc_plan.specs.Applied.{CanTakePlan}
use Rattle.fc_plan.proofs.Left.{found_within}
use Rattle.fc_plan.proofs.MapLemmas.{count_at, holes_placed, IsPlaced}
use Rattle.fc_plan.proofs.Order.{free_apart, map_holes-free, rising_of, same_place}
use Rattle.fc_plan.proofs.Plans.{left_by_parts, min_some, parts_leave_free}
use Rattle.fc_change.specs.GrownSpace.{place_of_plan}
use Rattle.fc_change.proofs.PlanLemmas.{LiesWithin, in_part, left_in, rest_within}
use Rattle.fc_commands.proofs.PlanPlaceLemmas.{BeginAsOne, front_holds, once_by}
use Rattle.fc_writing.specs.Steps.{CanTakeAll}
use Rattle.fc_safe.specs.FirstSpace.{all_fronts}
use Rattle.fc_safecommands.proofs.ApartLemmas.{distinct_of}
use Rattle.fc_commands.proofs.GrownApartLemmas.{one_rest, is_rest, found_is}

-- ---- what is left of a hole

-- one of all parts of plans
from_fronts : (plan : Plan) (plans : List Plan) (q : ZoneRun) → Contains (all_fronts plans) q → Contains (all_fronts (plan ∷ plans)) q
from_fronts plan plans q at = Contains-append_right (fronts plan.parts.items) (all_fronts plans) q at

pub in_fronts : (plans : List Plan) (p : Plan) (q : ZoneRun) → Contains plans p → Contains (fronts p.parts.items) q → Contains (all_fronts plans) q
in_fronts [] p q (i, low, e) at = absurd (omega (arith, low))
in_fronts (r ∷ plans) p q (zero, low, e) at = Contains-append_left (fronts r.parts.items) (all_fronts plans) q (subst (λ (s : Plan). Contains (fronts s.parts.items) q) (sym e) at)
in_fronts (r ∷ plans) p q (suc i, low, e) at = from_fronts r plans q (in_fronts plans p q (i, omega (arith, low), e) at)

module _ (m : Map) (is : IsNewMap m) where
  abbrev g : Geometry
  g = m.geometry

  shape : IsGeometry m.geometry
  shape = new_shape m is

  some : 0 < m.geometry.min
  some = min_some m.geometry is.of_record

  -- ---- holes, and what is left of them

  -- Each lies in its zone, no sector lies in two, and all are sectors of the map's holes.
  record AreLeft (holes : List ZoneRun) : Type 0 where
    pub free : AreFreeRuns m.geometry holes
    pub low : (h : ZoneRun) → Contains holes h → first_bit h.0 ≤ h.1.start
    pub one : (h k : ZoneRun) (s : ℕ) → Contains holes h → Contains holes k → HoldsSector m.geometry h s → HoldsSector m.geometry k s → h ≡ k
    pub in_holes : (h : ZoneRun) (s : ℕ) → Contains holes h → HoldsSector m.geometry h s → is_among (hole_sectors (Layout.New m)) s ≡ true

  map_left : AreLeft (hole_runs m)
  map_left = record {
    free = map_holes-free m is;
    low = λ h at. (All-contains (IsPlaced m.geometry) (hole_runs m) h (holes_placed m is) at).in_zone.from;
    one = λ h k s at_h at_k in_h in_k.
        (let run = λ (r : ZoneRun). is_hole r.1.kind in runs_apart m shape is.right h k (filter_in run (all_runs m) h at_h).0 (filter_in run (all_runs m) k at_k).0 s in_h in_k);
    in_holes = λ h s at holds. held_in m.geometry (hole_runs m) h s at holds;
  }

  -- a sector of what lies within a hole is the hole's
  within : (hole run : ZoneRun) (s : ℕ) → first_bit hole.0 ≤ hole.1.start → hole.1.len % m.geometry.q ≡ 0 → LiesWithin hole run → run.1.len % m.geometry.q ≡ 0 → HoldsSector m.geometry run s → HoldsSector m.geometry hole s
  within hole run s low whole w even holds =
      let from = w.from in
      let to = w.to in
      let bit : disc_bit m.geometry run ≡ base m.geometry hole.0 + (run.1.start - first_bit hole.0) = ap (λ (z : ℕ). base m.geometry z + (run.1.start - first_bit z)) (sym w.zone) in
      let first : disc_bit m.geometry hole ≤ disc_bit m.geometry run = omega (arith, bit, from) in
      let last : disc_bit m.geometry run + run.1.len ≤ disc_bit m.geometry hole + hole.1.len = omega (arith, bit, from, to, low) in
      let run_end = sectors_add m.geometry.q m.geometry.bit_bytes m.geometry.sector run.1.len (disc_bit m.geometry run) shape.some shape.whole even in
      let hole_end = sectors_add m.geometry.q m.geometry.bit_bytes m.geometry.sector hole.1.len (disc_bit m.geometry hole) shape.some shape.whole whole in
      let begins = mono (disc_bit m.geometry hole) (disc_bit m.geometry run) first in
      let ends = mono (run.1.len + disc_bit m.geometry run) (hole.1.len + disc_bit m.geometry hole) (omega (arith, last)) in
      let s_from = holds.from in
      let s_to = holds.to in
      record { from = omega (arith, begins, s_from); to = omega (arith, ends, run_end, hole_end, s_to) }
    where
      mono : (a b : ℕ) → a ≤ b → a * m.geometry.bit_bytes / m.geometry.sector ≤ b * m.geometry.bit_bytes / m.geometry.sector
      mono a b less =
          le-div (a * m.geometry.bit_bytes / m.geometry.sector) (b * m.geometry.bit_bytes) m.geometry.sector shape.some
          (let product : a * m.geometry.bit_bytes ≤ b * m.geometry.bit_bytes = mul-le-mul_right {m = a} {n = b} m.geometry.bit_bytes less in
          let down = div-mul-le_self (a * m.geometry.bit_bytes) m.geometry.sector in omega (arith, product, down))

  even_of : (holes : List ZoneRun) → AreLeft holes → (h : ZoneRun) → Contains holes h → h.1.len % m.geometry.q ≡ 0
  even_of holes left h at = (All-contains (IsFreeRun m.geometry) holes h (All-from_recursion (IsFreeRun m.geometry) holes left.free.each) at).long.1

  -- ---- one plan

  module _ (holes : List ZoneRun) (left : AreLeft holes) (plan : Plan) (can : CanTakePlan m.geometry holes plan) where
    abbrev parts : List ZoneRun
    parts = fronts plan.parts.items

    apart : AreApart holes
    apart = free_apart m.geometry holes some left.free

    front : (p : ZoneRun) → Contains parts p → IsFrontOfOne m.geometry holes p
    front p at = All-contains (IsFrontOfOne m.geometry holes) (fronts plan.parts.items) p can.cut.fronts at

    -- the hole of which something is left, and its sectors
    hole_of : (r : ZoneRun) → Contains (holes_left holes parts) r → (k : ZoneRun) × Contains holes k × Contains (left_behind k (find (stands_at k) parts)) r × LiesWithin k r
    hole_of r at =
        let k = left_in holes parts r at in
        (k.0, k.1, k.2, rest_within k.0 r (find (stands_at k.0) parts) (found_within m.geometry holes parts apart can.cut.fronts k.0 k.1 (find (stands_at k.0) parts) refl) k.2)

    rest_free : AreFreeRuns m.geometry (holes_left holes parts)
    rest_free =
        subst (AreFreeRuns m.geometry) (left_by_parts m.geometry holes parts some left.free can.cut.fronts (rising_of parts can.rising))
        (parts_leave_free m.geometry holes parts some left.free can.cut.fronts can.cut.long)

    even_rest : (r : ZoneRun) → Contains (holes_left holes parts) r → r.1.len % m.geometry.q ≡ 0
    even_rest r at = (All-contains (IsFreeRun m.geometry) (holes_left holes parts) r (All-from_recursion (IsFreeRun m.geometry) (holes_left holes parts) rest_free.each) at).long.1

    hole_holds : (r : ZoneRun) (at : Contains (holes_left holes parts) r) (s : ℕ) → HoldsSector m.geometry r s → HoldsSector m.geometry (hole_of r at).0 s
    hole_holds r at s holds = let k = hole_of r at in within k.0 r s (left.low k.0 k.1) (even_of holes left k.0 k.1) k.3 (even_rest r at) holds

    rest_left : AreLeft (holes_left holes parts)
    rest_left = record {
      free = rest_free;
      low = λ r at. (let k = hole_of r at in let low = left.low k.0 k.1 in let from = k.3.from in subst (λ (z : ℕ). first_bit z ≤ r.1.start) k.3.zone (omega (arith, low, from)));
      one = λ r t s at_r at_t in_r in_t.
          (let a = hole_of r at_r in
          let b = hole_of t at_t in
          let hole = left.one a.0 b.0 s a.1 b.1 (hole_holds r at_r s in_r) (hole_holds t at_t s in_t) in
          one_rest b.0 r t (find (stands_at b.0) parts) (subst (λ (h : ZoneRun). Contains (left_behind h (find (stands_at h) parts)) r) hole a.2) b.2);
      in_holes = λ r s at holds. (let k = hole_of r at in left.in_holes k.0 s k.1 (hole_holds r at s holds));
    }

    -- a part's hole, and its sectors
    front_at_hole : (p : ZoneRun) (at : Contains parts p) (s : ℕ) → HoldsSector m.geometry p s → HoldsSector m.geometry (front p at).0 s
    front_at_hole p at s holds = let f = front p at in front_holds m.geometry f.0 p s shape.some f.2 holds

    begin_as_one : BeginAsOne m.geometry parts
    begin_as_one p q s at_p at_q in_p in_q =
        let a = front p at_p in
        let b = front q at_q in
        let hole = left.one a.0 b.0 s a.1 b.1 (front_at_hole p at_p s in_p) (front_at_hole q at_q s in_q) in
        let first = same_place a.0 p a.2.at_front in
        let second = same_place b.0 q b.2.at_front in
        (sym first.0 ∙ ap (λ (r : ZoneRun). r.0) hole ∙ second.0, sym first.1 ∙ ap (λ (r : ZoneRun). r.1.start) hole ∙ second.1)

    -- No sector lies in a part and in what is left.
    never : (p r : ZoneRun) (s : ℕ) → Contains parts p → Contains (holes_left holes parts) r → HoldsSector m.geometry p s → HoldsSector m.geometry r s → ⊥
    never p r s at_p at_r in_p in_r =
        let f = front p at_p in
        let k = hole_of r at_r in
        let hole = left.one f.0 k.0 s f.1 k.1 (front_at_hole p at_p s in_p) (hole_holds r at_r s in_r) in
        let found : find (stands_at k.0) parts ≡ Some p = subst (λ (h : ZoneRun). find (stands_at h) parts ≡ Some p) hole (found_is f.0 p parts once at_p f.2.at_front) in
        let rest = is_rest k.0 p r (subst (λ (o : Option ZoneRun). Contains (left_behind k.0 o) r) found k.2) in
        let place = same_place f.0 p f.2.at_front in
        let zone : p.0 ≡ r.0 = sym place.0 ∙ ap (λ (h : ZoneRun). h.0) hole ∙ k.3.zone in
        let start : r.1.start ≡ p.1.start + p.1.len = ap (λ (x : ZoneRun). x.1.start) (sym rest) ∙ ap (λ (n : ℕ). n + p.1.len) (ap (λ (h : ZoneRun). h.1.start) (sym hole) ∙ place.1) in
        let low : first_bit p.0 ≤ p.1.start = subst (λ (n : ℕ). first_bit p.0 ≤ n) place.1 (subst (λ (z : ℕ). first_bit z ≤ f.0.1.start) place.0 (left.low f.0 f.1)) in
        let bit : disc_bit m.geometry r ≡ p.1.len + disc_bit m.geometry p =
        ap (λ (z : ℕ). base m.geometry z + (r.1.start - first_bit z)) (sym zone) ∙ (let e : base m.geometry p.0 + (r.1.start - first_bit p.0) ≡ p.1.len + (base m.geometry p.0 + (p.1.start - first_bit p.0)) = omega (arith, start, low) in e) in
        let sectors : first_sector m.geometry r ≡ sector_count m.geometry p + first_sector m.geometry p =
        ap (λ (b : ℕ). b * m.geometry.bit_bytes / m.geometry.sector) bit
        ∙ sectors_add m.geometry.q m.geometry.bit_bytes m.geometry.sector p.1.len (disc_bit m.geometry p) shape.some shape.whole (All-contains (HasRunLength m.geometry) parts p can.cut.long at_p).1 in
        let to = in_p.to in
        let from = in_r.from in
        omega (arith, sectors, to, from)
      where
        once : (place : ZoneRun) → count_at place parts ≤ 1
        once place = let many = can.cut.once place in let few = apart place in omega (arith, many, few)

  -- ---- all of them

  -- a sector of a part is one of a hole
  held_by : (holes : List ZoneRun) (plans : List Plan) (q : ZoneRun) (s : ℕ) → AreLeft holes → CanTakeAll m.geometry holes plans → Contains (all_fronts plans) q → HoldsSector m.geometry q s
      → (h : ZoneRun) × Contains holes h × HoldsSector m.geometry h s
  held_by holes [] q s left can (i, low, e) holds = absurd (omega (arith, low))
  held_by holes (p ∷ plans) q s left can at holds = elim (Contains-append_cases (fronts p.parts.items) (all_fronts plans) q at) [
    | inl here ↦ (let f = front holes left p can.0 q here in (f.0, f.1, front_at_hole holes left p can.0 q here s holds))
    | inr later ↦
        (let r = held_by (holes_left holes (fronts p.parts.items)) plans q s (rest_left holes left p can.0) can.1 later holds in
        let k = hole_of holes left p can.0 r.0 r.1 in
        (k.0, k.1, hole_holds holes left p can.0 r.0 r.1 s r.2))
  ]

  begin_all : (holes : List ZoneRun) (plans : List Plan) (p : Plan) → AreLeft holes → CanTakeAll m.geometry holes plans → Contains plans p → BeginAsOne m.geometry (fronts p.parts.items)
  begin_all holes [] p left can (i, low, e) = absurd (omega (arith, low))
  begin_all holes (r ∷ plans) p left can (zero, low, e) = subst (λ (q : Plan). BeginAsOne m.geometry (fronts q.parts.items)) e (begin_as_one holes left r can.0)
  begin_all holes (r ∷ plans) p left can (suc i, low, e) = begin_all (holes_left holes (fronts r.parts.items)) plans p (rest_left holes left r can.0) can.1 (i, omega (arith, low), e)

  never_both : (holes : List ZoneRun) (plans : List Plan) (p q : Plan) (a b : ZoneRun) (s : ℕ) → AreLeft holes → CanTakeAll m.geometry holes plans → Contains plans p → Contains plans q → (p.id ≡ q.id → ⊥)
      → Contains (fronts p.parts.items) a → Contains (fronts q.parts.items) b → HoldsSector m.geometry a s → HoldsSector m.geometry b s → ⊥
  never_both holes [] p q a b s left can (i, low, e) at_q other at_a at_b in_a in_b = omega (arith, low)
  never_both holes (r ∷ plans) p q a b s left can (zero, low, e) (zero, low', f) other at_a at_b in_a in_b = other (ap (λ (x : Plan). x.id) (sym e ∙ f))
  never_both holes (r ∷ plans) p q a b s left can (zero, low, e) (suc j, low', f) other at_a at_b in_a in_b =
      let k = held_by (holes_left holes (fronts r.parts.items)) plans b s (rest_left holes left r can.0) can.1 (in_fronts plans q b (j, omega (arith, low'), f) at_b) in_b in
      never holes left r can.0 a k.0 s (subst (λ (x : Plan). Contains (fronts x.parts.items) a) (sym e) at_a) k.1 in_a k.2
  never_both holes (r ∷ plans) p q a b s left can (suc i, low, e) (zero, low', f) other at_a at_b in_a in_b =
      let k = held_by (holes_left holes (fronts r.parts.items)) plans a s (rest_left holes left r can.0) can.1 (in_fronts plans p a (i, omega (arith, low), e) at_a) in_a in
      never holes left r can.0 b k.0 s (subst (λ (x : Plan). Contains (fronts x.parts.items) b) (sym f) at_b) k.1 in_b k.2
  never_both holes (r ∷ plans) p q a b s left can (suc i, low, e) (suc j, low', f) other at_a at_b in_a in_b =
      never_both (holes_left holes (fronts r.parts.items)) plans p q a b s (rest_left holes left r can.0) can.1 (i, omega (arith, low), e) (j, omega (arith, low'), f) other at_a at_b in_a in_b

  -- ---- the places of plans

  module _ (plans : List Plan) (can : CanTakeAll m.geometry (hole_runs m) plans) where
    -- Each sector lies in a hole,
    pub place_free : (p : Plan) (bytes s : ℕ) → Contains plans p → is_among (place_of_plan m.geometry p bytes) s ≡ true → is_among (hole_sectors (Layout.New m)) s ≡ true
    place_free p bytes s at e =
        let q = in_part m.geometry p bytes s e in
        let h = held_by (hole_runs m) plans q.0 s map_left can (in_fronts plans p q.0 at q.1) q.2 in
        map_left.in_holes h.0 s h.1 h.2

    -- none is there twice,
    pub place_once : (p : Plan) (bytes : ℕ) → Contains plans p → AllPairs BeginsBefore (fronts p.parts.items) → Distinct (place_of_plan m.geometry p bytes)
    place_once p bytes at rising = distinct_of (place_of_plan m.geometry p bytes) (once_by m.geometry bytes p rising (begin_all (hole_runs m) plans p map_left can at))

    -- and none is another's.
    pub place_apart : (p q : Plan) (bytes more s : ℕ) → Contains plans p → Contains plans q → (p.id ≡ q.id → ⊥) → is_among (place_of_plan m.geometry p bytes) s ≡ true → is_among (place_of_plan m.geometry q more) s ≡ true → ⊥
    place_apart p q bytes more s at_p at_q other e f =
        let a = in_part m.geometry p bytes s e in
        let b = in_part m.geometry q more s f in
        never_both (hole_runs m) plans p q a.0 b.0 s map_left can at_p at_q other a.1 b.1 a.2 b.2
