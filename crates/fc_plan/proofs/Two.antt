-- What plans have that are made from one map, one after the other.
use Rattle.std.proofs.Common.{◌≡◌, ◌<◌, ◌≤◌, ◌==◌, ◌⊎◌, ℕ, zero, suc, ◌+◌, ◌-◌, Bool, true, false, cond, List, [], ◌∷◌, length, get_or, Contains, Option, Some, None, refl, sym, ap, subst, ◌∙◌, inl, inr, arith}
use Rattle.std.specs.Prelude.{AllPairs, filter, not}
use Rattle.std.specs.List.{find, range_with_len}
use Rattle.std.proofs.lemmas.Bool.{and_from, eq-eqb}
use Rattle.std.proofs.lemmas.List.Elements.{All-contains, All-from_recursion, Contains-append_cases, Contains-get_or}
use Rattle.fc_record.specs.declared.Geometry.{Geometry}
use Rattle.fc_record.specs.Record.{id_limit}
use Rattle.fc_newmap.specs.Map.{Map, ZoneRun, hole_runs, is_used}
use Rattle.fc_newmap.specs.NewMap.{IsNewMap}
use Rattle.fc_image.specs.effects.Placed.{IsFront, IsPlan, holes_left, left_behind, stands_at}
use Rattle.fc_image.specs.effects.Sharing.{new_ids}
use Rattle.fc_plan.specs.Applied.{CanTakePlan}
use Rattle.fc_plan.specs.Laws.{AreDisjoint, AreTwo}
use Rattle.fc_plan.specs.Parts.{fronts}
use Rattle.fc_plan.specs.Plan.{AreInOrder, EndsBefore}
use Rattle.fc_plan.specs.declared.plan.Plan.{Plan}
use Rattle.fc_plan.proofs.MapLemmas.{count_at, holes_apart}
use Rattle.fc_plan.proofs.Composed.{found_some}
use Rattle.fc_plan.proofs.Left.{count_at-positive, found, rest_of, same_hole}
use Rattle.fc_plan.proofs.Order.{map_holes-free, same_place}
use Rattle.fc_plan.proofs.Plans.{cut_of_plan}
use Rattle.fc_plan.proofs.Shorts.{are_new_ids}
use Rattle.fc_plan.proofs.Taken.{find_is}

-- ---- a plan of a new identifier

unused_of : (t : ℕ → Bool) (xs : List ℕ) (x : ℕ) → Contains (filter (λ k. not (t k)) xs) x → t x ≡ false
unused_of t [] x (k, h, e) = absurd (omega arith)
unused_of t (y ∷ xs) x at = by (t y) refl at (unused_of t xs x)
  where
    first : (k : ℕ) → t y ≡ false → get_or (y ∷ filter (λ j. not (t j)) xs) k x ≡ x → k < suc (length (filter (λ j. not (t j)) xs)) → (Contains (filter (λ j. not (t j)) xs) x → t x ≡ false) → t x ≡ false
    first zero e f low more = ap t (sym f) ∙ e
    first (suc k) e f low more = more (k, omega arith, f)

    by : (b : Bool) → t y ≡ b → Contains (cond (not b) (y ∷ filter (λ k. not (t k)) xs) (filter (λ k. not (t k)) xs)) x → (Contains (filter (λ k. not (t k)) xs) x → t x ≡ false) → t x ≡ false
    by true e c more = more c
    by false e c more = first c.0 e c.2 (let low = c.1 in omega arith) more

pub can_take : (m : Map) (holes : List ZoneRun) (bits : ℕ) (plan : Plan) → IsPlan m.geometry holes bits (fronts plan.parts.items) → Contains (new_ids m) plan.id
    → CanTakePlan m.geometry holes plan × (is_used m plan.id ≡ false)
can_take m holes bits plan is at =
    let ids = are_new_ids m in
    let low = ids.some plan.id at in (
      record { cut = cut_of_plan m.geometry holes bits (fronts plan.parts.items) is; rising = is.rising; some = omega arith; fits = ids.fit plan.id at },
      unused_of (is_used m) (range_with_len 3 (id_limit m.geometry - 3)) plan.id at,
    )

-- ---- two holes, and what is left of holes

order_two : (xs : List ZoneRun) → AreInOrder xs → (h k : ZoneRun) → Contains xs h → Contains xs k → (h ≡ k) ⊎ (EndsBefore h k ⊎ EndsBefore k h)
order_two [] a h k (i, low, e) c = absurd (omega arith)
order_two (x ∷ xs) a h k (zero, low, e) (zero, high, f) = inl (sym e ∙ f)
order_two (x ∷ xs) a h k (zero, low, e) (suc j, high, f) =
    (let same : x ≡ h = e in inr (inl (subst (λ (y : ZoneRun). EndsBefore y k) same (All-contains (EndsBefore x) xs k (All-from_recursion (EndsBefore x) xs a.0) (j, omega arith, f)))))
order_two (x ∷ xs) a h k (suc i, low, e) (zero, high, f) =
    (let same : x ≡ k = f in inr (inr (subst (λ (y : ZoneRun). EndsBefore y h) same (All-contains (EndsBefore x) xs h (All-from_recursion (EndsBefore x) xs a.0) (i, omega arith, e)))))
order_two (x ∷ xs) a h k (suc i, low, e) (suc j, high, f) = order_two xs a.1 h k (i, omega arith, e) (j, omega arith, f)

-- the hole of which a rest is left
left_in : (holes parts : List ZoneRun) (r : ZoneRun) → Contains (holes_left holes parts) r → (k : ZoneRun) × Contains holes k × Contains (left_behind k (find (stands_at k) parts)) r
left_in [] parts r (i, low, e) = absurd (omega arith)
left_in (h ∷ holes) parts r at = elim (Contains-append_cases (left_behind h (find (stands_at h) parts)) (holes_left holes parts) r at) [
  | inl here ↦ (h, (0, omega arith, refl), here)
  | inr later ↦ (let k = left_in holes parts r later in (k.0, (suc k.1.0, (let low = k.1.1 in omega arith), k.1.2), k.2))
]

-- a rest lies in its hole, after the part that was taken
pub record LiesIn (k r : ZoneRun) (o : Option ZoneRun) : Type 0 where
  pub zone : k.0 ≡ r.0
  pub from : k.1.start ≤ r.1.start
  pub to : r.1.start + r.1.len ≤ k.1.start + k.1.len
  pub behind : (p : ZoneRun) → o ≡ Some p → k.1.start + p.1.len ≤ r.1.start

one_there : (x y : ZoneRun) → Contains (x ∷ []) y → x ≡ y
one_there x y (zero, low, e) = e
one_there x y (suc i, low, e) = absurd (omega arith)

lies_in : (k r : ZoneRun) (o : Option ZoneRun) → ((p : ZoneRun) → o ≡ Some p → p.1.len ≤ k.1.len) → Contains (left_behind k o) r → LiesIn k r o
lies_in k r None short at =
    let same : k ≡ r = one_there k r at in
    subst (λ (x : ZoneRun). LiesIn k x None) same (record { zone = refl; from = omega arith; to = omega arith; behind = λ p e. absurd (cc) })
lies_in k r (Some p) short at = by (p.1.len == k.1.len) at
  where
    by : (b : Bool) → Contains (cond b [] (rest_of k p ∷ [])) r → LiesIn k r (Some p)
    by true (i, low, e) = absurd (omega arith)
    by false c =
        let same : rest_of k p ≡ r = one_there (rest_of k p) r c in
        let less = short p refl in
        subst (λ (x : ZoneRun). LiesIn k x (Some p)) same (record { zone = refl; from = omega arith; to = omega arith; behind = λ q e. (let is : p ≡ q = cc in subst (λ (y : ZoneRun). k.1.start + y.1.len ≤ k.1.start + p.1.len) is (omega arith)) })

-- ---- two plans

module _ (g : Geometry) (h p k r q : ZoneRun) (o : Option ZoneRun) (first : IsFront g h p) (second : IsFront g r q) (lies : LiesIn k r o) where
  before_it : EndsBefore h k → AreDisjoint p q
  before_it (inl less) = inl (λ e. (let a = same_place h p first.at_front in let b = same_place r q second.at_front in let c = lies.zone in omega (arith, a.0, b.0)))
  before_it (inr (zone, less)) =
      inr (inl (let a = same_place h p first.at_front in let b = same_place r q second.at_front in let w = first.within in let f = lies.from in omega (arith, a.1, b.1)))

  behind_it : EndsBefore k h → AreDisjoint p q
  behind_it (inl less) = inl (λ e. (let a = same_place h p first.at_front in let b = same_place r q second.at_front in let c = lies.zone in omega (arith, a.0, b.0)))
  behind_it (inr (zone, less)) =
      inr (inr (let a = same_place h p first.at_front in let b = same_place r q second.at_front in let w = second.within in let t = lies.to in omega (arith, a.1, b.1)))

  in_it : h ≡ k → o ≡ Some p → AreDisjoint p q
  in_it same is =
      let there = lies.behind p is in
      let start : h.1.start ≡ k.1.start = ap (λ (x : ZoneRun). x.1.start) same in
      inr (inl (let a = same_place h p first.at_front in let b = same_place r q second.at_front in omega (arith, a.1, b.1)))

-- the part that is found at a hole is the one that was cut from it
found_is : (h p : ZoneRun) (parts : List ZoneRun) → ((place : ZoneRun) → count_at place parts ≤ 1) → Contains parts p → stands_at h p ≡ true → find (stands_at h) parts ≡ Some p
found_is h p parts once among at =
    let x = found_some h parts (count_at-positive h p parts among at) in
    let is = find_is (stands_at h) x.0 parts x.1 in
    let a = same_place h x.0 is.1 in
    let b = same_place h p at in
    let there : stands_at x.0 p ≡ true = and_from (x.0.0 == p.0) (x.0.1.start == p.1.start) (eq-eqb x.0.0 p.0 (sym a.0 ∙ b.0)) (eq-eqb x.0.1.start p.1.start (sym a.1 ∙ b.1)) in
    x.1 ∙ ap Some (same_hole parts x.0 p (once x.0) is.0 among there)

pub two_plans : (m : Map) (first second : ℕ) (object dir : Plan) (rest : List ℕ) → IsNewMap m → IsPlan m.geometry (hole_runs m) first (fronts object.parts.items)
    → IsPlan m.geometry (holes_left (hole_runs m) (fronts object.parts.items)) second (fronts dir.parts.items) → new_ids m ≡ object.id ∷ rest → Contains rest dir.id → AreTwo object dir
two_plans m first second object dir rest is one two ids at =
    let holes = hole_runs m in
    let parts = fronts object.parts.items in
    let cut = cut_of_plan m.geometry holes first parts one in
    let once : (place : ZoneRun) → count_at place parts ≤ 1 = λ place. (let h = holes_apart m is place in omega (arith, cut.once place)) in
    let rise : AllPairs (λ a b. a < b) (object.id ∷ rest) = subst (λ (xs : List ℕ). AllPairs (λ a b. a < b) xs) ids (are_new_ids m).rise in
    record {
      parts = λ i d low. λ j e high.
          let p = get_or parts i d in
          let q = get_or (fronts dir.parts.items) j e in
          let f = one.taken.fronts i d low in
          let s = two.taken.fronts j e high in
          let k = left_in holes parts s.0 s.1 in
          let lies = lies_in k.0 s.0 (find (stands_at k.0) parts) (λ x there. (found m.geometry holes parts (holes_apart m is) one.taken.fronts k.0 x k.1 there).within) k.2 in
          elim (order_two holes (map_holes-free m is).order f.0 k.0 f.1 k.1) [
            | inl same ↦ in_it m.geometry f.0 p k.0 s.0 q (find (stands_at k.0) parts) f.2 s.2 lies same
                (subst (λ (x : ZoneRun). find (stands_at x) parts ≡ Some p) same (found_is f.0 p parts once (Contains-get_or parts i d low) f.2.at_front))
            | inr other ↦ elim other [
              | inl before ↦ before_it m.geometry f.0 p k.0 s.0 q (find (stands_at k.0) parts) f.2 s.2 lies before
              | inr behind ↦ behind_it m.geometry f.0 p k.0 s.0 q (find (stands_at k.0) parts) f.2 s.2 lies behind
            ]
          ];
      ids = λ same. (let less = rise 0 (suc at.0) dir.id (omega arith) (let low = at.1 in omega arith) in omega (arith, at.2));
    }
