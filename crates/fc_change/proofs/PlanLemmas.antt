-- Plans for an object, and then for a directory, from one map.
use Rattle.std.proofs.Common.{◌≡◌, ◌<◌, ◌≤◌, inl, inr, ◌==◌, ℕ, zero, suc, ◌+◌, ◌-◌, ◌*◌, ◌/◌, ◌%◌, ◌^◌, Bool, true, false, cond, List, [], ◌∷◌, ◌++◌, get_or, length, take, drop, refl, sym, ap, subst, ◌∙◌, arith, Some, None, Option}
use Rattle.std.specs.Prelude.{All, Contains, IfSome, Result, Ok, Err}
use Rattle.std.specs.List.{find}
use Rattle.std.specs.Int.{div_ceil}
use Rattle.std.proofs.Math.Nat.{mul-le-mul_right}
use Rattle.std.proofs.lemmas.List.{take-append-drop}
use Rattle.std.proofs.lemmas.List.Elements.{All-contains, Contains-append_cases, Contains-get_or}
use Rattle.std.proofs.lemmas.Nat.{le-div}
use Rattle.fc_record.specs.declared.Geometry.{Geometry}
use Rattle.fc_record.specs.Record.{base, end_bit, first_bit}
use Rattle.fc_newmap.specs.Map.{Map, ZoneRun, disc_bit, hole_runs, sectors_of}
use Rattle.fc_newmap.specs.NewMap.{IsNewMap}
use Rattle.fc_newmap.specs.RunsLaw.{HoldsSector, IsGeometry}
use Rattle.fc_newmap.specs.Walk.{IsInZone}
use Rattle.fc_newmap.proofs.GeometryLemmas.{geometry_of_valid}
use Rattle.fc_newmap.proofs.PlaceLemmas.{held_in, holder_of, in_either, in_front}
use Rattle.fc_newmap.proofs.RunsLemmas.{sectors_add}
use Rattle.fc_image.specs.Layout.{Layout, hole_sectors, is_among}
use Rattle.fc_image.proofs.EntriesLemmas.{from_filter, in_mapped}
use Rattle.fc_image.specs.effects.Placed.{HasRunLength, IsPlan, holes_left, left_behind, stands_at}
use Rattle.fc_image.specs.effects.Sharing.{new_ids, units}
use Rattle.fc_plan.specs.declared.plan.Part.{Part}
use Rattle.fc_plan.specs.declared.plan.Plan.{Plan}
use Rattle.fc_plan.specs.declared.supply.PlanError.{PlanError}
use Rattle.fc_plan.specs.Applied.{parts_in}
use Rattle.fc_plan.specs.Parts.{front_at, fronts}
use Rattle.fc_plan.specs.Plan.{IsFrontOfOne}
use Rattle.fc_plan.specs.Supply.{Stock, stock_of}
use Rattle.fc_plan.proofs.Left.{found, left_of_none, rest_of}
use Rattle.fc_plan.proofs.MapLemmas.{IsPlaced, holes_apart, holes_placed}
use Rattle.fc_plan.proofs.Order.{same_place}
use Rattle.fc_plan.proofs.Shorts.{are_new_ids}
use Rattle.fc_placing.proofs.Shares.{ids_few}
use Rattle.fc_space.specs.Index.{is_met}
use Rattle.fc_placing.specs.Extents.{parts_met}
use Rattle.fc_placing.specs.Places.{IsOwnPlan}
use Rattle.fc_placing.proofs.ExtentLemmas.{take_append}
use Rattle.fc_placing.proofs.PlacesLemmas.{own_plan}
use Rattle.fc_change.specs.GrownSpace.{IsIdFor, place_of_plan, plan_sectors}
use Rattle.fc_change.specs.Planning.{IsIdFrom, IsObjectPlan, IsObjectTaken, IsTakenFrom}
use Rattle.fc_placing.proofs.HoleLemmas.{taken_from}

-- ---- what is planned from a map

module _ (m : Map) (is : IsNewMap m) (old left : Stock) (all : old ≡ stock_of m) (bytes : ℕ) where
  pub object_own : (object : Option Plan) → IsObjectTaken old left bytes object → IsObjectPlan m bytes object
  object_own None p = p.0
  object_own (Some plan) p = own_plan m is bytes p.some old left all (let r : Result Plan PlanError = Ok plan in r) p.plan p.id

  -- what the object leaves
  pub holes_then : (object : Option Plan) → IsObjectTaken old left bytes object → left.holes ≡ holes_left (hole_runs m) (parts_in object)
  holes_then None p = ap (λ (s : Stock). s.holes) (p.1 ∙ all) ∙ sym (left_of_none (hole_runs m))
  holes_then (Some plan) p = ap (λ (s : Stock). s.holes) p.rest ∙ ap (λ (s : Stock). holes_left s.holes (fronts plan.parts.items)) all

  pub geometry_then : (object : Option Plan) → IsObjectTaken old left bytes object → left.geometry ≡ m.geometry
  geometry_then None p = ap (λ (s : Stock). s.geometry) (p.1 ∙ all)
  geometry_then (Some plan) p = ap (λ (s : Stock). s.geometry) p.rest ∙ ap (λ (s : Stock). s.geometry) all

  pub id_then : (object : Option Plan) → IsObjectTaken old left bytes object → (alone : Bool) (address id : ℕ) → IsIdFrom left.ids alone address id → IsIdFor m alone address object id
  id_then object p true address id from = from
  id_then None p false address id from = (subst (λ (s : Stock). Contains s.ids id) (p.1 ∙ all) from, tt)
  id_then (Some plan) p false address id from = (
    subst (λ (ids : List ℕ). Contains ids id) (sym p.id ∙ ap (λ (s : Stock). s.ids) all) (suc from.0, (let low = from.1 in omega (arith, low)), from.2),
    λ same. (
        let rise : (λ (ids : List ℕ). (k j : ℕ) → k < j → j < length ids → get_or ids k 0 < get_or ids j 0) (plan.id ∷ left.ids) =
        subst (λ (ids : List ℕ). (k j : ℕ) → k < j → j < length ids → get_or ids k 0 < get_or ids j 0) (sym (ap (λ (s : Stock). s.ids) all) ∙ p.id) (rises m) in
        let less = rise 0 (suc from.0) (omega arith) (let low = from.1 in omega (arith, low)) in
        let there = place_same left.ids from.0 id from.1 from.2 in
        omega (arith, less, same, there)),
  )
    where
      rises : (m : Map) (k j : ℕ) → k < j → j < length (new_ids m) → get_or (new_ids m) k 0 < get_or (new_ids m) j 0
      rises m k j less low = (are_new_ids m).rise k j 0 less low

      place_same : (ids : List ℕ) (k x : ℕ) → k < length ids → get_or ids k x ≡ x → get_or ids k 0 ≡ x
      place_same [] k x low e = absurd (omega (arith, low))
      place_same (y ∷ ids) zero x low e = e
      place_same (y ∷ ids) (suc k) x low e = place_same ids k x (omega (arith, low)) e

-- ---- where parts of what is left lie

-- a run within a hole
pub record LiesWithin (hole run : ZoneRun) : Type 0 where
  pub zone : hole.0 ≡ run.0
  pub from : hole.1.start ≤ run.1.start
  pub to : run.1.start + run.1.len ≤ hole.1.start + hole.1.len

pub one_there : (x y : ZoneRun) → Contains (x ∷ []) y → x ≡ y
one_there x y (zero, low, e) = e
one_there x y (suc i, low, e) = absurd (omega (arith, low))

pub rest_within : (hole rest : ZoneRun) (o : Option ZoneRun) → IfSome o (λ part. part.1.len ≤ hole.1.len) → Contains (left_behind hole o) rest → LiesWithin hole rest
rest_within hole rest None short at =
    subst (λ (x : ZoneRun). LiesWithin hole x) (one_there hole rest at) (record { zone = refl; from = omega arith; to = omega arith })
rest_within hole rest (Some part) short at = by (part.1.len == hole.1.len) at
  where
    by : (b : Bool) → Contains (cond b [] (rest_of hole part ∷ [])) rest → LiesWithin hole rest
    by true (i, low, e) = absurd (omega (arith, low))
    by false c = subst (λ (x : ZoneRun). LiesWithin hole x) (one_there (rest_of hole part) rest c) (record { zone = refl; from = omega arith; to = omega (arith, short) })

-- the hole of which a rest is left
pub left_in : (holes parts : List ZoneRun) (r : ZoneRun) → Contains (holes_left holes parts) r → (k : ZoneRun) × Contains holes k × Contains (left_behind k (find (stands_at k) parts)) r
left_in [] parts r (i, low, e) = absurd (omega (arith, low))
left_in (h ∷ holes) parts r at = elim (Contains-append_cases (left_behind h (find (stands_at h) parts)) (holes_left holes parts) r at) [
  | inl here ↦ (h, (0, omega arith, refl), here)
  | inr later ↦ (let k = left_in holes parts r later in (k.0, (suc k.1.0, (let low = k.1.1 in omega (arith, low)), k.1.2), k.2))
]

module _ (m : Map) (is : IsNewMap m) where
  abbrev g : Geometry
  g = m.geometry

  good : IsGeometry m.geometry
  good = subst IsGeometry is.of_record.1.1 (geometry_of_valid is.of_record.0 is.of_record.1.0)

  hole_at : (hole : ZoneRun) → Contains (hole_runs m) hole → IsPlaced m.geometry hole
  hole_at hole at = All-contains (IsPlaced m.geometry) (hole_runs m) hole (holes_placed m is) at

  -- what lies within a hole lies in its zone, and its sectors are the hole's
  within_zone : (hole run : ZoneRun) → Contains (hole_runs m) hole → LiesWithin hole run → IsInZone m.geometry run
  within_zone hole run at w =
      let placed = (hole_at hole at).in_zone in record {
        zone = subst (λ (z : ℕ). z < m.geometry.zones) w.zone placed.zone;
        from = subst (λ (z : ℕ). first_bit z ≤ run.1.start) w.zone (let from = placed.from in let low = w.from in omega (arith, from, low));
        to = subst (λ (z : ℕ). run.1.start + run.1.len ≤ end_bit m.geometry z) w.zone (let to = placed.to in let high = w.to in omega (arith, to, high));
      }

  pub within_holds : (hole run : ZoneRun) (s : ℕ) → Contains (hole_runs m) hole → LiesWithin hole run → run.1.len % m.geometry.q ≡ 0 → HoldsSector m.geometry run s → HoldsSector m.geometry hole s
  within_holds hole run s at w even holds =
      let placed = hole_at hole at in
      let from = w.from in
      let to = w.to in
      let low = placed.in_zone.from in
      let bit : disc_bit m.geometry run ≡ base m.geometry hole.0 + (run.1.start - first_bit hole.0) = ap (λ (z : ℕ). base m.geometry z + (run.1.start - first_bit z)) (sym w.zone) in
      let first : disc_bit m.geometry hole ≤ disc_bit m.geometry run = omega (arith, bit, from) in
      let last : disc_bit m.geometry run + run.1.len ≤ disc_bit m.geometry hole + hole.1.len = omega (arith, bit, from, to, low) in
      let run_end = sectors_add m.geometry.q m.geometry.bit_bytes m.geometry.sector run.1.len (disc_bit m.geometry run) good.some good.whole even in
      let hole_end = sectors_add m.geometry.q m.geometry.bit_bytes m.geometry.sector hole.1.len (disc_bit m.geometry hole) good.some good.whole placed.long.1 in
      let begins = mono (disc_bit m.geometry hole) (disc_bit m.geometry run) first in
      let ends = mono (run.1.len + disc_bit m.geometry run) (hole.1.len + disc_bit m.geometry hole) (omega (arith, last)) in
      let s_from = holds.from in
      let s_to = holds.to in
      record { from = omega (arith, begins, s_from); to = omega (arith, ends, run_end, hole_end, s_to) }
    where
      mono : (a b : ℕ) → a ≤ b → a * m.geometry.bit_bytes / m.geometry.sector ≤ b * m.geometry.bit_bytes / m.geometry.sector
      mono a b low =
          le-div (a * m.geometry.bit_bytes / m.geometry.sector) (b * m.geometry.bit_bytes) m.geometry.sector good.some
          (let product : a * m.geometry.bit_bytes ≤ b * m.geometry.bit_bytes = mul-le-mul_right {m = a} {n = b} m.geometry.bit_bytes low in
          let whole = Rattle.std.proofs.Math.Nat.div-mul-le_self (a * m.geometry.bit_bytes) m.geometry.sector in omega (arith, product, whole))

  -- parts of what an object's parts leave
  module _ (object parts : List ZoneRun) (bits : ℕ) (first : All (IsFrontOfOne m.geometry (hole_runs m)) object) (plan : IsPlan m.geometry (holes_left (hole_runs m) object) bits parts) where
    in_hole : (p : ZoneRun) → Contains parts p → (hole : ZoneRun) × Contains (hole_runs m) hole × LiesWithin hole p
    in_hole p at =
        let front = All-contains (IsFrontOfOne m.geometry (holes_left (hole_runs m) object)) parts p plan.taken.fronts at in
        let rest = front.0 in
        let k = left_in (hole_runs m) object rest front.1 in
        let lies = rest_within k.0 rest (find (stands_at k.0) object) (short k.0 k.1 (find (stands_at k.0) object) refl) k.2 in
        let place = same_place rest p front.2.at_front in
        let within = front.2.within in
        let from = lies.from in
        let to = lies.to in
        (k.0, k.1, record { zone = lies.zone ∙ place.0; from = omega (arith, from, place.1); to = omega (arith, to, within, place.1) })
      where
        short : (hole : ZoneRun) → Contains (hole_runs m) hole → (o : Option ZoneRun) → find (stands_at hole) object ≡ o → IfSome o (λ part. part.1.len ≤ hole.1.len)
        short hole at None e = tt
        short hole at (Some part) e = (found m.geometry (hole_runs m) object (holes_apart m is) first hole part at e).within

    pub left_zones : (p : ZoneRun) → Contains parts p → IsInZone m.geometry p
    left_zones p at = let h = in_hole p at in within_zone h.0 p h.1 h.2

    pub left_free : (s : ℕ) (p : ZoneRun) → Contains parts p → HoldsSector m.geometry p s → is_among (hole_sectors (Layout.New m)) s ≡ true
    left_free s p at holds =
        let h = in_hole p at in
        held_in m.geometry (hole_runs m) h.0 s h.1 (within_holds h.0 p s h.1 h.2 (All-contains (HasRunLength m.geometry) parts p plan.long at).1 holds)

-- a sector of a plan's place lies in one of its parts
pub in_part : (g : Geometry) (plan : Plan) (bytes s : ℕ) → is_among (place_of_plan g plan bytes) s ≡ true → (p : ZoneRun) × Contains (fronts plan.parts.items) p × HoldsSector g p s
in_part g plan bytes s h =
    elim (in_either (sectors_of g (parts_met g plan.id true (fronts plan.parts.items))) (sectors_of g (parts_met g plan.id false (fronts plan.parts.items))) s (taken_from (div_ceil bytes g.sector) (plan_sectors g plan) s h)) [
      | Ok i ↦ met true i
      | Err j ↦ met false j
    ]
  where
    met : (ahead : Bool) → is_among (sectors_of g (parts_met g plan.id ahead (fronts plan.parts.items))) s ≡ true → (p : ZoneRun) × Contains (fronts plan.parts.items) p × HoldsSector g p s
    met ahead i =
        let p = holder_of g (parts_met g plan.id ahead (fronts plan.parts.items)) s i in
        (p.0, from_filter (λ (q : ZoneRun). is_met g ahead plan.id q.0) (fronts plan.parts.items) p.0 p.1.0, p.1.1)

-- an object's parts are fronts of holes
pub object_fronts : (m : Map) (bytes : ℕ) (object : Option Plan) → IfSome object (IsOwnPlan m bytes) → All (IsFrontOfOne m.geometry (hole_runs m)) (parts_in object)
object_fronts m bytes None own = λ k d low. absurd (omega (arith, low))
object_fronts m bytes (Some plan) own = own.plan.taken.fronts

pub own_if : (m : Map) (bytes : ℕ) (object : Option Plan) → IsObjectPlan m bytes object → IfSome object (IsOwnPlan m bytes)
own_if m bytes None p = tt
own_if m bytes (Some plan) p = p

-- the parts of a directory's plan lie in zones
pub parts_zones : (m : Map) (is : IsNewMap m) (bytes bits : ℕ) (object : Option Plan) (plan : Plan) → IfSome object (IsOwnPlan m bytes)
    → IsPlan m.geometry (holes_left (hole_runs m) (parts_in object)) bits (fronts plan.parts.items) → All (λ (part : Part). IsInZone m.geometry (front_at part)) plan.parts.items
parts_zones m is bytes bits object plan own planned k d low =
    left_zones m is (parts_in object) (fronts plan.parts.items) bits (object_fronts m bytes object own) planned (front_at (get_or plan.parts.items k d))
    (in_mapped front_at plan.parts.items (get_or plan.parts.items k d) (Contains-get_or plan.parts.items k d low))

-- the sectors that two passes over the parts add
pub both_passes : (g : Geometry) (plan : Plan) (need bytes : ℕ) (sectors mid first : List ℕ) → need ≡ div_ceil bytes g.sector → first ≡ []
    → mid ≡ first ++ take need (sectors_of g (parts_met g plan.id true (fronts plan.parts.items)))
    → sectors ≡ mid ++ take (need - length (sectors_of g (parts_met g plan.id true (fronts plan.parts.items)))) (sectors_of g (parts_met g plan.id false (fronts plan.parts.items)))
    → sectors ≡ place_of_plan g plan bytes
both_passes g plan need bytes sectors mid first need_is none one two =
    let ahead = sectors_of g (parts_met g plan.id true (fronts plan.parts.items)) in
    let behind = sectors_of g (parts_met g plan.id false (fronts plan.parts.items)) in
    two ∙ ap (λ (xs : List ℕ). xs ++ take (need - length ahead) behind) (one ∙ ap (λ (xs : List ℕ). xs ++ take need ahead) none)
    ∙ sym (take_append need ahead behind) ∙ ap (λ (n : ℕ). take n (ahead ++ behind)) need_is

-- a new identifier is a number of 24 bits
pub few_new : (m : Map) (is : IsNewMap m) (id : ℕ) → Contains (new_ids m) id → id < 2 ^ 24
few_new m is id at =
    let fits = (are_new_ids m).fit id at in
    let few = ids_few m.geometry is.of_record in
    omega (arith, fits, few)

-- the directory's plan, in what the object's leaves
pub directory_planned : (m : Map) (left : Stock) (object : Option Plan) (alone : Bool) (address len : ℕ) (taken : Plan) → left.geometry ≡ m.geometry
    → left.holes ≡ holes_left (hole_runs m) (parts_in object) → IsTakenFrom left alone address len taken
    → IsPlan m.geometry (holes_left (hole_runs m) (parts_in object)) (units m.geometry len) (fronts taken.parts.items)
directory_planned m left object alone address len taken geometry holes planned =
    subst (λ (g : Geometry). IsPlan g (holes_left (hole_runs m) (parts_in object)) (units g len) (fronts taken.parts.items)) geometry
    (subst (λ (hs : List ZoneRun). IsPlan left.geometry hs (units left.geometry len) (fronts taken.parts.items)) holes planned.plan)
