-- The sectors of an object in new space lie in holes.
use Rattle.std.proofs.Common.{◌≡◌, ◌<◌, ◌≤◌, ℕ, ◌+◌, ◌-◌, ◌*◌, ◌/◌, Bool, true, false, List, ◌++◌, take, drop, ap₂, subst, arith}
use Rattle.std.specs.Prelude.{Contains, Ok, Err}
use Rattle.std.proofs.Math.Nat.{div-mul-le_self, mul-le-mul_right}
use Rattle.std.proofs.lemmas.List.{take-append-drop}
use Rattle.std.proofs.lemmas.List.Elements.{All-contains}
use Rattle.std.proofs.lemmas.Nat.{le-div}
use Rattle.fc_record.specs.declared.Geometry.{Geometry}
use Rattle.fc_record.specs.Record.{base, first_bit}
use Rattle.fc_newmap.specs.Map.{Map, ZoneRun, first_sector, hole_runs, sector_count, sectors_of}
use Rattle.fc_newmap.specs.NewMap.{IsNewMap}
use Rattle.fc_newmap.specs.RunsLaw.{HoldsSector}
use Rattle.fc_newmap.proofs.HeldLemmas.{geometry_facts}
use Rattle.fc_newmap.proofs.PlaceLemmas.{held_in, holder_of, in_either, in_front}
use Rattle.fc_image.specs.Layout.{Layout, hole_sectors, is_among}
use Rattle.fc_image.proofs.EntriesLemmas.{from_filter}
use Rattle.fc_image.specs.effects.Placed.{IsFront}
use Rattle.fc_plan.specs.declared.plan.Plan.{Plan}
use Rattle.fc_plan.specs.Parts.{fronts}
use Rattle.fc_plan.proofs.Order.{same_place}
use Rattle.fc_space.specs.Index.{is_met}
use Rattle.fc_placing.specs.Extents.{parts_met}
use Rattle.fc_placing.specs.Places.{IsOwnPlan}

-- a sector of a part lies in its hole
front_holds : (g : Geometry) (hole part : ZoneRun) (s : ℕ) → 0 < g.sector → IsFront g hole part → HoldsSector g part s → HoldsSector g hole s
front_holds g hole part s size front holds =
    let place = same_place hole part front.at_front in
    let first : first_sector g hole ≡ first_sector g part =
    ap₂ (λ (z start : ℕ). (base g z + (start - first_bit z)) * g.bit_bytes / g.sector) place.0 place.1 in
    let within = front.within in
    let bytes : part.1.len * g.bit_bytes ≤ hole.1.len * g.bit_bytes = mul-le-mul_right {m = part.1.len} {n = hole.1.len} g.bit_bytes within in
    let whole = div-mul-le_self (part.1.len * g.bit_bytes) g.sector in
    let count : sector_count g part ≤ sector_count g hole = le-div (sector_count g part) (hole.1.len * g.bit_bytes) g.sector size (omega (arith, bytes, whole)) in
    let from = holds.from in
    let to = holds.to in
    record { from = omega (arith, first, from); to = omega (arith, first, to, count) }

pub taken_from : (n : ℕ) (xs : List ℕ) (s : ℕ) → is_among (take n xs) s ≡ true → is_among xs s ≡ true
taken_from n xs s h = subst (λ (ys : List ℕ). is_among ys s ≡ true) (take-append-drop n xs) (in_front (take n xs) (drop n xs) s h)

module _ (m : Map) (is : IsNewMap m) (bytes : ℕ) (plan : Plan) (own : IsOwnPlan m bytes plan) where
  met_in_holes : (ahead : Bool) (s : ℕ) → is_among (sectors_of m.geometry (parts_met m.geometry plan.id ahead (fronts plan.parts.items))) s ≡ true → is_among (hole_sectors (Layout.New m)) s ≡ true
  met_in_holes ahead s h =
      let p = holder_of m.geometry (parts_met m.geometry plan.id ahead (fronts plan.parts.items)) s h in
      let there = from_filter (λ (q : ZoneRun). is_met m.geometry ahead plan.id q.0) (fronts plan.parts.items) p.0 p.1.0 in
      let front = All-contains (λ q. (hole : ZoneRun) × Contains (hole_runs m) hole × IsFront m.geometry hole q) (fronts plan.parts.items) p.0 own.plan.taken.fronts there in
      let size : 0 < m.geometry.sector = (let f = geometry_facts m.geometry is.of_record in let room = f.room in let header = f.header in omega (arith, room, header)) in
      held_in m.geometry (hole_runs m) front.0 s front.1 (front_holds m.geometry front.0 p.0 s size front.2 p.1.1)

  pub in_holes : (a b : ℕ) (sectors : List ℕ)
      → sectors ≡ take a (sectors_of m.geometry (parts_met m.geometry plan.id true (fronts plan.parts.items))) ++ take b (sectors_of m.geometry (parts_met m.geometry plan.id false (fronts plan.parts.items)))
      → (s : ℕ) → is_among sectors s ≡ true → is_among (hole_sectors (Layout.New m)) s ≡ true
  in_holes a b sectors are s h =
      let first = sectors_of m.geometry (parts_met m.geometry plan.id true (fronts plan.parts.items)) in
      let second = sectors_of m.geometry (parts_met m.geometry plan.id false (fronts plan.parts.items)) in
      elim (in_either (take a first) (take b second) s (subst (λ (xs : List ℕ). is_among xs s ≡ true) are h)) [
        | Ok i ↦ met_in_holes true s (taken_from a first s i)
        | Err j ↦ met_in_holes false s (taken_from b second s j)
      ]
