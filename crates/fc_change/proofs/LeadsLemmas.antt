-- Where the address of new space leads once a map has it.
use Rattle.std.proofs.Common.{◌≡◌, ◌<◌, ◌≤◌, ◌&&◌, ◌+◌, ◌-◌, ◌*◌, ◌/◌, ◌%◌, ℕ, Bool, true, false, cond, List, [], ◌∷◌, ◌++◌, length, take, drop, ◌^◌, nat_le, refl, sym, ap, ap₂, subst, ◌∙◌, arith, Some, None, Option}
use Rattle.std.specs.Prelude.{All, AllPairs, Contains, nat_lt}
use Rattle.std.specs.List.{AllByRecursion}
use Rattle.std.specs.Int.{div_ceil}
use Rattle.std.proofs.lemmas.Bool.{le-leb, leb-true, lt-ltb, ltb-true, ne_eqb, and_parts as and_both}
use Rattle.std.proofs.lemmas.List.Elements.{All-from_recursion, recursion_from_All}
use Rattle.std.proofs.lemmas.List.Sorted.{All-permutation, sum_by-IsPermutation}
use Rattle.std.proofs.lemmas.List.Sums.{sum_by-cons}
use Rattle.fc_record.specs.declared.Geometry.{Geometry}
use Rattle.fc_record.specs.Record.{id_limit}
use Rattle.fc_newmap.specs.Map.{Map, ZoneRun, bits_in, id_runs, run_sectors, sectors_of}
use Rattle.fc_newmap.specs.NewMap.{IsNewMap}
use Rattle.fc_newmap.specs.RunsLaw.{IsGeometry}
use Rattle.fc_newmap.specs.Walk.{IsInZone}
use Rattle.fc_newmap.proofs.GeometryLemmas.{geometry_of_valid}
use Rattle.fc_image.specs.Layout.{Layout, first_part, id_of, id_sectors, is_among, is_object_id, low_of, low_start, new_sectors, sectors_at}
use Rattle.fc_image.specs.effects.Placed.{BeginsBefore, HasRunLength}
use Rattle.fc_image.specs.effects.Sharing.{units}
use Rattle.fc_plan.specs.declared.plan.Plan.{Plan}
use Rattle.fc_plan.specs.Applied.{IsTakenIn, parts_in_order}
use Rattle.fc_plan.specs.Parts.{fronts}
use Rattle.fc_plan.specs.Taking.{as_runs, with_id}
use Rattle.fc_plan.proofs.Units.{units_whole}
use Rattle.fc_placing.specs.Extents.{parts_met}
use Rattle.fc_placing.proofs.AddressLemmas.{bit_positive}
use Rattle.fc_placing.proofs.ExtentLemmas.{enough_sectors, long_runs, ordered, sectors_append, units_room}
use Rattle.fc_plan.specs.declared.plan.Part.{Part}
use Rattle.fc_plan.specs.Applied.{parts_in}
use Rattle.fc_plan.specs.Parts.{front_at}
use Rattle.fc_change.specs.declared.job.Growth.{Growth}
use Rattle.fc_change.specs.GrownSpace.{AreFree, IsIdFor, LeadsTo, place_of_plan, plan_sectors}
use Rattle.fc_change.specs.Planning.{IsNewSpaceOf}
use Rattle.fc_change.proofs.PlanLemmas.{few_new, in_part, left_free, left_zones, object_fronts, own_if, parts_zones}

-- parts as runs of an identifier
as_same : (g : Geometry) (id : ℕ) (ps : List ZoneRun) → sectors_of g (as_runs id ps) ≡ sectors_of g ps
as_same g id [] = refl
as_same g id (p ∷ ps) = ap (λ (xs : List ℕ). run_sectors g p ++ xs) (as_same g id ps)

pub as_bits : (id : ℕ) (ps : List ZoneRun) → bits_in (as_runs id ps) ≡ bits_in ps
as_bits id [] = refl
as_bits id (p ∷ ps) =
    sum_by-cons (λ (q : ZoneRun). q.1.len) (with_id id p) (as_runs id ps) ∙ ap (λ (n : ℕ). p.1.len + n) (as_bits id ps) ∙ sym (sum_by-cons (λ (q : ZoneRun). q.1.len) p ps)

as_even : (g : Geometry) (id : ℕ) (ps : List ZoneRun) → AllByRecursion (HasRunLength g) ps → AllByRecursion (λ (p : ZoneRun). p.1.len % g.q ≡ 0) (as_runs id ps)
as_even g id [] all = tt
as_even g id (p ∷ ps) all = (all.0.1, as_even g id ps all.1)

-- some parts with bits enough for some bytes, which can be taken as runs of the plan's identifier
pub record IsPlaceable (m : Map) (bytes : ℕ) (plan : Plan) : Type 0 where
  pub some : 0 < bytes
  pub rising : AllPairs BeginsBefore (fronts plan.parts.items)
  pub zones : (p : ZoneRun) → Contains (fronts plan.parts.items) p → IsInZone m.geometry p
  pub long : All (HasRunLength m.geometry) (fronts plan.parts.items)
  pub enough : units m.geometry bytes ≤ bits_in (fronts plan.parts.items)
  pub id_low : 2 ≤ plan.id
  pub id_high : plan.id < id_limit m.geometry

module _ (m m' : Map) (is : IsNewMap m) (same : m'.geometry ≡ m.geometry) (bytes : ℕ) (plan : Plan) (good : IsPlaceable m bytes plan) (taken : IsTakenIn m' plan) where
  abbrev g : Geometry
  g = m.geometry

  abbrev parts : List ZoneRun
  parts = fronts plan.parts.items

  shape : IsGeometry m.geometry
  shape = subst IsGeometry is.of_record.1.1 (geometry_of_valid is.of_record.0 is.of_record.1.0)

  runs_are : id_runs m' plan.id ≡ as_runs plan.id (parts_met m.geometry plan.id true parts ++ parts_met m.geometry plan.id false parts)
  runs_are =
      taken.runs ∙ ap (λ (h : Geometry). as_runs plan.id (parts_in_order h plan)) same
      ∙ ap (as_runs plan.id) (ordered m.geometry plan.id parts good.rising (λ p at. (good.zones p at).zone))

  sectors_are : id_sectors m' plan.id ≡ plan_sectors m.geometry plan
  sectors_are =
      ap₂ (λ (h : Geometry) (rs : List ZoneRun). sectors_of h rs) same runs_are ∙ as_same m.geometry plan.id (parts_met m.geometry plan.id true parts ++ parts_met m.geometry plan.id false parts)
      ∙ sectors_append m.geometry (parts_met m.geometry plan.id true parts) (parts_met m.geometry plan.id false parts)

  bits_are : bits_in (id_runs m' plan.id) ≡ bits_in parts
  bits_are = sum_by-IsPermutation (λ (p : ZoneRun). p.1.len) (as_runs plan.id parts) (id_runs m' plan.id) taken.all ∙ as_bits plan.id parts

  even : AllByRecursion (λ (p : ZoneRun). p.1.len % m.geometry.q ≡ 0) (id_runs m' plan.id)
  even =
      recursion_from_All (λ (p : ZoneRun). p.1.len % m.geometry.q ≡ 0) (id_runs m' plan.id)
      (All-permutation (λ (p : ZoneRun). p.1.len % m.geometry.q ≡ 0) (as_runs plan.id parts) (id_runs m' plan.id) taken.all
      (All-from_recursion (λ (p : ZoneRun). p.1.len % m.geometry.q ≡ 0) (as_runs plan.id parts) (as_even m.geometry plan.id parts (recursion_from_All (HasRunLength m.geometry) parts good.long))))

  long : div_ceil bytes m.geometry.sector ≤ length (id_sectors m' plan.id)
  long =
      let count : length (id_sectors m' plan.id) ≡ bits_in parts * m.geometry.bit_bytes / m.geometry.sector =
      ap (λ (h : Geometry). length (sectors_of h (id_runs m' plan.id))) same ∙ long_runs m.geometry (id_runs m' plan.id) shape.some shape.whole even ∙ ap (λ (n : ℕ). n * m.geometry.bit_bytes / m.geometry.sector) bits_are in
      let enough = enough_sectors m.geometry bytes (units m.geometry bytes) (bits_in parts) shape.some shape.whole (units_whole m bytes is) (units_room m.geometry bytes (bit_positive m.geometry is.of_record) good.some) good.enough in
      omega (arith, count, enough)

  begins : (low : ℕ) → low < 2 → low_start m' low ≡ 0
  begins low small = ap (λ (n : ℕ). n * (m'.geometry.share / m'.geometry.sector)) (let e : low - 1 ≡ 0 = omega (arith, small) in e) ∙ omega arith

  pub leads : (address : ℕ) → id_of address ≡ plan.id → low_of address < 2 → sectors_at (Layout.New m') address bytes ≡ Some (place_of_plan m.geometry plan bytes)
  unfolding sectors_at
  leads address id_is small =
      ap (λ (b : Bool). cond b (Some []) (new_sectors m' address bytes)) (ne_eqb bytes 0 (λ e. let some = good.some in omega (arith, e, some)))
      ∙ ap (λ (i : ℕ). cond (is_object_id m' i) (first_part (div_ceil bytes m'.geometry.sector) (drop (low_start m' (low_of address)) (id_sectors m' i))) None) id_is
      ∙ ap (λ (b : Bool). cond b (first_part (div_ceil bytes m'.geometry.sector) (drop (low_start m' (low_of address)) (id_sectors m' plan.id))) None)
      (ap (λ (h : Geometry). nat_le 2 plan.id && nat_lt plan.id (id_limit h)) same
      ∙ ap₂ (λ (a b : Bool). a && b) (le-leb 2 plan.id good.id_low) (lt-ltb plan.id (id_limit m.geometry) good.id_high))
      ∙ ap₂ (λ (h : Geometry) (n : ℕ). first_part (div_ceil bytes h.sector) (drop n (id_sectors m' plan.id))) same (begins (low_of address) small)
      ∙ ap (λ (b : Bool). cond b (Some (take (div_ceil bytes m.geometry.sector) (id_sectors m' plan.id))) None) (le-leb (div_ceil bytes m.geometry.sector) (length (id_sectors m' plan.id)) long)
      ∙ ap (λ (xs : List ℕ). let r : Option (List ℕ) = Some (take (div_ceil bytes m.geometry.sector) xs) in r) sectors_are

-- ---- new space that is planned

-- the new space of a directory, planned after an object's
module _ (m : Map) (is : IsNewMap m) (growth : Growth) (address : ℕ) (alone : Bool) (plan : Plan) (new : IsNewSpaceOf m growth address alone plan) where
  pub new_zones : All (λ (part : Part). IsInZone m.geometry (front_at part)) plan.parts.items
  new_zones = parts_zones m is new.bytes (units m.geometry growth.len) new.object plan (own_if m new.bytes new.object new.own) new.space.plan_is

  zones_of_parts : (p : ZoneRun) → Contains (fronts plan.parts.items) p → IsInZone m.geometry p
  zones_of_parts =
      left_zones m is (parts_in new.object) (fronts plan.parts.items) (units m.geometry growth.len) (object_fronts m new.bytes new.object (own_if m new.bytes new.object new.own)) new.space.plan_is

  placeable : is_object_id m plan.id ≡ true → IsPlaceable m growth.len plan
  placeable object =
      let id = and_both (nat_le 2 plan.id) (nat_lt plan.id (id_limit m.geometry)) object in record {
        some = new.longer;
        rising = new.space.plan_is.rising;
        zones = zones_of_parts;
        long = new.space.plan_is.long;
        enough = new.space.plan_is.taken.enough;
        id_low = leb-true 2 plan.id id.0;
        id_high = ltb-true plan.id (id_limit m.geometry) id.1;
      }

  pub new_leads : (sectors : List ℕ) → sectors ≡ place_of_plan m.geometry plan growth.len → LeadsTo m growth.len plan sectors
  new_leads sectors are m' low same taken object small =
      leads m m' is same growth.len plan (placeable object) taken (256 * plan.id + low) (omega (arith, small)) (let e : low_of (256 * plan.id + low) ≡ low = omega (arith, small) in omega (arith, e, small))
      ∙ ap (λ (xs : List ℕ). let r : Option (List ℕ) = Some xs in r) (sym are)

  pub new_free : (sectors : List ℕ) → sectors ≡ place_of_plan m.geometry plan growth.len → AreFree m sectors
  new_free sectors are s h =
      let p = in_part m.geometry plan growth.len s (subst (λ (xs : List ℕ). is_among xs s ≡ true) are h) in
      left_free m is (parts_in new.object) (fronts plan.parts.items) (units m.geometry growth.len) (object_fronts m new.bytes new.object (own_if m new.bytes new.object new.own)) new.space.plan_is s p.0 p.1 p.2

  pub new_few : alone ≡ false → plan.id < 2 ^ 24
  new_few e = few_new m is plan.id (subst (λ (b : Bool). IsIdFor m b address new.object plan.id) e new.space.id).0
