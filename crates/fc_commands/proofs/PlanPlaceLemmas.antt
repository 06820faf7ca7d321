-- The sectors of a plan, by the map that it was made of: each once, and in holes; and where its identifier leads to once it has them.
use Rattle.std.proofs.Common.{◌≡◌, ◌<◌, ◌≤◌, ◌+◌, ◌-◌, ◌*◌, inl, inr, ℕ, zero, suc, Bool, true, false, cond, List, [], ◌∷◌, ◌++◌, filter, length, take, refl, sym, ap, ◌∙◌, arith}
use Rattle.std.specs.Prelude.{AllPairs, Contains}
use Rattle.std.specs.Int.{div_ceil}
use Rattle.std.specs.List.{range_with_len}
use Rattle.std.proofs.Math.Nat.{div-mul-le_self, mul-le-mul_right}
use Rattle.std.proofs.lemmas.Bool.{leb-true, ltb-true, false_from_ne_true as unless}
use Rattle.std.proofs.lemmas.List.Elements.{All-contains, All-from_recursion}
use Rattle.std.proofs.lemmas.Nat.{le-div}
use Rattle.fc_record.specs.declared.Geometry.{Geometry}
use Rattle.fc_newmap.specs.Map.{Map, ZoneRun, all_runs, first_sector, hole_runs, home_zone, is_hole, run_sectors, sector_count, sectors_of}
use Rattle.fc_newmap.specs.NewMap.{IsNewMap}
use Rattle.fc_newmap.specs.RunsLaw.{HoldsSector, IsGeometry}
use Rattle.fc_newmap.proofs.CoverLemmas.{Distinct, Distinct-append}
use Rattle.fc_newmap.proofs.PlaceLemmas.{filter_in, holder_of, range_in}
use Rattle.fc_newmap.proofs.RunsLemmas.{runs_apart}
use Rattle.fc_image.specs.Layout.{Layout, hole_sectors, is_among}
use Rattle.fc_image.specs.effects.Placed.{BeginsBefore, IsFront}
use Rattle.fc_objects.specs.Written.{AreApart}
use Rattle.fc_plan.specs.declared.plan.Plan.{Plan}
use Rattle.fc_plan.specs.Parts.{fronts}
use Rattle.fc_plan.specs.Plan.{IsFrontOfOne}
use Rattle.fc_plan.proofs.Order.{Rising, rising_of, same_place}
use Rattle.fc_laws.proofs.lemmas.agree.BeforeLemmas.{new_shape}
use Rattle.fc_laws.proofs.lemmas.takeover.WriteLemmas.{apart_of, Distinct-take as taken_Distinct}
use Rattle.fc_placing.specs.Extents.{IsOwnPlace, parts_met}
use Rattle.fc_placing.specs.Places.{IsOwnPlan}
use Rattle.fc_placing.proofs.ExtentLemmas.{own_place, take_append}
use Rattle.fc_placing.proofs.HoleLemmas.{in_holes}
use Rattle.fc_space.specs.Index.{is_met}
use Rattle.fc_change.specs.GrownSpace.{place_of_plan, plan_sectors}
use Rattle.fc_zone.proofs.ZoneLemmas.{Contains-head as contains_here, Contains-tail as contains_later}

-- ---- lists

range_Distinct : (from n : ℕ) → Distinct (range_with_len from n)
range_Distinct from zero = tt
range_Distinct from (suc n) = (unless (is_among (range_with_len (from + 1) n) from) (λ e. let r = range_in (from + 1) n from e in omega (arith, r.0)), range_Distinct (from + 1) n)

-- ---- fronts of holes

-- a sector of a front lies in its hole
pub front_holds : (g : Geometry) (hole part : ZoneRun) (s : ℕ) → 0 < g.sector → IsFront g hole part → HoldsSector g part s → HoldsSector g hole s
front_holds g hole part s size front holds =
    let place = same_place hole part front.at_front in
    let first : first_sector g hole ≡ first_sector g part = λ i. first_sector g (place.0 i, record { start = place.1 i; len = part.1.len; kind = part.1.kind }) in
    let within = front.within in
    let bytes : part.1.len * g.bit_bytes ≤ hole.1.len * g.bit_bytes = mul-le-mul_right {m = part.1.len} {n = hole.1.len} g.bit_bytes within in
    let whole = div-mul-le_self (part.1.len * g.bit_bytes) g.sector in
    let count : sector_count g part ≤ sector_count g hole = le-div (sector_count g part) (hole.1.len * g.bit_bytes) g.sector size (omega (arith, bytes, whole)) in
    let from = holds.from in
    let to = holds.to in
    record { from = omega (arith, first, from); to = omega (arith, first, to, count) }

-- Parts that have a sector in common begin at one place.
abbrev pub BeginAsOne : Geometry → List ZoneRun → Type 0
BeginAsOne g ps = (p q : ZoneRun) (s : ℕ) → Contains ps p → Contains ps q → HoldsSector g p s → HoldsSector g q s → (p.0 ≡ q.0) × (p.1.start ≡ q.1.start)

module _ (g : Geometry) where
  never_both : (p q : ZoneRun) → BeginsBefore p q → (p.0 ≡ q.0) × (p.1.start ≡ q.1.start) → ⊥
  never_both p q before same =
      elim before [
        | inl zone ↦ omega (arith, zone, same.0)
        | inr place ↦ (let later = place.1 in omega (arith, later, same.1))
      ]

  parts_Distinct : (t : ZoneRun → Bool) (ps : List ZoneRun) → Rising ps → BeginAsOne g ps → Distinct (sectors_of g (filter t ps))
  parts_Distinct t [] rising one = tt
  parts_Distinct t (p ∷ ps) rising one = by (t p) (parts_Distinct t ps rising.1 (λ q r s at_q at_r. one q r s (contains_later p ps q at_q) (contains_later p ps r at_r)))
    where
      by : (b : Bool) → Distinct (sectors_of g (filter t ps)) → Distinct (sectors_of g (cond b (p ∷ filter t ps) (filter t ps)))
      by true rest =
          Distinct-append (run_sectors g p) (sectors_of g (filter t ps)) (range_Distinct (first_sector g p) (sector_count g p)) rest
          (λ s here later.
          let r = range_in (first_sector g p) (sector_count g p) s here in
          let q = holder_of g (filter t ps) s later in
          let q_in = (filter_in t ps q.0 q.1.0).0 in
          never_both p q.0 (All-contains (BeginsBefore p) ps q.0 (All-from_recursion (BeginsBefore p) ps rising.0) q_in)
          (one p q.0 s (contains_here p ps) (contains_later p ps q.0 q_in) (record { from = r.0; to = r.1 }) q.1.1))
      by false rest = rest

  -- So the sectors of a plan of such parts, which rise, are different ones.
  module _ (bytes : ℕ) (plan : Plan) (rising : AllPairs BeginsBefore (fronts plan.parts.items)) (one : BeginAsOne g (fronts plan.parts.items)) where
    abbrev taken : List ZoneRun
    taken = fronts plan.parts.items

    abbrev found : Bool → List ℕ
    found ahead = sectors_of g (parts_met g plan.id ahead (fronts plan.parts.items))

    found_Distinct : (ahead : Bool) → Distinct (found ahead)
    found_Distinct ahead = parts_Distinct (λ (p : ZoneRun). is_met g ahead plan.id p.0) taken (rising_of taken rising) one

    -- the search meets a zone once
    found_once : (s : ℕ) → is_among (found true) s ≡ true → is_among (found false) s ≡ true → ⊥
    found_once s first second =
        let p = holder_of g (parts_met g plan.id true taken) s first in
        let q = holder_of g (parts_met g plan.id false taken) s second in
        let a = filter_in (λ (r : ZoneRun). is_met g true plan.id r.0) taken p.0 p.1.0 in
        let b = filter_in (λ (r : ZoneRun). is_met g false plan.id r.0) taken q.0 q.1.0 in
        let high = leb-true (home_zone g plan.id) p.0.0 a.1 in
        let low = ltb-true q.0.0 (home_zone g plan.id) b.1 in
        let same = one p.0 q.0 s a.0 b.0 p.1.1 q.1.1 in
        omega (arith, high, low, same.0)

    pub once_by : AreApart (place_of_plan g plan bytes)
    once_by =
        apart_of (place_of_plan g plan bytes)
        (taken_Distinct (div_ceil bytes g.sector) (plan_sectors g plan) (Distinct-append (found true) (found false) (found_Distinct true) (found_Distinct false) found_once))

module _ (m : Map) (is : IsNewMap m) where
  shape : IsGeometry m.geometry
  shape = new_shape m is

  -- Two fronts of one sector begin at one place.
  pub one_place : (p q : ZoneRun) (s : ℕ) → IsFrontOfOne m.geometry (hole_runs m) p → IsFrontOfOne m.geometry (hole_runs m) q → HoldsSector m.geometry p s → HoldsSector m.geometry q s → (p.0 ≡ q.0) × (p.1.start ≡ q.1.start)
  one_place p q s a b in_p in_q =
      let run = λ (r : ZoneRun). is_hole r.1.kind in
      let one = runs_apart m shape is.right a.0 b.0 (filter_in run (all_runs m) a.0 a.1).0 (filter_in run (all_runs m) b.0 b.1).0 s
      (front_holds m.geometry a.0 p s shape.some a.2 in_p) (front_holds m.geometry b.0 q s shape.some b.2 in_q) in
      let at_a = same_place a.0 p a.2.at_front in
      let at_b = same_place b.0 q b.2.at_front in
      (sym at_a.0 ∙ ap (λ (r : ZoneRun). r.0) one ∙ at_b.0, sym at_a.1 ∙ ap (λ (r : ZoneRun). r.1.start) one ∙ at_b.1)

  -- ---- a plan

  module _ (bytes : ℕ) (plan : Plan) (own : IsOwnPlan m bytes plan) where
    abbrev parts : List ZoneRun
    parts = fronts plan.parts.items

    front : (p : ZoneRun) → Contains parts p → IsFrontOfOne m.geometry (hole_runs m) p
    front p at = All-contains (IsFrontOfOne m.geometry (hole_runs m)) parts p own.plan.taken.fronts at

    abbrev met : Bool → List ℕ
    met ahead = sectors_of m.geometry (parts_met m.geometry plan.id ahead parts)

    -- Its sectors are different ones,
    pub plan_once : AreApart (place_of_plan m.geometry plan bytes)
    plan_once = once_by m.geometry bytes plan own.can.rising (λ p q s at_p at_q in_p in_q. one_place p q s (front p at_p) (front q at_q) in_p in_q)

    cut : place_of_plan m.geometry plan bytes ≡ take (div_ceil bytes m.geometry.sector) (met true) ++ take (div_ceil bytes m.geometry.sector - length (met true)) (met false)
    cut = take_append (div_ceil bytes m.geometry.sector) (met true) (met false)

    -- they lie in holes,
    pub plan_free : (s : ℕ) → is_among (place_of_plan m.geometry plan bytes) s ≡ true → is_among (hole_sectors (Layout.New m)) s ≡ true
    plan_free = in_holes m is bytes plan own (div_ceil bytes m.geometry.sector) (div_ceil bytes m.geometry.sector - length (met true)) (place_of_plan m.geometry plan bytes) cut

    -- and the identifier leads to them.
    pub plan_leads : IsOwnPlace m bytes plan (place_of_plan m.geometry plan bytes)
    plan_leads = own_place m is bytes plan own (div_ceil bytes m.geometry.sector) (place_of_plan m.geometry plan bytes) refl cut
