use Rattle.std.proofs.Common.{rules, ◌≡◌, ◌<◌, ◌≤◌, ◌∙◌, ℕ, List, ap, arith, length, refl, sym, subst, true, None}
use Rattle.std.specs.Prelude.{filter, is_some}
use Rattle.std.specs.List.Sorted.{IsPermutation}
use Rattle.fc_record.specs.declared.Geometry.{Geometry}
use Rattle.fc_image.specs.safe.SafeShort.{spread_or}
use Rattle.fc_writing.specs.declared.ready.MapStep.{MapStep}
use Rattle.fc_newmap.specs.Map.{hole_runs, zone_numbers}
use Rattle.fc_plan.specs.declared.plan.Plan.{Plan}
use Rattle.fc_plan.specs.Giving.{is_one_of}
use Rattle.fc_plan.specs.Plan.{AreApart}
use Rattle.fc_plan.proofs.Order.{map_holes-free}
use Rattle.fc_plan.proofs.Plans.{min_some}
use Rattle.fc_safe.specs.FirstNeeds.{zones_turned}
use Rattle.fc_safe.specs.FirstSpace.{all_fronts, parts_kept}
use Rattle.fc_safe.specs.Needs.{parts_of}
use Rattle.fc_safe.specs.Zones.{is_turned, zones_of_plans}
use Rattle.fc_safe.proofs.CoverLemmas.{all_apart}
use Rattle.fc_safe.proofs.PlannedLemmas.{err_same}
use Rattle.fc_safe.proofs.StepLemmas.{spread_few, zones_are, zones_counted, zones_few, zones_low}
use Rattle.fc_safe.proofs.step.step_of.Goals as goal
use Rattle.fc_safe.proofs.step.step_of.Goals.{After-len}

pub zones_of-requires : goal.zones_of-requires
zones_of-requires c =
    subst (λ (ps : List Plan). (z : ℕ) → is_one_of (zones_of_plans ps) z ≡ true → z < c.args.map.now.geometry.zones) (sym c.deref.ensures.value)
    (zones_low c.args.map.now c.is_map.ensures (min_some c.args.map.now.geometry c.is_map.ensures.of_record) c.args.plans.items c.requires.can)

-- the zones that change, and how many they are
zones_is : (c : After-len) → c.in_ok-zones.zones.items ≡ filter (is_turned c.args.map.now c.args.plans.items c.args.gone.items (is_some c.args.root)) (zone_numbers c.args.map.now.geometry)
zones_is c = zones_are c.args.map.now c.args.plans.items c.args.gone.items c.in_ok-zones.zones.items (is_some c.args.root) c.in_ok-zones.ensures.rising (λ z.
    c.in_ok-zones.ensures.same z
    ∙ ap (λ (ps : List Plan). is_turned c.args.map.now ps c.deref-2.result.now c.is_some.result z) c.deref.ensures.value
    ∙ ap (λ (gs : List ℕ). is_turned c.args.map.now c.args.plans.items gs c.is_some.result z) c.deref-2.ensures.value
    ∙ ap (λ b. is_turned c.args.map.now c.args.plans.items c.args.gone.items b z) c.is_some.ensures)

count : (c : After-len) → length c.in_ok-zones.zones.items ≡ zones_turned c.args.map.now (parts_of c.args.plans.items) c.args.gone.items (is_some c.args.root)
count c = ap (λ (zs : List ℕ). length zs) (zones_is c) ∙ zones_counted c.args.map.now c.args.plans.items c.args.gone.items (is_some c.args.root)

low : (c : After-len) → length c.in_ok-zones.zones.items ≤ c.args.map.now.geometry.zones
low c = subst (λ (zs : List ℕ). length zs ≤ c.args.map.now.geometry.zones) (sym (zones_is c)) (zones_few c.args.map.now (is_turned c.args.map.now c.args.plans.items c.args.gone.items (is_some c.args.root)))

long : (c : After-len) → c.len.result ≡ length c.in_ok-zones.zones.items
long c = search rules

pub check_zones-requires : goal.check_zones-requires
check_zones-requires c =
    let s = (goal.at.check_zones-requires c).After-len in
    let few = low s in
    let size = long s in
    let all = ap (λ (g : Geometry). g.zones) c.geometry.ensures.value in
    omega (arith, few, size, all)

same : (c : After-len) → c.len.result ≡ zones_turned c.args.map.now (parts_of c.args.plans.items) c.args.gone.items (is_some c.args.root)
same c = long c ∙ count c

pub returns-in-Err-clause-refused : goal.returns-in-Err-clause-refused
returns-in-Err-clause-refused c =
    let s = (goal.at.returns-in-Err-clause-refused c).After-len in
    err_same (Unit {0}) MapStep c.in-Err.error (spread_or c.len.result) _ (ap spread_or (same s)) c.in-Err.ensures

pub kept_parts-requires-clause-apart : goal.kept_parts-requires-clause-apart
kept_parts-requires-clause-apart c =
    subst (λ (ps : List Plan). AreApart (all_fronts ps)) (sym c.deref-3.ensures.value)
    (all_apart c.args.map.now.geometry (min_some c.args.map.now.geometry c.is_map.ensures.of_record) (hole_runs c.args.map.now) c.args.plans.items (map_holes-free c.args.map.now c.is_map.ensures) c.requires.can)

pub returns-clause-step : goal.returns-clause-step
returns-clause-step c =
    let s = (goal.at.returns-clause-step c).After-len in
    let none : spread_or c.len.result ≡ None = search rules in
    let few = spread_few c.len.result none in
    let size = long s in
    record {
      plans_are = refl;
      gone_are = refl;
      kept_are = subst (λ (ps : List Plan). IsPermutation (parts_kept ps c.args.gone.items) c.in_ok-kept.kept.items) c.deref-3.ensures.value
          (subst (λ (gs : List ℕ). IsPermutation (parts_kept c.deref-3.result.now gs) c.in_ok-kept.kept.items) c.deref-4.ensures.value c.in_ok-kept.ensures.same);
      kept_rise = c.in_ok-kept.ensures.rise;
      root_is = refl;
      zones = zones_is s;
      few = omega (arith, few, size);
    }

pub returns-clause-refused : goal.returns-clause-refused
returns-clause-refused c =
    let s = (goal.at.returns-clause-refused c).After-len in
    let none : spread_or c.len.result ≡ None = search rules in
    sym (ap spread_or (same s)) ∙ none
