use Rattle.std.proofs.Common.{arith, vec_len, refl, ap, sym, subst, ◌∙◌, List, ℕ, None, filter, ◌≡◌, ◌++◌}
use Rattle.fc_newmap.specs.Map.{zone_numbers}
use Rattle.fc_plan.specs.Applied.{is_changed}
use Rattle.fc_change.proofs.StepLemmas.{some_given, zones_listed}
use Rattle.fc_change.proofs.placing.steps.give_step.Goals as goal

pub returns : goal.returns
returns c =
    let gone = c.args.gone.items in
    let m = c.args.map.now in
    let zones = c.changed_zones.new.zones.items in
    record {
      some = some_given gone (vec_len c.args.gone) c.is_empty.result (omega arith) c.is_empty.ensures c.if-is_empty.false;
      plans_are = c.new.ensures.items;
      gone_are = refl;
      kept_are = c.new-2.ensures.items;
      root_is = refl;
      zones = zones_listed m None None None None gone c.new-zones.result.items zones refl refl c.new-zones.ensures.items
          (subst (λ (gs : List ℕ). zones ≡ c.new-zones.result.items ++ filter (is_changed m None None gs) (zone_numbers m.geometry)) c.deref.ensures.value c.in_ok-changed_zones.ensures.ok);
    }
