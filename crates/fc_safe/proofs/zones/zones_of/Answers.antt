use Rattle.std.proofs.Common.{◌++◌, ◌∷◌, ◌∙◌, [], ℕ, List, ap, cond}
use Rattle.std.specs.Prelude.{filter}
use Rattle.fc_newmap.specs.Map.{runs_of, zone_numbers}
use Rattle.fc_plan.specs.Giving.{has_run_of}
use Rattle.fc_safe.specs.Zones.{zones_of_plans}
use Rattle.fc_safe.proofs.ZoneLemmas.{zones_turned_same}
use Rattle.fc_safe.proofs.zones.zones_of.Goals as goal

pub returns-clause-same : goal.returns-clause-same
returns-clause-same c = λ z.
    c.zone_set.ensures.same z
    ∙ zones_turned_same c.args.map.now c.is_map.ensures c.args.plans.now c.args.gone.now c.args.root c.requires c.push_root.new.zones.items
    (c.in_ok-push_root.ensures
    ∙ ap (λ (xs : List ℕ). xs ++ cond c.args.root (0 ∷ []) []) (c.in_ok-push_plans.ensures
    ∙ ap (λ (xs : List ℕ). xs ++ zones_of_plans c.args.plans.now) (c.in_ok-changed_zones.ensures.ok
    ∙ ap (λ (xs : List ℕ). xs ++ filter (λ (z : ℕ). has_run_of c.args.gone.now (runs_of c.args.map.now z)) (zone_numbers c.args.map.now.geometry)) c.new-zones.ensures.items))) z
