use Rattle.std.proofs.Common.{◌≡◌, ◌<◌, ◌++◌, ℕ, false, Contains}
use Rattle.std.specs.Prelude.{filter}
use Rattle.fc_newmap.specs.Map.{zone_numbers}
use Rattle.fc_plan.specs.Applied.{is_changed, plan_in}
use Rattle.fc_plan.proofs.Changes.{not_listed, on_ok}
use Rattle.fc_plan.proofs.changing.changed_zones.Goals as goal

pub returns-else-is_err-clause-others : goal.returns-else-is_err-clause-others
returns-else-is_err-clause-others c =
    let m = c.args.map.now in
    let t = is_changed m (plan_in c.args.object) (plan_in c.args.dir) c.args.gone.now in
    let now = c.push_changed-pushed.new.zones.items in
    on_ok (now ≡ c.args.zones.now.items ++ filter t (zone_numbers m.geometry)) ((z : ℕ) → z < m.geometry.zones → (Contains now z → ⊥) → t z ≡ false) c.push_changed-pushed.result
    (λ is z low none. not_listed t m.geometry.zones z c.args.zones.now.items now is low none) c.push_changed-pushed.ensures.ok
