use Rattle.std.proofs.Common.{◌≡◌, ◌<◌, ℕ, true, get_or}
use Rattle.std.specs.List.{list_any}
use Rattle.fc_newmap.specs.Map.{has_id, runs_of}
use Rattle.fc_plan.proofs.Changes.{run_of_one, told_zone}
use Rattle.fc_plan.proofs.changing.is_said_to_have.Goals as goal

pub returns-then-eq : goal.returns-then-eq
returns-then-eq c = λ e.
    (let m = c.args.map.now in
    let ids = c.args.ids.now in
    let i = c.loop-i.i in
    let told = told_zone (λ (y : ℕ). (y < m.geometry.zones) × (list_any (λ run. has_id (get_or ids i 0) run.kind) (runs_of m y) ≡ true)) c.only_zone_of.result c.args.z c.only_zone_of.ensures c.if-eq.ensures in
    run_of_one ids (runs_of m c.args.z) i c.loop-i-test.true told.1)
