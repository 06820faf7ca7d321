use Rattle.std.proofs.Common.{sym, subst}
use Rattle.fc_plan.specs.Supply.{Stock}
use Rattle.fc_change.specs.Planning.{HasSpace, alone_in, len_moved}
use Rattle.fc_change.proofs.GrownLemmas.{growth_planned}
use Rattle.fc_change.proofs.PlanLemmas.{object_own}
use Rattle.fc_change.proofs.ShortageLemmas.{object_space, space_after}
use Rattle.fc_change.proofs.placing.growth.plan_from.Goals as goal

pub plan_object-requires : goal.plan_object-requires
plan_object-requires c = λ some.
    subst (λ (s : Stock). HasSpace s c.args.bytes) (sym c.requires.all)
    (object_space c.args.map.now c.is_map.ensures c.args.bytes (alone_in c.args.growing.now) (len_moved c.args.growing.now) c.requires.enough some)

pub plan_directory-requires : goal.plan_directory-requires
plan_directory-requires c =
    space_after c.args.map.now c.is_map.ensures c.args.bytes c.args.growing.now c.requires.enough c.requires.longer c.args.supply.now c.plan_object.new.supply c.requires.all c.in_ok-object.object
    c.in_ok-object.ensures

pub returns : goal.returns
returns c =
    let m = c.args.map.now in
    let old = c.args.supply.now in
    let left = c.plan_object.new.supply in
    record {
      object = object_own m c.is_map.ensures old left c.requires.all c.args.bytes c.in_ok-object.object c.in_ok-object.ensures;
      dir = growth_planned m c.is_map.ensures old left c.requires.all c.args.bytes c.in_ok-object.object c.in_ok-object.ensures c.args.growing.now c.in_ok-dir.dir c.in_ok-dir.ensures;
    }
