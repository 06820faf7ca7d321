use Rattle.std.proofs.Common.{ℕ, List, ap, map, ◌∙◌}
use Rattle.fc_alloc.specs.declared.owner.Owner.{Owner}
use Rattle.fc_plan.specs.Giving.{is_one_of}
use Rattle.fc_safe.proofs.StayingLemmas.{changed_ids_same}
use Rattle.fc_safe.proofs.staying.moved_ids.Goals as goal

pub returns-clause-same : goal.returns-clause-same
returns-clause-same c = λ id.
    c.id_set.ensures.same id
    ∙ ap (λ (xs : List ℕ). is_one_of xs id) c.in_ok-ids.ensures
    ∙ ap (λ (os : List Owner). is_one_of (map (λ (o : Owner). o.id) os) id) c.requires
    ∙ changed_ids_same c.args.owners.now c.args.moving.now.changed.items c.args.moving.now.leaving.items c.list.ensures.nodes id
