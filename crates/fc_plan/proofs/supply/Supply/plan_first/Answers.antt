use Rattle.std.proofs.Common.{arith, ap, ◌∙◌}
use Rattle.fc_plan.specs.Supply.{Stock}
use Rattle.fc_plan.proofs.Stock.{limit_few, unused_behind}
use Rattle.fc_plan.proofs.supply.Supply.plan_first.Goals as goal

pub overflow_add-self : goal.overflow_add-self
overflow_add-self c = let few = limit_few c.self.inside.map.now.geometry c.self.invariant.of_record in omega (arith, few, c.in-Some.ensures.low)

pub returns-clause-id : goal.returns-clause-id
returns-clause-id c =
    unused_behind c.self.inside.map.now c.self-2.inside.map.now c.self.inside.next c.self-2.inside.next c.in-Some.id c.args.self.now.ids
    (ap (λ (s : Stock). s.ids) c.self.view_is)
    c.in-Some.ensures.least
    (ap (λ (s : Stock). s.ids) (c.self-2.view_is ∙ c.in_ok-parts.ensures.rest))
