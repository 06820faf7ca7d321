use Rattle.std.proofs.Common.{rules, ◌≡◌, List}
use Rattle.std.proofs.lemmas.List.Sorted.{answers_always}
use Rattle.fc_newmap.specs.Map.{ZoneRun}
use Rattle.fc_plan.proofs.Order.{place_key}
use Rattle.fc_plan.proofs.Plans.{plan_of}
use Rattle.fc_plan.proofs.planning.rising_parts.Goals as goal

pub returns : goal.returns
returns c =
    let s : List ZoneRun = c.sort_unstable_by_key.new.self.items in
    plan_of c.args.g.now c.args.holes.items c.args.bits c.in_ok-parts.parts.items s c.requires.positive c.requires.holes c.in_ok-parts.ensures c.sort_unstable_by_key.ensures.permutation
    (c.sort_unstable_by_key.ensures.sorted place_key (answers_always _ (λ a r. r ≡ place_key a.0.now) _ (λ f a r f' q. search rules)))
