use Rattle.std.proofs.Common.{rules, ◌≡◌, List}
use Rattle.std.proofs.lemmas.List.Sorted.{answers_always}
use Rattle.fc_plan.specs.declared.plan.Part.{Part}
use Rattle.fc_safe.proofs.StepLemmas.{moved_apart, part_key, parts_rise}
use Rattle.fc_safe.proofs.step.sorted_parts.Goals as goal

pub returns-clause-rise : goal.returns-clause-rise
returns-clause-rise c =
    let s : List Part = c.sort_unstable_by_key.new.self.items in
    parts_rise s (c.sort_unstable_by_key.ensures.sorted part_key (answers_always _ (λ a r. r ≡ part_key a.0.now) _ (λ f a r f' q. search rules)))
    (moved_apart c.args.parts.items s c.sort_unstable_by_key.ensures.permutation c.requires)
