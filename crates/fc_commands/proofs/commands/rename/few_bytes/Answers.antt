use Rattle.std.proofs.Common.{◌<◌, ◌∙◌, ap, sym, subst, Option}
use Rattle.std.specs.Option.{option_map, option_map_or}
use Rattle.fc_tree.specs.declared.node.Node.{Node}
use Rattle.fc_commands.proofs.commands.rename.few_bytes.Goals as goal

pub returns-in-Some : goal.returns-in-Some
returns-in-Some c =
    subst (λ (o : Option Node). option_map_or (λ (x : Node). x.entry.len) o 0 < 4294967296) (sym (ap (option_map (λ x. x.now)) c.in-Some.is) ∙ c.node.ensures) c.below.ensures
