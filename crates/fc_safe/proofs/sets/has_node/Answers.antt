use Rattle.std.proofs.Common.{◌∙◌}
use Rattle.fc_safe.proofs.SetLemmas.{searched_one}
use Rattle.fc_safe.proofs.sets.has_node.Goals as goal

pub returns : goal.returns
returns c = c.is_ok.ensures.value ∙ searched_one c.args.nodes.now c.args.n c.binary_search.result c.requires c.binary_search.ensures.position
