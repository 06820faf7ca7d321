use Rattle.std.proofs.Common.{◌∙◌}
use Rattle.fc_bigdir.proofs.NeededLemmas.{needed_by}
use Rattle.fc_bigdir.proofs.big.BigDir.needed_with.Goals as goal

pub returns : goal.returns
returns c = c.needed.ensures ∙ needed_by c.args.self.now c.args.name.now c.parts_with.result c.parts_with.ensures.parts
