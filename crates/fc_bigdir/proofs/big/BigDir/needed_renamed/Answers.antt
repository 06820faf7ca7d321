use Rattle.std.proofs.Common.{◌∙◌}
use Rattle.fc_dirs.specs.Big.{without_big_entry}
use Rattle.fc_bigdir.proofs.NeededLemmas.{needed_by}
use Rattle.fc_bigdir.proofs.big.BigDir.needed_renamed.Goals as goal

pub returns : goal.returns
returns c = c.needed.ensures ∙ needed_by (without_big_entry c.args.at c.args.self.now) c.args.name.now c.parts_renamed.result c.parts_renamed.ensures.parts
