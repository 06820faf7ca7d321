use Rattle.std.proofs.Common.{◌∙◌}
use Rattle.fc_names.proofs.BitLemmas.{flag_2}
use Rattle.fc_names.proofs.attrs.Attrs.is_locked.Goals as goal

pub returns : goal.returns
returns c = c.contains.ensures tt ∙ flag_2 c.args.self.0
