use Rattle.std.proofs.Common.{◌∙◌}
use Rattle.fc_names.proofs.BitLemmas.{flag_3}
use Rattle.fc_names.proofs.attrs.Attrs.is_directory.Goals as goal

pub returns : goal.returns
returns c = c.contains.ensures tt ∙ flag_3 c.args.self.0
