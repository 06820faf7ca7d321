use Rattle.fc_newmap.proofs.GateLemmas.{mix_unsound}
use Rattle.fc_newmap.proofs.copies.mix.Goals as goal

pub returns : goal.returns
returns c = mix_unsound
