use Rattle.fc_safelaws.proofs.FreeLemmas.{free_space_law}
use Rattle.fc_safelaws.proofs.free_space.Goals as goal

pub returns : goal.returns
returns c = free_space_law
