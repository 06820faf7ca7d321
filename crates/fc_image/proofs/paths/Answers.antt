use Rattle.fc_image.proofs.PathsLemmas.{paths_law}
use Rattle.fc_image.proofs.paths.Goals as goal

pub returns : goal.returns
returns c = paths_law
