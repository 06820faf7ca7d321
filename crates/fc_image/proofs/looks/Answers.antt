use Rattle.fc_image.proofs.LooksLemmas.{looks_law}
use Rattle.fc_image.proofs.looks.Goals as goal

pub returns : goal.returns
returns c = looks_law
