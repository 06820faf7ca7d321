use Rattle.fc_image.proofs.lemmas.effects.LeftLemmas.{left_law}
use Rattle.fc_image.proofs.effects.left.Goals as goal

pub returns : goal.returns
returns c = left_law
