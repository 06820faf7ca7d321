use Rattle.fc_outcomes.proofs.lemmas.NewImageLemmas.{new_image_law}
use Rattle.fc_outcomes.proofs.new_image.Goals as goal

pub returns : goal.returns
returns c = new_image_law
