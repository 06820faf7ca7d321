use Rattle.fc_outcomes.proofs.lemmas.OldImageLemmas.{old_image_law}
use Rattle.fc_outcomes.proofs.old_image.Goals as goal

pub returns : goal.returns
returns c = old_image_law c.reads_back.ensures
