use Rattle.fc_safeedits.proofs.lemmas.SafeImageLemmas.{safe_image_law}
use Rattle.fc_safeedits.proofs.safe_images.Goals as goal

pub returns : goal.returns
returns c = safe_image_law
