use Rattle.fc_image.proofs.StepLemmas.{boot_stays_law}
use Rattle.fc_image.proofs.boot_stays.Goals as goal

pub returns : goal.returns
returns c = boot_stays_law
