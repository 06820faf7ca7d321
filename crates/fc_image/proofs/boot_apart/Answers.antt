use Rattle.fc_image.proofs.HolesLemmas.{boot_apart_law}
use Rattle.fc_image.proofs.boot_apart.Goals as goal

pub returns : goal.returns
returns c = boot_apart_law
