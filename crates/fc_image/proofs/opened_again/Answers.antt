use Rattle.fc_image.proofs.LaterLemmas.{later_opening_law}
use Rattle.fc_image.proofs.opened_again.Goals as goal

pub returns : goal.returns
returns c = later_opening_law
