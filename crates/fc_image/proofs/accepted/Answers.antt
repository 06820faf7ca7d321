use Rattle.fc_image.proofs.LaterLemmas.{accepted_law}
use Rattle.fc_image.proofs.accepted.Goals as goal

pub returns : goal.returns
returns c = accepted_law
