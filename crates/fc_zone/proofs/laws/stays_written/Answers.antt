use Rattle.fc_zone.proofs.WrittenLemmas.{stays_written}
use Rattle.fc_zone.proofs.laws.stays_written.Goals as goal

pub returns : goal.returns
returns c = stays_written
