use Rattle.fc_record.proofs.KindLemmas.{found_of}
use Rattle.fc_record.proofs.found_fits.Goals as goal

pub returns : goal.returns
returns c = found_of
