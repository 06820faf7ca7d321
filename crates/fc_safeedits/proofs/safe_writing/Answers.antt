use Rattle.fc_safeedits.proofs.lemmas.SafeWritingLemmas.{safe_writing_law}
use Rattle.fc_safeedits.proofs.safe_writing.Goals as goal

pub returns : goal.returns
returns c = safe_writing_law
