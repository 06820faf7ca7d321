use Rattle.fc_laws.proofs.lemmas.old.takeover.WriteLemmas.{written_bytes_law}
use Rattle.fc_laws.proofs.old.takeover.writes.Goals as goal

pub returns : goal.returns
returns c = written_bytes_law
