use Rattle.fc_laws.proofs.lemmas.takeover.CopiedBytesLemmas.{copied_bytes_law}
use Rattle.fc_laws.proofs.takeover.copied_bytes.Goals as goal

pub returns : goal.returns
returns c = copied_bytes_law
