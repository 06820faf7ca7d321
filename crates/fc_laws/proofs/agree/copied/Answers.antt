use Rattle.fc_laws.proofs.lemmas.agree.CopiedLemmas.{copied_law}
use Rattle.fc_laws.proofs.agree.copied.Goals as goal

pub returns : goal.returns
returns c = copied_law
