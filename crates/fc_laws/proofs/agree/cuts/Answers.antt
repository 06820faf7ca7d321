use Rattle.fc_laws.proofs.lemmas.agree.CutLemmas.{cut_law}
use Rattle.fc_laws.proofs.agree.cuts.Goals as goal

pub returns : goal.returns
returns c = cut_law
