use Rattle.fc_safecommands.proofs.lemmas.JudgedLemmas.{judged_law}
use Rattle.fc_safecommands.proofs.views.judged.Goals as goal

pub returns : goal.returns
returns c = judged_law
