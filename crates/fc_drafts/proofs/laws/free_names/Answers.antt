use Rattle.fc_drafts.proofs.FindLemmas.{free_name_law}
use Rattle.fc_drafts.proofs.laws.free_names.Goals as goal

pub returns : goal.returns
returns c = free_name_law
