use Rattle.fc_laws.proofs.lemmas.old.agree.GivenLemmas.{space_law}
use Rattle.fc_laws.proofs.old.agree.spaces.Goals as goal

pub returns : goal.returns
returns c = space_law
