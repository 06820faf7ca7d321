use Rattle.fc_zone.proofs.LawLemmas.{label_released}
use Rattle.fc_zone.proofs.laws.label_then_release.Goals as goal

pub returns : goal.returns
returns c = label_released
