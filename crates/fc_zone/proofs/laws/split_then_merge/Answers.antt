use Rattle.fc_zone.proofs.LawLemmas.{split_merged}
use Rattle.fc_zone.proofs.laws.split_then_merge.Goals as goal

pub returns : goal.returns
returns c = split_merged
