use Rattle.fc_zone.proofs.WrittenLemmas.{edit_keeps, keeps_then}
use Rattle.fc_zone.proofs.laws.links_kept.Goals as goal

pub returns-clause-one : goal.returns-clause-one
returns-clause-one c = edit_keeps

pub returns-clause-many : goal.returns-clause-many
returns-clause-many c = keeps_then
