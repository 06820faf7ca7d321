use Rattle.fc_placing.proofs.SlackLemmas.{slack_law}
use Rattle.fc_placing.proofs.placing.slack_by_owners.Goals as goal

pub returns : goal.returns
returns c = slack_law
