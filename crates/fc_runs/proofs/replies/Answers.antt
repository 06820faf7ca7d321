use Rattle.fc_runs.proofs.HostRepliesLemmas.{replies_law}
use Rattle.fc_runs.proofs.replies.Goals as goal

pub returns : goal.returns
returns c = replies_law
