use Rattle.std.proofs.Common.{◌++◌, refl, arith}
use Rattle.std.proofs.lemmas.Grind.{common_steps}
use Rattle.fc_check.specs.Counted.{counts_in}
use Rattle.fc_runs.specs.Replies.{counts_line}
use Rattle.fc_script.specs.Texts.{ok_line}
use Rattle.fc_shell.proofs.ReplyLemmas.{ok_reply}
use Rattle.fc_shell.proofs.check.counts_reply.Goals as goal

pub returns : goal.returns
returns c = ok_reply _ (counts_line (counts_in c.args.counts.now)) (counts_line (counts_in c.args.counts.now) ++ ok_line) (grind (arith, common_steps)) refl refl
