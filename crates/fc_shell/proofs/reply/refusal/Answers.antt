use Rattle.std.proofs.Common.{sym, arith}
use Rattle.std.proofs.lemmas.Grind.{common_steps}
use Rattle.fc_shell.proofs.reply.refusal.Goals as goal
use Rattle.fc_runs.proofs.ErrorLemmas.{refusal_error}

pub returns : goal.returns
returns c = record { is_text = grind (arith, common_steps, c.in_ok-error_text.ensures, c.new-text.ensures); error_is = sym (refusal_error c.args.refusal) }
