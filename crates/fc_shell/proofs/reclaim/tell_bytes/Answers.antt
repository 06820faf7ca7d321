use Rattle.std.proofs.Common.{sym}
use Rattle.fc_shell.proofs.ReclaimLemmas.{reclaimed_no_error}
use Rattle.fc_shell.proofs.reclaim.tell_bytes.Goals as goal

pub returns-clause-answered : goal.returns-clause-answered
returns-clause-answered g c = (c.in_ok-write_reclaimed.ensures.written, sym (reclaimed_no_error c.args.bytes))
