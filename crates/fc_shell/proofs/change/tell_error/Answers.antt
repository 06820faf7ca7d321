use Rattle.std.proofs.Common.{Err, subst, sym}
use Rattle.fc_script.specs.Texts.{refusal_line}
use Rattle.fc_shell.specs.Changing.{Tells}
use Rattle.fc_shell.proofs.change.tell_error.Goals as goal

pub returns-in-Refused : goal.returns-in-Refused
returns-in-Refused g c =
    subst (λ e. Tells g.K.Sink c.args.out.now c.tell.new.out (Err e) c.tell.result) (sym c.in-Refused.is)
    (c.tell.ensures.answered (refusal_line c.in-Refused.reason) c.refusal.ensures, c.tell.ensures.only)
