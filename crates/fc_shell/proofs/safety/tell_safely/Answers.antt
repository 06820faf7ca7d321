use Rattle.std.proofs.Common.{subst, sym}
use Rattle.fc_shell.specs.Changing.{TellsSafely}
use Rattle.fc_shell.proofs.safety.tell_safely.Goals as goal

pub returns-in-Err : goal.returns-in-Err
returns-in-Err g c = subst (λ a. TellsSafely g.K.Sink c.args.out.now c.tell_safe_error.new.out a c.tell_safe_error.result) (sym c.in-Err.is) c.tell_safe_error.ensures
