use Rattle.std.proofs.Common.{List, ℕ, Err, subst, sym}
use Rattle.fc_script.specs.Texts.{refusal_line}
use Rattle.fc_shell.specs.Answered.{Answered}
use Rattle.fc_shell.specs.Changing.{TellsSafely}
use Rattle.fc_shell.proofs.SafetyLemmas.{spread_text}
use Rattle.fc_shell.proofs.safety.tell_safe_error.Goals as goal

pub returns-in-Refused : goal.returns-in-Refused
returns-in-Refused g c =
    subst (λ e. TellsSafely g.K.Sink c.args.out.now c.tell.new.out (Err e) c.tell.result) (sym c.in-Refused.is)
    (c.tell.ensures.answered (refusal_line c.in-Refused.reason) c.refusal.ensures, c.tell.ensures.only)

pub returns-in-Spread : goal.returns-in-Spread
returns-in-Spread g c =
    subst (λ e. TellsSafely g.K.Sink c.args.out.now c.tell_spread.new.out (Err e) c.tell_spread.result) (sym c.in-Spread.is)
    (subst (λ (text : List ℕ). Answered text (g.K.Sink.taken c.args.out.now) (g.K.Sink.taken c.tell_spread.new.out) c.tell_spread.result) (spread_text c.in-Spread.field-0) c.tell_spread.ensures.answered, c.tell_spread.ensures.only)
