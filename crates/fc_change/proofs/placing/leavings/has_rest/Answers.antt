use Rattle.std.proofs.Common.{sym, ◌∙◌}
use Rattle.fc_change.proofs.LeavingsLemmas.{no_rest}
use Rattle.fc_change.proofs.placing.leavings.has_rest.Goals as goal

pub returns-then-not-has_other : goal.returns-then-not-has_other
returns-then-not-has_other c = sym (no_rest c.args.owners.now c.args.node c.args.copied c.args.id (sym c.has_other.ensures ∙ c.if-not-has_other.true))
