use Rattle.std.proofs.Common.{◌∙◌, sym}
use Rattle.fc_safe.proofs.GoneLemmas.{none_stays, one_stays}
use Rattle.fc_safe.proofs.gone.has_staying.Goals as goal

pub returns-then-not-has_other : goal.returns-then-not-has_other
returns-then-not-has_other c = sym (none_stays c.args.owners.now c.args.leaving.now c.args.own.node c.args.own.id c.requires (sym c.has_other.ensures ∙ c.if-not-has_other.true))

pub returns-then-leaving-eq1 : goal.returns-then-leaving-eq1
returns-then-leaving-eq1 c = sym (one_stays c.args.owners.now c.args.leaving.now c.args.own.node c.args.own.id c.requires c.if-leaving-eq1.true (sym c.has_other.ensures ∙ c.if-not-has_other.false))
