use Rattle.std.proofs.Common.{sym, ◌∙◌}
use Rattle.fc_change.proofs.RoomLemmas.{no_other_leaves}
use Rattle.fc_change.proofs.placing.room.others_leave_free.Goals as goal

pub returns-then-not-has_other : goal.returns-then-not-has_other
returns-then-not-has_other c = sym (no_other_leaves c.args.owners.now c.args.node c.args.id c.args.first c.args.need (sym c.has_other.ensures ∙ c.if-not-has_other.true))
