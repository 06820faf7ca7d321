use Rattle.std.proofs.Common.{ap₂, ◌∙◌}
use Rattle.std.specs.Prelude.{nat_lt}
use Rattle.fc_reclaim.proofs.RowLemmas.{rows_meet}
use Rattle.fc_reclaim.proofs.rows.meet.Goals as goal

pub returns : goal.returns
returns c = ap₂ nat_lt c.max-first.ensures c.min-end.ensures ∙ rows_meet c.args.a c.args.b
