use Rattle.std.proofs.Common.{arith}
use Rattle.fc_reclaim.proofs.RowLemmas.{row_low}
use Rattle.fc_reclaim.proofs.rows.map_row.Goals as goal

pub returns-clause-low : goal.returns-clause-low
returns-clause-low c = let low = row_low c.args.g.now c.requires in omega (arith, low, c.from.ensures)
