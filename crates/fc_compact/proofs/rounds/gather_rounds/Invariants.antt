use Rattle.std.proofs.Common.{◌+◌}
use Rattle.fc_compact.specs.Rounds.{all_weight}
use Rattle.fc_compact.specs.Settlement.{one_if}
use Rattle.fc_compact.proofs.GoneLemmas.{Gone}
use Rattle.fc_compact.proofs.rounds.gather_rounds.Given as goal

abbrev pub invariant-loop-any : goal.invariant-loop-any
invariant-loop-any g l = record { gone : Gone g.D.Disk l.owners l.fn.disk l.fn.map l.disk l.map }

abbrev pub decreases-loop-any : goal.decreases-loop-any
decreases-loop-any g l = all_weight l.map + one_if l.any
