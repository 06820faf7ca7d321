use Rattle.std.proofs.Common.{◌≤◌, ◌+◌, ◌-◌}
use Rattle.fc_compact.specs.Rounds.{all_weight}
use Rattle.fc_compact.specs.Settlement.{one_if}
use Rattle.fc_compact.proofs.GoneLemmas.{Gone}
use Rattle.fc_compact.proofs.rounds.gather_all.Given as goal

abbrev pub invariant-loop-next : goal.invariant-loop-next
invariant-loop-next g l = record {
  gone : Gone g.D.Disk l.owners l.fn.disk l.fn.map l.disk l.map;
  falls : all_weight l.map + one_if l.any ≤ all_weight l.fn.map;
}

abbrev pub decreases-loop-next : goal.decreases-loop-next
decreases-loop-next g l = l.zones - l.next
