use Rattle.std.proofs.Common.{◌<◌, ℕ}
use Rattle.fc_compact.specs.Settlement.{IsSettledZone}
use Rattle.fc_compact.proofs.GoneLemmas.{Gone}
use Rattle.fc_compact.proofs.settlement.settle_all.Given as goal

abbrev pub invariant-loop-z : goal.invariant-loop-z
invariant-loop-z g l = record {
  gone : Gone g.D.Disk l.owners l.fn.disk l.fn.map l.disk l.map;
  done : (y : ℕ) → y < l.z → IsSettledZone l.owners l.map y;
}
