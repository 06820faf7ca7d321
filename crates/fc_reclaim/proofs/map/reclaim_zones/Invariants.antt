use Rattle.fc_reclaim.proofs.GoneLemmas.{Gone}
use Rattle.fc_reclaim.proofs.map.reclaim_zones.Given as goal

abbrev pub invariant-loop-z : goal.invariant-loop-z
invariant-loop-z g l = Gone g.D.Disk l.boot l.owners l.fn.disk l.fn.map l.disk l.map l.z l.total
