use Rattle.std.proofs.Common.{◌≡◌, ℕ}
use Rattle.fc_newmap.specs.Map.{runs_of}
use Rattle.fc_compact.specs.Settlement.{zone_weight}
use Rattle.fc_compact.proofs.GoneLemmas.{Gone}
use Rattle.fc_compact.proofs.settlement.settle_zone.Given as goal

abbrev pub invariant-loop-disk : goal.invariant-loop-disk
invariant-loop-disk g l = record {
  gone : Gone g.D.Disk l.owners l.fn.disk l.fn.map l.disk l.map;
  others : (y : ℕ) → (y ≡ l.z → ⊥) → runs_of l.map y ≡ runs_of l.fn.map y;
}

abbrev pub decreases-loop-disk : goal.decreases-loop-disk
decreases-loop-disk g l = zone_weight (runs_of l.map l.z)
