use Rattle.std.proofs.Common.{◌≡◌, ◌+◌, true, false}
use Rattle.std.specs.Prelude.{Contains}
use Rattle.fc_alloc.specs.declared.owner.Owner.{Owner}
use Rattle.fc_image.specs.effects.Settled.{can_join}
use Rattle.fc_compact.specs.Candidates.{AreSettledZones, run_count}
use Rattle.fc_compact.specs.Ready.{is_movable_by}
use Rattle.fc_compact.specs.Settlement.{one_if}
use Rattle.fc_compact.proofs.GoneLemmas.{Gone}
use Rattle.fc_compact.proofs.compaction.compact.Given as goal

abbrev pub invariant-loop-any : goal.invariant-loop-any
invariant-loop-any g l = record {
  gone : Gone g.D.Disk l.owners l.fn.disk l.fn.map l.disk l.map;
  done : l.any ≡ false → AreSettledZones l.owners l.map;
  none : l.any ≡ false → (o : Owner) → Contains l.owners o → is_movable_by l.owners o.id ≡ true → can_join l.map o.id ≡ false;
}

abbrev pub decreases-loop-any : goal.decreases-loop-any
decreases-loop-any g l = run_count l.owners l.map + one_if l.any
