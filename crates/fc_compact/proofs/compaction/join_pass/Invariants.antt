use Rattle.std.proofs.Common.{◌≡◌, ◌≤◌, ◌+◌, ◌++◌, List, true, false, length}
use Rattle.std.specs.Prelude.{Contains}
use Rattle.fc_alloc.specs.declared.owner.Owner.{Owner}
use Rattle.fc_image.specs.effects.Settled.{can_join}
use Rattle.fc_compact.specs.Candidates.{IsSurvey, run_count}
use Rattle.fc_compact.specs.Ready.{is_movable_by}
use Rattle.fc_compact.specs.Settlement.{one_if}
use Rattle.fc_compact.proofs.GoneLemmas.{Gone}
use Rattle.fc_compact.proofs.compaction.join_pass.Given as goal

abbrev pub invariant-loop-left : goal.invariant-loop-left
invariant-loop-left g l = record {
  gone : Gone g.D.Disk l.owners l.fn.disk l.fn.map l.disk l.map;
  survey : IsSurvey l.map l.survey;
  done : List Owner;
  cut : l.list ≡ done ++ l.left;
  same : l.any ≡ false → l.map ≡ l.fn.map;
  falls : run_count l.list l.map + one_if l.any ≤ run_count l.list l.fn.map;
  none : l.any ≡ false → (o : Owner) → Contains done o → is_movable_by l.owners o.id ≡ true → can_join l.map o.id ≡ false;
}

abbrev pub decreases-loop-left : goal.decreases-loop-left
decreases-loop-left g l = length l.left
