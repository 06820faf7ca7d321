use Rattle.std.proofs.Common.{◌≡◌, ◌≤◌, ◌+◌, true, false, take}
use Rattle.fc_compact.specs.Candidates.{IsSurvey, run_count}
use Rattle.std.specs.Prelude.{Contains}
use Rattle.fc_alloc.specs.declared.owner.Owner.{Owner}
use Rattle.fc_image.specs.effects.Settled.{can_join}
use Rattle.fc_compact.specs.Ready.{is_movable_by}
use Rattle.fc_compact.specs.Settlement.{one_if}
use Rattle.fc_compact.proofs.GoneLemmas.{Gone}
use Rattle.fc_compact.proofs.compaction.join_some.Given as goal

abbrev pub invariant-loop-owner : goal.invariant-loop-owner
invariant-loop-owner g l = record {
  gone : Gone g.D.Disk l.owners l.fn.disk l.fn.map l.disk l.map;
  survey : IsSurvey l.map l.survey;
  seen : l.survey.seen ≡ l.fn.survey.seen;
  ids : l.survey.candidates.ids ≡ l.fn.survey.candidates.ids;
  same : l.any ≡ false → l.map ≡ l.fn.map;
  falls : run_count l.list l.map + one_if l.any ≤ run_count l.list l.fn.map;
  none : l.any ≡ false → (o : Owner) → Contains (take l.owner-index l.list) o → is_movable_by l.owners o.id ≡ true → can_join l.map o.id ≡ false;
}
