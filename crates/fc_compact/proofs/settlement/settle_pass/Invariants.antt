use Rattle.std.proofs.Common.{◌≡◌, ◌≤◌, ◌-◌, ◌+◌, ℕ, List, [], ◌∷◌, ◌++◌, true, false}
use Rattle.fc_zone.specs.declared.Run.{Run}
use Rattle.fc_zone.specs.Cursor.{StandsBetween}
use Rattle.fc_newmap.specs.Map.{runs_of, sector_of, shape}
use Rattle.fc_image.specs.effects.Settled.{passes_adjacent}
use Rattle.fc_compact.specs.Compaction.{is_done_by}
use Rattle.fc_compact.specs.Settlement.{one_if, zone_weight}
use Rattle.fc_compact.specs.Slides.{HasRuns}
use Rattle.fc_compact.proofs.GoneLemmas.{Gone}
use Rattle.fc_compact.proofs.settlement.settle_pass.Given as goal

abbrev pub invariant-loop-next : goal.invariant-loop-next
invariant-loop-next g l = record {
  gone : Gone g.D.Disk l.owners l.fn.disk l.fn.map l.disk l.map;
  others : (y : ℕ) → (y ≡ l.z → ⊥) → runs_of l.map y ≡ runs_of l.fn.map y;
  front : List Run;
  rest : List Run;
  cut : HasRuns l.map l.z (front ++ l.run ∷ rest);
  falls : zone_weight (runs_of l.map l.z) + one_if l.changed ≤ zone_weight (runs_of l.fn.map l.z);
  same : l.changed ≡ false → l.map ≡ l.fn.map;
  done : l.changed ≡ false → passes_adjacent (is_done_by l.fn.map.geometry l.owners) (front ++ l.run ∷ []) ≡ true;
  shape : l.shape ≡ shape l.fn.map.geometry l.z;
  passed : List Run;
  stands : StandsBetween l.shape (sector_of l.map l.z) passed rest l.place;
}

abbrev pub decreases-loop-next : goal.decreases-loop-next
decreases-loop-next g l = l.shape.end - l.place.at
