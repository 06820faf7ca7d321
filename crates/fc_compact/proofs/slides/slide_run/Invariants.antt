use Rattle.std.proofs.Common.{◌-◌, ◌≡◌, ◌≢◌, ◌≤◌, ◌%◌, ◌++◌, ℕ, List}
use Rattle.fc_zone.specs.declared.Run.{Run}
use Rattle.fc_newmap.specs.Map.{runs_of}
use Rattle.fc_compact.specs.Slides.{HasRuns, IsPart, slid}
use Rattle.fc_compact.specs.Steps.{Leads}
use Rattle.fc_compact.proofs.GoneLemmas.{KeptSo}
use Rattle.fc_compact.proofs.slides.slide_run.Given as goal

abbrev pub invariant-loop-done : goal.invariant-loop-done
invariant-loop-done g l = record {
  keeps : KeptSo g.D.Disk l.owners l.fn.disk l.fn.map l.disk l.map;
  leads : Leads l.owners l.fn.map l.map;
  others : (y : ℕ) → y ≢ l.slide.zone → runs_of l.map y ≡ runs_of l.fn.map y;
  shifted : (front rest : List Run) → HasRuns l.fn.map l.slide.zone (front ++ slid l.slide 0 rest) → HasRuns l.map l.slide.zone (front ++ slid l.slide l.done rest);
  within : l.done ≤ l.slide.len;
  whole : l.done % l.fn.map.geometry.q ≡ 0;
  begun : IsPart l.min l.done;
  rest : IsPart l.min (l.slide.len - l.done);
}

abbrev pub decreases-loop-done : goal.decreases-loop-done
decreases-loop-done g l = l.slide.len - l.done
