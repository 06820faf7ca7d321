use Rattle.std.proofs.Common.{ap, sym, ◌∙◌}
use Rattle.fc_space.specs.Space.{layout_of}
use Rattle.fc_volume.proofs.LostPlacesLemmas.{layout_given}
use Rattle.fc_volume.proofs.reclaiming.reclaim_places.Goals as goal

pub returns-clause-given : goal.returns-clause-given
returns-clause-given g c =
    layout_given g.D.Disk c.args.disk.now c.reclaim_runs.new.disk c.in-NewMapped.map c.reclaim_runs.new.map c.args.owners.now (layout_of c.args.places.now) c.reclaim_runs.result
    (ap layout_of (sym c.edit.ensures.value ∙ c.in-NewMapped.is)) c.reclaim_runs.ensures.given
