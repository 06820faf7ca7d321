use Rattle.std.proofs.Common.{◌++◌, ◌∷◌, subst}
use Rattle.fc_zone.specs.Zone.{Zone}
use Rattle.fc_newmap.specs.Map.{runs_in, sector_of, shape}
use Rattle.fc_newmap.specs.RunsLaw.{placed}
use Rattle.fc_newmap.specs.Walk.{zone_after, zones_from}
use Rattle.fc_newmap.proofs.NextLemmas.{past_run}
use Rattle.fc_newmap.proofs.walk.Walk.behind.Goals as goal

pub at_run-walk-requires-clause-run : goal.at_run-walk-requires-clause-run
at_run-walk-requires-clause-run c =
    let m = c.args.map.now in
    let z = c.args.z in
    let h = c.requires.run in
    let is = c.is_map.ensures in
    (h.0, (h.1.2.0, (h.1.0, (h.1.1, subst (Zone (shape m.geometry z) (sector_of m z)) h.1.2.1 (is.right z c.requires.zone)))))

pub next-requires : goal.next-requires
next-requires c =
    let m = c.args.map.now in
    let z = c.args.z in
    let h = c.requires.run in
    (placed z (h.0 ∷ h.1.1) ++ runs_in m (zones_from m.geometry (zone_after m.geometry z) c.args.more), c.at_run-walk.ensures h.1.0 h.1.1 h.0 h.1.2.1 h.1.2.0)

pub returns : goal.returns
returns c = λ front rest run at runs.
    let m = c.args.map.now in
    let z = c.args.z in
    past_run m (z, run) (placed z rest ++ runs_in m (zones_from m.geometry (zone_after m.geometry z) c.args.more)) c.at_run-walk.result c.next.new.self c.next.result (c.at_run-walk.ensures front rest run runs at) c.next.ensures.value
