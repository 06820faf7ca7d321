use Rattle.std.proofs.Common.{◌++◌, ◌∷◌, [], sym, ◌∙◌, arith, append_assoc}
use Rattle.fc_device.proofs.DiskLaws.{laws}
use Rattle.fc_newmap.specs.Map.{sector_count}
use Rattle.fc_compact.specs.Slides.{HasRuns}
use Rattle.fc_compact.proofs.HoldLemmas.{movable_high, run_short}
use Rattle.fc_compact.proofs.JoinLemmas.{count_up}
use Rattle.fc_compact.proofs.PreservesLemmas.{geometry_is}
use Rattle.fc_compact.proofs.RowLemmas.{tears_start, tears_wider}
use Rattle.fc_compact.proofs.rounds.gather_pair.Goals as goal

pub returns-in_default-clause-tears : goal.returns-in_default-clause-tears
returns-in_default-clause-tears g c = tears_start (laws g.met.D.Disk) c.args.disk.now _ _

pub draw-requires-clause-runs : goal.draw-requires-clause-runs
draw-requires-clause-runs g c =
    let fits = c.in-Some.ensures in
    let pair = c.requires.pair in
    record {
      front = pair.0;
      rest = pair.1;
      runs = pair.2;
      is_hole = fits.is_hole;
      is_run = fits.is_run;
      some_id = (let high = movable_high c.args.owners.now c.in-Some.id fits.movable in omega (arith, high));
      room = (let room = fits.room in let few = c.requires.fresh in omega (arith, room, few));
    }

pub returns-in_err-draw-clause-tears : goal.returns-in_err-draw-clause-tears
returns-in_err-draw-clause-tears g c =
    let m = c.args.map.now in
    tears_wider (sector_count m.geometry (c.args.z, record c.args.run { len = c.args.fresh }))
    (count_up m.geometry c.args.next.len c.args.fresh (geometry_is m c.is_map.ensures).some c.in-Some.ensures.room) c.draw.ensures.tears

pub returns-clause-tears : goal.returns-clause-tears
returns-clause-tears g c =
    let m = c.args.map.now in
    tears_wider (sector_count m.geometry (c.args.z, record c.args.run { len = c.args.fresh }))
    (count_up m.geometry c.args.next.len c.args.fresh (geometry_is m c.is_map.ensures).some c.in-Some.ensures.room) c.draw.ensures.tears

pub overflow_add-result : goal.overflow_add-result
overflow_add-result g c =
    let m = c.args.map.now in
    let pair = c.requires.pair in
    let one = run_short m c.is_map.ensures c.args.z c.requires.zone pair.0 (c.args.next ∷ pair.1) c.args.run pair.2 in
    let cut : HasRuns m c.args.z ((pair.0 ++ c.args.run ∷ []) ++ c.args.next ∷ pair.1) = pair.2 ∙ sym (append_assoc pair.0 (c.args.run ∷ []) (c.args.next ∷ pair.1)) in
    let two = run_short m c.is_map.ensures c.args.z c.requires.zone (pair.0 ++ c.args.run ∷ []) pair.1 c.args.next cut in
    omega (arith, one, two)
