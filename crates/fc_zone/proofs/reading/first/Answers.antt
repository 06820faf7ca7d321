use Rattle.fc_zone.proofs.HolderLemmas.{first_has}
use Rattle.fc_zone.proofs.reading.first.Goals as goal

pub returns-clause-run : goal.returns-clause-run
returns-clause-run c =
    let runs = c.requires.zone.0 in
    let zone = c.requires.zone.1 in
    first_has c.args.shape.now c.args.b.now runs c.run_from.result zone
    (c.run_from.ensures runs (record { spelled = zone.spelled; chain = rw c.first_hole.ensures zone.chained }))
