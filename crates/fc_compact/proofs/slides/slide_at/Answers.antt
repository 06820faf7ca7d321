use Rattle.std.proofs.Common.{◌∷◌, ◌++◌}
use Rattle.fc_newmap.proofs.ComposeLemmas.{zone_cut}
use Rattle.fc_compact.proofs.slides.slide_at.Goals as goal

pub run_from-hole-requires-clause-run : goal.run_from-hole-requires-clause-run
run_from-hole-requires-clause-run c =
    let r = c.requires.run in
    (r.2.0, (r.2.2.1.1, (r.0, (r.2.1 ∷ r.1, zone_cut c.args.map.now c.args.zone (r.0 ++ r.2.0 ∷ (r.2.1 ∷ r.1)) c.requires.map c.requires.zone r.2.2.1.0))))
