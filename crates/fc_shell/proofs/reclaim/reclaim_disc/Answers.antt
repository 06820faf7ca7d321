use Rattle.fc_shell.proofs.reclaim.reclaim_disc.Goals as goal

pub returns : goal.returns
returns g c =
    let e = c.reclaim.ensures in
    record { refused = e.refused; errors = e.errors; reclaimed = e.reclaimed; owned = e.owned; keeps = e.keeps.volume; tree = e.keeps.tree }
