use Rattle.fc_shell.proofs.MapsLemmas.{compacting_old}
use Rattle.fc_shell.proofs.compact.compact_old.Goals as goal

pub returns : goal.returns
returns g c =
    let e = c.compact.ensures in
    compacting_old g.D.Disk c.args.volume.now c.compact.new.volume c.args.disk.now c.compact.new.disk c.compact.result c.requires.old_map
    e.refused e.errors e.compacted e.keeps
