use Rattle.fc_shell.proofs.MapsLemmas.{compacting_new}
use Rattle.fc_shell.proofs.compact.compact_new.Goals as goal

pub returns : goal.returns
returns g c =
    let e = c.compact.ensures in
    compacting_new g.D.Disk c.args.volume.now c.compact.new.self c.args.disk.now c.compact.new.disk c.compact.result e.refused e.errors e.compacted e.objects e.keeps e.tree
