use Rattle.std.proofs.Common.{Err, Ok, Result}
use Rattle.fc_device.proofs.DiskLaws.{laws}
use Rattle.fc_image.proofs.LaterLemmas.{accepted_law}
use Rattle.fc_fit.specs.declared.counts.Counts.{Counts}
use Rattle.fc_convert.specs.declared.ending.ConvertEnd.{ConvertEnd}
use Rattle.fc_convert.specs.Convert.{counts_line}
use Rattle.fc_convert.specs.Ends.{end_line}
use Rattle.fc_convert.specs.Promise.{Outside}
use Rattle.fc_convert.specs.Words.{words_in}
use Rattle.fc_convert.proofs.LineLemmas.{has_converted}
use Rattle.fc_convert.proofs.converting.convert_asked.Goals as goal

pub returns-in-Ok : goal.returns-in-Ok
returns-in-Ok g c =
    has_converted g.K.Sink (laws g.met.D.Disk) (laws g.met.E.Disk) accepted_law (words_in c.args.asked.now) (record { from = c.args.from.now; to = c.args.to.now; out = c.args.out.now })
    (record { from = c.convert_volume.new.from; to = c.convert_volume.new.to; out = c.tell.new.out }) (Ok c.in-Ok.counts) c.tell.result c.in-Ok.ensures
    (c.tell.ensures (counts_line c.in-Ok.counts.files c.in-Ok.counts.dirs) c.converted_line.ensures)

pub returns-in-Err : goal.returns-in-Err
returns-in-Err g c =
    has_converted g.K.Sink (laws g.met.D.Disk) (laws g.met.E.Disk) accepted_law (words_in c.args.asked.now) (record { from = c.args.from.now; to = c.args.to.now; out = c.args.out.now })
    (record { from = c.convert_volume.new.from; to = c.convert_volume.new.to; out = c.tell-in-Err.new.out }) (Err c.in-Err.end) c.tell-in-Err.result c.in-Err.ensures
    (c.tell-in-Err.ensures (end_line c.in-Err.end) c.end_line-line.ensures)
