use Rattle.std.proofs.Common.{ℕ, sym, subst, ◌∙◌}
use Rattle.fc_device.proofs.DiskLaws.{laws}
use Rattle.fc_device.proofs.StopLemmas.{keeps_same}
use Rattle.fc_objects.specs.Extents.{sectors_in}
use Rattle.fc_objects.specs.Written.{HasParts}
use Rattle.fc_import.proofs.ImportLemmas.{keeps_fills}
use Rattle.fc_import.proofs.place.import.Goals as goal

pub returns-in_err-import_all-clause-keeps : goal.returns-in_err-import_all-clause-keeps
returns-in_err-import_all-clause-keeps g c = keeps_fills (laws g.met.D.Disk) g.B.Supply c.requires.settled c.requires.size c.requires.on_disk c.in_err-import_all.ensures.fills

pub returns-in-Err-clause-keeps : goal.returns-in-Err-clause-keeps
returns-in-Err-clause-keeps g c =
    let law = laws g.met.D.Disk in
    keeps_same law (keeps_fills law g.B.Supply c.requires.settled c.requires.size c.requires.on_disk c.in_ok-import_all.ensures.fills) c.sync.ensures.stops c.sync.ensures.bytes

pub returns-clause-keeps : goal.returns-clause-keeps
returns-clause-keeps g c =
    let law = laws g.met.D.Disk in
    keeps_same law (keeps_fills law g.B.Supply c.requires.settled c.requires.size c.requires.on_disk c.in_ok-import_all.ensures.fills) c.sync.ensures.stops c.sync.ensures.bytes

pub returns-clause-written : goal.returns-clause-written
returns-clause-written g c = λ once image told.
    subst (λ (k : ℕ). HasParts k (sectors_in c.args.place.now) (g.B.Supply.given c.import_all.new.from) image) c.requires.size
    (c.in_ok-import_all.ensures.fills.written once image (sym c.sync.ensures.bytes ∙ told))
