use Rattle.std.proofs.Common.{◌≡◌, ◌∙◌, ℕ, List, Some, Ok, Err, length, refl, sym, ap, subst}
use Rattle.std.proofs.lemmas.Result.{err_from_is_err_and}
use Rattle.fc_device.specs.Calls.{OnlyReads}
use Rattle.fc_device.specs.Faults.{Rose}
use Rattle.fc_device.proofs.DiskLaws.{laws}
use Rattle.fc_model.specs.Command.{Command}
use Rattle.fc_tree.specs.Nodes.{Numbers, nodes_of}
use Rattle.fc_fit.specs.Found.{node_in}
use Rattle.fc_volume.specs.Volume.{StandsFor}
use Rattle.fc_convert.proofs.MakingLemmas.{keeps_none}
use Rattle.fc_convert.proofs.ObjectLemmas.{asked_kept, asked_made, command_failed, file_saved, file_unread, not_from, not_to, read_caused, read_failed}
use Rattle.fc_convert.proofs.SourceLemmas.{read_bytes}
use Rattle.fc_convert.proofs.copying.copy_bytes.Goals as goal

pub read_file-requires-clause-attached : goal.read_file-requires-clause-attached
read_file-requires-clause-attached g c = ap g.D.Disk.attached c.file_at-file.ensures.disk ∙ c.requires.source.attached

pub read_file-requires-clause-stands : goal.read_file-requires-clause-stands
read_file-requires-clause-stands g c = subst (StandsFor g.D.Disk c.args.source.now) (sym c.file_at-file.ensures.disk) c.requires.source.stands

pub returns-in_err-bytes-clause-made : goal.returns-in_err-bytes-clause-made
returns-in_err-bytes-clause-made g c =
    let error = c.in_err-bytes.field-0.0 in
    let result = c.from_residual.result in
    file_unread g.D.Disk g.E.Disk c.args.source.now c.args.from.now c.args.path.now c.node_at.result.now (ap (λ (t : Numbers). node_in (nodes_of t) c.args.path.now) (sym c.tree.ensures) ∙ c.node_at.ensures)
    c.args.target.now c.args.target.now c.args.to.now c.args.to.now result c.file_at-file.result c.file_at-file.ensures.bytes error (read_failed error result (err_from_is_err_and result c.from_residual.ensures.1))

pub returns-in_err-bytes-clause-keeps : goal.returns-in_err-bytes-clause-keeps
returns-in_err-bytes-clause-keeps g c =
    let error = c.in_err-bytes.field-0.0 in
    let result = c.from_residual.result in
    keeps_none (laws g.met.E.Disk) c.args.target.now c.args.to.now result c.requires.target (not_to error result (read_failed error result (err_from_is_err_and result c.from_residual.ensures.1)))

pub returns-in_err-bytes-clause-reads : goal.returns-in_err-bytes-clause-reads
returns-in_err-bytes-clause-reads g c = subst (λ (s : g.row.D.Denot). OnlyReads g.D.Disk s c.read_file.new.disk) c.file_at-file.ensures.disk c.in_err-bytes.ensures.reads

pub returns-in_err-bytes-clause-cause : goal.returns-in_err-bytes-clause-cause
returns-in_err-bytes-clause-cause g c is =
    let error = c.in_err-bytes.field-0.0 in
    let result = c.from_residual.result in
    subst (λ (s : g.row.D.Denot). Rose (g.D.Disk.faults s) (g.D.Disk.faults c.read_file.new.disk)) c.file_at-file.ensures.disk
    (read_caused error result (read_failed error result (err_from_is_err_and result c.from_residual.ensures.1)) c.in_err-bytes.ensures.cause is)

pub save-requires-clause-length : goal.save-requires-clause-length
save-requires-clause-length g c =
    ap length c.deref.ensures.value ∙ c.in_ok-bytes.ensures.long
    ∙ c.file_at-file.ensures.len c.node_at.result.now (ap (λ (t : Numbers). node_in (nodes_of t) c.args.path.now) (sym c.tree.ensures) ∙ c.node_at.ensures)

pub returns-in_err-save-clause-made : goal.returns-in_err-save-clause-made
returns-in_err-save-clause-made g c =
    let error = c.in_err-save.field-0.0 in
    let result = c.from_residual-in_err-save.result in
    let path = c.args.path.now in
    let here = c.node_at.result.now in
    let bytes = c.deref.result.now in
    file_saved g.D.Disk g.E.Disk c.args.source.now c.args.from.now path here (ap (λ (t : Numbers). node_in (nodes_of t) path) (sym c.tree.ensures) ∙ c.node_at.ensures)
    c.args.target.now c.save.new.self c.args.to.now c.save.new.disk result bytes
    (read_bytes c.args.source.now c.args.from.now path c.file_at-file.result c.file_at-file.ensures.bytes bytes
    (λ image told. c.deref.ensures.value ∙ c.in_ok-bytes.ensures.bytes image (ap g.D.Disk.bytes c.file_at-file.ensures.disk ∙ told)))
    (asked_made (laws g.met.E.Disk) (Command.Save path here.entry.load here.entry.exec bytes) c.args.target.now c.save.new.self c.args.to.now c.save.new.disk (Err error) result
    (command_failed error result (err_from_is_err_and result c.from_residual-in_err-save.ensures.1)) c.requires.target c.in_err-save.ensures)

pub returns-in_err-save-clause-keeps : goal.returns-in_err-save-clause-keeps
returns-in_err-save-clause-keeps g c =
    let error = c.in_err-save.field-0.0 in
    let result = c.from_residual-in_err-save.result in
    let here = c.node_at.result.now in
    asked_kept (laws g.met.E.Disk) (Command.Save c.args.path.now here.entry.load here.entry.exec c.deref.result.now) c.args.target.now c.save.new.self c.args.to.now c.save.new.disk (Err error) result
    (command_failed error result (err_from_is_err_and result c.from_residual-in_err-save.ensures.1)) c.requires.target c.in_err-save.ensures

pub returns-in_err-save-clause-reads : goal.returns-in_err-save-clause-reads
returns-in_err-save-clause-reads g c = subst (λ (s : g.row.D.Denot). OnlyReads g.D.Disk s c.read_file.new.disk) c.file_at-file.ensures.disk c.in_ok-bytes.ensures.reads

pub returns-in_err-save-clause-cause : goal.returns-in_err-save-clause-cause
returns-in_err-save-clause-cause g c is =
    let error = c.in_err-save.field-0.0 in
    let result = c.from_residual-in_err-save.result in
    absurd (not_from (Err error) result (command_failed error result (err_from_is_err_and result c.from_residual-in_err-save.ensures.1)) is)

pub returns-clause-made : goal.returns-clause-made
returns-clause-made g c =
    let path = c.args.path.now in
    let here = c.node_at.result.now in
    let bytes = c.deref.result.now in
    file_saved g.D.Disk g.E.Disk c.args.source.now c.args.from.now path here (ap (λ (t : Numbers). node_in (nodes_of t) path) (sym c.tree.ensures) ∙ c.node_at.ensures)
    c.args.target.now c.save.new.self c.args.to.now c.save.new.disk (Ok tt) bytes
    (read_bytes c.args.source.now c.args.from.now path c.file_at-file.result c.file_at-file.ensures.bytes bytes
    (λ image told. c.deref.ensures.value ∙ c.in_ok-bytes.ensures.bytes image (ap g.D.Disk.bytes c.file_at-file.ensures.disk ∙ told)))
    (asked_made (laws g.met.E.Disk) (Command.Save path here.entry.load here.entry.exec bytes) c.args.target.now c.save.new.self c.args.to.now c.save.new.disk (Ok tt) (Ok tt) refl c.requires.target
    c.in_ok-save.ensures)

pub returns-clause-keeps : goal.returns-clause-keeps
returns-clause-keeps g c =
    let here = c.node_at.result.now in
    asked_kept (laws g.met.E.Disk) (Command.Save c.args.path.now here.entry.load here.entry.exec c.deref.result.now) c.args.target.now c.save.new.self c.args.to.now c.save.new.disk (Ok tt) (Ok tt) refl c.requires.target
    c.in_ok-save.ensures

pub returns-clause-reads : goal.returns-clause-reads
returns-clause-reads g c = subst (λ (s : g.row.D.Denot). OnlyReads g.D.Disk s c.read_file.new.disk) c.file_at-file.ensures.disk c.in_ok-bytes.ensures.reads
