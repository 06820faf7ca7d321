use Rattle.std.proofs.Common.{◌≡◌, Ok, Err, Some, refl, sym, ap, subst, ◌∙◌}
use Rattle.std.proofs.lemmas.Result.{err_from_is_err_and}
use Rattle.fc_device.proofs.DiskLaws.{laws}
use Rattle.fc_device.proofs.StopLemmas.{reads_start}
use Rattle.fc_model.specs.Command.{Command}
use Rattle.fc_tree.specs.Nodes.{Numbers, nodes_of}
use Rattle.fc_fit.specs.Found.{node_in}
use Rattle.fc_convert.proofs.ObjectLemmas.{asked_kept, asked_made, command_failed, dir_made, file_made, not_from}
use Rattle.fc_convert.proofs.copying.make_object.Goals as goal

pub returns-in_err-cdir-clause-made : goal.returns-in_err-cdir-clause-made
returns-in_err-cdir-clause-made g c =
    let path = c.args.path.now in
    let error = c.in_err-cdir.field-0.0 in
    let result = c.from_residual.result in
    dir_made g.D.Disk g.E.Disk c.args.source.now c.args.from.now path c.node_at.result.now (ap (λ (t : Numbers). node_in (nodes_of t) path) (sym c.tree.ensures) ∙ c.node_at.ensures) c.args.target.now c.cdir.new.self
    c.args.to.now c.cdir.new.disk result (sym c.is_directory.ensures ∙ c.if-is_directory.true)
    (asked_made (laws g.met.E.Disk) (Command.Cdir path) c.args.target.now c.cdir.new.self c.args.to.now c.cdir.new.disk (Err error) result
    (command_failed error result (err_from_is_err_and result c.from_residual.ensures.1)) c.requires.target c.in_err-cdir.ensures)

pub returns-in_err-cdir-clause-keeps : goal.returns-in_err-cdir-clause-keeps
returns-in_err-cdir-clause-keeps g c =
    let error = c.in_err-cdir.field-0.0 in
    let result = c.from_residual.result in
    asked_kept (laws g.met.E.Disk) (Command.Cdir c.args.path.now) c.args.target.now c.cdir.new.self c.args.to.now c.cdir.new.disk (Err error) result
    (command_failed error result (err_from_is_err_and result c.from_residual.ensures.1)) c.requires.target c.in_err-cdir.ensures

pub returns-in_err-cdir-clause-reads : goal.returns-in_err-cdir-clause-reads
returns-in_err-cdir-clause-reads g c = reads_start (laws g.met.D.Disk) c.args.from.now

pub returns-in_err-cdir-clause-cause : goal.returns-in_err-cdir-clause-cause
returns-in_err-cdir-clause-cause g c is =
    let error = c.in_err-cdir.field-0.0 in
    let result = c.from_residual.result in
    absurd (not_from (Err error) result (command_failed error result (err_from_is_err_and result c.from_residual.ensures.1)) is)

pub copy_file-requires-clause-there : goal.copy_file-requires-clause-there
copy_file-requires-clause-there g c =
    (c.node_at.result.now, ap (λ (t : Numbers). node_in (nodes_of t) c.args.path.now) (sym c.tree.ensures) ∙ c.node_at.ensures, sym c.is_directory.ensures ∙ c.if-is_directory.false)

pub returns-in_ok-cdir-clause-made : goal.returns-in_ok-cdir-clause-made
returns-in_ok-cdir-clause-made g c =
    let path = c.args.path.now in
    dir_made g.D.Disk g.E.Disk c.args.source.now c.args.from.now path c.node_at.result.now (ap (λ (t : Numbers). node_in (nodes_of t) path) (sym c.tree.ensures) ∙ c.node_at.ensures) c.args.target.now c.cdir.new.self
    c.args.to.now c.cdir.new.disk (Ok tt) (sym c.is_directory.ensures ∙ c.if-is_directory.true)
    (asked_made (laws g.met.E.Disk) (Command.Cdir path) c.args.target.now c.cdir.new.self c.args.to.now c.cdir.new.disk (Ok tt) (Ok tt) refl c.requires.target c.in_ok-cdir.ensures)

pub returns-in_ok-cdir-clause-keeps : goal.returns-in_ok-cdir-clause-keeps
returns-in_ok-cdir-clause-keeps g c =
    asked_kept (laws g.met.E.Disk) (Command.Cdir c.args.path.now) c.args.target.now c.cdir.new.self c.args.to.now c.cdir.new.disk (Ok tt) (Ok tt) refl c.requires.target c.in_ok-cdir.ensures

pub returns-in_ok-cdir-clause-reads : goal.returns-in_ok-cdir-clause-reads
returns-in_ok-cdir-clause-reads g c = reads_start (laws g.met.D.Disk) c.args.from.now

pub returns-else-is_directory-clause-made : goal.returns-else-is_directory-clause-made
returns-else-is_directory-clause-made g c =
    let path = c.args.path.now in
    file_made g.D.Disk g.E.Disk c.args.source.now c.args.from.now path c.node_at.result.now (ap (λ (t : Numbers). node_in (nodes_of t) path) (sym c.tree.ensures) ∙ c.node_at.ensures) c.args.target.now
    c.copy_file.new.target c.args.to.now c.copy_file.new.to c.copy_file.result (sym c.is_directory.ensures ∙ c.if-is_directory.false) c.copy_file.ensures.made

pub returns-else-is_directory-clause-keeps : goal.returns-else-is_directory-clause-keeps
returns-else-is_directory-clause-keeps g c = c.copy_file.ensures.keeps

pub returns-else-is_directory-clause-reads : goal.returns-else-is_directory-clause-reads
returns-else-is_directory-clause-reads g c = c.copy_file.ensures.reads

pub returns-else-is_directory-clause-cause : goal.returns-else-is_directory-clause-cause
returns-else-is_directory-clause-cause g c = c.copy_file.ensures.cause
