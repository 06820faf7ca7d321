use Rattle.std.proofs.Common.{◌≡◌, Ok, Err}
use Rattle.std.proofs.lemmas.Result.{err_from_is_err_and}
use Rattle.fc_device.proofs.DiskLaws.{laws}
use Rattle.fc_model.specs.Command.{Command}
use Rattle.fc_convert.proofs.LengthLemmas.{accepted_kept, file_refused}
use Rattle.fc_convert.proofs.ObjectLemmas.{asked_kept, command_failed, not_from}
use Rattle.fc_convert.proofs.copying.refuse_file.Goals as goal

pub returns-in_err-create-clause-made : goal.returns-in_err-create-clause-made
returns-in_err-create-clause-made g c bytes long =
    let words = c.args.words in
    let error = c.in_err-create.field-0.0 in
    let result = c.from_residual.result in
    file_refused c.args.path.now words.load words.exec words.len c.args.target.now c.create.new.self c.args.to.now c.create.new.disk c.requires.target.rights bytes long error result
    (command_failed error result (err_from_is_err_and result c.from_residual.ensures.1)) c.in_err-create.ensures

pub returns-in_err-create-clause-keeps : goal.returns-in_err-create-clause-keeps
returns-in_err-create-clause-keeps g c =
    let words = c.args.words in
    let error = c.in_err-create.field-0.0 in
    let result = c.from_residual.result in
    asked_kept (laws g.met.E.Disk) (Command.Create c.args.path.now words.load words.exec words.len) c.args.target.now c.create.new.self c.args.to.now c.create.new.disk (Err error) result
    (command_failed error result (err_from_is_err_and result c.from_residual.ensures.1)) c.requires.target c.in_err-create.ensures

pub returns-in_err-create-clause-cause : goal.returns-in_err-create-clause-cause
returns-in_err-create-clause-cause g c =
    let error = c.in_err-create.field-0.0 in
    let result = c.from_residual.result in
    not_from (Err error) result (command_failed error result (err_from_is_err_and result c.from_residual.ensures.1))

pub returns-clause-made : goal.returns-clause-made
returns-clause-made g c bytes long kind s holds = tt

pub returns-clause-keeps : goal.returns-clause-keeps
returns-clause-keeps g c =
    let words = c.args.words in
    accepted_kept (laws g.met.E.Disk) (Command.Create c.args.path.now words.load words.exec words.len) c.args.target.now c.create.new.self c.args.to.now c.create.new.disk c.requires.target c.in_ok-create.ensures
