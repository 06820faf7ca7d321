use Rattle.std.proofs.Common.{◌≡◌, ⊎_elim, ◌%◌, true, Ok, Err, refl, sym, subst}
use Rattle.std.proofs.lemmas.Result.{err_from_is_err_and}
use Rattle.fc_device.proofs.DiskLaws.{laws}
use Rattle.fc_names.specs.declared.name.NameForm.{NameForm}
use Rattle.fc_names.specs.declared.name.NameForm.TheVariants as forms
use Rattle.fc_model.specs.Command.{Command}
use Rattle.fc_image.specs.Layout.{dir_form}
use Rattle.fc_fit.specs.Fit.{is_attrs_right}
use Rattle.fc_volume.specs.Volume.{parts_of}
use Rattle.fc_convert.proofs.ObjectLemmas.{asked_done, asked_kept, below_seven, below_ten, both_kept, both_made, command_failed, first_failed, form_cases, not_from}
use Rattle.fc_convert.proofs.copying.set_words.Goals as goal

pub returns-in_err-set-clause-made : goal.returns-in_err-set-clause-made
returns-in_err-set-clause-made g c =
    let path = c.args.path.now in
    let entry = c.args.entry.now in
    let error = c.in_err-set.field-0.0 in
    first_failed (laws g.met.E.Disk) (Command.Set path entry.load entry.exec (entry.attrs % 8)) (Command.Mark path entry.attrs) c.args.target.now c.set.new.self c.args.to.now c.set.new.disk c.requires.target error
    c.from_residual.result (command_failed error c.from_residual.result (err_from_is_err_and c.from_residual.result c.from_residual.ensures.1)) c.in_err-set.ensures.asked

pub returns-in_err-set-clause-keeps : goal.returns-in_err-set-clause-keeps
returns-in_err-set-clause-keeps g c =
    let entry = c.args.entry.now in
    let error = c.in_err-set.field-0.0 in
    asked_kept (laws g.met.E.Disk) (Command.Set c.args.path.now entry.load entry.exec (entry.attrs % 8)) c.args.target.now c.set.new.self c.args.to.now c.set.new.disk (Err error) c.from_residual.result
    (command_failed error c.from_residual.result (err_from_is_err_and c.from_residual.result c.from_residual.ensures.1)) c.requires.target c.in_err-set.ensures.asked

pub returns-in_err-set-clause-cause : goal.returns-in_err-set-clause-cause
returns-in_err-set-clause-cause g c =
    let error = c.in_err-set.field-0.0 in
    not_from (Err error) c.from_residual.result (command_failed error c.from_residual.result (err_from_is_err_and c.from_residual.result c.from_residual.ensures.1))

pub mark-requires-clause-attached : goal.mark-requires-clause-attached
mark-requires-clause-attached g c =
    let entry = c.args.entry.now in
    (asked_done (laws g.met.E.Disk) (Command.Set c.args.path.now entry.load entry.exec (entry.attrs % 8)) c.args.target.now c.set.new.self c.args.to.now c.set.new.disk tt c.requires.target
    c.in_ok-set.ensures.asked).ready.attached

pub mark-requires-clause-settled : goal.mark-requires-clause-settled
mark-requires-clause-settled g c = c.in_ok-set.ensures.asked.keeps.settled

pub mark-requires-clause-fit : goal.mark-requires-clause-fit
mark-requires-clause-fit g c = c.in_ok-set.ensures.asked.keeps.fit

pub mark-requires-clause-stands : goal.mark-requires-clause-stands
mark-requires-clause-stands g c = c.in_ok-set.ensures.asked.keeps.stands

pub mark-requires-clause-form : goal.mark-requires-clause-form
mark-requires-clause-form g c =
    let form = dir_form (parts_of c.set.new.self).layout in
    let attrs = c.args.entry.now.attrs in
    let right : is_attrs_right form attrs ≡ true = subst (λ (f : NameForm). is_attrs_right f attrs ≡ true) (sym c.in_ok-set.ensures.asked.keeps.dirs) c.requires.form in
    ⊎_elim (λ (is : form ≡ forms.Seven). rw is (below_seven form attrs right is))
    (λ other. ⊎_elim (λ (is : form ≡ forms.Ten). rw is (below_ten form attrs right is)) (λ (is : form ≡ forms.Long). rw is tt) other) (form_cases form)

pub returns-in_err-mark-clause-made : goal.returns-in_err-mark-clause-made
returns-in_err-mark-clause-made g c =
    let path = c.args.path.now in
    let entry = c.args.entry.now in
    let result = c.from_residual-in_err-mark.result in
    let error = c.in_err-mark.field-0.0 in
    both_made (laws g.met.E.Disk) (Command.Set path entry.load entry.exec (entry.attrs % 8)) (Command.Mark path entry.attrs) c.args.target.now c.set.new.self c.args.to.now c.set.new.disk c.requires.target
    c.mark.new.self c.mark.new.disk tt (Err error) result (command_failed error result (err_from_is_err_and result c.from_residual-in_err-mark.ensures.1)) c.in_ok-set.ensures.asked c.in_err-mark.ensures.asked

pub returns-in_err-mark-clause-keeps : goal.returns-in_err-mark-clause-keeps
returns-in_err-mark-clause-keeps g c =
    let path = c.args.path.now in
    let entry = c.args.entry.now in
    let result = c.from_residual-in_err-mark.result in
    let error = c.in_err-mark.field-0.0 in
    both_kept (laws g.met.E.Disk) (Command.Set path entry.load entry.exec (entry.attrs % 8)) (Command.Mark path entry.attrs) c.args.target.now c.set.new.self c.args.to.now c.set.new.disk c.requires.target
    c.mark.new.self c.mark.new.disk tt (Err error) result (command_failed error result (err_from_is_err_and result c.from_residual-in_err-mark.ensures.1)) c.in_ok-set.ensures.asked c.in_err-mark.ensures.asked

pub returns-in_err-mark-clause-cause : goal.returns-in_err-mark-clause-cause
returns-in_err-mark-clause-cause g c =
    let result = c.from_residual-in_err-mark.result in
    let error = c.in_err-mark.field-0.0 in
    not_from (Err error) result (command_failed error result (err_from_is_err_and result c.from_residual-in_err-mark.ensures.1))

pub returns-clause-made : goal.returns-clause-made
returns-clause-made g c =
    let path = c.args.path.now in
    let entry = c.args.entry.now in
    both_made (laws g.met.E.Disk) (Command.Set path entry.load entry.exec (entry.attrs % 8)) (Command.Mark path entry.attrs) c.args.target.now c.set.new.self c.args.to.now c.set.new.disk c.requires.target
    c.mark.new.self c.mark.new.disk tt (Ok tt) (Ok tt) refl c.in_ok-set.ensures.asked c.in_ok-mark.ensures.asked

pub returns-clause-keeps : goal.returns-clause-keeps
returns-clause-keeps g c =
    let path = c.args.path.now in
    let entry = c.args.entry.now in
    both_kept (laws g.met.E.Disk) (Command.Set path entry.load entry.exec (entry.attrs % 8)) (Command.Mark path entry.attrs) c.args.target.now c.set.new.self c.args.to.now c.set.new.disk c.requires.target
    c.mark.new.self c.mark.new.disk tt (Ok tt) (Ok tt) refl c.in_ok-set.ensures.asked c.in_ok-mark.ensures.asked
