use Rattle.std.proofs.Common.{◌≡◌, true, Ok, Err, Some, refl, sym, ap, subst, ◌∙◌}
use Rattle.std.proofs.lemmas.Result.{err_from_is_err_and}
use Rattle.fc_device.proofs.DiskLaws.{laws}
use Rattle.fc_names.specs.declared.name.NameForm.{NameForm}
use Rattle.fc_tree.specs.Nodes.{Numbers, nodes_of}
use Rattle.fc_fit.specs.Fit.{is_attrs_right}
use Rattle.fc_fit.specs.Found.{node_in}
use Rattle.fc_convert.specs.declared.copying.CopyError.{CopyError}
use Rattle.fc_convert.specs.Copying.{KeepsTarget}
use Rattle.fc_convert.proofs.MakingLemmas.{keeps_then}
use Rattle.fc_convert.proofs.ObjectLemmas.{copy_failed, failed, object_unmade, words_set}
use Rattle.fc_convert.proofs.copying.copy_object.Goals as goal

pub returns-in_err-make_object-clause-made : goal.returns-in_err-make_object-clause-made
returns-in_err-make_object-clause-made g c =
    let error = c.in_err-make_object.field-0.0 in
    let result = c.from_residual.result in
    object_unmade g.D.Disk g.E.Disk c.args.source.now c.args.from.now c.args.path.now c.args.target.now c.make_object.new.target c.args.to.now c.make_object.new.to error result
    (copy_failed error result (err_from_is_err_and result c.from_residual.ensures.1)) c.in_err-make_object.ensures.made

pub returns-in_err-make_object-clause-keeps : goal.returns-in_err-make_object-clause-keeps
returns-in_err-make_object-clause-keeps g c =
    let error = c.in_err-make_object.field-0.0 in
    let result = c.from_residual.result in
    subst (KeepsTarget {T = Unit {0}} g.E.Disk c.args.target.now c.make_object.new.target c.args.to.now c.make_object.new.to) (sym (copy_failed error result (err_from_is_err_and result c.from_residual.ensures.1)))
    c.in_err-make_object.ensures.keeps

pub returns-in_err-make_object-clause-reads : goal.returns-in_err-make_object-clause-reads
returns-in_err-make_object-clause-reads g c = c.in_err-make_object.ensures.reads

pub returns-in_err-make_object-clause-cause : goal.returns-in_err-make_object-clause-cause
returns-in_err-make_object-clause-cause g c is =
    let error = c.in_err-make_object.field-0.0 in
    let result = c.from_residual.result in
    c.in_err-make_object.ensures.cause (sym (copy_failed error result (err_from_is_err_and result c.from_residual.ensures.1)) ∙ is)

pub set_words-requires-clause-target : goal.set_words-requires-clause-target
set_words-requires-clause-target g c = c.in_ok-make_object.ensures.keeps.ready

pub set_words-requires-clause-form : goal.set_words-requires-clause-form
set_words-requires-clause-form g c =
    subst (λ (f : NameForm). is_attrs_right f c.node_at.result.now.entry.attrs ≡ true) (sym c.in_ok-make_object.ensures.keeps.dirs)
    (c.requires.form c.node_at.result.now (ap (λ (t : Numbers). node_in (nodes_of t) c.args.path.now) (sym c.tree.ensures) ∙ c.node_at.ensures))

pub returns-clause-made : goal.returns-clause-made
returns-clause-made g c =
    words_set g.D.Disk g.E.Disk c.args.source.now c.args.from.now c.args.path.now c.node_at.result.now
    (ap (λ (t : Numbers). node_in (nodes_of t) c.args.path.now) (sym c.tree.ensures) ∙ c.node_at.ensures) c.args.target.now c.set_words.new.target c.args.to.now c.set_words.new.to c.set_words.result
    c.make_object.new.target c.make_object.new.to tt c.in_ok-make_object.ensures.made c.in_ok-make_object.ensures.keeps.dirs c.set_words.ensures.made

pub returns-clause-keeps : goal.returns-clause-keeps
returns-clause-keeps g c =
    keeps_then (laws g.met.E.Disk) c.args.target.now c.make_object.new.target c.set_words.new.target c.args.to.now c.make_object.new.to c.set_words.new.to tt c.set_words.result
    c.in_ok-make_object.ensures.keeps c.set_words.ensures.keeps

pub returns-clause-reads : goal.returns-clause-reads
returns-clause-reads g c = c.in_ok-make_object.ensures.reads

pub returns-clause-cause : goal.returns-clause-cause
returns-clause-cause g c is = absurd (c.set_words.ensures.cause is)
