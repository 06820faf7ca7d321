use Rattle.std.proofs.Common.{◌≡◌, List, Ok, Err, Result, ap, sym, subst, ◌∙◌, arith}
use Rattle.std.proofs.lemmas.Result.{err_from_is_err_and}
use Rattle.fc_device.proofs.DiskLaws.{laws}
use Rattle.fc_device.proofs.StopLemmas.{goes_on, reads_start, started}
use Rattle.fc_names.specs.Names.{Path}
use Rattle.fc_tree.specs.Nodes.{Numbers, nodes_of}
use Rattle.fc_fit.specs.Counts.{counts_of}
use Rattle.fc_fit.specs.Found.{AllLead}
use Rattle.fc_volume.specs.Volume.{parts_of}
use Rattle.fc_image.specs.Layout.{dir_form}
use Rattle.fc_convert.specs.declared.ending.ConvertEnd.{ConvertEnd}
use Rattle.fc_convert.specs.Converting.{CopiesVolume}
use Rattle.fc_convert.specs.Copying.{CopiesAll}
use Rattle.fc_convert.specs.Words.{words_in}
use Rattle.fc_convert.proofs.ConvertLemmas.{all_fit, by_all, by_copying, by_fitting, by_opening, failed}
use Rattle.fc_convert.proofs.FittingLemmas.{fitting_tell, rest_fit, rest_lead, rest_of}
use Rattle.fc_convert.proofs.converting.copy_volume.Goals as goal

pub returns-in_err-paths : goal.returns-in_err-paths
returns-in_err-paths g c =
    let p = err_from_is_err_and c.from_residual.result c.from_residual.ensures.1 in
    let end = c.in_err-paths.field-0.0 in
    let is : c.from_residual.result ≡ failed end = p.1 ∙ ap failed p.2 in
    subst (CopiesVolume g.D.Disk g.E.Disk (words_in c.args.asked.now) c.args.source.now c.args.from.now c.args.from.now c.args.to.now c.args.to.now) (sym is)
    (record {
      copied = by_fitting g.D.Disk g.E.Disk (words_in c.args.asked.now) c.args.source.now c.args.from.now c.args.from.now c.args.to.now c.args.to.now end c.in_err-paths.ensures.err;
      reads = reads_start (laws g.met.D.Disk) c.args.from.now;
      goes = started (laws g.met.E.Disk) c.args.to.now (λ image. Unit {0}) (λ image left. tt);
    })

pub returns-in_err-target : goal.returns-in_err-target
returns-in_err-target g c =
    let p = err_from_is_err_and c.from_residual-in_err-target.result c.from_residual-in_err-target.ensures.1 in
    let end = c.in_err-target.field-0.0 in
    let is : c.from_residual-in_err-target.result ≡ failed end = p.1 ∙ ap failed p.2 in
    subst (CopiesVolume g.D.Disk g.E.Disk (words_in c.args.asked.now) c.args.source.now c.args.from.now c.args.from.now c.args.to.now c.open_target.new.to) (sym is)
    (record {
      copied =
          by_opening g.D.Disk g.E.Disk (words_in c.args.asked.now) c.args.source.now c.args.from.now c.args.from.now c.args.to.now c.open_target.new.to
          (λ kind s holds. all_fit c.rising.ensures c.args.asked.now.format c.args.source.now c.args.from.now c.in_ok-paths.paths.items c.in_ok-paths.ensures.ok kind s holds) c.in_err-target.ensures.asked end
          c.in_err-target.ensures.ends;
      reads = reads_start (laws g.met.D.Disk) c.args.from.now;
      goes = c.in_err-target.ensures.goes;
    })

pub copy_objects-requires-clause-there : goal.copy_objects-requires-clause-there
copy_objects-requires-clause-there g c =
    let told = fitting_tell c.rising.ensures c.args.asked.now.format c.args.source.now c.in_ok-paths.paths.items c.requires.source.stands.agree c.in_ok-paths.ensures.ok in
    rest_lead c.args.source.now c.deref.result.now c.in_ok-paths.paths.items told.0 told.1 c.deref.ensures.value

pub copy_objects-requires-clause-form : goal.copy_objects-requires-clause-form
copy_objects-requires-clause-form g c =
    let told = fitting_tell c.rising.ensures c.args.asked.now.format c.args.source.now c.in_ok-paths.paths.items c.requires.source.stands.agree c.in_ok-paths.ensures.ok in
    rest_fit c.args.asked.now.format (dir_form (parts_of c.in_ok-target.target).layout) c.args.source.now c.deref.result.now c.in_ok-paths.paths.items told.0 told.1 c.in_ok-paths.ensures.ok.1
    c.in_ok-target.ensures.told.form c.deref.ensures.value

pub returns-in_err-copy_objects : goal.returns-in_err-copy_objects
returns-in_err-copy_objects g c =
    let p = err_from_is_err_and c.from_residual-in_err-copy_objects.result c.from_residual-in_err-copy_objects.ensures.1 in
    let end = c.in_err-copy_objects.field-0.0 in
    let is : c.from_residual-in_err-copy_objects.result ≡ failed end = p.1 ∙ ap failed p.2 in
    let done = c.in_err-copy_objects.ensures in
    subst (CopiesVolume g.D.Disk g.E.Disk (words_in c.args.asked.now) c.args.source.now c.args.from.now c.copy_objects.new.from c.args.to.now c.copy_objects.new.to) (sym is)
    (record {
      copied =
          by_copying g.D.Disk g.E.Disk c.rising.ensures c.converts.ensures (words_in c.args.asked.now) c.args.source.now c.in_ok-target.target c.copy_objects.new.target c.args.from.now c.copy_objects.new.from
          c.args.to.now c.open_target.new.to c.copy_objects.new.to c.in_ok-paths.paths.items c.in_ok-paths.ensures.ok c.in_ok-target.ensures.asked c.in_ok-target.ensures.told done.keeps.form end
          (subst (λ (ps : List Path). CopiesAll g.D.Disk g.E.Disk c.args.source.now c.args.from.now c.in_ok-target.target c.copy_objects.new.target c.open_target.new.to c.copy_objects.new.to ps (Err end))
          (rest_of c.deref.result.now c.in_ok-paths.paths.items c.deref.ensures.value) done.copied)
          done.keeps.settled done.from_fault (λ e. let a = done.to_fault e in let b = c.in_ok-target.ensures.later in omega (arith, a, b));
      reads = done.reads;
      goes = goes_on (laws g.met.E.Disk) c.in_ok-target.ensures.goes done.keeps.goes (λ image u. u);
    })

pub counts_of-requires : goal.counts_of-requires
counts_of-requires g c =
    let told = fitting_tell c.rising.ensures c.args.asked.now.format c.args.source.now c.in_ok-paths.paths.items c.requires.source.stands.agree c.in_ok-paths.ensures.ok in
    subst (λ (t : Numbers). AllLead (nodes_of t) c.deref-2.result.now) (sym c.tree.ensures) (subst (AllLead (nodes_of c.args.source.now.tree)) (sym c.deref-2.ensures.value) told.1.lead)

pub returns : goal.returns
returns g c =
    let done = c.in_ok-copy_objects.ensures in
    record {
      copied =
          by_all g.D.Disk g.E.Disk c.rising.ensures c.converts.ensures (words_in c.args.asked.now) c.args.source.now c.in_ok-target.target c.copy_objects.new.target c.args.from.now c.copy_objects.new.from
          c.args.to.now c.open_target.new.to c.copy_objects.new.to c.in_ok-paths.paths.items c.in_ok-paths.ensures.ok c.in_ok-target.ensures.asked c.in_ok-target.ensures.told done.keeps.form c.counts_of.result
          (subst (λ (ps : List Path). CopiesAll g.D.Disk g.E.Disk c.args.source.now c.args.from.now c.in_ok-target.target c.copy_objects.new.target c.open_target.new.to c.copy_objects.new.to ps (Ok c.in_ok-copy_objects.field-0))
          (rest_of c.deref.result.now c.in_ok-paths.paths.items c.deref.ensures.value) done.copied)
          done.keeps.settled
          (c.counts_of.ensures ∙ ap (λ (t : Numbers). counts_of (nodes_of t) c.deref-2.result.now) c.tree.ensures ∙ ap (counts_of (nodes_of c.args.source.now.tree)) c.deref-2.ensures.value);
      reads = done.reads;
      goes = goes_on (laws g.met.E.Disk) c.in_ok-target.ensures.goes done.keeps.goes (λ image u. u);
    }
