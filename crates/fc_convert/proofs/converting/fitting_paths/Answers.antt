use Rattle.std.proofs.Common.{List, ◌≡◌, ◌<◌, length, Some, sym, subst, ap, ◌∙◌, arith}
use Rattle.fc_names.specs.Names.{Path}
use Rattle.fc_image.specs.Layout.{Layout}
use Rattle.fc_image.specs.Sound.{AreSound}
use Rattle.fc_image.specs.Walk.{Listing}
use Rattle.fc_tree.specs.Nodes.{HoldObjects, Numbers, nodes_of}
use Rattle.fc_fit.specs.Found.{AllLead}
use Rattle.fc_volume.specs.Volume.{parts_of}
use Rattle.fc_convert.proofs.FittingLemmas.{Rise, agreed, same_misfit, told_by}
use Rattle.fc_convert.proofs.converting.fitting_paths.Goals as goal

pub paths_of-requires : goal.paths_of-requires
paths_of-requires c =
    subst (λ (t : Numbers). (layout : Layout) × (listings : List Listing) × AreSound layout listings × HoldObjects (nodes_of t) listings) (sym c.tree.ensures)
    (agreed c.requires.agree.0 (parts_of c.args.source.now) c.requires.agree.1)

pub first_misfit-requires : goal.first_misfit-requires
first_misfit-requires c =
    subst (λ (t : Numbers). AllLead (nodes_of t) c.deref.result.now) (sym c.tree-2.ensures)
    (subst (AllLead (nodes_of c.args.source.now.tree)) (sym c.deref.ensures.value)
    (told_by c.rising.ensures c.args.source.now c.tree.result.now c.in-Ok.paths.items c.requires.agree c.tree.ensures c.in-Ok.ensures).1.lead)

pub swap_remove-requires : goal.swap_remove-requires
swap_remove-requires c =
    let at : c.in-Some.field-0.at < length c.in-Ok.paths.items =
    (told_by c.rising.ensures c.args.source.now c.tree.result.now c.in-Ok.paths.items c.requires.agree c.tree.ensures c.in-Ok.ensures).1.within c.args.asked.now.format c.in-Some.field-0
    (sym (same_misfit c.args.asked.now.format c.tree-2.result.now c.args.source.now.tree c.in-Ok.paths.items c.deref.result.now c.tree-2.ensures c.deref.ensures.value)
    ∙ sym c.first_misfit.ensures ∙ c.in-Some.is) in
    let long : length c.deref.result.now ≡ length c.in-Ok.paths.items = ap length c.deref.ensures.value in
    omega (arith, at, long, c.deref.ensures.len)

pub returns-in-None-clause-ok : goal.returns-in-None-clause-ok
returns-in-None-clause-ok c = (
  λ layout listings image. subst (λ (t : Numbers). Rise t c.in-Ok.paths.items) c.tree.ensures c.in-Ok.ensures layout listings,
  sym (same_misfit c.args.asked.now.format c.tree-2.result.now c.args.source.now.tree c.in-Ok.paths.items c.deref.result.now c.tree-2.ensures c.deref.ensures.value)
      ∙ sym c.first_misfit.ensures ∙ c.in-None.is,
)

pub returns-in-None-clause-some : goal.returns-in-None-clause-some
returns-in-None-clause-some c =
    (told_by c.rising.ensures c.args.source.now c.tree.result.now c.in-Ok.paths.items c.requires.agree c.tree.ensures c.in-Ok.ensures).1.some
