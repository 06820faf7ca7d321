use Rattle.std.proofs.Common.{◌≡◌, ◌*◌, ℕ, sym, ap, subst, ◌∙◌}
use Rattle.std.proofs.lemmas.Result.{on_ok_weaker}
use Rattle.fc_device.proofs.DiskLaws.{laws}
use Rattle.fc_device.proofs.StopLemmas.{keeps_start, keeps_weaker, one_told}
use Rattle.fc_writing.specs.declared.ready.MapStep.{MapStep}
use Rattle.fc_writing.specs.Old.{IsOfDisc, StepLeaves, front_after, front_in, sector_of}
use Rattle.fc_writing.proofs.FrontLemmas.{count_of, done_of_disc, front_same, left_of_disc}
use Rattle.fc_writing.proofs.old_front.make_old_step.Goals as goal

pub returns-in-Nothing-clause-keeps : goal.returns-in-Nothing-clause-keeps
returns-in-Nothing-clause-keeps g c =
    keeps_start (laws g.met.D.Disk) (λ image. front_same (sector_of c.args.map.now) (count_of c.args.map.now) (front_after c.args.step.now (front_in c.args.map.now image)) image) c.args.disk.now c.requires.settled

pub returns-in-Nothing-clause-written : goal.returns-in-Nothing-clause-written
returns-in-Nothing-clause-written g c = λ was told image is.
    subst (λ (s : MapStep). front_in c.args.map.now image ≡ front_after s (front_in c.args.map.now was)) (sym c.in-Nothing.is) (ap (front_in c.args.map.now) (one_told (sym is ∙ told)))

pub write_map-requires-clause-size : goal.write_map-requires-clause-size
write_map-requires-clause-size g c = c.requires.size ∙ ap (λ (u : ℕ). 256 * u) (sym (subst (λ (s : MapStep). IsOfDisc c.args.map.now s) c.in-Old.is c.requires.disc).1)

pub returns-in-Old-clause-keeps : goal.returns-in-Old-clause-keeps
returns-in-Old-clause-keeps g c =
    keeps_weaker (laws g.met.D.Disk) c.write_map.ensures.keeps
    (λ was image leaves. subst (λ (s : MapStep). StepLeaves c.args.map.now s was image) (sym c.in-Old.is)
    (left_of_disc c.args.map.now c.in-Old.space (subst (λ (s : MapStep). IsOfDisc c.args.map.now s) c.in-Old.is c.requires.disc).1 was image leaves))

pub returns-in-Old-clause-written : goal.returns-in-Old-clause-written
returns-in-Old-clause-written g c =
    on_ok_weaker c.write_map.result
    (λ written was told image is. subst (λ (s : MapStep). front_in c.args.map.now image ≡ front_after s (front_in c.args.map.now was)) (sym c.in-Old.is)
    (done_of_disc c.args.map.now c.in-Old.space (subst (λ (s : MapStep). IsOfDisc c.args.map.now s) c.in-Old.is c.requires.disc).1 was image (written was told image is)))
    c.write_map.ensures.written
