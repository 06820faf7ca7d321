use Rattle.std.proofs.Common.{sym, subst, ◌∙◌}
use Rattle.fc_convert.specs.Opened.{EndsOpening}
use Rattle.fc_convert.proofs.OpeningLemmas.{form_ends, fresh_holds, target_ends}
use Rattle.fc_convert.proofs.target.mount_target.Goals as goal

pub returns-in-Ok-clause-told : goal.returns-in-Ok-clause-told
returns-in-Ok-clause-told g c =
    fresh_holds g.E.Disk c.opens.ensures c.accepted.ensures c.args.format c.args.to.now c.mount.new.disk c.requires.made c.in-Ok.volume c.in-Ok.ensures.opened c.mount.ensures.shapes.bytes_stay

pub returns-in-Ok-2-clause-ends : goal.returns-in-Ok-2-clause-ends
returns-in-Ok-2-clause-ends g c =
    form_ends g.E.Disk c.opens.ensures c.accepted.ensures c.args.format c.args.to.now c.mount.new.disk c.requires.made c.in-Ok.volume c.in-Ok.ensures.opened
    (λ is. c.has_form.ensures.wrong c.if-has_form.false (is ∙ sym c.form_of.ensures)) (c.mount.ensures.shapes.pending_stays ∙ c.requires.fresh.nothing_pending)

pub returns-in-Err-clause-ends : goal.returns-in-Err-clause-ends
returns-in-Err-clause-ends g c =
    subst (EndsOpening g.E.Disk c.args.to.now c.mount.new.disk) (sym c.end_of.ensures)
    (target_ends g.E.Disk c.opens.ensures c.accepted.ensures c.args.format c.args.to.now c.mount.new.disk c.requires.made c.in-Err.error c.in-Err.ensures.fault c.in-Err.ensures.cause
    (c.mount.ensures.shapes.pending_stays ∙ c.requires.fresh.nothing_pending))
