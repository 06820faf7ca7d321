use Rattle.std.proofs.Common.{sym, ap, subst, refl, ◌∙◌}
use Rattle.std.proofs.lemmas.Result.{err_from_is_err_and}
use Rattle.std.specs.Prelude.{Err, Result}
use Rattle.std.specs.Option.{ForSome}
use Rattle.fc_device.proofs.DiskLaws.{laws}
use Rattle.fc_device.specs.Calls.{StopsAndExitsLeave}
use Rattle.fc_image.specs.Layout.{Layout}
use Rattle.fc_space.specs.Space.{layout_of}
use Rattle.fc_tree.specs.Nodes.{next_number}
use Rattle.fc_writing.specs.declared.copies.Copies.TheVariants.{Equal}
use Rattle.fc_holdings.specs.declared.error.CommandError.{CommandError}
use Rattle.fc_holdings.specs.declared.holdings.Holdings.{Holdings}
use Rattle.fc_commands.specs.Answers.{AnswersShort}
use Rattle.fc_holdings.specs.Holdings.{IsSameKind, parts_of}
use Rattle.fc_commands.specs.Written.{CanWriteOn, ChangeLeavesOn, IsChangedOn, IsGivenOn}
use Rattle.fc_commands.proofs.AdmitLemmas.{can_take_over, laws_for, layout_stays, room_made, run_is}
use Rattle.fc_commands.proofs.ChangeLemmas.{accepts, faults, has_changed, nothing_written, refuses, same_form, stands_now, written}
use Rattle.fc_commands.proofs.KeepLemmas.{kept_done}
use Rattle.fc_commands.proofs.MomentLemmas.{leaves_nothing, leaves_written}
use Rattle.fc_commands.proofs.course.change.Goals as goal

pub make_ready-requires : goal.make_ready-requires
make_ready-requires g c =
    (laws_for g.D.Disk c.args.holdings.now c.args.disk.now c.jobs.ensures c.requires.stands c.is_map.ensures c.places_suffice.ensures c.args.job.now c.args.name.now c.args.bytes.now c.requires.covered c.requires.judged).can_prepare

-- ---- refused, or no memory

pub returns-in_err-change-clause-refused : goal.returns-in_err-change-clause-refused
returns-in_err-change-clause-refused g c = λ cmd j.
    let d = g.D.Disk in let was = c.args.holdings.now in let job = c.args.job.now in let name = c.args.name.now in let bytes = c.args.bytes.now in
    let jl = laws_for d was c.args.disk.now c.jobs.ensures c.requires.stands c.is_map.ensures c.places_suffice.ensures job name bytes c.requires.covered c.requires.judged in
    let p = err_from_is_err_and c.from_residual.result c.from_residual.ensures.1 in
    subst (λ (r : Result (Unit {0}) CommandError). AnswersShort cmd (parts_of was) r) (sym (p.1 ∙ ap (λ (y : CommandError). let r : Result (Unit {0}) CommandError = Err y in r) p.2))
    (refuses c.requires.stands.agree.0 (parts_of was) job name bytes jl cmd j c.in_err-change.field-0.0 c.in_err-change.ensures.refused)

pub returns-in_err-change-clause-places : goal.returns-in_err-change-clause-places
returns-in_err-change-clause-places g c = λ cmd j. nothing_written g.D.Disk (laws g.met.D.Disk) (parts_of c.args.holdings.now) cmd c.args.disk.now c.is_map.ensures c.requires.settled

pub returns-in_err-change-clause-leaves : goal.returns-in_err-change-clause-leaves
returns-in_err-change-clause-leaves g c =
    leaves_nothing g.D.Disk (laws g.met.D.Disk) c.args.holdings.now c.args.job.now c.args.name.now c.args.disk.now c.requires.stands c.requires.settled

-- ---- written

pub write_change-requires-clause-can : goal.write_change-requires-clause-can
write_change-requires-clause-can g c =
    let d = g.D.Disk in let was = c.args.holdings.now in let p = c.in_ok-change.field-0 in
    let jl = laws_for d was c.args.disk.now c.jobs.ensures c.requires.stands c.is_map.ensures c.places_suffice.ensures c.args.job.now c.args.name.now c.args.bytes.now c.requires.covered c.requires.judged in
    subst (λ (l : Layout). CanWriteOn l (d.sectors c.args.disk.now) p.ready) (sym (layout_stays was c.make_ready.new.holdings p.change c.in_ok-change.ensures.admitted))
    (jl.can_write p (d.sectors c.args.disk.now) c.in_ok-change.ensures.ready c.requires.stands.room)

pub returns-in-Err-clause-refused : goal.returns-in-Err-clause-refused
returns-in-Err-clause-refused g c = λ cmd j.
    let d = g.D.Disk in let was = c.args.holdings.now in let job = c.args.job.now in let name = c.args.name.now in let bytes = c.args.bytes.now in
    let jl = laws_for d was c.args.disk.now c.jobs.ensures c.requires.stands c.is_map.ensures c.places_suffice.ensures job name bytes c.requires.covered c.requires.judged in
    faults c.requires.stands.agree.0 (parts_of was) job name bytes jl cmd j c.in_ok-change.field-0 c.in_ok-change.ensures.ready

pub returns-in-Err-clause-places : goal.returns-in-Err-clause-places
returns-in-Err-clause-places g c = λ cmd j.
    let d = g.D.Disk in let was = c.args.holdings.now in let job = c.args.job.now in let name = c.args.name.now in let bytes = c.args.bytes.now in let p = c.in_ok-change.field-0 in
    let jl = laws_for d was c.args.disk.now c.jobs.ensures c.requires.stands c.is_map.ensures c.places_suffice.ensures job name bytes c.requires.covered c.requires.judged in
    let keeps = subst (λ (l : Layout). StopsAndExitsLeave d c.args.disk.now c.write_change.new.disk (ChangeLeavesOn l p.ready bytes)) (layout_stays was c.make_ready.new.holdings p.change c.in_ok-change.ensures.admitted) c.write_change.ensures.keeps in
    written d (laws g.met.D.Disk) was c.args.disk.now c.write_change.new.disk job name bytes c.requires.stands c.is_map.ensures jl p c.in_ok-change.ensures.ready keeps cmd j

pub returns-in-Err-clause-leaves : goal.returns-in-Err-clause-leaves
returns-in-Err-clause-leaves g c =
    let d = g.D.Disk in let was = c.args.holdings.now in let bytes = c.args.bytes.now in let p = c.in_ok-change.field-0 in
    let keeps = subst (λ (l : Layout). StopsAndExitsLeave d c.args.disk.now c.write_change.new.disk (ChangeLeavesOn l p.ready bytes)) (layout_stays was c.make_ready.new.holdings p.change c.in_ok-change.ensures.admitted) c.write_change.ensures.keeps in
    leaves_written d (laws g.met.D.Disk) was c.args.job.now c.args.name.now bytes c.args.disk.now c.write_change.new.disk p c.is_map.ensures c.in_ok-change.ensures.ready keeps

-- ---- taken over

pub take_over-requires : goal.take_over-requires
take_over-requires g c =
    let d = g.D.Disk in let was = c.args.holdings.now in let p = c.in_ok-change.field-0 in let mid = c.make_ready.new.holdings in
    let jl = laws_for d was c.args.disk.now c.jobs.ensures c.requires.stands c.is_map.ensures c.places_suffice.ensures c.args.job.now c.args.name.now c.args.bytes.now c.requires.covered c.requires.judged in
    can_take_over was mid p.change c.in_ok-change.ensures.admitted (layout_of c.write_change.new.places) mid.tree.room
    (jl.can_take p (layout_of c.write_change.new.places) (next_number was.tree) mid.tree.room c.in_ok-change.ensures.ready
    (subst (λ (l : Layout). IsGivenOn l p.ready (layout_of c.write_change.new.places)) (layout_stays was mid p.change c.in_ok-change.ensures.admitted) c.in-Ok.ensures.given)
    (room_made was mid p.change c.in_ok-change.ensures.admitted))

pub returns-in-Ok-clause-refused : goal.returns-in-Ok-clause-refused
returns-in-Ok-clause-refused g c = λ cmd j.
    let d = g.D.Disk in let was = c.args.holdings.now in let job = c.args.job.now in let name = c.args.name.now in let bytes = c.args.bytes.now in
    let jl = laws_for d was c.args.disk.now c.jobs.ensures c.requires.stands c.is_map.ensures c.places_suffice.ensures job name bytes c.requires.covered c.requires.judged in
    accepts c.requires.stands.agree.0 (parts_of was) job name bytes jl cmd j c.in_ok-change.field-0 c.in_ok-change.ensures.ready

pub returns-in-Ok-clause-places : goal.returns-in-Ok-clause-places
returns-in-Ok-clause-places g c = λ cmd j.
    let d = g.D.Disk in let was = c.args.holdings.now in let job = c.args.job.now in let name = c.args.name.now in let bytes = c.args.bytes.now in let p = c.in_ok-change.field-0 in
    let jl = laws_for d was c.args.disk.now c.jobs.ensures c.requires.stands c.is_map.ensures c.places_suffice.ensures job name bytes c.requires.covered c.requires.judged in
    let keeps = subst (λ (l : Layout). StopsAndExitsLeave d c.args.disk.now c.write_change.new.disk (ChangeLeavesOn l p.ready bytes)) (layout_stays was c.make_ready.new.holdings p.change c.in_ok-change.ensures.admitted) c.write_change.ensures.keeps in
    written d (laws g.met.D.Disk) was c.args.disk.now c.write_change.new.disk job name bytes c.requires.stands c.is_map.ensures jl p c.in_ok-change.ensures.ready keeps cmd j

pub returns-in-Ok-clause-leaves : goal.returns-in-Ok-clause-leaves
returns-in-Ok-clause-leaves g c =
    let d = g.D.Disk in let was = c.args.holdings.now in let bytes = c.args.bytes.now in let p = c.in_ok-change.field-0 in
    let keeps = subst (λ (l : Layout). StopsAndExitsLeave d c.args.disk.now c.write_change.new.disk (ChangeLeavesOn l p.ready bytes)) (layout_stays was c.make_ready.new.holdings p.change c.in_ok-change.ensures.admitted) c.write_change.ensures.keeps in
    leaves_written d (laws g.met.D.Disk) was c.args.job.now c.args.name.now bytes c.args.disk.now c.write_change.new.disk p c.is_map.ensures c.in_ok-change.ensures.ready keeps

pub returns-in-Ok-clause-changed : goal.returns-in-Ok-clause-changed
returns-in-Ok-clause-changed g c = λ cmd j.
    let d = g.D.Disk in let was = c.args.holdings.now in let job = c.args.job.now in let name = c.args.name.now in let bytes = c.args.bytes.now in let p = c.in_ok-change.field-0 in let mid = c.make_ready.new.holdings in
    let now : Holdings = record { tree = c.take_over.new.tree; places = c.write_change.new.places; owners = c.take_over.new.owners; copies = Equal } in
    let jl = laws_for d was c.args.disk.now c.jobs.ensures c.requires.stands c.is_map.ensures c.places_suffice.ensures job name bytes c.requires.covered c.requires.judged in
    let stays = layout_stays was mid p.change c.in_ok-change.ensures.admitted in
    let keeps = subst (λ (l : Layout). StopsAndExitsLeave d c.args.disk.now c.write_change.new.disk (ChangeLeavesOn l p.ready bytes)) stays c.write_change.ensures.keeps in
    let run = run_is was mid now p c.in_ok-change.ensures.admitted c.in-Ok.ensures.given c.take_over.ensures.nodes c.take_over.ensures.owners in
    has_changed d (laws g.met.D.Disk) was c.args.disk.now c.write_change.new.disk job name bytes c.requires.stands c.is_map.ensures jl p c.in_ok-change.ensures.ready keeps now (next_number was.tree) run
    (λ first told_first image told. subst (λ (l : Layout). IsChangedOn l (layout_of c.write_change.new.places) p.ready bytes first image) stays (c.in-Ok.ensures.done first told_first image told)) cmd j

pub returns-in-Ok-clause-keeps : goal.returns-in-Ok-clause-keeps
returns-in-Ok-clause-keeps g c =
    let d = g.D.Disk in let was = c.args.holdings.now in let job = c.args.job.now in let name = c.args.name.now in let bytes = c.args.bytes.now in let p = c.in_ok-change.field-0 in let mid = c.make_ready.new.holdings in
    let old = c.args.disk.now in let new = c.write_change.new.disk in
    let now : Holdings = record { tree = c.take_over.new.tree; places = c.write_change.new.places; owners = c.take_over.new.owners; copies = Equal } in
    let jl = laws_for d was old c.jobs.ensures c.requires.stands c.is_map.ensures c.places_suffice.ensures job name bytes c.requires.covered c.requires.judged in
    let stays = layout_stays was mid p.change c.in_ok-change.ensures.admitted in
    let keeps = subst (λ (l : Layout). StopsAndExitsLeave d old new (ChangeLeavesOn l p.ready bytes)) stays c.write_change.ensures.keeps in
    let run = run_is was mid now p c.in_ok-change.ensures.admitted c.in-Ok.ensures.given c.take_over.ensures.nodes c.take_over.ensures.owners in
    let done : ForSome (d.bytes old) (λ first. ForSome (d.bytes new) (IsChangedOn (layout_of was.places) (layout_of now.places) p.ready bytes first)) = λ first told_first image told. subst (λ (l : Layout). IsChangedOn l (layout_of c.write_change.new.places) p.ready bytes first image) stays (c.in-Ok.ensures.done first told_first image told) in
    kept_done d old new was now
    (stands_now d (laws g.met.D.Disk) was old new job name bytes c.requires.stands c.is_map.ensures jl p c.in_ok-change.ensures.ready keeps now (next_number was.tree) run done c.requires.judged.0 c.requires.judged.1 refl c.write_change.ensures.form)
    c.in-Ok.ensures.durable (subst (λ (l : Layout). IsSameKind l (layout_of now.places)) stays c.write_change.ensures.kind)
    (same_form d (laws g.met.D.Disk) was old new job name bytes c.requires.stands c.is_map.ensures jl p c.in_ok-change.ensures.ready keeps now (next_number was.tree) run done)
    c.write_change.ensures.form c.write_change.ensures.cause.later
