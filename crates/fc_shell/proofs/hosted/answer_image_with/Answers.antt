use Rattle.std.proofs.Common.{◌≡◌, Bool, false, Err, [], refl, sym, ap, subst, ◌∙◌, arith, inl}
use Rattle.std.proofs.lemmas.List.{append-nil}
use Rattle.fc_device.proofs.DiskLaws.{laws}
use Rattle.fc_device.proofs.StopLemmas.{goes_on, weaker}
use Rattle.fc_image.specs.effects.Effect.{State}
use Rattle.fc_image.specs.Opening.{open_image}
use Rattle.fc_volume.specs.Answers.{IsFaultOf}
use Rattle.fc_runs.specs.Run.{commands_in}
use Rattle.fc_shell.specs.declared.ending.End.{End}
use Rattle.fc_shell.specs.HostPromise.{MovesByOpening, MovesBySuiting}
use Rattle.fc_shell.specs.Modes.{is_unsuited, mode_of}
use Rattle.fc_shell.specs.Moving.{HostSpares}
use Rattle.fc_shell.proofs.HostKeptLemmas.{host_idle, told_no_host}
use Rattle.fc_shell.proofs.HostPromiseLemmas.{moves_fault, moves_from, moves_memory}
use Rattle.fc_shell.proofs.PromiseLemmas.{no_fresh, rose_earlier, session_shapes, shapes_unwritten, tell_ends, told_late, told_no_disk, told_no_unsafe, unwritten_after}
use Rattle.fc_shell.proofs.WritingLemmas.{wrote_nothing}
use Rattle.fc_shell.proofs.hosted.answer_image_with.Goals as goal

pub returns-in-Ok-clause-promise : goal.returns-in-Ok-clause-promise
returns-in-Ok-clause-promise g c image told =
    let law = laws g.met.D.Disk in
    let shapes = c.mount.ensures.shapes in
    let old = c.args.disk.now in
    let mid = c.mount.new.disk in
    let new = c.answer_lines_with.new.disk in
    let script = c.args.script.now in
    let ro : Bool = c.args.read_only in
    let files = g.H.Host.files c.args.host.now in
    let left = g.H.Host.files c.answer_lines_with.new.host in
    let keeps = c.answer_lines_with.ensures.keeps in
    let there = c.in-Ok.ensures.opened image told in
    let view = there.0 in
    let s : State = record { image = image; view = view } in
    let ends = c.answer_lines_with.ensures.promise image (shapes.bytes_stay ∙ told) view.kind view (c.accepted.ensures image view there.1) there.2 in
    let text = ends.2.0 in
    let over = subst (λ (b : Bool). MovesBySuiting g.D.Disk mid new (mode_of view.kind b c.args.safe) false s files left ends.0 script text (is_unsuited c.args.safe view) c.answer_lines_with.result) c.in-Ok.ensures.ready.1 ends.2.2 in (
      ends.0,
      ends.1,
      (
        text,
        ends.2.1,
        moves_from law old mid new (weaker law (λ image. Unit {0}) shapes.stops (λ image left. tt)) keeps.goes shapes.tells_stays (shapes.pending_stays ∙ c.requires.fresh.nothing_pending) files left ends.0
            c.accepted.ensures ro c.args.safe false image script text c.answer_lines_with.result (shapes.bytes_stay ∙ told) (λ there. shapes_unwritten g.D.Disk old mid shapes) (λ fresh. absurd (no_fresh fresh)) keeps.late
            (subst (λ o. MovesByOpening g.D.Disk mid new ro c.args.safe false files left ends.0 image script text o c.answer_lines_with.result) (sym there.1) over),
      ),
    )

pub returns-in-Ok-clause-keeps : goal.returns-in-Ok-clause-keeps
returns-in-Ok-clause-keeps g c =
    let law = laws g.met.D.Disk in
    let shapes = c.mount.ensures.shapes in
    let keeps = c.answer_lines_with.ensures.keeps in
    let script = c.args.script.now in
    let old = c.args.disk.now in
    let then = unwritten_after law old c.mount.new.disk c.answer_lines_with.new.disk shapes in
    record {
      asked_stays = keeps.asked_stays ∙ shapes.asked_stays;
      goes = goes_on law (weaker law (λ image. Unit {0}) shapes.stops (λ image left. tt)) keeps.goes (λ image left. tt);
      faults = omega (arith, shapes.faults, keeps.faults);
      not_safe = keeps.not_safe;
      disk_fault = λ e. rose_earlier (g.D.Disk.faults old) (g.D.Disk.faults c.mount.new.disk) (g.D.Disk.faults c.answer_lines_with.new.disk) shapes.faults (keeps.disk_fault e);
      out_fault = keeps.out_fault;
      settled = keeps.settled;
      unwritten = λ reads. then (keeps.unwritten (subst (λ (b : Bool). HostSpares b (commands_in script)) (sym c.in-Ok.ensures.ready.1) reads));
      late = keeps.late;
    }

pub returns-in-Err-Image-clause-promise : goal.returns-in-Err-Image-clause-promise
returns-in-Err-Image-clause-promise g c image told =
    let old = c.args.disk.now in
    let mid = c.mount.new.disk in
    let files = g.H.Host.files c.args.host.now in
    let wrong : open_image image ≡ Err c.in-Err-Image.fault = subst (IsFaultOf (open_image image)) c.in-Err-Image.field-0-is (c.in-Err-Image.ensures.fault image told) in
    let ended = c.tell_fault.ensures.ended in
    let bad = c.tell_fault.ensures.bad in
    let part = c.tell_fault.ensures.part in
    let ends = tell_ends g.D.Disk old mid c.in-Err-Image.fault c.tell_fault.result (g.K.Sink.taken c.args.out.now) (g.K.Sink.taken c.tell_fault.new.out)
    (shapes_unwritten g.D.Disk old mid c.mount.ensures.shapes) ended bad part (λ is. ap g.K.Sink.taken (c.tell_fault.ensures.no_memory is)) in (
      [],
      sym (append-nil (g.H.Host.asked c.args.host.now)),
      (
        ends.0,
        ends.1,
        subst (λ o. MovesByOpening g.D.Disk old mid c.args.read_only c.args.safe false files files [] image c.args.script.now ends.0 o c.tell_fault.result) (sym wrong) (ends.2, (refl, refl)),
      ),
    )

pub returns-in-Err-Image-clause-keeps : goal.returns-in-Err-Image-clause-keeps
returns-in-Err-Image-clause-keeps g c =
    let ended = c.tell_fault.ensures.ended in
    session_shapes (laws g.met.D.Disk) g.K.Sink c.args.safe _ c.args.disk.now c.mount.new.disk c.args.out.now c.tell_fault.new.out c.tell_fault.result c.mount.ensures.shapes c.requires.fresh.nothing_pending
    (told_late c.in-Err-Image.fault c.tell_fault.result ended) (λ is. absurd (told_no_unsafe c.in-Err-Image.fault c.tell_fault.result ended is)) (λ is. absurd (told_no_disk c.in-Err-Image.fault c.tell_fault.result ended is)) c.tell_fault.ensures.out_fault

pub returns-in-Err-Image-clause-host : goal.returns-in-Err-Image-clause-host
returns-in-Err-Image-clause-host g c =
    let ended = c.tell_fault.ensures.ended in
    host_idle g.H.Host _ c.args.script.now c.args.host.now c.tell_fault.result (λ text is. cc) (told_no_host c.in-Err-Image.fault c.tell_fault.result ended)

pub returns-in-Err-DiskFault-clause-promise : goal.returns-in-Err-DiskFault-clause-promise
returns-in-Err-DiskFault-clause-promise g c image told = (
  [],
  sym (append-nil (g.H.Host.asked c.args.host.now)),
  (
    [],
    wrote_nothing (g.K.Sink.taken c.args.out.now),
    moves_fault (laws g.met.D.Disk) c.args.disk.now c.mount.new.disk (g.H.Host.files c.args.host.now) c.accepted.ensures c.args.read_only c.args.safe image c.args.script.now told
        (shapes_unwritten g.D.Disk c.args.disk.now c.mount.new.disk c.mount.ensures.shapes),
  ),
)

pub returns-in-Err-DiskFault-clause-keeps : goal.returns-in-Err-DiskFault-clause-keeps
returns-in-Err-DiskFault-clause-keeps g c =
    session_shapes (laws g.met.D.Disk) g.K.Sink c.args.safe _ c.args.disk.now c.mount.new.disk c.args.out.now c.args.out.now End.DiskFault c.mount.ensures.shapes c.requires.fresh.nothing_pending
    refl (λ is. absurd (cc)) (λ is. c.in-Err-DiskFault.ensures.cause (ap Err c.in-Err-DiskFault.field-0-is)) (λ is. absurd (cc))

pub returns-in-Err-DiskFault-clause-host : goal.returns-in-Err-DiskFault-clause-host
returns-in-Err-DiskFault-clause-host g c = host_idle g.H.Host _ c.args.script.now c.args.host.now End.DiskFault (λ text is. cc) (λ e. cc)

pub returns-in-Err-NoMemory-clause-promise : goal.returns-in-Err-NoMemory-clause-promise
returns-in-Err-NoMemory-clause-promise g c image told = (
  [],
  sym (append-nil (g.H.Host.asked c.args.host.now)),
  (
    [],
    wrote_nothing (g.K.Sink.taken c.args.out.now),
    moves_memory (laws g.met.D.Disk) c.args.disk.now c.mount.new.disk (g.H.Host.files c.args.host.now) c.accepted.ensures c.args.read_only c.args.safe image c.args.script.now told
        (shapes_unwritten g.D.Disk c.args.disk.now c.mount.new.disk c.mount.ensures.shapes) (inl (c.mount.ensures.shapes.pending_stays ∙ c.requires.fresh.nothing_pending)),
  ),
)

pub returns-in-Err-NoMemory-clause-keeps : goal.returns-in-Err-NoMemory-clause-keeps
returns-in-Err-NoMemory-clause-keeps g c =
    session_shapes (laws g.met.D.Disk) g.K.Sink c.args.safe _ c.args.disk.now c.mount.new.disk c.args.out.now c.args.out.now End.NoMemory c.mount.ensures.shapes c.requires.fresh.nothing_pending
    refl (λ is. absurd (cc)) (λ is. absurd (cc)) (λ is. absurd (cc))

pub returns-in-Err-NoMemory-clause-host : goal.returns-in-Err-NoMemory-clause-host
returns-in-Err-NoMemory-clause-host g c = host_idle g.H.Host _ c.args.script.now c.args.host.now End.NoMemory (λ text is. cc) (λ e. cc)
