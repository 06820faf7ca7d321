use Rattle.std.proofs.Common.{◌≡◌, inl, Bool, true, false, rules, Ok, Some, [], ap, subst, sym, refl, ◌∙◌, arith}
use Rattle.std.specs.Prelude.{is_some}
use Rattle.std.specs.Option.{option_map}
use Rattle.std.proofs.lemmas.List.{append-nil}
use Rattle.fc_device.proofs.DiskLaws.{laws}
use Rattle.fc_runs.specs.Promises.{HasNoRun}
use Rattle.fc_runs.specs.Run.{commands_in}
use Rattle.fc_words.specs.Request.{request_in}
use Rattle.fc_shell.specs.declared.ending.End.{End}
use Rattle.fc_shell.specs.HostPromise.{MovesByGiving}
use Rattle.fc_shell.specs.Moving.{HostSpares}
use Rattle.fc_shell.specs.Replies.{blank_size, image_for}
use Rattle.fc_shell.proofs.HostKeptLemmas.{host_idle}
use Rattle.fc_shell.proofs.HostPromiseLemmas.{moves_attach_fault, moves_from}
use Rattle.fc_shell.proofs.KeptLemmas.{fresh_opens, not_made, session_run}
use Rattle.fc_shell.proofs.WritingLemmas.{wrote_nothing}
use Rattle.fc_shell.proofs.hosted.answer_script_with.Goals as goal

pub returns-in-Err-clause-promise : goal.returns-in-Err-clause-promise
returns-in-Err-clause-promise g c gives given image told =
    let r = request_in c.args.asked.now in (
      [],
      sym (append-nil (g.H.Host.asked c.args.host.now)),
      (
        [],
        wrote_nothing (g.K.Sink.taken c.args.out.now),
        moves_attach_fault (laws g.met.D.Disk) r c.args.disk.now c.attach_image.new.disk c.attach_image.ensures.unwritten c.accepted.ensures c.opens.ensures image c.args.script.now
            (g.H.Host.files c.args.host.now) (gives r.image (blank_size r)) told,
      ),
    )

pub returns-in-Err-clause-host : goal.returns-in-Err-clause-host
returns-in-Err-clause-host g c = host_idle g.H.Host _ c.args.script.now c.args.host.now End.DiskFault (λ text is. cc) (λ e. cc)

pub returns-in-Ok-false-clause-promise : goal.returns-in-Ok-false-clause-promise
returns-in-Ok-false-clause-promise g c gives given image told =
    let r = request_in c.args.asked.now in
    let old = c.args.disk.now in
    let new = c.attach_image.new.disk in
    let files = g.H.Host.files c.args.host.now in
    let no : false ≡ gives r.image (blank_size r) = grind (arith, c.in-Ok-false.field-0-test, c.in-Ok-false.ensures.given gives given, c.as_str.ensures.value) in
    let none : HasNoRun g.D.Disk old new [] [] = search rules in (
      [],
      sym (append-nil (g.H.Host.asked c.args.host.now)),
      ([], wrote_nothing (g.K.Sink.taken c.args.out.now), subst (λ (b : Bool). MovesByGiving g.D.Disk old new r files files [] image c.args.script.now [] b End.NoImage) no (none, (refl, refl))),
    )

pub returns-in-Ok-false-clause-host : goal.returns-in-Ok-false-clause-host
returns-in-Ok-false-clause-host g c = host_idle g.H.Host _ c.args.script.now c.args.host.now End.NoImage (λ text is. cc) (λ e. cc)

pub returns-in-Ok-true-clause-promise : goal.returns-in-Ok-true-clause-promise
returns-in-Ok-true-clause-promise g c gives given image told =
    let r = request_in c.args.asked.now in
    let old = c.args.disk.now in
    let mid = c.attach_image.new.disk in
    let new = c.answer_image_with.new.disk in
    let files = g.H.Host.files c.args.host.now in
    let left = g.H.Host.files c.answer_image_with.new.host in
    let attach = c.attach_image.ensures in
    let here : c.attach_image.result ≡ Ok true = grind (arith, c.in-Ok-true.is, c.in-Ok-true.field-0-test) in
    let yes : true ≡ gives r.image (blank_size r) = grind (arith, c.in-Ok-true.field-0-test, c.in-Ok-true.ensures.given gives given, c.as_str.ensures.value) in
    let bytes : g.D.Disk.bytes mid ≡ Some (image_for r.new image) = attach.bytes here ∙ ap (option_map (image_for r.new)) told in
    let promise = c.answer_image_with.ensures.promise (image_for r.new image) bytes in
    let text = promise.2.0 in
    let keeps = c.answer_image_with.ensures.keeps in (
      promise.0,
      promise.1,
      (
        text,
        promise.2.1,
        subst (λ (b : Bool). MovesByGiving g.D.Disk old new r files left promise.0 image c.args.script.now text b c.answer_image_with.result) yes
            (moves_from (laws g.met.D.Disk) old mid new attach.goes keeps.goes (attach.tells here) (attach.fresh here).nothing_pending files left promise.0 c.accepted.ensures r.read_only r.safe (is_some r.new) (image_for r.new image) c.args.script.now text
            c.answer_image_with.result bytes (λ there. attach.unwritten (not_made r.new there)) (λ there. fresh_opens c.opens.ensures r.new image there) keeps.late promise.2.2),
      ),
    )

-- the image was attached
pub returns-in-Ok-true-clause-keeps : goal.returns-in-Ok-true-clause-keeps
returns-in-Ok-true-clause-keeps g c =
    let r = request_in c.args.asked.now in
    let attach = c.attach_image.ensures in
    let here : c.attach_image.result ≡ Ok true = grind (arith, c.in-Ok-true.is, c.in-Ok-true.field-0-test) in
    session_run (laws g.met.D.Disk) g.K.Sink r (HostSpares r.read_only (commands_in c.args.script.now)) c.args.disk.now c.attach_image.new.disk c.answer_image_with.new.disk c.args.out.now c.answer_image_with.new.out c.answer_image_with.result
    (grind (arith, attach.asked, c.as_str.ensures.value)) (λ gives given. grind (arith, c.in-Ok-true.field-0-test, c.in-Ok-true.ensures.given gives given, c.as_str.ensures.value)) (attach.bytes here) attach.unwritten attach.cause.later c.answer_image_with.ensures.keeps

pub returns-in-Ok-true-clause-late : goal.returns-in-Ok-true-clause-late
returns-in-Ok-true-clause-late g c = inl c.answer_image_with.ensures.keeps.late
