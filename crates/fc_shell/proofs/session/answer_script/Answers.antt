use Rattle.std.proofs.Common.{◌≡◌, inl, Bool, true, Ok, Some, [], ap, subst, ◌∙◌, arith}
use Rattle.std.specs.Prelude.{is_some}
use Rattle.std.specs.Option.{option_map}
use Rattle.fc_device.proofs.DiskLaws.{laws}
use Rattle.fc_words.specs.Request.{request_in}
use Rattle.fc_runs.specs.Run.{commands_in}
use Rattle.fc_shell.specs.Reads.{Spares}
use Rattle.fc_shell.specs.Promise.{EndsByGiving}
use Rattle.fc_shell.specs.Replies.{blank_size, image_for}
use Rattle.fc_shell.proofs.KeptLemmas.{attach_fault, fresh_opens, not_made, session_run}
use Rattle.fc_shell.proofs.PromiseLemmas.{ends_from}
use Rattle.fc_shell.proofs.WritingLemmas.{wrote_nothing}
use Rattle.fc_shell.proofs.session.answer_script.Goals as goal

pub returns-in-Err-clause-promise : goal.returns-in-Err-clause-promise
returns-in-Err-clause-promise g c gives given image told =
    let r = request_in c.args.asked.now in (
      [],
      wrote_nothing (g.K.Sink.taken c.args.out.now),
      attach_fault (laws g.met.D.Disk) r c.args.disk.now c.attach_image.new.disk c.attach_image.ensures.unwritten c.accepted.ensures c.opens.ensures image c.args.script.now
          (gives r.image (blank_size r)) told,
    )

pub returns-in-Ok-true-clause-promise : goal.returns-in-Ok-true-clause-promise
returns-in-Ok-true-clause-promise g c gives given image told =
    let r = request_in c.args.asked.now in
    let old = c.args.disk.now in
    let mid = c.attach_image.new.disk in
    let new = c.answer_image.new.disk in
    let attach = c.attach_image.ensures in
    let here : c.attach_image.result ≡ Ok true = grind (arith, c.in-Ok-true.is, c.in-Ok-true.field-0-test) in
    let yes : true ≡ gives r.image (blank_size r) = grind (arith, c.in-Ok-true.field-0-test, c.in-Ok-true.ensures.given gives given, c.as_str.ensures.value) in
    let bytes : g.D.Disk.bytes mid ≡ Some (image_for r.new image) = attach.bytes here ∙ ap (option_map (image_for r.new)) told in
    let promise = c.answer_image.ensures.promise (image_for r.new image) bytes in
    let keeps = c.answer_image.ensures.keeps in (
      promise.0,
      promise.1,
      subst (λ (b : Bool). EndsByGiving g.D.Disk old new r image c.args.script.now promise.0 b c.answer_image.result) yes
          (ends_from (laws g.met.D.Disk) old mid new attach.goes keeps.goes (attach.tells here) (attach.fresh here).nothing_pending c.accepted.ensures r.read_only r.safe (is_some r.new) r.demo (image_for r.new image) c.args.script.now promise.0
          c.answer_image.result bytes (λ there. attach.unwritten (not_made r.new there)) (λ there. fresh_opens c.opens.ensures r.new image there) keeps.late promise.2),
    )

-- the image was attached
pub returns-in-Ok-true-clause-keeps : goal.returns-in-Ok-true-clause-keeps
returns-in-Ok-true-clause-keeps g c =
    let r = request_in c.args.asked.now in
    let attach = c.attach_image.ensures in
    let here : c.attach_image.result ≡ Ok true = grind (arith, c.in-Ok-true.is, c.in-Ok-true.field-0-test) in
    session_run (laws g.met.D.Disk) g.K.Sink r (Spares r.read_only (commands_in c.args.script.now)) c.args.disk.now c.attach_image.new.disk c.answer_image.new.disk c.args.out.now c.answer_image.new.out c.answer_image.result
    (grind (arith, attach.asked, c.as_str.ensures.value)) (λ gives given. grind (arith, c.in-Ok-true.field-0-test, c.in-Ok-true.ensures.given gives given, c.as_str.ensures.value)) (attach.bytes here) attach.unwritten attach.cause.later c.answer_image.ensures.keeps

pub returns-in-Ok-true-clause-late : goal.returns-in-Ok-true-clause-late
returns-in-Ok-true-clause-late g c = inl c.answer_image.ensures.late
