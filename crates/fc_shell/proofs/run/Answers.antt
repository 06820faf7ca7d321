use Rattle.std.proofs.Common.{Option, None, [], Err, inl, refl, ap, map, sym, subst, ◌∙◌}
use Rattle.std.specs.Prelude.{IsSome, string_bytes}
use Rattle.fc_device.proofs.DiskLaws.{laws}
use Rattle.fc_words.specs.CommandLine.{Request, request_of}
use Rattle.fc_words.specs.Request.{request_in}
use Rattle.fc_shell.specs.declared.ending.End.{End}
use Rattle.fc_shell.specs.Promise.{Promise}
use Rattle.fc_shell.specs.Replies.{asked_script}
use Rattle.fc_shell.proofs.AskedLemmas.{asked_plain}
use Rattle.fc_shell.proofs.DemoLemmas.{asked_few}
use Rattle.fc_shell.proofs.HeadlineLemmas.{answered_by_map}
use Rattle.fc_shell.proofs.KeptLemmas.{memory_promise}
use Rattle.fc_shell.proofs.OutcomeLemmas.{promise_as}
use Rattle.fc_shell.proofs.PromiseLemmas.{none}
use Rattle.fc_shell.proofs.WritingLemmas.{wrote_nothing}
use Rattle.fc_shell.proofs.run.Goals as goal

pub returns-in-Err-BadWords-clause-promise : goal.returns-in-Err-BadWords-clause-promise
returns-in-Err-BadWords-clause-promise g c gives given text left image told = (
  [],
  wrote_nothing (g.K.Sink.taken c.args.out.now),
  subst (λ o. Promise g.D.Disk c.args.disk.now c.args.disk.now gives image text [] o End.BadWords)
      (sym (c.in-Err-BadWords.ensures.bad (ap Err c.in-Err-BadWords.field-0-is))) (inl refl, none (laws g.met.D.Disk) c.args.disk.now),
)

pub returns-in-Err-NoMemory-clause-promise : goal.returns-in-Err-NoMemory-clause-promise
returns-in-Err-NoMemory-clause-promise g c gives given text left image told =
    ([], wrote_nothing (g.K.Sink.taken c.args.out.now), memory_promise (laws g.met.D.Disk) c.accepted.ensures c.args.disk.now gives image text told (request_of (map string_bytes c.args.words.now.items)))

pub returns-in-Err-NoMemory-clause-words : goal.returns-in-Err-NoMemory-clause-words
returns-in-Err-NoMemory-clause-words g c bad =
    no_request (subst (λ (o : Option Request). IsSome o) bad (c.in-Err-NoMemory.ensures.no_memory (ap Err c.in-Err-NoMemory.field-0-is)))
  where
    no_request : {A : Type 0} → IsSome {T = Request} None → A
    no_request some = absurd (cc)

pub returns-in-Ok-clause-promise : goal.returns-in-Ok-clause-promise
returns-in-Ok-clause-promise g c gives given text left image told =
    let here = sym (ap (λ (o : Option Request). asked_script o (g.S.Source.left c.args.script.now)) c.in-Ok.ensures.ok) ∙ left in
    let promise = c.run_request.ensures.promise gives given text here image told in
    (promise.0, promise.1, subst (λ o. Promise g.D.Disk c.args.disk.now c.run_request.new.disk gives image text promise.0 o c.run_request.result) (sym c.in-Ok.ensures.ok) promise.2)

pub returns-in-Ok-clause-headline : goal.returns-in-Ok-clause-headline
returns-in-Ok-clause-headline g c r asked whole gives given text left image told =
    let here = ap (λ (o : Option Request). asked_script o (g.S.Source.left c.args.script.now)) asked ∙ left in
    let promise = returns-in-Ok-clause-promise g c gives given text here image told in (
      promise.0,
      promise.1,
      answered_by_map g.D.Disk c.args.disk.now c.run_request.new.disk c.headline.ensures c.accepted.ensures r image text promise.0 gives c.run_request.result whole
          (subst (λ o. Promise g.D.Disk c.args.disk.now c.run_request.new.disk gives image text promise.0 o c.run_request.result) asked promise.2),
    )

pub returns-in-Ok-clause-reply : goal.returns-in-Ok-clause-reply
returns-in-Ok-clause-reply g c plain gives given text left image told settled =
    let asked = request_of (map string_bytes c.args.words.now.items) in
    let promise = returns-in-Ok-clause-promise g c gives given text (asked_plain asked (g.S.Source.left c.args.script.now) plain ∙ left) image told in
    promise_as g.D.Disk c.args.disk.now c.run_request.new.disk (g.K.Sink.taken c.args.out.now) (g.K.Sink.taken c.run_request.new.out) promise.0 promise.1 gives image text
    asked c.run_request.result plain settled promise.2

pub run_request-requires : goal.run_request-requires
run_request-requires g c = record { few = asked_few (map string_bytes c.args.words.now.items) (request_in c.in-Ok.asked) c.in-Ok.ensures.ok }
