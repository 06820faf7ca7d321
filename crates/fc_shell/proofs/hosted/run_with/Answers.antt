use Rattle.std.proofs.Common.{◌≡◌, ◌⊎◌, Option, None, [], Err, inl, inr, refl, ap, map, sym, subst, ◌∙◌}
use Rattle.std.specs.Prelude.{IsSome, string_bytes}
use Rattle.std.proofs.lemmas.List.{append-nil}
use Rattle.fc_device.proofs.DiskLaws.{laws}
use Rattle.fc_words.specs.CommandLine.{Request, request_of}
use Rattle.fc_words.specs.Request.{request_in}
use Rattle.fc_shell.specs.declared.ending.End.{End}
use Rattle.fc_shell.specs.HostHeadline.{IsInLines}
use Rattle.fc_shell.specs.HostPromise.{HostKeeps, HostPromise}
use Rattle.fc_shell.specs.Replies.{asked_script}
use Rattle.fc_shell.proofs.AskedLemmas.{told_plain}
use Rattle.fc_shell.proofs.DemoLemmas.{asked_few}
use Rattle.fc_shell.proofs.HostHeadlineLemmas.{answered_by_maps, served_with_host}
use Rattle.fc_shell.proofs.HostKeptLemmas.{host_idle_told, host_memory_promise}
use Rattle.fc_shell.proofs.PromiseLemmas.{none}
use Rattle.fc_shell.proofs.WritingLemmas.{wrote_nothing}
use Rattle.fc_shell.proofs.hosted.run_with.Goals as goal

pub returns-in-Err-BadWords-clause-promise : goal.returns-in-Err-BadWords-clause-promise
returns-in-Err-BadWords-clause-promise g c gives given text left image told =
    let files = g.H.Host.files c.args.host.now in (
      [],
      sym (append-nil (g.H.Host.asked c.args.host.now)),
      (
        [],
        wrote_nothing (g.K.Sink.taken c.args.out.now),
        subst (λ o. HostPromise g.D.Disk c.args.disk.now c.args.disk.now gives files files [] image text [] o End.BadWords)
            (sym (c.in-Err-BadWords.ensures.bad (ap Err c.in-Err-BadWords.field-0-is))) ((inl refl, none (laws g.met.D.Disk) c.args.disk.now), (refl, refl)),
      ),
    )

pub returns-in-Err-NoMemory-clause-promise : goal.returns-in-Err-NoMemory-clause-promise
returns-in-Err-NoMemory-clause-promise g c gives given text left image told = (
  [],
  sym (append-nil (g.H.Host.asked c.args.host.now)),
  (
    [],
    wrote_nothing (g.K.Sink.taken c.args.out.now),
    host_memory_promise (laws g.met.D.Disk) c.accepted.ensures c.args.disk.now gives (g.H.Host.files c.args.host.now) image text told (request_of (map string_bytes c.args.words.now.items)),
  ),
)

pub returns-in-Err-NoMemory-clause-words : goal.returns-in-Err-NoMemory-clause-words
returns-in-Err-NoMemory-clause-words g c bad =
    no_request (subst (λ (o : Option Request). IsSome o) bad (c.in-Err-NoMemory.ensures.no_memory (ap Err c.in-Err-NoMemory.field-0-is)))
  where
    no_request : {A : Type 0} → IsSome {T = Request} None → A
    no_request some = absurd (cc)

pub returns-in-Err-BadWords-clause-host : goal.returns-in-Err-BadWords-clause-host
returns-in-Err-BadWords-clause-host g c =
    host_idle_told g.H.Host (asked_script (request_of (map string_bytes c.args.words.now.items)) (g.S.Source.left c.args.script.now)) c.args.host.now End.BadWords (λ e. cc)

pub returns-in-Err-NoMemory-clause-host : goal.returns-in-Err-NoMemory-clause-host
returns-in-Err-NoMemory-clause-host g c =
    host_idle_told g.H.Host (asked_script (request_of (map string_bytes c.args.words.now.items)) (g.S.Source.left c.args.script.now)) c.args.host.now End.NoMemory (λ e. cc)

pub returns-in-Ok-clause-promise : goal.returns-in-Ok-clause-promise
returns-in-Ok-clause-promise g c gives given text left image told =
    let here = sym (ap (λ (o : Option Request). asked_script o (g.S.Source.left c.args.script.now)) c.in-Ok.ensures.ok) ∙ left in
    let promise = c.run_request_with.ensures.promise gives given text here image told in (
      promise.0,
      promise.1,
      (
        promise.2.0,
        promise.2.1,
        subst (λ o. HostPromise g.D.Disk c.args.disk.now c.run_request_with.new.disk gives (g.H.Host.files c.args.host.now) (g.H.Host.files c.run_request_with.new.host) promise.0 image text promise.2.0 o c.run_request_with.result)
            (sym c.in-Ok.ensures.ok) promise.2.2,
      ),
    )

pub returns-in-Ok-clause-told : goal.returns-in-Ok-clause-told
returns-in-Ok-clause-told g c r asked plain ended gives given text left image told =
    let here = ap (λ (o : Option Request). asked_script o (g.S.Source.left c.args.script.now)) asked ∙ told_plain r.demo (g.S.Source.left c.args.script.now) plain ∙ left in
    let promise = returns-in-Ok-clause-promise g c gives given text here image told in (
      promise.2.0,
      promise.2.1,
      served_with_host g.D.Disk c.args.disk.now c.run_request_with.new.disk r (g.H.Host.files c.args.host.now) (g.H.Host.files c.run_request_with.new.host) promise.0 image text promise.2.0 gives plain c.run_request_with.result ended
          (subst (λ o. HostPromise g.D.Disk c.args.disk.now c.run_request_with.new.disk gives (g.H.Host.files c.args.host.now) (g.H.Host.files c.run_request_with.new.host) promise.0 image text promise.2.0 o c.run_request_with.result) asked promise.2.2),
    )

in_lines : (end : End) → (end ≡ End.Done) ⊎ (end ≡ End.Refused) → IsInLines end
in_lines end (inl is) = inl is
in_lines end (inr is) = inr (inl is)

pub returns-in-Ok-clause-headline : goal.returns-in-Ok-clause-headline
returns-in-Ok-clause-headline g c r asked plain whole gives given text left image told files held =
    let end = c.run_request_with.result in
    let served = returns-in-Ok-clause-told g c r asked plain (in_lines end whole) gives given text left image told in (
      served.0,
      served.1,
      answered_by_maps g.D.Disk c.args.disk.now c.run_request_with.new.disk c.host_headline.ensures c.accepted.ensures r image text served.0 files (g.H.Host.files c.run_request_with.new.host) end
          (g.H.Host.files c.args.host.now) held whole served.2,
    )

pub returns-in-Ok-clause-host : goal.returns-in-Ok-clause-host
returns-in-Ok-clause-host g c =
    subst (λ (o : Option Request). HostKeeps g.H.Host (asked_script o (g.S.Source.left c.args.script.now)) c.args.host.now c.run_request_with.new.host c.run_request_with.result)
    (sym c.in-Ok.ensures.ok) c.run_request_with.ensures.host

pub run_request_with-requires : goal.run_request_with-requires
run_request_with-requires g c = record { few = asked_few (map string_bytes c.args.words.now.items) (request_in c.in-Ok.asked) c.in-Ok.ensures.ok }
