use Rattle.std.proofs.Common.{◌≡◌, ◌≤◌, List, ℕ, Option, [], None, false, rules, length, refl, sym, subst, ◌∙◌}
use Rattle.std.proofs.lemmas.List.{append-nil}
use Rattle.fc_device.proofs.DiskLaws.{laws}
use Rattle.fc_words.specs.Request.{request_in}
use Rattle.fc_runs.specs.Demo.{demo_script}
use Rattle.fc_runs.specs.Run.{commands_in}
use Rattle.fc_shell.specs.declared.ending.End.{End}
use Rattle.fc_shell.specs.HostPromise.{HostRunSpares, MovesByDemo}
use Rattle.fc_shell.specs.Moving.{HostSpares}
use Rattle.fc_shell.specs.Promise.{EndsByGiving}
use Rattle.fc_shell.specs.Reads.{Spares}
use Rattle.fc_shell.specs.Replies.{blank_size, script_limit, told_script}
use Rattle.fc_shell.proofs.AskedLemmas.{never_long, told_demo_script, told_plain}
use Rattle.fc_shell.proofs.DemoLemmas.{demo_short}
use Rattle.fc_shell.proofs.HostKeptLemmas.{alone_no_host, host_idle_told, host_memory_words, host_read, host_script_ends, host_source_fault, host_too_long, told_demo_spares, told_host_spares}
use Rattle.fc_shell.proofs.KeptLemmas.{keeps_by}
use Rattle.fc_shell.proofs.WritingLemmas.{wrote_nothing}
use Rattle.fc_shell.proofs.hosted.run_request_with.Goals as goal

-- ---- a demo

pub returns-in-Some-clause-promise : goal.returns-in-Some-clause-promise
returns-in-Some-clause-promise g c gives given text left image told =
    let r = request_in c.args.asked.now in
    let files = g.H.Host.files c.args.host.now in
    let same : demo_script c.in-Some.n ≡ text = told_demo_script r.demo c.in-Some.n (g.S.Source.left c.args.script.now) c.in-Some.is text left in
    let short : length text ≤ script_limit = subst (λ (t : List ℕ). length t ≤ script_limit) same (demo_short c.in-Some.n (c.requires.few c.in-Some.n c.in-Some.is)) in
    let promise = c.run_demo.ensures.promise gives given image told in
    let ends = subst (λ (t : List ℕ). EndsByGiving g.D.Disk c.args.disk.now c.run_demo.new.disk r image t promise.0 (gives r.image (blank_size r)) c.run_demo.result) same promise.2 in (
      [],
      sym (append-nil (g.H.Host.asked c.args.host.now)),
      (
        promise.0,
        promise.1,
        host_script_ends g.D.Disk c.args.disk.now c.run_demo.new.disk gives files files [] image text promise.0 r c.run_demo.result short
            (subst (λ (demo : Option ℕ). MovesByDemo g.D.Disk c.args.disk.now c.run_demo.new.disk r files files [] image text promise.0 (gives r.image (blank_size r)) demo c.run_demo.result) (sym c.in-Some.is) (ends, (refl, refl))),
      ),
    )

pub returns-in-Some-clause-keeps : goal.returns-in-Some-clause-keeps
returns-in-Some-clause-keeps g c =
    let r = request_in c.args.asked.now in
    let left = told_script r.demo (g.S.Source.left c.args.script.now) in
    keeps_by g.D.Disk g.K.Sink r (Spares r.read_only (commands_in (demo_script c.in-Some.n))) (HostRunSpares r left) c.args.disk.now c.run_demo.new.disk c.args.out.now c.run_demo.new.out c.run_demo.result
    (told_demo_spares r left (demo_script c.in-Some.n) c.in-Some.n c.in-Some.is (told_demo_script r.demo c.in-Some.n (g.S.Source.left c.args.script.now) c.in-Some.is)) c.run_demo.ensures.keeps

pub returns-in-Some-clause-unattached : goal.returns-in-Some-clause-unattached
returns-in-Some-clause-unattached g c =
    let r = request_in c.args.asked.now in
    let left = told_script r.demo (g.S.Source.left c.args.script.now) in
    never_long left (demo_script c.in-Some.n) (told_demo_script r.demo c.in-Some.n (g.S.Source.left c.args.script.now) c.in-Some.is) (demo_short c.in-Some.n (c.requires.few c.in-Some.n c.in-Some.is)) _

pub returns-in-Some-clause-host : goal.returns-in-Some-clause-host
returns-in-Some-clause-host g c =
    host_idle_told g.H.Host (told_script (request_in c.args.asked.now).demo (g.S.Source.left c.args.script.now)) c.args.host.now c.run_demo.result (alone_no_host c.run_demo.result c.run_demo.ensures.ended)

-- ---- a script of the source

pub returns-in-Err-Source-clause-promise : goal.returns-in-Err-Source-clause-promise
returns-in-Err-Source-clause-promise g c gives given text left image told =
    let r = request_in c.args.asked.now in
    let plain : r.demo ≡ None = search rules in (
      [],
      sym (append-nil (g.H.Host.asked c.args.host.now)),
      ([], wrote_nothing (g.K.Sink.taken c.args.out.now), host_source_fault (laws g.met.D.Disk) c.args.disk.now gives (g.H.Host.files c.args.host.now) image text r plain),
    )

pub returns-in-Err-Source-clause-host : goal.returns-in-Err-Source-clause-host
returns-in-Err-Source-clause-host g c =
    host_idle_told g.H.Host (told_script (request_in c.args.asked.now).demo (g.S.Source.left c.args.script.now)) c.args.host.now End.ScriptFault (λ e. cc)

pub returns-in-Err-NoMemory-clause-host : goal.returns-in-Err-NoMemory-clause-host
returns-in-Err-NoMemory-clause-host g c =
    host_idle_told g.H.Host (told_script (request_in c.args.asked.now).demo (g.S.Source.left c.args.script.now)) c.args.host.now End.NoMemory (λ e. cc)

pub returns-in-Ok-None-clause-host : goal.returns-in-Ok-None-clause-host
returns-in-Ok-None-clause-host g c =
    host_idle_told g.H.Host (told_script (request_in c.args.asked.now).demo (g.S.Source.left c.args.script.now)) c.args.host.now End.ScriptTooLong (λ e. cc)

pub returns-in-Err-NoMemory-clause-promise : goal.returns-in-Err-NoMemory-clause-promise
returns-in-Err-NoMemory-clause-promise g c gives given text left image told =
    let r = request_in c.args.asked.now in (
      [],
      sym (append-nil (g.H.Host.asked c.args.host.now)),
      ([], wrote_nothing (g.K.Sink.taken c.args.out.now), host_memory_words (laws g.met.D.Disk) c.accepted.ensures c.args.disk.now gives (g.H.Host.files c.args.host.now) image text told r),
    )

pub returns-in-Ok-None-clause-promise : goal.returns-in-Ok-None-clause-promise
returns-in-Ok-None-clause-promise g c gives given text left image told =
    let r = request_in c.args.asked.now in
    let plain : r.demo ≡ None = search rules in
    let here = sym (told_plain r.demo (g.S.Source.left c.args.script.now) plain) ∙ left in
    let is = rw c.in-Ok-None.field-0-is at c.in-Ok-None.ensures.script in (
      [],
      sym (append-nil (g.H.Host.asked c.args.host.now)),
      ([], wrote_nothing (g.K.Sink.taken c.args.out.now), host_too_long (laws g.met.D.Disk) c.args.disk.now gives (g.H.Host.files c.args.host.now) image text r (is.0 text here)),
    )

pub returns-in-Ok-Some-clause-promise : goal.returns-in-Ok-Some-clause-promise
returns-in-Ok-Some-clause-promise g c gives given text left image told =
    let r = request_in c.args.asked.now in
    let plain : r.demo ≡ None = search rules in
    let here = sym (told_plain r.demo (g.S.Source.left c.args.script.now) plain) ∙ left in
    let is = rw c.in-Ok-Some.field-0-is at c.in-Ok-Some.ensures.script in
    let same : c.deref.result.now ≡ text = c.deref.ensures.value ∙ is.0 text here in
    let short : length text ≤ script_limit = subst (λ (t : List ℕ). length t ≤ script_limit) (is.0 text here) is.2 in
    let files = g.H.Host.files c.args.host.now in
    let now = g.H.Host.files c.answer_script_with.new.host in
    let promise = c.answer_script_with.ensures.promise gives given image told in
    let old = c.args.disk.now in
    let new = c.answer_script_with.new.disk in
    let wrote = promise.2.0 in
    let moves = subst (λ (demo : Option ℕ). MovesByDemo g.D.Disk old new r files now promise.0 image c.deref.result.now wrote (gives r.image (blank_size r)) demo c.answer_script_with.result) (sym plain) promise.2.2 in (
      promise.0,
      promise.1,
      (
        wrote,
        promise.2.1,
        host_script_ends g.D.Disk old new gives files now promise.0 image text wrote r c.answer_script_with.result short
            (subst (λ (t : List ℕ). MovesByDemo g.D.Disk old new r files now promise.0 image t wrote (gives r.image (blank_size r)) r.demo c.answer_script_with.result) same moves),
      ),
    )

pub returns-in-Ok-Some-clause-keeps : goal.returns-in-Ok-Some-clause-keeps
returns-in-Ok-Some-clause-keeps g c =
    let r = request_in c.args.asked.now in
    let left = g.S.Source.left c.args.script.now in
    let plain : r.demo ≡ None = search rules in
    let is = rw c.in-Ok-Some.field-0-is at c.in-Ok-Some.ensures.script in
    keeps_by g.D.Disk g.K.Sink r (HostSpares r.read_only (commands_in c.deref.result.now)) (HostRunSpares r (told_script r.demo left)) c.args.disk.now c.answer_script_with.new.disk c.args.out.now c.answer_script_with.new.out c.answer_script_with.result
    (told_host_spares r (told_script r.demo left) c.deref.result.now plain (λ text there. c.deref.ensures.value ∙ is.0 text (sym (told_plain r.demo left plain) ∙ there))) c.answer_script_with.ensures.keeps

pub returns-in-Ok-Some-clause-host : goal.returns-in-Ok-Some-clause-host
returns-in-Ok-Some-clause-host g c =
    let r = request_in c.args.asked.now in
    let left = g.S.Source.left c.args.script.now in
    let plain : r.demo ≡ None = search rules in
    let is = rw c.in-Ok-Some.field-0-is at c.in-Ok-Some.ensures.script in
    host_read g.H.Host (told_script r.demo left) c.deref.result.now c.args.host.now c.answer_script_with.new.host c.answer_script_with.result
    (λ text there. c.deref.ensures.value ∙ is.0 text (sym (told_plain r.demo left plain) ∙ there)) c.answer_script_with.ensures.host
