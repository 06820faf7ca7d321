use Rattle.std.proofs.Common.{◌≡◌, ◌≤◌, List, ℕ, [], None, false, rules, length, sym, subst, ◌∙◌}
use Rattle.fc_device.proofs.DiskLaws.{laws}
use Rattle.fc_words.specs.Request.{request_in}
use Rattle.fc_runs.specs.Demo.{demo_script}
use Rattle.fc_runs.specs.Run.{commands_in}
use Rattle.fc_shell.specs.Reads.{Spares}
use Rattle.fc_shell.specs.Kept.{RunSpares}
use Rattle.fc_shell.specs.Promise.{EndsByGiving}
use Rattle.fc_shell.specs.Replies.{blank_size, script_limit, told_script}
use Rattle.fc_shell.proofs.AskedLemmas.{never_long, told_demo_script, told_plain}
use Rattle.fc_shell.proofs.DemoLemmas.{demo_short}
use Rattle.fc_shell.proofs.KeptLemmas.{keeps_by, memory_words, script_ends, told_spares, too_long_ends}
use Rattle.fc_shell.proofs.WritingLemmas.{wrote_nothing}
use Rattle.fc_shell.proofs.run_request.Goals as goal

-- ---- a demo

pub returns-in-Some-clause-promise : goal.returns-in-Some-clause-promise
returns-in-Some-clause-promise g c gives given text left image told =
    let r = request_in c.args.asked.now in
    let same : demo_script c.in-Some.n ≡ text = told_demo_script r.demo c.in-Some.n (g.S.Source.left c.args.script.now) c.in-Some.is text left in
    let short : length text ≤ script_limit = subst (λ (t : List ℕ). length t ≤ script_limit) same (demo_short c.in-Some.n (c.requires.few c.in-Some.n c.in-Some.is)) in
    let promise = c.run_demo.ensures.promise gives given image told in (
      promise.0,
      promise.1,
      script_ends g.D.Disk c.args.disk.now c.run_demo.new.disk gives image text promise.0 r c.run_demo.result short
          (subst (λ (t : List ℕ). EndsByGiving g.D.Disk c.args.disk.now c.run_demo.new.disk r image t promise.0 (gives r.image (blank_size r)) c.run_demo.result) same promise.2),
    )

pub returns-in-Some-clause-unattached : goal.returns-in-Some-clause-unattached
returns-in-Some-clause-unattached g c =
    let r = request_in c.args.asked.now in
    let left = told_script r.demo (g.S.Source.left c.args.script.now) in
    never_long left (demo_script c.in-Some.n) (told_demo_script r.demo c.in-Some.n (g.S.Source.left c.args.script.now) c.in-Some.is) (demo_short c.in-Some.n (c.requires.few c.in-Some.n c.in-Some.is)) _

-- ---- a script of the source

pub returns-in-Err-NoMemory-clause-promise : goal.returns-in-Err-NoMemory-clause-promise
returns-in-Err-NoMemory-clause-promise g c gives given text left image told =
    let r = request_in c.args.asked.now in
    ([], wrote_nothing (g.K.Sink.taken c.args.out.now), memory_words (laws g.met.D.Disk) c.accepted.ensures c.args.disk.now gives image text told r)

pub returns-in-Ok-None-clause-promise : goal.returns-in-Ok-None-clause-promise
returns-in-Ok-None-clause-promise g c gives given text left image told =
    let r = request_in c.args.asked.now in
    let plain : r.demo ≡ None = search rules in
    let here = sym (told_plain r.demo (g.S.Source.left c.args.script.now) plain) ∙ left in
    let is = rw c.in-Ok-None.field-0-is at c.in-Ok-None.ensures.script in
    ([], wrote_nothing (g.K.Sink.taken c.args.out.now), too_long_ends (laws g.met.D.Disk) c.args.disk.now gives image text r (is.0 text here))

pub returns-in-Ok-Some-clause-promise : goal.returns-in-Ok-Some-clause-promise
returns-in-Ok-Some-clause-promise g c gives given text left image told =
    let r = request_in c.args.asked.now in
    let plain : r.demo ≡ None = search rules in
    let here = sym (told_plain r.demo (g.S.Source.left c.args.script.now) plain) ∙ left in
    let is = rw c.in-Ok-Some.field-0-is at c.in-Ok-Some.ensures.script in
    let same : c.deref.result.now ≡ text = c.deref.ensures.value ∙ is.0 text here in
    let short : length text ≤ script_limit = subst (λ (t : List ℕ). length t ≤ script_limit) (is.0 text here) is.2 in
    let promise = c.answer_script.ensures.promise gives given image told in (
      promise.0,
      promise.1,
      script_ends g.D.Disk c.args.disk.now c.answer_script.new.disk gives image text promise.0 r c.answer_script.result short
          (subst (λ (t : List ℕ). EndsByGiving g.D.Disk c.args.disk.now c.answer_script.new.disk r image t promise.0 (gives r.image (blank_size r)) c.answer_script.result) same promise.2),
    )

pub returns-in-Ok-Some-clause-keeps : goal.returns-in-Ok-Some-clause-keeps
returns-in-Ok-Some-clause-keeps g c =
    let r = request_in c.args.asked.now in
    let left = g.S.Source.left c.args.script.now in
    let plain : r.demo ≡ None = search rules in
    let is = rw c.in-Ok-Some.field-0-is at c.in-Ok-Some.ensures.script in
    keeps_by g.D.Disk g.K.Sink r (Spares r.read_only (commands_in c.deref.result.now)) (RunSpares r (told_script r.demo left)) c.args.disk.now c.answer_script.new.disk c.args.out.now c.answer_script.new.out c.answer_script.result
    (told_spares r (told_script r.demo left) c.deref.result.now (λ text there. c.deref.ensures.value ∙ is.0 text (sym (told_plain r.demo left plain) ∙ there))) c.answer_script.ensures.keeps
