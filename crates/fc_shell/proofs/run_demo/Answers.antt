use Rattle.std.proofs.Common.{◌≡◌, ◌≤◌, length, List, ℕ, Option, [], sym, subst, ◌∙◌}
use Rattle.fc_device.proofs.DiskLaws.{laws}
use Rattle.fc_words.specs.Request.{request_in}
use Rattle.fc_runs.specs.Demo.{demo_script}
use Rattle.fc_runs.specs.Run.{commands_in, script_for}
use Rattle.fc_shell.specs.Reads.{Spares}
use Rattle.fc_shell.specs.Kept.{RunKeeps}
use Rattle.fc_shell.specs.Promise.{EndsByGiving}
use Rattle.fc_shell.specs.Replies.{blank_size, script_limit}
use Rattle.fc_shell.proofs.DemoLemmas.{demo_short}
use Rattle.fc_shell.proofs.PromiseLemmas.{memory_giving}
use Rattle.fc_shell.proofs.WritingLemmas.{wrote_nothing}
use Rattle.fc_shell.proofs.run_demo.Goals as goal

pub returns-in-Err-clause-promise : goal.returns-in-Err-clause-promise
returns-in-Err-clause-promise g c gives given image told =
    let r = request_in c.args.asked.now in
    ([], wrote_nothing (g.K.Sink.taken c.args.out.now), memory_giving (laws g.met.D.Disk) c.args.disk.now c.accepted.ensures r image (demo_script c.args.n) (gives r.image (blank_size r)) told)

pub returns-in-Ok-clause-promise : goal.returns-in-Ok-clause-promise
returns-in-Ok-clause-promise g c gives given image told =
    let r = request_in c.args.asked.now in
    let promise = c.answer_script.ensures.promise gives given image told in (
      promise.0,
      promise.1,
      subst (λ (t : List ℕ). EndsByGiving g.D.Disk c.args.disk.now c.answer_script.new.disk r image t promise.0 (gives r.image (blank_size r)) c.answer_script.result) (c.deref.ensures.value ∙ c.in-Ok.ensures) promise.2,
    )

pub returns-in-Ok-clause-keeps : goal.returns-in-Ok-clause-keeps
returns-in-Ok-clause-keeps g c =
    let r = request_in c.args.asked.now in
    subst (λ (t : List ℕ). RunKeeps g.D.Disk g.K.Sink r (Spares r.read_only (commands_in t)) c.args.disk.now c.answer_script.new.disk c.args.out.now c.answer_script.new.out c.answer_script.result)
    (c.deref.ensures.value ∙ c.in-Ok.ensures) c.answer_script.ensures.keeps

pub answer_script-requires-clause-short : goal.answer_script-requires-clause-short
answer_script-requires-clause-short g c = subst (λ (t : List ℕ). length t ≤ script_limit) (sym (c.deref.ensures.value ∙ c.in-Ok.ensures)) (demo_short c.args.n c.requires.few)

pub answer_script-requires-clause-own : goal.answer_script-requires-clause-own
answer_script-requires-clause-own g c =
    subst (λ (demo : Option ℕ). script_for demo c.deref.result.now ≡ c.deref.result.now) (sym c.requires.asked) (sym (c.deref.ensures.value ∙ c.in-Ok.ensures))
