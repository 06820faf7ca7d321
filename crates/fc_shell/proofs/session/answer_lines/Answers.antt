use Rattle.std.proofs.Common.{◌≡◌, List, [], Option, ℕ, Bool, true, false, None, refl, sym, ap, subst, ◌∙◌, arith}
use Rattle.fc_device.proofs.DiskLaws.{laws}
use Rattle.fc_device.proofs.StopLemmas.{reads_start}
use Rattle.fc_image.specs.effects.Effect.{State}
use Rattle.fc_runs.specs.Run.{script_for}
use Rattle.fc_shell.specs.declared.ending.End.{End}
use Rattle.fc_shell.specs.Ends.{end_of, is_late, is_late_alone}
use Rattle.fc_shell.specs.Modes.{is_unsuited, mode_of}
use Rattle.fc_shell.specs.Promise.{EndsBySuiting, EndsOver}
use Rattle.fc_tree.proofs.WalkedLemmas.{sound_law}
use Rattle.fc_shell.proofs.PromiseLemmas.{alone_end, disk_end, late_end, none_begun, out_end, reads_unwritten, served_ends, suited, unsafe_end, unsuited}
use Rattle.fc_shell.proofs.WritingLemmas.{wrote_nothing}
use Rattle.fc_shell.proofs.session.answer_lines.Goals as goal

-- ---- the safe mode doesn't serve the volume

pub returns-then-is_unsuited-clause-promise : goal.returns-then-is_unsuited-clause-promise
returns-then-is_unsuited-clause-promise g c image told kind view opens parts =
    let s : State = record { image = image; view = view } in
    let is : is_unsuited c.args.safe view ≡ true = sym (c.is_unsuited.ensures.exactly view (sound_law image kind view opens) parts) ∙ c.if-is_unsuited.true in (
      [],
      wrote_nothing (g.K.Sink.taken c.args.out.now),
      unsuited (laws g.met.D.Disk) c.args.disk.now (mode_of kind c.args.volume.now.read_only c.args.safe) c.args.demo s c.args.script.now (is_unsuited c.args.safe view) is told c.requires.settled,
    )

pub returns-then-is_unsuited-clause-keeps : goal.returns-then-is_unsuited-clause-keeps
returns-then-is_unsuited-clause-keeps g c =
    none_begun (laws g.met.D.Disk) g.K.Sink c.args.safe _ c.args.disk.now c.args.out.now c.requires.settled (c.is_unsuited.ensures.asked c.if-is_unsuited.true)

-- ---- it does, or isn't asked for

pub returns-in-None-clause-promise : goal.returns-in-None-clause-promise
returns-in-None-clause-promise g c image told kind view opens parts =
    let s : State = record { image = image; view = view } in
    let mode = mode_of kind c.args.volume.now.read_only c.args.safe in
    let is : is_unsuited c.args.safe view ≡ false = sym (c.is_unsuited.ensures.exactly view (sound_law image kind view opens) parts) ∙ c.if-is_unsuited.false in
    let old = c.args.disk.now in
    let new = c.serve.new.disk in
    let ends = served_ends g.D.Disk old new mode s c.args.script.now (g.K.Sink.taken c.args.out.now) (g.K.Sink.taken c.serve.new.out) c.serve.result
    (c.serve.ensures.served image told kind view opens parts) in
    let over = subst (λ (end : End). EndsOver g.D.Disk old new mode false None s c.args.script.now ends.0 end) (sym c.end_of.ensures) ends.2 in (
      ends.0,
      ends.1,
      suited g.D.Disk old new mode c.args.demo s c.args.script.now ends.0 (is_unsuited c.args.safe view) c.end_of.result is
          (subst (λ (demo : Option ℕ). EndsOver g.D.Disk old new mode false demo s c.args.script.now ends.0 c.end_of.result) (sym c.in-None.is) over),
    )

pub returns-in-None-clause-keeps : goal.returns-in-None-clause-keeps
returns-in-None-clause-keeps g c =
    let goes = c.serve.ensures.goes in
    let caused = c.serve.ensures.caused in
    let is = c.end_of.ensures in
    record {
      asked_stays = goes.form.asked_stays;
      goes = goes.stops;
      faults = goes.faults;
      not_safe = λ e. absurd (unsafe_end c.serve.result (sym is ∙ e));
      disk_fault = λ e. caused.disk (disk_end c.serve.result (sym is ∙ e));
      out_fault = λ e. caused.out (out_end c.serve.result (sym is ∙ e));
      settled = λ never. c.serve.ensures.settled (λ e. never (is ∙ ap end_of e));
      unwritten = λ reads. reads_unwritten (c.serve.ensures.reads reads);
      late = ap is_late is ∙ late_end c.serve.result;
    }

pub returns-in-None-clause-late : goal.returns-in-None-clause-late
returns-in-None-clause-late g c = ap is_late_alone c.end_of.ensures ∙ alone_end c.serve.result

pub answer_demo-requires-clause-own : goal.answer_demo-requires-clause-own
answer_demo-requires-clause-own g c = subst (λ (demo : Option ℕ). script_for demo c.args.script.now ≡ c.args.script.now) c.in-Some.is c.requires.own

pub returns-in-Some-clause-promise : goal.returns-in-Some-clause-promise
returns-in-Some-clause-promise g c image told kind view opens parts =
    let s : State = record { image = image; view = view } in
    let ends = c.answer_demo.ensures.promise image told kind view opens parts in
    let mode = mode_of kind c.args.volume.now.read_only c.args.safe in
    let is : is_unsuited c.args.safe view ≡ false = sym (c.is_unsuited.ensures.exactly view (sound_law image kind view opens) parts) ∙ c.if-is_unsuited.false in (
      ends.0,
      ends.1,
      suited g.D.Disk c.args.disk.now c.answer_demo.new.disk mode c.args.demo s c.args.script.now ends.0 (is_unsuited c.args.safe view) c.answer_demo.result is
          (subst (λ (demo : Option ℕ). EndsOver g.D.Disk c.args.disk.now c.answer_demo.new.disk mode false demo s c.args.script.now ends.0 c.answer_demo.result) (sym c.in-Some.is) ends.2),
    )

pub serve-requires-clause-suits : goal.serve-requires-clause-suits
serve-requires-clause-suits g c = c.is_unsuited.ensures.suits c.if-is_unsuited.false

pub answer_demo-requires-clause-suits : goal.answer_demo-requires-clause-suits
answer_demo-requires-clause-suits g c = c.is_unsuited.ensures.suits c.if-is_unsuited.false
