use Rattle.std.proofs.Common.{◌≡◌, ◌≤◌, ◌+◌, IfOk, Bool, true, false, cond, Result, Ok, Err, List, ℕ, ◌∷◌, length, refl, sym, ap, subst, ◌∙◌, arith}
use Rattle.std.proofs.lemmas.Result.{err_from_is_err_and}
use Rattle.fc_device.proofs.DiskLaws.{laws}
use Rattle.fc_device.proofs.StopLemmas.{reads_start, reads_then}
use Rattle.fc_image.specs.effects.Effect.{State}
use Rattle.fc_shell.specs.declared.answer.LineFault.{LineFault}
use Rattle.fc_shell.specs.declared.tally.Tally.{Tally}
use Rattle.fc_shell.specs.Reads.{Spares}
use Rattle.fc_shell.specs.Left.{commands_left}
use Rattle.fc_shell.specs.Line.{IsReady, LineEnds}
use Rattle.fc_shell.specs.Modes.{SuitsMode, mode_of}
use Rattle.fc_shell.specs.Serving.{HasServed, ServesAs}
use Rattle.fc_shell.specs.Replies.{script_limit}
use Rattle.fc_shell.proofs.LengthLemmas.{AreUpTo, commands_few, commands_up_to}
use Rattle.fc_runs.proofs.MeanwhileLemmas.{goes_same, goes_then}
use Rattle.fc_shell.proofs.ServingLemmas.{served_all, served_more, served_part, served_start, spares_first, spares_rest}
use Rattle.fc_shell.proofs.StepLemmas.{caused_later, caused_ok, one_fault}
use Rattle.fc_shell.proofs.session.serve.Goals as goal

-- The error that comes through is that of the line.
same_result : (r : Result Tally LineFault) (fault : LineFault) → (e : LineFault) × (r ≡ Err e) × (e ≡ fault) → r ≡ Err fault
same_result r fault p = p.1 ∙ ap Err p.2

-- no more error lines than replies
within_then : (refused : Bool) (was now : Tally) → was.refused ≤ was.replies → now.replies ≡ was.replies + 1 → now.refused ≡ was.refused + cond refused 1 0 → now.refused ≤ now.replies
within_then true was now within more errors = omega (arith, within, more, errors)
within_then false was now within more errors = omega (arith, within, more, errors)

pub count-requires-clause-few : goal.count-requires-clause-few
count-requires-clause-few g c =
    let so_far = c.loop-line.invariant.counted in
    let bound = commands_few script_limit c.args.script.now c.requires.short in
    omega (arith, so_far, bound, ap length c.in-Some.ensures)

pub count-requires-clause-within : goal.count-requires-clause-within
count-requires-clause-within g c = c.loop-line.invariant.within

pub loop-line-init : goal.loop-line-init
loop-line-init g c = record {
  short = subst (AreUpTo script_limit) (sym c.new-lines.ensures) (commands_up_to script_limit c.args.script.now c.requires.short);
  goes = goes_same (laws g.met.D.Disk) c.args.disk.now;
  suits = c.requires.suits;
  ready = record { fit = c.requires.fit; stands = c.requires.stands; settled = c.requires.settled; read_only = refl };
  reads = λ reads. (subst (λ (lines : List (List ℕ)). Spares c.args.volume.now.read_only lines) (sym c.new-lines.ensures) reads, reads_start (laws g.met.D.Disk) c.args.disk.now);
  out_faults = omega arith;
  counted = let none = c.new-tally.ensures.replies in let same = ap length c.new-lines.ensures in omega (arith, none, same);
  within = let none = c.new-tally.ensures.refused in omega (arith, none);
  served = λ image told kind view opens parts.
      served_start (laws g.met.D.Disk) (mode_of kind c.args.volume.now.read_only c.args.safe) (record { image = image; view = view }) c.args.script.now c.args.disk.now told c.requires.settled opens
      (commands_left c.new-lines.result) c.args.volume.now c.new-tally.result (g.K.Sink.taken c.args.out.now) c.new-lines.ensures parts c.new-tally.ensures.replies c.new-tally.ensures.refused;
}

pub answer_line-requires-clause-attached : goal.answer_line-requires-clause-attached
answer_line-requires-clause-attached g c = c.loop-line.invariant.goes.form.attached_stays ∙ c.requires.attached

pub answer_line-requires-clause-fit : goal.answer_line-requires-clause-fit
answer_line-requires-clause-fit g c = c.loop-line.invariant.ready.fit

pub answer_line-requires-clause-stands : goal.answer_line-requires-clause-stands
answer_line-requires-clause-stands g c = c.loop-line.invariant.ready.stands

pub answer_line-requires-clause-settled : goal.answer_line-requires-clause-settled
answer_line-requires-clause-settled g c = c.loop-line.invariant.ready.settled

pub answer_line-requires-clause-suits : goal.answer_line-requires-clause-suits
answer_line-requires-clause-suits g c = c.loop-line.invariant.suits

pub answer_line-requires-clause-short : goal.answer_line-requires-clause-short
answer_line-requires-clause-short g c = (subst (AreUpTo script_limit) c.in-Some.ensures c.loop-line.invariant.short).0

pub loop-line-preserved : goal.loop-line-preserved
loop-line-preserved g c =
    let so_far = c.loop-line.invariant in
    let line = c.in-Some.line.now in
    let left = commands_left c.next.new.self in
    let cut : commands_left c.loop-line.lines ≡ line ∷ left = c.in-Some.ensures in
    let taken = g.K.Sink.taken in
    let keeps = c.answer_line.ensures.keeps in
    let is : c.answer_line.result ≡ Ok c.in_ok-refused.refused = c.in_ok-refused.was in
    let ready = subst (λ r. IfOk r (λ refused. IsReady g.D.Disk c.answer_line.new.disk c.loop-line.volume c.answer_line.new.volume)) is keeps.ready in
    record {
      short = (subst (AreUpTo script_limit) cut so_far.short).1;
      goes = goes_then (laws g.met.D.Disk) so_far.goes keeps.goes;
      suits = subst (λ r. IfOk r (λ refused. SuitsMode c.args.safe c.answer_line.new.volume)) is c.answer_line.ensures.suits;
      ready = record { fit = ready.fit; stands = ready.stands; settled = ready.settled; read_only = ready.read_only ∙ so_far.ready.read_only };
      reads = λ reads.
          let was = so_far.reads reads in
          let spares : Spares c.args.volume.now.read_only (line ∷ left) = subst (λ (lines : List (List ℕ)). Spares c.args.volume.now.read_only lines) cut was.0 in (
            spares_rest c.args.volume.now.read_only line left spares,
            reads_then (laws g.met.D.Disk) was.1 (keeps.reads (spares_first c.args.volume.now.read_only c.loop-line.volume.read_only line left so_far.ready.read_only spares)).0,
          );
      out_faults = omega (arith, so_far.out_faults, keeps.caused.later);
      counted = let more = c.count.ensures.replies in let was = so_far.counted in let here = ap length cut in omega (arith, more, was, here);
      within = within_then c.in_ok-refused.refused c.loop-line.tally c.count.new.self so_far.within c.count.ensures.replies c.count.ensures.refused;
      served = λ image told kind view opens parts.
          let s : State = record { image = image; view = view } in
          let v = c.args.volume.now in
          let has : HasServed g.D.Disk c.args.disk.now c.loop-line.disk (mode_of kind v.read_only c.args.safe) s c.args.script.now (line ∷ left) c.loop-line.volume c.loop-line.tally (taken c.args.out.now) (taken c.loop-line.out) =
          subst (λ (lines : List (List ℕ)). HasServed g.D.Disk c.args.disk.now c.loop-line.disk (mode_of kind v.read_only c.args.safe) s c.args.script.now lines c.loop-line.volume c.loop-line.tally (taken c.args.out.now) (taken c.loop-line.out)) cut
          (so_far.served image told kind view opens parts) in
          let at = has.lines.state in
          let ends = subst (λ (ro : Bool). LineEnds g.D.Disk c.loop-line.disk c.answer_line.new.disk (mode_of kind ro c.args.safe) at c.answer_line.new.volume line (taken c.loop-line.out) (taken c.answer_line.new.out) c.answer_line.result)
          so_far.ready.read_only (c.answer_line.ensures.step at.image has.lines.holds kind at.view has.lines.opens has.parts) in
          served_more (laws g.met.D.Disk) (mode_of kind v.read_only c.args.safe) s c.args.script.now c.args.disk.now told c.requires.settled opens line left c.loop-line.volume c.answer_line.new.volume
          c.in_ok-refused.refused c.loop-line.tally c.count.new.self (taken c.args.out.now) (taken c.loop-line.out) (taken c.answer_line.new.out) c.loop-line.disk c.answer_line.new.disk has so_far.goes keeps.goes
          (subst (λ (r : Result Bool LineFault). LineEnds g.D.Disk c.loop-line.disk c.answer_line.new.disk (mode_of kind v.read_only c.args.safe) at c.answer_line.new.volume line (taken c.loop-line.out) (taken c.answer_line.new.out) r) is ends)
          c.count.ensures.replies c.count.ensures.refused;
    }

pub returns-in_err-refused-clause-served : goal.returns-in_err-refused-clause-served
returns-in_err-refused-clause-served g c image told kind view opens parts =
    let so_far = c.loop-line.invariant in
    let line = c.in-Some.line.now in
    let left = commands_left c.next.new.self in
    let taken = g.K.Sink.taken in
    let keeps = c.answer_line.ensures.keeps in
    let s : State = record { image = image; view = view } in
    let v = c.args.volume.now in
    let fault : LineFault = c.in_err-refused.field-0.0 in
    let was : c.answer_line.result ≡ Err fault = c.in_err-refused.was in
    let has : HasServed g.D.Disk c.args.disk.now c.loop-line.disk (mode_of kind v.read_only c.args.safe) s c.args.script.now (line ∷ left) c.loop-line.volume c.loop-line.tally (taken c.args.out.now) (taken c.loop-line.out) =
    subst (λ (lines : List (List ℕ)). HasServed g.D.Disk c.args.disk.now c.loop-line.disk (mode_of kind v.read_only c.args.safe) s c.args.script.now lines c.loop-line.volume c.loop-line.tally (taken c.args.out.now) (taken c.loop-line.out)) c.in-Some.ensures
    (so_far.served image told kind view opens parts) in
    let at = has.lines.state in
    let ends = subst (λ (ro : Bool). LineEnds g.D.Disk c.loop-line.disk c.answer_line.new.disk (mode_of kind ro c.args.safe) at c.answer_line.new.volume line (taken c.loop-line.out) (taken c.answer_line.new.out) c.answer_line.result)
    so_far.ready.read_only (c.answer_line.ensures.step at.image has.lines.holds kind at.view has.lines.opens has.parts) in
    subst (λ (r : Result Tally LineFault). ServesAs g.D.Disk c.args.disk.now c.answer_line.new.disk (mode_of kind v.read_only c.args.safe) s c.args.script.now (taken c.args.out.now) (taken c.answer_line.new.out) r)
    (sym (same_result c.from_residual.result fault (err_from_is_err_and c.from_residual.result c.from_residual.ensures.1)))
    (served_part (laws g.met.D.Disk) (mode_of kind v.read_only c.args.safe) s c.args.script.now c.args.disk.now told c.requires.settled opens line left c.loop-line.volume c.answer_line.new.volume
    c.loop-line.tally (taken c.args.out.now) (taken c.loop-line.out) (taken c.answer_line.new.out) c.loop-line.disk c.answer_line.new.disk fault has so_far.goes keeps.goes
    (λ never. keeps.settled (λ is. never (one_fault c.answer_line.result fault LineFault.Disk was is)))
    (subst (λ (r : Result Bool LineFault). LineEnds g.D.Disk c.loop-line.disk c.answer_line.new.disk (mode_of kind v.read_only c.args.safe) at c.answer_line.new.volume line (taken c.loop-line.out) (taken c.answer_line.new.out) r) was ends))

pub returns-in_err-refused-clause-goes : goal.returns-in_err-refused-clause-goes
returns-in_err-refused-clause-goes g c = goes_then (laws g.met.D.Disk) c.loop-line.invariant.goes c.answer_line.ensures.keeps.goes

pub returns-in_err-refused-clause-settled : goal.returns-in_err-refused-clause-settled
returns-in_err-refused-clause-settled g c never =
    let fault : LineFault = c.in_err-refused.field-0.0 in
    let was : c.answer_line.result ≡ Err fault = c.in_err-refused.was in
    let same = same_result c.from_residual.result fault (err_from_is_err_and c.from_residual.result c.from_residual.ensures.1) in
    c.answer_line.ensures.keeps.settled (λ is. never (same ∙ ap Err (one_fault c.answer_line.result fault LineFault.Disk was is)))

pub returns-in_err-refused-clause-reads : goal.returns-in_err-refused-clause-reads
returns-in_err-refused-clause-reads g c reads =
    let line = c.in-Some.line.now in
    let left = commands_left c.next.new.self in
    let was = c.loop-line.invariant.reads reads in
    let spares : Spares c.args.volume.now.read_only (line ∷ left) = subst (λ (lines : List (List ℕ)). Spares c.args.volume.now.read_only lines) c.in-Some.ensures was.0 in
    reads_then (laws g.met.D.Disk) was.1
    (c.answer_line.ensures.keeps.reads (spares_first c.args.volume.now.read_only c.loop-line.volume.read_only line left c.loop-line.invariant.ready.read_only spares)).0

pub returns-in_err-refused-clause-caused : goal.returns-in_err-refused-clause-caused
returns-in_err-refused-clause-caused g c =
    let fault : LineFault = c.in_err-refused.field-0.0 in
    let was : c.answer_line.result ≡ Err fault = c.in_err-refused.was in
    let same = same_result c.from_residual.result fault (err_from_is_err_and c.from_residual.result c.from_residual.ensures.1) in
    caused_later g.D.Disk g.K.Sink c.args.disk.now c.loop-line.disk c.answer_line.new.disk c.args.out.now c.loop-line.out c.answer_line.new.out fault c.answer_line.result c.from_residual.result
    c.loop-line.invariant.goes.faults c.loop-line.invariant.out_faults was same c.answer_line.ensures.keeps.caused

pub returns-clause-served : goal.returns-clause-served
returns-clause-served g c image told kind view opens parts =
    let taken = g.K.Sink.taken in
    let s : State = record { image = image; view = view } in
    let v = c.args.volume.now in
    served_all (laws g.met.D.Disk) (mode_of kind v.read_only c.args.safe) s c.args.script.now c.args.disk.now told c.requires.settled opens c.loop-line.volume c.loop-line.tally (taken c.args.out.now) (taken c.loop-line.out) c.loop-line.disk
    (subst (λ (lines : List (List ℕ)). HasServed g.D.Disk c.args.disk.now c.loop-line.disk (mode_of kind v.read_only c.args.safe) s c.args.script.now lines c.loop-line.volume c.loop-line.tally (taken c.args.out.now) (taken c.loop-line.out)) c.in_default.ensures
    (c.loop-line.invariant.served image told kind view opens parts)) c.loop-line.invariant.goes c.loop-line.invariant.ready.settled

pub returns-clause-goes : goal.returns-clause-goes
returns-clause-goes g c = c.loop-line.invariant.goes

pub returns-clause-settled : goal.returns-clause-settled
returns-clause-settled g c never = c.loop-line.invariant.ready.settled

pub returns-clause-reads : goal.returns-clause-reads
returns-clause-reads g c reads = (c.loop-line.invariant.reads reads).1

pub returns-clause-caused : goal.returns-clause-caused
returns-clause-caused g c = caused_ok g.D.Disk g.K.Sink c.args.disk.now c.loop-line.disk c.args.out.now c.loop-line.out c.loop-line.tally c.loop-line.invariant.out_faults
