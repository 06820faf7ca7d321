-- Lines that may move files of a host.
use Rattle.std.proofs.Common.{◌≡◌, inl, inr, ⊎_elim, ℕ, Bool, true, false, List, [], Option, Some, Result, Ok, Err, IfOk, refl, sym, ap, subst, ◌∙◌, arith}
use Rattle.fc_device.specs.declared.disk.Disk.{Ghosts}
use Rattle.fc_device.specs.declared.streams.Sink.{Ghosts as Sinks}
use Rattle.fc_device.specs.Calls.{OnlyReads}
use Rattle.fc_device.proofs.DiskLaws.{Laws}
use Rattle.fc_device.proofs.StopLemmas.{weaker}
use Rattle.fc_host.specs.declared.host.Host.{Ghosts as Hosts}
use Rattle.fc_host.specs.Answers.{AnswersCalls}
use Rattle.fc_host.specs.Asked.{Asked}
use Rattle.fc_host.specs.Files.{Files}
use Rattle.fc_names.specs.declared.refusal.Refusal.{Refusal}
use Rattle.fc_record.specs.declared.Kind.{Kind}
use Rattle.fc_model.specs.Command.{Command}
use Rattle.fc_image.specs.Stays.{OpensAs}
use Rattle.fc_image.specs.effects.Effect.{State, tree_in}
use Rattle.fc_script.specs.HostLines.{HostLine}
use Rattle.fc_script.specs.Lines.{command_of}
use Rattle.fc_script.specs.Texts.{refusal_line}
use Rattle.fc_runs.specs.AskedRun.{AskedTakes}
use Rattle.fc_runs.specs.Early.{host_reply_begun, reply_begun}
use Rattle.fc_runs.specs.HostServing.{IsMoved}
use Rattle.fc_runs.specs.Meanwhile.{LeavesImage, LeavesTree}
use Rattle.fc_runs.specs.Promises.{StaysBy, cuts_replies, spares_disk}
use Rattle.fc_runs.specs.Run.{Mode, Takes, is_error, keeps_tree_or, tree_after}
use Rattle.fc_runs.specs.Stops.{leaves_image_or}
use Rattle.fc_runs.proofs.HostServingLemmas.{none_asked, stays_same}
use Rattle.fc_tree.specs.Parts.{ArePartsOf}
use Rattle.fc_volume.specs.Volume.{StandsFor, Volume, parts_of}
use Rattle.fc_shell.specs.declared.answer.LineFault.{LineFault}
use Rattle.fc_shell.specs.declared.answer.LineFault.TheVariants as lines
use Rattle.fc_shell.specs.declared.moving.MoveFault.{MoveFault}
use Rattle.fc_shell.specs.Answered.{Answered, IsCaused}
use Rattle.fc_shell.specs.Line.{IsDone, IsReady, KeepsGoing, LineEnds}
use Rattle.fc_shell.specs.Modes.{mode_of}
use Rattle.fc_shell.specs.MoveFaults.{move_fault, moved_result}
use Rattle.fc_shell.specs.Moving.{AreCaused, KeepsServing, LineMoves, move_cause}
use Rattle.fc_shell.specs.Reads.{is_reading_line}
use Rattle.fc_shell.specs.Writing.{WrotePart}
use Rattle.fc_shell.proofs.StepLemmas.{same_image, same_tree, stands_read}
use Rattle.fc_shell.proofs.WritingLemmas.{wrote_nothing}
use Rattle.fc_device.proofs.StopLemmas.{one_told}
use Rattle.fc_runs.specs.Stops.{HostLeftBy, LeftAs, LeftBy, LeftByMode}
use Rattle.fc_runs.specs.HostPromises.{AskedLeaves}
use Rattle.fc_image.specs.safe.SafeEffect.{HasTreeBeforeOrAfter}
use Rattle.fc_runs.proofs.ModeLemmas.{as_either, as_plain, as_safe, asked_leaves_before}
use Rattle.fc_runs.proofs.StepLemmas.{has_tree}
use Rattle.fc_runs.proofs.LeftLemmas.{host_left_same}

-- ---- faults

pub cuts_move : (fault : LineFault) → (fault ≡ LineFault.Disk → ⊥) → cuts_replies (move_cause (move_fault fault)) ≡ true
cuts_move lines.Disk never = absurd (never refl)
cuts_move lines.Out never = refl
cuts_move lines.NoMemory never = refl

spares_line : (fault : LineFault) → spares_disk (move_cause (move_fault fault)) ≡ true → fault ≡ LineFault.Disk → ⊥
spares_line lines.Disk spares is = absurd (cc)
spares_line lines.Out spares is = absurd (cc)
spares_line lines.NoMemory spares is = absurd (cc)

pub disk_line : (r : Result Bool LineFault) → moved_result r ≡ Err MoveFault.Disk → r ≡ Err LineFault.Disk
disk_line (Ok refused) is = absurd (cc)
disk_line (Err lines.Disk) is = refl
disk_line (Err lines.Out) is = absurd (cc)
disk_line (Err lines.NoMemory) is = absurd (cc)

pub out_line : (r : Result Bool LineFault) → moved_result r ≡ Err MoveFault.Out → r ≡ Err LineFault.Out
out_line (Ok refused) is = absurd (cc)
out_line (Err lines.Disk) is = absurd (cc)
out_line (Err lines.Out) is = refl
out_line (Err lines.NoMemory) is = absurd (cc)

pub no_host : (r : Result Bool LineFault) → moved_result r ≡ Err MoveFault.Host → ⊥
no_host (Ok refused) is = cc
no_host (Err lines.Disk) is = cc
no_host (Err lines.Out) is = cc
no_host (Err lines.NoMemory) is = cc

-- a line that moves no file
pub caused_moved : {D K H : Type 0} (d : Ghosts D) (k : Sinks K) (h : Hosts H) (old new : D) (before after : K) (host : H) (r : Result Bool LineFault) → IsCaused d k old new before after r
    → AreCaused d k h old new before after host host (moved_result r)
caused_moved d k h old new before after host r caused = record {
  later = caused.later;
  host_later = omega arith;
  disk = λ is. caused.disk (disk_line r is);
  out = λ is. caused.out (out_line r is);
  host = λ is. absurd (no_host r is);
}

-- ---- lines that leave the disk

-- The image as it was is one that a line may leave, in either mode, if it was done,
pub done_left : (mode : Mode) (s : State) → OpensAs s.image mode.kind s.view → (line : Result HostLine Refusal) (refused : Bool) (image : List ℕ) → image ≡ s.image
    → LeftByMode mode s (tree_in s) (HostLeftBy mode.kind s refused line) image
done_left mode s opens line refused image same =
    as_either (HasTreeBeforeOrAfter mode.kind s (tree_in s)) (HostLeftBy mode.kind s refused line) image mode.safe (λ is. inl (has_tree mode.kind s image opens same)) (λ is. host_left_same mode.kind s opens image same refused line)

-- or if it broke off.
pub broke_left : (mode : Mode) (s : State) → OpensAs s.image mode.kind s.view → (line : Result HostLine Refusal) (asked : List Asked) (files : Option Files) (image : List ℕ) → image ≡ s.image
    → LeftAs mode.safe (AskedLeaves mode s line asked files) (HostLeftBy mode.kind s false line) image
broke_left mode s opens line asked files image same =
    as_either (AskedLeaves mode s line asked files) (HostLeftBy mode.kind s false line) image mode.safe (λ is. asked_leaves_before mode s line asked files image (has_tree mode.kind s image opens same))
    (λ is. host_left_same mode.kind s opens image same false line)

module _ {D : Type 0} {d : Ghosts D} (law : Laws d) (kind : Kind) (safe : Bool) (v : Volume) (s : State) (line : Result HostLine Refusal) (old new : D) (before after : Option (List ℕ))
    (quiet : d.pending old ≡ false) (told : d.bytes old ≡ Some s.image) (opens : OpensAs s.image kind s.view) (reads : OnlyReads d old new) where
  abbrev mode : Mode
  mode = mode_of kind v.read_only safe

  tree_stays : LeavesTree d old new kind s
  tree_stays = same_tree law kind safe v s [] old new before after quiet told opens reads.stops

  image_stays : LeavesImage d old new s
  image_stays = same_image law kind safe v s [] old new before after quiet told opens reads.stops

  -- The line is done, and leaves everything.
  pub moved_same : (reply : List ℕ) (asked : List Asked) (files left : Option Files) → AskedTakes mode s asked line reply s → AnswersCalls files asked left
      → IsMoved d old new mode s line reply asked files left s
  moved_same reply asked files left step answered =
      record { step = step; answered = answered; holds = reads.bytes ∙ told; opens = opens; kept = λ keeps. tree_stays; still = λ leaves. image_stays; spared = λ image since. done_left mode s opens line (is_error reply) image (image_stays image since) }

  pub told_moves : (reply : List ℕ) (asked : List Asked) (files left : Option Files) → AskedTakes mode s asked line reply s → AnswersCalls files asked left → ArePartsOf (parts_of v) s.view
      → (r : Result Bool LineFault) → (r ≡ Err LineFault.Disk → ⊥) → Answered reply before after r → LineMoves d old new mode s v line before after asked files left (moved_result r)
  told_moves reply asked files left step answered parts (Ok refused) never is =
      record { reply = reply; next = s; moved = moved_same reply asked files left step answered; parts = parts; wrote = is.0; refused_is = is.1 }
  told_moves reply asked files left step answered parts (Err fault) never is =
      inl (record { reply = reply; next = s; moved = moved_same reply asked files left step answered; part = is; cuts = cuts_move fault (λ e. never (ap Err e)) })

  -- The line is refused before anything is asked.
  pub refused_moves : (refusal : Refusal) (files : Option Files) → line ≡ Err refusal → ArePartsOf (parts_of v) s.view → (r : Result Bool LineFault) → (r ≡ Err LineFault.Disk → ⊥)
      → Answered (refusal_line refusal) before after r → LineMoves d old new mode s v line before after [] files files (moved_result r)
  refused_moves refusal files is parts r never answered =
      told_moves (refusal_line refusal) [] files files (subst (λ (l : Result HostLine Refusal). AskedTakes mode s [] l (refusal_line refusal) s) (sym is) ((refl, refl), refl)) refl parts r never answered

  -- The line isn't begun.
  pub unbegun_moves : (fault : MoveFault) (files : Option Files) → before ≡ after → LineMoves d old new mode s v line before after [] files files (Err fault)
  unbegun_moves fault files same =
      inr (record {
        part = subst (λ (a : Option (List ℕ)). WrotePart before a (host_reply_begun mode s line)) same (0, wrote_nothing before);
        broke = record {
          begun = none_asked mode s line;
          files_left = λ held known. (held, known, inl refl);
          back = λ first host is. refl;
          holds = λ spares. (s.image, reads.bytes ∙ told, stays_same (move_cause fault) kind s opens);
          kept = λ keeps. tree_stays;
          still = λ leaves. image_stays;
          spared = λ image since. broke_left mode s opens line [] files image (image_stays image since);
          exit = λ image here. broke_left mode s opens line [] files image (one_told (sym here ∙ (reads.bytes ∙ told)));
        };
      })

-- what such a line keeps
pub reading_serves : {D : Type 0} {d : Ghosts D} (law : Laws d) (v : Volume) (line : Result HostLine Refusal) (old new : D) (result : Result Bool MoveFault) → d.pending old ≡ false → v.fit ≡ true
    → StandsFor d v old → OnlyReads d old new → KeepsServing d old new v v line result
reading_serves {d = d} law v line old new result quiet fit stands reads = record {
  goes = record { form = reads.form; stops = weaker law (λ image. Unit {0}) reads.stops (λ image left. tt); faults = reads.faults };
  ready = ready result (record { fit = fit; stands = stands_read d v old new reads stands; settled = reads.pending ∙ quiet; read_only = refl });
  settled = λ never. reads.pending ∙ quiet;
  reads = λ is. (reads, refl);
}
  where
    ready : (r : Result Bool MoveFault) → IsReady d new v v → IfOk r (λ refused. IsReady d new v v)
    ready (Ok refused) is = is
    ready (Err fault) is = tt

-- ---- lines that are commands

module _ {D : Type 0} (d : Ghosts D) (old new : D) (own_mode : Mode) (s : State) (line : List ℕ) (c : Command) (is : command_of line ≡ Ok c) (before after : Option (List ℕ)) (files : Option Files) where
  -- the line, as one that may move a file
  abbrev own_line : Result HostLine Refusal
  own_line = Ok (HostLine.Other c)

  done_moves : (reply : List ℕ) (next : State) → IsDone d old new own_mode s line reply next → IsMoved d old new own_mode s own_line reply [] files files next
  done_moves reply next done = record {
    step = (subst (λ (r : Result Command Refusal). Takes own_mode s r reply next) is done.step, refl);
    answered = refl;
    holds = done.holds;
    opens = done.opens;
    kept = λ keeps. done.kept (ap (keeps_tree_or (is_error reply)) is ∙ keeps);
    still = λ leaves. done.still (ap (leaves_image_or (is_error reply)) is ∙ leaves);
    spared = λ image since. subst (λ (r : Result Command Refusal). LeftByMode own_mode s (tree_in next) (LeftBy own_mode.kind s (is_error reply) r) image) is (done.spared image since);
  }

  -- it doesn't break off by the host
  stays_line : (fault : LineFault) → StaysBy (move_cause (move_fault fault)) own_mode.kind s s.image
  stays_line lines.Disk = refl
  stays_line lines.Out = refl
  stays_line lines.NoMemory = refl

  -- what it leaves then
  broke_off : (image : List ℕ) → LeftByMode own_mode s (tree_after own_mode s (Ok c)) (LeftBy own_mode.kind s false (Ok c)) image
      → LeftAs own_mode.safe (AskedLeaves own_mode s own_line [] files) (HostLeftBy own_mode.kind s false own_line) image
  broke_off image left = as_either (AskedLeaves own_mode s own_line [] files) (HostLeftBy own_mode.kind s false own_line) image own_mode.safe
      (λ safe. (tree_after own_mode s (Ok c), refl, as_safe (HasTreeBeforeOrAfter own_mode.kind s (tree_after own_mode s (Ok c))) (LeftBy own_mode.kind s false (Ok c)) image own_mode.safe safe left))
      (λ plain. as_plain (HasTreeBeforeOrAfter own_mode.kind s (tree_after own_mode s (Ok c))) (LeftBy own_mode.kind s false (Ok c)) image own_mode.safe plain left)

  pub command_moves : (v : Volume) (r : Result Bool LineFault) → LineEnds d old new own_mode s v line before after r
      → LineMoves d old new own_mode s v own_line before after [] files files (moved_result r)
  command_moves v (Ok refused) x = record { reply = x.reply; next = x.next; moved = done_moves x.reply x.next x.done; parts = x.parts; wrote = x.wrote; refused_is = x.refused_is }
  command_moves v (Err fault) (inl x) = inl (record { reply = x.reply; next = x.next; moved = done_moves x.reply x.next x.done; part = x.part; cuts = cuts_move fault x.no_disk })
  command_moves v (Err fault) (inr x) = inr (record {
    part = subst (λ (r : Result Command Refusal). WrotePart before after (reply_begun own_mode s r)) is x.part;
    broke = record {
      begun = refl;
      files_left = λ held known. (held, known, inl refl);
      back = λ first host is. refl;
      holds = λ spares. (s.image, x.holds (spares_line fault spares), stays_line fault);
      kept = λ keeps. x.kept (ap (keeps_tree_or false) is ∙ keeps);
      still = λ leaves. x.still (ap (leaves_image_or false) is ∙ leaves);
      spared = λ image since. broke_off image (subst (λ (r : Result Command Refusal). LeftByMode own_mode s (tree_after own_mode s r) (LeftBy own_mode.kind s false r) image) is (x.spared image since));
      exit = λ image here. broke_off image (subst (λ (r : Result Command Refusal). LeftByMode own_mode s (tree_after own_mode s r) (LeftBy own_mode.kind s false r) image) is (x.exit image here));
    };
  })

pub command_serves : {D K : Type 0} (d : Ghosts D) (k : Sinks K) (old new : D) (before after : K) (was v : Volume) (line : List ℕ) (c : Command) (r : Result Bool LineFault) → command_of line ≡ Ok c
    → KeepsGoing d k old new before after was v line r → KeepsServing d old new was v (Ok (HostLine.Other c)) (moved_result r)
command_serves d k old new before after was v line c r is keeps = record {
  goes = keeps.goes;
  ready = ready r keeps.ready;
  settled = λ never. keeps.settled (λ e. never (ap moved_result e));
  reads = λ x. keeps.reads (⊎_elim (λ locked. inl locked) (λ reads. inr (ap is_reading_line is ∙ reads)) x);
}
  where
    ready : (r : Result Bool LineFault) → IfOk r (λ refused. IsReady d new was v) → IfOk (moved_result r) (λ refused. IsReady d new was v)
    ready (Ok refused) x = x
    ready (Err fault) x = tt
