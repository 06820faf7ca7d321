-- Lines as steps.
use Rattle.std.proofs.Common.{◌≡◌, ◌≤◌, arith, ℕ, Bool, true, false, List, [], Option, Some, Result, Ok, Err, IfOk, inl, inr, refl, sym, ap, subst, ◌∙◌}
use Rattle.std.specs.Prelude.{if◌then◌else◌}
use Rattle.std.specs.Option.{ForSome}
use Rattle.fc_device.specs.declared.disk.Disk.{Ghosts}
use Rattle.fc_device.specs.declared.streams.Sink.{Ghosts as Sinks}
use Rattle.fc_device.specs.Calls.{OnlyReads, StopsAsBefore}
use Rattle.fc_device.proofs.DiskLaws.{Laws}
use Rattle.fc_device.proofs.StopLemmas.{one_told, weaker}
use Rattle.fc_names.specs.declared.refusal.Refusal.{Refusal}
use Rattle.fc_record.specs.declared.Kind.{Kind}
use Rattle.fc_model.specs.Tree.{Tree}
use Rattle.fc_model.specs.Command.{Command}
use Rattle.fc_model.specs.Answer.{answer}
use Rattle.fc_image.specs.Layout.{dir_form}
use Rattle.fc_image.specs.Stays.{OpensAs}
use Rattle.fc_image.specs.effects.Effect.{State, tree_in}
use Rattle.fc_image.specs.safe.SafeEffect.{HasTreeBeforeOrAfter}
use Rattle.fc_script.specs.Lines.{command_of}
use Rattle.fc_script.specs.Texts.{refusal_line}
use Rattle.fc_runs.specs.Early.{reply_begun}
use Rattle.fc_runs.specs.ReadLaw.{answered_reply, is_reading, reading_reply, served_reply}
use Rattle.fc_runs.specs.Run.{Mode, Step, Takes, is_error, tree_after}
use Rattle.fc_runs.proofs.ReadLemmas.{read_law}
use Rattle.fc_runs.specs.Stops.{LeftBy, LeftByMode}
use Rattle.fc_runs.proofs.LeftLemmas.{left_by_same}
use Rattle.fc_runs.proofs.ModeLemmas.{as_either}
use Rattle.fc_runs.proofs.StepLemmas.{has_tree}
use Rattle.fc_shell.proofs.ShortageLemmas.{never_shortage}
use Rattle.fc_tree.specs.Parts.{ArePartsOf}
use Rattle.fc_volume.specs.Volume.{StandsFor, Volume, parts_of}
use Rattle.fc_shell.specs.declared.answer.LineFault.{LineFault}
use Rattle.fc_shell.specs.Answered.{Answered, IsCaused, volume_reply}
use Rattle.fc_runs.specs.Meanwhile.{LeavesTree, LeavesImage}
use Rattle.fc_shell.specs.Line.{IsDone, IsReady, KeepsGoing, LineEnds}
use Rattle.fc_shell.specs.Modes.{mode_of}
use Rattle.fc_shell.specs.Writing.{WrotePart}
use Rattle.fc_shell.proofs.WritingLemmas.{wrote_nothing}

-- ---- lines that only read

module _ {D : Type 0} {d : Ghosts D} (law : Laws d) (kind : Kind) (safe : Bool) (v : Volume) (s : State) (line : List ℕ) (old new : D) (before after : Option (List ℕ))
    (quiet : d.pending old ≡ false) (told : d.bytes old ≡ Some s.image) (opens : OpensAs s.image kind s.view) where
  abbrev mode : Mode
  mode = mode_of kind v.read_only safe

  -- A crash since then leaves the image as it was.
  pub same_tree : StopsAsBefore d old new → LeavesTree d old new kind s
  same_tree stops new_map image left = has_tree kind s image opens (law.settled old quiet s.image told image (stops.since image left))

  pub same_image : StopsAsBefore d old new → LeavesImage d old new s
  same_image stops image left = law.settled old quiet s.image told image (stops.since image left)

  -- It is one that a line may leave, in either mode.
  pub left_same : (t : Tree) (refused : Bool) (image : List ℕ) → image ≡ s.image → LeftByMode mode s t (LeftBy kind s refused (command_of line)) image
  left_same t refused image same = as_either (HasTreeBeforeOrAfter kind s t) (LeftBy kind s refused (command_of line)) image safe (λ is. inl (has_tree kind s image opens same))
      (λ is. left_by_same kind s opens image same refused (command_of line))

  -- The line is done, and leaves everything.
  pub read_done : (reply : List ℕ) → Step mode s line reply s → OnlyReads d old new → IsDone d old new mode s line reply s
  read_done reply step reads = record { step = step; holds = reads.bytes ∙ told; opens = opens; kept = λ keeps. same_tree reads.stops; still = λ leaves. same_image reads.stops; spared = λ image left. left_same (tree_in s) (is_error reply) image (same_image reads.stops image left) }

  -- A line that breaks off leaves it, too.
  unread_spared : OnlyReads d old new → (image : List ℕ) → d.left_since new (d.moment old) image → LeftByMode mode s (tree_after mode s (command_of line)) (LeftBy kind s false (command_of line)) image
  unread_spared reads image left = left_same (tree_after mode s (command_of line)) false image (same_image reads.stops image left)

  unread_exit : OnlyReads d old new → ForSome (d.bytes new) (LeftByMode mode s (tree_after mode s (command_of line)) (LeftBy kind s false (command_of line)))
  unread_exit reads image here = left_same (tree_after mode s (command_of line)) false image (one_told (sym here ∙ (reads.bytes ∙ told)))

  -- a line that leaves everything, whose reply tells no bytes
  pub left_ends : (reply : List ℕ) (result : Result Bool LineFault) → Step mode s line reply s → OnlyReads d old new → ArePartsOf (parts_of v) s.view
      → (result ≡ Err LineFault.Disk → ⊥) → Answered reply before after result → LineEnds d old new mode s v line before after result
  left_ends reply result step reads parts no_disk answered = by result no_disk answered
    where
      by : (result : Result Bool LineFault) → (result ≡ Err LineFault.Disk → ⊥) → Answered reply before after result → LineEnds d old new mode s v line before after result
      by (Ok refused) never answered =
          record { reply = reply; next = s; done = read_done reply step reads; parts = parts; wrote = answered.0; refused_is = answered.1 }
      by (Err fault) never answered =
          inl (record { reply = reply; next = s; done = read_done reply step reads; part = answered; no_disk = λ is. never (ap Err is) })

  -- a line that is refused whatever the image is
  pub refusal_ends : (refusal : Refusal) (result : Result Bool LineFault) → command_of line ≡ Err refusal → OnlyReads d old new → ArePartsOf (parts_of v) s.view
      → (result ≡ Err LineFault.Disk → ⊥) → Answered (refusal_line refusal) before after result → LineEnds d old new mode s v line before after result
  refusal_ends refusal result is reads parts no_disk answered =
      left_ends (refusal_line refusal) result (subst (λ (r : Result Command Refusal). Takes mode s r (refusal_line refusal) s) (sym is) (refl, refl)) reads parts no_disk answered

  -- a command that reads
  pub reading_ends : (c : Command) (result : Result Bool LineFault) → command_of line ≡ Ok c → is_reading c ≡ true → OnlyReads d old new → ArePartsOf (parts_of v) s.view
      → Answered (volume_reply kind v s c) before after result → LineEnds d old new mode s v line before after result
  unfolding volume_reply
  reading_ends c result is reading reads parts answered = by result (subst (λ (reply : List ℕ). Answered reply before after result) (sym same_reply) answered)
    where
      -- In the safe mode it has the same reply.
      same_answer : (a : Result Tree Refusal) → answered_reply mode s c a ≡ answered_reply (mode_of kind v.read_only false) s c a
      same_answer (Err refusal) = refl
      same_answer (Ok t) = ap (served_reply s c) (never_shortage s.image kind s.view c opens reading safe ∙ sym (never_shortage s.image kind s.view c opens reading false))

      same_reply : reading_reply mode s c ≡ reading_reply (mode_of kind v.read_only false) s c
      same_reply = same_answer (answer (tree_in s) (dir_form s.view.layout) v.read_only c)

      step : Step mode s line (reading_reply mode s c) s
      step = read_law.some mode s line c is reading

      begun : reply_begun mode s (command_of line) ≡ reading_reply mode s c
      begun = ap (reply_begun mode s) is ∙ ap (λ (b : Bool). if b then reading_reply mode s c else []) reading

      by : (result : Result Bool LineFault) → Answered (reading_reply mode s c) before after result → LineEnds d old new mode s v line before after result
      by (Ok refused) answered = record { reply = reading_reply mode s c; next = s; done = read_done (reading_reply mode s c) step reads; parts = parts; wrote = answered.0; refused_is = answered.1 }
      by (Err fault) answered =
          inr (record { part = subst (WrotePart before after) (sym begun) answered; holds = λ never. reads.bytes ∙ told; kept = λ keeps. same_tree reads.stops; still = λ leaves. same_image reads.stops; spared = unread_spared reads; exit = unread_exit reads })

  -- a line that isn't begun
  pub unbegun_ends : (fault : LineFault) → OnlyReads d old new → before ≡ after → LineEnds d old new mode s v line before after (Err fault)
  unbegun_ends fault reads same =
      inr (record {
        part = subst (λ (a : Option (List ℕ)). WrotePart before a (reply_begun mode s (command_of line))) same (0, wrote_nothing before);
        holds = λ never. reads.bytes ∙ told;
        kept = λ keeps. same_tree reads.stops;
        still = λ leaves. same_image reads.stops;
        spared = unread_spared reads;
        exit = unread_exit reads;
      })

-- ---- what they keep

-- The volume stands for a disk that was read.
pub stands_read : {D : Type 0} (d : Ghosts D) (v : Volume) (old new : D) → OnlyReads d old new → StandsFor d v old → StandsFor d v new
stands_read d v old new reads stands = record {
  size = reads.form.size_stays ∙ stands.size;
  room = rw reads.form.sectors_stay stands.room;
  map_room = rw reads.form.sectors_stay stands.map_room;
  version = stands.version;
  agree = stands.agree;
  image = rw reads.bytes stands.image;
  copies = rw reads.bytes stands.copies;
}

pub ready_if : (result : Result Bool LineFault) (P : Type 0) → P → IfOk result (λ refused. P)
ready_if (Ok refused) P p = p
ready_if (Err fault) P p = tt

pub reading_keeps : {D K : Type 0} {d : Ghosts D} (law : Laws d) (k : Sinks K) (v : Volume) (line : List ℕ) (old new : D) (before after : K) (result : Result Bool LineFault)
    → d.pending old ≡ false → v.fit ≡ true → StandsFor d v old → OnlyReads d old new → IsCaused d k old new before after result → KeepsGoing d k old new before after v v line result
reading_keeps {d = d} law k v line old new before after result quiet fit stands reads caused = record {
  goes = record { form = reads.form; stops = weaker law (λ image. Unit {0}) reads.stops (λ image left. tt); faults = reads.faults };
  ready = ready_if result (IsReady d new v v) (record { fit = fit; stands = stands_read d v old new reads stands; settled = reads.pending ∙ quiet; read_only = refl });
  settled = λ never. reads.pending ∙ quiet;
  reads = λ is. (reads, refl);
  caused = caused;
}

-- ---- causes over lines

pub one_fault : {T : Type 0} (r : Result T LineFault) (e f : LineFault) → r ≡ Err e → r ≡ Err f → e ≡ f
one_fault r e f is other = cc

pub caused_later : {D K S T : Type 0} (d : Ghosts D) (k : Sinks K) (old mid new : D) (first before after : K) (fault : LineFault) (result : Result S LineFault) (other : Result T LineFault)
    → d.faults old ≤ d.faults mid → k.faults first ≤ k.faults before → result ≡ Err fault → other ≡ Err fault → IsCaused d k mid new before after result → IsCaused d k old new first after other
caused_later d k old mid new first before after fault result other disk out was same caused = record {
  later = omega (arith, out, caused.later);
  disk = λ is. let rose = caused.disk (was ∙ ap Err (one_fault other fault LineFault.Disk same is)) in omega (arith, disk, rose);
  out = λ is. let rose = caused.out (was ∙ ap Err (one_fault other fault LineFault.Out same is)) in omega (arith, out, rose);
}

pub caused_ok : {D K T : Type 0} (d : Ghosts D) (k : Sinks K) (old new : D) (before after : K) (value : T) → k.faults before ≤ k.faults after → IsCaused d k old new before after (Ok value)
caused_ok d k old new before after value later = record { later = later; disk = λ is. absurd (cc); out = λ is. absurd (cc) }
