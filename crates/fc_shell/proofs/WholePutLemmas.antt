-- A `put` in the safe mode: what becomes of its line, if all bytes of its file were taken.
use Rattle.std.proofs.Common.{◌≡◌, ◌≤◌, inl, inr, ⊎_elim, ℕ, ◌+◌, Bool, true, false, List, [], ◌∷◌, ◌++◌, All, length, Option, Some, None, option_map, Result, Ok, Err, IfOk, refl, sym, ap, subst, ◌∙◌, arith, append_assoc}
use Rattle.std.specs.Option.{ForSome, unwrap_or}
use Rattle.std.specs.FinMap.{get}
use Rattle.std.proofs.lemmas.List.Elements.{All-cons, All-nil}
use Rattle.fc_device.specs.declared.disk.Disk.{Ghosts}
use Rattle.fc_device.specs.declared.streams.Sink.{Ghosts as Sinks}
use Rattle.fc_device.specs.Calls.{OnlyReads}
use Rattle.fc_device.proofs.DiskLaws.{Laws}
use Rattle.fc_device.proofs.StopLemmas.{one_told, reads_start, weaker}
use Rattle.fc_host.specs.declared.host.Host.{Ghosts as Hosts}
use Rattle.fc_host.specs.Answers.{AnswersCalls, joined, taken_from}
use Rattle.fc_host.specs.Asked.{Asked, taken_by}
use Rattle.fc_host.specs.Files.{Files, bytes_of, size_of}
use Rattle.fc_host.specs.Looks.{IsLook}
use Rattle.fc_host.specs.declared.asks.HostCall.TheVariants as calls
use Rattle.fc_host.proofs.AnswerLemmas.{file_answered}
use Rattle.fc_names.specs.declared.refusal.Refusal.{Refusal}
use Rattle.fc_names.specs.Names.{Path}
use Rattle.fc_record.specs.declared.Kind.{Kind}
use Rattle.fc_model.specs.Tree.{Tree}
use Rattle.fc_model.specs.Command.{Command}
use Rattle.fc_model.specs.Answer.{changed, first_of, reasons}
use Rattle.fc_image.specs.Layout.{dir_form}
use Rattle.fc_image.specs.Opening.{Opened}
use Rattle.fc_image.specs.Stays.{OpensAs}
use Rattle.fc_image.specs.effects.Effect.{State, tree_in}
use Rattle.fc_image.specs.safe.SafeEffect.{HasTreeBeforeOrAfter, SafeChanges}
use Rattle.fc_image.specs.safe.SafeShort.{SafeRefusal}
use Rattle.fc_script.specs.HostLines.{HostLine}
use Rattle.fc_script.specs.Texts.{ok_line}
use Rattle.fc_runs.specs.AskedRun.{AskedTakes}
use Rattle.fc_runs.specs.HostPromises.{IsTreeAfter}
use Rattle.fc_runs.specs.HostRun.{longest_file}
use Rattle.fc_runs.specs.HostServing.{IsMoved}
use Rattle.fc_runs.specs.Promises.{StaysBy, spares_disk}
use Rattle.fc_runs.specs.Run.{Mode, Takes, is_error, safe_line, tree_after}
use Rattle.fc_runs.proofs.ErrorLemmas.{ok_no_error}
use Rattle.fc_safe.specs.declared.error.SafeError.{SafeError}
use Rattle.fc_safe.specs.declared.error.SafeError.TheVariants as errors
use Rattle.fc_safecommands.specs.Answers.{safe_refusal_in}
use Rattle.fc_tree.specs.Parts.{ArePartsOf}
use Rattle.fc_tree.proofs.WalkedLemmas.{sound_law}
use Rattle.fc_volume.specs.Volume.{Volume, parts_of}
use Rattle.fc_shell.specs.declared.answer.LineFault.{LineFault}
use Rattle.fc_shell.specs.declared.moving.MoveFault.{MoveFault}
use Rattle.fc_shell.specs.Answered.{Answered}
use Rattle.fc_shell.specs.Changing.{IsAskedSafely, TellsSafely}
use Rattle.fc_shell.specs.Line.{IsReady}
use Rattle.fc_shell.specs.Modes.{mode_of}
use Rattle.fc_shell.specs.MoveFaults.{moved_result}
use Rattle.fc_shell.specs.Moving.{AreCaused, KeepsServing, LineMoves, move_cause}
use Rattle.fc_shell.specs.Writing.{Wrote}
use Rattle.fc_shell.proofs.MovingLemmas.{caused_moved, cuts_move, disk_line, told_moves}
use Rattle.fc_shell.proofs.PuttingLemmas.{asked_so, begun, broke_same, not_long}
use Rattle.fc_shell.proofs.SafetyLemmas.{accepted_tree, done_safely, done_takes, fault_safely, left_as_was, ready, refusal_safely, refused_takes, safe_caused, settled_by, spread_safely}
use Rattle.fc_shell.proofs.WritingLemmas.{wrote_nothing}

-- ---- what was asked

pub taken_looks : (name : List ℕ) (at : ℕ) (pieces : List (List ℕ)) → All (IsLook name) (taken_from name at pieces)
taken_looks name at [] = All-nil (IsLook name)
taken_looks name at (piece ∷ pieces) = All-cons (IsLook name) (name, calls.Take at, piece) (taken_from name (at + length piece) pieces) (refl, refl) (taken_looks name (at + length piece) pieces)

taken_joined : (name : List ℕ) (at : ℕ) (pieces : List (List ℕ)) → taken_by (taken_from name at pieces) ≡ joined pieces
taken_joined name at [] = refl
taken_joined name at (piece ∷ pieces) = ap (λ (l : List ℕ). piece ++ l) (taken_joined name (at + length piece) pieces)

-- The bytes of a file that has so many are there.
file_there : (o : Option (List ℕ)) (n : ℕ) (bytes : List ℕ) → Some n ≡ option_map length o → bytes ≡ unwrap_or o [] → o ≡ Some bytes
file_there None n bytes size is = absurd (cc)
file_there (Some b) n bytes size is = ap Some (sym is)

-- ---- the line

module _ {D H K : Type 0} {d : Ghosts D} (law : Laws d) (h : Hosts H) (k : Sinks K) (kind : Kind) (was : Volume) (s : State) (name : List ℕ) (path : Path) (load exec : ℕ) (old : D)
    (quiet : d.pending old ≡ false) (told : d.bytes old ≡ Some s.image) (opens : OpensAs s.image kind s.view) (fit : was.fit ≡ true)
    (accepted : first_of (reasons (tree_in s) (dir_form s.view.layout) was.read_only (Command.Save path load exec [])) ≡ None) (parts : ArePartsOf (parts_of was) s.view)
    (len : ℕ) (few : len ≤ longest_file) (host mid end : H) (measured : h.asked mid ≡ h.asked host ++ (name, calls.Size (Some len), []) ∷ [])
    (size : ForSome (h.files host) (λ held. Some len ≡ size_of held name)) (same_files : h.files mid ≡ h.files host) where
  abbrev mode : Mode
  mode = mode_of kind was.read_only true

  abbrev save : List ℕ → Command
  save = Command.Save path load exec

  abbrev line : Result HostLine Refusal
  line = Ok (HostLine.Put name path load exec)

  abbrev ask : Asked
  ask = (name, calls.Size (Some len), [])

  pub asked_all : (more : List Asked) → h.asked end ≡ h.asked mid ++ more → h.asked end ≡ h.asked host ++ ask ∷ more
  asked_all more is = is ∙ ap (λ (l : List Asked). l ++ more) measured ∙ append_assoc (h.asked host) (ask ∷ []) more

  -- It broke off before the volume was asked.
  pub broke_taking : (before after : Option (List ℕ)) (fault : MoveFault) (more : List Asked) → after ≡ before → All (IsLook name) more → h.files end ≡ h.files mid
      → LineMoves d old old mode s was line before after (ask ∷ more) (h.files host) (h.files end) (Err fault)
  broke_taking before after fault more same looks kept =
      subst (λ (o : Option Files). LineMoves d old old mode s was line before after (ask ∷ more) (h.files host) o (Err fault)) (sym (kept ∙ same_files))
      (broke_same law kind true was s name path load exec old quiet told opens accepted old before after was fault (ask ∷ more) (h.files host) (reads_start law old) same
      (All-cons (IsLook name) ask more (refl, refl) looks))

  -- All bytes were taken.
  module _ (pieces : List (List ℕ)) (bytes : List ℕ) (bytes_are : joined pieces ≡ bytes) (long : length bytes ≡ len) (told_bytes : ForSome (h.files mid) (λ files. bytes ≡ bytes_of files name))
      (kept_files : h.files end ≡ h.files mid) (v : Volume) (new : D) (before after : K) where
    abbrev asked : List Asked
    asked = ask ∷ taken_from name 0 pieces

    looks : All (IsLook name) asked
    looks = All-cons (IsLook name) ask (taken_from name 0 pieces) (refl, refl) (taken_looks name 0 pieces)

    files_stay : h.files end ≡ h.files host
    files_stay = kept_files ∙ same_files

    own : ForSome (h.files host) (λ files. bytes ≡ bytes_of files name)
    own = subst (λ (o : Option Files). ForSome o (λ files. bytes ≡ bytes_of files name)) same_files told_bytes

    step_of : (reply : List ℕ) (next : State) → Takes mode s (Ok (save bytes)) reply next → AskedTakes mode s asked line reply next
    step_of reply next takes =
        asked_so law kind true was s name path load exec old quiet told opens accepted asked reply next
        (inr (
          len,
          taken_from name 0 pieces,
          refl,
          inr (
            not_long law kind true was s name path load exec old quiet told opens accepted len few,
            inl (pieces, refl, ap length bytes_are ∙ long, subst (λ (bs : List ℕ). Takes mode s (Ok (save bs)) reply next) (sym bytes_are) takes),
          ),
        ))

    answers : AnswersCalls (h.files host) asked (h.files host)
    answers = (h.files host, (size, refl), file_answered (h.files host) name bytes pieces bytes_are own)

    -- what the save may leave
    leaves : (answer : Result (Unit {0}) SafeError) → IsAskedSafely d (save bytes) was v old new answer → (image : List ℕ) → d.left_since new (d.moment old) image → HasTreeBeforeOrAfter kind s (changed (tree_in s) (save bytes)) image
    leaves answer a image left = a.held.tree.stops.since image left s.image told kind s.view opens parts

    exits : (answer : Result (Unit {0}) SafeError) → IsAskedSafely d (save bytes) was v old new answer → ForSome (d.bytes new) (HasTreeBeforeOrAfter kind s (changed (tree_in s) (save bytes)))
    exits answer a image here =
        let exit = a.held.tree.exit s.image told in
        subst (HasTreeBeforeOrAfter kind s (changed (tree_in s) (save bytes))) (one_told (sym exit.1 ∙ here)) (exit.2 kind s.view opens parts)

    clash : (b : Bool) → b ≡ false → b ≡ true → ⊥
    clash b isnt is = let e : false ≡ true = sym isnt ∙ is in cc

    no_error : is_error ok_line ≡ false
    no_error = ok_no_error []

    -- It was saved.
    done_moves : (done : Unit {0}) (r : Result Bool LineFault) → IsAskedSafely d (save bytes) was v old new (Ok done) → (r ≡ Err LineFault.Disk → ⊥) → Answered ok_line (k.taken before) (k.taken after) r
        → LineMoves d old new mode s v line (k.taken before) (k.taken after) asked (h.files host) (h.files host) (moved_result r)
    done_moves done r a never answered = by r never answered
      where
        all : safe_refusal_in s.view s.image was.read_only (save bytes) ≡ None
        all = done_safely (safe_refusal_in s.view s.image was.read_only (save bytes)) done (a.held.refused s.view s.image (sound_law s.image kind s.view opens) parts)

        changes : (other : List ℕ) × (d.bytes new ≡ Some other) × ((view : Opened) × SafeChanges kind s (record { image = other; view = view }) (save bytes) (changed (tree_in s) (save bytes)) × ArePartsOf (parts_of v) view)
        changes = let c = a.held.changed s.image told in (c.0, c.1, c.2 kind s.view opens parts)

        next : State
        next = record { image = changes.0; view = changes.2.0 }

        moved : IsMoved d old new mode s line ok_line asked (h.files host) (h.files host) next
        moved = record {
          step = step_of ok_line next (done_takes kind was.read_only s (save bytes) refl next all changes.2.1);
          answered = answers;
          holds = changes.1;
          opens = changes.2.1.opens.opens;
          kept = λ keeps. absurd (clash (is_error ok_line) no_error keeps);
          still = λ stays. absurd (clash (is_error ok_line) no_error stays);
          spared = λ image since. subst (λ (t : Tree). HasTreeBeforeOrAfter kind s t image) (sym changes.2.1.tree) (leaves (Ok done) a image since);
        }

        by : (r : Result Bool LineFault) → (r ≡ Err LineFault.Disk → ⊥) → Answered ok_line (k.taken before) (k.taken after) r
            → LineMoves d old new mode s v line (k.taken before) (k.taken after) asked (h.files host) (h.files host) (moved_result r)
        by (Ok refused) never answered = record { reply = ok_line; next = next; moved = moved; parts = changes.2.2; wrote = answered.0; refused_is = answered.1 }
        by (Err fault) never answered = inl (record { reply = ok_line; next = next; moved = moved; part = answered; cuts = cuts_move fault (λ disk. never (ap Err disk)) })

    -- The save was refused.
    refused_moves : (e : SafeError) (x : SafeRefusal) (r : Result Bool LineFault) → IsAskedSafely d (save bytes) was v old new (Err e) → (v ≡ was) × (new ≡ old)
        → safe_refusal_in s.view s.image was.read_only (save bytes) ≡ Some x → (r ≡ Err LineFault.Disk → ⊥) → Answered (safe_line x) (k.taken before) (k.taken after) r
        → LineMoves d old new mode s v line (k.taken before) (k.taken after) asked (h.files host) (h.files host) (moved_result r)
    refused_moves e x r a same refused never answered =
        subst (λ (w : Volume). LineMoves d old new mode s w line (k.taken before) (k.taken after) asked (h.files host) (h.files host) (moved_result r)) (sym same.0)
        (told_moves law kind true was s line old new (k.taken before) (k.taken after) quiet told opens (subst (λ (y : D). OnlyReads d old y) (sym same.1) (reads_start law old))
        (safe_line x) asked (h.files host) (h.files host) (step_of (safe_line x) s (refused_takes kind was.read_only s (save bytes) refl x refused)) answers parts r never answered)

    -- The disk failed.
    fails : IsAskedSafely d (save bytes) was v old new (Err errors.DiskFault) → after ≡ before
        → LineMoves d old new mode s v line (k.taken before) (k.taken after) asked (h.files host) (h.files host) (Err MoveFault.Disk)
    fails a same = inr (record {
      part = (0, subst (λ (x : K). Wrote (k.taken before) (k.taken x) []) (sym same) (wrote_nothing (k.taken before)));
      broke = record {
        begun = begun law kind true was s name path load exec old quiet told opens accepted asked looks;
        files_left = λ held known. (held, known, inl refl);
        back = λ first other is. refl;
        holds = λ spares. absurd (let clash : false ≡ true = spares in cc);
        kept = λ keeps. absurd (let clash : false ≡ true = keeps in cc);
        still = λ stays. absurd (let clash : false ≡ true = stays in cc);
        spared = λ image since. (changed (tree_in s) (save bytes), after_is, leaves (Err errors.DiskFault) a image since);
        exit = λ image here. (changed (tree_in s) (save bytes), after_is, exits (Err errors.DiskFault) a image here);
      };
    })
      where
        all : safe_refusal_in s.view s.image was.read_only (save bytes) ≡ None
        all = fault_safely (safe_refusal_in s.view s.image was.read_only (save bytes)) (a.held.refused s.view s.image (sound_law s.image kind s.view opens) parts)

        whole : taken_by asked ≡ bytes
        whole = taken_joined name 0 pieces ∙ bytes_are

        after_is : IsTreeAfter mode s line asked (h.files host) (changed (tree_in s) (save bytes))
        after_is = inr (
          subst (λ (n : ℕ). n ≤ longest_file) (sym (ap length whole ∙ long)) few,
          (λ held known. file_there (get held name) len (taken_by asked) (size held known) (whole ∙ own held known)),
          sym (ap (λ (bs : List ℕ). tree_after mode s (Ok (save bs))) whole ∙ accepted_tree kind was.read_only s (save bytes) refl all),
        )

    -- Memory was short.
    short : IsAskedSafely d (save bytes) was v old new (Err errors.NoMemory) → after ≡ before
        → LineMoves d old new mode s v line (k.taken before) (k.taken after) asked (h.files host) (h.files host) (Err MoveFault.NoMemory)
    short a same =
        let left = left_as_was d (save bytes) was v old new fit errors.NoMemory a (λ fault. absurd (cc)) refl in
        subst (λ (w : Volume). LineMoves d old new mode s w line (k.taken before) (k.taken after) asked (h.files host) (h.files host) (Err MoveFault.NoMemory)) (sym left.0)
        (broke_same law kind true was s name path load exec old quiet told opens accepted new (k.taken before) (k.taken after) was MoveFault.NoMemory asked (h.files host)
        (subst (λ (y : D). OnlyReads d old y) (sym left.1) (reads_start law old)) (ap k.taken same) looks)

    by_answer : (answer : Result (Unit {0}) SafeError) (r : Result Bool LineFault) → IsAskedSafely d (save bytes) was v old new answer → TellsSafely k before after answer r
        → LineMoves d old new mode s v line (k.taken before) (k.taken after) asked (h.files host) (h.files host) (moved_result r)
    by_answer (Ok done) r a tells = done_moves done r a tells.1.no_disk tells.0
    by_answer (Err (errors.Refused x)) r a tells =
        refused_moves (errors.Refused x) (SafeRefusal.Refused x) r a (left_as_was d (save bytes) was v old new fit (errors.Refused x) a (λ fault. absurd (cc)) refl)
        (refusal_safely (safe_refusal_in s.view s.image was.read_only (save bytes)) x (a.held.refused s.view s.image (sound_law s.image kind s.view opens) parts)) tells.1.no_disk tells.0
    by_answer (Err (errors.Spread zones)) r a tells =
        refused_moves (errors.Spread zones) (SafeRefusal.Spread zones) r a (left_as_was d (save bytes) was v old new fit (errors.Spread zones) a (λ fault. absurd (cc)) refl)
        (spread_safely (safe_refusal_in s.view s.image was.read_only (save bytes)) zones (a.held.refused s.view s.image (sound_law s.image kind s.view opens) parts)) tells.1.no_disk tells.0
    by_answer (Err errors.NoMemory) r a tells =
        subst (λ (x : Result Bool LineFault). LineMoves d old new mode s v line (k.taken before) (k.taken after) asked (h.files host) (h.files host) (moved_result x)) (sym tells.0) (short a tells.1)
    by_answer (Err errors.DiskFault) r a tells =
        subst (λ (x : Result Bool LineFault). LineMoves d old new mode s v line (k.taken before) (k.taken after) asked (h.files host) (h.files host) (moved_result x)) (sym tells.0) (fails a tells.1)

    -- what becomes of the line, by what the volume answered
    pub whole_moves : (answer : Result (Unit {0}) SafeError) (r : Result Bool LineFault) → IsAskedSafely d (save bytes) was v old new answer → TellsSafely k before after answer r
        → LineMoves d old new mode s v line (k.taken before) (k.taken after) asked (h.files host) (h.files end) (moved_result r)
    whole_moves answer r a tells =
        subst (λ (o : Option Files). LineMoves d old new mode s v line (k.taken before) (k.taken after) asked (h.files host) o (moved_result r)) (sym files_stay) (by_answer answer r a tells)

-- ---- what it keeps

module _ {D K H : Type 0} {d : Ghosts D} (law : Laws d) (k : Sinks K) (h : Hosts H) (name : List ℕ) (path : Path) (load exec : ℕ) (bytes : List ℕ) (was v : Volume) (old new : D) (before after : K) (fit : was.fit ≡ true) where
  pub whole_serves : (was.read_only ≡ true → ⊥) → (answer : Result (Unit {0}) SafeError) (r : Result Bool LineFault) → IsAskedSafely d (Command.Save path load exec bytes) was v old new answer → TellsSafely k before after answer r
      → KeepsServing d old new was v (Ok (HostLine.Put name path load exec)) (moved_result r)
  whole_serves writable answer r a tells = record {
    goes = record { form = a.held.keeps.form; stops = weaker law (λ image. Unit {0}) a.held.tree.stops (λ image left. tt); faults = a.held.keeps.faults };
    ready = by r (ready law k (Command.Save path load exec bytes) was v old new before after fit answer r a tells);
    settled = λ never. settled_by law k (Command.Save path load exec bytes) was v old new before after fit answer r a.held.keeps.settled tells (λ is. never (ap moved_result is));
    reads = ⊎_elim (λ locked. absurd (writable locked)) (λ leaves. absurd (let clash : false ≡ true = leaves in cc));
  }
    where
      by : (r : Result Bool LineFault) → IfOk r (λ refused. IsReady d new was v) → IfOk (moved_result r) (λ refused. IsReady d new was v)
      by (Ok refused) x = x
      by (Err fault) x = tt

  pub whole_caused : (start end : H) → h.faults start ≤ h.faults end → (answer : Result (Unit {0}) SafeError) (r : Result Bool LineFault) → IsAskedSafely d (Command.Save path load exec bytes) was v old new answer
      → TellsSafely k before after answer r → AreCaused d k h old new before after start end (moved_result r)
  whole_caused start end later answer r a tells =
      let caused = caused_moved d k h old new before after start r (safe_caused law k (Command.Save path load exec bytes) was v old new before after fit answer r a tells) in
      record { later = caused.later; host_later = later; disk = caused.disk; out = caused.out; host = λ is. let rose = caused.host is in omega (arith, rose, later) }
