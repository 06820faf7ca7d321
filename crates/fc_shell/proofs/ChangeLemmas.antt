-- Commands that change the tree, as lines of a script.
use Rattle.std.proofs.Common.{◌≡◌, ◌⊎◌, ◌≤◌, ℕ, Bool, true, false, ◌||◌, List, [], ◌∷◌, Option, Some, None, Result, Ok, Err, IfOk, IfErr, inl, inr, ⊎_elim, refl, sym, ap, ap₂, subst, ◌∙◌, arith}
use Rattle.std.specs.Prelude.{if◌then◌else◌}
use Rattle.std.specs.Option.{ForSome, option_map}
use Rattle.fc_device.specs.declared.disk.Disk.{Ghosts}
use Rattle.fc_device.specs.declared.streams.Sink.{Ghosts as Sinks}
use Rattle.fc_device.specs.Calls.{OnlyReads}
use Rattle.fc_device.proofs.DiskLaws.{Laws}
use Rattle.fc_device.proofs.StopLemmas.{one_told, reads_start}
use Rattle.fc_names.specs.declared.name.NameForm.{NameForm}
use Rattle.fc_names.specs.declared.refusal.Refusal.{Refusal}
use Rattle.fc_record.specs.declared.Kind.{Kind}
use Rattle.fc_model.specs.Tree.{Tree}
use Rattle.fc_model.specs.Command.{Command}
use Rattle.fc_model.specs.Answer.{answer, answer_or, changed, first_of, reasons}
use Rattle.fc_image.specs.Layout.{dir_form}
use Rattle.fc_image.specs.Objects.{tree_of}
use Rattle.fc_image.specs.Opening.{Opened, reserved_in}
use Rattle.fc_image.specs.Sound.{AreSound}
use Rattle.fc_image.specs.Stays.{OpensAs}
use Rattle.fc_image.specs.effects.Effect.{Changes, State, tree_in}
use Rattle.fc_image.specs.effects.Short.{short}
use Rattle.fc_script.specs.Lines.{command_of}
use Rattle.fc_script.specs.Texts.{ok_line, refusal_line}
use Rattle.fc_runs.specs.Early.{reply_begun}
use Rattle.fc_runs.specs.ReadLaw.{is_reading, reading_reply}
use Rattle.fc_runs.specs.Run.{Answers, Serves, Step, Takes, is_error, keeps_tree, keeps_tree_or, shortage}
use Rattle.fc_runs.specs.Space.{SparesSpace}
use Rattle.fc_runs.specs.Spares.{Spares}
use Rattle.fc_runs.specs.Stops.{LeftBy, SparesBy, leaves_image_or}
use Rattle.fc_runs.proofs.LeftLemmas.{left_if_spared}
use Rattle.fc_runs.proofs.RepliesLemmas.{changing_reply}
use Rattle.fc_commands.specs.Judgments.{CommandLeaves}
use Rattle.fc_commands.specs.Run.{IsMapIn}
use Rattle.fc_tree.specs.Agree.{Agree, reader_of_nodes}
use Rattle.fc_tree.specs.Nodes.{nodes_of}
use Rattle.fc_tree.specs.Parts.{ArePartsOf}
use Rattle.fc_tree.proofs.WalkedLemmas.{sound_law}
use Rattle.fc_holdings.specs.declared.error.CommandError.{CommandError}
use Rattle.fc_holdings.specs.declared.error.CommandError.TheVariants.{DiskFault, NoMemory, Refused}
use Rattle.fc_holdings.specs.Answers.{AnswersBy, UnlessFault}
use Rattle.fc_commands.specs.Promises.{WritesPlacesOf}
use Rattle.fc_volume.specs.Changing.{refusal_in}
use Rattle.fc_volume.specs.Changing.{IsAsked, KeepsVolume}
use Rattle.fc_volume.specs.Volume.{StandsFor, Volume, parts_of}
use Rattle.fc_shell.specs.declared.answer.LineFault.{LineFault}
use Rattle.fc_shell.specs.Answered.{Answered, IsCaused}
use Rattle.fc_shell.specs.Reads.{is_reading_line}
use Rattle.fc_shell.specs.Changing.{Tells, TellsBy, done_reply}
use Rattle.fc_shell.specs.Line.{IsDone, IsReady, KeepsGoing, LineEnds}
use Rattle.fc_shell.specs.Modes.{mode_of}
use Rattle.fc_shell.specs.Writing.{Wrote, WrotePart}
use Rattle.fc_shell.proofs.AnsweredLemmas.{caused_alone}
use Rattle.fc_shell.proofs.CommandLemmas.{accepted_by, effect_of, locked, no_reason, not_reading, refused_by}
use Rattle.fc_shell.proofs.SpaceLemmas.{spares_law}
use Rattle.fc_shell.proofs.SparesLemmas.{spares_of}
use Rattle.fc_shell.proofs.StepLemmas.{left_ends, one_fault, unbegun_ends}
use Rattle.fc_shell.proofs.WritingLemmas.{wrote_nothing}
use Rattle.fc_runs.proofs.ErrorLemmas.{ok_no_error}
use Rattle.fc_tree.proofs.EndLemmas.{no_twin as apart_names}

-- ---- what the volume answers

pub done_accepted : {T : Type 0} (o : Option Refusal) (value : T) → AnswersBy o (Ok value) → o ≡ None
done_accepted None value answers = refl
done_accepted (Some r) value answers = absurd answers

fault_accepted : (o : Option Refusal) → AnswersBy {T = Unit {0}} o (Err DiskFault) → o ≡ None
fault_accepted None answers = refl
fault_accepted (Some r) answers = absurd answers

pub refusal_is : (o : Option Refusal) (r : Refusal) → AnswersBy {T = Unit {0}} o (Err (Refused r)) → o ≡ Some r
refusal_is None r answers = absurd answers
refusal_is (Some x) r answers = ap Some (sym answers)

-- ---- steps

shortage_as : (v : Opened) (c : Command) (o : Option Refusal) → keeps_tree c ≡ false → short v c ≡ o → shortage false v c ≡ option_map refusal_line o
shortage_as v c o changes is =
    ap₂ (λ (a b : Option Refusal). option_map refusal_line (first_of (a ∷ b ∷ []))) (no_reason v.layout c changes) is ∙ ap (option_map refusal_line) (alone o)
  where
    alone : (o : Option Refusal) → first_of (o ∷ []) ≡ o
    alone None = refl
    alone (Some r) = refl

pub answer_accepted : (t : Tree) (form : NameForm) (read_only : Bool) (c : Command) → first_of (reasons t form read_only c) ≡ None → answer t form read_only c ≡ Ok (changed t c)
unfolding answer
answer_accepted t form read_only c none = ap (answer_or (changed t c)) none

pub answer_refused : (t : Tree) (form : NameForm) (read_only : Bool) (c : Command) (r : Refusal) → first_of (reasons t form read_only c) ≡ Some r → answer t form read_only c ≡ Err r
unfolding answer
answer_refused t form read_only c r is = ap (answer_or (changed t c)) is

module _ (kind : Kind) (read_only : Bool) (s : State) (c : Command) (changes : keeps_tree c ≡ false) where
  by_shortage : (o : Option Refusal) (reply : List ℕ) (next : State) → first_of (reasons (tree_in s) (dir_form s.view.layout) read_only c) ≡ None → short s.view c ≡ o
      → Serves (mode_of kind read_only false) s c (changed (tree_in s) c) (option_map refusal_line o) reply next → Takes (mode_of kind read_only false) s (Ok c) reply next
  by_shortage o reply next accepted short_is serves =
      subst (λ (x : Result Tree Refusal). Answers (mode_of kind read_only false) s c x reply next) (sym (answer_accepted (tree_in s) (dir_form s.view.layout) read_only c accepted))
      (subst (λ (x : Option (List ℕ)). Serves (mode_of kind read_only false) s c (changed (tree_in s) c) x reply next) (sym (shortage_as s.view c o changes short_is)) serves)

  -- An accepted command is a step,
  pub done_takes : (next : State) → refusal_in s.view s.image read_only c ≡ None → Changes kind s next c (changed (tree_in s) c) → Takes (mode_of kind read_only false) s (Ok c) ok_line next
  done_takes next accepted does =
      let both = accepted_by (reasons (tree_in s) (dir_form s.view.layout) read_only c) (short s.view c) accepted in
      by_shortage None ok_line next both.0 both.1 (sym (changing_reply s next c changes), effect_of (mode_of kind read_only false) s next c (changed (tree_in s) c) changes does)

  -- and so is one that is refused.
  pub refused_takes : (r : Refusal) → refusal_in s.view s.image read_only c ≡ Some r → Takes (mode_of kind read_only false) s (Ok c) (refusal_line r) s
  refused_takes r refused = by (refused_by (reasons (tree_in s) (dir_form s.view.layout) read_only c) (short s.view c) r refused)
    where
      by : (first_of (reasons (tree_in s) (dir_form s.view.layout) read_only c) ≡ Some r)
          ⊎ ((first_of (reasons (tree_in s) (dir_form s.view.layout) read_only c) ≡ None) × (short s.view c ≡ Some r)) → Takes (mode_of kind read_only false) s (Ok c) (refusal_line r) s
      by (inl first) =
          subst (λ (x : Result Tree Refusal). Answers (mode_of kind read_only false) s c x (refusal_line r) s) (sym (answer_refused (tree_in s) (dir_form s.view.layout) read_only c r first)) (refl, refl)
      by (inr last) = by_shortage (Some r) (refusal_line r) s last.0 last.1 (refl, refl)

-- ---- what becomes of the line

-- It spares what its command does.
spared_line : (kind : Kind) (s : State) (line : List ℕ) (c : Command) → command_of line ≡ Ok c → (refused : Bool) → leaves_image_or refused (command_of line) ≡ false → keeps_tree_or refused (command_of line) ≡ false
    → (image : List ℕ) → Spares kind s.view c s.image image → LeftBy kind s refused (command_of line) image
spared_line kind s line c is refused leaves keeps image spares =
    left_if_spared (leaves_image_or refused (command_of line)) (keeps_tree_or refused (command_of line)) kind s (SparesBy kind s (command_of line)) image leaves keeps
    (subst (λ (r : Result Command Refusal). SparesBy kind s r image) (sym is) spares)

-- the line breaks off, after a call of the disk failed
fault_ends : {D : Type 0} (d : Ghosts D) (kind : Kind) (read_only : Bool) (s : State) (v : Volume) (line : List ℕ) (c : Command) (old new : D) (before after : Option (List ℕ)) → keeps_tree c ≡ false
    → command_of line ≡ Ok c → after ≡ before → ((image : List ℕ) → d.left_since new (d.moment old) image → Spares kind s.view c s.image image) → ForSome (d.bytes new) (Spares kind s.view c s.image)
    → LineEnds d old new (mode_of kind read_only false) s v line before after (Err LineFault.Disk)
fault_ends d kind read_only s v line c old new before after changes is same spared exit =
    let begun : reply_begun (mode_of kind read_only false) s (command_of line) ≡ [] =
    ap (reply_begun (mode_of kind read_only false) s) is ∙ ap (λ (b : Bool). if b then reading_reply (mode_of kind read_only false) s c else []) (not_reading c changes) in
    let tree : keeps_tree_or false (command_of line) ≡ false = ap (keeps_tree_or false) is ∙ changes in
    let image : leaves_image_or false (command_of line) ≡ false = ap (leaves_image_or false) is ∙ not_reading c changes in
    inr (record {
      part = subst (WrotePart before after) (sym begun) (0, subst (λ (a : Option (List ℕ)). Wrote before a []) (sym same) (wrote_nothing before));
      holds = λ never. absurd (never refl);
      kept = λ keep. absurd (let clash : false ≡ true = sym tree ∙ keep in cc);
      still = λ leaves. absurd (let clash : false ≡ true = sym image ∙ leaves in cc);
      spared = λ at left. spared_line kind s line c is false image tree at (spared at left);
      exit = λ at here. spared_line kind s line c is false image tree at (exit at here);
    })

module _ {D K : Type 0} {d : Ghosts D} (law : Laws d) (k : Sinks K) (kind : Kind) (s : State) (line : List ℕ) (c : Command) (was v : Volume) (old new : D) (before after : K)
    (changes : keeps_tree c ≡ false) (is : command_of line ≡ Ok c) (quiet : d.pending old ≡ false) (told : d.bytes old ≡ Some s.image) (opens : OpensAs s.image kind s.view)
    (parts : ArePartsOf (parts_of was) s.view) (agree : (k : Kind) × Agree k (parts_of was)) (is_map : IsMapIn (parts_of was).layout) where
  -- a step of the command is one of the line
  taken_by : (reply : List ℕ) (next : State) → Takes (mode_of kind was.read_only false) s (Ok c) reply next → Step (mode_of kind was.read_only false) s line reply next
  taken_by reply next takes = subst (λ (r : Result Command Refusal). Takes (mode_of kind was.read_only false) s r reply next) (sym is) takes

  -- What the command leaves of free space and of the map.
  space : (image : List ℕ) → CommandLeaves c (parts_of was) s.image image → SparesSpace s.view.layout s.view c s.image image
  space image leaves = spares_law s.image image kind agree.0 s.view (parts_of was) c opens parts agree.1 is_map leaves

  -- It was done.
  done_ends : (done : Unit {0}) (result : Result Bool LineFault) → IsAsked d c was v old new (Ok done) → Tells k before after (Ok done) result
      → LineEnds d old new (mode_of kind was.read_only false) s v line (k.taken before) (k.taken after) result
  done_ends done result asked tells = by result tells.0 tells.1.no_disk
    where
      accepted : refusal_in s.view s.image was.read_only c ≡ None
      accepted = done_accepted (refusal_in s.view s.image was.read_only c) done (asked.refused s.view s.image (sound_law s.image kind s.view opens) parts)

      other : List ℕ
      other = (asked.changed s.image told).0

      view : Opened
      view = ((asked.changed s.image told).2 kind s.view opens parts).0

      next : State
      next = record { image = other; view = view }

      does : Changes kind s next c (changed (tree_in s) c)
      does = ((asked.changed s.image told).2 kind s.view opens parts).1

      tree : keeps_tree_or (is_error ok_line) (command_of line) ≡ false
      tree = ap (keeps_tree_or (is_error ok_line)) is ∙ ap (λ (b : Bool). b || keeps_tree c) (ok_no_error []) ∙ changes

      image : leaves_image_or (is_error ok_line) (command_of line) ≡ false
      image = ap (leaves_image_or (is_error ok_line)) is ∙ ap (λ (b : Bool). b || is_reading c) (ok_no_error []) ∙ not_reading c changes

      spared : (image : List ℕ) → d.left_since new (d.moment old) image → LeftBy kind s (is_error ok_line) (command_of line) image
      spared at left = spared_line kind s line c is (is_error ok_line) image tree at (spares_of (parts_of was) kind s.view c s.image at opens parts (asked.places.stops.since at left s.image told) (space at (asked.leaves.stops.since at left s.image told)))

      step : IsDone d old new (mode_of kind was.read_only false) s line ok_line next
      step = record {
        step = taken_by ok_line next (done_takes kind was.read_only s c changes next accepted does);
        holds = (asked.changed s.image told).1;
        opens = does.opens.opens;
        kept = λ keep. absurd (let clash : false ≡ true = sym tree ∙ keep in cc);
        still = λ leaves. absurd (let clash : false ≡ true = sym image ∙ leaves in cc);
        spared = spared;
      }

      by : (result : Result Bool LineFault) → Answered ok_line (k.taken before) (k.taken after) result → (result ≡ Err LineFault.Disk → ⊥)
          → LineEnds d old new (mode_of kind was.read_only false) s v line (k.taken before) (k.taken after) result
      by (Ok refused) answered never = record {
        reply = ok_line;
        next = next;
        done = step;
        parts = ((asked.changed s.image told).2 kind s.view opens parts).2;
        wrote = answered.0;
        refused_is = answered.1;
      }
      by (Err fault) answered never = inl (record { reply = ok_line; next = next; done = step; part = answered; no_disk = λ disk. never (ap Err disk) })

  -- It left everything.
  unchanged : (e : CommandError) (result : Result Bool LineFault) → IsAsked d c was v old new (Err e) → (e ≡ DiskFault → ⊥)
      → (OnlyReads d old new → LineEnds d old new (mode_of kind was.read_only false) s was line (k.taken before) (k.taken after) result)
      → LineEnds d old new (mode_of kind was.read_only false) s v line (k.taken before) (k.taken after) result
  unchanged e result asked never ends =
      let same = asked.keeps.unchanged never in
      subst (λ (w : Volume). LineEnds d old new (mode_of kind was.read_only false) s w line (k.taken before) (k.taken after) result) (sym same.0)
      (ends (subst (λ (x : D). OnlyReads d old x) (sym same.1) (reads_start law old)))

  pub change_ends : (done : Result (Unit {0}) CommandError) (result : Result Bool LineFault) → IsAsked d c was v old new done → Tells k before after done result
      → LineEnds d old new (mode_of kind was.read_only false) s v line (k.taken before) (k.taken after) result
  change_ends (Ok done) result asked tells = done_ends done result asked tells
  change_ends (Err (Refused r)) result asked tells =
      let refused : refusal_in s.view s.image was.read_only c ≡ Some r =
      refusal_is (refusal_in s.view s.image was.read_only c) r (asked.refused s.view s.image (sound_law s.image kind s.view opens) parts) in
      unchanged (Refused r) result asked (λ fault. absurd (cc)) (λ reads.
      left_ends law kind false was s line old new (k.taken before) (k.taken after) quiet told opens (refusal_line r) result (taken_by (refusal_line r) s (refused_takes kind was.read_only s c changes r refused)) reads parts tells.1.no_disk tells.0)
  change_ends (Err NoMemory) result asked tells =
      unchanged NoMemory result asked (λ fault. absurd (cc)) (λ reads.
      subst (λ (x : Result Bool LineFault). LineEnds d old new (mode_of kind was.read_only false) s was line (k.taken before) (k.taken after) x) (sym tells.0)
      (unbegun_ends law kind false was s line old new (k.taken before) (k.taken after) quiet told opens LineFault.NoMemory reads (ap k.taken (sym tells.1))))
  change_ends (Err DiskFault) result asked tells =
      subst (λ (x : Result Bool LineFault). LineEnds d old new (mode_of kind was.read_only false) s v line (k.taken before) (k.taken after) x) (sym tells.0)
      (fault_ends d kind was.read_only s v line c old new (k.taken before) (k.taken after) changes is (ap k.taken tells.1)
      (λ at left. spares_of (parts_of was) kind s.view c s.image at opens parts (asked.places.stops.since at left s.image told) (space at (asked.leaves.stops.since at left s.image told)))
      (λ at here. (let exit = asked.places.exit s.image told in
      let leaves = asked.leaves.exit s.image told in
      spares_of (parts_of was) kind s.view c s.image at opens parts (subst (WritesPlacesOf c (parts_of was) s.image) (one_told (sym exit.1 ∙ here)) exit.2)
      (space at (subst (CommandLeaves c (parts_of was) s.image) (one_told (sym leaves.1 ∙ here)) leaves.2)))))

-- ---- what it keeps

module _ {D K T : Type 0} {d : Ghosts D} (law : Laws d) (k : Sinks K) (reply : T → List ℕ) (line : List ℕ) (was v : Volume) (old new : D) (before after : K) where
  -- Unless the disk failed, the volume takes the next line.
  ready : (done : Result T CommandError) → KeepsVolume d old new was v done → UnlessFault done (IsReady d new was v)
  ready done keeps = by done keeps.fit keeps.stands keeps.settled
    where
      takes : v.fit ≡ true → StandsFor d v new → d.pending new ≡ false → IsReady d new was v
      takes fit stands settled = record { fit = fit; stands = stands; settled = settled; read_only = keeps.rights }

      by : (x : Result T CommandError) → UnlessFault x (v.fit ≡ true) → UnlessFault x (StandsFor d v new) → UnlessFault x (d.pending new ≡ false) → UnlessFault x (IsReady d new was v)
      by (Ok value) fit stands settled = takes fit stands settled
      by (Err (Refused r)) fit stands settled = takes fit stands settled
      by (Err NoMemory) fit stands settled = takes fit stands settled
      by (Err DiskFault) fit stands settled = tt

  ready_if : (done : Result T CommandError) (result : Result Bool LineFault) → UnlessFault done (IsReady d new was v) → TellsBy reply k before after done result → IfOk result (λ refused. IsReady d new was v)
  ready_if done (Err fault) takes tells = tt
  ready_if (Ok value) (Ok refused) takes tells = takes
  ready_if (Err (Refused r)) (Ok refused) takes tells = takes
  ready_if (Err NoMemory) (Ok refused) takes tells = takes
  ready_if (Err DiskFault) (Ok refused) takes tells = absurd (let no = tells.0 in cc)

  settled_if : (done : Result T CommandError) (result : Result Bool LineFault) → UnlessFault done (IsReady d new was v) → TellsBy reply k before after done result → (result ≡ Err LineFault.Disk → ⊥)
      → d.pending new ≡ false
  settled_if (Ok value) result takes tells never = takes.settled
  settled_if (Err (Refused r)) result takes tells never = takes.settled
  settled_if (Err NoMemory) result takes tells never = takes.settled
  settled_if (Err DiskFault) result takes tells never = absurd (never tells.0)

  same_faults : after ≡ before → k.faults before ≤ k.faults after
  same_faults same = let e = ap k.faults same in omega (arith, e)

  caused : (done : Result T CommandError) (result : Result Bool LineFault) → KeepsVolume d old new was v done → TellsBy reply k before after done result → IsCaused d k old new before after result
  caused (Ok value) result keeps tells = caused_alone d k old new before after result tells.1
  caused (Err (Refused r)) result keeps tells = caused_alone d k old new before after result tells.1
  caused (Err NoMemory) result keeps tells = record {
    later = same_faults tells.1;
    disk = λ disk. absurd (let clash = one_fault result LineFault.NoMemory LineFault.Disk tells.0 disk in cc);
    out = λ out. absurd (let clash = one_fault result LineFault.NoMemory LineFault.Out tells.0 out in cc);
  }
  caused (Err DiskFault) result keeps tells = record {
    later = same_faults tells.1;
    disk = λ disk. keeps.cause refl;
    out = λ out. absurd (let clash = one_fault result LineFault.Disk LineFault.Out tells.0 out in cc);
  }

  -- It is so over a line that doesn't read, and that leaves everything if the volume may not be changed.
  pub going : (done : Result T CommandError) (result : Result Bool LineFault) → KeepsVolume d old new was v done
      → (was.read_only ≡ true → (v ≡ was) × (new ≡ old)) → is_reading_line (command_of line) ≡ false
      → TellsBy reply k before after done result → KeepsGoing d k old new before after was v line result
  going done result keeps spared writes tells = record {
    goes = record { form = keeps.form; stops = keeps.goes; faults = keeps.faults };
    ready = ready_if done result (ready done keeps) tells;
    settled = settled_if done result (ready done keeps) tells;
    reads = ⊎_elim
        (λ read_only. let same = spared read_only in (subst (λ (x : D). OnlyReads d old x) (sym same.1) (reads_start law old), same.0))
        (λ reads. absurd (let clash : true ≡ false = sym reads ∙ writes in cc));
    caused = caused done result keeps tells;
  }

-- Parts that agree are those of a view, whatever is known of the disk's bytes.
pub agreed_view : (v : Volume) → (kind : Kind) × Agree kind (parts_of v) → (view : Opened) × AreSound view.layout view.listings × ArePartsOf (parts_of v) view
agreed_view v agree =
    let a = agree.1 in (
      record { kind = agree.0; layout = (parts_of v).layout; listings = a.listings },
      record {
        read = reader_of_nodes (nodes_of v.tree);
        reserved = reserved_in agree.0 (parts_of v).layout;
        address = a.root.entry.address;
        size = a.root.entry.len;
        walked = a.walked.walked;
        apart = λ l at. apart_names l.content (a.walked.bodies l at);
      },
      record { layout = refl; nodes = a.walked.held; owners = a.owned },
    )

module _ {D K : Type 0} {d : Ghosts D} (law : Laws d) (k : Sinks K) (line : List ℕ) (c : Command) (was v : Volume) (old new : D) (before after : K)
    (changes : keeps_tree c ≡ false) (is : command_of line ≡ Ok c) (stands : StandsFor d was old) where
  -- A volume that may not be changed isn't.
  spared : (done : Result (Unit {0}) CommandError) → IsAsked d c was v old new done → was.read_only ≡ true → (v ≡ was) × (new ≡ old)
  spared done asked read_only = by done asked.keeps.unchanged answered
    where
      there : (view : Opened) × AreSound view.layout view.listings × ArePartsOf (parts_of was) view
      there = agreed_view was stands.agree

      answered : AnswersBy (refusal_in there.0 [] was.read_only c) done
      answered = asked.refused there.0 [] there.1 there.2

      never : refusal_in there.0 [] was.read_only c ≡ None → ⊥
      never none = locked (tree_of [] there.0.layout there.0.listings) (dir_form there.0.layout) c changes
          (accepted_by (reasons (tree_of [] there.0.layout there.0.listings) (dir_form there.0.layout) true c) (short there.0 c) (subst (λ (b : Bool). refusal_in there.0 [] b c ≡ None) read_only none)).0

      by : (x : Result (Unit {0}) CommandError) → IfErr x (λ error. (error ≡ DiskFault → ⊥) → (v ≡ was) × (new ≡ old)) → AnswersBy (refusal_in there.0 [] was.read_only c) x → (v ≡ was) × (new ≡ old)
      by (Ok value) same answers = absurd (never (done_accepted (refusal_in there.0 [] was.read_only c) value answers))
      by (Err (Refused r)) same answers = same (λ fault. absurd (cc))
      by (Err NoMemory) same answers = same (λ fault. absurd (cc))
      by (Err DiskFault) same answers = absurd (never (fault_accepted (refusal_in there.0 [] was.read_only c) answers))

  pub change_keeps : (done : Result (Unit {0}) CommandError) (result : Result Bool LineFault) → IsAsked d c was v old new done → Tells k before after done result
      → KeepsGoing d k old new before after was v line result
  change_keeps done result asked tells =
      going law k done_reply line was v old new before after done result asked.keeps (spared done asked) (ap is_reading_line is ∙ not_reading c changes) tells
