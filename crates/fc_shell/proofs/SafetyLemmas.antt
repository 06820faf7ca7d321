-- Commands that change the tree in the safe mode, as lines of a script.
use Rattle.std.proofs.Common.{◌≡◌, ◌⊎◌, ◌≤◌, ℕ, Bool, true, false, ◌||◌, List, [], ◌∷◌, Option, Some, None, Result, Ok, Err, IfOk, IfErr, inl, inr, ⊎_elim, refl, sym, ap, ap₂, subst, ◌∙◌, arith}
use Rattle.std.specs.Prelude.{if◌then◌else◌, codes}
use Rattle.std.specs.Fmt.{digits}
use Rattle.std.specs.Option.{ForSome, option_map}
use Rattle.fc_device.specs.declared.disk.Disk.{Ghosts}
use Rattle.fc_device.specs.declared.streams.Sink.{Ghosts as Sinks}
use Rattle.fc_device.specs.Calls.{OnlyReads}
use Rattle.fc_device.proofs.DiskLaws.{Laws}
use Rattle.fc_device.proofs.StopLemmas.{one_told, reads_start, weaker}
use Rattle.fc_names.specs.declared.refusal.Refusal.{Refusal}
use Rattle.fc_record.specs.declared.Kind.{Kind}
use Rattle.fc_model.specs.Tree.{Tree}
use Rattle.fc_model.specs.Command.{Command}
use Rattle.fc_model.specs.Answer.{answer, changed, first_of, reasons}
use Rattle.fc_image.specs.Layout.{dir_form}
use Rattle.fc_image.specs.Objects.{tree_of}
use Rattle.fc_image.specs.Opening.{Opened}
use Rattle.fc_image.specs.Sound.{AreSound}
use Rattle.fc_image.specs.Stays.{OpensAs}
use Rattle.fc_image.specs.effects.Effect.{State, tree_in}
use Rattle.fc_image.specs.safe.SafeEffect.{HasTree, HasTreeBeforeOrAfter, SafeChanges}
use Rattle.fc_image.specs.safe.SafeShort.{SafeRefusal, safe_refusal}
use Rattle.fc_script.specs.Lines.{command_of}
use Rattle.fc_script.specs.Texts.{ok_line, refusal_line}
use Rattle.fc_runs.specs.Early.{reply_begun}
use Rattle.fc_runs.specs.ReadLaw.{is_reading, reading_reply}
use Rattle.fc_runs.specs.Run.{Answers, Mode, Serves, Step, Takes, is_error, keeps_tree, keeps_tree_or, safe_line, shortage, tree_after, tree_by}
use Rattle.fc_runs.specs.Stops.{LeftBy, LeftByMode, leaves_image_or}
use Rattle.fc_runs.proofs.ErrorLemmas.{ok_no_error}
use Rattle.fc_runs.proofs.RepliesLemmas.{changing_reply}
use Rattle.fc_safe.specs.Suits.{Suits}
use Rattle.fc_safe.specs.declared.error.SafeError.{SafeError}
use Rattle.fc_safe.specs.declared.error.SafeError.TheVariants as errors
use Rattle.fc_safecommands.specs.Answers.{refused_or, safe_refusal_in}
use Rattle.fc_safecommands.specs.JobAnswers.{AnswersSafely, UnlessDiskFault}
use Rattle.fc_holdings.specs.declared.holdings.Holdings.{Holdings}
use Rattle.fc_tree.specs.Agree.{Agree}
use Rattle.fc_tree.specs.Parts.{ArePartsOf}
use Rattle.fc_tree.proofs.WalkedLemmas.{sound_law}
use Rattle.fc_volume.specs.Volume.{StandsFor, Volume, holdings_of, parts_of}
use Rattle.fc_shell.specs.declared.answer.LineFault.{LineFault}
use Rattle.fc_shell.specs.Answered.{Answered, IsCaused}
use Rattle.fc_shell.specs.Changing.{IsAskedSafely, TellsSafely, is_usable_after}
use Rattle.fc_shell.specs.Line.{IsDone, IsReady, KeepsGoing, LineEnds}
use Rattle.fc_shell.specs.Modes.{mode_of}
use Rattle.fc_shell.specs.Reads.{is_reading_line}
use Rattle.fc_shell.specs.Writing.{Wrote, WrotePart}
use Rattle.fc_shell.proofs.AnsweredLemmas.{caused_alone}
use Rattle.fc_shell.proofs.ChangeLemmas.{agreed_view, answer_accepted, answer_refused}
use Rattle.fc_shell.proofs.CommandLemmas.{effect_of, locked, not_reading}
use Rattle.fc_shell.proofs.StepLemmas.{left_ends, one_fault, unbegun_ends}
use Rattle.fc_shell.proofs.WritingLemmas.{wrote_nothing}

-- ---- what is answered

pub done_safely : (o : Option SafeRefusal) (value : Unit {0}) → AnswersSafely o (Ok value) → o ≡ None
done_safely None value answers = refl
done_safely (Some r) value answers = absurd answers

pub fault_safely : (o : Option SafeRefusal) → AnswersSafely {T = Unit {0}} o (Err errors.DiskFault) → o ≡ None
fault_safely None answers = refl
fault_safely (Some r) answers = absurd answers

pub refusal_safely : (o : Option SafeRefusal) (r : Refusal) → AnswersSafely {T = Unit {0}} o (Err (errors.Refused r)) → o ≡ Some (SafeRefusal.Refused r)
refusal_safely None r answers = absurd answers
refusal_safely (Some x) r answers = ap Some answers

pub spread_safely : (o : Option SafeRefusal) (zones : ℕ) → AnswersSafely {T = Unit {0}} o (Err (errors.Spread zones)) → o ≡ Some (SafeRefusal.Spread zones)
spread_safely None zones answers = absurd answers
spread_safely (Some x) zones answers = ap Some answers

-- by the tree, and then by the space
pub both_none : (first : Option Refusal) (later : Option SafeRefusal) → refused_or first later ≡ None → (first ≡ None) × (later ≡ None)
both_none None later none = (refl, none)
both_none (Some r) later none = absurd (cc)

either_some : (first : Option Refusal) (later : Option SafeRefusal) (x : SafeRefusal) → refused_or first later ≡ Some x
    → ((r : Refusal) × (first ≡ Some r) × (x ≡ SafeRefusal.Refused r)) ⊎ ((first ≡ None) × (later ≡ Some x))
either_some None later x is = inr (refl, is)
either_some (Some r) later x is = inl (r, refl, (let e : SafeRefusal.Refused r ≡ x = some_same (SafeRefusal.Refused r) x is in sym e))
  where
    some_same : (a b : SafeRefusal) → Some a ≡ Some b → a ≡ b
    some_same a b e = cc

-- ---- steps

module _ (kind : Kind) (read_only : Bool) (s : State) (c : Command) (changes : keeps_tree c ≡ false) where
  abbrev mode : Mode
  mode = mode_of kind read_only true

  by_shortage : (o : Option SafeRefusal) (reply : List ℕ) (next : State) → first_of (reasons (tree_in s) (dir_form s.view.layout) read_only c) ≡ None → safe_refusal s.view c ≡ o
      → Serves mode s c (changed (tree_in s) c) (option_map safe_line o) reply next → Takes mode s (Ok c) reply next
  by_shortage o reply next accepted short_is serves =
      subst (λ (x : Result Tree Refusal). Answers mode s c x reply next) (sym (answer_accepted (tree_in s) (dir_form s.view.layout) read_only c accepted))
      (subst (λ (x : Option (List ℕ)). Serves mode s c (changed (tree_in s) c) x reply next) (sym (ap (option_map safe_line) short_is)) serves)

  -- An accepted command is a step,
  pub done_takes : (next : State) → safe_refusal_in s.view s.image read_only c ≡ None → SafeChanges kind s next c (changed (tree_in s) c) → Takes mode s (Ok c) ok_line next
  done_takes next accepted does =
      let both = both_none (first_of (reasons (tree_in s) (dir_form s.view.layout) read_only c)) (safe_refusal s.view c) accepted in
      by_shortage None ok_line next both.0 both.1 (sym (changing_reply s next c changes), effect_of mode s next c (changed (tree_in s) c) changes does)

  -- and so is one that is refused.
  pub refused_takes : (x : SafeRefusal) → safe_refusal_in s.view s.image read_only c ≡ Some x → Takes mode s (Ok c) (safe_line x) s
  refused_takes x refused = by (either_some (first_of (reasons (tree_in s) (dir_form s.view.layout) read_only c)) (safe_refusal s.view c) x refused)
    where
      by : ((r : Refusal) × (first_of (reasons (tree_in s) (dir_form s.view.layout) read_only c) ≡ Some r) × (x ≡ SafeRefusal.Refused r))
          ⊎ ((first_of (reasons (tree_in s) (dir_form s.view.layout) read_only c) ≡ None) × (safe_refusal s.view c ≡ Some x)) → Takes mode s (Ok c) (safe_line x) s
      by (inl first) =
          subst (λ (y : SafeRefusal). Takes mode s (Ok c) (safe_line y) s) (sym first.2)
          (subst (λ (a : Result Tree Refusal). Answers mode s c a (refusal_line first.0) s) (sym (answer_refused (tree_in s) (dir_form s.view.layout) read_only c first.0 first.1)) (refl, refl))
      by (inr last) = by_shortage (Some x) (safe_line x) s last.0 last.1 (refl, refl)

  -- the tree after an accepted one
  pub accepted_tree : safe_refusal_in s.view s.image read_only c ≡ None → tree_after mode s (Ok c) ≡ changed (tree_in s) c
  accepted_tree accepted =
      let both = both_none (first_of (reasons (tree_in s) (dir_form s.view.layout) read_only c)) (safe_refusal s.view c) accepted in
      ap₂ (tree_by s) (answer_accepted (tree_in s) (dir_form s.view.layout) read_only c both.0) (ap (option_map safe_line) both.1)

-- ---- the line of too many zones

pub spread_text : (zones : ℕ) → codes "error 17 Spread\n" ≡ safe_line (SafeRefusal.Spread zones)
unfolding digits
spread_text zones = refl

-- ---- a refusal and a lack of memory

of_parts : Holdings → Bool → Bool → Volume
of_parts h ro f = record { space = h.places; copies = h.copies; tree = h.tree; owners = h.owners; read_only = ro; fit = f }

-- They leave everything.
pub left_as_was : {D : Type 0} (d : Ghosts D) (c : Command) (was v : Volume) (old new : D) (fit : was.fit ≡ true) (e : SafeError) → IsAskedSafely d c was v old new (Err e) → (e ≡ errors.DiskFault → ⊥)
    → is_usable_after (Err e) ≡ true → (v ≡ was) × (new ≡ old)
unfolding of_parts
left_as_was d c was v old new fit e asked never usable =
    let same = asked.held.keeps.unchanged never in (
      ap (λ (h : Holdings). of_parts h v.read_only v.fit) same.0 ∙ ap₂ (λ (a b : Bool). of_parts (holdings_of was) a b) asked.rights (asked.fit ∙ usable ∙ sym fit),
      same.1,
    )

-- ---- what becomes of the line

module _ {D K : Type 0} {d : Ghosts D} (law : Laws d) (k : Sinks K) (kind : Kind) (s : State) (line : List ℕ) (c : Command) (was v : Volume) (old new : D) (before after : K)
    (changes : keeps_tree c ≡ false) (is : command_of line ≡ Ok c) (fit : was.fit ≡ true) (quiet : d.pending old ≡ false) (told : d.bytes old ≡ Some s.image) (opens : OpensAs s.image kind s.view)
    (parts : ArePartsOf (parts_of was) s.view) where
  abbrev here : Mode
  here = mode_of kind was.read_only true

  taken_by : (reply : List ℕ) (next : State) → Takes here s (Ok c) reply next → Step here s line reply next
  taken_by reply next takes = subst (λ (r : Result Command Refusal). Takes here s r reply next) (sym is) takes

  -- what the command may leave
  leaves : (answer : Result (Unit {0}) SafeError) → IsAskedSafely d c was v old new answer → (image : List ℕ) → d.left_since new (d.moment old) image → HasTreeBeforeOrAfter kind s (changed (tree_in s) c) image
  leaves answer asked image left = asked.held.tree.stops.since image left s.image told kind s.view opens parts

  exits : (answer : Result (Unit {0}) SafeError) → IsAskedSafely d c was v old new answer → ForSome (d.bytes new) (HasTreeBeforeOrAfter kind s (changed (tree_in s) c))
  exits answer asked image here_is =
      let exit = asked.held.tree.exit s.image told in
      subst (HasTreeBeforeOrAfter kind s (changed (tree_in s) c)) (one_told (sym exit.1 ∙ here_is)) (exit.2 kind s.view opens parts)

  -- It was done.
  done_ends : (done : Unit {0}) (result : Result Bool LineFault) → IsAskedSafely d c was v old new (Ok done) → TellsSafely k before after (Ok done) result
      → LineEnds d old new here s v line (k.taken before) (k.taken after) result
  done_ends done result asked tells = by result tells.0 tells.1.no_disk
    where
      accepted : safe_refusal_in s.view s.image was.read_only c ≡ None
      accepted = done_safely (safe_refusal_in s.view s.image was.read_only c) done (asked.held.refused s.view s.image (sound_law s.image kind s.view opens) parts)

      view : Opened
      view = ((asked.held.changed s.image told).2 kind s.view opens parts).0

      next : State
      next = record { image = (asked.held.changed s.image told).0; view = view }

      does : SafeChanges kind s next c (changed (tree_in s) c)
      does = ((asked.held.changed s.image told).2 kind s.view opens parts).1

      tree : keeps_tree_or (is_error ok_line) (command_of line) ≡ false
      tree = ap (keeps_tree_or (is_error ok_line)) is ∙ ap (λ (b : Bool). b || keeps_tree c) (ok_no_error []) ∙ changes

      image : leaves_image_or (is_error ok_line) (command_of line) ≡ false
      image = ap (leaves_image_or (is_error ok_line)) is ∙ ap (λ (b : Bool). b || is_reading c) (ok_no_error []) ∙ not_reading c changes

      step : IsDone d old new here s line ok_line next
      step = record {
        step = taken_by ok_line next (done_takes kind was.read_only s c changes next accepted does);
        holds = (asked.held.changed s.image told).1;
        opens = does.opens.opens;
        kept = λ keep. absurd (let clash : false ≡ true = sym tree ∙ keep in cc);
        still = λ stays. absurd (let clash : false ≡ true = sym image ∙ stays in cc);
        spared = λ at left. subst (λ (t : Tree). HasTreeBeforeOrAfter kind s t at) (sym does.tree) (leaves (Ok done) asked at left);
      }

      by : (result : Result Bool LineFault) → Answered ok_line (k.taken before) (k.taken after) result → (result ≡ Err LineFault.Disk → ⊥)
          → LineEnds d old new here s v line (k.taken before) (k.taken after) result
      by (Ok refused) answered never = record {
        reply = ok_line;
        next = next;
        done = step;
        parts = ((asked.held.changed s.image told).2 kind s.view opens parts).2;
        wrote = answered.0;
        refused_is = answered.1;
      }
      by (Err fault) answered never = inl (record { reply = ok_line; next = next; done = step; part = answered; no_disk = λ disk. never (ap Err disk) })

  -- The disk failed.
  fails : IsAskedSafely d c was v old new (Err errors.DiskFault) → k.taken after ≡ k.taken before → LineEnds d old new here s v line (k.taken before) (k.taken after) (Err LineFault.Disk)
  fails asked same =
      let begun : reply_begun here s (command_of line) ≡ [] =
      ap (reply_begun here s) is ∙ ap (λ (b : Bool). if b then reading_reply here s c else []) (not_reading c changes) in
      let tree : keeps_tree_or false (command_of line) ≡ false = ap (keeps_tree_or false) is ∙ changes in
      let image : leaves_image_or false (command_of line) ≡ false = ap (leaves_image_or false) is ∙ not_reading c changes in
      let accepted = fault_safely (safe_refusal_in s.view s.image was.read_only c) (asked.held.refused s.view s.image (sound_law s.image kind s.view opens) parts) in
      let turns : tree_after here s (command_of line) ≡ changed (tree_in s) c = ap (tree_after here s) is ∙ accepted_tree kind was.read_only s c changes accepted in
      inr (record {
        part = subst (WrotePart (k.taken before) (k.taken after)) (sym begun) (0, subst (λ (a : Option (List ℕ)). Wrote (k.taken before) a []) (sym same) (wrote_nothing (k.taken before)));
        holds = λ never. absurd (never refl);
        kept = λ keep. absurd (let clash : false ≡ true = sym tree ∙ keep in cc);
        still = λ stays. absurd (let clash : false ≡ true = sym image ∙ stays in cc);
        spared = λ at left. subst (λ (t : Tree). HasTreeBeforeOrAfter kind s t at) (sym turns) (leaves (Err errors.DiskFault) asked at left);
        exit = λ at here_is. subst (λ (t : Tree). HasTreeBeforeOrAfter kind s t at) (sym turns) (exits (Err errors.DiskFault) asked at here_is);
      })

  unchanged : (e : SafeError) (result : Result Bool LineFault) → IsAskedSafely d c was v old new (Err e) → (e ≡ errors.DiskFault → ⊥) → is_usable_after (Err e) ≡ true
      → (OnlyReads d old new → LineEnds d old new here s was line (k.taken before) (k.taken after) result)
      → LineEnds d old new here s v line (k.taken before) (k.taken after) result
  unchanged e result asked never usable ends =
      let same = left_as_was d c was v old new fit e asked never usable in
      subst (λ (w : Volume). LineEnds d old new here s w line (k.taken before) (k.taken after) result) (sym same.0)
      (ends (subst (λ (x : D). OnlyReads d old x) (sym same.1) (reads_start law old)))

  -- a refusal, with its line
  refused_ends : (x : SafeRefusal) (result : Result Bool LineFault) → safe_refusal_in s.view s.image was.read_only c ≡ Some x → OnlyReads d old new → (result ≡ Err LineFault.Disk → ⊥)
      → Answered (safe_line x) (k.taken before) (k.taken after) result → LineEnds d old new here s was line (k.taken before) (k.taken after) result
  refused_ends x result refused reads never answered =
      left_ends law kind true was s line old new (k.taken before) (k.taken after) quiet told opens (safe_line x) result (taken_by (safe_line x) s (refused_takes kind was.read_only s c changes x refused)) reads parts never answered

  pub safe_ends : (answer : Result (Unit {0}) SafeError) (result : Result Bool LineFault) → IsAskedSafely d c was v old new answer → TellsSafely k before after answer result
      → LineEnds d old new here s v line (k.taken before) (k.taken after) result
  safe_ends (Ok done) result asked tells = done_ends done result asked tells
  safe_ends (Err (errors.Refused r)) result asked tells =
      let refused = refusal_safely (safe_refusal_in s.view s.image was.read_only c) r (asked.held.refused s.view s.image (sound_law s.image kind s.view opens) parts) in
      unchanged (errors.Refused r) result asked (λ fault. absurd (cc)) refl (λ reads. refused_ends (SafeRefusal.Refused r) result refused reads tells.1.no_disk tells.0)
  safe_ends (Err (errors.Spread zones)) result asked tells =
      let refused = spread_safely (safe_refusal_in s.view s.image was.read_only c) zones (asked.held.refused s.view s.image (sound_law s.image kind s.view opens) parts) in
      unchanged (errors.Spread zones) result asked (λ fault. absurd (cc)) refl (λ reads. refused_ends (SafeRefusal.Spread zones) result refused reads tells.1.no_disk tells.0)
  safe_ends (Err errors.NoMemory) result asked tells =
      unchanged errors.NoMemory result asked (λ fault. absurd (cc)) refl (λ reads.
      subst (λ (x : Result Bool LineFault). LineEnds d old new here s was line (k.taken before) (k.taken after) x) (sym tells.0)
      (unbegun_ends law kind true was s line old new (k.taken before) (k.taken after) quiet told opens LineFault.NoMemory reads (ap k.taken (sym tells.1))))
  safe_ends (Err errors.DiskFault) result asked tells =
      subst (λ (x : Result Bool LineFault). LineEnds d old new here s v line (k.taken before) (k.taken after) x) (sym tells.0) (fails asked (ap k.taken tells.1))

-- ---- what it keeps

module _ {D K : Type 0} {d : Ghosts D} (law : Laws d) (k : Sinks K) (c : Command) (was v : Volume) (old new : D) (before after : K) (fit : was.fit ≡ true) where
  -- unless the disk failed
  usable_ok : (answer : Result (Unit {0}) SafeError) (refused : Bool) (P : Type 0) → UnlessDiskFault answer P → TellsSafely k before after answer (Ok refused) → P
  usable_ok (Ok value) refused P p tells = p
  usable_ok (Err (errors.Refused r)) refused P p tells = p
  usable_ok (Err (errors.Spread zones)) refused P p tells = p
  usable_ok (Err errors.NoMemory) refused P p tells = p
  usable_ok (Err errors.DiskFault) refused P p tells = absurd (let no = tells.0 in cc)

  usable_fit : (answer : Result (Unit {0}) SafeError) (refused : Bool) → TellsSafely k before after answer (Ok refused) → is_usable_after answer ≡ true
  usable_fit (Ok value) refused tells = refl
  usable_fit (Err (errors.Refused r)) refused tells = refl
  usable_fit (Err (errors.Spread zones)) refused tells = refl
  usable_fit (Err errors.NoMemory) refused tells = refl
  usable_fit (Err errors.DiskFault) refused tells = absurd (let no = tells.0 in cc)

  pub safe_suits : (answer : Result (Unit {0}) SafeError) (result : Result Bool LineFault) → IsAskedSafely d c was v old new answer → TellsSafely k before after answer result
      → IfOk result (λ refused. Suits (parts_of v).layout (parts_of v).nodes)
  safe_suits answer (Err fault) asked tells = tt
  safe_suits answer (Ok refused) asked tells = usable_ok answer refused _ asked.held.keeps.suits tells

  pub ready : (answer : Result (Unit {0}) SafeError) (result : Result Bool LineFault) → IsAskedSafely d c was v old new answer → TellsSafely k before after answer result → IfOk result (λ refused. IsReady d new was v)
  ready answer (Err fault) asked tells = tt
  ready answer (Ok refused) asked tells = record {
    fit = asked.fit ∙ usable_fit answer refused tells;
    stands = usable_ok answer refused _ asked.held.keeps.stands tells;
    settled = usable_ok answer refused _ asked.held.keeps.settled tells;
    read_only = asked.rights;
  }

  pub settled_by : (answer : Result (Unit {0}) SafeError) (result : Result Bool LineFault) → UnlessDiskFault answer (d.pending new ≡ false) → TellsSafely k before after answer result → (result ≡ Err LineFault.Disk → ⊥)
      → d.pending new ≡ false
  settled_by (Ok value) result p tells never = p
  settled_by (Err (errors.Refused r)) result p tells never = p
  settled_by (Err (errors.Spread zones)) result p tells never = p
  settled_by (Err errors.NoMemory) result p tells never = p
  settled_by (Err errors.DiskFault) result p tells never = absurd (never tells.0)

  same_faults : after ≡ before → k.faults before ≤ k.faults after
  same_faults same = let e = ap k.faults same in omega (arith, e)

  pub safe_caused : (answer : Result (Unit {0}) SafeError) (result : Result Bool LineFault) → IsAskedSafely d c was v old new answer → TellsSafely k before after answer result → IsCaused d k old new before after result
  safe_caused (Ok value) result asked tells = caused_alone d k old new before after result tells.1
  safe_caused (Err (errors.Refused r)) result asked tells = caused_alone d k old new before after result tells.1
  safe_caused (Err (errors.Spread zones)) result asked tells = caused_alone d k old new before after result tells.1
  safe_caused (Err errors.NoMemory) result asked tells = record {
    later = same_faults tells.1;
    disk = λ disk. absurd (let clash = one_fault result LineFault.NoMemory LineFault.Disk tells.0 disk in cc);
    out = λ out. absurd (let clash = one_fault result LineFault.NoMemory LineFault.Out tells.0 out in cc);
  }
  safe_caused (Err errors.DiskFault) result asked tells = record {
    later = same_faults tells.1;
    disk = λ disk. asked.held.keeps.cause refl;
    out = λ out. absurd (let clash = one_fault result LineFault.Disk LineFault.Out tells.0 out in cc);
  }

  module _ (line : List ℕ) (changes : keeps_tree c ≡ false) (is : command_of line ≡ Ok c) (stands : StandsFor d was old) where
    -- A volume that may not be changed isn't.
    spared : (answer : Result (Unit {0}) SafeError) → IsAskedSafely d c was v old new answer → was.read_only ≡ true → (v ≡ was) × (new ≡ old)
    spared answer asked read_only = by answer asked answered
      where
        there : (view : Opened) × AreSound view.layout view.listings × ArePartsOf (parts_of was) view
        there = agreed_view was stands.agree

        answered : AnswersSafely (safe_refusal_in there.0 [] was.read_only c) answer
        answered = asked.held.refused there.0 [] there.1 there.2

        never : safe_refusal_in there.0 [] was.read_only c ≡ None → ⊥
        never none = locked (tree_of [] there.0.layout there.0.listings) (dir_form there.0.layout) c changes
            (both_none (first_of (reasons (tree_of [] there.0.layout there.0.listings) (dir_form there.0.layout) true c)) (safe_refusal there.0 c)
            (subst (λ (b : Bool). safe_refusal_in there.0 [] b c ≡ None) read_only none)).0

        by : (x : Result (Unit {0}) SafeError) → IsAskedSafely d c was v old new x → AnswersSafely (safe_refusal_in there.0 [] was.read_only c) x → (v ≡ was) × (new ≡ old)
        by (Ok value) a answers = absurd (never (done_safely (safe_refusal_in there.0 [] was.read_only c) value answers))
        by (Err (errors.Refused r)) a answers = left_as_was d c was v old new fit (errors.Refused r) a (λ fault. absurd (cc)) refl
        by (Err (errors.Spread zones)) a answers = left_as_was d c was v old new fit (errors.Spread zones) a (λ fault. absurd (cc)) refl
        by (Err errors.NoMemory) a answers = left_as_was d c was v old new fit errors.NoMemory a (λ fault. absurd (cc)) refl
        by (Err errors.DiskFault) a answers = absurd (never (fault_safely (safe_refusal_in there.0 [] was.read_only c) answers))

    pub safe_keeps : (answer : Result (Unit {0}) SafeError) (result : Result Bool LineFault) → IsAskedSafely d c was v old new answer → TellsSafely k before after answer result
        → KeepsGoing d k old new before after was v line result
    safe_keeps answer result asked tells = record {
      goes = record { form = asked.held.keeps.form; stops = weaker law (λ image. Unit {0}) asked.held.tree.stops (λ image left. tt); faults = asked.held.keeps.faults };
      ready = ready answer result asked tells;
      settled = settled_by answer result asked.held.keeps.settled tells;
      reads = ⊎_elim
          (λ read_only. let same = spared answer asked read_only in (subst (λ (x : D). OnlyReads d old x) (sym same.1) (reads_start law old), same.0))
          (λ reads. absurd (let clash : true ≡ false = sym reads ∙ (ap is_reading_line is ∙ not_reading c changes) in cc));
      caused = safe_caused answer result asked tells;
    }
