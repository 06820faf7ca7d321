-- `compact` as a line of a script.
use Rattle.std.proofs.Common.{◌≡◌, ◌⊎◌, ◌≤◌, ℕ, Bool, true, false, ◌||◌, List, [], ◌∷◌, length, Option, Some, None, Result, Ok, Err, inl, inr, refl, sym, ap, ap₂, subst, ◌∙◌}
use Rattle.std.specs.Prelude.{IfErr}
use Rattle.std.specs.Option.{ForSome, option_map}
use Rattle.fc_device.specs.declared.disk.Disk.{Ghosts}
use Rattle.fc_device.specs.declared.streams.Sink.{Ghosts as Sinks}
use Rattle.fc_device.specs.Calls.{OnlyReads}
use Rattle.fc_device.proofs.DiskLaws.{Laws}
use Rattle.fc_device.proofs.StopLemmas.{one_told, reads_start}
use Rattle.fc_names.specs.declared.name.NameForm.{NameForm}
use Rattle.fc_names.specs.declared.refusal.Refusal.{Refusal}
use Rattle.fc_names.specs.declared.refusal.Refusal.TheVariants as refusals
use Rattle.fc_record.specs.declared.DiscRecord.{DiscRecord}
use Rattle.fc_record.specs.declared.Kind.{Kind}
use Rattle.fc_record.specs.declared.Kind.TheVariants.{Boot, OneZone, DiscD, DiscL}
use Rattle.fc_oldmap.specs.OldMap.{OldMapContent, free_space, hole_fault}
use Rattle.fc_oldmap.specs.Holes.{hole_limit}
use Rattle.fc_newmap.specs.Map.{Map, bits_in, hole_runs}
use Rattle.fc_model.specs.Tree.{Tree}
use Rattle.fc_model.specs.Command.{Command}
use Rattle.fc_model.specs.Answer.{answer, first_of}
use Rattle.fc_image.specs.Layout.{Layout, dir_form}
use Rattle.fc_image.specs.Moves.{with_map}
use Rattle.fc_image.specs.Opening.{Opened}
use Rattle.fc_image.specs.Stays.{IsNewKind, IsNewLayout, OpensAs}
use Rattle.fc_image.proofs.FreeLemmas.{parts_of as opened_parts}
use Rattle.fc_image.specs.effects.Effect.{Compacts, State, tree_in}
use Rattle.fc_image.specs.effects.Sharing.{new_ids}
use Rattle.fc_image.specs.safe.SafeEffect.{HasTree, HasTreeBeforeOrAfter}
use Rattle.fc_image.specs.effects.Short.{needed_bits, needed_ids, old_need, short, space_reasons}
use Rattle.fc_script.specs.Lines.{command_of}
use Rattle.fc_script.specs.Texts.{ok_line, refusal_line}
use Rattle.fc_runs.specs.Early.{reply_begun}
use Rattle.fc_runs.specs.Run.{Answers, Mode, Serves, Step, Takes, is_error, keeps_tree_or, layout_reason, shortage, tree_after}
use Rattle.fc_runs.specs.Stops.{LeftBy, leaves_image_or}
use Rattle.fc_tree.specs.Parts.{ArePartsOf}
use Rattle.fc_holdings.specs.declared.error.CommandError.{CommandError}
use Rattle.fc_volume.specs.Volume.{Volume, parts_of}
use Rattle.fc_volume.specs.OldChanging.{IsOldLayout}
use Rattle.fc_shell.specs.declared.answer.LineFault.{LineFault}
use Rattle.fc_shell.specs.Answered.{Answered}
use Rattle.fc_shell.specs.Reads.{is_reading_line}
use Rattle.fc_shell.specs.Changing.{IsCompacting, Tells, done_reply}
use Rattle.fc_runs.specs.Meanwhile.{LeavesTree}
use Rattle.fc_shell.specs.Line.{IsDone, KeepsGoing, LineEnds}
use Rattle.fc_shell.specs.Modes.{SuitsMode, mode_of}
use Rattle.fc_shell.specs.Writing.{Wrote, WrotePart}
use Rattle.fc_shell.proofs.ChangeLemmas.{going}
use Rattle.fc_shell.proofs.ShortageLemmas.{few_holes, new_enough, no_need, old_enough}
use Rattle.fc_shell.proofs.StepLemmas.{left_ends, unbegun_ends}
use Rattle.fc_shell.proofs.WritingLemmas.{wrote_nothing}
use Rattle.fc_laws.proofs.lemmas.takeover.KindLemmas.{old_never}
use Rattle.fc_runs.proofs.ErrorLemmas.{ok_no_error}
use Rattle.fc_runs.proofs.LeftLemmas.{left_if_kept}
use Rattle.fc_runs.proofs.ModeLemmas.{as_either}
use Rattle.fc_runs.proofs.SafeShortageLemmas.{keeping_enough}
use Rattle.fc_shell.proofs.SuitsLemmas.{suits_new}
use Rattle.fc_volume.proofs.StandsLemmas.{new_layout as new_of}
use Rattle.fc_placing.proofs.LowLemmas.{or_true}

-- ---- kinds

-- an image that opens by a new map opens as a kind with one
new_kind : (image : List ℕ) (kind : Kind) (v : Opened) (m : Map) → OpensAs image kind v → v.layout ≡ Layout.New m → (r : DiscRecord) × IsNewKind kind r
new_kind image (Boot r) v m opens layout = (r, refl)
new_kind image (OneZone r) v m opens layout = (r, refl)
new_kind image DiscD v m opens layout =
    let p = opened_parts image DiscD v opens.opened in
    absurd (old_never (free_space image 4) 4 0 (hole_fault image 4) p.0 m p.1.1 (ap (λ (w : Opened). w.layout) p.1.4 ∙ layout))
new_kind image (DiscL units) v m opens layout =
    let p = opened_parts image (DiscL units) v opens.opened in
    absurd (old_never (free_space image 1) 2 0 (hole_fault image 1) p.0 m p.1.1 (ap (λ (w : Opened). w.layout) p.1.4 ∙ layout))

-- ---- when it is refused

-- exactly if the volume may not be changed
pub answer_read_only : (t : Tree) (form : NameForm) → answer t form true Command.Compact ≡ Err refusals.ReadOnly
unfolding answer
answer_read_only t form = refl

answer_writable : (t : Tree) (form : NameForm) → answer t form false Command.Compact ≡ Ok t
unfolding answer
answer_writable t form = refl

-- It takes no space.
space_enough : (v : Opened) (layout : Layout) → ((space : OldMapContent) → layout ≡ Layout.Old space → length space.holes ≤ hole_limit) → first_of (space_reasons layout v Command.Compact) ≡ None
space_enough v (Layout.New m) few = new_enough (length (new_ids m)) (bits_in (hole_runs m)) (needed_ids m v Command.Compact) (needed_bits m v Command.Compact) refl refl
space_enough v (Layout.Old space) few = old_enough space (old_need space 0) (no_need space) (few space refl)

never_short : (image : List ℕ) (kind : Kind) (v : Opened) → OpensAs image kind v → short v Command.Compact ≡ None
unfolding short
never_short image kind v opens = space_enough v v.layout (λ space is. few_holes image kind v space opens is)

no_reason : (layout : Layout) → layout_reason layout Command.Compact ≡ None
no_reason (Layout.New m) = refl
no_reason (Layout.Old space) = refl

no_shortage : (image : List ℕ) (kind : Kind) (v : Opened) → OpensAs image kind v → (safe : Bool) → shortage safe v Command.Compact ≡ None
no_shortage image kind v opens false = ap₂ (λ (a b : Option Refusal). option_map refusal_line (first_of (a ∷ b ∷ []))) (no_reason v.layout) (never_short image kind v opens)
no_shortage image kind v opens true = keeping_enough v Command.Compact (never_short image kind v opens) refl

-- ---- steps

compact_step : (mode : Mode) (s next : State) (line : List ℕ) → mode.read_only ≡ false → command_of line ≡ Ok Command.Compact
    → OpensAs s.image mode.kind s.view → Compacts mode.kind s next → Step mode s line ok_line next
compact_step mode s next line writable is opens compacts =
    let answered : answer (tree_in s) (dir_form s.view.layout) mode.read_only Command.Compact ≡ Ok (tree_in s) =
    ap (λ (b : Bool). answer (tree_in s) (dir_form s.view.layout) b Command.Compact) writable ∙ answer_writable (tree_in s) (dir_form s.view.layout) in
    let enough : shortage mode.safe s.view Command.Compact ≡ None = no_shortage s.image mode.kind s.view opens mode.safe in
    let serves : Serves mode s Command.Compact (tree_in s) (shortage mode.safe s.view Command.Compact) ok_line next =
    subst (λ (o : Option (List ℕ)). Serves mode s Command.Compact (tree_in s) o ok_line next) (sym enough) (refl, compacts) in
    subst (λ (r : Result Command Refusal). Takes mode s r ok_line next) (sym is)
    (subst (λ (a : Result Tree Refusal). Answers mode s Command.Compact a ok_line next) (sym answered) serves)

pub refused_step : (mode : Mode) (s : State) (line : List ℕ) → mode.read_only ≡ true → command_of line ≡ Ok Command.Compact → Step mode s line (refusal_line refusals.ReadOnly) s
refused_step mode s line locked is =
    let answered : answer (tree_in s) (dir_form s.view.layout) mode.read_only Command.Compact ≡ Err refusals.ReadOnly =
    ap (λ (b : Bool). answer (tree_in s) (dir_form s.view.layout) b Command.Compact) locked ∙ answer_read_only (tree_in s) (dir_form s.view.layout) in
    subst (λ (r : Result Command Refusal). Takes mode s r (refusal_line refusals.ReadOnly) s) (sym is)
    (subst (λ (a : Result Tree Refusal). Answers mode s Command.Compact a (refusal_line refusals.ReadOnly) s) (sym answered) (refl, refl))

-- ---- what the volume answers

-- It answers no other refusal.
only_read_only : (layout : Layout) (r : Refusal)
    → (CommandError.Refused r ≡ CommandError.Refused refusals.ReadOnly) ⊎ ((CommandError.Refused r ≡ CommandError.DiskFault) ⊎ ((CommandError.Refused r ≡ CommandError.NoMemory) × IsOldLayout layout))
    → r ≡ refusals.ReadOnly
only_read_only layout r (inl locked) = cc
only_read_only layout r (inr (inl fault)) = absurd (cc)
only_read_only layout r (inr (inr memory)) = let e : CommandError.Refused r ≡ CommandError.NoMemory = memory.0 in absurd (cc)

writable_ok : (read_only : Bool) (done : Unit {0}) → (read_only ≡ true → (let x : Result (Unit {0}) CommandError = Ok done in x) ≡ Err (CommandError.Refused refusals.ReadOnly)) → read_only ≡ false
writable_ok true done refused = absurd (let no = refused refl in cc)
writable_ok false done refused = refl

-- ---- what becomes of the line

module _ {D K : Type 0} {d : Ghosts D} (law : Laws d) (k : Sinks K) (kind : Kind) (safe : Bool) (s : State) (line : List ℕ) (was v : Volume) (old new : D) (before after : K)
    (suits : SuitsMode safe was) (is : command_of line ≡ Ok Command.Compact) (quiet : d.pending old ≡ false) (told : d.bytes old ≡ Some s.image) (opens : OpensAs s.image kind s.view) (parts : ArePartsOf (parts_of was) s.view) where
  abbrev mode : Mode
  mode = mode_of kind was.read_only safe

  -- The safe mode has a new map.
  new_map_of : safe ≡ true → IsNewLayout s.view.layout
  new_map_of e = subst IsNewLayout parts.layout (suits_new (parts_of was).layout (parts_of was).nodes (suits e))

  -- A crash meanwhile leaves the tree, on a new map.
  kept : (done : Result (Unit {0}) CommandError) → IsCompacting d was v old new done → LeavesTree d old new kind s
  kept done asked new_map image left =
      let m = new_of s.view.layout new_map in
      let r = new_kind s.image kind s.view m.0 opens m.1 in
      let stays = (asked.objects m.0 (parts.layout ∙ m.1)).stops.since image left s.image told kind r.0 s.view m.0 r.1 opens m.1 refl in
      record { view = with_map stays.0 s.view; opens = stays.1.opens; tree = stays.1.tree }

  -- So does every exit.
  exits : (done : Result (Unit {0}) CommandError) → IsCompacting d was v old new done → IsNewLayout s.view.layout → ForSome (d.bytes new) (HasTree kind (tree_in s))
  exits done asked new_map image here =
      let m = new_of s.view.layout new_map in
      let r = new_kind s.image kind s.view m.0 opens m.1 in
      let exit = (asked.objects m.0 (parts.layout ∙ m.1)).exit s.image told in
      let stays = exit.2 kind r.0 s.view m.0 r.1 opens m.1 refl in
      subst (HasTree kind (tree_in s)) (one_told (sym exit.1 ∙ here)) (record { view = with_map stays.0 s.view; opens = stays.1.opens; tree = stays.1.tree })

  -- It was done.
  done_ends : (done : Unit {0}) (result : Result Bool LineFault) → IsCompacting d was v old new (Ok done) → Tells k before after (Ok done) result
      → LineEnds d old new mode s v line (k.taken before) (k.taken after) result
  done_ends done result asked tells = by result tells.0 tells.1.no_disk
    where
      next : State
      next = record { image = (asked.compacted s.image told).0; view = ((asked.compacted s.image told).2 kind s.view opens parts).0 }

      compacts : Compacts kind s next
      compacts = ((asked.compacted s.image told).2 kind s.view opens parts).1

      image : leaves_image_or (is_error ok_line) (command_of line) ≡ false
      image = ap (leaves_image_or (is_error ok_line)) is ∙ ap (λ (b : Bool). b || false) (ok_no_error [])

      tree : keeps_tree_or (is_error ok_line) (command_of line) ≡ true
      tree = ap (keeps_tree_or (is_error ok_line)) is ∙ or_true (is_error ok_line)

      step : IsDone d old new mode s line ok_line next
      step = record {
        step = compact_step mode s next line (writable_ok was.read_only done asked.refused.1) is opens compacts;
        holds = (asked.compacted s.image told).1;
        opens = compacts.opens.opens;
        kept = λ keep. kept (Ok done) asked;
        still = λ leaves. absurd (let clash : false ≡ true = sym image ∙ leaves in cc);
        spared = λ at left. as_either (HasTreeBeforeOrAfter kind s (tree_in next)) (LeftBy kind s (is_error ok_line) (command_of line)) at safe (λ e. inl (kept (Ok done) asked (new_map_of e) at left))
            (λ e. left_if_kept _ _ kind s _ at image tree (λ new_map. kept (Ok done) asked new_map at left));
      }

      by : (result : Result Bool LineFault) → Answered ok_line (k.taken before) (k.taken after) result → (result ≡ Err LineFault.Disk → ⊥)
          → LineEnds d old new mode s v line (k.taken before) (k.taken after) result
      by (Ok refused) answered never = record {
        reply = ok_line;
        next = next;
        done = step;
        parts = ((asked.compacted s.image told).2 kind s.view opens parts).2;
        wrote = answered.0;
        refused_is = answered.1;
      }
      by (Err fault) answered never = inl (record { reply = ok_line; next = next; done = step; part = answered; no_disk = λ disk. never (ap Err disk) })

  -- The disk failed.
  fails : IsCompacting d was v old new (Err CommandError.DiskFault) → k.taken after ≡ k.taken before → LineEnds d old new mode s v line (k.taken before) (k.taken after) (Err LineFault.Disk)
  fails asked same =
      let begun : reply_begun mode s (command_of line) ≡ [] = ap (reply_begun mode s) is in
      inr (record {
        part = subst (WrotePart (k.taken before) (k.taken after)) (sym begun) (0, subst (λ (a : Option (List ℕ)). Wrote (k.taken before) a []) (sym same) (wrote_nothing (k.taken before)));
        holds = λ never. absurd (never refl);
        kept = λ keep. kept (Err CommandError.DiskFault) asked;
        still = λ leaves. absurd (let clash : false ≡ true = sym (ap (leaves_image_or false) is) ∙ leaves in cc);
        spared = λ at left. as_either (HasTreeBeforeOrAfter kind s (tree_after mode s (command_of line))) (LeftBy kind s false (command_of line)) at safe (λ e. inl (kept (Err CommandError.DiskFault) asked (new_map_of e) at left))
            (λ e. left_if_kept _ _ kind s _ at (ap (leaves_image_or false) is) (ap (keeps_tree_or false) is) (λ new_map. kept (Err CommandError.DiskFault) asked new_map at left));
        exit = λ at here. as_either (HasTreeBeforeOrAfter kind s (tree_after mode s (command_of line))) (LeftBy kind s false (command_of line)) at safe (λ e. inl (exits (Err CommandError.DiskFault) asked (new_map_of e) at here))
            (λ e. left_if_kept _ _ kind s _ at (ap (leaves_image_or false) is) (ap (keeps_tree_or false) is) (λ new_map. exits (Err CommandError.DiskFault) asked new_map at here));
      })

  -- It left everything.
  unchanged : (e : CommandError) (result : Result Bool LineFault) → IsCompacting d was v old new (Err e) → (e ≡ CommandError.DiskFault → ⊥)
      → (OnlyReads d old new → LineEnds d old new mode s was line (k.taken before) (k.taken after) result)
      → LineEnds d old new mode s v line (k.taken before) (k.taken after) result
  unchanged e result asked never ends =
      let same = asked.keeps.unchanged never in
      subst (λ (w : Volume). LineEnds d old new mode s w line (k.taken before) (k.taken after) result) (sym same.0)
      (ends (subst (λ (x : D). OnlyReads d old x) (sym same.1) (reads_start law old)))

  pub compact_ends : (done : Result (Unit {0}) CommandError) (result : Result Bool LineFault) → IsCompacting d was v old new done → Tells k before after done result
      → LineEnds d old new mode s v line (k.taken before) (k.taken after) result
  compact_ends (Ok done) result asked tells = done_ends done result asked tells
  compact_ends (Err (CommandError.Refused r)) result asked tells =
      let why : r ≡ refusals.ReadOnly = only_read_only (parts_of was).layout r asked.errors in
      let locked : was.read_only ≡ true = asked.refused.0 (ap (λ (x : Refusal). Err (CommandError.Refused x)) why) in
      let step : Step mode s line (refusal_line r) s =
      subst (λ (x : Refusal). Step mode s line (refusal_line x) s) (sym why) (refused_step mode s line locked is) in
      unchanged (CommandError.Refused r) result asked (λ fault. absurd (cc)) (λ reads.
      left_ends law kind safe was s line old new (k.taken before) (k.taken after) quiet told opens (refusal_line r) result step reads parts tells.1.no_disk tells.0)
  compact_ends (Err CommandError.NoMemory) result asked tells =
      unchanged CommandError.NoMemory result asked (λ fault. absurd (cc)) (λ reads.
      subst (λ (x : Result Bool LineFault). LineEnds d old new mode s was line (k.taken before) (k.taken after) x) (sym tells.0)
      (unbegun_ends law kind safe was s line old new (k.taken before) (k.taken after) quiet told opens LineFault.NoMemory reads (ap k.taken (sym tells.1))))
  compact_ends (Err CommandError.DiskFault) result asked tells =
      subst (λ (x : Result Bool LineFault). LineEnds d old new mode s v line (k.taken before) (k.taken after) x) (sym tells.0) (fails asked (ap k.taken tells.1))

-- ---- what it keeps

module _ {D K : Type 0} {d : Ghosts D} (law : Laws d) (k : Sinks K) (line : List ℕ) (was v : Volume) (old new : D) (before after : K) (is : command_of line ≡ Ok Command.Compact) where
  -- A volume that may not be changed isn't.
  spared : (done : Result (Unit {0}) CommandError) → IsCompacting d was v old new done → was.read_only ≡ true → (v ≡ was) × (new ≡ old)
  spared done asked read_only = by done asked.keeps.unchanged (asked.refused.1 read_only)
    where
      by : (x : Result (Unit {0}) CommandError) → IfErr x (λ error. (error ≡ CommandError.DiskFault → ⊥) → (v ≡ was) × (new ≡ old)) → x ≡ Err (CommandError.Refused refusals.ReadOnly) → (v ≡ was) × (new ≡ old)
      by (Ok value) same locked = absurd (cc)
      by (Err error) same locked = same (λ fault. absurd (let e : Err error ≡ Err (CommandError.Refused refusals.ReadOnly) = locked in cc))

  pub compact_keeps : (done : Result (Unit {0}) CommandError) (result : Result Bool LineFault) → IsCompacting d was v old new done → Tells k before after done result
      → KeepsGoing d k old new before after was v line result
  compact_keeps done result asked tells =
      going law k done_reply line was v old new before after done result asked.keeps (spared done asked) (ap is_reading_line is) tells
