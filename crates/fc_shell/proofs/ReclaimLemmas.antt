-- `reclaim` as a line of a script.
use Rattle.std.proofs.Common.{◌≡◌, ◌⊎◌, ℕ, Bool, true, false, ◌||◌, List, [], ◌∷◌, ◌++◌, length, Option, Some, None, Result, Ok, Err, inl, inr, refl, sym, ap, ap₂, subst, ◌∙◌, append_assoc}
use Rattle.std.specs.Prelude.{IfErr, codes}
use Rattle.std.specs.Fmt.{decimal}
use Rattle.std.specs.Option.{ForSome, option_map}
use Rattle.fc_device.specs.declared.disk.Disk.{Ghosts}
use Rattle.fc_device.specs.declared.streams.Sink.{Ghosts as Sinks}
use Rattle.fc_device.specs.Calls.{OnlyReads}
use Rattle.fc_device.proofs.DiskLaws.{Laws}
use Rattle.fc_device.proofs.StopLemmas.{one_told, reads_start}
use Rattle.fc_names.specs.declared.name.NameForm.{NameForm}
use Rattle.fc_names.specs.declared.refusal.Refusal.{Refusal}
use Rattle.fc_names.specs.declared.refusal.Refusal.TheVariants as refusals
use Rattle.fc_record.specs.declared.Kind.{Kind}
use Rattle.fc_oldmap.specs.OldMap.{OldMapContent}
use Rattle.fc_newmap.specs.Map.{Map, bits_in, hole_runs}
use Rattle.fc_model.specs.Tree.{Tree}
use Rattle.fc_model.specs.Command.{Command}
use Rattle.fc_model.specs.Answer.{answer, first_of}
use Rattle.fc_image.specs.Layout.{Layout, dir_form}
use Rattle.fc_image.specs.Opening.{Opened}
use Rattle.fc_image.specs.Stays.{IsNewLayout, OpensAs}
use Rattle.fc_image.specs.effects.Effect.{State, tree_in}
use Rattle.fc_image.specs.effects.Sharing.{new_ids}
use Rattle.fc_image.specs.effects.Short.{needed_bits, needed_ids, short, space_reasons}
use Rattle.fc_image.specs.safe.Reclaim.{Reclaims, reclaimed_bytes}
use Rattle.fc_image.specs.safe.SafeEffect.{HasTree, HasTreeBeforeOrAfter}
use Rattle.fc_script.specs.Lines.{command_of}
use Rattle.fc_script.specs.Texts.{ok_line, reclaimed_line, refusal_line}
use Rattle.fc_runs.specs.Early.{reply_begun}
use Rattle.fc_runs.specs.Run.{Answers, Mode, Serves, Step, Takes, is_error, keeps_tree_or, layout_reason, shortage, tree_after}
use Rattle.fc_runs.specs.Stops.{LeftBy, leaves_image_or}
use Rattle.fc_tree.specs.Parts.{ArePartsOf}
use Rattle.fc_holdings.specs.declared.error.CommandError.{CommandError}
use Rattle.fc_volume.specs.Volume.{Volume, parts_of}
use Rattle.fc_volume.specs.Reclaiming.{reclaim_refusal}
use Rattle.fc_shell.specs.declared.answer.LineFault.{LineFault}
use Rattle.fc_shell.specs.Answered.{Answered}
use Rattle.fc_shell.specs.Changing.{IsReclaiming, TellsBy, reclaimed_reply}
use Rattle.fc_runs.specs.Meanwhile.{LeavesTree}
use Rattle.fc_shell.specs.Line.{IsDone, KeepsGoing, LineEnds}
use Rattle.fc_shell.specs.Modes.{SuitsMode, mode_of}
use Rattle.fc_shell.specs.Reads.{is_reading_line}
use Rattle.fc_shell.specs.Writing.{Wrote, WrotePart}
use Rattle.fc_shell.proofs.ChangeLemmas.{going}
use Rattle.fc_placing.proofs.LowLemmas.{or_true}
use Rattle.fc_shell.proofs.ShortageLemmas.{new_enough}
use Rattle.fc_shell.proofs.StepLemmas.{left_ends}
use Rattle.fc_shell.proofs.WritingLemmas.{part_of_first, part_of_second, wrote_nothing}
use Rattle.fc_runs.proofs.ErrorLemmas.{ok_no_error}
use Rattle.fc_runs.proofs.LeftLemmas.{left_if_kept}
use Rattle.fc_runs.proofs.ModeLemmas.{as_either}
use Rattle.fc_runs.proofs.SafeShortageLemmas.{keeping_enough}
use Rattle.fc_shell.proofs.SuitsLemmas.{suits_new}
use Rattle.fc_volume.proofs.LostKeepsLemmas.{one_some as some_same}

-- ---- the reply in pieces

abbrev front : List ℕ
front = codes "reclaimed "

abbrev back : List ℕ
back = 10 ∷ ok_line

pieces : (bytes : ℕ) → front ++ (decimal bytes ++ back) ≡ reclaimed_reply bytes
pieces bytes = ap (λ (t : List ℕ). front ++ t) (sym (append_assoc (decimal bytes) (10 ∷ []) ok_line))

pub front_cut : (before after : Option (List ℕ)) (bytes : ℕ) → WrotePart before after front → WrotePart before after (reclaimed_reply bytes)
front_cut before after bytes part = subst (WrotePart before after) (pieces bytes) (part_of_first before after front (decimal bytes ++ back) part)

pub number_cut : (before mid after : Option (List ℕ)) (bytes : ℕ) → Wrote before mid front → WrotePart mid after (decimal bytes) → WrotePart before after (reclaimed_reply bytes)
number_cut before mid after bytes first part =
    subst (WrotePart before after) (pieces bytes) (part_of_second before mid after front (decimal bytes ++ back) first (part_of_first mid after (decimal bytes) back part))

pub back_cut : (before mid next after : Option (List ℕ)) (bytes : ℕ) → Wrote before mid front → Wrote mid next (decimal bytes) → WrotePart next after back → WrotePart before after (reclaimed_reply bytes)
back_cut before mid next after bytes first second part =
    subst (WrotePart before after) (pieces bytes)
    (part_of_second before mid after front (decimal bytes ++ back) first (part_of_second mid next after (decimal bytes) back second part))

-- it is no error line
pub reclaimed_no_error : (bytes : ℕ) → is_error (reclaimed_reply bytes) ≡ false
reclaimed_no_error bytes = ok_no_error (reclaimed_line bytes)

-- ---- when it is refused

answer_read_only : (t : Tree) (form : NameForm) → answer t form true Command.Reclaim ≡ Err refusals.ReadOnly
unfolding answer
answer_read_only t form = refl

answer_writable : (t : Tree) (form : NameForm) → answer t form false Command.Reclaim ≡ Ok t
unfolding answer
answer_writable t form = refl

-- On a new map it takes no space,
never_short : (v : Opened) (m : Map) → v.layout ≡ Layout.New m → short v Command.Reclaim ≡ None
unfolding short
never_short v m is =
    subst (λ (l : Layout). first_of (space_reasons l v Command.Reclaim) ≡ None) (sym is)
    (new_enough (length (new_ids m)) (bits_in (hole_runs m)) (needed_ids m v Command.Reclaim) (needed_bits m v Command.Reclaim) refl refl)

no_shortage : (v : Opened) (m : Map) → v.layout ≡ Layout.New m → (safe : Bool) → shortage safe v Command.Reclaim ≡ None
no_shortage v m is true = keeping_enough v Command.Reclaim (never_short v m is) refl
no_shortage v m is false =
    ap₂ (λ (a b : Option Refusal). option_map refusal_line (first_of (a ∷ b ∷ []))) (ap (λ (l : Layout). layout_reason l Command.Reclaim) is) (never_short v m is)

-- and with an old map the layout refuses it.
old_shortage : (v : Opened) (space : OldMapContent) → v.layout ≡ Layout.Old space → (safe : Bool) → (safe ≡ true → IsNewLayout v.layout) → shortage safe v Command.Reclaim ≡ Some (refusal_line refusals.NotNewMap)
old_shortage v space is true new_map = absurd (subst IsNewLayout is (new_map refl))
old_shortage v space is false new_map =
    ap (λ (a : Option Refusal). option_map refusal_line (first_of (a ∷ short v Command.Reclaim ∷ []))) (ap (λ (l : Layout). layout_reason l Command.Reclaim) is)

-- A volume that isn't refused may be changed, and has a new map.
accepted : (read_only : Bool) (layout : Layout) → ((r : Refusal) → reclaim_refusal read_only layout ≡ Some r → ⊥) → (read_only ≡ false) × ((m : Map) × (layout ≡ Layout.New m))
accepted true layout never = absurd (never refusals.ReadOnly refl)
accepted false (Layout.Old space) never = absurd (never refusals.NotNewMap refl)
accepted false (Layout.New m) never = (refl, (m, refl))

-- ---- steps

module _ (kind : Kind) (read_only safe : Bool) (s : State) (line : List ℕ) (new_map : safe ≡ true → IsNewLayout s.view.layout) (is : command_of line ≡ Ok Command.Reclaim) where
  by_answer : (a : Result Tree Refusal) (reply : List ℕ) (next : State) → answer (tree_in s) (dir_form s.view.layout) read_only Command.Reclaim ≡ a
      → Answers (mode_of kind read_only safe) s Command.Reclaim a reply next → Step (mode_of kind read_only safe) s line reply next
  by_answer a reply next answered takes =
      subst (λ (r : Result Command Refusal). Takes (mode_of kind read_only safe) s r reply next) (sym is)
      (subst (λ (x : Result Tree Refusal). Answers (mode_of kind read_only safe) s Command.Reclaim x reply next) (sym answered) takes)

  by_shortage : (o : Option (List ℕ)) (reply : List ℕ) (next : State) → read_only ≡ false → shortage safe s.view Command.Reclaim ≡ o
      → Serves (mode_of kind read_only safe) s Command.Reclaim (tree_in s) o reply next → Step (mode_of kind read_only safe) s line reply next
  by_shortage o reply next writable short_is serves =
      by_answer (Ok (tree_in s)) reply next
      (ap (λ (b : Bool). answer (tree_in s) (dir_form s.view.layout) b Command.Reclaim) writable ∙ answer_writable (tree_in s) (dir_form s.view.layout))
      (subst (λ (x : Option (List ℕ)). Serves (mode_of kind read_only safe) s Command.Reclaim (tree_in s) x reply next) (sym short_is) serves)

  -- An accepted one is a step,
  done_step : (next : State) (m : Map) → read_only ≡ false → s.view.layout ≡ Layout.New m → Reclaims kind s next
      → Step (mode_of kind read_only safe) s line (reclaimed_reply (reclaimed_bytes s.view next.view)) next
  done_step next m writable layout reclaims =
      by_shortage None (reclaimed_reply (reclaimed_bytes s.view next.view)) next writable (no_shortage s.view m layout safe) (refl, reclaims)

  -- and so is one that is refused.
  refused_step : (r : Refusal) → reclaim_refusal read_only s.view.layout ≡ Some r → Step (mode_of kind read_only safe) s line (refusal_line r) s
  refused_step r refused = by read_only s.view.layout refl refl refused
    where
      by : (b : Bool) (l : Layout) → read_only ≡ b → s.view.layout ≡ l → reclaim_refusal b l ≡ Some r → Step (mode_of kind read_only safe) s line (refusal_line r) s
      by true l locked layout e =
          subst (λ (x : Refusal). Step (mode_of kind read_only safe) s line (refusal_line x) s) (some_same refusals.ReadOnly r e)
          (by_answer (Err refusals.ReadOnly) (refusal_line refusals.ReadOnly) s
          (ap (λ (x : Bool). answer (tree_in s) (dir_form s.view.layout) x Command.Reclaim) locked ∙ answer_read_only (tree_in s) (dir_form s.view.layout)) (refl, refl))
      by false (Layout.Old space) writable layout e =
          subst (λ (x : Refusal). Step (mode_of kind read_only safe) s line (refusal_line x) s) (some_same refusals.NotNewMap r e)
          (by_shortage (Some (refusal_line refusals.NotNewMap)) (refusal_line refusals.NotNewMap) s writable (old_shortage s.view space layout safe new_map) (refl, refl))
      by false (Layout.New m) writable layout e = absurd (cc)

-- ---- what becomes of the line

module _ {D K : Type 0} {d : Ghosts D} (law : Laws d) (k : Sinks K) (kind : Kind) (safe : Bool) (s : State) (line : List ℕ) (was v : Volume) (old new : D) (before after : K)
    (suits : SuitsMode safe was) (is : command_of line ≡ Ok Command.Reclaim) (quiet : d.pending old ≡ false) (told : d.bytes old ≡ Some s.image) (opens : OpensAs s.image kind s.view) (parts : ArePartsOf (parts_of was) s.view) where
  abbrev mode : Mode
  mode = mode_of kind was.read_only safe

  -- The safe mode has a new map.
  new_map_of : safe ≡ true → IsNewLayout s.view.layout
  new_map_of e = subst IsNewLayout parts.layout (suits_new (parts_of was).layout (parts_of was).nodes (suits e))

  -- A crash meanwhile leaves the tree, on a new map.
  kept : (done : Result ℕ CommandError) → IsReclaiming d was v old new done → LeavesTree d old new kind s
  kept done asked new_map image left =
      let stays = (asked.owned (subst IsNewLayout (sym parts.layout) new_map)).stops.since image left s.image told kind s.view opens parts in
      record { view = stays.view; opens = stays.opens; tree = stays.tree }

  -- So does every exit.
  exits : (done : Result ℕ CommandError) → IsReclaiming d was v old new done → IsNewLayout s.view.layout → ForSome (d.bytes new) (HasTree kind (tree_in s))
  exits done asked new_map image here =
      let exit = (asked.owned (subst IsNewLayout (sym parts.layout) new_map)).exit s.image told in
      let stays = exit.2 kind s.view opens parts in
      subst (HasTree kind (tree_in s)) (one_told (sym exit.1 ∙ here)) (record { view = stays.view; opens = stays.opens; tree = stays.tree })

  -- It was done.
  done_ends : (bytes : ℕ) (result : Result Bool LineFault) → IsReclaiming d was v old new (Ok bytes) → TellsBy reclaimed_reply k before after (Ok bytes) result
      → LineEnds d old new mode s v line (k.taken before) (k.taken after) result
  done_ends bytes result asked tells = by result tells.0 tells.1.no_disk
    where
      next : State
      next = record { image = (asked.reclaimed s.image told).0; view = ((asked.reclaimed s.image told).2 kind s.view opens parts).0 }

      reclaims : Reclaims kind s next
      reclaims = ((asked.reclaimed s.image told).2 kind s.view opens parts).1

      given : bytes ≡ reclaimed_bytes s.view next.view
      given = ((asked.reclaimed s.image told).2 kind s.view opens parts).2

      never : (r : Refusal) → reclaim_refusal was.read_only s.view.layout ≡ Some r → ⊥
      never r e =
          let no : (let x : Result ℕ CommandError = Ok bytes in x) ≡ Err (CommandError.Refused r) =
          (asked.refused r).1 (ap (reclaim_refusal was.read_only) parts.layout ∙ e) in
          cc

      may : (was.read_only ≡ false) × ((m : Map) × (s.view.layout ≡ Layout.New m))
      may = accepted was.read_only s.view.layout never

      image : leaves_image_or (is_error (reclaimed_reply bytes)) (command_of line) ≡ false
      image = ap (leaves_image_or (is_error (reclaimed_reply bytes))) is ∙ ap (λ (b : Bool). b || false) (reclaimed_no_error bytes)

      tree : keeps_tree_or (is_error (reclaimed_reply bytes)) (command_of line) ≡ true
      tree = ap (keeps_tree_or (is_error (reclaimed_reply bytes))) is ∙ or_true (is_error (reclaimed_reply bytes))

      step : IsDone d old new mode s line (reclaimed_reply bytes) next
      step = record {
        step = subst (λ (n : ℕ). Step mode s line (reclaimed_reply n) next) (sym given) (done_step kind was.read_only safe s line new_map_of is next may.1.0 may.0 may.1.1 reclaims);
        holds = (asked.reclaimed s.image told).1;
        opens = reclaims.opens.opens;
        kept = λ keep. kept (Ok bytes) asked;
        still = λ leaves. absurd (let clash : false ≡ true = sym image ∙ leaves in cc);
        spared = λ at left. as_either (HasTreeBeforeOrAfter kind s (tree_in next)) (LeftBy kind s (is_error (reclaimed_reply bytes)) (command_of line)) at safe (λ e. inl (kept (Ok bytes) asked (new_map_of e) at left))
            (λ e. left_if_kept _ _ kind s _ at image tree (λ new_map. kept (Ok bytes) asked new_map at left));
      }

      by : (result : Result Bool LineFault) → Answered (reclaimed_reply bytes) (k.taken before) (k.taken after) result → (result ≡ Err LineFault.Disk → ⊥)
          → LineEnds d old new mode s v line (k.taken before) (k.taken after) result
      by (Ok refused) answered no_disk = record {
        reply = reclaimed_reply bytes;
        next = next;
        done = step;
        parts = ((asked.reclaimed s.image told).2 kind s.view opens parts).3;
        wrote = answered.0;
        refused_is = answered.1;
      }
      by (Err fault) answered no_disk = inl (record { reply = reclaimed_reply bytes; next = next; done = step; part = answered; no_disk = λ disk. no_disk (ap Err disk) })

  -- The disk failed.
  fails : IsReclaiming d was v old new (Err CommandError.DiskFault) → k.taken after ≡ k.taken before → LineEnds d old new mode s v line (k.taken before) (k.taken after) (Err LineFault.Disk)
  fails asked same =
      let begun : reply_begun mode s (command_of line) ≡ [] = ap (reply_begun mode s) is in
      inr (record {
        part = subst (WrotePart (k.taken before) (k.taken after)) (sym begun) (0, subst (λ (a : Option (List ℕ)). Wrote (k.taken before) a []) (sym same) (wrote_nothing (k.taken before)));
        holds = λ never. absurd (never refl);
        kept = λ keep. kept (Err CommandError.DiskFault) asked;
        still = λ leaves. absurd (let clash : false ≡ true = sym (ap (leaves_image_or false) is) ∙ leaves in cc);
        spared = λ at left. as_either (HasTreeBeforeOrAfter kind s (tree_after mode s (command_of line))) (LeftBy kind s false (command_of line)) at safe (λ e. inl (kept (Err CommandError.DiskFault) asked (new_map_of e) at left))
            (λ e. left_if_kept _ _ kind s _ at (ap (leaves_image_or false) is) (ap (keeps_tree_or false) is) (λ new_map. kept (Err CommandError.DiskFault) asked new_map at left));
        exit = λ at here. as_either (HasTreeBeforeOrAfter kind s (tree_after mode s (command_of line))) (LeftBy kind s false (command_of line)) at safe (λ e. inl (exits (Err CommandError.DiskFault) asked (new_map_of e) at here))
            (λ e. left_if_kept _ _ kind s _ at (ap (leaves_image_or false) is) (ap (keeps_tree_or false) is) (λ new_map. exits (Err CommandError.DiskFault) asked new_map at here));
      })

  -- A refusal left everything.
  refused_ends : (r : Refusal) (result : Result Bool LineFault) → IsReclaiming d was v old new (Err (CommandError.Refused r)) → TellsBy reclaimed_reply k before after (Err (CommandError.Refused r)) result
      → LineEnds d old new mode s v line (k.taken before) (k.taken after) result
  refused_ends r result asked tells =
      let same = asked.keeps.unchanged (λ fault. absurd (cc)) in
      let reason : reclaim_refusal was.read_only s.view.layout ≡ Some r = sym (ap (reclaim_refusal was.read_only) parts.layout) ∙ (asked.refused r).0 refl in
      let reads : OnlyReads d old new = subst (λ (x : D). OnlyReads d old x) (sym same.1) (reads_start law old) in
      subst (λ (w : Volume). LineEnds d old new mode s w line (k.taken before) (k.taken after) result) (sym same.0)
      (left_ends law kind safe was s line old new (k.taken before) (k.taken after) quiet told opens (refusal_line r) result (refused_step kind was.read_only safe s line new_map_of is r reason) reads parts tells.1.no_disk tells.0)

  no_memory : ((reason : Refusal) × (CommandError.NoMemory ≡ CommandError.Refused reason)) ⊎ (CommandError.NoMemory ≡ CommandError.DiskFault) → ⊥
  no_memory (inl refused) = let e : CommandError.NoMemory ≡ CommandError.Refused refused.0 = refused.1 in cc
  no_memory (inr fault) = cc

  pub reclaim_ends : (done : Result ℕ CommandError) (result : Result Bool LineFault) → IsReclaiming d was v old new done → TellsBy reclaimed_reply k before after done result
      → LineEnds d old new mode s v line (k.taken before) (k.taken after) result
  reclaim_ends (Ok bytes) result asked tells = done_ends bytes result asked tells
  reclaim_ends (Err (CommandError.Refused r)) result asked tells = refused_ends r result asked tells
  reclaim_ends (Err CommandError.NoMemory) result asked tells = absurd (no_memory asked.errors)
  reclaim_ends (Err CommandError.DiskFault) result asked tells =
      subst (λ (x : Result Bool LineFault). LineEnds d old new mode s v line (k.taken before) (k.taken after) x) (sym tells.0) (fails asked (ap k.taken tells.1))

-- ---- what it keeps

module _ {D K : Type 0} {d : Ghosts D} (law : Laws d) (k : Sinks K) (line : List ℕ) (was v : Volume) (old new : D) (before after : K) (is : command_of line ≡ Ok Command.Reclaim) where
  -- A volume that may not be changed isn't.
  spared : (done : Result ℕ CommandError) → IsReclaiming d was v old new done → was.read_only ≡ true → (v ≡ was) × (new ≡ old)
  spared done asked read_only = by done asked.keeps.unchanged ((asked.refused refusals.ReadOnly).1 (ap (λ (b : Bool). reclaim_refusal b (parts_of was).layout) read_only))
    where
      by : (x : Result ℕ CommandError) → IfErr x (λ error. (error ≡ CommandError.DiskFault → ⊥) → (v ≡ was) × (new ≡ old)) → x ≡ Err (CommandError.Refused refusals.ReadOnly) → (v ≡ was) × (new ≡ old)
      by (Ok value) same locked = absurd (cc)
      by (Err error) same locked = same (λ fault. absurd (let e : Err error ≡ Err (CommandError.Refused refusals.ReadOnly) = locked in cc))

  pub reclaim_keeps : (done : Result ℕ CommandError) (result : Result Bool LineFault) → IsReclaiming d was v old new done → TellsBy reclaimed_reply k before after done result
      → KeepsGoing d k old new before after was v line result
  reclaim_keeps done result asked tells =
      going law k reclaimed_reply line was v old new before after done result asked.keeps (spared done asked) (ap is_reading_line is) tells
