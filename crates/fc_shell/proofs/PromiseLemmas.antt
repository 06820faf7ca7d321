-- What a run promises, from what its parts do.
use Rattle.std.proofs.Common.{◌≡◌, ◌≤◌, take, ◌⊎◌, inl, inr, ⊎_elim, ℕ, Bool, true, false, List, [], Option, Some, None, Result, Ok, Err, refl, sym, ap, subst, ◌∙◌, arith}
use Rattle.std.specs.Prelude.{is_some}
use Rattle.fc_device.specs.declared.disk.Disk.{Ghosts}
use Rattle.fc_device.specs.declared.streams.Sink.{Ghosts as Sinks}
use Rattle.fc_device.specs.Calls.{OnlyReads}
use Rattle.fc_device.specs.Faults.{Rose}
use Rattle.fc_device.specs.Stops.{LeavesOnly}
use Rattle.fc_device.proofs.DiskLaws.{Laws}
use Rattle.fc_device.proofs.StopLemmas.{goes_on_same, started, weaker}
use Rattle.fc_image.specs.declared.ImageFault.{ImageFault}
use Rattle.fc_image.specs.Opening.{Opened, open_image}
use Rattle.fc_image.specs.Stays.{OpensAs}
use Rattle.fc_image.specs.effects.Effect.{State}
use Rattle.fc_image.specs.safe.SafeEffect.{HasTreeBeforeOrAfter}
use Rattle.fc_script.specs.Lines.{command_of}
use Rattle.fc_runs.specs.Promises.{Cause, HasNoRun, HasRun, HasStopped, spares_disk}
use Rattle.fc_runs.specs.Run.{HasTreeAfter, Mode, tree_after}
use Rattle.fc_runs.specs.Stops.{MayHaveLeft, Stops, replies_written}
use Rattle.fc_runs.proofs.ModeLemmas.{around_before, left_unbegun, tree_around, tree_between, written_most}
use Rattle.fc_words.specs.CommandLine.{Request}
use Rattle.fc_shell.specs.declared.ending.End.{End}
use Rattle.fc_shell.specs.declared.ending.End.TheVariants.{Done, Refused, BadWords, BadImage, DiskFault, ScriptFault, OutFault, NoMemory, ScriptTooLong, NotSafe, HostFault, NoImage}
use Rattle.fc_shell.specs.declared.answer.LineFault.{LineFault}
use Rattle.fc_shell.specs.declared.answer.LineFault.TheVariants as lines
use Rattle.fc_shell.specs.declared.tally.Tally.{Tally}
use Rattle.fc_words.specs.declared.Format.{Format as Word}
use Rattle.fc_shell.specs.Counted.{has_refused}
use Rattle.fc_shell.specs.Ends.{end_after, end_of, is_late, is_late_alone}
use Rattle.fc_shell.specs.Modes.{is_unsuited, mode_of}
use Rattle.fc_shell.specs.Promise.{EndsByGiving, EndsByOpening, EndsBySuiting, EndsOnFault, EndsOver, EndsUnsuited, HasNotBegun}
use Rattle.fc_shell.specs.Reading.{IsUnwritten}
use Rattle.fc_shell.specs.Replies.{image_for}
use Rattle.fc_shell.specs.Serving.{ServesAs}
use Rattle.fc_shell.specs.Kept.{SessionKeeps}
use Rattle.fc_shell.specs.Writing.{Wrote, WrotePart}
use Rattle.fc_runs.specs.Replies.{bad_image_line}
use Rattle.fc_volume.specs.Volume.{OnlyShapes}
use Rattle.fc_shell.proofs.WritingLemmas.{wrote_nothing}
use Rattle.fc_shell.proofs.TurnLemmas.{steps_weaker}
use Rattle.fc_image.specs.Laws.{AcceptedLaw as Accepts}
use Rattle.fc_runs.proofs.StepLemmas.{has_tree}
use Rattle.fc_device.proofs.StopLemmas.{one_told}
use Rattle.fc_runs.proofs.LeftLemmas.{ends_same, left_first}

pub no_fresh : false ≡ true → ⊥
no_fresh e = cc

-- the image as it opened, before the first line
pub tree_first : (mode : Mode) (s : State) → OpensAs s.image mode.kind s.view → (lines replies : List (List ℕ)) (image : List ℕ) → image ≡ s.image
    → HasTreeAfter (λ between. Unit {0}) mode s lines replies 0 image
tree_first mode s opens lines replies image same =
    tree_between mode s lines replies image (record { count = 0; within = omega arith; mid = s; steps = refl; tree = has_tree mode.kind s image opens same })

-- the script's end was reached
abbrev pub is_last : End → Bool
is_last Done = true
is_last Refused = true
is_last end = false

-- ---- from an earlier moment on

module _ {D : Type 0} {d : Ghosts D} (law : Laws d) (old mid new : D) (first : LeavesOnly d.moment d.left_since old mid (λ image. Unit {0}))
    (second : LeavesOnly d.moment d.left_since mid new (λ image. Unit {0})) (tells : d.tells_stops mid ≡ d.tells_stops old) (quiet : d.pending mid ≡ false) where
  pub may_from : (image : List ℕ) → MayHaveLeft d mid new image → MayHaveLeft d old new image
  may_from image may told = law.earlier new (d.moment old) (d.moment mid) image first.later (may (tells ∙ told))

  -- nothing was written
  none_from : (line text : List ℕ) → IsUnwritten d old mid → HasNoRun d mid new line text → HasNoRun d old new line text
  none_from line text same none = record { told = none.told; bytes = none.bytes ∙ same.bytes_stay; stops = goes_on_same law same.stops none.stops }

  module _ (mode : Mode) (fresh : Bool) (demo : Option ℕ) (s : State) (script text : List ℕ) (told : d.bytes mid ≡ Some s.image) (opens : OpensAs s.image mode.kind s.view)
      (same : fresh ≡ false → IsUnwritten d old mid) where
    stops_from : (end : State) (lines replies : List (List ℕ)) → d.pending old ≡ false → Stops d mid new mode false demo s end lines replies text → Stops d old new mode fresh demo s end lines replies text
    stops_from end lines replies was_quiet stops = record {
      idle = λ new_map there none keep image left.
          let unwritten = same there in
          ⊎_elim
          (λ was.
          let is : image ≡ s.image = law.settled old was_quiet s.image (sym unwritten.bytes_stay ∙ told) image (unwritten.stops.since image was) in
          let tree = has_tree mode.kind s image opens is in
          record { view = tree.view; opens = tree.opens; tree = tree.tree })
          (λ since. stops.idle new_map refl none keep image since)
          (second.before (d.moment old) image first.later left);
      last = stops.last;
      still = λ there none leave image left.
          let unwritten = same there in
          ⊎_elim
          (λ was. law.settled old was_quiet s.image (sym unwritten.bytes_stay ∙ told) image (unwritten.stops.since image was))
          (λ since. stops.still refl none leave image since)
          (second.before (d.moment old) image first.later left);
      rest = stops.rest;
      along = λ plain there image left.
          let unwritten = same there in
          ⊎_elim
          (λ was. left_first mode s opens lines replies image (law.settled old was_quiet s.image (sym unwritten.bytes_stay ∙ told) image (unwritten.stops.since image was)))
          (λ since. stops.along plain refl image since)
          (second.before (d.moment old) image first.later left);
      ending = stops.ending;
      during = λ safe there image left.
          let unwritten = same there in
          ⊎_elim
          (λ was. tree_first mode s opens lines replies image (law.settled old was_quiet s.image (sym unwritten.bytes_stay ∙ told) image (unwritten.stops.since image was)))
          (λ since. stops.during safe refl image since)
          (second.before (d.moment old) image first.later left);
      exit = stops.exit;
    }

    run_from : (refused : Bool) → HasRun d mid new mode false demo s script text refused → HasRun d old new mode fresh demo s script text refused
    run_from refused has = record {
      end = has.end;
      run = record {
        start = may_from s.image has.run.start;
        replies = has.run.replies;
        steps = steps_weaker (MayHaveLeft d mid new) (MayHaveLeft d old new) may_from mode s has.end _ has.run.replies has.run.steps;
        told = has.run.told;
      };
      refused_is = has.refused_is;
      holds = has.holds;
      settled = has.settled;
      stops = λ was_quiet. stops_from has.end _ has.run.replies was_quiet (has.stops quiet);
    }

    stopped_from : (cause : Cause) → HasStopped d mid new mode false demo s script text cause → HasStopped d old new mode fresh demo s script text cause
    stopped_from cause has = record {
      end = has.end;
      ended = record {
        start = may_from s.image has.ended.start;
        replies = has.ended.replies;
        steps = steps_weaker (MayHaveLeft d mid new) (MayHaveLeft d old new) may_from mode s has.end _ has.ended.replies has.ended.steps;
        told = has.ended.told;
      };
      whole = has.whole;
      holds = has.holds;
      spared = has.spared;
      saved = has.saved;
      settled = λ spares. ⊎_elim (λ done. inl done) (λ is. inl (subst (λ (x : D). d.pending x ≡ false) (sym is) quiet)) (has.settled spares);
      stops = λ was_quiet. stops_from has.end _ has.ended.replies was_quiet (has.stops quiet);
    }

    over_from : (end : End) → is_late end ≡ true → EndsOver d mid new mode false demo s script text end → EndsOver d old new mode fresh demo s script text end
    over_from Done late x = run_from false x
    over_from Refused late x = run_from true x
    over_from DiskFault late (inl x) = inl (stopped_from Cause.Disk x)
    over_from DiskFault late (inr x) = absurd (no_fresh x.0)
    over_from OutFault late (inl x) = inl (stopped_from Cause.Out x)
    over_from OutFault late (inr x) = absurd x
    over_from NoMemory late (inl x) = inl (stopped_from Cause.Memory x)
    over_from NoMemory late (inr x) = absurd (no_fresh x.0)
    over_from ScriptFault late x = absurd (no_fresh late)
    over_from BadWords late x = absurd x
    over_from (BadImage fault) late x = absurd x
    over_from ScriptTooLong late x = absurd x
    over_from NotSafe late x = absurd x
    over_from HostFault late x = absurd x
    over_from NoImage late x = absurd x

    -- No line was begun.
    begun_from : HasNotBegun d mid new false s text → HasNotBegun d old new fresh s text
    begun_from has = record { told = has.told; holds = has.holds; stops = λ there. goes_on_same law (same there).stops (has.stops refl) }

    pub unsuited_from : (end : End) → is_late end ≡ true → EndsUnsuited d mid new false s text end → EndsUnsuited d old new fresh s text end
    unsuited_from NotSafe late x = record { told = x.told; holds = x.holds; settled = x.settled; stops = λ there. goes_on_same law (same there).stops (x.stops refl) }
    unsuited_from DiskFault late (inl x) = inl (begun_from x)
    unsuited_from DiskFault late (inr x) = absurd (no_fresh x.0)
    unsuited_from NoMemory late (inl x) = inl (begun_from x)
    unsuited_from NoMemory late (inr x) = absurd (no_fresh x.0)
    unsuited_from Done late x = absurd x
    unsuited_from Refused late x = absurd x
    unsuited_from BadWords late x = absurd x
    unsuited_from (BadImage fault) late x = absurd x
    unsuited_from ScriptFault late x = absurd (no_fresh late)
    unsuited_from OutFault late x = absurd x
    unsuited_from ScriptTooLong late x = absurd x
    unsuited_from HostFault late x = absurd x
    unsuited_from NoImage late x = absurd x

    suited_from : (unsuited : Bool) (end : End) → is_late end ≡ true → EndsBySuiting d mid new mode false demo s script text unsuited end → EndsBySuiting d old new mode fresh demo s script text unsuited end
    suited_from true end late x = unsuited_from end late x
    suited_from false end late x = over_from end late x

  pub fault_from : (fault : ImageFault) (text : List ℕ) (end : End) → IsUnwritten d old mid → EndsOnFault d mid new fault text end → EndsOnFault d old new fault text end
  fault_from fault text (BadImage found) same x = (x.0, none_from _ text same x.1)
  fault_from fault text ScriptFault same x = none_from [] text same x
  fault_from fault text DiskFault same x = none_from [] text same x
  fault_from fault text NoMemory same x = none_from [] text same x
  fault_from fault text OutFault same x = (x.0, none_from _ text same x.1)
  fault_from fault text Done same x = absurd x
  fault_from fault text Refused same x = absurd x
  fault_from fault text BadWords same x = absurd x
  fault_from fault text ScriptTooLong same x = absurd x
  fault_from fault text NotSafe same x = absurd x
  fault_from fault text HostFault same x = absurd x
  fault_from fault text NoImage same x = absurd x

  pub ends_from : Accepts → (read_only safe fresh : Bool) (demo : Option ℕ) (image script text : List ℕ) (end : End) → d.bytes mid ≡ Some image → (fresh ≡ false → IsUnwritten d old mid)
      → (fresh ≡ true → (v : Opened) × (open_image image ≡ Ok v)) → is_late end ≡ true
      → EndsByOpening d mid new read_only safe false demo image script text (open_image image) end → EndsByOpening d old new read_only safe fresh demo image script text (open_image image) end
  ends_from accepts read_only safe fresh demo image script text end told same opened late x = by (open_image image) refl x
    where
      bad : (fault : ImageFault) (is_fresh : Bool) → fresh ≡ is_fresh → open_image image ≡ Err fault → EndsOnFault d mid new fault text end → EndsOnFault d old new fault text end
      bad fault false is e x = fault_from fault text end (same is) x
      bad fault true is e x = absurd (let there = opened is in cc)

      by : (o : Result Opened ImageFault) → open_image image ≡ o → EndsByOpening d mid new read_only safe false demo image script text o end → EndsByOpening d old new read_only safe fresh demo image script text o end
      by (Err fault) e x = bad fault fresh refl e x
      by (Ok v) e x = suited_from (mode_of v.kind read_only safe) fresh demo (record { image = image; view = v }) script text told (accepts image v e) same (is_unsuited safe v) end late x

-- ---- runs that began no line

pub no_run : {D : Type 0} (d : Ghosts D) (old new : D) (line : List ℕ) → IsUnwritten d old new → HasNoRun d old new line line
no_run d old new line same = record { told = refl; bytes = same.bytes_stay; stops = same.stops }

module _ {D : Type 0} {d : Ghosts D} (law : Laws d) (old new : D) where
  not_begun : (mode : Mode) (demo : Option ℕ) (s : State) (script : List ℕ) (cause : Cause) → d.bytes old ≡ Some s.image → OpensAs s.image mode.kind s.view → IsUnwritten d old new
      → (spares_disk cause ≡ true → (d.pending new ≡ false) ⊎ (new ≡ old)) → HasStopped d old new mode false demo s script [] cause
  not_begun mode demo s script cause told opens same settled = record {
    end = s;
    ended = record {
      start = λ tells. same.stops.keeps (d.moment old) s.image (omega arith) (law.leaves_what_is_read old tells s.image told);
      replies = [];
      steps = refl;
      told = (0, refl);
    };
    whole = λ none disk. refl;
    holds = λ spares. same.bytes_stay ∙ told;
    settled = settled;
    spared = λ plain image here. ends_same mode.kind s opens _ image (one_told (sym here ∙ (same.bytes_stay ∙ told)));
    saved = λ safe image here. left_unbegun (λ refused line. HasTreeBeforeOrAfter mode.kind s (tree_after mode s (command_of line))) s _ image (one_told (sym here ∙ (same.bytes_stay ∙ told)))
        (λ line. inl (has_tree mode.kind s image opens (one_told (sym here ∙ (same.bytes_stay ∙ told)))));
    stops = λ quiet. record {
      idle = λ new_map there none keep image left.
          let tree = has_tree mode.kind s image opens (law.settled old quiet s.image told image (same.stops.since image left)) in
          record { view = tree.view; opens = tree.opens; tree = tree.tree };
      last = λ new_map keep image left. has_tree mode.kind s image opens
          (law.settled old quiet s.image told image (same.stops.since image (law.earlier new (d.moment old) (d.moment new) image same.stops.later left)));
      still = λ there none leave image left. law.settled old quiet s.image told image (same.stops.since image left);
      rest = λ leave image left. law.settled old quiet s.image told image (same.stops.since image (law.earlier new (d.moment old) (d.moment new) image same.stops.later left));
      along = λ plain there image left. left_first mode s opens _ [] image (law.settled old quiet s.image told image (same.stops.since image left));
      ending = λ plain image left.
          ends_same mode.kind s opens _ image (law.settled old quiet s.image told image (same.stops.since image (law.earlier new (d.moment old) (d.moment new) image same.stops.later left)));
      during = λ safe there image left. tree_first mode s opens _ [] image (law.settled old quiet s.image told image (same.stops.since image left));
      exit = λ safe image left. tree_around mode s _ [] image s (replies_written demo [] []) (written_most demo [] []) refl
          (around_before mode s _ image (has_tree mode.kind s image opens (law.settled old quiet s.image told image (same.stops.since image (law.earlier new (d.moment old) (d.moment new) image same.stops.later left)))));
    };
  }

  not_opened : (s : State) → d.bytes old ≡ Some s.image → IsUnwritten d old new → HasNotBegun d old new false s []
  not_opened s told same = record { told = refl; holds = same.bytes_stay ∙ told; stops = λ there. same.stops }

  -- An I/O error of the disk came before the first line,
  pub begun_fault : Accepts → (read_only safe : Bool) (demo : Option ℕ) (image script : List ℕ) → d.bytes old ≡ Some image → IsUnwritten d old new
      → EndsByOpening d old new read_only safe false demo image script [] (open_image image) DiskFault
  begun_fault accepts read_only safe demo image script told same = by (open_image image) refl
    where
      spares : spares_disk Cause.Disk ≡ true → (d.pending new ≡ false) ⊎ (new ≡ old)
      spares e = absurd (no_fresh e)

      suited : (v : Opened) → open_image image ≡ Ok v → (unsuited : Bool) → EndsBySuiting d old new (mode_of v.kind read_only safe) false demo (record { image = image; view = v }) script [] unsuited DiskFault
      suited v e true = inl (not_opened (record { image = image; view = v }) told same)
      suited v e false = inl (not_begun (mode_of v.kind read_only safe) demo (record { image = image; view = v }) script Cause.Disk told (accepts image v e) same spares)

      by : (o : Result Opened ImageFault) → open_image image ≡ o → EndsByOpening d old new read_only safe false demo image script [] o DiskFault
      by (Err fault) e = no_run d old new [] same
      by (Ok v) e = suited v e (is_unsuited safe v)

  -- or out of memory did.
  pub begun_memory : Accepts → (read_only safe : Bool) (demo : Option ℕ) (image script : List ℕ) → d.bytes old ≡ Some image → IsUnwritten d old new → (d.pending new ≡ false) ⊎ (new ≡ old)
      → EndsByOpening d old new read_only safe false demo image script [] (open_image image) NoMemory
  begun_memory accepts read_only safe demo image script told same settled = by (open_image image) refl
    where
      suited : (v : Opened) → open_image image ≡ Ok v → (unsuited : Bool) → EndsBySuiting d old new (mode_of v.kind read_only safe) false demo (record { image = image; view = v }) script [] unsuited NoMemory
      suited v e true = inl (not_opened (record { image = image; view = v }) told same)
      suited v e false = inl (not_begun (mode_of v.kind read_only safe) demo (record { image = image; view = v }) script Cause.Memory told (accepts image v e) same (λ spares. settled))

      by : (o : Result Opened ImageFault) → open_image image ≡ o → EndsByOpening d old new read_only safe false demo image script [] o NoMemory
      by (Err fault) e = no_run d old new [] same
      by (Ok v) e = suited v e (is_unsuited safe v)

-- lines that were served
pub served_ends : {D : Type 0} (d : Ghosts D) (old new : D) (mode : Mode) (s : State) (script : List ℕ) (before after : Option (List ℕ)) (result : Result Tally LineFault)
    → ServesAs d old new mode s script before after result
    → (text : List ℕ) × Wrote before after text × EndsOver d old new mode false None s script text (end_of result)
served_ends d old new mode s script before after (Ok tally) x = (x.0, x.1, by (has_refused tally) x.2)
  where
    by : (refused : Bool) → HasRun d old new mode false None s script x.0 refused → EndsOver d old new mode false None s script x.0 (end_after refused)
    by true has = has
    by false has = has
served_ends d old new mode s script before after (Err lines.Disk) x = (x.0, x.1, inl x.2)
served_ends d old new mode s script before after (Err lines.Out) x = (x.0, x.1, inl x.2)
served_ends d old new mode s script before after (Err lines.NoMemory) x = (x.0, x.1, inl x.2)

-- ---- by whether the safe mode serves the volume

pub suited : {D : Type 0} (d : Ghosts D) (old new : D) (mode : Mode) (demo : Option ℕ) (s : State) (script text : List ℕ) (b : Bool) (end : End) → b ≡ false
    → EndsOver d old new mode false demo s script text end → EndsBySuiting d old new mode false demo s script text b end
suited d old new mode demo s script text b end is x = subst (λ (b : Bool). EndsBySuiting d old new mode false demo s script text b end) (sym is) x

module _ {D : Type 0} {d : Ghosts D} (law : Laws d) (disk : D) where
  pub unsuited : (mode : Mode) (demo : Option ℕ) (s : State) (script : List ℕ) (b : Bool) → b ≡ true → d.bytes disk ≡ Some s.image → d.pending disk ≡ false
      → EndsBySuiting d disk disk mode false demo s script [] b NotSafe
  unsuited mode demo s script b is told quiet =
      subst (λ (b : Bool). EndsBySuiting d disk disk mode false demo s script [] b NotSafe) (sym is)
      (record { told = refl; holds = told; settled = quiet; stops = λ there. started law disk (d.left_since disk (d.moment disk)) (λ image left. left) })

-- Nothing was asked of the disk.
pub none_begun : {D K : Type 0} {d : Ghosts D} (law : Laws d) (k : Sinks K) (safe : Bool) (reads : Type 0) (disk : D) (out : K) → d.pending disk ≡ false → safe ≡ true
    → SessionKeeps d k safe reads disk disk out out NotSafe
none_begun {d = d} law k safe reads disk out quiet asked = record {
  asked_stays = refl;
  goes = started law disk (λ image. Unit {0}) (λ image left. tt);
  faults = omega arith;
  not_safe = λ is. (asked, refl);
  disk_fault = λ is. absurd (cc);
  out_fault = λ is. absurd (cc);
  settled = λ never. quiet;
  unwritten = λ only. record { bytes_stay = refl; stops = started law disk (d.left_since disk (d.moment disk)) (λ image left. left); faults = omega arith };
  late = refl;
}

-- ---- the disk as it was

module _ {D : Type 0} {d : Ghosts D} (law : Laws d) (disk : D) where
  pub same_unwritten : IsUnwritten d disk disk
  same_unwritten = record { bytes_stay = refl; stops = started law disk (d.left_since disk (d.moment disk)) (λ image left. left); faults = omega arith }

  pub none : HasNoRun d disk disk [] []
  none = record { told = refl; bytes = refl; stops = started law disk (d.left_since disk (d.moment disk)) (λ image left. left) }

  -- out of memory before the image was asked for
  pub memory_giving : Accepts → (r : Request) (image script : List ℕ) (given : Bool) → d.bytes disk ≡ Some image → EndsByGiving d disk disk r image script [] given NoMemory
  memory_giving accepts r image script false told = none
  memory_giving accepts r image script true told = by r.new refl
    where
      suited : (v : Opened) (fresh : List ℕ) (unsuited : Bool) → EndsBySuiting d disk disk (mode_of v.kind r.read_only r.safe) true r.demo (record { image = fresh; view = v }) script [] unsuited NoMemory
      suited v fresh true = inr (refl, refl, refl)
      suited v fresh false = inr (refl, refl, refl)

      made : (o : Result Opened ImageFault) (fresh : List ℕ) → EndsByOpening d disk disk r.read_only r.safe true r.demo fresh script [] o NoMemory
      made (Err fault) fresh = none
      made (Ok v) fresh = suited v fresh (is_unsuited r.safe v)

      by : (new : Option Word) → r.new ≡ new
          → EndsByOpening d disk disk r.read_only r.safe (is_some new) r.demo (image_for new image) script [] (open_image (image_for new image)) NoMemory
      by None e = begun_memory law disk disk accepts r.read_only r.safe r.demo image script told same_unwritten (inr refl)
      by (Some f) e = made (open_image (image_for (Some f) image)) (image_for (Some f) image)

-- ---- a run over an attached image

pub late_after : (refused : Bool) → is_late (end_after refused) ≡ true
late_after true = refl
late_after false = refl

-- nor at the disk's fault, the sink's or for want of memory
pub after_end : (refused : Bool) (end : End) → end_after refused ≡ end → is_last end ≡ true
after_end true end is = sym (ap is_last is)
after_end false end is = sym (ap is_last is)

pub late_end : (result : Result Tally LineFault) → is_late (end_of result) ≡ true
late_end (Ok tally) = late_after (has_refused tally)
late_end (Err lines.Disk) = refl
late_end (Err lines.Out) = refl
late_end (Err lines.NoMemory) = refl

-- Lines that were served don't end so.
pub unsafe_end : (result : Result Tally LineFault) → end_of result ≡ NotSafe → ⊥
unsafe_end (Ok tally) e = no_fresh (after_end (has_refused tally) NotSafe e)
unsafe_end (Err lines.Disk) e = absurd (cc)
unsafe_end (Err lines.Out) e = absurd (cc)
unsafe_end (Err lines.NoMemory) e = absurd (cc)

alone_after : (refused : Bool) → is_late_alone (end_after refused) ≡ true
alone_after true = refl
alone_after false = refl

pub alone_end : (result : Result Tally LineFault) → is_late_alone (end_of result) ≡ true
alone_end (Ok tally) = alone_after (has_refused tally)
alone_end (Err lines.Disk) = refl
alone_end (Err lines.Out) = refl
alone_end (Err lines.NoMemory) = refl

pub disk_end : (result : Result Tally LineFault) → end_of result ≡ DiskFault → result ≡ Err LineFault.Disk
disk_end (Ok tally) e = absurd (no_fresh (after_end (has_refused tally) DiskFault e))
disk_end (Err lines.Disk) e = refl
disk_end (Err lines.Out) e = absurd (cc)
disk_end (Err lines.NoMemory) e = absurd (cc)

pub out_end : (result : Result Tally LineFault) → end_of result ≡ OutFault → result ≡ Err LineFault.Out
out_end (Ok tally) e = absurd (no_fresh (after_end (has_refused tally) OutFault e))
out_end (Err lines.Disk) e = absurd (cc)
out_end (Err lines.Out) e = refl
out_end (Err lines.NoMemory) e = absurd (cc)

-- the line of an image that isn't accepted
pub tell_ends : {D : Type 0} (d : Ghosts D) (old new : D) (fault : ImageFault) (result : End) (before after : Option (List ℕ)) → IsUnwritten d old new
    → (result ≡ BadImage fault) ⊎ ((result ≡ OutFault) ⊎ (result ≡ NoMemory)) → (result ≡ BadImage fault → Wrote before after (bad_image_line fault))
    → WrotePart before after (bad_image_line fault) → (result ≡ NoMemory → after ≡ before)
    → (text : List ℕ) × Wrote before after text × EndsOnFault d old new fault text result
tell_ends d old new fault result before after same (inl is) bad part quiet =
    (bad_image_line fault, bad is, subst (EndsOnFault d old new fault (bad_image_line fault)) (sym is) (refl, no_run d old new (bad_image_line fault) same))
tell_ends d old new fault result before after same (inr (inl is)) bad part quiet =
    (take part.0 (bad_image_line fault), part.1, subst (EndsOnFault d old new fault (take part.0 (bad_image_line fault))) (sym is) (part.0, no_run d old new (take part.0 (bad_image_line fault)) same))
tell_ends d old new fault result before after same (inr (inr is)) bad part quiet =
    ([], subst (λ (a : Option (List ℕ)). Wrote before a []) (sym (quiet is)) (wrote_nothing before), subst (EndsOnFault d old new fault []) (sym is) (no_run d old new [] same))

pub told_late : (fault : ImageFault) (result : End) → (result ≡ BadImage fault) ⊎ ((result ≡ OutFault) ⊎ (result ≡ NoMemory)) → is_late result ≡ true
told_late fault result (inl is) = ap is_late is
told_late fault result (inr (inl is)) = ap is_late is
told_late fault result (inr (inr is)) = ap is_late is

pub told_alone : (fault : ImageFault) (result : End) → (result ≡ BadImage fault) ⊎ ((result ≡ OutFault) ⊎ (result ≡ NoMemory)) → is_late_alone result ≡ true
told_alone fault result (inl is) = ap is_late_alone is
told_alone fault result (inr (inl is)) = ap is_late_alone is
told_alone fault result (inr (inr is)) = ap is_late_alone is

pub told_no_unsafe : (fault : ImageFault) (result : End) → (result ≡ BadImage fault) ⊎ ((result ≡ OutFault) ⊎ (result ≡ NoMemory)) → result ≡ NotSafe → ⊥
told_no_unsafe fault result (inl is) e = absurd (cc)
told_no_unsafe fault result (inr (inl is)) e = absurd (cc)
told_no_unsafe fault result (inr (inr is)) e = absurd (cc)

pub told_no_disk : (fault : ImageFault) (result : End) → (result ≡ BadImage fault) ⊎ ((result ≡ OutFault) ⊎ (result ≡ NoMemory)) → result ≡ DiskFault → ⊥
told_no_disk fault result (inl is) e = absurd (cc)
told_no_disk fault result (inr (inl is)) e = absurd (cc)
told_no_disk fault result (inr (inr is)) e = absurd (cc)

pub shapes_unwritten : {D : Type 0} (d : Ghosts D) (old new : D) → OnlyShapes d old new → IsUnwritten d old new
shapes_unwritten d old new shapes = record { bytes_stay = shapes.bytes_stay; stops = shapes.stops; faults = shapes.faults }

pub session_shapes : {D K : Type 0} {d : Ghosts D} (law : Laws d) (k : Sinks K) (safe : Bool) (reads : Type 0) (old new : D) (before after : K) (end : End) → OnlyShapes d old new → d.pending old ≡ false → is_late end ≡ true
    → (end ≡ NotSafe → (safe ≡ true) × (after ≡ before)) → (end ≡ DiskFault → Rose (d.faults old) (d.faults new)) → (end ≡ OutFault → Rose (k.faults before) (k.faults after)) → SessionKeeps d k safe reads old new before after end
session_shapes {d = d} law k safe reads old new before after end shapes quiet late not_safe disk out = record {
  asked_stays = shapes.asked_stays;
  goes = weaker law (λ image. Unit {0}) shapes.stops (λ image left. tt);
  faults = shapes.faults;
  not_safe = not_safe;
  disk_fault = disk;
  out_fault = out;
  settled = λ never. shapes.pending_stays ∙ quiet;
  unwritten = λ only. shapes_unwritten d old new shapes;
  late = late;
}

pub reads_unwritten : {D : Type 0} {d : Ghosts D} {old new : D} → OnlyReads d old new → IsUnwritten d old new
reads_unwritten reads = record { bytes_stay = reads.bytes; stops = reads.stops; faults = reads.faults }

pub unwritten_after : {D : Type 0} {d : Ghosts D} (law : Laws d) (old mid new : D) → OnlyShapes d old mid → IsUnwritten d mid new → IsUnwritten d old new
unwritten_after law old mid new shapes now = record {
  bytes_stay = now.bytes_stay ∙ shapes.bytes_stay;
  stops = goes_on_same law shapes.stops now.stops;
  faults = omega (arith, shapes.faults, now.faults);
}

pub rose_earlier : (a b c : ℕ) → a ≤ b → Rose b c → Rose a c
rose_earlier a b c le rose = omega (arith, le, rose)
