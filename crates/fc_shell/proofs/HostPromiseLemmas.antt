-- What a run whose lines may move files promises, from what its parts do.
use Rattle.std.proofs.Common.{◌≡◌, ◌⊎◌, inl, inr, ⊎_elim, ℕ, Bool, true, false, List, [], Option, Some, None, Result, Ok, Err, refl, sym, subst, ◌∙◌, arith}
use Rattle.std.specs.Prelude.{is_some}
use Rattle.fc_device.specs.declared.disk.Disk.{Ghosts}
use Rattle.fc_device.specs.Stops.{LeavesOnly}
use Rattle.fc_device.proofs.DiskLaws.{Laws}
use Rattle.fc_host.specs.Asked.{Asked}
use Rattle.fc_host.specs.Files.{Files}
use Rattle.fc_format.specs.Opens.{FreshLaw}
use Rattle.fc_image.specs.declared.ImageFault.{ImageFault}
use Rattle.fc_image.specs.Opening.{Opened, open_image}
use Rattle.fc_image.specs.Stays.{OpensAs}
use Rattle.fc_image.specs.effects.Effect.{State}
use Rattle.fc_runs.specs.HostPromises.{AskedHasRun, AskedHasStopped, AskedHasTreeAfter, AskedLeaves, AskedStops}
use Rattle.fc_script.specs.HostLines.{host_line_of}
use Rattle.fc_runs.specs.Promises.{Cause, spares_disk}
use Rattle.fc_runs.specs.Run.{Mode, commands_in, whole_replies}
use Rattle.fc_runs.specs.Stops.{MayHaveLeft}
use Rattle.fc_runs.proofs.HostServingLemmas.{files_stay, none_begun, stays_same}
use Rattle.fc_runs.proofs.HostStepLemmas.{asks_weaker}
use Rattle.fc_runs.proofs.StepLemmas.{has_tree}
use Rattle.fc_runs.proofs.ToldLemmas.{run_told, stop_told}
use Rattle.fc_words.specs.CommandLine.{Request}
use Rattle.fc_words.specs.declared.Format.{Format as Word}
use Rattle.fc_image.specs.Laws.{AcceptedLaw as Accepts}
use Rattle.fc_shell.specs.declared.ending.End.{End}
use Rattle.fc_shell.specs.declared.ending.End.TheVariants.{Done, Refused, BadWords, BadImage, DiskFault, ScriptFault, OutFault, HostFault, NoMemory, ScriptTooLong, NotSafe, NoImage}
use Rattle.fc_shell.specs.declared.moving.MoveFault.{MoveFault}
use Rattle.fc_shell.specs.declared.moving.MoveFault.TheVariants as moves
use Rattle.fc_shell.specs.declared.tally.Tally.{Tally}
use Rattle.fc_shell.specs.Counted.{has_refused}
use Rattle.fc_shell.specs.Ends.{end_after, is_late, move_end}
use Rattle.fc_shell.specs.HostPromise.{MovesByGiving, MovesByOpening, MovesBySuiting, MovesOver, ToldOver}
use Rattle.fc_shell.specs.Modes.{is_unsuited, mode_of}
use Rattle.fc_shell.specs.Moving.{LinesMove}
use Rattle.fc_shell.specs.Promise.{EndsOnFault, EndsWithout, HasNotBegun}
use Rattle.fc_shell.specs.Reading.{IsUnwritten}
use Rattle.fc_shell.specs.Replies.{image_for}
use Rattle.fc_shell.specs.Writing.{Wrote}
use Rattle.fc_shell.proofs.KeptLemmas.{fresh_opens}
use Rattle.fc_shell.proofs.PromiseLemmas.{fault_from, may_from, no_fresh, no_run, none, same_unwritten, unsuited_from, late_after as late_refused}
use Rattle.fc_device.proofs.StopLemmas.{one_told, started}
use Rattle.fc_runs.proofs.LeftLemmas.{asked_first, host_ends_same}
use Rattle.fc_runs.proofs.ModeLemmas.{asked_around, asked_before, asked_between, asked_leaves_before, left_unbegun, whole_most}

-- the image as it opened, before the first line
before_first : (mode : Mode) (s : State) → OpensAs s.image mode.kind s.view → (lines replies : List (List ℕ)) (asks : List (List Asked)) (begun : List Asked) (between : Option Files) (image : List ℕ) → image ≡ s.image
    → AskedHasTreeAfter host_line_of mode s lines replies asks begun between 0 image
before_first mode s opens lines replies asks begun between image same =
    asked_between mode s lines replies image host_line_of asks begun between (record { count = 0; within = omega arith; mid = s; steps = refl; tree = has_tree mode.kind s image opens same })

-- ---- from an earlier moment on

module _ {D : Type 0} {d : Ghosts D} (law : Laws d) (old mid new : D) (first : LeavesOnly d.moment d.left_since old mid (λ image. Unit {0}))
    (second : LeavesOnly d.moment d.left_since mid new (λ image. Unit {0})) (tells : d.tells_stops mid ≡ d.tells_stops old) (quiet : d.pending mid ≡ false) (files left : Option Files) (asked : List Asked) where
  module _ (mode : Mode) (fresh : Bool) (s : State) (script text : List ℕ) (told : d.bytes mid ≡ Some s.image) (opens : OpensAs s.image mode.kind s.view)
      (same : fresh ≡ false → IsUnwritten d old mid) where
    may : (image : List ℕ) → MayHaveLeft d mid new image → MayHaveLeft d old new image
    may image = may_from law old mid new first second tells quiet image

    -- what a crash before the lines may have left
    image_before : fresh ≡ false → d.pending old ≡ false → (image : List ℕ) → d.left_since mid (d.moment old) image → image ≡ s.image
    image_before there was_quiet image was =
        let unwritten = same there in
        law.settled old was_quiet s.image (sym unwritten.bytes_stay ∙ told) image (unwritten.stops.since image was)

    stops_from : (end : State) (lines replies : List (List ℕ)) (asks : List (List Asked)) (begun : List Asked) (between : Option Files) → d.pending old ≡ false
        → AskedStops d host_line_of mid new mode false s end lines replies asks begun between text → AskedStops d host_line_of old new mode fresh s end lines replies asks begun between text
    stops_from end lines replies asks begun between was_quiet stops = record {
      idle = λ new_map there keep image left.
          ⊎_elim
          (λ was. let tree = has_tree mode.kind s image opens (image_before there was_quiet image was) in record { view = tree.view; opens = tree.opens; tree = tree.tree })
          (λ since. stops.idle new_map refl keep image since)
          (second.before (d.moment old) image first.later left);
      last = stops.last;
      still = λ there leave image left.
          ⊎_elim (λ was. image_before there was_quiet image was) (λ since. stops.still refl leave image since) (second.before (d.moment old) image first.later left);
      rest = stops.rest;
      along = λ plain there image left.
          ⊎_elim (λ was. asked_first host_line_of mode s opens lines replies asks image (image_before there was_quiet image was)) (λ since. stops.along plain refl image since)
          (second.before (d.moment old) image first.later left);
      ending = stops.ending;
      during = λ safe there image left.
          ⊎_elim (λ was. before_first mode s opens lines replies asks begun between image (image_before there was_quiet image was)) (λ since. stops.during safe refl image since)
          (second.before (d.moment old) image first.later left);
      exit = stops.exit;
    }

    run_from : (refused : Bool) → AskedHasRun d host_line_of mid new mode false s files left asked script text refused
        → AskedHasRun d host_line_of old new mode fresh s files left asked script text refused
    run_from refused has = record {
      end = has.end;
      replies = has.replies;
      asks = has.asks;
      start = may s.image has.start;
      steps = asks_weaker host_line_of (MayHaveLeft d mid new) (MayHaveLeft d old new) may mode s has.end (commands_in script) has.replies has.asks has.steps;
      asked_is = has.asked_is;
      answered = has.answered;
      told = has.told;
      refused_is = has.refused_is;
      holds = has.holds;
      settled = has.settled;
      stops = λ was_quiet. stops_from has.end (commands_in script) has.replies has.asks [] left was_quiet (has.stops quiet);
    }

    stopped_from : (cause : Cause) → AskedHasStopped d host_line_of mid new mode false s files left asked script text cause
        → AskedHasStopped d host_line_of old new mode fresh s files left asked script text cause
    stopped_from cause has = record {
      end = has.end;
      replies = has.replies;
      asks = has.asks;
      begun = has.begun;
      between = has.between;
      start = may s.image has.start;
      steps = asks_weaker host_line_of (MayHaveLeft d mid new) (MayHaveLeft d old new) may mode s has.end _ has.replies has.asks has.steps;
      asked_is = has.asked_is;
      answered = has.answered;
      begun_is = has.begun_is;
      files_left = has.files_left;
      back = has.back;
      told = has.told;
      whole = has.whole;
      holds = has.holds;
      spared = has.spared;
      saved = has.saved;
      settled = λ spares. ⊎_elim (λ done. inl done) (λ is. inl (subst (λ (x : D). d.pending x ≡ false) (sym is) quiet)) (has.settled spares);
      stops = λ was_quiet. stops_from has.end (commands_in script) has.replies has.asks has.begun has.between was_quiet (has.stops quiet);
    }

    over_from : (end : End) → is_late end ≡ true → MovesOver d mid new mode false s files left asked script text end → MovesOver d old new mode fresh s files left asked script text end
    over_from Done late x = run_from false x
    over_from Refused late x = run_from true x
    over_from DiskFault late (inl x) = inl (stopped_from Cause.Disk x)
    over_from DiskFault late (inr x) = absurd (no_fresh x.0.0)
    over_from OutFault late x = stopped_from Cause.Out x
    over_from HostFault late x = stopped_from Cause.Host x
    over_from NoMemory late (inl x) = inl (stopped_from Cause.Memory x)
    over_from NoMemory late (inr x) = absurd (no_fresh x.0.0)
    over_from ScriptFault late x = absurd (no_fresh late)
    over_from BadWords late x = absurd x
    over_from (BadImage fault) late x = absurd x
    over_from ScriptTooLong late x = absurd x
    over_from NotSafe late x = absurd x
    over_from NoImage late x = absurd x

    suiting_from : (unsuited : Bool) (end : End) → is_late end ≡ true → MovesBySuiting d mid new mode false s files left asked script text unsuited end → MovesBySuiting d old new mode fresh s files left asked script text unsuited end
    suiting_from true end late x = (unsuited_from law old mid new first second tells quiet mode fresh None s script text told opens same end late x.0, x.1)
    suiting_from false end late x = over_from end late x

  pub moves_from : Accepts → (read_only safe fresh : Bool) (image script text : List ℕ) (end : End) → d.bytes mid ≡ Some image → (fresh ≡ false → IsUnwritten d old mid)
      → (fresh ≡ true → (v : Opened) × (open_image image ≡ Ok v)) → is_late end ≡ true
      → MovesByOpening d mid new read_only safe false files left asked image script text (open_image image) end
      → MovesByOpening d old new read_only safe fresh files left asked image script text (open_image image) end
  moves_from accepts read_only safe fresh image script text end told same opened late x = by (open_image image) refl x
    where
      bad : (fault : ImageFault) (is_fresh : Bool) → fresh ≡ is_fresh → open_image image ≡ Err fault → EndsOnFault d mid new fault text end → EndsOnFault d old new fault text end
      bad fault false is e x = fault_from law old mid new first second tells quiet fault text end (same is) x
      bad fault true is e x = absurd (let there = opened is in cc)

      by : (o : Result Opened ImageFault) → open_image image ≡ o → MovesByOpening d mid new read_only safe false files left asked image script text o end
          → MovesByOpening d old new read_only safe fresh files left asked image script text o end
      by (Err fault) e x = (bad fault fresh refl e x.0, x.1)
      by (Ok v) e x = suiting_from (mode_of v.kind read_only safe) fresh (record { image = image; view = v }) script text told (accepts image v e) same (is_unsuited safe v) end late x

-- ---- runs that began no line

module _ {D : Type 0} {d : Ghosts D} (law : Laws d) (old new : D) (files : Option Files) where
  not_moved : (mode : Mode) (s : State) (script : List ℕ) (cause : Cause) → d.bytes old ≡ Some s.image → OpensAs s.image mode.kind s.view → IsUnwritten d old new
      → (spares_disk cause ≡ true → (d.pending new ≡ false) ⊎ (new ≡ old)) → AskedHasStopped d host_line_of old new mode false s files files [] script [] cause
  not_moved mode s script cause told opens same settled = record {
    end = s;
    replies = [];
    asks = [];
    begun = [];
    between = files;
    start = λ tells. same.stops.keeps (d.moment old) s.image (omega arith) (law.leaves_what_is_read old tells s.image told);
    steps = refl;
    asked_is = refl;
    answered = refl;
    begun_is = none_begun host_line_of mode s _;
    files_left = λ held known. (held, known, files_stay host_line_of mode s held _);
    back = λ first host is. refl;
    told = (0, refl);
    whole = λ disk. refl;
    holds = λ spares. (s.image, same.bytes_stay ∙ told, stays_same cause mode.kind s opens);
    settled = settled;
    spared = λ plain image here. host_ends_same host_line_of mode.kind s opens _ image (one_told (sym here ∙ (same.bytes_stay ∙ told)));
    saved = λ safe image here. left_unbegun (λ refused line. AskedLeaves mode s (host_line_of line) [] files) s _ image (one_told (sym here ∙ (same.bytes_stay ∙ told)))
        (λ line. asked_leaves_before mode s (host_line_of line) [] files image (has_tree mode.kind s image opens (one_told (sym here ∙ (same.bytes_stay ∙ told)))));
    stops = λ quiet. record {
      idle = λ new_map there keep image left.
          let tree = has_tree mode.kind s image opens (law.settled old quiet s.image told image (same.stops.since image left)) in
          record { view = tree.view; opens = tree.opens; tree = tree.tree };
      last = λ new_map keep image left. has_tree mode.kind s image opens
          (law.settled old quiet s.image told image (same.stops.since image (law.earlier new (d.moment old) (d.moment new) image same.stops.later left)));
      still = λ there leave image left. law.settled old quiet s.image told image (same.stops.since image left);
      rest = λ leave image left. law.settled old quiet s.image told image (same.stops.since image (law.earlier new (d.moment old) (d.moment new) image same.stops.later left));
      along = λ plain there image left. asked_first host_line_of mode s opens _ [] [] image (law.settled old quiet s.image told image (same.stops.since image left));
      ending = λ plain image left.
          host_ends_same host_line_of mode.kind s opens _ image (law.settled old quiet s.image told image (same.stops.since image (law.earlier new (d.moment old) (d.moment new) image same.stops.later left)));
      during = λ safe there image left. before_first mode s opens _ [] [] [] files image (law.settled old quiet s.image told image (same.stops.since image left));
      exit = λ safe image left. asked_around mode s _ [] image host_line_of [] [] files s (whole_replies 0 []) (whole_most 0 []) refl
          (asked_before host_line_of mode s _ [] files image (has_tree mode.kind s image opens
          (law.settled old quiet s.image told image (same.stops.since image (law.earlier new (d.moment old) (d.moment new) image same.stops.later left)))));
    };
  }

  not_opened : (s : State) → d.bytes old ≡ Some s.image → IsUnwritten d old new → HasNotBegun d old new false s []
  not_opened s told same = record { told = refl; holds = same.bytes_stay ∙ told; stops = λ there. same.stops }

  -- An I/O error of the disk came before the first line,
  pub moves_fault : Accepts → (read_only safe : Bool) (image script : List ℕ) → d.bytes old ≡ Some image → IsUnwritten d old new
      → MovesByOpening d old new read_only safe false files files [] image script [] (open_image image) DiskFault
  moves_fault accepts read_only safe image script told same = by (open_image image) refl
    where
      spares : spares_disk Cause.Disk ≡ true → (d.pending new ≡ false) ⊎ (new ≡ old)
      spares e = absurd (no_fresh e)

      suiting : (v : Opened) → open_image image ≡ Ok v → (unsuited : Bool) → MovesBySuiting d old new (mode_of v.kind read_only safe) false (record { image = image; view = v }) files files [] script [] unsuited DiskFault
      suiting v e true = (inl (not_opened (record { image = image; view = v }) told same), (refl, refl))
      suiting v e false = inl (not_moved (mode_of v.kind read_only safe) (record { image = image; view = v }) script Cause.Disk told (accepts image v e) same spares)

      by : (o : Result Opened ImageFault) → open_image image ≡ o → MovesByOpening d old new read_only safe false files files [] image script [] o DiskFault
      by (Err fault) e = (no_run d old new [] same, (refl, refl))
      by (Ok v) e = suiting v e (is_unsuited safe v)

  -- or out of memory did.
  pub moves_memory : Accepts → (read_only safe : Bool) (image script : List ℕ) → d.bytes old ≡ Some image → IsUnwritten d old new → (d.pending new ≡ false) ⊎ (new ≡ old)
      → MovesByOpening d old new read_only safe false files files [] image script [] (open_image image) NoMemory
  moves_memory accepts read_only safe image script told same settled = by (open_image image) refl
    where
      suiting : (v : Opened) → open_image image ≡ Ok v → (unsuited : Bool) → MovesBySuiting d old new (mode_of v.kind read_only safe) false (record { image = image; view = v }) files files [] script [] unsuited NoMemory
      suiting v e true = (inl (not_opened (record { image = image; view = v }) told same), (refl, refl))
      suiting v e false = inl (not_moved (mode_of v.kind read_only safe) (record { image = image; view = v }) script Cause.Memory told (accepts image v e) same (λ spares. settled))

      by : (o : Result Opened ImageFault) → open_image image ≡ o → MovesByOpening d old new read_only safe false files files [] image script [] o NoMemory
      by (Err fault) e = (no_run d old new [] same, (refl, refl))
      by (Ok v) e = suiting v e (is_unsuited safe v)

-- lines that were served
pub moves_end : {D : Type 0} (d : Ghosts D) (old new : D) (mode : Mode) (s : State) (script : List ℕ) (before after : Option (List ℕ)) (asked : List Asked) (files left : Option Files) (result : Result Tally MoveFault)
    → LinesMove d old new mode s script before after asked files left result
    → (text : List ℕ) × Wrote before after text × MovesOver d old new mode false s files left asked script text (move_end result)
moves_end d old new mode s script before after asked files left (Ok tally) x = (x.0, x.1, by (has_refused tally) x.2)
  where
    by : (refused : Bool) → AskedHasRun d host_line_of old new mode false s files left asked script x.0 refused
        → MovesOver d old new mode false s files left asked script x.0 (end_after refused)
    by true has = has
    by false has = has
moves_end d old new mode s script before after asked files left (Err moves.Disk) x = (x.0, x.1, inl x.2)
moves_end d old new mode s script before after asked files left (Err moves.Out) x = (x.0, x.1, x.2)
moves_end d old new mode s script before after asked files left (Err moves.Host) x = (x.0, x.1, x.2)
moves_end d old new mode s script before after asked files left (Err moves.NoMemory) x = (x.0, x.1, inl x.2)

-- ---- the disk as it was

-- out of memory before the image was asked for
pub moves_memory_giving : {D : Type 0} {d : Ghosts D} (law : Laws d) (disk : D) (files : Option Files) → Accepts → (r : Request) (image script : List ℕ) (given : Bool) → d.bytes disk ≡ Some image
    → MovesByGiving d disk disk r files files [] image script [] given NoMemory
moves_memory_giving law disk files accepts r image script false told = (none law disk, (refl, refl))
moves_memory_giving {d = d} law disk files accepts r image script true told = by r.new refl
  where
    suiting : (mode : Mode) (s : State) (unsuited : Bool) → MovesBySuiting d disk disk mode true s files files [] script [] unsuited NoMemory
    suiting mode s true = (inr (refl, refl, refl), (refl, refl))
    suiting mode s false = inr ((refl, refl, refl), (refl, refl))

    made : (o : Result Opened ImageFault) (fresh : List ℕ) → MovesByOpening d disk disk r.read_only r.safe true files files [] fresh script [] o NoMemory
    made (Err fault) fresh = (none law disk, (refl, refl))
    made (Ok v) fresh = suiting (mode_of v.kind r.read_only r.safe) (record { image = fresh; view = v }) (is_unsuited r.safe v)

    by : (new : Option Word) → r.new ≡ new
        → MovesByOpening d disk disk r.read_only r.safe (is_some new) files files [] (image_for new image) script [] (open_image (image_for new image)) NoMemory
    by None e = moves_memory law disk disk files accepts r.read_only r.safe image script told (same_unwritten law disk) (inr refl)
    by (Some f) e = made (open_image (image_for (Some f) image)) (image_for (Some f) image)

-- The image couldn't be attached.
module _ {D : Type 0} {d : Ghosts D} (law : Laws d) (r : Request) (old new : D) (same : r.new ≡ None → IsUnwritten d old new) (accepts : Accepts) (fresh : FreshLaw) (image script : List ℕ) (files : Option Files) where
  without : (new' : Option Word) → r.new ≡ new' → EndsWithout d old new (is_some new') [] DiskFault
  without None is = inl (no_run d old new [] (same is))
  without (Some f) is = inr (refl, refl)

  made_so : (mode : Mode) (s : State) (unsuited : Bool) → MovesBySuiting d old new mode true s files files [] script [] unsuited DiskFault
  made_so mode s true = (inr (refl, refl), (refl, refl))
  made_so mode s false = inr ((refl, refl), (refl, refl))

  made : (o : Result Opened ImageFault) (v : Opened) (there : List ℕ) → o ≡ Ok v → MovesByOpening d old new r.read_only r.safe true files files [] there script [] o DiskFault
  made o v there is = subst (λ (x : Result Opened ImageFault). MovesByOpening d old new r.read_only r.safe true files files [] there script [] x DiskFault) (sym is)
      (made_so (mode_of v.kind r.read_only r.safe) (record { image = there; view = v }) (is_unsuited r.safe v))

  opened : (new' : Option Word) → r.new ≡ new' → d.bytes old ≡ Some image
      → MovesByOpening d old new r.read_only r.safe (is_some new') files files [] (image_for new' image) script [] (open_image (image_for new' image)) DiskFault
  opened None is told = moves_fault law old new files accepts r.read_only r.safe image script told (same is)
  opened (Some f) is told = let there = fresh_opens fresh (Some f) image refl in made (open_image (image_for (Some f) image)) there.0 (image_for (Some f) image) there.1

  pub moves_attach_fault : (given : Bool) → d.bytes old ≡ Some image → MovesByGiving d old new r files files [] image script [] given DiskFault
  moves_attach_fault false told = (without r.new refl, (refl, refl))
  moves_attach_fault true told = opened r.new refl told

-- ---- a host that tells its files

pub over_told : {D : Type 0} (d : Ghosts D) (old new : D) (mode : Mode) (fresh : Bool) (s : State) (files left : Option Files) (asked : List Asked) (script text : List ℕ) (end : End)
    → MovesOver d old new mode fresh s files left asked script text end → ToldOver d old new mode fresh s files left script text end
over_told d old new mode fresh s files left asked script text Done x = run_told d host_line_of old new mode fresh s files left asked script text false x
over_told d old new mode fresh s files left asked script text Refused x = run_told d host_line_of old new mode fresh s files left asked script text true x
over_told d old new mode fresh s files left asked script text DiskFault (inl x) = inl (stop_told d host_line_of old new mode fresh s files left asked script text Cause.Disk x)
over_told d old new mode fresh s files left asked script text DiskFault (inr x) = inr (x.0, x.1.1)
over_told d old new mode fresh s files left asked script text OutFault x = stop_told d host_line_of old new mode fresh s files left asked script text Cause.Out x
over_told d old new mode fresh s files left asked script text HostFault x = stop_told d host_line_of old new mode fresh s files left asked script text Cause.Host x
over_told d old new mode fresh s files left asked script text NoMemory (inl x) = inl (stop_told d host_line_of old new mode fresh s files left asked script text Cause.Memory x)
over_told d old new mode fresh s files left asked script text NoMemory (inr x) = inr (x.0, x.1.1)
over_told d old new mode fresh s files left asked script text ScriptFault x = x.1.1
over_told d old new mode fresh s files left asked script text BadWords x = absurd x
over_told d old new mode fresh s files left asked script text (BadImage fault) x = absurd x
over_told d old new mode fresh s files left asked script text ScriptTooLong x = absurd x
over_told d old new mode fresh s files left asked script text NotSafe x = absurd x
over_told d old new mode fresh s files left asked script text NoImage x = absurd x

-- ---- ends

pub late_move : (result : Result Tally MoveFault) → is_late (move_end result) ≡ true
late_move (Ok tally) = late_refused (has_refused tally)
late_move (Err moves.Disk) = refl
late_move (Err moves.Out) = refl
late_move (Err moves.Host) = refl
late_move (Err moves.NoMemory) = refl

not_last : (refused : Bool) (end : End) → end_after refused ≡ end → (end ≡ Done) ⊎ (end ≡ Refused)
not_last true end is = inr (sym is)
not_last false end is = inl (sym is)

pub disk_move : (result : Result Tally MoveFault) → move_end result ≡ DiskFault → result ≡ Err MoveFault.Disk
disk_move (Ok tally) e = absurd (⊎_elim (λ is. cc) (λ is. cc) (not_last (has_refused tally) DiskFault e))
disk_move (Err moves.Disk) e = refl
disk_move (Err moves.Out) e = absurd (cc)
disk_move (Err moves.Host) e = absurd (cc)
disk_move (Err moves.NoMemory) e = absurd (cc)

pub out_move : (result : Result Tally MoveFault) → move_end result ≡ OutFault → result ≡ Err MoveFault.Out
out_move (Ok tally) e = absurd (⊎_elim (λ is. cc) (λ is. cc) (not_last (has_refused tally) OutFault e))
out_move (Err moves.Disk) e = absurd (cc)
out_move (Err moves.Out) e = refl
out_move (Err moves.Host) e = absurd (cc)
out_move (Err moves.NoMemory) e = absurd (cc)

pub host_move : (result : Result Tally MoveFault) → move_end result ≡ HostFault → result ≡ Err MoveFault.Host
host_move (Ok tally) e = absurd (⊎_elim (λ is. cc) (λ is. cc) (not_last (has_refused tally) HostFault e))
host_move (Err moves.Disk) e = absurd (cc)
host_move (Err moves.Out) e = absurd (cc)
host_move (Err moves.Host) e = refl
host_move (Err moves.NoMemory) e = absurd (cc)

-- Lines that were served don't end so.
pub unsafe_move : (result : Result Tally MoveFault) → move_end result ≡ NotSafe → ⊥
unsafe_move (Ok tally) e = absurd (⊎_elim (λ is. cc) (λ is. cc) (not_last (has_refused tally) NotSafe e))
unsafe_move (Err moves.Disk) e = absurd (cc)
unsafe_move (Err moves.Out) e = absurd (cc)
unsafe_move (Err moves.Host) e = absurd (cc)
unsafe_move (Err moves.NoMemory) e = absurd (cc)

-- ---- by whether the safe mode serves the volume

pub moves_suited : {D : Type 0} (d : Ghosts D) (old new : D) (mode : Mode) (s : State) (files left : Option Files) (asked : List Asked) (script text : List ℕ) (unsuited : Bool) (end : End) → unsuited ≡ false
    → MovesOver d old new mode false s files left asked script text end → MovesBySuiting d old new mode false s files left asked script text unsuited end
moves_suited d old new mode s files left asked script text unsuited end is x = subst (λ (b : Bool). MovesBySuiting d old new mode false s files left asked script text b end) (sym is) x

pub moves_unsuited : {D : Type 0} {d : Ghosts D} (law : Laws d) (disk : D) (mode : Mode) (s : State) (files : Option Files) (script : List ℕ) (unsuited : Bool) → unsuited ≡ true → d.bytes disk ≡ Some s.image → d.pending disk ≡ false
    → MovesBySuiting d disk disk mode false s files files [] script [] unsuited NotSafe
moves_unsuited {d = d} law disk mode s files script unsuited is told quiet =
    subst (λ (b : Bool). MovesBySuiting d disk disk mode false s files files [] script [] b NotSafe) (sym is)
    (record { told = refl; holds = told; settled = quiet; stops = λ there. started law disk (d.left_since disk (d.moment disk)) (λ image left. left) }, (refl, refl))
