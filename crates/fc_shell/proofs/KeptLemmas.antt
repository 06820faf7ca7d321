-- A run whose image is attached, or couldn't be.
use Rattle.std.proofs.Common.{◌≡◌, ◌<◌, ◌≤◌, ◌++◌, ◌∷◌, ◌∙◌, ap, option_map, inl, inr, ⊎_elim, ℕ, nat_lt, Bool, true, false, List, [], length, Option, Some, None, Result, Ok, refl, sym, subst, arith}
use Rattle.std.specs.Prelude.{is_some, replicate}
use Rattle.std.proofs.lemmas.Bool.Decides.{nat_tests}
use Rattle.fc_device.specs.declared.disk.Disk.{Ghosts}
use Rattle.fc_device.specs.declared.streams.Sink.{Ghosts as Sinks}
use Rattle.std.specs.Option.{ForSome}
use Rattle.fc_device.specs.Asked.{Asked}
use Rattle.fc_device.proofs.DiskLaws.{Laws}
use Rattle.fc_device.proofs.StopLemmas.{goes_on_same}
use Rattle.fc_image.specs.effects.Effect.{State}
use Rattle.fc_runs.specs.Run.{Mode, commands_in}
use Rattle.fc_shell.specs.Modes.{is_unsuited, mode_of}
use Rattle.fc_format.specs.Fresh.{format_size}
use Rattle.fc_format.specs.Opens.{FreshLaw}
use Rattle.fc_image.specs.declared.ImageFault.{ImageFault}
use Rattle.fc_image.specs.Opening.{Opened, open_image}
use Rattle.fc_words.specs.CommandLine.{Request}
use Rattle.fc_words.specs.declared.Format.{Format as Word}
use Rattle.fc_shell.specs.declared.ending.End.{End}
use Rattle.fc_shell.specs.declared.ending.End.TheVariants.{Done, Refused, BadWords, BadImage, DiskFault, ScriptFault, OutFault, NoMemory, ScriptTooLong, NotSafe, HostFault, NoImage}
use Rattle.fc_shell.specs.Reads.{Spares, only_reads}
use Rattle.fc_shell.specs.Ends.{AsksFor, is_late, is_over_image}
use Rattle.fc_shell.specs.Kept.{RunKeeps, RunSpares, SessionKeeps}
use Rattle.fc_shell.specs.Promise.{EndsByGiving, EndsByLength, EndsByOpening, EndsBySuiting, EndsWithout, Promise}
use Rattle.fc_shell.specs.Reading.{IsUnwritten}
use Rattle.fc_shell.specs.Replies.{blank_size, format_in, image_for, script_limit}
use Rattle.fc_shell.proofs.PromiseLemmas.{begun_fault, memory_giving, no_fresh, no_run, none, rose_earlier}
use Rattle.fc_image.specs.Laws.{AcceptedLaw as Accepts}

-- the same by what says as much
pub keeps_by : {D K : Type 0} (d : Ghosts D) (k : Sinks K) (r : Request) (reads less : Type 0) (old new : D) (before after : K) (end : End) → (less → reads) → RunKeeps d k r reads old new before after end
    → RunKeeps d k r less old new before after end
keeps_by d k r reads less old new before after end only keeps = record {
  asks = keeps.asks;
  given = keeps.given;
  no_image = keeps.no_image;
  not_safe = keeps.not_safe;
  disk_fault = keeps.disk_fault;
  out_fault = keeps.out_fault;
  settled = keeps.settled;
  no_memory = λ is. ⊎_elim (λ same. inl same) (λ x. inr (x.0, (λ l. x.1 (only l)), x.2)) (keeps.no_memory is);
  unwritten = λ l. keeps.unwritten (only l);
  made = λ l. keeps.made (only l);
}

-- what a told script spares
pub told_spares : (r : Request) (told : Option (List ℕ)) (text : List ℕ) → ((other : List ℕ) → told ≡ Some other → text ≡ other) → RunSpares r told → Spares r.read_only (commands_in text)
told_spares r told text is (inl locked) = inl locked
told_spares r told text is (inr x) = inr (subst (λ (t : List ℕ). only_reads t ≡ true) (sym (is x.0 x.1)) x.2)

-- ---- a run over an image

late_asks : (image : Asked) (end : End) (old new : List Asked) → is_late end ≡ true → new ≡ old ++ image ∷ [] → AsksFor image end old new
late_asks image Done old new late is = is
late_asks image Refused old new late is = is
late_asks image (BadImage fault) old new late is = is
late_asks image DiskFault old new late is = is
late_asks image OutFault old new late is = is
late_asks image NoMemory old new late is = inr is
late_asks image NotSafe old new late is = is
late_asks image NoImage old new late is = is
late_asks image HostFault old new late is = is
late_asks image BadWords old new late is = absurd (no_fresh late)
late_asks image ScriptFault old new late is = absurd (no_fresh late)
late_asks image ScriptTooLong old new late is = absurd (no_fresh late)

late_image : (end : End) → is_late end ≡ true → end ≡ NoImage → ⊥
late_image end late is = no_fresh (sym (ap is_late is) ∙ late)

over_disk : (end : End) → is_over_image end ≡ true → end ≡ DiskFault → ⊥
over_disk end over is = no_fresh (sym (ap is_over_image is) ∙ over)

module _ {D K : Type 0} {d : Ghosts D} (law : Laws d) (k : Sinks K) (r : Request) (reads : Type 0) (old mid new : D) (before after : K) (end : End) (asked : d.asked mid ≡ d.asked old ++ (r.image, blank_size r) ∷ [])
    (given : ForSome (d.gives old) (λ gives. gives r.image (blank_size r) ≡ true)) (bytes : d.bytes mid ≡ option_map (image_for r.new) (d.bytes old)) (same : r.new ≡ None → IsUnwritten d old mid)
    (faults : d.faults old ≤ d.faults mid) (keeps : SessionKeeps d k r.safe reads mid new before after end) where
  unwritten_then : IsUnwritten d mid new → r.new ≡ None → IsUnwritten d old new
  unwritten_then now there = let was = same there in
      record { bytes_stay = now.bytes_stay ∙ was.bytes_stay; stops = goes_on_same law was.stops now.stops; faults = omega (arith, was.faults, now.faults) }

  pub session_run : RunKeeps d k r reads old new before after end
  session_run = record {
    asks = late_asks (r.image, blank_size r) end (d.asked old) (d.asked new) keeps.late (keeps.asked_stays ∙ asked);
    given = λ gives is. ((λ e. absurd (late_image end keeps.late e)), (λ over. given gives is));
    no_image = λ e. absurd (late_image end keeps.late e);
    not_safe = keeps.not_safe;
    disk_fault = λ e. rose_earlier (d.faults old) (d.faults mid) (d.faults new) faults (keeps.disk_fault e);
    out_fault = keeps.out_fault;
    settled = λ over. keeps.settled (over_disk end over);
    no_memory = λ e. inr (keeps.asked_stays ∙ asked, (λ only. (keeps.unwritten only).bytes_stay ∙ bytes), keeps.settled (λ is. let clash : NoMemory ≡ DiskFault = sym e ∙ is in cc));
    unwritten = λ only. unwritten_then (keeps.unwritten only);
    made = λ only over. (keeps.unwritten only).bytes_stay ∙ bytes;
  }

pub not_made : (new : Option Word) → is_some new ≡ false → new ≡ None
not_made None is = refl
not_made (Some f) is = absurd (no_fresh (sym is))

-- a fresh image is accepted
pub fresh_opens : FreshLaw → (new : Option Word) (image : List ℕ) → is_some new ≡ true → (v : Opened) × (open_image (image_for new image) ≡ Ok v)
fresh_opens fresh None image is = absurd (no_fresh is)
fresh_opens fresh (Some f) image is = let there = fresh (format_in f) (replicate (format_size (format_in f)) 0) in (there.0, there.1)

module _ {D : Type 0} {d : Ghosts D} (law : Laws d) (r : Request) (old new : D) (same : r.new ≡ None → IsUnwritten d old new) (accepts : Accepts) (fresh : FreshLaw) (image script : List ℕ) where
  without : (new' : Option Word) → r.new ≡ new' → EndsWithout d old new (is_some new') [] DiskFault
  without None is = inl (no_run d old new [] (same is))
  without (Some f) is = inr (refl, refl)

  suited : (mode : Mode) (s : State) (unsuited : Bool) → EndsBySuiting d old new mode true r.demo s script [] unsuited DiskFault
  suited mode s true = inr (refl, refl)
  suited mode s false = inr (refl, refl)

  made : (o : Result Opened ImageFault) (v : Opened) (there : List ℕ) → o ≡ Ok v → EndsByOpening d old new r.read_only r.safe true r.demo there script [] o DiskFault
  made o v there is = subst (λ (x : Result Opened ImageFault). EndsByOpening d old new r.read_only r.safe true r.demo there script [] x DiskFault) (sym is)
      (suited (mode_of v.kind r.read_only r.safe) (record { image = there; view = v }) (is_unsuited r.safe v))

  opened : (new' : Option Word) → r.new ≡ new' → d.bytes old ≡ Some image
      → EndsByOpening d old new r.read_only r.safe (is_some new') r.demo (image_for new' image) script [] (open_image (image_for new' image)) DiskFault
  opened None is told = begun_fault law old new accepts r.read_only r.safe r.demo image script told (same is)
  opened (Some f) is told = let there = fresh_opens fresh (Some f) image refl in made (open_image (image_for (Some f) image)) there.0 (image_for (Some f) image) there.1

  -- The image couldn't be attached.
  pub attach_fault : (given : Bool) → d.bytes old ≡ Some image → EndsByGiving d old new r image script [] given DiskFault
  attach_fault false told = without r.new refl
  attach_fault true told = opened r.new refl told

-- ---- before the image is asked for

module _ {D : Type 0} {d : Ghosts D} (law : Laws d) (accepts : Accepts) (disk : D) (gives : List ℕ → Option ℕ → Bool) (image script : List ℕ) (told : d.bytes disk ≡ Some image) where
  memory_length : (r : Request) (long : Bool) → EndsByLength d disk disk gives r image script [] long NoMemory
  memory_length r true = (inr (inr refl), none law disk)
  memory_length r false = memory_giving law disk accepts r image script (gives r.image (blank_size r)) told

  pub memory_words : (r : Request) → EndsByLength d disk disk gives r image script [] (nat_lt script_limit (length script)) NoMemory
  memory_words r = memory_length r (nat_lt script_limit (length script))

  pub memory_promise : (o : Option Request) → Promise d disk disk gives image script [] o NoMemory
  memory_promise None = (inr (inr refl), none law disk)
  memory_promise (Some r) = memory_words r

pub too_long_ends : {D : Type 0} {d : Ghosts D} (law : Laws d) (disk : D) (gives : List ℕ → Option ℕ → Bool) (image script : List ℕ) (r : Request)
    → script_limit < length script → EndsByLength d disk disk gives r image script [] (nat_lt script_limit (length script)) ScriptTooLong
too_long_ends {d = d} law disk gives image script r long =
    let test : nat_lt script_limit (length script) ≡ true = grind (arith, nat_tests, long) in
    subst (λ (b : Bool). EndsByLength d disk disk gives r image script [] b ScriptTooLong) (sym test) (inl refl, none law disk)

pub script_ends : {D : Type 0} (d : Ghosts D) (old new : D) (gives : List ℕ → Option ℕ → Bool) (image script text : List ℕ) (r : Request) (end : End)
    → length script ≤ script_limit → EndsByGiving d old new r image script text (gives r.image (blank_size r)) end → EndsByLength d old new gives r image script text (nat_lt script_limit (length script)) end
script_ends d old new gives image script text r end short x =
    let test : nat_lt script_limit (length script) ≡ false = grind (arith, nat_tests, short) in
    subst (λ (b : Bool). EndsByLength d old new gives r image script text b end) (sym test) x
