-- A run whose lines may move files, before and after its image is attached.
use Rattle.std.proofs.Common.{◌≡◌, ◌<◌, ◌≤◌, ◌⊎◌, inl, inr, ℕ, nat_lt, Bool, true, false, List, [], length, Option, Some, None, Result, Ok, Err, refl, sym, ap, subst, ◌∙◌, arith}
use Rattle.std.specs.Prelude.{is_some}
use Rattle.std.proofs.lemmas.Bool.Decides.{nat_tests}
use Rattle.std.proofs.lemmas.List.{append-nil}
use Rattle.fc_device.specs.declared.disk.Disk.{Ghosts}
use Rattle.fc_device.proofs.DiskLaws.{Laws}
use Rattle.fc_host.specs.Asked.{Asked}
use Rattle.fc_host.specs.Files.{Files}
use Rattle.fc_host.specs.declared.host.Host.{Ghosts as Hosts}
use Rattle.fc_image.specs.declared.ImageFault.{ImageFault}
use Rattle.fc_image.specs.Opening.{Opened, open_image}
use Rattle.fc_image.specs.effects.Effect.{State}
use Rattle.fc_runs.specs.Run.{Mode, commands_in}
use Rattle.fc_shell.specs.Modes.{is_unsuited, mode_of}
use Rattle.fc_words.specs.CommandLine.{Request}
use Rattle.fc_image.specs.Laws.{AcceptedLaw as Accepts}
use Rattle.fc_shell.specs.declared.ending.End.{End}
use Rattle.fc_shell.specs.declared.ending.End.TheVariants.{BadImage, OutFault, HostFault, NoImage, NoMemory, ScriptFault, ScriptTooLong}
use Rattle.fc_shell.specs.Ends.{is_late_alone}
use Rattle.fc_shell.specs.HostPromise.{HostKeeps, HostPromise, HostRunSpares, MovesByDemo, MovesByGiving, MovesByLength, MovesByOpening, MovesBySuiting, script_spares}
use Rattle.fc_shell.specs.Moving.{HostSpares}
use Rattle.fc_shell.specs.Reads.{Spares, only_reads}
use Rattle.fc_shell.specs.Replies.{blank_size, image_for, script_limit}
use Rattle.fc_shell.proofs.HostPromiseLemmas.{moves_memory_giving}
use Rattle.fc_shell.proofs.PromiseLemmas.{memory_giving, no_fresh, none}

-- ---- nothing was asked of the host

pub host_idle : {H : Type 0} (h : Hosts H) (told : Option (List ℕ)) (script : List ℕ) (host : H) (end : End) → ((text : List ℕ) → told ≡ Some text → script ≡ text) → (end ≡ HostFault → ⊥)
    → HostKeeps h told host host end
host_idle h told script host end known never = record {
  asked = [];
  asks = sym (append-nil (h.asked host));
  script = script;
  known = known;
  lines = ([], refl, tt);
  later = omega arith;
  fault = λ e. absurd (never e);
}

-- some script, the known one
pub idle_script : (told : Option (List ℕ)) → (script : List ℕ) × ((text : List ℕ) → told ≡ Some text → script ≡ text)
idle_script None = ([], λ text is. absurd (cc))
idle_script (Some script) = (script, λ text is. cc)

pub host_idle_told : {H : Type 0} (h : Hosts H) (told : Option (List ℕ)) (host : H) (end : End) → (end ≡ HostFault → ⊥) → HostKeeps h told host host end
host_idle_told h told host end never = let script = idle_script told in host_idle h told script.0 host end script.1 never

pub told_no_host : (fault : ImageFault) (result : End) → (result ≡ BadImage fault) ⊎ ((result ≡ OutFault) ⊎ (result ≡ NoMemory)) → result ≡ HostFault → ⊥
told_no_host fault result (inl is) e = absurd (cc)
told_no_host fault result (inr (inl is)) e = absurd (cc)
told_no_host fault result (inr (inr is)) e = absurd (cc)

pub alone_no_host : (result : End) → (is_late_alone result ≡ true) ⊎ (result ≡ NoImage) → result ≡ HostFault → ⊥
alone_no_host result (inl late) e = no_fresh (sym (ap is_late_alone e) ∙ late)
alone_no_host result (inr none) e = absurd (let clash : (let end : End = NoImage in end) ≡ HostFault = sym none ∙ e in cc)

-- the script that was read is the known one
pub host_read : {H : Type 0} (h : Hosts H) (told : Option (List ℕ)) (script : List ℕ) (before after : H) (end : End) → ((text : List ℕ) → told ≡ Some text → script ≡ text)
    → HostKeeps h (Some script) before after end → HostKeeps h told before after end
host_read h told script before after end known keeps = record {
  asked = keeps.asked;
  asks = keeps.asks;
  script = keeps.script;
  known = λ text is. keeps.known script refl ∙ known text is;
  lines = keeps.lines;
  later = keeps.later;
  fault = keeps.fault;
}

-- ---- what a told script spares

pub told_host_spares : (r : Request) (told : Option (List ℕ)) (text : List ℕ) → r.demo ≡ None → ((other : List ℕ) → told ≡ Some other → text ≡ other) → HostRunSpares r told
    → HostSpares r.read_only (commands_in text)
told_host_spares r told text plain is (inl locked) = inl locked
told_host_spares r told text plain is (inr x) =
    inr (subst (λ (t : List ℕ). script_spares None t ≡ true) (sym (is x.0 x.1)) (subst (λ (demo : Option ℕ). script_spares demo x.0 ≡ true) plain x.2))

pub told_demo_spares : (r : Request) (told : Option (List ℕ)) (text : List ℕ) (n : ℕ) → r.demo ≡ Some n → ((other : List ℕ) → told ≡ Some other → text ≡ other) → HostRunSpares r told
    → Spares r.read_only (commands_in text)
told_demo_spares r told text n demo is (inl locked) = inl locked
told_demo_spares r told text n demo is (inr x) =
    inr (subst (λ (t : List ℕ). only_reads t ≡ true) (sym (is x.0 x.1)) (subst (λ (o : Option ℕ). script_spares o x.0 ≡ true) demo x.2))

-- ---- before the image is asked for

module _ {D : Type 0} {d : Ghosts D} (law : Laws d) (accepts : Accepts) (disk : D) (gives : List ℕ → Option ℕ → Bool) (files : Option Files) (image script : List ℕ) (told : d.bytes disk ≡ Some image) where
  memory_demo : (r : Request) (given : Bool) (demo : Option ℕ) → MovesByDemo d disk disk r files files [] image script [] given demo NoMemory
  memory_demo r given (Some n) = (memory_giving law disk accepts r image script given told, (refl, refl))
  memory_demo r given None = moves_memory_giving law disk files accepts r image script given told

  memory_length : (r : Request) (long : Bool) → MovesByLength d disk disk gives r files files [] image script [] long NoMemory
  memory_length r true = ((inr (inr refl), none law disk), (refl, refl))
  memory_length r false = memory_demo r (gives r.image (blank_size r)) r.demo

  pub host_memory_words : (r : Request) → MovesByLength d disk disk gives r files files [] image script [] (nat_lt script_limit (length script)) NoMemory
  host_memory_words r = memory_length r (nat_lt script_limit (length script))

  pub host_memory_promise : (o : Option Request) → HostPromise d disk disk gives files files [] image script [] o NoMemory
  host_memory_promise None = ((inr (inr refl), none law disk), (refl, refl))
  host_memory_promise (Some r) = host_memory_words r

module _ {D : Type 0} {d : Ghosts D} (law : Laws d) (disk : D) (gives : List ℕ → Option ℕ → Bool) (files : Option Files) (image script : List ℕ) (r : Request) where
  fault_suiting : (mode : Mode) (s : State) (unsuited : Bool) → MovesBySuiting d disk disk mode (is_some r.new) s files files [] script [] unsuited ScriptFault
  fault_suiting mode s true = (none law disk, (refl, refl))
  fault_suiting mode s false = (none law disk, (refl, refl))

  fault_opening : (opened : Result Opened ImageFault) → MovesByOpening d disk disk r.read_only r.safe (is_some r.new) files files [] (image_for r.new image) script [] opened ScriptFault
  fault_opening (Err fault) = (none law disk, (refl, refl))
  fault_opening (Ok v) = fault_suiting (mode_of v.kind r.read_only r.safe) (record { image = image_for r.new image; view = v }) (is_unsuited r.safe v)

  fault_giving : (given : Bool) → MovesByGiving d disk disk r files files [] image script [] given ScriptFault
  fault_giving false = (none law disk, (refl, refl))
  fault_giving true = fault_opening (open_image (image_for r.new image))

  fault_length : r.demo ≡ None → (long : Bool) → MovesByLength d disk disk gives r files files [] image script [] long ScriptFault
  fault_length plain true = ((inr (inl refl), none law disk), (refl, refl))
  fault_length plain false =
      subst (λ (demo : Option ℕ). MovesByDemo d disk disk r files files [] image script [] (gives r.image (blank_size r)) demo ScriptFault) (sym plain) (fault_giving (gives r.image (blank_size r)))

  -- the source failed
  pub host_source_fault : r.demo ≡ None → MovesByLength d disk disk gives r files files [] image script [] (nat_lt script_limit (length script)) ScriptFault
  host_source_fault plain = fault_length plain (nat_lt script_limit (length script))

pub host_too_long : {D : Type 0} {d : Ghosts D} (law : Laws d) (disk : D) (gives : List ℕ → Option ℕ → Bool) (files : Option Files) (image script : List ℕ) (r : Request)
    → script_limit < length script → MovesByLength d disk disk gives r files files [] image script [] (nat_lt script_limit (length script)) ScriptTooLong
host_too_long {d = d} law disk gives files image script r long =
    let test : nat_lt script_limit (length script) ≡ true = grind (arith, nat_tests, long) in
    subst (λ (b : Bool). MovesByLength d disk disk gives r files files [] image script [] b ScriptTooLong) (sym test) ((inl refl, none law disk), (refl, refl))

pub host_script_ends : {D : Type 0} (d : Ghosts D) (old new : D) (gives : List ℕ → Option ℕ → Bool) (files left : Option Files) (asked : List Asked) (image script text : List ℕ) (r : Request) (end : End)
    → length script ≤ script_limit → MovesByDemo d old new r files left asked image script text (gives r.image (blank_size r)) r.demo end
    → MovesByLength d old new gives r files left asked image script text (nat_lt script_limit (length script)) end
host_script_ends d old new gives files left asked image script text r end short x =
    let test : nat_lt script_limit (length script) ≡ false = grind (arith, nat_tests, short) in
    subst (λ (b : Bool). MovesByLength d old new gives r files left asked image script text b end) (sym test) x
