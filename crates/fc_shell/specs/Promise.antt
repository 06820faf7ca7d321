-- What a run promises, by how it ends, if the contents of disk, source and sink are known. The script is that of the run, a demo's too.
use Rattle.std.specs.Prelude.{◌≡◌, ◌⊎◌, ℕ, Bool, true, false, nat_lt, List, [], length, take, Option, Some, None, is_some, Result, Ok, Err}
use Rattle.fc_device.specs.declared.disk.Disk.{Ghosts}
use Rattle.fc_device.specs.Calls.{StopsAsBefore}
use Rattle.fc_image.specs.effects.Effect.{State}
use Rattle.fc_image.specs.declared.ImageFault.{ImageFault}
use Rattle.fc_image.specs.Opening.{Opened, open_image}
use Rattle.fc_runs.specs.Promises.{Cause, HasBrokenOff, HasNoRun, HasNotSuited, HasRun, IsUnmade}
use Rattle.fc_runs.specs.Replies.{bad_image_line}
use Rattle.fc_runs.specs.Run.{Mode}
use Rattle.fc_words.specs.CommandLine.{Request}
use Rattle.fc_shell.specs.declared.ending.End.{End}
use Rattle.fc_shell.specs.declared.ending.End.TheVariants.{Done, Refused, BadWords, BadImage, DiskFault, ScriptFault, OutFault, NoMemory, ScriptTooLong, NotSafe, NoImage}
use Rattle.fc_shell.specs.Modes.{is_unsuited, mode_of}
use Rattle.fc_shell.specs.Replies.{blank_size, image_for, script_limit}

-- The run ended before an image was asked for: for this reason, by an I/O error of the script, or out of memory.
abbrev pub EndsBefore : {D : Type 0} → Ghosts D → D → D → End → List ℕ → End → Type 0
EndsBefore d old new reason text end = ((end ≡ reason) ⊎ ((end ≡ ScriptFault) ⊎ (end ≡ NoMemory))) × HasNoRun d old new [] text

-- The disk doesn't give the image.
abbrev pub EndsWithout : {D : Type 0} → Ghosts D → D → D → Bool → List ℕ → End → Type 0
EndsWithout d old new fresh text NoImage = HasNoRun d old new [] text
EndsWithout d old new fresh text ScriptFault = HasNoRun d old new [] text
EndsWithout d old new fresh text NoMemory = HasNoRun d old new [] text
EndsWithout d old new fresh text DiskFault = HasNoRun d old new [] text ⊎ IsUnmade fresh Cause.Disk old new text
EndsWithout d old new fresh text end = ⊥

-- The image isn't accepted: this is its first fault.
abbrev pub EndsOnFault : {D : Type 0} → Ghosts D → D → D → ImageFault → List ℕ → End → Type 0
EndsOnFault d old new fault text (BadImage found) = (found ≡ fault) × HasNoRun d old new (bad_image_line fault) text
EndsOnFault d old new fault text ScriptFault = HasNoRun d old new [] text
EndsOnFault d old new fault text DiskFault = HasNoRun d old new [] text
EndsOnFault d old new fault text NoMemory = HasNoRun d old new [] text
EndsOnFault d old new fault text OutFault = (n : ℕ) × HasNoRun d old new (take n (bad_image_line fault)) text
EndsOnFault d old new fault text end = ⊥

-- The image is accepted, and opens as s: its lines are steps from s on, whose replies were written, or with a demo the one line over
-- them.
abbrev pub EndsOver : {D : Type 0} → Ghosts D → D → D → Mode → Bool → Option ℕ → State → List ℕ → List ℕ → End → Type 0
EndsOver d old new mode fresh demo s script text Done = HasRun d old new mode fresh demo s script text false
EndsOver d old new mode fresh demo s script text Refused = HasRun d old new mode fresh demo s script text true
EndsOver d old new mode fresh demo s script text ScriptFault = HasNoRun d old new [] text
EndsOver d old new mode fresh demo s script text DiskFault = HasBrokenOff d old new mode fresh demo s script text Cause.Disk
EndsOver d old new mode fresh demo s script text OutFault = HasBrokenOff d old new mode fresh demo s script text Cause.Out
EndsOver d old new mode fresh demo s script text NoMemory = HasBrokenOff d old new mode fresh demo s script text Cause.Memory
EndsOver d old new mode fresh demo s script text end = ⊥

-- No line was begun, and nothing written. The image opened as s, or was made so.
pub record HasNotBegun {D : Type 0} (d : Ghosts D) (old new : D) (fresh : Bool) (s : State) (text : List ℕ) : Type 0 where
  pub told : text ≡ []
  pub holds : d.bytes new ≡ Some s.image
  pub stops : fresh ≡ false → StopsAsBefore d old new

-- The image is accepted, and opens as s, which the safe mode doesn't serve.
abbrev pub EndsUnsuited : {D : Type 0} → Ghosts D → D → D → Bool → State → List ℕ → End → Type 0
EndsUnsuited d old new fresh s text NotSafe = HasNotSuited d old new fresh s text
EndsUnsuited d old new fresh s text ScriptFault = HasNoRun d old new [] text
EndsUnsuited d old new fresh s text DiskFault = HasNotBegun d old new fresh s text ⊎ IsUnmade fresh Cause.Disk old new text
EndsUnsuited d old new fresh s text NoMemory = HasNotBegun d old new fresh s text ⊎ IsUnmade fresh Cause.Memory old new text
EndsUnsuited d old new fresh s text end = ⊥

-- by whether the safe mode was asked for and doesn't serve it
abbrev pub EndsBySuiting : {D : Type 0} → Ghosts D → D → D → Mode → Bool → Option ℕ → State → List ℕ → List ℕ → Bool → End → Type 0
EndsBySuiting d old new mode fresh demo s script text true end = EndsUnsuited d old new fresh s text end
EndsBySuiting d old new mode fresh demo s script text false end = EndsOver d old new mode fresh demo s script text end

-- by what the image opens as; the run may be read-only, and in the safe mode
abbrev pub EndsByOpening : {D : Type 0} → Ghosts D → D → D → Bool → Bool → Bool → Option ℕ → List ℕ → List ℕ → List ℕ → Result Opened ImageFault → End → Type 0
EndsByOpening d old new read_only safe fresh demo image script text (Err fault) end = EndsOnFault d old new fault text end
EndsByOpening d old new read_only safe fresh demo image script text (Ok v) end =
    EndsBySuiting d old new (mode_of v.kind read_only safe) fresh demo (record { image = image; view = v }) script text (is_unsuited safe v) end

-- by whether the disk gives the image that the words ask for: the one that is there, or a fresh one
abbrev pub EndsByGiving : {D : Type 0} → Ghosts D → D → D → Request → List ℕ → List ℕ → List ℕ → Bool → End → Type 0
EndsByGiving d old new r image script text false end = EndsWithout d old new (is_some r.new) text end
EndsByGiving d old new r image script text true end =
    EndsByOpening d old new r.read_only r.safe (is_some r.new) r.demo (image_for r.new image) script text (open_image (image_for r.new image)) end

-- by whether the script is too long
abbrev pub EndsByLength : {D : Type 0} → Ghosts D → D → D → (List ℕ → Option ℕ → Bool) → Request → List ℕ → List ℕ → List ℕ → Bool → End → Type 0
EndsByLength d old new gives r image script text true end = EndsBefore d old new ScriptTooLong text end
EndsByLength d old new gives r image script text false end = EndsByGiving d old new r image script text (gives r.image (blank_size r)) end

-- What a run promises of the disk and of the text that it wrote, by the words.
abbrev pub Promise : {D : Type 0} → Ghosts D → D → D → (List ℕ → Option ℕ → Bool) → List ℕ → List ℕ → List ℕ → Option Request → End → Type 0
Promise d old new gives image script text None end = EndsBefore d old new BadWords text end
Promise d old new gives image script text (Some r) end = EndsByLength d old new gives r image script text (nat_lt script_limit (length script)) end
