-- What a run whose lines may move files of a host promises, by how it ends, if the contents of disk and source are known. `asked` is
-- what was asked of the host, and `files` and `left` are its files before and after, if it tells them.
use Rattle.std.specs.Prelude.{◌≡◌, ◌≤◌, ◌⊎◌, ◌++◌, ℕ, Bool, true, false, nat_lt, List, [], length, Option, Some, None, is_some, Result, Ok, Err}
use Rattle.std.specs.List.{list_all}
use Rattle.fc_device.specs.declared.disk.Disk.{Ghosts}
use Rattle.fc_device.specs.Faults.{Rose}
use Rattle.fc_host.specs.Asked.{Asked}
use Rattle.fc_host.specs.Files.{Files}
use Rattle.fc_host.specs.declared.host.Host.{Ghosts as Hosts}
use Rattle.fc_image.specs.effects.Effect.{State}
use Rattle.fc_image.specs.declared.ImageFault.{ImageFault}
use Rattle.fc_image.specs.Opening.{Opened, open_image}
use Rattle.fc_runs.specs.HostPromises.{AskedHasRun, AskedHasStopped, ToldRun, ToldStop}
use Rattle.fc_script.specs.HostLines.{host_line_of}
use Rattle.fc_runs.specs.Promises.{Cause, HasNoRun, IsUnmade}
use Rattle.fc_runs.specs.Run.{Mode, commands_in}
use Rattle.fc_runs.specs.Stops.{host_leaves_image}
use Rattle.fc_words.specs.CommandLine.{Request}
use Rattle.fc_shell.specs.declared.ending.End.{End}
use Rattle.fc_shell.specs.declared.ending.End.TheVariants.{Done, Refused, BadWords, DiskFault, ScriptFault, OutFault, HostFault, NoMemory, ScriptTooLong}
use Rattle.fc_shell.specs.Modes.{is_unsuited, mode_of}
use Rattle.fc_shell.specs.Moving.{ScriptAsks}
use Rattle.fc_shell.specs.Promise.{EndsBefore, EndsByGiving, EndsOnFault, EndsUnsuited, EndsWithout}
use Rattle.fc_shell.specs.Reads.{only_reads}
use Rattle.fc_shell.specs.Replies.{blank_size, image_for, script_limit}

-- Nothing was asked of the host, and its files are as they were.
abbrev pub IsIdle : Option Files → Option Files → List Asked → Type 0
IsIdle files left asked = (asked ≡ []) × (left ≡ files)

-- The image is accepted, and opens as s: its lines are steps from s on, whose replies were written.
abbrev pub MovesOver : {D : Type 0} → Ghosts D → D → D → Mode → Bool → State → Option Files → Option Files → List Asked → List ℕ → List ℕ → End → Type 0
MovesOver d old new mode fresh s files left asked script text Done = AskedHasRun d host_line_of old new mode fresh s files left asked script text false
MovesOver d old new mode fresh s files left asked script text Refused = AskedHasRun d host_line_of old new mode fresh s files left asked script text true
MovesOver d old new mode fresh s files left asked script text ScriptFault = HasNoRun d old new [] text × IsIdle files left asked
MovesOver d old new mode fresh s files left asked script text DiskFault =
    AskedHasStopped d host_line_of old new mode fresh s files left asked script text Cause.Disk ⊎ (IsUnmade fresh Cause.Disk old new text × IsIdle files left asked)
MovesOver d old new mode fresh s files left asked script text OutFault = AskedHasStopped d host_line_of old new mode fresh s files left asked script text Cause.Out
MovesOver d old new mode fresh s files left asked script text HostFault = AskedHasStopped d host_line_of old new mode fresh s files left asked script text Cause.Host
MovesOver d old new mode fresh s files left asked script text NoMemory =
    AskedHasStopped d host_line_of old new mode fresh s files left asked script text Cause.Memory ⊎ (IsUnmade fresh Cause.Memory old new text × IsIdle files left asked)
MovesOver d old new mode fresh s files left asked script text end = ⊥

-- by whether the safe mode was asked for and doesn't serve what the image opens as
abbrev pub MovesBySuiting : {D : Type 0} → Ghosts D → D → D → Mode → Bool → State → Option Files → Option Files → List Asked → List ℕ → List ℕ → Bool → End → Type 0
MovesBySuiting d old new mode fresh s files left asked script text true end = EndsUnsuited d old new fresh s text end × IsIdle files left asked
MovesBySuiting d old new mode fresh s files left asked script text false end = MovesOver d old new mode fresh s files left asked script text end

-- by what the image opens as; the run may be read-only, and in the safe mode
abbrev pub MovesByOpening : {D : Type 0} → Ghosts D → D → D → Bool → Bool → Bool → Option Files → Option Files → List Asked → List ℕ → List ℕ → List ℕ → Result Opened ImageFault → End → Type 0
MovesByOpening d old new read_only safe fresh files left asked image script text (Err fault) end = EndsOnFault d old new fault text end × IsIdle files left asked
MovesByOpening d old new read_only safe fresh files left asked image script text (Ok v) end =
    MovesBySuiting d old new (mode_of v.kind read_only safe) fresh (record { image = image; view = v }) files left asked script text (is_unsuited safe v) end

-- by whether the disk gives the image that the words ask for
abbrev pub MovesByGiving : {D : Type 0} → Ghosts D → D → D → Request → Option Files → Option Files → List Asked → List ℕ → List ℕ → List ℕ → Bool → End → Type 0
MovesByGiving d old new r files left asked image script text false end = EndsWithout d old new (is_some r.new) text end × IsIdle files left asked
MovesByGiving d old new r files left asked image script text true end =
    MovesByOpening d old new r.read_only r.safe (is_some r.new) files left asked (image_for r.new image) script text (open_image (image_for r.new image)) end

-- a demo moves no files
abbrev pub MovesByDemo : {D : Type 0} → Ghosts D → D → D → Request → Option Files → Option Files → List Asked → List ℕ → List ℕ → List ℕ → Bool → Option ℕ → End → Type 0
MovesByDemo d old new r files left asked image script text given (Some n) end = EndsByGiving d old new r image script text given end × IsIdle files left asked
MovesByDemo d old new r files left asked image script text given None end = MovesByGiving d old new r files left asked image script text given end

-- by whether the script is too long
abbrev pub MovesByLength : {D : Type 0} → Ghosts D → D → D → (List ℕ → Option ℕ → Bool) → Request → Option Files → Option Files → List Asked → List ℕ → List ℕ → List ℕ → Bool → End → Type 0
MovesByLength d old new gives r files left asked image script text true end = EndsBefore d old new ScriptTooLong text end × IsIdle files left asked
MovesByLength d old new gives r files left asked image script text false end =
    MovesByDemo d old new r files left asked image script text (gives r.image (blank_size r)) r.demo end

-- What a run promises of the disk, of the host and of the text that it wrote, by the words.
abbrev pub HostPromise : {D : Type 0} → Ghosts D → D → D → (List ℕ → Option ℕ → Bool) → Option Files → Option Files → List Asked → List ℕ → List ℕ → List ℕ → Option Request → End → Type 0
HostPromise d old new gives files left asked image script text None end = EndsBefore d old new BadWords text end × IsIdle files left asked
HostPromise d old new gives files left asked image script text (Some r) end =
    MovesByLength d old new gives r files left asked image script text (nat_lt script_limit (length script)) end

-- ---- a host that tells its files

-- Lines as steps with the files of the host.
abbrev pub ToldOver : {D : Type 0} → Ghosts D → D → D → Mode → Bool → State → Option Files → Option Files → List ℕ → List ℕ → End → Type 0
ToldOver d old new mode fresh s files left script text Done = ToldRun d host_line_of old new mode fresh s files left script text false
ToldOver d old new mode fresh s files left script text Refused = ToldRun d host_line_of old new mode fresh s files left script text true
ToldOver d old new mode fresh s files left script text DiskFault = ToldStop d host_line_of old new mode fresh s files left script text Cause.Disk ⊎ (IsUnmade fresh Cause.Disk old new text × (left ≡ files))
ToldOver d old new mode fresh s files left script text OutFault = ToldStop d host_line_of old new mode fresh s files left script text Cause.Out
ToldOver d old new mode fresh s files left script text HostFault = ToldStop d host_line_of old new mode fresh s files left script text Cause.Host
ToldOver d old new mode fresh s files left script text NoMemory = ToldStop d host_line_of old new mode fresh s files left script text Cause.Memory ⊎ (IsUnmade fresh Cause.Memory old new text × (left ≡ files))
ToldOver d old new mode fresh s files left script text end = left ≡ files

-- ---- what holds whatever is known

-- The lines of a script write nothing: each reads or copies a file to the host. Those of a demo are commands alone.
abbrev pub script_spares : Option ℕ → List ℕ → Bool
script_spares None text = list_all (λ line. host_leaves_image false (host_line_of line)) (commands_in text)
script_spares (Some n) text = only_reads text

-- Nothing is written over an image that is there: it may not be changed, or the script, which is known, writes nothing.
abbrev pub HostRunSpares : Request → Option (List ℕ) → Type 0
HostRunSpares r told = (r.read_only ≡ true) ⊎ ((text : List ℕ) × (told ≡ Some text) × (script_spares r.demo text ≡ true))

-- What was asked of the host was so for each line of some script in turn, the known one if it is known; and a failure is the host's
-- only if its count of faults rose.
pub record HostKeeps {H : Type 0} (h : Hosts H) (told : Option (List ℕ)) (before after : H) (end : End) : Type 0 where
  pub asked : List Asked
  pub asks : h.asked after ≡ h.asked before ++ asked
  pub script : List ℕ
  pub known : (text : List ℕ) → told ≡ Some text → script ≡ text
  pub lines : ScriptAsks script asked
  pub later : h.faults before ≤ h.faults after
  pub fault : end ≡ HostFault → Rose (h.faults before) (h.faults after)
