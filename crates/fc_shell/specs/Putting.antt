-- A `put` whose path is accepted: the length of its file, the bytes that are saved, and the reply.
use Rattle.std.specs.Prelude.{◌≡◌, ◌≤◌, ◌<◌, ◌⊎◌, ℕ, Bool, true, false, List, [], ◌∷◌, ◌++◌, length, Option, Some, None, Result, Ok, Err, IfErr, OnOk}
use Rattle.std.specs.Option.{ForSome}
use Rattle.fc_device.specs.declared.disk.Disk.{Ghosts}
use Rattle.fc_device.specs.declared.streams.Sink.{Ghosts as Sinks}
use Rattle.fc_device.specs.Calls.{SameForm, StopsAndExitsLeave}
use Rattle.fc_device.specs.Faults.{Rose}
use Rattle.fc_device.specs.Stops.{LeavesOnly}
use Rattle.fc_host.specs.declared.host.Host.{Ghosts as Hosts}
use Rattle.fc_host.specs.Asked.{Asked}
use Rattle.fc_host.specs.Files.{Files, bytes_of, size_of}
use Rattle.fc_host.specs.HostSupplies.{Giving, Goes}
use Rattle.fc_host.specs.Looks.{LooksAt, Takes}
use Rattle.fc_host.specs.Supplies.{IsGivenOf}
use Rattle.fc_host.specs.declared.asks.HostCall.TheVariants as calls
use Rattle.fc_names.specs.declared.refusal.Refusal.{Refusal}
use Rattle.fc_names.specs.declared.refusal.Refusal.TheVariants as refusals
use Rattle.fc_model.specs.Command.{Command}
use Rattle.fc_script.specs.Texts.{ok_line}
use Rattle.fc_runs.specs.HostRun.{longest_file}
use Rattle.fc_runs.specs.Meanwhile.{GoesOn}
use Rattle.fc_holdings.specs.declared.error.CommandError.TheVariants.{DiskFault}
use Rattle.fc_holdings.specs.Answers.{UnlessFault}
use Rattle.fc_commands.specs.Answers.{AnswersOver}
use Rattle.fc_commands.specs.Judgments.{CommandLeaves}
use Rattle.fc_commands.specs.Given.{OpensAlikeOf, UnlessDiskFault, as_held, filled}
use Rattle.fc_commands.specs.Promises.{HasChanged, WritesPlacesOf}
use Rattle.fc_commands.specs.declared.given.GivenError.{GivenError}
use Rattle.fc_volume.specs.Volume.{StandsFor, Volume, parts_of}
use Rattle.fc_shell.specs.declared.answer.LineFault.{LineFault}
use Rattle.fc_shell.specs.declared.moving.MoveFault.{MoveFault}
use Rattle.fc_shell.specs.Answered.{Answered, OnlyTells}
use Rattle.fc_shell.specs.Changing.{TellsError}
use Rattle.fc_shell.specs.Line.{IsReady}
use Rattle.fc_shell.specs.MoveFaults.{moved_result}

-- ---- the length of the file

-- The host said how long the file is, and an entry can say that; or it isn't there, or is longer.
abbrev pub IsMeasured : List ℕ → List Asked → List Asked → Option Files → Result ℕ Refusal → Type 0
IsMeasured name was now files (Ok len) = (len ≤ longest_file) × (now ≡ was ++ (name, calls.Size (Some len), []) ∷ []) × ForSome files (λ held. Some len ≡ size_of held name)
IsMeasured name was now files (Err refusal) =
    ((refusal ≡ refusals.NoHostFile) × (now ≡ was ++ (name, calls.Size None, []) ∷ []) × ForSome files (λ held. None ≡ size_of held name))
    ⊎ ((n : ℕ) × (refusal ≡ refusals.HostTooLong) × (longest_file < n) × (now ≡ was ++ (name, calls.Size (Some n), []) ∷ []) × ForSome files (λ held. Some n ≡ size_of held name))

-- ---- the bytes

-- A volume was asked to save the bytes that a host gives of a file, which has so many: what the volume answers and leaves by those that
-- were given, with zeros in place of the others, and what the host was asked.
pub record SavesGiven {D H : Type 0} (d : Ghosts D) (h : Hosts H) (name : List ℕ) (len : ℕ) (save : List ℕ → Command) (was v : Volume) (old new : D) (before after : Giving H) (answer : Result (Unit {0}) GivenError) : Type 0 where
  pub refused : (bytes : List ℕ) → length bytes ≡ len → AnswersOver was.read_only (save bytes) (parts_of was) (as_held answer)
  pub whole : OnOk answer (length after.given ≡ len)
  pub changed : OnOk answer (HasChanged d (save after.given) (parts_of was) (parts_of v) old new)
  pub places : StopsAndExitsLeave d old new (WritesPlacesOf (save (filled len after.given)) (parts_of was))
  pub leaves : StopsAndExitsLeave d old new (CommandLeaves (save (filled len after.given)) (parts_of was))
  pub alike : answer ≡ Err GivenError.Supply → StopsAndExitsLeave d old new (OpensAlikeOf (parts_of was))
  pub unchanged : IfErr answer (λ error. (error ≡ GivenError.Command DiskFault → ⊥) → (error ≡ GivenError.Supply → ⊥) → (v ≡ was) × (new ≡ old) × (after.host ≡ before.host))
  pub stands : UnlessDiskFault answer (StandsFor d v new)
  pub settled : UnlessFault (as_held answer) (d.pending new ≡ false)
  pub fit : UnlessDiskFault answer (v.fit ≡ true)
  pub rights : v.read_only ≡ was.read_only
  pub form : SameForm d old new
  pub goes : LeavesOnly d.moment d.left_since old new (λ image. Unit {0})
  pub disk_later : d.faults old ≤ d.faults new
  pub disk_failed : answer ≡ Err (GivenError.Command DiskFault) → Rose (d.faults old) (d.faults new)
  pub gives : Goes h name len before after
  pub told : ForSome (h.files after.host) (λ files. IsGivenOf after.given len (bytes_of files name))
  pub host_failed : answer ≡ Err GivenError.Supply → Rose (h.faults before.host) (h.faults after.host)

-- The same of a file from its first byte on, where what was written is synced: the bytes that were taken are those that were saved, and the
-- host keeps its files.
pub record SavesFile {D H : Type 0} (d : Ghosts D) (h : Hosts H) (name : List ℕ) (len : ℕ) (save : List ℕ → Command) (was v : Volume) (old new : D) (before after : H) (answer : Result (Unit {0}) GivenError) : Type 0 where
  pub given : List ℕ
  pub refused : (bytes : List ℕ) → length bytes ≡ len → AnswersOver was.read_only (save bytes) (parts_of was) (as_held answer)
  pub whole : OnOk answer (length given ≡ len)
  pub taken : OnOk answer (Takes name 0 given (h.asked before) (h.asked after))
  pub told : OnOk answer (ForSome (h.files before) (λ files. given ≡ bytes_of files name))
  pub changed : OnOk answer (HasChanged d (save given) (parts_of was) (parts_of v) old new)
  pub places : StopsAndExitsLeave d old new (WritesPlacesOf (save (filled len given)) (parts_of was))
  pub leaves : StopsAndExitsLeave d old new (CommandLeaves (save (filled len given)) (parts_of was))
  pub alike : answer ≡ Err GivenError.Supply → StopsAndExitsLeave d old new (OpensAlikeOf (parts_of was))
  pub unchanged : IfErr answer (λ error. (error ≡ GivenError.Command DiskFault → ⊥) → (error ≡ GivenError.Supply → ⊥) → (v ≡ was) × (new ≡ old) × (after ≡ before))
  pub ready : UnlessFault (as_held answer) (IsReady d new was v)
  pub settled : (answer ≡ Err (GivenError.Command DiskFault) → ⊥) → d.pending new ≡ false
  pub goes : GoesOn d old new
  pub disk_failed : answer ≡ Err (GivenError.Command DiskFault) → Rose (d.faults old) (d.faults new)
  pub looks : LooksAt name (h.asked before) (h.asked after)
  pub files : h.files after ≡ h.files before
  pub host_later : h.faults before ≤ h.faults after
  pub host_failed : answer ≡ Err GivenError.Supply → Rose (h.faults before) (h.faults after)

-- ---- the reply

-- It is that to a change, or the line of a refusal; if the host failed, nothing is written.
abbrev pub TellsSaved : {K : Type 0} → Sinks K → K → K → Result (Unit {0}) GivenError → Result Bool MoveFault → Type 0
TellsSaved k before after (Ok done) result =
    (told : Result Bool LineFault) × (result ≡ moved_result told) × Answered ok_line (k.taken before) (k.taken after) told × OnlyTells k before after told
TellsSaved k before after (Err (GivenError.Command error)) result = (told : Result Bool LineFault) × (result ≡ moved_result told) × TellsError k before after error told
TellsSaved k before after (Err GivenError.Supply) result = (result ≡ Err MoveFault.Host) × (after ≡ before)
