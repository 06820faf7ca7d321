-- What a call answers and leaves that changes a volume by bytes which are given in order.
use Rattle.std.specs.Prelude.{◌≡◌, ◌≤◌, ℕ, true, false, List, length, Result, Err, IfErr, IsFalse, OnOk}
use Rattle.fc_device.specs.declared.disk.Disk.{Ghosts}
use Rattle.fc_device.specs.Calls.{SameForm, StopsAndExitsLeave}
use Rattle.fc_device.specs.Faults.{Rose}
use Rattle.fc_device.specs.Stops.{LeavesOnly}
use Rattle.fc_host.specs.declared.supply.Supply.{Ghosts as Supplies}
use Rattle.fc_model.specs.Command.{Command}
use Rattle.fc_image.specs.Layout.{dir_form}
use Rattle.fc_holdings.specs.declared.error.CommandError.TheVariants.{DiskFault}
use Rattle.fc_holdings.specs.Answers.{UnlessFault}
use Rattle.fc_holdings.specs.Holdings.{IsSameKind}
use Rattle.fc_commands.specs.Answers.{AnswersOver}
use Rattle.fc_commands.specs.Judgments.{CommandLeaves, FillsPlace}
use Rattle.fc_commands.specs.Given.{IsSameSupply, OpensAlikeOf, UnlessDiskFault, as_held, filled}
use Rattle.fc_commands.specs.Promises.{HasChanged, WritesPlacesOf}
use Rattle.fc_commands.specs.declared.given.GivenError.{GivenError}
use Rattle.fc_volume.specs.Volume.{StandsFor, Volume, parts_of}

-- What stays, whatever is known of the disk's bytes. A refusal and a lack of memory leave disk, volume and supply as they were. After any
-- answer but a fault of the disk the volume stands for the disk, and is fit; after one it is unfit. Nothing is pending, unless disk or
-- supply failed.
pub record KeepsGiving {D B : Type 0} (d : Ghosts D) (b : Supplies B) (old new : D) (before after : B) (was v : Volume) (answer : Result (Unit {0}) GivenError) : Type 0 where
  pub unchanged : IfErr answer (λ error. (error ≡ GivenError.Command DiskFault → ⊥) → (error ≡ GivenError.Supply → ⊥) → (v ≡ was) × (new ≡ old) × (after ≡ before))
  pub stands : UnlessDiskFault answer (StandsFor d v new)
  pub settled : UnlessFault (as_held answer) (IsFalse (d.pending new))
  pub fit : UnlessDiskFault answer (v.fit ≡ true)
  pub unfit : answer ≡ Err (GivenError.Command DiskFault) → v.fit ≡ false
  pub rights : v.read_only ≡ was.read_only
  pub map : IsSameKind (parts_of was).layout (parts_of v).layout
  pub dirs : UnlessDiskFault answer (dir_form (parts_of v).layout ≡ dir_form (parts_of was).layout)
  pub form : SameForm d old new
  pub goes : LeavesOnly d.moment d.left_since old new (λ image. Unit {0})
  pub supply : IsSameSupply b before after
  pub disk_later : d.faults old ≤ d.faults new
  pub supply_later : b.faults before ≤ b.faults after
  pub disk_failed : answer ≡ Err (GivenError.Command DiskFault) → Rose (d.faults old) (d.faults new)
  pub supply_failed : answer ≡ Err GivenError.Supply → Rose (b.faults before) (b.faults after)

-- A volume was asked to do what a command of these bytes does, as many as are given: what it answered, what it changed by those that were
-- given, and what a crash at any moment and every exit leave, with zeros in place of those that weren't. If the supply failed, no sector
-- has changed but those that the new object would get, in which nothing lies, and the image opens as the very same.
pub record IsAskedGiving {D B : Type 0} (d : Ghosts D) (b : Supplies B) (len : ℕ) (command : List ℕ → Command) (was v : Volume) (old new : D) (before after : B) (answer : Result (Unit {0}) GivenError) : Type 0 where
  pub refused : (bytes : List ℕ) → length bytes ≡ len → AnswersOver was.read_only (command bytes) (parts_of was) (as_held answer)
  pub given : OnOk answer (length (b.given after) ≡ len)
  pub changed : OnOk answer (HasChanged d (command (b.given after)) (parts_of was) (parts_of v) old new)
  pub places : StopsAndExitsLeave d old new (WritesPlacesOf (command (filled len (b.given after))) (parts_of was))
  pub leaves : StopsAndExitsLeave d old new (CommandLeaves (command (filled len (b.given after))) (parts_of was))
  pub stopped : answer ≡ Err GivenError.Supply → StopsAndExitsLeave d old new (FillsPlace (command (filled len (b.given after))) (parts_of was))
  pub alike : answer ≡ Err GivenError.Supply → StopsAndExitsLeave d old new (OpensAlikeOf (parts_of was))
  pub keeps : KeepsGiving d b old new before after was v answer
