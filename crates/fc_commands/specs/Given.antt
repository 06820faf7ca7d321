-- A change of a file whose bytes are given in order.
use Rattle.std.specs.Prelude.{◌≡◌, ◌≤◌, ℕ, ◌-◌, ◌++◌, true, List, length, replicate, Contains, Result, Ok, Err, IfErr, IsFalse}
use Rattle.std.specs.Option.{ForSome}
use Rattle.fc_device.specs.declared.disk.Disk.{Ghosts}
use Rattle.fc_device.specs.Calls.{SameForm}
use Rattle.fc_device.specs.Faults.{Rose}
use Rattle.fc_host.specs.declared.supply.Supply.{Ghosts as Supplies}
use Rattle.fc_import.specs.declared.place.ImportFault.{ImportFault}
pub use Rattle.fc_import.specs.Imports.{IsSameSupply}
use Rattle.fc_record.specs.declared.Kind.{Kind}
use Rattle.fc_image.specs.Layout.{Layout, dir_form, is_apart, map_place, sector_bytes}
use Rattle.fc_image.specs.Walk.{Object}
use Rattle.fc_image.specs.Objects.{objects_of}
use Rattle.fc_image.specs.Opening.{Opened, boot_place}
use Rattle.fc_image.specs.Stays.{OpensAs, stored_objects}
use Rattle.fc_tree.specs.Parts.{ArePartsOf, Parts}
use Rattle.fc_writing.specs.declared.copies.Copies.{Copies}
use Rattle.fc_writing.specs.declared.ready.Ready.{Ready}
use Rattle.fc_writing.specs.Laws.{ChangesOnly}
use Rattle.fc_change.specs.declared.job.Job.{Job}
use Rattle.fc_change.specs.declared.job.Job.TheVariants as jobs
use Rattle.fc_change.specs.declared.job.Wants.{Wants}
use Rattle.fc_change.specs.declared.spaces.Spaces.{Spaces}
use Rattle.fc_holdings.specs.declared.error.CommandError.{CommandError}
use Rattle.fc_holdings.specs.declared.error.CommandError.TheVariants.{DiskFault}
use Rattle.fc_holdings.specs.declared.holdings.Holdings.{Holdings}
use Rattle.fc_holdings.specs.Answers.{UnlessFault}
use Rattle.fc_holdings.specs.Holdings.{CopiesAre, HoldsMap, IsSameKind, Stands, parts_of}
use Rattle.fc_commands.specs.declared.given.GivenError.{GivenError}
use Rattle.fc_commands.specs.declared.given.GivenError.TheVariants as errors
use Rattle.fc_commands.specs.Promises.{object_place}
use Rattle.fc_commands.specs.Stages.{IsSpaced}
use Rattle.fc_commands.specs.Written.{CanWriteOn}

-- ---- the bytes

-- a job that gives a file its bytes
abbrev pub IsFile : Job → Type 0
IsFile (jobs.File slot words) = Unit {0}
IsFile _ = ⊥

-- all bytes of a file of so many, by those that are given, with zeros in place of the others
abbrev pub filled : ℕ → List ℕ → List ℕ
filled len bytes = bytes ++ replicate (len - length bytes) 0

-- ---- what is known of a disk that a change is written on

pub record CanWriteHere {D : Type 0} (d : Ghosts D) (copies : Copies) (layout : Layout) (r : Ready) (disk : D) : Type 0 where
  pub size : d.sector_size disk ≡ sector_bytes layout
  pub room : HoldsMap layout (d.sectors disk)
  pub can : CanWriteOn layout (d.sectors disk) r
  pub known : ForSome (d.bytes disk) (CopiesAre copies layout)

-- ---- the answer

-- what a change answers whose bytes weren't all written
abbrev pub fault_of : ImportFault → GivenError
fault_of ImportFault.Disk = errors.Command DiskFault
fault_of ImportFault.Supply = errors.Supply

-- as a change answers whose bytes are held: a supply that fails is to it as a disk that fails, since either does so only after the change
-- was accepted
abbrev pub as_held : Result (Unit {0}) GivenError → Result (Unit {0}) CommandError
as_held (Ok done) = Ok done
as_held (Err (errors.Command error)) = Err error
as_held (Err errors.Supply) = Err DiskFault

-- The job has these spaces, and no sector but those of the new object has changed.
pub record IsFilling (h : Parts) (job : Job) (name was image : List ℕ) : Type 0 where
  pub wants : Wants
  pub spaces : Spaces
  pub spaced : IsSpaced h job name wants spaces
  pub only : ChangesOnly (sector_bytes h.layout) (object_place spaces.object) was image

-- Only sectors have other bytes in which nothing lies: none is one of the map, of the boot block or of an object. The image opens as the
-- very same, and each object is stored as it was.
pub record OpensAlike (kind : Kind) (view : Opened) (was image : List ℕ) : Type 0 where
  pub sectors : List ℕ
  pub only : ChangesOnly (sector_bytes view.layout) sectors was image
  pub off_map : is_apart sectors (map_place view.layout) ≡ true
  pub off_boot : is_apart (boot_place kind (sector_bytes view.layout)) sectors ≡ true
  pub apart : (o : Object) → Contains (objects_of view.listings) o → is_apart o.sectors sectors ≡ true
  pub opens : OpensAs image kind view
  pub objects : stored_objects image view ≡ stored_objects was view

-- It is so as each kind as which the image opened, and by each view whose parts these are.
abbrev pub OpensAlikeOf : Parts → List ℕ → List ℕ → Type 0
OpensAlikeOf h was image = (kind : Kind) (view : Opened) → OpensAs was kind view → ArePartsOf h view → OpensAlike kind view was image

-- P, unless the disk failed
abbrev pub UnlessDiskFault : Result (Unit {0}) GivenError → Type 0 → Type 0
UnlessDiskFault (Ok done) P = P
UnlessDiskFault (Err (errors.Command error)) P = UnlessFault {T = Unit {0}} (Err error) P
UnlessDiskFault (Err errors.Supply) P = P

-- A refusal and a lack of memory leave disk, holdings and supply as they were. After any answer but a fault of the disk the holdings stand
-- for the disk; after any but a fault nothing is pending. A map stays of its kind, and directories of their form.
pub record GivenKeeps {D B : Type 0} (d : Ghosts D) (b : Supplies B) (old new : D) (before after : B) (was h : Holdings) (result : Result (Unit {0}) GivenError) : Type 0 where
  pub unchanged : IfErr result (λ error. (error ≡ errors.Command DiskFault → ⊥) → (error ≡ errors.Supply → ⊥) → (h ≡ was) × (new ≡ old) × (after ≡ before))
  pub stands : UnlessDiskFault result (Stands d h new)
  pub settled : UnlessFault (as_held result) (IsFalse (d.pending new))
  pub map : IsSameKind (parts_of was).layout (parts_of h).layout
  pub dirs : UnlessDiskFault result (dir_form (parts_of h).layout ≡ dir_form (parts_of was).layout)
  pub form : SameForm d old new
  pub supply : IsSameSupply b before after
  pub disk_later : d.faults old ≤ d.faults new
  pub supply_later : b.faults before ≤ b.faults after
  pub disk_failed : result ≡ Err (errors.Command DiskFault) → Rose (d.faults old) (d.faults new)
  pub supply_failed : result ≡ Err errors.Supply → Rose (b.faults before) (b.faults after)
