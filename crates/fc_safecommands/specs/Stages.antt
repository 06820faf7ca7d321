-- The stages of a job in memory in the safe mode, one after another.
use Rattle.std.specs.Prelude.{◌≡◌, ◌⊎◌, ℕ, List, Some, Contains}
use Rattle.fc_names.specs.declared.refusal.Refusal.TheVariants as refusals
use Rattle.fc_drafts.specs.declared.room.Room.TheVariants as rooms
use Rattle.fc_newmap.specs.Map.{Map}
use Rattle.fc_image.specs.safe.SafeShort.{SafeRefusal}
use Rattle.fc_plan.specs.declared.plan.Plan.{Plan}
use Rattle.fc_tree.specs.Parts.{Parts}
use Rattle.fc_change.specs.declared.change.Change.{Change}
use Rattle.fc_change.specs.declared.job.Job.{Job}
use Rattle.fc_change.specs.declared.job.Wants.{Wants}
use Rattle.fc_change.specs.declared.spaces.Spaces.{Spaces}
use Rattle.fc_change.specs.Drafts.{CanDraft, IsChangeOf, IsPlaced, address_in}
use Rattle.fc_change.specs.Needs.{AreWants, CanWant, HasRoomOf}
use Rattle.fc_safe.specs.FirstNeeds.{first_shortage}
use Rattle.fc_safe.specs.FirstSpace.{ArePlacedFirst, CanPlaceFirst, LiesInZones}
use Rattle.fc_safe.specs.declared.error.SafeError.{SafeError}
use Rattle.fc_safe.specs.declared.error.SafeError.TheVariants as errors
use Rattle.fc_safecommands.specs.Anew.{CanWriteAnew, plans_in}

-- What a job wants has this space by first fit.
pub record IsSpacedFirst (m : Map) (h : Parts) (job : Job) (name : List ℕ) (w : Wants) (s : Spaces) : Type 0 where
  pub wants : AreWants h job name w
  pub placed : ArePlacedFirst m h job w s

-- Each stage can follow on the one before.
pub record CanPrepareAnew (m : Map) (h : Parts) (job : Job) (name : List ℕ) : Type 0 where
  pub want : CanWant h.nodes job
  pub place : (w : Wants) → AreWants h job name w → CanPlaceFirst m h job w
  pub draft : (w : Wants) (s : Spaces) → IsSpacedFirst m h job name w s → CanDraft h job name s
  pub placed : (w : Wants) (s : Spaces) → IsSpacedFirst m h job name w s → IsPlaced job (address_in s)
  pub write : (w : Wants) (s : Spaces) (c : Change) → IsSpacedFirst m h job name w s → IsChangeOf h job name s c → CanWriteAnew h c
  pub zones : (w : Wants) (s : Spaces) → IsSpacedFirst m h job name w s → (p : Plan) → Contains (plans_in s.take) p → LiesInZones m p

-- There is no space for what is wanted, or too many zones would change.
abbrev pub IsShortOf : Map → Parts → Job → List ℕ → SafeRefusal → Type 0
IsShortOf m h job name refusal = (w : Wants) × AreWants h job name w × (first_shortage m h job w ≡ Some refusal)

-- The directory that gets a name is full, or it is short of space.
abbrev pub RefusesAnew : Map → Parts → Job → List ℕ → SafeError → Type 0
RefusesAnew m h job name (errors.Refused r) = ((r ≡ refusals.DirFull) × HasRoomOf h.nodes job name rooms.Full) ⊎ IsShortOf m h job name (SafeRefusal.Refused r)
RefusesAnew m h job name (errors.Spread zones) = IsShortOf m h job name (SafeRefusal.Spread zones)
RefusesAnew m h job name errors.NoMemory = Unit {0}
RefusesAnew m h job name errors.DiskFault = ⊥
