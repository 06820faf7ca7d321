-- The stages of a job in memory, one after another.
use Rattle.std.specs.Prelude.{◌≡◌, ◌⊎◌, ◌+◌, ℕ, List, Some, None}
use Rattle.fc_names.specs.declared.refusal.Refusal.TheVariants as refusals
use Rattle.fc_drafts.specs.declared.room.Room.TheVariants as rooms
use Rattle.fc_space.specs.Space.{layout_of}
use Rattle.fc_tree.specs.Nodes.{next_number}
use Rattle.fc_tree.specs.Parts.{Parts}
use Rattle.fc_change.specs.declared.change.Change.{Change}
use Rattle.fc_change.specs.declared.job.Job.{Job}
use Rattle.fc_change.specs.declared.job.Wants.{Wants}
use Rattle.fc_change.specs.declared.spaces.Spaces.{Spaces}
use Rattle.fc_change.specs.After.{nodes_more, owners_admitted}
use Rattle.fc_change.specs.Drafts.{CanDraft, IsChangeOf, IsPlaced, address_in}
use Rattle.fc_change.specs.Needs.{AreWants, CanWant, HasRoomOf}
use Rattle.fc_change.specs.Places.{ArePlacesFor, CanPlace}
use Rattle.fc_change.specs.Prepared.{CanPrepare, IsReadyFor}
use Rattle.fc_change.specs.Shortage.{shortage}
use Rattle.fc_holdings.specs.declared.error.CommandError.{CommandError}
use Rattle.fc_holdings.specs.declared.error.CommandError.TheVariants.{Refused, NoMemory, DiskFault}
use Rattle.fc_holdings.specs.declared.holdings.Holdings.{Holdings}
use Rattle.fc_commands.specs.declared.stages.Prepared.{Prepared}

-- What a job wants has this space.
pub record IsSpaced (h : Parts) (job : Job) (name : List ℕ) (w : Wants) (s : Spaces) : Type 0 where
  pub wants : AreWants h job name w
  pub places : ArePlacesFor h w s

-- Each stage can follow on the one before.
pub record CanPrepareJob (h : Parts) (job : Job) (name : List ℕ) : Type 0 where
  pub want : CanWant h.nodes job
  pub place : (w : Wants) → AreWants h job name w → CanPlace h w
  pub draft : (w : Wants) (s : Spaces) → IsSpaced h job name w s → CanDraft h job name s
  pub placed : (w : Wants) (s : Spaces) → IsSpaced h job name w s → IsPlaced job (address_in s)
  pub prepare : (w : Wants) (s : Spaces) (c : Change) → IsSpaced h job name w s → IsChangeOf h job name s c → CanPrepare h c s

-- The change is the job's, and this is what is to be written of it.
pub record IsPreparedFor (h : Parts) (job : Job) (name : List ℕ) (p : Prepared) : Type 0 where
  pub wants : Wants
  pub spaces : Spaces
  pub spaced : IsSpaced h job name wants spaces
  pub enough : shortage h wants ≡ None
  pub change : IsChangeOf h job name spaces p.change
  pub ready : IsReadyFor h p.change spaces p.ready

-- The directory that gets a name is full, or there is no space for what is wanted.
abbrev pub RefusesJob : Parts → Job → List ℕ → CommandError → Type 0
RefusesJob h job name (Refused r) = ((r ≡ refusals.DirFull) × HasRoomOf h.nodes job name rooms.Full) ⊎ ((w : Wants) × AreWants h job name w × (shortage h w ≡ Some r))
RefusesJob h job name NoMemory = Unit {0}
RefusesJob h job name DiskFault = ⊥

-- ---- memory

-- The holdings have the memory that a change needs, and are else as they were.
pub record IsAdmitted (was now : Holdings) (c : Change) : Type 0 where
  pub tree : now.tree ≡ record was.tree { room = was.tree.room + nodes_more c.object }
  pub owners : now.owners ≡ owners_admitted (layout_of was.places) c.object (next_number was.tree) was.owners
  pub places : now.places ≡ was.places
  pub copies : now.copies ≡ was.copies
