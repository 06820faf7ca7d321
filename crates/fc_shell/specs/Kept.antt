-- What a run keeps and causes, whatever its disk and its sink make known.
use Rattle.std.specs.Prelude.{◌≡◌, ◌≤◌, ◌⊎◌, ℕ, Bool, List, Option, true, false, ◌++◌, ◌∷◌, [], Some, None, option_map}
use Rattle.std.specs.Option.{ForSome}
use Rattle.fc_device.specs.declared.disk.Disk.{Ghosts}
use Rattle.fc_device.specs.declared.streams.Sink.{Ghosts as Sinks}
use Rattle.fc_device.specs.Calls.{Untouched}
use Rattle.fc_device.specs.Faults.{Rose}
use Rattle.fc_device.specs.Stops.{LeavesOnly}
use Rattle.fc_words.specs.CommandLine.{Request}
use Rattle.fc_shell.specs.declared.ending.End.{End}
use Rattle.fc_shell.specs.declared.ending.End.TheVariants.{DiskFault, OutFault, NoMemory, NoImage, NotSafe}
use Rattle.fc_shell.specs.Ends.{AsksFor, FitsGiven, is_late, is_over_image}
use Rattle.fc_shell.specs.Reading.{IsUnwritten}
use Rattle.fc_shell.specs.Reads.{only_reads}
use Rattle.fc_shell.specs.Replies.{blank_size, image_for}

-- The disk has the image that was asked for, as it was or fresh.
abbrev pub HasImage : {D : Type 0} → Ghosts D → Request → D → D → Type 0
HasImage d r old new = d.bytes new ≡ option_map (image_for r.new) (d.bytes old)

-- After out of memory the disk is as it was, or it was asked for the image, and nothing is pending.
abbrev pub LeavesDisk : {D : Type 0} → Ghosts D → Request → Type 0 → D → D → Type 0
LeavesDisk d r reads old new = (new ≡ old)
    ⊎ ((d.asked new ≡ d.asked old ++ (r.image, blank_size r) ∷ []) × (reads → HasImage d r old new) × (d.pending new ≡ false))

-- The run writes nothing over an image that is there: it may not change it, or its script, which is known, only reads.
abbrev pub RunSpares : Request → Option (List ℕ) → Type 0
RunSpares r told = (r.read_only ≡ true) ⊎ ((text : List ℕ) × (told ≡ Some text) × (only_reads text ≡ true))

-- What a run for such words keeps. `reads` says that its lines write nothing.
pub record RunKeeps {D K : Type 0} (d : Ghosts D) (k : Sinks K) (r : Request) (reads : Type 0) (old new : D) (before after : K) (end : End) : Type 0 where
  pub asks : AsksFor (r.image, blank_size r) end (d.asked old) (d.asked new)
  pub given : ForSome (d.gives old) (λ gives. FitsGiven (gives r.image (blank_size r)) end)
  pub no_image : end ≡ NoImage → Untouched d old new × IsUnwritten d old new × (after ≡ before)
  pub not_safe : end ≡ NotSafe → (r.safe ≡ true) × (after ≡ before)
  pub disk_fault : end ≡ DiskFault → Rose (d.faults old) (d.faults new)
  pub out_fault : end ≡ OutFault → Rose (k.faults before) (k.faults after)
  pub settled : is_over_image end ≡ true → d.pending new ≡ false
  pub no_memory : end ≡ NoMemory → LeavesDisk d r reads old new
  pub unwritten : reads → r.new ≡ None → IsUnwritten d old new
  pub made : reads → is_over_image end ≡ true → HasImage d r old new

-- What a run keeps from when its image is attached. It may be in the safe mode.
pub record SessionKeeps {D K : Type 0} (d : Ghosts D) (k : Sinks K) (safe : Bool) (reads : Type 0) (old new : D) (before after : K) (end : End) : Type 0 where
  pub asked_stays : d.asked new ≡ d.asked old
  pub goes : LeavesOnly d.moment d.left_since old new (λ image. Unit {0})
  pub faults : d.faults old ≤ d.faults new
  pub not_safe : end ≡ NotSafe → (safe ≡ true) × (after ≡ before)
  pub disk_fault : end ≡ DiskFault → Rose (d.faults old) (d.faults new)
  pub out_fault : end ≡ OutFault → Rose (k.faults before) (k.faults after)
  pub settled : (end ≡ DiskFault → ⊥) → d.pending new ≡ false
  pub unwritten : reads → IsUnwritten d old new
  pub late : is_late end ≡ true
