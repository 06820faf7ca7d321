-- How runs end.
use Rattle.std.specs.Prelude.{◌≡◌, ◌⊎◌, ℕ, Bool, true, false, List, [], ◌∷◌, ◌++◌, Result, Ok, Err}
use Rattle.fc_device.specs.Asked.{Asked}
use Rattle.fc_shell.specs.declared.answer.LineFault.{LineFault}
use Rattle.fc_shell.specs.declared.answer.LineFault.TheVariants as lines
use Rattle.fc_shell.specs.declared.moving.MoveFault.{MoveFault}
use Rattle.fc_shell.specs.declared.moving.MoveFault.TheVariants as moves
use Rattle.fc_shell.specs.declared.tally.Tally.{Tally}
use Rattle.fc_shell.specs.declared.ending.End.{End}
use Rattle.fc_shell.specs.declared.ending.End.TheVariants.{Done, Refused, BadWords, BadImage, DiskFault, ScriptFault, OutFault, NoMemory, ScriptTooLong, NotSafe, HostFault, NoImage}
use Rattle.fc_shell.specs.Counted.{has_refused}

-- the exit statuses
abbrev pub status_of : End → ℕ
status_of Done = 0
status_of Refused = 1
status_of BadWords = 2
status_of (BadImage fault) = 3
status_of DiskFault = 4
status_of ScriptFault = 5
status_of OutFault = 6
status_of NoMemory = 7
status_of ScriptTooLong = 8
status_of NotSafe = 10
status_of HostFault = 11
status_of NoImage = 12

-- ---- when a run ends so

-- how a run ends at its script's end, if a line was refused, and else
abbrev pub end_after : Bool → End
end_after true = Refused
end_after false = Done

-- how a run ends whose lines were served
abbrev pub end_of : Result Tally LineFault → End
end_of (Ok tally) = end_after (has_refused tally)
end_of (Err lines.Disk) = DiskFault
end_of (Err lines.Out) = OutFault
end_of (Err lines.NoMemory) = NoMemory

-- the same of lines that may move files of the host
abbrev pub move_end : Result Tally MoveFault → End
move_end (Ok tally) = end_after (has_refused tally)
move_end (Err moves.Disk) = DiskFault
move_end (Err moves.Out) = OutFault
move_end (Err moves.Host) = HostFault
move_end (Err moves.NoMemory) = NoMemory

-- a run ends so only when an image is attached
abbrev pub is_late : End → Bool
is_late BadWords = false
is_late ScriptFault = false
is_late ScriptTooLong = false
is_late NoImage = false
is_late end = true

-- a run that asks nothing of a host ends so only when an image is attached
abbrev pub is_late_alone : End → Bool
is_late_alone HostFault = false
is_late_alone end = is_late end

-- a run ends so only over an image that was taken or made
abbrev pub is_over_image : End → Bool
is_over_image Done = true
is_over_image Refused = true
is_over_image (BadImage fault) = true
is_over_image OutFault = true
is_over_image HostFault = true
is_over_image NotSafe = true
is_over_image end = false

-- If the disk gives the name, the run doesn't end without an image; if it doesn't, the run doesn't end over one.
abbrev pub FitsGiven : Bool → End → Type 0
FitsGiven given end = (end ≡ NoImage → given ≡ false) × (is_over_image end ≡ true → given ≡ true)

-- What was asked of the disk, by how the run ends: nothing; or this image, and once; and if memory was short, either.
abbrev pub AsksFor : Asked → End → List Asked → List Asked → Type 0
AsksFor image BadWords old new = new ≡ old
AsksFor image ScriptFault old new = new ≡ old
AsksFor image ScriptTooLong old new = new ≡ old
AsksFor image NoMemory old new = (new ≡ old) ⊎ (new ≡ old ++ image ∷ [])
AsksFor image end old new = new ≡ old ++ image ∷ []

-- a run may end so before an image is asked for
abbrev pub is_early : End → Bool
is_early BadWords = true
is_early ScriptFault = true
is_early NoMemory = true
is_early ScriptTooLong = true
is_early end = false
