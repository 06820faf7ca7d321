-- How conversions end, and the line that is written.
use Rattle.std.specs.Prelude.{◌≡◌, ◌⊎◌, ℕ, List, [], Bool, true, false, Option}
use Rattle.fc_program.specs.Writing.{Wrote, WrotePart}
use Rattle.fc_runs.specs.Replies.{bad_image_line}
use Rattle.fc_convert.specs.declared.ending.ConvertEnd.{ConvertEnd}
use Rattle.fc_convert.specs.declared.ending.ConvertEnd.TheVariants.{Done, Unfit, BadWords, BadImage, FromFault, ToFault, OutFault, NoMemory, NoRoom, NoSource, NoTarget, BadTarget}
use Rattle.fc_names.specs.Names.{Path}
use Rattle.fc_holdings.specs.declared.error.CommandError.{CommandError}
use Rattle.fc_holdings.specs.declared.error.CommandError.TheVariants as commands
use Rattle.fc_volume.specs.declared.lines.MountError.{MountError}
use Rattle.fc_volume.specs.declared.lines.MountError.TheVariants as mounts
use Rattle.fc_convert.specs.declared.blocks.ReadError.{ReadError}
use Rattle.fc_convert.specs.declared.blocks.ReadError.TheVariants as reads
use Rattle.fc_convert.specs.declared.copying.CopyError.{CopyError}
use Rattle.fc_convert.specs.declared.copying.CopyError.TheVariants as copies
use Rattle.fc_convert.specs.Convert.{counts_line, no_room_line, unfit_line}

-- the exit statuses
abbrev pub status_of : ConvertEnd → ℕ
status_of Done = 0
status_of (Unfit path what) = 1
status_of BadWords = 2
status_of (BadImage fault) = 3
status_of FromFault = 4
status_of ToFault = 5
status_of OutFault = 6
status_of NoMemory = 7
status_of (NoRoom path refusal) = 8
status_of NoSource = 9
status_of NoTarget = 10
status_of (BadTarget fault) = 11

-- A conversion ends so only over a source that was opened.
abbrev pub is_over_source : ConvertEnd → Bool
is_over_source BadWords = false
is_over_source FromFault = false
is_over_source NoMemory = false
is_over_source OutFault = false
is_over_source NoSource = false
is_over_source end = true

-- It ends so only over a target that was made.
abbrev pub is_over_target : ConvertEnd → Bool
is_over_target Done = true
is_over_target (NoRoom path refusal) = true
is_over_target (BadTarget fault) = true
is_over_target end = false

-- ---- the line

-- the line of an end at which the target hasn't all; most ends have none
abbrev pub end_line : ConvertEnd → List ℕ
end_line (Unfit path what) = unfit_line (path, what)
end_line (BadImage fault) = bad_image_line fault
end_line (NoRoom path refusal) = no_room_line path refusal
end_line (BadTarget fault) = bad_image_line fault
end_line end = []

-- the line of counts, or of another end
abbrev pub IsLine : List ℕ → Type 0
IsLine line = ((files dirs : ℕ) × (line ≡ counts_line files dirs)) ⊎ ((end : ConvertEnd) × (line ≡ end_line end))

-- The line was written; if the output failed, a part of one.
abbrev pub TellsEnd : Option (List ℕ) → Option (List ℕ) → ConvertEnd → Type 0
TellsEnd before after Done = (files dirs : ℕ) × Wrote before after (counts_line files dirs)
TellsEnd before after OutFault = (line : List ℕ) × IsLine line × WrotePart before after line
TellsEnd before after end = Wrote before after (end_line end)

-- ---- errors as ends

-- how a conversion ends whose source isn't mounted
abbrev pub source_end : MountError → ConvertEnd
source_end (mounts.Image fault) = BadImage fault
source_end mounts.DiskFault = FromFault
source_end mounts.NoMemory = NoMemory

-- how it ends whose target isn't
abbrev pub target_end : MountError → ConvertEnd
target_end (mounts.Image fault) = BadTarget fault
target_end mounts.DiskFault = ToFault
target_end mounts.NoMemory = NoMemory

-- why an object isn't copied whose file isn't read
abbrev pub read_error : ReadError → CopyError
read_error reads.DiskFault = copies.From
read_error reads.NoMemory = copies.NoMemory

-- or of which a command isn't done
abbrev pub command_error : CommandError → CopyError
command_error (commands.Refused refusal) = copies.Refused refusal
command_error commands.NoMemory = copies.NoMemory
command_error commands.DiskFault = copies.To

-- how a conversion ends that stops at an object
abbrev pub copy_end : CopyError → Path → ConvertEnd
copy_end (copies.Refused refusal) path = NoRoom path refusal
copy_end copies.From path = FromFault
copy_end copies.To path = ToFault
copy_end copies.NoMemory path = NoMemory
