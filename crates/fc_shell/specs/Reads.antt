-- Which lines and scripts only read.
use Rattle.std.specs.Prelude.{◌≡◌, ◌⊎◌, Bool, true, List, ℕ, Result, Ok, Err}
use Rattle.std.specs.List.{list_all}
use Rattle.fc_names.specs.declared.refusal.Refusal.{Refusal}
use Rattle.fc_model.specs.Command.{Command}
use Rattle.fc_script.specs.Lines.{command_of}
use Rattle.fc_runs.specs.ReadLaw.{is_reading}
use Rattle.fc_runs.specs.Run.{commands_in}

-- The line changes nothing: it spells no command, or one that reads.
abbrev pub is_reading_line : Result Command Refusal → Bool
is_reading_line (Ok c) = is_reading c
is_reading_line (Err refusal) = true

-- So do all of these lines.
abbrev pub all_read : List (List ℕ) → Bool
all_read lines = list_all (λ line. is_reading_line (command_of line)) lines

-- So do all lines of the script.
abbrev pub only_reads : List ℕ → Bool
only_reads script = all_read (commands_in script)

-- These lines write nothing: they only read, or the volume may not be changed.
abbrev pub Spares : Bool → List (List ℕ) → Type 0
Spares read_only lines = (read_only ≡ true) ⊎ (all_read lines ≡ true)
