-- What reading a line answers.
use Rattle.std.specs.Prelude.{◌≡◌, ℕ, List, Result, Ok, Err, IsOk, ok_or}
use Rattle.fc_names.specs.declared.refusal.Refusal.{Refusal}
use Rattle.fc_names.specs.Names.{Path}
use Rattle.fc_names.specs.Paths.{path_of}
use Rattle.fc_model.specs.Command.{Command}
use Rattle.fc_script.specs.declared.command.Command.{Command as Told}
use Rattle.fc_script.specs.declared.command.LineError.{LineError}

-- the command of the model that a value of the program tells
abbrev pub command : Told → Command
command (Told.Cat path) = Command.Cat path
command (Told.Load path) = Command.Load path
command (Told.Digest path) = Command.Digest path
command (Told.Cdir path) = Command.Cdir path
command (Told.Delete path) = Command.Delete path
command (Told.Save path load exec bytes) = Command.Save path load exec bytes
command (Told.Create path load exec len) = Command.Create path load exec len
command (Told.Rename from to) = Command.Rename from to
command (Told.Set path load exec access) = Command.Set path load exec access
command Told.Free = Command.Free
command Told.Check = Command.Check
command Told.Compact = Command.Compact
command Told.Reclaim = Command.Reclaim

-- An answer tells what is read, or its refusal. Memory is wanted only for what is no refusal.
abbrev pub Gives : {X Y : Type 0} → (X → Y) → Result X LineError → Result Y Refusal → Type 0
Gives view (Ok x) read = read ≡ Ok (view x)
Gives view (Err LineError.BadCommand) read = read ≡ Err Refusal.BadCommand
Gives view (Err LineError.BadName) read = read ≡ Err Refusal.BadName
Gives view (Err LineError.NoMemory) read = IsOk read

-- the path of a text, or its refusal
abbrev pub read_path_of : List ℕ → Result Path Refusal
read_path_of text = ok_or (path_of text) Refusal.BadName
