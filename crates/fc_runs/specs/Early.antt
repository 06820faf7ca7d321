-- Runs that end before their script does: the lines done, and the part of their text that was written.
use Rattle.std.specs.Prelude.{◌≡◌, ℕ, List, [], ◌++◌, length, take, slice_get, if◌then◌else◌, Option, Some, None, Result, Ok, Err}
use Rattle.fc_host.specs.Files.{Files}
use Rattle.fc_names.specs.declared.refusal.Refusal.{Refusal}
use Rattle.fc_model.specs.Command.{Command}
use Rattle.fc_image.specs.effects.Effect.{State}
use Rattle.fc_script.specs.Lines.{command_of}
use Rattle.fc_script.specs.HostLines.{HostLine}
use Rattle.fc_runs.specs.Run.{Mode, Steps, commands_in, script_for, text_of, demo_line}
use Rattle.fc_runs.specs.ReadLaw.{is_reading, reading_reply}
use Rattle.fc_runs.specs.HostRun.{HostSteps, FilesLeft, Reading}

-- the reply that a command may have begun to write when it broke off: that of a command that reads
abbrev pub reply_begun : Mode → State → Result Command Refusal → List ℕ
reply_begun mode s (Err refusal) = []
reply_begun mode s (Ok c) = if is_reading c then reading_reply mode s c else []

-- likewise of a line that may move files of the host
abbrev pub host_reply_begun : Mode → State → Result HostLine Refusal → List ℕ
host_reply_begun mode s (Ok (HostLine.Other command)) = reply_begun mode s (Ok command)
host_reply_begun mode s _ = []

-- The text of the lines done, with the reply begun of the next one. A demo writes nothing before all its lines are done.
abbrev pub text_begun : Option ℕ → List (List ℕ) → Option (List ℕ) → (List ℕ → List ℕ) → List ℕ
text_begun None replies None begun = text_of replies
text_begun None replies (Some line) begun = text_of replies ++ begun line
text_begun (Some n) replies None begun = demo_line n replies
text_begun (Some n) replies (Some line) begun = []

-- A run that ended after some lines, in this state, and wrote a part of their text from its front. Only I/O errors of the disk, the
-- sink and the host, and out of memory, end a run so (`Cause` of Promises); every other end has a text of its own. After an I/O error
-- of the disk the state says nothing of its bytes.
pub record EndsEarly (May : List ℕ → Type 0) (mode : Mode) (demo : Option ℕ) (s : State) (script text : List ℕ) (s' : State) : Type 0 where
  pub start : May s.image
  pub replies : List (List ℕ)
  pub steps : Steps May mode s (take (length replies) (commands_in (script_for demo script))) replies s'
  pub told : (n : ℕ) × (text ≡ take n (text_begun demo replies (slice_get (commands_in (script_for demo script)) (length replies))
      (λ line. reply_begun mode s' (command_of line))))

-- what is left of the host's files, by the line that broke off, if one did
abbrev pub FilesLeftBy : Reading → Mode → State → Files → Option (List ℕ) → Files → Type 0
FilesLeftBy read mode s files None left = left ≡ files
FilesLeftBy read mode s files (Some line) left = FilesLeft read mode s files line left

-- `EndsEarly` for lines that may move files of the host
pub record HostEndsEarly (read : Reading) (May : List ℕ → Type 0) (mode : Mode) (demo : Option ℕ) (s : State) (files : Files) (script text : List ℕ) (s' : State) (left : Files) : Type 0 where
  pub start : May s.image
  pub replies : List (List ℕ)
  pub between : Files
  pub steps : HostSteps read May mode s files (take (length replies) (commands_in (script_for demo script))) replies s' between
  pub host : FilesLeftBy read mode s' between (slice_get (commands_in (script_for demo script)) (length replies)) left
  pub told : (n : ℕ) × (text ≡ take n (text_begun demo replies (slice_get (commands_in (script_for demo script)) (length replies))
      (λ line. host_reply_begun mode s' (read line))))
