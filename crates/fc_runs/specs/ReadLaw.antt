-- A command that reads has one reply, whatever was done before.
use Rattle.std.specs.Prelude.{◌≡◌, Bool, true, false, List, ℕ, Option, Some, None, Result, Ok, Err}
use Rattle.fc_names.specs.declared.refusal.Refusal.{Refusal}
use Rattle.fc_model.specs.Tree.{Tree}
use Rattle.fc_model.specs.Command.{Command}
use Rattle.fc_model.specs.Answer.{answer}
use Rattle.fc_image.specs.Layout.{dir_form}
use Rattle.fc_image.specs.effects.Effect.{State, tree_in}
use Rattle.fc_script.specs.Lines.{command_of}
use Rattle.fc_script.specs.Texts.{refusal_line}
use Rattle.fc_runs.specs.Replies.{reply_to}
use Rattle.fc_runs.specs.Run.{Mode, Step, shortage}

-- the commands that change nothing, not even the layout
abbrev pub is_reading : Command → Bool
is_reading (Command.Cat path) = true
is_reading (Command.Load path) = true
is_reading (Command.Digest path) = true
is_reading Command.Free = true
is_reading Command.Check = true
is_reading _ = false

-- the reply if the model accepts the command
abbrev pub served_reply : State → Command → Option (List ℕ) → List ℕ
served_reply s c (Some line) = line
served_reply s c None = reply_to (tree_in s) s.view c

-- the reply by the model's answer
abbrev pub answered_reply : Mode → State → Command → Result Tree Refusal → List ℕ
answered_reply mode s c (Err refusal) = refusal_line refusal
answered_reply mode s c (Ok t) = served_reply s c (shortage mode.safe s.view c)

-- the one reply of a reading command
abbrev pub reading_reply : Mode → State → Command → List ℕ
reading_reply mode s c = answered_reply mode s c (answer (tree_in s) (dir_form s.view.layout) mode.read_only c)

-- The steps of a reading command are those with this reply that leave everything.
pub record ReadLaw : Type 0 where
  pub one : (mode : Mode) (s s' : State) (line reply : List ℕ) (c : Command) → command_of line ≡ Ok c → is_reading c ≡ true
      → Step mode s line reply s' → (reply ≡ reading_reply mode s c) × (s' ≡ s)
  pub some : (mode : Mode) (s : State) (line : List ℕ) (c : Command) → command_of line ≡ Ok c → is_reading c ≡ true
      → Step mode s line (reading_reply mode s c) s
