-- Runs of scripts whose lines may move files between a volume and the host.
use Rattle.std.specs.Prelude.{◌≡◌, ◌≤◌, ◌⊎◌, ℕ, Bool, true, false, ◌||◌, nat_lt, if◌then◌else◌, List, [], ◌∷◌, length, take, Option, Some, None, is_some, IsOk, Result, Ok, Err}
use Rattle.std.specs.FinMap.{get, insert}
use Rattle.fc_host.specs.Files.{Files}
use Rattle.fc_names.specs.declared.refusal.Refusal.{Refusal}
use Rattle.fc_names.specs.declared.refusal.Refusal.TheVariants as refusals
use Rattle.fc_names.specs.Names.{Path}
use Rattle.fc_model.specs.Tree.{Tree, bytes_of_node, node_at}
use Rattle.fc_model.specs.Command.{Command}
use Rattle.fc_model.specs.Answer.{answer}
use Rattle.fc_image.specs.Layout.{dir_form}
use Rattle.fc_image.specs.effects.Effect.{State, tree_in}
use Rattle.fc_image.specs.safe.SafeEffect.{HasTree, HasTreeBeforeOrAfter}
use Rattle.fc_script.specs.HostLines.{HostLine}
use Rattle.fc_script.specs.Texts.{refusal_line, ok_line}
use Rattle.fc_runs.specs.Run.{Mode, Refuses, Takes, commands_in, script_for, text_for, each_line, keeps_tree, tree_after, line_begun}

-- the most bytes that a file on a disc can have, since its entry has 32 bits for them
abbrev pub longest_file : ℕ
longest_file = 4294967295

-- a refusal: its line is the reply, and image and files stay
abbrev pub HostRefuses : State → Files → Refusal → List ℕ → State → Files → Type 0
HostRefuses s files refusal reply s' files' = Refuses s (refusal_line refusal) reply s' × (files' ≡ files)

-- what `put` does with a file, which may be too long, if the model accepts it
abbrev pub PutsBytes : Bool → Mode → State → Files → Command → List ℕ → State → Files → Type 0
PutsBytes true mode s files save reply s' files' = HostRefuses s files refusals.HostTooLong reply s' files'
PutsBytes false mode s files save reply s' files' = Takes mode s (Ok save) reply s' × (files' ≡ files)

-- what `put` does if the model accepts it
abbrev pub PutsFile : Mode → State → Files → (List ℕ → Command) → Option (List ℕ) → List ℕ → State → Files → Type 0
PutsFile mode s files save None reply s' files' = HostRefuses s files refusals.NoHostFile reply s' files'
PutsFile mode s files save (Some bytes) reply s' files' = PutsBytes (nat_lt longest_file (length bytes)) mode s files (save bytes) reply s' files'

-- `put` is refused as `save` is by the model, then for want of the file, and is else that `save`
abbrev pub Puts : Mode → State → Files → (List ℕ → Command) → Option (List ℕ) → Result Tree Refusal → List ℕ → State → Files → Type 0
Puts mode s files save file (Err refusal) reply s' files' = HostRefuses s files refusal reply s' files'
Puts mode s files save file (Ok t) reply s' files' = PutsFile mode s files save file reply s' files'

-- `get` is refused as `load` is, then for a file that is there, and else makes it
abbrev pub Gets : State → Files → List ℕ → List ℕ → Bool → Result Tree Refusal → List ℕ → State → Files → Type 0
Gets s files host bytes there (Err refusal) reply s' files' = HostRefuses s files refusal reply s' files'
Gets s files host bytes true (Ok t) reply s' files' = HostRefuses s files refusals.HostExists reply s' files'
Gets s files host bytes false (Ok t) reply s' files' = (reply ≡ ok_line) × (s' ≡ s) × (files' ≡ insert files host bytes)

-- the model's answer, and the bytes of the file there
abbrev pub answer_in : Mode → State → Command → Result Tree Refusal
answer_in mode s c = answer (tree_in s) (dir_form s.view.layout) mode.read_only c

-- the bytes of the file at a path
abbrev pub file_in : State → Path → List ℕ
file_in s path = bytes_of_node (node_at (tree_in s) path)

-- a line: no command, a file to be moved, or a command
abbrev pub HostTakes : Mode → State → Files → Result HostLine Refusal → List ℕ → State → Files → Type 0
HostTakes mode s files (Err refusal) reply s' files' = HostRefuses s files refusal reply s' files'
HostTakes mode s files (Ok (HostLine.Put host path load exec)) reply s' files' =
    Puts mode s files (Command.Save path load exec) (get files host) (answer_in mode s (Command.Save path load exec [])) reply s' files'
HostTakes mode s files (Ok (HostLine.Get path host)) reply s' files' =
    Gets s files host (file_in s path) (is_some (get files host)) (answer_in mode s (Command.Load path)) reply s' files'
HostTakes mode s files (Ok (HostLine.Other command)) reply s' files' = Takes mode s (Ok command) reply s' × (files' ≡ files)

-- ---- lines

-- how lines are read: as commands that may move files
abbrev pub Reading : Type 0
Reading = List ℕ → Result HostLine Refusal

-- a line as a step, with the files of the host
abbrev pub HostStep : Reading → Mode → State → Files → List ℕ → List ℕ → State → Files → Type 0
HostStep read mode s files line reply s' files' = HostTakes mode s files (read line) reply s' files'

-- lines in turn, with their replies
abbrev pub HostSteps : Reading → (List ℕ → Type 0) → Mode → State → Files → List (List ℕ) → List (List ℕ) → State → Files → Type 0
HostSteps read May mode s files [] [] s' files' = (s' ≡ s) × (files' ≡ files)
HostSteps read May mode s files (line ∷ lines) (reply ∷ replies) s' files' =
    (mid : State) × (between : Files) × May mid.image × HostStep read mode s files line reply mid between
    × HostSteps read May mode mid between lines replies s' files'
HostSteps read May mode s files [] (reply ∷ replies) s' files' = ⊥
HostSteps read May mode s files (line ∷ lines) [] s' files' = ⊥

-- a whole script
pub record HostRun (read : Reading) (May : List ℕ → Type 0) (mode : Mode) (demo : Option ℕ) (s : State) (files : Files) (script text : List ℕ) (s' : State) (files' : Files) : Type 0 where
  pub start : May s.image
  pub replies : List (List ℕ)
  pub steps : HostSteps read May mode s files (commands_in (script_for demo script)) replies s' files'
  pub told : text ≡ text_for demo replies

-- the file of a `get`, with the first of its bytes
abbrev pub HasPartOf : Mode → State → Files → Result HostLine Refusal → Files → Type 0
HasPartOf mode s files (Ok (HostLine.Get path host)) left =
    IsOk (answer_in mode s (Command.Load path)) × (is_some (get files host) ≡ false)
    × ((n : ℕ) × (left ≡ insert files host (take n (file_in s path))))
HasPartOf mode s files _ left = ⊥

-- What a run that breaks off in this line leaves of the host's files.
abbrev pub FilesLeft : Reading → Mode → State → Files → List ℕ → Files → Type 0
FilesLeft read mode s files line left = (left ≡ files) ⊎ HasPartOf mode s files (read line) left

-- ---- crashes

-- a line that leaves the tree as it is
abbrev pub host_keeps_tree : Bool → Result HostLine Refusal → Bool
host_keeps_tree refused (Ok (HostLine.Get path host)) = true
host_keeps_tree refused (Ok (HostLine.Put host path load exec)) = refused
host_keeps_tree refused (Ok (HostLine.Other command)) = refused || keeps_tree command
host_keeps_tree refused (Err refusal) = true

-- Every line that is not refused leaves the tree, and so does the one that broke off without a reply.
abbrev pub all_host_keep_tree : Reading → List (List ℕ) → List (List ℕ) → Bool
all_host_keep_tree read lines replies = each_line (λ refused line. host_keeps_tree refused (read line)) lines replies

-- the tree after `put`, by the file
abbrev pub tree_after_put : Mode → State → (List ℕ → Command) → Option (List ℕ) → Tree
tree_after_put mode s save None = tree_in s
tree_after_put mode s save (Some bytes) = if nat_lt longest_file (length bytes) then tree_in s else tree_after mode s (Ok (save bytes))

-- the tree after a line, which is the same for each step
abbrev pub host_tree_after : Mode → State → Files → Result HostLine Refusal → Tree
host_tree_after mode s files (Err refusal) = tree_in s
host_tree_after mode s files (Ok (HostLine.Put host path load exec)) = tree_after_put mode s (Command.Save path load exec) (get files host)
host_tree_after mode s files (Ok (HostLine.Get path host)) = tree_in s
host_tree_after mode s files (Ok (HostLine.Other command)) = tree_after mode s (Ok command)

-- The image has the tree of the state, or the one after the line that broke off, if one did.
abbrev pub HostHasTreeAround : Reading → Mode → State → Files → Option (List ℕ) → List ℕ → Type 0
HostHasTreeAround read mode s files None image = HasTree mode.kind (tree_in s) image
HostHasTreeAround read mode s files (Some line) image = HasTreeBeforeOrAfter mode.kind s (host_tree_after mode s files (read line)) image

-- `HasTreeAfter` for lines that may move files of the host
pub record HostHasTreeAfter (read : Reading) (May : List ℕ → Type 0) (mode : Mode) (s : State) (files : Files) (lines replies : List (List ℕ)) (least : ℕ) (image : List ℕ) : Type 0 where
  pub count : ℕ
  pub enough : least ≤ count
  pub within : count ≤ length replies
  pub mid : State
  pub between : Files
  pub steps : HostSteps read May mode s files (take count lines) (take count replies) mid between
  pub tree : HostHasTreeAround read mode mid between (line_begun lines replies count) image
