-- Steps of lines that move files of the host, worked out.
use Rattle.std.specs.Prelude.{◌≡◌, ℕ, List, [], ◌∷◌, ◌++◌, codes, length, nat_lt, true, Some, None, Result, Ok, Err}
use Rattle.std.specs.FinMap.{get, insert}
use Rattle.fc_host.specs.Files.{Files}
use Rattle.fc_names.specs.declared.refusal.Refusal.{Refusal}
use Rattle.fc_names.specs.declared.refusal.Refusal.TheVariants.{ReadOnly, NotFound}
use Rattle.fc_model.specs.Tree.{Tree}
use Rattle.fc_model.specs.Command.{Command}
use Rattle.fc_image.specs.effects.Effect.{State}
use Rattle.fc_script.specs.HostLines.{host_line_of}
use Rattle.fc_script.specs.Texts.{ok_line}
use Rattle.fc_runs.specs.Run.{Mode, Refuses, Takes}
use Rattle.fc_runs.specs.HostRun.{HostStep, answer_in, file_in, longest_file}

-- what the model answers to the command of a `put` of `c.txt`, and of a `get` into `b.txt`
abbrev pub put_answer : Mode → State → Result Tree Refusal
put_answer mode s = answer_in mode s (Command.Save (codes "C" ∷ []) 0 0 [])

abbrev pub get_answer : Mode → State → Result Tree Refusal
get_answer mode s = answer_in mode s (Command.Load (codes "A" ∷ []))

-- the lines
abbrev pub put_c : List ℕ
put_c = codes "put c.txt $.C 00000000 00000000"

abbrev pub get_b : List ℕ
get_b = codes "get $.A b.txt"

-- a reply, with image and files as they were
abbrev pub Replies : State → Files → List ℕ → List ℕ → State → Files → Type 0
Replies s files line reply s' files' = Refuses s (line ++ 10 ∷ []) reply s' × (files' ≡ files)

pub record HostRows : Type 0 where
  -- a missing file; a file that is too long; the model's refusals come first
  pub no_file : (mode : Mode) (s s' : State) (files files' : Files) (reply : List ℕ) (t : Tree) → put_answer mode s ≡ Ok t → get files (codes "c.txt") ≡ None
      → HostStep host_line_of mode s files put_c reply s' files' → Replies s files (codes "error 18 NoHostFile") reply s' files'
  pub too_long : (mode : Mode) (s s' : State) (files files' : Files) (reply bytes : List ℕ) (t : Tree) → put_answer mode s ≡ Ok t → get files (codes "c.txt") ≡ Some bytes
      → nat_lt longest_file (length bytes) ≡ true → HostStep host_line_of mode s files put_c reply s' files' → Replies s files (codes "error 19 HostTooLong") reply s' files'
  pub read_only : (mode : Mode) (s s' : State) (files files' : Files) (reply : List ℕ) → put_answer mode s ≡ Err ReadOnly
      → HostStep host_line_of mode s files put_c reply s' files' → Replies s files (codes "error 11 ReadOnly") reply s' files'
  -- a file that is there; a missing object; a file that is made
  pub exists : (mode : Mode) (s s' : State) (files files' : Files) (reply bytes : List ℕ) (t : Tree) → get_answer mode s ≡ Ok t → get files (codes "b.txt") ≡ Some bytes
      → HostStep host_line_of mode s files get_b reply s' files' → Replies s files (codes "error 20 HostExists") reply s' files'
  pub missing : (mode : Mode) (s s' : State) (files files' : Files) (reply : List ℕ) → get_answer mode s ≡ Err NotFound
      → HostStep host_line_of mode s files get_b reply s' files' → Replies s files (codes "error 3 NotFound") reply s' files'
  pub got : (mode : Mode) (s s' : State) (files files' : Files) (reply : List ℕ) (t : Tree) → get_answer mode s ≡ Ok t → get files (codes "b.txt") ≡ None
      → HostStep host_line_of mode s files get_b reply s' files' → (reply ≡ ok_line) × (s' ≡ s) × (files' ≡ insert files (codes "b.txt") (file_in s (codes "A" ∷ [])))
  -- every other line is a command, which leaves the files
  pub other : (mode : Mode) (s s' : State) (files files' : Files) (reply : List ℕ) → HostStep host_line_of mode s files (codes "free") reply s' files'
      → Takes mode s (Ok Command.Free) reply s' × (files' ≡ files)
