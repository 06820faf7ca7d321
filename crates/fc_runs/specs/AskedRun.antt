-- Runs whose lines may move files of a host that need not tell what it holds: by what was asked of it.
use Rattle.std.specs.Prelude.{◌≡◌, ◌⊎◌, ℕ, true, false, nat_lt, List, [], ◌∷◌, length, Option, Some, None, Result, Ok, Err}
use Rattle.fc_host.specs.Answers.{AnswersCalls, all_asked, joined, made_of, taken_from}
use Rattle.fc_host.specs.Asked.{Asked}
use Rattle.fc_host.specs.Files.{Files}
use Rattle.fc_host.specs.declared.asks.HostCall.TheVariants as calls
use Rattle.fc_names.specs.declared.refusal.Refusal.{Refusal}
use Rattle.fc_names.specs.declared.refusal.Refusal.TheVariants as refusals
use Rattle.fc_model.specs.Tree.{Tree}
use Rattle.fc_model.specs.Command.{Command}
use Rattle.fc_image.specs.effects.Effect.{State}
use Rattle.fc_script.specs.HostLines.{HostLine}
use Rattle.fc_script.specs.Texts.{ok_line, refusal_line}
use Rattle.fc_runs.specs.HostRun.{HostSteps, Reading, answer_in, file_in, longest_file}
use Rattle.fc_runs.specs.Run.{Mode, Refuses, Takes}

-- ---- one line

-- A refusal before anything was asked.
abbrev pub RefusesUnasked : State → Refusal → List Asked → List ℕ → State → Type 0
RefusesUnasked s refusal asked reply s' = Refuses s (refusal_line refusal) reply s' × (asked ≡ [])

-- a `get` that the model accepts: the file is there, or it was made and got all bytes of the object, and no others
abbrev pub GetsAsked : State → List ℕ → List ℕ → List Asked → List ℕ → State → Type 0
GetsAsked s host bytes asked reply s' =
    ((asked ≡ (host, calls.Make false, []) ∷ []) × Refuses s (refusal_line refusals.HostExists) reply s')
    ⊎ ((pieces : List (List ℕ)) × (asked ≡ made_of host pieces) × (joined pieces ≡ bytes) × (reply ≡ ok_line) × (s' ≡ s))

-- A `put` of a file of so many bytes that the model accepts: it is too long; or it is a `save` of just the bytes that were then
-- taken; or that `save` is refused by its length alone, and none were taken.
abbrev pub PutsLength : Mode → State → (List ℕ → Command) → List ℕ → ℕ → List Asked → List ℕ → State → Type 0
PutsLength mode s save host n asked reply s' =
    ((nat_lt longest_file n ≡ true) × (asked ≡ []) × Refuses s (refusal_line refusals.HostTooLong) reply s')
    ⊎ ((nat_lt longest_file n ≡ false)
    × (((pieces : List (List ℕ)) × (asked ≡ taken_from host 0 pieces) × (length (joined pieces) ≡ n) × Takes mode s (Ok (save (joined pieces))) reply s')
    ⊎ ((asked ≡ []) × ((bytes : List ℕ) → length bytes ≡ n → Takes mode s (Ok (save bytes)) reply s'))))

-- a `put` that the model accepts
abbrev pub PutsAsked : Mode → State → (List ℕ → Command) → List ℕ → List Asked → List ℕ → State → Type 0
PutsAsked mode s save host asked reply s' =
    ((asked ≡ (host, calls.Size None, []) ∷ []) × Refuses s (refusal_line refusals.NoHostFile) reply s')
    ⊎ ((n : ℕ) × (more : List Asked) × (asked ≡ (host, calls.Size (Some n), []) ∷ more) × PutsLength mode s save host n more reply s')

-- by what the model answers
abbrev pub UnlessRefused : State → Result Tree Refusal → List Asked → List ℕ → State → Type 0 → Type 0
UnlessRefused s (Err refusal) asked reply s' P = RefusesUnasked s refusal asked reply s'
UnlessRefused s (Ok t) asked reply s' P = P

-- A line that was done, and what was asked of the host meanwhile: nothing, but of the file that the line names.
abbrev pub AskedTakes : Mode → State → List Asked → Result HostLine Refusal → List ℕ → State → Type 0
AskedTakes mode s asked (Err refusal) reply s' = RefusesUnasked s refusal asked reply s'
AskedTakes mode s asked (Ok (HostLine.Put host path load exec)) reply s' =
    UnlessRefused s (answer_in mode s (Command.Save path load exec [])) asked reply s' (PutsAsked mode s (Command.Save path load exec) host asked reply s')
AskedTakes mode s asked (Ok (HostLine.Get path host)) reply s' =
    UnlessRefused s (answer_in mode s (Command.Load path)) asked reply s' (GetsAsked s host (file_in s path) asked reply s')
AskedTakes mode s asked (Ok (HostLine.Other command)) reply s' = Takes mode s (Ok command) reply s' × (asked ≡ [])

-- Lines in turn, with their replies and what was asked meanwhile: this holds of every host, also of the files of the machine.
abbrev pub AskedSteps : Reading → (List ℕ → Type 0) → Mode → State → List (List ℕ) → List (List ℕ) → List (List Asked) → State → Type 0
AskedSteps read May mode s [] [] [] s' = s' ≡ s
AskedSteps read May mode s (line ∷ lines) (reply ∷ replies) (asked ∷ asks) s' =
    (mid : State) × May mid.image × AskedTakes mode s asked (read line) reply mid × AskedSteps read May mode mid lines replies asks s'
AskedSteps read May mode s lines replies asks s' = ⊥

-- ---- a host that tells its files

-- If the host tells its files, and answered by them, the lines are steps with these files.
abbrev pub AskedLaw : Type 0
AskedLaw = (read : Reading) (mode : Mode) (s s' : State) (files : Files) (left : Option Files) (lines replies : List (List ℕ)) (asks : List (List Asked))
    → AskedSteps read (λ between. Unit {0}) mode s lines replies asks s' → AnswersCalls (Some files) (all_asked asks) left
    → (files' : Files) × (left ≡ Some files') × HostSteps read (λ between. Unit {0}) mode s files lines replies s' files'
