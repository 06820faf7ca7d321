-- What lines may ask of a host, whatever disk and host hold: each of its own file alone, and a file is changed only if the line made it.
use Rattle.std.specs.Prelude.{◌≡◌, ◌⊎◌, ℕ, false, List, [], ◌∷◌, ◌++◌, All, Result, Ok}
use Rattle.fc_host.specs.Answers.{made_of}
use Rattle.fc_host.specs.Asked.{Asked}
use Rattle.fc_host.specs.Looks.{IsLook}
use Rattle.fc_host.specs.declared.asks.HostCall.TheVariants as calls
use Rattle.fc_names.specs.declared.refusal.Refusal.{Refusal}
use Rattle.fc_script.specs.HostLines.{HostLine}
use Rattle.fc_runs.specs.HostRun.{Reading}

-- nothing after the last piece; or, if a call failed, maybe that of a piece more, the file was to be removed
abbrev pub EndsGet : List ℕ → List Asked → Type 0
EndsGet host asked = (asked ≡ [])
    ⊎ ((failed : List Asked) × ((failed ≡ []) ⊎ ((piece : List ℕ) × (failed ≡ (host, calls.Failed, piece) ∷ [])))
    × ((asked ≡ failed ++ (host, calls.Remove, []) ∷ []) ⊎ (asked ≡ failed ++ (host, calls.Failed, []) ∷ [])))

-- a `get`: the file is to be made, and is there or can't be made; or it is made, gets pieces, and may be removed again
abbrev pub GetAsks : List ℕ → List Asked → Type 0
GetAsks host asked = (asked ≡ []) ⊎ ((asked ≡ (host, calls.Make false, []) ∷ []) ⊎ ((asked ≡ (host, calls.Failed, []) ∷ [])
    ⊎ ((pieces : List (List ℕ)) × (end : List Asked) × (asked ≡ made_of host pieces ++ end) × EndsGet host end)))

-- a `put`: its file is looked at, and no other
abbrev pub PutAsks : List ℕ → List Asked → Type 0
PutAsks host asked = All (IsLook host) asked

-- a line
abbrev pub LineAsks : Result HostLine Refusal → List Asked → Type 0
LineAsks (Ok (HostLine.Get path host)) asked = GetAsks host asked
LineAsks (Ok (HostLine.Put host path load exec)) asked = PutAsks host asked
LineAsks line asked = asked ≡ []

-- lines in turn, of which the last may not have been begun
abbrev pub LinesAsk : Reading → List (List ℕ) → List (List Asked) → Type 0
LinesAsk read lines [] = Unit {0}
LinesAsk read [] (asked ∷ asks) = ⊥
LinesAsk read (line ∷ lines) (asked ∷ asks) = LineAsks (read line) asked × LinesAsk read lines asks
