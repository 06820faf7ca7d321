-- Calls of a host in turn: what they ask for, and what a host that tells its files answers.
use Rattle.std.specs.Prelude.{◌≡◌, ℕ, ◌+◌, true, false, List, [], ◌∷◌, ◌++◌, length, map, drop, Option, option_map}
use Rattle.std.specs.List.{flat_map}
use Rattle.std.specs.Option.{ForSome}
use Rattle.fc_host.specs.Asked.{Asked}
use Rattle.fc_host.specs.Files.{Files, bytes_of, is_there, size_of, with_empty, with_more, without}
use Rattle.fc_host.specs.declared.asks.HostCall.TheVariants as calls

-- what was asked on several occasions
abbrev pub all_asked : List (List Asked) → List Asked
all_asked asks = flat_map (λ asked. asked) asks

-- The pieces stand one after another.
abbrev pub joined : List (List ℕ) → List ℕ
joined pieces = flat_map (λ piece. piece) pieces

-- a file was made, and these pieces were added to it
abbrev pub made_of : List ℕ → List (List ℕ) → List Asked
made_of host pieces = (host, calls.Make true, []) ∷ map (λ piece. (host, calls.Append, piece)) pieces

-- these pieces were taken from a file, from that place on, one after another
abbrev pub taken_from : List ℕ → ℕ → List (List ℕ) → List Asked
taken_from host at [] = []
taken_from host at (piece ∷ pieces) = (host, calls.Take at, piece) ∷ taken_from host (at + length piece) pieces

-- ---- a host that tells its files

-- A call that was done, answered by the files as they were, and what it made of them.
abbrev pub AnswersCall : Option Files → Asked → Option Files → Type 0
AnswersCall old (name, calls.Size size, bytes) new = ForSome old (λ files. size ≡ size_of files name) × (new ≡ old)
AnswersCall old (name, calls.Take at, bytes) new = ForSome old (λ files. drop at (bytes_of files name) ≡ bytes ++ drop (at + length bytes) (bytes_of files name)) × (new ≡ old)
AnswersCall old (name, calls.Make true, bytes) new = ForSome old (λ files. is_there files name ≡ false) × (new ≡ option_map (with_empty name) old)
AnswersCall old (name, calls.Make false, bytes) new = ForSome old (λ files. is_there files name ≡ true) × (new ≡ old)
AnswersCall old (name, calls.Append, bytes) new = new ≡ option_map (with_more name bytes) old
AnswersCall old (name, calls.Remove, bytes) new = new ≡ option_map (without name) old
AnswersCall old (name, calls.Failed, bytes) new = ⊥

-- calls in turn
abbrev pub AnswersCalls : Option Files → List Asked → Option Files → Type 0
AnswersCalls old [] new = new ≡ old
AnswersCalls old (a ∷ asked) new = (mid : Option Files) × AnswersCall old a mid × AnswersCalls mid asked new
