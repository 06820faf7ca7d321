-- How a `get` that is not refused for its path is answered.
use Rattle.std.specs.Prelude.{◌≡◌, ◌⊎◌, ℕ, Bool, true, false, List, [], ◌∷◌, take, Option, Some, is_some, Result, Ok, Err}
use Rattle.std.specs.Option.{ForSome}
use Rattle.std.specs.FinMap.{get, insert}
use Rattle.fc_host.specs.Answers.{AnswersCalls}
use Rattle.fc_host.specs.Asked.{Asked}
use Rattle.fc_host.specs.Files.{Files}
use Rattle.fc_host.specs.declared.asks.HostCall.TheVariants as calls
use Rattle.fc_image.specs.effects.Effect.{State}
use Rattle.fc_runs.specs.AskedRun.{GetsAsked}
use Rattle.fc_runs.specs.HostPromises.{GetsPart, IsBack}
use Rattle.fc_runs.specs.Promises.{cuts_replies}
use Rattle.fc_runs.specs.Run.{is_error}
use Rattle.fc_shell.specs.declared.moving.MoveFault.{MoveFault}
use Rattle.fc_shell.specs.Moving.{move_cause}
use Rattle.fc_shell.specs.Writing.{Wrote, WrotePart}

-- The file was made with these bytes, or is there: with this reply, over any state.
pub record IsGot (host bytes : List ℕ) (asked : List Asked) (files left : Option Files) (reply : List ℕ) : Type 0 where
  pub got : (s : State) → GetsAsked s host bytes asked reply s
  pub answered : AnswersCalls files asked left

-- A call failed, or memory was short. What is left of the files, if they are told: they are as they were, or have the file, with the
-- first of the bytes.
pub record IsNotGot (host bytes : List ℕ) (asked : List Asked) (files left : Option Files) : Type 0 where
  pub begun : (asked ≡ []) ⊎ ((asked ≡ (host, calls.Failed, []) ∷ []) ⊎ GetsPart host bytes asked)
  pub files_left : ForSome files (λ held. (now : Files) × (left ≡ Some now) × ((now ≡ held) ⊎ ((is_some (get held host) ≡ false) × ((n : ℕ) × (now ≡ insert held host (take n bytes))))))
  pub back : IsBack asked files left

abbrev pub FileMoves : List ℕ → List ℕ → List Asked → Option Files → Option Files → Option (List ℕ) → Option (List ℕ) → Result Bool MoveFault → Type 0
FileMoves host bytes asked files left before after (Ok refused) = (reply : List ℕ) × IsGot host bytes asked files left reply × Wrote before after reply × (refused ≡ is_error reply)
FileMoves host bytes asked files left before after (Err fault) =
    ((reply : List ℕ) × IsGot host bytes asked files left reply × WrotePart before after reply × (cuts_replies (move_cause fault) ≡ true))
    ⊎ ((after ≡ before) × IsNotGot host bytes asked files left)
