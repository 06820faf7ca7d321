-- What a command's call answers.
use Rattle.std.specs.Prelude.{◌≡◌, Option, Some, None, Result, Ok, Err}
use Rattle.fc_names.specs.declared.refusal.Refusal.{Refusal}
use Rattle.fc_names.specs.declared.refusal.Refusal.TheVariants as refusals
use Rattle.fc_plan.specs.declared.supply.PlanError.{PlanError}
use Rattle.fc_plan.specs.declared.supply.PlanError.TheVariants as errors
use Rattle.fc_holdings.specs.declared.error.CommandError.{CommandError}
use Rattle.fc_holdings.specs.declared.error.CommandError.TheVariants.{Refused, NoMemory, DiskFault}

-- why there is no space, as a command answers it
abbrev pub no_space : PlanError → CommandError
no_space errors.IdsFull = Refused refusals.IdsFull
no_space errors.DiscFull = Refused refusals.DiscFull
no_space errors.NoMemory = NoMemory

-- The call answers this refusal, or none if there is none. It may be out of memory in either case; the disk fails only after a command
-- that is accepted.
abbrev pub AnswersBy : {T : Type 0} → Option Refusal → Result T CommandError → Type 0
AnswersBy None (Ok value) = Unit {0}
AnswersBy None (Err (Refused r)) = ⊥
AnswersBy None (Err NoMemory) = Unit {0}
AnswersBy None (Err DiskFault) = Unit {0}
AnswersBy (Some refusal) (Ok value) = ⊥
AnswersBy (Some refusal) (Err (Refused r)) = r ≡ refusal
AnswersBy (Some refusal) (Err NoMemory) = Unit {0}
AnswersBy (Some refusal) (Err DiskFault) = ⊥

-- P, unless the disk failed
abbrev pub UnlessFault : {T : Type 0} → Result T CommandError → Type 0 → Type 0
UnlessFault (Ok value) P = P
UnlessFault (Err (Refused refusal)) P = P
UnlessFault (Err NoMemory) P = P
UnlessFault (Err DiskFault) P = Unit {0}
