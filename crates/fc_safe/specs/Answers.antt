-- What the safe mode's calls answer.
use Rattle.std.specs.Prelude.{◌≡◌, Option, Some, None, Result, Ok, Err}
use Rattle.fc_names.specs.declared.refusal.Refusal.TheVariants as refusals
use Rattle.fc_image.specs.safe.SafeShort.{SafeRefusal}
use Rattle.fc_plan.specs.declared.supply.PlanError.{PlanError}
use Rattle.fc_plan.specs.declared.supply.PlanError.TheVariants as plans
use Rattle.fc_safe.specs.declared.error.SafeError.{SafeError}
use Rattle.fc_safe.specs.declared.error.SafeError.TheVariants as errors

-- why there is no plan
abbrev pub of_plan : PlanError → SafeError
of_plan plans.IdsFull = errors.Refused refusals.IdsFull
of_plan plans.DiscFull = errors.Refused refusals.DiscFull
of_plan plans.NoMemory = errors.NoMemory

-- The answer is this refusal, or none if there is none. Memory may be short all the same, and no disk is spoken to.
abbrev pub AnswersSafe : {T : Type 0} → Result T SafeError → Option SafeRefusal → Type 0
AnswersSafe (Ok value) refusal = refusal ≡ None
AnswersSafe (Err (errors.Refused r)) refusal = refusal ≡ Some (SafeRefusal.Refused r)
AnswersSafe (Err (errors.Spread zones)) refusal = refusal ≡ Some (SafeRefusal.Spread zones)
AnswersSafe (Err errors.NoMemory) refusal = Unit {0}
AnswersSafe (Err errors.DiskFault) refusal = ⊥
