-- What a call answers, by its stages.
use Rattle.std.proofs.Common.{◌≡◌, Option, Some, None}
use Rattle.std.specs.Prelude.{Err, Ok}
use Rattle.fc_names.specs.declared.refusal.Refusal.{Refusal}
use Rattle.fc_holdings.specs.declared.error.CommandError.TheVariants.{Refused, NoMemory, DiskFault}
use Rattle.fc_holdings.specs.Answers.{AnswersBy}

pub refused_by : (T : Type 0) (o : Option Refusal) (r : Refusal) → o ≡ Some r → AnswersBy {T = T} o (Err (Refused r))
refused_by T None r e = absurd (cc)
refused_by T (Some s) r e = some_same s r e
  where
    some_same : (a b : Refusal) → (let x : Option Refusal = Some a in x) ≡ Some b → b ≡ a
    some_same a b h = cc

pub no_memory : (T : Type 0) (o : Option Refusal) → AnswersBy {T = T} o (Err NoMemory)
no_memory T None = tt
no_memory T (Some r) = tt

pub accepted_by : {T : Type 0} (o : Option Refusal) (value : T) → o ≡ None → AnswersBy o (Ok value)
accepted_by None value e = tt
accepted_by (Some r) value e = absurd (cc)

pub faulted_by : (T : Type 0) (o : Option Refusal) → o ≡ None → AnswersBy {T = T} o (Err DiskFault)
faulted_by T None e = tt
faulted_by T (Some r) e = absurd (cc)
