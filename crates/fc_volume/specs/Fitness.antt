-- Whether a volume is fit after a command.
use Rattle.std.specs.Prelude.{Bool, true, false, Result, Ok, Err}
use Rattle.fc_holdings.specs.declared.error.CommandError.{CommandError}
use Rattle.fc_holdings.specs.declared.error.CommandError.TheVariants.{Refused, NoMemory, DiskFault}
use Rattle.fc_commands.specs.declared.given.GivenError.{GivenError}

-- It is, unless the disk failed.
abbrev pub fit_after : {T : Type 0} → Result T CommandError → Bool
fit_after (Ok value) = true
fit_after (Err (Refused refusal)) = true
fit_after (Err NoMemory) = true
fit_after (Err DiskFault) = false

-- the same after a command whose bytes were given: a supply that fails leaves it as it was
abbrev pub fit_after_giving : Result (Unit {0}) GivenError → Bool
fit_after_giving (Ok done) = true
fit_after_giving (Err (GivenError.Command error)) = fit_after {T = Unit {0}} (Err error)
fit_after_giving (Err GivenError.Supply) = true
