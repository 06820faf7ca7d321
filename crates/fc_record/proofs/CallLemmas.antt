-- How many read calls a kind takes.
use Rattle.std.proofs.Common.{◌≡◌, ◌≤◌, ◌+◌, ℕ, Option, Some, None, IfSome, sym, subst}
use Rattle.fc_record.specs.declared.Kind.{Kind}
use Rattle.fc_record.specs.Kinds.{kind_calls}

-- a kind for which ten calls are allowed
pub few_calls : (old new : ℕ) (found : Option Kind) → IfSome found (λ kind. kind_calls kind ≡ 10) → new ≤ old + 10 → IfSome found (λ kind. new ≤ old + kind_calls kind)
few_calls old new None ten few = ten
few_calls old new (Some kind) ten few = subst (λ n. new ≤ old + n) (sym ten) few
