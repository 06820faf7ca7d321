use Rattle.std.proofs.Common.{◌≡◌, ℕ, map, take}
use Rattle.fc_safe.proofs.staying.no_ends.Given as goal

abbrev pub invariant-loop : goal.invariant-loop
invariant-loop l = l.ends.items ≡ map (λ (id : ℕ). 0) (take l.index l.ids)
