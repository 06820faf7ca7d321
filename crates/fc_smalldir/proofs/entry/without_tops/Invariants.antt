use Rattle.std.proofs.Common.{◌≡◌, ◌++◌, ◌%◌, take, drop, map}
use Rattle.fc_smalldir.proofs.entry.without_tops.Given as goal

abbrev pub invariant-loop-c : goal.invariant-loop-c
invariant-loop-c l = l.c-items ≡ map (λ c. c % 128) (take l.c-index l.field) ++ drop l.c-index l.field
