use Rattle.std.proofs.Common.{◌≡◌, ℕ, ◌+◌, vec_len}
use Rattle.fc_alloc.specs.Lists.{row_at}
use Rattle.fc_alloc.proofs.lists.grow.Given as goal

abbrev pub invariant-loop-i : goal.invariant-loop-i
invariant-loop-i g l =
    ((d : ℕ) → row_at l.lists.items d ≡ row_at l.fn.lists.items d) × (vec_len l.lists ≡ vec_len l.fn.lists + l._i)
