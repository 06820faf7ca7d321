use Rattle.std.proofs.Common.{◌≡◌, ◌<◌, ℕ, IsPermutation, vec_len}
use Rattle.fc_alloc.specs.Lists.{row_at}
use Rattle.fc_alloc.specs.Owners.{AreInOrder}
use Rattle.fc_alloc.proofs.held.sort_rows.Given as goal

-- the rows so far are in order
abbrev pub invariant-loop-dir : goal.invariant-loop-dir
invariant-loop-dir l =
    ((d : ℕ) → IsPermutation (row_at l.fn.rows.items d) (row_at l.rows.items d))
    × ((d : ℕ) → d < l.dir → AreInOrder (row_at l.rows.items d))
    × (vec_len l.rows ≡ vec_len l.fn.rows)
