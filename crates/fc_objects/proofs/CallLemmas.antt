-- How many sectors some bytes take.
use Rattle.std.proofs.Common.{◌≡◌, ℕ, ◌+◌, ◌*◌, arith}

pub one_more : (k size : ℕ) → (k + 1) * size ≡ k * size + size
one_more k size = grind (arith)

pub both : (a b size : ℕ) → (a + b) * size ≡ a * size + b * size
both a b size = grind (arith)
