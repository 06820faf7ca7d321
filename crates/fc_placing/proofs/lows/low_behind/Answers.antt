use Rattle.std.proofs.Common.{◌≡◌, ◌<◌, ◌≤◌, ◌+◌, ◌-◌, ◌*◌, ◌/◌, ◌%◌, ◌^◌, ℕ, inl, inr, min, max, arith, subst}
use Rattle.std.proofs.lemmas.Bool.{cases_lt}
use Rattle.std.proofs.lemmas.Nat.{mul-lt}
use Rattle.fc_placing.specs.Lows.{start_of}
use Rattle.fc_placing.proofs.LowLemmas.{behind}
use Rattle.fc_placing.proofs.lows.low_behind.Goals as goal
use Rattle.fc_placing.proofs.lows.low_behind.Goals.{After-max}

-- what ends so far lies past each low byte
pub returns-in_default-clause-least : goal.returns-in_default-clause-least
returns-in_default-clause-least c = λ k from to.
    let near : (k - 1) * c.args.step < 256 * 2 ^ 34 = mul-lt (k - 1) c.args.step 256 (2 ^ 34) (omega arith) c.requires.step in
    elim (cases_lt ((k - 1) * c.args.step) (c.args.o.now.first + c.args.o.now.sectors)) [
      | inl less ↦ less
      | inr more ↦ absurd (c.in_default.ensures (omega (arith, near, more)))
    ]

ends : (c : After-max) → (c.max.result < 256 → c.in-Some.end ≤ start_of c.args.step c.max.result) × ((k : ℕ) → c.args.low ≤ k → k < c.max.result → start_of c.args.step k < c.in-Some.end)
ends c =
    let steps : c.div_ceil.result ≡ c.in-Some.end / c.args.step + min 1 (c.in-Some.end % c.args.step) = c.div_ceil.ensures in
    let is : c.max.result ≡ max c.args.low (min (c.in-Some.end / c.args.step + min 1 (c.in-Some.end % c.args.step)) 255 + 1) = omega (arith, steps, c.from.ensures, c.min-steps.ensures, c.max.ensures) in
    behind c.args.step c.args.low c.in-Some.end c.max.result c.requires.some c.requires.first is

pub returns-clause-behind : goal.returns-clause-behind
returns-clause-behind c = λ byte. subst (λ (end : ℕ). end ≤ start_of c.args.step c.max.result) c.in-Some.ensures.1 ((ends c).0 byte)

pub returns-clause-least : goal.returns-clause-least
returns-clause-least c = λ k from to. subst (λ (end : ℕ). start_of c.args.step k < end) c.in-Some.ensures.1 ((ends c).1 k from to)
