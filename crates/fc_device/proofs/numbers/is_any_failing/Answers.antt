use Rattle.std.proofs.Common.{◌≡◌, ◌+◌, ◌-◌, ℕ, suc, true, false, sym, ◌∙◌, ap, arith}
use Rattle.fc_device.specs.Numbers.{any_listed, is_listed, last_number, next_number}
use Rattle.fc_device.proofs.NumberLemmas.{last_goes_on, listed_goes_on, last_ends, listed_ends}
use Rattle.fc_device.proofs.numbers.is_any_failing.Goals as goal

pub loop-preserved : goal.loop-preserved
loop-preserved c =
    let numbers = c.args.failing.now in
    let rest = c.args.calls - (c.loop.counter + 1) in
    let more : c.args.calls - c.loop.counter ≡ suc rest = omega (arith, c.loop-test.true) in
    let is = c.is_failing.ensures.next in
    let quiet : is_listed numbers (next_number c.loop.number) ≡ false = ap (λ (n : ℕ). is_listed numbers n) (sym is) ∙ sym c.is_failing.ensures.listed ∙ c.if-is_failing.false in
    record {
      last = c.loop.invariant.last ∙ last_goes_on numbers c.loop.number _ rest more quiet ∙ ap (λ (n : ℕ). last_number numbers n rest) (sym is);
      listed = c.loop.invariant.listed ∙ listed_goes_on numbers c.loop.number _ rest more quiet ∙ ap (λ (n : ℕ). any_listed numbers n rest) (sym is);
      later = omega (arith, c.loop.invariant.later, c.is_failing.ensures.later);
      within = omega (arith, c.loop.invariant.within, c.is_failing.ensures.by_one);
    }

pub returns-then-is_failing-clause-last : goal.returns-then-is_failing-clause-last
returns-then-is_failing-clause-last c =
    let numbers = c.args.failing.now in
    let rest = c.args.calls - (c.loop.counter + 1) in
    let more : c.args.calls - c.loop.counter ≡ suc rest = omega (arith, c.loop-test.true) in
    let is = c.is_failing.ensures.next in
    let listed : is_listed numbers (next_number c.loop.number) ≡ true = ap (λ (n : ℕ). is_listed numbers n) (sym is) ∙ sym c.is_failing.ensures.listed ∙ c.if-is_failing.true in
    is ∙ sym (c.loop.invariant.last ∙ last_ends numbers c.loop.number _ rest more listed)

pub returns-then-is_failing-clause-listed : goal.returns-then-is_failing-clause-listed
returns-then-is_failing-clause-listed c =
    let numbers = c.args.failing.now in
    let rest = c.args.calls - (c.loop.counter + 1) in
    let more : c.args.calls - c.loop.counter ≡ suc rest = omega (arith, c.loop-test.true) in
    let is = c.is_failing.ensures.next in
    let listed : is_listed numbers (next_number c.loop.number) ≡ true = ap (λ (n : ℕ). is_listed numbers n) (sym is) ∙ sym c.is_failing.ensures.listed ∙ c.if-is_failing.true in
    sym (c.loop.invariant.listed ∙ listed_ends numbers c.loop.number _ rest more listed)
