use Rattle.std.proofs.Common.{◌-◌, ◌*◌, ◌^◌, ◌∙◌, min, ℕ, ap, arith}
use Rattle.fc_newmap.specs.Map.{bits_in}
use Rattle.fc_plan.specs.Parts.{fronts}
use Rattle.fc_placing.proofs.AddressLemmas.{share_low, spare_else, spare_then}
use Rattle.fc_placing.proofs.addressing.has_spare_share.Goals as goal

pub overflow_add-end : goal.overflow_add-end
overflow_add-end c =
    let share = share_low c.args.g.now c.requires.record in
    let high = c.next_multiple_of-end.ensures.upper_bound in
    let few = c.requires.few in
    omega (arith, share, high, few)

pub returns-then-end-g : goal.returns-then-end-g
returns-then-end-g c =
    spare_then c.args.g.now (bits_in (fronts c.args.parts.now)) c.saturating_mul-space.result c.next_multiple_of-end.result c.args.bytes c.requires.record
    (c.saturating_mul-space.ensures ∙ ap (λ (n : ℕ). min (n * c.args.g.now.bit_bytes) (2 ^ 64 - 1)) c.bits_of.ensures) c.next_multiple_of-end.ensures.value
    (let share = share_low c.args.g.now c.requires.record in let high = c.next_multiple_of-end.ensures.upper_bound in let few = c.requires.few in omega (arith, share, high, few)) c.if-end-g.true

pub returns-else-end-g : goal.returns-else-end-g
returns-else-end-g c =
    spare_else c.args.g.now (bits_in (fronts c.args.parts.now)) c.saturating_mul-space.result c.next_multiple_of-end.result c.args.bytes c.requires.record
    (c.saturating_mul-space.ensures ∙ ap (λ (n : ℕ). min (n * c.args.g.now.bit_bytes) (2 ^ 64 - 1)) c.bits_of.ensures) c.next_multiple_of-end.ensures.value
    (let share = share_low c.args.g.now c.requires.record in let high = c.next_multiple_of-end.ensures.upper_bound in let few = c.requires.few in omega (arith, share, high, few)) c.if-end-g.false
