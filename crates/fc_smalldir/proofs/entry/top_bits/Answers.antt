use Rattle.std.proofs.Common.{◌≡◌, ◌+◌, ◌-◌, ◌/◌, map, drop, sym, ap, arith, length-drop}
use Rattle.std.proofs.lemmas.List.{drop_all}
use Rattle.fc_bytes.specs.Bits.{num}
use Rattle.fc_smalldir.proofs.ReadLemmas.{tops_below, tops_more, drop_bytes}
use Rattle.fc_smalldir.proofs.entry.top_bits.Goals as goal

pub loop-i-init : goal.loop-i-init
unfolding num
loop-i-init c = (omega arith, sym (ap (λ l. num (map (λ b. b / 128) l)) (drop_all 10 c.args.field.now (omega arith))))

pub overflow_mul-tops : goal.overflow_mul-tops
overflow_mul-tops c =
    let low = tops_below (drop c.loop-i.i c.args.field.now) (drop_bytes c.loop-i.i c.args.field.now c.fits-field) (omega (arith, length-drop c.loop-i.i c.args.field.now)) in
    omega (arith, low, c.loop-i.invariant.1)

pub overflow_add-tops : goal.overflow_add-tops
overflow_add-tops c =
    let low = tops_below (drop c.loop-i.i c.args.field.now) (drop_bytes c.loop-i.i c.args.field.now c.fits-field) (omega (arith, length-drop c.loop-i.i c.args.field.now)) in
    omega (arith, low, c.loop-i.invariant.1, c.fits-field (c.loop-i.i - 1))

pub loop-i-preserved : goal.loop-i-preserved
loop-i-preserved c =
    let i = c.loop-i.i - 1 in
    let next : i + 1 ≡ c.loop-i.i = omega arith in
    let more = rw next at (tops_more c.args.field.now i (omega arith)) in
    (omega arith, omega (arith, more, c.loop-i.invariant.1))
