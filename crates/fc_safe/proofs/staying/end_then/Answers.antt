use Rattle.std.proofs.Common.{◌<◌, ◌+◌, ◌*◌, ◌^◌, ℕ, sym, subst, arith}
use Rattle.fc_safe.proofs.StayingLemmas.{end_fits}
use Rattle.fc_safe.proofs.staying.end_then.Goals as goal

pub overflow_mul-result : goal.overflow_mul-result
overflow_mul-result c =
    let fits : (c.args.o.now.first + c.sectors_then.result) * c.from.result < 2 ^ 64 =
    subst (λ (s : ℕ). (c.args.o.now.first + c.sectors_then.result) * s < 2 ^ 64) (sym c.from.ensures)
    (end_fits c.args.g.now (c.args.o.now.first + c.sectors_then.result) c.requires.record (subst (λ (n : ℕ). c.args.o.now.first + n < 2 ^ 48) (sym c.sectors_then.ensures) c.requires.sized.few)) in
    omega (arith, fits)
