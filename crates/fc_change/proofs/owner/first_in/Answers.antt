use Rattle.std.proofs.Common.{◌≡◌, ℕ, ◌-◌, ◌*◌, ◌/◌, ap, ◌∙◌, arith}
use Rattle.fc_space.proofs.GeometryLemmas.{start_fits}
use Rattle.fc_change.proofs.owner.first_in.Goals as goal

pub overflow_mul-result : goal.overflow_mul-result
overflow_mul-result c =
    let g = c.geometry-g.result.now in
    let sector = c.from-in-NewMapped.result in
    let fits = start_fits c.in-NewMapped.map g c.args.low sector c.geometry-g.ensures.map c.geometry-g.ensures.value c.requires in
    let same : c.saturating_sub.result * (g.share / sector) ≡ (c.args.low - 1) * (g.share / sector) =
    ap (λ (n : ℕ). n * (g.share / sector)) (c.saturating_sub.ensures ∙ ap (λ (n : ℕ). n - 1) c.from.ensures) in
    omega (arith, same, fits)
