use Rattle.std.proofs.Common.{◌≡◌, ℕ, ◌-◌, ◌*◌, ◌/◌, ap, ◌∙◌, arith}
use Rattle.fc_space.proofs.GeometryLemmas.{start_fits}
use Rattle.fc_space.proofs.new.low_start.Goals as goal

pub overflow_mul-result : goal.overflow_mul-result
overflow_mul-result c =
    let g = c.geometry-g.result.now in
    let fits = start_fits c.args.map.now g c.args.low c.from-2.result c.geometry-g.ensures.map c.geometry-g.ensures.value c.requires in
    let same : c.saturating_sub.result * (g.share / c.from-2.result) ≡ (c.args.low - 1) * (g.share / c.from-2.result) =
    ap (λ (n : ℕ). n * (g.share / c.from-2.result)) (c.saturating_sub.ensures ∙ ap (λ (n : ℕ). n - 1) c.from.ensures) in
    omega (arith, same, fits)

pub returns-clause-few : goal.returns-clause-few
returns-clause-few c =
    let g = c.geometry-g.result.now in
    let fits = start_fits c.args.map.now g c.args.low c.from-2.result c.geometry-g.ensures.map c.geometry-g.ensures.value c.requires in
    let same : c.saturating_sub.result * (g.share / c.from-2.result) ≡ (c.args.low - 1) * (g.share / c.from-2.result) =
    ap (λ (n : ℕ). n * (g.share / c.from-2.result)) (c.saturating_sub.ensures ∙ ap (λ (n : ℕ). n - 1) c.from.ensures) in
    omega (arith, same, fits)
