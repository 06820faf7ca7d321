use Rattle.std.proofs.Common.{◌≡◌, ◌+◌, ap, arith, ◌∙◌}
use Rattle.std.proofs.lemmas.List.Sums.{sum_by-cons}
use Rattle.fc_newmap.specs.Map.{ZoneRun, bits_in}
use Rattle.fc_newmap.specs.Walk.{holes_in}
use Rattle.fc_plan.proofs.holes.Holes.have_bits.Goals as goal

pub loop-missing-preserved : goal.loop-missing-preserved
loop-missing-preserved c =
    let so_far = c.loop-missing.invariant in
    let step = c.in-Some.ensures.value so_far.0 so_far.1 in
    let hole : ZoneRun = (c.in-Some.field-0-0, c.in-Some.run') in
    let sum : bits_in (holes_in so_far.0) ≡ c.in-Some.run'.len + bits_in (holes_in step.0) = ap bits_in step.1.0 ∙ sum_by-cons (λ (p : ZoneRun). p.1.len) hole (holes_in step.0) in
    let len = c.from.ensures in
    let less = c.saturating_sub-missing.ensures in
    let before = so_far.2 in
    (step.0, step.1.1, omega arith)
