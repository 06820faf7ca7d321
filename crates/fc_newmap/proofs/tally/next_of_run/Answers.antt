use Rattle.std.proofs.Common.{◌≡◌, ◌∙◌, ℕ, ap, arith}
use Rattle.fc_newmap.specs.Map.{home_zone}
use Rattle.fc_newmap.specs.Walk.{zone_up}
use Rattle.fc_newmap.proofs.CountedLemmas.{not_there}
use Rattle.fc_newmap.proofs.tally.next_of_run.Goals as goal
use Rattle.fc_newmap.proofs.tally.next_of_run.Goals.{After-zone_up-zone}

at : (c : After-zone_up-zone) → c.zone_up-zone.result ≡ zone_up c.args.g.now (home_zone c.args.g.now c.args.id) c.args.run.before
at c = c.zone_up-zone.ensures.value ∙ ap (λ (n : ℕ). zone_up c.args.g.now n c.args.run.before) c.home_zone.ensures.value

pub returns-then-zone-z-clause-none : goal.returns-then-zone-z-clause-none
returns-then-zone-z-clause-none c = λ y from less.
    let zone = c.zone_up-zone.ensures in
    let low = zone.low in
    not_there c.args.g.now c.args.id c.args.run y c.zone_up-zone.result c.if-run-g.false (omega (arith, less, low)) (at (goal.at.returns-then-zone-z-clause-none c).After-zone_up-zone) (λ e. omega (arith, e, less))

pub returns-else-zone-z-clause-none : goal.returns-else-zone-z-clause-none
returns-else-zone-z-clause-none c = λ y from less.
    let early = c.if-zone-z.false in
    not_there c.args.g.now c.args.id c.args.run y c.zone_up-zone.result c.if-run-g.false less (at (goal.at.returns-else-zone-z-clause-none c).After-zone_up-zone) (λ e. omega (arith, e, early, from))
