use Rattle.std.proofs.Common.{◌≡◌, ◌<◌, ◌/◌, ℕ, List, false, get_or, subst, sym, arith}
use Rattle.std.proofs.lemmas.List.{get_or_default, take_all}
use Rattle.fc_alloc.specs.declared.owner.Owner.{Owner}
use Rattle.fc_placing.specs.Lows.{IsLow, IsPast}
use Rattle.fc_placing.proofs.LowLemmas.{goes_on, set_off, some_step}
use Rattle.fc_placing.proofs.lows.free_low.Goals as goal
use Rattle.fc_placing.proofs.lows.free_low.Goals.{After-low_start-step}

abbrev none : Owner
none = record { id = 0; dir = 0; node = 0; file = false; low = 0; first = 0; sectors = 0 }

step_is : (c : After-low_start-step) → c.low_start-step.result ≡ c.args.map.now.geometry.share / c.args.map.now.geometry.sector
step_is c = omega (arith, c.low_start-step.ensures.value)

pub loop-o-init : goal.loop-o-init
loop-o-init c = set_off c.args.map.now c.args.need c.args.owners.now

pub low_past-low-requires-clause-some : goal.low_past-low-requires-clause-some
low_past-low-requires-clause-some c =
    subst (λ (n : ℕ). 0 < n) (sym (step_is (goal.at.low_past-low-requires-clause-some c).After-low_start-step)) (some_step c.args.map.now c.low_start-step.ensures.map)

pub loop-o-preserved : goal.loop-o-preserved
loop-o-preserved c =
    let m = c.args.map.now in
    let owners = c.args.owners.now in
    let i = c.loop-o.o-index in
    let o : Owner = get_or owners i none in
    let past : IsPast (m.geometry.share / m.geometry.sector) c.args.need o c.loop-o.low c.low_past-low.result =
    subst (λ (step : ℕ). IsPast step c.args.need o c.loop-o.low c.low_past-low.result) (step_is (goal.at.loop-o-preserved c).After-low_start-step) c.low_past-low.ensures in
    goes_on m c.args.need owners i o c.loop-o-test.true (get_or_default owners i o none c.loop-o-test.true) c.loop-o.low c.low_past-low.result c.requires.sorted past c.loop-o.invariant

pub returns : goal.returns
returns c =
    subst (λ (owners : List Owner). IsLow c.args.map.now c.args.need owners c.loop-o.low) (take_all c.loop-o.o-index c.args.owners.now c.loop-o-test.false) c.loop-o.invariant
