use Rattle.std.proofs.Common.{◌<◌, ◌≤◌, ◌+◌, ◌-◌, ◌∙◌, [], ◌++◌, Option, Some, ap, sym, subst}
use Rattle.fc_record.specs.declared.Geometry.{Geometry}
use Rattle.fc_record.specs.Record.{base, end_bit, first_bit}
use Rattle.fc_newmap.specs.Map.{ZoneRun, holds_bit, runs_of}
use Rattle.fc_newmap.specs.RunsLaw.{placed}
use Rattle.fc_newmap.proofs.BitLemmas.{ahead_end, ahead_on, ahead_some, found_in_zone}
use Rattle.fc_newmap.proofs.WalkLemmas.{IsStepOf}
use Rattle.fc_newmap.proofs.map.NewMap.run_at.Goals as goal
use Rattle.fc_newmap.proofs.map.NewMap.run_at.Goals.{After-unwrap-z}

pub loop-g-init : goal.loop-g-init
loop-g-init c =
    let m = c.args.self.now in
    let z = c.zone_of_bit.result in
    let is = c.geometry-g.ensures.value in
    let r = found_in_zone m c.geometry-g.ensures.map z c.args.bit (subst (λ (g : Geometry). z < g.zones) is c.zone_of_bit.ensures.low) (subst (λ (g : Geometry). base g z ≤ c.args.bit) is c.zone_of_bit.ensures.from)
    (subst (λ (g : Geometry). c.args.bit < base g z + (end_bit g z - first_bit z)) is c.zone_of_bit.ensures.to) in
    record { left = placed z (runs_of m z) ++ []; run = r.0; stands = c.from_zone-walk.ensures.stands; ahead = r.1.1; is = r.1.0 }

pub unwrap-z-requires : goal.unwrap-z-requires
unwrap-z-requires c = ahead_some c.args.self.now c.args.bit c.loop-g.walk c.next.new.self c.next.result c.loop-g.invariant c.next.ensures.value

step : (c : After-unwrap-z) → IsStepOf c.args.self.now c.loop-g.walk c.next.new.self (Some c.unwrap-z.result)
step c = subst (λ (o : Option ZoneRun). IsStepOf c.args.self.now c.loop-g.walk c.next.new.self o) c.unwrap-z.ensures c.next.ensures.value

pub returns-then-holds_bit : goal.returns-then-holds_bit
returns-then-holds_bit c =
    ahead_end c.args.self.now c.args.bit c.loop-g.walk c.next.new.self c.unwrap-z.result c.loop-g.invariant (step (goal.at.returns-then-holds_bit c).After-unwrap-z)
    (sym (c.holds_bit.ensures ∙ ap (λ (g : Geometry). holds_bit g c.args.bit c.unwrap-z.result) c.geometry-g.ensures.value) ∙ c.if-holds_bit.true)

pub loop-g-preserved : goal.loop-g-preserved
loop-g-preserved c =
    ahead_on c.args.self.now c.args.bit c.loop-g.walk c.next.new.self c.unwrap-z.result c.loop-g.invariant (step (goal.at.loop-g-preserved c).After-unwrap-z)
    (sym (c.holds_bit.ensures ∙ ap (λ (g : Geometry). holds_bit g c.args.bit c.unwrap-z.result) c.geometry-g.ensures.value) ∙ c.if-holds_bit.false)
