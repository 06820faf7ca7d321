use Rattle.std.proofs.Common.{◌-◌, ap, ◌∙◌, arith}
use Rattle.fc_record.specs.declared.Geometry.{Geometry}
use Rattle.fc_newmap.specs.Walk.{zone_after}
use Rattle.fc_newmap.proofs.WalkLemmas.{moved}
use Rattle.fc_newmap.proofs.walk.Walk.next_zone.Goals as goal

pub zone_after-z-requires : goal.zone_after-z-requires
zone_after-z-requires c = omega (arith, c.requires, ap (λ (g : Geometry). g.zones) c.geometry.ensures.value)

pub returns-clause-stands : goal.returns-clause-stands
returns-clause-stands c = λ left.
    let old = c.args.self.now in
    moved c.args.map.now old c.from_zone.result c.zone_after-z.result (old.more - 1)
    (c.zone_after-z.ensures.value ∙ ap (λ (g : Geometry). zone_after g old.shape.zone) c.geometry.ensures.value) (omega (arith, c.if-self-eq0.false)) c.from_zone.ensures.stands
