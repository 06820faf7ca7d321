use Rattle.std.proofs.Common.{◌<◌, get_or, refl, sym, subst, arith, ap}
use Rattle.fc_record.specs.declared.Geometry.{Geometry}
use Rattle.fc_newmap.proofs.HeldLemmas.{geometry_facts}
use Rattle.fc_compact.proofs.LongestLemmas.{longest_is}
use Rattle.fc_compact.proofs.longest.longest_hole.Goals as goal

pub longest_zone-z-requires-clause-some : goal.longest_zone-z-requires-clause-some
longest_zone-z-requires-clause-some c = (let f = geometry_facts c.args.map.now.geometry c.geometry.ensures.map.of_record in omega (arith, f.zones, ap (λ (g : Geometry). g.zones) c.geometry.ensures.value))

pub hole_in-requires : goal.hole_in-requires
hole_in-requires c = subst (λ (g : Geometry). c.longest_zone-z.result < g.zones) c.geometry.ensures.value c.longest_zone-z.ensures.low

pub returns : goal.returns
returns c =
    let m = c.args.map.now in
    let z = c.longest_zone-z.result in
    longest_is m c.args.lens.now c.requires.longest z (get_or c.args.lens.now z 0) (subst (λ (g : Geometry). z < g.zones) c.geometry.ensures.value c.longest_zone-z.ensures.low)
    (λ y low. c.longest_zone-z.ensures.most y (subst (λ (g : Geometry). y < g.zones) (sym c.geometry.ensures.value) low)) refl c.geometry.ensures.map c.hole_in.result c.hole_in.ensures.found c.hole_in.ensures.none
