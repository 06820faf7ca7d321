use Rattle.std.proofs.Common.{◌≡◌, ◌++◌, List, ℕ, length, length-append, ap, ap₂, refl, sym, subst, ◌∙◌, arith}
use Rattle.fc_record.specs.declared.Geometry.{Geometry}
use Rattle.fc_newmap.specs.Map.{home_zone}
use Rattle.fc_newmap.specs.Walk.{StandsAt}
use Rattle.fc_newmap.proofs.HeldLemmas.{geometry_facts}
use Rattle.fc_compact.specs.Joins.{ids_in}
use Rattle.fc_compact.proofs.SideLemmas.{above, below, sides_few, started}
use Rattle.fc_compact.proofs.listed.ListedRuns.start.Goals as goal

pub push_above-requires : goal.push_above-requires
push_above-requires c =
    let few = sides_few c.home_zone-home.result c.deref.result.now in
    omega (arith, few, c.deref.ensures.1, ap length c.new-order.ensures)

pub push_below-requires : goal.push_below-requires
push_below-requires c =
    let home = c.home_zone-home.result in
    let few = sides_few home c.deref-2.result.now in
    let same : length (above home c.deref.result.now) ≡ length (above home c.deref-2.result.now) =
    ap (λ (zs : List ℕ). length (above home zs)) c.deref.ensures.0 ∙ sym (ap (λ (zs : List ℕ). length (above home zs)) c.deref-2.ensures.0) in
    omega (arith, few, same, c.deref-2.ensures.1, ap length c.new-order.ensures, ap length c.push_above.ensures, length-append c.new-order.result.items (above home c.deref.result.now))

pub returns : goal.returns
returns c =
    let m = c.args.map.now in
    let id = c.args.id in
    let home = c.home_zone-home.result in
    let zones = c.args.zones.now.items in
    let home_is : home ≡ home_zone m.geometry id = c.home_zone-home.ensures.value ∙ ap (λ (g : Geometry). home_zone g id) c.geometry.ensures.value in
    let one : c.push_above.new.list.items ≡ above home zones = c.push_above.ensures ∙ ap₂ (λ (xs ys : List ℕ). xs ++ above home ys) c.new-order.ensures c.deref.ensures.0 in
    let two : c.push_below.new.list.items ≡ above home zones ++ below home zones = c.push_below.ensures ∙ ap₂ (λ (xs ys : List ℕ). xs ++ below home ys) one c.deref-2.ensures.0 in
    started m id zones (record { id = id; zones = c.push_below.new.list; come = 0; cursor = c.before_zone-cursor.result })
    (geometry_facts m.geometry c.geometry.ensures.map.of_record).zones c.requires refl refl (two ∙ ap (λ (h : ℕ). above h zones ++ below h zones) home_is)
    (subst (λ (h : ℕ). StandsAt m (ids_in m id h) c.before_zone-cursor.result) home_is c.before_zone-cursor.ensures.stands)
