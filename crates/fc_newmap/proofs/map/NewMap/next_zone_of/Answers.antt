use Rattle.std.proofs.Common.{◌≡◌, ◌<◌, ◌≤◌, ◌∙◌, sym, ◌⊎◌, ap, arith, subst}
use Rattle.fc_record.specs.declared.Geometry.{Geometry}
use Rattle.fc_newmap.specs.Tally.{bits_there, zones_before}
use Rattle.fc_newmap.proofs.AheadLemmas.{none_by}
use Rattle.fc_newmap.proofs.CountedLemmas.{none_told}
use Rattle.fc_newmap.proofs.map.NewMap.next_zone_of.Goals as goal

pub returns-in-Some-2-clause-none : goal.returns-in-Some-2-clause-none
returns-in-Some-2-clause-none c = λ y from less.
    (let all = ap (λ (g : Geometry). g.zones) c.geometry-g.ensures.value in
    none_by c.args.self.now c.args.id c.in-Some.row y c.in-Some.ensures (let h = c.next_zone_by.ensures.low in omega arith)
    (subst (λ (g : Geometry). (zones_before g c.args.id y < c.in-Some.row.ahead) ⊎ (c.in-Some.row.reach ≤ zones_before g c.args.id y)) c.geometry-g.ensures.value (c.next_zone_by.ensures.none y from less)))

pub returns-in-Some-clause-none : goal.returns-in-Some-clause-none
returns-in-Some-clause-none c = λ y from less.
    let m = c.args.self.now in
    let row = c.in-Some.row in
    let all = ap (λ (g : Geometry). g.zones) c.geometry-g.ensures.value in
    let here = ap (λ (g : Geometry). zones_before g c.args.id y) c.geometry-g.ensures.value in
    let none = c.next_of_two.ensures.none y from less in
    let newest : bits_there row.newest (zones_before m.geometry c.args.id y) ≡ 0 = ap (bits_there row.newest) (sym here) ∙ none.0 in
    let former : bits_there row.former (zones_before m.geometry c.args.id y) ≡ 0 = ap (bits_there row.former) (sym here) ∙ none.1 in
    none_told m c.args.id row c.geometry-g.ensures.map c.in-Some.ensures y (let h = c.next_of_two.ensures.low in omega arith) (sym c.is_told.ensures ∙ c.if-is_told.true) newest former
