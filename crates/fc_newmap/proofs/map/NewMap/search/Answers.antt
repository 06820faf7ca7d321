use Rattle.std.proofs.Common.{◌≡◌, ◌+◌, ◌-◌, ap, arith}
use Rattle.fc_record.specs.declared.Geometry.{Geometry}
use Rattle.fc_newmap.proofs.AheadLemmas.{row_search, whole_search}
use Rattle.fc_newmap.proofs.HeldLemmas.{geometry_facts}
use Rattle.fc_newmap.proofs.map.NewMap.search.Goals as goal

pub overflow_sub-last : goal.overflow_sub-last
overflow_sub-last c =
    let f = geometry_facts c.args.self.now.geometry c.geometry.ensures.map.of_record in
    omega (arith, f.zones, ap (λ (g : Geometry). g.zones) c.geometry.ensures.value)

pub returns-in-Some : goal.returns-in-Some
returns-in-Some c =
    let f = geometry_facts c.args.self.now.geometry c.geometry.ensures.map.of_record in
    let last = c.geometry.result.now.zones - 1 in
    let all : last + 1 ≡ c.args.self.now.geometry.zones = omega (arith, f.zones, ap (λ (g : Geometry). g.zones) c.geometry.ensures.value) in
    row_search c.args.self.now c.args.id c.in-Some.row c.search_by.result last all c.in-Some.ensures c.search_by.ensures.ahead c.search_by.ensures.within c.search_by.ensures.reach c.search_by.ensures.start

pub returns-in-None : goal.returns-in-None
returns-in-None c =
    let f = geometry_facts c.args.self.now.geometry c.geometry.ensures.map.of_record in
    let last = c.geometry.result.now.zones - 1 in
    let all : last + 1 ≡ c.args.self.now.geometry.zones = omega (arith, f.zones, ap (λ (g : Geometry). g.zones) c.geometry.ensures.value) in
    whole_search c.args.self.now c.args.id last all
