use Rattle.std.proofs.Common.{◌≡◌, ◌≤◌, ◌∙◌, ap, sym, subst, ℕ, List, length, arith}
use Rattle.std.proofs.lemmas.Result.{on_ok_weaker}
use Rattle.fc_device.proofs.DiskLaws.{laws}
use Rattle.fc_record.specs.declared.Geometry.{Geometry}
use Rattle.fc_newmap.specs.Map.{Map, sector_of}
use Rattle.fc_newmap.specs.NewMap.{IsNewMap}
use Rattle.fc_newmap.specs.declared.copies.Which.TheVariants.{One}
use Rattle.fc_newmap.specs.Copies.{CommitEnds, CommitLeaves, copy_of}
use Rattle.fc_newmap.specs.Gate.{gated}
use Rattle.fc_newmap.specs.Passes.{HasPassedBoth, PassesBoth}
use Rattle.fc_newmap.proofs.CommitLemmas.{gate_ends, gate_leaves, header_fits}
use Rattle.fc_newmap.proofs.PassLemmas.{keeps_told}
use Rattle.fc_newmap.proofs.copies.committing.commit.Goals as goal

pub returns-clause-keeps : goal.returns-clause-keeps
returns-clause-keeps g c =
    let law = laws g.met.D.Disk in
    let d = g.D.Disk in
    let start = c.args.disk.now in
    let m = c.args.map.now in
    let changed = c.args.changed.now.items in
    let n = c.gate_zones.new.map in
    let n_is : n ≡ record m { zones = gated changed m.zones } = c.gate_zones.ensures.map ∙ ap (λ (zs : List ℕ). record m { zones = gated zs m.zones }) c.deref.ensures.0 in
    let listed : c.deref-2.result.now ≡ changed = c.deref-2.ensures.0 in
    let map_is = subst IsNewMap n_is c.write_both.ensures.map in
    let header : 4 ≤ m.geometry.sector = omega (arith, header_fits (d.sector_size start) (law.sector_sizes start), c.requires.disk.size) in
    let few : length changed ≤ 9 = omega (arith, c.deref.ensures.1, ap (λ (zs : List ℕ). length zs) c.deref.ensures.0) in
    keeps_told law c.write_both.ensures.keeps
    (λ was image told passes.
    subst (λ (zs : List (List ℕ)). CommitLeaves m.geometry was (copy_of m.geometry One was) zs image) (sym (ap (λ (n : Map). n.zones) n_is))
    (gate_leaves m changed header c.requires.zones was (c.requires.ready was told) few c.requires.rising map_is image
    (subst (λ (n : Map). PassesBoth n.geometry changed (sector_of n) was image) n_is (subst (λ (zs : List ℕ). PassesBoth n.geometry zs (sector_of n) was image) listed passes))))

pub returns-clause-passes : goal.returns-clause-passes
returns-clause-passes g c =
    let m = c.args.map.now in
    let n = c.gate_zones.new.map in
    let listed : c.deref-2.result.now ≡ c.args.changed.now.items = c.deref-2.ensures.0 in
    let same : n.geometry ≡ m.geometry = ap (λ (n : Map). n.geometry) c.gate_zones.ensures.map in
    keeps_told (laws g.met.D.Disk) c.write_both.ensures.keeps
    (λ was image told passes.
    subst (λ (at : Geometry). PassesBoth at c.args.changed.now.items (sector_of n) was image) same
    (subst (λ (zs : List ℕ). PassesBoth n.geometry zs (sector_of n) was image) listed passes))

pub returns-clause-ends : goal.returns-clause-ends
returns-clause-ends g c =
    let law = laws g.met.D.Disk in
    let d = g.D.Disk in
    let start = c.args.disk.now in
    let m = c.args.map.now in
    let changed = c.args.changed.now.items in
    let n = c.gate_zones.new.map in
    let n_is : n ≡ record m { zones = gated changed m.zones } = c.gate_zones.ensures.map ∙ ap (λ (zs : List ℕ). record m { zones = gated zs m.zones }) c.deref.ensures.0 in
    let listed : c.deref-2.result.now ≡ changed = c.deref-2.ensures.0 in
    let map_is = subst IsNewMap n_is c.write_both.ensures.map in
    let header : 4 ≤ m.geometry.sector = omega (arith, header_fits (d.sector_size start) (law.sector_sizes start), c.requires.disk.size) in
    let few : length changed ≤ 9 = omega (arith, c.deref.ensures.1, ap (λ (zs : List ℕ). length zs) c.deref.ensures.0) in
    on_ok_weaker c.write_both.result
    (λ written was told image is.
    subst (λ (zs : List (List ℕ)). CommitEnds m.geometry was zs image) (sym (ap (λ (n : Map). n.zones) n_is))
    (gate_ends m changed header c.requires.zones was (c.requires.ready was told) few c.requires.rising map_is image
    (subst (λ (n : Map). HasPassedBoth n.geometry changed (sector_of n) was image) n_is (subst (λ (zs : List ℕ). HasPassedBoth n.geometry zs (sector_of n) was image) listed (written was told image is)))))
    c.write_both.ensures.written
