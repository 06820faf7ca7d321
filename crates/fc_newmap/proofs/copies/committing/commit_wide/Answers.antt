use Rattle.std.proofs.Common.{◌≡◌, ◌≤◌, ◌∙◌, ap, sym, subst, ℕ, List, arith}
use Rattle.std.proofs.lemmas.Result.{on_ok_weaker}
use Rattle.fc_device.proofs.DiskLaws.{laws}
use Rattle.fc_newmap.specs.Map.{Map, sector_of}
use Rattle.fc_newmap.specs.NewMap.{IsNewMap}
use Rattle.fc_newmap.specs.Copies.{CommitEnds, sealed_zones}
use Rattle.fc_newmap.specs.Passes.{HasPassedBoth, PassesBoth}
use Rattle.fc_newmap.proofs.CommitLemmas.{header_fits, passes_frame, seal_ends}
use Rattle.fc_newmap.proofs.PassLemmas.{keeps_told}
use Rattle.fc_newmap.proofs.copies.committing.commit_wide.Goals as goal

pub returns-clause-frame : goal.returns-clause-frame
returns-clause-frame g c =
    let law = laws g.met.D.Disk in
    let d = g.D.Disk in
    let start = c.args.disk.now in
    let m = c.args.map.now in
    let changed = c.args.changed.now.items in
    let n = c.seal_zones.new.map in
    let n_is : n ≡ record m { zones = sealed_zones changed m.zones } = c.seal_zones.ensures.map ∙ ap (λ (zs : List ℕ). record m { zones = sealed_zones zs m.zones }) c.deref.ensures.value in
    let listed : c.deref-2.result.now ≡ changed = c.deref-2.ensures.value in
    let map_is = subst IsNewMap n_is c.write_both.ensures.map in
    let header : 4 ≤ m.geometry.sector = omega (arith, header_fits (d.sector_size start) (law.sector_sizes start), c.requires.disk.size) in
    keeps_told law c.write_both.ensures.keeps
    (λ was image told passes.
    passes_frame m.geometry was image changed _
    (subst (λ (n : Map). PassesBoth n.geometry changed (sector_of n) was image) n_is (subst (λ (zs : List ℕ). PassesBoth n.geometry zs (sector_of n) was image) listed passes)))

pub returns-clause-ends : goal.returns-clause-ends
returns-clause-ends g c =
    let law = laws g.met.D.Disk in
    let d = g.D.Disk in
    let start = c.args.disk.now in
    let m = c.args.map.now in
    let changed = c.args.changed.now.items in
    let n = c.seal_zones.new.map in
    let n_is : n ≡ record m { zones = sealed_zones changed m.zones } = c.seal_zones.ensures.map ∙ ap (λ (zs : List ℕ). record m { zones = sealed_zones zs m.zones }) c.deref.ensures.value in
    let listed : c.deref-2.result.now ≡ changed = c.deref-2.ensures.value in
    let map_is = subst IsNewMap n_is c.write_both.ensures.map in
    let header : 4 ≤ m.geometry.sector = omega (arith, header_fits (d.sector_size start) (law.sector_sizes start), c.requires.disk.size) in
    on_ok_weaker c.write_both.result
    (λ written was told image is.
    subst (λ (zs : List (List ℕ)). CommitEnds m.geometry was zs image) (sym (ap (λ (n : Map). n.zones) n_is))
    (seal_ends m changed header c.requires.zones was (c.requires.ready was told) map_is image
    (subst (λ (n : Map). HasPassedBoth n.geometry changed (sector_of n) was image) n_is (subst (λ (zs : List ℕ). HasPassedBoth n.geometry zs (sector_of n) was image) listed (written was told image is)))))
    c.write_both.ensures.written
