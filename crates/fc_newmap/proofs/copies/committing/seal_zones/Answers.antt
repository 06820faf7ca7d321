use Rattle.std.proofs.Common.{◌≤◌, ℕ, List, length, refl, ap, ◌∙◌, arith}
use Rattle.std.proofs.lemmas.List.{take_all}
use Rattle.fc_newmap.proofs.ComposeLemmas.{same_none, same_then}
use Rattle.fc_newmap.specs.Copies.{sealed_zones}
use Rattle.fc_newmap.proofs.CopyMapLemmas.{contents_none, contents_then, sealed_contents, sealed_more}
use Rattle.fc_newmap.proofs.copies.committing.seal_zones.Goals as goal

pub loop-z-init : goal.loop-z-init
loop-z-init c = record { map = refl; runs = same_none c.args.map.now c.is_map.ensures; contents = contents_none c.args.map.now }

pub loop-z-preserved : goal.loop-z-preserved
loop-z-preserved c =
    let m = c.args.map.now in
    let now = c.loop-z.map in
    let new = c.seal.new.self in
    let done = c.loop-z.invariant in
    let low = c.requires.zones c.loop-z.z-index 0 (omega (arith, c.loop-z-test.true)) in
    let same = ap (λ g. g.zones) done.runs.geometry in
    let is = done.runs.map in
    record {
      map = sealed_more m now new c.args.changed.now c.loop-z.z-index _ c.loop-z-test.true refl done.map c.seal.ensures.map;
      runs = same_then m now new done.runs c.seal.ensures.runs;
      contents = contents_then m now new done.contents (sealed_contents now new _ (omega (arith, low, same, is.all)) c.seal.ensures.map);
    }

pub returns-clause-map : goal.returns-clause-map
returns-clause-map c =
    let all : length c.args.changed.now ≤ c.loop-z.z-index = omega (arith, c.loop-z-test.false) in
    c.loop-z.invariant.map ∙ ap (λ (zs : List ℕ). record c.args.map.now { zones = sealed_zones zs c.args.map.now.zones }) (take_all c.loop-z.z-index c.args.changed.now all)
