use Rattle.std.proofs.Common.{◌≤◌, ℕ, List, subst, arith, get_or}
use Rattle.std.proofs.lemmas.List.{take_all}
use Rattle.fc_newmap.specs.Map.{runs_of}
use Rattle.fc_plan.specs.Beginnings.{bits_of_ids}
use Rattle.fc_plan.proofs.IdBits.{bits_more, no_bits, own_bits}
use Rattle.fc_plan.proofs.beginnings.bits_of_all.Goals as goal

pub loop-i-init : goal.loop-i-init
loop-i-init c = no_bits (runs_of c.args.map.now c.args.z)

pub loop-i-preserved : goal.loop-i-preserved
loop-i-preserved c =
    let m = c.args.map.now in
    let z = c.args.z in
    let u = c.unwrap_or.ensures in
    let own = own_bits m (get_or c.args.ids.now c.loop-i.i 0) z c.bits_in_zone.result c.requires.map c.requires.zone c.bits_in_zone.ensures in
    let sum = c.saturating_add-bits.ensures in
    let more = c.loop-i-test.true in
    bits_more m c.args.ids.now c.loop-i.i z c.loop-i.bits c.unwrap_or.result c.saturating_add-bits.result c.requires.map c.requires.zone more c.loop-i.invariant
    (omega (arith, own, u)) (λ less. omega (arith, sum))

pub returns : goal.returns
returns c =
    subst (λ (ids : List ℕ). bits_of_ids ids (runs_of c.args.map.now c.args.z) ≤ c.loop-i.bits) (take_all c.loop-i.i c.args.ids.now c.loop-i-test.false) c.loop-i.invariant
