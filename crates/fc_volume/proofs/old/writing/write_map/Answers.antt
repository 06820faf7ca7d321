use Rattle.std.proofs.Common.{◌≡◌, ◌/◌, ℕ, refl, sym, subst, ◌∙◌, arith}
use Rattle.fc_device.proofs.DiskLaws.{laws}
use Rattle.fc_device.proofs.StopLemmas.{keeps_weaker}
use Rattle.fc_oldmap.specs.OldMap.{map_units}
use Rattle.std.proofs.lemmas.Result.{on_ok_weaker}
use Rattle.fc_volume.proofs.OldWritingLemmas.{front_of_map, kept_to, map_written}
use Rattle.fc_volume.proofs.old.writing.write_map.Goals as goal

pub returns-then-sector_units-eq4-clause-keeps : goal.returns-then-sector_units-eq4-clause-keeps
returns-then-sector_units-eq4-clause-keeps g c =
    let four : c.args.map.now.sector_units ≡ 4 = sym c.sector_units.ensures.value ∙ c.if-sector_units-eq4.true in
    keeps_weaker (laws g.met.D.Disk) c.write_front.ensures.keeps
    (front_of_map c.args.map.now 1024 1 (omega (arith, four)) (subst (λ (u : ℕ). 1 ≡ map_units u / u) (sym four) refl))

pub returns-then-sector_units-eq4-clause-written : goal.returns-then-sector_units-eq4-clause-written
returns-then-sector_units-eq4-clause-written g c =
    let four : c.args.map.now.sector_units ≡ 4 = sym c.sector_units.ensures.value ∙ c.if-sector_units-eq4.true in
    on_ok_weaker c.write_front.result
    (λ front was told image now.
    map_written c.args.map.now 1024 was image (omega arith) (omega (arith, four)) (front was told image now)
    (front_of_map c.args.map.now 1024 1 (omega (arith, four)) (subst (λ (u : ℕ). 1 ≡ map_units u / u) (sym four) refl) was image
    (kept_to g.D.Disk c.write_front.ensures.keeps was image told now)))
    c.write_front.ensures.written

pub returns-else-sector_units-eq4-clause-keeps : goal.returns-else-sector_units-eq4-clause-keeps
returns-else-sector_units-eq4-clause-keeps g c =
    let one : c.args.map.now.sector_units ≡ 1 = omega (arith, c.if-sector_units-eq4.false, c.sector_units.ensures.value, c.sector_units.ensures.units) in
    keeps_weaker (laws g.met.D.Disk) c.write_front-else-sector_units-eq4.ensures.keeps
    (front_of_map c.args.map.now 256 2 (omega (arith, one)) (subst (λ (u : ℕ). 2 ≡ map_units u / u) (sym one) refl))

pub returns-else-sector_units-eq4-clause-written : goal.returns-else-sector_units-eq4-clause-written
returns-else-sector_units-eq4-clause-written g c =
    let one : c.args.map.now.sector_units ≡ 1 = omega (arith, c.if-sector_units-eq4.false, c.sector_units.ensures.value, c.sector_units.ensures.units) in
    on_ok_weaker c.write_front-else-sector_units-eq4.result
    (λ front was told image now.
    map_written c.args.map.now 512 was image (omega arith) (omega (arith, one)) (front was told image now)
    (front_of_map c.args.map.now 256 2 (omega (arith, one)) (subst (λ (u : ℕ). 2 ≡ map_units u / u) (sym one) refl) was image
    (kept_to g.D.Disk c.write_front-else-sector_units-eq4.ensures.keeps was image told now)))
    c.write_front-else-sector_units-eq4.ensures.written
