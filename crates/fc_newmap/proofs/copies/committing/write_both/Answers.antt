use Rattle.std.proofs.Common.{◌≡◌, ◌∙◌, ap, sym, refl, subst, inl, inr, ℕ, List, [], Some, arith}
use Rattle.std.proofs.lemmas.Result.{on_ok_weaker}
use Rattle.fc_device.proofs.DiskLaws.{laws}
use Rattle.fc_record.specs.declared.Geometry.{Geometry}
use Rattle.fc_newmap.specs.Map.{sector_of}
use Rattle.fc_newmap.specs.declared.copies.Which.TheVariants.{One, Two}
use Rattle.fc_newmap.specs.Copies.{copy_start}
use Rattle.fc_newmap.specs.Passes.{HasPassed, HasPassedBoth, IsPartWritten}
use Rattle.fc_newmap.proofs.CommitLemmas.{no_zones, none_passed}
use Rattle.fc_newmap.proofs.PassLemmas.{each_as, keeps_on, keeps_told, part_as}
use Rattle.fc_newmap.proofs.ReadingLemmas.{sectors_fit}
use Rattle.fc_newmap.proofs.copies.committing.write_both.Goals as goal
use Rattle.fc_device.proofs.StopLemmas.{one_told as some_is}

pub returns-in_err-write_zones-clause-keeps : goal.returns-in_err-write_zones-clause-keeps
returns-in_err-write_zones-clause-keeps g c =
    let law = laws g.met.D.Disk in
    let d = g.D.Disk in
    let start = c.args.disk.now in
    let mid = c.write_zones.new.disk in
    let m = c.args.map.now in
    let geometry = m.geometry in
    let zones = c.args.changed.now in
    let one = c.start_of-one.result in
    let one_is : one ≡ copy_start geometry One = c.start_of-one.ensures.value ∙ ap (λ (g : Geometry). copy_start g One) c.geometry.ensures.value in
    let part_one : (was image : List ℕ) → IsPartWritten (d.sector_size start) one 0 geometry.zones (sector_of m) was image → IsPartWritten geometry.sector (copy_start geometry One) 0 geometry.zones (sector_of m) was image =
    part_as (d.sector_size start) geometry.sector one (copy_start geometry One) 0 geometry.zones (sector_of m) (sector_of m) c.requires.disk.size one_is (λ z. refl) in
    keeps_told law c.write_zones.ensures.keeps (λ was image told part. inl (part_one was image part))

pub returns-clause-keeps : goal.returns-clause-keeps
returns-clause-keeps g c =
    let law = laws g.met.D.Disk in
    let d = g.D.Disk in
    let start = c.args.disk.now in
    let mid = c.write_zones.new.disk in
    let m = c.args.map.now in
    let geometry = m.geometry in
    let zones = c.args.changed.now in
    let one = c.start_of-one.result in
    let one_is : one ≡ copy_start geometry One = c.start_of-one.ensures.value ∙ ap (λ (g : Geometry). copy_start g One) c.geometry.ensures.value in
    let part_one : (was image : List ℕ) → IsPartWritten (d.sector_size start) one 0 geometry.zones (sector_of m) was image → IsPartWritten geometry.sector (copy_start geometry One) 0 geometry.zones (sector_of m) was image =
    part_as (d.sector_size start) geometry.sector one (copy_start geometry One) 0 geometry.zones (sector_of m) (sector_of m) c.requires.disk.size one_is (λ z. refl) in
    let new = c.write_zones-2.new.disk in
    let two = c.start_of-two.result in
    let two_is : two ≡ copy_start geometry Two = c.start_of-two.ensures.value ∙ ap (λ (g : Geometry). copy_start g Two) c.geometry-2.ensures.value in
    let size = c.write_zones.ensures.form.size_stays ∙ c.requires.disk.size in
    let part_two : (was image : List ℕ) → IsPartWritten (d.sector_size mid) two 0 geometry.zones (sector_of m) was image → IsPartWritten geometry.sector (copy_start geometry Two) 0 geometry.zones (sector_of m) was image =
    part_as (d.sector_size mid) geometry.sector two (copy_start geometry Two) 0 geometry.zones (sector_of m) (sector_of m) size two_is (λ z. refl) in
    let first_passed : (was there : List ℕ) → d.bytes start ≡ Some was → d.bytes mid ≡ Some there → IsPartWritten (d.sector_size start) one 0 geometry.zones (sector_of m) was there → HasPassed geometry One zones (sector_of m) was there =
    λ was there told told_mid part. record {
      part = part_one was there part;
      each = each_as (d.sector_size start) geometry.sector one (copy_start geometry One) zones (sector_of m) there c.requires.disk.size one_is (c.in_ok-write_zones.ensures.written was told there told_mid);
    } in
    keeps_on law c.write_zones.ensures.keeps c.write_zones-2.ensures.keeps (λ was image told part. inl (part_one was image part))
    (λ was there image told told_mid part then. inr (there, first_passed was there told told_mid part, part_two there image then))

pub returns-clause-written : goal.returns-clause-written
returns-clause-written g c =
    let law = laws g.met.D.Disk in
    let d = g.D.Disk in
    let start = c.args.disk.now in
    let mid = c.write_zones.new.disk in
    let m = c.args.map.now in
    let geometry = m.geometry in
    let zones = c.args.changed.now in
    let one = c.start_of-one.result in
    let one_is : one ≡ copy_start geometry One = c.start_of-one.ensures.value ∙ ap (λ (g : Geometry). copy_start g One) c.geometry.ensures.value in
    let part_one : (was image : List ℕ) → IsPartWritten (d.sector_size start) one 0 geometry.zones (sector_of m) was image → IsPartWritten geometry.sector (copy_start geometry One) 0 geometry.zones (sector_of m) was image =
    part_as (d.sector_size start) geometry.sector one (copy_start geometry One) 0 geometry.zones (sector_of m) (sector_of m) c.requires.disk.size one_is (λ z. refl) in
    let new = c.write_zones-2.new.disk in
    let two = c.start_of-two.result in
    let two_is : two ≡ copy_start geometry Two = c.start_of-two.ensures.value ∙ ap (λ (g : Geometry). copy_start g Two) c.geometry-2.ensures.value in
    let size = c.write_zones.ensures.form.size_stays ∙ c.requires.disk.size in
    let part_two : (was image : List ℕ) → IsPartWritten (d.sector_size mid) two 0 geometry.zones (sector_of m) was image → IsPartWritten geometry.sector (copy_start geometry Two) 0 geometry.zones (sector_of m) was image =
    part_as (d.sector_size mid) geometry.sector two (copy_start geometry Two) 0 geometry.zones (sector_of m) (sector_of m) size two_is (λ z. refl) in
    let first_passed : (was there : List ℕ) → d.bytes start ≡ Some was → d.bytes mid ≡ Some there → IsPartWritten (d.sector_size start) one 0 geometry.zones (sector_of m) was there → HasPassed geometry One zones (sector_of m) was there =
    λ was there told told_mid part. record {
      part = part_one was there part;
      each = each_as (d.sector_size start) geometry.sector one (copy_start geometry One) zones (sector_of m) there c.requires.disk.size one_is (c.in_ok-write_zones.ensures.written was told there told_mid);
    } in
    on_ok_weaker c.write_zones-2.result
    (λ written was told image is.
    let there = c.write_zones.ensures.keeps.exit was told in
    let now = c.write_zones-2.ensures.keeps.exit there.0 there.1 in
    let e : now.0 ≡ image = some_is (sym now.1 ∙ is) in (
      there.0,
      first_passed was there.0 told there.1 there.2,
      record {
        part = subst (λ (i : List ℕ). IsPartWritten geometry.sector (copy_start geometry Two) 0 geometry.zones (sector_of m) there.0 i) e (part_two there.0 now.0 now.2);
        each = each_as (d.sector_size mid) geometry.sector two (copy_start geometry Two) zones (sector_of m) image size two_is (written there.0 there.1 image is);
      },
    ))
    c.write_zones-2.ensures.written

pub returns-then-is_empty-clause-written : goal.returns-then-is_empty-clause-written
returns-then-is_empty-clause-written g c = λ was told image is.
    let none : c.args.changed.now ≡ [] = no_zones c.args.changed.now (sym c.if-is_empty.ensures) in
    let same : was ≡ image = some_is (sym told ∙ is) in
    subst (λ (i : List ℕ). HasPassedBoth c.args.map.now.geometry c.args.changed.now (sector_of c.args.map.now) was i) same
    (subst (λ (zs : List ℕ). HasPassedBoth c.args.map.now.geometry zs (sector_of c.args.map.now) was was) (sym none) (none_passed c.args.map.now.geometry was (sector_of c.args.map.now)))

pub write_zones-requires-2-clause-fits : goal.write_zones-requires-2-clause-fits
write_zones-requires-2-clause-fits g c =
    let fits = sectors_fit (laws g.met.D.Disk) c.args.disk.now _ c.requires.disk.on_disk in
    let zones : c.geometry-2.result.now.zones ≡ c.args.map.now.geometry.zones = ap (λ (g : Geometry). g.zones) c.geometry-2.ensures.value in
    let place : c.geometry-2.result.now.map_sector ≡ c.args.map.now.geometry.map_sector = ap (λ (g : Geometry). g.map_sector) c.geometry-2.ensures.value in
    omega (arith, fits, c.start_of-two.ensures.within, zones, place)
