use Rattle.std.proofs.Common.{◌≡◌, ◌≤◌, ◌+◌, ◌*◌, true, Option, None, Some, refl, arith}
use Rattle.std.specs.Prelude.{is_none, nat_le}
use Rattle.std.proofs.Math.Nat.{le-div_iff_mul-le}
use Rattle.std.proofs.lemmas.Bool.{leb-true}
use Rattle.fc_record.specs.Record.{geometry, record_fault}
use Rattle.fc_record.proofs.FaultLemmas.{valid_meets}
use Rattle.fc_newmap.proofs.GeometryLemmas.{geometry_of_valid}
use Rattle.fc_newmap.proofs.copies.copies_fit.Goals as goal
use Rattle.fc_record.proofs.KindLemmas.{and_second as second_part}

none_is : {A : Type 0} (o : Option A) → is_none o ≡ true → o ≡ None
none_is None e = refl
none_is (Some a) e = absurd (cc)

pub returns : goal.returns
returns c r bytes valid fits =
    let meets = valid_meets r (none_is (record_fault r) valid) in
    let g = geometry r in
    let ends : (g.map_sector + 2 * r.zones) * g.sector ≤ r.size = leb-true ((g.map_sector + 2 * r.zones) * g.sector) r.size (second_part _ (nat_le ((g.map_sector + 2 * r.zones) * g.sector) r.size) meets.size) in
    let some = geometry_of_valid r valid in
    (leb-true 1 r.zones meets.zones, (le-div_iff_mul-le some.some).1 (omega (arith, ends, fits)))
