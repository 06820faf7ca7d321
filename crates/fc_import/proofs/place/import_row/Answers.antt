use Rattle.std.proofs.Common.{◌≡◌, ◌*◌, rules, length, ℕ, Result, Ok, Err, sym, subst}
use Rattle.std.proofs.lemmas.Result.{err_from_is_err_and}
use Rattle.fc_device.proofs.DiskLaws.{laws}
use Rattle.fc_objects.specs.Extents.{extent_sectors}
use Rattle.fc_import.specs.declared.place.ImportFault.{ImportFault}
use Rattle.fc_import.specs.Imports.{Imports}
use Rattle.fc_import.proofs.ImportLemmas.{imports_failed, imports_row, row_on_disk}
use Rattle.fc_import.proofs.place.import_row.Goals as goal

pub write_row-requires-clause-on_disk : goal.write_row-requires-clause-on_disk
write_row-requires-clause-on_disk g c = row_on_disk c.args.row (g.D.Disk.sectors c.args.disk.now) c.requires.some c.requires.on_disk

pub returns-in_err-more-clause-imports : goal.returns-in_err-more-clause-imports
returns-in_err-more-clause-imports g c =
    let p = err_from_is_err_and c.from_residual.result c.from_residual.ensures.1 in
    subst (Imports g.D.Disk g.B.Supply (extent_sectors c.args.row) c.args.left c.args.disk.now c.args.disk.now c.args.from.now c.take_row.new.from) (sym p.1)
    (imports_failed (laws g.met.D.Disk) g.B.Supply (extent_sectors c.args.row) c.args.left c.args.disk.now c.args.from.now c.take_row.new.from p.0 c.in_err-more.ensures.failed c.take_row.ensures.supply)

pub returns-in-Err-clause-imports : goal.returns-in-Err-clause-imports
returns-in-Err-clause-imports g c =
    let long : length c.take_row.new.row ≡ c.args.row.sectors * g.D.Disk.sector_size c.args.disk.now = search rules in
    let result : Result ℕ ImportFault = Err ImportFault.Disk in
    imports_row (laws g.met.D.Disk) g.B.Supply c.args.row c.args.left c.args.disk.now c.write_row.new.self c.args.from.now c.take_row.new.from _ c.take_row.new.row result c.requires.some c.requires.on_disk long
    c.in_ok-more.ensures.takes c.take_row.ensures.supply c.write_row.ensures.old_or_new c.write_row.ensures.stops c.write_row.ensures.form tt

pub returns-clause-imports : goal.returns-clause-imports
returns-clause-imports g c =
    let long : length c.take_row.new.row ≡ c.args.row.sectors * g.D.Disk.sector_size c.args.disk.now = search rules in
    let result : Result ℕ ImportFault = Ok c.in_ok-more.more in
    imports_row (laws g.met.D.Disk) g.B.Supply c.args.row c.args.left c.args.disk.now c.write_row.new.self c.args.from.now c.take_row.new.from _ c.take_row.new.row result c.requires.some c.requires.on_disk long
    c.in_ok-more.ensures.takes c.take_row.ensures.supply c.write_row.ensures.old_or_new c.write_row.ensures.stops c.write_row.ensures.form c.in_default.ensures.written
