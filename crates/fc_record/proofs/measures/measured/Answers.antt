use Rattle.std.proofs.Common.{◌*◌, ◌/◌, ◌%◌, ◌^◌, refl, arith}
use Rattle.fc_record.proofs.MeasureLemmas.{place_fits, sector_small}
use Rattle.fc_record.proofs.measures.measured.Goals as goal

pub overflow_mul-result : goal.overflow_mul-result
overflow_mul-result c =
    let sector = sector_small c.args.r.now.log2_sector c.requires.sector in
    let fits = place_fits c.saturating_sub-zone_size.result (c.args.r.now.zones / 2) c.args.r.now.log2_bit c.zone_start.result (1 * 2 ^ c.args.r.now.log2_bit % 2 ^ 64) (omega arith) (omega arith) c.requires.bit c.zone_start.ensures refl in
    omega (arith, fits)
