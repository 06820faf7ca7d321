use Rattle.std.proofs.Common.{arith}
use Rattle.fc_record.proofs.MeasureLemmas.{map_end_fits}
use Rattle.fc_record.proofs.records.is_size_right.Goals as goal

pub overflow_add-result : goal.overflow_add-result
overflow_add-result c =
    let fits = map_end_fits c.args.r.now c.args.g.now c.from-zones.result c.from-sector.result c.requires.of c.requires.sector c.requires.bit (omega arith) c.from-zones.ensures c.from-sector.ensures in
    omega (arith, fits.0)

pub overflow_mul-result-then-g-saturating_sub : goal.overflow_mul-result-then-g-saturating_sub
overflow_mul-result-then-g-saturating_sub c =
    let fits = map_end_fits c.args.r.now c.args.g.now c.from-zones.result c.from-sector.result c.requires.of c.requires.sector c.requires.bit (omega arith) c.from-zones.ensures c.from-sector.ensures in
    omega (arith, fits.1)
