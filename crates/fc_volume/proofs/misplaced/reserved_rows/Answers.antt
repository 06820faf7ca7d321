use Rattle.std.proofs.Common.{ap, arith}
use Rattle.fc_record.specs.declared.Geometry.{Geometry}
use Rattle.fc_volume.proofs.MisplacedLemmas.{sector_least}
use Rattle.fc_volume.proofs.misplaced.reserved_rows.Goals as goal

pub boot_row-requires : goal.boot_row-requires
boot_row-requires c = let least = sector_least _ c.geometry.ensures.map.of_record in omega (arith, least, ap (λ (g : Geometry). g.sector) c.geometry.ensures.value, c.from.ensures)
