use Rattle.fc_record.proofs.FaultLemmas.{sector_fails, idlen_fails, bit_fails, zones_fails, spare_fails, size_fails, root_fails, root_size_fails, none_fails}
use Rattle.fc_record.proofs.records.first_fault.Goals as goal

pub returns-then-not-is_sector_right : goal.returns-then-not-is_sector_right
returns-then-not-is_sector_right c = cc (c.fault.ensures, c.from.ensures, sector_fails c.args.r.now c.if-not-is_sector_right.ensures)

pub returns-then-not-is_idlen_right : goal.returns-then-not-is_idlen_right
returns-then-not-is_idlen_right c = cc (c.fault-then-not-is_idlen_right.ensures, c.from-then-not-is_idlen_right.ensures, idlen_fails c.args.r.now c.if-not-is_sector_right.ensures c.if-not-is_idlen_right.ensures)

pub returns-then-not-is_bit_right : goal.returns-then-not-is_bit_right
returns-then-not-is_bit_right c = cc (c.fault-then-not-is_bit_right.ensures, c.from-then-not-is_bit_right.ensures, bit_fails c.args.r.now c.if-not-is_sector_right.ensures c.if-not-is_idlen_right.ensures c.if-not-is_bit_right.ensures)

pub returns-then-not-are_zones_right : goal.returns-then-not-are_zones_right
returns-then-not-are_zones_right c = cc (c.fault-then-not-are_zones_right.ensures, c.from-then-not-are_zones_right.ensures, zones_fails c.args.r.now c.if-not-is_sector_right.ensures c.if-not-is_idlen_right.ensures c.if-not-is_bit_right.ensures c.if-not-are_zones_right.ensures)

pub returns-then-not-is_spare_right : goal.returns-then-not-is_spare_right
returns-then-not-is_spare_right c = cc (c.fault-then-not-is_spare_right.ensures, c.from-then-not-is_spare_right.ensures, spare_fails c.args.r.now c.if-not-is_sector_right.ensures c.if-not-is_idlen_right.ensures c.if-not-is_bit_right.ensures c.if-not-are_zones_right.ensures c.if-not-is_spare_right.ensures)

pub returns-then-not-is_size_right : goal.returns-then-not-is_size_right
returns-then-not-is_size_right c = cc (c.fault-then-not-is_size_right.ensures, size_fails c.args.r.now c.if-not-is_sector_right.ensures c.if-not-is_idlen_right.ensures c.if-not-is_bit_right.ensures c.if-not-are_zones_right.ensures c.if-not-is_spare_right.ensures c.if-not-is_size_right.ensures)

pub returns-then-not-is_root_right : goal.returns-then-not-is_root_right
returns-then-not-is_root_right c = cc (c.fault-then-not-is_root_right.ensures, c.from-then-not-is_root_right.ensures, root_fails c.args.r.now c.if-not-is_sector_right.ensures c.if-not-is_idlen_right.ensures c.if-not-is_bit_right.ensures c.if-not-are_zones_right.ensures c.if-not-is_spare_right.ensures c.if-not-is_size_right.ensures c.if-not-is_root_right.ensures)

pub returns-then-not-is_root_size_right : goal.returns-then-not-is_root_size_right
returns-then-not-is_root_size_right c = cc (c.fault-then-not-is_root_size_right.ensures, c.from-then-not-is_root_size_right.ensures, root_size_fails c.args.r.now c.if-not-is_sector_right.ensures c.if-not-is_idlen_right.ensures c.if-not-is_bit_right.ensures c.if-not-are_zones_right.ensures c.if-not-is_spare_right.ensures c.if-not-is_size_right.ensures c.if-not-is_root_right.ensures c.if-not-is_root_size_right.ensures)

pub returns : goal.returns
returns c = none_fails c.args.r.now c.if-not-is_sector_right.ensures c.if-not-is_idlen_right.ensures c.if-not-is_bit_right.ensures c.if-not-are_zones_right.ensures c.if-not-is_spare_right.ensures c.if-not-is_size_right.ensures c.if-not-is_root_right.ensures c.if-not-is_root_size_right.ensures
