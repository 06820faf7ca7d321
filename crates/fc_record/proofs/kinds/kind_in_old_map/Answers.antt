use Rattle.std.proofs.Common.{sym, arith}
use Rattle.std.proofs.lemmas.List.{length-take-le}
use Rattle.fc_record.proofs.kinds.kind_in_old_map.Goals as goal

pub slice_bounds-is_half_right-end : goal.slice_bounds-is_half_right-end
slice_bounds-is_half_right-end c = sym (length-take-le 256 c.args.map.now (omega arith))
