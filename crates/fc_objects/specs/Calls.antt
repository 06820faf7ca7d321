-- How many read calls a reader may make.
use Rattle.std.specs.Prelude.{ℕ}
use Rattle.std.specs.Int.{div_ceil}
use Rattle.fc_objects.specs.declared.reader.ObjectReader.{ObjectReader}

-- the sectors that its reader has yet to read for these bytes
abbrev pub sectors_left : ObjectReader → ℕ
sectors_left r = div_ceil r.len r.size
