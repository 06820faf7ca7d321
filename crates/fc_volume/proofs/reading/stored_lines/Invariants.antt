use Rattle.std.proofs.Common.{◌≡◌, map, take}
use Rattle.fc_volume.specs.Reading.{line_of}
use Rattle.fc_volume.proofs.reading.stored_lines.Given as goal

abbrev pub invariant-loop-e : goal.invariant-loop-e
invariant-loop-e l = l.lines.items ≡ map line_of (take l.e-index l.entries)
