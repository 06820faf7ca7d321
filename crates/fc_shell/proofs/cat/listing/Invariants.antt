use Rattle.std.proofs.Common.{◌≡◌, take}
use Rattle.std.specs.List.{flat_map}
use Rattle.fc_shell.specs.Told.{told_line}
use Rattle.fc_shell.proofs.cat.listing.Given as goal

abbrev pub invariant-loop-line : goal.invariant-loop-line
invariant-loop-line l = l.text.items ≡ flat_map told_line (take l.line-index l.lines.items)
