use Rattle.std.proofs.Common.{◌≡◌, take}
use Rattle.fc_smalldir.proofs.copy.copied_entries.Given as goal

abbrev pub invariant-loop-e : goal.invariant-loop-e
invariant-loop-e l = l.copy.items ≡ take l.e-index l.entries
