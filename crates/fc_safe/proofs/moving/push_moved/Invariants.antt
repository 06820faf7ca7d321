use Rattle.std.proofs.Common.{◌≡◌, ◌++◌, take}
use Rattle.fc_safe.specs.Moving.{paired_needs}
use Rattle.fc_safe.proofs.moving.push_moved.Given as goal

abbrev pub invariant-loop-i : goal.invariant-loop-i
invariant-loop-i l = l.needs.items ≡ l.fn.needs.items ++ paired_needs (take l.i l.moved.ids.items) (take l.i l.moved.ends.items)
