use Rattle.std.proofs.Common.{◌≡◌, length, drop}
use Rattle.fc_names.specs.Names.{name_cmp}
use Rattle.fc_names.proofs.name.fold_cmp_bytes.Given as goal

abbrev pub invariant-loop-x : goal.invariant-loop-x
invariant-loop-x l = name_cmp (drop (length l.yielded) l.a) (drop (length l.yielded) l.b) ≡ name_cmp l.a l.b
