use Rattle.std.proofs.Common.{◌≡◌, length}
use Rattle.fc_names.specs.Names.{folded_path, key_cmp}
use Rattle.fc_fit.proofs.order.cmp_paths.Given as goal

abbrev pub invariant-loop-name : goal.invariant-loop-name
invariant-loop-name l = key_cmp (folded_path l.names) (folded_path l.others) ≡ key_cmp (folded_path l.a) (folded_path l.b)

abbrev pub decreases-loop-name : goal.decreases-loop-name
decreases-loop-name l = length l.names
