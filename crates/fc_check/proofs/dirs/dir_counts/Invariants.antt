use Rattle.fc_tree.specs.Nodes.{nodes_of}
use Rattle.fc_check.proofs.NodeLemmas.{Count}
use Rattle.fc_check.proofs.dirs.dir_counts.Given as goal

abbrev pub invariant-loop-n : goal.invariant-loop-n
invariant-loop-n l = Count (nodes_of l.tree) l.counts l.n
