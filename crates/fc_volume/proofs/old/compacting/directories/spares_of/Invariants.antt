use Rattle.fc_tree.specs.Nodes.{nodes_of}
use Rattle.fc_volume.specs.OldCompacting.{AreSpares}
use Rattle.fc_volume.proofs.old.compacting.directories.spares_of.Given as goal

-- those of the numbers so far
abbrev pub invariant-loop-n : goal.invariant-loop-n
invariant-loop-n l = AreSpares (nodes_of l.tree) l.n l.spares.items
