use Rattle.std.proofs.Common.{◌≡◌}
use Rattle.fc_space.specs.Space.{layout_of}
use Rattle.fc_tree.specs.Nodes.{nodes_of}
use Rattle.fc_volume.specs.Owners.{owners_below}
use Rattle.fc_volume.proofs.owners.owners_of.Given as goal

-- those of the numbers so far
abbrev pub invariant-loop-n : goal.invariant-loop-n
invariant-loop-n l = l.owners ≡ owners_below (layout_of l.space) (nodes_of l.tree) l.n
