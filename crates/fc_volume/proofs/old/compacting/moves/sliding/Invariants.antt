use Rattle.std.proofs.Common.{◌≡◌}
use Rattle.fc_image.specs.Layout.{Layout}
use Rattle.fc_oldmap.specs.OldMap.{OldMapContent}
use Rattle.fc_oldlaws.specs.moves.Nodes.{sliding_below}
use Rattle.fc_space.specs.Space.{layout_of}
use Rattle.fc_tree.specs.Nodes.{nodes_of}
use Rattle.fc_volume.proofs.old.compacting.moves.sliding.Given as goal

-- those of the numbers so far
abbrev pub invariant-loop-n : goal.invariant-loop-n
invariant-loop-n l = (disc : OldMapContent) → layout_of l.space ≡ Layout.Old disc → l.owned.items ≡ sliding_below disc (nodes_of l.tree) l.n
