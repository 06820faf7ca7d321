use Rattle.std.proofs.Common.{◌≡◌, length}
use Rattle.fc_image.specs.Layout.{Layout}
use Rattle.fc_oldmap.specs.OldMap.{OldMapContent}
use Rattle.fc_oldlaws.specs.moves.Nodes.{remade}
use Rattle.fc_space.specs.Space.{layout_of}
use Rattle.fc_tree.specs.Nodes.{nodes_of}
use Rattle.fc_volume.specs.OldCompacting.{first_changed}
use Rattle.fc_volume.proofs.old.compacting.nodes.remake_owners.Given as goal

-- the owners so far are made anew
abbrev pub invariant-loop-k : goal.invariant-loop-k
invariant-loop-k l = (length l.owners ≡ length l.fn.owners)
    × ((disc : OldMapContent) → layout_of l.space ≡ Layout.Old disc → l.owners ≡ first_changed (remade disc (nodes_of l.tree)) l.k l.fn.owners)
