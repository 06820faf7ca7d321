use Rattle.std.proofs.Common.{List, ◌-◌}
use Rattle.std.specs.FinMap.{len}
use Rattle.fc_image.specs.Layout.{Layout}
use Rattle.fc_image.specs.Sound.{AreSound}
use Rattle.fc_image.specs.Walk.{Listing}
use Rattle.fc_tree.specs.Nodes.{HoldObjects, nodes_of}
use Rattle.fc_fit.proofs.WalkLemmas.{IsWalked}
use Rattle.fc_fit.proofs.paths.stored_paths.Given as goal

abbrev pub invariant-loop-at : goal.invariant-loop-at
invariant-loop-at l =
    (layout : Layout) (listings : List Listing) (sound : AreSound layout listings) → HoldObjects (nodes_of l.tree) listings → IsWalked layout listings sound l.at l.paths.items

abbrev pub decreases-loop-at : goal.decreases-loop-at
decreases-loop-at l = len (nodes_of l.tree) - l.at
