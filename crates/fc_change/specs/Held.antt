-- What commands read of a volume, as its parts.
use Rattle.fc_space.specs.Space.{layout_of}
use Rattle.fc_tree.specs.Nodes.{nodes_of}
use Rattle.fc_tree.specs.Parts.{Parts}
use Rattle.fc_change.specs.declared.held.Held.{Held}

abbrev pub parts_of : Held → Parts
parts_of h = record { layout = layout_of h.places.now; nodes = nodes_of h.tree.now; owners = h.owners.now }
