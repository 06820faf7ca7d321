-- Parts of a volume with an old map that agree, their root's node and their listings named; and that they still agree after an edit of
-- their objects, whatever the bytes of the image are.
use Rattle.std.specs.Prelude.{◌≡◌, List, Some}
use Rattle.std.specs.FinMap.{get}
use Rattle.fc_record.specs.declared.Kind.{Kind}
use Rattle.fc_oldmap.specs.Holes.{AreHoles}
use Rattle.fc_oldmap.specs.OldMap.{OldMapContent, IsOldMap, map_units}
use Rattle.fc_alloc.specs.declared.owner.Owner.{Owner}
use Rattle.fc_image.specs.Layout.{Layout}
use Rattle.fc_image.specs.Walk.{Listing}
use Rattle.fc_image.specs.Objects.{objects_of}
use Rattle.fc_image.specs.Opening.{reserved_in}
use Rattle.fc_tree.specs.declared.node.Node.{Node}
use Rattle.fc_tree.specs.Agree.{AreWalked}
use Rattle.fc_tree.specs.Parts.{AreOwners, Parts}
use Rattle.fc_laws.specs.nodes.Edits.{Nodes}

-- the parts of a volume with an old map
abbrev pub parts_with : OldMapContent → Nodes → List Owner → Parts
parts_with space nodes owners = record { layout = Layout.Old space; nodes = nodes; owners = owners }

-- These parts agree (fc_tree `Agree`): `root` is the root's node, and the walk over the nodes finds `listings`. The map is one, and its
-- holes lie after it.
pub record AgreeOn (kind : Kind) (space : OldMapContent) (nodes : Nodes) (owners : List Owner) (root : Node) (listings : List Listing) : Type 0 where
  pub is_map : IsOldMap space
  pub holes : AreHoles space.disc_units space.sector_units (map_units space.sector_units) space.holes
  pub root_is : get nodes 0 ≡ Some root
  pub walked : AreWalked nodes (Layout.Old space) (reserved_in kind (Layout.Old space)) root.entry.address root.entry.len listings
  pub owned : AreOwners owners nodes (Layout.Old space) (objects_of listings)
