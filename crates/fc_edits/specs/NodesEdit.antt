-- Nodes before an edit of their objects and after it, and that they follow the listings.
use Rattle.std.specs.Prelude.{List}
use Rattle.fc_alloc.specs.declared.owner.Owner.{Owner}
use Rattle.fc_image.specs.Layout.{Layout}
use Rattle.fc_image.specs.Walk.{Listing}
use Rattle.fc_laws.specs.nodes.Edits.{Nodes, NodesFollow, OwnersEdited, OwnersFollow}
use Rattle.fc_laws.specs.nodes.Laws.{IsHeld, IsOwned}
use Rattle.fc_edits.specs.Edit.{AreEdited, Edit, IsEdit, listings_after, owners_joined, owners_left}

-- Nodes that hold the objects of these listings, an edit of them, and the nodes after it.
pub record NodesEdit : Type 0 where
  pub nodes : Nodes
  pub nodes' : Nodes
  pub layout : Layout
  pub listings : List Listing
  pub edit : Edit
  pub held : IsHeld nodes layout listings
  pub is_edit : IsEdit nodes listings edit
  pub nodes_edited : AreEdited nodes nodes' edit

-- for any edit, by whatever layout there is afterwards
pub record NodesLaw : Type 0 where
  -- The nodes follow the listings after it.
  pub nodes : (x : NodesEdit) → NodesFollow x.nodes' (listings_after x.edit)
  -- So do the owners.
  pub owners : (x : NodesEdit) (layout' : Layout) (owners owners' : List Owner) → IsOwned owners x.nodes x.layout layout' x.listings
      → OwnersEdited owners owners' (owners_left x.layout x.edit) (owners_joined layout' x.edit) → OwnersFollow owners' x.nodes' layout' (listings_after x.edit)
