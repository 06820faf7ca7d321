-- The parts of a volume before an edit of their objects and after it, and that they agree.
use Rattle.std.specs.Prelude.{◌≡◌, refl, List, Some, IsPermutation}
use Rattle.std.specs.FinMap.{get}
use Rattle.fc_record.specs.declared.Kind.{Kind}
use Rattle.fc_oldmap.specs.declared.Hole.{Hole}
use Rattle.fc_oldmap.specs.Holes.{AreHoles}
use Rattle.fc_oldmap.specs.OldMap.{IsOldMap, OldMapContent, map_units}
use Rattle.fc_newmap.specs.Map.{Map}
use Rattle.fc_alloc.specs.declared.owner.Owner.{Owner}
use Rattle.fc_image.specs.Layout.{Layout}
use Rattle.fc_image.specs.Walk.{Listing}
use Rattle.fc_image.specs.Opening.{reserved_in}
use Rattle.fc_image.specs.Sound.{AreSound}
use Rattle.fc_tree.specs.declared.node.Node.{Node}
use Rattle.fc_tree.specs.Agree.{AreWalked}
use Rattle.fc_tree.specs.Parts.{ArePartsOf}
use Rattle.fc_laws.specs.nodes.Edits.{Nodes, OwnersEdited}
use Rattle.fc_laws.specs.nodes.Laws.{IsOwned}
use Rattle.fc_laws.specs.agree.Agreed.{AgreeOn}
use Rattle.fc_changes.specs.old.Owed.{holding}
use Rattle.fc_laws.specs.old.agree.Laws.{AgreeOn as OldAgreeOn}
use Rattle.fc_edits.specs.OldPlaces.{with_holes}
use Rattle.fc_edits.specs.Edit.{AreEdited, Edit, IsEdit, listings_after, owners_joined, owners_left}
use Rattle.fc_edits.specs.NodesEdit.{NodesEdit}
use Rattle.fc_edits.specs.Places.{AgreeNow, CanSayAll, PlacesFit, WalkFits, WalkedNow}

-- The walk over the nodes finds these listings, the edit is one of them, and these are nodes and owners after it, on any map.
pub record PartsEdit : Type 0 where
  pub kind : Kind
  pub layout : Layout
  pub layout' : Layout
  pub nodes : Nodes
  pub nodes' : Nodes
  pub owners : List Owner
  pub owners' : List Owner
  pub root : Node
  pub listings : List Listing
  pub edit : Edit
  pub walked : AreWalked nodes layout (reserved_in kind layout) root.entry.address root.entry.len listings
  pub root_is : get nodes 0 ≡ Some root
  pub owned : IsOwned owners nodes layout layout' listings
  pub is_edit : IsEdit nodes listings edit
  pub nodes_edited : AreEdited nodes nodes' edit
  pub fit : WalkFits kind layout layout' nodes listings edit
  pub can : CanSayAll layout listings edit
  pub owners_edited : OwnersEdited owners owners' (owners_left layout edit) (owners_joined layout' edit)

-- the same on a new map
pub record NewPartsEdit : Type 0 where
  pub kind : Kind
  pub m : Map
  pub m' : Map
  pub nodes : Nodes
  pub nodes' : Nodes
  pub owners : List Owner
  pub owners' : List Owner
  pub root : Node
  pub listings : List Listing
  pub edit : Edit
  pub agreed : AgreeOn kind m nodes owners root listings
  pub is_edit : IsEdit nodes listings edit
  pub nodes_edited : AreEdited nodes nodes' edit
  pub fit : PlacesFit kind m m' nodes listings edit
  pub can : CanSayAll (Layout.New m) listings edit
  pub owners_edited : OwnersEdited owners owners' (owners_left (Layout.New m) edit) (owners_joined (Layout.New m') edit)

-- the same on an old map that gets other holes
pub record OldPartsEdit : Type 0 where
  pub kind : Kind
  pub space : OldMapContent
  pub holes : List Hole
  pub nodes : Nodes
  pub nodes' : Nodes
  pub owners : List Owner
  pub owners' : List Owner
  pub root : Node
  pub listings : List Listing
  pub edit : Edit
  pub agreed : OldAgreeOn kind space nodes owners root listings
  pub is_edit : IsEdit nodes listings edit
  pub nodes_edited : AreEdited nodes nodes' edit
  pub is_map : IsOldMap (holding space holes)
  pub in_order : AreHoles space.disc_units space.sector_units (map_units space.sector_units) holes
  pub fit : WalkFits kind (Layout.Old space) (with_holes space holes) nodes listings edit
  pub can : CanSayAll (Layout.Old space) listings edit
  pub owners_edited : OwnersEdited owners owners' (owners_left (Layout.Old space) edit) (owners_joined (with_holes space holes) edit)

-- any of them, on any map
abbrev pub old_parts : OldPartsEdit → PartsEdit
old_parts x = record {
  kind = x.kind;
  layout = Layout.Old x.space;
  layout' = with_holes x.space x.holes;
  nodes = x.nodes;
  nodes' = x.nodes';
  owners = x.owners;
  owners' = x.owners';
  root = x.root;
  listings = x.listings;
  edit = x.edit;
  walked = x.agreed.walked;
  root_is = x.agreed.root_is;
  owned = record { owned = x.agreed.owned; first = λ low. refl };
  is_edit = x.is_edit;
  nodes_edited = x.nodes_edited;
  fit = x.fit;
  can = x.can;
  owners_edited = x.owners_edited;
}

-- the parts agree on an old map, and find these listings, in some order
pub record OldAgreeNow (kind : Kind) (space : OldMapContent) (nodes : Nodes) (owners : List Owner) (listings : List Listing) : Type 0 where
  pub root : Node
  pub found : List Listing
  pub agree : OldAgreeOn kind space nodes owners root found
  pub order : IsPermutation listings found

-- the parts after any edit
pub record AgreeLaw : Type 0 where
  -- They are those of each view that finds the listings after it, whatever the map.
  pub viewed : (x : NodesEdit) (layout' : Layout) (owners owners' : List Owner) (kind : Kind) (found : List Listing) → IsOwned owners x.nodes x.layout layout' x.listings
      → OwnersEdited owners owners' (owners_left x.layout x.edit) (owners_joined layout' x.edit) → AreSound layout' found → IsPermutation (listings_after x.edit) found
      → ArePartsOf (record { layout = layout'; nodes = x.nodes'; owners = owners' }) (record { kind = kind; layout = layout'; listings = found })
  -- On any map the walk over the nodes finds them.
  pub any : (x : PartsEdit) → WalkedNow x.kind x.layout' x.nodes' x.owners' (listings_after x.edit)
  -- On a new map they agree.
  pub agree : (x : NewPartsEdit) → AgreeNow x.kind x.m' x.nodes' x.owners' (listings_after x.edit)
  -- So they do on an old one.
  pub old : (x : OldPartsEdit) → OldAgreeNow x.kind (holding x.space x.holes) x.nodes' x.owners' (listings_after x.edit)
