-- `rename` without a copy, into a directory that grows by it, as an edit on a new map.
use Rattle.std.specs.Prelude.{◌≡◌, ◌<◌, ℕ, List, [], ◌++◌}
use Rattle.fc_record.specs.declared.Kind.{Kind}
use Rattle.fc_newmap.specs.Map.{Map}
use Rattle.fc_newmap.specs.NewMap.{IsNewMap}
use Rattle.fc_alloc.specs.declared.owner.Owner.{Owner}
use Rattle.fc_image.specs.Layout.{Layout}
use Rattle.fc_image.specs.Walk.{Listing}
use Rattle.fc_image.specs.Objects.{objects_of}
use Rattle.fc_image.specs.Edits.{IsAt}
use Rattle.fc_tree.specs.declared.node.Node.{Node}
use Rattle.fc_laws.specs.nodes.Edits.{Nodes, OwnersEdited, owners_with}
use Rattle.fc_laws.specs.nodes.Laws.{IsHeld}
use Rattle.fc_laws.specs.agree.Agreed.{AgreeOn}
use Rattle.fc_edits.specs.Edit.{AreEdited, Edit, IsEdit, listings_after, owners_joined, owners_left}
use Rattle.fc_edits.specs.Growing.{Growing, IsGrowing, at_place, grown, up_of}
use Rattle.fc_edits.specs.GrownPlaces.{IsGrownAt}
use Rattle.fc_edits.specs.Moving.{Moves, Moving, edit}
use Rattle.fc_edits.specs.NewNodes.{nodes_after}
use Rattle.fc_edits.specs.NewPlaces.{GivesBack, IsSpaceChange, NewPlaces, Taking}
use Rattle.fc_edits.specs.Places.{AgreeNow}

abbrev pub grown_edit : Moving → Growing → Edit
grown_edit c g = grown (edit c) g

-- An object moves to a directory, or gets another name in its own, which grows by it. Only the directory takes space.
pub record NewGrownMoving : Type 0 where
  pub kind : Kind
  pub m : Map
  pub m' : Map
  pub nodes : Nodes
  pub nodes' : Nodes
  pub owners : List Owner
  pub owners' : List Owner
  pub root : Node
  pub listings : List Listing
  pub c : Moving
  pub growing : Growing
  pub own : List Taking
  pub gone : List ℕ
  pub agreed : AgreeOn kind m nodes owners root listings
  pub moves : Moves nodes listings c
  pub grows : IsGrowing nodes (Layout.New m) (edit c) growing
  pub nodes_edited : AreEdited nodes nodes' (grown_edit c growing)
  pub owners_edited : OwnersEdited owners owners' (owners_with (Layout.New m) (up_of growing.holder) growing.dir growing.o ++ owners_left (Layout.New m) (edit c))
      (owners_with (Layout.New m') (up_of growing.holder) growing.dir (at_place growing growing.o) ++ owners_joined (Layout.New m') (edit c))
  pub is_map : IsNewMap m'
  pub geometry : m'.geometry ≡ m.geometry
  pub space : IsSpaceChange m m' own gone
  pub gives : GivesBack m own gone listings (grown_edit c growing)
  pub some : 0 < growing.len
  pub lies : IsGrownAt m (objects_of listings) [] growing own
  pub at : IsAt (Layout.New m') (at_place growing growing.o)

pub record GrownMovingLaw : Type 0 where
  -- It is an edit, and these are the nodes after it.
  pub is_edit : (nodes : Nodes) (layout : Layout) (listings : List Listing) (c : Moving) (g : Growing) → IsHeld nodes layout listings → Moves nodes listings c
      → IsGrowing nodes layout (edit c) g → IsEdit nodes listings (grown_edit c g)
  pub nodes : (nodes : Nodes) (layout : Layout) (listings : List Listing) (c : Moving) (g : Growing) → IsHeld nodes layout listings → Moves nodes listings c
      → IsGrowing nodes layout (edit c) g → AreEdited nodes (nodes_after (grown_edit c g) nodes) (grown_edit c g)
  -- It has its places, and the parts after it agree.
  pub new_places : (x : NewGrownMoving) → NewPlaces x.kind x.m x.m' x.nodes x.listings (grown_edit x.c x.growing) x.own x.gone
  pub new : (x : NewGrownMoving) → AgreeNow x.kind x.m' x.nodes' x.owners' (listings_after (grown_edit x.c x.growing))
