-- Where a directory that grows lies on a new map, and the objects of the edit beside it.
use Rattle.std.specs.Prelude.{◌≡◌, ◌<◌, ◌⊎◌, ℕ, ◌*◌, true, false, List, [], ◌∷◌, ◌++◌, Contains}
use Rattle.fc_record.specs.declared.Kind.{Kind}
use Rattle.fc_names.specs.Names.{Path}
use Rattle.fc_newmap.specs.Map.{Map, ZoneRun, hole_runs, is_used}
use Rattle.fc_newmap.specs.NewMap.{IsNewMap}
use Rattle.fc_alloc.specs.declared.owner.Owner.{Owner}
use Rattle.fc_image.specs.Layout.{Layout, dir_form, id_of, is_apart}
use Rattle.fc_image.specs.Walk.{Listing, Object, object_size}
use Rattle.fc_image.specs.Objects.{objects_of}
use Rattle.fc_image.specs.Edits.{IsAt}
use Rattle.fc_image.specs.effects.Sharing.{new_ids, units}
use Rattle.fc_image.specs.effects.Short.{has_room, is_alone}
use Rattle.fc_image.specs.effects.Placed.{IsPlan}
use Rattle.fc_tree.specs.declared.node.Node.{Node}
use Rattle.fc_laws.specs.nodes.Edits.{Nodes, OwnersEdited, owners_with}
use Rattle.fc_laws.specs.agree.Agreed.{AgreeOn}
use Rattle.fc_edits.specs.Edit.{AreEdited, Edit, IsEdit, joining, leaving, listings_after, objects, owners_joined, owners_left}
use Rattle.fc_edits.specs.Growing.{CanSayNew, Growing, IsGrowing, at_place, grown, up_of}
use Rattle.fc_edits.specs.NewNodes.{HasNumbers}
use Rattle.fc_edits.specs.NewPlaces.{ApartInOne, GivesBack, HasPlaceOf, IsSpaceChange, LiesAgain, NewPlaces, Taking, is_taken, untaken}
use Rattle.fc_edits.specs.Placing.{IsPlaced, takings_of}
use Rattle.fc_edits.specs.Places.{AgreeNow}

-- ---- its place

-- It takes more sectors of its own identifier, and no part of a hole.
pub record GrowsThere (m : Map) (os : List Object) (g : Growing) (own : List Taking) : Type 0 where
  pub room : has_room (Layout.New m) os (g.o, g.len) ≡ true
  pub address : g.address ≡ g.o.entry.address
  pub nothing : own ≡ []

-- There is no room, and its new space is taken from what is left when `before` have taken theirs.
pub record TakesSpace (m : Map) (os : List Object) (before : List Taking) (g : Growing) (t : Taking) : Type 0 where
  pub no_room : has_room (Layout.New m) os (g.o, g.len) ≡ false
  pub plan : IsPlan m.geometry (untaken (hole_runs m) before) (units m.geometry g.len) t.parts

-- Alone in its identifier, it keeps that and its address.
pub record GrowsAlone (m : Map) (os : List Object) (g : Growing) (t : Taking) : Type 0 where
  pub alone : is_alone os g.o ≡ true
  pub id : t.id ≡ id_of g.o.entry.address
  pub address : g.address ≡ g.o.entry.address

-- Otherwise it gets another identifier, which none of `before` gets.
pub record GrowsElsewhere (m : Map) (os : List Object) (before : List Taking) (g : Growing) (t : Taking) : Type 0 where
  pub not_alone : is_alone os g.o ≡ false
  pub is_new : Contains (new_ids m) t.id
  pub other : is_taken before t.id ≡ false
  pub address : g.address ≡ 256 * t.id

-- `own` is what is taken for it, if anything is.
abbrev pub IsGrownAt : Map → List Object → List Taking → Growing → List Taking → Type 0
IsGrownAt m os before g own =
    GrowsThere m os g own ⊎ ((t : Taking) × (own ≡ t ∷ []) × TakesSpace m os before g t × (GrowsAlone m os g t ⊎ GrowsElsewhere m os before g t))

-- ---- an edit in which it grows

-- An object keeps the place of one that leaves a directory.
abbrev pub KeepsPlaceOf : Edit → Object → Type 0
KeepsPlaceOf e o = (q : ℕ × Object) × Contains (leaving e) q × HasPlaceOf o q.1

-- Parts with a new map, an edit of them in which a directory grows, and the parts after it. First `before` take parts of holes, which had no
-- runs, and then the directory takes its own. The objects of the edit have their places beside it.
pub record NewGrowing : Type 0 where
  pub kind : Kind
  pub m : Map
  pub m' : Map
  pub nodes : Nodes
  pub nodes' : Nodes
  pub owners : List Owner
  pub owners' : List Owner
  pub root : Node
  pub listings : List Listing
  pub edit : Edit
  pub growing : Growing
  pub before : List Taking
  pub own : List Taking
  pub gone : List ℕ
  pub agreed : AgreeOn kind m nodes owners root listings
  pub is_edit : IsEdit nodes listings edit
  pub has_numbers : HasNumbers nodes edit
  pub grows : IsGrowing nodes (Layout.New m) edit growing
  pub can : CanSayNew (Layout.New m) edit
  pub nodes_edited : AreEdited nodes nodes' (grown edit growing)
  pub owners_edited : OwnersEdited owners owners' (owners_with (Layout.New m) (up_of growing.holder) growing.dir growing.o ++ owners_left (Layout.New m) edit)
      (owners_with (Layout.New m') (up_of growing.holder) growing.dir (at_place growing growing.o) ++ owners_joined (Layout.New m') edit)
  -- the map
  pub is_map : IsNewMap m'
  pub geometry : m'.geometry ≡ m.geometry
  pub space : IsSpaceChange m m' (before ++ own) gone
  pub gives : GivesBack m (before ++ own) gone listings (grown edit growing)
  pub fresh : (k : ℕ) → is_taken before k ≡ true → is_used m k ≡ false
  -- the directory
  pub some : 0 < growing.len
  pub lies : IsGrownAt m (objects_of listings) before growing own
  pub at : IsAt (Layout.New m') (at_place growing growing.o)
  -- the objects of the edit
  pub placed : (p : ℕ × Object) → Contains (joining edit) p → IsAt (Layout.New m') p.1
  pub lie : (p : ℕ × Object) → Contains (joining edit) p → LiesAgain m nodes listings edit p.1
  pub pairs : ApartInOne (objects (joining edit))
  pub apart : (p : ℕ × Object) → Contains (joining edit) p → KeepsPlaceOf edit p.1 ⊎ (id_of p.1.entry.address ≡ id_of growing.address → is_apart p.1.sectors growing.sectors ≡ true)

-- The same if object o, of node `number`, is the one that joins a directory beside. It takes its space first.
pub record GrownPlacing : Type 0 where
  pub kind : Kind
  pub m : Map
  pub m' : Map
  pub nodes : Nodes
  pub nodes' : Nodes
  pub owners : List Owner
  pub owners' : List Owner
  pub root : Node
  pub listings : List Listing
  pub edit : Edit
  pub growing : Growing
  pub number : ℕ
  pub o : Object
  pub id : ℕ
  pub parts : List ZoneRun
  pub own : List Taking
  pub gone : List ℕ
  pub near : Path
  pub agreed : AgreeOn kind m nodes owners root listings
  pub is_edit : IsEdit nodes listings edit
  pub has_numbers : HasNumbers nodes edit
  pub grows : IsGrowing nodes (Layout.New m) edit growing
  pub can : CanSayNew (Layout.New m) edit
  pub nodes_edited : AreEdited nodes nodes' (grown edit growing)
  pub owners_edited : OwnersEdited owners owners' (owners_with (Layout.New m) (up_of growing.holder) growing.dir growing.o ++ owners_left (Layout.New m) edit)
      (owners_with (Layout.New m') (up_of growing.holder) growing.dir (at_place growing growing.o) ++ owners_joined (Layout.New m') edit)
  pub joins : joining edit ≡ (number, o) ∷ []
  pub is_map : IsNewMap m'
  pub geometry : m'.geometry ≡ m.geometry
  pub space : IsSpaceChange m m' (takings_of id parts ++ own) gone
  pub gives : GivesBack m (takings_of id parts ++ own) gone listings (grown edit growing)
  pub some : 0 < growing.len
  pub lies : IsGrownAt m (objects_of listings) (takings_of id parts) growing own
  pub grown_at : IsAt (Layout.New m') (at_place growing growing.o)
  pub at : IsAt (Layout.New m') o
  pub place : IsPlaced m (objects_of listings) near (object_size (dir_form (Layout.New m')) o.entry) id parts o

pub record GrownPlacesLaw : Type 0 where
  -- The edit with growth has its places, and the parts after it agree.
  pub places : (x : NewGrowing) → NewPlaces x.kind x.m x.m' x.nodes x.listings (grown x.edit x.growing) (x.before ++ x.own) x.gone
  pub agree : (x : NewGrowing) → AgreeNow x.kind x.m' x.nodes' x.owners' (listings_after (grown x.edit x.growing))
