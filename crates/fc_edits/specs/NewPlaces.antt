-- What becomes of a new map, by any list of plans and any list of identifiers that go back, and where objects lie on it afterwards.
use Rattle.std.specs.Prelude.{◌≡◌, ◌<◌, ◌⊎◌, ◌||◌, ℕ, Bool, true, false, List, [], ◌∷◌, ◌++◌, map, Contains, IsPermutation}
use Rattle.fc_record.specs.declared.Kind.{Kind}
use Rattle.fc_newmap.specs.Map.{Map, ZoneRun, hole_runs, id_runs, is_used}
use Rattle.fc_newmap.specs.NewMap.{IsNewMap}
use Rattle.fc_alloc.specs.declared.owner.Owner.{Owner}
use Rattle.fc_image.specs.Layout.{Layout, id_of, is_apart}
use Rattle.fc_image.specs.Walk.{Listing, Object}
use Rattle.fc_image.specs.Objects.{is_movable, is_owner_of, objects_of}
use Rattle.fc_image.specs.Edits.{IsAt}
use Rattle.fc_image.specs.effects.Placed.{holes_left}
use Rattle.fc_image.specs.effects.Steady.{holes_with, is_given_back, runs_that, zone_holes}
use Rattle.fc_tree.specs.declared.node.Node.{Node}
use Rattle.fc_plan.specs.Applied.{unless_gone}
use Rattle.fc_plan.specs.Giving.{is_one_of}
use Rattle.fc_plan.specs.Taking.{as_runs}
use Rattle.fc_laws.specs.nodes.Edits.{Nodes}
use Rattle.fc_laws.specs.agree.Agreed.{AgreeOn}
use Rattle.fc_edits.specs.Edit.{Edit, IsEdit, joining, leaving, objects}
use Rattle.fc_edits.specs.Places.{PlacesFit, Stays}

-- ---- the map

-- Parts of holes that become the runs of an identifier.
pub record Taking : Type 0 where
  pub id : ℕ
  pub parts : List ZoneRun

-- the identifiers that get runs
abbrev pub ids_of : List Taking → List ℕ
ids_of takings = map (λ (t : Taking). t.id) takings

-- The identifier gets runs.
abbrev pub is_taken : List Taking → ℕ → Bool
is_taken takings id = is_one_of (ids_of takings) id

-- the holes that are left when one plan after another has taken its parts
abbrev pub untaken : List ZoneRun → List Taking → List ZoneRun
untaken holes [] = holes
untaken holes (t ∷ takings) = untaken (holes_left holes t.parts) takings

-- First all parts are taken, and then the old runs of the identifiers `gone` go back. An identifier that gets runs has no others: it had
-- none, or those that it had go back.
pub record IsSpaceChange (m m' : Map) (takings : List Taking) (gone : List ℕ) : Type 0 where
  pub holes : (z : ℕ) → z < m.geometry.zones
      → zone_holes (hole_runs m') z ≡ holes_with (zone_holes (untaken (hole_runs m) takings) z) (zone_holes (runs_that (is_one_of gone) m) z)
  pub own : (t : Taking) → Contains takings t → IsPermutation (as_runs t.id t.parts) (id_runs m' t.id)
  pub others : (k : ℕ) → is_taken takings k ≡ false → id_runs m' k ≡ unless_gone gone k (id_runs m k)

-- ---- identifiers that go back

-- Exactly those used identifiers go back that an object owned and none owns after the edit, and those that get other runs. `stay` are the
-- objects that neither leave nor join a directory.
pub record GivesBack (m : Map) (takings : List Taking) (gone : List ℕ) (listings : List Listing) (e : Edit) : Type 0 where
  pub stay : List Object
  pub others : IsPermutation (objects_of listings) (objects (leaving e) ++ stay)
  pub exactly : (k : ℕ) → is_used m k ≡ true → is_one_of gone k ≡ (is_given_back (objects_of listings) (objects (joining e) ++ stay) k || is_taken takings k)

-- ---- places

-- Those of them that have one identifier lie apart.
abbrev pub ApartInOne : List Object → Type 0
ApartInOne [] = Unit {0}
ApartInOne (o ∷ os) = ((p : Object) → Contains os p → id_of o.entry.address ≡ id_of p.entry.address → is_apart o.sectors p.sectors ≡ true) × ApartInOne os

-- An object has the place that one had which leaves a directory.
pub record HasPlaceOf (o was : Object) : Type 0 where
  pub sectors : o.sectors ≡ was.sectors
  pub address : o.entry.address ≡ was.entry.address

-- It keeps the place of an object that leaves a directory; or its identifier is new or movable, and it is apart from those that stay in it.
abbrev pub LiesAgain : Map → Nodes → List Listing → Edit → Object → Type 0
LiesAgain m nodes listings e o =
    ((q : ℕ × Object) × Contains (leaving e) q × HasPlaceOf o q.1)
    ⊎ (((k : ℕ) → is_owner_of k o ≡ true → is_used m k ≡ true → is_movable (objects_of listings) k ≡ true)
    × ((p : Object) → Stays nodes listings e p → id_of o.entry.address ≡ id_of p.entry.address → is_apart o.sectors p.sectors ≡ true))

-- The map m' is m with these changes. An identifier that gets runs had none, or it was movable and only objects owned it that leave their
-- directories. What joins a directory lies at its address.
pub record NewPlaces (kind : Kind) (m m' : Map) (nodes : Nodes) (listings : List Listing) (e : Edit) (takings : List Taking) (gone : List ℕ) : Type 0 where
  pub is_map : IsNewMap m'
  pub geometry : m'.geometry ≡ m.geometry
  pub space : IsSpaceChange m m' takings gone
  pub gives : GivesBack m takings gone listings e
  pub again : (k : ℕ) → is_taken takings k ≡ true → is_used m k ≡ true
      → (is_movable (objects_of listings) k ≡ true) × ((o : Object) → Stays nodes listings e o → is_owner_of k o ≡ false)
  pub placed : (p : ℕ × Object) → Contains (joining e) p → IsAt (Layout.New m') p.1
  pub lies : (p : ℕ × Object) → Contains (joining e) p → LiesAgain m nodes listings e p.1
  pub pairs : ApartInOne (objects (joining e))

-- ---- the law

pub record NewPlacesLaw : Type 0 where
  -- A used identifier that doesn't go back keeps its runs.
  pub runs : (m m' : Map) (takings : List Taking) (gone : List ℕ) (listings : List Listing) (e : Edit) (k : ℕ) → IsSpaceChange m m' takings gone → GivesBack m takings gone listings e
      → is_used m k ≡ true → is_one_of gone k ≡ false → id_runs m' k ≡ id_runs m k
  -- So the edit has its places on the new map.
  pub fit : (kind : Kind) (m m' : Map) (nodes : Nodes) (owners : List Owner) (root : Node) (listings : List Listing) (e : Edit) (takings : List Taking) (gone : List ℕ)
      → AgreeOn kind m nodes owners root listings → IsEdit nodes listings e → NewPlaces kind m m' nodes listings e takings gone → PlacesFit kind m m' nodes listings e
