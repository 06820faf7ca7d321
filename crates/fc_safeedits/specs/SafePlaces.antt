-- Where objects lie on a new map after an edit by which identifiers move.
use Rattle.std.specs.Prelude.{◌≡◌, ◌⊎◌, ◌&&◌, ℕ, Bool, true, false, List, Contains}
use Rattle.fc_record.specs.declared.Kind.{Kind}
use Rattle.fc_newmap.specs.Map.{Map, is_used}
use Rattle.fc_newmap.specs.NewMap.{IsNewMap}
use Rattle.fc_alloc.specs.declared.owner.Owner.{Owner}
use Rattle.fc_image.specs.Layout.{Layout, id_of}
use Rattle.fc_image.specs.Walk.{Object}
use Rattle.fc_image.specs.Objects.{is_movable, is_owner_of, objects_of}
use Rattle.fc_image.specs.Edits.{IsAt}
use Rattle.fc_tree.specs.declared.node.Node.{Node}
use Rattle.fc_laws.specs.nodes.Edits.{OwnersEdited}
use Rattle.fc_laws.specs.agree.Agreed.{AgreeOn}
use Rattle.fc_edits.specs.Edit.{joining, objects, owners_joined, owners_left}
use Rattle.fc_edits.specs.NewPlaces.{ApartInOne, GivesBack, IsSpaceChange, LiesAgain, NewPlaces, Taking, is_taken}
use Rattle.fc_edits.specs.Places.{Stays}
use Rattle.fc_safelaws.specs.Relaid.{IsRelaid, Reaches}
use Rattle.fc_safeedits.specs.Relocation.{Relocation, is_moved, laid_in, relocated, turned_in}

-- Of the identifiers for which parts are taken those move that had runs.
abbrev pub moves_by : Map → List Taking → ℕ → Bool
moves_by m takings k = is_taken takings k && is_used m k

-- An object that joins a directory in an identifier that moves: it had its place there by the old map, and the identifier reaches so far
-- by the new one.
pub record LiesInside (x : Relocation) (o : Object) : Type 0 where
  pub before : IsAt (Layout.New x.m) o
  pub reaches : Reaches x.m' o

-- Or it has its place by the new map already, and nothing else owns the identifier: the old one may not have reached so far.
pub record LiesAlone (x : Relocation) (o : Object) : Type 0 where
  pub at : IsAt (Layout.New x.m') o
  pub staying : (p : Object) → Stays x.nodes x.listings x.edit p → is_owner_of (id_of o.entry.address) p ≡ false
  pub others : (q : ℕ × Object) → Contains (joining x.edit) q → is_owner_of (id_of o.entry.address) q.1 ≡ true → q.1 ≡ o

-- The map m' is m with these changes. Only movable identifiers move, and reach as far as what lies in them afterwards. What joins a
-- directory without the moves lies at its address, by the old map if its identifier moves and isn't its own alone, apart from all that stays.
pub record SafePlaces (x : Relocation) (takings : List Taking) (gone : List ℕ) : Type 0 where
  pub moves : x.moves ≡ moves_by x.m takings
  pub is_map : IsNewMap x.m'
  pub geometry : x.m'.geometry ≡ x.m.geometry
  pub space : IsSpaceChange x.m x.m' takings gone
  pub gives : GivesBack x.m takings gone x.listings x.edit
  pub movable : (k : ℕ) → x.moves k ≡ true → is_movable (objects_of x.listings) k ≡ true
  pub inside : (p : ℕ × Object) → Contains (joining x.edit) p → is_moved x.moves p.1 ≡ true → LiesInside x p.1 ⊎ LiesAlone x p.1
  pub placed : (p : ℕ × Object) → Contains (joining x.edit) p → is_moved x.moves p.1 ≡ false → IsAt (Layout.New x.m') p.1
  pub reach_staying : (o : Object) → Stays x.nodes x.listings x.edit o → is_moved x.moves o ≡ true → Reaches x.m' o
  pub lies : (p : ℕ × Object) → Contains (joining x.edit) p → LiesAgain x.m x.nodes x.listings x.edit p.1
  pub pairs : ApartInOne (objects (joining x.edit))

pub record SafePlacesLaw : Type 0 where
  -- So the edit with the moves has its places on the new map.
  pub places : (x : Relocation) (kind : Kind) (owners : List Owner) (root : Node) (takings : List Taking) (gone : List ℕ) → AgreeOn kind x.m x.nodes owners root x.listings
      → SafePlaces x takings gone → NewPlaces kind x.m x.m' x.nodes x.listings (relocated x) takings gone
  -- What is laid anew has the same place inside its identifier.
  pub joining : (x : Relocation) (o : Object) → is_moved x.moves o ≡ true → LiesInside x o → IsRelaid x.m x.m' o (laid_in x o)
  pub staying : (x : Relocation) (kind : Kind) (owners : List Owner) (root : Node) (takings : List Taking) (gone : List ℕ) (o : Object) → AgreeOn kind x.m x.nodes owners root x.listings
      → SafePlaces x takings gone → Stays x.nodes x.listings x.edit o → is_moved x.moves o ≡ true → IsRelaid x.m x.m' o (turned_in x o)
  -- If these are the owners without the moves, they are so with them: what is laid anew has as many sectors.
  pub owners : (x : Relocation) (kind : Kind) (owners owners' : List Owner) (root : Node) (takings : List Taking) (gone : List ℕ) → AgreeOn kind x.m x.nodes owners root x.listings
      → SafePlaces x takings gone → OwnersEdited owners owners' (owners_left (Layout.New x.m) x.edit) (owners_joined (Layout.New x.m') x.edit)
      → OwnersEdited owners owners' (owners_left (Layout.New x.m) (relocated x)) (owners_joined (Layout.New x.m') (relocated x))
