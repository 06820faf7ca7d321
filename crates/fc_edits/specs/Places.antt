-- What an edit needs of a new map, and of what directories say, for the parts of a volume to agree after it.
use Rattle.std.specs.Prelude.{◌≡◌, ◌<◌, ◌≤◌, ℕ, true, false, List, [], ◌∷◌, length, Contains, Some, IsPermutation}
use Rattle.std.specs.FinMap.{get}
use Rattle.fc_record.specs.declared.Kind.{Kind}
use Rattle.fc_newmap.specs.Map.{Map, id_runs, is_used}
use Rattle.fc_newmap.specs.NewMap.{IsNewMap}
use Rattle.fc_dirs.specs.Directory.{directory_size, entries_of}
use Rattle.fc_alloc.specs.declared.owner.Owner.{Owner}
use Rattle.fc_image.specs.Layout.{Layout, dir_form, disc_sectors, is_apart}
use Rattle.fc_image.specs.Walk.{Listing, Object, root_entry}
use Rattle.fc_image.specs.Objects.{is_movable, is_owner_of, objects_of}
use Rattle.fc_image.specs.Opening.{reserved_in}
use Rattle.fc_image.specs.Edits.{Apart, IsAt}
use Rattle.fc_image.specs.MapEdits.{KeepsPlace}
use Rattle.fc_tree.specs.declared.node.Node.{Node}
use Rattle.fc_tree.specs.Agree.{AreWalked}
use Rattle.fc_tree.specs.Nodes.{number_of}
use Rattle.fc_tree.specs.Parts.{AreOwners}
use Rattle.fc_laws.specs.nodes.Edits.{Nodes}
use Rattle.fc_laws.specs.agree.Agreed.{AgreeOn, CanSay}
use Rattle.fc_edits.specs.Edit.{Amended, Edit, TopTurns, joining, leaving, numbers, objects}

-- each of these objects lies apart from those after it
abbrev pub ApartPairs : List Object → Type 0
ApartPairs [] = Unit {0}
ApartPairs (o ∷ os) = ((p : Object) → Contains os p → is_apart o.sectors p.sectors ≡ true) × ApartPairs os

-- The object stays in its directory: its number isn't among those that leave.
pub record Stays (nodes : Nodes) (listings : List Listing) (e : Edit) (o : Object) : Type 0 where
  pub among : Contains (objects_of listings) o
  pub number : ℕ
  pub number_is : number_of nodes o.path ≡ Some number
  pub stays : Contains (numbers (leaving e)) number → ⊥

-- By the new layout the objects that stay lie where they lay, and those that join a directory at their addresses, apart from all others.
-- What is reserved may be other sectors than before; none of them is an object's that stays.
pub record WalkFits (kind : Kind) (layout layout' : Layout) (nodes : Nodes) (listings : List Listing) (e : Edit) : Type 0 where
  pub form : dir_form layout' ≡ dir_form layout
  pub disc : disc_sectors layout' ≡ disc_sectors layout
  pub room : length listings ≤ disc_sectors layout
  pub keeps : (o : Object) → Stays nodes listings e o → IsAt layout' o
  pub placed : (p : ℕ × Object) → Contains (joining e) p → IsAt layout' p.1
  pub free : (p : ℕ × Object) → Contains (joining e) p → is_apart p.1.sectors (reserved_in kind layout') ≡ true
  pub apart : (p : ℕ × Object) (o : Object) → Contains (joining e) p → Stays nodes listings e o → is_apart p.1.sectors o.sectors ≡ true
  pub pairs : ApartPairs (objects (joining e))
  pub reserved : (os : List Object) → ((o : Object) → Contains os o → Stays nodes listings e o) → Apart (reserved_in kind layout) os → Apart (reserved_in kind layout') os

-- The objects that stay keep their places on the map m', and those that join a directory have theirs there, apart from all others.
pub record PlacesFit (kind : Kind) (m m' : Map) (nodes : Nodes) (listings : List Listing) (e : Edit) : Type 0 where
  pub is_map : IsNewMap m'
  pub geometry : m'.geometry ≡ m.geometry
  pub keeps : (o : Object) → Stays nodes listings e o → KeepsPlace m m' o
  pub placed : (p : ℕ × Object) → Contains (joining e) p → IsAt (Layout.New m') p.1
  pub free : (p : ℕ × Object) → Contains (joining e) p → is_apart p.1.sectors (reserved_in kind (Layout.New m)) ≡ true
  pub apart : (p : ℕ × Object) (o : Object) → Contains (joining e) p → Stays nodes listings e o → is_apart p.1.sectors o.sectors ≡ true
  pub pairs : ApartPairs (objects (joining e))
  -- A used identifier that isn't movable keeps its runs, and no object comes to it but into identifiers that never are.
  pub fixed : (k : ℕ) → is_movable (objects_of listings) k ≡ false → is_used m k ≡ true
      → (id_runs m' k ≡ id_runs m k) × ((p : ℕ × Object) → Contains (joining e) p → is_owner_of k p.1 ≡ true → k < 3)

-- the entry of a root
pub record IsRootEntry (layout : Layout) (o : Object) : Type 0 where
  pub address : ℕ
  pub size : ℕ
  pub entry : o.entry ≡ root_entry address size
  pub whole : directory_size (dir_form layout) size ≡ size

-- What directories say can be said, in their sizes.
pub record CanSayAll (layout : Layout) (listings : List Listing) (e : Edit) : Type 0 where
  pub few : length e.into ≤ 1
  pub amended : (a : Amended) → Contains e.amended a → CanSay layout (e.turn a.was.object) a.content
  pub into : (d : ℕ × Listing) → Contains e.into d → CanSay layout d.1.object d.1.content
  pub into_none : (d : ℕ × Listing) → Contains e.into d → entries_of d.1.content ≡ []
  pub same : (k : Listing) → Contains e.same k → (e.turn k.object).entry.len ≡ k.object.entry.len
  pub root : (o : Object) → Contains (objects_of listings) o → o.path ≡ [] → TopTurns e o → IsRootEntry layout (e.turn o)

-- The parts agree, and find these listings, in some order.
pub record AgreeNow (kind : Kind) (m : Map) (nodes : Nodes) (owners : List Owner) (listings : List Listing) : Type 0 where
  pub root : Node
  pub found : List Listing
  pub agree : AgreeOn kind m nodes owners root found
  pub order : IsPermutation listings found

-- The walk over the nodes finds these listings, in some order, and the owners are theirs.
pub record WalkedNow (kind : Kind) (layout : Layout) (nodes : Nodes) (owners : List Owner) (listings : List Listing) : Type 0 where
  pub root : Node
  pub root_is : get nodes 0 ≡ Some root
  pub found : List Listing
  pub walked : AreWalked nodes layout (reserved_in kind layout) root.entry.address root.entry.len found
  pub owned : AreOwners owners nodes layout (objects_of found)
  pub order : IsPermutation listings found
