-- `save`, `create` and `cdir` as an edit, without growth: a file comes, or replaces another, or an empty directory comes.
use Rattle.std.specs.Prelude.{◌≡◌, ◌<◌, ◌≤◌, ℕ, true, false, List, [], ◌∷◌, ◌++◌, length, map, Option, Some, None, IsPermutation}
use Rattle.std.specs.List.{flat_map}
use Rattle.std.specs.FinMap.{get}
use Rattle.fc_names.specs.Names.{Path}
use Rattle.fc_record.specs.declared.Kind.{Kind}
use Rattle.fc_oldmap.specs.declared.Hole.{Hole}
use Rattle.fc_oldmap.specs.Holes.{hole_limit}
use Rattle.fc_oldmap.specs.OldMap.{OldMapContent}
use Rattle.fc_newmap.specs.Map.{Map, ZoneRun, is_used}
use Rattle.fc_newmap.specs.NewMap.{IsNewMap}
use Rattle.fc_dirs.specs.Directory.{Directory, entries_of}
use Rattle.fc_dirs.specs.Entries.{first_twin}
use Rattle.fc_alloc.specs.declared.owner.Owner.{Owner}
use Rattle.fc_image.specs.Layout.{Layout, dir_form}
use Rattle.fc_image.specs.Walk.{Listing, Object, is_directory_object, object_size}
use Rattle.fc_image.specs.Objects.{objects_of}
use Rattle.fc_image.specs.Edits.{IsAt}
use Rattle.fc_image.specs.effects.Short.{holes_without, old_need, with_space_of}
use Rattle.fc_tree.specs.declared.node.Node.{Node}
use Rattle.fc_tree.specs.Nodes.{number_of}
use Rattle.fc_changes.specs.Owed.{GivesBack, IsSpaceEdit}
use Rattle.fc_changes.specs.old.Changed.{IsFileAt as IsOldFileAt}
use Rattle.fc_changes.specs.old.Owed.{holding}
use Rattle.fc_laws.specs.nodes.Edits.{Nodes, OwnersEdited, owners_with}
use Rattle.fc_laws.specs.nodes.Laws.{IsHeld}
use Rattle.fc_laws.specs.agree.Agreed.{AgreeOn as NewAgreeOn, CanSay}
use Rattle.fc_laws.specs.old.agree.Laws.{AgreeOn}
use Rattle.fc_edits.specs.Edit.{Amended, AreEdited, Edit, IsEdit, listings_after, owners_joined, owners_left}
use Rattle.fc_edits.specs.NewNodes.{enter, nodes_after, tell}
use Rattle.fc_edits.specs.NewPlaces.{IsSpaceChange, NewPlaces}
use Rattle.fc_edits.specs.OldPlaces.{OldPlaces}
use Rattle.fc_edits.specs.PartsEdit.{OldAgreeNow}
use Rattle.fc_edits.specs.Placing.{IsPlaced, takings_of}
use Rattle.fc_edits.specs.Places.{AgreeNow, CanSayAll}

-- Object o comes to directory l of node `dir`, which holds `children` afterwards, and gets node `number`. A file that it replaces is
-- `over`; the directory keeps `kids`. The own listing of a directory that comes is `into`.
pub record Addition : Type 0 where
  pub over : List Object
  pub into : List Listing
  pub rest : List Listing
  pub l : Listing
  pub content : Directory
  pub children : List Object
  pub kids : List Object
  pub o : Object
  pub dir : ℕ
  pub number : ℕ

-- what goes, with its number
abbrev pub leaves : Addition → List (ℕ × Object)
leaves c = map (λ (p : Object). (c.number, p)) c.over

-- its directory
abbrev pub amended : Addition → Amended
amended c = record { was = c.l; number = c.dir; content = c.content; children = c.children; leave = leaves c; join = (c.number, c.o) ∷ []; kids = c.kids }

-- the edit
abbrev pub edit : Addition → Edit
edit c = record {
  out = [];
  into = map (λ (d : Listing). (c.number, d)) c.into;
  amended = amended c ∷ [];
  same = c.rest;
  gone = leaves c;
  come = (c.number, c.o) ∷ [];
  moving = [];
  turn = λ p. p;
  top_leave = [];
  top_join = [];
}

-- the listing of an empty directory
pub record ListsEmpty (layout : Layout) (d : Listing) (o : Object) : Type 0 where
  pub object : d.object ≡ o
  pub directory : is_directory_object o ≡ true
  pub none : d.children ≡ []
  pub says_none : entries_of d.content ≡ []
  pub can : CanSay layout o d.content

-- A file comes without a listing, and a directory with its own.
abbrev pub ComesAlone : Layout → List Listing → Object → Type 0
ComesAlone layout [] o = is_directory_object o ≡ false
ComesAlone layout (d ∷ []) o = ListsEmpty layout d o
ComesAlone layout (d ∷ e ∷ into) o = ⊥

-- the nodes after a file has come in the place of another
abbrev pub nodes_over : Addition → Nodes → Nodes
nodes_over c nodes = tell (amended c ∷ []) (enter ((c.dir, (c.number, c.o)) ∷ []) nodes)

-- a file in the place of another, whose node it gets
pub record Replaces (nodes : Nodes) (number : ℕ) (p o : Object) : Type 0 where
  pub number_is : number_of nodes p.path ≡ Some number
  pub was_file : is_directory_object p ≡ false
  pub file : is_directory_object o ≡ false

-- What comes gets a new node, or that of what it replaces.
abbrev pub GetsNode : Nodes → ℕ → List Object → Object → Type 0
GetsNode nodes number [] o = get nodes number ≡ None
GetsNode nodes number (p ∷ []) o = Replaces nodes number p o
GetsNode nodes number (p ∷ q ∷ over) o = ⊥

-- The object comes to its directory. What this says of it may need another length, which growth gives it.
pub record Comes (nodes : Nodes) (layout : Layout) (listings : List Listing) (c : Addition) : Type 0 where
  pub found : IsPermutation listings (c.l ∷ c.rest)
  pub had : IsPermutation c.l.children (c.over ++ c.kids)
  pub holds : IsPermutation c.children (c.o ∷ c.kids)
  pub stored : map (λ (p : Object). p.entry) c.children ≡ entries_of c.content
  pub apart : first_twin (entries_of c.content) ≡ None
  pub path : c.o.path ≡ c.l.object.path ++ c.o.entry.name ∷ []
  pub dir_is : number_of nodes c.l.object.path ≡ Some c.dir
  pub node : GetsNode nodes c.number c.over c.o
  pub alone : ComesAlone layout c.into c.o

pub record IsAddition (nodes : Nodes) (layout : Layout) (listings : List Listing) (c : Addition) : Type 0 where
  pub found : IsPermutation listings (c.l ∷ c.rest)
  pub had : IsPermutation c.l.children (c.over ++ c.kids)
  pub holds : IsPermutation c.children (c.o ∷ c.kids)
  pub stored : map (λ (p : Object). p.entry) c.children ≡ entries_of c.content
  pub path : c.o.path ≡ c.l.object.path ++ c.o.entry.name ∷ []
  pub dir_is : number_of nodes c.l.object.path ≡ Some c.dir
  pub node : GetsNode nodes c.number c.over c.o
  pub alone : ComesAlone layout c.into c.o
  pub can : CanSay layout c.l.object c.content

-- ---- its place

-- the owners of what goes
abbrev pub owners_before : Layout → Addition → List Owner
owners_before layout c = flat_map (λ (p : Object). owners_with layout c.dir c.number p) c.over

-- ---- with its parts

-- An addition to parts with a new map, and the parts after it. `stay` are the objects that don't go; the identifiers `gone` go back.
pub record NewAddition : Type 0 where
  pub kind : Kind
  pub m : Map
  pub m' : Map
  pub nodes : Nodes
  pub nodes' : Nodes
  pub owners : List Owner
  pub owners' : List Owner
  pub root : Node
  pub listings : List Listing
  pub c : Addition
  pub id : ℕ
  pub parts : List ZoneRun
  pub gone : List ℕ
  pub stay : List Object
  pub near : Path
  pub agreed : NewAgreeOn kind m nodes owners root listings
  pub addition : IsAddition nodes (Layout.New m) listings c
  pub nodes_edited : AreEdited nodes nodes' (edit c)
  pub owners_edited : OwnersEdited owners owners' (owners_before (Layout.New m) c) (owners_with (Layout.New m') c.dir c.number c.o)
  pub is_map : IsNewMap m'
  pub geometry : m'.geometry ≡ m.geometry
  pub space : IsSpaceEdit m m' id parts gone
  pub others : IsPermutation (objects_of listings) (c.over ++ stay)
  pub gives : GivesBack m gone (objects_of listings) (c.o ∷ stay)
  pub at : IsAt (Layout.New m') c.o
  pub place : IsPlaced m (objects_of listings) near (object_size (dir_form (Layout.New m')) c.o.entry) id parts c.o

-- the object that goes
abbrev pub over_it : Addition → Option Object
over_it c = first_of c.over
  where
    first_of : List Object → Option Object
    first_of [] = None
    first_of (p ∷ over) = Some p

-- the holes of an old map: first the object takes its space, and then what goes gives its own
abbrev pub holes_with_it : OldMapContent → Addition → List Hole
holes_with_it space c = with_space_of space (over_it c) (holes_without (old_need space (object_size (dir_form (Layout.Old space)) c.o.entry)) space.holes)

-- An addition to parts with an old map, and the parts after it. The map has no more holes than it can have.
pub record OldAddition : Type 0 where
  pub kind : Kind
  pub space : OldMapContent
  pub nodes : Nodes
  pub nodes' : Nodes
  pub owners : List Owner
  pub owners' : List Owner
  pub root : Node
  pub listings : List Listing
  pub c : Addition
  pub agreed : AgreeOn kind space nodes owners root listings
  pub addition : IsAddition nodes (Layout.Old space) listings c
  pub nodes_edited : AreEdited nodes nodes' (edit c)
  pub owners_edited : OwnersEdited owners owners' (owners_before (Layout.Old space) c) (owners_with (Layout.Old space) c.dir c.number c.o)
  pub few : length (holes_with_it space c) ≤ hole_limit
  pub at : IsAt (Layout.Old space) c.o
  pub place : IsOldFileAt space (object_size (dir_form (Layout.Old space)) c.o.entry) c.o

-- ---- the law

pub record AdditionLaw : Type 0 where
  -- It is an edit; these are the nodes after it, if nothing goes, and the owners, and what the directories say can be said.
  pub is_edit : (nodes : Nodes) (layout : Layout) (listings : List Listing) (c : Addition) → IsHeld nodes layout listings → IsAddition nodes layout listings c → IsEdit nodes listings (edit c)
  pub nodes : (nodes : Nodes) (layout : Layout) (listings : List Listing) (c : Addition) → IsHeld nodes layout listings → IsAddition nodes layout listings c → c.over ≡ []
      → AreEdited nodes (nodes_after (edit c) nodes) (edit c)
  -- So they are if a file goes, whose node the new one gets.
  pub nodes_over_it : (nodes : Nodes) (layout : Layout) (listings : List Listing) (c : Addition) (p : Object) → IsHeld nodes layout listings → IsAddition nodes layout listings c → c.over ≡ p ∷ []
      → AreEdited nodes (nodes_over c nodes) (edit c)
  pub owners : (layout layout' : Layout) (owners owners' : List Owner) (c : Addition) → OwnersEdited owners owners' (owners_before layout c) (owners_with layout' c.dir c.number c.o)
      → OwnersEdited owners owners' (owners_left layout (edit c)) (owners_joined layout' (edit c))
  pub can : (nodes : Nodes) (layout : Layout) (listings : List Listing) (c : Addition) → IsAddition nodes layout listings c → CanSayAll layout listings (edit c)
  -- What is taken for an unused identifier is a change of the map's space.
  pub change : (m m' : Map) (id : ℕ) (parts : List ZoneRun) (gone : List ℕ) → 1 ≤ m.geometry.zones → IsSpaceEdit m m' id parts gone → (0 < length parts → is_used m id ≡ false)
      → IsSpaceChange m m' (takings_of id parts) gone
  -- If nothing goes, no identifier does.
  pub none_goes : (m : Map) (o : Object) (objects : List Object) → GivesBack m [] objects (o ∷ objects)
  -- It has its places.
  pub new_places : (x : NewAddition) → NewPlaces x.kind x.m x.m' x.nodes x.listings (edit x.c) (takings_of x.id x.parts) x.gone
  pub old_places : (x : OldAddition) → OldPlaces x.space (holes_with_it x.space x.c) (edit x.c)
  -- The parts after it agree.
  pub new : (x : NewAddition) → AgreeNow x.kind x.m' x.nodes' x.owners' (listings_after (edit x.c))
  pub old : (x : OldAddition) → OldAgreeNow x.kind (holding x.space (holes_with_it x.space x.c)) x.nodes' x.owners' (listings_after (edit x.c))
