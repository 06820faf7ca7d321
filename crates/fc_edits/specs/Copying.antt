-- `rename` that copies its file as an edit: it goes to another directory and to another place.
use Rattle.std.specs.Prelude.{◌≡◌, ℕ, false, List, [], ◌∷◌, ◌++◌, map, None, Some, IsPermutation, if◌then◌else◌}
use Rattle.fc_names.specs.Names.{Path, is_same_path}
use Rattle.fc_record.specs.declared.Kind.{Kind}
use Rattle.fc_newmap.specs.Map.{Map, ZoneRun}
use Rattle.fc_newmap.specs.NewMap.{IsNewMap}
use Rattle.fc_dirs.specs.Directory.{Directory, entries_of}
use Rattle.fc_dirs.specs.Entries.{first_twin}
use Rattle.fc_alloc.specs.declared.owner.Owner.{Owner}
use Rattle.fc_image.specs.Layout.{Layout, dir_form}
use Rattle.fc_image.specs.Walk.{Listing, Object, is_directory_object, object_size}
use Rattle.fc_image.specs.Objects.{objects_of}
use Rattle.fc_image.specs.Edits.{IsAt}
use Rattle.fc_tree.specs.declared.node.Node.{Node}
use Rattle.fc_tree.specs.Nodes.{number_of}
use Rattle.fc_changes.specs.Owed.{GivesBack, IsSpaceEdit}
use Rattle.fc_laws.specs.nodes.Edits.{Nodes, OwnersEdited, owners_with}
use Rattle.fc_laws.specs.nodes.Laws.{IsHeld}
use Rattle.fc_laws.specs.agree.Agreed.{AgreeOn, CanSay}
use Rattle.fc_edits.specs.Edit.{Amended, AreEdited, Edit, IsEdit, listings_after, owners_joined, owners_left}
use Rattle.fc_edits.specs.NewNodes.{nodes_after}
use Rattle.fc_edits.specs.NewPlaces.{NewPlaces}
use Rattle.fc_edits.specs.Places.{AgreeNow, CanSayAll}
use Rattle.fc_edits.specs.Placing.{IsPlaced, takings_of}

-- File o, of node `number`, goes from directory k, of node `home`, which keeps `kids`, to directory l, of node `dir`, under a new name, and to
-- these sectors, with this address.
pub record Copying : Type 0 where
  pub k : Listing
  pub home : ℕ
  pub k_content : Directory
  pub k_children : List Object
  pub kids : List Object
  pub l : Listing
  pub dir : ℕ
  pub l_content : Directory
  pub l_children : List Object
  pub rest : List Listing
  pub o : Object
  pub number : ℕ
  pub name : List ℕ
  pub address : ℕ
  pub sectors : List ℕ

-- its new path
abbrev pub new_path : Copying → Path
new_path c = c.l.object.path ++ c.name ∷ []

-- the file becomes its copy
abbrev pub copied : Copying → Object → Object
copied c p = if is_same_path c.o.path p.path then record { path = new_path c; entry = record p.entry { name = c.name; address = c.address }; sectors = c.sectors } else p

abbrev pub from_it : Copying → Amended
from_it c = record { was = c.k; number = c.home; content = c.k_content; children = c.k_children; leave = (c.number, c.o) ∷ []; join = []; kids = c.kids }

abbrev pub to_it : Copying → Amended
to_it c = record { was = c.l; number = c.dir; content = c.l_content; children = c.l_children; leave = []; join = (c.number, copied c c.o) ∷ []; kids = c.l.children }

-- the edit
abbrev pub edit : Copying → Edit
edit c = record {
  out = [];
  into = [];
  amended = from_it c ∷ (to_it c ∷ []);
  same = c.rest;
  gone = [];
  come = [];
  moving = (c.number, c.o) ∷ [];
  turn = copied c;
  top_leave = [];
  top_join = [];
}

-- The file becomes its copy. What a directory says then may need another length, which growth gives it.
pub record Copies (nodes : Nodes) (listings : List Listing) (c : Copying) : Type 0 where
  pub found : IsPermutation listings (c.k ∷ (c.l ∷ c.rest))
  pub home_is : number_of nodes c.k.object.path ≡ Some c.home
  pub dir_is : number_of nodes c.l.object.path ≡ Some c.dir
  pub number_is : number_of nodes c.o.path ≡ Some c.number
  pub file : is_directory_object c.o ≡ false
  pub k_holds : IsPermutation c.k.children (c.o ∷ c.kids)
  pub k_children : IsPermutation c.k_children (map (copied c) c.kids)
  pub k_entries : map (λ (p : Object). p.entry) c.k_children ≡ entries_of c.k_content
  pub k_apart : first_twin (entries_of c.k_content) ≡ None
  pub l_children : IsPermutation c.l_children (copied c c.o ∷ map (copied c) c.l.children)
  pub l_entries : map (λ (p : Object). p.entry) c.l_children ≡ entries_of c.l_content
  pub l_apart : first_twin (entries_of c.l_content) ≡ None

pub record IsCopying (nodes : Nodes) (layout : Layout) (listings : List Listing) (c : Copying) : Type 0 where
  pub found : IsPermutation listings (c.k ∷ (c.l ∷ c.rest))
  pub home_is : number_of nodes c.k.object.path ≡ Some c.home
  pub dir_is : number_of nodes c.l.object.path ≡ Some c.dir
  pub number_is : number_of nodes c.o.path ≡ Some c.number
  pub file : is_directory_object c.o ≡ false
  pub k_holds : IsPermutation c.k.children (c.o ∷ c.kids)
  pub k_children : IsPermutation c.k_children (map (copied c) c.kids)
  pub k_entries : map (λ (p : Object). p.entry) c.k_children ≡ entries_of c.k_content
  pub l_children : IsPermutation c.l_children (copied c c.o ∷ map (copied c) c.l.children)
  pub l_entries : map (λ (p : Object). p.entry) c.l_children ≡ entries_of c.l_content
  pub k_can : CanSay layout c.k.object c.k_content
  pub l_can : CanSay layout c.l.object c.l_content

-- ---- with its parts

-- Parts with a new map, and the parts after it. `stay` are the other objects; the identifiers `gone` go back.
pub record NewCopying : Type 0 where
  pub kind : Kind
  pub m : Map
  pub m' : Map
  pub nodes : Nodes
  pub nodes' : Nodes
  pub owners : List Owner
  pub owners' : List Owner
  pub root : Node
  pub listings : List Listing
  pub c : Copying
  pub id : ℕ
  pub parts : List ZoneRun
  pub gone : List ℕ
  pub stay : List Object
  pub near : Path
  pub agreed : AgreeOn kind m nodes owners root listings
  pub copying : IsCopying nodes (Layout.New m) listings c
  pub nodes_edited : AreEdited nodes nodes' (edit c)
  pub owners_edited : OwnersEdited owners owners' (owners_with (Layout.New m) c.home c.number c.o) (owners_with (Layout.New m') c.dir c.number (copied c c.o))
  pub is_map : IsNewMap m'
  pub geometry : m'.geometry ≡ m.geometry
  pub space : IsSpaceEdit m m' id parts gone
  pub others : IsPermutation (objects_of listings) (c.o ∷ stay)
  pub gives : GivesBack m gone (objects_of listings) (copied c c.o ∷ stay)
  pub at : IsAt (Layout.New m') (copied c c.o)
  pub place : IsPlaced m (objects_of listings) near (object_size (dir_form (Layout.New m')) (copied c c.o).entry) id parts (copied c c.o)

-- ---- the law

pub record CopyingLaw : Type 0 where
  -- It is an edit, these are the nodes after it, and the owners, and what the directories say can be said.
  pub is_edit : (nodes : Nodes) (layout : Layout) (listings : List Listing) (c : Copying) → IsHeld nodes layout listings → IsCopying nodes layout listings c → IsEdit nodes listings (edit c)
  pub nodes : (nodes : Nodes) (layout : Layout) (listings : List Listing) (c : Copying) → IsHeld nodes layout listings → IsCopying nodes layout listings c
      → AreEdited nodes (nodes_after (edit c) nodes) (edit c)
  pub owners : (layout layout' : Layout) (owners owners' : List Owner) (c : Copying)
      → OwnersEdited owners owners' (owners_with layout c.home c.number c.o) (owners_with layout' c.dir c.number (copied c c.o))
      → OwnersEdited owners owners' (owners_left layout (edit c)) (owners_joined layout' (edit c))
  pub can : (nodes : Nodes) (layout : Layout) (listings : List Listing) (c : Copying) → IsHeld nodes layout listings → IsCopying nodes layout listings c → CanSayAll layout listings (edit c)
  -- It has its place, and the parts after it agree.
  pub new_places : (x : NewCopying) → NewPlaces x.kind x.m x.m' x.nodes x.listings (edit x.c) (takings_of x.id x.parts) x.gone
  pub new : (x : NewCopying) → AgreeNow x.kind x.m' x.nodes' x.owners' (listings_after (edit x.c))
