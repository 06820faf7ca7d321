-- `delete` as an edit: a file or an empty directory goes.
use Rattle.std.specs.Prelude.{◌≡◌, ◌≤◌, ℕ, List, [], ◌∷◌, ◌++◌, length, map, remove, Some, IsPermutation}
use Rattle.std.specs.FinMap.{remove as take}
use Rattle.fc_names.specs.Names.{Path}
use Rattle.fc_record.specs.declared.Kind.{Kind}
use Rattle.fc_oldmap.specs.declared.Hole.{Hole}
use Rattle.fc_oldmap.specs.Holes.{hole_limit}
use Rattle.fc_oldmap.specs.OldMap.{OldMapContent}
use Rattle.fc_newmap.specs.Map.{Map}
use Rattle.fc_newmap.specs.NewMap.{IsNewMap}
use Rattle.fc_dirs.specs.Directory.{Directory, entries_of}
use Rattle.fc_alloc.specs.declared.owner.Owner.{Owner}
use Rattle.fc_image.specs.Layout.{Layout}
use Rattle.fc_image.specs.Walk.{Listing, Object}
use Rattle.fc_image.specs.effects.Short.{with_space_of}
use Rattle.fc_tree.specs.declared.node.Node.{Node}
use Rattle.fc_tree.specs.Nodes.{body_in, number_of}
use Rattle.fc_refusals.specs.declared.target.Target.{Target}
use Rattle.fc_refusals.specs.Targets.{IsRemovable}
use Rattle.fc_changes.specs.Owed.{GoesAlone}
use Rattle.fc_changes.specs.old.Owed.{holding}
use Rattle.fc_laws.specs.nodes.Edits.{Nodes, OwnersEdited, owners_with, with_body}
use Rattle.fc_laws.specs.nodes.Laws.{IsHeld}
use Rattle.fc_laws.specs.agree.Agreed.{AgreeOn as NewAgreeOn, CanSay}
use Rattle.fc_laws.specs.old.agree.Laws.{AgreeOn}
use Rattle.fc_edits.specs.Edit.{Amended, AreEdited, Edit, IsEdit, listings_after, owners_joined, owners_left}
use Rattle.fc_edits.specs.NewPlaces.{GivesBack, IsSpaceChange, NewPlaces}
use Rattle.fc_edits.specs.OldPlaces.{OldPlaces}
use Rattle.fc_edits.specs.PartsEdit.{OldAgreeNow}
use Rattle.fc_edits.specs.Places.{AgreeNow, CanSayAll}

-- Object o of node `number` goes from directory l of node `dir`, which keeps `kids`. An empty directory's own listing is `out`.
pub record Deletion : Type 0 where
  pub out : List Listing
  pub rest : List Listing
  pub l : Listing
  pub content : Directory
  pub kids : List Object
  pub o : Object
  pub dir : ℕ
  pub number : ℕ

-- its directory
abbrev pub amended : Deletion → Amended
amended c = record { was = c.l; number = c.dir; content = c.content; children = c.kids; leave = (c.number, c.o) ∷ []; join = []; kids = c.kids }

-- the edit
abbrev pub edit : Deletion → Edit
edit c = record {
  out = c.out;
  into = [];
  amended = amended c ∷ [];
  same = c.rest;
  gone = (c.number, c.o) ∷ [];
  come = [];
  moving = [];
  turn = λ p. p;
  top_leave = [];
  top_join = [];
}

-- the nodes after it
abbrev pub nodes_without : Deletion → Nodes → Nodes
nodes_without c nodes = take (with_body c.dir (body_in c.content) nodes) c.number

pub record IsDeletion (nodes : Nodes) (layout : Layout) (listings : List Listing) (c : Deletion) : Type 0 where
  pub found : IsPermutation listings (c.out ++ c.l ∷ c.rest)
  pub holds : IsPermutation c.l.children (c.o ∷ c.kids)
  pub dir_is : number_of nodes c.l.object.path ≡ Some c.dir
  pub number_is : number_of nodes c.o.path ≡ Some c.number
  pub alone : GoesAlone c.out c.o
  pub stored : map (λ (p : Object). p.entry) c.kids ≡ entries_of c.content
  pub can : CanSay layout c.l.object c.content

-- a deletion of the object that a target names, whose directory says `content` afterwards
pub record DeletesTarget (nodes : Nodes) (layout : Layout) (listings : List Listing) (path : Path) (t : Target) (content : Directory) : Type 0 where
  pub removable : IsRemovable nodes listings path t
  pub entries : entries_of content ≡ remove (entries_of removable.target.listing.content) t.at
  pub can : CanSay layout removable.target.listing.object content

-- ---- with its parts

-- A deletion of parts with a new map, and the parts after it. Nothing is taken, and the identifiers `gone` go back.
pub record NewDeletion : Type 0 where
  pub kind : Kind
  pub m : Map
  pub m' : Map
  pub nodes : Nodes
  pub nodes' : Nodes
  pub owners : List Owner
  pub owners' : List Owner
  pub root : Node
  pub listings : List Listing
  pub c : Deletion
  pub gone : List ℕ
  pub agreed : NewAgreeOn kind m nodes owners root listings
  pub deletion : IsDeletion nodes (Layout.New m) listings c
  pub nodes_edited : AreEdited nodes nodes' (edit c)
  pub owners_edited : OwnersEdited owners owners' (owners_with (Layout.New m) c.dir c.number c.o) []
  pub is_map : IsNewMap m'
  pub geometry : m'.geometry ≡ m.geometry
  pub space : IsSpaceChange m m' [] gone
  pub gives : GivesBack m [] gone listings (edit c)

-- the holes of an old map with the space of the object
abbrev pub holes_with_it : OldMapContent → Deletion → List Hole
holes_with_it space c = with_space_of space (Some c.o) space.holes

-- A deletion of parts with an old map, and the parts after it. The map has no more holes than it can have.
pub record OldDeletion : Type 0 where
  pub kind : Kind
  pub space : OldMapContent
  pub nodes : Nodes
  pub nodes' : Nodes
  pub owners : List Owner
  pub owners' : List Owner
  pub root : Node
  pub listings : List Listing
  pub c : Deletion
  pub agreed : AgreeOn kind space nodes owners root listings
  pub deletion : IsDeletion nodes (Layout.Old space) listings c
  pub nodes_edited : AreEdited nodes nodes' (edit c)
  pub owners_edited : OwnersEdited owners owners' (owners_with (Layout.Old space) c.dir c.number c.o) []
  pub few : length (holes_with_it space c) ≤ hole_limit

-- ---- the law

pub record DeletionLaw : Type 0 where
  -- There is such a deletion.
  pub target : (nodes : Nodes) (layout : Layout) (listings : List Listing) (path : Path) (t : Target) (content : Directory) → IsHeld nodes layout listings
      → (d : DeletesTarget nodes layout listings path t content)
      → (c : Deletion) × IsDeletion nodes layout listings c × (c.l ≡ d.removable.target.listing) × (c.o ≡ d.removable.target.object) × (c.content ≡ content) × (c.dir ≡ t.holder) × (c.number ≡ t.node)
  -- It is an edit; these are the nodes and the owners after it, and what the directories say can be said.
  pub is_edit : (nodes : Nodes) (layout : Layout) (listings : List Listing) (c : Deletion) → IsHeld nodes layout listings → IsDeletion nodes layout listings c → IsEdit nodes listings (edit c)
  pub nodes : (nodes : Nodes) (layout : Layout) (listings : List Listing) (c : Deletion) → IsHeld nodes layout listings → IsDeletion nodes layout listings c
      → AreEdited nodes (nodes_without c nodes) (edit c)
  pub owners : (layout layout' : Layout) (owners owners' : List Owner) (c : Deletion) → OwnersEdited owners owners' (owners_with layout c.dir c.number c.o) []
      → OwnersEdited owners owners' (owners_left layout (edit c)) (owners_joined layout' (edit c))
  pub can : (nodes : Nodes) (layout : Layout) (listings : List Listing) (c : Deletion) → IsDeletion nodes layout listings c → CanSayAll layout listings (edit c)
  -- It has its places on a new map on which nothing is taken, and on an old map with the object's space in the holes.
  pub new_places : (kind : Kind) (m m' : Map) (nodes : Nodes) (listings : List Listing) (c : Deletion) (gone : List ℕ) → IsNewMap m' → m'.geometry ≡ m.geometry → IsSpaceChange m m' [] gone
      → GivesBack m [] gone listings (edit c) → NewPlaces kind m m' nodes listings (edit c) [] gone
  pub old_places : (kind : Kind) (space : OldMapContent) (nodes : Nodes) (owners : List Owner) (root : Node) (listings : List Listing) (c : Deletion) → AgreeOn kind space nodes owners root listings
      → IsDeletion nodes (Layout.Old space) listings c → OldPlaces space (holes_with_it space c) (edit c)
  -- The parts after it agree.
  pub new : (x : NewDeletion) → AgreeNow x.kind x.m' x.nodes' x.owners' (listings_after (edit x.c))
  pub old : (x : OldDeletion) → OldAgreeNow x.kind (holding x.space (holes_with_it x.space x.c)) x.nodes' x.owners' (listings_after (edit x.c))
