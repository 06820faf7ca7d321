-- `rename` as an edit, if no file is copied: an object moves with all that is below it, to another directory, or to another name in its own.
use Rattle.std.specs.Prelude.{◌≡◌, ◌⊎◌, ℕ, false, List, [], ◌∷◌, ◌++◌, map, Contains, Some, IsPermutation}
use Rattle.std.specs.List.{flat_map}
use Rattle.fc_names.specs.Names.{Path, folded_path}
use Rattle.fc_model.specs.Tree.{is_prefix}
use Rattle.fc_record.specs.declared.Kind.{Kind}
use Rattle.fc_oldmap.specs.OldMap.{OldMapContent}
use Rattle.fc_newmap.specs.Map.{Map}
use Rattle.fc_dirs.specs.Directory.{Directory, entries_of}
use Rattle.fc_alloc.specs.declared.owner.Owner.{Owner}
use Rattle.fc_image.specs.Layout.{Layout}
use Rattle.fc_image.specs.Walk.{Listing, Object}
use Rattle.fc_image.specs.EditedWalk.{moved_object}
use Rattle.fc_tree.specs.declared.node.Node.{Node}
use Rattle.fc_tree.specs.Nodes.{number_of}
use Rattle.fc_laws.specs.nodes.Edits.{Nodes, OwnersEdited}
use Rattle.fc_laws.specs.nodes.Laws.{IsHeld}
use Rattle.fc_laws.specs.agree.Agreed.{AgreeOn as NewAgreeOn, CanSay}
use Rattle.fc_laws.specs.old.agree.Laws.{AgreeOn}
use Rattle.fc_edits.specs.Edit.{Amended, AreEdited, Edit, IsAmended, IsEdit, listings_after, owners_joined, owners_left}
use Rattle.fc_edits.specs.NewNodes.{nodes_after}
use Rattle.fc_edits.specs.PartsEdit.{OldAgreeNow}
use Rattle.fc_edits.specs.Places.{AgreeNow, CanSayAll}

-- Object o, of node `number`, goes to directory l under a new name. `dirs` are the directories that it leaves and joins, or the one in which
-- it stays. `own` is o's listing, if it is a directory, with what it says now.
pub record Moving : Type 0 where
  pub dirs : List Amended
  pub l : Listing
  pub own : List (Listing × Directory)
  pub rest : List Listing
  pub o : Object
  pub number : ℕ
  pub name : List ℕ

-- its new path
abbrev pub new_path : Moving → Path
new_path c = c.l.object.path ++ c.name ∷ []

abbrev pub moved : Moving → Object → Object
moved c = moved_object c.o.path (new_path c)

abbrev pub itself : Moving → Listing × Directory → Amended
itself c d = record { was = d.0; number = c.number; content = d.1; children = map (moved c) d.0.children; leave = []; join = []; kids = d.0.children }

-- the edit
abbrev pub edit : Moving → Edit
edit c = record {
  out = [];
  into = [];
  amended = c.dirs ++ map (itself c) c.own;
  same = c.rest;
  gone = [];
  come = [];
  moving = (c.number, c.o) ∷ [];
  turn = moved c;
  top_leave = [];
  top_join = [];
}

-- The object moves. What a directory says then may need another length, which growth gives it.
pub record Moves (nodes : Nodes) (listings : List Listing) (c : Moving) : Type 0 where
  pub found : IsPermutation listings (map (λ (a : Amended). a.was) c.dirs ++ (map (λ (d : Listing × Directory). d.0) c.own ++ c.rest))
  pub amends : (a : Amended) → Contains c.dirs a → IsAmended nodes (edit c) a
  pub touched : (a : Amended) → Contains c.dirs a → Contains a.was.children c.o ⊎ (a.was ≡ c.l)
  pub there : (a : Amended) × Contains c.dirs a × (a.was ≡ c.l)
  pub leaves : flat_map (λ (a : Amended). a.leave) c.dirs ≡ (c.number, c.o) ∷ []
  pub joins : flat_map (λ (a : Amended). a.join) c.dirs ≡ (c.number, moved c c.o) ∷ []
  pub number_is : number_of nodes c.o.path ≡ Some c.number
  pub not_into : is_prefix (folded_path c.o.path) (folded_path c.l.object.path) ≡ false
  pub own_is : (d : Listing × Directory) → Contains c.own d → (d.0.object ≡ c.o) × (entries_of d.1 ≡ entries_of d.0.content)
  pub others : (k : Listing) → Contains c.rest k → k.object ≡ c.o → ⊥

pub record IsMoving (nodes : Nodes) (layout : Layout) (listings : List Listing) (c : Moving) : Type 0 where
  pub found : IsPermutation listings (map (λ (a : Amended). a.was) c.dirs ++ (map (λ (d : Listing × Directory). d.0) c.own ++ c.rest))
  pub amends : (a : Amended) → Contains c.dirs a → IsAmended nodes (edit c) a
  -- Each of the directories holds it, or is the one that will.
  pub touched : (a : Amended) → Contains c.dirs a → Contains a.was.children c.o ⊎ (a.was ≡ c.l)
  pub there : (a : Amended) × Contains c.dirs a × (a.was ≡ c.l)
  pub leaves : flat_map (λ (a : Amended). a.leave) c.dirs ≡ (c.number, c.o) ∷ []
  pub joins : flat_map (λ (a : Amended). a.join) c.dirs ≡ (c.number, moved c c.o) ∷ []
  pub number_is : number_of nodes c.o.path ≡ Some c.number
  pub not_into : is_prefix (folded_path c.o.path) (folded_path c.l.object.path) ≡ false
  pub own_is : (d : Listing × Directory) → Contains c.own d → (d.0.object ≡ c.o) × (entries_of d.1 ≡ entries_of d.0.content)
  pub others : (k : Listing) → Contains c.rest k → k.object ≡ c.o → ⊥
  pub says : (a : Amended) → Contains (edit c).amended a → CanSay layout (moved c a.was.object) a.content

-- ---- with its parts

-- Parts with a new map, and the parts after it. The map stays.
pub record NewMoving : Type 0 where
  pub kind : Kind
  pub m : Map
  pub nodes : Nodes
  pub nodes' : Nodes
  pub owners : List Owner
  pub owners' : List Owner
  pub root : Node
  pub listings : List Listing
  pub c : Moving
  pub agreed : NewAgreeOn kind m nodes owners root listings
  pub is_moving : IsMoving nodes (Layout.New m) listings c
  pub nodes_edited : AreEdited nodes nodes' (edit c)
  pub owners_edited : OwnersEdited owners owners' (owners_left (Layout.New m) (edit c)) (owners_joined (Layout.New m) (edit c))

-- the same with an old map
pub record OldMoving : Type 0 where
  pub kind : Kind
  pub space : OldMapContent
  pub nodes : Nodes
  pub nodes' : Nodes
  pub owners : List Owner
  pub owners' : List Owner
  pub root : Node
  pub listings : List Listing
  pub c : Moving
  pub agreed : AgreeOn kind space nodes owners root listings
  pub is_moving : IsMoving nodes (Layout.Old space) listings c
  pub nodes_edited : AreEdited nodes nodes' (edit c)
  pub owners_edited : OwnersEdited owners owners' (owners_left (Layout.Old space) (edit c)) (owners_joined (Layout.Old space) (edit c))

-- ---- the law

pub record MovingLaw : Type 0 where
  -- It is an edit, these are the nodes after it, and what the directories say can be said.
  pub is_edit : (nodes : Nodes) (layout : Layout) (listings : List Listing) (c : Moving) → IsHeld nodes layout listings → IsMoving nodes layout listings c → IsEdit nodes listings (edit c)
  pub nodes : (nodes : Nodes) (layout : Layout) (listings : List Listing) (c : Moving) → IsHeld nodes layout listings → IsMoving nodes layout listings c → AreEdited nodes (nodes_after (edit c) nodes) (edit c)
  pub can : (nodes : Nodes) (layout : Layout) (listings : List Listing) (c : Moving) → IsMoving nodes layout listings c → CanSayAll layout listings (edit c)
  -- The parts after it agree.
  pub new : (x : NewMoving) → AgreeNow x.kind x.m x.nodes' x.owners' (listings_after (edit x.c))
  pub old : (x : OldMoving) → OldAgreeNow x.kind x.space x.nodes' x.owners' (listings_after (edit x.c))
