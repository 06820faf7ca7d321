-- `set` and `mark` as an edit: an object gets another entry of the same name, address and length.
use Rattle.std.specs.Prelude.{◌≡◌, ℕ, List, [], ◌∷◌, map, Some, IsPermutation}
use Rattle.fc_record.specs.declared.Kind.{Kind}
use Rattle.fc_oldmap.specs.OldMap.{OldMapContent}
use Rattle.fc_newmap.specs.Map.{Map}
use Rattle.fc_dirs.specs.Directory.{Directory, entries_of}
use Rattle.fc_alloc.specs.declared.owner.Owner.{Owner}
use Rattle.fc_image.specs.Layout.{Layout}
use Rattle.fc_image.specs.Rewords.{IsRewording}
use Rattle.fc_image.specs.Walk.{Listing, Object}
use Rattle.fc_tree.specs.declared.node.Node.{Node}
use Rattle.fc_tree.specs.Nodes.{number_of}
use Rattle.fc_laws.specs.nodes.Edits.{Nodes}
use Rattle.fc_laws.specs.nodes.Laws.{IsHeld}
use Rattle.fc_laws.specs.agree.Agreed.{AgreeOn as NewAgreeOn, CanSay}
use Rattle.fc_laws.specs.old.agree.Laws.{AgreeOn}
use Rattle.fc_edits.specs.Edit.{Amended, AreEdited, Edit, IsEdit, listings_after}
use Rattle.fc_edits.specs.PartsEdit.{OldAgreeNow}
use Rattle.fc_edits.specs.Places.{AgreeNow, CanSayAll}

-- Object o of node `number`, which directory l of node `dir` holds beside `kids`, becomes what `turn` says.
pub record Rewording : Type 0 where
  pub rest : List Listing
  pub l : Listing
  pub content : Directory
  pub children : List Object
  pub kids : List Object
  pub o : Object
  pub dir : ℕ
  pub number : ℕ
  pub turn : Object → Object

-- its directory
abbrev pub amended : Rewording → Amended
amended c = record { was = c.l; number = c.dir; content = c.content; children = c.children; leave = (c.number, c.o) ∷ []; join = (c.number, c.turn c.o) ∷ []; kids = c.kids }

-- the edit
abbrev pub edit : Rewording → Edit
edit c = record {
  out = [];
  into = [];
  amended = amended c ∷ [];
  same = c.rest;
  gone = [];
  come = [];
  moving = (c.number, c.o) ∷ [];
  turn = c.turn;
  top_leave = [];
  top_join = [];
}

pub record IsReworded (nodes : Nodes) (layout : Layout) (listings : List Listing) (c : Rewording) : Type 0 where
  pub found : IsPermutation listings (c.l ∷ c.rest)
  pub holds : IsPermutation c.l.children (c.o ∷ c.kids)
  pub holds_now : IsPermutation c.children (c.turn c.o ∷ c.kids)
  pub dir_is : number_of nodes c.l.object.path ≡ Some c.dir
  pub number_is : number_of nodes c.o.path ≡ Some c.number
  pub rewording : IsRewording c.o.path c.turn
  pub stored : map (λ (p : Object). p.entry) c.children ≡ entries_of c.content
  pub can : CanSay layout c.l.object c.content

-- ---- with its parts

-- Parts with a new map, and the parts after it. Map and owners stay.
pub record NewRewording : Type 0 where
  pub kind : Kind
  pub m : Map
  pub nodes : Nodes
  pub nodes' : Nodes
  pub owners : List Owner
  pub root : Node
  pub listings : List Listing
  pub c : Rewording
  pub agreed : NewAgreeOn kind m nodes owners root listings
  pub reworded : IsReworded nodes (Layout.New m) listings c
  pub nodes_edited : AreEdited nodes nodes' (edit c)

-- the same with an old map
pub record OldRewording : Type 0 where
  pub kind : Kind
  pub space : OldMapContent
  pub nodes : Nodes
  pub nodes' : Nodes
  pub owners : List Owner
  pub root : Node
  pub listings : List Listing
  pub c : Rewording
  pub agreed : AgreeOn kind space nodes owners root listings
  pub reworded : IsReworded nodes (Layout.Old space) listings c
  pub nodes_edited : AreEdited nodes nodes' (edit c)

-- ---- the law

pub record RewordingLaw : Type 0 where
  -- It is an edit, and what the directories say can be said.
  pub is_edit : (nodes : Nodes) (layout : Layout) (listings : List Listing) (c : Rewording) → IsHeld nodes layout listings → IsReworded nodes layout listings c → IsEdit nodes listings (edit c)
  pub can : (nodes : Nodes) (layout : Layout) (listings : List Listing) (c : Rewording) → IsReworded nodes layout listings c → CanSayAll layout listings (edit c)
  -- The parts after it agree.
  pub new : (x : NewRewording) → AgreeNow x.kind x.m x.nodes' x.owners (listings_after (edit x.c))
  pub old : (x : OldRewording) → OldAgreeNow x.kind x.space x.nodes' x.owners (listings_after (edit x.c))
