-- `rename` to another directory, and within one, as an object that moves.
use Rattle.std.specs.Prelude.{◌≡◌, ℕ, false, List, [], ◌∷◌, ◌++◌, map, Contains, None, Some, IsPermutation}
use Rattle.fc_names.specs.Names.{folded_path}
use Rattle.fc_model.specs.Tree.{is_prefix}
use Rattle.fc_dirs.specs.Directory.{Directory, entries_of}
use Rattle.fc_dirs.specs.Entries.{first_twin}
use Rattle.fc_alloc.specs.declared.owner.Owner.{Owner}
use Rattle.fc_image.specs.Layout.{Layout}
use Rattle.fc_image.specs.Walk.{Listing, Object}
use Rattle.fc_image.specs.Objects.{objects_of}
use Rattle.fc_image.specs.EditedWalk.{moved_object}
use Rattle.fc_tree.specs.Nodes.{number_of}
use Rattle.fc_tree.specs.Parts.{AreOwners}
use Rattle.fc_laws.specs.nodes.Edits.{Nodes, OwnersEdited, owners_with}
use Rattle.fc_laws.specs.nodes.Laws.{IsHeld}
use Rattle.fc_laws.specs.agree.Agreed.{CanSay}
use Rattle.fc_edits.specs.Edit.{Amended, owners_joined, owners_left}
use Rattle.fc_edits.specs.Moving.{IsMoving, Moves, Moving, edit, moved}

-- ---- to another directory

-- Object o, of node `number`, goes from directory k, of node `home`, which keeps `kids`, to directory l, of node `dir`, under a new name.
-- `own` is o's listing, if it is a directory, with what it says now.
pub record Transfer : Type 0 where
  pub k : Listing
  pub home : ℕ
  pub k_content : Directory
  pub k_children : List Object
  pub kids : List Object
  pub l : Listing
  pub dir : ℕ
  pub l_content : Directory
  pub l_children : List Object
  pub own : List (Listing × Directory)
  pub rest : List Listing
  pub o : Object
  pub number : ℕ
  pub name : List ℕ

abbrev pub from_it : Transfer → Amended
from_it c = record { was = c.k; number = c.home; content = c.k_content; children = c.k_children; leave = (c.number, c.o) ∷ []; join = []; kids = c.kids }

abbrev pub to_it : Transfer → Amended
to_it c = record {
  was = c.l;
  number = c.dir;
  content = c.l_content;
  children = c.l_children;
  leave = [];
  join = (c.number, moved_object c.o.path (c.l.object.path ++ c.name ∷ []) c.o) ∷ [];
  kids = c.l.children;
}

abbrev pub transfer_of : Transfer → Moving
transfer_of c = record { dirs = from_it c ∷ (to_it c ∷ []); l = c.l; own = c.own; rest = c.rest; o = c.o; number = c.number; name = c.name }

-- What a directory says then may need another length, which growth gives it.
pub record Transfers (nodes : Nodes) (listings : List Listing) (c : Transfer) : Type 0 where
  pub found : IsPermutation listings (c.k ∷ (c.l ∷ (map (λ (d : Listing × Directory). d.0) c.own ++ c.rest)))
  pub home_is : number_of nodes c.k.object.path ≡ Some c.home
  pub dir_is : number_of nodes c.l.object.path ≡ Some c.dir
  pub number_is : number_of nodes c.o.path ≡ Some c.number
  pub not_into : is_prefix (folded_path c.o.path) (folded_path c.l.object.path) ≡ false
  pub k_holds : IsPermutation c.k.children (c.o ∷ c.kids)
  pub k_children : IsPermutation c.k_children (map (moved (transfer_of c)) c.kids)
  pub k_entries : map (λ (p : Object). p.entry) c.k_children ≡ entries_of c.k_content
  pub k_apart : first_twin (entries_of c.k_content) ≡ None
  pub l_children : IsPermutation c.l_children (moved (transfer_of c) c.o ∷ map (moved (transfer_of c)) c.l.children)
  pub l_entries : map (λ (p : Object). p.entry) c.l_children ≡ entries_of c.l_content
  pub l_apart : first_twin (entries_of c.l_content) ≡ None
  pub own_is : (d : Listing × Directory) → Contains c.own d → (d.0.object ≡ c.o) × (entries_of d.1 ≡ entries_of d.0.content)
  pub others : (k : Listing) → Contains c.rest k → k.object ≡ c.o → ⊥

pub record IsTransfer (nodes : Nodes) (layout : Layout) (listings : List Listing) (c : Transfer) : Type 0 where
  pub found : IsPermutation listings (c.k ∷ (c.l ∷ (map (λ (d : Listing × Directory). d.0) c.own ++ c.rest)))
  pub home_is : number_of nodes c.k.object.path ≡ Some c.home
  pub dir_is : number_of nodes c.l.object.path ≡ Some c.dir
  pub number_is : number_of nodes c.o.path ≡ Some c.number
  pub not_into : is_prefix (folded_path c.o.path) (folded_path c.l.object.path) ≡ false
  pub k_holds : IsPermutation c.k.children (c.o ∷ c.kids)
  pub k_children : IsPermutation c.k_children (map (moved (transfer_of c)) c.kids)
  pub k_entries : map (λ (p : Object). p.entry) c.k_children ≡ entries_of c.k_content
  pub l_children : IsPermutation c.l_children (moved (transfer_of c) c.o ∷ map (moved (transfer_of c)) c.l.children)
  pub l_entries : map (λ (p : Object). p.entry) c.l_children ≡ entries_of c.l_content
  pub own_is : (d : Listing × Directory) → Contains c.own d → (d.0.object ≡ c.o) × (entries_of d.1 ≡ entries_of d.0.content)
  pub others : (k : Listing) → Contains c.rest k → k.object ≡ c.o → ⊥
  pub says : (a : Amended) → Contains (edit (transfer_of c)).amended a → CanSay layout (moved (transfer_of c) a.was.object) a.content

-- ---- within one

-- Object o, of node `number`, gets another name in directory l, of node `dir`, which keeps `kids`.
pub record Renaming : Type 0 where
  pub l : Listing
  pub dir : ℕ
  pub content : Directory
  pub children : List Object
  pub kids : List Object
  pub own : List (Listing × Directory)
  pub rest : List Listing
  pub o : Object
  pub number : ℕ
  pub name : List ℕ

abbrev pub within : Renaming → Amended
within c = record {
  was = c.l;
  number = c.dir;
  content = c.content;
  children = c.children;
  leave = (c.number, c.o) ∷ [];
  join = (c.number, moved_object c.o.path (c.l.object.path ++ c.name ∷ []) c.o) ∷ [];
  kids = c.kids;
}

abbrev pub renaming_of : Renaming → Moving
renaming_of c = record { dirs = within c ∷ []; l = c.l; own = c.own; rest = c.rest; o = c.o; number = c.number; name = c.name }

pub record Renames (nodes : Nodes) (listings : List Listing) (c : Renaming) : Type 0 where
  pub found : IsPermutation listings (c.l ∷ (map (λ (d : Listing × Directory). d.0) c.own ++ c.rest))
  pub dir_is : number_of nodes c.l.object.path ≡ Some c.dir
  pub number_is : number_of nodes c.o.path ≡ Some c.number
  pub holds : IsPermutation c.l.children (c.o ∷ c.kids)
  pub holds_now : IsPermutation c.children (moved (renaming_of c) c.o ∷ map (moved (renaming_of c)) c.kids)
  pub stored : map (λ (p : Object). p.entry) c.children ≡ entries_of c.content
  pub apart : first_twin (entries_of c.content) ≡ None
  pub own_is : (d : Listing × Directory) → Contains c.own d → (d.0.object ≡ c.o) × (entries_of d.1 ≡ entries_of d.0.content)
  pub others : (k : Listing) → Contains c.rest k → k.object ≡ c.o → ⊥

pub record IsRenaming (nodes : Nodes) (layout : Layout) (listings : List Listing) (c : Renaming) : Type 0 where
  pub found : IsPermutation listings (c.l ∷ (map (λ (d : Listing × Directory). d.0) c.own ++ c.rest))
  pub dir_is : number_of nodes c.l.object.path ≡ Some c.dir
  pub number_is : number_of nodes c.o.path ≡ Some c.number
  pub holds : IsPermutation c.l.children (c.o ∷ c.kids)
  pub holds_now : IsPermutation c.children (moved (renaming_of c) c.o ∷ map (moved (renaming_of c)) c.kids)
  pub stored : map (λ (p : Object). p.entry) c.children ≡ entries_of c.content
  pub own_is : (d : Listing × Directory) → Contains c.own d → (d.0.object ≡ c.o) × (entries_of d.1 ≡ entries_of d.0.content)
  pub others : (k : Listing) → Contains c.rest k → k.object ≡ c.o → ⊥
  pub says : (a : Amended) → Contains (edit (renaming_of c)).amended a → CanSay layout (moved (renaming_of c) a.was.object) a.content

-- ---- the law

pub record RenameLaw : Type 0 where
  -- Both are an object that moves.
  pub across : (nodes : Nodes) (layout : Layout) (listings : List Listing) (c : Transfer) → IsHeld nodes layout listings → IsTransfer nodes layout listings c → IsMoving nodes layout listings (transfer_of c)
  pub within_one : (nodes : Nodes) (layout : Layout) (listings : List Listing) (c : Renaming) → IsHeld nodes layout listings → IsRenaming nodes layout listings c
      → IsMoving nodes layout listings (renaming_of c)
  -- So they are if growth gives a directory its length.
  pub across_any : (nodes : Nodes) (layout : Layout) (listings : List Listing) (c : Transfer) → IsHeld nodes layout listings → Transfers nodes listings c → Moves nodes listings (transfer_of c)
  pub within_any : (nodes : Nodes) (layout : Layout) (listings : List Listing) (c : Renaming) → IsHeld nodes layout listings → Renames nodes listings c → Moves nodes listings (renaming_of c)
  -- What moves is owned by another directory, or its owners stay.
  pub owners_across : (layout : Layout) (owners owners' : List Owner) (c : Transfer) → OwnersEdited owners owners' (owners_with layout c.home c.number c.o) (owners_with layout c.dir c.number c.o)
      → OwnersEdited owners owners' (owners_left layout (edit (transfer_of c))) (owners_joined layout (edit (transfer_of c)))
  pub owners_within : (nodes : Nodes) (layout : Layout) (listings : List Listing) (owners : List Owner) (c : Renaming) → IsHeld nodes layout listings → IsRenaming nodes layout listings c
      → AreOwners owners nodes layout (objects_of listings) → OwnersEdited owners owners (owners_left layout (edit (renaming_of c))) (owners_joined layout (edit (renaming_of c)))
