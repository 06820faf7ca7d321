-- A directory that grows, as a part of any edit: it gets another length, and perhaps another place, and the directories around it are told.
use Rattle.std.specs.Prelude.{◌≡◌, ◌≤◌, ℕ, List, [], ◌∷◌, ◌++◌, length, map, Option, Some, None, Contains, IsPermutation, if◌then◌else◌}
use Rattle.fc_names.specs.Names.{is_same_path}
use Rattle.fc_names.specs.declared.name.NameForm.TheVariants as forms
use Rattle.fc_dirs.specs.Directory.{Directory, entries_of}
use Rattle.fc_alloc.specs.declared.owner.Owner.{Owner}
use Rattle.fc_image.specs.Layout.{Layout, dir_form}
use Rattle.fc_image.specs.Walk.{Listing, Object}
use Rattle.fc_image.specs.effects.Steady.{regrown_entry}
use Rattle.fc_tree.specs.Nodes.{number_of}
use Rattle.fc_laws.specs.nodes.Edits.{Nodes, OwnersEdited, owners_with}
use Rattle.fc_laws.specs.nodes.Laws.{IsHeld}
use Rattle.fc_laws.specs.agree.Agreed.{CanSay}
use Rattle.fc_edits.specs.Edit.{Amended, AreEdited, Edit, IsEdit, owners_joined, owners_left}
use Rattle.fc_edits.specs.NewNodes.{HasNumbers, nodes_after}
use Rattle.fc_edits.specs.Places.{CanSayAll}

-- ---- a directory that grows

-- A directory, of the node `number`, that the edit leaves as it is. It is told something, of the same entries: another parent, or, if it holds
-- the grown one, nothing at first.
pub record Told : Type 0 where
  pub was : Listing
  pub number : ℕ
  pub content : Directory

-- The directory that holds the grown one, as it would be without the growth; what it says with it; and what stays in it beside.
pub record Holder : Type 0 where
  pub amended : Amended
  pub content : Directory
  pub kids : List Object

-- Directory o, of the node `dir`, gets this address, length and sectors. Of the directories that the edit leaves as they are `again` are
-- told something, and `same` aren't. One directory holds o, unless it is the root. `others` are the other directories that say something
-- else.
pub record Growing : Type 0 where
  pub o : Object
  pub dir : ℕ
  pub address : ℕ
  pub len : ℕ
  pub sectors : List ℕ
  pub again : List Told
  pub same : List Listing
  pub holder : Option Holder
  pub others : List Amended

-- ---- the edit with it

abbrev pub at_place : Growing → Object → Object
at_place g p = record p { entry = record p.entry { address = g.address; len = g.len }; sectors = g.sectors }

-- the object at the path of o, at its new place
abbrev pub placed_anew : Growing → Object → Object
placed_anew g p = if is_same_path g.o.path p.path then at_place g p else p

-- what an object becomes
abbrev pub regrown : Edit → Growing → Object → Object
regrown e g p = if is_same_path g.o.path p.path then at_place g (e.turn p) else e.turn p

abbrev pub told : Edit → Told → Amended
told e t = record { was = t.was; number = t.number; content = t.content; children = map e.turn t.was.children; leave = []; join = []; kids = t.was.children }

-- the directories that say something else before the entry of o is another
abbrev pub amended_first : Option Holder → List Amended → List Amended
amended_first None others = others
amended_first (Some h) others = h.amended ∷ others

-- The directory that holds o says its new entry.
abbrev pub holding : Edit → Growing → Holder → Amended
holding e g h = record h.amended {
  content = h.content;
  children = map (placed_anew g) h.amended.children;
  leave = (g.dir, g.o) ∷ h.amended.leave;
  join = (g.dir, regrown e g g.o) ∷ h.amended.join;
  kids = h.kids;
}

abbrev pub amended_by : Edit → Growing → Option Holder → List Amended
amended_by e g None = g.others
amended_by e g (Some h) = holding e g h ∷ g.others

abbrev pub moving_by : Growing → Option Holder → List (ℕ × Object) → List (ℕ × Object)
moving_by g None moving = moving
moving_by g (Some h) moving = (g.dir, g.o) ∷ moving

-- The root leaves and joins nothing but itself.
abbrev pub top_by : Option Holder → Object → List (ℕ × Object) → List (ℕ × Object)
top_by None o top = (0, o) ∷ []
top_by (Some h) o top = top

abbrev pub grown_by : Edit → Growing → Option Holder → Edit
grown_by e g q = record e {
  amended = amended_by e g q;
  same = g.same;
  moving = moving_by g q e.moving;
  turn = regrown e g;
  top_leave = top_by q g.o e.top_leave;
  top_join = top_by q (regrown e g g.o) e.top_join;
}

abbrev pub grown : Edit → Growing → Edit
grown e g = grown_by e g g.holder

-- ---- what it has

pub record IsTold (nodes : Nodes) (t : Told) : Type 0 where
  pub number_is : number_of nodes t.was.object.path ≡ Some t.number
  pub entries : entries_of t.content ≡ entries_of t.was.content

-- The directory h holds o, and its entry is the new one. Nothing else comes to it.
pub record Holds (g : Growing) (h : Holder) : Type 0 where
  pub none_join : h.amended.join ≡ []
  pub kids : IsPermutation h.amended.kids (g.o ∷ h.kids)
  pub entries : entries_of h.content ≡ map (regrown_entry h.amended.was.object.path (Some (at_place g g.o))) (entries_of h.amended.content)

-- It is held, or it is the root.
abbrev pub IsHeldBy : Growing → Option Holder → Type 0
IsHeldBy g None = g.o.path ≡ []
IsHeldBy g (Some h) = Holds g h

-- The edit changes what o says, and leaves it where it is; and the root stays. What each directory says then can be said. Big directories
-- alone grow.
pub record IsGrowing (nodes : Nodes) (layout : Layout) (e : Edit) (g : Growing) : Type 0 where
  pub form : dir_form layout ≡ forms.Long
  pub dir_is : number_of nodes g.o.path ≡ Some g.dir
  pub stays : e.turn g.o ≡ g.o
  pub listed : (a : Amended) × Contains e.amended a × (a.was.object ≡ g.o)
  pub none_leave : e.top_leave ≡ []
  pub none_join : e.top_join ≡ []
  pub same_is : IsPermutation e.same (map (λ (t : Told). t.was) g.again ++ g.same)
  pub told_is : (t : Told) → Contains g.again t → IsTold nodes t
  pub amended_is : IsPermutation (e.amended ++ map (told e) g.again) (amended_first g.holder g.others)
  pub held : IsHeldBy g g.holder
  pub says : (a : Amended) → Contains (grown e g).amended a → CanSay layout (regrown e g a.was.object) a.content

-- An edit in which a directory grows.
pub record EditGrowing : Type 0 where
  pub nodes : Nodes
  pub layout : Layout
  pub listings : List Listing
  pub edit : Edit
  pub growing : Growing
  pub held : IsHeld nodes layout listings
  pub is_edit : IsEdit nodes listings edit
  pub has_numbers : HasNumbers nodes edit
  pub grows : IsGrowing nodes layout edit growing

abbrev pub with_growth : EditGrowing → Edit
with_growth x = grown x.edit x.growing

-- the node of the directory that holds it; the root holds itself
abbrev pub up_of : Option Holder → ℕ
up_of None = 0
up_of (Some h) = h.amended.number

-- What comes can be said, and the directories that say what they said have their lengths.
pub record CanSayNew (layout : Layout) (e : Edit) : Type 0 where
  pub few : length e.into ≤ 1
  pub into : (d : ℕ × Listing) → Contains e.into d → CanSay layout d.1.object d.1.content
  pub into_none : (d : ℕ × Listing) → Contains e.into d → entries_of d.1.content ≡ []
  pub same : (k : Listing) → Contains e.same k → (e.turn k.object).entry.len ≡ k.object.entry.len

-- ---- the law

pub record GrowingLaw : Type 0 where
  -- The edit with growth is one; these are the nodes and the owners after it, and what the directories say can be said.
  pub is_edit : (x : EditGrowing) → IsEdit x.nodes x.listings (with_growth x)
  pub nodes : (x : EditGrowing) → AreEdited x.nodes (nodes_after (with_growth x) x.nodes) (with_growth x)
  pub owners : (x : EditGrowing) (layout' : Layout) (owners owners' : List Owner)
      → OwnersEdited owners owners' (owners_with x.layout (up_of x.growing.holder) x.growing.dir x.growing.o ++ owners_left x.layout x.edit)
      (owners_with layout' (up_of x.growing.holder) x.growing.dir (at_place x.growing x.growing.o) ++ owners_joined layout' x.edit)
      → OwnersEdited owners owners' (owners_left x.layout (with_growth x)) (owners_joined layout' (with_growth x))
  pub can : (x : EditGrowing) → CanSayNew x.layout x.edit → CanSayAll x.layout x.listings (with_growth x)
