-- An edit of a volume's objects by which identifiers move: they keep their numbers, the map gives them other runs, and all that stays in
-- them is laid anew at its old address.
use Rattle.std.specs.Prelude.{◌≡◌, ◌⊎◌, ℕ, Bool, true, false, not, filter, List, [], ◌∷◌, ◌++◌, map, if◌then◌else◌, Some, Contains}
use Rattle.std.specs.List.{flat_map}
use Rattle.std.specs.Option.{option_map_or}
use Rattle.fc_names.specs.Names.{Path}
use Rattle.fc_newmap.specs.Map.{Map}
use Rattle.fc_image.specs.Layout.{Layout, id_of}
use Rattle.fc_image.specs.Walk.{Listing, Object}
use Rattle.fc_image.specs.Objects.{objects_of}
use Rattle.fc_image.specs.Moves.{object_in}
use Rattle.fc_tree.specs.Nodes.{number_of}
use Rattle.fc_laws.specs.nodes.Edits.{Nodes}
use Rattle.fc_laws.specs.nodes.Laws.{IsHeld}
use Rattle.fc_edits.specs.Edit.{Amended, AreEdited, Edit, IsEdit, joining}
use Rattle.fc_edits.specs.NodesEdit.{NodesEdit}
use Rattle.fc_edits.specs.Places.{Stays}

-- ---- objects

-- Its identifier moves.
abbrev pub is_moved : (ℕ → Bool) → Object → Bool
is_moved moves o = moves (id_of o.entry.address)

-- the object, in the sectors of its address by the new map if its identifier moves
abbrev pub laid : Map → (ℕ → Bool) → Object → Object
laid m' moves o = if is_moved moves o then object_in (Layout.New m') o else o

-- ---- the edit

-- An edit of the objects of a new map, the nodes after it, and identifiers that move to other runs, which m' has. The edit is told as if
-- none moved. Nothing comes to them; `top` is the root.
pub record Relocation : Type 0 where
  pub nodes : Nodes
  pub nodes' : Nodes
  pub m : Map
  pub m' : Map
  pub listings : List Listing
  pub edit : Edit
  pub moves : ℕ → Bool
  pub top : Object
  pub held : IsHeld nodes (Layout.New m) listings
  pub is_edit : IsEdit nodes listings edit
  pub nodes_edited : AreEdited nodes nodes' edit
  pub top_in : Contains (objects_of listings) top
  pub top_path : top.path ≡ []
  pub elsewhere : (p : ℕ × Object) → Contains edit.come p → is_moved moves p.1 ≡ false

-- the edit without them
abbrev pub unmoved : Relocation → NodesEdit
unmoved x = record { nodes = x.nodes; nodes' = x.nodes'; layout = Layout.New x.m; listings = x.listings; edit = x.edit; held = x.held; is_edit = x.is_edit; nodes_edited = x.nodes_edited }

abbrev pub laid_in : Relocation → Object → Object
laid_in x o = laid x.m' x.moves o

-- what an object becomes that stays
abbrev pub turned_in : Relocation → Object → Object
turned_in x o = laid_in x (x.edit.turn o)

-- the same of a numbered one
abbrev pub laid_at : Relocation → ℕ × Object → ℕ × Object
laid_at x p = (p.0, laid_in x p.1)

abbrev pub turned_at : Relocation → ℕ × Object → ℕ × Object
turned_at x p = (p.0, turned_in x p.1)

-- the number of the node at a path
abbrev pub number_at : Nodes → Path → ℕ
number_at nodes path = option_map_or (λ n. n) (number_of nodes path) 0

-- those of these objects that are laid anew, numbered
abbrev pub carried : Relocation → List Object → List (ℕ × Object)
carried x os = map (λ o. (number_at x.nodes o.path, o)) (filter (is_moved x.moves) os)

-- a directory that says what it said
abbrev pub told_again : Relocation → Listing → Amended
told_again x k =
    record { was = k; number = number_at x.nodes k.object.path; content = k.content; children = map x.edit.turn k.children; leave = []; join = []; kids = k.children }

-- all directories that stay, whatever they say
abbrev pub all_amended : Relocation → List Amended
all_amended x = x.edit.amended ++ map (told_again x) x.edit.same

-- What is laid anew leaves its directory and joins it.
abbrev pub amended_in : Relocation → Amended → Amended
amended_in x a = record a {
  children = map (laid_in x) a.children;
  leave = a.leave ++ carried x a.kids;
  join = map (laid_at x) a.join ++ map (turned_at x) (carried x a.kids);
  kids = filter (λ o. not (is_moved x.moves o)) a.kids;
}

-- the edit with them
abbrev pub relocated : Relocation → Edit
relocated x = record x.edit {
  amended = map (amended_in x) (all_amended x);
  same = [];
  moving = x.edit.moving ++ flat_map (λ a. carried x a.kids) (all_amended x);
  turn = turned_in x;
  top_leave = if is_moved x.moves x.top then (0, x.top) ∷ [] else x.edit.top_leave;
  top_join = if is_moved x.moves x.top then (0, turned_in x x.top) ∷ [] else map (laid_at x) x.edit.top_join;
}

-- ---- what joins a directory

-- What joined one without the moves, laid anew if its identifier moves.
pub record JoinsBefore (x : Relocation) (p : ℕ × Object) : Type 0 where
  pub was : ℕ × Object
  pub joins : Contains (joining x.edit) was
  pub is : p ≡ laid_at x was

-- An object that would have stayed and is laid anew.
pub record IsCarried (x : Relocation) (p : ℕ × Object) : Type 0 where
  pub was : Object
  pub stays : Stays x.nodes x.listings x.edit was
  pub moved : is_moved x.moves was ≡ true
  pub number : number_of x.nodes was.path ≡ Some p.0
  pub is : p.1 ≡ turned_in x was

pub record RelocationLaw : Type 0 where
  -- It is an edit, and these are the nodes after it.
  pub is_edit : (x : Relocation) → IsEdit x.nodes x.listings (relocated x)
  pub nodes : (x : Relocation) → AreEdited x.nodes x.nodes' (relocated x)
  -- Who stays in its directory would have stayed, and isn't laid anew.
  pub stays : (x : Relocation) (o : Object) → Stays x.nodes x.listings (relocated x) o → Stays x.nodes x.listings x.edit o × (is_moved x.moves o ≡ false)
  -- What joins a directory did so before, or is carried along.
  pub joins : (x : Relocation) (p : ℕ × Object) → Contains (joining (relocated x)) p → JoinsBefore x p ⊎ IsCarried x p
