-- An edit of a volume's objects, over any number of directories: what goes, what comes, what each other object becomes, and what the
-- directories say and hold afterwards.
use Rattle.std.specs.Prelude.{◌≡◌, ◌⊎◌, ℕ, ◌+◌, List, [], ◌∷◌, ◌++◌, length, map, true, false, Some, None, Contains, IsPermutation}
use Rattle.std.specs.List.{flat_map}
use Rattle.std.specs.FinMap.{get, len}
use Rattle.fc_dirs.specs.Entries.{first_twin}
use Rattle.fc_dirs.specs.Directory.{Directory, entries_of}
use Rattle.fc_alloc.specs.declared.owner.Owner.{Owner}
use Rattle.fc_image.specs.Layout.{Layout}
use Rattle.fc_image.specs.Walk.{Listing, Object, is_directory_object}
use Rattle.fc_image.specs.Objects.{objects_of}
use Rattle.fc_image.specs.Order.{directories, held, listed}
use Rattle.fc_tree.specs.declared.node.Body.TheVariants as bodies
use Rattle.fc_tree.specs.Nodes.{body_in, number_of}
use Rattle.fc_laws.specs.nodes.Edits.{Nodes, owners_with}
use Rattle.fc_laws.specs.nodes.Lookups.{held_as, says_at}

-- ---- the edit

-- A directory that says something else. Objects leave it and join it, each with the number of its node; the others are its `kids`.
-- An object that gets another entry leaves and joins.
pub record Amended : Type 0 where
  pub was : Listing
  pub number : ℕ
  pub content : Directory
  pub children : List Object
  pub leave : List (ℕ × Object)
  pub join : List (ℕ × Object)
  pub kids : List Object

-- `out` are the directories that go, and `into` those that come, with the numbers of their nodes; all are empty. `same` are the
-- directories that say what they said. Of the objects that leave or join a directory some are gone, some come, and some move, or get
-- another entry in theirs. `turn` is what an object becomes that stays. The root leaves and joins nothing but itself, if its place or
-- length is another.
pub record Edit : Type 0 where
  pub out : List Listing
  pub into : List (ℕ × Listing)
  pub amended : List Amended
  pub same : List Listing
  pub gone : List (ℕ × Object)
  pub come : List (ℕ × Object)
  pub moving : List (ℕ × Object)
  pub turn : Object → Object
  pub top_leave : List (ℕ × Object)
  pub top_join : List (ℕ × Object)

-- ---- the listings afterwards

-- a numbered object afterwards
abbrev pub turned : Edit → ℕ × Object → ℕ × Object
turned e p = (p.0, e.turn p.1)

-- a directory that says something else
abbrev pub now : Edit → Amended → Listing
now e a = record { object = e.turn a.was.object; content = a.content; children = a.children }

-- and one that says what it said
abbrev pub still : Edit → Listing → Listing
still e k = record { object = e.turn k.object; content = k.content; children = map e.turn k.children }

abbrev pub listings_after : Edit → List Listing
listings_after e = map (λ (d : ℕ × Listing). d.1) e.into ++ (map (now e) e.amended ++ map (still e) e.same)

-- ---- who leaves and joins

abbrev pub objects : List (ℕ × Object) → List Object
objects ps = map (λ (p : ℕ × Object). p.1) ps

abbrev pub numbers : List (ℕ × Object) → List ℕ
numbers ps = map (λ (p : ℕ × Object). p.0) ps

abbrev pub left_in : Edit → List (ℕ × Object)
left_in e = flat_map (λ (a : Amended). a.leave) e.amended

abbrev pub joined_in : Edit → List (ℕ × Object)
joined_in e = flat_map (λ (a : Amended). a.join) e.amended

abbrev pub leaving : Edit → List (ℕ × Object)
leaving e = e.top_leave ++ left_in e

abbrev pub joining : Edit → List (ℕ × Object)
joining e = e.top_join ++ joined_in e

-- ---- what an edit has

-- The object keeps its entry and its sectors, though not always its path.
pub record KeepsEntry (e : Edit) (o : Object) : Type 0 where
  pub entry : (e.turn o).entry ≡ o.entry
  pub sectors : (e.turn o).sectors ≡ o.sectors

pub record IsAmended (nodes : Nodes) (e : Edit) (a : Amended) : Type 0 where
  pub number_is : number_of nodes a.was.object.path ≡ Some a.number
  pub held : IsPermutation a.was.children (objects a.leave ++ a.kids)
  pub holds : IsPermutation a.children (objects a.join ++ map e.turn a.kids)
  pub stored : map (λ (o : Object). o.entry) a.children ≡ entries_of a.content
  pub apart : first_twin (entries_of a.content) ≡ None
  pub left : (p : ℕ × Object) → Contains a.leave p → number_of nodes p.1.path ≡ Some p.0
  pub paths : (p : ℕ × Object) → Contains a.join p → p.1.path ≡ (e.turn a.was.object).path ++ p.1.entry.name ∷ []

-- the root stays as it is
pub record TopStays (e : Edit) (top : Object) : Type 0 where
  pub leaves : e.top_leave ≡ []
  pub joins : e.top_join ≡ []
  pub keeps : KeepsEntry e top

-- it has another place or length
pub record TopTurns (e : Edit) (top : Object) : Type 0 where
  pub leaves : e.top_leave ≡ (0, top) ∷ []
  pub joins : e.top_join ≡ (0, e.turn top) ∷ []

pub record IsEdit (nodes : Nodes) (listings : List Listing) (e : Edit) : Type 0 where
  pub found : IsPermutation listings (e.out ++ (map (λ (a : Amended). a.was) e.amended ++ e.same))
  pub amends : (a : Amended) → Contains e.amended a → IsAmended nodes e a
  pub out_gone : listed e.out ≡ directories (objects e.gone)
  pub out_empty : held e.out ≡ []
  pub into_come : map (λ (d : ℕ × Listing). d.1.object) e.into ≡ directories (objects e.come)
  pub into_empty : (d : ℕ × Listing) → Contains e.into d → d.1.children ≡ []
  pub into_joins : (d : ℕ × Listing) → Contains e.into d → Contains e.come (d.0, d.1.object)
  pub left : IsPermutation (left_in e) (e.gone ++ e.moving)
  pub joined : IsPermutation (joined_in e) (e.come ++ map (turned e) e.moving)
  pub kinds : (o : Object) → is_directory_object (e.turn o) ≡ is_directory_object o
  -- the root
  pub top_path : (o : Object) → Contains (objects_of listings) o → o.path ≡ [] → (e.turn o).path ≡ []
  pub top : (o : Object) → Contains (objects_of listings) o → o.path ≡ [] → TopStays e o ⊎ TopTurns e o
  -- an object of another number than those that leave stays in its directory
  pub keeps : (o : Object) (n : ℕ) → Contains (objects_of listings) o → number_of nodes o.path ≡ Some n → (Contains (numbers (leaving e)) n → ⊥) → KeepsEntry e o
  pub paths : (k : Listing) (o : Object) (n : ℕ) → Contains listings k → Contains k.children o → number_of nodes o.path ≡ Some n → (Contains (numbers (leaving e)) n → ⊥)
      → (e.turn o).path ≡ (e.turn k.object).path ++ o.entry.name ∷ []

-- ---- the nodes

-- nodes' are the nodes after the edit, by lookups
pub record AreEdited (nodes nodes' : Nodes) (e : Edit) : Type 0 where
  -- who holds a node, and by what entry
  pub others : (m : ℕ) → (Contains (numbers (leaving e)) m → ⊥) → (Contains (numbers (joining e)) m → ⊥) → held_as nodes' m ≡ held_as nodes m
  pub joined : (a : Amended) (p : ℕ × Object) → Contains e.amended a → Contains a.join p → held_as nodes' p.0 ≡ Some (a.number, p.1.entry)
  pub top : (p : ℕ × Object) → Contains e.top_join p → held_as nodes' p.0 ≡ Some (0, p.1.entry)
  pub gone : (m : ℕ) → Contains (numbers (leaving e)) m → (Contains (numbers (joining e)) m → ⊥) → held_as nodes' m ≡ None
  -- what a node says
  pub says : (a : Amended) → Contains e.amended a → says_at nodes' a.number ≡ Some (body_in a.content)
  pub into_say : (d : ℕ × Listing) → Contains e.into d → says_at nodes' d.0 ≡ Some (body_in d.1.content)
  pub files : (p : ℕ × Object) → Contains (joined_in e) p → is_directory_object p.1 ≡ false → says_at nodes' p.0 ≡ Some bodies.File
  pub silent : (m : ℕ) → (get nodes m ≡ None → ⊥) → (Contains (map (λ (a : Amended). a.number) e.amended) m → ⊥)
      → (Contains (numbers (leaving e)) m → Contains (numbers (joining e)) m) → says_at nodes' m ≡ says_at nodes m
  -- A node that joins a directory has left one, or is new.
  pub free : (p : ℕ × Object) → Contains (joined_in e) p → (Contains (numbers (left_in e)) p.0) ⊎ ((get nodes p.0 ≡ None) × (p.0 ≡ 0 → ⊥))
  pub new : (p : ℕ × Object) → Contains e.come p → is_directory_object p.1 ≡ true → get nodes p.0 ≡ None
  pub count : len nodes' + length (left_in e) ≡ len nodes + length (joined_in e)

-- ---- owners

-- the owners that numbered objects are in the directory of this number
abbrev pub owners_in : Layout → ℕ → List (ℕ × Object) → List Owner
owners_in layout dir ps = flat_map (λ (p : ℕ × Object). owners_with layout dir p.0 p.1) ps

abbrev pub owners_left : Layout → Edit → List Owner
owners_left layout e = owners_in layout 0 e.top_leave ++ flat_map (λ (a : Amended). owners_in layout a.number a.leave) e.amended

abbrev pub owners_joined : Layout → Edit → List Owner
owners_joined layout e = owners_in layout 0 e.top_join ++ flat_map (λ (a : Amended). owners_in layout a.number a.join) e.amended
