-- What a job makes of each directory that it changes.
use Rattle.std.specs.Prelude.{◌≡◌, ◌<◌, ℕ, Bool, true, false, not, ◌&&◌, ◌==◌, List, [], ◌∷◌, ◌++◌, filter, length, map, Option, Some, None, if◌then◌else◌, slice_get, IsFalse, IsSome, IsTrue, Contains}
use Rattle.std.specs.List.{flat_map, list_any}
use Rattle.std.specs.Option.{option_map, option_map_or, option_to_list}
use Rattle.std.specs.FinMap.{get}
use Rattle.fc_names.specs.Names.{is_directory, is_same_name}
use Rattle.fc_dirs.specs.declared.Entry.{Entry}
use Rattle.fc_dirs.specs.Directory.{Directory, entries_of}
use Rattle.fc_dirs.specs.Entries.{has_name, without_entry}
use Rattle.fc_drafts.specs.Draft.{CanAddress, CanBeCalled, CanHold, CanName, directory_in}
use Rattle.fc_drafts.specs.Entries.{regrown}
use Rattle.fc_drafts.specs.Rewriting.{HasAmended, HasEntered, HasLeft, HasMoved, HasNewHolder, HasRenamed, HasReplaced, IsAt}
use Rattle.fc_laws.specs.nodes.Edits.{Nodes}
use Rattle.fc_refusals.specs.Places.{entries_at}
use Rattle.fc_tree.specs.Counts.{address_in}
use Rattle.fc_tree.specs.Nodes.{body_in, child}
use Rattle.fc_tree.specs.declared.node.Node.{Node}
use Rattle.fc_change.specs.declared.change.Regrowth.{Regrowth}
use Rattle.fc_change.specs.declared.change.Says.{Says}

-- ---- rewritings

pub data Rewriting : Type 0 where
  -- an entry comes
  Enters : (e : Entry) → Rewriting
  -- an entry of the same name stands in the place of the one of a number
  Replaces : (at : ℕ) (e : Entry) → Rewriting
  -- the entry of a number goes
  Leaves : (at : ℕ) → Rewriting
  -- it goes, and another comes
  Renames : (at : ℕ) (e : Entry) → Rewriting
  -- the directory gets this name, in the directory of node `above`
  Turns : (above : ℕ) (name : List ℕ) → Rewriting
  -- another address is all that it says anew: that of its holder, or of a directory in it
  Stays : Rewriting

abbrev pub IsRewritingBy : Rewriting → (parent : ℕ) → Directory → Directory → Type 0
IsRewritingBy (Rewriting.Enters e) parent old new = HasEntered parent e old new
IsRewritingBy (Rewriting.Replaces at e) parent old new = HasReplaced parent at e old new
IsRewritingBy (Rewriting.Leaves at) parent old new = HasLeft parent at old new
IsRewritingBy (Rewriting.Renames at e) parent old new = HasRenamed parent at e old new
IsRewritingBy (Rewriting.Turns above name) parent old new = HasMoved parent name old new
IsRewritingBy Rewriting.Stays parent old new = HasNewHolder parent old new

-- A directory can be rewritten so.
abbrev pub CanBe : Rewriting → Directory → Type 0
CanBe (Rewriting.Enters e) dir = CanName dir e.name × CanHold dir e × IsFalse (has_name (entries_of dir) e.name)
CanBe (Rewriting.Replaces at e) dir = (at < length (entries_of dir)) × (option_map (λ (d : Entry). d.name) (slice_get (entries_of dir) at) ≡ Some e.name) × CanHold dir e
CanBe (Rewriting.Leaves at) dir = at < length (entries_of dir)
CanBe (Rewriting.Renames at e) dir = (at < length (entries_of dir)) × CanName dir e.name × CanHold dir e × IsFalse (has_name (without_entry at (entries_of dir)) e.name)
CanBe (Rewriting.Turns above name) dir = CanBeCalled dir name
CanBe Rewriting.Stays dir = Unit {0}

-- the node of the directory that holds it afterwards
abbrev pub above_of : Rewriting → Node → ℕ
above_of (Rewriting.Turns above name) node = above
above_of _ node = node.holder

-- ---- a directory that grows

-- the address of a node's object, if a directory may have grown
abbrev pub address_after : Option Regrowth → Nodes → ℕ → ℕ
address_after None nodes n = address_in nodes n
address_after (Some g) nodes n = if n == g.node then g.address else address_in nodes n

-- The directory of node n holds the grown one. The root is held by none.
abbrev pub is_holder : Nodes → Regrowth → ℕ → Bool
is_holder nodes g n = not (g.node == 0) && option_map_or (λ (node : Node). node.holder == n) (get nodes g.node) false

-- The entry of the grown directory has its new address and length.
pub record HasRegrownEntry (nodes : Nodes) (g : Regrowth) (old new : Directory) : Type 0 where
  pub node : Node
  pub at : ℕ
  pub was : Entry
  pub there : get nodes g.node ≡ Some node
  pub is_at : IsAt (entries_of old) at was
  pub named : IsTrue (is_same_name was.name node.entry.name)
  pub amended : HasAmended at (regrown was g.address g.len) old new

abbrev pub AmendsIf : Bool → Nodes → Regrowth → Directory → Directory → Type 0
AmendsIf true nodes g old new = HasRegrownEntry nodes g old new
AmendsIf false nodes g old new = new ≡ old

-- what the directory of node n says once the grown one's entry is amended, if it holds that
abbrev pub Amends : Option Regrowth → Nodes → ℕ → Directory → Directory → Type 0
Amends None nodes n old new = new ≡ old
Amends (Some g) nodes n old new = AmendsIf (is_holder nodes g n) nodes g old new

-- The directory can have that entry amended.
pub record CanRegrow (nodes : Nodes) (g : Regrowth) (dir : Directory) : Type 0 where
  pub node : Node
  pub there : get nodes g.node ≡ Some node
  pub named : IsTrue (has_name (entries_of dir) node.entry.name)
  pub held : (e : Entry) → CanHold dir e → CanHold dir (regrown e g.address g.len)

abbrev pub CanAmend : Option Regrowth → Nodes → ℕ → Directory → Type 0
CanAmend None nodes n dir = Unit {0}
CanAmend (Some g) nodes n dir = is_holder nodes g n ≡ true → CanRegrow nodes g dir

-- ---- the directories of nodes

-- The directory of node n can be rewritten so.
pub record CanTell (grown : Option Regrowth) (nodes : Nodes) (n : ℕ) (r : Rewriting) : Type 0 where
  pub node : Node
  pub content : Directory
  pub there : get nodes n ≡ Some node
  pub says : node.body ≡ body_in content
  pub amended : CanAmend grown nodes n content
  pub addressed : CanAddress content (address_after grown nodes (above_of r node))
  pub can : (middle : Directory) → Amends grown nodes n content middle → CanBe r middle

-- It is said what it says then.
pub record Tells (grown : Option Regrowth) (nodes : Nodes) (n : ℕ) (r : Rewriting) (s : Says) : Type 0 where
  pub number : s.node ≡ n
  pub node : Node
  pub content : Directory
  pub middle : Directory
  pub there : get nodes n ≡ Some node
  pub says : node.body ≡ body_in content
  pub amended : Amends grown nodes n content middle
  pub rewritten : IsRewritingBy r (address_after grown nodes (above_of r node)) middle (directory_in s.draft)

-- Each of these is, in this order.
abbrev pub TellAll : Option Regrowth → Nodes → List (ℕ × Rewriting) → List Says → Type 0
TellAll grown nodes [] [] = Unit {0}
TellAll grown nodes (q ∷ qs) (s ∷ ss) = Tells grown nodes q.0 q.1 s × TellAll grown nodes qs ss
TellAll grown nodes _ _ = ⊥

-- ---- those around a grown one

-- the directory that an entry of a node's directory names, if it names one
abbrev pub child_of : Nodes → ℕ → Entry → List ℕ
child_of nodes n e = if is_directory e.attrs then option_to_list (child nodes n e.name) else []

-- the directories in that of a node
abbrev pub directories_in : Nodes → ℕ → List ℕ
directories_in nodes n = flat_map (child_of nodes n) (entries_at nodes n)

-- the directory that holds it, and, if it gets another address, those in it
abbrev pub holders_of : Nodes → Regrowth → List ℕ
holders_of nodes g = if g.node == 0 then [] else option_map_or (λ (node : Node). node.holder ∷ []) (get nodes g.node) []

abbrev pub children_of : Nodes → Regrowth → List ℕ
children_of nodes g = if address_in nodes g.node == g.address then [] else directories_in nodes g.node

-- Of these the ones that aren't told anything else are told of the other address.
abbrev pub is_told : List ℕ → ℕ → Bool
is_told told n = list_any (λ (k : ℕ). k == n) told

abbrev pub told_around : List ℕ → List ℕ → List (ℕ × Rewriting)
told_around told ns = map (λ (n : ℕ). (n, Rewriting.Stays)) (filter (λ (n : ℕ). not (is_told told n)) ns)

-- `told` are the nodes that a job names.
abbrev pub around : Option Regrowth → Nodes → (told : List ℕ) → List (ℕ × Rewriting)
around None nodes told = []
around (Some g) nodes told = told_around told (holders_of nodes g ++ children_of nodes g)

-- They can be.
abbrev pub CanTellThese : Nodes → Option Regrowth → List (ℕ × Rewriting) → Type 0
CanTellThese nodes grown qs = (q : ℕ × Rewriting) → Contains qs q → CanTell grown nodes q.0 q.1

abbrev pub CanTellAround : Nodes → Option Regrowth → List ℕ → Type 0
CanTellAround nodes grown told = CanTellThese nodes grown (around grown nodes told)

abbrev pub IsGrownThere : Nodes → Option Regrowth → Type 0
IsGrownThere nodes None = Unit {0}
IsGrownThere nodes (Some g) = IsSome (get nodes g.node)

abbrev pub numbers : List (ℕ × Rewriting) → List ℕ
numbers qs = map (λ (q : ℕ × Rewriting). q.0) qs

abbrev pub nodes_told : List Says → List ℕ
nodes_told ss = map (λ (s : Says). s.node) ss

-- A draft says what the directory of node n says, with the grown one's entry amended.
pub record HasCopied (grown : Option Regrowth) (nodes : Nodes) (n : ℕ) (middle : Directory) : Type 0 where
  pub node : Node
  pub content : Directory
  pub there : get nodes n ≡ Some node
  pub says : node.body ≡ body_in content
  pub amended : Amends grown nodes n content middle

-- After what was said before comes what these are told.
pub record HasToldMore (nodes : Nodes) (grown : Option Regrowth) (qs : List (ℕ × Rewriting)) (was now : List Says) : Type 0 where
  pub more : List Says
  pub after : now ≡ was ++ more
  pub tell : TellAll grown nodes qs more
