-- A volume's nodes and owners after a change.
use Rattle.std.specs.Prelude.{◌≡◌, ◌<◌, ℕ, List, [], ◌∷◌, Option, Some, None, IsSome, IsTrue, Contains}
use Rattle.std.specs.FinMap.{get, insert as put, remove as take}
use Rattle.fc_alloc.specs.declared.owner.Owner.{Owner}
use Rattle.fc_alloc.specs.Owners.{has_node, with_changed}
use Rattle.fc_drafts.specs.declared.draft.Draft.{Draft}
use Rattle.fc_drafts.specs.Draft.{directory_in}
use Rattle.fc_drafts.specs.Entries.{regrown}
use Rattle.fc_image.specs.Layout.{Layout}
use Rattle.fc_laws.specs.nodes.Edits.{Nodes, with_body, with_edited}
use Rattle.fc_tree.specs.Nodes.{body_in}
use Rattle.fc_tree.specs.declared.node.Body.{Body}
use Rattle.fc_tree.specs.declared.node.Body.TheVariants as bodies
use Rattle.fc_tree.specs.declared.node.Node.{Node}
use Rattle.fc_change.specs.declared.change.Change.{Change}
use Rattle.fc_change.specs.declared.change.Regrowth.{Regrowth}
use Rattle.fc_change.specs.declared.change.Says.{Says}
use Rattle.fc_change.specs.declared.change.Turned.{Turned}
use Rattle.fc_change.specs.declared.change.Turned.TheVariants as turns
use Rattle.fc_change.specs.Owned.{IsOwnerNow, entry_owner, owner_if, owners_with_room}

-- ---- nodes

-- A grown directory has its new address and length.
abbrev pub with_regrown : Option Regrowth → Nodes → Nodes
with_regrown None nodes = nodes
with_regrown (Some g) nodes = with_edited g.node (λ (node : Node). record node { entry = regrown node.entry g.address g.len }) nodes

-- what a new object says
abbrev pub body_said : Option Draft → Body
body_said None = bodies.File
body_said (Some d) = body_in (directory_in d)

-- The object comes, as the node of this number, or has another entry and holder.
abbrev pub with_turned : Turned → ℕ → Nodes → Nodes
with_turned (turns.Comes dir e own) number nodes = put nodes number (record { holder = dir; entry = e; body = body_said own })
with_turned (turns.Turns n dir e) number nodes = with_edited n (λ (node : Node). record node { holder = dir; entry = e }) nodes
with_turned (turns.Goes n) number nodes = nodes

-- Each directory says what it is told, and the object that goes is out.
abbrev pub with_said : List Says → Nodes → Nodes
with_said [] nodes = nodes
with_said (s ∷ ss) nodes = with_said ss (with_body s.node (body_in (directory_in s.draft)) nodes)

abbrev pub gone_in : Turned → Option ℕ
gone_in (turns.Comes dir e own) = None
gone_in (turns.Turns n dir e) = None
gone_in (turns.Goes n) = Some n

abbrev pub without_gone : Option ℕ → Nodes → Nodes
without_gone None nodes = nodes
without_gone (Some n) nodes = take nodes n

abbrev pub nodes_after : Change → (number : ℕ) → Nodes → Nodes
nodes_after c number nodes = without_gone (gone_in c.object) (with_said c.says.items (with_turned c.object number (with_regrown c.grown nodes)))

-- ---- owners

abbrev pub IsRegrownOwner : Layout → Nodes → Option Regrowth → List Owner → List Owner → Type 0
IsRegrownOwner layout nodes None was now = now ≡ was
IsRegrownOwner layout nodes (Some g) was now =
    (node : Node) → get nodes g.node ≡ Some node → now ≡ with_changed (entry_owner layout g.node node.holder (regrown node.entry g.address g.len)) was

-- That of a new object is there already (`admit`).
abbrev pub IsTurnedOwner : Layout → Turned → List Owner → List Owner → Type 0
IsTurnedOwner layout (turns.Comes dir e own) was now = now ≡ was
IsTurnedOwner layout (turns.Turns n dir e) was now = IsOwnerNow n (owner_if layout n dir e) was now
IsTurnedOwner layout (turns.Goes n) was now = IsOwnerNow n None was now

pub record AreOwnersAfter (layout : Layout) (nodes : Nodes) (c : Change) (was now : List Owner) : Type 0 where
  pub middle : List Owner
  pub grown : IsRegrownOwner layout nodes c.grown was middle
  pub object : IsTurnedOwner layout c.object middle now

-- ---- memory for what comes

-- how many nodes come
abbrev pub nodes_more : Turned → ℕ
nodes_more (turns.Comes dir e own) = 1
nodes_more (turns.Turns n dir e) = 0
nodes_more (turns.Goes n) = 0

-- the owners with one more, if the object comes, or had no sectors and gets some
abbrev pub owners_admitted : Layout → Turned → (number : ℕ) → List Owner → List Owner
owners_admitted layout (turns.Comes dir e own) number owners = owners_with_room (owner_if layout number dir e) owners
owners_admitted layout (turns.Turns n dir e) number owners = owners_with_room (owner_if layout n dir e) owners
owners_admitted layout (turns.Goes n) number owners = owners

-- ---- what can be taken over

abbrev pub HasPlaceFor : Option Owner → List Owner → Type 0
HasPlaceFor None owners = Unit {0}
HasPlaceFor (Some o) owners = IsTrue (has_node owners o.node)

abbrev pub CanTurnOwner : Layout → List Owner → Turned → Type 0
CanTurnOwner layout owners (turns.Comes dir e own) = Unit {0}
CanTurnOwner layout owners (turns.Turns n dir e) = HasPlaceFor (owner_if layout n dir e) owners
CanTurnOwner layout owners (turns.Goes n) = Unit {0}

abbrev pub CanTurnNode : Nodes → (room : ℕ) → Turned → Type 0
CanTurnNode nodes room (turns.Comes dir e own) = 0 < room
CanTurnNode nodes room (turns.Turns n dir e) = IsSome (get nodes n)
CanTurnNode nodes room (turns.Goes n) = IsSome (get nodes n)

abbrev pub CanRegrowNode : Nodes → List Owner → Option Regrowth → Type 0
CanRegrowNode nodes owners None = Unit {0}
CanRegrowNode nodes owners (Some g) = IsSome (get nodes g.node) × IsTrue (has_node owners g.node)

-- Whose nodes are there, and for what comes there is memory.
pub record CanTakeOver (layout : Layout) (nodes : Nodes) (owners : List Owner) (room : ℕ) (c : Change) : Type 0 where
  pub says : (s : Says) → Contains c.says.items s → IsSome (get nodes s.node)
  pub object : CanTurnNode nodes room c.object
  pub owner : CanTurnOwner layout owners c.object
  pub grown : CanRegrowNode nodes owners c.grown
