-- The nodes of a volume in memory, and the owners among them, after the objects of its disc have slid down.
use Rattle.std.specs.Prelude.{◌≡◌, ◌<◌, ℕ, ◌*◌, not, ◌&&◌, ◌==◌, nat_lt, List, [], ◌∷◌, map, if◌then◌else◌, Option, Some, None, Contains}
use Rattle.std.specs.List.{flat_map, range_with_len}
use Rattle.std.specs.Int.{div_ceil}
use Rattle.std.specs.Option.{option_map, option_map_or}
use Rattle.std.specs.FinMap.{get, len}
use Rattle.fc_names.specs.Names.{is_directory}
use Rattle.fc_names.specs.declared.name.NameForm.{NameForm}
use Rattle.fc_oldmap.specs.OldMap.{OldMapContent}
use Rattle.fc_dirs.specs.declared.Entry.{Entry}
use Rattle.fc_alloc.specs.declared.owner.Owner.{Owner}
use Rattle.fc_image.specs.Layout.{Layout, dir_form, id_of, low_of}
use Rattle.fc_image.specs.Walk.{object_size}
use Rattle.fc_image.specs.declared.effects.Owned.{Owned}
use Rattle.fc_image.specs.effects.Short.{old_need}
use Rattle.fc_tree.specs.declared.node.Body.{Body}
use Rattle.fc_tree.specs.declared.node.Body.TheVariants as bodies
use Rattle.fc_tree.specs.declared.node.Node.{Node}
use Rattle.fc_tree.specs.Counts.{address_in}
use Rattle.fc_laws.specs.nodes.Edits.{Nodes}
use Rattle.fc_squash.specs.Squashing.{AreBodies}
use Rattle.fc_oldlaws.specs.moves.After.{Slide, dir_after, entry_after, form_of, move_of}

-- ---- nodes

-- what a node says afterwards, if its holder had this address
abbrev pub body_after : NameForm → (ℕ → ℕ) → ℕ → Body → Body
body_after form move holder bodies.File = bodies.File
body_after form move holder (bodies.Small dir) = bodies.Small (dir_after form move holder dir)
body_after form move holder (bodies.Big dir) = bodies.Big (record dir { entries = map (entry_after form move) dir.entries })

-- a node afterwards
abbrev pub node_after : NameForm → (ℕ → ℕ) → Nodes → Node → Node
node_after form move nodes node = record {
  holder = node.holder;
  entry = entry_after form move node.entry;
  body = body_after form move (address_in nodes node.holder) node.body;
}

-- Each node is as it is afterwards.
pub record AreMoved (s : Slide) (nodes nodes' : Nodes) : Type 0 where
  pub each : (n : ℕ) → get nodes' n ≡ option_map (node_after (form_of s) (move_of s) nodes) (get nodes n)
  pub many : len nodes' ≡ len nodes

-- ---- owners

-- the owner that a node is, by its number
abbrev pub node_owner : OldMapContent → ℕ → Node → Owner
node_owner space n node = record {
  id = id_of node.entry.address;
  dir = node.holder;
  node = n;
  file = not (is_directory node.entry.attrs);
  low = low_of node.entry.address;
  first = 0;
  sectors = div_ceil (object_size (dir_form (Layout.Old space)) node.entry) (256 * space.sector_units);
}

-- an owner as its node is now
abbrev pub remade : OldMapContent → Nodes → Owner → Owner
remade space nodes owner = option_map_or (node_owner space owner.node) (get nodes owner.node) owner

abbrev pub AreRemade : OldMapContent → Nodes → List Owner → List Owner → Type 0
AreRemade space nodes owners owners' = owners' ≡ map (remade space nodes) owners

-- ---- which nodes slide

-- the units that the object of an entry takes
abbrev pub units_in : OldMapContent → Entry → ℕ
units_in space e = old_need space (object_size (dir_form (Layout.Old space)) e)

-- The node slides: it isn't the root's, and its object has space.
pub record Slides (space : OldMapContent) (nodes : Nodes) (p : Owned) : Type 0 where
  pub node : Node
  pub there : get nodes p.node ≡ Some node
  pub below : p.node ≡ 0 → ⊥
  pub start : p.start ≡ node.entry.address
  pub long : p.len ≡ units_in space node.entry
  pub some : 0 < p.len

-- All nodes that slide, and nothing else.
pub record AreSliding (space : OldMapContent) (nodes : Nodes) (owned : List Owned) : Type 0 where
  pub each : (n : ℕ) (node : Node) → get nodes n ≡ Some node → (n ≡ 0 → ⊥) → 0 < units_in space node.entry → (p : Owned) × Contains owned p × (p.node ≡ n)
  pub only : (p : Owned) → Contains owned p → Slides space nodes p

-- what of a number's node slides, if it has one
abbrev pub sliding_at : OldMapContent → ℕ → Option Node → List Owned
sliding_at space n None = []
sliding_at space n (Some node) =
    if not (n == 0) && nat_lt 0 (units_in space node.entry) then record { node = n; start = node.entry.address; len = units_in space node.entry } ∷ [] else []

-- all that slide of the nodes below a number
abbrev pub sliding_below : OldMapContent → Nodes → ℕ → List Owned
sliding_below space nodes bound = flat_map (λ n. sliding_at space n (get nodes n)) (range_with_len 0 bound)

-- The list is ready to be squashed: it has all nodes that slide, and as objects they lie in their order, apart from each other and from the holes.
pub record AreReady (space : OldMapContent) (nodes : Nodes) (owned : List Owned) : Type 0 where
  pub sliding : AreSliding space nodes owned
  pub bodies : AreBodies space owned
