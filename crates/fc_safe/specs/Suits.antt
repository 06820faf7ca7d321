-- Which volumes the safe mode serves, as the nodes tell it.
use Rattle.std.specs.Prelude.{◌≡◌, ◌⊎◌, ℕ, ◌==◌, ◌&&◌, Bool, true, false}
use Rattle.std.specs.Option.{option_map_or}
use Rattle.std.specs.FinMap.{get}
use Rattle.fc_names.specs.Names.{is_directory}
use Rattle.fc_dirs.specs.declared.Entry.{Entry}
use Rattle.fc_image.specs.Layout.{Layout, id_of}
use Rattle.fc_laws.specs.nodes.Edits.{Nodes}
use Rattle.fc_tree.specs.Parts.{Parts}
use Rattle.fc_tree.specs.declared.node.Node.{Node}

-- a directory in the map's identifier
abbrev pub is_low_directory : Entry → Bool
is_low_directory e = is_directory e.attrs && (id_of e.address == 2)

abbrev pub is_low_node : Nodes → ℕ → Bool
is_low_node nodes n = option_map_or (λ (node : Node). is_low_directory node.entry) (get nodes n) false

-- The map is a new one whose directories are big, and none of these lies in the map's identifier.
abbrev pub Suits : Layout → Nodes → Type 0
Suits (Layout.New m) nodes = (m.geometry.version == 0 ≡ false) × ((n : ℕ) → is_low_node nodes n ≡ false)
Suits (Layout.Old space) nodes = ⊥

-- The map is an old one, or its directories are small, or one of these lies in the map's identifier.
abbrev pub SuitsNot : Layout → Nodes → Type 0
SuitsNot (Layout.New m) nodes = (m.geometry.version == 0 ≡ true) ⊎ ((n : ℕ) × (is_low_node nodes n ≡ true))
SuitsNot (Layout.Old space) nodes = Unit {0}

abbrev pub AnswersSuits : Parts → Bool → Type 0
AnswersSuits h true = Suits h.layout h.nodes
AnswersSuits h false = SuitsNot h.layout h.nodes
