-- Trees: finite maps from paths to nodes. The keys are the folded paths, and each node keeps its name as it is spelled.
use Rattle.std.specs.Prelude.{◌≡◌, ◌<◌, ℕ, ◌+◌, ◌-◌, Bool, true, false, ◌&&◌, ◌==◌, List, [], ◌∷◌, length, take, filter, Option, Some, None}
use Rattle.std.specs.List.{starts_with}
use Rattle.std.specs.Str.{bytes_eq}
use Rattle.std.specs.FinMap.{FinMap, entries, get}
use Rattle.fc_names.specs.Names.{Path, folded, folded_path, key_cmp}

-- a list of bytes, or that it is a directory
pub data Body : Type 0 where
  File : (bytes : List ℕ) → Body
  Directory : Body

-- an object of a tree, with its name as it is spelled
pub record Node : Type 0 where
  pub name : List ℕ
  pub attrs : ℕ
  pub load : ℕ
  pub exec : ℕ
  pub body : Body

-- a map from folded paths to nodes
abbrev pub Tree : Type 0
Tree = FinMap key_cmp Node

-- the node at a path
abbrev pub node_at : Tree → Path → Option Node
node_at t path = get t (folded_path path)

-- The node is a directory.
abbrev pub is_directory_body : Body → Bool
is_directory_body (File bytes) = false
is_directory_body Directory = true

-- the bytes of a file; a directory has none
abbrev pub bytes_of_body : Body → List ℕ
bytes_of_body (File bytes) = bytes
bytes_of_body Directory = []

-- the bytes of the file there
abbrev pub bytes_of_node : Option Node → List ℕ
bytes_of_node None = []
bytes_of_node (Some n) = bytes_of_body n.body

-- the root's node
abbrev pub root_node : Node
root_node = record { name = 36 ∷ []; attrs = 8; load = 0; exec = 0; body = Directory }

-- the path of the directory that holds an object, and the object's name there
abbrev pub holder : Path → Path
holder path = take (length path - 1) path

-- the last name of a path, and none of the root
abbrev pub last_name : Path → List ℕ
last_name [] = []
last_name (name ∷ []) = name
last_name (name ∷ next ∷ names) = last_name (next ∷ names)

-- p is q or the path of a directory above it; both are folded
abbrev pub is_prefix : Path → Path → Bool
is_prefix p q = starts_with bytes_eq q p

-- the nodes that a directory holds, rising by folded name
abbrev pub children : Tree → Path → List (Path × Node)
children t path = filter (λ e. (length e.0 == length path + 1) && is_prefix (folded_path path) e.0) (entries t)

-- Each node but the root stands under its folded name in a directory.
pub record IsTree (t : Tree) : Type 0 where
  pub root : get t [] ≡ Some root_node
  pub named : (key : Path) (node : Node) → get t key ≡ Some node → 0 < length key → last_name key ≡ folded node.name
  pub holders : (key : Path) (node : Node) → get t key ≡ Some node → 0 < length key
      → (above : Node) × (get t (holder key) ≡ Some above) × (is_directory_body above.body ≡ true)
