-- The places of nodes while an index is made.
use Rattle.std.specs.Prelude.{◌≡◌, ◌<◌, ◌==◌, ℕ, Bool, true, false, List, [], length, slice_index, IsPermutation, map, Option, Some}
use Rattle.std.specs.List.{slice_get, range_with_len}
use Rattle.std.specs.Option.{option_map_or}
use Rattle.std.specs.List.Sorted.{IsSorted}
use Rattle.fc_tree.specs.declared.node.Node.{Node}
use Rattle.fc_tree.specs.declared.index.Place.{Place}
use Rattle.fc_tree.specs.Slots.{slot_at}
use Rattle.fc_tree.specs.Index.{Key, is_before, key_cmp, key_of}

-- a place, as contracts of the index see it
abbrev pub shown : Place → Key
shown place = record { holder = place.holder; name = place.name.now; number = place.number }

-- the key of a node among those that are numbered in their order
abbrev pub key_in : List Node → ℕ → Key
key_in nodes i = option_map_or (key_of i) (slice_get nodes i) (record { holder = 0; name = []; number = i })

-- the keys of the first nodes
abbrev pub keys_of : List Node → ℕ → List Key
keys_of nodes n = map (key_in nodes) (range_with_len 0 n)

-- There is a node of this number, and the directory holds it.
abbrev pub is_in : List Node → ℕ → ℕ → Bool
is_in nodes dir i = option_map_or (λ node. node.holder == dir) (slice_get nodes i) false

-- the numbers are those of the nodes, each once, by the directories that hold them, and in order there
pub record AreOrdered (slots : List (Option Node)) (order : List ℕ) : Type 0 where
  pub known : (k : ℕ) → k < length order → (node : Node) × (slot_at slots (slice_index order k) ≡ Some node)
  pub listed : (n : ℕ) (node : Node) → slot_at slots n ≡ Some node → (k : ℕ) × (k < length order) × (slice_index order k ≡ n)
  pub rising : (i j : ℕ) (node : Node) → i < j → j < length order → slot_at slots (slice_index order j) ≡ Some node
      → is_before slots (key_of (slice_index order j) node) (slice_index order i) ≡ true

-- the keys of these nodes, in order
pub record AreSorted (nodes : List Node) (keys : List Key) : Type 0 where
  pub places : IsPermutation (keys_of nodes (length nodes)) keys
  pub sorted : IsSorted key_cmp keys
