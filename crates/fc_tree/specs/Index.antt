-- The index of the nodes that a directory holds: their numbers, in the order of their names, then of the numbers.
use Rattle.std.specs.Prelude.{◌≡◌, ◌<◌, ◌≤◌, ℕ, Bool, true, false, List, length, slice_index, Option, Some}
use Rattle.std.specs.Option.{option_map_or}
use Rattle.std.specs.declared.cmp.Ordering.{Ordering}
use Rattle.std.specs.Ordering.{nat_cmp, is_lt, ordering_then}
use Rattle.fc_names.specs.Names.{name_cmp}
use Rattle.fc_tree.specs.declared.node.Node.{Node}
use Rattle.fc_tree.specs.Slots.{slot_at}

-- where a number stands in the index
pub record Key : Type 0 where
  pub holder : ℕ
  pub name : List ℕ
  pub number : ℕ

abbrev pub key_cmp : Key → Key → Ordering
key_cmp a b = ordering_then (ordering_then (nat_cmp a.holder b.holder) (name_cmp a.name b.name)) (nat_cmp a.number b.number)

abbrev pub key_of : ℕ → Node → Key
key_of n node = record { holder = node.holder; name = node.entry.name; number = n }

-- There is a node of this number, and it stands before the key.
abbrev pub is_before : List (Option Node) → Key → ℕ → Bool
is_before slots key n = option_map_or (λ node. is_lt (key_cmp (key_of n node) key)) (slot_at slots n) false

-- There is a node of this number, and the directory holds it.
abbrev pub IsHeldBy : ℕ → List (Option Node) → ℕ → Type 0
IsHeldBy dir slots n = (node : Node) × (slot_at slots n ≡ Some node) × (node.holder ≡ dir)

-- The numbers are those of the nodes that the directory holds, each once, in order.
pub record IsIndex (dir : ℕ) (slots : List (Option Node)) (order : List ℕ) : Type 0 where
  pub known : (k : ℕ) → k < length order → IsHeldBy dir slots (slice_index order k)
  pub listed : (n : ℕ) (node : Node) → slot_at slots n ≡ Some node → node.holder ≡ dir → (k : ℕ) × (k < length order) × (slice_index order k ≡ n)
  pub rising : (i j : ℕ) (node : Node) → i < j → j < length order → slot_at slots (slice_index order j) ≡ Some node
      → is_before slots (key_of (slice_index order j) node) (slice_index order i) ≡ true

-- as many numbers stand before the key
pub record IsRank (slots : List (Option Node)) (order : List ℕ) (key : Key) (rank : ℕ) : Type 0 where
  pub within : rank ≤ length order
  pub below : (k : ℕ) → k < rank → is_before slots key (slice_index order k) ≡ true
  pub above : (k : ℕ) → rank ≤ k → k < length order → is_before slots key (slice_index order k) ≡ false
