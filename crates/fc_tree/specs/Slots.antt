-- Slots, of which each has the node of its number, or none.
use Rattle.std.specs.Prelude.{◌≡◌, ◌<◌, ℕ, Bool, true, not, ◌&&◌, ◌==◌, List, Option, is_some}
use Rattle.std.specs.List.{slice_get}
use Rattle.std.specs.Option.{option_and_then}
use Rattle.fc_names.specs.Names.{is_same_name}
use Rattle.fc_tree.specs.declared.node.Node.{Node}

-- the node of a number
abbrev pub slot_at : List (Option Node) → ℕ → Option Node
slot_at slots n = option_and_then (λ o. o) (slice_get slots n)

-- The directory of this number has the node under the name.
abbrev pub is_child : ℕ → List ℕ → ℕ × Node → Bool
is_child dir name e = (e.1.holder == dir) && not (e.0 == 0) && is_same_name name e.1.entry.name

-- New slots are these but for one number.
abbrev pub AreSameBut : ℕ → List (Option Node) → List (Option Node) → Type 0
AreSameBut n slots new = (m : ℕ) → (m ≡ n → ⊥) → slot_at new m ≡ slot_at slots m

-- Each number below this one has a node.
abbrev pub AreFull : List (Option Node) → ℕ → Type 0
AreFull slots least = (m : ℕ) → m < least → is_some (slot_at slots m) ≡ true
