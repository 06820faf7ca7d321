-- Lists of owners.
use Rattle.std.specs.Prelude.{◌≡◌, ◌<◌, ◌≤◌, ◌&&◌, ◌||◌, ◌==◌, ℕ, Bool, nat_eq, nat_lt, if◌then◌else◌, List, IsPermutation, filter, length, map, slice_index_or}
use Rattle.std.specs.Bool.{beq}
use Rattle.std.specs.List.{list_any, IsDistinct}
use Rattle.std.specs.List.Sorted.{IsNonDecreasingBy}
use Rattle.fc_alloc.specs.declared.owner.Owner.{Owner}

-- whether an owner is that of this node
abbrev pub is_node : ℕ → Owner → Bool
is_node node o = o.node == node

-- whether an owner has this identifier
abbrev pub owns : ℕ → Owner → Bool
owns id o = o.id == id

-- whether an owner's object is held by the directory of this node
abbrev pub is_held : ℕ → Owner → Bool
is_held dir o = o.dir == dir

-- whether this node has an owner in the list
abbrev pub has_node : List Owner → ℕ → Bool
has_node owners node = list_any (is_node node) owners

-- whether an owner of the list has this identifier
abbrev pub is_id_owned : List Owner → ℕ → Bool
is_id_owned owners id = list_any (owns id) owners

-- the list with an owner in the place of the one of its node
abbrev pub with_changed : Owner → List Owner → List Owner
with_changed o owners = map (λ p. if is_node o.node p then o else p) owners

-- no two owners are of one node
abbrev pub HaveOwnNodes : List Owner → Type 0
HaveOwnNodes owners = IsDistinct nat_eq (map (λ o. o.node) owners)

-- whether two owners are the same
abbrev pub is_same : Owner → Owner → Bool
is_same p o = p.id == o.id && (p.dir == o.dir && (p.node == o.node && (beq p.file o.file && (p.low == o.low && (p.first == o.first && p.sectors == o.sectors)))))

-- whether an owner has a lower identifier than another, or the same and a lower first sector
abbrev pub comes_before : Owner → Owner → Bool
comes_before p o = nat_lt p.id o.id || (p.id == o.id && nat_lt p.first o.first)

-- Identifiers do not fall, and of one identifier first sectors do not.
pub record AreInOrder (owners : List Owner) : Type 0 where
  pub ids : IsNonDecreasingBy (λ o. o.id) owners
  pub firsts : (i j : ℕ) (d : Owner) → i ≤ j → j < length owners → (slice_index_or owners i d).id ≡ (slice_index_or owners j d).id → (slice_index_or owners i d).first ≤ (slice_index_or owners j d).first

-- These are the owners that the directory holds, in order.
pub record AreHeldBy (dir : ℕ) (owners held : List Owner) : Type 0 where
  pub same : IsPermutation (filter (is_held dir) owners) held
  pub sorted : AreInOrder held
