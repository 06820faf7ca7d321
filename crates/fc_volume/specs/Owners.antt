-- The owners among the nodes of a tree.
use Rattle.std.specs.Prelude.{ℕ, nat_lt, List, [], ◌∷◌, ◌++◌, if◌then◌else◌, Option, Some, None}
use Rattle.std.specs.List.{flat_map, range_with_len}
use Rattle.std.specs.Ordering.{nat_cmp}
use Rattle.std.specs.FinMap.{FinMap, get}
use Rattle.fc_alloc.specs.declared.owner.Owner.{Owner}
use Rattle.fc_image.specs.Layout.{Layout}
use Rattle.fc_tree.specs.declared.node.Node.{Node}
use Rattle.fc_change.specs.Owned.{entry_owner}

-- the owner that a node of this number is
abbrev pub node_owner : Layout → ℕ → Node → Owner
node_owner layout n node = entry_owner layout n node.holder node.entry

-- an owner with at least one sector after the others
abbrev pub with_owner : List Owner → Owner → List Owner
with_owner owners o = if nat_lt 0 o.sectors then owners ++ o ∷ [] else owners

-- the owner that a number's node is, if one has it
abbrev pub owner_at : Layout → ℕ → Option Node → List Owner
owner_at layout n None = []
owner_at layout n (Some node) = with_owner [] (node_owner layout n node)

-- the owners of the numbers below a bound
abbrev pub owners_below : Layout → FinMap nat_cmp Node → ℕ → List Owner
owners_below layout nodes bound = flat_map (λ n. owner_at layout n (get nodes n)) (range_with_len 0 bound)
