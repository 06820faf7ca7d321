-- Which identifiers go back if an object goes, and perhaps another comes in its place.
use Rattle.std.specs.Prelude.{◌≡◌, ℕ, Bool, true, false, not, ◌==◌, ◌&&◌, ◌||◌, List, ◌∷◌, ◌++◌, IsPermutation, Option, Some, None, if◌then◌else◌}
use Rattle.std.specs.List.{find, list_any}
use Rattle.std.specs.Option.{option_and_then, option_map_or}
use Rattle.std.specs.Ordering.{nat_cmp}
use Rattle.std.specs.FinMap.{FinMap}
use Rattle.fc_alloc.specs.declared.owner.Owner.{Owner}
use Rattle.fc_alloc.specs.Owners.{is_node}
use Rattle.fc_newmap.specs.Map.{Map, is_used}
use Rattle.fc_newmap.specs.NewMap.{IsNewMap}
use Rattle.fc_image.specs.Layout.{Layout}
use Rattle.fc_image.specs.Walk.{Object, Listing}
use Rattle.fc_image.specs.Objects.{is_owner_of, objects_of}
use Rattle.fc_image.specs.Sound.{AreSound}
use Rattle.fc_tree.specs.declared.node.Node.{Node}
use Rattle.fc_tree.specs.Nodes.{number_of, HoldObjects}
use Rattle.fc_tree.specs.Parts.{AreOwners}
use Rattle.fc_plan.specs.Giving.{is_one_of}
use Rattle.fc_changes.specs.Owed.{GivesBack}

-- the identifier is the one that is kept
abbrev pub is_kept : Option ℕ → ℕ → Bool
is_kept kept id = option_map_or (λ k. k == id) kept false

-- an owner of another node has the identifier
abbrev pub has_other : List Owner → ℕ → ℕ → Bool
has_other owners node id = list_any (λ o. (o.id == id) && not (o.node == node)) owners

-- the owner's identifier, unless it is the map's, or kept, or another owner has it
abbrev pub left_of : List Owner → ℕ → Option ℕ → Owner → Option ℕ
left_of owners node kept own = if (own.id == 2) || (is_kept kept own.id || has_other owners node own.id) then None else Some own.id

-- what the node's owner leaves
abbrev pub left_among : List Owner → ℕ → Option ℕ → Option ℕ
left_among owners node kept = option_and_then (left_of owners node kept) (find (is_node node) owners)

-- Of the identifiers that the map uses these objects own the one that is kept, and no other.
abbrev pub OwnOnly : Map → Option ℕ → List Object → Type 0
OwnOnly m kept objects = (id : ℕ) → is_used m id ≡ true → list_any (is_owner_of id) objects ≡ is_kept kept id

-- The node's object goes, and `new` come, which own no identifier but `kept` that was used: then these identifiers go back.
abbrev pub LeavesIds : List Owner → ℕ → Option ℕ → List ℕ → Type 0
LeavesIds owners node kept gone = (m : Map) (nodes : FinMap nat_cmp Node) (listings : List Listing) (o : Object) (stay new : List Object)
    → AreSound (Layout.New m) listings → HoldObjects nodes listings → AreOwners owners nodes (Layout.New m) (objects_of listings)
    → number_of nodes o.path ≡ Some node → IsPermutation (objects_of listings) (o ∷ stay) → OwnOnly m kept new
    → GivesBack m gone (objects_of listings) (new ++ stay)

-- No identifier without runs goes back, as that of a plan that is taken before.
abbrev pub LeavesUsed : List Owner → List ℕ → Type 0
LeavesUsed owners gone = (m : Map) (nodes : FinMap nat_cmp Node) (listings : List Listing) (id : ℕ) → IsNewMap m → AreSound (Layout.New m) listings
    → AreOwners owners nodes (Layout.New m) (objects_of listings) → is_used m id ≡ false → is_one_of gone id ≡ false
