-- The owners of a volume own what its objects own.
use Rattle.std.proofs.Common.{◌≡◌, ℕ, Bool, true, false, List, [], ◌∷◌, map, refl, ap, ◌∙◌}
use Rattle.std.specs.Prelude.{filter, ◌==◌, ◌||◌}
use Rattle.std.specs.List.{list_any}
use Rattle.std.specs.Ordering.{nat_cmp}
use Rattle.std.specs.FinMap.{FinMap}
use Rattle.std.proofs.lemmas.List.Sorted.{list_any-IsPermutation}
use Rattle.fc_alloc.specs.declared.owner.Owner.{Owner}
use Rattle.fc_alloc.specs.Owners.{owns}
use Rattle.fc_image.specs.Layout.{Layout, id_of}
use Rattle.fc_image.specs.Walk.{Object}
use Rattle.fc_image.specs.Objects.{has_sectors, is_owner_of}
use Rattle.fc_compact.specs.Ready.{AreOwnersOf}
use Rattle.fc_tree.specs.declared.node.Node.{Node}
use Rattle.fc_tree.specs.Parts.{AreOwners, owner_of}

each_owner : (nodes : FinMap nat_cmp Node) (layout : Layout) (id : ℕ) (os : List Object) → list_any (owns id) (map (owner_of nodes layout) (filter has_sectors os)) ≡ list_any (is_owner_of id) os
each_owner nodes layout id [] = refl
each_owner nodes layout id (o ∷ os) = by (has_sectors o) refl (each_owner nodes layout id os)
  where
    by : (b : Bool) → has_sectors o ≡ b → list_any (owns id) (map (owner_of nodes layout) (filter has_sectors os)) ≡ list_any (is_owner_of id) os
        → list_any (owns id) (map (owner_of nodes layout) (filter has_sectors (o ∷ os))) ≡ list_any (is_owner_of id) (o ∷ os)
    by true e rest = rw e (ap (λ b. (id_of o.entry.address == id) || b) rest)
    by false e rest = rw e rest

pub own_same : (owners : List Owner) (nodes : FinMap nat_cmp Node) (layout : Layout) (objects : List Object) → AreOwners owners nodes layout objects → AreOwnersOf owners objects
own_same owners nodes layout objects owned id =
    ap (λ b. (id == 2) || b) (list_any-IsPermutation (owns id) owners (map (owner_of nodes layout) (filter has_sectors objects)) owned ∙ each_owner nodes layout id objects)
