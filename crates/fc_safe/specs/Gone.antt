-- Which identifiers go back.
use Rattle.std.specs.Prelude.{ℕ, ◌&&◌, not, nat_lt, Bool, List, [], ◌∷◌, if◌then◌else◌, Option, Some, None}
use Rattle.std.specs.List.{find, list_any}
use Rattle.fc_alloc.specs.declared.owner.Owner.{Owner}
use Rattle.fc_alloc.specs.Owners.{is_node, owns}
use Rattle.fc_placing.specs.Leaving.{is_kept}
use Rattle.fc_safe.specs.Staying.{remains}

-- Nobody stays in the identifier, no new object shares it, and it isn't the map's.
abbrev pub is_left : List ℕ → Option ℕ → List Owner → ℕ → Bool
is_left leaving shared owners id = nat_lt 2 id && (not (is_kept shared id) && not (list_any (remains leaving id) owners))

-- An object owned it, and none does any more.
abbrev pub is_lost_by : List ℕ → Option ℕ → List Owner → ℕ → Bool
is_lost_by leaving shared owners id = list_any (owns id) owners && is_left leaving shared owners id

-- that of a node that leaves it, if it goes back
abbrev pub left_if : List ℕ → Option ℕ → List Owner → Option Owner → List ℕ
left_if leaving shared owners None = []
left_if leaving shared owners (Some own) = if is_left leaving shared owners own.id then own.id ∷ [] else []

abbrev pub left_of : List ℕ → Option ℕ → List Owner → ℕ → List ℕ
left_of leaving shared owners n = left_if leaving shared owners (find (is_node n) owners)
