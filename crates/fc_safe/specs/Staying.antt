-- What stays in its identifier, and how far an identifier reaches then.
use Rattle.std.specs.Prelude.{◌≡◌, ◌<◌, ℕ, ◌+◌, ◌*◌, ◌^◌, ◌==◌, ◌&&◌, max, not, Bool, List, [], ◌∷◌, filter, length, get_or, if◌then◌else◌, Option, Some, None}
use Rattle.std.specs.List.{find, fold, list_any, range_with_len}
use Rattle.fc_alloc.specs.declared.owner.Owner.{Owner}
use Rattle.fc_alloc.specs.Owners.{is_node}
use Rattle.fc_record.specs.declared.Geometry.{Geometry}
use Rattle.fc_record.specs.Record.{id_limit}
use Rattle.fc_plan.specs.Giving.{is_one_of}
use Rattle.fc_safe.specs.declared.staying.Longer.{Longer}
use Rattle.fc_safe.specs.declared.staying.Moving.{Moving}

-- ---- owners

-- The owner has the identifier and stays in it.
abbrev pub remains : List ℕ → ℕ → Owner → Bool
remains leaving id o = (o.id == id) && not (is_one_of leaving o.node)

-- the sectors that it has then
abbrev pub sectors_then : Option Longer → Owner → ℕ
sectors_then None o = o.sectors
sectors_then (Some l) o = if o.node == l.node then l.sectors else o.sectors

-- the bytes of its identifier up to its end
abbrev pub end_then : Geometry → Option Longer → Owner → ℕ
end_then g longer o = (o.first + sectors_then longer o) * g.sector

-- It has some sectors, and not too many to count their bytes.
pub record IsSized (longer : Option Longer) (o : Owner) : Type 0 where
  pub some : 0 < sectors_then longer o
  pub few : o.first + sectors_then longer o < 2 ^ 48

-- ---- identifiers

-- where the identifier ends by these owners: at the end of the last of them that stays in it
abbrev pub last_end : Geometry → List ℕ → Option Longer → List Owner → ℕ → ℕ
last_end g leaving longer owners id = fold (λ n o. max n (end_then g longer o)) 0 (filter (remains leaving id) owners)

-- A directory that is written anew stays in the identifier.
abbrev pub holds_changed : List ℕ → List ℕ → List Owner → ℕ → Bool
holds_changed changed leaving owners id = list_any (λ (o : Owner). is_one_of changed o.node && remains leaving id o) owners

-- the identifiers with such a directory, rising
abbrev pub changed_ids : Geometry → List ℕ → List ℕ → List Owner → List ℕ
changed_ids g changed leaving owners = filter (holds_changed changed leaving owners) (range_with_len 0 (id_limit g))

-- The owner stays in one of these identifiers, and isn't written anew.
abbrev pub is_carried : List ℕ → List ℕ → List ℕ → Owner → Bool
is_carried changed leaving ids o = is_one_of ids o.id && (not (is_one_of leaving o.node) && not (is_one_of changed o.node))

-- ---- how they are found

-- an owner that stays, if there is one
abbrev pub staying : List ℕ → Option Owner → List Owner
staying leaving None = []
staying leaving (Some o) = if is_one_of leaving o.node then [] else o ∷ []

-- that of a node
abbrev pub staying_of : List Owner → List ℕ → ℕ → List Owner
staying_of owners leaving n = staying leaving (find (is_node n) owners)

-- an end by one owner more
abbrev pub raised : Geometry → List ℕ → Option Longer → Owner → ℕ → ℕ → ℕ
raised g leaving longer o id end = if remains leaving id o then max end (end_then g longer o) else end

-- So it is with each.
abbrev pub AreRaised : Geometry → Moving → List ℕ → Owner → List ℕ → List ℕ → Type 0
AreRaised g moving ids o old new = (k : ℕ) → k < length ids → get_or new k 0 ≡ raised g moving.leaving.items moving.longer o (get_or ids k 0) (get_or old k 0)
