-- What is kept beside a list of owners: where the owner of a node stands, how many have an identifier, and whom each directory holds.
use Rattle.std.specs.Prelude.{◌≡◌, ◌<◌, ◌≤◌, ℕ, List, length, slice_index, slice_index_or, count_by}
use Rattle.std.specs.List.{All}
use Rattle.fc_alloc.specs.declared.owner.Owner.{Owner}
use Rattle.fc_alloc.specs.declared.held.Held.{Held}
use Rattle.fc_alloc.specs.Owners.{owns}
use Rattle.fc_alloc.specs.Held.{AreHeld}

-- each owner's place in the list, by its node; other nodes may have any number
abbrev pub ArePlaces : List Owner → List ℕ → Type 0
ArePlaces owners places = (k : ℕ) (d : Owner) → k < length owners → ((slice_index_or owners k d).node < length places) × (slice_index places (slice_index_or owners k d).node ≡ k)

-- how many owners have each identifier below the table's end
abbrev pub AreCounts : List Owner → List ℕ → Type 0
AreCounts owners counts = (id : ℕ) → id < length counts → slice_index counts id ≡ count_by (owns id) owners

-- no owner has a greater identifier
abbrev pub IsTop : List Owner → ℕ → Type 0
IsTop owners top = All (λ o. o.id ≤ top) owners

-- all that is kept
pub record IsIndexed (owners : List Owner) (places counts : List ℕ) (top : ℕ) (held : Held) : Type 0 where
  pub placed : ArePlaces owners places
  pub counted : AreCounts owners counts
  pub highest : IsTop owners top
  pub held_by_dir : AreHeld owners held
