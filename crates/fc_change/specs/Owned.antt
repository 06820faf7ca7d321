-- The owner that the object of an entry is.
use Rattle.std.specs.Prelude.{◌≡◌, ℕ, not, nat_lt, List, [], ◌∷◌, ◌++◌, if◌then◌else◌, Option, Some, None, Contains, IsFalse, IsPermutation}
use Rattle.std.specs.Int.{div_ceil}
use Rattle.fc_names.specs.Names.{is_directory}
use Rattle.fc_dirs.specs.declared.Entry.{Entry}
use Rattle.fc_alloc.specs.declared.owner.Owner.{Owner}
use Rattle.fc_alloc.specs.Owners.{has_node, with_changed}
use Rattle.fc_image.specs.Layout.{Layout, dir_form, id_of, low_of, sector_bytes}
use Rattle.fc_image.specs.Walk.{object_size}
use Rattle.fc_tree.specs.Parts.{first_in}

-- by the numbers of its node and of its holder's
abbrev pub entry_owner : Layout → ℕ → ℕ → Entry → Owner
entry_owner layout n holder e = record {
  id = id_of e.address;
  dir = holder;
  node = n;
  file = not (is_directory e.attrs);
  low = low_of e.address;
  first = first_in layout (low_of e.address);
  sectors = div_ceil (object_size (dir_form layout) e) (sector_bytes layout);
}

-- none if it has no sector
abbrev pub owner_if : Layout → ℕ → ℕ → Entry → Option Owner
owner_if layout n holder e = if nat_lt 0 (entry_owner layout n holder e).sectors then Some (entry_owner layout n holder e) else None

-- the owners with one more, if there is one, and none of its node is there
abbrev pub owners_with_room : Option Owner → List Owner → List Owner
owners_with_room None owners = owners
owners_with_room (Some o) owners = if has_node owners o.node then owners else owners ++ o ∷ []

-- The node's owner has gone, if it had one.
pub record HasNoOwner (node : ℕ) (was now : List Owner) : Type 0 where
  pub gone : (o : Owner) → Contains was o → o.node ≡ node → IsPermutation was (o ∷ now)
  pub none : IsFalse (has_node was node) → now ≡ was

-- It has become this; without sectors there is none.
abbrev pub IsOwnerNow : ℕ → Option Owner → List Owner → List Owner → Type 0
IsOwnerNow node (Some o) was now = now ≡ with_changed o was
IsOwnerNow node None was now = HasNoOwner node was now
