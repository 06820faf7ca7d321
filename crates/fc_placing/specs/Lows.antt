-- Low bytes at which owners of an identifier are in nobody's way.
use Rattle.std.specs.Prelude.{◌≡◌, ◌<◌, ◌≤◌, ℕ, ◌+◌, Bool, true, false, ◌&&◌, ◌||◌, ◌==◌, ◌-◌, ◌*◌, nat_le, nat_lt, List, length}
use Rattle.std.specs.List.{list_all}
use Rattle.fc_alloc.specs.declared.owner.Owner.{Owner}
use Rattle.fc_image.specs.Layout.{id_sectors, low_start}
use Rattle.fc_newmap.specs.Map.{Map}

-- an owner has none of these sectors of its identifier
abbrev pub is_clear : ℕ → ℕ → Owner → Bool
is_clear first need o = nat_le (first + need) o.first || (nat_le (o.first + o.sectors) first || (o.sectors == 0))

-- how many sectors into an identifier a low byte begins, where each begins so many after the one before
abbrev pub start_of : ℕ → ℕ → ℕ
start_of step low = (low - 1) * step

-- From a low byte on, this is the least at which the owner is not in the way, where each begins so many sectors after the one before.
pub record IsPast (step need : ℕ) (o : Owner) (old new : ℕ) : Type 0 where
  pub from : old ≤ new
  pub byte : old ≤ 256 → new ≤ 256
  pub clear : new < 256 → is_clear (start_of step new) need o ≡ true
  pub least : (k : ℕ) → old ≤ k → k < new → is_clear (start_of step k) need o ≡ false
  pub near : old < new → o.first < start_of step old + need

-- This is the least low byte at which none of the owners is in the way; 256 says that there is none.
pub record IsLow (m : Map) (need : ℕ) (owners : List Owner) (low : ℕ) : Type 0 where
  pub from : 1 ≤ low
  pub byte : low ≤ 256
  pub clear : low < 256 → list_all (is_clear (low_start m low) need) owners ≡ true
  pub least : (k : ℕ) → 1 ≤ k → k < low → list_all (is_clear (low_start m k) need) owners ≡ false

-- an identifier has so many sectors from the low byte on
abbrev pub has_room : Map → ℕ → ℕ → ℕ → Bool
has_room m id low need = nat_lt low 256 && nat_le (low_start m low + need) (length (id_sectors m id))
