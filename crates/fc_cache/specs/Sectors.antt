-- The sectors that a cache keeps.
use Rattle.std.specs.Prelude.{◌≡◌, ◌⊎◌, ℕ, ◌+◌, ◌<◌, ◌≤◌, ◌∷◌, Bool, Option, Some, None, is_some, List, [], length, nat_eq, Vec, Contains, Result, OnOk, OnErr, IsTrue, IsFalse}
use Rattle.std.specs.Global.{Global}
use Rattle.std.specs.Map.{lookup, remove_entry}
use Rattle.lru.specs.LruCache.{LruCache, lru_cache, promoted, put_entries}
use Rattle.fc_device.specs.Sectors.{sector_at}
use Rattle.fc_cache.specs.declared.kept.Kept.{Kept}

-- each with its number
abbrev pub entries_in : Option (LruCache ℕ (Vec ℕ Global)) → List (ℕ × Vec ℕ Global)
entries_in None = []
entries_in (Some cache) = cache.entries

abbrev pub entries_of : Kept → List (ℕ × Vec ℕ Global)
entries_of kept = entries_in kept.cache

-- under number n these bytes are kept
abbrev pub Holds : Kept → ℕ → Vec ℕ Global → Type 0
Holds kept n bytes = Contains (entries_of kept) (n, bytes)

-- sector n is kept
abbrev pub is_kept : Kept → ℕ → Bool
is_kept kept n = is_some (lookup (nat_eq n) (entries_of kept))

-- each has so many bytes
abbrev pub AreWhole : ℕ → Kept → Type 0
AreWhole size kept = (n : ℕ) (bytes : Vec ℕ Global) → Holds kept n bytes → length bytes.items ≡ size

-- each is the sector of that number in the image
abbrev pub AreSectors : ℕ → List ℕ → Kept → Type 0
AreSectors size image kept = (n : ℕ) (bytes : Vec ℕ Global) → Holds kept n bytes → bytes.items ≡ sector_at size image n

-- nothing is kept that wasn't before
abbrev pub KeepsNoMore : Kept → Kept → Type 0
KeepsNoMore old new = (n : ℕ) (bytes : Vec ℕ Global) → Holds new n bytes → Holds old n bytes

-- the entries but those of some sectors
abbrev pub entries_without : List ℕ → List (ℕ × Vec ℕ Global) → List (ℕ × Vec ℕ Global)
entries_without [] entries = entries
entries_without (n ∷ sectors) entries = entries_without sectors (remove_entry (nat_eq n) entries)

-- no sector of the row is kept
abbrev pub HoldsNone : ℕ → ℕ → Kept → Type 0
HoldsNone first sectors kept = (n : ℕ) (bytes : Vec ℕ Global) → first ≤ n → n < first + sectors → Holds kept n bytes → ⊥

-- Sector n is kept with these bytes, as the one that was used last; or all is as it was, since no memory was found for it.
abbrev pub IsPut : ℕ → List ℕ → List (ℕ × Vec ℕ Global) → List (ℕ × Vec ℕ Global) → Type 0
IsPut n from old new = (new ≡ old) ⊎ ((bytes : Vec ℕ Global) × (bytes.items ≡ from) × (new ≡ put_entries nat_eq (lru_cache old 64) n bytes))

-- After sector n was read: if it was kept it is the one that was used last, and else it is put if the read succeeded.
pub record KeepsRead {T E : Type 0} (n : ℕ) (into : List ℕ) (old new : Kept) (result : Result T E) : Type 0 where
  pub hit : IsTrue (is_kept old n) → entries_of new ≡ promoted (nat_eq n) (entries_of old)
  pub miss : IsFalse (is_kept old n) → OnOk result (IsPut n into (entries_of old) (entries_of new))
  pub failed : IsFalse (is_kept old n) → OnErr result (entries_of new ≡ entries_of old)

-- After sector n was written: the old one is gone, and the new one is put if the write succeeded.
pub record KeepsWritten {T E : Type 0} (n : ℕ) (from : List ℕ) (old new : Kept) (result : Result T E) : Type 0 where
  pub written : OnOk result (IsPut n from (remove_entry (nat_eq n) (entries_of old)) (entries_of new))
  pub failed : OnErr result (entries_of new ≡ remove_entry (nat_eq n) (entries_of old))
