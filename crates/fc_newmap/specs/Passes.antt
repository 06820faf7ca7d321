-- What a pass over a copy leaves: some of its zones written anew, one after another, and then a sync.
use Rattle.std.specs.Prelude.{◌≡◌, ◌⊎◌, ℕ, ◌+◌, ◌<◌, ◌≤◌, List, length, slice_index, slice_set, bit_xor, EachIndex}
use Rattle.fc_device.specs.Sectors.{sector_at}
use Rattle.fc_record.specs.declared.Geometry.{Geometry}
use Rattle.fc_newmap.specs.declared.copies.Which.{Which}
use Rattle.fc_newmap.specs.declared.copies.Which.TheVariants.{One, Two}
use Rattle.fc_newmap.specs.Copies.{copy_start}

-- Zones low to high of the copy at sector `first` are as in the image before or new, each by itself, and no other sector has changed.
pub record IsPartWritten (size first low high : ℕ) (new : ℕ → List ℕ) (was image : List ℕ) : Type 0 where
  pub same_length : length image ≡ length was
  pub inside : (z : ℕ) → low ≤ z → z < high → (sector_at size image (first + z) ≡ sector_at size was (first + z)) ⊎ (sector_at size image (first + z) ≡ new z)
  pub outside : (s : ℕ) → (s < first + low) ⊎ (first + high ≤ s) → sector_at size image s ≡ sector_at size was s

-- These zones are new.
abbrev pub HasWritten : ℕ → ℕ → ℕ → ℕ → (ℕ → List ℕ) → List ℕ → Type 0
HasWritten size first low high new image = (z : ℕ) → low ≤ z → z < high → sector_at size image (first + z) ≡ new z

-- Of a list of zones, each is new.
abbrev pub HasEach : ℕ → ℕ → List ℕ → (ℕ → List ℕ) → List ℕ → Type 0
HasEach size first zones new image = EachIndex zones (λ k. sector_at size image (first + slice_index zones k) ≡ new (slice_index zones k))

-- A pass over one copy has ended: the zones of the list are new, and the others old or new.
pub record HasPassed (g : Geometry) (w : Which) (zones : List ℕ) (new : ℕ → List ℕ) (was image : List ℕ) : Type 0 where
  pub part : IsPartWritten g.sector (copy_start g w) 0 g.zones new was image
  pub each : HasEach g.sector (copy_start g w) zones new image

-- Copy 1 is partly written, or it is written and copy 2 is partly written.
abbrev pub PassesBoth : Geometry → List ℕ → (ℕ → List ℕ) → List ℕ → List ℕ → Type 0
PassesBoth g zones new was image =
    IsPartWritten g.sector (copy_start g One) 0 g.zones new was image
    ⊎ ((mid : List ℕ) × HasPassed g One zones new was mid × IsPartWritten g.sector (copy_start g Two) 0 g.zones new mid image)

-- Both are written.
abbrev pub HasPassedBoth : Geometry → List ℕ → (ℕ → List ℕ) → List ℕ → List ℕ → Type 0
HasPassedBoth g zones new was image = (mid : List ℕ) × HasPassed g One zones new was mid × HasPassed g Two zones new mid image

-- a zone's sector whose ZoneCheck is exclusively ored with a mask
abbrev pub masked : ℕ → List ℕ → List ℕ
masked mask sector = slice_set sector 0 (bit_xor (slice_index sector 0) mask)

-- zone z of the copy at sector `first`
abbrev pub zone_from : ℕ → List ℕ → ℕ → ℕ → List ℕ
zone_from size image first z = sector_at size image (first + z)
