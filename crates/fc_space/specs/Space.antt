-- A map as a disc's layout, and what places on the disc have.
use Rattle.std.specs.Prelude.{◌≡◌, ◌<◌, ◌≤◌, ℕ, ◌*◌, true, List, length, slice_get, Option, Some, All}
use Rattle.std.specs.Option.{option_and_then}
use Rattle.fc_device.specs.declared.disk.Extent.{Extent}
use Rattle.fc_image.specs.Layout.{Layout, disc_sectors, is_among, sector_bytes, sectors_at}
use Rattle.fc_space.specs.declared.space.Space.{Space}
use Rattle.fc_space.specs.declared.space.Space.TheVariants.{OldMapped, NewMapped}

-- the layout that a map gives
abbrev pub layout_of : Space → Layout
layout_of (OldMapped map) = Layout.Old map
layout_of (NewMapped map) = Layout.New map

-- The sectors lie on the disc, and have room for so many bytes.
pub record Suffice (layout : Layout) (bytes : ℕ) (sectors : List ℕ) : Type 0 where
  pub on_disc : (s : ℕ) → is_among sectors s ≡ true → s < disc_sectors layout
  pub room : bytes ≤ length sectors * sector_bytes layout

-- No extent is empty.
abbrev pub HaveSectors : List Extent → Type 0
HaveSectors extents = All (λ e. 0 < e.sectors) extents

-- the sector of this number, from 0, among those of the bytes at an address
abbrev pub nth_sector : Layout → ℕ → ℕ → ℕ → Option ℕ
nth_sector layout address bytes n = option_and_then (λ sectors. slice_get sectors n) (sectors_at layout address bytes)

-- Bytes that have a place lie on the disc, with room for all of them.
abbrev pub PlacesSuffice : Layout → Type 0
PlacesSuffice layout = (address bytes : ℕ) (sectors : List ℕ) → sectors_at layout address bytes ≡ Some sectors → Suffice layout bytes sectors
