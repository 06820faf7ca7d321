-- Which objects keep their bytes after a write to other sectors.
use Rattle.std.specs.Prelude.{◌≡◌, ℕ, false, List}
use Rattle.fc_device.specs.Sectors.{sector_at}
use Rattle.fc_newmap.specs.Map.{Map, map_sectors}
use Rattle.fc_image.specs.Layout.{is_among}

-- The images differ at most in the map and in these sectors.
abbrev pub WritesOnly : Map → List ℕ → List ℕ → List ℕ → Type 0
WritesOnly m sectors image image' = (s : ℕ) → is_among sectors s ≡ false → is_among (map_sectors m.geometry) s ≡ false
    → sector_at m.geometry.sector image' s ≡ sector_at m.geometry.sector image s
