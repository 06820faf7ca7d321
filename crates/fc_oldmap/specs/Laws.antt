-- What holds of reading and writing.
use Rattle.std.specs.Prelude.{◌≡◌, ℕ, List, length, None, Ok}
use Rattle.fc_bytes.specs.Words.{u24_at}
use Rattle.fc_oldmap.specs.OldMap.{OldMapContent, IsOldMap, map_units, old_map, with_holes, wrong_hole}

-- A map that is written over the bytes of its disc is read back, if no hole lies in the map's own sectors.
abbrev pub ReadsBack : Type 0
ReadsBack =
    (space : OldMapContent) (bytes : List ℕ) → length bytes ≡ 512 → u24_at bytes 252 ≡ space.disc_units → IsOldMap space
    → wrong_hole space.disc_units space.sector_units 0 (map_units space.sector_units) space.holes ≡ None
    → old_map (with_holes bytes space.holes) space.sector_units ≡ Ok space
