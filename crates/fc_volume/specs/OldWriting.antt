-- What writing leaves of an image with an old map.
use Rattle.std.specs.Prelude.{◌≡◌, ◌≤◌, ◌-◌, ◌*◌, ◌++◌, ℕ, List, [], drop, length, take}
use Rattle.fc_device.specs.Sectors.{sector_at}
use Rattle.fc_bytes.specs.Words.{bytes_at}
use Rattle.fc_oldmap.specs.OldMap.{OldMapContent, with_holes}
use Rattle.fc_changes.specs.old.Owed.{IsWritten}

-- No sector changes but the first ones, of this count.
pub record ChangesFront (size count : ℕ) (was image : List ℕ) : Type 0 where
  pub length_stays : length image ≡ length was
  pub outside : (s : ℕ) → count ≤ s → sector_at size image s ≡ sector_at size was s

-- The first bytes, as many as some sectors have, are those that were there with the holes of this map.
pub record IsFrontWritten (space : OldMapContent) (len : ℕ) (was image : List ℕ) : Type 0 where
  pub bytes : take len image ≡ with_holes (take 512 (take len was)) space.holes ++ drop 512 (take len was)
  pub long : length (with_holes (take 512 (take len was)) space.holes) ≡ 512

-- The map on the disk has the holes of this one, and nothing else changes.
pub record IsMapWritten (space : OldMapContent) (was image : List ℕ) : Type 0 where
  pub written : IsWritten space [] was image
  pub front : bytes_at image 0 512 ≡ with_holes (bytes_at was 0 512) space.holes
  pub rest : bytes_at image 512 (256 * space.sector_units - 512) ≡ bytes_at was 512 (256 * space.sector_units - 512)
