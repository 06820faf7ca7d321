-- A disk that is attached, and the bytes of its sectors.
use Rattle.std.specs.Prelude.{◌≡◌, ◌<◌, ◌≤◌, ℕ, List, All, true}
use Rattle.fc_device.specs.declared.disk.Disk.{Ghosts}

-- its sectors have so many bytes
pub record IsReadable {D : Type 0} (d : Ghosts D) (disk : D) (size : ℕ) : Type 0 where
  pub is_attached : d.attached disk ≡ true
  pub sized : d.sector_size disk ≡ size
  pub few : size ≤ 1024

-- these sectors are on it
abbrev pub HasSectors : {D : Type 0} → Ghosts D → D → List ℕ → Type 0
HasSectors d disk sectors = All (λ s. s < d.sectors disk) sectors
