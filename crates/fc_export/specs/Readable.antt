-- A disk whose sectors can be read.
use Rattle.std.specs.Prelude.{◌≡◌, ◌<◌, ◌≤◌, ℕ, List, All, Option, option_map, true}
use Rattle.fc_device.specs.declared.disk.Disk.{Ghosts}
use Rattle.fc_objects.specs.Bytes.{first_bytes}

-- It is attached, its sectors have so many bytes, and these sectors are on it.
pub record IsReadable {D : Type 0} (d : Ghosts D) (disk : D) (size : ℕ) (sectors : List ℕ) : Type 0 where
  pub is_attached : d.attached disk ≡ true
  pub sized : d.sector_size disk ≡ size
  pub few : size ≤ 1024
  pub on_disk : All (λ s. s < d.sectors disk) sectors

-- the first bytes of these sectors, if the disk tells its bytes
abbrev pub told_bytes : {D : Type 0} → Ghosts D → D → ℕ → List ℕ → ℕ → Option (List ℕ)
told_bytes d disk size sectors len = option_map (λ image. first_bytes size image sectors len) (d.bytes disk)
