-- Bytes in the sectors of an object.
use Rattle.std.specs.Prelude.{◌≡◌, ◌≢◌, ◌⊎◌, ◌<◌, ◌≤◌, ℕ, ◌+◌, ◌*◌, List, ◌++◌, All, length, take, drop, get_or, replicate}
use Rattle.fc_device.specs.declared.disk.Disk.{Ghosts}
use Rattle.fc_device.specs.Sectors.{sector_at}
use Rattle.fc_device.specs.Stops.{LeavesOnly}

-- the first bytes as a whole sector: if there are fewer, zeros follow them
unfoldable pub padded : ℕ → List ℕ → List ℕ
padded size bytes = take size (bytes ++ replicate size 0)

-- the part of some bytes that the sector of this number among those of an object has
abbrev pub part_at : ℕ → List ℕ → ℕ → List ℕ
part_at size bytes i = padded size (drop (i * size) bytes)

-- no two of these are the same
abbrev pub AreApart : List ℕ → Type 0
AreApart sectors = (i j : ℕ) → i < j → j < length sectors → get_or sectors i 0 ≢ get_or sectors j 0

-- these sectors are whole in the image
abbrev pub AreIn : ℕ → List ℕ → List ℕ → Type 0
AreIn size sectors image = All (λ s. s * size + size ≤ length image) sectors

-- each of these sectors has its part of the bytes
abbrev pub HasParts : ℕ → List ℕ → List ℕ → List ℕ → Type 0
HasParts size sectors bytes image = (i : ℕ) → i < length sectors → sector_at size image (get_or sectors i 0) ≡ part_at size bytes i

-- Each sector of the image is as it was, or is one of these and has its part of the bytes.
pub record IsPartWritten (size : ℕ) (sectors bytes was image : List ℕ) : Type 0 where
  pub length_stays : length image ≡ length was
  pub each : (s : ℕ) → (sector_at size image s ≡ sector_at size was s)
      ⊎ ((i : ℕ) × (i < length sectors) × (get_or sectors i 0 ≡ s) × (sector_at size image s ≡ part_at size bytes i))

-- A crash since old leaves what a crash at old might leave, with each of these sectors as it is there or with its part of the bytes.
abbrev pub StopsTear : {D : Type 0} → Ghosts D → D → D → List ℕ → List ℕ → Type 0
StopsTear d old new sectors bytes = LeavesOnly d.moment d.left_since old new
    (λ image. (was : List ℕ) × d.left_since old (d.moment old) was × (AreIn (d.sector_size old) sectors was → IsPartWritten (d.sector_size old) sectors bytes was image))
