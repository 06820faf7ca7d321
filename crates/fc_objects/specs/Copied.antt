-- Sectors of an object that are copied into those of another.
use Rattle.std.specs.Prelude.{◌≡◌, ◌≢◌, ◌⊎◌, ◌<◌, ℕ, List, length, get_or}
use Rattle.fc_device.specs.Sectors.{sector_at}

-- no sector is in both
abbrev pub AreOthers : List ℕ → List ℕ → Type 0
AreOthers from to = (i j : ℕ) → i < length from → j < length to → get_or from i 0 ≢ get_or to j 0

-- The first sectors of `to`, so many, have what those of `from` had.
abbrev pub AreFirstCopied : ℕ → ℕ → List ℕ → List ℕ → List ℕ → List ℕ → Type 0
AreFirstCopied size count from to was image = (i : ℕ) → i < count → sector_at size image (get_or to i 0) ≡ sector_at size was (get_or from i 0)

-- Each sector of the image is as it was, or is one of `to` and has what that of its number among `from` had.
pub record IsPartCopied (size : ℕ) (from to was image : List ℕ) : Type 0 where
  pub length_stays : length image ≡ length was
  pub each : (s : ℕ) → (sector_at size image s ≡ sector_at size was s)
      ⊎ ((i : ℕ) × (i < length from) × (i < length to) × (get_or to i 0 ≡ s) × (sector_at size image s ≡ sector_at size was (get_or from i 0)))
