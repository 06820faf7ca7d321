-- What is written beside the map: sectors, and the bytes of each.
use Rattle.std.specs.Prelude.{◌≡◌, ◌⊎◌, ℕ, ◌+◌, false, List, [], ◌∷◌, length, map, get_or, Contains}
use Rattle.fc_device.specs.Sectors.{sector_at}
use Rattle.fc_objects.specs.Written.{part_at}
use Rattle.fc_image.specs.Layout.{is_among}

abbrev pub Content : Type 0
Content = List (ℕ × List ℕ)

-- its sectors
abbrev pub content_sectors : Content → List ℕ
content_sectors c = map (λ w. w.0) c

-- sectors with their bytes, where the sectors are numbered from i on
abbrev pub numbered : (ℕ → List ℕ) → ℕ → List ℕ → Content
numbered f i [] = []
numbered f i (s ∷ sectors) = (s, f i) ∷ numbered f (i + 1) sectors

-- some bytes in the sectors of an object, and zeros after them
abbrev pub stored : ℕ → List ℕ → List ℕ → Content
stored size sectors bytes = numbered (part_at size bytes) 0 sectors

-- what some sectors of an image have, one for one in others
abbrev pub copied : ℕ → List ℕ → List ℕ → List ℕ → Content
copied size was from to = numbered (λ i. sector_at size was (get_or from i 0)) 0 to

-- The image has all of it.
abbrev pub HasContent : ℕ → Content → List ℕ → Type 0
HasContent size c image = (w : ℕ × List ℕ) → Contains c w → sector_at size image w.0 ≡ w.1

-- Each sector of the image is as it was, or has its bytes of the content, or is one of the map's, of which nothing is said.
pub record IsPart (size : ℕ) (mapped : List ℕ) (c : Content) (was image : List ℕ) : Type 0 where
  pub length_stays : length image ≡ length was
  pub each : (s : ℕ) → is_among mapped s ≡ false → (sector_at size image s ≡ sector_at size was s) ⊎ Contains c (s, sector_at size image s)
