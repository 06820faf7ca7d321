-- Which sectors compaction of an old map has written at any exit, also after an I/O error.
use Rattle.std.specs.Prelude.{Some, All, false, ◌≡◌, ◌⊎◌, ℕ, ◌+◌, ◌*◌, ◌<◌, ◌≤◌, List, length}
use Rattle.std.specs.Option.{ForSome}
use Rattle.fc_device.specs.Sectors.{sector_at}
use Rattle.fc_device.specs.declared.disk.Disk.{Ghosts}
use Rattle.fc_image.specs.declared.effects.Owned.{Owned}
use Rattle.fc_image.specs.effects.Moves.{is_in_body, is_in_hole}
use Rattle.fc_oldmap.specs.OldMap.{OldMapContent}

-- R leads from the bytes of the disk before to those after, if it tells them.
abbrev pub Leaves : {D : Type 0} → Ghosts D → D → D → (List ℕ → List ℕ → Type 0) → Type 0
Leaves d old new R = ForSome (d.bytes old) (λ was. (image : List ℕ) × (d.bytes new ≡ Some image) × R was image)

-- Only sectors of one row have changed.
pub record ChangesRow (size first n : ℕ) (was image : List ℕ) : Type 0 where
  pub long : length image ≡ length was
  pub others : (s : ℕ) → (s < first) ⊎ (first + n ≤ s) → sector_at size image s ≡ sector_at size was s

-- Only sectors of objects and of holes have changed, and none that lies before all holes.
pub record ChangesRoom (space : OldMapContent) (owned : List Owned) (was image : List ℕ) : Type 0 where
  pub long : length image ≡ length was
  pub others : (s : ℕ) → is_in_body space.sector_units owned s ≡ false → is_in_hole space.sector_units space.holes s ≡ false
      → sector_at (256 * space.sector_units) image s ≡ sector_at (256 * space.sector_units) was s
  pub low : (s : ℕ) → All (λ h. space.sector_units * s < h.start) space.holes → sector_at (256 * space.sector_units) image s ≡ sector_at (256 * space.sector_units) was s
