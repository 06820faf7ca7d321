-- The two copies of a map on the disc, and which of them counts.
use Rattle.std.specs.Prelude.{◌≡◌, ℕ, ◌+◌, Bool, true, not, ◌==◌, ◌&&◌, List, [], map, slice_index, slice_index_or, slice_set, if◌then◌else◌, Result, Ok, Err, ◌⊎◌, ◌<◌, ◌≤◌, ◌*◌, length}
use Rattle.std.specs.List.{range_with_len, list_all, position_or_len, fold}
use Rattle.fc_device.specs.Sectors.{sector_at}
use Rattle.fc_bytes.specs.Checks.{zone_check, xor_all}
use Rattle.fc_record.specs.declared.Geometry.{Geometry}
use Rattle.fc_zone.specs.Edits.{sealed}
use Rattle.fc_newmap.specs.declared.copies.Which.{Which}
use Rattle.fc_newmap.specs.declared.copies.Which.TheVariants.{One, Two}

-- the sector at which a copy begins
abbrev pub copy_start : Geometry → Which → ℕ
copy_start g One = g.map_sector
copy_start g Two = g.map_sector + g.zones

-- the sectors of a copy
abbrev pub copy_of : Geometry → Which → List ℕ → List (List ℕ)
copy_of g w image = map (sector_at g.sector image) (range_with_len (copy_start g w) g.zones)

-- A zone's sector has its right ZoneCheck.
abbrev pub is_check_right : List ℕ → Bool
is_check_right sector = slice_index sector 0 == zone_check sector

-- the exclusive or of the sectors' CrossChecks
abbrev pub cross_of : List (List ℕ) → ℕ
cross_of zones = xor_all (map (λ sector. slice_index sector 3) zones)

-- All ZoneChecks are right, and the CrossChecks come to &FF.
unfoldable pub is_sound : List (List ℕ) → Bool
is_sound zones = list_all is_check_right zones && (cross_of zones == 255)

-- of a copy that isn't sound: the first zone whose check is wrong, or the number of zones, if none is
abbrev pub unsound_zone : List (List ℕ) → ℕ
unsound_zone zones = position_or_len (λ sector. not (is_check_right sector)) zones

-- copy 1 if it is sound, else copy 2 if it is; else where each of the two is wrong
unfoldable pub chosen : Geometry → List ℕ → Result Which (ℕ × ℕ)
chosen g image =
    if is_sound (copy_of g One image) then Ok One
    else if is_sound (copy_of g Two image) then Ok Two
    else Err (unsound_zone (copy_of g One image), unsound_zone (copy_of g Two image))

-- Both copies are these zones, and sound.
pub record HoldsCopies (g : Geometry) (zones : List (List ℕ)) (image : List ℕ) : Type 0 where
  pub first : copy_of g One image ≡ zones
  pub second : copy_of g Two image ≡ zones
  pub sound : is_sound zones ≡ true

-- The copy that counts is these zones.
pub record Chooses (g : Geometry) (zones : List (List ℕ)) (image : List ℕ) : Type 0 where
  pub which : Which
  pub chosen_one : chosen g image ≡ Ok which
  pub content : copy_of g which image ≡ zones

-- Of an image at a start, no sector outside the two copies has changed, and its length hasn't.
pub record ChangesCopies (g : Geometry) (start image : List ℕ) : Type 0 where
  pub same_length : length image ≡ length start
  pub outside : (s : ℕ) → (s < g.map_sector) ⊎ (g.map_sector + 2 * g.zones ≤ s) → sector_at g.sector image s ≡ sector_at g.sector start s

-- What a crash inside a commit may leave: the old map or the new one, whole.
pub record CommitLeaves (g : Geometry) (start : List ℕ) (old new : List (List ℕ)) (image : List ℕ) : Type 0 where
  pub frame : ChangesCopies g start image
  pub content : Chooses g old image ⊎ Chooses g new image

-- What a crash inside a repair may leave: the content of the copy that was chosen at the start, and that copy as it was.
pub record RepairLeaves (g : Geometry) (start : List ℕ) (w : Which) (image : List ℕ) : Type 0 where
  pub frame : ChangesCopies g start image
  pub content : Chooses g (copy_of g w start) image
  pub source : copy_of g w image ≡ copy_of g w start

-- the zones of a map, of which these have their right ZoneChecks; the CrossChecks stay, and with them their total
abbrev pub sealed_zones : List ℕ → List (List ℕ) → List (List ℕ)
sealed_zones changed zones = fold (λ zs z. slice_set zs z (sealed (slice_index_or zs z []))) zones changed

-- What a commit leaves at its end, also one of any number of zones: both copies are these zones.
pub record CommitEnds (g : Geometry) (start : List ℕ) (new : List (List ℕ)) (image : List ℕ) : Type 0 where
  pub frame : ChangesCopies g start image
  pub copies : HoldsCopies g new image
