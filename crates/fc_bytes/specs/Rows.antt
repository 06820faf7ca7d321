-- Checks of fresh volumes, worked out.
use Rattle.std.specs.Prelude.{◌≡◌, ℕ, List, [], ◌∷◌, ◌++◌, replicate}
use Rattle.fc_bytes.specs.Checks.{boot_check, zone_check, old_check, small_dir_check, big_dir_check}

-- sector 0 of a fresh E
abbrev pub e_sector : List ℕ
e_sector =
    (0x0F ∷ 0x18 ∷ 0x82 ∷ 0xFF ∷ 0x0A ∷ 0x05 ∷ 0x02 ∷ 0x02 ∷ 0x0F ∷ 0x07 ∷ 0x01 ∷ 0x00 ∷ 0x00 ∷ 0x01 ∷ 0x20 ∷ 0x05 ∷ 0x03 ∷ 0x02 ∷ 0x00 ∷ 0x00 ∷ 0x00 ∷ 0x80 ∷ 0x0C ∷ [])
    ++ replicate 41 0 ++ (0x02 ∷ 0x00 ∷ 0x00 ∷ 0x80 ∷ []) ++ replicate 795 0 ++ (0x80 ∷ []) ++ replicate 160 0

-- the root of a fresh E: no entries, itself as parent, `$` as name and title
abbrev pub e_root : List ℕ
e_root =
    (0x00 ∷ 0x4E ∷ 0x69 ∷ 0x63 ∷ 0x6B ∷ []) ++ replicate 2005 0 ++ (0x03 ∷ 0x02 ∷ 0x00 ∷ []) ++ (0x24 ∷ 0x0D ∷ []) ++ replicate 17 0
    ++ (0x24 ∷ 0x0D ∷ []) ++ replicate 8 0 ++ (0x00 ∷ 0x4E ∷ 0x69 ∷ 0x63 ∷ 0x6B ∷ []) ++ (0x6A ∷ [])

-- the boot block of a fresh F
abbrev pub f_boot : List ℕ
f_boot =
    replicate 448 0 ++ (0x0A ∷ 0x0A ∷ 0x02 ∷ 0x04 ∷ 0x0F ∷ 0x06 ∷ 0x01 ∷ 0x00 ∷ 0x00 ∷ 0x04 ∷ 0x40 ∷ 0x06 ∷ 0x09 ∷ 0x02 ∷ 0x00 ∷ 0x00 ∷ 0x00 ∷ 0x00 ∷ 0x19 ∷ 0x00 ∷ [])
    ++ replicate 43 0 ++ (0x9E ∷ [])

-- the two halves of a fresh D's map, up to their checks: one hole of 3188 units from unit 12
abbrev pub d_starts : List ℕ
d_starts = (0x0C ∷ 0x00 ∷ 0x00 ∷ []) ++ replicate 249 0 ++ (0x80 ∷ 0x0C ∷ 0x00 ∷ [])

abbrev pub d_lengths : List ℕ
d_lengths = (0x74 ∷ 0x0C ∷ 0x00 ∷ []) ++ replicate 251 0 ++ (0x03 ∷ [])

-- the root of a fresh E+
abbrev pub e_plus_root : List ℕ
e_plus_root =
    (0 ∷ 0 ∷ 0 ∷ 0 ∷ 0x53 ∷ 0x42 ∷ 0x50 ∷ 0x72 ∷ 1 ∷ 0 ∷ 0 ∷ 0 ∷ 0 ∷ 8 ∷ 0 ∷ 0 ∷ 0 ∷ 0 ∷ 0 ∷ 0 ∷ 0 ∷ 0 ∷ 0 ∷ 0 ∷ 1 ∷ 3 ∷ 0 ∷ 0 ∷ 0x24 ∷ 0x0D ∷ 0 ∷ 0 ∷ [])
    ++ replicate 2008 0 ++ (0x6F ∷ 0x76 ∷ 0x65 ∷ 0x6E ∷ 0 ∷ 0 ∷ 0 ∷ 0x7B ∷ [])

pub record CheckRows : Type 0 where
  pub zone : zone_check e_sector ≡ 0x0F
  pub boot : boot_check f_boot ≡ 0x9E
  pub starts : old_check d_starts 255 ≡ 0x98
  pub lengths : old_check d_lengths 255 ≡ 0x83
  pub small_root : small_dir_check e_root 5 ≡ 0x6A
  pub big_root : big_dir_check e_plus_root 32 ≡ 0x7B
