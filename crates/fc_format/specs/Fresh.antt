-- Fresh volumes, byte for byte.
use Rattle.std.specs.Prelude.{ℕ, ◌-◌, List, [], ◌∷◌, ◌++◌, length, drop, replicate, slice_set, Option, codes}
use Rattle.std.specs.List.{fold, find}
use Rattle.std.specs.Option.{option_map}
use Rattle.std.specs.Str.{bytes_eq}
use Rattle.byteorder.specs.Endian.{little_bytes}
use Rattle.fc_bytes.specs.Bits.{overwritten}
use Rattle.fc_bytes.specs.Checks.{boot_check, small_dir_check, big_dir_check}
use Rattle.fc_zone.specs.Edits.{sealed}
use Rattle.fc_oldmap.specs.Holes.{hole}
use Rattle.fc_oldmap.specs.OldMap.{with_holes}
use Rattle.fc_dirs.specs.Entries.{padded_name}
use Rattle.fc_dirs.specs.Small.{nick_word, hugo_word}
use Rattle.fc_format.specs.declared.Format.{Format}
use Rattle.fc_format.specs.declared.Format.TheVariants.{E, F, D, L, EPlus, FPlus}

-- n bytes 0
abbrev pub zeros : ℕ → List ℕ
zeros n = replicate n 0

-- bytes with some of them at their places
abbrev pub with_bytes : List (ℕ × ℕ) → List ℕ → List ℕ
with_bytes places bytes = fold (λ bs p. slice_set bs p.0 p.1) bytes places

-- the disc's bytes
abbrev pub format_size : Format → ℕ
format_size E = 819200
format_size F = 1638400
format_size D = 819200
format_size L = 655360
format_size EPlus = 819200
format_size FPlus = 1638400

-- the words that name the formats
abbrev pub format_words : List (List ℕ × Format)
format_words =
    (codes "E", E) ∷ (codes "F", F) ∷ (codes "D", D) ∷ (codes "L", L) ∷ (codes "E+", EPlus) ∷ (codes "F+", FPlus) ∷ []

-- the format that a word names
abbrev pub format_of : List ℕ → Option Format
format_of word = option_map (λ f. f.1) (find (λ f. bytes_eq f.0 word) format_words)

-- ---- records: the bytes that aren't 0

-- the record of an E
abbrev pub e_record : List ℕ
e_record = with_bytes (
    (0, 10) ∷ (1, 5) ∷ (2, 2) ∷ (3, 2) ∷ (4, 15) ∷ (5, 7) ∷ (6, 1) ∷ (9, 1) ∷ (10, 0x20) ∷ (11, 5) ∷ (12, 3) ∷ (13, 2) ∷ (17, 0x80) ∷ (18, 0x0C) ∷ [])
    (zeros 60)

-- the record of an F
abbrev pub f_record : List ℕ
f_record = with_bytes (
    (0, 10) ∷ (1, 10) ∷ (2, 2) ∷ (3, 4) ∷ (4, 15) ∷ (5, 6) ∷ (6, 1) ∷ (9, 4) ∷ (10, 0x40) ∷ (11, 6) ∷ (12, 9) ∷ (13, 2) ∷ (18, 0x19) ∷ [])
    (zeros 60)

-- version 1, root &301, root size 2048
abbrev pub plus_record : List ℕ → List ℕ
plus_record record' = with_bytes ((12, 1) ∷ (13, 3) ∷ (44, 1) ∷ (49, 8) ∷ []) record'

-- ---- maps: a zone's bytes that aren't 0, its record, and its check

-- zone 0 with its record
abbrev pub zone0 : List ℕ → List (ℕ × ℕ) → List ℕ
zone0 record' places = sealed (with_bytes places (overwritten (zeros 1024) 4 record'))

-- another zone
abbrev pub zone_at : List (ℕ × ℕ) → List ℕ
zone_at places = sealed (with_bytes places (zeros 1024))

-- identifier 2 with 32 bits, and a hole
abbrev pub e_map : List ℕ
e_map = zone0 e_record ((1, 0x18) ∷ (2, 0x82) ∷ (3, 0xFF) ∷ (64, 2) ∷ (67, 0x80) ∷ (863, 0x80) ∷ [])

-- identifiers 2 and 3 with 16 bits each, and a hole
abbrev pub e_plus_map : List ℕ
e_plus_map = zone0 (plus_record e_record) ((1, 0x18) ∷ (2, 0x82) ∷ (3, 0xFF) ∷ (64, 2) ∷ (65, 0x80) ∷ (66, 3) ∷ (67, 0x80) ∷ (863, 0x80) ∷ [])

-- identifier 2 with 64 bits, and a hole
abbrev pub f_zone0 : List ℕ → List ℕ
f_zone0 record' = zone0 record' ((1, 0x38) ∷ (2, 0x82) ∷ (3, 0xFF) ∷ (64, 2) ∷ (71, 0x80) ∷ (827, 0x80) ∷ [])

-- one hole
abbrev pub f_zone1 : List ℕ
f_zone1 = zone_at ((1, 0x18) ∷ (2, 0x80) ∷ (827, 0x80) ∷ [])

-- identifier 2 with 160 bits, and a hole; or 128 bits, identifier 3 with 32, and a hole
abbrev pub f_zone2 : List ℕ
f_zone2 = zone_at ((1, 0xB8) ∷ (2, 0x80) ∷ (4, 2) ∷ (23, 0x80) ∷ (827, 0x80) ∷ [])

-- identifiers 2 and 3 of an F+, and a hole
abbrev pub f_plus_zone2 : List ℕ
f_plus_zone2 = zone_at ((1, 0xB8) ∷ (2, 0x80) ∷ (4, 2) ∷ (19, 0x80) ∷ (20, 3) ∷ (23, 0x80) ∷ (827, 0x80) ∷ [])

-- one hole up to the disc's end
abbrev pub f_zone3 : List ℕ
f_zone3 = zone_at ((1, 0x18) ∷ (2, 0x80) ∷ (791, 0x80) ∷ [])

-- the map of an F
abbrev pub f_map : List ℕ
f_map = f_zone0 f_record ++ f_zone1 ++ f_zone2 ++ f_zone3

-- the map of an F+
abbrev pub f_plus_map : List ℕ
f_plus_map = f_zone0 (plus_record f_record) ++ f_zone1 ++ f_plus_zone2 ++ f_zone3

-- ---- boot block and roots

-- the boot block of a record
abbrev pub boot_block : List ℕ → List ℕ
boot_block record' = unchecked ++ boot_check unchecked ∷ []
  where
    unchecked : List ℕ
    unchecked = zeros 448 ++ record' ++ zeros 3

-- an empty directory of 2048 bytes, `$`
abbrev pub new_root : ℕ → List ℕ
new_root parent = unchecked ++ small_dir_check (unchecked ++ 0 ∷ []) 5 ∷ []
  where
    unchecked : List ℕ
    unchecked = 0 ∷ nick_word ++ zeros 2005 ++ little_bytes 3 parent ++ padded_name 19 (36 ∷ []) ++ padded_name 10 (36 ∷ []) ++ 0 ∷ nick_word

-- an empty directory of 1280 bytes, `$`
abbrev pub old_root : ℕ → List ℕ
old_root parent = 0 ∷ hugo_word ++ zeros 1223 ++ padded_name 10 (36 ∷ []) ++ little_bytes 3 parent ++ padded_name 19 (36 ∷ []) ++ zeros 14 ++ 0 ∷ hugo_word ++ 0 ∷ []

-- an empty big directory, `$`
abbrev pub big_root : ℕ → List ℕ
big_root parent = unchecked ++ big_dir_check (unchecked ++ 0 ∷ []) 32 ∷ []
  where
    unchecked : List ℕ
    unchecked =
        zeros 4 ++ (0x53 ∷ 0x42 ∷ 0x50 ∷ 0x72 ∷ 1 ∷ 0 ∷ 0 ∷ 0 ∷ 0 ∷ 8 ∷ []) ++ zeros 10 ++ little_bytes 4 parent ++ (36 ∷ 13 ∷ 0 ∷ 0 ∷ [])
        ++ zeros 2008 ++ (0x6F ∷ 0x76 ∷ 0x65 ∷ 0x6E ∷ 0 ∷ 0 ∷ 0 ∷ [])

-- an old map with no name, and one hole from the root's end to the disc's end
abbrev pub old_map_with : ℕ → ℕ → List ℕ
old_map_with units first = with_holes (zeros 252 ++ little_bytes 3 units ++ zeros 257) (hole first (units - first) ∷ [])

-- ---- discs

-- what stands before the last zeros of the disc
abbrev pub front_of : Format → List ℕ
front_of E = e_map ++ e_map ++ new_root 0x203
front_of EPlus = e_plus_map ++ e_plus_map ++ big_root 0x301
front_of F = zeros 0xC00 ++ boot_block f_record ++ zeros (0xC6800 - 0xE00) ++ f_map ++ f_map ++ new_root 0x209
front_of FPlus = zeros 0xC00 ++ boot_block (plus_record f_record) ++ zeros (0xC6800 - 0xE00) ++ f_plus_map ++ f_plus_map ++ big_root 0x301
front_of D = old_map_with 3200 12 ++ zeros 512 ++ new_root 4
front_of L = old_map_with 2560 7 ++ old_root 2

-- the disc, and then what stood after its end
unfoldable pub fresh_image : Format → List ℕ → List ℕ
fresh_image format old = front_of format ++ zeros (format_size format - length (front_of format)) ++ drop (format_size format) old
