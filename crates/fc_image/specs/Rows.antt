-- Whole images, worked out.
use Rattle.std.specs.Prelude.{◌≡◌, ℕ, List, [], ◌∷◌, ◌++◌, take, drop, replicate, Option, Some, None, Result, Ok, Err}
use Rattle.fc_bytes.specs.Rows.{e_root, e_sector}
use Rattle.fc_record.specs.Rows.{e}
use Rattle.fc_record.specs.Record.{record_of}
use Rattle.fc_image.specs.Layout.{Layout}
use Rattle.fc_bytes.specs.Checks.{small_dir_check}
use Rattle.fc_zone.specs.Edits.{sealed}
use Rattle.fc_oldmap.specs.OldMap.{with_holes}
use Rattle.fc_dirs.specs.declared.DirFault.TheVariants as dirs
use Rattle.fc_image.specs.declared.ImageFault.{ImageFault}
use Rattle.fc_image.specs.declared.ImageFault.TheVariants as faults
use Rattle.fc_image.specs.Report.{Counts, counts}
use Rattle.fc_record.specs.declared.Kind.TheVariants.{Boot, OneZone, DiscD, DiscL}
use Rattle.fc_image.specs.Opening.{Opened, misplaced_sector, open_image, open_as}

-- the fault of an image that does not open
abbrev pub fault_of : Result Opened ImageFault → Option ImageFault
fault_of (Ok v) = None
fault_of (Err fault) = Some fault

-- the counts of an image that opens
abbrev pub counts_of : Result Opened ImageFault → Option Counts
counts_of (Ok v) = Some (counts v)
counts_of (Err fault) = None

-- the map of an E of eight sectors: FreeLink, identifier 2 with 32 bits for map and root, and then runs of 32 bits in all
abbrev pub small_sector : ℕ → ℕ → List ℕ → List ℕ
small_sector low high runs = sealed (
    (0 ∷ low ∷ high ∷ 0xFF ∷ 0x0A ∷ 0x05 ∷ 0x02 ∷ 0x02 ∷ 0x0F ∷ 0x07 ∷ 0x01 ∷ 0x00 ∷ 0x00 ∷ 0x01 ∷ 0x20 ∷ 0x05 ∷ 0x03 ∷ 0x02 ∷ 0x00 ∷ 0x00 ∷ 0x00 ∷ 0x20 ∷ 0x00 ∷ [])
    ++ replicate 41 0 ++ (0x02 ∷ 0x00 ∷ 0x00 ∷ 0x80 ∷ []) ++ runs ++ replicate 952 0)

-- an E of eight sectors: two copies, the root, and four sectors more
abbrev pub e_image : List ℕ → List ℕ → List ℕ → List ℕ
e_image first second root = first ++ second ++ root ++ replicate 4096 0

-- the map sector of a fresh small disc, with one hole
abbrev pub fresh_sector : List ℕ
fresh_sector = small_sector 0x18 0x82 (0 ∷ 0 ∷ 0 ∷ 0x80 ∷ [])

-- FreeLink names bit 545
abbrev pub astray_sector : List ℕ
astray_sector = small_sector 0x19 0x82 (0 ∷ 0 ∷ 0 ∷ 0x80 ∷ [])

-- identifier 3 with 16 bits, and a hole of 16
abbrev pub used_sector : List ℕ
used_sector = small_sector 0x28 0x82 (3 ∷ 0x80 ∷ 0 ∷ 0x80 ∷ [])

-- the root of an E with one entry
abbrev pub unsealed_root : List ℕ → List ℕ
unsealed_root entry = take 5 e_root ++ entry ++ drop 31 e_root

-- the same with its check
abbrev pub e_root_with : List ℕ → List ℕ
e_root_with entry = take 2047 (unsealed_root entry) ++ small_dir_check (unsealed_root entry) 31 ∷ []

-- name of one letter, words 0, length 1, address, attributes
abbrev pub entry_bytes : ℕ → ℕ → ℕ → ℕ → List ℕ
entry_bytes letter low id attrs = (letter ∷ 13 ∷ []) ++ replicate 16 0 ++ (1 ∷ 0 ∷ 0 ∷ 0 ∷ low ∷ id ∷ 0 ∷ attrs ∷ [])

-- an L of 7 units: map and root alone
abbrev pub least_l : List ℕ
least_l =
    with_holes (replicate 252 0 ++ (7 ∷ 0 ∷ 0 ∷ []) ++ replicate 257 0) []
    ++ (0 ∷ 72 ∷ 117 ∷ 103 ∷ 111 ∷ []) ++ replicate 1223 0 ++ (36 ∷ 13 ∷ []) ++ replicate 8 0 ++ (2 ∷ 0 ∷ 0 ∷ []) ++ (36 ∷ 13 ∷ []) ++ replicate 17 0
    ++ replicate 14 0 ++ (0 ∷ 72 ∷ 117 ∷ 103 ∷ 111 ∷ 0 ∷ [])

-- images, and what they open as
pub record ImageRows : Type 0 where
  pub nothing : fault_of (open_image []) ≡ Some faults.NoKind
  pub small : counts_of (open_image least_l) ≡ Some (record { files = 0; dirs = 1; lost = 0; holes = 0; free = 0; unsorted = 0; parents = 0 })
  pub short : fault_of (open_image (take 1791 least_l)) ≡ Some (faults.Short 1792 1791)
  pub fresh : counts_of (open_image (e_image fresh_sector fresh_sector e_root)) ≡ Some (record { files = 0; dirs = 1; lost = 0; holes = 1; free = 4096; unsorted = 0; parents = 0 })
  pub second : counts_of (open_image (e_image (0 ∷ drop 1 fresh_sector) fresh_sector e_root)) ≡ Some (record { files = 0; dirs = 1; lost = 0; holes = 1; free = 4096; unsorted = 0; parents = 0 })
  pub neither : fault_of (open_image (e_image (0 ∷ drop 1 fresh_sector) (0 ∷ drop 1 fresh_sector) e_root)) ≡ Some faults.NoKind
  pub astray : fault_of (open_image (e_image astray_sector astray_sector e_root)) ≡ Some (faults.Zone 0 545)
  pub check : fault_of (open_image (e_image fresh_sector fresh_sector (take 2047 e_root ++ 0 ∷ []))) ≡ Some (faults.Directory [] dirs.Check)
  -- a file with address &100, a directory with the root's address, a file of 1 byte in identifier 3, and none in it
  pub place : fault_of (open_image (e_image fresh_sector fresh_sector (e_root_with (entry_bytes 70 0 1 3)))) ≡ Some (faults.Place ((70 ∷ []) ∷ []))
  pub overlap : fault_of (open_image (e_image fresh_sector fresh_sector (e_root_with (entry_bytes 68 3 2 8)))) ≡ Some (faults.Overlap ((68 ∷ []) ∷ []))
  pub file : counts_of (open_image (e_image used_sector used_sector (e_root_with (entry_bytes 70 0 3 3)))) ≡ Some (record { files = 1; dirs = 1; lost = 0; holes = 1; free = 2048; unsorted = 0; parents = 0 })
  pub lost : counts_of (open_image (e_image used_sector used_sector e_root)) ≡ Some (record { files = 0; dirs = 1; lost = 2048; holes = 1; free = 2048; unsorted = 0; parents = 0 })
  -- as a kind: its own test has to pass
  pub as_l : counts_of (open_as least_l (DiscL 7)) ≡ Some (record { files = 0; dirs = 1; lost = 0; holes = 0; free = 0; unsorted = 0; parents = 0 })
  pub unchecked : fault_of (open_as (take 255 least_l ++ 1 ∷ drop 256 least_l) (DiscL 7)) ≡ Some faults.NoKind
  pub as_d : fault_of (open_as least_l DiscD) ≡ Some faults.NoKind
  -- sector 3 is of the boot block and the map, and sector 4, of the map, lies in a hole
  pub boot_in_map : misplaced_sector (Boot (record_of [])) (Layout.New (record { geometry = record e { map_sector = 3 }; zones = e_sector ∷ [] })) [] ≡ Some 3
  pub map_in_hole : misplaced_sector (OneZone (record_of [])) (Layout.New (record { geometry = record e { map_sector = 3 }; zones = e_sector ∷ [] })) [] ≡ Some 4
