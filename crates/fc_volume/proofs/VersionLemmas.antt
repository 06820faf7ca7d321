-- The version in the record of a new map, where the bits of its first zone outside its runs stay.
use Rattle.std.proofs.Common.{◌≡◌, ◌≤◌, ◌-◌, ℕ, List, length, take, drop, sym, ap, ◌∙◌, arith, take-take}
use Rattle.std.specs.Prelude.{slice_range}
use Rattle.std.proofs.lemmas.List.{drop-drop, drop-take}
use Rattle.byteorder.specs.Endian.{little_number}
use Rattle.byteorder.specs.Numbers.{little_from-take}
use Rattle.fc_bytes.specs.Bits.{bits, num}
use Rattle.fc_bytes.specs.BitLaws.{AreBytes, num-window-bits}
use Rattle.fc_record.specs.Kinds.{map_record}
use Rattle.fc_newmap.specs.Map.{Map, sector_of}
use Rattle.fc_newmap.specs.NewMap.{IsNewMap}
use Rattle.fc_newmap.proofs.HeldLemmas.{geometry_facts}
use Rattle.fc_image.specs.effects.Steady.{ZoneSteady}

-- the first sector is long enough for a record
zone0_long : (m : Map) → IsNewMap m → 52 ≤ length (sector_of m 0)
zone0_long m is =
    let f = geometry_facts m.geometry is.of_record in
    let low = f.header in
    let room = f.room in
    omega (arith, low, room, is.whole 0 f.zones)

-- The bits of the version stand among those that stay.
in_header : (s : List ℕ) → AreBytes s → 52 ≤ length s → (map_record s).version ≡ num (take 32 (drop 352 (slice_range (bits s) 32 512)))
in_header s bytes long =
    ap (little_number 4) (drop-take 44 16 (drop 4 s)) ∙ little_from-take 0 4 16 (drop 44 (drop 4 s)) (omega arith) ∙ ap (little_number 4) (drop-drop 44 4 s)
    ∙ sym (num-window-bits s 48 4 bytes (omega (arith, long)) ∙ little_from-take 0 4 (length s - 48) (drop 48 s) (omega (arith, long)))
    ∙ sym (ap num (ap (take 32) (drop-take 352 128 (drop 32 (bits s))) ∙ take-take 32 128 (drop 352 (drop 32 (bits s))) (omega arith) ∙ ap (take 32) (drop-drop 352 32 (bits s))))

-- If the bits of its first zone outside its runs stay, a map tells the version that it told.
pub version_stays : (m m' : Map) → IsNewMap m → IsNewMap m' → AreBytes (sector_of m 0) → AreBytes (sector_of m' 0) → ZoneSteady m.geometry 0 (sector_of m 0) (sector_of m' 0)
    → (map_record (sector_of m' 0)).version ≡ (map_record (sector_of m 0)).version
version_stays m m' is is' bytes bytes' stays =
    in_header (sector_of m' 0) bytes' (zone0_long m' is')
    ∙ ap (λ (bs : List ℕ). num (take 32 (drop 352 bs))) stays.header
    ∙ sym (in_header (sector_of m 0) bytes (zone0_long m is))
