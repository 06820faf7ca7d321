-- The kind of an image, from the parts of it that are read.
use Rattle.std.proofs.Common.{◌≡◌, ℕ, ◌+◌, ◌<◌, Bool, true, false, cond, List, length, take, drop, length-take, length-drop, slice_index, refl, sym, ap, ◌∙◌, Some, None, Option, arith}
use Rattle.std.specs.Prelude.{◌&&◌, ◌==◌, nat_le}
use Rattle.std.specs.Int.{is_in_range}
use Rattle.std.proofs.lemmas.List.{take-take, drop-take, get_or-take}
use Rattle.std.proofs.lemmas.Bool.{ne_eqb}
use Rattle.byteorder.specs.Endian.{little_number}
use Rattle.fc_bytes.specs.Words.{bytes_at, u24_at}
use Rattle.fc_bytes.specs.Checks.{boot_check, zone_check, is_half_right}
use Rattle.fc_record.specs.declared.DiscRecord.{DiscRecord}
use Rattle.fc_record.specs.declared.Kind.{Kind}
use Rattle.fc_record.specs.declared.Kind.TheVariants.{Boot, OneZone, DiscD, DiscL}
use Rattle.fc_record.specs.Record.{is_valid}
use Rattle.fc_record.specs.Kinds.{boot_block, boot_record, is_boot, map_record, is_whole_map, kind_of}
use Rattle.fc_record.specs.Parts.{record_in_boot, record_in_map, kind_in_old_map}

-- ---- boot blocks

long_enough : {X : Type 0} (long right valid : Bool) (x y : X) → true ≡ long → cond (right && valid) x y ≡ cond (long && right && valid) x y
long_enough true right valid x y e = refl
long_enough false right valid x y e = absurd (cc)

pub boot_found : (image block : List ℕ) → true ≡ nat_le 0xE00 (length image) → block ≡ boot_block image
    → record_in_boot block ≡ cond (is_boot image) (Some (boot_record image)) None
boot_found image block long is =
    ap record_in_boot is
    ∙ long_enough (nat_le 0xE00 (length image)) (slice_index (boot_block image) 511 == boot_check (boot_block image)) (is_valid (boot_record image)) (Some (boot_record image)) None long

-- ---- old maps

abbrev kind_of_halves : Bool → List ℕ → List ℕ → ℕ → Option Kind
kind_of_halves long starts lengths units =
    let right = long && is_half_right starts && is_half_right lengths in
    cond (right && (units == 3200)) (Some DiscD) (cond (right && is_in_range 7 2560 units) (Some (DiscL units)) None)

same_halves : (long long' : Bool) (starts starts' lengths lengths' : List ℕ) (units units' : ℕ) → long ≡ long' → starts ≡ starts' → lengths ≡ lengths' → units ≡ units'
    → kind_of_halves long starts lengths units ≡ kind_of_halves long' starts' lengths' units'
same_halves long long' starts starts' lengths lengths' units units' e f g h = cc

units_in_front : (l : List ℕ) → little_number 3 (take 260 l) ≡ little_number 3 l
units_in_front l =
    let a = get_or-take 260 l 0 0 (omega arith) in
    let b = get_or-take 260 l 1 0 (omega arith) in
    let c = get_or-take 260 l 2 0 (omega arith) in
    omega (arith, a, b, c)

pub old_found : (image map : List ℕ) → true ≡ nat_le 512 (length image) → length map ≡ 512 → map ≡ bytes_at image 0 512 → kind_in_old_map map ≡ kind_in_old_map image
old_found image map long len is =
    same_halves (nat_le 512 (length map)) (nat_le 512 (length image)) (bytes_at map 0 256) (bytes_at image 0 256) (bytes_at map 256 256) (bytes_at image 256 256)
    (u24_at map 252) (u24_at image 252)
    (ap (nat_le 512) len ∙ long)
    (ap (λ (m : List ℕ). take 256 m) is ∙ take-take 256 512 image (omega arith))
    (ap (λ (m : List ℕ). take 256 (drop 256 m)) is ∙ ap (λ (m : List ℕ). take 256 m) (drop-take 256 256 image) ∙ take-take 256 256 (drop 256 image) (omega arith))
    (ap (λ (m : List ℕ). u24_at m 252) is ∙ ap (little_number 3) (drop-take 252 260 image) ∙ units_in_front (drop 252 image))

-- ---- the first that fits

pub taken : (r a : DiscRecord) (fits : Bool) → Some r ≡ cond fits (Some a) None → (fits ≡ true) × (r ≡ a)
taken r a true e = (refl, cc)
taken r a false e = absurd (cc)

pub passed : (a : DiscRecord) (fits : Bool) → None ≡ cond fits (Some a) None → fits ≡ false
passed a true e = absurd (cc)
passed a false e = refl

pub boot_first : (image : List ℕ) (r : DiscRecord) → Some r ≡ cond (is_boot image) (Some (boot_record image)) None → Some (Boot r) ≡ kind_of image
unfolding kind_of
boot_first image r found =
    let is = taken r (boot_record image) (is_boot image) found in
    rw (is.0, is.1) refl

pub first_zone : (image : List ℕ) (r : DiscRecord) → None ≡ cond (is_boot image) (Some (boot_record image)) None → Some r ≡ record_in_map (bytes_at image 0 1024) → Some (OneZone r) ≡ kind_of image
unfolding kind_of
first_zone image r boot found =
    let is = taken r (map_record (bytes_at image 0 1024)) (is_whole_map (bytes_at image 0 1024)) found in
    rw (passed (boot_record image) (is_boot image) boot, is.0, is.1) refl

pub second_zone : (image : List ℕ) (r : DiscRecord) → None ≡ cond (is_boot image) (Some (boot_record image)) None → None ≡ record_in_map (bytes_at image 0 1024)
    → Some r ≡ record_in_map (bytes_at image 1024 1024) → Some (OneZone r) ≡ kind_of image
unfolding kind_of
second_zone image r boot first found =
    let is = taken r (map_record (bytes_at image 1024 1024)) (is_whole_map (bytes_at image 1024 1024)) found in
    rw (passed (boot_record image) (is_boot image) boot, passed (map_record (bytes_at image 0 1024)) (is_whole_map (bytes_at image 0 1024)) first, is.0, is.1) refl

pub old_last : (image : List ℕ) (found : Option Kind) → None ≡ cond (is_boot image) (Some (boot_record image)) None → None ≡ record_in_map (bytes_at image 0 1024)
    → None ≡ record_in_map (bytes_at image 1024 1024) → found ≡ kind_in_old_map image → found ≡ kind_of image
unfolding kind_of
old_last image found boot first second is =
    rw (
      passed (boot_record image) (is_boot image) boot,
      passed (map_record (bytes_at image 0 1024)) (is_whole_map (bytes_at image 0 1024)) first,
      passed (map_record (bytes_at image 1024 1024)) (is_whole_map (bytes_at image 1024 1024)) second,
    ) is

-- ---- maps

pub too_short : (image : List ℕ) (at : ℕ) → length image < at + 1024 → None ≡ record_in_map (bytes_at image at 1024)
too_short image at short =
    let part = bytes_at image at 1024 in
    let len : length part < 1024 = omega (arith, length-take 1024 (drop at image), length-drop at image) in
    let r = map_record part in
    ap (λ (b : Bool). cond (b && (slice_index part 0 == zone_check part) && (slice_index part 3 == 255) && is_valid r && (r.log2_sector == 10) && (r.zones == 1)) (Some r) None)
    (sym (ne_eqb (length part) 1024 (omega arith)))
