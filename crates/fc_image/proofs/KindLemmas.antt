-- The bytes that a kind's own test reads, by the sectors in which they lie.
use Rattle.std.proofs.Common.{◌≡◌, ◌≤◌, ℕ, zero, suc, ◌+◌, ◌*◌, ◌/◌, ◌^◌, Bool, true, false, List, [], ◌∷◌, ◌++◌, refl, sym, ap, ap₂, subst, ◌∙◌, inl, inr, arith, take, drop}
use Rattle.std.specs.Prelude.{◌&&◌, ◌==◌}
use Rattle.std.specs.List.{range_with_len}
use Rattle.std.proofs.lemmas.Bool.{cases_order, eqb-true}
use Rattle.fc_device.specs.Sectors.{sector_at}
use Rattle.fc_record.specs.declared.DiscRecord.{DiscRecord}
use Rattle.fc_record.specs.declared.Kind.{Kind}
use Rattle.fc_record.specs.declared.Kind.TheVariants.{Boot, OneZone, DiscD, DiscL}
use Rattle.std.proofs.lemmas.Nat.{pow_pos, div-mul-add}
use Rattle.fc_record.specs.Record.{geometry, is_valid, zone_start}
use Rattle.fc_record.specs.Kinds.{boot_block, is_one_zone, fits_kind}
use Rattle.fc_bytes.specs.Words.{bytes_at}
use Rattle.fc_newmap.specs.Map.{map_sectors}
use Rattle.fc_newmap.proofs.GeometryLemmas.{ValidFacts}
use Rattle.fc_image.specs.Opening.{boot_place}
use Rattle.fc_image.specs.Stays.{HasSectorsOf, IsNewKind, SameKindPlace}
use Rattle.fc_record.proofs.KindLemmas.{and_second as second, and_first as first}

-- ---- parts of lists

pub none_left : (n : ℕ) → take {A = ℕ} n [] ≡ []
none_left zero = refl
none_left (suc n) = refl

none_behind : (n : ℕ) → drop {A = ℕ} n [] ≡ []
none_behind zero = refl
none_behind (suc n) = refl

take_less : (n m : ℕ) (xs : List ℕ) → n ≤ m → take n (take m xs) ≡ take n xs
take_less zero m xs h = refl
take_less (suc n) zero xs h = absurd (omega arith)
take_less (suc n) (suc m) [] h = refl
take_less (suc n) (suc m) (x ∷ xs) h = ap (λ (ys : List ℕ). x ∷ ys) (take_less n m xs (omega arith))

take_sum : (n m : ℕ) (xs : List ℕ) → take (n + m) xs ≡ take n xs ++ take m (drop n xs)
take_sum zero m xs = ap (λ (k : ℕ). take k xs) (let e : 0 + m ≡ m = omega arith in e)
take_sum (suc n) m [] = none_left (suc n + m) ∙ sym (none_left m)
take_sum (suc n) m (x ∷ xs) = ap (λ (k : ℕ). take k (x ∷ xs)) (let e : suc n + m ≡ suc (n + m) = omega arith in e) ∙ ap (λ (ys : List ℕ). x ∷ ys) (take_sum n m xs)

drop_sum : (n m : ℕ) (xs : List ℕ) → drop m (drop n xs) ≡ drop (n + m) xs
drop_sum zero m xs = ap (λ (k : ℕ). drop k xs) (let e : m ≡ 0 + m = omega arith in e)
drop_sum (suc n) m [] = none_behind m ∙ sym (none_behind (suc n + m))
drop_sum (suc n) m (x ∷ xs) = drop_sum n m xs ∙ ap (λ (k : ℕ). drop k (x ∷ xs)) (let e : suc (n + m) ≡ suc n + m = omega arith in e)

-- ---- the boot block

halves : (image : List ℕ) → boot_block image ≡ sector_at 256 image 12 ++ sector_at 256 image 13
unfolding sector_at
halves image = take_sum 256 256 (drop 3072 image) ∙ ap (λ (ys : List ℕ). take 256 (drop 3072 image) ++ take 256 ys) (drop_sum 3072 256 image)

one_sector : (image : List ℕ) → boot_block image ≡ sector_at 512 image 6
unfolding sector_at
one_sector image = refl

pub half_sector : (image : List ℕ) → boot_block image ≡ take 512 (sector_at 1024 image 3)
unfolding sector_at
half_sector image = sym (take_less 512 1024 (drop 3072 image) (omega arith))

pub boot_bytes : (r : DiscRecord) (l : ℕ) (image other : List ℕ) → 8 ≤ l → l ≤ 10 → HasSectorsOf (2 ^ l) (boot_place (Boot r) (2 ^ l)) image other
    → boot_block other ≡ boot_block image
boot_bytes r l image other low high same = elim (cases_order l 9) [
  | inl nine ↦ (let has = subst (λ (k : ℕ). HasSectorsOf (2 ^ k) (boot_place (Boot r) (2 ^ k)) image other) nine same in
      one_sector other ∙ has 6 refl ∙ sym (one_sector image))
  | inr rest ↦ elim rest [
    | inl less ↦ (let eight : l ≡ 8 = omega arith in
        let has = subst (λ (k : ℕ). HasSectorsOf (2 ^ k) (boot_place (Boot r) (2 ^ k)) image other) eight same in
        halves other ∙ ap₂ (λ (xs ys : List ℕ). xs ++ ys) (has 12 refl) (has 13 refl) ∙ sym (halves image))
    | inr more ↦ (let ten : l ≡ 10 = omega arith in
        let has = subst (λ (k : ℕ). HasSectorsOf (2 ^ k) (boot_place (Boot r) (2 ^ k)) image other) ten same in
        half_sector other ∙ ap (take 512) (has 3 refl) ∙ sym (half_sector image))
  ]
]

-- ---- the map of one zone

pub first_place : (image : List ℕ) → bytes_at image 0 1024 ≡ sector_at 1024 image 0
unfolding sector_at
first_place image = refl

pub second_place : (image : List ℕ) → bytes_at image 1024 1024 ≡ sector_at 1024 image 1
unfolding sector_at
second_place image = refl

-- the map of one zone is at the front
pub map_at_front : (t : DiscRecord) → t.zones ≡ 1 → (geometry t).map_sector ≡ 0
map_at_front t e =
    let g = geometry t in
    ap (λ (n : ℕ). zone_start g.zone_size (n / 2) * g.bit_bytes / g.sector) e
    ∙ ap (λ (n : ℕ). n / g.sector) (let none : 0 * g.bit_bytes ≡ 0 * g.sector + 0 = omega arith in none)
    ∙ div-mul-add 0 g.sector 0 (pow_pos t.log2_sector)

one_zone_bytes : (zones sector start : ℕ) (image other : List ℕ) → zones ≡ 1 → sector ≡ 1024 → start ≡ 0
    → HasSectorsOf sector (range_with_len start (2 * zones)) image other
    → (bytes_at other 0 1024 ≡ bytes_at image 0 1024) × (bytes_at other 1024 1024 ≡ bytes_at image 1024 1024)
one_zone_bytes zones sector start image other one size front same =
    let a = subst (λ (n : ℕ). HasSectorsOf n (range_with_len start (2 * zones)) image other) size same in
    let b = subst (λ (n : ℕ). HasSectorsOf 1024 (range_with_len start (2 * n)) image other) one a in
    let has = subst (λ (n : ℕ). HasSectorsOf 1024 (range_with_len n (2 * 1)) image other) front b in (
      first_place other ∙ has 0 refl ∙ sym (first_place image),
      second_place other ∙ has 1 refl ∙ sym (second_place image),
    )

-- ---- both

-- an image that has the sectors of the map and of the boot block has the bytes of the kind's test
pub kind_place : (image other : List ℕ) (kind : Kind) (r : DiscRecord) → IsNewKind kind r → ValidFacts r → fits_kind image kind ≡ true
    → HasSectorsOf (geometry r).sector (map_sectors (geometry r)) image other
    → HasSectorsOf (geometry r).sector (boot_place kind (geometry r).sector) image other → SameKindPlace kind image other
kind_place image other (Boot s) r is facts fits same boot = boot_bytes s r.log2_sector image other facts.sector_low facts.sector_high boot
kind_place image other (OneZone s) r is facts fits same boot =
    let own = second (is_one_zone image) _ fits in
    let zones : s.zones ≡ 1 = eqb-true s.zones 1 (second _ (s.zones == 1) own) in
    let log2 : s.log2_sector ≡ 10 = eqb-true s.log2_sector 10 (second (is_valid s) _ (first _ (s.zones == 1) own)) in
    let same' : HasSectorsOf (geometry s).sector (map_sectors (geometry s)) image other = subst (λ (t : DiscRecord). HasSectorsOf (geometry t).sector (map_sectors (geometry t)) image other) (sym is) same in
    one_zone_bytes s.zones (geometry s).sector (geometry s).map_sector image other zones (ap (λ (n : ℕ). 2 ^ n) log2) (map_at_front s zones) same'
kind_place image other DiscD r is facts fits same boot = absurd is
kind_place image other (DiscL units) r is facts fits same boot = absurd is
