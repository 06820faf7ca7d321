-- Rows of sectors that no hole may take.
use Rattle.std.proofs.Common.{◌≡◌, ◌≤◌, inl, inr, ℕ, ◌+◌, ◌*◌, ◌^◌, Bool, true, false, List, [], ◌∷◌, ◌/◌, sym, refl, ap, subst, ◌∙◌, arith}
use Rattle.std.specs.Prelude.{filter, not, nat_lt, max, min}
use Rattle.std.specs.Int.{div_ceil}
use Rattle.std.specs.List.{range_with_len}
use Rattle.std.proofs.lemmas.Bool.{cases_lt, le-ltb, lt-ltb}
use Rattle.std.proofs.lemmas.Nat.{mul-le, pow_pos}
use Rattle.fc_device.specs.declared.disk.Extent.{Extent}
use Rattle.fc_objects.specs.Extents.{extent_sectors}
use Rattle.fc_record.specs.declared.DiscRecord.{DiscRecord}
use Rattle.fc_record.specs.declared.Geometry.{Geometry}
use Rattle.fc_record.specs.Record.{geometry, is_valid}
use Rattle.fc_newmap.specs.NewMap.{IsOfRecord}
use Rattle.fc_newmap.proofs.GeometryLemmas.{facts_of_valid}
use Rattle.fc_newmap.proofs.PlaceLemmas.{in_range, range_in}
use Rattle.fc_image.specs.Layout.{is_among, is_apart}
use Rattle.fc_image.proofs.HolesLemmas.{apart_at, apart_from}
use Rattle.fc_reclaim.specs.Lost.{boot_row}

-- a map's sectors lie below 2^40
pub map_low : (r : DiscRecord) → is_valid r ≡ true → (geometry r).map_sector + 2 * (geometry r).zones ≤ 2 ^ 40
map_low r valid =
    let facts = facts_of_valid r valid in
    let g = geometry r in
    let some = mul-le (g.map_sector + 2 * g.zones) 1 (g.map_sector + 2 * g.zones) g.sector (omega arith) (let e = pow_pos r.log2_sector in omega arith) in
    let ends = facts.fits in
    let small = facts.size in
    omega (arith, some, ends, small)

pub row_low : (g : Geometry) → IsOfRecord g → g.map_sector + 2 * g.zones ≤ 2 ^ 40
row_low g is = subst (λ (h : Geometry). h.map_sector + 2 * h.zones ≤ 2 ^ 40) is.1.1 (map_low is.0 is.1.0)

unless_apart : (xs ys : List ℕ) (s : ℕ) → is_among xs s ≡ true → is_among ys s ≡ true → is_apart xs ys ≡ false
unless_apart xs ys s here there = by (is_apart xs ys) refl
  where
    by : (b : Bool) → is_apart xs ys ≡ b → is_apart xs ys ≡ false
    by true e = absurd (let none' = apart_at xs ys s e here in cc)
    by false e = e

-- Two rows meet if the later of their starts lies before the earlier of their ends.
pub rows_meet : (a b : Extent) → nat_lt (max a.first b.first) (min (a.first + a.sectors) (b.first + b.sectors)) ≡ not (is_apart (extent_sectors a) (extent_sectors b))
rows_meet a b = elim (cases_lt (max a.first b.first) (min (a.first + a.sectors) (b.first + b.sectors))) [
  | inl less ↦
      lt-ltb _ _ less
      ∙ ap not (sym (unless_apart (extent_sectors a) (extent_sectors b) (max a.first b.first)
      (in_range a.first a.sectors (max a.first b.first) (omega arith) (omega (arith, less))) (in_range b.first b.sectors (max a.first b.first) (omega arith) (omega (arith, less)))))
  | inr more ↦
      le-ltb _ _ more
      ∙ ap not (sym (apart_from (extent_sectors a) (extent_sectors b)
      (λ s here there. let x = range_in a.first a.sectors s here in let y = range_in b.first b.sectors s there in omega (arith, x.0, x.1, y.0, y.1, more))))
]

-- ---- the boot block's place

filter_none : (xs : List ℕ) → filter (λ (s : ℕ). false) xs ≡ []
filter_none [] = refl
filter_none (x ∷ xs) = filter_none xs

filter_all : (xs : List ℕ) → filter (λ (s : ℕ). true) xs ≡ xs
filter_all [] = refl
filter_all (x ∷ xs) = ap (λ (ys : List ℕ). x ∷ ys) (filter_all xs)

pub no_boot : (sector : ℕ) (boot : Bool) → boot ≡ false → [] ≡ boot_row boot sector
no_boot sector boot e = sym (ap (λ (b : Bool). boot_row b sector) e ∙ filter_none (range_with_len (0xC00 / sector) (div_ceil 512 sector)))

pub some_boot : (sector : ℕ) (boot : Bool) → boot ≡ true → range_with_len (0xC00 / sector) (div_ceil 512 sector) ≡ boot_row boot sector
some_boot sector boot e = sym (ap (λ (b : Bool). boot_row b sector) e ∙ filter_all (range_with_len (0xC00 / sector) (div_ceil 512 sector)))
