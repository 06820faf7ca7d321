-- The bytes of an object, block by block.
use Rattle.std.proofs.Common.{◌≡◌, ℕ, zero, suc, ◌+◌, ◌-◌, ◌*◌, min, List, [], ◌∷◌, ◌++◌, length, take, inl, inr, sym, ap, ap₂, subst, ◌∙◌, arith}
use Rattle.std.specs.List.{flat_map, range_with_len}
use Rattle.std.proofs.lemmas.Grind.{common_steps, flat_map-append}
use Rattle.std.proofs.lemmas.Bool.{cases_lt}
use Rattle.std.proofs.lemmas.List.{append-nil, length-append, take-append-le}
use Rattle.std.proofs.lemmas.List.FromFn.{length-range_with_len}
use Rattle.std.proofs.Math.Seq.{take-append-add, take-length}
use Rattle.fc_device.specs.declared.disk.Extent.{Extent}
use Rattle.fc_device.specs.Sectors.{row_at, sector_at}
use Rattle.fc_device.proofs.SectorLemmas.{row_at-none, row_at-more}
use Rattle.fc_objects.specs.Extents.{extent_sectors}
use Rattle.fc_objects.specs.Bytes.{first_bytes}
use Rattle.fc_objects.proofs.AheadLemmas.{row_both}

take-past : (xs : List ℕ) (k : ℕ) → take (length xs + k) xs ≡ xs
take-past xs k = grind (arith, common_steps)

-- so many bytes, or all if there are fewer
pub take_most : (n : ℕ) (xs : List ℕ) → take n xs ≡ take (min n (length xs)) xs
take_most n xs = elim (cases_lt n (length xs)) [
  | inl below ↦ ap (λ (k : ℕ). take k xs) (let e : n ≡ min n (length xs) = omega arith in e)
  | inr above ↦ (
      let e : length xs + (n - length xs) ≡ n = omega arith in
      let f : length xs ≡ min n (length xs) = omega arith in
      subst (λ (k : ℕ). take k xs ≡ xs) e (take-past xs (n - length xs)) ∙ sym (take-length xs) ∙ ap (λ (k : ℕ). take k xs) f)
]

-- the first bytes of two texts
pub take_both : (n : ℕ) (xs ys : List ℕ) → take n (xs ++ ys) ≡ take n xs ++ take (n - length xs) ys
take_both n xs ys = elim (cases_lt n (length xs)) [
  | inl below ↦ (
      let none : n - length xs ≡ 0 = omega arith in
      rw none (take-append-le n xs ys (omega arith) ∙ sym (append-nil (take n xs))))
  | inr above ↦ (
      let more : length xs + (n - length xs) ≡ n = omega arith in
      let all : take n xs ≡ xs = subst (λ (k : ℕ). take k xs ≡ xs) more (take-past xs (n - length xs)) in
      subst (λ (k : ℕ). take k (xs ++ ys) ≡ take n xs ++ take (n - length xs) ys) more
      (take-append-add xs ys (n - length xs) ∙ ap (λ l. l ++ take (n - length xs) ys) (sym all)))
]

-- a row of sectors has the bytes of each
pub row_bytes : (size : ℕ) (image : List ℕ) (first count : ℕ) → row_at size image first count ≡ flat_map (sector_at size image) (range_with_len first count)
row_bytes size image first zero = row_at-none size image first
row_bytes size image first (suc count) =
    let f = sector_at size image in
    let next : suc count ≡ count + 1 = omega arith in
    let one : flat_map f ((first + count) ∷ []) ≡ f (first + count) = append-nil (f (first + count)) in
    ap (row_at size image first) next ∙ row_at-more size image first count
    ∙ ap₂ (λ (a b : List ℕ). a ++ b) (row_bytes size image first count) (sym one)
    ∙ sym (flat_map-append f (range_with_len first count) ((first + count) ∷ []))
    ∙ ap (flat_map f) (sym (row_both first count 1))
    ∙ ap (λ (n : ℕ). flat_map f (range_with_len first n)) (sym next)

-- none of no sectors, and none where none are wanted
pub no_sectors : (size : ℕ) (image sectors : List ℕ) (len : ℕ) → sectors ≡ [] → first_bytes size image sectors len ≡ []
unfolding first_bytes
no_sectors size image sectors len none = ap (λ (xs : List ℕ). take len (flat_map (sector_at size image) xs)) none ∙ none_of len
  where
    none_of : (n : ℕ) → take {A = ℕ} n [] ≡ []
    none_of n = grind (arith, common_steps)

pub no_length : (size : ℕ) (image sectors : List ℕ) (len : ℕ) → len ≡ 0 → first_bytes size image sectors len ≡ []
unfolding first_bytes
no_length size image sectors len none = ap (λ (n : ℕ). take n (flat_map (sector_at size image) sectors)) none

-- a row of sectors was read, and stands at the front of a buffer
pub block_bytes : (size : ℕ) (image before after : List ℕ) (row : Extent) (len count : ℕ) (read rest : List ℕ) → before ≡ extent_sectors row ++ after
    → read ≡ row_at size image row.first row.sectors → length read ≡ row.sectors * size → count ≡ min len (row.sectors * size)
    → first_bytes size image before len ≡ take count (read ++ rest) ++ first_bytes size image after (len - count)
unfolding first_bytes
block_bytes size image before after row len count read rest cut is long few =
    let f = sector_at size image in
    let here : flat_map f (extent_sectors row) ≡ read = sym (is ∙ row_bytes size image row.first row.sectors) in
    let some : min len (length read) ≡ count = omega (arith, long, few) in
    let left : len - length read ≡ len - count = omega (arith, long, few) in
    ap (λ (xs : List ℕ). take len (flat_map f xs)) cut ∙ ap (take len) (flat_map-append f (extent_sectors row) after)
    ∙ ap (λ (xs : List ℕ). take len (xs ++ flat_map f after)) here
    ∙ take_both len read (flat_map f after)
    ∙ ap₂ (λ (a : List ℕ) (k : ℕ). a ++ take k (flat_map f after))
    (take_most len read ∙ ap (λ (k : ℕ). take k read) some ∙ sym (take-append-le count read rest (omega (arith, some)))) left

-- how many bytes are ahead then
pub block_length : (size : ℕ) (before after : List ℕ) (row : Extent) (len count : ℕ) → before ≡ extent_sectors row ++ after → count ≡ min len (row.sectors * size)
    → min len (length before * size) ≡ count + min (len - count) (length after * size)
block_length size before after row len count cut few =
    let long : length before ≡ row.sectors + length after =
    ap length cut ∙ length-append (extent_sectors row) after ∙ ap (λ (n : ℕ). n + length after) (length-range_with_len row.first row.sectors) in
    let both : length before * size ≡ row.sectors * size + length after * size = ap (λ (n : ℕ). n * size) long ∙ sum_times row.sectors (length after) size in
    omega (arith, both, few)
  where
    sum_times : (x y z : ℕ) → (x + y) * z ≡ x * z + y * z
    sum_times x y z = grind (arith)

-- none where no sector is left
pub length_none : (len size : ℕ) (sectors : List ℕ) → sectors ≡ [] → min len (length sectors * size) ≡ 0
length_none len size sectors none = ap (λ (xs : List ℕ). min len (length xs * size)) none ∙ (let e : min len (0 * size) ≡ 0 = omega arith in e)
