-- The bytes of an object, written sector by sector.
use Rattle.std.proofs.Common.{◌≡◌, ◌⊎◌, inl, inr, ⊎_elim, ◌≤◌, ◌<◌, ℕ, ◌+◌, ◌-◌, ◌*◌, min, List, [], ◌∷◌, ◌++◌, length, take, drop, get_or, replicate, length-append, length-drop, refl, sym, ap, ap₂, ◌∙◌, arith}
use Rattle.std.specs.List.{flat_map, range_with_len}
use Rattle.std.proofs.lemmas.Bool.{cases_lt}
use Rattle.std.proofs.lemmas.Grind.{common_steps}
use Rattle.std.proofs.lemmas.List.{length-replicate, length-take-le, take-replicate, drop-replicate, drop_min, drop-drop, append-nil, take-append-le, take-append-drop, take-take, drop-append-le, drop-take, drop_all}
use Rattle.std.proofs.lemmas.List.FromFn.{length-range_with_len, get_or-range_with_len}
use Rattle.std.proofs.lemmas.Nat.{mul-le}
use Rattle.std.proofs.Math.ListN.{get_or-append}
use Rattle.std.proofs.Math.Seq.{drop-append-add, take-length}
use Rattle.std.proofs.Math.Seq.{get_or-append_right}
use Rattle.fc_device.specs.Sectors.{sector_at, with_row, IsMixOf}
use Rattle.fc_device.proofs.SectorLemmas.{sector_at-with_row_before, sector_at-with_row_behind, sector_at-with_row_in}
use Rattle.fc_objects.specs.Bytes.{first_bytes}
use Rattle.fc_objects.specs.Written.{AreApart, HasParts, IsPartWritten, padded, part_at}
use Rattle.fc_objects.proofs.BlockLemmas.{no_length, take_both, take_most}

-- ---- one sector

pub zeros_front : (m n : ℕ) → m ≤ n → take {A = ℕ} m (replicate n 0) ≡ replicate m 0
zeros_front m n le = take-replicate m n 0 le

pub padded_is : (size : ℕ) (bytes : List ℕ) → padded size bytes ≡ take size bytes ++ replicate (size - length bytes) 0
unfolding padded
padded_is size bytes = take_both size bytes (replicate size 0) ∙ ap (λ (xs : List ℕ). take size bytes ++ xs) (zeros_front (size - length bytes) size (omega arith))

pub length-padded : (size : ℕ) (bytes : List ℕ) → length (padded size bytes) ≡ size
unfolding padded
length-padded size bytes = length-take-le size (bytes ++ replicate size 0) (omega (arith, length-append bytes (replicate size 0), length-replicate {A = ℕ} size 0))

-- bytes copied over zeros, which are more
pub end_padded : (size most : ℕ) (bytes copied : List ℕ) → copied ≡ bytes → length bytes < size → size ≤ most → take size (copied ++ drop (length bytes) (replicate most 0)) ≡ padded size bytes
end_padded size most bytes copied is few fits =
    let zeros : take (size - length bytes) (drop (length bytes) (replicate most 0)) ≡ replicate (size - length bytes) 0 =
    ap (take (size - length bytes)) (drop-replicate (length bytes) most 0)
    ∙ zeros_front (size - length bytes) (most - length bytes) (omega (arith, fits)) in
    ap (λ (l : List ℕ). take size (l ++ drop (length bytes) (replicate most 0))) is
    ∙ take_both size bytes (drop (length bytes) (replicate most 0))
    ∙ ap (λ (l : List ℕ). take size bytes ++ l) zeros
    ∙ sym (padded_is size bytes)

-- ---- sectors one after another

-- the sectors that are done, the next one, and those after it
pub record IsNext (sectors done : List ℕ) (n : ℕ) : Type 0 where
  pub within : length done < length sectors
  pub at : get_or sectors (length done) 0 ≡ n

pub next_of : (sectors done after : List ℕ) (n : ℕ) → sectors ≡ done ++ (n ∷ after) → IsNext sectors done n
next_of sectors done after n is = record {
  within = (let l = length-append done (n ∷ after) in let e : length sectors ≡ length (done ++ (n ∷ after)) = ap length is in omega (arith, l, e));
  at = ap (λ (xs : List ℕ). get_or xs (length done) 0) is ∙ get_or-append_right done (n ∷ after) (length done) 0 (omega arith)
      ∙ ap (λ (k : ℕ). get_or (n ∷ after) k 0) (let e : length done - length done ≡ 0 = omega arith in e);
}

-- no zeros follow as many bytes as there are
pub padded_front : (most : ℕ) (bytes : List ℕ) → most ≤ length bytes → padded most bytes ≡ take most bytes
unfolding padded
padded_front most bytes le = take-append-le most bytes (replicate most 0) le

-- Only less than a sector of bytes doesn't fill its row, and the row is short then.
pub end_row : (count size left most : ℕ) → count ≤ most → (left < size → most * size ≤ 16384) → (size ≤ left → most * size ≤ left) → left < count * size → count * size ≤ 16384
end_row count size left most few zeros enough short =
    let up : count * size ≤ most * size = mul-le count size most size few (omega arith) in
    elim (cases_lt left size) [
      | inl below ↦ omega (arith, up, zeros below)
      | inr above ↦ absurd (omega (arith, short, enough above, up))
    ]

-- a part of the first bytes as whole sectors
pub cut_padded : (size k most : ℕ) (bytes : List ℕ) → k + size ≤ most → take size (drop k (padded most bytes)) ≡ padded size (drop k bytes)
unfolding padded
cut_padded size k most bytes fits =
    let zeros = replicate {A = ℕ} most 0 in
    let rest : most ≡ k + (most - k) = omega (arith, fits) in
    ap (λ (n : ℕ). take size (drop k (take n (bytes ++ zeros)))) rest
    ∙ ap (take size) (drop-take k (most - k) (bytes ++ zeros))
    ∙ take-take size (most - k) (drop k (bytes ++ zeros)) (omega (arith, fits))
    ∙ elim (cases_lt (length bytes) k) [
      | inl past ↦ (
          let more : k ≡ length bytes + (k - length bytes) = omega (arith, past) in
          ap (λ (n : ℕ). take size (drop n (bytes ++ zeros))) more
          ∙ ap (take size) (drop-append-add bytes zeros (k - length bytes) ∙ drop-replicate (k - length bytes) most 0)
          ∙ zeros_front size (most - (k - length bytes)) (omega (arith, fits))
          ∙ sym (zeros_front size size (omega arith))
          ∙ ap (λ (l : List ℕ). take size (l ++ replicate size 0)) (sym (drop_all k bytes (omega (arith, past)))))
      | inr here ↦ (
          ap (take size) (drop-append-le k bytes zeros here)
          ∙ take_both size (drop k bytes) zeros
          ∙ ap (λ (l : List ℕ). take size (drop k bytes) ++ l) (zeros_front (size - length (drop k bytes)) most (omega (arith, fits)))
          ∙ sym (padded_is size (drop k bytes)))
    ]

-- the sectors that are done, and the next ones, which lie in a row
pub record IsNextRow (sectors done : List ℕ) (n count : ℕ) : Type 0 where
  pub within : length done + count ≤ length sectors
  pub at : (i : ℕ) → i < count → get_or sectors (length done + i) 0 ≡ n + i

pub next_row_of : (sectors done after : List ℕ) (n count : ℕ) → sectors ≡ done ++ (range_with_len n count ++ after) → IsNextRow sectors done n count
next_row_of sectors done after n count is =
    let row = range_with_len n count in
    let long : length row ≡ count = length-range_with_len n count in
    record {
      within = (let e : length sectors ≡ length (done ++ (row ++ after)) = ap length is in omega (arith, e, length-append done (row ++ after), length-append row after, long));
      at = λ i lt.
          ap (λ (xs : List ℕ). get_or xs (length done + i) 0) is
          ∙ get_or-append_right done (row ++ after) (length done + i) 0 (omega arith)
          ∙ ap (λ (k : ℕ). get_or (row ++ after) k 0) (let e : length done + i - length done ≡ i = omega arith in e)
          ∙ get_or-append row after 0 i (omega (arith, long, lt)) ∙ get_or-range_with_len n count i 0 lt;
    }

-- before a row, in it or behind it
pub record InRow (n count s : ℕ) : Type 0 where
  pub i : ℕ
  pub low : i < count
  pub is : s ≡ n + i

pub place_of : (n count s : ℕ) → (s < n) ⊎ (n + count ≤ s) ⊎ InRow n count s
place_of n count s =
    elim (cases_lt s n) [
      | inl before ↦ inl before
      | inr from ↦ elim (cases_lt s (n + count)) [
        | inl inside ↦ inr (inr (record { i = s - n; low = omega (arith, from, inside); is = omega (arith, from) }))
        | inr past ↦ inr (inl past)
      ]
    ]

-- a row of sectors is written, each with its part of the bytes
module _ (size : ℕ) (bytes : List ℕ) (was done : List ℕ) (n count : ℕ) (piece : List ℕ) (is : piece ≡ padded (count * size) (drop (length done * size) bytes)) (fits : n * size + count * size ≤ length was) where
  long_row : length piece ≡ count * size
  long_row = ap length is ∙ length-padded (count * size) (drop (length done * size) bytes)

  room_row : n * size + length piece ≤ length was
  room_row = omega (arith, long_row, fits)

  row_inside : (i : ℕ) → i < count → sector_at size (with_row size was n piece) (n + i) ≡ part_at size bytes (length done + i)
  row_inside i lt =
      let low : i * size + size ≤ count * size = up_to i count size lt in
      let place : length done * size + i * size ≡ (length done + i) * size = grind arith in
      sector_at-with_row_in size was n piece room_row i (omega (arith, low, long_row))
      ∙ ap (λ (l : List ℕ). take size (drop (i * size) l)) is
      ∙ cut_padded size (i * size) (count * size) (drop (length done * size) bytes) low
      ∙ ap (padded size) (drop-drop (i * size) (length done * size) bytes ∙ ap (λ (k : ℕ). drop k bytes) place)
    where
      up_to : (i count size : ℕ) → i < count → i * size + size ≤ count * size
      up_to i count size lt = grind arith

  row_outside : (s : ℕ) → (s < n) ⊎ (n + count ≤ s) → sector_at size (with_row size was n piece) s ≡ sector_at size was s
  row_outside s out =
      ⊎_elim
      (λ before. sector_at-with_row_before size was n piece room_row s before)
      (λ past.
      let place : (n + count) * size ≡ n * size + count * size = grind arith in
      sector_at-with_row_behind size was n piece room_row s (omega (arith, long_row, place, mul-le (n + count) size s size past (omega arith))))
      out

-- whatever of it is
pub part_more : (size : ℕ) (sectors bytes start was image done : List ℕ) (n count : ℕ) (piece : List ℕ) → IsNextRow sectors done n count → piece ≡ padded (count * size) (drop (length done * size) bytes)
    → n * size + count * size ≤ length was → IsPartWritten size sectors bytes start was → IsMixOf size was (with_row size was n piece) image → IsPartWritten size sectors bytes start image
part_more size sectors bytes start was image done n count piece next is fits so_far mix = record {
  length_stays = mix.length_stays ∙ so_far.length_stays;
  each = λ s.
      ⊎_elim
      (λ same. old s same)
      (λ new.
      ⊎_elim (λ before. old s (new ∙ row_outside size bytes was done n count piece is fits s (inl before)))
      (λ other.
      ⊎_elim (λ past. old s (new ∙ row_outside size bytes was done n count piece is fits s (inr past)))
      (λ row. inr (
        length done + row.i,
        omega (arith, next.within, row.low),
        next.at row.i row.low ∙ sym row.is,
        new ∙ ap (sector_at size (with_row size was n piece)) row.is ∙ row_inside size bytes was done n count piece is fits row.i row.low,
      )) other)
      (place_of n count s))
      (mix.each s);
}
  where
    old : (s : ℕ) → sector_at size image s ≡ sector_at size was s
        → (sector_at size image s ≡ sector_at size start s) ⊎ ((i : ℕ) × (i < length sectors) × (get_or sectors i 0 ≡ s) × (sector_at size image s ≡ part_at size bytes i))
    old s same = ⊎_elim (λ stays. inl (same ∙ stays)) (λ new. inr (new.0, new.1, new.2, same ∙ new.3)) (so_far.each s)

-- all of it is
pub parts_more : (size : ℕ) (sectors bytes was done after : List ℕ) (n count : ℕ) (piece : List ℕ) → sectors ≡ done ++ (range_with_len n count ++ after) → AreApart sectors
    → piece ≡ padded (count * size) (drop (length done * size) bytes) → n * size + count * size ≤ length was → HasParts size done bytes was
    → HasParts size (done ++ range_with_len n count) bytes (with_row size was n piece)
parts_more size sectors bytes was done after n count piece cut apart is fits so_far i within =
    let row = range_with_len n count in
    let long : length row ≡ count = length-range_with_len n count in
    let next = next_row_of sectors done after n count cut in
    elim (cases_lt i (length done)) [
      | inl below ↦ (
          let here : get_or (done ++ row) i 0 ≡ get_or done i 0 = get_or-append done row 0 i below in
          let there : get_or sectors i 0 ≡ get_or done i 0 = ap (λ (xs : List ℕ). get_or xs i 0) cut ∙ get_or-append done (row ++ after) 0 i below in
          let out : (get_or done i 0 < n) ⊎ (n + count ≤ get_or done i 0) =
          ⊎_elim (λ before. inl before)
          (λ other.
          ⊎_elim (λ past. inr past)
          (λ at. absurd (apart i (length done + at.i) (omega (arith, below)) (omega (arith, next.within, at.low)) (there ∙ at.is ∙ sym (next.at at.i at.low)))) other)
          (place_of n count (get_or done i 0)) in
          ap (sector_at size (with_row size was n piece)) here ∙ row_outside size bytes was done n count piece is fits (get_or done i 0) out ∙ so_far i below)
      | inr above ↦ (
          let k : ℕ = i - length done in
          let e : i ≡ length done + k = omega (arith, above) in
          let low : k < count = omega (arith, above, within, length-append done row, long) in
          let here : get_or (done ++ row) i 0 ≡ n + k =
          get_or-append_right done row i 0 above ∙ get_or-range_with_len n count k 0 low in
          ap (sector_at size (with_row size was n piece)) here ∙ row_inside size bytes was done n count piece is fits k low ∙ ap (part_at size bytes) (sym e))
    ]

-- what is left of the bytes after a row more
pub left_more : (size own done more count k : ℕ) (bytes left : List ℕ) → left ≡ drop (done * size) bytes → k ≡ min (count * own) (length left) → size ≡ own → more ≡ done + count
    → take (length left - k) (drop k left) ≡ drop (more * size) bytes
left_more size own done more count k bytes left is few same next =
    let step : done * size + count * size ≡ (done + count) * size = grind arith in
    ap (λ (n : ℕ). take n (drop k left)) (sym (length-drop k left)) ∙ take-length (drop k left)
    ∙ ap (λ (n : ℕ). drop n left) (few ∙ ap (λ (n : ℕ). min (count * n) (length left)) (sym same)) ∙ drop_min (count * size) left
    ∙ ap (drop (count * size)) is ∙ drop-drop (count * size) (done * size) bytes ∙ ap (λ (n : ℕ). drop n bytes) (step ∙ ap (λ (n : ℕ). n * size) (sym next))

-- ---- what was written is read

-- the parts of the other sectors are those of the other bytes
parts_after : (size : ℕ) (s : ℕ) (sectors bytes image : List ℕ) → HasParts size (s ∷ sectors) bytes image → HasParts size sectors (drop size bytes) image
parts_after size s sectors bytes image parts i within =
    let step : size + i * size ≡ (i + 1) * size = grind arith in
    let next : get_or (s ∷ sectors) (i + 1) 0 ≡ get_or sectors i 0 = grind (arith, common_steps) in
    ap (sector_at size image) (sym next) ∙ parts (i + 1) (omega (arith, within))
    ∙ ap (padded size) (sym (drop-drop (i * size) size bytes ∙ ap (λ (k : ℕ). drop k bytes) step))

front_short : (size : ℕ) (bytes rest : List ℕ) → length bytes ≤ size → take (length bytes) (padded size bytes ++ rest) ≡ bytes
unfolding padded
front_short size bytes rest few =
    take-append-le (length bytes) (take size (bytes ++ replicate size 0)) rest (omega (arith, few, length-padded size bytes))
    ∙ take-take (length bytes) size (bytes ++ replicate size 0) few ∙ take-append-le (length bytes) bytes (replicate size 0) (omega arith) ∙ take-length bytes

front_long : (size : ℕ) (bytes rest : List ℕ) → size ≤ length bytes → rest ≡ drop size bytes → take size bytes ++ rest ≡ bytes
front_long size bytes rest many is = ap (λ (xs : List ℕ). take size bytes ++ xs) is ∙ take-append-drop size bytes

-- the bytes that were written are the first of the sectors
pub reads_back : (size : ℕ) (image sectors bytes : List ℕ) → HasParts size sectors bytes image → length bytes ≤ length sectors * size → first_bytes size image sectors (length bytes) ≡ bytes
unfolding first_bytes
reads_back size image [] bytes parts room = no_length size image [] (length bytes) (omega (arith, room)) ∙ sym (none bytes (omega (arith, room)))
  where
    none : (xs : List ℕ) → length xs ≡ 0 → xs ≡ []
    none [] e = refl
    none (x ∷ xs) e = absurd (omega (arith, e))
reads_back size image (s ∷ sectors) bytes parts room =
    let rest = flat_map (sector_at size image) sectors in
    let first : sector_at size image s ≡ padded size bytes = parts 0 (omega arith) ∙ ap (λ (k : ℕ). padded size (drop k bytes)) (let e : 0 * size ≡ 0 = omega arith in e) in
    let all : flat_map (sector_at size image) (s ∷ sectors) ≡ padded size bytes ++ rest = ap (λ (xs : List ℕ). xs ++ rest) first in
    ap (take (length bytes)) all
    ∙ elim (cases_lt (length bytes) size) [
      | inl few ↦ front_short size bytes rest (omega (arith, few))
      | inr many ↦ (
          let long = length-padded size bytes in
          let left : length bytes - length (padded size bytes) ≡ length (drop size bytes) = omega (arith, long, length-drop size bytes) in
          let step : (length sectors + 1) * size ≡ length sectors * size + size = grind arith in
          let back = reads_back size image sectors (drop size bytes) (parts_after size s sectors bytes image parts) (omega (arith, room, step, length-drop size bytes)) in
          let whole : take (length bytes) (padded size bytes) ≡ take size bytes =
          take_most (length bytes) (padded size bytes) ∙ ap (λ (k : ℕ). take k (padded size bytes)) (let e : min (length bytes) (length (padded size bytes)) ≡ length (padded size bytes) = omega (arith, long, many) in e)
          ∙ take-length (padded size bytes) ∙ padded_is size bytes ∙ ap (λ (k : ℕ). take size bytes ++ replicate k 0) (let e : size - length bytes ≡ 0 = omega (arith, many) in e) ∙ append-nil (take size bytes) in
          take_both (length bytes) (padded size bytes) rest ∙ ap₂ (λ (a b : List ℕ). a ++ b) whole (ap (λ (k : ℕ). take k rest) left ∙ back)
          ∙ front_long size bytes (drop size bytes) many refl)
    ]
