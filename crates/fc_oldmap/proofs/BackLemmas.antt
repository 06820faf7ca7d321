-- What was written is read back.
use Rattle.std.proofs.Common.{◌≡◌, ℕ, zero, suc, ◌+◌, ◌-◌, ◌*◌, ◌/◌, ◌%◌, ◌^◌, ◌<◌, ◌≤◌, true, List, [], ◌∷◌, ◌++◌, length, take, drop, map, replicate, get_or, slice_index, refl, sym, ap, ◌∙◌, arith, append_assoc, length-append, None, eq-eqb, le-leb}
use Rattle.std.specs.List.{flat_map}
use Rattle.std.proofs.lemmas.List.{length-take, length-drop, length-map, take_all, take_more, drop-append-le, drop-drop, drop-take, get_or-append-add, get_or-map}
use Rattle.std.proofs.Math.Seq.{take-append_seam, drop-append_seam, drop-append-add, get_or-append_seam}
use Rattle.std.proofs.Math.Nat.{div-one, mod-eq_of_lt}
use Rattle.byteorder.specs.Endian.{little_bytes, little_number}
use Rattle.byteorder.specs.Numbers.{little_from-bytes, little_from-take}
use Rattle.fc_bytes.specs.Words.{u24_at}
use Rattle.fc_bytes.specs.Checks.{carry_sum, is_half_right, old_check}
use Rattle.fc_oldmap.specs.declared.Hole.{Hole}
use Rattle.fc_oldmap.specs.Holes.{hole, hole_end}
use Rattle.fc_oldmap.specs.OldMap.{OldMapContent, checked_half, triples, with_holes, stored_hole, holes_of, is_free_end, map_units, old_map, wrong_hole}
use Rattle.fc_oldmap.specs.Laws.{ReadsBack}
use Rattle.fc_oldmap.proofs.SpaceLemmas.{end-inside}
use Rattle.fc_oldmap.proofs.ReadLemmas.{holes_of-none, holes_of-more, old_map-right, read_as}
use Rattle.fc_oldmap.proofs.WriteLemmas.{padded, padded-triples, length-triples}

-- a half that was checked has the right check
half-right : (xs : List ℕ) → length xs ≡ 255 → is_half_right (checked_half xs) ≡ true
half-right xs len =
    let check = old_check xs 255 in
    let all : take 255 xs ≡ xs = take_all 255 xs (omega arith) in
    let form : checked_half xs ≡ xs ++ check ∷ [] = ap (λ l. l ++ check ∷ []) all in
    let at : slice_index (checked_half xs) 255 ≡ check = ap (λ l. slice_index l 255) form ∙ ap (λ n. slice_index (xs ++ check ∷ []) n) (sym len) ∙ get_or-append_seam xs check [] 0 in
    let front : take 255 (checked_half xs) ≡ take 255 xs = ap (take 255) form ∙ ap (λ n. take n (xs ++ check ∷ [])) (sym len) ∙ take-append_seam xs (check ∷ []) ∙ sym all in
    let same : old_check (checked_half xs) 255 ≡ check = ap (λ l. carry_sum 256 255 l % 256) front in
    rw (eq-eqb (slice_index (checked_half xs) 255) (old_check (checked_half xs) 255) (at ∙ sym same)) refl

length-half : (xs : List ℕ) → length xs ≡ 255 → length (checked_half xs) ≡ 256
length-half xs len = omega (arith, length-append (take 255 xs) (old_check xs 255 ∷ []), length-take 255 xs, len)

-- the numbers of three bytes one after another
number-at : (numbers : List ℕ) (i : ℕ) (rest : List ℕ) → i < length numbers → get_or numbers i 0 < 2 ^ 24
    → u24_at (flat_map (little_bytes 3) numbers ++ rest) (3 * i) ≡ get_or numbers i 0
number-at [] i rest there fits = absurd (omega arith)
number-at (x ∷ numbers) zero rest there fits =
    little_from-bytes 3 0 x (flat_map (little_bytes 3) numbers ++ rest) ∙ ap (λ n. n % 2 ^ 24) (div-one x) ∙ mod-eq_of_lt fits
number-at (x ∷ numbers) (suc i) rest there fits =
    let e : 3 * suc i ≡ suc (suc (suc (3 * i))) = omega arith in
    rw e (number-at numbers i rest (omega arith) fits)

-- written numbers are read, wherever other bytes stand after
triple-at : (numbers : List ℕ) (i : ℕ) (rest : List ℕ) → length numbers ≤ 82 → i < length numbers → get_or numbers i 0 < 2 ^ 24
    → u24_at (triples numbers ++ rest) (3 * i) ≡ get_or numbers i 0
unfolding padded
triple-at numbers i rest few there fits =
    let flat = flat_map (little_bytes 3) numbers in
    let zeros = replicate (246 - 3 * length numbers) 0 in
    ap (λ l. u24_at (l ++ rest) (3 * i)) (sym (padded-triples numbers few)) ∙ ap (λ l. u24_at l (3 * i)) (append_assoc flat zeros rest) ∙ number-at numbers i (zeros ++ rest) there fits

-- a hole whose two numbers are read is the hole
same_hole : (h : Hole) (a b : ℕ) → a ≡ h.start → b ≡ h.len → hole a b ≡ h
same_hole h a b ea eb = rw (ea, eb) refl

-- holes that are read one by one
read_all : (bytes : List ℕ) (holes : List Hole) → ((i : ℕ) (d : Hole) → i < length holes → stored_hole bytes i ≡ get_or holes i d)
    → (n : ℕ) → n ≤ length holes → holes_of bytes n ≡ take n holes
read_all bytes holes each zero le = holes_of-none bytes
read_all bytes holes each (suc n) le =
    let d = hole 0 0 in
    let e : n + 1 ≡ suc n = omega arith in
    let more = holes_of-more bytes n ∙ ap (λ l. l ++ stored_hole bytes n ∷ []) (read_all bytes holes each n (omega arith)) ∙ ap (λ (h : Hole). take n holes ++ h ∷ []) (each n d (omega arith)) ∙ sym (take_more holes n d (omega arith)) in
    ap (holes_of bytes) (sym e) ∙ more ∙ ap (λ m. take m holes) e

-- the size stays
size-kept : (t bytes rest : List ℕ) (check : ℕ) → length t ≡ 246 → length bytes ≡ 512
    → u24_at ((t ++ take 9 (drop 246 bytes)) ++ (check ∷ rest)) 252 ≡ u24_at bytes 252
size-kept t bytes rest check len size =
    let all = (t ++ take 9 (drop 246 bytes)) ++ (check ∷ rest) in
    let at : 252 ≡ length t + 6 = omega arith in
    let form : all ≡ t ++ (take 9 (drop 246 bytes) ++ (check ∷ rest)) = append_assoc t (take 9 (drop 246 bytes)) (check ∷ rest) in
    let nine : length (take 9 (drop 246 bytes)) ≡ 9 = omega (arith, length-take 9 (drop 246 bytes), length-drop 246 bytes) in
    let front : drop 252 all ≡ drop 6 (take 9 (drop 246 bytes)) ++ (check ∷ rest) =
    ap (drop 252) form ∙ ap (λ n. drop n (t ++ (take 9 (drop 246 bytes) ++ (check ∷ rest)))) at ∙ drop-append-add t (take 9 (drop 246 bytes) ++ (check ∷ rest)) 6
    ∙ drop-append-le 6 (take 9 (drop 246 bytes)) (check ∷ rest) (omega arith) in
    let six : drop 6 (take 9 (drop 246 bytes)) ≡ take 3 (drop 252 bytes) = drop-take 6 3 (drop 246 bytes) ∙ ap (take 3) (drop-drop 6 246 bytes) in
    let three : length (take 3 (drop 252 bytes)) ≡ 3 = omega (arith, length-take 3 (drop 252 bytes), length-drop 252 bytes) in
    let cut : take 3 (take 3 (drop 252 bytes) ++ (check ∷ rest)) ≡ take 3 (drop 252 bytes) =
    ap (λ n. take n (take 3 (drop 252 bytes) ++ (check ∷ rest))) (sym three) ∙ take-append_seam (take 3 (drop 252 bytes)) (check ∷ rest) in
    sym (little_from-take 0 3 3 (drop 252 all) (omega arith))
    ∙ ap (λ l. little_number 3 (take 3 l)) (front ∙ ap (λ l. l ++ (check ∷ rest)) six) ∙ ap (little_number 3) cut
    ∙ little_from-take 0 3 3 (drop 252 bytes) (omega arith)

-- the written bytes
module _ (holes : List Hole) (bytes : List ℕ) (size : length bytes ≡ 512) (few : length holes ≤ 82) where
  abbrev starts : List ℕ
  starts = map (λ (h : Hole). h.start) holes

  abbrev lengths : List ℕ
  lengths = map (λ (h : Hole). h.len) holes

  -- the two halves without their checks
  abbrev first : List ℕ
  first = triples starts ++ take 9 (drop 246 bytes)

  abbrev second : List ℕ
  second = triples lengths ++ take 8 (drop 502 bytes) ++ (3 * length holes) ∷ []

  abbrev written : List ℕ
  written = checked_half first ++ checked_half second

  with_holes-written : with_holes bytes holes ≡ written
  unfolding with_holes
  with_holes-written = refl

  length-first : length first ≡ 255
  length-first = omega (arith, length-append (triples starts) (take 9 (drop 246 bytes)), length-triples starts, length-take 9 (drop 246 bytes), length-drop 246 bytes, size)

  length-second : length second ≡ 255
  length-second =
      omega (arith, length-append (triples lengths ++ take 8 (drop 502 bytes)) ((3 * length holes) ∷ []), length-append (triples lengths) (take 8 (drop 502 bytes)), length-triples lengths, length-take 8 (drop 502 bytes), length-drop 502 bytes, size)

  first_is : take 256 written ≡ checked_half first
  first_is = ap (λ n. take n written) (sym (length-half first length-first)) ∙ take-append_seam (checked_half first) (checked_half second)

  second_is : drop 256 written ≡ checked_half second
  second_is = ap (λ n. drop n written) (sym (length-half first length-first)) ∙ drop-append_seam (checked_half first) (checked_half second)

  first_right : is_half_right (take 256 written) ≡ true
  first_right = ap is_half_right first_is ∙ half-right first length-first

  second_right : is_half_right (take 256 (drop 256 written)) ≡ true
  second_right =
      ap (λ l. is_half_right (take 256 l)) second_is ∙ ap is_half_right (take_all 256 (checked_half second) (omega (arith, length-half second length-second)))
      ∙ half-right second length-second

  -- each half is its numbers, and then other bytes
  first_form : written ≡ first ++ (old_check first 255 ∷ checked_half second)
  first_form =
      ap (λ l. l ++ old_check first 255 ∷ [] ++ checked_half second) (take_all 255 first (omega (arith, length-first))) ∙ append_assoc first (old_check first 255 ∷ []) (checked_half second)

  second_form : checked_half second ≡ (triples lengths ++ take 8 (drop 502 bytes)) ++ ((3 * length holes) ∷ old_check second 255 ∷ [])
  second_form =
      ap (λ l. l ++ old_check second 255 ∷ []) (take_all 255 second (omega (arith, length-second)))
      ∙ append_assoc (triples lengths ++ take 8 (drop 502 bytes)) ((3 * length holes) ∷ []) (old_check second 255 ∷ [])

  end_is : slice_index written 510 ≡ 3 * length holes
  end_is =
      let rest = checked_half second in
      let at : 510 ≡ length (checked_half first) + 254 = omega (arith, length-half first length-first) in
      let front = triples lengths ++ take 8 (drop 502 bytes) in
      let here : 254 ≡ length front = omega (arith, length-append (triples lengths) (take 8 (drop 502 bytes)), length-triples lengths, length-take 8 (drop 502 bytes), length-drop 502 bytes, size) in
      ap (λ n. slice_index written n) at ∙ get_or-append-add (checked_half first) rest 254 0 ∙ ap (λ l. slice_index l 254) second_form
      ∙ ap (λ n. slice_index (front ++ ((3 * length holes) ∷ old_check second 255 ∷ [])) n) here ∙ get_or-append_seam front (3 * length holes) (old_check second 255 ∷ []) 0

  size_is : u24_at written 252 ≡ u24_at bytes 252
  size_is = ap (λ l. u24_at l 252) first_form ∙ size-kept (triples starts) bytes (checked_half second) (old_check first 255) (length-triples starts) size

  end_right : is_free_end (slice_index written 510) ≡ true
  end_right =
      let whole : 3 * length holes % 3 ≡ 0 = omega arith in
      let within : 3 * length holes ≤ 246 = omega (arith, few) in
      ap is_free_end end_is ∙ rw (eq-eqb (3 * length holes % 3) 0 whole, le-leb (3 * length holes) 246 within) refl

  module _ (fits : (i : ℕ) (d : Hole) → i < length holes → hole_end (get_or holes i d) < 2 ^ 24) where
    start_is : (i : ℕ) (d : Hole) → i < length holes → u24_at written (3 * i) ≡ (get_or holes i d).start
    start_is i d there =
        let rest = old_check first 255 ∷ checked_half second in
        let same = get_or-map (λ (h : Hole). h.start) holes i d 0 there in
        let below : get_or starts i 0 < 2 ^ 24 = omega (arith, same, fits i d there) in
        ap (λ l. u24_at l (3 * i)) (first_form ∙ append_assoc (triples starts) (take 9 (drop 246 bytes)) rest)
        ∙ triple-at starts i (take 9 (drop 246 bytes) ++ rest) (omega (arith, length-map holes (λ (h : Hole). h.start), few)) (omega (arith, length-map holes (λ (h : Hole). h.start), there)) below
        ∙ same

    len_is : (i : ℕ) (d : Hole) → i < length holes → u24_at written (256 + 3 * i) ≡ (get_or holes i d).len
    len_is i d there =
        let rest = (3 * length holes) ∷ old_check second 255 ∷ [] in
        let same = get_or-map (λ (h : Hole). h.len) holes i d 0 there in
        let below : get_or lengths i 0 < 2 ^ 24 = omega (arith, same, fits i d there) in
        ap (little_number 3) (sym (drop-drop (3 * i) 256 written)) ∙ ap (λ l. u24_at l (3 * i)) (second_is ∙ second_form ∙ append_assoc (triples lengths) (take 8 (drop 502 bytes)) rest)
        ∙ triple-at lengths i (take 8 (drop 502 bytes) ++ rest) (omega (arith, length-map holes (λ (h : Hole). h.len), few)) (omega (arith, length-map holes (λ (h : Hole). h.len), there)) below
        ∙ same

    holes_are : holes_of written (slice_index written 510 / 3) ≡ holes
    holes_are =
        let third : 3 * length holes / 3 ≡ length holes = omega arith in
        let each = λ (i : ℕ) (d : Hole) (there : i < length holes). same_hole (get_or holes i d) (u24_at written (3 * i)) (u24_at written (256 + 3 * i)) (start_is i d there) (len_is i d there) in
        ap (λ n. holes_of written (n / 3)) end_is ∙ ap (holes_of written) third ∙ read_all written holes each (length holes) (omega arith) ∙ take_all (length holes) holes (omega arith)

pub reads_back : ReadsBack
reads_back space bytes size disc is_map none =
    let holes = space.holes in
    let units = space.sector_units in
    let fits : (i : ℕ) (d : Hole) → i < length holes → hole_end (get_or holes i d) < 2 ^ 24 =
    λ i d there. omega (arith, end-inside space.disc_units units 0 holes is_map.holes i d there, is_map.disc) in
    let w = written holes bytes size is_map.few in
    let same = size_is holes bytes size is_map.few ∙ disc in
    let all = holes_are holes bytes size is_map.few fits in
    let made : List Hole → ℕ → OldMapContent = λ l d. record { holes = l; disc_units = d; sector_units = units } in
    let right : wrong_hole (u24_at w 252) units 0 (map_units units) (holes_of w (slice_index w 510 / 3)) ≡ None =
    ap (λ d. wrong_hole d units 0 (map_units units) (holes_of w (slice_index w 510 / 3))) same ∙ ap (wrong_hole space.disc_units units 0 (map_units units)) all ∙ none in
    ap (λ l. old_map l units) (with_holes-written holes bytes size is_map.few)
    ∙ old_map-right w units (first_right holes bytes size is_map.few) (second_right holes bytes size is_map.few) (end_right holes bytes size is_map.few) right
    ∙ ap (λ l. read_as (made l (u24_at w 252))) all ∙ ap (λ d. read_as (made holes d)) same
