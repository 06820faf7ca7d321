-- Maps that are written one after another.
use Rattle.std.proofs.Common.{◌≡◌, ◌≤◌, inl, inr, ⊎_elim, ℕ, ◌*◌, List, [], ◌∷◌, ◌++◌, length, length-append, take, drop, map, replicate, sym, ap, ap₂, ◌∙◌, arith}
use Rattle.std.specs.List.{flat_map}
use Rattle.std.proofs.lemmas.List.{append_assoc, length-drop, length-take-le, length-replicate}
use Rattle.std.proofs.Math.Seq.{drop-append_seam, take-append_seam, take-length}
use Rattle.byteorder.specs.Endian.{little_bytes}
use Rattle.fc_bytes.specs.Words.{bytes_at}
use Rattle.fc_bytes.specs.Checks.{old_check}
use Rattle.fc_oldmap.specs.declared.Hole.{Hole}
use Rattle.fc_oldmap.specs.OldMap.{OldMapContent, checked_half, triples, with_holes}
use Rattle.fc_changes.specs.old.Owed.{IsMapAfter, holding}

-- ---- the map's bytes

-- what lies between others
between : (xs ys zs : List ℕ) → take (length ys) (drop (length xs) (xs ++ (ys ++ zs))) ≡ ys
between xs ys zs = ap (take (length ys)) (drop-append_seam xs (ys ++ zs)) ∙ take-append_seam ys zs

pub long_triples : (numbers : List ℕ) → length (triples numbers) ≡ 246
long_triples numbers =
    let all = flat_map (little_bytes 3) numbers ++ replicate 246 0 in
    length-take-le 246 all (omega (arith, length-append (flat_map (little_bytes 3) numbers) (replicate 246 0), length-replicate {A = ℕ} 246 0))

module _ (holes : List Hole) (bytes : List ℕ) (size : length bytes ≡ 512) where
  abbrev starts : List ℕ
  starts = triples (map (λ (h : Hole). h.start) holes)

  abbrev lengths : List ℕ
  lengths = triples (map (λ (h : Hole). h.len) holes)

  abbrev names : List ℕ
  names = bytes_at bytes 246 9

  abbrev rest : List ℕ
  rest = bytes_at bytes 502 8

  abbrev first : List ℕ
  first = starts ++ names

  abbrev second : List ℕ
  second = lengths ++ rest ++ (3 * length holes) ∷ []

  long_names : length names ≡ 9
  long_names = length-take-le 9 (drop 246 bytes) (omega (arith, length-drop 246 bytes, size))

  long_rest : length rest ≡ 8
  long_rest = length-take-le 8 (drop 502 bytes) (omega (arith, length-drop 502 bytes, size))

  long_first : length first ≡ 255
  long_first = omega (arith, length-append starts names, long_triples (map (λ (h : Hole). h.start) holes), long_names)

  long_second : length second ≡ 255
  long_second =
      omega (arith, length-append (lengths ++ rest) ((3 * length holes) ∷ []), length-append lengths rest, long_triples (map (λ (h : Hole). h.len) holes), long_rest)

  all_of : (xs : List ℕ) → length xs ≡ 255 → take 255 xs ≡ xs
  all_of xs long = ap (λ (n : ℕ). take n xs) (sym long) ∙ take-length xs

  form : with_holes bytes holes ≡ (first ++ old_check first 255 ∷ []) ++ (second ++ old_check second 255 ∷ [])
  unfolding with_holes
  form = ap₂ (λ (xs ys : List ℕ). (xs ++ old_check first 255 ∷ []) ++ (ys ++ old_check second 255 ∷ [])) (all_of first long_first) (all_of second long_second)

  tail : List ℕ
  tail = (old_check first 255 ∷ []) ++ (second ++ old_check second 255 ∷ [])

  keeps_names : bytes_at (with_holes bytes holes) 246 9 ≡ names
  unfolding tail
  keeps_names =
      let cut : with_holes bytes holes ≡ starts ++ (names ++ tail) =
      form ∙ append_assoc first (old_check first 255 ∷ []) (second ++ old_check second 255 ∷ []) ∙ append_assoc starts names tail in
      ap (λ (bs : List ℕ). bytes_at bs 246 9) cut
      ∙ ap₂ (λ (i n : ℕ). bytes_at (starts ++ (names ++ tail)) i n) (sym (long_triples (map (λ (h : Hole). h.start) holes))) (sym long_names) ∙ between starts names tail

  front : List ℕ
  front = (first ++ old_check first 255 ∷ []) ++ lengths

  back : List ℕ
  back = ((3 * length holes) ∷ []) ++ old_check second 255 ∷ []

  long_front : length front ≡ 502
  unfolding front
  long_front =
      omega (arith, length-append (first ++ old_check first 255 ∷ []) lengths, length-append first (old_check first 255 ∷ []), long_first, long_triples (map (λ (h : Hole). h.len) holes))

  keeps_rest : bytes_at (with_holes bytes holes) 502 8 ≡ rest
  unfolding front back
  keeps_rest =
      let half = first ++ old_check first 255 ∷ [] in
      let inner : second ++ old_check second 255 ∷ [] ≡ lengths ++ (rest ++ back) =
      append_assoc (lengths ++ rest) ((3 * length holes) ∷ []) (old_check second 255 ∷ []) ∙ append_assoc lengths rest back in
      let cut : with_holes bytes holes ≡ front ++ (rest ++ back) = form ∙ ap (λ (ys : List ℕ). half ++ ys) inner ∙ sym (append_assoc half lengths (rest ++ back)) in
      ap (λ (bs : List ℕ). bytes_at bs 502 8) cut ∙ ap₂ (λ (i n : ℕ). bytes_at (front ++ (rest ++ back)) i n) (sym long_front) (sym long_rest) ∙ between front rest back

-- what stays of the bytes decides
alike : (holes : List Hole) (bytes other : List ℕ) → bytes_at bytes 246 9 ≡ bytes_at other 246 9 → bytes_at bytes 502 8 ≡ bytes_at other 502 8 → with_holes bytes holes ≡ with_holes other holes
unfolding with_holes
alike holes bytes other names rest =
    ap₂ (λ (xs ys : List ℕ). checked_half (triples (map (λ (h : Hole). h.start) holes) ++ xs) ++ checked_half (triples (map (λ (h : Hole). h.len) holes) ++ ys ++ (3 * length holes) ∷ [])) names rest

-- the later holes count
again : (holes later : List Hole) (bytes : List ℕ) → length bytes ≡ 512 → with_holes (with_holes bytes holes) later ≡ with_holes bytes later
again holes later bytes size = alike later (with_holes bytes holes) bytes (keeps_names holes bytes size) (keeps_rest holes bytes size)

-- ---- the map of an image

module _ (space : OldMapContent) (a b c : List ℕ) where
  -- written once, and then again
  pub map_twice : (mid holes : List Hole) → 512 ≤ length a → IsMapAfter space mid a b → IsMapAfter (holding space mid) holes b c → IsMapAfter space holes a c
  map_twice mid holes long first second = record {
    few = second.few;
    bytes = ⊎_elim
        (λ stays. ⊎_elim (λ later. inl (later.0 ∙ stays.0, later.1 ∙ stays.1)) (λ anew. inr (anew ∙ ap (λ (bs : List ℕ). with_holes bs holes) stays.1)) second.bytes)
        (λ anew. ⊎_elim (λ later. inr (later.1 ∙ anew ∙ ap (λ (hs : List Hole). with_holes (bytes_at a 0 512) hs) (sym later.0)))
        (λ last. inr (last ∙ ap (λ (bs : List ℕ). with_holes bs holes) anew ∙ again mid holes (bytes_at a 0 512) (length-take-le 512 a long))) second.bytes) first.bytes;
    rest = second.rest ∙ first.rest;
  }
