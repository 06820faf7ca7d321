-- Numbers of three bytes written one after another.
use Rattle.std.proofs.Common.{◌≡◌, ℕ, zero, suc, ◌+◌, ◌-◌, ◌*◌, ◌%◌, ◌<◌, ◌≤◌, List, [], ◌∷◌, ◌++◌, length, take, drop, replicate, slice_set, refl, sym, ap, ◌∙◌, arith, append_assoc, length-append}
use Rattle.std.specs.List.{flat_map}
use Rattle.std.proofs.lemmas.List.{append-nil, drop-replicate, take-replicate, length-replicate, take-append-le, drop-append-le, take-take, take_more_set, take_all, drop-take, drop-drop, length-take, length-drop}
use Rattle.std.proofs.lemmas.Grind.{flat_map-append}
use Rattle.std.proofs.Math.Seq.{take-append_seam, drop-append-add, take-append-add}
use Rattle.byteorder.specs.Endian.{little_bytes}
use Rattle.fc_bytes.specs.Bits.{overwritten}
use Rattle.fc_oldmap.specs.OldMap.{triples, checked_half}
use Rattle.fc_bytes.specs.Checks.{carry_sum}

-- the numbers, and bytes 0 after them
unfoldable pub padded : List ℕ → List ℕ
padded numbers = flat_map (little_bytes 3) numbers ++ replicate (246 - 3 * length numbers) 0

length-threes : (numbers : List ℕ) → length (flat_map (little_bytes 3) numbers) ≡ 3 * length numbers
length-threes [] = refl
length-threes (x ∷ numbers) = omega (arith, length-append (little_bytes 3 x) (flat_map (little_bytes 3) numbers), length-threes numbers)

pub padded-none : replicate 246 0 ≡ padded []
unfolding padded
padded-none = refl

-- one more number
pub padded-more : (numbers : List ℕ) (x i : ℕ) (old new : List ℕ) → i ≡ length numbers → i < 82 → old ≡ padded numbers
    → new ≡ overwritten old (3 * i) (little_bytes 3 x) → new ≡ padded (numbers ++ x ∷ [])
unfolding padded
padded-more numbers x i old new count few before written =
    let flat = flat_map (little_bytes 3) numbers in
    let left = 246 - 3 * length numbers in
    let at : 3 * i ≡ length flat = omega (arith, length-threes numbers) in
    let front : take (3 * i) (flat ++ replicate left 0) ≡ flat = ap (λ n. take n (flat ++ replicate left 0)) at ∙ take-append_seam flat (replicate left 0) in
    let end : 3 * i + 3 ≡ length flat + 3 = omega arith in
    let fewer : left - 3 ≡ 246 - 3 * length (numbers ++ x ∷ []) = omega (arith, length-append numbers (x ∷ [])) in
    let back : drop (3 * i + 3) (flat ++ replicate left 0) ≡ replicate (246 - 3 * length (numbers ++ x ∷ [])) 0 =
    ap (λ n. drop n (flat ++ replicate left 0)) end ∙ drop-append-add flat (replicate left 0) 3 ∙ drop-replicate 3 left 0 ∙ ap (λ n. replicate n 0) fewer in
    let more : flat_map (little_bytes 3) (numbers ++ x ∷ []) ≡ flat ++ little_bytes 3 x = flat_map-append (little_bytes 3) numbers (x ∷ []) ∙ ap (λ l. flat ++ l) (append-nil (little_bytes 3 x)) in
    written ∙ ap (λ l. overwritten l (3 * i) (little_bytes 3 x)) before
    ∙ ap (λ l. l ++ (little_bytes 3 x ++ drop (3 * i + 3) (flat ++ replicate left 0))) front
    ∙ ap (λ l. flat ++ (little_bytes 3 x ++ l)) back
    ∙ sym (append_assoc flat (little_bytes 3 x) (replicate (246 - 3 * length (numbers ++ x ∷ [])) 0))
    ∙ ap (λ l. l ++ replicate (246 - 3 * length (numbers ++ x ∷ [])) 0) (sym more)

pub length-padded : (numbers : List ℕ) → length numbers ≤ 82 → length (padded numbers) ≡ 246
unfolding padded
length-padded numbers few =
    omega (arith, length-append (flat_map (little_bytes 3) numbers) (replicate (246 - 3 * length numbers) 0), length-threes numbers, length-replicate {A = ℕ} (246 - 3 * length numbers) 0)

-- the same before other bytes
pub padded-written : (numbers : List ℕ) (x i : ℕ) (old new rest : List ℕ) → i ≡ length numbers → i < 82 → old ≡ padded numbers ++ rest
    → new ≡ overwritten old (3 * i) (little_bytes 3 x) → new ≡ padded (numbers ++ x ∷ []) ++ rest
padded-written numbers x i old new rest count few before written =
    let p = padded numbers in
    let long = length-padded numbers (omega arith) in
    let front : take (3 * i) (p ++ rest) ≡ take (3 * i) p = take-append-le (3 * i) p rest (omega arith) in
    let back : drop (3 * i + 3) (p ++ rest) ≡ drop (3 * i + 3) p ++ rest = drop-append-le (3 * i + 3) p rest (omega arith) in
    let more = padded-more numbers x i p (overwritten p (3 * i) (little_bytes 3 x)) count few refl refl in
    written ∙ ap (λ l. overwritten l (3 * i) (little_bytes 3 x)) before
    ∙ ap (λ l. l ++ (little_bytes 3 x ++ drop (3 * i + 3) (p ++ rest))) front
    ∙ ap (λ l. take (3 * i) p ++ (little_bytes 3 x ++ l)) back
    ∙ ap (λ l. take (3 * i) p ++ l) (sym (append_assoc (little_bytes 3 x) (drop (3 * i + 3) p) rest))
    ∙ sym (append_assoc (take (3 * i) p) (little_bytes 3 x ++ drop (3 * i + 3) p) rest)
    ∙ ap (λ l. l ++ rest) more

-- all numbers
pub padded-triples : (numbers : List ℕ) → length numbers ≤ 82 → padded numbers ≡ triples numbers
unfolding padded
padded-triples numbers few =
    let flat = flat_map (little_bytes 3) numbers in
    let left = 246 - 3 * length numbers in
    let all : 246 ≡ length flat + left = omega (arith, length-threes numbers) in
    sym (ap (λ n. take n (flat ++ replicate 246 0)) all ∙ take-append-add flat (replicate 246 0) left ∙ ap (λ l. flat ++ l) (take-replicate left 246 0 (omega arith)))

-- the last byte written
pub set-last : (bytes : List ℕ) (n x : ℕ) → length bytes ≡ suc n → slice_set bytes n x ≡ take n bytes ++ x ∷ []
set-last (b ∷ []) zero x len = refl
set-last (b ∷ bytes) (suc n) x len = ap (λ l. b ∷ l) (set-last bytes n x (omega arith))
set-last [] n x len = absurd (omega arith)
set-last (b ∷ c ∷ bytes) zero x len = absurd (omega arith)

-- a half is checked by its first 255 bytes alone
pub checked_half-same : (xs ys : List ℕ) → take 255 xs ≡ take 255 ys → checked_half xs ≡ checked_half ys
checked_half-same xs ys same = ap (λ l. l ++ carry_sum 256 255 l % 256 ∷ []) same

pub length-triples : (numbers : List ℕ) → length (triples numbers) ≡ 246
length-triples numbers =
    omega (arith, length-take 246 (flat_map (little_bytes 3) numbers ++ replicate 246 0), length-append (flat_map (little_bytes 3) numbers) (replicate 246 0), length-replicate {A = ℕ} 246 0)

-- the two halves that are written
pub first_half : (numbers bytes : List ℕ) → length bytes ≡ 512 → checked_half (triples numbers ++ drop 246 (take 256 bytes)) ≡ checked_half (triples numbers ++ take 9 (drop 246 bytes))
first_half numbers bytes size =
    let t = triples numbers in
    let at : 255 ≡ length t + 9 = omega (arith, length-triples numbers) in
    let cut : (rest : List ℕ) → take 255 (t ++ rest) ≡ t ++ take 9 rest = λ rest. ap (λ n. take n (t ++ rest)) at ∙ take-append-add t rest 9 in
    let inner : drop 246 (take 256 bytes) ≡ take 10 (drop 246 bytes) = drop-take 246 10 bytes in
    let nine : take 9 (take 10 (drop 246 bytes)) ≡ take 9 (drop 246 bytes) = take-take 9 10 (drop 246 bytes) (omega arith) in
    let twice : take 9 (take 9 (drop 246 bytes)) ≡ take 9 (drop 246 bytes) = take-take 9 9 (drop 246 bytes) (omega arith) in
    checked_half-same (t ++ drop 246 (take 256 bytes)) (t ++ take 9 (drop 246 bytes))
    (cut (drop 246 (take 256 bytes)) ∙ ap (λ l. t ++ l) (ap (take 9) inner ∙ nine ∙ sym twice) ∙ sym (cut (take 9 (drop 246 bytes))))

pub second_half : (numbers bytes : List ℕ) (end : ℕ) → length bytes ≡ 512
    → checked_half (slice_set (triples numbers ++ drop 246 (drop 256 bytes)) 254 end) ≡ checked_half (triples numbers ++ take 8 (drop 502 bytes) ++ end ∷ [])
second_half numbers bytes end size =
    let t = triples numbers in
    let rest : drop 246 (drop 256 bytes) ≡ drop 502 bytes = drop-drop 246 256 bytes in
    let long : length (t ++ drop 502 bytes) ≡ 256 = omega (arith, length-append t (drop 502 bytes), length-triples numbers, length-drop 502 bytes, size) in
    let set_there : take 255 (slice_set (t ++ drop 502 bytes) 254 end) ≡ take 254 (t ++ drop 502 bytes) ++ end ∷ [] = take_more_set (t ++ drop 502 bytes) 254 end (omega arith) in
    let at : 254 ≡ length t + 8 = omega (arith, length-triples numbers) in
    let cut : take 254 (t ++ drop 502 bytes) ≡ t ++ take 8 (drop 502 bytes) = ap (λ n. take n (t ++ drop 502 bytes)) at ∙ take-append-add t (drop 502 bytes) 8 in
    let new = t ++ take 8 (drop 502 bytes) ++ end ∷ [] in
    let whole : take 255 new ≡ new =
    take_all 255 new (omega (arith, length-append (t ++ take 8 (drop 502 bytes)) (end ∷ []), length-append t (take 8 (drop 502 bytes)), length-triples numbers, length-take 8 (drop 502 bytes), length-drop 502 bytes, size)) in
    ap (λ l. checked_half (slice_set (t ++ l) 254 end)) rest
    ∙ checked_half-same (slice_set (t ++ drop 502 bytes) 254 end) new (set_there ∙ ap (λ l. l ++ end ∷ []) cut ∙ sym whole)
