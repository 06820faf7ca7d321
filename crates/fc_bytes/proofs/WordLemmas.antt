-- Rows of bytes cut into words, and their sums.
use Rattle.std.proofs.Common.{◌≡◌, ◌<◌, ◌≤◌, ℕ, ◌+◌, ◌*◌, ◌/◌, ◌%◌, List, [], ◌∷◌, ◌++◌, length, drop, slice_index, slice_set, refl, sym, ap, ◌∙◌, arith}
use Rattle.std.proofs.lemmas.List.{length-drop, drop-drop}
use Rattle.std.specs.List.{fold}
use Rattle.std.proofs.lemmas.List.Sums.{fold-append}
use Rattle.byteorder.specs.Endian.{little_number}
use Rattle.fc_bytes.specs.Words.{words, u32_at}
use Rattle.fc_bytes.specs.Checks.{accumulate, accumulated, carry_sum}

-- the first word stands before the rest
words-first : (bs : List ℕ) → 4 ≤ length bs → words bs ≡ little_number 4 bs ∷ words (drop 4 bs)
words-first (a ∷ b ∷ c ∷ d ∷ bs) h = refl
words-first [] h = absurd (omega arith)
words-first (a ∷ []) h = absurd (omega arith)
words-first (a ∷ b ∷ []) h = absurd (omega arith)
words-first (a ∷ b ∷ c ∷ []) h = absurd (omega arith)

-- the word at a place stands before those after it
pub words-drop : (bs : List ℕ) (i : ℕ) → i + 4 ≤ length bs → words (drop i bs) ≡ u32_at bs i ∷ words (drop (i + 4) bs)
words-drop bs i h =
    words-first (drop i bs) (omega (arith, length-drop i bs)) ∙ ap (λ rest. u32_at bs i ∷ words rest) (drop-drop 4 i bs)

-- the words of 16 bytes stand before the rest
pub words-four : (bs : List ℕ) → 16 ≤ length bs → words bs ≡ u32_at bs 0 ∷ u32_at bs 4 ∷ u32_at bs 8 ∷ u32_at bs 12 ∷ words (drop 16 bs)
words-four bs h =
    words-drop bs 0 (omega arith)
    ∙ ap (λ rest. u32_at bs 0 ∷ rest) (words-drop bs 4 (omega arith)
    ∙ ap (λ rest. u32_at bs 4 ∷ rest) (words-drop bs 8 (omega arith) ∙ ap (λ rest. u32_at bs 8 ∷ rest) (words-drop bs 12 (omega arith))))

-- fewer than four bytes have no word
pub words-few : (bs : List ℕ) → length bs < 4 → words bs ≡ []
words-few [] h = refl
words-few (a ∷ []) h = refl
words-few (a ∷ b ∷ []) h = refl
words-few (a ∷ b ∷ c ∷ []) h = refl
words-few (a ∷ b ∷ c ∷ d ∷ bs) h = absurd (omega arith)

-- the sum up to a word, from the sum after it
pub carry_sum-drop : (base : ℕ) (bs : List ℕ) (i j sum word : ℕ) → i + 4 ≡ j → j ≤ length bs
    → sum ≡ carry_sum base 0 (words (drop j bs)) → word ≡ u32_at bs i
    → sum % base + sum / base + word ≡ carry_sum base 0 (words (drop i bs))
unfolding carry_sum
carry_sum-drop base bs i j sum word next within behind first = rw (words-drop bs i (omega arith), next, behind, first) refl

-- the same with the lowest byte of the first word taken as 0
pub carry_sum-first : (base : ℕ) (bs : List ℕ) (sum word : ℕ) → 4 ≤ length bs → slice_index bs 0 < 256
    → sum ≡ carry_sum base 0 (words (drop 4 bs)) → word ≡ little_number 4 bs
    → sum % base + sum / base + word / 256 * 256 ≡ carry_sum base 0 (words (slice_set bs 0 0))
unfolding carry_sum
carry_sum-first base (a ∷ b ∷ c ∷ d ∷ bs) sum word within byte behind first =
    let low : word / 256 * 256 ≡ 0 + 256 * (b + 256 * (c + 256 * (d + 256 * 0))) = omega arith in
    rw (behind, low) refl
carry_sum-first base [] sum word within byte behind first = absurd (omega arith)
carry_sum-first base (a ∷ []) sum word within byte behind first = absurd (omega arith)
carry_sum-first base (a ∷ b ∷ []) sum word within byte behind first = absurd (omega arith)
carry_sum-first base (a ∷ b ∷ c ∷ []) sum word within byte behind first = absurd (omega arith)

-- byte 0 may be set twice
pub slice_set-again : (bs : List ℕ) (x y : ℕ) → slice_set (slice_set bs 0 x) 0 y ≡ slice_set bs 0 y
slice_set-again [] x y = refl
slice_set-again (b ∷ bs) x y = refl

-- three rows of numbers taken in one after another
pub accumulated-parts : (xs ys zs : List ℕ) (x y z : ℕ) → x ≡ fold accumulate 0 xs → y ≡ fold accumulate x ys → z ≡ fold accumulate y zs
    → accumulated (xs ++ ys ++ zs) ≡ z
unfolding accumulated
accumulated-parts xs ys zs x y z ex ey ez =
    fold-append accumulate 0 (xs ++ ys) zs
    ∙ ap (λ sum. fold accumulate sum zs) (fold-append accumulate 0 xs ys ∙ ap (λ sum. fold accumulate sum ys) (sym ex) ∙ sym ey) ∙ sym ez
