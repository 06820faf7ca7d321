-- The checks of laid bytes, in both forms.
use Rattle.std.proofs.Common.{◌≡◌, ◌<◌, ℕ, zero, suc, ◌+◌, ◌-◌, ◌*◌, ◌%◌, ◌^◌, ◌&&◌, ◌==◌, Bool, true, false, List, [], ◌∷◌, ◌++◌, length, take, set, replicate, slice_index, refl, sym, ap, ap₂, ◌∙◌, arith, subst, append_assoc, length-append, eq-eqb, le-leb}
use Rattle.std.specs.List.{AllByRecursion}
use Rattle.std.proofs.lemmas.List.{take_at, set_at}
use Rattle.std.proofs.lemmas.Bool.Decides.{nat_tests}
use Rattle.byteorder.specs.Endian.{little_bytes, little_number}
use Rattle.fc_bytes.specs.Words.{bytes_at, u32_at, words}
use Rattle.fc_bytes.specs.Checks.{big_dir_check, byte_xor, accumulated}
use Rattle.fc_dirs.specs.declared.Entry.{Entry}
use Rattle.fc_dirs.specs.Entries.{padded_name}
use Rattle.fc_dirs.specs.Big.{BigDir, IsBig, head_space, head_space_of, bytes_taken, heap_end, does_fit, is_check_right}
use Rattle.fc_dirs.specs.BigBytes.{tail_word, head_bytes, entry_bytes, entries_bytes, parts_bytes, parts_end, tail_bytes, laid}
use Rattle.fc_bigdir.specs.Laws.{AreBytes, HasWidths}
use Rattle.fc_bigdir.proofs.FlipLemmas.{flipped}
use Rattle.fc_bigdir.proofs.LaidLemmas.{SaysLaid, says_laid, length-parts, parts_whole}
use Rattle.fc_smalldir.proofs.SmallLemmas.{right_true as second_true}
use Rattle.std.proofs.lemmas.Bool.{false_from_ne_true as not_true}

-- ---- words

-- after whole words stand those of the rest
words-append : (xs ys : List ℕ) → length xs % 4 ≡ 0 → words (xs ++ ys) ≡ words xs ++ words ys
words-append (a ∷ b ∷ c ∷ d ∷ xs) ys whole = ap (λ l. little_number 4 (a ∷ b ∷ c ∷ d ∷ []) ∷ l) (words-append xs ys (omega arith))
words-append [] ys whole = refl
words-append (a ∷ []) ys whole = absurd (omega arith)
words-append (a ∷ b ∷ []) ys whole = absurd (omega arith)
words-append (a ∷ b ∷ c ∷ []) ys whole = absurd (omega arith)

abbrev AreWords : List ℕ → Type 0
AreWords = AllByRecursion (λ x. x < 2 ^ 32)

words_below : (xs : List ℕ) → AreBytes xs → AreWords (words xs)
words_below (a ∷ b ∷ c ∷ d ∷ xs) bytes = (omega (arith, bytes.0, bytes.1.0, bytes.1.1.0, bytes.1.1.1.0), words_below xs bytes.1.1.1.1)
words_below [] bytes = tt
words_below (a ∷ []) bytes = tt
words_below (a ∷ b ∷ []) bytes = tt
words_below (a ∷ b ∷ c ∷ []) bytes = tt

-- ---- bytes

pub bytes_append : (xs ys : List ℕ) → AreBytes xs → AreBytes ys → AreBytes (xs ++ ys)
bytes_append [] ys a b = b
bytes_append (x ∷ xs) ys a b = (a.0, bytes_append xs ys a.1 b)

bytes_take : (n : ℕ) (xs : List ℕ) → AreBytes xs → AreBytes (take n xs)
bytes_take zero xs a = tt
bytes_take (suc n) [] a = tt
bytes_take (suc n) (x ∷ xs) a = (a.0, bytes_take n xs a.1)

zeros : (n : ℕ) → AreBytes (replicate n 0)
zeros zero = tt
zeros (suc n) = (omega arith, zeros n)

-- a word before bytes
word_before : (x : ℕ) (rest : List ℕ) → AreBytes rest → AreBytes (little_bytes 4 x ++ rest)
word_before x rest bytes = (omega arith, (omega arith, (omega arith, (omega arith, bytes))))

entry_of_bytes : (place : ℕ) (e : Entry) → AreBytes (entry_bytes place e)
entry_of_bytes place e =
    let r6 : List ℕ = little_bytes 4 place ++ [] in
    let r5 : List ℕ = little_bytes 4 (length e.name) ++ r6 in
    let r4 : List ℕ = little_bytes 4 e.attrs ++ r5 in
    let r3 : List ℕ = little_bytes 4 e.address ++ r4 in
    let r2 : List ℕ = little_bytes 4 e.len ++ r3 in
    let r1 : List ℕ = little_bytes 4 e.exec ++ r2 in
    word_before e.load r1 (word_before e.exec r2 (word_before e.len r3 (word_before e.address r4 (word_before e.attrs r5 (word_before (length e.name) r6 (word_before place [] tt))))))

entries_of_bytes : (places : List ℕ) (es : List Entry) → AreBytes (entries_bytes places es)
entries_of_bytes [] es = tt
entries_of_bytes (p ∷ places) [] = tt
entries_of_bytes (p ∷ places) (e ∷ es) = bytes_append (entry_bytes p e) (entries_bytes places es) (entry_of_bytes p e) (entries_of_bytes places es)

padded_of_bytes : (n : ℕ) (name : List ℕ) → AreBytes name → AreBytes (padded_name n name)
padded_of_bytes n name bytes = bytes_take n (name ++ 13 ∷ replicate n 0) (bytes_append name (13 ∷ replicate n 0) bytes (omega arith, zeros n))

head_of_bytes : (dir : BigDir) → dir.sequence < 256 → AreBytes dir.name → AreBytes (head_bytes dir)
head_of_bytes dir sequence name =
    let r5 : List ℕ = padded_name (head_space_of dir) dir.name in
    let r4 : List ℕ = little_bytes 4 dir.parent ++ r5 in
    let r3 : List ℕ = little_bytes 4 (length dir.heap) ++ r4 in
    let r2 : List ℕ = little_bytes 4 (length dir.entries) ++ r3 in
    let r1 : List ℕ = little_bytes 4 dir.size ++ r2 in
    let r0 : List ℕ = little_bytes 4 (length dir.name) ++ r1 in
    let rest : AreBytes r0 =
    word_before (length dir.name) r1 (word_before dir.size r2 (word_before (length dir.entries) r3 (word_before (length dir.heap) r4 (word_before dir.parent r5 (padded_of_bytes (head_space_of dir) dir.name name))))) in
    (sequence, (omega arith, (omega arith, (omega arith, (omega arith, (omega arith, (omega arith, (omega arith, rest))))))))

parts_of_bytes : (dir : BigDir) → dir.sequence < 256 → HasWidths dir → AreBytes (parts_bytes dir)
parts_of_bytes dir sequence widths =
    bytes_append (head_bytes dir ++ entries_bytes dir.name_places dir.entries) dir.heap
    (bytes_append (head_bytes dir) (entries_bytes dir.name_places dir.entries) (head_of_bytes dir sequence widths.name) (entries_of_bytes dir.name_places dir.entries)) widths.heap

-- ---- the check

-- the check where these bytes stand before the tail
abbrev pub sum_over : List ℕ → BigDir → ℕ
sum_over front dir = byte_xor (accumulated (words front ++ words tail_word ++ dir.sequence ∷ dir.reserved))

pub check_over : (bytes front : List ℕ) (dir : BigDir) (free : List ℕ) (check upto : ℕ) → SaysLaid bytes dir free check → length dir.reserved ≡ 2 → take upto bytes ≡ front → big_dir_check bytes upto ≡ sum_over front dir
check_over bytes front dir free check upto says two before =
    let reserved : take 3 (dir.sequence ∷ (dir.reserved ++ check ∷ [])) ≡ dir.sequence ∷ dir.reserved =
    ap (λ l. dir.sequence ∷ l) (take_at dir.reserved (check ∷ []) 2 two) in
    ap₂ (λ xs t. byte_xor (accumulated (words xs ++ words (take 4 t) ++ bytes_at t 4 3))) before says.tail
    ∙ ap (λ l. byte_xor (accumulated (words front ++ words tail_word ++ l))) reserved

front_regrouped : (a w f t c : List ℕ) → a ++ (w ++ f) ++ t ++ c ≡ (a ++ w) ++ (f ++ (t ++ c))
front_regrouped a w f t c = simp append_assoc

-- so many of the bytes after the heap are taken besides
front_taken : (dir : BigDir) (w free : List ℕ) (check : ℕ) (at : ℕ) → IsBig dir → at ≡ parts_end dir + length w → take at (laid dir (w ++ free) check) ≡ parts_bytes dir ++ w
front_taken dir w free check at big place =
    ap (take at) (front_regrouped (parts_bytes dir) w free (tail_bytes dir) (check ∷ []))
    ∙ take_at (parts_bytes dir ++ w) (free ++ (tail_bytes dir ++ check ∷ [])) at (length-append (parts_bytes dir) w ∙ omega (arith, length-parts dir big, place))

-- the check of the parts
pub check_of_parts : (dir : BigDir) (free : List ℕ) (check : ℕ) → IsBig dir → length free ≡ dir.size - bytes_taken dir → big_dir_check (laid dir free check) (parts_end dir) ≡ sum_over (parts_bytes dir) dir
check_of_parts dir free check big len =
    check_over (laid dir free check) (parts_bytes dir) dir free check (parts_end dir) (says_laid dir free check big len) big.reserved
    (front_taken dir [] free check (parts_end dir) big (omega arith) ∙ append_nil_of (parts_bytes dir)) where
      append_nil_of : (xs : List ℕ) → xs ++ [] ≡ xs
      append_nil_of [] = refl
      append_nil_of (x ∷ xs) = ap (λ l. x ∷ l) (append_nil_of xs)

-- where the heap ends, as laid bytes say it
pub end_said : (bytes : List ℕ) (dir : BigDir) (free : List ℕ) (check : ℕ) (form : Bool) → SaysLaid bytes dir free check
    → heap_end form bytes ≡ 28 + head_space form (length dir.name) + 28 * length dir.entries + length dir.heap
end_said bytes dir free check form says =
    ap (λ n. 28 + head_space form n + 28 * u32_at bytes 16 + u32_at bytes 20) says.name_len ∙ ap₂ (λ k h. 28 + head_space form (length dir.name) + 28 * k + h) says.count says.heap_len

-- The form in which they are laid has the right check.
pub own_form_right : (dir : BigDir) (free : List ℕ) (check : ℕ) → IsBig dir → length free ≡ dir.size - bytes_taken dir → check ≡ sum_over (parts_bytes dir) dir → is_check_right dir.second_form (laid dir free check) ≡ true
own_form_right dir free check big len is =
    let bytes = laid dir free check in
    let says = says_laid dir free check big len in
    let end : heap_end dir.second_form bytes ≡ parts_end dir = end_said bytes dir free check dir.second_form says ∙ omega arith in
    let fit : does_fit dir.second_form bytes ≡ true = le-leb (heap_end dir.second_form bytes + 8) (length bytes) (omega (arith, end, says.size, big.fits)) in
    let same : slice_index bytes (length bytes - 1) ≡ big_dir_check bytes (heap_end dir.second_form bytes) =
    says.check_is ∙ is ∙ sym (check_of_parts dir free check big len) ∙ ap (big_dir_check bytes) (sym end) in
    rw fit (eq-eqb _ _ same)

-- ---- the first form, where the second is laid

two_of : (xs : List ℕ) → length xs ≡ 2 → (a : ℕ) × (b : ℕ) × (xs ≡ a ∷ b ∷ [])
two_of [] is = absurd (omega arith)
two_of (a ∷ []) is = absurd (omega arith)
two_of (a ∷ b ∷ []) is = (a, b, refl)
two_of (a ∷ b ∷ c ∷ xs) is = absurd (omega arith)

-- the check that the first form takes over a word after the heap
first_form_check : (dir : BigDir) (w free : List ℕ) (check : ℕ) → IsBig dir → length w ≡ 4 → length (w ++ free) ≡ dir.size - bytes_taken dir → dir.second_form ≡ true
    → is_check_right false (laid dir (w ++ free) check) ≡ true → check ≡ sum_over (parts_bytes dir ++ w) dir
first_form_check dir w free check big wide len form right =
    let bytes = laid dir (w ++ free) check in
    let says = says_laid dir (w ++ free) check big len in
    let space : head_space_of dir ≡ head_space true (length dir.name) = ap (λ f. head_space f (length dir.name)) form in
    let whole = big.form form in
    let end : heap_end false bytes ≡ parts_end dir + length w = end_said bytes dir (w ++ free) check false says ∙ omega (arith, space, whole, wide) in
    let test = second_true (does_fit false bytes) (slice_index bytes (length bytes - 1) == big_dir_check bytes (heap_end false bytes)) right in
    let same : slice_index bytes (length bytes - 1) ≡ big_dir_check bytes (heap_end false bytes) = grind (arith, nat_tests, test) in
    sym says.check_is ∙ same ∙ check_over bytes (parts_bytes dir ++ w) dir (w ++ free) check (heap_end false bytes) says big.reserved (front_taken dir w free check (heap_end false bytes) big end)

-- the numbers that the check takes
taken_regrouped : (xs : List ℕ) (x v s a b : ℕ) → xs ++ x ∷ [] ++ v ∷ [] ++ s ∷ a ∷ b ∷ [] ≡ xs ++ x ∷ v ∷ s ∷ a ∷ b ∷ []
taken_regrouped xs x v s a b = simp append_assoc

-- Another lowest bit after the heap gives another check.
pub first_form_wrong : (dir : BigDir) (free : List ℕ) (check : ℕ) → IsBig dir → HasWidths dir → 4 + length free ≡ dir.size - bytes_taken dir → dir.second_form ≡ true
    → is_check_right false (laid dir (0 ∷ 0 ∷ 0 ∷ 0 ∷ free) check) ≡ true → is_check_right false (laid dir (1 ∷ 0 ∷ 0 ∷ 0 ∷ free) check) ≡ false
first_form_wrong dir free check big widths len form right = not_true (is_check_right false (laid dir (1 ∷ 0 ∷ 0 ∷ 0 ∷ free) check)) (λ too.
    let front = parts_bytes dir in
    let w0 : List ℕ = 0 ∷ 0 ∷ 0 ∷ 0 ∷ [] in
    let w1 : List ℕ = 1 ∷ 0 ∷ 0 ∷ 0 ∷ [] in
    let long : suc (suc (suc (suc (length free)))) ≡ dir.size - bytes_taken dir = omega (arith, len) in
    let c0 = first_form_check dir w0 free check big refl long form right in
    let c1 = first_form_check dir w1 free check big refl long form too in
    let whole : length front % 4 ≡ 0 = ap (λ n. n % 4) (length-parts dir big) ∙ parts_whole dir big in
    let two = two_of dir.reserved big.reserved in
    let r : List ℕ = dir.sequence ∷ two.0 ∷ two.1 ∷ [] in
    let s0 : sum_over (front ++ w0) dir ≡ byte_xor (accumulated (words front ++ 0 ∷ 1852143215 ∷ dir.sequence ∷ two.0 ∷ two.1 ∷ [])) =
    ap₂ (λ xs l. byte_xor (accumulated (xs ++ words tail_word ++ dir.sequence ∷ l))) (words-append front w0 whole) two.2
    ∙ ap (λ l. byte_xor (accumulated l)) (taken_regrouped (words front) 0 1852143215 dir.sequence two.0 two.1) in
    let s1 : sum_over (front ++ w1) dir ≡ byte_xor (accumulated (words front ++ 1 ∷ 1852143215 ∷ dir.sequence ∷ two.0 ∷ two.1 ∷ [])) =
    ap₂ (λ xs l. byte_xor (accumulated (xs ++ words tail_word ++ dir.sequence ∷ l))) (words-append front w1 whole) two.2
    ∙ ap (λ l. byte_xor (accumulated l)) (taken_regrouped (words front) 1 1852143215 dir.sequence two.0 two.1) in
    let small : AreBytes (two.0 ∷ two.1 ∷ []) = subst AreBytes two.2 widths.reserved in
    flipped (words front) 1852143215 dir.sequence two.0 two.1 (words_below front (parts_of_bytes dir big.sequence widths)) (omega arith) big.sequence small.0 small.1.0
    (sym s0 ∙ sym c0 ∙ c1 ∙ s1))

-- the byte after the heap set
pub behind_heap_set : (dir : BigDir) (x y : ℕ) (free : List ℕ) (check : ℕ) → IsBig dir → set (laid dir (x ∷ free) check) (parts_end dir) y ≡ laid dir (y ∷ free) check
behind_heap_set dir x y free check big =
    let rest : List ℕ = free ++ (tail_bytes dir ++ check ∷ []) in
    let before : (z : ℕ) → laid dir (z ∷ free) check ≡ parts_bytes dir ++ z ∷ rest = λ z. marked z (parts_bytes dir) free (tail_bytes dir) (check ∷ []) in
    ap (λ l. set l (parts_end dir) y) (before x) ∙ set_at (parts_bytes dir) x rest y (parts_end dir) (length-parts dir big) ∙ sym (before y) where
      marked : (z : ℕ) (a f t c : List ℕ) → a ++ z ∷ f ++ t ++ c ≡ a ++ z ∷ (f ++ (t ++ c))
      marked z a f t c = simp append_assoc
