-- What is written of a whole directory reads as the directory.
use Rattle.std.proofs.Common.{◌≡◌, ◌≤◌, ◌<◌, ℕ, zero, suc, ◌+◌, ◌-◌, ◌*◌, ◌^◌, ◌/◌, ◌%◌, Bool, true, false, List, [], ◌∷◌, ◌++◌, length, take, drop, replicate, slice_index, refl, sym, ap, ap₂, ◌∙◌, arith, append_assoc, length-append}
use Rattle.std.specs.List.{flat_map}
use Rattle.std.proofs.lemmas.List.{take_at, drop_at, drop-drop, get_or-drop, length-replicate, take-append-le, drop-append-le, length-drop}
use Rattle.byteorder.specs.Endian.{little_bytes, little_number}
use Rattle.byteorder.specs.Numbers.{little_number-reads_back, length-bytes_low_first}
use Rattle.fc_bytes.specs.Words.{bytes_at, words}
use Rattle.fc_bytes.specs.Checks.{small_dir_check, byte_xor, accumulated}
use Rattle.fc_dirs.specs.Small.{SmallDir, IsSmall, tail_of, small_entries}
use Rattle.fc_dirs.specs.SmallBytes.{bytes_before_check, head_bytes, free_bytes, tail_bytes, magic_word, entry_bytes}
use Rattle.fc_smalldir.proofs.EntryLemmas.{entries-read_back, length-entries}

-- what stands before the tail
abbrev pub front_bytes : SmallDir → List ℕ
front_bytes dir = head_bytes dir ++ flat_map (entry_bytes dir.form) dir.entries ++ free_bytes dir

pub length-magic_word : (is_hugo : Bool) → length (magic_word is_hugo) ≡ 4
length-magic_word true = refl
length-magic_word false = refl

pub length-front : (dir : SmallDir) → length dir.entries ≤ (tail_of dir.form).places → length (front_bytes dir) ≡ 5 + 26 * (tail_of dir.form).places + 1
length-front dir few =
    let w = length-magic_word dir.is_hugo in
    let es = length-entries dir.form dir.entries in
    let z = length-replicate {A = ℕ} (26 * (tail_of dir.form).places + 1 - 26 * length dir.entries) 0 in
    simp length-append (omega (arith, w, es, z))

-- the parts of bytes from the tail on
pub record SaysTail (bytes : List ℕ) (n first last : ℕ) (a title b : List ℕ) (parent sequence : ℕ) (word : List ℕ) (check : ℕ) : Type 0 where
  pub first_is : take first (drop n bytes) ≡ a
  pub parent_is : little_number 3 (drop (n + first) bytes) ≡ parent
  pub title_is : take 19 (drop (n + first + 3) bytes) ≡ title
  pub last_is : take last (drop (n + first + 22) bytes) ≡ b
  pub sequence_is : slice_index bytes (n + first + 22 + last) ≡ sequence
  pub word_is : take 4 (drop (n + first + 23 + last) bytes) ≡ word
  pub check_is : slice_index bytes (n + first + 27 + last) ≡ check

tail_regrouped : (f a p t b h c : List ℕ) → f ++ (a ++ p ++ t ++ b ++ h) ++ c ≡ f ++ (a ++ (p ++ (t ++ (b ++ (h ++ c)))))
tail_regrouped f a p t b h c = simp append_assoc

-- one step further after a part
pub step : (bytes part rest : List ℕ) (at size next : ℕ) → drop at bytes ≡ part ++ rest → length part ≡ size → next ≡ at + size → drop next bytes ≡ rest
step bytes part rest at size next here is sum =
    rw sum (sym (drop-drop size at bytes) ∙ ap (drop size) here ∙ drop_at part rest size is)

pub at_front : (bytes : List ℕ) (at x : ℕ) (rest : List ℕ) → drop at bytes ≡ x ∷ rest → slice_index bytes at ≡ x
at_front bytes at x rest here =
    let place : at + 0 ≡ at = omega arith in
    sym (rw place at (get_or-drop at bytes 0 0)) ∙ ap (λ r. slice_index r 0) here

pub says_tail : (front a title b : List ℕ) (n first last parent sequence : ℕ) (word : List ℕ) (check : ℕ)
    → length front ≡ n → length a ≡ first → length title ≡ 19 → length b ≡ last → length word ≡ 4 → parent < 2 ^ 24
    → SaysTail (front ++ (a ++ little_bytes 3 parent ++ title ++ b ++ sequence ∷ word) ++ check ∷ []) n first last a title b parent sequence word check
says_tail front a title b n first last parent sequence word check hn ha ht hb hw hp =
    let p = little_bytes 3 parent in
    let bytes = front ++ (a ++ p ++ title ++ b ++ sequence ∷ word) ++ check ∷ [] in
    let r5 : List ℕ = check ∷ [] in
    let r4 : List ℕ = word ++ r5 in
    let r3 : List ℕ = sequence ∷ r4 in
    let r2 : List ℕ = b ++ r3 in
    let r1 : List ℕ = title ++ r2 in
    let r0 : List ℕ = p ++ r1 in
    let whole : bytes ≡ front ++ (a ++ r0) = tail_regrouped front a p title b (sequence ∷ word) (check ∷ []) in
    let d0 : drop n bytes ≡ a ++ r0 = ap (drop n) whole ∙ drop_at front (a ++ r0) n hn in
    let d1 : drop (n + first) bytes ≡ r0 = step bytes a r0 n first (n + first) d0 ha (omega arith) in
    let d2 : drop (n + first + 3) bytes ≡ r1 = step bytes p r1 (n + first) 3 (n + first + 3) d1 (length-bytes_low_first 0 3 parent) (omega arith) in
    let d3 : drop (n + first + 22) bytes ≡ r2 = step bytes title r2 (n + first + 3) 19 (n + first + 22) d2 ht (omega arith) in
    let d4 : drop (n + first + 22 + last) bytes ≡ r3 = step bytes b r3 (n + first + 22) last (n + first + 22 + last) d3 hb (omega arith) in
    let d5 : drop (n + first + 23 + last) bytes ≡ r4 = step bytes (sequence ∷ []) r4 (n + first + 22 + last) 1 (n + first + 23 + last) d4 refl (omega arith) in
    let d6 : drop (n + first + 27 + last) bytes ≡ r5 = step bytes word r5 (n + first + 23 + last) 4 (n + first + 27 + last) d5 hw (omega arith) in
    record {
      first_is = ap (take first) d0 ∙ take_at a r0 first ha;
      parent_is = ap (little_number 3) d1 ∙ little_number-reads_back 3 parent r1 hp;
      title_is = ap (take 19) d2 ∙ take_at title r2 19 ht;
      last_is = ap (take last) d3 ∙ take_at b r3 last hb;
      sequence_is = at_front bytes (n + first + 22 + last) sequence r4 d4;
      word_is = ap (take 4) d5 ∙ take_at word r5 4 hw;
      check_is = at_front bytes (n + first + 27 + last) check [] d6;
    }

-- the bytes of a directory with any check
abbrev pub checked_bytes : SmallDir → ℕ → List ℕ
checked_bytes dir check = bytes_before_check dir ++ check ∷ []

-- ---- parts that lie before a last part

same_front : (bytes c o : List ℕ) (n : ℕ) → n ≤ length bytes → take n (bytes ++ c) ≡ take n (bytes ++ o)
same_front bytes c o n within = take-append-le n bytes c within ∙ sym (take-append-le n bytes o within)

same_part : (bytes c o : List ℕ) (at n : ℕ) → at + n ≤ length bytes → bytes_at (bytes ++ c) at n ≡ bytes_at (bytes ++ o) at n
same_part bytes c o at n within =
    let left : n ≤ length (drop at bytes) = omega (arith, length-drop at bytes) in
    ap (take n) (drop-append-le at bytes c (omega arith)) ∙ same_front (drop at bytes) c o n left ∙ sym (ap (take n) (drop-append-le at bytes o (omega arith)))

-- ---- the head and the entries

pub checked_regrouped : (h e f t c : List ℕ) → h ++ e ++ f ++ t ++ c ≡ h ++ (e ++ (f ++ (t ++ c)))
checked_regrouped h e f t c = simp append_assoc

-- what stands from the first entry on
pub behind_head : (dir : SmallDir) (check : ℕ) → drop 5 (checked_bytes dir check) ≡ flat_map (entry_bytes dir.form) dir.entries ++ (free_bytes dir ++ (tail_bytes dir ++ check ∷ []))
behind_head dir check =
    let rest : List ℕ = flat_map (entry_bytes dir.form) dir.entries ++ (free_bytes dir ++ (tail_bytes dir ++ check ∷ [])) in
    let size : length (head_bytes dir) ≡ 5 = omega (arith, length-magic_word dir.is_hugo) in
    ap (drop 5) (checked_regrouped (head_bytes dir) (flat_map (entry_bytes dir.form) dir.entries) (free_bytes dir) (tail_bytes dir) (check ∷ []))
    ∙ drop_at (head_bytes dir) rest 5 size

-- zeros begin with 0
zeros_first : (n : ℕ) (rest : List ℕ) → 0 < n → slice_index (replicate n 0 ++ rest) 0 ≡ 0
zeros_first zero rest some = absurd (omega arith)
zeros_first (suc n) rest some = refl

pub entries_kept : (dir : SmallDir) (check : ℕ) → IsSmall dir → small_entries dir.form (checked_bytes dir check) ≡ dir.entries
entries_kept dir check small =
    let rest : List ℕ = free_bytes dir ++ (tail_bytes dir ++ check ∷ []) in
    rw (behind_head dir check)
    (entries-read_back (tail_of dir.form).places dir.form dir.entries rest small.places small.entries
    (λ free. zeros_first (26 * (tail_of dir.form).places + 1 - 26 * length dir.entries) (tail_bytes dir ++ check ∷ []) (omega (arith, free))))

-- ---- the check

-- the check does not read its own byte
pub check_kept : (bytes : List ℕ) (check other end : ℕ) → length bytes ≡ 2047 → end ≤ 2047 → small_dir_check (bytes ++ check ∷ []) end ≡ small_dir_check (bytes ++ other ∷ []) end
check_kept bytes check other end size within =
    let c = check ∷ [] in
    let o = other ∷ [] in
    let front : take end (bytes ++ c) ≡ take end (bytes ++ o) = same_front bytes c o end (omega arith) in
    let middle : bytes_at (bytes ++ c) (end / 4 * 4) (end % 4) ≡ bytes_at (bytes ++ o) (end / 4 * 4) (end % 4) =
    same_part bytes c o (end / 4 * 4) (end % 4) (omega arith) in
    let tail : bytes_at (bytes ++ c) 2008 36 ≡ bytes_at (bytes ++ o) 2008 36 = same_part bytes c o 2008 36 (omega arith) in
    ap (λ xs. byte_xor (accumulated xs)) (ap₂ (λ xs ys. xs ++ ys) (ap₂ (λ xs ys. words xs ++ ys) front middle) (ap words tail))
