-- Entries of which bytes say the name to be right.
use Rattle.std.proofs.Common.{◌≡◌, ◌<◌, ◌≤◌, ℕ, ◌+◌, ◌-◌, ◌*◌, ◌&&◌, Bool, true, false, not, nat_le, List, length, get_or, take, drop, refl, sym, ap, ◌∙◌, Some, None, arith}
use Rattle.std.specs.List.{All, list_all}
use Rattle.std.specs.Int.{is_in_range}
use Rattle.std.proofs.lemmas.List.{drop-drop, drop-take}
use Rattle.std.proofs.lemmas.List.Sums.{AllPass-from_list_all}
use Rattle.std.proofs.lemmas.Bool.Decides.{nat_tests}
use Rattle.byteorder.specs.Endian.{little_number}
use Rattle.byteorder.specs.Numbers.{little_from-take}
use Rattle.fc_bytes.specs.Words.{bytes_at, u32_at}
use Rattle.fc_dirs.specs.Big.{is_entry_right, entry_bytes, entries_start, entry_count, name_place, first_bad_entry, heap_of}
use Rattle.fc_dirs.proofs.SearchLemmas.{find-none, find-found}
use Rattle.std.proofs.lemmas.Bool.{and_parts as both}

-- A name that passes the test: 1 to 255 bytes from 32 on, inside the heap.
pub record IsNamed (heap : List ℕ) (at len : ℕ) : Type 0 where
  pub some : 0 < len
  pub most : len ≤ 255
  pub inside : at + len ≤ length heap
  pub printed : All (λ c. 32 ≤ c) (bytes_at heap at len)

pub named : (heap : List ℕ) (at len : ℕ) → (is_in_range 1 255 len && nat_le (at + len) (length heap) && list_all (λ c. nat_le 32 c) (bytes_at heap at len)) ≡ true → IsNamed heap at len
named heap at len right =
    let parts = both (is_in_range 1 255 len && nat_le (at + len) (length heap)) (list_all (λ c. nat_le 32 c) (bytes_at heap at len)) right in
    let first = both (is_in_range 1 255 len) (nat_le (at + len) (length heap)) parts.0 in
    let range = both (nat_le 1 len) (nat_le len 255) first.0 in
    let low = range.0 in
    let high = range.1 in
    let end = first.1 in
    record {
      some = grind (arith, nat_tests, low);
      most = grind (arith, nat_tests, high);
      inside = grind (arith, nat_tests, end);
      printed = λ k d within.
          let pass : nat_le 32 (get_or (bytes_at heap at len) k d) ≡ true = AllPass-from_list_all (λ c. nat_le 32 c) (bytes_at heap at len) parts.1 k d within in
          grind (arith, nat_tests, pass);
    }

-- the same of a part of the heap
pub printed_slice : (heap : List ℕ) (at len : ℕ) → IsNamed heap at len → All (λ c. 32 ≤ c) (take (at + len - at) (drop at heap))
printed_slice heap at len named =
    let size : at + len - at ≡ len = omega arith in
    rw size named.printed

-- ---- entries at their places

-- the part of the bytes in which an entry stands
pub entry_slice : (second_form : Bool) (b : List ℕ) (start i : ℕ) → start ≡ entries_start second_form b
    → take (start + 28 * i + 28 - (start + 28 * i)) (drop (start + 28 * i) b) ≡ entry_bytes second_form b i
entry_slice second_form b start i is =
    let size : start + 28 * i + 28 - (start + 28 * i) ≡ 28 = omega arith in
    rw size (ap (λ n. take 28 (drop (n + 28 * i) b)) is)

-- the last word of an entry
last_word : (at : ℕ) (b : List ℕ) → u32_at b (at + 24) ≡ u32_at (take 28 (drop at b)) 24
last_word at b =
    sym (ap (little_number 4) (drop-take 24 4 (drop at b)) ∙ little_from-take 0 4 4 (drop 24 (drop at b)) (omega arith)
    ∙ ap (little_number 4) (drop-drop 24 at b))

pub place_word : (second_form : Bool) (b : List ℕ) (start i : ℕ) → start ≡ entries_start second_form b → u32_at b (start + 28 * i + 24) ≡ name_place (entry_bytes second_form b i)
place_word second_form b start i is = last_word (start + 28 * i) b ∙ ap (λ n. name_place (take 28 (drop (n + 28 * i) b))) is

-- ---- the first bad entry

abbrev pub AreRight : Bool → List ℕ → ℕ → Type 0
AreRight second_form b n = (k : ℕ) → k < n → is_entry_right (heap_of second_form b) (entry_bytes second_form b k) ≡ true

at_zero : (p : ℕ → Bool) (k : ℕ) (v : Bool) → p k ≡ v → p (0 + k) ≡ v
at_zero p k v is = let place : 0 + k ≡ k = omega arith in rw place is

pub bad_found : (second_form : Bool) (b : List ℕ) (i : ℕ) → i < entry_count b → AreRight second_form b i → is_entry_right (heap_of second_form b) (entry_bytes second_form b i) ≡ false
    → first_bad_entry second_form b ≡ Some i
bad_found second_form b i within right wrong =
    let p : ℕ → Bool = λ k. not (is_entry_right (heap_of second_form b) (entry_bytes second_form b k)) in
    let place : 0 + i ≡ i = omega arith in
    find-found p 0 (entry_count b) i within (λ k h. at_zero p k false (ap not (right k h))) (at_zero p i true (ap not wrong)) ∙ ap Some place

pub none_bad : (second_form : Bool) (b : List ℕ) → AreRight second_form b (entry_count b) → first_bad_entry second_form b ≡ None
none_bad second_form b right =
    let p : ℕ → Bool = λ k. not (is_entry_right (heap_of second_form b) (entry_bytes second_form b k)) in
    find-none p 0 (entry_count b) (λ k h. at_zero p k false (ap not (right k h)))
