-- What is written of a directory reads as the directory.
use Rattle.std.proofs.Common.{◌≡◌, ◌≤◌, ℕ, zero, suc, ◌+◌, ◌-◌, ◌*◌, ◌%◌, ◌==◌, ◌&&◌, ◌||◌, Bool, true, false, not, List, ◌∷◌, length, map, find, take, set, replicate, slice_index, if◌then◌else◌, None, Option, refl, sym, ap, ap₂, ◌∙◌, arith, subst, eq-eqb, le-leb}
use Rattle.std.specs.List.{range_with_len}
use Rattle.std.proofs.lemmas.Bool.Decides.{nat_tests}
use Rattle.std.proofs.lemmas.List.{length-replicate}
use Rattle.fc_bytes.specs.Words.{bytes_at, u32_at}
use Rattle.fc_bytes.specs.Checks.{is_big_size, big_dir_check}
use Rattle.fc_dirs.specs.declared.Entry.{Entry}
use Rattle.fc_dirs.specs.Entries.{first_twin}
use Rattle.fc_dirs.specs.Big.{BigDir, IsBig, IsBigDir, head_space, head_space_of, bytes_taken, name_len, entry_count, heap_len, entries_start, heap_start, heap_end, does_fit, is_check_right, has_second_form, heap_of, entry_bytes, big_entry, big_entries, name_place, is_entry_right, first_bad_entry, is_magic_right, is_sequence_right, is_size_right, frame_fault, big_fault, big_dir}
use Rattle.fc_bigdir.specs.Laws.{ReadsBack, HasWidths}
use Rattle.fc_dirs.specs.BigBytes.{laid, free_bytes, checked_bytes, parts_bytes, parts_end, big_bytes, tail_word}
use Rattle.fc_bigdir.proofs.WrittenEntries.{SaysEntries, says_entries}
use Rattle.fc_bigdir.proofs.LaidLemmas.{SaysLaid, says_laid, size_bounds}
use Rattle.fc_bigdir.proofs.WrittenChecks.{sum_over, check_of_parts, end_said, own_form_right, first_form_wrong, behind_heap_set}
use Rattle.fc_smalldir.proofs.SmallLemmas.{right_true as second_true}

-- ---- what is read, in plain words

abbrev entries_in : List ℕ → List ℕ → ℕ → ℕ → List Entry
entries_in heap bytes start count = map (λ i. big_entry heap (bytes_at bytes (start + 28 * i) 28)) (range_with_len 0 count)

abbrev places_in : List ℕ → ℕ → ℕ → List ℕ
places_in bytes start count = map (λ i. name_place (bytes_at bytes (start + 28 * i) 28)) (range_with_len 0 count)

abbrev bad_in : List ℕ → List ℕ → ℕ → ℕ → Option ℕ
bad_in heap bytes start count = find (λ i. not (is_entry_right heap (bytes_at bytes (start + 28 * i) 28))) (range_with_len 0 count)

-- what laid bytes say of heap and entries, read by their own form
record SaysNames (bytes : List ℕ) (dir : BigDir) : Type 0 where
  pub heap : heap_of dir.second_form bytes ≡ dir.heap
  pub entries : big_entries dir.second_form bytes ≡ dir.entries
  pub places : map (λ i. name_place (entry_bytes dir.second_form bytes i)) (range_with_len 0 (entry_count bytes)) ≡ dir.name_places
  pub bad : first_bad_entry dir.second_form bytes ≡ None

says_names : (bytes : List ℕ) (dir : BigDir) (free : List ℕ) (check : ℕ) → SaysLaid bytes dir free check → IsBig dir → HasWidths dir → SaysNames bytes dir
says_names bytes dir free check says big widths =
    let form = dir.second_form in
    let bounds = size_bounds dir.size big.size in
    let start : entries_start form bytes ≡ 28 + head_space_of dir = ap (λ n. 28 + head_space form n) says.name_len in
    let heap_at : heap_start form bytes ≡ 28 + head_space_of dir + 28 * length dir.entries = ap₂ (λ s k. s + 28 * k) start says.count in
    let heap : heap_of form bytes ≡ dir.heap = ap₂ (bytes_at bytes) heap_at says.heap_len ∙ says.heap in
    let place : 28 + head_space_of dir + 28 * 0 ≡ 28 + head_space_of dir = omega arith in
    let here = rw (← place) at says.entries in
    let all : SaysEntries dir.heap bytes (28 + head_space_of dir) 0 dir.name_places dir.entries =
    says_entries dir.heap bytes (28 + head_space_of dir) 0 dir.name_places dir.entries _ here big.names big.entries widths.entries (omega (arith, bounds.most, big.fits)) in
    record {
      heap = heap;
      entries = ap₂ (λ h s. entries_in h bytes s (entry_count bytes)) heap start ∙ ap (entries_in dir.heap bytes (28 + head_space_of dir)) says.count ∙ all.entries_are;
      places = ap₂ (places_in bytes) start says.count ∙ all.places_are;
      bad = ap₂ (λ h s. bad_in h bytes s (entry_count bytes)) heap start ∙ ap (bad_in dir.heap bytes (28 + head_space_of dir)) says.count ∙ all.right;
    }

-- ---- no fault

one_form : (f : Bool → Bool) (form : Bool) → f form ≡ true → (f false || f true) ≡ true
one_form f false right = rw right refl
one_form f true right = go (f false) right where
  go : (b : Bool) → f true ≡ true → (b || f true) ≡ true
  go true right = refl
  go false right = right

magic_right : (bytes : List ℕ) (dir : BigDir) (free : List ℕ) (check : ℕ) → SaysLaid bytes dir free check → is_magic_right bytes ≡ true
magic_right bytes dir free check says =
    let tail : bytes_at bytes (length bytes - 8) 4 ≡ tail_word = ap (take 4) says.tail in
    rw (says.version, says.word, tail) refl

frame_right : (bytes : List ℕ) (dir : BigDir) (free : List ℕ) (check : ℕ) → SaysLaid bytes dir free check → IsBig dir → is_check_right dir.second_form bytes ≡ true → frame_fault bytes ≡ None
frame_right bytes dir free check says big right =
    let size : is_big_size (length bytes) ≡ true = ap is_big_size says.size ∙ big.size in
    let magic = magic_right bytes dir free check says in
    let sequence : is_sequence_right bytes ≡ true = eq-eqb (slice_index bytes 0) (slice_index bytes (length bytes - 4)) (says.sequence ∙ sym says.tail_sequence) in
    let told : (u32_at bytes 12 == length bytes) ≡ true = eq-eqb (u32_at bytes 12) (length bytes) (says.size_is ∙ sym says.size) in
    let end = end_said bytes dir free check dir.second_form says in
    let fit : does_fit dir.second_form bytes ≡ true = le-leb (heap_end dir.second_form bytes + 8) (length bytes) (omega (arith, end, says.size, big.fits)) in
    let fits : (does_fit false bytes || does_fit true bytes) ≡ true = one_form (λ f. does_fit f bytes) dir.second_form fit in
    let whole : (heap_len bytes % 4 == 0) ≡ true = eq-eqb (heap_len bytes % 4) 0 (ap (λ n. n % 4) says.heap_len ∙ big.words) in
    let sizes : is_size_right bytes ≡ true = rw (told, fits, whole) refl in
    let checks : (is_check_right false bytes || is_check_right true bytes) ≡ true = one_form (λ f. is_check_right f bytes) dir.second_form right in
    rw (size, magic, sequence, sizes, checks) refl

-- laid bytes that are read by their own form
pub laid_reads : (dir : BigDir) (free : List ℕ) (check : ℕ) → IsBig dir → HasWidths dir → length free ≡ dir.size - bytes_taken dir → check ≡ sum_over (parts_bytes dir) dir
    → has_second_form (laid dir free check) ≡ dir.second_form → IsBigDir (laid dir free check) dir
unfolding big_fault big_dir
laid_reads dir free check big widths len is form =
    let bytes = laid dir free check in
    let says = says_laid dir free check big len in
    let names = says_names bytes dir free check says big widths in
    let frame = frame_right bytes dir free check says big (own_form_right dir free check big len is) in
    let bad : first_bad_entry (has_second_form bytes) bytes ≡ None = ap (λ f. first_bad_entry f bytes) form ∙ names.bad in
    let entries : big_entries (has_second_form bytes) bytes ≡ dir.entries = ap (λ f. big_entries f bytes) form ∙ names.entries in
    let twin : first_twin (big_entries (has_second_form bytes) bytes) ≡ None = ap first_twin entries ∙ big.apart in
    let heap : heap_of (has_second_form bytes) bytes ≡ dir.heap = ap (λ f. heap_of f bytes) form ∙ names.heap in
    let places : map (λ i. name_place (entry_bytes (has_second_form bytes) bytes i)) (range_with_len 0 (entry_count bytes)) ≡ dir.name_places =
    ap (λ f. map (λ i. name_place (entry_bytes f bytes i)) (range_with_len 0 (entry_count bytes))) form ∙ names.places in
    let name : bytes_at bytes 28 (name_len bytes) ≡ dir.name = ap (bytes_at bytes 28) says.name_len ∙ says.name in
    record {
      right = rw (frame, bad, twin) refl;
      says = λ i. record {
        size = says.size i;
        sequence = says.sequence i;
        parent = says.parent i;
        name = name i;
        second_form = form i;
        reserved = says.reserved i;
        heap = heap i;
        name_places = places i;
        entries = entries i;
      };
    }

-- ---- the word after the heap

zeros_four : (n : ℕ) → 4 ≤ n → replicate {A = ℕ} n 0 ≡ 0 ∷ 0 ∷ 0 ∷ 0 ∷ replicate (n - 4) 0
zeros_four zero few = absurd (omega arith)
zeros_four (suc zero) few = absurd (omega arith)
zeros_four (suc (suc zero)) few = absurd (omega arith)
zeros_four (suc (suc (suc zero))) few = absurd (omega arith)
zeros_four (suc (suc (suc (suc n)))) few = let same : suc (suc (suc (suc n))) - 4 ≡ n = omega arith in rw same refl

left_true : (a b : Bool) → (a && b) ≡ true → a ≡ true
left_true true b is = refl
left_true false b is = absurd (cc)

-- there is room for a word after the heap, if the parts fit in the first form, too
room_for_word : (dir : BigDir) (free : List ℕ) (check : ℕ) → IsBig dir → length free ≡ dir.size - bytes_taken dir → dir.second_form ≡ true
    → is_check_right false (laid dir free check) ≡ true → 4 ≤ dir.size - bytes_taken dir
room_for_word dir free check big len form right =
    let bytes = laid dir free check in
    let says = says_laid dir free check big len in
    let fit : does_fit false bytes ≡ true = left_true (does_fit false bytes) (slice_index bytes (length bytes - 1) == big_dir_check bytes (heap_end false bytes)) right in
    let inside : heap_end false bytes + 8 ≤ length bytes = grind (arith, nat_tests, fit) in
    let space : head_space_of dir ≡ head_space true (length dir.name) = ap (λ f. head_space f (length dir.name)) form in
    let whole = big.form form in
    let end = end_said bytes dir free check false says in
    omega (arith, inside, says.size, space, whole, end)

-- the bytes with the word after the heap that is asked for
pub marked_bytes : (dir : BigDir) → IsBig dir → dir.second_form ≡ true → is_check_right false (checked_bytes dir) ≡ true → (free : List ℕ)
    × (set (checked_bytes dir) (parts_end dir) 1 ≡ laid dir (1 ∷ 0 ∷ 0 ∷ 0 ∷ free) (sum_over (parts_bytes dir) dir)) × (4 + length free ≡ dir.size - bytes_taken dir)
    × (is_check_right false (laid dir (0 ∷ 0 ∷ 0 ∷ 0 ∷ free) (sum_over (parts_bytes dir) dir)) ≡ true)
marked_bytes dir big form right =
    let n = dir.size - bytes_taken dir in
    let len : length (free_bytes dir) ≡ n = length-replicate n 0 in
    let check = check_of_parts dir (free_bytes dir) 0 big len in
    let room = room_for_word dir (free_bytes dir) (big_dir_check (laid dir (free_bytes dir) 0) (parts_end dir)) big len form right in
    let zeros = zeros_four n room in
    let rest : List ℕ = replicate (n - 4) 0 in
    let same : checked_bytes dir ≡ laid dir (0 ∷ 0 ∷ 0 ∷ 0 ∷ rest) (sum_over (parts_bytes dir) dir) = ap₂ (laid dir) zeros check in (
      rest,
      ap (λ l. set l (parts_end dir) 1) same ∙ behind_heap_set dir 0 1 (0 ∷ 0 ∷ 0 ∷ rest) (sum_over (parts_bytes dir) dir) big,
      omega (arith, room, length-replicate {A = ℕ} (n - 4) 0),
      sym (ap (is_check_right false) same) ∙ right,
    )

-- the form that is read, where that in which the bytes are laid is right, and the first one isn't in its place
form_told : (right : Bool → Bool) (form : Bool) → right form ≡ true → (form && right false) ≡ false → not (right false) ≡ form
form_told right false own other = ap not own
form_told right true own other = ap not other

chosen : (c : Bool) (x y : List ℕ) (P : List ℕ → Type 0) → (c ≡ true → P x) → (c ≡ false → P y) → P (if c then x else y)
chosen true x y P first second = first refl
chosen false x y P first second = second refl

pub read_back : ReadsBack
unfolding big_bytes
read_back dir big widths =
    let bytes = checked_bytes dir in
    let first = is_check_right false bytes in
    let sum = sum_over (parts_bytes dir) dir in
    let len : length (free_bytes dir) ≡ dir.size - bytes_taken dir = length-replicate (dir.size - bytes_taken dir) 0 in
    let check = check_of_parts dir (free_bytes dir) 0 big len in
    let reads : IsBigDir (big_bytes dir) dir =
    chosen (dir.second_form && first) (set bytes (parts_end dir) 1) bytes (λ l. IsBigDir l dir)
    (λ both.
    let form = left_true dir.second_form first both in
    let m = marked_bytes dir big form (second_true dir.second_form first both) in
    let wrong = first_form_wrong dir m.0 sum big widths m.2 form m.3 in
    subst (λ l. IsBigDir l dir) (sym m.1) (laid_reads dir (1 ∷ 0 ∷ 0 ∷ 0 ∷ m.0) sum big widths (omega (arith, m.2)) refl (ap not wrong ∙ sym form)))
    (λ other.
    let c = big_dir_check (laid dir (free_bytes dir) 0) (parts_end dir) in
    laid_reads dir (free_bytes dir) c big widths len check (form_told (λ f. is_check_right f bytes) dir.second_form (own_form_right dir (free_bytes dir) c big len check) other)) in
    record { reads = reads; spelled = refl }
