-- What bytes say can be written again.
use Rattle.std.proofs.Common.{◌≡◌, ◌<◌, ◌≤◌, ℕ, zero, suc, ◌+◌, ◌-◌, Bool, true, false, not, List, length, get_or, map, drop, slice_index, None, refl, ap, ◌∙◌, arith, length-take-le, length-drop}
use Rattle.std.specs.List.{AllByRecursion, range_with_len}
use Rattle.std.proofs.lemmas.List.{get_or_default}
use Rattle.std.proofs.lemmas.List.FromFn.{length-map-range_with_len}
use Rattle.byteorder.specs.Numbers.{little_from-lt}
use Rattle.fc_bytes.specs.Words.{bytes_at, u32_at}
use Rattle.fc_dirs.specs.declared.Entry.{Entry}
use Rattle.fc_dirs.specs.Entries.{first_twin}
use Rattle.fc_dirs.specs.Big.{AllStand, FitsBig, IsBig, StandsInHeap, big_dir, big_entries, big_entry, entry_bytes, entry_count, entry_name_len, first_bad_entry, frame_fault, has_second_form, heap_len, heap_of, heap_start, is_entry_right, name_len, name_place}
use Rattle.fc_bigdir.specs.Fields.{dir_of}
use Rattle.fc_smalldir.proofs.ReadLemmas.{take_bytes, drop_bytes}
use Rattle.fc_dirs.proofs.SearchLemmas.{fails-find}
use Rattle.fc_bigdir.proofs.EntryLemmas.{AreRight, named}
use Rattle.fc_bigdir.proofs.FaultLemmas.{IsFramed, framed}
use Rattle.fc_smalldir.proofs.FaultLemmas.{length_at}

-- Each is a byte.
abbrev pub AreBytes : List ℕ → Type 0
AreBytes b = (i : ℕ) → slice_index b i < 256

-- a part of bytes are bytes
part_bytes : (b : List ℕ) (at n : ℕ) → AreBytes b → AreBytes (bytes_at b at n)
part_bytes b at n bytes = take_bytes 256 n (drop at b) (omega arith) (drop_bytes at b bytes)

-- ---- entries

right_all : (second_form : Bool) (b : List ℕ) → first_bad_entry second_form b ≡ None → AreRight second_form b (entry_count b)
right_all second_form b none k within =
    let place : 0 + k ≡ k = omega arith in
    not_false (is_entry_right (heap_of second_form b) (entry_bytes second_form b k))
    (rw place at (fails-find (λ i. not (is_entry_right (heap_of second_form b) (entry_bytes second_form b i))) 0 (entry_count b) none k within)) where
      not_false : (x : Bool) → not x ≡ false → x ≡ true
      not_false true is = refl
      not_false false is = absurd (cc)

-- A name that is right stands in the heap.
stands : (heap row : List ℕ) → is_entry_right heap row ≡ true → StandsInHeap heap (name_place row) (big_entry heap row).name
stands heap row right =
    let is = named heap (name_place row) (entry_name_len row) right in
    let size : length (bytes_at heap (name_place row) (entry_name_len row)) ≡ entry_name_len row = length_at heap (name_place row) (entry_name_len row) is.inside in
    record { inside = omega (arith, is.inside, size); spelled = ap (λ n. bytes_at heap (name_place row) n) size }

fits : (heap row : List ℕ) → AreBytes heap → is_entry_right heap row ≡ true → FitsBig (big_entry heap row)
fits heap row bytes right =
    let at = name_place row in
    let len = entry_name_len row in
    let is = named heap at len right in
    let size : length (bytes_at heap at len) ≡ len = length_at heap at len is.inside in
    record {
      name = record {
        some = omega (arith, is.some, size);
        most = omega (arith, is.most, size);
        bytes = λ k d within.
            let low = is.printed k d within in
            let same : get_or (bytes_at heap at len) k d ≡ slice_index (bytes_at heap at len) k = get_or_default (bytes_at heap at len) k d 0 within in
            let high = part_bytes heap at len bytes k in
            (low, omega (arith, same, high));
      };
      last = refl;
    }

module _ (heap : List ℕ) (row : ℕ → List ℕ) where
  stand_all : (a n : ℕ) → ((k : ℕ) → a ≤ k → k < a + n → is_entry_right heap (row k) ≡ true)
      → AllStand heap (map (λ i. name_place (row i)) (range_with_len a n)) (map (λ i. big_entry heap (row i)) (range_with_len a n))
  stand_all a zero right = tt
  stand_all a (suc n) right =
      (stands heap (row a) (right a (omega arith) (omega arith)), stand_all (a + 1) n (λ k low high. right k (omega (arith, low)) (omega (arith, high))))

  fit_all : AreBytes heap → (a n : ℕ) → ((k : ℕ) → a ≤ k → k < a + n → is_entry_right heap (row k) ≡ true)
      → AllByRecursion FitsBig (map (λ i. big_entry heap (row i)) (range_with_len a n))
  fit_all bytes a zero right = tt
  fit_all bytes a (suc n) right =
      (fits heap (row a) bytes (right a (omega arith) (omega arith)), fit_all bytes (a + 1) n (λ k low high. right k (omega (arith, low)) (omega (arith, high))))

-- ---- the directory

pub entries_count : (second_form : Bool) (b : List ℕ) → length (big_entries second_form b) ≡ entry_count b
entries_count second_form b = length-map-range_with_len (λ i. big_entry (heap_of second_form b) (entry_bytes second_form b i)) 0 (entry_count b)

pub says_big : (b : List ℕ) → AreBytes b → frame_fault b ≡ None → first_bad_entry (has_second_form b) b ≡ None → first_twin (big_entries (has_second_form b) b) ≡ None → IsBig (big_dir b)
unfolding big_dir
says_big b bytes frame right apart =
    let form = has_second_form b in
    let heap = heap_of form b in
    let is : IsFramed b form = framed b frame in
    let all = right_all form b right in
    let name : length (bytes_at b 28 (name_len b)) ≡ name_len b = length_at b 28 (name_len b) (omega (arith, is.parts, is.named)) in
    let heap_size : length heap ≡ heap_len b = length_at b (heap_start form b) (heap_len b) (omega (arith, is.parts)) in
    let count : length (big_entries form b) ≡ entry_count b = entries_count form b in
    record {
      size = is.size;
      fits = rw (name, count, heap_size) is.parts;
      form = λ h. rw name (is.form h);
      words = rw heap_size is.words;
      entries = fit_all heap (λ i. entry_bytes form b i) (part_bytes b (heap_start form b) (heap_len b) bytes) 0 (entry_count b) (λ k low high. all k (omega (arith, high)));
      names = stand_all heap (λ i. entry_bytes form b i) 0 (entry_count b) (λ k low high. all k (omega (arith, high)));
      apart = apart;
      sequence = bytes 0;
      parent = little_from-lt 0 4 (drop 24 b) (drop_bytes 24 b bytes);
      reserved = length_at b (length b - 3) 2 (omega (arith, is.least));
    }

-- the parts that were read are those that the bytes say
pub same_parts : (b : List ℕ) (size sequence parent : ℕ) (name : List ℕ) (second_form : Bool) (reserved heap places : List ℕ) (entries : List Entry)
    → size ≡ length b → sequence ≡ slice_index b 0 → parent ≡ u32_at b 24 → name ≡ bytes_at b 28 (name_len b) → second_form ≡ has_second_form b
    → reserved ≡ bytes_at b (length b - 3) 2 → heap ≡ heap_of second_form b
    → places ≡ map (λ i. name_place (entry_bytes second_form b i)) (range_with_len 0 (entry_count b)) → entries ≡ big_entries second_form b
    → dir_of size sequence parent name second_form reserved heap places entries ≡ big_dir b
unfolding big_dir
same_parts b size sequence parent name second_form reserved heap places entries s q p n f r h k e =
    let heap_is : heap ≡ heap_of (has_second_form b) b = h ∙ ap (λ x. heap_of x b) f in
    let places_are = k ∙ ap (λ x. map (λ i. name_place (entry_bytes x b i)) (range_with_len 0 (entry_count b))) f in
    let entries_are = e ∙ ap (λ x. big_entries x b) f in
    λ i. record {
      size = s i;
      sequence = q i;
      parent = p i;
      name = n i;
      second_form = f i;
      reserved = r i;
      heap = heap_is i;
      name_places = places_are i;
      entries = entries_are i;
    }
