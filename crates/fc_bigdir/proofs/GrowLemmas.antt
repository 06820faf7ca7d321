-- What an entry that is put in, or taken out, makes of a directory.
use Rattle.std.proofs.Common.{MatchOption, Option, Some, ◌≡◌, ◌≤◌, ◌<◌, ℕ, ◌+◌, ◌%◌, min, max, not, Bool, true, false, nat_le, List, ◌++◌, length, insert, remove, map, sum_by, None, refl, sym, ap, ap₂, ◌∙◌, subst, arith, length-append, le-leb, if◌then◌else◌}
use Rattle.std.specs.List.{AllByRecursion}
use Rattle.std.specs.Int.{next_multiple_of}
use Rattle.std.proofs.lemmas.List.{length-map}
use Rattle.std.proofs.lemmas.List.Edits.{length-insert, length-remove}
use Rattle.std.proofs.lemmas.List.Sums.{prefix_len-le-length, sum_by-insert}
use Rattle.std.proofs.lemmas.Bool.Decides.{nat_tests}
use Rattle.fc_bytes.specs.Checks.{is_big_size}
use Rattle.fc_names.specs.Names.{is_name_before}
use Rattle.fc_dirs.proofs.TwinLemmas.{apart_from, none_from, apart_insert, apart_remove}
use Rattle.fc_dirs.specs.declared.Entry.{Entry}
use Rattle.fc_dirs.specs.Entries.{entry_place, with_entry, without_entry, has_name, first_twin, padded_name}
use Rattle.fc_dirs.specs.Big.{BigDir, IsBig, FitsBig, StandsInHeap, AllStand, appended, bytes_for, bytes_taken, size_for, head_space_of, name_space, packed, packed_heap, packed_places, with_big_entry, with_entry_at, size_with, size_limit, without_big_entry}
use Rattle.fc_bigdir.specs.declared.enter.Room.{Room}
use Rattle.fc_bigdir.specs.declared.needed.Parts.{Parts}
use Rattle.fc_bigdir.specs.Entered.{ArePartsWith, HasRoomFor, IsRoomFor, entered_heap, entered_places, needed_for}
use Rattle.fc_smalldir.proofs.NameLemmas.{length-padded}
use Rattle.fc_bigdir.proofs.LaidLemmas.{SizeBounds, size_bounds}
use Rattle.fc_bigdir.proofs.PackLemmas.{length-packed, names_sum}
use Rattle.fc_bigdir.proofs.StandLemmas.{recursion_insert, recursion_remove, stand_insert, stand_remove, stand_longer, stands_behind, packed_stand, packed_whole, name_whole}

-- ---- sizes

pub place_within : (name : List ℕ) (es : List Entry) → entry_place name es ≤ length es
place_within name es = prefix_len-le-length (λ (e : Entry). not (is_name_before name e.name)) es

pub length-with_entry : (e : Entry) (es : List Entry) → length (with_entry e es) ≡ length es + 1
length-with_entry e es = length-insert es (entry_place e.name es) e (place_within e.name es) ∙ omega arith

-- the size of the names alone, one of them new
abbrev pub tight_with : Entry → List Entry → ℕ
tight_with e es = sum_by (λ (x : Entry). name_space x.name) es + name_space e.name

tight-with_entry : (e : Entry) (es : List Entry) → sum_by (λ (x : Entry). name_space x.name) (with_entry e es) ≡ tight_with e es
tight-with_entry e es = sum_by-insert (λ (x : Entry). name_space x.name) es (entry_place e.name es) e

-- the needed size, from counts alone
pub needed_is : (dir : BigDir) (e : Entry) (n loose tight : ℕ) → n ≡ length dir.entries + 1 → loose ≡ length dir.heap + name_space e.name → tight ≡ tight_with e dir.entries
    → size_with e dir ≡ needed_for (head_space_of dir) n loose tight
needed_is dir e n loose tight count heap names =
    let all = map (λ (d : Entry). d.name) (with_entry e dir.entries) in
    let len : length all ≡ n = length-map (with_entry e dir.entries) (λ (d : Entry). d.name) ∙ length-with_entry e dir.entries ∙ sym count in
    let sum : sum_by name_space all ≡ tight = names_sum (with_entry e dir.entries) ∙ tight-with_entry e dir.entries ∙ sym names in
    ap₂ (λ k s. min (size_for (head_space_of dir) k (length dir.heap + name_space e.name)) (size_for (head_space_of dir) k s)) len sum
    ∙ ap (λ l. needed_for (head_space_of dir) n l tight) (sym heap)

pub size_right : (n : ℕ) → 2048 ≤ n → n ≤ 4194304 → n % 2048 ≡ 0 → is_big_size n ≡ true
size_right n low high whole =
    let a : nat_le 2048 n ≡ true = le-leb 2048 n low in
    let b : nat_le n 4194304 ≡ true = le-leb n 4194304 high in
    rw (a, b, whole) refl

-- a whole number of blocks that holds so much
record IsWhole (bytes size : ℕ) : Type 0 where
  pub holds : bytes ≤ size
  pub whole : size % 2048 ≡ 0

whole_size : (bytes : ℕ) → IsWhole bytes (next_multiple_of bytes 2048)
whole_size bytes = record { holds = omega arith; whole = omega arith }

-- the greater of the needed size and the present one
pub grown_right : (head n loose tight size : ℕ) → is_big_size size ≡ true → needed_for head n loose tight ≤ size_limit → is_big_size (max (needed_for head n loose tight) size) ≡ true
grown_right head n loose tight size right least =
    let bounds = size_bounds size right in
    let a = whole_size (bytes_for head n loose) in
    let b = whole_size (bytes_for head n tight) in
    grown (size_for head n loose) (size_for head n tight) size (a.whole) (b.whole) bounds least where
      grown : (a b size : ℕ) → a % 2048 ≡ 0 → b % 2048 ≡ 0 → SizeBounds size → min a b ≤ 4194304 → is_big_size (max (min a b) size) ≡ true
      grown a b size ha hb bounds least =
          size_right (max (min a b) size) (omega (arith, bounds.least)) (omega (arith, bounds.most, least)) (omega (arith, ha, hb, bounds.whole))

-- where the present heap is too long with the new name, the names alone fit
tight_fits : (head n loose tight size grown : ℕ) → grown ≡ max (needed_for head n loose tight) size → nat_le (bytes_for head n loose) grown ≡ false → bytes_for head n tight ≤ grown
tight_fits head n loose tight size grown is long =
    let a = whole_size (bytes_for head n loose) in
    let b = whole_size (bytes_for head n tight) in
    let above : grown < bytes_for head n loose = grind (arith, nat_tests, long) in
    lesser (bytes_for head n loose) (bytes_for head n tight) (size_for head n loose) (size_for head n tight) a.holds b.holds is above where
      lesser : (x y a b : ℕ) → x ≤ a → y ≤ b → grown ≡ max (min a b) size → grown < x → y ≤ grown
      lesser x y a b ha hb is above = omega (arith, ha, hb, is, above)

-- ---- directories

-- the directory with an entry put in, its heap as it stands or made anew
abbrev pub entered : Bool → ℕ → Entry → BigDir → BigDir
entered is_loose size e dir = record dir {
  size = size;
  heap = entered_heap is_loose dir.heap e dir.entries;
  name_places = entered_places is_loose dir.heap dir.name_places e dir.entries;
  entries = with_entry e dir.entries;
}

-- a directory with other entries, that fit
pub big_with : (dir : BigDir) (size : ℕ) (heap places : List ℕ) (es : List Entry) → IsBig dir → is_big_size size ≡ true → bytes_for (head_space_of dir) (length es) (length heap) ≤ size
    → length heap % 4 ≡ 0 → AllByRecursion FitsBig es → AllStand heap places es → first_twin es ≡ None
    → (let new : BigDir = record dir { size = size; heap = heap; name_places = places; entries = es } in IsBig new)
big_with dir size heap places es big right fits words all names apart = record {
  size = right;
  fits = fits;
  form = big.form;
  words = words;
  entries = all;
  names = names;
  apart = apart;
  sequence = big.sequence;
  parent = big.parent;
  reserved = big.reserved;
}

-- It is the one that is wanted.
pub entered_is : (dir : BigDir) (e : Entry) (is_loose : Bool) (size : ℕ) → size ≡ max (size_with e dir) dir.size
    → is_loose ≡ nat_le (bytes_for (head_space_of dir) (length dir.entries + 1) (length dir.heap + name_space e.name)) size → entered is_loose size e dir ≡ with_big_entry e dir
entered_is dir e is_loose size is test = by_test is_loose (fits ∙ sym test) where
  padded : List ℕ
  padded = padded_name (name_space e.name) e.name

  new : BigDir
  new = record (appended e dir) { size = max (size_with e dir) dir.size }

  heap : length (dir.heap ++ padded) ≡ length dir.heap + name_space e.name
  heap = length-append dir.heap padded ∙ ap (λ k. length dir.heap + k) (length-padded (name_space e.name) e.name)

  fits : nat_le (bytes_taken new) new.size ≡ nat_le (bytes_for (head_space_of dir) (length dir.entries + 1) (length dir.heap + name_space e.name)) size
  fits =
      ap₂ (λ k h. nat_le (bytes_for (head_space_of dir) k h) new.size) (length-with_entry e dir.entries) heap
      ∙ ap (λ n. nat_le (bytes_for (head_space_of dir) (length dir.entries + 1) (length dir.heap + name_space e.name)) n) (sym is)

  by_test : (loose_fits : Bool) → nat_le (bytes_taken new) new.size ≡ loose_fits → entered loose_fits size e dir ≡ with_big_entry e dir
  by_test true holds = ap (λ n. entered true n e dir) is ∙ sym (ap (λ t. if t then new else packed new) holds)
  by_test false fails = ap (λ n. entered false n e dir) is ∙ sym (ap (λ t. if t then new else packed new) fails)

-- A directory with an entry put in is one that bytes can say.
pub big_entered : (dir : BigDir) (e : Entry) (is_loose : Bool) (size : ℕ) → IsBig dir → FitsBig e → has_name dir.entries e.name ≡ false → size_with e dir ≤ size_limit
    → size ≡ max (size_with e dir) dir.size → is_loose ≡ nat_le (bytes_for (head_space_of dir) (length dir.entries + 1) (length dir.heap + name_space e.name)) size
    → IsBig (entered is_loose size e dir)
big_entered dir e is_loose size big fits absent least is test = by_test is_loose (sym test) where
  hs : ℕ
  hs = head_space_of dir

  n : ℕ
  n = length dir.entries + 1

  loose : ℕ
  loose = length dir.heap + name_space e.name

  tight : ℕ
  tight = tight_with e dir.entries

  needed : size_with e dir ≡ needed_for hs n loose tight
  needed = needed_is dir e n loose tight refl refl refl

  grown : size ≡ max (needed_for hs n loose tight) dir.size
  grown = is ∙ ap (λ k. max k dir.size) needed

  right : is_big_size size ≡ true
  right = ap is_big_size grown ∙ grown_right hs n loose tight dir.size big.size (subst (λ k. k ≤ size_limit) needed least)

  all : AllByRecursion FitsBig (with_entry e dir.entries)
  all = recursion_insert FitsBig dir.entries (entry_place e.name dir.entries) e big.entries fits

  apart : first_twin (with_entry e dir.entries) ≡ None
  apart =
      none_from (with_entry e dir.entries)
      (apart_insert dir.entries (entry_place e.name dir.entries) e (apart_from dir.entries big.apart) (place_within e.name dir.entries) absent)

  count : length (with_entry e dir.entries) ≡ n
  count = length-with_entry e dir.entries

  by_test : (loose_fits : Bool) → nat_le (bytes_for hs n loose) size ≡ loose_fits → IsBig (entered loose_fits size e dir)
  by_test true holds =
      let padded = padded_name (name_space e.name) e.name in
      let heap : length (dir.heap ++ padded) ≡ loose = length-append dir.heap padded ∙ ap (λ k. length dir.heap + k) (length-padded (name_space e.name) e.name) in
      let inside : bytes_for hs n loose ≤ size = grind (arith, nat_tests, holds) in
      let whole = name_whole e.name in
      big_with dir size (dir.heap ++ padded) (insert dir.name_places (entry_place e.name dir.entries) (length dir.heap)) (with_entry e dir.entries) big right
      (omega (arith, count, heap, inside)) (omega (arith, heap, big.words, whole)) all
      (stand_insert (dir.heap ++ padded) dir.name_places dir.entries (entry_place e.name dir.entries) (length dir.heap) e (stand_longer dir.heap padded dir.name_places dir.entries big.names) (stands_behind dir.heap e.name))
      apart
  by_test false fails =
      let es = with_entry e dir.entries in
      let heap : length (packed_heap es) ≡ tight = length-packed es ∙ tight-with_entry e dir.entries in
      let inside = tight_fits hs n loose tight dir.size size grown fails in
      big_with dir size (packed_heap es) (packed_places 0 es) es big right (omega (arith, count, heap, inside)) (packed_whole es) all (packed_stand es) apart

-- A directory without one of its entries, too.
pub big_left : (dir : BigDir) (at : ℕ) → IsBig dir → at < length dir.entries → IsBig (without_big_entry at dir)
big_left dir at big within =
    let size = length-remove dir.entries at within in
    big_with dir dir.size dir.heap (remove dir.name_places at) (without_entry at dir.entries) big big.size (omega (arith, big.fits, size)) big.words
    (recursion_remove FitsBig dir.entries at big.entries) (stand_remove dir.heap dir.name_places dir.entries at big.names)
    (none_from (remove dir.entries at) (apart_remove dir.entries at (apart_from dir.entries big.apart) within))

-- A directory with an entry whose name stands in the heap already, too.
pub big_entry_at : (dir : BigDir) (place : ℕ) (e : Entry) → IsBig dir → FitsBig e → has_name dir.entries e.name ≡ false → StandsInHeap dir.heap place e.name
    → bytes_for (head_space_of dir) (length dir.entries + 1) (length dir.heap) ≤ dir.size → IsBig (with_entry_at place e dir)
big_entry_at dir place e big fits absent stands room =
    let p = entry_place e.name dir.entries in
    let count = length-with_entry e dir.entries in
    big_with dir dir.size dir.heap (insert dir.name_places p place) (with_entry e dir.entries) big big.size (omega (arith, count, room)) big.words
    (recursion_insert FitsBig dir.entries p e big.entries fits) (stand_insert dir.heap dir.name_places dir.entries p place e big.names stands)
    (none_from (with_entry e dir.entries) (apart_insert dir.entries p e (apart_from dir.entries big.apart) (place_within e.name dir.entries) absent))

-- the room that was found is the one that is wanted
pub room_found : (dir : BigDir) (e : Entry) (parts : Parts) (found : Option Room) → ArePartsWith dir e.name parts
    → MatchOption found (size_limit < needed_for parts.head parts.entries parts.loose parts.tight) (IsRoomFor dir.size parts.head parts.entries parts.loose parts.tight)
    → MatchOption found (size_limit < size_with e dir) (HasRoomFor e dir)
room_found dir e parts found are room =
    let needed : size_with e dir ≡ needed_for parts.head parts.entries parts.loose parts.tight =
    needed_is dir e parts.entries parts.loose parts.tight are.entries are.loose are.tight ∙ ap (λ h. needed_for h parts.entries parts.loose parts.tight) (sym are.head) in
    by_found found needed room where
      by_found : (found : Option Room) → size_with e dir ≡ needed_for parts.head parts.entries parts.loose parts.tight
          → MatchOption found (size_limit < needed_for parts.head parts.entries parts.loose parts.tight) (IsRoomFor dir.size parts.head parts.entries parts.loose parts.tight)
          → MatchOption found (size_limit < size_with e dir) (HasRoomFor e dir)
      by_found None needed above = omega (arith, needed, above)
      by_found (Some r) needed room = record {
        least = omega (arith, needed, room.least);
        size_is = room.size_is ∙ ap (λ k. max k dir.size) (sym needed);
        tight_is = room.tight_is ∙ are.tight;
        is_loose = room.is_loose ∙ ap₂ (λ h k. nat_le (bytes_for h k parts.loose) r.size) are.head are.entries ∙ ap (λ l. nat_le (bytes_for (head_space_of dir) (length dir.entries + 1) l) r.size) are.loose;
      }
