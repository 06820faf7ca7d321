-- The parts of a directory's bytes, each at its place.
use Rattle.std.proofs.Common.{◌≡◌, ◌≤◌, ℕ, ◌+◌, ◌-◌, ◌*◌, ◌%◌, Bool, true, false, List, [], ◌∷◌, ◌++◌, length, take, drop, replicate, slice_index, refl, sym, ap, ◌∙◌, arith, append_assoc, length-append}
use Rattle.std.proofs.lemmas.List.{take_at, take-take, take-append-le, get_or-drop}
use Rattle.std.proofs.lemmas.Bool.Decides.{nat_tests}
use Rattle.byteorder.specs.Endian.{little_bytes}
use Rattle.byteorder.specs.Numbers.{length-bytes_low_first}
use Rattle.fc_bytes.specs.Words.{bytes_at, u32_at}
use Rattle.fc_bytes.specs.Checks.{is_big_size}
use Rattle.fc_smalldir.proofs.NameLemmas.{length-padded}
use Rattle.fc_dirs.specs.Entries.{padded_name}
use Rattle.fc_dirs.specs.Big.{BigDir, IsBig, head_space, head_space_of, bytes_taken}
use Rattle.fc_dirs.specs.BigBytes.{head_word, tail_word, head_bytes, entries_bytes, parts_bytes, parts_end, tail_bytes, laid}
use Rattle.fc_bigdir.proofs.WrittenEntries.{word_first, places_as_many, length-entries}
use Rattle.fc_bigdir.proofs.FaultLemmas.{space_holds as space_least}
use Rattle.fc_smalldir.proofs.LayoutLemmas.{at_front, step as behind}

-- ---- sizes

pub record SizeBounds (n : ℕ) : Type 0 where
  pub least : 2048 ≤ n
  pub most : n ≤ 4194304
  pub whole : n % 2048 ≡ 0

pub size_bounds : (n : ℕ) → is_big_size n ≡ true → SizeBounds n
size_bounds n right = record {
  least = grind (arith, nat_tests, right);
  most = grind (arith, nat_tests, right);
  whole = grind (arith, nat_tests, right);
}

pub space_whole : (form : Bool) (n : ℕ) → head_space form n % 4 ≡ 0
space_whole false n = omega arith
space_whole true n = omega arith

-- ---- the parts

pub length-head : (dir : BigDir) → length (head_bytes dir) ≡ 28 + head_space_of dir
length-head dir =
    let four = length-bytes_low_first 0 4 in
    simp length-append (omega (arith, four (length dir.name), four dir.size, four (length dir.entries), four (length dir.heap), four dir.parent, length-padded (head_space_of dir) dir.name))

pub length-parts : (dir : BigDir) → IsBig dir → length (parts_bytes dir) ≡ parts_end dir
length-parts dir big =
    let places = places_as_many dir.heap dir.name_places dir.entries big.names in
    let entries = length-entries dir.name_places dir.entries places in
    length-append (head_bytes dir ++ entries_bytes dir.name_places dir.entries) dir.heap
    ∙ omega (arith, length-append (head_bytes dir) (entries_bytes dir.name_places dir.entries), length-head dir, entries)

pub parts_whole : (dir : BigDir) → IsBig dir → parts_end dir % 4 ≡ 0
parts_whole dir big = omega (arith, space_whole dir.second_form (length dir.name), big.words)

-- what stands after the entries
abbrev pub behind_entries : BigDir → List ℕ → ℕ → List ℕ
behind_entries dir free check = dir.heap ++ (free ++ (tail_word ++ (dir.sequence ∷ (dir.reserved ++ check ∷ []))))

-- what laid bytes say, part by part
pub record SaysLaid (bytes : List ℕ) (dir : BigDir) (free : List ℕ) (check : ℕ) : Type 0 where
  pub size : length bytes ≡ dir.size
  pub sequence : slice_index bytes 0 ≡ dir.sequence
  pub version : bytes_at bytes 1 3 ≡ 0 ∷ 0 ∷ 0 ∷ []
  pub word : bytes_at bytes 4 4 ≡ head_word
  pub name_len : u32_at bytes 8 ≡ length dir.name
  pub size_is : u32_at bytes 12 ≡ dir.size
  pub count : u32_at bytes 16 ≡ length dir.entries
  pub heap_len : u32_at bytes 20 ≡ length dir.heap
  pub parent : u32_at bytes 24 ≡ dir.parent
  pub space : bytes_at bytes 28 (head_space_of dir) ≡ padded_name (head_space_of dir) dir.name
  pub name : bytes_at bytes 28 (length dir.name) ≡ dir.name
  pub entries : drop (28 + head_space_of dir) bytes ≡ entries_bytes dir.name_places dir.entries ++ behind_entries dir free check
  pub heap : bytes_at bytes (28 + head_space_of dir + 28 * length dir.entries) (length dir.heap) ≡ dir.heap
  pub tail : drop (length bytes - 8) bytes ≡ tail_word ++ (dir.sequence ∷ (dir.reserved ++ check ∷ []))
  pub tail_sequence : slice_index bytes (length bytes - 4) ≡ dir.sequence
  pub reserved : bytes_at bytes (length bytes - 3) 2 ≡ dir.reserved
  pub check_is : slice_index bytes (length bytes - 1) ≡ check

laid_regrouped : (f n s k h p nm es hp fr t q c : List ℕ) → (f ++ n ++ s ++ k ++ h ++ p ++ nm) ++ es ++ hp ++ fr ++ (t ++ q) ++ c ≡ f ++ (n ++ (s ++ (k ++ (h ++ (p ++ (nm ++ (es ++ (hp ++ (fr ++ (t ++ (q ++ c)))))))))))
laid_regrouped f n s k h p nm es hp fr t q c = simp append_assoc

length-laid : (a free t c : List ℕ) → length (a ++ free ++ t ++ c) ≡ length a + length free + length t + length c
length-laid a free t c = simp length-append (omega arith)

pub says_laid : (dir : BigDir) (free : List ℕ) (check : ℕ) → IsBig dir → length free ≡ dir.size - bytes_taken dir → SaysLaid (laid dir free check) dir free check
says_laid dir free check big len =
    let bytes = laid dir free check in
    let bounds = size_bounds dir.size big.size in
    let hs = head_space_of dir in
    let small = space_least dir.second_form (length dir.name) in
    let fits = big.fits in
    let four = length-bytes_low_first 0 4 in
    let f8 : List ℕ = dir.sequence ∷ 0 ∷ 0 ∷ 0 ∷ head_word in
    let ln = little_bytes 4 (length dir.name) in
    let ls = little_bytes 4 dir.size in
    let lk = little_bytes 4 (length dir.entries) in
    let lh = little_bytes 4 (length dir.heap) in
    let lp = little_bytes 4 dir.parent in
    let nm = padded_name hs dir.name in
    let es = entries_bytes dir.name_places dir.entries in
    let r10 : List ℕ = dir.reserved ++ check ∷ [] in
    let r9 : List ℕ = tail_word ++ (dir.sequence ∷ r10) in
    let r8 : List ℕ = free ++ r9 in
    let r7 : List ℕ = dir.heap ++ r8 in
    let r6 : List ℕ = es ++ r7 in
    let r5 : List ℕ = nm ++ r6 in
    let r4 : List ℕ = lp ++ r5 in
    let r3 : List ℕ = lh ++ r4 in
    let r2 : List ℕ = lk ++ r3 in
    let r1 : List ℕ = ls ++ r2 in
    let r0 : List ℕ = ln ++ r1 in
    let whole : bytes ≡ f8 ++ r0 = laid_regrouped f8 ln ls lk lh lp nm es dir.heap free tail_word (dir.sequence ∷ dir.reserved) (check ∷ []) in
    let places = places_as_many dir.heap dir.name_places dir.entries big.names in
    let entries_len = length-entries dir.name_places dir.entries places in
    let d8 : drop 8 bytes ≡ r0 = ap (drop 8) whole in
    let d12 : drop 12 bytes ≡ r1 = behind bytes ln r1 8 4 12 d8 (four (length dir.name)) (omega arith) in
    let d16 : drop 16 bytes ≡ r2 = behind bytes ls r2 12 4 16 d12 (four dir.size) (omega arith) in
    let d20 : drop 20 bytes ≡ r3 = behind bytes lk r3 16 4 20 d16 (four (length dir.entries)) (omega arith) in
    let d24 : drop 24 bytes ≡ r4 = behind bytes lh r4 20 4 24 d20 (four (length dir.heap)) (omega arith) in
    let d28 : drop 28 bytes ≡ r5 = behind bytes lp r5 24 4 28 d24 (four dir.parent) (omega arith) in
    let de : drop (28 + hs) bytes ≡ r6 = behind bytes nm r6 28 hs (28 + hs) d28 (length-padded hs dir.name) (omega arith) in
    let dh : drop (28 + hs + 28 * length dir.entries) bytes ≡ r7 = behind bytes es r7 (28 + hs) (28 * length dir.entries) (28 + hs + 28 * length dir.entries) de entries_len (omega arith) in
    let df : drop (28 + hs + 28 * length dir.entries + length dir.heap) bytes ≡ r8 =
    behind bytes dir.heap r8 (28 + hs + 28 * length dir.entries) (length dir.heap) (28 + hs + 28 * length dir.entries + length dir.heap) dh refl (omega arith) in
    let size : length bytes ≡ dir.size =
    length-laid (parts_bytes dir) free (tail_bytes dir) (check ∷ []) ∙ omega (arith, length-parts dir big, len, big.reserved, fits) in
    let dt : drop (length bytes - 8) bytes ≡ r9 =
    behind bytes free r9 (28 + hs + 28 * length dir.entries + length dir.heap) (length free) (length bytes - 8) df refl (omega (arith, size, len)) in
    let d4 : drop (length bytes - 4) bytes ≡ dir.sequence ∷ r10 = behind bytes tail_word (dir.sequence ∷ r10) (length bytes - 8) 4 (length bytes - 4) dt refl (omega (arith, size, bounds.least)) in
    let d3 : drop (length bytes - 3) bytes ≡ r10 = behind bytes (dir.sequence ∷ []) r10 (length bytes - 4) 1 (length bytes - 3) d4 refl (omega (arith, size, bounds.least)) in
    let d1 : drop (length bytes - 1) bytes ≡ check ∷ [] = behind bytes dir.reserved (check ∷ []) (length bytes - 3) 2 (length bytes - 1) d3 big.reserved (omega (arith, size, bounds.least)) in
    record {
      size = size;
      sequence = ap (λ l. slice_index l 0) whole;
      version = ap (λ l. bytes_at l 1 3) whole;
      word = ap (λ l. bytes_at l 4 4) whole;
      name_len = word_first bytes r1 8 (length dir.name) d8 (omega (arith, bounds.most, small, fits));
      size_is = word_first bytes r2 12 dir.size d12 (omega (arith, bounds.most));
      count = word_first bytes r3 16 (length dir.entries) d16 (omega (arith, bounds.most, fits));
      heap_len = word_first bytes r4 20 (length dir.heap) d20 (omega (arith, bounds.most, fits));
      parent = word_first bytes r5 24 dir.parent d24 big.parent;
      space = ap (take hs) d28 ∙ take_at nm r6 hs (length-padded hs dir.name);
      name = ap (take (length dir.name)) d28 ∙ take-append-le (length dir.name) nm r6 (omega (arith, length-padded hs dir.name, small))
          ∙ take-take (length dir.name) hs (dir.name ++ 13 ∷ replicate hs 0) small ∙ take_at dir.name (13 ∷ replicate hs 0) (length dir.name) refl;
      entries = de;
      heap = ap (take (length dir.heap)) dh ∙ take_at dir.heap r8 (length dir.heap) refl;
      tail = dt;
      tail_sequence = at_front bytes (length bytes - 4) dir.sequence r10 d4;
      reserved = ap (take 2) d3 ∙ take_at dir.reserved (check ∷ []) 2 big.reserved;
      check_is = at_front bytes (length bytes - 1) check [] d1;
    }
