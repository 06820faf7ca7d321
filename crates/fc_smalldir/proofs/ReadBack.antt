-- What is written of a directory reads as the directory.
use Rattle.std.proofs.Common.{◌≡◌, ◌≤◌, ℕ, ◌+◌, ◌-◌, ◌==◌, ◌&&◌, ◌||◌, Bool, true, false, List, [], ◌∷◌, ◌++◌, length, get_or, slice_index, None, refl, sym, ap, ◌∙◌, arith, length-append, eq-eqb}
use Rattle.std.specs.List.{AllByRecursion, flat_map}
use Rattle.std.specs.Str.{bytes_eq}
use Rattle.std.proofs.lemmas.List.{take_at}
use Rattle.std.proofs.lemmas.List.Elements.{All-from_recursion}
use Rattle.std.proofs.lemmas.Bool.Decides.{nat_tests}
use Rattle.fc_dirs.proofs.SearchLemmas.{blank, position-none}
use Rattle.byteorder.specs.Endian.{little_bytes}
use Rattle.byteorder.specs.Numbers.{length-bytes_low_first}
use Rattle.fc_bytes.specs.Words.{bytes_at, u24_at}
use Rattle.fc_bytes.specs.Checks.{small_dir_check}
use Rattle.fc_dirs.specs.declared.Entry.{Entry}
use Rattle.fc_dirs.specs.declared.SmallForm.{SmallForm}
use Rattle.fc_dirs.specs.declared.SmallForm.TheVariants.{Bytes1280, Bytes2048}
use Rattle.fc_dirs.specs.Entries.{first_twin}
use Rattle.fc_dirs.specs.Small.{SmallDir, FitsSmall, IsSmall, tail_of, small_entries, small_dir, small_fault, entries_end, hugo_word, nick_word, is_magic_right, is_sequence_right, is_small_check_right, first_nameless}
use Rattle.fc_smalldir.specs.Laws.{ReadsBack}
use Rattle.fc_dirs.specs.SmallBytes.{small_bytes, bytes_before_check, head_bytes, free_bytes, tail_bytes, magic_word, entry_bytes, check_of}
use Rattle.fc_smalldir.proofs.LayoutLemmas.{front_bytes, checked_bytes, checked_regrouped, length-magic_word, length-front, says_tail, entries_kept, check_kept}

-- Each entry has a name.
pub none_nameless : (form : SmallForm) (es : List Entry) → AllByRecursion (FitsSmall form) es → first_nameless es ≡ None
none_nameless form es fit =
    position-none (λ e. length e.name == 0) es blank
    (λ k within. let here : FitsSmall form (get_or es k blank) = All-from_recursion (FitsSmall form) es fit k blank within in grind (arith, nat_tests, here.named))

-- the word in head and tail
magic_ok : (is_hugo : Bool) (a b : List ℕ) → a ≡ magic_word is_hugo → b ≡ magic_word is_hugo → ((bytes_eq a hugo_word || bytes_eq a nick_word) && bytes_eq a b) ≡ true
magic_ok true a b e f = rw (e, f) refl
magic_ok false a b e f = rw (e, f) refl

hugo_ok : (is_hugo : Bool) (a : List ℕ) → a ≡ magic_word is_hugo → bytes_eq a hugo_word ≡ is_hugo
hugo_ok true a e = rw e refl
hugo_ok false a e = rw e refl

-- what the head says
pub record SaysHead (bytes : List ℕ) (dir : SmallDir) : Type 0 where
  pub sequence_is : slice_index bytes 0 ≡ dir.sequence
  pub word_is : bytes_at bytes 1 4 ≡ magic_word dir.is_hugo

pub says_head : (dir : SmallDir) (check : ℕ) → SaysHead (checked_bytes dir check) dir
says_head dir check =
    let word = magic_word dir.is_hugo in
    let rest : List ℕ = flat_map (entry_bytes dir.form) dir.entries ++ (free_bytes dir ++ (tail_bytes dir ++ check ∷ [])) in
    let whole : checked_bytes dir check ≡ head_bytes dir ++ rest =
    checked_regrouped (head_bytes dir) (flat_map (entry_bytes dir.form) dir.entries) (free_bytes dir) (tail_bytes dir) (check ∷ []) in
    record {
      sequence_is = ap (λ l. slice_index l 0) whole;
      word_is = ap (λ l. bytes_at l 1 4) whole ∙ take_at word rest 4 (length-magic_word dir.is_hugo);
    }

-- the directory that the parts say
same_dir : (dir : SmallDir) (is_hugo : Bool) (sequence parent : ℕ) (name title reserved : List ℕ) (entries : List Entry)
    → is_hugo ≡ dir.is_hugo → sequence ≡ dir.sequence → parent ≡ dir.parent → name ≡ dir.name → title ≡ dir.title → reserved ≡ dir.reserved → entries ≡ dir.entries
    → (let new : SmallDir = record { form = dir.form; is_hugo = is_hugo; sequence = sequence; parent = parent; name = name; title = title; reserved = reserved; entries = entries } in new ≡ dir)
same_dir dir is_hugo sequence parent name title reserved entries e1 e2 e3 e4 e5 e6 e7 =
    λ i. record { form = dir.form; is_hugo = e1 i; sequence = e2 i; parent = e3 i; name = e4 i; title = e5 i; reserved = e6 i; entries = e7 i }

-- the directory is without fault and says itself, where its parts are read back
no_fault : (form : SmallForm) (bytes : List ℕ) (entries : List Entry) → is_magic_right form bytes ≡ true → is_sequence_right form bytes ≡ true → is_small_check_right form bytes ≡ true
    → small_entries form bytes ≡ entries → AllByRecursion (FitsSmall form) entries → first_twin entries ≡ None → small_fault form bytes ≡ None
unfolding small_fault
no_fault form bytes entries magic sequence check is fit apart =
    let n : first_nameless (small_entries form bytes) ≡ None = ap first_nameless is ∙ none_nameless form entries fit in
    let t : first_twin (small_entries form bytes) ≡ None = ap first_twin is ∙ apart in
    rw (magic, sequence, check, n, t) refl

-- the parts of a directory's bytes, with any check
pub record SaysParts (bytes : List ℕ) (dir : SmallDir) (check : ℕ) : Type 0 where
  pub size : length bytes ≡ (tail_of dir.form).size
  pub head : SaysHead bytes dir
  pub parent : u24_at bytes (tail_of dir.form).parent ≡ dir.parent
  pub name : bytes_at bytes (tail_of dir.form).name 10 ≡ dir.name
  pub title : bytes_at bytes (tail_of dir.form).title 19 ≡ dir.title
  pub reserved : bytes_at bytes (tail_of dir.form).reserved (tail_of dir.form).reserved_len ≡ dir.reserved
  pub sequence : slice_index bytes ((tail_of dir.form).size - 6) ≡ dir.sequence
  pub word : bytes_at bytes ((tail_of dir.form).size - 5) 4 ≡ magic_word dir.is_hugo
  pub check_is : slice_index bytes ((tail_of dir.form).size - 1) ≡ check

-- the directory with that form
abbrev formed : SmallForm → SmallDir → SmallDir
formed form dir = record dir { form = form }

length-parts : (front a p t b w c : List ℕ) (s : ℕ) → length (front ++ (a ++ p ++ t ++ b ++ s ∷ w) ++ c) ≡ length front + length a + length p + length t + length b + 1 + length w + length c
length-parts front a p t b w c s = simp length-append (omega arith)

pub says_parts : (form : SmallForm) (dir : SmallDir) (check : ℕ) → IsSmall (formed form dir) → SaysParts (checked_bytes (formed form dir) check) (formed form dir) check
says_parts Bytes2048 dir check small =
    let d = formed Bytes2048 dir in
    let word = magic_word dir.is_hugo in
    let front = length-front d small.places in
    let p3 = length-bytes_low_first 0 3 dir.parent in
    let w4 = length-magic_word dir.is_hugo in
    let says = says_tail (front_bytes d) dir.reserved dir.title dir.name 2008 2 10 dir.parent dir.sequence word check front small.reserved small.title small.name w4 small.parent in
    record {
      size = length-parts (front_bytes d) dir.reserved (little_bytes 3 dir.parent) dir.title dir.name word (check ∷ []) dir.sequence
          ∙ omega (arith, front, p3, w4, small.reserved, small.title, small.name);
      head = says_head d check;
      parent = says.parent_is;
      name = says.last_is;
      title = says.title_is;
      reserved = says.first_is;
      sequence = says.sequence_is;
      word = says.word_is;
      check_is = says.check_is;
    }
says_parts Bytes1280 dir check small =
    let d = formed Bytes1280 dir in
    let word = magic_word dir.is_hugo in
    let front = length-front d small.places in
    let p3 = length-bytes_low_first 0 3 dir.parent in
    let w4 = length-magic_word dir.is_hugo in
    let says = says_tail (front_bytes d) dir.name dir.title dir.reserved 1228 10 14 dir.parent dir.sequence word check front small.name small.title small.reserved w4 small.parent in
    record {
      size = length-parts (front_bytes d) dir.name (little_bytes 3 dir.parent) dir.title dir.reserved word (check ∷ []) dir.sequence
          ∙ omega (arith, front, p3, w4, small.reserved, small.title, small.name);
      head = says_head d check;
      parent = says.parent_is;
      name = says.first_is;
      title = says.title_is;
      reserved = says.last_is;
      sequence = says.sequence_is;
      word = says.word_is;
      check_is = says.check_is;
    }

-- the check that is written is the one that is read
check_right : (form : SmallForm) (dir : SmallDir) → IsSmall (formed form dir)
    → is_small_check_right form (checked_bytes (formed form dir) (check_of form (bytes_before_check (formed form dir) ++ 0 ∷ []) (entries_end dir.entries))) ≡ true
check_right Bytes1280 dir small = refl
check_right Bytes2048 dir small =
    let d = formed Bytes2048 dir in
    let u = bytes_before_check d in
    let end = entries_end dir.entries in
    let check = small_dir_check (u ++ 0 ∷ []) end in
    let parts = says_parts Bytes2048 dir check small in
    let size : length u ≡ 2047 = omega (arith, parts.size, length-append u (check ∷ [])) in
    let places : length dir.entries ≤ 77 = small.places in
    let kept : small_dir_check (u ++ check ∷ []) end ≡ check = check_kept u check 0 end size (omega arith) in
    let entries = entries_kept d check small in
    let at : slice_index (checked_bytes d check) 2047 ≡ check = parts.check_is in
    rw (entries, at, kept) (eq-eqb check check refl)

pub read_back : ReadsBack
unfolding small_bytes small_dir
read_back dir small =
    let check = check_of dir.form (bytes_before_check dir ++ 0 ∷ []) (entries_end dir.entries) in
    let bytes = checked_bytes dir check in
    let parts = says_parts dir.form dir check small in
    let entries = entries_kept dir check small in
    let word1 = parts.head.word_is in
    let word2 = parts.word in
    let sequence : is_sequence_right dir.form bytes ≡ true =
    eq-eqb (slice_index bytes 0) (slice_index bytes ((tail_of dir.form).size - 6)) (parts.head.sequence_is ∙ sym parts.sequence) in
    let right : small_fault dir.form bytes ≡ None =
    no_fault dir.form bytes dir.entries (magic_ok dir.is_hugo (bytes_at bytes 1 4) (bytes_at bytes ((tail_of dir.form).size - 5) 4) word1 word2) sequence
    (check_right dir.form dir small) entries small.entries small.apart in
    let says : small_dir dir.form bytes ≡ dir =
    same_dir dir _ _ _ _ _ _ _ (hugo_ok dir.is_hugo (bytes_at bytes 1 4) word1) parts.head.sequence_is parts.parent parts.name parts.title parts.reserved entries in
    record {
      reads = record { size = parts.size; right = right; says = says };
      spelled = refl;
    }
