-- What is written of entries reads as the entries.
use Rattle.std.proofs.Common.{◌≡◌, ◌<◌, ℕ, suc, ◌+◌, ◌*◌, ◌^◌, ◌&&◌, Bool, true, false, not, nat_le, List, [], ◌∷◌, ◌++◌, length, map, take, drop, find, None, refl, sym, ap, ap₂, ◌∙◌, arith, append_assoc, length-append, le-leb}
use Rattle.std.specs.List.{AllByRecursion, All, list_all, range_with_len}
use Rattle.std.specs.Int.{is_in_range, IsInRange}
use Rattle.std.proofs.lemmas.List.{take_at, drop_at, drop-drop, append-nil}
use Rattle.std.proofs.lemmas.List.Elements.{All-head, All-tail}
use Rattle.byteorder.specs.Endian.{little_bytes, little_number}
use Rattle.byteorder.specs.Numbers.{little_number-reads_back, length-bytes_low_first}
use Rattle.fc_bytes.specs.Words.{bytes_at, u32_at}
use Rattle.fc_dirs.specs.declared.Entry.{Entry}
use Rattle.fc_dirs.specs.Big.{AllStand, StandsInHeap, FitsBig, big_entry, is_entry_right, name_place, entry_name_len}
use Rattle.fc_dirs.specs.BigBytes.{entry_bytes, entries_bytes}
use Rattle.fc_bigdir.specs.Laws.{HasWords}
use Rattle.fc_smalldir.proofs.LayoutLemmas.{step as behind}

-- the words of an entry, each at its place
pub record SaysWords (bytes : List ℕ) (a b c d f n p : ℕ) : Type 0 where
  pub first : u32_at bytes 0 ≡ a
  pub second : u32_at bytes 4 ≡ b
  pub third : u32_at bytes 8 ≡ c
  pub fourth : u32_at bytes 12 ≡ d
  pub fifth : u32_at bytes 16 ≡ f
  pub sixth : u32_at bytes 20 ≡ n
  pub seventh : u32_at bytes 24 ≡ p

regrouped : (a b c d f n p : List ℕ) → a ++ b ++ c ++ d ++ f ++ n ++ p ≡ a ++ (b ++ (c ++ (d ++ (f ++ (n ++ p)))))
regrouped a b c d f n p = simp append_assoc

-- a word that stands first
pub word_first : (bytes rest : List ℕ) (at x : ℕ) → drop at bytes ≡ little_bytes 4 x ++ rest → x < 2 ^ 32 → u32_at bytes at ≡ x
word_first bytes rest at x here small = ap (little_number 4) here ∙ little_number-reads_back 4 x rest small

says_words : (a b c d f n p : ℕ) → a < 2 ^ 32 → b < 2 ^ 32 → c < 2 ^ 32 → d < 2 ^ 32 → f < 2 ^ 32 → n < 2 ^ 32 → p < 2 ^ 32
    → SaysWords (little_bytes 4 a ++ little_bytes 4 b ++ little_bytes 4 c ++ little_bytes 4 d ++ little_bytes 4 f ++ little_bytes 4 n ++ little_bytes 4 p) a b c d f n p
says_words a b c d f n p ha hb hc hd hf hn hp =
    let la = little_bytes 4 a in
    let lb = little_bytes 4 b in
    let lc = little_bytes 4 c in
    let ld = little_bytes 4 d in
    let lf = little_bytes 4 f in
    let ln = little_bytes 4 n in
    let lp = little_bytes 4 p in
    let bytes = la ++ lb ++ lc ++ ld ++ lf ++ ln ++ lp in
    let r6 : List ℕ = lp in
    let r5 : List ℕ = ln ++ r6 in
    let r4 : List ℕ = lf ++ r5 in
    let r3 : List ℕ = ld ++ r4 in
    let r2 : List ℕ = lc ++ r3 in
    let r1 : List ℕ = lb ++ r2 in
    let four = length-bytes_low_first 0 4 in
    let d0 : drop 0 bytes ≡ la ++ r1 = regrouped la lb lc ld lf ln lp in
    let d4 : drop 4 bytes ≡ r1 = behind bytes la r1 0 4 4 d0 (four a) (omega arith) in
    let d8 : drop 8 bytes ≡ r2 = behind bytes lb r2 4 4 8 d4 (four b) (omega arith) in
    let d12 : drop 12 bytes ≡ r3 = behind bytes lc r3 8 4 12 d8 (four c) (omega arith) in
    let d16 : drop 16 bytes ≡ r4 = behind bytes ld r4 12 4 16 d12 (four d) (omega arith) in
    let d20 : drop 20 bytes ≡ r5 = behind bytes lf r5 16 4 20 d16 (four f) (omega arith) in
    let d24 : drop 24 bytes ≡ r6 = behind bytes ln r6 20 4 24 d20 (four n) (omega arith) in
    record {
      first = word_first bytes r1 0 a d0 ha;
      second = word_first bytes r2 4 b d4 hb;
      third = word_first bytes r3 8 c d8 hc;
      fourth = word_first bytes r4 12 d d12 hd;
      fifth = word_first bytes r5 16 f d16 hf;
      sixth = word_first bytes r6 20 n d20 hn;
      seventh = word_first bytes [] 24 p (d24 ∙ sym (append-nil lp)) hp;
    }

pub length-entry_bytes : (place : ℕ) (e : Entry) → length (entry_bytes place e) ≡ 28
length-entry_bytes place e =
    let four = length-bytes_low_first 0 4 in
    simp length-append (omega (arith, four e.load, four e.exec, four e.len, four e.address, four e.attrs, four (length e.name), four place))

-- all bytes of a name pass the test
printed : (name : List ℕ) → All (IsInRange 32 255) name → list_all (λ c. nat_le 32 c) name ≡ true
printed [] all = refl
printed (c ∷ name) all =
    let first : nat_le 32 c ≡ true = le-leb 32 c (All-head (IsInRange 32 255) c name all).0 in
    rw first (printed name (All-tail (IsInRange 32 255) c name all))

-- 28 bytes say an entry whose name is right
pub record SaysEntry (heap bytes : List ℕ) (place : ℕ) (e : Entry) : Type 0 where
  pub entry_is : big_entry heap bytes ≡ e
  pub place_is : name_place bytes ≡ place
  pub right : is_entry_right heap bytes ≡ true

both : (a b c : Bool) → a ≡ true → b ≡ true → c ≡ true → (a && b && c) ≡ true
both a b c ea eb ec = rw (ea, eb, ec) refl

pub says_entry : (heap : List ℕ) (place : ℕ) (e : Entry) → StandsInHeap heap place e.name → FitsBig e → HasWords e → length heap < 2 ^ 32 → SaysEntry heap (entry_bytes place e) place e
says_entry heap place e stands fits words few =
    let says = says_words e.load e.exec e.len e.address e.attrs (length e.name) place words.load words.exec words.len words.address words.attrs (omega (arith, fits.name.most)) (omega (arith, stands.inside)) in
    let bytes = entry_bytes place e in
    let name : bytes_at heap (name_place bytes) (entry_name_len bytes) ≡ e.name =
    ap₂ (bytes_at heap) says.seventh says.sixth ∙ stands.spelled in
    let last : 0 ≡ e.last = omega (arith, fits.last) in
    let range : is_in_range 1 255 (entry_name_len bytes) ≡ true =
    ap (is_in_range 1 255) says.sixth ∙ ap₂ (λ a b. a && b) (le-leb 1 (length e.name) (omega (arith, fits.name.some))) (le-leb (length e.name) 255 fits.name.most) in
    let inside : nat_le (name_place bytes + entry_name_len bytes) (length heap) ≡ true =
    ap₂ (λ a b. nat_le (a + b) (length heap)) says.seventh says.sixth ∙ le-leb (place + length e.name) (length heap) stands.inside in
    let all : list_all (λ c. nat_le 32 c) (bytes_at heap (name_place bytes) (entry_name_len bytes)) ≡ true =
    ap (list_all (λ c. nat_le 32 c)) name ∙ printed e.name fits.name.bytes in
    record {
      entry_is = λ i. record { name = name i; load = says.first i; exec = says.second i; len = says.third i; address = says.fourth i; attrs = says.fifth i; last = last i };
      place_is = says.seventh;
      right = both _ _ _ range inside all;
    }

-- Names that stand have as many places.
pub places_as_many : (heap places : List ℕ) (es : List Entry) → AllStand heap places es → length places ≡ length es
places_as_many heap [] [] stand = refl
places_as_many heap [] (e ∷ es) stand = absurd stand
places_as_many heap (p ∷ places) [] stand = absurd stand
places_as_many heap (p ∷ places) (e ∷ es) stand = ap suc (places_as_many heap places es stand.1)

pub length-entries : (places : List ℕ) (es : List Entry) → length places ≡ length es → length (entries_bytes places es) ≡ 28 * length es
length-entries [] [] same = refl
length-entries [] (e ∷ es) same = absurd (omega arith)
length-entries (p ∷ places) [] same = absurd (omega arith)
length-entries (p ∷ places) (e ∷ es) same =
    length-append (entry_bytes p e) (entries_bytes places es) ∙ omega (arith, length-entry_bytes p e, length-entries places es (omega arith))

-- what bytes say of the entries from number k on, where the first of all stands at `start`
pub record SaysEntries (heap bytes : List ℕ) (start k : ℕ) (places : List ℕ) (es : List Entry) : Type 0 where
  pub entries_are : map (λ i. big_entry heap (bytes_at bytes (start + 28 * i) 28)) (range_with_len k (length es)) ≡ es
  pub places_are : map (λ i. name_place (bytes_at bytes (start + 28 * i) 28)) (range_with_len k (length es)) ≡ places
  pub right : find (λ i. not (is_entry_right heap (bytes_at bytes (start + 28 * i) 28))) (range_with_len k (length es)) ≡ None

pub says_entries : (heap bytes : List ℕ) (start k : ℕ) (places : List ℕ) (es : List Entry) (rest : List ℕ) → drop (start + 28 * k) bytes ≡ entries_bytes places es ++ rest
    → AllStand heap places es → AllByRecursion FitsBig es → AllByRecursion HasWords es → length heap < 2 ^ 32 → SaysEntries heap bytes start k places es
says_entries heap bytes start k [] [] rest here stand fit words few = record { entries_are = refl; places_are = refl; right = refl }
says_entries heap bytes start k [] (e ∷ es) rest here stand fit words few = absurd stand
says_entries heap bytes start k (p ∷ places) [] rest here stand fit words few = absurd stand
says_entries heap bytes start k (p ∷ places) (e ∷ es) rest here stand fit words few =
    let after : List ℕ = entries_bytes places es ++ rest in
    let split : drop (start + 28 * k) bytes ≡ entry_bytes p e ++ after = here ∙ append_assoc (entry_bytes p e) (entries_bytes places es) rest in
    let size = length-entry_bytes p e in
    let at : bytes_at bytes (start + 28 * k) 28 ≡ entry_bytes p e = ap (take 28) split ∙ take_at (entry_bytes p e) after 28 size in
    let next : drop (start + 28 * (k + 1)) bytes ≡ after = behind bytes (entry_bytes p e) after (start + 28 * k) 28 (start + 28 * (k + 1)) split size (omega arith) in
    let more = says_entries heap bytes start (k + 1) places es rest next stand.1 fit.1 words.1 few in
    let first = says_entry heap p e stand.0 fit.0 words.0 few in
    let right : not (is_entry_right heap (bytes_at bytes (start + 28 * k) 28)) ≡ false = ap not (ap (is_entry_right heap) at ∙ first.right) in
    record {
      entries_are = ap₂ (λ x xs. x ∷ xs) (ap (big_entry heap) at ∙ first.entry_is) more.entries_are;
      places_are = ap₂ (λ x xs. x ∷ xs) (ap name_place at ∙ first.place_is) more.places_are;
      right = rw right more.right;
    }
