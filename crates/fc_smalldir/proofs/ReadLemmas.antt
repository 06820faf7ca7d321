-- What reading an entry gives can be written again.
use Rattle.std.proofs.Common.{◌≡◌, ◌≤◌, ◌<◌, ℕ, zero, suc, ◌+◌, ◌*◌, ◌/◌, ◌%◌, Bool, true, false, nat_le, List, [], ◌∷◌, length, get_or, map, take, drop, slice_index, refl, ap, arith, length-take-le}
use Rattle.std.specs.List.{AllByRecursion, All}
use Rattle.std.proofs.lemmas.List.{get_or-drop, drop_more, length-map, length-take}
use Rattle.std.proofs.lemmas.List.Elements.{All-from_recursion, All-weaker}
use Rattle.std.proofs.lemmas.List.Sums.{take_while-cons}
use Rattle.std.proofs.lemmas.Bool.Decides.{nat_tests}
use Rattle.byteorder.specs.Numbers.{little_from-lt}
use Rattle.fc_bytes.specs.Bits.{num}
use Rattle.fc_bytes.specs.BitLaws.{num_below}
use Rattle.fc_dirs.specs.declared.Entry.{Entry}
use Rattle.fc_dirs.specs.declared.SmallForm.{SmallForm}
use Rattle.fc_dirs.specs.declared.SmallForm.TheVariants.{Bytes1280, Bytes2048}
use Rattle.fc_dirs.specs.Small.{FitsSmall, small_entry, name_in}
use Rattle.fc_bytes.specs.Words.{u24_at, u32_at}
use Rattle.fc_smalldir.specs.Fields.{plain_field, attrs_in, last_in}
use Rattle.fc_smalldir.proofs.NameLemmas.{ArePrinted}

-- each is below a limit
abbrev pub AreBelow : ℕ → List ℕ → Type 0
AreBelow limit = AllByRecursion (λ c. c < limit)

pub below_by_place : (limit : ℕ) (xs : List ℕ) → ((k : ℕ) → slice_index xs k < limit) → AreBelow limit xs
below_by_place limit [] below = tt
below_by_place limit (x ∷ xs) below = (below 0, below_by_place limit xs (λ k. below (suc k)))

pub take_below : (limit n : ℕ) (xs : List ℕ) → AreBelow limit xs → AreBelow limit (take n xs)
take_below limit zero xs below = tt
take_below limit (suc n) [] below = tt
take_below limit (suc n) (x ∷ xs) below = (below.0, take_below limit n xs below.1)

pub low_below : (xs : List ℕ) → AreBelow 128 (map (λ c. c % 128) xs)
low_below [] = tt
low_below (x ∷ xs) = (omega arith, low_below xs)

-- a name in a field has printed bytes, and is no longer than the field
pub name_printed : (limit : ℕ) (xs : List ℕ) → AreBelow limit xs → ArePrinted limit (name_in xs)
name_printed limit [] below = tt
name_printed limit (x ∷ xs) below = go (nat_le 32 x) refl (name_printed limit xs below.1) where
  go : (b : Bool) → nat_le 32 x ≡ b → ArePrinted limit (name_in xs) → ArePrinted limit (name_in (x ∷ xs))
  go true is more =
      let first : 32 ≤ x = grind (arith, nat_tests, is) in
      rw (take_while-cons (λ c. nat_le 32 c) x xs) (rw is ((first, below.0), more))
  go false is more = rw (take_while-cons (λ c. nat_le 32 c) x xs) (rw is tt)

pub name_short : (xs : List ℕ) → length (name_in xs) ≤ length xs
name_short xs = grind (arith, length-take)

-- all bytes of a name are from 32 on
pub name_from_32 : (xs : List ℕ) → ((k : ℕ) → slice_index xs k < 256) → All (λ c. 32 ≤ c) (name_in xs)
name_from_32 xs below =
    All-weaker (λ c. (32 ≤ c) × (c < 256)) (λ c. 32 ≤ c) (λ c p. p.0) (name_in xs)
    (All-from_recursion (λ c. (32 ≤ c) × (c < 256)) (name_in xs) (name_printed 256 xs (below_by_place 256 xs below)))

-- ---- top bits

-- the bits of which a number is made
pub tops_are_bits : (xs : List ℕ) → ((k : ℕ) → slice_index xs k < 256) → (i : ℕ) → get_or (map (λ c. c / 128) xs) i 0 < 2
tops_are_bits [] below i = omega arith
tops_are_bits (x ∷ xs) below zero = omega (arith, below 0)
tops_are_bits (x ∷ xs) below (suc i) = tops_are_bits xs (λ k. below (suc k)) i

pub tops_below : (xs : List ℕ) → ((k : ℕ) → slice_index xs k < 256) → length xs ≤ 10 → num (map (λ c. c / 128) xs) < 1024
tops_below xs below few = num_below (map (λ c. c / 128) xs) 10 (tops_are_bits xs below) (rw length-map few)

pub tops_more : (xs : List ℕ) (i : ℕ) → i < length xs → num (map (λ c. c / 128) (drop i xs)) ≡ slice_index xs i / 128 + 2 * num (map (λ c. c / 128) (drop (i + 1) xs))
unfolding num
tops_more xs i within = ap (λ l. num (map (λ c. c / 128) l)) (drop_more xs i 0 within)

-- ---- the entry

pub take_bytes : (limit n : ℕ) (xs : List ℕ) → 0 < limit → ((k : ℕ) → slice_index xs k < limit) → (k : ℕ) → slice_index (take n xs) k < limit
take_bytes limit zero xs some below k = some
take_bytes limit (suc n) [] some below k = some
take_bytes limit (suc n) (x ∷ xs) some below zero = below 0
take_bytes limit (suc n) (x ∷ xs) some below (suc k) = take_bytes limit n xs some (λ i. below (suc i)) k

pub drop_bytes : (n : ℕ) (xs : List ℕ) → ((k : ℕ) → slice_index xs k < 256) → (k : ℕ) → slice_index (drop n xs) k < 256
drop_bytes n xs below k = rw (get_or-drop n xs k 0) (below (n + k))

pub fits_read : (form : SmallForm) (bytes : List ℕ) → ((k : ℕ) → slice_index bytes k < 256) → length bytes ≡ 26 → 0 < length (small_entry form bytes).name → FitsSmall form (small_entry form bytes)
fits_read Bytes2048 bytes below size some =
    let field = take 10 bytes in
    let ten : length field ≡ 10 = length-take-le 10 bytes (omega arith) in
    record {
      named = some;
      short = omega (arith, name_short field, ten);
      printed = name_printed 256 field (take_below 256 10 bytes (below_by_place 256 bytes below));
      load = little_from-lt 0 4 (drop 10 bytes) (drop_bytes 10 bytes below);
      exec = little_from-lt 0 4 (drop 14 bytes) (drop_bytes 14 bytes below);
      len = little_from-lt 0 4 (drop 18 bytes) (drop_bytes 18 bytes below);
      address = little_from-lt 0 3 (drop 22 bytes) (drop_bytes 22 bytes below);
      attrs = below 25;
      last = omega arith;
    }
fits_read Bytes1280 bytes below size some =
    let field = take 10 bytes in
    let plain = map (λ c. c % 128) field in
    let ten : length field ≡ 10 = length-take-le 10 bytes (omega arith) in
    record {
      named = some;
      short = omega (arith, name_short plain, ten, length-map field (λ c. c % 128));
      printed = name_printed 128 plain (low_below field);
      load = little_from-lt 0 4 (drop 10 bytes) (drop_bytes 10 bytes below);
      exec = little_from-lt 0 4 (drop 14 bytes) (drop_bytes 14 bytes below);
      len = little_from-lt 0 4 (drop 18 bytes) (drop_bytes 18 bytes below);
      address = little_from-lt 0 3 (drop 22 bytes) (drop_bytes 22 bytes below);
      attrs = tops_below field (take_bytes 256 10 bytes (omega arith) below) (omega arith);
      last = below 25;
    }

-- the parts of an entry by form
abbrev pub entry_parts : SmallForm → List ℕ → Entry
entry_parts form bytes = record {
  name = name_in (plain_field form (take 10 bytes));
  load = u32_at bytes 10;
  exec = u32_at bytes 14;
  len = u32_at bytes 18;
  address = u24_at bytes 22;
  attrs = attrs_in form bytes;
  last = last_in form bytes;
}

pub entry_is : (form : SmallForm) (bytes : List ℕ) → small_entry form bytes ≡ entry_parts form bytes
entry_is Bytes2048 bytes = refl
entry_is Bytes1280 bytes = refl

pub low_bytes : (xs : List ℕ) (k : ℕ) → slice_index (map (λ c. c % 128) xs) k < 256
low_bytes [] k = omega arith
low_bytes (x ∷ xs) zero = omega arith
low_bytes (x ∷ xs) (suc k) = low_bytes xs k

pub plain_bytes : (form : SmallForm) (field : List ℕ) → ((k : ℕ) → slice_index field k < 256) → (k : ℕ) → slice_index (plain_field form field) k < 256
plain_bytes Bytes2048 field below = below
plain_bytes Bytes1280 field below = low_bytes field
