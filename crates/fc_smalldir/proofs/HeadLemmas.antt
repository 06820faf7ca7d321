-- Sizes of forms, and what a head says.
use Rattle.std.proofs.Common.{◌≡◌, ◌≤◌, ◌<◌, ℕ, ◌+◌, ◌*◌, ◌==◌, Bool, List, length, take, slice_index, arith, refl, ap}
use Rattle.std.specs.Str.{bytes_eq}
use Rattle.fc_bytes.specs.Words.{bytes_at, u24_at}
use Rattle.fc_bytes.specs.Checks.{small_dir_check}
use Rattle.fc_dirs.specs.declared.SmallForm.{SmallForm}
use Rattle.fc_dirs.specs.declared.SmallForm.TheVariants.{Bytes1280, Bytes2048}
use Rattle.fc_dirs.specs.Small.{tail_of, small_dir, small_entries, hugo_word, is_small_check_right}
use Rattle.fc_smalldir.specs.declared.head.Head.{Head}
use Rattle.fc_smalldir.specs.Fields.{first_len, last_len, dir_of}

pub size_least : (form : SmallForm) → 1280 ≤ (tail_of form).size
size_least Bytes2048 = omega arith
size_least Bytes1280 = omega arith

-- the front of a form, up to its tail, and the tail with the check
pub parts_fit : (form : SmallForm) → 6 + 26 * (tail_of form).places + first_len form + last_len form + 28 ≡ (tail_of form).size
parts_fit Bytes2048 = refl
parts_fit Bytes1280 = refl

-- All places lie in the bytes.
pub places_within : (form : SmallForm) → 5 + 26 * (tail_of form).places < (tail_of form).size
places_within Bytes2048 = omega arith
places_within Bytes1280 = omega arith

pub places_few : (form : SmallForm) → (tail_of form).places ≤ 77
places_few Bytes2048 = omega arith
places_few Bytes1280 = omega arith

-- the check that is compared
pub check_compared : (form : SmallForm) (b : List ℕ) (count : ℕ) → form ≡ Bytes2048 → count ≡ length (small_entries form b)
    → (slice_index b 2047 == small_dir_check b (5 + 26 * count)) ≡ is_small_check_right form b
check_compared Bytes2048 b count is number = ap (λ n. slice_index b 2047 == small_dir_check b (5 + 26 * n)) number
check_compared Bytes1280 b count is number = absurd (cc)

-- the fields in the places of a form are those that the bytes say
pub head_says_2048 : (b : List ℕ) (form : SmallForm) (is_hugo : Bool) (sequence parent : ℕ) (name title reserved : List ℕ) → form ≡ Bytes2048
    → is_hugo ≡ bytes_eq (bytes_at b 1 4) hugo_word → sequence ≡ slice_index b 0 → parent ≡ u24_at b 2010 → name ≡ bytes_at b 2032 10
    → title ≡ bytes_at b 2013 19 → take 2 reserved ≡ bytes_at b 2008 2
    → (let head : Head = record { form = form; is_hugo = is_hugo; sequence = sequence; parent = parent; name = name; title = title; reserved = reserved } in
    dir_of head (small_entries form b) ≡ small_dir form b)
unfolding small_dir
head_says_2048 b Bytes1280 is_hugo sequence parent name title reserved is h s p n t r = absurd (cc)
head_says_2048 b Bytes2048 is_hugo sequence parent name title reserved is h s p n t r =
    λ i. record { form = Bytes2048; is_hugo = h i; sequence = s i; parent = p i; name = n i; title = t i; reserved = r i; entries = small_entries Bytes2048 b }

pub head_says_1280 : (b : List ℕ) (form : SmallForm) (is_hugo : Bool) (sequence parent : ℕ) (name title reserved : List ℕ) → form ≡ Bytes1280
    → is_hugo ≡ bytes_eq (bytes_at b 1 4) hugo_word → sequence ≡ slice_index b 0 → parent ≡ u24_at b 1238 → name ≡ bytes_at b 1228 10
    → title ≡ bytes_at b 1241 19 → take 14 reserved ≡ bytes_at b 1260 14
    → (let head : Head = record { form = form; is_hugo = is_hugo; sequence = sequence; parent = parent; name = name; title = title; reserved = reserved } in
    dir_of head (small_entries form b) ≡ small_dir form b)
unfolding small_dir
head_says_1280 b Bytes2048 is_hugo sequence parent name title reserved is h s p n t r = absurd (cc)
head_says_1280 b Bytes1280 is_hugo sequence parent name title reserved is h s p n t r =
    λ i. record { form = Bytes1280; is_hugo = h i; sequence = s i; parent = p i; name = n i; title = t i; reserved = r i; entries = small_entries Bytes1280 b }
