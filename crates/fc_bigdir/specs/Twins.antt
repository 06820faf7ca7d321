-- Names with the numbers of their entries, in order.
use Rattle.std.specs.Prelude.{All, ◌≡◌, ℕ, ◌+◌, ◌*◌, ◌%◌, ◌^◌, List, [], length, map, take, slice_get}
use Rattle.std.specs.List.{fold, range_with_len}
use Rattle.std.specs.List.Sorted.{IsPermutation, IsSorted}
use Rattle.std.specs.Option.{option_map_or}
use Rattle.std.specs.declared.cmp.Ordering.{Ordering}
use Rattle.std.specs.Ordering.{nat_cmp, ordering_then}
use Rattle.fc_names.specs.Names.{name_cmp}
use Rattle.fc_dirs.specs.declared.Entry.{Entry}
use Rattle.fc_bigdir.specs.declared.twins.Numbered.{Numbered}

-- a name with a number
abbrev pub shown : Numbered → ℕ × List ℕ
shown n = (n.at, n.name.now)

-- the first twelve letters of a name as a number, in which names that are the same agree
abbrev pub first_letters : List ℕ → ℕ
first_letters name = fold (λ n c. n % 2 ^ 59 * 32 + c % 32) 0 (take 12 name)

-- The number of an element is that of its name's first letters.
abbrev pub IsLettered : Numbered → Type 0
IsLettered n = n.letters ≡ first_letters n.name.now

-- the order of first letters, and then of folded names
abbrev pub cmp_lettered : List ℕ → List ℕ → Ordering
cmp_lettered a b = ordering_then (nat_cmp (first_letters a) (first_letters b)) (name_cmp a b)

-- the same order, and then that of the numbers
abbrev pub cmp_numbered : ℕ × List ℕ → ℕ × List ℕ → Ordering
cmp_numbered a b = ordering_then (cmp_lettered (a.1) (b.1)) (nat_cmp (a.0) (b.0))

-- the order of elements by what they hold
abbrev pub cmp_held : Numbered → Numbered → Ordering
cmp_held a b = ordering_then (ordering_then (nat_cmp a.letters b.letters) (name_cmp a.name.now b.name.now)) (nat_cmp a.at b.at)

-- the name of the entry of a number
abbrev pub name_at : List Entry → ℕ → List ℕ
name_at entries i = option_map_or (λ e. e.name) (slice_get entries i) []

-- the names of the first n entries, each with its number
abbrev pub numbered : List Entry → ℕ → List (ℕ × List ℕ)
numbered entries n = map (λ i. (i, name_at entries i)) (range_with_len 0 n)

-- These are the names of all entries, each with its number, in order.
pub record AreSorted (entries : List Entry) (names : List Numbered) : Type 0 where
  pub places : IsPermutation (numbered entries (length entries)) (map shown names)
  pub sorted : IsSorted cmp_numbered (map shown names)
  pub lettered : All IsLettered names
