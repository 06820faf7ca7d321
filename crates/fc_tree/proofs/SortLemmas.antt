-- All numbers are put in order by one sort.
use Rattle.std.proofs.Common.{◌≡◌, ◌<◌, ℕ, zero, suc, ◌+◌, true, false, List, [], ◌∷◌, length, get_or, map, Option, Some, None, eqb, refl, sym, ap, ap₂, ◌∙◌, subst, arith}
use Rattle.std.specs.Prelude.{slice_index, All}
use Rattle.std.specs.List.{AllByRecursion, range_with_len, IsDistinct, slice_get}
use Rattle.std.specs.List.Sorted.{IsSorted, IsSortedBy}
use Rattle.std.specs.Option.{option_map, option_map_or, option_and_then, unwrap_or}
use Rattle.std.specs.Ordering.{is_lt}
use Rattle.std.specs.Cmp.{IsStrictWeakOrder}
use Rattle.std.proofs.lemmas.Bool.{eqb-false}
use Rattle.std.proofs.lemmas.Bool.Decides.{nat_tests}
use Rattle.std.proofs.lemmas.List.{get_or-map, get_or_default, length-map}
use Rattle.std.proofs.lemmas.List.FromFn.{length-map-range_with_len, get_or-map-range_with_len}
use Rattle.std.proofs.lemmas.List.Sorted.{IsPermutation-map, length_permutation, All-permutation, Contains-permutation, ranks_by, sorted_far}
use Rattle.std.proofs.lemmas.Map.Keys.{IsDistinct-IsPermutation, apart_from_distinct}
use Rattle.std.proofs.lemmas.Option.{slice_get-map, slice_get_within}
use Rattle.fc_tree.specs.declared.node.Node.{Node}
use Rattle.fc_tree.specs.Slots.{slot_at}
use Rattle.fc_tree.specs.Index.{Key, key_cmp, key_of, is_before}
use Rattle.fc_tree.specs.Places.{AreOrdered, AreSorted, key_in, keys_of}
use Rattle.fc_tree.proofs.KeyLemmas.{key_total, key_flipped, before_node}
use Rattle.fc_bigdir.proofs.OrderLemmas.{eqb_flips}
use Rattle.fc_tree.proofs.NumberLemmas.{full_slot as slot_of}

number : Key → ℕ
number k = k.number

no_key : Key
no_key = record { holder = 0; name = []; number = 0 }

-- ---- the keys

names_rank : IsStrictWeakOrder (λ a b. is_lt (key_cmp a b))
names_rank = ranks_by key_total (λ (k : Key). k)

pub numbers_rank : (nodes : List Node) → IsStrictWeakOrder (λ a b. is_lt (key_cmp (key_in nodes a) (key_in nodes b)))
numbers_rank nodes = ranks_by key_total (key_in nodes)

-- keys are in order where their numbers are
pub sorted_map : (nodes : List Node) (order : List ℕ) → IsSortedBy (λ a b. is_lt (key_cmp (key_in nodes a) (key_in nodes b))) order → IsSorted key_cmp (map (key_in nodes) order)
sorted_map nodes [] sorted k d low high = absurd (omega arith)
sorted_map nodes (n ∷ order) sorted k d low high =
    let second : k + 1 < length (n ∷ order) = omega (arith, high, length-map (n ∷ order) (key_in nodes)) in
    let up = get_or-map (key_in nodes) (n ∷ order) (k + 1) n d second in
    let down = get_or-map (key_in nodes) (n ∷ order) k n d (omega (arith, second)) in
    ap₂ (λ a b. is_lt (key_cmp a b)) up down ∙ sorted k n low second

-- ---- their numbers

above_all : (a c n : ℕ) → a < c → AllByRecursion (λ x. eqb a x ≡ false) (range_with_len c n)
above_all a c zero below = tt
above_all a c (suc n) below = (grind (arith, nat_tests, below), above_all a (c + 1) n (omega (arith, below)))

range_distinct : (a n : ℕ) → IsDistinct eqb (range_with_len a n)
unfolding IsDistinct
range_distinct a zero = tt
range_distinct a (suc n) = (above_all a (a + 1) n (omega arith), range_distinct (a + 1) n)

number_in : (nodes : List Node) (i : ℕ) → (key_in nodes i).number ≡ i
number_in nodes i = go (slice_get nodes i) where
  go : (o : Option Node) → (option_map_or (key_of i) o (record { holder = 0; name = []; number = i })).number ≡ i
  go None = refl
  go (Some node) = refl

numbers_in : (nodes : List Node) (a n : ℕ) → map (λ (k : Key). k.number) (map (key_in nodes) (range_with_len a n)) ≡ range_with_len a n
numbers_in nodes a zero = refl
numbers_in nodes a (suc n) = ap₂ (λ x xs. x ∷ xs) (number_in nodes a) (numbers_in nodes (a + 1) n)

-- ---- slots of nodes

-- a key of a node that is there
IsKey : List Node → Key → Type 0
IsKey nodes k = (node : Node) × (slice_get nodes k.number ≡ Some node) × (k ≡ key_of k.number node)

node_in : (nodes : List Node) (i : ℕ) → i < length nodes → (node : Node) × (slice_get nodes i ≡ Some node)
node_in [] i within = absurd (omega (arith, within))
node_in (node ∷ nodes) zero within = (node, refl)
node_in (node ∷ nodes) (suc i) within = node_in nodes i (omega (arith, within))

key_there : (nodes : List Node) (i : ℕ) → i < length nodes → (node : Node) × (slice_get nodes i ≡ Some node) × (key_in nodes i ≡ key_of i node)
key_there nodes i within =
    let there = node_in nodes i within in
    (there.0, there.1, ap (λ p. option_map_or (key_of i) p (record { holder = 0; name = []; number = i })) there.1)

all_keys : (nodes : List Node) → All (IsKey nodes) (keys_of nodes (length nodes))
unfolding IsKey
all_keys nodes i d within =
    let inside : i < length nodes = omega (arith, within, length-map-range_with_len (key_in nodes) 0 (length nodes)) in
    let at : get_or (keys_of nodes (length nodes)) i d ≡ key_in nodes i = get_or-map-range_with_len (key_in nodes) 0 (length nodes) i i d inside (omega arith) in
    let there = key_there nodes i inside in
    let same : get_or (keys_of nodes (length nodes)) i d ≡ key_of i there.0 = at ∙ there.2 in
    subst (IsKey nodes) (sym same) (there.0, there.1, refl)

-- ---- the order

pub order_sorted : (nodes : List Node) (keys : List Key) (order : List ℕ) → AreSorted nodes keys → order ≡ map (λ (k : Key). k.number) keys
    → AreOrdered (map Some nodes) order
unfolding IsKey
order_sorted nodes keys order sorted is = record { known = known; listed = listed; rising = rising } where
  long : length keys ≡ length nodes
  long = length_permutation (keys_of nodes (length nodes)) keys sorted.places ∙ length-map-range_with_len (key_in nodes) 0 (length nodes)

  size : length order ≡ length nodes
  size = ap length is ∙ length-map keys (λ (k : Key). k.number) ∙ long

  at : (k : ℕ) → k < length nodes → slice_index order k ≡ (get_or keys k no_key).number
  at k within = ap (λ l. slice_index l k) is ∙ get_or-map (λ (k : Key). k.number) keys k no_key 0 (omega (arith, within, long))

  key : (k : ℕ) → k < length nodes → IsKey nodes (get_or keys k no_key)
  key k within = All-permutation (IsKey nodes) (keys_of nodes (length nodes)) keys sorted.places (all_keys nodes) k no_key (omega (arith, within, long))

  there : (k : ℕ) (within : k < length nodes) → slot_at (map Some nodes) (slice_index order k) ≡ Some (key k within).0
  there k within = ap (slot_at (map Some nodes)) (at k within) ∙ slot_of nodes (get_or keys k no_key).number ∙ (key k within).1

  known : (k : ℕ) → k < length order → (node : Node) × (slot_at (map Some nodes) (slice_index order k) ≡ Some node)
  known k within = let inside : k < length nodes = omega (arith, within, size) in ((key k inside).0, there k inside)

  listed : (n : ℕ) (node : Node) → slot_at (map Some nodes) n ≡ Some node → (k : ℕ) × (k < length order) × (slice_index order k ≡ n)
  listed n node here =
      let inside : n < length nodes = slice_get_within nodes n node (sym (slot_of nodes n) ∙ here) in
      let first : get_or (keys_of nodes (length nodes)) n (key_in nodes n) ≡ key_in nodes n =
      get_or-map-range_with_len (key_in nodes) 0 (length nodes) n n (key_in nodes n) inside (omega arith) in
      let found = Contains-permutation (keys_of nodes (length nodes)) keys (key_in nodes n) sorted.places
      (n, omega (arith, inside, length-map-range_with_len (key_in nodes) 0 (length nodes)), first) in
      let within : found.0 < length nodes = omega (arith, found.1, long) in
      (found.0, omega (arith, within, size), at found.0 within ∙ ap (λ (k : Key). k.number) (get_or_default keys found.0 no_key (key_in nodes n) found.1 ∙ found.2) ∙ number_in nodes n)

  distinct : IsDistinct eqb (map (λ (k : Key). k.number) keys)
  distinct = IsDistinct-IsPermutation eqb eqb_flips (map (λ (k : Key). k.number) (keys_of nodes (length nodes))) (map (λ (k : Key). k.number) keys)
      (IsPermutation-map (λ (k : Key). k.number) (keys_of nodes (length nodes)) keys sorted.places)
      (subst (IsDistinct eqb) (sym (numbers_in nodes 0 (length nodes))) (range_distinct 0 (length nodes)))

  apart : (i j : ℕ) → i < j → j < length nodes → (get_or keys j no_key).number ≡ (get_or keys i no_key).number → ⊥
  apart i j lt within same =
      let first : get_or (map (λ (k : Key). k.number) keys) i 0 ≡ (get_or keys i no_key).number = get_or-map (λ (k : Key). k.number) keys i no_key 0 (omega (arith, lt, within, long)) in
      let second : get_or (map (λ (k : Key). k.number) keys) j 0 ≡ (get_or keys j no_key).number = get_or-map (λ (k : Key). k.number) keys j no_key 0 (omega (arith, within, long)) in
      eqb-false (get_or (map (λ (k : Key). k.number) keys) i 0) (get_or (map (λ (k : Key). k.number) keys) j 0)
      (apart_from_distinct eqb (map (λ (k : Key). k.number) keys) i j 0 distinct lt (omega (arith, within, long, length-map keys (λ (k : Key). k.number))))
      (first ∙ sym same ∙ sym second)

  rising : (i j : ℕ) (node : Node) → i < j → j < length order → slot_at (map Some nodes) (slice_index order j) ≡ Some node
      → is_before (map Some nodes) (key_of (slice_index order j) node) (slice_index order i) ≡ true
  rising i j node lt within here =
      let high : j < length nodes = omega (arith, within, size) in
      let low : i < length nodes = omega (arith, lt, high) in
      let a : Key = get_or keys i no_key in
      let b : Key = get_or keys j no_key in
      let mine : (key j high).0 ≡ node = ap (λ o. unwrap_or o (key j high).0) (sym (there j high) ∙ here) in
      let last : key_of (slice_index order j) node ≡ b = ap₂ key_of (at j high) (sym mine) ∙ sym (key j high).2 in
      let first : key_of (slice_index order i) (key i low).0 ≡ a = ap (λ n. key_of n (key i low).0) (at i low) ∙ sym (key i low).2 in
      before_node (map Some nodes) (key_of (slice_index order j) node) (slice_index order i) (key i low).0 (there i low)
      ∙ ap₂ (λ x y. is_lt (key_cmp x y)) first last
      ∙ key_flipped b a (sorted_far (λ x y. is_lt (key_cmp x y)) names_rank keys sorted.sorted i j no_key (omega (arith, lt)) (omega (arith, high, long))) (apart i j lt high)

pub keys_numbers : (nodes : List Node) (order : List ℕ) → map (λ (k : Key). k.number) (map (key_in nodes) order) ≡ order
keys_numbers nodes [] = refl
keys_numbers nodes (n ∷ order) = ap₂ (λ i l. i ∷ l) (by (slice_get nodes n)) (keys_numbers nodes order)
  where
    by : (o : Option Node) → (option_map_or (key_of n) o (record { holder = 0; name = []; number = n })).number ≡ n
    by None = refl
    by (Some node) = refl
