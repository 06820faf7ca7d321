-- The index under searches and changes.
use Rattle.std.proofs.Common.{◌≡◌, ◌⊎◌, ◌<◌, ◌≤◌, ℕ, zero, suc, ◌+◌, ◌-◌, Bool, true, false, not, ◌&&◌, ◌==◌, List, length, get_or, Option, Some, None, refl, sym, ap, ap₂, ◌∙◌, arith, inl, inr}
use Rattle.std.specs.Prelude.{is_some, slice_index}
use Rattle.std.specs.List.{insert, remove}
use Rattle.std.specs.List.Sorted.{IsPartitionedBy, IsPartitionPoint}
use Rattle.std.specs.Option.{option_map_or, unwrap_or}
use Rattle.std.specs.Ordering.{nat_cmp, is_lt}
use Rattle.std.proofs.lemmas.Bool.{cases_lt, cases_eq, cases_order, and_parts, and_from, false_from_ne_true, not-true, not_from_false, ne_eqb, eqb-true, eq-eqb}
use Rattle.std.proofs.lemmas.List.{get_or_default}
use Rattle.std.proofs.lemmas.List.Edits.{length-insert, get_or-insert_below, get_or-insert_at, get_or-insert_above, length-remove, get_or-remove_below, get_or-remove_above}
use Rattle.fc_names.specs.Names.{folded, is_same_name}
use Rattle.fc_tree.specs.declared.node.Node.{Node}
use Rattle.fc_tree.specs.Nodes.{child, nodes_of}
use Rattle.fc_tree.specs.Slots.{slot_at, is_child, AreSameBut}
use Rattle.fc_tree.specs.Index.{Key, key_cmp, key_of, is_before, IsHeldBy, IsIndex, IsRank}
use Rattle.fc_tree.proofs.SlotLemmas.{child_is, no_child, is_child_true, is_child_false}
use Rattle.fc_tree.proofs.KeyLemmas.{key_irreflexive, key_flipped, key_squeezed, by_number, number_less, folds_from_same, same_from_folds, before_node, before_before}

-- ---- searches

-- those before a key stand before the others
pub partitioned : (dir : ℕ) (slots : List (Option Node)) (order : List ℕ) (key : Key) → IsIndex dir slots order → IsPartitionedBy (is_before slots key) order
partitioned dir slots order key index i j d le within before =
    elim (cases_lt i j) [
      | inl l ↦
          let first : is_before slots key (slice_index order j) ≡ true = ap (is_before slots key) (get_or_default order j 0 d within) ∙ before in
          let there = index.known j within in
          ap (is_before slots key) (get_or_default order i d 0 (omega (arith, l, within)))
          ∙ before_before slots key (slice_index order j) (slice_index order i) there.0 there.1 first (index.rising i j there.0 l within there.1)
      | inr l ↦ let same : i ≡ j = omega (arith, l, le) in ap (λ k. is_before slots key (get_or order k d)) same ∙ before
    ]

pub rank_is : (slots : List (Option Node)) (order : List ℕ) (key : Key) (rank : ℕ) → rank ≤ length order
    → IsPartitionPoint (λ n. is_before slots key n ≡ true) (λ n. is_before slots key n ≡ false) order rank → IsRank slots order key rank
rank_is slots order key rank within point = record {
  within = within;
  below = λ k lt. point.0 k 0 (omega arith) lt;
  above = λ k le lt. point.1 k 0 le lt;
}

pub both_ways : (b : Bool) → b ≡ true → b ≡ false → ⊥
both_ways b holds fails = cc

-- a number whose node stands at the key or after it has no place below the rank
pub not_below_rank : (slots : List (Option Node)) (order : List ℕ) (key : Key) (rank k : ℕ) → IsRank slots order key rank → is_before slots key (slice_index order k) ≡ false → rank ≤ k
not_below_rank slots order key rank k is later =
    elim (cases_lt k rank) [
      | inl l ↦ absurd (both_ways (is_before slots key (slice_index order k)) (is.below k l) later)
      | inr l ↦ l
    ]

-- the rank of a node that is there is its place
pub rank_exact : (slots : List (Option Node)) (order : List ℕ) (rank n : ℕ) (node : Node) → IsIndex node.holder slots order → slot_at slots n ≡ Some node → IsRank slots order (key_of n node) rank
    → (rank < length order) × (slice_index order rank ≡ n)
rank_exact slots order rank n node index is ranked =
    let place = index.listed n node is refl in
    let k : ℕ = place.0 in
    let here : slice_index order k ≡ n = place.2 in
    let there : slot_at slots (slice_index order k) ≡ Some node = ap (slot_at slots) here ∙ is in
    let itself : is_before slots (key_of n node) (slice_index order k) ≡ false =
    ap (is_before slots (key_of n node)) here ∙ before_node slots (key_of n node) n node is ∙ key_irreflexive (key_of n node) in
    let low : rank ≤ k = not_below_rank slots order (key_of n node) rank k ranked itself in
    elim (cases_lt rank k) [
      | inl l ↦
          let early : is_before slots (key_of n node) (slice_index order rank) ≡ true =
          ap (λ (m : ℕ). is_before slots (key_of m node) (slice_index order rank)) (sym here) ∙ index.rising rank k node l place.1 there in
          absurd (both_ways (is_before slots (key_of n node) (slice_index order rank)) early (ranked.above rank (omega arith) (omega (arith, l, place.1))))
      | inr l ↦ let same : rank ≡ k = omega (arith, l, low) in (omega (arith, same, place.1), ap (slice_index order) same ∙ here)
    ]

-- ---- the first node of a name

-- where the nodes of a name stand in the index, but for the root
abbrev first_key : ℕ → List ℕ → Key
first_key dir name = record { holder = dir; name = name; number = 1 }

-- what a node of a name is
record IsNamed (dir : ℕ) (name : List ℕ) (n : ℕ) (node : Node) : Type 0 where
  pub holder : node.holder ≡ dir
  pub folds : folded node.entry.name ≡ folded name
  pub later : 1 ≤ n

named_from : (dir n : ℕ) (name : List ℕ) (node : Node) → is_child dir name (n, node) ≡ true → IsNamed dir name n node
named_from dir n name node passes =
    let one = and_parts ((node.holder == dir) && not (n == 0)) (is_same_name name node.entry.name) passes in
    let two = and_parts (node.holder == dir) (not (n == 0)) one.0 in
    record {
      holder = eqb-true node.holder dir two.0;
      folds = sym (folds_from_same name node.entry.name one.1);
      later = some n (not-true (n == 0) two.1);
    }
  where
    some : (n : ℕ) → (n == 0) ≡ false → 1 ≤ n
    some zero is = absurd (cc)
    some (suc n) is = omega arith

named_passes : (dir n : ℕ) (name : List ℕ) (node : Node) → IsNamed dir name n node → is_child dir name (n, node) ≡ true
named_passes dir n name node is =
    and_from ((node.holder == dir) && not (n == 0)) (is_same_name name node.entry.name)
    (and_from (node.holder == dir) (not (n == 0)) (eq-eqb node.holder dir is.holder) (not_from_false (n == 0) (ne_eqb n 0 (λ e. omega (arith, e, is.later)))))
    (same_from_folds name node.entry.name (sym is.folds))

not_early : (n m : ℕ) → m ≤ n → is_lt (nat_cmp n m) ≡ false
not_early n m is = false_from_ne_true (is_lt (nat_cmp n m)) (λ less. let lt : n < m = number_less n m less in omega (arith, lt, is))

-- a node of the name isn't before the first
named_at : (slots : List (Option Node)) (dir n : ℕ) (name : List ℕ) (node : Node) → slot_at slots n ≡ Some node → IsNamed dir name n node → is_before slots (first_key dir name) n ≡ false
named_at slots dir n name node is named =
    before_node slots (first_key dir name) n node is
    ∙ ap is_lt (by_number (key_of n node) (first_key dir name) named.holder named.folds)
    ∙ not_early n 1 named.later

-- what stands at the rank of a name is the first node of the name, if one has it
pub first_at_rank : (slots : List (Option Node)) (order : List ℕ) (rank dir j : ℕ) (name : List ℕ) (m : Node) → IsIndex dir slots order → IsRank slots order (first_key dir name) rank
    → slot_at slots j ≡ Some m → is_child dir name (j, m) ≡ true
    → (rank < length order) × ((node : Node) × (slot_at slots (slice_index order rank) ≡ Some node) × (is_child dir name (slice_index order rank, node) ≡ true)) × (slice_index order rank ≤ j)
first_at_rank slots order rank dir j name m index ranked is passes =
    let named = named_from dir j name m passes in
    let place = index.listed j m is named.holder in
    let k : ℕ = place.0 in
    let here : slice_index order k ≡ j = place.2 in
    let low : rank ≤ k = not_below_rank slots order (first_key dir name) rank k ranked (ap (is_before slots (first_key dir name)) here ∙ named_at slots dir j name m is named) in
    let within : rank < length order = omega (arith, low, place.1) in
    elim (cases_lt rank k) [
      | inl l ↦
          let there = index.known rank within in
          let node : Node = there.0 in
          let n : ℕ = slice_index order rank in
          let late : is_lt (key_cmp (key_of n node) (key_of j m)) ≡ true =
          sym (before_node slots (key_of j m) n node there.1) ∙ ap (λ (i : ℕ). is_before slots (key_of i m) n) (sym here)
          ∙ index.rising rank k m l place.1 (ap (slot_at slots) here ∙ is) in
          let early : is_lt (key_cmp (key_of n node) (first_key dir name)) ≡ false =
          sym (before_node slots (first_key dir name) n node there.1) ∙ ranked.above rank (omega arith) within in
          let found = key_squeezed (first_key dir name) (key_of n node) (key_of j m) (sym named.holder) (sym named.folds) early late in
          let less : n < j = number_less n j (ap is_lt (sym (by_number (key_of n node) (key_of j m) (found.0 ∙ sym named.holder) (found.1 ∙ sym named.folds))) ∙ late) in
          (within, (node, there.1, named_passes dir n name node (record { holder = found.0; folds = found.1; later = found.2 })), omega (arith, less))
      | inr l ↦
          let same : slice_index order rank ≡ j = (let e : rank ≡ k = omega (arith, l, low) in ap (slice_index order) e ∙ here) in
          (within, (m, ap (slot_at slots) same ∙ is, ap (λ (i : ℕ). is_child dir name (i, m)) same ∙ passes), omega (arith, same))
    ]

no_child_under : (slots : List (Option Node)) (order : List ℕ) (rank dir : ℕ) (name : List ℕ) → IsIndex dir slots order → IsRank slots order (first_key dir name) rank
    → ((node : Node) → rank < length order → slot_at slots (slice_index order rank) ≡ Some node → is_child dir name (slice_index order rank, node) ≡ true → ⊥)
    → None ≡ child (nodes_of (record { slots = slots; room = 0 })) dir name
no_child_under slots order rank dir name index ranked never =
    no_child (record { slots = slots; room = 0 }) dir name (λ j m here. false_from_ne_true (is_child dir name (j, m)) (λ passes.
    let first = first_at_rank slots order rank dir j name m index ranked here passes in
    never first.1.0 first.0 first.1.1 first.1.2))

-- no number is left at the rank of the name
pub child_past : (slots : List (Option Node)) (order : List ℕ) (rank dir : ℕ) (name : List ℕ) → IsIndex dir slots order → IsRank slots order (first_key dir name) rank → length order ≤ rank
    → None ≡ child (nodes_of (record { slots = slots; room = 0 })) dir name
child_past slots order rank dir name index ranked past =
    no_child_under slots order rank dir name index ranked (λ node within here passes. omega (arith, within, past))

-- the number at the rank of the name is another's
pub child_other : (slots : List (Option Node)) (order : List ℕ) (rank dir n : ℕ) (name : List ℕ) → IsIndex dir slots order → IsRank slots order (first_key dir name) rank → slice_index order rank ≡ n
    → option_map_or (λ node. is_child dir name (n, node)) (slot_at slots n) false ≡ false → None ≡ child (nodes_of (record { slots = slots; room = 0 })) dir name
child_other slots order rank dir n name index ranked is other =
    no_child_under slots order rank dir name index ranked (λ node within here passes.
    both_ways (is_child dir name (n, node)) (ap (λ m. is_child dir name (m, node)) (sym is) ∙ passes)
    (is_child_false slots dir n name node other (ap (slot_at slots) (sym is) ∙ here)))

-- the number at the rank of the name is that of the first node of the name
pub child_there : (slots : List (Option Node)) (order : List ℕ) (rank dir n : ℕ) (name : List ℕ) → IsIndex dir slots order → IsRank slots order (first_key dir name) rank → slice_index order rank ≡ n
    → option_map_or (λ node. is_child dir name (n, node)) (slot_at slots n) false ≡ true → Some n ≡ child (nodes_of (record { slots = slots; room = 0 })) dir name
child_there slots order rank dir n name index ranked is found =
    let there = is_child_true slots dir n name found in
    child_is (record { slots = slots; room = 0 }) dir n name there.0 there.1 there.2 (λ j m below here. false_from_ne_true (is_child dir name (j, m)) (λ passes.
    let first = first_at_rank slots order rank dir j name m index ranked here passes in
    let low : n ≤ j = omega (arith, is, first.2) in
    omega (arith, low, below)))

-- ---- one more node

same_before : (slots new : List (Option Node)) (key : Key) (n m : ℕ) → AreSameBut n slots new → (m ≡ n → ⊥) → is_before new key m ≡ is_before slots key m
same_before slots new key n m same apart = ap (λ o. option_map_or (λ node. is_lt (key_cmp (key_of m node) key)) o false) (same m apart)

-- a number that has no node isn't in the index
unlisted : (dir : ℕ) (slots : List (Option Node)) (order : List ℕ) (n k : ℕ) → IsIndex dir slots order → slot_at slots n ≡ None → k < length order → slice_index order k ≡ n → ⊥
unlisted dir slots order n k index none within here =
    both_ways (is_some (slot_at slots (slice_index order k))) (ap is_some (index.known k within).1) (ap (λ m. is_some (slot_at slots m)) here ∙ ap is_some none)

-- where a place of the longer index was before
abbrev Was : List ℕ → ℕ → ℕ → ℕ → Type 0
Was order rank n k =
    ((k < rank) × (slice_index (insert order rank n) k ≡ slice_index order k))
    ⊎ (((k ≡ rank) × (slice_index (insert order rank n) k ≡ n))
    ⊎ ((rank < k) × (slice_index (insert order rank n) k ≡ slice_index order (k - 1))))

was : (order : List ℕ) (rank n k : ℕ) → rank ≤ length order → Was order rank n k
was order rank n k within =
    elim (cases_lt k rank) [
      | inl l ↦ inl (l, get_or-insert_below order rank n 0 k l within)
      | inr l ↦ elim (cases_eq k rank) [
        | inl e ↦ inr (inl (e, ap (slice_index (insert order rank n)) e ∙ get_or-insert_at order rank n 0 within))
        | inr a ↦
            let low : rank < k = omega (arith, l, a) in
            let next : k ≡ k - 1 + 1 = omega (arith, low) in
            inr (inr (low, ap (slice_index (insert order rank n)) next ∙ get_or-insert_above order rank n 0 (k - 1) (omega (arith, low)) within))
      ]
    ]

-- the index with one more number, at the rank of its node
pub index_put : (slots new : List (Option Node)) (order : List ℕ) (rank n : ℕ) (node : Node) → IsIndex node.holder slots order → slot_at slots n ≡ None → slot_at new n ≡ Some node
    → AreSameBut n slots new → IsRank slots order (key_of n node) rank → IsIndex node.holder new (insert order rank n)
index_put slots new order rank n node index none is same ranked = record {
  known = λ k lt. known k (omega (arith, lt, size)) (was order rank n k ranked.within);
  listed = λ m x here held. listed m x here held (cases_eq m n);
  rising = λ i j x lt within here. rising i j x lt (omega (arith, within, size)) here (was order rank n i ranked.within) (was order rank n j ranked.within);
} where
  longer : List ℕ
  longer = insert order rank n

  size : length longer ≡ length order + 1
  size = length-insert order rank n ranked.within

  apart : (k : ℕ) → k < length order → slice_index order k ≡ n → ⊥
  apart k within = unlisted node.holder slots order n k index none within

  known_old : (k m : ℕ) → k < length order → m ≡ slice_index order k → IsHeldBy node.holder new m
  known_old k m within at =
      let was_known = index.known k within in
      (was_known.0, ap (slot_at new) at ∙ same (slice_index order k) (apart k within) ∙ was_known.1, was_known.2)

  known : (k : ℕ) → k < length order + 1 → Was order rank n k → IsHeldBy node.holder new (slice_index longer k)
  known k lt (inl (below, at)) = known_old k (slice_index longer k) (omega (arith, below, ranked.within)) at
  known k lt (inr (inl (e, at))) = (node, ap (slot_at new) at ∙ is, refl)
  known k lt (inr (inr (above, at))) = known_old (k - 1) (slice_index longer k) (omega (arith, above, lt)) at

  listed : (m : ℕ) (x : Node) → slot_at new m ≡ Some x → x.holder ≡ node.holder → (m ≡ n) ⊎ (m ≡ n → ⊥) → (k : ℕ) × (k < length longer) × (slice_index longer k ≡ m)
  listed m x here held (inl e) = (rank, omega (arith, size, ranked.within), get_or-insert_at order rank n 0 ranked.within ∙ sym e)
  listed m x here held (inr a) = from (index.listed m x (sym (same m a) ∙ here) held) where
    from : (k : ℕ) × (k < length order) × (slice_index order k ≡ m) → (k : ℕ) × (k < length longer) × (slice_index longer k ≡ m)
    from (k, within, at) = elim (cases_lt k rank) [
      | inl l ↦ (k, omega (arith, size, within), get_or-insert_below order rank n 0 k l ranked.within ∙ at)
      | inr l ↦ (k + 1, omega (arith, size, within), get_or-insert_above order rank n 0 k l ranked.within ∙ at)
    ]

  -- two old ones
  old : (i j a b : ℕ) (x : Node) → i < j → j < length order → a ≡ slice_index order i → b ≡ slice_index order j → slot_at new b ≡ Some x → is_before new (key_of b x) a ≡ true
  old i j a b x lt within first second here =
      let here_old : slot_at slots (slice_index order j) ≡ Some x = sym (same (slice_index order j) (apart j within)) ∙ ap (slot_at new) (sym second) ∙ here in
      ap₂ (λ (c d : ℕ). is_before new (key_of d x) c) first second
      ∙ same_before slots new (key_of (slice_index order j) x) n (slice_index order i) same (apart i (omega (arith, lt, within)))
      ∙ index.rising i j x lt within here_old

  -- an old one and the new one
  before_new : (i a b : ℕ) (x : Node) → i < rank → a ≡ slice_index order i → b ≡ n → slot_at new b ≡ Some x → is_before new (key_of b x) a ≡ true
  before_new i a b x lt first second here =
      let mine : x ≡ node = ap (λ o. unwrap_or o x) (sym here ∙ ap (slot_at new) second ∙ is) in
      ap₂ (λ (c d : ℕ). is_before new (key_of d x) c) first second
      ∙ ap (λ (y : Node). is_before new (key_of n y) (slice_index order i)) mine
      ∙ same_before slots new (key_of n node) n (slice_index order i) same (apart i (omega (arith, lt, ranked.within)))
      ∙ ranked.below i lt

  -- the new one and an old one
  new_before : (j a b : ℕ) (x : Node) → rank ≤ j → j < length order → a ≡ n → b ≡ slice_index order j → slot_at new b ≡ Some x → is_before new (key_of b x) a ≡ true
  new_before j a b x le within first second here =
      let away = apart j within in
      let m : ℕ = slice_index order j in
      let here_old : slot_at slots m ≡ Some x = sym (same m away) ∙ ap (slot_at new) (sym second) ∙ here in
      let later : is_lt (key_cmp (key_of m x) (key_of n node)) ≡ false = sym (before_node slots (key_of n node) m x here_old) ∙ ranked.above j le within in
      ap₂ (λ (c d : ℕ). is_before new (key_of d x) c) first second
      ∙ before_node new (key_of m x) n node is
      ∙ key_flipped (key_of m x) (key_of n node) later away

  rising : (i j : ℕ) (x : Node) → i < j → j < length order + 1 → slot_at new (slice_index longer j) ≡ Some x → Was order rank n i → Was order rank n j
      → is_before new (key_of (slice_index longer j) x) (slice_index longer i) ≡ true
  rising i j x lt within here (inl (below, at)) (inl (under, to)) = old i j (slice_index longer i) (slice_index longer j) x lt (omega (arith, under, ranked.within)) at to here
  rising i j x lt within here (inl (below, at)) (inr (inl (e, to))) = before_new i (slice_index longer i) (slice_index longer j) x below at to here
  rising i j x lt within here (inl (below, at)) (inr (inr (above, to))) =
      old i (j - 1) (slice_index longer i) (slice_index longer j) x (omega (arith, below, above)) (omega (arith, above, within)) at to here
  rising i j x lt within here (inr (inl (e, at))) (inl (under, to)) = absurd (omega (arith, lt, e, under))
  rising i j x lt within here (inr (inl (e, at))) (inr (inl (f, to))) = absurd (omega (arith, lt, e, f))
  rising i j x lt within here (inr (inl (e, at))) (inr (inr (above, to))) =
      new_before (j - 1) (slice_index longer i) (slice_index longer j) x (omega (arith, above)) (omega (arith, above, within)) at to here
  rising i j x lt within here (inr (inr (high, at))) (inl (under, to)) = absurd (omega (arith, lt, high, under))
  rising i j x lt within here (inr (inr (high, at))) (inr (inl (f, to))) = absurd (omega (arith, lt, high, f))
  rising i j x lt within here (inr (inr (high, at))) (inr (inr (above, to))) =
      old (i - 1) (j - 1) (slice_index longer i) (slice_index longer j) x (omega (arith, lt, high)) (omega (arith, above, within)) at to here

-- ---- one node less

-- the index without a number
pub index_taken : (slots new : List (Option Node)) (order : List ℕ) (rank n : ℕ) (node : Node) → IsIndex node.holder slots order → slot_at slots n ≡ Some node → slot_at new n ≡ None
    → AreSameBut n slots new → rank < length order → slice_index order rank ≡ n → IsIndex node.holder new (remove order rank)
index_taken slots new order rank n node index is none same within at = record {
  known = λ k lt. known k (omega (arith, lt, size)) (cases_lt k rank);
  listed = λ m x here held. listed m x here held;
  rising = λ i j x lt high here. rising i j x lt (omega (arith, high, size)) here (cases_lt i rank) (cases_lt j rank);
} where
  shorter : List ℕ
  shorter = remove order rank

  size : length shorter + 1 ≡ length order
  size = length-remove order rank within

  low : (k : ℕ) → k < rank → slice_index shorter k ≡ slice_index order k
  low k lt = get_or-remove_below order rank 0 k lt within

  high : (k : ℕ) → rank ≤ k → slice_index shorter k ≡ slice_index order (k + 1)
  high k le = get_or-remove_above order rank 0 k le within

  not_itself : (m : ℕ) → m ≡ n → is_before slots (key_of n node) m ≡ true → ⊥
  not_itself m e before = both_ways (is_lt (key_cmp (key_of n node) (key_of n node)))
      (sym (before_node slots (key_of n node) n node is) ∙ ap (is_before slots (key_of n node)) (sym e) ∙ before) (key_irreflexive (key_of n node))

  -- no other place has the number
  apart : (k : ℕ) → k < length order → (k ≡ rank → ⊥) → slice_index order k ≡ n → ⊥
  apart k lt other e = elim (cases_lt k rank) [
    | inl l ↦ not_itself (slice_index order k) e (ap (λ (m : ℕ). is_before slots (key_of m node) (slice_index order k)) (sym at)
        ∙ index.rising k rank node l within (ap (slot_at slots) at ∙ is))
    | inr l ↦ not_itself (slice_index order rank) at (ap (λ (m : ℕ). is_before slots (key_of m node) (slice_index order rank)) (sym e)
        ∙ index.rising rank k node (omega (arith, l, other)) lt (ap (slot_at slots) e ∙ is))
  ]

  known_old : (k m : ℕ) → k < length order → (k ≡ rank → ⊥) → m ≡ slice_index order k → IsHeldBy node.holder new m
  known_old k m lt other to =
      let was_known = index.known k lt in
      (was_known.0, ap (slot_at new) to ∙ same (slice_index order k) (apart k lt other) ∙ was_known.1, was_known.2)

  known : (k : ℕ) → k + 1 < length order → (k < rank) ⊎ (rank ≤ k) → IsHeldBy node.holder new (slice_index shorter k)
  known k lt (inl l) = known_old k (slice_index shorter k) (omega (arith, lt)) (λ e. omega (arith, e, l)) (low k l)
  known k lt (inr l) = known_old (k + 1) (slice_index shorter k) lt (λ e. omega (arith, e, l)) (high k l)

  listed : (m : ℕ) (x : Node) → slot_at new m ≡ Some x → x.holder ≡ node.holder → (k : ℕ) × (k < length shorter) × (slice_index shorter k ≡ m)
  listed m x here held = from (index.listed m x (sym (same m away) ∙ here) held) where
    away : m ≡ n → ⊥
    away e = both_ways (is_some (slot_at new m)) (ap is_some here) (ap (λ k. is_some (slot_at new k)) e ∙ ap is_some none)

    from : (k : ℕ) × (k < length order) × (slice_index order k ≡ m) → (k : ℕ) × (k < length shorter) × (slice_index shorter k ≡ m)
    from (k, lt, to) = elim (cases_order k rank) [
      | inl e ↦ absurd (away (sym to ∙ ap (slice_index order) e ∙ at))
      | inr (inl l) ↦ (k, omega (arith, size, l, within), low k l ∙ to)
      | inr (inr l) ↦
          let next : k - 1 + 1 ≡ k = omega (arith, l) in
          (k - 1, omega (arith, size, l, lt), high (k - 1) (omega (arith, l)) ∙ ap (slice_index order) next ∙ to)
    ]

  old : (i j a b : ℕ) (x : Node) → i < j → j < length order → (i ≡ rank → ⊥) → (j ≡ rank → ⊥) → a ≡ slice_index order i → b ≡ slice_index order j → slot_at new b ≡ Some x
      → is_before new (key_of b x) a ≡ true
  old i j a b x lt inside other away first second here =
      let here_old : slot_at slots (slice_index order j) ≡ Some x = sym (same (slice_index order j) (apart j inside away)) ∙ ap (slot_at new) (sym second) ∙ here in
      ap₂ (λ (c d : ℕ). is_before new (key_of d x) c) first second
      ∙ same_before slots new (key_of (slice_index order j) x) n (slice_index order i) same (apart i (omega (arith, lt, inside)) other)
      ∙ index.rising i j x lt inside here_old

  rising : (i j : ℕ) (x : Node) → i < j → j + 1 < length order → slot_at new (slice_index shorter j) ≡ Some x → (i < rank) ⊎ (rank ≤ i) → (j < rank) ⊎ (rank ≤ j)
      → is_before new (key_of (slice_index shorter j) x) (slice_index shorter i) ≡ true
  rising i j x lt inside here (inl l) (inl r) =
      old i j (slice_index shorter i) (slice_index shorter j) x lt (omega (arith, inside)) (λ e. omega (arith, e, l)) (λ e. omega (arith, e, r)) (low i l) (low j r) here
  rising i j x lt inside here (inl l) (inr r) =
      old i (j + 1) (slice_index shorter i) (slice_index shorter j) x (omega (arith, lt)) inside (λ e. omega (arith, e, l)) (λ e. omega (arith, e, r)) (low i l) (high j r) here
  rising i j x lt inside here (inr l) (inl r) = absurd (omega (arith, l, r, lt))
  rising i j x lt inside here (inr l) (inr r) =
      old (i + 1) (j + 1) (slice_index shorter i) (slice_index shorter j) x (omega (arith, lt)) inside (λ e. omega (arith, e, l)) (λ e. omega (arith, e, r)) (high i l) (high j r) here

-- ---- the other directories

-- a number of a node that comes or goes in one directory changes nothing in another
pub index_other : (dir : ℕ) (slots new : List (Option Node)) (order : List ℕ) (n : ℕ) → IsIndex dir slots order → AreSameBut n slots new
    → ((x : Node) → slot_at slots n ≡ Some x → x.holder ≡ dir → ⊥) → ((x : Node) → slot_at new n ≡ Some x → x.holder ≡ dir → ⊥) → IsIndex dir new order
index_other dir slots new order n index same gone come = record { known = known; listed = listed; rising = rising } where
  apart : (k : ℕ) → k < length order → slice_index order k ≡ n → ⊥
  apart k within at =
      let held = index.known k within in
      gone held.0 (ap (slot_at slots) (sym at) ∙ held.1) held.2

  known : (k : ℕ) → k < length order → IsHeldBy dir new (slice_index order k)
  known k within =
      let held = index.known k within in
      (held.0, same (slice_index order k) (apart k within) ∙ held.1, held.2)

  listed : (m : ℕ) (x : Node) → slot_at new m ≡ Some x → x.holder ≡ dir → (k : ℕ) × (k < length order) × (slice_index order k ≡ m)
  listed m x here held = elim (cases_eq m n) [
    | inl e ↦ absurd (come x (ap (slot_at new) (sym e) ∙ here) held)
    | inr a ↦ index.listed m x (sym (same m a) ∙ here) held
  ]

  rising : (i j : ℕ) (x : Node) → i < j → j < length order → slot_at new (slice_index order j) ≡ Some x → is_before new (key_of (slice_index order j) x) (slice_index order i) ≡ true
  rising i j x lt within here =
      same_before slots new (key_of (slice_index order j) x) n (slice_index order i) same (apart i (omega (arith, lt, within)))
      ∙ index.rising i j x lt within (sym (same (slice_index order j) (apart j within)) ∙ here)
