-- Numbers in order are shared out among the directories.
use Rattle.std.proofs.Common.{◌≡◌, ◌<◌, ℕ, zero, suc, ◌+◌, Bool, true, false, cond, ◌==◌, List, [], ◌∷◌, ◌++◌, length, map, filter, take, get_or, Some, None, refl, sym, ap, subst, ◌∙◌, arith, eqb-true, eq-eqb, ne_eqb}
use Rattle.std.specs.Prelude.{slice_index}
use Rattle.std.specs.List.{slice_get}
use Rattle.std.specs.Option.{option_map_or}
use Rattle.std.proofs.lemmas.List.{take_more}
use Rattle.fc_tree.specs.declared.node.Node.{Node}
use Rattle.fc_tree.specs.Slots.{slot_at}
use Rattle.fc_tree.specs.Index.{key_of, is_before, IsHeldBy, IsIndex}
use Rattle.fc_tree.specs.Places.{AreOrdered, is_in}
use Rattle.fc_tree.proofs.NumberLemmas.{full_slot as slot_of}

-- ---- the numbers that pass a test

module _ (p : ℕ → Bool) where
  -- a place of one that passes
  abbrev Place : List ℕ → ℕ → Type 0
  Place xs n = (a : ℕ) × (a < length xs) × (slice_index xs a ≡ n) × (p n ≡ true)

  place_later : (x : ℕ) (xs : List ℕ) (n : ℕ) → Place xs n → Place (x ∷ xs) n
  place_later x xs n (a, within, at, passes) = (suc a, omega (arith, within), at, passes)

  place : (xs : List ℕ) (k : ℕ) → k < length (filter p xs) → Place xs (slice_index (filter p xs) k)
  place [] k within = absurd (omega (arith, within))
  place (x ∷ xs) k within = go (p x) refl k within (place xs) where
    go : (b : Bool) → p x ≡ b → (k : ℕ) → k < length (cond b (x ∷ filter p xs) (filter p xs)) → ((j : ℕ) → j < length (filter p xs) → Place xs (slice_index (filter p xs) j))
        → Place (x ∷ xs) (slice_index (cond b (x ∷ filter p xs) (filter p xs)) k)
    go true is zero within rest = (zero, omega arith, refl, is)
    go true is (suc k) within rest = place_later x xs (slice_index (filter p xs) k) (rest k (omega (arith, within)))
    go false is k within rest = place_later x xs (slice_index (filter p xs) k) (rest k within)

  -- places of two, in order
  abbrev Places : List ℕ → ℕ → ℕ → Type 0
  Places xs n m = (a b : ℕ) × (a < b) × (b < length xs) × (slice_index xs a ≡ n) × (slice_index xs b ≡ m)

  places_later : (x : ℕ) (xs : List ℕ) (n m : ℕ) → Places xs n m → Places (x ∷ xs) n m
  places_later x xs n m (a, b, lt, within, first, second) = (suc a, suc b, omega (arith, lt), omega (arith, within), first, second)

  places : (xs : List ℕ) (i j : ℕ) → i < j → j < length (filter p xs) → Places xs (slice_index (filter p xs) i) (slice_index (filter p xs) j)
  places [] i j lt within = absurd (omega (arith, within))
  places (x ∷ xs) i j lt within = go (p x) i j lt within (places xs) where
    go : (b : Bool) (i j : ℕ) → i < j → j < length (cond b (x ∷ filter p xs) (filter p xs))
        → ((i j : ℕ) → i < j → j < length (filter p xs) → Places xs (slice_index (filter p xs) i) (slice_index (filter p xs) j))
        → Places (x ∷ xs) (slice_index (cond b (x ∷ filter p xs) (filter p xs)) i) (slice_index (cond b (x ∷ filter p xs) (filter p xs)) j)
    go true i zero lt within rest = absurd (omega (arith, lt))
    go true zero (suc j) lt within rest =
        let last = place xs j (omega (arith, within)) in
        (zero, suc last.0, omega arith, omega (arith, last.1), refl, last.2)
    go true (suc i) (suc j) lt within rest =
        places_later x xs (slice_index (filter p xs) i) (slice_index (filter p xs) j) (rest i j (omega (arith, lt)) (omega (arith, within)))
    go false i j lt within rest = places_later x xs (slice_index (filter p xs) i) (slice_index (filter p xs) j) (rest i j lt within)

  -- one that passes is there
  abbrev Found : List ℕ → ℕ → Type 0
  Found xs n = (k : ℕ) × (k < length xs) × (slice_index xs k ≡ n)

  found : (xs : List ℕ) (a : ℕ) → a < length xs → p (slice_index xs a) ≡ true → Found (filter p xs) (slice_index xs a)
  found [] a within passes = absurd (omega (arith, within))
  found (x ∷ xs) zero within passes = go (p x) passes where
    go : (b : Bool) → b ≡ true → Found (cond b (x ∷ filter p xs) (filter p xs)) x
    go true is = (zero, omega arith, refl)
    go false is = absurd (cc)
  found (x ∷ xs) (suc a) within passes = go (p x) (found xs a (omega (arith, within)) passes) where
    go : (b : Bool) → Found (filter p xs) (slice_index xs a) → Found (cond b (x ∷ filter p xs) (filter p xs)) (slice_index xs a)
    go true (k, low, at) = (suc k, omega (arith, low), at)
    go false rest = rest

  filter-append : (xs ys : List ℕ) → filter p (xs ++ ys) ≡ filter p xs ++ filter p ys
  filter-append [] ys = refl
  filter-append (x ∷ xs) ys = go (p x) (filter-append xs ys) where
    go : (b : Bool) → filter p (xs ++ ys) ≡ filter p xs ++ filter p ys → cond b (x ∷ filter p (xs ++ ys)) (filter p (xs ++ ys)) ≡ cond b (x ∷ filter p xs) (filter p xs) ++ filter p ys
    go true rest = ap (λ (l : List ℕ). x ∷ l) rest
    go false rest = rest

  -- one number more
  pub passed_more : (xs : List ℕ) (i : ℕ) → i < length xs → filter p (take (i + 1) xs) ≡ filter p (take i xs) ++ filter p (get_or xs i 0 ∷ [])
  passed_more xs i within = ap (filter p) (take_more xs i 0 within) ∙ filter-append (take i xs) (get_or xs i 0 ∷ [])

-- ---- the numbers of a directory

pub shared : (nodes : List Node) (order : List ℕ) (dir : ℕ) → AreOrdered (map Some nodes) order → IsIndex dir (map Some nodes) (filter (is_in nodes dir) order)
shared nodes order dir ordered = record { known = known; listed = listed; rising = rising } where
  held : (n : ℕ) (node : Node) → slot_at (map Some nodes) n ≡ Some node → is_in nodes dir n ≡ (node.holder == dir)
  held n node is = ap (λ o. option_map_or (λ (m : Node). m.holder == dir) o false) (sym (slot_of nodes n) ∙ is)

  known : (k : ℕ) → k < length (filter (is_in nodes dir) order) → IsHeldBy dir (map Some nodes) (slice_index (filter (is_in nodes dir) order) k)
  known k within =
      let at = place (is_in nodes dir) order k within in
      let there = ordered.known at.0 at.1 in
      let is : slot_at (map Some nodes) (slice_index (filter (is_in nodes dir) order) k) ≡ Some there.0 = ap (slot_at (map Some nodes)) (sym at.2) ∙ there.1 in
      (there.0, is, eqb-true there.0.holder dir (sym (held (slice_index (filter (is_in nodes dir) order) k) there.0 is) ∙ at.3))

  listed : (n : ℕ) (node : Node) → slot_at (map Some nodes) n ≡ Some node → node.holder ≡ dir → Found (is_in nodes dir) (filter (is_in nodes dir) order) n
  listed n node here up =
      let at = ordered.listed n node here in
      let passes : is_in nodes dir (slice_index order at.0) ≡ true = ap (is_in nodes dir) at.2 ∙ held n node here ∙ eq-eqb node.holder dir up in
      let k = found (is_in nodes dir) order at.0 at.1 passes in
      (k.0, k.1, k.2 ∙ at.2)

  rising : (i j : ℕ) (node : Node) → i < j → j < length (filter (is_in nodes dir) order) → slot_at (map Some nodes) (slice_index (filter (is_in nodes dir) order) j) ≡ Some node
      → is_before (map Some nodes) (key_of (slice_index (filter (is_in nodes dir) order) j) node) (slice_index (filter (is_in nodes dir) order) i) ≡ true
  rising i j node lt within here =
      let at = places (is_in nodes dir) order i j lt within in
      subst (λ n. is_before (map Some nodes) (key_of (slice_index (filter (is_in nodes dir) order) j) node) n ≡ true) at.4
      (subst (λ m. is_before (map Some nodes) (key_of m node) (slice_index order at.0) ≡ true) at.5
      (ordered.rising at.0 at.1 node at.2 at.3 (ap (slot_at (map Some nodes)) at.5 ∙ here)))
