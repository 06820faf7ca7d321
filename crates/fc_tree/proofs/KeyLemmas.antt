-- The order of the index.
use Rattle.std.proofs.Common.{◌≡◌, ◌<◌, ◌≤◌, ℕ, true, false, List, Option, Some, None, refl, sym, ap, ap₂, ◌∙◌, arith}
use Rattle.std.specs.Option.{option_map_or}
use Rattle.std.specs.declared.cmp.Ordering.{Ordering}
use Rattle.std.specs.declared.cmp.Ordering.TheVariants.{Less, Equal, Greater}
use Rattle.std.specs.Ordering.{nat_cmp, is_lt, ordering_then, ordering_reverse}
use Rattle.std.specs.Cmp.{IsTotalOrder, nat_cmp_is, nat_cmp_total}
use Rattle.std.specs.Cmp.Lexicographic.{slice_cmp}
use Rattle.std.specs.FinMap.{nat_cmp-IsAntisymmetric, slice_cmp-IsAntisymmetric}
use Rattle.std.proofs.lemmas.Cmp.{on_total, then_total, nat_list_cmp_total}
use Rattle.std.proofs.lemmas.Bool.Decides.{nat_tests}
use Rattle.fc_names.specs.Names.{folded, name_cmp, is_same_name}
use Rattle.fc_names.proofs.FoldOrder.{fold_law, less}
use Rattle.fc_tree.specs.declared.node.Node.{Node}
use Rattle.fc_tree.specs.Slots.{slot_at}
use Rattle.fc_tree.specs.Index.{Key, key_cmp, key_of, is_before}

pub key_total : IsTotalOrder key_cmp
key_total =
    then_total (then_total (on_total (λ (k : Key). k.holder) nat_cmp_total) (on_total (λ (k : Key). folded k.name) nat_list_cmp_total)) (on_total (λ (k : Key). k.number) nat_cmp_total)

pub key_trans : (a b c : Key) → is_lt (key_cmp a b) ≡ true → is_lt (key_cmp b c) ≡ true → is_lt (key_cmp a c) ≡ true
key_trans a b c first second = ap is_lt (key_total.trans a b c (less (key_cmp a b) first) (less (key_cmp b c) second))

level : (n m : ℕ) → n ≡ m → nat_cmp n m ≡ Equal
level n m is = sym (nat_cmp_is n m Equal is)

same_rank : (o : Ordering) → o ≡ ordering_reverse o → is_lt o ≡ false
same_rank Less is = absurd (cc)
same_rank Equal is = refl
same_rank Greater is = refl

pub key_irreflexive : (a : Key) → is_lt (key_cmp a a) ≡ false
key_irreflexive a = same_rank (key_cmp a a) (key_total.antisymm a a)

-- the number decides where the rest is the same
pub by_number : (a b : Key) → a.holder ≡ b.holder → folded a.name ≡ folded b.name → key_cmp a b ≡ nat_cmp a.number b.number
by_number a b holders names =
    ap₂ (λ x y. ordering_then (ordering_then x y) (nat_cmp a.number b.number)) (level a.holder b.holder holders)
    (ap (λ f. slice_cmp nat_cmp f (folded b.name)) names ∙ even (folded b.name))
  where
    even : (f : List ℕ) → slice_cmp nat_cmp f f ≡ Equal
    even f = go (slice_cmp nat_cmp f f) (nat_list_cmp_total.antisymm f f) where
      go : (o : Ordering) → o ≡ ordering_reverse o → o ≡ Equal
      go Less is = absurd (cc)
      go Equal is = refl
      go Greater is = absurd (cc)

pub number_less : (n m : ℕ) → is_lt (nat_cmp n m) ≡ true → n < m
number_less n m is = grind (arith, nat_tests, is)

pub number_least : (n m : ℕ) → is_lt (nat_cmp n m) ≡ false → m ≤ n
number_least n m is = grind (arith, nat_tests, is)

then_number : (o : Ordering) (n m : ℕ) → is_lt (ordering_then o (nat_cmp n m)) ≡ false → (n ≡ m → ⊥) → is_lt (ordering_then (ordering_reverse o) (ordering_reverse (nat_cmp n m))) ≡ true
then_number Less n m is apart = absurd (cc)
then_number Equal n m is apart = grind (arith, nat_tests, is, apart)
then_number Greater n m is apart = refl

-- keys of other numbers stand one before the other
pub key_flipped : (a b : Key) → is_lt (key_cmp a b) ≡ false → (a.number ≡ b.number → ⊥) → is_lt (key_cmp b a) ≡ true
key_flipped a b is apart =
    ap is_lt (key_total.antisymm b a ∙ turned (ordering_then (nat_cmp a.holder b.holder) (name_cmp a.name b.name)) (nat_cmp a.number b.number))
    ∙ then_number (ordering_then (nat_cmp a.holder b.holder) (name_cmp a.name b.name)) a.number b.number is apart
  where
    turned : (o p : Ordering) → ordering_reverse (ordering_then o p) ≡ ordering_then (ordering_reverse o) (ordering_reverse p)
    turned Less p = refl
    turned Equal p = refl
    turned Greater p = refl

-- what is said by two comparisons that a number alone decides
squeezed : (o : Ordering) (n m p : ℕ) → is_lt (ordering_then o (nat_cmp n m)) ≡ false → is_lt (ordering_then o (nat_cmp n p)) ≡ true → (o ≡ Equal) × (m ≤ n)
squeezed Less n m p early late = absurd (cc)
squeezed Equal n m p early late = (refl, number_least n m early)
squeezed Greater n m p early late = absurd (cc)

both_equal : (o p : Ordering) → ordering_then o p ≡ Equal → (o ≡ Equal) × (p ≡ Equal)
both_equal Less p is = absurd (cc)
both_equal Equal p is = (refl, is)
both_equal Greater p is = absurd (cc)

-- a key that is not before the first of a name, but before another of that name, has the name
pub key_squeezed : (first key last : Key) → first.holder ≡ last.holder → folded first.name ≡ folded last.name → is_lt (key_cmp key first) ≡ false → is_lt (key_cmp key last) ≡ true
    → (key.holder ≡ first.holder) × (folded key.name ≡ folded first.name) × (first.number ≤ key.number)
key_squeezed first key last holders names early late =
    let same : is_lt (ordering_then (ordering_then (nat_cmp key.holder first.holder) (name_cmp key.name first.name)) (nat_cmp key.number last.number)) ≡ true =
    ap₂ (λ h (f : List ℕ). is_lt (ordering_then (ordering_then (nat_cmp key.holder h) (slice_cmp nat_cmp (folded key.name) f)) (nat_cmp key.number last.number))) holders names ∙ late in
    let both = squeezed (ordering_then (nat_cmp key.holder first.holder) (name_cmp key.name first.name)) key.number first.number last.number early same in
    let parts = both_equal (nat_cmp key.holder first.holder) (name_cmp key.name first.name) both.0 in
    (nat_cmp-IsAntisymmetric key.holder first.holder parts.0, slice_cmp-IsAntisymmetric nat_cmp-IsAntisymmetric (folded key.name) (folded first.name) parts.1, both.1)

-- ---- names that are the same

pub folds_from_same : (a b : List ℕ) → is_same_name a b ≡ true → folded a ≡ folded b
folds_from_same a b same = (fold_law.folds a b).0 same

pub same_from_folds : (a b : List ℕ) → folded a ≡ folded b → is_same_name a b ≡ true
same_from_folds a b folds = (fold_law.folds a b).1 folds

-- ---- numbers before a key

pub before_node : (slots : List (Option Node)) (key : Key) (n : ℕ) (node : Node) → slot_at slots n ≡ Some node → is_before slots key n ≡ is_lt (key_cmp (key_of n node) key)
before_node slots key n node is = ap (λ o. option_map_or (λ node. is_lt (key_cmp (key_of n node) key)) o false) is

pub node_before : (slots : List (Option Node)) (key : Key) (n : ℕ) → is_before slots key n ≡ true → (node : Node) × (slot_at slots n ≡ Some node)
node_before slots key n before = go (slot_at slots n) refl before where
  go : (o : Option Node) → slot_at slots n ≡ o → option_map_or (λ node. is_lt (key_cmp (key_of n node) key)) o false ≡ true → (node : Node) × (slot_at slots n ≡ Some node)
  go None is before = absurd (cc)
  go (Some node) is before = (node, is)

-- before what stands before the key
pub before_before : (slots : List (Option Node)) (key : Key) (n m : ℕ) (node : Node) → slot_at slots n ≡ Some node → is_before slots key n ≡ true → is_before slots (key_of n node) m ≡ true
    → is_before slots key m ≡ true
before_before slots key n m node is first second =
    let other = node_before slots (key_of n node) m second in
    before_node slots key m other.0 other.1
    ∙ key_trans (key_of m other.0) (key_of n node) key (sym (before_node slots (key_of n node) m other.0 other.1) ∙ second) (sym (before_node slots key n node is) ∙ first)
