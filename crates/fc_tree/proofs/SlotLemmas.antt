-- The nodes of slots, by their numbers.
use Rattle.std.proofs.Common.{◌≡◌, ◌<◌, ◌≤◌, ℕ, zero, suc, ◌+◌, Bool, true, false, cond, List, [], ◌∷◌, length, Option, Some, None, refl, sym, ap, ap₂, ◌∙◌, arith}
use Rattle.std.specs.List.{find as first_of}
use Rattle.std.specs.Option.{option_and_then, option_map, option_map_or, unwrap_or}
use Rattle.std.specs.declared.cmp.Ordering.TheVariants.{Less, Equal}
use Rattle.std.specs.Ordering.{nat_cmp, eq_by_cmp, is_eq}
use Rattle.std.specs.Cmp.{nat_cmp_total, nat_cmp_is, unsigned_tied}
use Rattle.std.specs.FinMap.{from_entries, entries, get, find, empty, get-from_entries, entries-insert, len-empty, len-entries}
use Rattle.std.specs.FinMap.Entries.{put, by_order}
use Rattle.std.proofs.lemmas.Bool.{ne_eqb, cond-true, cond-false}
use Rattle.std.proofs.lemmas.Option.{slice_get_past}
use Rattle.fc_tree.specs.declared.node.Node.{Node}
use Rattle.fc_tree.specs.Nodes.{Numbers, numbered_from, nodes_of, bound_of, child}
use Rattle.fc_tree.specs.Slots.{slot_at, is_child}

-- ---- the node of a number

pub other : (q k : ℕ) → (q ≡ k → ⊥) → eq_by_cmp nat_cmp q k ≡ false
other q k apart = unsigned_tied q k ∙ ne_eqb q k apart

pub level : (q k : ℕ) → q ≡ k → eq_by_cmp nat_cmp q k ≡ true
level q k same = ap is_eq (sym (nat_cmp_is q k Equal same))

find_under : (slots : List (Option Node)) (start q : ℕ) → q < start → find nat_cmp q (numbered_from start slots) ≡ None
find_under [] start q below = refl
find_under (None ∷ slots) start q below = find_under slots (start + 1) q (omega (arith, below))
find_under (Some node ∷ slots) start q below =
    ap (λ b. cond b (Some node) (find nat_cmp q (numbered_from (start + 1) slots))) (other q start (λ e. omega (arith, below, e)))
    ∙ find_under slots (start + 1) q (omega (arith, below))

find_numbered : (slots : List (Option Node)) (start i q : ℕ) → q ≡ start + i → find nat_cmp q (numbered_from start slots) ≡ slot_at slots i
find_numbered [] start i q is = refl
find_numbered (None ∷ slots) start zero q is = find_under slots (start + 1) q (omega (arith, is))
find_numbered (None ∷ slots) start (suc i) q is = find_numbered slots (start + 1) i q (omega (arith, is))
find_numbered (Some node ∷ slots) start zero q is =
    ap (λ b. cond b (Some node) (find nat_cmp q (numbered_from (start + 1) slots))) (level q start (omega (arith, is)))
find_numbered (Some node ∷ slots) start (suc i) q is =
    ap (λ b. cond b (Some node) (find nat_cmp q (numbered_from (start + 1) slots))) (other q start (λ e. omega (arith, is, e)))
    ∙ find_numbered slots (start + 1) i q (omega (arith, is))

-- the node of a number is that in its slot
pub get-nodes_of : (tree : Numbers) (n : ℕ) → get (nodes_of tree) n ≡ slot_at tree.slots n
unfolding nodes_of
get-nodes_of tree n = get-from_entries nat_cmp_total (numbered_from 0 tree.slots) n ∙ find_numbered tree.slots 0 n n (omega arith)

pub get-past : (tree : Numbers) (n : ℕ) → bound_of tree ≤ n → get (nodes_of tree) n ≡ None
get-past tree n above = get-nodes_of tree n ∙ ap (option_and_then (λ o. o)) (slice_get_past tree.slots n above)

-- ---- all nodes in order

no_entries : {A : Type 0} (es : List A) → length es ≡ 0 → es ≡ []
no_entries [] none = refl
no_entries (e ∷ es) none = absurd (omega (arith, none))

put_under : (slots : List (Option Node)) (start k : ℕ) (node : Node) → k < start → put nat_cmp k node (numbered_from start slots) ≡ (k, node) ∷ numbered_from start slots
put_under [] start k node below = refl
put_under (None ∷ slots) start k node below = put_under slots (start + 1) k node (omega (arith, below))
put_under (Some first ∷ slots) start k node below =
    let es = numbered_from (start + 1) slots in
    ap (λ o. by_order o ((k, node) ∷ (start, first) ∷ es) ((start, node) ∷ es) ((start, first) ∷ put nat_cmp k node es)) (sym (nat_cmp_is k start Less below))

entries_numbered : (slots : List (Option Node)) (start : ℕ) → entries (from_entries {R = nat_cmp} (numbered_from start slots)) ≡ numbered_from start slots
entries_numbered [] start = no_entries _ (sym (len-entries empty) ∙ len-empty nat_cmp Node)
entries_numbered (None ∷ slots) start = entries_numbered slots (start + 1)
entries_numbered (Some node ∷ slots) start =
    let es = numbered_from (start + 1) slots in
    entries-insert nat_cmp_total (from_entries es) start node ∙ ap (put nat_cmp start node) (entries_numbered slots (start + 1)) ∙ put_under slots (start + 1) start node (omega arith)

pub entries-nodes_of : (tree : Numbers) → entries (nodes_of tree) ≡ numbered_from 0 tree.slots
unfolding nodes_of
entries-nodes_of tree = entries_numbered tree.slots 0

-- ---- the first that passes a test

first_is : (test : ℕ × Node → Bool) (slots : List (Option Node)) (start i : ℕ) (node : Node) → slot_at slots i ≡ Some node → test (start + i, node) ≡ true
    → ((j : ℕ) (m : Node) → j < i → slot_at slots j ≡ Some m → test (start + j, m) ≡ false) → first_of test (numbered_from start slots) ≡ Some (start + i, node)
first_is test [] start i node is passes before = absurd (cc)
first_is test (None ∷ slots) start zero node is passes before = absurd (cc)
first_is test (None ∷ slots) start (suc i) node is passes before =
    let more : start + suc i ≡ start + 1 + i = omega arith in
    rw more (first_is test slots (start + 1) i node is (rw more at passes)
    (λ j m below here. let one : start + 1 + j ≡ start + suc j = omega arith in rw one (before (suc j) m (omega (arith, below)) here)))
first_is test (Some x ∷ slots) start zero node is passes before =
    let same : (start, x) ≡ (start + 0, node) = ap₂ (λ (n : ℕ) (m : Node). (n, m)) (omega arith) (ap (λ o. unwrap_or o x) is) in
    cond-true (test (start, x)) _ _ (ap test same ∙ passes) ∙ ap Some same
first_is test (Some x ∷ slots) start (suc i) node is passes before =
    let more : start + suc i ≡ start + 1 + i = omega arith in
    let here : start ≡ start + 0 = omega arith in
    cond-false (test (start, x)) _ _ (ap (λ n. test (n, x)) here ∙ before 0 x (omega arith) refl)
    ∙ rw more (first_is test slots (start + 1) i node is (rw more at passes)
    (λ j m below there. let one : start + 1 + j ≡ start + suc j = omega arith in rw one (before (suc j) m (omega (arith, below)) there)))

none_passes : (test : ℕ × Node → Bool) (slots : List (Option Node)) (start : ℕ)
    → ((j : ℕ) (m : Node) → slot_at slots j ≡ Some m → test (start + j, m) ≡ false) → first_of test (numbered_from start slots) ≡ None
none_passes test [] start fails = refl
none_passes test (None ∷ slots) start fails =
    none_passes test slots (start + 1) (λ j m here. let one : start + 1 + j ≡ start + suc j = omega arith in rw one (fails (suc j) m here))
none_passes test (Some x ∷ slots) start fails =
    let here : start ≡ start + 0 = omega arith in
    cond-false (test (start, x)) _ _ (ap (λ n. test (n, x)) here ∙ fails 0 x refl)
    ∙ none_passes test slots (start + 1) (λ j m there. let one : start + 1 + j ≡ start + suc j = omega arith in rw one (fails (suc j) m there))

pub child_is : (tree : Numbers) (dir n : ℕ) (name : List ℕ) (node : Node) → slot_at tree.slots n ≡ Some node → is_child dir name (n, node) ≡ true
    → ((j : ℕ) (m : Node) → j < n → slot_at tree.slots j ≡ Some m → is_child dir name (j, m) ≡ false) → Some n ≡ child (nodes_of tree) dir name
child_is tree dir n name node is passes before =
    sym (ap (λ es. option_map (λ e. e.0) (first_of (is_child dir name) es)) (entries-nodes_of tree)
    ∙ ap (option_map (λ e. e.0)) (first_is (is_child dir name) tree.slots 0 n node is (from_zero n node true passes) (λ j m below here. from_zero j m false (before j m below here)))
    ∙ ap Some (zero_first n))
  where
    zero_first : (k : ℕ) → 0 + k ≡ k
    zero_first k = omega arith

    from_zero : (k : ℕ) (m : Node) (b : Bool) → is_child dir name (k, m) ≡ b → is_child dir name (0 + k, m) ≡ b
    from_zero k m b is = ap (λ i. is_child dir name (i, m)) (zero_first k) ∙ is

pub no_child : (tree : Numbers) (dir : ℕ) (name : List ℕ) → ((j : ℕ) (m : Node) → slot_at tree.slots j ≡ Some m → is_child dir name (j, m) ≡ false)
    → None ≡ child (nodes_of tree) dir name
no_child tree dir name fails =
    sym (ap (λ es. option_map (λ e. e.0) (first_of (is_child dir name) es)) (entries-nodes_of tree)
    ∙ ap (option_map (λ e. e.0)) (none_passes (is_child dir name) tree.slots 0 (λ j m here. from_zero j m (fails j m here))))
  where
    zero_first : (k : ℕ) → 0 + k ≡ k
    zero_first k = omega arith

    from_zero : (k : ℕ) (m : Node) → is_child dir name (k, m) ≡ false → is_child dir name (0 + k, m) ≡ false
    from_zero k m is = ap (λ i. is_child dir name (i, m)) (zero_first k) ∙ is

-- ---- a test at a number

pub is_child_true : (slots : List (Option Node)) (dir n : ℕ) (name : List ℕ) → option_map_or (λ node. is_child dir name (n, node)) (slot_at slots n) false ≡ true
    → (node : Node) × (slot_at slots n ≡ Some node) × (is_child dir name (n, node) ≡ true)
is_child_true slots dir n name passes = go (slot_at slots n) refl passes where
  go : (o : Option Node) → slot_at slots n ≡ o → option_map_or (λ node. is_child dir name (n, node)) o false ≡ true
      → (node : Node) × (slot_at slots n ≡ Some node) × (is_child dir name (n, node) ≡ true)
  go None is passes = absurd (cc)
  go (Some node) is passes = (node, is, passes)

pub is_child_false : (slots : List (Option Node)) (dir n : ℕ) (name : List ℕ) (m : Node) → option_map_or (λ node. is_child dir name (n, node)) (slot_at slots n) false ≡ false
    → slot_at slots n ≡ Some m → is_child dir name (n, m) ≡ false
is_child_false slots dir n name m fails is = sym (ap (λ o. option_map_or (λ node. is_child dir name (n, node)) o false) is) ∙ fails

pub slot_within : (slots : List (Option Node)) (n : ℕ) (m : Node) → slot_at slots n ≡ Some m → n < length slots
slot_within [] n m is = absurd (cc)
slot_within (x ∷ slots) zero m is = omega arith
slot_within (x ∷ slots) (suc n) m is = omega (arith, slot_within slots n m is)
