-- Where paths lead among numbered nodes, and that each node is an object's.
use Rattle.std.proofs.Common.{◌≡◌, ◌≤◌, ◌⊎◌, inl, inr, ⊎_elim, ℕ, zero, suc, ◌+◌, ◌-◌, Bool, true, false, cond, not, T, List, [], ◌∷◌, ◌++◌, length, refl, sym, ap, ap₂, subst, ◌∙◌, arith, Option, Some, None, Ordering, Less, Equal, Greater, is_eq, is_lt, eqb-true, eq-eqb, nat_cmp}
use Rattle.std.specs.Prelude.{Contains, ◌&&◌, ◌==◌, is_some, find}
use Rattle.std.specs.Option.{option_map, option_and_then}
use Rattle.std.specs.Ordering.{eq_by_cmp, ordering_reverse}
use Rattle.std.specs.Cmp.{IsTotalOrder, nat_cmp_total, tied_itself, first_so, second_so}
use Rattle.std.specs.Cmp.Lexicographic.{slice_cmp}
use Rattle.std.specs.FinMap.{FinMap, get, get-entries, get-empty, get-remove, len, len-remove, empty_of_len, remove, entries, entries_sorted, find as value_at, is_sorted, nat_cmp-IsAntisymmetric}
use Rattle.std.specs.FinMap.Entries.{below_all}
use Rattle.std.proofs.lemmas.Bool.{cases_eq, false_from_ne_true as unless}
use Rattle.fc_names.specs.Names.{Path, folded, folded_path, is_same_name, is_same_path}
use Rattle.fc_image.specs.Walk.{Object}
use Rattle.fc_image.proofs.PathsLemmas.{many, is_at, same_equal, cut, itself}
use Rattle.fc_tree.specs.declared.node.Node.{Node}
use Rattle.fc_tree.specs.Nodes.{child, number_from, number_of}
use Rattle.fc_tree.proofs.WalkedLemmas.{same_some}
use Rattle.fc_tree.proofs.NumberLemmas.{number_from-push}
use Rattle.fc_tree.proofs.MemberLemmas.{contains_here, no_element, found_passes, some_many}
use Rattle.fc_tree.proofs.SoundLemmas.{name_folds_alike, fold_pushed}
use Rattle.fc_image.proofs.EntriesLemmas.{later as contains_later, cases as contains_cases}
use Rattle.fc_newmap.proofs.RowLemmas.{not_both as clash}

-- ---- by folding

-- the number of the node of that folded name
abbrev child_by : FinMap nat_cmp Node → ℕ → List ℕ → Option ℕ
child_by nodes dir key = option_map (λ e. e.0) (find (λ e. (e.1.holder == dir) && not (e.0 == 0) && is_eq (slice_cmp nat_cmp key (folded e.1.entry.name))) (entries nodes))

number_by : FinMap nat_cmp Node → ℕ → Path → Option ℕ
number_by nodes at [] = Some at
number_by nodes at (key ∷ keys) = option_and_then (λ next. number_by nodes next keys) (child_by nodes at key)

and_then_same : (f g : ℕ → Option ℕ) → ((n : ℕ) → f n ≡ g n) → (o : Option ℕ) → option_and_then f o ≡ option_and_then g o
and_then_same f g same None = refl
and_then_same f g same (Some n) = same n

number_folds : (nodes : FinMap nat_cmp Node) (at : ℕ) (path : Path) → number_from nodes at path ≡ number_by nodes at (folded_path path)
unfolding number_by
number_folds nodes at [] = refl
number_folds nodes at (name ∷ names) =
    and_then_same (λ next. number_from nodes next names) (λ next. number_by nodes next (folded_path names)) (λ next. number_folds nodes next names) (child nodes at name)

-- each spelling of a path leads to the same node
pub same_number : (nodes : FinMap nat_cmp Node) (p q : Path) → folded_path p ≡ folded_path q → number_of nodes p ≡ number_of nodes q
same_number nodes p q e = number_folds nodes 0 p ∙ ap (number_by nodes 0) e ∙ sym (number_folds nodes 0 q)

-- ---- what a map holds

so : (b : Bool) → T b → b ≡ true
so true h = refl
so false h = absurd h

module _ {K X : Type 0} {R : K → K → Ordering} (o : IsTotalOrder R) where
  below_each : (x : K) (es : List (K × X)) (e : K × X) → below_all R x es ≡ true → Contains es e → R x e.0 ≡ Less
  below_each x [] e h at = absurd (no_element e at)
  below_each x (d ∷ es) e h at =
      ⊎_elim (λ same. ap (λ (y : K × X). R x y.0) (sym same) ∙ less (R x d.0) (first_so (is_lt (R x d.0)) (below_all R x es) h))
      (λ later. below_each x es e (second_so (is_lt (R x d.0)) (below_all R x es) h) later) (contains_cases d e es at)
    where
      less : (r : Ordering) → is_lt r ≡ true → r ≡ Less
      less Less i = refl
      less Equal i = absurd (cc)
      less Greater i = absurd (cc)

  -- an entry of a list in order is what stands at its key
  value_there : (es : List (K × X)) (e : K × X) → is_sorted R es ≡ true → Contains es e → value_at R e.0 es ≡ Some e.1
  value_there [] e h at = absurd (no_element e at)
  value_there (d ∷ es) e h at =
      ⊎_elim (λ same. subst (λ (x : K × X). value_at R x.0 (d ∷ es) ≡ Some x.1) same (ap (λ r. cond (is_eq r) (Some d.1) (value_at R d.0 es)) (tied_itself o d.0)))
      (λ later. ap (λ r. cond (is_eq r) (Some d.1) (value_at R e.0 es)) (o.antisymm e.0 d.0 ∙ ap ordering_reverse (below_each d.0 es e (first_so (below_all R d.0 es) (is_sorted R es) h) later))
      ∙ value_there es e (second_so (below_all R d.0 es) (is_sorted R es) h) later) (contains_cases d e es at)

  pub entry_there : (m : FinMap R X) (e : K × X) → Contains (entries m) e → get m e.0 ≡ Some e.1
  entry_there m e at = get-entries m e.0 ∙ value_there (entries m) e (so (is_sorted R (entries m)) (entries_sorted m)) at

-- ---- a step to a node

-- the node of this number stands in that directory, under that name
pub record Stands (nodes : FinMap nat_cmp Node) (dir : ℕ) (name : List ℕ) (n : ℕ) : Type 0 where
  pub node : Node
  pub is : get nodes n ≡ Some node
  pub holder : node.holder ≡ dir
  pub lower : n ≡ 0 → ⊥
  pub named : folded name ≡ folded node.entry.name

pub child_stands : (nodes : FinMap nat_cmp Node) (dir : ℕ) (name : List ℕ) (n : ℕ) → child nodes dir name ≡ Some n → Stands nodes dir name n
child_stands nodes dir name n h = by (find t (entries nodes)) refl h
  where
    t : ℕ × Node → Bool
    t e = (e.1.holder == dir) && not (e.0 == 0) && is_same_name name e.1.entry.name

    by : (o : Option (ℕ × Node)) → find t (entries nodes) ≡ o → option_map (λ e. e.0) o ≡ Some n → Stands nodes dir name n
    by None f g = absurd (cc)
    by (Some e) f g =
        let at = found_passes t (entries nodes) e f in
        let number : e.0 ≡ n = same_some e.0 n g in
        let placed = first_so ((e.1.holder == dir) && not (e.0 == 0)) (is_same_name name e.1.entry.name) at.1 in
        record {
          node = e.1;
          is = ap (get nodes) (sym number) ∙ entry_there nat_cmp_total nodes e at.0;
          holder = eqb-true e.1.holder dir (first_so (e.1.holder == dir) (not (e.0 == 0)) placed);
          lower = λ z. never (e.0 == 0) (eq-eqb e.0 0 (number ∙ z)) (second_so (e.1.holder == dir) (not (e.0 == 0)) placed);
          named = name_folds_alike name e.1.entry.name (second_so ((e.1.holder == dir) && not (e.0 == 0)) (is_same_name name e.1.entry.name) at.1);
        }
      where
        never : (b : Bool) → b ≡ true → not b ≡ true → ⊥
        never true p q = cc
        never false p q = cc

-- the last step of a path to a node
pub record LastStep (nodes : FinMap nat_cmp Node) (path : Path) (name : List ℕ) (n : ℕ) : Type 0 where
  pub dir : ℕ
  pub above : number_of nodes path ≡ Some dir
  pub step : child nodes dir name ≡ Some n

pub last_step : (nodes : FinMap nat_cmp Node) (path : Path) (name : List ℕ) (n : ℕ) → number_of nodes (path ++ name ∷ []) ≡ Some n → LastStep nodes path name n
last_step nodes path name n h = by (number_of nodes path) refl (sym (number_from-push nodes 0 path name) ∙ h)
  where
    by : (o : Option ℕ) → number_of nodes path ≡ o → option_and_then (λ dir. child nodes dir name) o ≡ Some n → LastStep nodes path name n
    by None f g = absurd (cc)
    by (Some dir) f g = record { dir = dir; above = f; step = g }

-- ---- one path to each node

pub one_path : (nodes : FinMap nat_cmp Node) (n : ℕ) (long : ℕ) (p q : Path) → length p ≡ long → number_of nodes p ≡ Some n → number_of nodes q ≡ Some n
    → folded_path p ≡ folded_path q
one_path nodes n long [] [] e f g = refl
one_path nodes n long [] (y ∷ q) e f g =
    let c = cut y q in
    let s = last_step nodes c.front c.last n (ap (number_of nodes) (sym c.is) ∙ g) in
    absurd ((child_stands nodes s.dir c.last n s.step).lower (same_some n 0 (sym f)))
one_path nodes n long (x ∷ p) [] e f g =
    let c = cut x p in
    let s = last_step nodes c.front c.last n (ap (number_of nodes) (sym c.is) ∙ f) in
    absurd ((child_stands nodes s.dir c.last n s.step).lower (same_some n 0 (sym g)))
one_path nodes n zero (x ∷ p) (y ∷ q) e f g = absurd (omega arith)
one_path nodes n (suc long) (x ∷ p) (y ∷ q) e f g =
    let c = cut x p in
    let d = cut y q in
    let s = last_step nodes c.front c.last n (ap (number_of nodes) (sym c.is) ∙ f) in
    let t = last_step nodes d.front d.last n (ap (number_of nodes) (sym d.is) ∙ g) in
    let u = child_stands nodes s.dir c.last n s.step in
    let v = child_stands nodes t.dir d.last n t.step in
    let node = same_some u.node v.node (sym u.is ∙ v.is) in
    let dir : s.dir ≡ t.dir = sym u.holder ∙ ap (λ (m : Node). m.holder) node ∙ v.holder in
    let shorter = c.shorter in
    let front = one_path nodes s.dir long c.front d.front (omega (arith, e, shorter)) s.above (t.above ∙ ap (λ (k : ℕ). let r : Option ℕ = Some k in r) (sym dir)) in
    let last : folded c.last ≡ folded d.last = u.named ∙ ap (λ (m : Node). folded m.entry.name) node ∙ sym v.named in
    ap folded_path c.is ∙ fold_pushed c.front c.last ∙ ap₂ (λ (fs : Path) (l : List ℕ). fs ++ l ∷ []) front last ∙ sym (fold_pushed d.front d.last) ∙ sym (ap folded_path d.is)

-- ---- a node for each object, and no others

not_empty : {X : Type 0} (m : FinMap nat_cmp X) (k : ℕ) → is_some (get m k) ≡ true → 1 ≤ len m
not_empty {X} m k h = by (len m) refl
  where
    by : (n : ℕ) → len m ≡ n → 1 ≤ n
    by zero e =
        absurd (clash (is_some (get m k)) h (ap (λ (x : FinMap nat_cmp X). is_some (get x k)) (empty_of_len m e) ∙ ap is_some (get-empty nat_cmp k)))
    by (suc n) e = omega arith

still_there : {X : Type 0} (m : FinMap nat_cmp X) (n k : ℕ) → (k ≡ n → ⊥) → is_some (get m k) ≡ true → is_some (get (remove m n) k) ≡ true
still_there m n k apart h =
    let other : eq_by_cmp nat_cmp k n ≡ false = unless (eq_by_cmp nat_cmp k n) (λ tie. apart (nat_cmp-IsAntisymmetric k n (same_equal (nat_cmp k n) tie))) in
    ap is_some (get-remove nat_cmp_total m n k ∙ ap (λ b. cond b None (get m k)) other) ∙ h

one_less : {X : Type 0} (m : FinMap nat_cmp X) (n : ℕ) → is_some (get m n) ≡ true → len (remove m n) + 1 ≡ len m
one_less m n h =
    let less : len (remove m n) ≡ len m - 1 = len-remove nat_cmp_total m n ∙ ap (λ b. cond b (len m - 1) (len m)) h in
    let some = not_empty m n h in
    omega (arith, less, some)

-- the first of a list where each path stands once has no path of the others
not_again : (o p : Object) (os : List Object) → many (is_at o.path) (o ∷ os) ≤ 1 → Contains os p → is_same_path o.path p.path ≡ true → ⊥
unfolding many
not_again o p os low at same =
    let two = some_many (is_at o.path) os p at same in
    let one : ◌≡◌ {A = ℕ} (cond (is_at o.path o) 1 0) 1 = ap (λ (b : Bool). let n : ℕ = cond b 1 0 in n) (itself o.path) in
    absurd (omega (arith, two, one, low))

once_later : (o : Object) (os : List Object) → ((path : Path) → many (is_at path) (o ∷ os) ≤ 1) → (path : Path) → many (is_at path) os ≤ 1
unfolding many
once_later o os once path = let l = once path in omega (arith, l)

-- some object has the number, or none
seek : (num : Object → ℕ) (os : List Object) (n : ℕ) → ((o : Object) × Contains os o × (num o ≡ n)) ⊎ ((o : Object) → Contains os o → num o ≡ n → ⊥)
seek num [] n = inr (λ o at e. no_element o at)
seek num (o ∷ os) n =
    ⊎_elim (λ e. inl (o, contains_here o os, e))
    (λ not. ⊎_elim (λ f. inl (f.0, contains_later o f.0 os f.1, f.2))
    (λ none. inr (λ p at e. ⊎_elim (λ same. not (ap num same ∙ e)) (λ later. none p later e) (contains_cases o p os at))) (seek num os n))
    (cases_eq (num o) n)

module _ {X : Type 0} (num : Object → ℕ) where
  -- objects with numbers of their own are no more than the entries of a map that has them all
  no_more_than : (os : List Object) (m : FinMap nat_cmp X) → ((o : Object) → Contains os o → is_some (get m (num o)) ≡ true)
      → ((o p : Object) → Contains os o → Contains os p → num o ≡ num p → is_same_path o.path p.path ≡ true)
      → ((path : Path) → many (is_at path) os ≤ 1) → length os ≤ len m
  no_more_than [] m each own once = omega arith
  no_more_than (o ∷ os) m each own once =
      let rest = no_more_than os (remove m (num o))
      (λ p at. still_there m (num o) (num p) (λ e. not_again o p os (once o.path) at (own o p (contains_here o os) (contains_later o p os at) (sym e))) (each p (contains_later o p os at)))
      (λ p q a b. own p q (contains_later o p os a) (contains_later o q os b)) (once_later o os once) in
      let less = one_less m (num o) (each o (contains_here o os)) in
      omega (arith, less, rest)

  -- if there are no more entries than objects, each number is an object's
  pub each_taken : (os : List Object) (m : FinMap nat_cmp X) (n : ℕ) → ((o : Object) → Contains os o → is_some (get m (num o)) ≡ true)
      → ((o p : Object) → Contains os o → Contains os p → num o ≡ num p → is_same_path o.path p.path ≡ true)
      → ((path : Path) → many (is_at path) os ≤ 1) → len m ≡ length os → is_some (get m n) ≡ true → (o : Object) × Contains os o × (num o ≡ n)
  each_taken os m n each own once full here =
      ⊎_elim (λ f. f) (λ none. absurd (
      let fewer = no_more_than os (remove m n) (λ p at. still_there m n (num p) (none p at) (each p at)) own once in
      let less = one_less m n here in
      omega (arith, fewer, less, full))) (seek num os n)
