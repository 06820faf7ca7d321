-- What a directory holds, in the order of folded names, is what the tree lists there.
use Rattle.std.proofs.Common.{◌≡◌, ◌≤◌, ⊎_elim, ℕ, ◌+◌, Bool, true, false, cond, T, List, [], ◌∷◌, ◌++◌, map, length, take, refl, sym, ap, ap₂, subst, ◌∙◌, arith, Option, Some, None, Ordering, Less, Equal, Greater, is_eq, is_lt, is_le, eqb-true, eq-eqb, nat_cmp}
use Rattle.std.specs.Prelude.{Contains, IsPermutation, ◌&&◌, ◌==◌}
use Rattle.std.specs.Ordering.{ordering_then}
use Rattle.std.specs.Cmp.{nat_cmp_total, tied_itself, first_so, second_so}
use Rattle.std.specs.Cmp.Lexicographic.{slice_cmp, lists_total, pointwise_decides, bytes_decides}
use Rattle.std.specs.FinMap.{get-entries, entries, entries_sorted, find as value_at, is_sorted}
use Rattle.std.specs.FinMap.Entries.{below_all, where_key, is_sorted-where_key, find-where_key, same_entries}
use Rattle.std.proofs.lemmas.List.{length-map, length_push, take_at}
use Rattle.std.proofs.lemmas.List.Sorted.{Contains-permutation, IsPermutation-sym}
use Rattle.fc_names.specs.Names.{Path, folded, folded_path, key_cmp, name_cmp, is_same_name, is_same_path}
use Rattle.fc_model.specs.Tree.{Node, children, is_prefix}
use Rattle.fc_dirs.specs.Directory.{entries_of}
use Rattle.fc_image.specs.Layout.{Layout}
use Rattle.fc_image.specs.Walk.{Object, Listing}
use Rattle.fc_image.specs.Objects.{objects_of, node_of, tree_entry, tree_of}
use Rattle.fc_image.proofs.PathsLemmas.{many, has_that, names_once}
use Rattle.fc_tree.specs.Laws.{Rise, ChildrenLaw}
use Rattle.fc_image.specs.Sound.{AreSound}
use Rattle.fc_tree.proofs.MemberLemmas.{from_map, in_map, many_permuted, many_mapped}
use Rattle.fc_tree.proofs.WalkedLemmas.{root, root_path, twins, child_path, child_is_object}
use Rattle.fc_tree.proofs.SoundLemmas.{folds_alike, fold_pushed, children_stored, root_or_child, same_object, same_listing}
use Rattle.fc_tree.proofs.TreeLemmas.{value_is, no_value, tree_get}
use Rattle.fc_image.proofs.CommandLemmas.{prefix_is, is_prefix_of, same_by_folds}
use Rattle.std.proofs.lemmas.Bool.{and_from as both_so}
use Rattle.std.proofs.lemmas.Float.{T_from_true as so}
use Rattle.fc_image.proofs.TreeLemmas.{key_total, key_exact}

-- ---- keys below a directory

-- a node's entry below this folded path
abbrev keyed : Path → Node → Path × Node
keyed front n = (front ++ folded n.name ∷ [], n)

-- the key has one name more than the path, and begins with it
abbrev pub is_below : Path → Path → Bool
is_below path key = (length key == length path + 1) && is_prefix (folded_path path) key

then_level : (r : Ordering) → ordering_then r Equal ≡ r
then_level Less = refl
then_level Equal = refl
then_level Greater = refl

-- keys below one path compare as their last names
last_decides : (front : Path) (a b : List ℕ) → key_cmp (front ++ a ∷ []) (front ++ b ∷ []) ≡ slice_cmp nat_cmp a b
last_decides [] a b = then_level (slice_cmp nat_cmp a b)
last_decides (x ∷ front) a b =
    ap (λ (r : Ordering). ordering_then r (key_cmp (front ++ a ∷ []) (front ++ b ∷ []))) (tied_itself (lists_total nat_cmp_total) x) ∙ last_decides front a b

-- a key below a path is that of the path with a name
pub below_front : (path front : Path) (last : List ℕ) → is_below path (front ++ last ∷ []) ≡ true → front ≡ folded_path path
below_front path front last h =
    let long : length (front ++ last ∷ []) ≡ length path + 1 = eqb-true _ _ (first_so (length (front ++ last ∷ []) == length path + 1) (is_prefix (folded_path path) (front ++ last ∷ [])) h) in
    let prefix = prefix_is (folded_path path) (front ++ last ∷ []) (second_so (length (front ++ last ∷ []) == length path + 1) (is_prefix (folded_path path) (front ++ last ∷ [])) h) in
    let pushed = length_push front last in
    let same : length (folded_path path) ≡ length path = length-map path folded in
    sym (prefix ∙ take_at front (last ∷ []) (length (folded_path path)) (omega (arith, long, pushed, same)))

pub front_below : (path : Path) (last : List ℕ) → is_below path (folded_path path ++ last ∷ []) ≡ true
front_below path last =
    let same : length (folded_path path) ≡ length path = length-map path folded in
    let pushed = length_push (folded_path path) last in
    both_so (length (folded_path path ++ last ∷ []) == length path + 1) (is_prefix (folded_path path) (folded_path path ++ last ∷ []))
    (eq-eqb (length (folded_path path ++ last ∷ [])) (length path + 1) (omega (arith, same, pushed)))
    (is_prefix_of (folded_path path) (folded_path path ++ last ∷ []) (sym (take_at (folded_path path) (last ∷ []) (length (folded_path path)) refl)))

-- ---- in order

-- a name that no two nodes have
abbrev named : List ℕ → Node → Bool
named name n = is_same_name name n.name

module _ (front : Path) where
  abbrev key_of : Node → Path
  key_of n = front ++ folded n.name ∷ []

  less_than : (n m : Node) (nodes : List Node) → is_le (name_cmp n.name m.name) ≡ true → many (named n.name) (n ∷ m ∷ nodes) ≤ 1 → key_cmp (key_of n) (key_of m) ≡ Less
  unfolding many
  less_than n m nodes low few = last_decides front (folded n.name) (folded m.name) ∙ by (name_cmp n.name m.name) refl low
    where
      by : (r : Ordering) → name_cmp n.name m.name ≡ r → is_le r ≡ true → r ≡ Less
      by Less e i = refl
      by Equal e i =
          let itself : ◌≡◌ {A = ℕ} (cond (named n.name n) 1 0) 1 = ap (λ (r : Ordering). let k : ℕ = cond (is_eq r) 1 0 in k) (tied_itself (lists_total nat_cmp_total) (folded n.name)) in
          let other : ◌≡◌ {A = ℕ} (cond (named n.name m) 1 0) 1 = ap (λ (r : Ordering). let k : ℕ = cond (is_eq r) 1 0 in k) e in
          absurd (omega (arith, itself, other, few))
      by Greater e i = absurd (cc)

  less_all : (x y : Path) (nodes : List Node) → key_cmp x y ≡ Less → below_all key_cmp y (map (keyed front) nodes) ≡ true → below_all key_cmp x (map (keyed front) nodes) ≡ true
  less_all x y [] l h = refl
  less_all x y (n ∷ nodes) l h =
      both_so (is_lt (key_cmp x (key_of n))) (below_all key_cmp x (map (keyed front) nodes))
      (ap is_lt (key_total.trans x y (key_of n) l (less (key_cmp y (key_of n)) (first_so (is_lt (key_cmp y (key_of n))) (below_all key_cmp y (map (keyed front) nodes)) h))))
      (less_all x y nodes l (second_so (is_lt (key_cmp y (key_of n))) (below_all key_cmp y (map (keyed front) nodes)) h))
    where
      less : (r : Ordering) → is_lt r ≡ true → r ≡ Less
      less Less i = refl
      less Equal i = absurd (cc)
      less Greater i = absurd (cc)

  few_later : (n : Node) (nodes : List Node) → ((name : List ℕ) → many (named name) (n ∷ nodes) ≤ 1) → (name : List ℕ) → many (named name) nodes ≤ 1
  unfolding many
  few_later n nodes few name = let f = few name in omega (arith, f)

  lowest : (n : Node) (nodes : List Node) → Rise (n ∷ nodes) → ((name : List ℕ) → many (named name) (n ∷ nodes) ≤ 1) → below_all key_cmp (key_of n) (map (keyed front) nodes) ≡ true
  lowest n [] r few = refl
  lowest n (m ∷ nodes) r few =
      let l = less_than n m nodes r.0 (few n.name) in
      both_so (is_lt (key_cmp (key_of n) (key_of m))) (below_all key_cmp (key_of n) (map (keyed front) nodes)) (ap is_lt l)
      (less_all (key_of n) (key_of m) nodes l (lowest m nodes r.1 (few_later n (m ∷ nodes) few)))

  keys_rise : (nodes : List Node) → Rise nodes → ((name : List ℕ) → many (named name) nodes ≤ 1) → is_sorted key_cmp (map (keyed front) nodes) ≡ true
  keys_rise [] r few = refl
  keys_rise (n ∷ nodes) r few =
      both_so (below_all key_cmp (key_of n) (map (keyed front) nodes)) (is_sorted key_cmp (map (keyed front) nodes)) (lowest n nodes r few)
      (keys_rise nodes (rest n nodes r) (few_later n nodes few))
    where
      rest : (n : Node) (nodes : List Node) → Rise (n ∷ nodes) → Rise nodes
      rest n [] r = tt
      rest n (m ∷ nodes) r = r.1

-- ---- the same entries

-- entries that tie are the same in the longer list, of which the shorter has those that pass
found_alike : (p : Path → Bool) (es fs : List (Path × Node)) (q : Path)
    → ((d e : Path × Node) → Contains es d → Contains es e → d.0 ≡ e.0 → d ≡ e)
    → ((e : Path × Node) → Contains fs e → Contains es e × (p e.0 ≡ true)) → ((e : Path × Node) → Contains es e → p e.0 ≡ true → Contains fs e)
    → cond (p q) (value_at key_cmp q es) None ≡ value_at key_cmp q fs
found_alike p es fs q one from to = by (p q) refl (value_at key_cmp q es) refl (value_at key_cmp q fs) refl
  where
    by : (b : Bool) → p q ≡ b → (r : Option Node) → value_at key_cmp q es ≡ r → (s : Option Node) → value_at key_cmp q fs ≡ s → cond b r None ≡ s
    by false e r f None g = refl
    by false e r f (Some v) g =
        let d = value_is key_cmp q fs v g in
        let passes : p q ≡ true = ap p (key_exact q d.0.0 d.2) ∙ (from d.0 d.1).1 in
        absurd (let two : true ≡ false = sym passes ∙ e in cc)
    by true e None f None g = refl
    by true e None f (Some v) g =
        let d = value_is key_cmp q fs v g in
        absurd (no_value key_cmp q es d.0 f (from d.0 d.1).0 d.2)
    by true e (Some v) f None g =
        let d = value_is key_cmp q es v f in
        absurd (no_value key_cmp q fs d.0 g (to d.0 d.1 (ap p (sym (key_exact q d.0.0 d.2)) ∙ e)) d.2)
    by true e (Some v) f (Some u) g =
        let d = value_is key_cmp q es v f in
        let h = value_is key_cmp q fs u g in
        let same = one d.0 h.0 d.1 (from h.0 h.1).0 (sym (key_exact q d.0.0 d.2) ∙ key_exact q h.0.0 h.2) in
        ap (λ (n : Node). let r : Option Node = Some n in r) (sym d.3 ∙ ap (λ (x : Path × Node). x.1) same ∙ h.3)

-- ---- the law

unkeyed : (front : Path) (nodes : List Node) → map (λ e. e.1) (map (keyed front) nodes) ≡ nodes
unkeyed front [] = refl
unkeyed front (n ∷ nodes) = ap (λ (ns : List Node). n ∷ ns) (unkeyed front nodes)

module _ (image : List ℕ) (layout : Layout) (listings : List Listing) (sound : AreSound layout listings) (l : Listing) (at : Contains listings l) (path : Path)
    (same : is_same_path path l.object.path ≡ true) (nodes : List Node) (all : IsPermutation (map (node_of image layout) l.children) nodes) where
  -- a child's entry in the tree is its node's
  child_entry : (o : Object) → Contains l.children o → tree_entry image layout o ≡ keyed (folded_path path) (node_of image layout o)
  child_entry o in' =
      ap (λ (k : Path). let e : Path × Node = (k, node_of image layout o) in e) (ap folded_path (child_path layout listings sound l o at in') ∙ fold_pushed l.object.path o.entry.name
      ∙ ap (λ (k : Path). k ++ folded o.entry.name ∷ []) (sym (folds_alike path l.object.path same)))

  few_names : (name : List ℕ) → many (named name) nodes ≤ 1
  few_names name =
      let once = names_once (entries_of l.content) name (twins layout listings sound l at) in
      let stored : many (has_that name) (entries_of l.content) ≡ many (λ (o : Object). has_that name o.entry) l.children =
      ap (many (has_that name)) (sym (children_stored layout listings sound l at)) ∙ many_mapped (has_that name) (λ (o : Object). o.entry) l.children in
      let moved : many (named name) nodes ≡ many (λ (o : Object). has_that name o.entry) l.children =
      many_permuted (named name) (map (node_of image layout) l.children) nodes all ∙ many_mapped (named name) (node_of image layout) l.children in
      omega (arith, once, stored, moved)

  listed_entry : (e : Path × Node) → Contains (map (keyed (folded_path path)) nodes) e
      → Contains (map (tree_entry image layout) (objects_of listings)) e × (is_below path e.0 ≡ true)
  listed_entry e in' =
      let n = from_map (keyed (folded_path path)) nodes e in' in
      let o = from_map (node_of image layout) l.children n.0 (Contains-permutation nodes (map (node_of image layout) l.children) n.0 (IsPermutation-sym (map (node_of image layout) l.children) nodes all) n.1) in
      let is : tree_entry image layout o.0 ≡ e = child_entry o.0 o.1 ∙ ap (keyed (folded_path path)) o.2 ∙ n.2 in (
        subst (λ (d : Path × Node). Contains (map (tree_entry image layout) (objects_of listings)) d) is
            (in_map (tree_entry image layout) (objects_of listings) o.0 (child_is_object layout listings sound l o.0 at o.1)),
        subst (λ (d : Path × Node). is_below path d.0 ≡ true) n.2 (front_below path (folded n.0.name)),
      )

  -- an object whose key is one longer than the path and begins with it is the directory's
  own_child : (o : Object) (k : Listing) → Contains listings k → Contains k.children o → is_below path (folded_path o.path) ≡ true → Contains l.children o
  own_child o k in' child below =
      let key : folded_path o.path ≡ folded_path k.object.path ++ folded o.entry.name ∷ [] =
      ap folded_path (child_path layout listings sound k o in' child) ∙ fold_pushed k.object.path o.entry.name in
      let front : folded_path k.object.path ≡ folded_path path = below_front path (folded_path k.object.path) (folded o.entry.name) (ap (is_below path) (sym key) ∙ below) in
      let one : l ≡ k = same_listing layout listings sound path l k at in' same (same_by_folds path k.object.path (sym front)) in
      subst (λ (m : Listing). Contains m.children o) (sym one) child

  not_root : (o : Object) → root layout listings sound ≡ o → is_below path (folded_path o.path) ≡ true → ⊥
  not_root o is below =
      let none : folded_path o.path ≡ [] = ap folded_path (ap (λ (p : Object). p.path) (sym is) ∙ root_path layout listings sound) in
      let long : 0 ≡ length path + 1 = eqb-true 0 (length path + 1) (first_so (0 == length path + 1) (is_prefix (folded_path path) []) (ap (is_below path) (sym none) ∙ below)) in
      absurd (omega (arith, long))

  below_object : (o : Object) → Contains (objects_of listings) o → is_below path (folded_path o.path) ≡ true → Contains l.children o
  below_object o in' below =
      ⊎_elim (λ is. absurd (not_root o is below)) (λ child. own_child o child.0 child.1 child.2 below) (root_or_child layout listings sound o in')

  below_entry : (e : Path × Node) → Contains (map (tree_entry image layout) (objects_of listings)) e → is_below path e.0 ≡ true → Contains (map (keyed (folded_path path)) nodes) e
  below_entry e in' below =
      let o = from_map (tree_entry image layout) (objects_of listings) e in' in
      let held = below_object o.0 o.1 (ap (λ (d : Path × Node). is_below path d.0) o.2 ∙ below) in
      let node = Contains-permutation (map (node_of image layout) l.children) nodes (node_of image layout o.0) all (in_map (node_of image layout) l.children o.0 held) in
      subst (λ (d : Path × Node). Contains (map (keyed (folded_path path)) nodes) d) (sym (child_entry o.0 held) ∙ o.2)
      (in_map (keyed (folded_path path)) nodes (node_of image layout o.0) node)

  one_entry : (d e : Path × Node) → Contains (map (tree_entry image layout) (objects_of listings)) d → Contains (map (tree_entry image layout) (objects_of listings)) e → d.0 ≡ e.0 → d ≡ e
  one_entry d e a b tie =
      let o = from_map (tree_entry image layout) (objects_of listings) d a in
      let p = from_map (tree_entry image layout) (objects_of listings) e b in
      let keys : folded_path o.0.path ≡ folded_path p.0.path = ap (λ (x : Path × Node). x.0) o.2 ∙ tie ∙ sym (ap (λ (x : Path × Node). x.0) p.2) in
      sym o.2 ∙ ap (tree_entry image layout) (same_object layout listings sound o.0.path o.0 p.0 o.1 p.1 (same_by_folds o.0.path o.0.path refl) (same_by_folds o.0.path p.0.path keys)) ∙ p.2

  children_are : Rise nodes → children (tree_of image layout listings) path ≡ map (keyed (folded_path path)) nodes
  children_are rise =
      same_entries key_cmp key_total key_exact (where_key key_cmp (is_below path) (entries (tree_of image layout listings))) (map (keyed (folded_path path)) nodes)
      (is_sorted-where_key key_cmp (is_below path) (entries (tree_of image layout listings)) (entries_sorted (tree_of image layout listings)))
      (so (is_sorted key_cmp (map (keyed (folded_path path)) nodes)) (keys_rise (folded_path path) nodes rise few_names))
      (λ q. find-where_key key_cmp (is_below path) q (λ x tie. ap (is_below path) (sym (key_exact q x tie))) (entries (tree_of image layout listings))
      ∙ ap (λ (r : Option Node). cond (is_below path q) r None) (sym (get-entries (tree_of image layout listings) q) ∙ tree_get image layout listings q)
      ∙ found_alike (is_below path) (map (tree_entry image layout) (objects_of listings)) (map (keyed (folded_path path)) nodes) q one_entry listed_entry below_entry)

pub children_law : ChildrenLaw
children_law image layout listings l path nodes sound at same all rise =
    ap (map (λ e. e.1)) (children_are image layout listings sound l at path same nodes all rise) ∙ unkeyed (folded_path path) nodes
