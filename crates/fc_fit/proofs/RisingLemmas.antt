-- Rising paths are those of the tree's entries, in their order.
use Rattle.std.proofs.Common.{◌≡◌, ◌<◌, ◌≤◌, ⊎_elim, ℕ, zero, suc, ◌+◌, Bool, true, false, cond, T, List, [], ◌∷◌, ◌++◌, length, map, take, refl, sym, ap, ap₂, subst, ◌∙◌, Option, Some, None, Ordering, Less, Equal, Greater, is_eq, is_lt, arith, length-append, get_or, set}
use Rattle.std.specs.Prelude.{Contains, IsPermutation, IsSortedByKey, swap, if◌then◌else◌}
use Rattle.std.specs.List.{range_with_len}
use Rattle.std.specs.Option.{option_map_or}
use Rattle.std.specs.Ordering.{ordering_reverse}
use Rattle.std.specs.Cmp.{tied_itself, first_so, second_so}
use Rattle.std.specs.FinMap.{entries, entries_sorted, get, get-entries, get-from_entries, is_sorted}
use Rattle.std.specs.FinMap.Entries.{below_all, same_entries}
use Rattle.std.proofs.Math.ListN.{get_or-map}
use Rattle.std.proofs.lemmas.Bool.{and_from as both_so}
use Rattle.std.proofs.lemmas.Float.{T_from_true as so}
use Rattle.std.proofs.lemmas.List.{length-map, map-set, take-append-le, take_all}
use Rattle.std.proofs.lemmas.List.FromFn.{map-range_with_len_more}
use Rattle.std.proofs.lemmas.List.Sorted.{Contains-permutation, IsPermutation-keeps, IsPermutation-refl, IsPermutation-swap, IsPermutation-sym, IsPermutation-trans}
use Rattle.fc_names.specs.Names.{Path, folded, folded_path, is_directory, key_cmp}
use Rattle.fc_dirs.specs.declared.Entry.{Entry}
use Rattle.fc_model.specs.Tree.{Body, IsTree, Node, Tree, holder, is_directory_body, last_name, root_node}
use Rattle.fc_image.specs.Layout.{Layout}
use Rattle.fc_image.specs.Sound.{AreSound}
use Rattle.fc_image.specs.Walk.{Listing, Object, is_directory_object, object_bytes}
use Rattle.fc_image.specs.Objects.{node_of, objects_of, tree_entry, tree_of}
use Rattle.fc_image.proofs.EntriesLemmas.{later as contains_later}
use Rattle.fc_image.proofs.PathsLemmas.{is_at, itself, many}
use Rattle.fc_image.proofs.RenameLemmas.{last_pushed}
use Rattle.fc_image.proofs.TreeLemmas.{key_exact, key_total, sound_few, tree_edit_law}
use Rattle.fc_tree.proofs.MemberLemmas.{contains_here, from_map, many_permuted}
use Rattle.fc_tree.proofs.SoundLemmas.{fold_pushed, root_object, root_or_child}
use Rattle.fc_tree.proofs.TreeLemmas.{node_of_object, tree_get, value_is}
use Rattle.fc_tree.proofs.WalkedLemmas.{child_path, given, holder-push, listed_directory, root, root_is_directory, root_path}
use Rattle.fc_fit.specs.Fit.{spelled_key}
use Rattle.fc_fit.specs.Makes.{AreMarked}

-- ---- names in another order

module _ {X Y : Type 0} (f : X → Y) where
  swap_map : (l : List X) (i j : ℕ) → map f (swap l i j) ≡ swap (map f l) i j
  swap_map [] i j = refl
  swap_map (d ∷ ys) i j =
      map-set f (set (d ∷ ys) i (get_or (d ∷ ys) j d)) j (get_or (d ∷ ys) i d)
      ∙ ap₂ (λ (l : List Y) (y : Y). set l j y)
      (map-set f (d ∷ ys) i (get_or (d ∷ ys) j d) ∙ ap (set (map f (d ∷ ys)) i) (sym (get_or-map f (d ∷ ys) j d))) (sym (get_or-map f (d ∷ ys) i d))

  -- are those of the things in another order
  pub lifted : (xs : List X) (ys : List Y) → IsPermutation (map f xs) ys → (zs : List X) × IsPermutation xs zs × (map f zs ≡ ys)
  lifted xs ys same =
      IsPermutation-keeps (map f xs) (λ (l : List Y). (zs : List X) × IsPermutation xs zs × (map f zs ≡ l)) (xs, IsPermutation-refl xs, refl)
      (λ l i j p q h. (
        swap h.0 i j,
        IsPermutation-trans xs h.0 (swap h.0 i j) h.1 (IsPermutation-swap h.0 (swap h.0 i j) i j (as_long l h.0 i h.2 p) (as_long l h.0 j h.2 q) refl),
        swap_map h.0 i j ∙ ap (λ (k : List Y). swap k i j) h.2,
      )) ys same
    where
      as_long : (l : List Y) (zs : List X) (i : ℕ) → map f zs ≡ l → i < length l → i < length zs
      as_long l zs i is below = let long = ap length is in let same = length-map zs f in omega (arith, long, same, below)

-- ---- keys that rise

abbrev Sorted : List Object → Type 0
Sorted os = IsSortedByKey folded_path key_cmp (map (λ (o : Object). o.path) os)

abbrev Few : List Object → Type 0
Few os = (q : Path) → many (is_at q) os ≤ 1

less_than : (o p : Object) (os : List Object) → is_lt (key_cmp (folded_path p.path) (folded_path o.path)) ≡ false → many (is_at o.path) (o ∷ p ∷ os) ≤ 1
    → key_cmp (folded_path o.path) (folded_path p.path) ≡ Less
unfolding many
less_than o p os high few = by (key_cmp (folded_path o.path) (folded_path p.path)) refl
  where
    by : (r : Ordering) → key_cmp (folded_path o.path) (folded_path p.path) ≡ r → r ≡ Less
    by Less e = refl
    by Equal e =
        let own : ◌≡◌ {A = ℕ} (cond (is_at o.path o) 1 0) 1 = ap (λ (r : Ordering). let k : ℕ = cond (is_eq r) 1 0 in k) (tied_itself key_total (folded_path o.path)) in
        let other : ◌≡◌ {A = ℕ} (cond (is_at o.path p) 1 0) 1 = ap (λ (r : Ordering). let k : ℕ = cond (is_eq r) 1 0 in k) e in
        absurd (omega (arith, own, other, few))
    by Greater e =
        let back : key_cmp (folded_path p.path) (folded_path o.path) ≡ Less = key_total.antisymm (folded_path p.path) (folded_path o.path) ∙ ap ordering_reverse e in
        absurd (let two : true ≡ false = sym (ap is_lt back) ∙ high in cc)

few_later : (o : Object) (os : List Object) → Few (o ∷ os) → Few os
unfolding many
few_later o os few q = let f = few q in omega (arith, f)

sorted_later : (o : Object) (os : List Object) → Sorted (o ∷ os) → Sorted os
sorted_later o os sorted k d low high =
    let next : suc k + 1 ≡ suc (k + 1) = omega arith in
    subst (λ (n : ℕ). is_lt (key_cmp (folded_path (get_or (map (λ (p : Object). p.path) (o ∷ os)) n d)) (folded_path (get_or (map (λ (p : Object). p.path) (o ∷ os)) (suc k) d))) ≡ false) next
    (sorted (suc k) d (omega arith) (omega (arith, high)))

module _ (image : List ℕ) (layout : Layout) where
  less_all : (x y : Path) (os : List Object) → key_cmp x y ≡ Less → below_all key_cmp y (map (tree_entry image layout) os) ≡ true → below_all key_cmp x (map (tree_entry image layout) os) ≡ true
  less_all x y [] l h = refl
  less_all x y (o ∷ os) l h =
      both_so (is_lt (key_cmp x (folded_path o.path))) (below_all key_cmp x (map (tree_entry image layout) os))
      (ap is_lt (key_total.trans x y (folded_path o.path) l (less (key_cmp y (folded_path o.path)) (first_so (is_lt (key_cmp y (folded_path o.path))) (below_all key_cmp y (map (tree_entry image layout) os)) h))))
      (less_all x y os l (second_so (is_lt (key_cmp y (folded_path o.path))) (below_all key_cmp y (map (tree_entry image layout) os)) h))
    where
      less : (r : Ordering) → is_lt r ≡ true → r ≡ Less
      less Less i = refl
      less Equal i = absurd (cc)
      less Greater i = absurd (cc)

  lowest : (o : Object) (os : List Object) → Sorted (o ∷ os) → Few (o ∷ os) → below_all key_cmp (folded_path o.path) (map (tree_entry image layout) os) ≡ true
  lowest o [] sorted few = refl
  lowest o (p ∷ os) sorted few =
      let l = less_than o p os (sorted 0 [] (omega arith) (omega arith)) (few o.path) in
      both_so (is_lt (key_cmp (folded_path o.path) (folded_path p.path))) (below_all key_cmp (folded_path o.path) (map (tree_entry image layout) os)) (ap is_lt l)
      (less_all (folded_path o.path) (folded_path p.path) os l (lowest p os (sorted_later o (p ∷ os) sorted) (few_later o (p ∷ os) few)))

  rises : (os : List Object) → Sorted os → Few os → is_sorted key_cmp (map (tree_entry image layout) os) ≡ true
  rises [] sorted few = refl
  rises (o ∷ os) sorted few =
      both_so (below_all key_cmp (folded_path o.path) (map (tree_entry image layout) os)) (is_sorted key_cmp (map (tree_entry image layout) os)) (lowest o os sorted few)
      (rises os (sorted_later o os sorted) (few_later o os few))

-- ---- the tree

-- what stands for a directory is one
pub body_test : (image : List ℕ) (layout : Layout) (o : Object) → is_directory_body (node_of image layout o).body ≡ is_directory_object o
body_test image layout o = by (is_directory_object o)
  where
    by : (b : Bool) → is_directory_body (if b then Body.Directory else Body.File (object_bytes image layout o)) ≡ b
    by true = refl
    by false = refl

-- two functions that are alike from one number on to another
same_range : (f g : ℕ → List ℕ) (a n : ℕ) → ((i : ℕ) → a ≤ i → i < a + n → f i ≡ g i) → map f (range_with_len a n) ≡ map g (range_with_len a n)
same_range f g a zero alike = refl
same_range f g a (suc n) alike =
    ap₂ (λ (x : List ℕ) (xs : List (List ℕ)). x ∷ xs) (alike a (omega arith) (omega arith)) (same_range f g (a + 1) n (λ i low high. alike i (omega (arith, low)) (omega (arith, high))))

-- a name more, as the tree spells it
spelled_push : (t : Tree) (key : Path) (x : List ℕ) (node : Node) → get t (key ++ x ∷ []) ≡ Some node → spelled_key t (key ++ x ∷ []) ≡ spelled_key t key ++ node.name ∷ []
spelled_push t key x node there =
    ap (λ (n : ℕ). map name_of (range_with_len 1 n)) long
    ∙ map-range_with_len_more name_of 1 (length key) (1 + length key) refl
    ∙ ap₂ (λ (xs : Path) (last : List ℕ). xs ++ last ∷ [])
    (same_range name_of (λ n. option_map_or (λ (m : Node). m.name) (get t (take n key)) []) 1 (length key)
    (λ i low high. ap (λ (k : Path). option_map_or (λ (m : Node). m.name) (get t k) []) (take-append-le i key (x ∷ []) (omega (arith, high)))))
    (ap (λ (o : Option Node). option_map_or (λ (m : Node). m.name) o []) (ap (get t) (take_all (1 + length key) (key ++ x ∷ []) (omega (arith, long))) ∙ there))
  where
    name_of : ℕ → List ℕ
    name_of n = option_map_or (λ (m : Node). m.name) (get t (take n (key ++ x ∷ []))) []

    long : length (key ++ x ∷ []) ≡ length key + 1
    long = length-append key (x ∷ [])

module _ (image : List ℕ) (layout : Layout) (listings : List Listing) (sound : AreSound layout listings) where
  abbrev tree : Tree
  tree = tree_of image layout listings

  -- at each object's path stands its node,
  pub node_there : (o : Object) → Contains (objects_of listings) o → get tree (folded_path o.path) ≡ Some (node_of image layout o)
  node_there o at = node_of_object image layout listings sound o.path o at (itself o.path)

  -- and nothing else stands there
  object_there : (key : Path) (node : Node) → get tree key ≡ Some node → (o : Object) × Contains (objects_of listings) o × (key ≡ folded_path o.path) × (node ≡ node_of image layout o)
  object_there key node h =
      let found = value_is key_cmp key (map (tree_entry image layout) (objects_of listings)) node (sym (tree_get image layout listings key) ∙ h) in
      let from = from_map (tree_entry image layout) (objects_of listings) found.0 found.1 in
      (from.0, from.1, key_exact key found.0.0 found.2 ∙ ap (λ (e : Path × Node). e.0) (sym from.2), sym found.3 ∙ ap (λ (e : Path × Node). e.1) (sym from.2))

  root_there : get tree [] ≡ Some root_node
  root_there =
      ap (λ (p : Path). get tree (folded_path p)) (sym (root_path layout listings sound)) ∙ node_there (root layout listings sound) (root_object layout listings sound)
      ∙ ap₂ (λ (e : Entry) (b : Bool).
      (let n : Option Node = Some (record {
        name = e.name;
        attrs = e.attrs;
        load = e.load;
        exec = e.exec;
        body = if b then Body.Directory else Body.File (object_bytes image layout (root layout listings sound));
      }) in n))
      (given layout listings sound).1.entry (root_is_directory layout listings sound)

  -- an object's key after that of the directory that holds it
  key_below : (l : Listing) (o : Object) → Contains listings l → Contains l.children o → folded_path o.path ≡ folded_path l.object.path ++ folded o.entry.name ∷ []
  key_below l o at_l at_o = ap folded_path (child_path layout listings sound l o at_l at_o) ∙ fold_pushed l.object.path o.entry.name

  at_top : (o : Object) → root layout listings sound ≡ o → folded_path o.path ≡ []
  at_top o same = ap (λ (p : Object). folded_path p.path) (sym same) ∙ ap folded_path (root_path layout listings sound)

  not_top : (key : Path) (o : Object) → key ≡ folded_path o.path → 0 < length key → root layout listings sound ≡ o → ⊥
  not_top key o is some same = let none : length key ≡ 0 = ap length (is ∙ at_top o same) in omega (arith, none, some)

  named : (key : Path) (node : Node) → get tree key ≡ Some node → 0 < length key → last_name key ≡ folded node.name
  named key node h some =
      let o = object_there key node h in
      ⊎_elim (λ top. absurd (not_top key o.0 o.2 some top))
      (λ under. ap last_name (o.2 ∙ key_below under.0 o.0 under.1 under.2) ∙ last_pushed (folded_path under.0.object.path) (folded o.0.entry.name) ∙ ap (λ (n : Node). folded n.name) (sym o.3))
      (root_or_child layout listings sound o.0 o.1)

  holders : (key : Path) (node : Node) → get tree key ≡ Some node → 0 < length key → (above : Node) × (get tree (holder key) ≡ Some above) × (is_directory_body above.body ≡ true)
  holders key node h some =
      let o = object_there key node h in
      ⊎_elim (λ top. absurd (not_top key o.0 o.2 some top))
      (λ under.
      (let dir = listed_directory layout listings sound under.0 under.1 in (
        node_of image layout under.0.object,
        ap (λ (k : Path). get tree (holder k)) (o.2 ∙ key_below under.0 o.0 under.1 under.2)
            ∙ ap (get tree) (holder-push (folded_path under.0.object.path) (folded o.0.entry.name)) ∙ node_there under.0.object dir.0,
        body_test image layout under.0.object ∙ dir.1,
      )))
      (root_or_child layout listings sound o.0 o.1)

  pub tree_is : IsTree tree
  tree_is = record { root = root_there; named = named; holders = holders }

  pub marked : AreMarked tree
  marked key node h =
      let o = object_there key node h in
      ap (λ (n : Node). is_directory n.attrs) o.3 ∙ sym (body_test image layout o.0) ∙ ap (λ (n : Node). is_directory_body n.body) (sym o.3)

  -- the tree spells each path as the walk found it
  spelled_top : (o : Object) → root layout listings sound ≡ o → spelled_key tree (folded_path o.path) ≡ o.path
  spelled_top o same = ap (spelled_key tree) (at_top o same) ∙ sym (ap (λ (p : Object). p.path) (sym same) ∙ root_path layout listings sound)

  spelled_below : (o : Object) → Contains (objects_of listings) o → (l : Listing) → Contains listings l → Contains l.children o
      → spelled_key tree (folded_path l.object.path) ≡ l.object.path → spelled_key tree (folded_path o.path) ≡ o.path
  spelled_below o at l at_l at_o above =
      let key = key_below l o at_l at_o in
      ap (spelled_key tree) key
      ∙ spelled_push tree (folded_path l.object.path) (folded o.entry.name) (node_of image layout o) (ap (get tree) (sym key) ∙ node_there o at)
      ∙ ap (λ (p : Path). p ++ o.entry.name ∷ []) above ∙ sym (child_path layout listings sound l o at_l at_o)

  longer : (l : Listing) (o : Object) → Contains listings l → Contains l.children o → length o.path ≡ length l.object.path + 1
  longer l o at_l at_o = ap length (child_path layout listings sound l o at_l at_o) ∙ length-append l.object.path (o.entry.name ∷ [])

  pub spelled_of : (n : ℕ) (o : Object) → Contains (objects_of listings) o → length o.path ≡ n → spelled_key tree (folded_path o.path) ≡ o.path
  spelled_of zero o at long =
      ⊎_elim (λ top. spelled_top o top) (λ under. absurd (omega (arith, long, longer under.0 o under.1 under.2))) (root_or_child layout listings sound o at)
  spelled_of (suc n) o at long =
      ⊎_elim (λ top. spelled_top o top)
      (λ under. spelled_below o at under.0 under.1 under.2
      (spelled_of n under.0.object (listed_directory layout listings sound under.0 under.1).0 (omega (arith, long, longer under.0 o under.1 under.2))))
      (root_or_child layout listings sound o at)

  spelled_all : (os : List Object) → ((o : Object) → Contains os o → Contains (objects_of listings) o)
      → map (λ (o : Object). o.path) os ≡ map (λ (e : Path × Node). spelled_key tree e.0) (map (tree_entry image layout) os)
  spelled_all [] among = refl
  spelled_all (o ∷ os) among =
      ap₂ (λ (p : Path) (ps : List Path). p ∷ ps) (sym (spelled_of (length o.path) o (among o (contains_here o os)) refl))
      (spelled_all os (λ p at. among p (contains_later o p os at)))

  module _ (os : List Object) (all : IsPermutation (objects_of listings) os) (sorted : Sorted os) where
    few : Few os
    few q = subst (λ (n : ℕ). n ≤ 1) (sym (many_permuted (is_at q) (objects_of listings) os all)) (sound_few layout listings sound q)

    -- the objects in the order of their paths
    pub entries_are : entries tree ≡ map (tree_entry image layout) os
    entries_are =
        same_entries key_cmp key_total key_exact (entries tree) (map (tree_entry image layout) os) (entries_sorted tree)
        (so (is_sorted key_cmp (map (tree_entry image layout) os)) (rises image layout os sorted few))
        (λ q. sym (get-entries tree q) ∙ ap (λ (t : Tree). get t q) (tree_edit_law.any_order image layout listings os sound all) ∙ get-from_entries key_total (map (tree_entry image layout) os) q)

    among : (o : Object) → Contains os o → Contains (objects_of listings) o
    among o at = Contains-permutation os (objects_of listings) o (IsPermutation-sym (objects_of listings) os all) at

    pub spelled_are : map (λ (o : Object). o.path) os ≡ map (λ (e : Path × Node). spelled_key tree e.0) (entries tree)
    spelled_are = spelled_all os among ∙ ap (map (λ (e : Path × Node). spelled_key tree e.0)) (sym entries_are)
