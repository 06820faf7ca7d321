-- What is told of a directory's objects, sorted by folded names, stands in the order in which the tree lists them.
use Rattle.std.proofs.Common.{◌≡◌, ℕ, zero, suc, ◌+◌, true, false, List, [], ◌∷◌, map, length, set, get_or, refl, sym, ap, ap₂, subst, ◌∙◌, arith, Ordering, Less, Equal, Greater, is_lt, is_le}
use Rattle.std.specs.Prelude.{Contains, IsPermutation, IsSortedByKey, swap}
use Rattle.std.specs.List.Sorted.{apply_swaps, SwapsInRange}
use Rattle.std.specs.Ordering.{ordering_reverse}
use Rattle.std.specs.Cmp.{nat_cmp_total}
use Rattle.std.specs.Cmp.Lexicographic.{lists_total}
use Rattle.std.proofs.lemmas.List.{length-map, map-set}
use Rattle.std.proofs.lemmas.List.Sorted.{IsPermutation-map}
use Rattle.fc_names.specs.Names.{Path, folded, name_cmp, is_same_path}
use Rattle.fc_model.specs.Tree.{Node, children}
use Rattle.fc_image.specs.Layout.{Layout}
use Rattle.fc_image.specs.Walk.{Object, Listing}
use Rattle.fc_image.specs.Objects.{node_of, tree_of}
use Rattle.fc_tree.specs.Laws.{Rise}
use Rattle.fc_image.specs.Sound.{AreSound}
use Rattle.fc_tree.proofs.ChildrenLemmas.{children_law}

-- ---- a permutation of a mapped list

module _ {X Y : Type 0} (f : X → Y) where
  get_map : (xs : List X) (i : ℕ) (d : X) → get_or (map f xs) i (f d) ≡ f (get_or xs i d)
  get_map [] i d = refl
  get_map (x ∷ xs) zero d = refl
  get_map (x ∷ xs) (suc i) d = get_map xs i d

  map_swap : (xs : List X) (i j : ℕ) → map f (swap xs i j) ≡ swap (map f xs) i j
  map_swap [] i j = refl
  map_swap (x ∷ xs) i j =
      map-set f (set (x ∷ xs) i (get_or (x ∷ xs) j x)) j (get_or (x ∷ xs) i x)
      ∙ ap (λ (ys : List Y). set ys j (f (get_or (x ∷ xs) i x))) (map-set f (x ∷ xs) i (get_or (x ∷ xs) j x))
      ∙ ap₂ (λ (a b : Y). set (set (map f (x ∷ xs)) i a) j b) (sym (get_map (x ∷ xs) j x)) (sym (get_map (x ∷ xs) i x))

  map_swaps : (xs : List X) (moves : List (ℕ × ℕ)) → map f (apply_swaps xs moves) ≡ apply_swaps (map f xs) moves
  map_swaps xs [] = refl
  map_swaps xs (p ∷ moves) = map_swap (apply_swaps xs moves) p.0 p.1 ∙ ap (λ (ys : List Y). swap ys p.0 p.1) (map_swaps xs moves)

  -- is the map of a permutation
  pub lifted : (xs : List X) (ys : List Y) → IsPermutation (map f xs) ys → (zs : List X) × IsPermutation xs zs × (map f zs ≡ ys)
  lifted xs ys p = (
    apply_swaps xs p.moves,
    record { moves = p.moves; below = subst (λ (n : ℕ). SwapsInRange n p.moves) (length-map xs f) p.below; is = refl },
    map_swaps xs p.moves ∙ sym p.is,
  )

-- ---- sorted names rise

rises : (a b : List ℕ) → is_lt (name_cmp b a) ≡ false → is_le (name_cmp a b) ≡ true
rises a b h = by (name_cmp b a) ((lists_total nat_cmp_total).antisymm (folded a) (folded b)) h
  where
    by : (r : Ordering) → name_cmp a b ≡ ordering_reverse r → is_lt r ≡ false → is_le (name_cmp a b) ≡ true
    by Less e i = absurd (cc)
    by Equal e i = ap is_le e
    by Greater e i = ap is_le e

-- sorted by name
abbrev pub ByName : {X : Type 0} → (X → List ℕ) → List X → Type 0
ByName name xs = IsSortedByKey name name_cmp xs

sorted_later : {X : Type 0} (name : X → List ℕ) (x : X) (xs : List X) → ByName name (x ∷ xs) → ByName name xs
sorted_later name x xs s k d low high =
    let next : suc k + 1 ≡ suc (k + 1) = omega arith in
    ap (λ (i : ℕ). is_lt (name_cmp (name (get_or (x ∷ xs) i d)) (name (get_or xs k d)))) (sym next) ∙ s (suc k) d (omega arith) (omega (arith, high))

names_rise : {X : Type 0} (name : X → List ℕ) (node : X → Node) (same : (x : X) → name x ≡ (node x).name) (xs : List X) → ByName name xs → Rise (map node xs)
names_rise name node same [] s = tt
names_rise name node same (x ∷ []) s = tt
names_rise name node same (x ∷ y ∷ xs) s = (
  ap₂ (λ (a b : List ℕ). is_le (name_cmp a b)) (sym (same x)) (sym (same y)) ∙ rises (name x) (name y) (s 0 x (omega arith) (omega arith)),
  names_rise name node same (y ∷ xs) (sorted_later name x (y ∷ xs) s),
)

sorted_before : {X Y : Type 0} (f : X → Y) (name : Y → List ℕ) (xs : List X) → ByName name (map f xs) → ByName (λ x. name (f x)) xs
sorted_before f name xs s k d low high =
    let long : length (map f xs) ≡ length xs = length-map xs f in
    ap₂ (λ a b. is_lt (name_cmp (name a) (name b))) (sym (get_map f xs (k + 1) d)) (sym (get_map f xs k d)) ∙ s k (f d) low (omega (arith, high, long))

-- ---- what is told of the children

-- What is told of each child, in the order of folded names, is told of the objects that the tree lists, in its order.
pub listed_by : {X : Type 0} (tell : Object → X) (name : X → List ℕ) → ((o : Object) → name (tell o) ≡ o.entry.name)
    → (image : List ℕ) (layout : Layout) (listings : List Listing) (l : Listing) (path : Path) (told : List X)
    → AreSound layout listings → Contains listings l → is_same_path path l.object.path ≡ true → IsPermutation (map tell l.children) told → ByName name told
    → (objects : List Object) × IsPermutation l.children objects × (map tell objects ≡ told)
    × (map (λ e. e.1) (children (tree_of image layout listings) path) ≡ map (node_of image layout) objects)
listed_by tell name named image layout listings l path told sound at same all sorted =
    let objects = lifted tell l.children told all in
    let by_name = sorted_before tell name objects.0 (subst (ByName name) (sym objects.2) sorted) in (
      objects.0,
      objects.1,
      objects.2,
      children_law image layout listings l path (map (node_of image layout) objects.0) sound at same (IsPermutation-map (node_of image layout) l.children objects.0 objects.1)
          (names_rise (λ o. name (tell o)) (node_of image layout) named objects.0 by_name),
    )
