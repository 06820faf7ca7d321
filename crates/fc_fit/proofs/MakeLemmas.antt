-- The commands for a tree's objects make the tree, object by object.
use Rattle.std.proofs.Common.{◌≡◌, ◌<◌, ◌≤◌, ◌⊎◌, inl, inr, ⊎_elim, ℕ, zero, suc, ◌+◌, ◌-◌, Bool, true, false, cond, T, List, [], ◌∷◌, ◌++◌, length, map, take, filter, refl, sym, ap, ap₂, subst, ◌∙◌, Option, Some, None, arith, append_assoc}
use Rattle.std.specs.Prelude.{Contains, Ok, nat_lt, slice_index_or, not, ◌&&◌, if◌then◌else◌}
use Rattle.std.specs.List.{flat_map, range_with_len}
use Rattle.std.specs.Option.{option_map_or}
use Rattle.std.specs.declared.cmp.Ordering.{Ordering}
use Rattle.std.specs.declared.cmp.Ordering.TheVariants.{Less, Equal, Greater}
use Rattle.std.specs.Ordering.{eq_by_cmp, is_eq, is_lt, ordering_reverse}
use Rattle.std.specs.Cmp.{tied_itself}
use Rattle.std.specs.FinMap.{entries, entries_sorted, find, from_entries, get, get-entries, get-from_entries, get-insert, insert, is_sorted, same_map}
use Rattle.std.specs.FinMap.Entries.{below_all, find-append}
use Rattle.std.proofs.lemmas.Bool.{cases_lt}
use Rattle.std.proofs.lemmas.List.{append-nil, length-map, length-take, map-append, take-take}
use Rattle.fc_names.specs.declared.name.NameForm.{NameForm}
use Rattle.fc_names.specs.Names.{Path, folded, folded_path, is_writable, key_cmp}
use Rattle.fc_format.specs.declared.Format.{Format}
use Rattle.fc_model.specs.Answer.{answer}
use Rattle.fc_model.specs.Command.{Command}
use Rattle.fc_model.specs.Tree.{IsTree, Node, Tree, holder, is_directory_body, last_name, node_at, root_node}
use Rattle.fc_image.proofs.TreeLemmas.{key_exact, key_total}
use Rattle.fc_fit.specs.declared.fit.What.{What}
use Rattle.fc_fit.specs.Commands.{commands_for, making_command, object_commands, objects_in}
use Rattle.fc_fit.specs.Fit.{at_entry, first_fault, form_of, is_below_root, object_fault, or_later, spelled_key, unfit}
use Rattle.fc_fit.specs.Makes.{Accepts, AreMarked, MakesLaw, MakesTree, tree_with}
use Rattle.fc_fit.proofs.AcceptLemmas.{AreAbove, IsDirectoryAt, object_accepted}

abbrev pub Object : Type 0
Object = Path × Node

-- ---- sorted entries

pub first_of_two : (a b : Bool) → T (a && b) → T a
first_of_two true b p = tt
first_of_two false b p = absurd p

pub second_of_two : (a b : Bool) → T (a && b) → T b
second_of_two true b p = p
second_of_two false b p = absurd p

pub is_less : (o : Ordering) → T (is_lt o) → o ≡ Less
is_less Less p = refl
is_less Equal p = absurd p
is_less Greater p = absurd p

-- keys that differ don't tie
less_untied : (q key : Path) → key_cmp q key ≡ Less → eq_by_cmp key_cmp q key ≡ false
less_untied q key less = ap is_eq less

greater_untied : (q key : Path) → key_cmp key q ≡ Less → eq_by_cmp key_cmp q key ≡ false
greater_untied q key less = ap is_eq (key_total.antisymm q key ∙ ap ordering_reverse less)

-- what stands before an entry hasn't its key
pub not_before : (front : List Object) (next : Object) (rest : List Object) → T (is_sorted key_cmp (front ++ next ∷ rest)) → find key_cmp next.0 front ≡ None
not_before [] next rest sorted = refl
not_before (e ∷ front) next rest sorted =
    let less : key_cmp e.0 next.0 ≡ Less = below e.0 front (first_of_two (below_all key_cmp e.0 (front ++ next ∷ rest)) (is_sorted key_cmp (front ++ next ∷ rest)) sorted) in
    ap (λ (b : Bool). cond b (Some e.1) (find key_cmp next.0 front)) (greater_untied next.0 e.0 less)
    ∙ not_before front next rest (second_of_two (below_all key_cmp e.0 (front ++ next ∷ rest)) (is_sorted key_cmp (front ++ next ∷ rest)) sorted)
  where
    below : (x : Path) (es : List Object) → T (below_all key_cmp x (es ++ next ∷ rest)) → key_cmp x next.0 ≡ Less
    below x [] h = is_less (key_cmp x next.0) (first_of_two (is_lt (key_cmp x next.0)) (below_all key_cmp x rest) h)
    below x (f ∷ es) h = below x es (second_of_two (is_lt (key_cmp x f.0)) (below_all key_cmp x (es ++ next ∷ rest)) h)

-- a key below all of some entries is none of them
pub below_none : (q x : Path) (es : List Object) → key_cmp q x ≡ Less → T (below_all key_cmp x es) → find key_cmp q es ≡ None
below_none q x [] less h = refl
below_none q x (e ∷ es) less h =
    let later = is_less (key_cmp x e.0) (first_of_two (is_lt (key_cmp x e.0)) (below_all key_cmp x es) h) in
    ap (λ (b : Bool). cond b (Some e.1) (find key_cmp q es)) (less_untied q e.0 (key_total.trans q x e.0 less later))
    ∙ below_none q x es less (second_of_two (is_lt (key_cmp x e.0)) (below_all key_cmp x es) h)

-- what is there under a lesser key stands before
pub stands_before : (front : List Object) (next : Object) (rest : List Object) (q : Path) (node : Node) → T (is_sorted key_cmp (front ++ next ∷ rest)) → key_cmp q next.0 ≡ Less
    → find key_cmp q (front ++ next ∷ rest) ≡ Some node → find key_cmp q front ≡ Some node
stands_before [] next rest q node sorted less there =
    let none = below_none q next.0 rest less (first_of_two (below_all key_cmp next.0 rest) (is_sorted key_cmp rest) sorted) in
    let two : None ≡ Some node = sym (ap (λ (b : Bool). cond b (Some next.1) (find key_cmp q rest)) (less_untied q next.0 less) ∙ none) ∙ there in
    absurd (cc)
stands_before (e ∷ front) next rest q node sorted less there =
    by (eq_by_cmp key_cmp q e.0) there
    (λ h. stands_before front next rest q node (second_of_two (below_all key_cmp e.0 (front ++ next ∷ rest)) (is_sorted key_cmp (front ++ next ∷ rest)) sorted) less h)
  where
    by : (b : Bool) → cond b (Some e.1) (find key_cmp q (front ++ next ∷ rest)) ≡ Some node → (find key_cmp q (front ++ next ∷ rest) ≡ Some node → find key_cmp q front ≡ Some node)
        → cond b (Some e.1) (find key_cmp q front) ≡ Some node
    by true h more = h
    by false h more = more h

-- ---- paths

-- a front of a path is less
pub front_less : (i : ℕ) (q : Path) → i < length q → key_cmp (take i q) q ≡ Less
front_less i [] below = absurd (omega (arith, below))
front_less zero (x ∷ q) below = refl
front_less (suc i) (x ∷ q) below = ap (λ (o : Ordering). Rattle.std.specs.Ordering.ordering_then o (key_cmp (take i q) q)) (same x) ∙ front_less i q (omega (arith, below))
  where
    same : (name : List ℕ) → Rattle.std.specs.Cmp.Lexicographic.slice_cmp Rattle.std.specs.Ordering.nat_cmp name name ≡ Equal
    same name = tied_itself (Rattle.std.specs.Cmp.Lexicographic.lists_total Rattle.std.specs.Cmp.nat_cmp_total) name

-- a list that is told element by element
told : (xs : Path) (g : ℕ → List ℕ) (a : ℕ) → ((i : ℕ) → i < length xs → g (a + i) ≡ slice_index_or xs i []) → map g (range_with_len a (length xs)) ≡ xs
told [] g a each = refl
told (x ∷ xs) g a each =
    let here : a + 0 ≡ a = omega arith in
    ap₂ (λ (y : List ℕ) (ys : Path). y ∷ ys) (ap g (sym here) ∙ each 0 (omega arith))
    (told xs g (a + 1) (λ i below. let next : a + 1 + i ≡ a + suc i = omega arith in ap g next ∙ each (suc i) (omega (arith, below))))

-- the last name of a front
last_of_front : (i : ℕ) (xs : Path) → i < length xs → last_name (take (suc i) xs) ≡ slice_index_or xs i []
last_of_front i [] below = absurd (omega (arith, below))
last_of_front zero (x ∷ xs) below = refl
last_of_front (suc i) (x ∷ []) below = absurd (omega (arith, below))
last_of_front (suc i) (x ∷ y ∷ xs) below = last_of_front i (y ∷ xs) (omega (arith, below))

module _ (t : Tree) (is_tree : IsTree t) where
  -- above an object are directories
  pub dir_above : (n : ℕ) (key : Path) (node : Node) → length key ≡ n → get t key ≡ Some node → (i : ℕ) → i < length key
      → (d : Node) × (get t (take i key) ≡ Some d) × (is_directory_body d.body ≡ true)
  dir_above zero key node long there i below = absurd (omega (arith, long, below))
  dir_above (suc n) key node long there i below =
      let up = is_tree.holders key node there (omega (arith, long)) in
      let short : length (holder key) ≡ n = length-take (length key - 1) key ∙ least in
      ⊎_elim
      (λ less. let d = dir_above n (holder key) up.0 short up.1 i (omega (arith, less, short)) in
      (d.0, ap (get t) (sym (take-take i (length key - 1) key (omega (arith, less, long)))) ∙ d.1, d.2))
      (λ most. let last : i ≡ length key - 1 = omega (arith, most, below, long) in (up.0, ap (λ (k : ℕ). get t (take k key)) last ∙ up.1, up.2))
      (cases_lt i n)
    where
      least : Rattle.std.proofs.Common.min (length key - 1) (length key) ≡ n
      least = omega (arith, long)

  -- the name that a node of the tree gives to a front of its path
  abbrev name_of : Path → ℕ → List ℕ
  name_of key n = option_map_or (λ (node : Node). node.name) (get t (take n key)) []

  pub long_spelled : (key : Path) → length (spelled_key t key) ≡ length key
  long_spelled key = length-map (range_with_len 1 (length key)) (name_of key) ∙ Rattle.std.proofs.lemmas.List.FromFn.length-range_with_len 1 (length key)

  front_there : (key : Path) (node : Node) → get t key ≡ Some node → (i : ℕ) → i < length key → (d : Node) × (get t (take (i + 1) key) ≡ Some d)
  front_there key node there i below =
      ⊎_elim (λ less. let d = dir_above (length key) key node refl there (i + 1) less in (d.0, d.1))
      (λ most. let all : take (i + 1) key ≡ key = Rattle.std.proofs.lemmas.List.take_all (i + 1) key most in (node, ap (get t) all ∙ there))
      (cases_lt (i + 1) (length key))

  -- folded, the path that the tree spells is the key
  pub spelled_folds : (key : Path) (node : Node) → get t key ≡ Some node → folded_path (spelled_key t key) ≡ key
  spelled_folds key node there =
      map-map (name_of key) folded (range_with_len 1 (length key))
      ∙ told key (λ (n : ℕ). folded (name_of key n)) 1 (λ i below.
      (let d = front_there key node there i below in
      let next : 1 + i ≡ i + 1 = omega arith in
      let one : i + 1 ≡ suc i = omega arith in
      let some : 0 < length (take (i + 1) key) = omega (arith, below, length-take (i + 1) key) in
      ap (λ (k : ℕ). folded (name_of key k)) next
      ∙ ap (λ (o : Option Node). folded (option_map_or (λ (n : Node). n.name) o [])) d.1
      ∙ sym (is_tree.named (take (i + 1) key) d.0 d.1 some) ∙ ap (λ (k : ℕ). last_name (take k key)) one ∙ last_of_front i key below))
    where
      map-map : {A B C : Type 0} (f : A → B) (g : B → C) (xs : List A) → map g (map f xs) ≡ map (λ (x : A). g (f x)) xs
      map-map f g [] = refl
      map-map f g (x ∷ xs) = ap (λ ys. g (f x) ∷ ys) (map-map f g xs)

  -- and its last name is the node's
  pub spelled_last : (key : Path) (node : Node) → get t key ≡ Some node → 0 < length key → last_name (spelled_key t key) ≡ node.name
  spelled_last key node there some =
      last_mapped (length key) 1 some
      ∙ (let whole : take (1 + (length key - 1)) key ≡ key = Rattle.std.proofs.lemmas.List.take_all (1 + (length key - 1)) key (omega (arith, some)) in
      ap (λ (o : Option Node). option_map_or (λ (n : Node). n.name) o []) (ap (get t) whole ∙ there))
    where
      last_mapped : (n a : ℕ) → 0 < n → last_name (map (name_of key) (range_with_len a n)) ≡ name_of key (a + (n - 1))
      last_mapped zero a none = absurd (omega (arith, none))
      last_mapped (suc zero) a one = let same : a ≡ a + (1 - 1) = omega arith in ap (name_of key) same
      last_mapped (suc (suc n)) a more = let same : a + 1 + (suc n - 1) ≡ a + (suc (suc n) - 1) = omega arith in last_mapped (suc n) (a + 1) (omega arith) ∙ ap (name_of key) same
