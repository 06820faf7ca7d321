-- The names that the tree lists in a directory are those of its entries, in another order.
use Rattle.std.proofs.Common.{◌≡◌, ℕ, Bool, true, false, List, [], ◌∷◌, length, map, refl, sym, ap, ap₂, subst, ◌∙◌, arith, is_le, is_eq, Ordering, Less, Equal, Greater}
use Rattle.std.specs.Prelude.{Contains, IsPermutation, nat_le, if◌then◌else◌}
use Rattle.std.specs.Ordering.{ordering_reverse}
use Rattle.std.specs.Cmp.{nat_cmp_total, tied_itself}
use Rattle.std.specs.Cmp.Lexicographic.{lists_total}
use Rattle.std.proofs.lemmas.Bool.Decides.{nat_tests}
use Rattle.std.proofs.lemmas.List.Sorted.{IsPermutation-cons, IsPermutation-map, IsPermutation-refl, IsPermutation-trans, length_permutation, sum_by-IsPermutation}
use Rattle.fc_names.specs.declared.name.NameForm.{NameForm}
use Rattle.fc_names.specs.declared.name.NameForm.TheVariants.{Seven, Ten, Long}
use Rattle.fc_names.specs.Names.{Path, folded, folded_path, name_cmp, is_same_path, key_cmp, upper}
use Rattle.fc_dirs.specs.declared.Entry.{Entry}
use Rattle.fc_dirs.specs.Big.{name_space, size_for}
use Rattle.fc_dirs.specs.Directory.{entries_of}
use Rattle.fc_model.specs.Tree.{Node, children}
use Rattle.fc_image.specs.Layout.{Layout}
use Rattle.fc_image.specs.Sound.{AreSound}
use Rattle.fc_image.specs.Walk.{Listing, Object}
use Rattle.fc_image.specs.Objects.{node_of, tree_of}
use Rattle.fc_image.proofs.CommandLemmas.{same_by_folds}
use Rattle.fc_image.proofs.ShuffleLemmas.{flipped}
use Rattle.fc_tree.specs.Laws.{Rise}
use Rattle.fc_tree.proofs.ChildrenLemmas.{children_law}
use Rattle.fc_tree.proofs.SoundLemmas.{children_stored}
use Rattle.fc_fit.specs.Fit.{are_names_right}
use Rattle.fc_fit.specs.Misfits.{names_of}

-- ---- nodes by name

abbrev placed : Node → List Node → List Node
placed n [] = n ∷ []
placed n (m ∷ nodes) = if is_le (name_cmp n.name m.name) then n ∷ m ∷ nodes else m ∷ placed n nodes

abbrev by_name : List Node → List Node
by_name [] = []
by_name (n ∷ nodes) = placed n (by_name nodes)

placed_all : (n : Node) (nodes : List Node) → IsPermutation (n ∷ nodes) (placed n nodes)
placed_all n [] = IsPermutation-refl (n ∷ [])
placed_all n (m ∷ nodes) = by (is_le (name_cmp n.name m.name)) (placed_all n nodes)
  where
    by : (b : Bool) → IsPermutation (n ∷ nodes) (placed n nodes) → IsPermutation (n ∷ m ∷ nodes) (if b then n ∷ m ∷ nodes else m ∷ placed n nodes)
    by true more = IsPermutation-refl (n ∷ m ∷ nodes)
    by false more =
        IsPermutation-trans (n ∷ m ∷ nodes) (m ∷ n ∷ nodes) (m ∷ placed n nodes) (flipped n m nodes) (IsPermutation-cons m (n ∷ nodes) (placed n nodes) more)

by_name_all : (nodes : List Node) → IsPermutation nodes (by_name nodes)
by_name_all [] = IsPermutation-refl []
by_name_all (n ∷ nodes) =
    IsPermutation-trans (n ∷ nodes) (n ∷ by_name nodes) (placed n (by_name nodes)) (IsPermutation-cons n nodes (by_name nodes) (by_name_all nodes)) (placed_all n (by_name nodes))

-- what isn't before comes after
turned : (n m : Node) → is_le (name_cmp n.name m.name) ≡ false → is_le (name_cmp m.name n.name) ≡ true
turned n m after = by (name_cmp n.name m.name) refl after
  where
    by : (r : Ordering) → name_cmp n.name m.name ≡ r → is_le r ≡ false → is_le (name_cmp m.name n.name) ≡ true
    by Less e no_le = absurd (cc)
    by Equal e no_le = absurd (cc)
    by Greater e no_le = ap is_le ((lists_total nat_cmp_total).antisymm (folded m.name) (folded n.name) ∙ ap ordering_reverse e)

-- a node before others, if it is before the one that is put among them
after_first : (m n : Node) (nodes : List Node) → is_le (name_cmp m.name n.name) ≡ true → Rise (m ∷ nodes) → Rise (placed n nodes) → Rise (m ∷ placed n nodes)
after_first m n [] before rise put = (before, tt)
after_first m n (k ∷ nodes) before rise put = by (is_le (name_cmp n.name k.name)) put
  where
    by : (b : Bool) → Rise (if b then n ∷ k ∷ nodes else k ∷ placed n nodes) → Rise (m ∷ (if b then n ∷ k ∷ nodes else k ∷ placed n nodes))
    by true r = (before, r)
    by false r = (rise.0, r)

rest : (n : Node) (nodes : List Node) → Rise (n ∷ nodes) → Rise nodes
rest n [] r = tt
rest n (m ∷ nodes) r = r.1

placed_rises : (n : Node) (nodes : List Node) → Rise nodes → Rise (placed n nodes)
placed_rises n [] rise = tt
placed_rises n (m ∷ nodes) rise = by (is_le (name_cmp n.name m.name)) refl (placed_rises n nodes (rest m nodes rise))
  where
    by : (b : Bool) → is_le (name_cmp n.name m.name) ≡ b → Rise (placed n nodes) → Rise (if b then n ∷ m ∷ nodes else m ∷ placed n nodes)
    by true e more = (e, rise)
    by false e more = after_first m n nodes (turned n m e) rise more

by_name_rises : (nodes : List Node) → Rise (by_name nodes)
by_name_rises [] = tt
by_name_rises (n ∷ nodes) = placed_rises n (by_name nodes) (by_name_rises nodes)

-- ---- folded paths

mapped_twice : {A B C : Type 0} (f : A → B) (g : B → C) (xs : List A) → map g (map f xs) ≡ map (λ (x : A). g (f x)) xs
mapped_twice f g [] = refl
mapped_twice f g (x ∷ xs) = ap (λ ys. g (f x) ∷ ys) (mapped_twice f g xs)

upper_twice : (c : ℕ) → upper (upper c) ≡ upper c
upper_twice c = grind (arith, nat_tests)

folded_twice : (name : List ℕ) → folded (folded name) ≡ folded name
folded_twice [] = refl
folded_twice (c ∷ name) = ap₂ (λ (x : ℕ) (xs : List ℕ). x ∷ xs) (upper_twice c) (folded_twice name)

path_twice : (path : Path) → folded_path (folded_path path) ≡ folded_path path
path_twice [] = refl
path_twice (name ∷ path) = ap₂ (λ (x : List ℕ) (xs : Path). x ∷ xs) (folded_twice name) (path_twice path)

-- ---- a directory's names

module _ (image : List ℕ) (layout : Layout) (listings : List Listing) (sound : AreSound layout listings) (l : Listing) (at : Contains listings l) where
  nodes_listed : map (λ e. e.1) (children (tree_of image layout listings) (folded_path l.object.path)) ≡ by_name (map (node_of image layout) l.children)
  nodes_listed =
      children_law image layout listings l (folded_path l.object.path) (by_name (map (node_of image layout) l.children)) sound at
      (same_by_folds (folded_path l.object.path) l.object.path (path_twice l.object.path)) (by_name_all (map (node_of image layout) l.children)) (by_name_rises (map (node_of image layout) l.children))

  names_stored : names_of (entries_of l.content) ≡ map (λ (n : Node). n.name) (map (node_of image layout) l.children)
  names_stored =
      ap names_of (sym (children_stored layout listings sound l at)) ∙ mapped_twice (λ (o : Object). o.entry) (λ (e : Entry). e.name) l.children
      ∙ sym (mapped_twice (node_of image layout) (λ (n : Node). n.name) l.children)

  names_listed : IsPermutation (names_of (entries_of l.content)) (map (λ c. c.1.name) (children (tree_of image layout listings) (folded_path l.object.path)))
  names_listed =
      subst (λ (names : List (List ℕ)). IsPermutation names (map (λ c. c.1.name) (children (tree_of image layout listings) (folded_path l.object.path)))) (sym names_stored)
      (subst (λ (names : List (List ℕ)). IsPermutation (map (λ (n : Node). n.name) (map (node_of image layout) l.children)) names)
      (ap (map (λ (n : Node). n.name)) (sym nodes_listed) ∙ mapped_twice (λ (e : Path × Node). e.1) (λ (n : Node). n.name) (children (tree_of image layout listings) (folded_path l.object.path)))
      (IsPermutation-map (λ (n : Node). n.name) (map (node_of image layout) l.children) (by_name (map (node_of image layout) l.children)) (by_name_all (map (node_of image layout) l.children))))

  -- are right where those of its entries are
  pub names_right : (form : NameForm) (own : List ℕ)
      → are_names_right form own (map (λ c. c.1.name) (children (tree_of image layout listings) (folded_path l.object.path))) ≡ are_names_right form own (names_of (entries_of l.content))
  names_right Seven own = ap (λ (n : ℕ). nat_le n 47) (length_permutation _ _ names_listed)
  names_right Ten own = ap (λ (n : ℕ). nat_le n 77) (length_permutation _ _ names_listed)
  names_right Long own =
      ap₂ (λ (n space : ℕ). nat_le (size_for (name_space own) n space) 4194304) (length_permutation _ _ names_listed) (sum_by-IsPermutation name_space _ _ names_listed)
