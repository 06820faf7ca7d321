-- Trees by the objects of walks.
use Rattle.std.proofs.Common.{◌≡◌, ◌≤◌, ◌⊎◌, inl, inr, ⊎_elim, ℕ, ◌+◌, Bool, true, false, cond, List, [], ◌∷◌, ◌++◌, map, length, refl, sym, ap, subst, ◌∙◌, arith, Option, Some, None, Ordering, Less, Equal, Greater, is_eq}
use Rattle.std.specs.Prelude.{Ok, IsPermutation, find}
use Rattle.std.specs.Option.{option_map}
use Rattle.std.specs.Ordering.{eq_by_cmp}
use Rattle.std.specs.Cmp.{IsTotalOrder, nat_cmp_total, tied_itself}
use Rattle.std.specs.Cmp.Lexicographic.{lists_total}
use Rattle.std.specs.FinMap.{IsAntisymmetric, slice_cmp-IsAntisymmetric, nat_cmp-IsAntisymmetric, get, remove, entries, from_entries, empty, get-from_entries, get-insert, get-remove, get-entries, entries-insert, len-entries, len-empty, same_map, find as value_at}
use Rattle.std.specs.FinMap.Entries.{put, by_order}
use Rattle.std.proofs.lemmas.List.Sorted.{IsPermutation-refl, IsPermutation-trans, IsPermutation-sym, IsPermutation-cons, IsPermutation-map}
use Rattle.fc_names.specs.Names.{Path, folded_path, key_cmp, is_same_path}
use Rattle.fc_model.specs.Tree.{Node, Tree, node_at}
use Rattle.fc_model.specs.Answer.{moved_entry, with_moved}
use Rattle.fc_record.specs.declared.Kind.{Kind}
use Rattle.fc_image.specs.Layout.{Layout, dir_form}
use Rattle.fc_image.specs.Walk.{Object, Listing, reader_of, object_bytes, walk}
use Rattle.fc_image.specs.Objects.{objects_of, object_at, node_of, tree_entry, tree_of}
use Rattle.fc_image.specs.Opening.{Opened, reserved_in}
use Rattle.fc_image.specs.Stays.{OpensAs}
use Rattle.fc_image.specs.TreeEdits.{tree_entries, without_all, with_all, IsObjectEdit, IsMove, TreeEditLaw}
use Rattle.fc_image.specs.Sound.{AreSound}
use Rattle.fc_image.proofs.WalkLemmas.{walk-Tells}
use Rattle.fc_image.proofs.EditLemmas.{walk_gives}
use Rattle.fc_image.proofs.PathsLemmas.{many, is_at, once, same_equal, content_once, opened_walk}
use Rattle.fc_image.proofs.ShuffleLemmas.{shuffled, flipped, same_lists}

pub key_total : IsTotalOrder key_cmp
key_total = lists_total (lists_total nat_cmp_total)

pub key_exact : IsAntisymmetric key_cmp
key_exact = slice_cmp-IsAntisymmetric (slice_cmp-IsAntisymmetric nat_cmp-IsAntisymmetric)

pub folds_alike : (p q : Path) → is_same_path p q ≡ true → folded_path p ≡ folded_path q
folds_alike p q e = key_exact (folded_path p) (folded_path q) (same_equal (key_cmp (folded_path p) (folded_path q)) e)

-- ---- entries under keys

-- the entry ties with the key
abbrev pub ties : Path → Path × Node → Bool
ties q e = eq_by_cmp key_cmp q e.0

-- no key stands twice
abbrev pub AreFew : List (Path × Node) → Type 0
AreFew es = (q : Path) → many (ties q) es ≤ 1

pub none_found : (q : Path) (es : List (Path × Node)) → many (ties q) es ≤ 0 → value_at key_cmp q es ≡ None
unfolding many
none_found q [] low = refl
none_found q (e ∷ es) low = by (ties q e) low (none_found q es)
  where
    by : (b : Bool) → cond b 1 0 + many (ties q) es ≤ 0 → (many (ties q) es ≤ 0 → value_at key_cmp q es ≡ None) → cond b (Some e.1) (value_at key_cmp q es) ≡ None
    by true l more = absurd (omega arith)
    by false l more = more (omega arith)

few_later : (q : Path) (e : Path × Node) (es : List (Path × Node)) → many (ties q) (e ∷ es) ≤ 1 → many (ties q) es ≤ 1
unfolding many
few_later q e es low = omega arith

none_later : (q : Path) (e : Path × Node) (es : List (Path × Node)) → many (ties q) (e ∷ es) ≤ 1 → ties q e ≡ true → many (ties q) es ≤ 0
unfolding many
none_later q e es low t = let here : ◌≡◌ {A = ℕ} (cond (ties q e) 1 0) 1 = ap (λ (b : Bool). let n : ℕ = cond b 1 0 in n) t in omega (arith, here, low)

-- in another order the same is found
module _ (q : Path) where
  abbrev Found : List (Path × Node) → List (Path × Node) → Type 0
  Found es fs = (many (ties q) fs ≡ many (ties q) es) × (many (ties q) es ≤ 1 → value_at key_cmp q fs ≡ value_at key_cmp q es)

  found_itself : (es : List (Path × Node)) → Found es es
  found_itself es = (refl, λ low. refl)

  found_onward : (es fs gs : List (Path × Node)) → Found es fs → Found fs gs → Found es gs
  found_onward es fs gs a b = (b.0 ∙ a.0, λ low. b.1 (omega (arith, a.0, low)) ∙ a.1 low)

  found_under : (e : Path × Node) (es fs : List (Path × Node)) → Found es fs → Found (e ∷ es) (e ∷ fs)
  unfolding many
  found_under e es fs a =
      (ap (λ (n : ℕ). cond (ties q e) 1 0 + n) a.0, λ low. ap (λ (r : Option Node). cond (ties q e) (Some e.1) r) (a.1 (few_later q e es low)))

  found_flipped : (e f : Path × Node) (es : List (Path × Node)) → Found (e ∷ f ∷ es) (f ∷ e ∷ es)
  unfolding many
  found_flipped e f es = by (ties q e) (ties q f)
    where
      by : (b c : Bool) → (cond c 1 0 + (cond b 1 0 + many (ties q) es) ≡ cond b 1 0 + (cond c 1 0 + many (ties q) es))
          × (cond b 1 0 + (cond c 1 0 + many (ties q) es) ≤ 1
          → cond c (Some f.1) (cond b (Some e.1) (value_at key_cmp q es)) ≡ cond b (Some e.1) (cond c (Some f.1) (value_at key_cmp q es)))
      by true true = (refl, λ low. absurd (omega arith))
      by true false = (omega arith, λ low. refl)
      by false true = (omega arith, λ low. refl)
      by false false = (refl, λ low. refl)

  pub found_shuffled : (es fs : List (Path × Node)) → IsPermutation es fs → Found es fs
  found_shuffled = shuffled Found found_itself found_onward found_under found_flipped

few_shuffled : (es fs : List (Path × Node)) → IsPermutation es fs → AreFew es → AreFew fs
few_shuffled es fs s few q = let f = found_shuffled q es fs s in let low = few q in omega (arith, f.0, low)

-- maps of the same entries are the same
pub from_shuffled : (es fs : List (Path × Node)) → IsPermutation es fs → AreFew es → ◌≡◌ {A = Tree} (from_entries es) (from_entries fs)
from_shuffled es fs s few =
    same_map key_total key_exact (from_entries es) (from_entries fs)
    (λ q. get-from_entries key_total es q ∙ sym ((found_shuffled q es fs s).1 (few q)) ∙ sym (get-from_entries key_total fs q))

-- ---- the entries of a map

put_shuffled : (k : Path) (v : Node) (es : List (Path × Node)) → value_at key_cmp k es ≡ None → IsPermutation ((k, v) ∷ es) (put key_cmp k v es)
put_shuffled k v [] none = IsPermutation-refl ((k, v) ∷ [])
put_shuffled k v (e ∷ es) none = by (key_cmp k e.0) none (put_shuffled k v es)
  where
    by : (r : Ordering) → cond (is_eq r) (Some e.1) (value_at key_cmp k es) ≡ None → (value_at key_cmp k es ≡ None → IsPermutation ((k, v) ∷ es) (put key_cmp k v es))
        → IsPermutation ((k, v) ∷ e ∷ es) (by_order r ((k, v) ∷ e ∷ es) ((e.0, v) ∷ es) (e ∷ put key_cmp k v es))
    by Less h more = IsPermutation-refl ((k, v) ∷ e ∷ es)
    by Equal h more = absurd (cc)
    by Greater h more =
        IsPermutation-trans ((k, v) ∷ e ∷ es) (e ∷ (k, v) ∷ es) (e ∷ put key_cmp k v es) (flipped (k, v) e es) (IsPermutation-cons e ((k, v) ∷ es) (put key_cmp k v es) (more h))

no_length : (es : List (Path × Node)) → length es ≡ 0 → es ≡ []
no_length [] e = refl
no_length (x ∷ es) e = absurd (omega (arith, e))

pub entries_shuffled : (es : List (Path × Node)) → AreFew es → IsPermutation es (entries (from_entries {R = key_cmp} es))
entries_shuffled [] few = same_lists [] (entries (empty {X = Node} {R = key_cmp})) (sym (no_length (entries (empty {X = Node} {R = key_cmp})) (sym (len-entries (empty {X = Node} {R = key_cmp})) ∙ len-empty key_cmp Node)))
entries_shuffled (e ∷ es) few =
    let m : Tree = from_entries es in
    let rest = entries_shuffled es (λ q. few_later q e es (few q)) in
    let none : value_at key_cmp e.0 (entries m) ≡ None =
    sym (get-entries m e.0) ∙ get-from_entries key_total es e.0 ∙ none_found e.0 es (none_later e.0 e es (few e.0) (ap is_eq (tied_itself key_total e.0))) in
    subst (IsPermutation (e ∷ es)) (sym (entries-insert key_total m e.0 e.1))
    (IsPermutation-trans (e ∷ es) (e ∷ entries m) (put key_cmp e.0 e.1 (entries m)) (IsPermutation-cons e es (entries m) rest) (put_shuffled e.0 e.1 (entries m) none))

-- ---- the objects of a walk

some_or_none : {X : Type 0} (t : X → Bool) (xs : List X) → (many t xs ≡ 0) ⊎ ((x : X) × (t x ≡ true))
unfolding many
some_or_none t [] = inl refl
some_or_none {X} t (x ∷ xs) = by (t x) refl (some_or_none t xs)
  where
    by : (b : Bool) → t x ≡ b → (many t xs ≡ 0) ⊎ ((y : X) × (t y ≡ true)) → (cond b 1 0 + many t xs ≡ 0) ⊎ ((y : X) × (t y ≡ true))
    by true e rest = inr (x, e)
    by false e (inl none) = inl (omega (arith, none))
    by false e (inr some) = inr some

many_entries : (image : List ℕ) (layout : Layout) (q : Path) (objects : List Object)
    → many (ties q) (tree_entries image layout objects) ≡ many (λ (o : Object). eq_by_cmp key_cmp q (folded_path o.path)) objects
unfolding many
many_entries image layout q [] = refl
many_entries image layout q (o ∷ objects) = ap (λ (n : ℕ). cond (eq_by_cmp key_cmp q (folded_path o.path)) 1 0 + n) (many_entries image layout q objects)

pub entries_few : (image : List ℕ) (layout : Layout) (objects : List Object) → ((path : Path) → many (is_at path) objects ≤ 1) → AreFew (tree_entries image layout objects)
entries_few image layout objects few q =
    subst (λ (n : ℕ). n ≤ 1) (sym (many_entries image layout q objects))
    (⊎_elim (λ none. omega (arith, none))
    (λ some. subst (λ (k : Path). many (λ (o : Object). eq_by_cmp key_cmp k (folded_path o.path)) objects ≤ 1)
    (sym (key_exact q (folded_path some.0.path) (same_equal (key_cmp q (folded_path some.0.path)) some.1))) (few some.0.path))
    (some_or_none (λ (o : Object). eq_by_cmp key_cmp q (folded_path o.path)) objects))

-- of each path a walk finds one object at most
pub sound_few : (layout : Layout) (listings : List Listing) → AreSound layout listings → (path : Path) → many (is_at path) (objects_of listings) ≤ 1
sound_few layout listings w path =
    let had = walk_gives w.read layout w.reserved w.address w.size listings w.walked in
    once w.read layout had.0 listings had.1.path had.2 w.apart (length path) path refl

walked' : (image : List ℕ) (layout : Layout) (reserved : List ℕ) (address size : ℕ) (listings : List Listing)
    → walk (reader_of image layout) layout reserved address size ≡ Ok listings → AreSound layout listings
walked' image layout reserved address size listings h =
    let told = walk-Tells (reader_of image layout) layout reserved address size listings h in
    record {
      read = reader_of image layout;
      reserved = reserved;
      address = address;
      size = size;
      walked = h;
      apart = λ l at. content_once (dir_form layout) (object_bytes image layout l.object) l.content (told l at);
    }

pub objects_few : (image : List ℕ) (layout : Layout) (listings : List Listing) → AreSound layout listings → AreFew (tree_entries image layout (objects_of listings))
objects_few image layout listings w = entries_few image layout (objects_of listings) (sound_few layout listings w)

opened' : (image : List ℕ) (kind : Kind) (v : Opened) → OpensAs image kind v → AreSound v.layout v.listings
opened' image kind v opens =
    let w = opened_walk image kind v opens in
    walked' image v.layout (reserved_in kind v.layout) w.address w.size v.listings w.walked

any_order' : (image : List ℕ) (layout : Layout) (listings : List Listing) (objects : List Object) → AreSound layout listings
    → IsPermutation (objects_of listings) objects → tree_of image layout listings ≡ from_entries (tree_entries image layout objects)
unfolding tree_of
any_order' image layout listings objects w s =
    from_shuffled (tree_entries image layout (objects_of listings)) (tree_entries image layout objects)
    (IsPermutation-map (tree_entry image layout) (objects_of listings) objects s) (objects_few image layout listings w)

-- ---- where a path leads

pub tree_get : (image : List ℕ) (layout : Layout) (listings : List Listing) (q : Path)
    → get (tree_of image layout listings) q ≡ value_at key_cmp q (tree_entries image layout (objects_of listings))
unfolding tree_of
tree_get image layout listings q = get-from_entries key_total (tree_entries image layout (objects_of listings)) q

value_of_object : (image : List ℕ) (layout : Layout) (path : Path) (objects : List Object)
    → value_at key_cmp (folded_path path) (tree_entries image layout objects) ≡ option_map (node_of image layout) (find (is_at path) objects)
value_of_object image layout path [] = refl
value_of_object image layout path (o ∷ objects) = by (is_at path o) (value_of_object image layout path objects)
  where
    by : (b : Bool) → value_at key_cmp (folded_path path) (tree_entries image layout objects) ≡ option_map (node_of image layout) (find (is_at path) objects)
        → cond b (Some (node_of image layout o)) (value_at key_cmp (folded_path path) (tree_entries image layout objects)) ≡ option_map (node_of image layout) (cond b (Some o) (find (is_at path) objects))
    by true rest = refl
    by false rest = rest

pub tree_node : (image : List ℕ) (layout : Layout) (listings : List Listing) (path : Path)
    → node_at (tree_of image layout listings) path ≡ option_map (node_of image layout) (object_at listings path)
tree_node image layout listings path = tree_get image layout listings (folded_path path) ∙ value_of_object image layout path (objects_of listings)

-- ---- objects that go and come

-- without the entries in front the others are found
get_without : (t : Tree) (q : Path) (gone : List (Path × Node)) (rest : List (Path × Node)) → get t q ≡ value_at key_cmp q (gone ++ rest) → many (ties q) (gone ++ rest) ≤ 1
    → get (without_all t (map (λ e. e.0) gone)) q ≡ value_at key_cmp q rest
get_without t q [] rest is low = is
get_without t q (e ∷ gone) rest is low =
    get_without (remove t e.0) q gone rest (get-remove key_total t e.0 q ∙ ap (λ (r : Option Node). cond (ties q e) None r) is ∙ by (ties q e) refl) (few_later q e (gone ++ rest) low)
  where
    by : (b : Bool) → ties q e ≡ b → cond b None (cond b (Some e.1) (value_at key_cmp q (gone ++ rest))) ≡ value_at key_cmp q (gone ++ rest)
    by true h = sym (none_found q (gone ++ rest) (none_later q e (gone ++ rest) low h))
    by false h = refl

-- with entries in front
get_with : (t : Tree) (q : Path) (come : List (Path × Node)) (rest : List (Path × Node)) → get t q ≡ value_at key_cmp q rest
    → get (with_all t come) q ≡ value_at key_cmp q (come ++ rest)
get_with t q [] rest is = is
get_with t q (e ∷ come) rest is = get-insert key_total (with_all t come) e.0 e.1 q ∙ ap (λ (r : Option Node). cond (ties q e) (Some e.1) r) (get_with t q come rest is)

pub map_both : {X Y : Type 0} (f : X → Y) (xs ys : List X) → map f (xs ++ ys) ≡ map f xs ++ map f ys
map_both f [] ys = refl
map_both {Y = Y} f (x ∷ xs) ys = ap (λ (zs : List Y). f x ∷ zs) (map_both f xs ys)

keys_of : (image : List ℕ) (layout : Layout) (objects : List Object) → map (λ e. e.0) (tree_entries image layout objects) ≡ map (λ o. folded_path o.path) objects
keys_of image layout [] = refl
keys_of image layout (o ∷ objects) = ap (λ (ks : List Path). folded_path o.path ∷ ks) (keys_of image layout objects)

module _ (image image' : List ℕ) (layout layout' : Layout) (listings listings' : List Listing) where
  pub edit' : (gone come : List Object) → IsObjectEdit image image' layout layout' listings listings' gone come
      → tree_of image' layout' listings' ≡ with_all (without_all (tree_of image layout listings) (map (λ o. folded_path o.path) gone)) (tree_entries image' layout' come)
  edit' gone come e =
      same_map key_total key_exact (tree_of image' layout' listings') (with_all (without_all t (map (λ o. folded_path o.path) gone)) new) (λ q.
      tree_get image' layout' listings' q ∙ now q ∙ sym (get_with (without_all t (map (λ o. folded_path o.path) gone)) q new kept (left q)))
    where
      t : Tree
      t = tree_of image layout listings

      new : List (Path × Node)
      new = tree_entries image' layout' come

      old : List (Path × Node)
      old = tree_entries image layout gone

      kept : List (Path × Node)
      kept = tree_entries image layout e.kept

      now : (q : Path) → value_at key_cmp q (tree_entries image' layout' (objects_of listings')) ≡ value_at key_cmp q (new ++ kept)
      now q =
          sym ((found_shuffled q (tree_entries image' layout' (objects_of listings')) (tree_entries image' layout' (come ++ e.kept'))
          (IsPermutation-map (tree_entry image' layout') (objects_of listings') (come ++ e.kept') e.has)).1 (objects_few image' layout' listings' e.after q))
          ∙ ap (value_at key_cmp q) (map_both (tree_entry image' layout') come e.kept' ∙ ap (λ (es : List (Path × Node)). new ++ es) e.same)

      was : IsPermutation (tree_entries image layout (objects_of listings)) (old ++ kept)
      was = subst (IsPermutation (tree_entries image layout (objects_of listings))) (map_both (tree_entry image layout) gone e.kept)
          (IsPermutation-map (tree_entry image layout) (objects_of listings) (gone ++ e.kept) e.had)

      left : (q : Path) → get (without_all t (map (λ o. folded_path o.path) gone)) q ≡ value_at key_cmp q kept
      left q =
          ap (λ (ks : List Path). get (without_all t ks) q) (sym (keys_of image layout gone))
          ∙ get_without t q old kept
          (tree_get image layout listings q ∙ sym ((found_shuffled q (tree_entries image layout (objects_of listings)) (old ++ kept) was).1 (objects_few image layout listings e.before q)))
          (few_shuffled (tree_entries image layout (objects_of listings)) (old ++ kept) was (objects_few image layout listings e.before) q)

  pub move' : (from to : Path) → IsMove image image' layout layout' listings listings' from to → tree_of image' layout' listings' ≡ with_moved (tree_of image layout listings) from to
  unfolding tree_of
  move' from to m =
      from_shuffled (tree_entries image' layout' (objects_of listings')) (map (moved_entry from to) (entries (tree_of image layout listings)))
      (IsPermutation-trans (tree_entries image' layout' (objects_of listings')) (map (moved_entry from to) (tree_entries image layout (objects_of listings)))
      (map (moved_entry from to) (entries (tree_of image layout listings)))
      (IsPermutation-sym (map (moved_entry from to) (tree_entries image layout (objects_of listings))) (tree_entries image' layout' (objects_of listings')) m.moved)
      (IsPermutation-map (moved_entry from to) (tree_entries image layout (objects_of listings)) (entries (tree_of image layout listings))
      (entries_shuffled (tree_entries image layout (objects_of listings)) (objects_few image layout listings m.before))))
      (objects_few image' layout' listings' m.after)

pub tree_edit_law : TreeEditLaw
tree_edit_law = record { opened = opened'; walked = walked'; any_order = any_order'; node = tree_node; edit = edit'; move = move' }
