-- Which directories hold something, in the tree of an image.
use Rattle.std.proofs.Common.{◌≡◌, ⊎_elim, ℕ, ◌+◌, Bool, true, false, cond, List, [], ◌∷◌, ◌++◌, length, nat_lt, take, refl, sym, ap, ap₂, subst, ◌∙◌, arith, Option, Some, None, eqb-true, eq-eqb, lt-ltb}
use Rattle.std.specs.Prelude.{Contains, ◌&&◌, ◌==◌}
use Rattle.std.specs.Cmp.{first_so, second_so}
use Rattle.std.specs.Cmp.Lexicographic.{pointwise_decides, bytes_decides}
use Rattle.std.specs.FinMap.{get, get-entries, entries, entries_sorted, find as value_at}
use Rattle.std.specs.FinMap.Entries.{is_sorted-where_key, find-where_key, same_entries}
use Rattle.std.proofs.lemmas.List.{length-map, length_push, take_at}
use Rattle.fc_names.specs.Names.{Path, folded, folded_path, key_cmp, is_same_path}
use Rattle.fc_model.specs.Tree.{Node as ModelNode, Tree, children, is_prefix}
use Rattle.fc_model.specs.Answer.{has_entries}
use Rattle.fc_image.specs.Layout.{Layout}
use Rattle.fc_image.specs.Walk.{Object, Listing}
use Rattle.fc_image.specs.Objects.{objects_of, listing_at, node_of, tree_entry, tree_of}
use Rattle.fc_image.specs.Sound.{AreSound}
use Rattle.fc_image.proofs.PathsLemmas.{itself}
use Rattle.fc_tree.proofs.ChildrenLemmas.{below_front, front_below, is_below}
use Rattle.fc_tree.proofs.MemberLemmas.{contains_here, from_map, no_element}
use Rattle.fc_tree.proofs.WalkedLemmas.{child_is_object, child_path, listed_directory, listing_found, root, root_path}
use Rattle.fc_tree.proofs.SoundLemmas.{fold_pushed, folds_alike, listing_of, root_or_child, same_object}
use Rattle.fc_tree.proofs.TreeLemmas.{node_of_object, tree_get, value_is}
use Rattle.fc_image.proofs.TreeLemmas.{key_total, key_exact}
use Rattle.fc_image.proofs.CommandLemmas.{same_by_folds}

-- a list with an element has some
pub some_there : {X : Type 0} (x : X) (xs : List X) → nat_lt 0 (length (x ∷ xs)) ≡ true
some_there x xs = lt-ltb 0 (length (x ∷ xs)) (omega arith)

-- what the tree has below a path
module _ (image : List ℕ) (layout : Layout) (listings : List Listing) (sound : AreSound layout listings) (path : Path) where
  abbrev tree : Tree
  tree = tree_of image layout listings

  value_below : (q : Path) → value_at key_cmp q (children tree path) ≡ cond (is_below path q) (get tree q) None
  value_below q =
      find-where_key key_cmp (is_below path) q (λ x tie. ap (is_below path) (sym (key_exact q x tie))) (entries tree)
      ∙ ap (λ (r : Option ModelNode). cond (is_below path q) r None) (sym (get-entries tree q))

  -- if no object is below, nothing is
  nothing_below : ((o : Object) → Contains (objects_of listings) o → is_below path (folded_path o.path) ≡ true → ⊥) → children tree path ≡ []
  nothing_below never =
      same_entries key_cmp key_total key_exact (children tree path) []
      (is_sorted-where_key key_cmp (is_below path) (entries tree) (entries_sorted tree)) tt
      (λ q. value_below q ∙ by q (is_below path q) refl (get tree q) refl)
    where
      by : (q : Path) (b : Bool) → is_below path q ≡ b → (r : Option ModelNode) → get tree q ≡ r → cond b r None ≡ None
      by q false e r f = refl
      by q true e None f = refl
      by q true e (Some v) f =
          let d = value_is key_cmp q _ v (sym (tree_get image layout listings q) ∙ f) in
          let o = from_map (tree_entry image layout) (objects_of listings) d.0 d.1 in
          let key : folded_path o.0.path ≡ q = ap (λ (x : Path × ModelNode). x.0) o.2 ∙ sym (key_exact q d.0.0 d.2) in
          absurd (never o.0 o.1 (ap (is_below path) key ∙ e))

  -- if an object is below, something is
  something_below : (o : Object) → Contains (objects_of listings) o → is_below path (folded_path o.path) ≡ true → has_entries tree path ≡ true
  something_below o at below = by (children tree path) refl
    where
      by : (es : List (Path × ModelNode)) → children tree path ≡ es → nat_lt 0 (length es) ≡ true
      by [] e =
          let some = node_of_object image layout listings sound o.path o at (itself o.path) in
          let none : value_at key_cmp (folded_path o.path) [] ≡ cond (is_below path (folded_path o.path)) (get tree (folded_path o.path)) None =
          ap (value_at key_cmp (folded_path o.path)) (sym e) ∙ value_below (folded_path o.path) in
          let whole : None ≡ Some (node_of image layout o) = none ∙ ap₂ (λ (b : Bool) (r : Option ModelNode). cond b r None) below some in
          absurd (cc)
      by (x ∷ es) e = some_there x es

  -- ---- what an object holds

  abbrev pub kids : Option Listing → List Object
  kids None = []
  kids (Some l) = l.children

  module _ (o : Object) (among : Contains (objects_of listings) o) (same : is_same_path path o.path ≡ true) where
    -- an object below is held by the object at the path
    held_below : (p : Object) → Contains (objects_of listings) p → is_below path (folded_path p.path) ≡ true → Contains (kids (listing_at listings o.path)) p
    held_below p at below = ⊎_elim (λ is. absurd (top is)) (λ held. child held.0 held.1 held.2) (root_or_child layout listings sound p at)
      where
        top : root layout listings sound ≡ p → ⊥
        top is =
            let none : folded_path p.path ≡ [] = ap folded_path (ap (λ (x : Object). x.path) (sym is) ∙ root_path layout listings sound) in
            let long : 0 ≡ length path + 1 = eqb-true 0 (length path + 1) (first_so (0 == length path + 1) (is_prefix (folded_path path) []) (ap (is_below path) (sym none) ∙ below)) in
            absurd (omega (arith, long))

        child : (k : Listing) → Contains listings k → Contains k.children p → Contains (kids (listing_at listings o.path)) p
        child k listed held =
            let key : folded_path p.path ≡ folded_path k.object.path ++ folded p.entry.name ∷ [] =
            ap folded_path (child_path layout listings sound k p listed held) ∙ fold_pushed k.object.path p.entry.name in
            let front : folded_path k.object.path ≡ folded_path path = below_front path (folded_path k.object.path) (folded p.entry.name) (ap (is_below path) (sym key) ∙ below) in
            let one : o ≡ k.object = same_object layout listings sound path o k.object among (listed_directory layout listings sound k listed).0 same (same_by_folds path k.object.path (sym front)) in
            let there : listing_at listings o.path ≡ Some k = ap (λ (x : Object). listing_at listings x.path) one ∙ listing_found layout listings sound k listed in
            subst (λ (m : Option Listing). Contains (kids m) p) (sym there) held

    -- what the object holds is below
    child_below : (l : Listing) (p : Object) → listing_at listings o.path ≡ Some l → Contains l.children p → has_entries tree path ≡ true
    child_below l p e held =
        let is = listing_of layout listings sound o l among e in
        let alike : folded_path path ≡ folded_path l.object.path = folds_alike path o.path same ∙ ap (λ (x : Object). folded_path x.path) (sym is.1) in
        let key : folded_path p.path ≡ folded_path path ++ folded p.entry.name ∷ [] =
        ap folded_path (child_path layout listings sound l p is.0 held) ∙ fold_pushed l.object.path p.entry.name ∙ ap (λ (k : Path). k ++ folded p.entry.name ∷ []) (sym alike) in
        something_below p (child_is_object layout listings sound l p is.0 held) (ap (is_below path) key ∙ front_below path (folded p.entry.name))

    -- The tree has entries there if the object holds any.
    pub holds_some : has_entries tree path ≡ nat_lt 0 (length (kids (listing_at listings o.path)))
    holds_some = by (listing_at listings o.path) refl
      where
        none_held : (m : Option Listing) → listing_at listings o.path ≡ m → kids m ≡ [] → has_entries tree path ≡ false
        none_held m e none =
            ap (λ (es : List (Path × ModelNode)). nat_lt 0 (length es)) (nothing_below (λ p at below.
            no_element p (subst (λ (os : List Object). Contains os p) (ap kids e ∙ none) (held_below p at below))))

        by : (m : Option Listing) → listing_at listings o.path ≡ m → has_entries tree path ≡ nat_lt 0 (length (kids m))
        by None e = none_held None e refl
        by (Some l) e = some l.children refl
          where
            some : (os : List Object) → l.children ≡ os → has_entries tree path ≡ nat_lt 0 (length l.children)
            some [] none = none_held (Some l) e none ∙ ap (λ (os : List Object). nat_lt 0 (length os)) (sym none)
            some (p ∷ os) is =
                child_below l p e (subst (λ (ps : List Object). Contains ps p) (sym is) (contains_here p os))
                ∙ sym (some_there p os)
                ∙ ap (λ (ps : List Object). nat_lt 0 (length ps)) (sym is)
