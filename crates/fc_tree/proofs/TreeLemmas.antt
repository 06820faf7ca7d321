-- What stands in the tree of an image: at the path of each object its node, and nothing else.
use Rattle.std.proofs.Common.{◌≡◌, ⊎_elim, Bool, true, false, cond, List, [], ◌∷◌, map, refl, sym, ap, ◌∙◌, Option, Some, None, Ordering, Equal, is_eq, ℕ}
use Rattle.std.specs.Prelude.{Contains}
use Rattle.std.specs.Ordering.{eq_by_cmp}
use Rattle.std.specs.FinMap.{get, get-from_entries, find as value_at}
use Rattle.fc_names.specs.Names.{Path, folded_path, key_cmp, is_same_path}
use Rattle.fc_model.specs.Tree.{Node, node_at}
use Rattle.fc_image.specs.Layout.{Layout}
use Rattle.fc_image.specs.Walk.{Object, Listing}
use Rattle.fc_image.specs.Objects.{objects_of, node_of, tree_entry, tree_of}
use Rattle.fc_image.proofs.PathsLemmas.{same_equal}
use Rattle.fc_image.specs.Sound.{AreSound}
use Rattle.fc_tree.proofs.MemberLemmas.{contains_here, no_element, from_map, in_map}
use Rattle.fc_tree.proofs.WalkedLemmas.{same_some}
use Rattle.fc_tree.proofs.SoundLemmas.{same_object}
use Rattle.fc_image.proofs.EntriesLemmas.{later as contains_later, cases as contains_cases}
use Rattle.fc_image.proofs.TreeLemmas.{key_total}

-- ---- entries under an order

module _ {K X : Type 0} (R : K → K → Ordering) where
  -- the first entry at a key is an entry
  pub value_is : (q : K) (es : List (K × X)) (v : X) → value_at R q es ≡ Some v → (e : K × X) × Contains es e × (R q e.0 ≡ Equal) × (e.1 ≡ v)
  value_is q [] v h = absurd (cc)
  value_is q (e ∷ es) v h = by (eq_by_cmp R q e.0) refl h (value_is q es v)
    where
      by : (b : Bool) → eq_by_cmp R q e.0 ≡ b → cond b (Some e.1) (value_at R q es) ≡ Some v
          → (value_at R q es ≡ Some v → (d : K × X) × Contains es d × (R q d.0 ≡ Equal) × (d.1 ≡ v))
          → (d : K × X) × Contains (e ∷ es) d × (R q d.0 ≡ Equal) × (d.1 ≡ v)
      by true t g more = (e, contains_here e es, same_equal (R q e.0) t, same_some e.1 v g)
      by false t g more = let r = more g in (r.0, contains_later e r.0 es r.1, r.2, r.3)

  -- where nothing is found no entry ties
  pub no_value : (q : K) (es : List (K × X)) (e : K × X) → value_at R q es ≡ None → Contains es e → R q e.0 ≡ Equal → ⊥
  no_value q [] e h at tie = no_element e at
  no_value q (d ∷ es) e h at tie = by (eq_by_cmp R q d.0) refl h (no_value q es e)
    where
      by : (b : Bool) → eq_by_cmp R q d.0 ≡ b → cond b (Some d.1) (value_at R q es) ≡ None → (value_at R q es ≡ None → Contains es e → R q e.0 ≡ Equal → ⊥) → ⊥
      by true t g more = cc
      by false t g more =
          ⊎_elim (λ same. apart (ap (λ (x : K × X). is_eq (R q x.0)) same ∙ ap is_eq tie)) (λ later. more g later tie) (contains_cases d e es at)
        where
          apart : is_eq (R q d.0) ≡ true → ⊥
          apart is = let two : true ≡ false = sym is ∙ t in cc

-- ---- the tree

module _ (image : List ℕ) (layout : Layout) (listings : List Listing) where
  pub tree_get : (q : Path) → get (tree_of image layout listings) q ≡ value_at key_cmp q (map (tree_entry image layout) (objects_of listings))
  unfolding tree_of
  tree_get q = get-from_entries key_total (map (tree_entry image layout) (objects_of listings)) q

  -- a node belongs to an object
  pub object_of_node : (path : Path) (node : Node) → node_at (tree_of image layout listings) path ≡ Some node
      → (o : Object) × Contains (objects_of listings) o × (is_same_path path o.path ≡ true) × (node ≡ node_of image layout o)
  object_of_node path node h =
      let found = value_is key_cmp (folded_path path) (map (tree_entry image layout) (objects_of listings)) node (sym (tree_get (folded_path path)) ∙ h) in
      let from = from_map (tree_entry image layout) (objects_of listings) found.0 found.1 in
      let tie : key_cmp (folded_path path) (folded_path from.0.path) ≡ Equal = ap (λ (e : Path × Node). key_cmp (folded_path path) e.0) from.2 ∙ found.2 in
      (from.0, from.1, ap is_eq tie, sym found.3 ∙ ap (λ (e : Path × Node). e.1) (sym from.2))

  -- at a path where nothing stands there is no object
  pub no_object : (path : Path) (o : Object) → node_at (tree_of image layout listings) path ≡ None → Contains (objects_of listings) o → is_same_path path o.path ≡ true → ⊥
  no_object path o h at same =
      no_value key_cmp (folded_path path) (map (tree_entry image layout) (objects_of listings)) (tree_entry image layout o) (sym (tree_get (folded_path path)) ∙ h)
      (in_map (tree_entry image layout) (objects_of listings) o at) (same_equal (key_cmp (folded_path path) (folded_path o.path)) same)

  -- at each object's path stands its node
  pub node_of_object : AreSound layout listings → (path : Path) (o : Object) → Contains (objects_of listings) o → is_same_path path o.path ≡ true
      → node_at (tree_of image layout listings) path ≡ Some (node_of image layout o)
  node_of_object sound path o at same = by (node_at (tree_of image layout listings) path) refl
    where
      by : (n : Option Node) → node_at (tree_of image layout listings) path ≡ n → n ≡ Some (node_of image layout o)
      by None h = absurd (no_object path o h at same)
      by (Some node) h =
          let found = object_of_node path node h in
          let one = same_object layout listings sound path found.0 o found.1 at found.2 same in
          ap (λ (m : Node). let s : Option Node = Some m in s) (found.3 ∙ ap (node_of image layout) one)
