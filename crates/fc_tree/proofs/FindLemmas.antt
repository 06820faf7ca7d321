-- Paths lead among nodes as in the tree of the image that they stand for.
use Rattle.std.proofs.Common.{◌≡◌, ℕ, Bool, true, false, List, [], ◌∷◌, ◌++◌, length, refl, sym, ap, subst, ◌∙◌, append-nil, append_assoc, Option, Some, None, nat_cmp, unwrap_or, if◌then◌else◌}
use Rattle.std.specs.Prelude.{Contains, is_some, option_map, Result, Err}
use Rattle.std.specs.Option.{option_and_then, option_map_or}
use Rattle.std.specs.FinMap.{FinMap, get}
use Rattle.fc_names.specs.declared.refusal.Refusal.{Refusal}
use Rattle.fc_names.specs.declared.refusal.Refusal.TheVariants as refusals
use Rattle.fc_names.specs.Names.{Path, is_directory, is_same_path}
use Rattle.fc_model.specs.Tree.{Tree, Node as ModelNode, Body as ModelBody, node_at, is_directory_body}
use Rattle.fc_model.specs.Answer.{found_below, node_or_absent}
use Rattle.fc_image.specs.Layout.{Layout}
use Rattle.fc_image.specs.Walk.{Object, Listing, is_directory_object, object_bytes}
use Rattle.fc_image.specs.Objects.{objects_of, node_of, tree_of}
use Rattle.fc_tree.specs.declared.node.Node.{Node}
use Rattle.fc_tree.specs.declared.node.Found.TheVariants as founds
use Rattle.fc_tree.specs.Nodes.{child, number_of, found_from, is_directory_node, HoldObjects}
use Rattle.fc_tree.specs.Laws.{AreAlike, FindLaw}
use Rattle.fc_image.specs.Sound.{AreSound}
use Rattle.fc_tree.proofs.WalkedLemmas.{same_some, root, root_path, few_objects}
use Rattle.fc_tree.proofs.SoundLemmas.{folds_alike, root_object}
use Rattle.fc_tree.proofs.TreeLemmas.{object_of_node, node_of_object}
use Rattle.fc_tree.proofs.NumberLemmas.{number_from-push}
use Rattle.fc_tree.proofs.PlaceLemmas.{same_number, child_stands, one_path, each_taken}
use Rattle.fc_image.proofs.CommandLemmas.{same_by_folds}

-- ---- one step in the tree

pub below_some : (t : Tree) (seen : Path) (name : List ℕ) (names : Path) (node : ModelNode) → node_at t seen ≡ Some node
    → found_below t seen (name ∷ names) ≡ (if is_directory_body node.body then found_below t (seen ++ name ∷ []) names else Err refusals.NotDirectory)
below_some t seen name names node e = rw e refl

pub below_none : (t : Tree) (seen names : Path) → node_at t seen ≡ None → found_below t seen names ≡ Err refusals.NotFound
below_none t seen [] e = ap node_or_absent e
below_none t seen (name ∷ names) e = rw e refl

-- ---- nodes and objects

module _ (layout : Layout) (listings : List Listing) (nodes : FinMap nat_cmp Node) (sound : AreSound layout listings) (held : HoldObjects nodes listings) where
  abbrev num : Object → ℕ
  num o = unwrap_or (number_of nodes o.path) 0

  num_is : (o : Object) → Contains (objects_of listings) o → number_of nodes o.path ≡ Some (num o)
  num_is o at = let h = (held.each o at).at_path in h ∙ ap (λ (r : Option ℕ). let s : Option ℕ = Some (unwrap_or r 0) in s) (sym h)

  entry_at : (o : Object) (n : ℕ) → Contains (objects_of listings) o → number_of nodes o.path ≡ Some n → option_map (λ m. m.entry) (get nodes n) ≡ Some o.entry
  entry_at o n at e =
      let h = held.each o at in
      ap (λ k. option_map (λ m. m.entry) (get nodes k)) (same_some n h.number (sym e ∙ h.at_path)) ∙ ap (option_map (λ m. m.entry)) h.is

  pub directory_at : (o : Object) (n : ℕ) → Contains (objects_of listings) o → number_of nodes o.path ≡ Some n → is_directory_node nodes n ≡ is_directory_object o
  directory_at o n at e =
      let h = held.each o at in
      ap (is_directory_node nodes) (same_some n h.number (sym e ∙ h.at_path)) ∙ ap (λ r. option_map_or (λ m. is_directory m.entry.attrs) r false) h.is

  -- each node is an object's
  pub object_of_number : (n : ℕ) (node : Node) → get nodes n ≡ Some node → (o : Object) × Contains (objects_of listings) o × (number_of nodes o.path ≡ Some n)
  object_of_number n node h =
      let taken = each_taken num (objects_of listings) nodes n has own (few_objects layout listings sound) held.no_more (ap is_some h) in
      (taken.0, taken.1, num_is taken.0 taken.1 ∙ ap (λ (k : ℕ). let r : Option ℕ = Some k in r) taken.2)
    where
      has : (o : Object) → Contains (objects_of listings) o → is_some (get nodes (num o)) ≡ true
      has o at = let h = held.each o at in ap (λ k. is_some (get nodes k)) (same_some (num o) h.number (sym (num_is o at) ∙ h.at_path)) ∙ ap is_some h.is

      own : (o p : Object) → Contains (objects_of listings) o → Contains (objects_of listings) p → num o ≡ num p → is_same_path o.path p.path ≡ true
      own o p at bt e =
          same_by_folds o.path p.path (one_path nodes (num o) (length o.path) o.path p.path refl (num_is o at) (num_is p bt ∙ ap (λ (k : ℕ). let r : Option ℕ = Some k in r) (sym e)))

  -- the number of a path with one name more
  next_number : (o : Object) (seen : Path) (name : List ℕ) (at : ℕ) → is_same_path seen o.path ≡ true → number_of nodes o.path ≡ Some at
      → number_of nodes (seen ++ name ∷ []) ≡ child nodes at name
  next_number o seen name at same e =
      number_from-push nodes 0 seen name ∙ ap (option_and_then (λ dir. child nodes dir name)) (same_number nodes seen o.path (folds_alike seen o.path same) ∙ e)

  pub stepped : (o : Object) (seen : Path) (name : List ℕ) (at n : ℕ) → is_same_path seen o.path ≡ true → number_of nodes o.path ≡ Some at → child nodes at name ≡ Some n
      → (p : Object) × Contains (objects_of listings) p × (is_same_path (seen ++ name ∷ []) p.path ≡ true) × (number_of nodes p.path ≡ Some n)
  stepped o seen name at n same e h =
      let s = child_stands nodes at name n h in
      let p = object_of_number n s.node s.is in
      (p.0, p.1, same_by_folds (seen ++ name ∷ []) p.0.path (one_path nodes n (length (seen ++ name ∷ [])) (seen ++ name ∷ []) p.0.path refl (next_number o seen name at same e ∙ h) p.2), p.2)

module _ (image : List ℕ) (layout : Layout) (listings : List Listing) (nodes : FinMap nat_cmp Node) (sound : AreSound layout listings) (held : HoldObjects nodes listings) where
  abbrev tree : Tree
  tree = tree_of image layout listings

  pub nothing_there : (o : Object) (seen : Path) (name : List ℕ) (at : ℕ) → is_same_path seen o.path ≡ true → number_of nodes o.path ≡ Some at → child nodes at name ≡ None
      → node_at tree (seen ++ name ∷ []) ≡ None
  nothing_there o seen name at same e h = by (node_at tree (seen ++ name ∷ [])) refl
    where
      never : (n : ℕ) → Some n ≡ None → ⊥
      never n i = cc

      by : (r : Option ModelNode) → node_at tree (seen ++ name ∷ []) ≡ r → r ≡ None
      by None f = refl
      by (Some node) f =
          let p = object_of_node image layout listings (seen ++ name ∷ []) node f in
          let there = (held.each p.0 p.1) in
          absurd (never there.number (sym there.at_path ∙ sym (same_number nodes (seen ++ name ∷ []) p.0.path (folds_alike (seen ++ name ∷ []) p.0.path p.2))
          ∙ next_number layout listings nodes sound held o seen name at same e ∙ h))

  alike : (names : Path) (o : Object) (seen : Path) (at : ℕ) → Contains (objects_of listings) o → is_same_path seen o.path ≡ true → number_of nodes o.path ≡ Some at
      → AreAlike nodes image layout listings (seen ++ names) (found_from nodes at names) (found_below tree seen names)
  alike [] o seen at c same e =
      subst (λ (r : Option ModelNode). AreAlike nodes image layout listings (seen ++ []) (founds.Node at) (node_or_absent r)) (sym (node_of_object image layout listings sound seen o c same))
      (o, c, subst (λ (p : Path). is_same_path p o.path ≡ true) (sym (append-nil seen)) same, e, entry_at layout listings nodes sound held o at c e, refl)
  alike (name ∷ names) o seen at c same e =
      subst (λ (r : Result ModelNode Refusal). AreAlike nodes image layout listings (seen ++ name ∷ names) (found_from nodes at (name ∷ names)) r)
      (sym (below_some tree seen name names (node_of image layout o) (node_of_object image layout listings sound seen o c same)))
      (rw (directory_at layout listings nodes sound held o at c e) (by (is_directory_object o) (child nodes at name) refl
      (λ p n d s f. alike names p (seen ++ name ∷ []) n d s f)))
    where
      by : (d : Bool) (next : Option ℕ) → child nodes at name ≡ next
          → ((p : Object) (n : ℕ) → Contains (objects_of listings) p → is_same_path (seen ++ name ∷ []) p.path ≡ true → number_of nodes p.path ≡ Some n
          → AreAlike nodes image layout listings ((seen ++ name ∷ []) ++ names) (found_from nodes n names) (found_below tree (seen ++ name ∷ []) names))
          → AreAlike nodes image layout listings (seen ++ name ∷ names) (if d then option_map_or (λ n. found_from nodes n names) next founds.Absent else founds.NotDirectory)
          (if is_directory_body (if d then ModelBody.Directory else ModelBody.File (object_bytes image layout o)) then found_below tree (seen ++ name ∷ []) names else Err refusals.NotDirectory)
      by false next h more = tt
      by true None h more =
          subst (λ (r : Result ModelNode Refusal). AreAlike nodes image layout listings (seen ++ name ∷ names) founds.Absent r)
          (sym (below_none tree (seen ++ name ∷ []) names (nothing_there o seen name at same e h))) tt
      by true (Some n) h more =
          let p = stepped layout listings nodes sound held o seen name at n same e h in
          subst (λ (q : Path). AreAlike nodes image layout listings q (found_from nodes n names) (found_below tree (seen ++ name ∷ []) names)) (append_assoc seen (name ∷ []) names)
          (more p.0 n p.1 p.2 p.3)

pub find_law : FindLaw
find_law image layout listings nodes path sound held =
    let top = root_path layout listings sound in
    alike image layout listings nodes sound held path (root layout listings sound) [] 0 (root_object layout listings sound) (ap (is_same_path []) top) (ap (number_of nodes) top)
