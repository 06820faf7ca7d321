-- Nodes that fit listings follow them: each walk that finds them finds the objects that the nodes hold.
use Rattle.std.proofs.Common.{◌≡◌, ⊎_elim, ℕ, ◌+◌, Bool, true, false, List, [], length, refl, sym, ap, subst, ◌∙◌, arith, Option, Some, None}
use Rattle.std.specs.Prelude.{Contains, IsPermutation, Ok}
use Rattle.std.specs.Option.{option_map, option_and_then}
use Rattle.std.specs.FinMap.{get, len}
use Rattle.std.proofs.lemmas.List.Sorted.{IsPermutation-sym, Contains-permutation, length_permutation}
use Rattle.fc_names.specs.Names.{Path}
use Rattle.fc_model.specs.Tree.{holder}
use Rattle.fc_dirs.specs.Directory.{Directory}
use Rattle.fc_image.specs.Layout.{Layout}
use Rattle.fc_image.specs.Walk.{Object, Listing, is_directory_object}
use Rattle.fc_image.specs.Objects.{objects_of, listing_at}
use Rattle.fc_image.specs.Order.{held}
use Rattle.fc_image.specs.Sound.{AreSound}
use Rattle.fc_image.proofs.ShuffleLemmas.{IsPermutation-flat_map}
use Rattle.fc_tree.specs.declared.node.Body.TheVariants as bodies
use Rattle.fc_tree.specs.declared.node.Node.{Node}
use Rattle.fc_tree.specs.Nodes.{number_of, body_in, body_of, HasNode, HoldObjects}
use Rattle.fc_tree.specs.Agree.{reader_of_nodes, content_in, said_by}
use Rattle.fc_tree.proofs.MemberLemmas.{from_map, in_filter}
use Rattle.fc_tree.proofs.WalkedLemmas.{same_some, root, root_path, root_and_held, root_is_directory, child_path, listing_found, no_listing, holder-push, directories_listed}
use Rattle.fc_tree.proofs.SoundLemmas.{root_or_child, root_object}
use Rattle.fc_laws.specs.nodes.Edits.{Nodes, NodesFollow}
use Rattle.fc_laws.proofs.lemmas.nodes.ShapeLemmas.{says_at, node_there, said}
use Rattle.fc_laws.proofs.lemmas.nodes.FitsLemmas.{DirectoryFits}
use Rattle.fc_tree.proofs.FoundLemmas.{body_content as body_says}

-- Each listed directory fits.
abbrev pub AllFit : Nodes → List Listing → Type 0
AllFit nodes listings = (l : Listing) → Contains listings l → (n : ℕ) × DirectoryFits nodes n l

said_again : (o : Option Node) (dir : Directory) → option_map said o ≡ Some (body_in dir) → said_by o ≡ Ok dir
said_again None dir e = absurd (cc)
said_again (Some a) dir e = ap content_in (same_some a.body (body_in dir) e) ∙ body_says dir

module _ (nodes : Nodes) (listings : List Listing) (all : AllFit nodes listings) where
  say : (l : Listing) → Contains listings l → reader_of_nodes nodes l.object ≡ Ok l.content
  say l at =
      let f = all l at in
      ap (λ o. said_by (option_and_then (get nodes) o)) f.1.at ∙ said_again (get nodes f.0) l.content f.1.says

  module _ (layout : Layout) (found : List Listing) (sound : AreSound layout found) (same : IsPermutation listings found) where
    back : (l : Listing) → Contains found l → (n : ℕ) × DirectoryFits nodes n l
    back l at = all l (Contains-permutation found listings l (IsPermutation-sym listings found same) at)

    -- a directory among the objects has a listing
    listed : (o : Object) → Contains (objects_of found) o → is_directory_object o ≡ true → (l : Listing) × Contains found l × (l.object ≡ o)
    listed o at is =
        from_map (λ (l : Listing). l.object) found o
        (subst (λ (os : List Object). Contains os o) (directories_listed layout found sound) (in_filter is_directory_object (objects_of found) o at is))

    -- what the object's node says
    body_there : (o : Object) (n : ℕ) → Contains (objects_of found) o → number_of nodes o.path ≡ Some n → (is_directory_object o ≡ false → says_at nodes n ≡ Some bodies.File)
        → says_at nodes n ≡ Some (body_of (listing_at found o.path))
    body_there o n at e file = by (is_directory_object o) refl
      where
        by : (b : Bool) → is_directory_object o ≡ b → says_at nodes n ≡ Some (body_of (listing_at found o.path))
        by false is = file is ∙ ap (λ k. Some (body_of k)) (sym (no_listing layout found sound o at is))
        by true is =
            let l = listed o at is in
            let f = back l.0 l.1 in
            let path : l.0.object.path ≡ o.path = ap (λ (x : Object). x.path) l.2 in
            let number : n ≡ f.0 = same_some n f.0 (sym e ∙ ap (number_of nodes) (sym path) ∙ f.1.at) in
            ap (says_at nodes) number ∙ f.1.says ∙ ap (λ k. Some (body_of k)) (sym (listing_found layout found sound l.0 l.1))
            ∙ ap (λ p. Some (body_of (listing_at found p))) path

    root_node : HasNode nodes found (root layout found sound)
    root_node =
        let o = root layout found sound in
        let top : o.path ≡ [] = root_path layout found sound in
        let is = root_is_directory layout found sound in
        let l = listed o (root_object layout found sound) is in
        let f = back l.0 l.1 in
        let held = f.1.root (ap (λ (x : Object). x.path) l.2 ∙ top) ∙ ap (λ (x : Object). Some (0, x.entry)) l.2 in
        let here : number_of nodes o.path ≡ Some 0 = ap (number_of nodes) top in
        let never : is_directory_object o ≡ false → says_at nodes 0 ≡ Some bodies.File = λ no'. (let two : true ≡ false = sym is ∙ no' in absurd (cc)) in
        record {
          number = 0;
          holder_number = 0;
          at_path = here;
          at_holder = ap (λ (p : Path). number_of nodes (holder p)) top;
          is = node_there nodes 0 0 o.entry (body_of (listing_at found o.path)) held (body_there o 0 (root_object layout found sound) here never);
        }

    child_node : (l : Listing) (o : Object) → Contains found l → Contains l.children o → Contains (objects_of found) o → HasNode nodes found o
    child_node l o at kid among =
        let f = back l at in
        let k = f.1.kids o kid in
        let path = child_path layout found sound l o at kid in
        record {
          number = k.0;
          holder_number = f.0;
          at_path = k.1.at;
          at_holder = ap (number_of nodes) (ap holder path ∙ holder-push l.object.path o.entry.name) ∙ f.1.at;
          is = node_there nodes k.0 f.0 o.entry (body_of (listing_at found o.path)) k.1.held (body_there o k.0 among k.1.at k.1.file);
        }

    each_node : (o : Object) → Contains (objects_of found) o → HasNode nodes found o
    each_node o at =
        ⊎_elim (λ top. subst (HasNode nodes found) top root_node) (λ kid. child_node kid.0 o kid.1 kid.2 at) (root_or_child layout found sound o at)

    hold : len nodes ≡ 1 + length (held listings) → HoldObjects nodes found
    hold count = record {
      each = each_node;
      no_more = let whole = ap (λ (os : List Object). length os) (root_and_held layout found sound) in
          let order = length_permutation (held listings) (held found) (IsPermutation-flat_map (λ (l : Listing). l.children) listings found same) in
          omega (arith, whole, order, count);
    }

  pub follow : len nodes ≡ 1 + length (held listings) → NodesFollow nodes listings
  follow count = record { say = say; hold = λ layout found sound same. hold layout found sound same count }
