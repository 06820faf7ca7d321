-- The directory that holds what is at a path, and whether something is there.
use Rattle.std.proofs.Common.{◌≡◌, ◌<◌, ℕ, Bool, true, false, ◌&&◌, List, [], ◌∷◌, ◌++◌, length, refl, sym, ap, ap₂, subst, ◌∙◌, arith, eqb-true, Option, Some, None, nat_cmp, is_some, if◌then◌else◌}
use Rattle.std.specs.Prelude.{Contains, Result, Ok, Err}
use Rattle.std.specs.FinMap.{FinMap}
use Rattle.fc_names.specs.declared.refusal.Refusal.{Refusal}
use Rattle.fc_names.specs.declared.refusal.Refusal.TheVariants as refusals
use Rattle.fc_names.specs.Names.{Path, is_same_name, is_same_path}
use Rattle.fc_model.specs.Tree.{Node as ModelNode, holder, is_directory_body, last_name, node_at}
use Rattle.fc_model.specs.Answer.{found, holder_refusal, is_present, is_root, refusal_of_holder, refusal_of as model_refusal}
use Rattle.fc_dirs.specs.declared.Entry.{Entry}
use Rattle.fc_dirs.specs.Entries.{has_name}
use Rattle.fc_dirs.specs.Directory.{entries_of}
use Rattle.fc_image.specs.Layout.{Layout}
use Rattle.fc_image.specs.Walk.{Object, Listing, is_directory_object}
use Rattle.fc_image.specs.Objects.{objects_of, tree_of}
use Rattle.fc_image.specs.Sound.{AreSound}
use Rattle.fc_image.proofs.PathsLemmas.{cut, same_last}
use Rattle.fc_tree.specs.declared.node.Node.{Node}
use Rattle.fc_tree.specs.declared.node.Found.{Found}
use Rattle.fc_tree.specs.declared.node.Found.TheVariants as founds
use Rattle.fc_tree.specs.Nodes.{child, found_in, is_directory_node, number_of, HoldObjects}
use Rattle.fc_tree.specs.Laws.{AreAlike}
use Rattle.fc_tree.proofs.FindLemmas.{directory_at, find_law, nothing_there, stepped}
use Rattle.fc_tree.proofs.FoundLemmas.{path_refused, refusal_in}
use Rattle.fc_tree.proofs.MemberLemmas.{from_map, in_filter}
use Rattle.fc_tree.proofs.SoundLemmas.{children_stored}
use Rattle.fc_tree.proofs.TreeLemmas.{no_object, node_of_object}
use Rattle.fc_tree.proofs.WalkedLemmas.{child_is_object, child_path, contained, directories_listed, find_nothing, holder-push}
use Rattle.fc_refusals.specs.Places.{directory_found, own_name}
use Rattle.fc_refusals.specs.Targets.{IsVacant, refusal_of}
use Rattle.fc_refusals.proofs.FoundLemmas.{LeadsTo, leads_to}
use Rattle.fc_refusals.proofs.NodeLemmas.{body_test}
use Rattle.std.proofs.lemmas.Bool.{false_from_ne_true as unless}
use Rattle.fc_image.proofs.RenameLemmas.{last_pushed}

-- ---- paths with a last name

-- a path that isn't the root's is its holder's with its last name
pub record IsNamed (path : Path) (name : List ℕ) : Type 0 where
  pub other : false ≡ is_root path
  pub last : name ≡ last_name path
  pub whole : path ≡ holder path ++ name ∷ []
  pub some : 0 < length path

pub named : (path : Path) (name : List ℕ) → Some name ≡ own_name path → IsNamed path name
named [] name e = absurd (cc)
named (x ∷ path) name e =
    let c = cut x path in
    let last : last_name (x ∷ path) ≡ c.last = ap last_name c.is ∙ last_pushed c.front c.last in
    let same : name ≡ last_name (x ∷ path) = one name (last_name (x ∷ path)) e in
    let front : holder (x ∷ path) ≡ c.front = ap holder c.is ∙ holder-push c.front c.last in
    record {
      other = not_root x path;
      last = same;
      whole = c.is ∙ ap₂ (λ (q : Path) (n : List ℕ). q ++ n ∷ []) (sym front) (sym (same ∙ last));
      some = omega arith;
    }
  where
    one : (a b : List ℕ) → Some a ≡ Some b → a ≡ b
    one a b h = cc

    not_root : (x : List ℕ) (path : Path) → false ≡ is_root (x ∷ path)
    not_root x path = sym (unless (is_root (x ∷ path)) (λ h. omega (arith, eqb-true (length (x ∷ path)) 0 h)))

pub unnamed : (path : Path) → None ≡ own_name path → path ≡ []
unnamed [] e = refl
unnamed (x ∷ path) e = absurd (cc)

-- ---- refusals

module _ (image : List ℕ) (layout : Layout) (listings : List Listing) (nodes : FinMap nat_cmp Node) (sound : AreSound layout listings) (held : HoldObjects nodes listings) where
  none_there : (r : Result ModelNode Refusal) (refusal : Refusal) → model_refusal r ≡ Some refusal → refusal_of_holder r ≡ Some refusal
  none_there (Ok m) refusal e = absurd (cc)
  none_there (Err x) refusal e = e

  directory_is : (path : Path) (f : Found) (r : Result ModelNode Refusal) → found_in nodes path ≡ f → found (tree_of image layout listings) path ≡ r → AreAlike nodes image layout listings path f r
      → refusal_of_holder r ≡ refusal_of (directory_found nodes f)
  directory_is path (founds.Node n) (Err x) i e alike = absurd alike
  directory_is path (founds.Node n) (Ok m) i e alike =
      let o = alike.0 in
      let body : is_directory_body m.body ≡ is_directory_node nodes n =
      ap (λ (x : ModelNode). is_directory_body x.body) alike.5 ∙ body_test image layout o (is_directory_object o) refl ∙ sym (directory_at layout listings nodes sound held o n alike.1 alike.3) in
      ap (λ (b : Bool). if b then (let r : Option Refusal = None in r) else Some refusals.NotDirectory) body ∙ by (is_directory_node nodes n)
    where
      by : (b : Bool) → (if b then (let r : Option Refusal = None in r) else Some refusals.NotDirectory) ≡ refusal_of (if b then Ok n else Err refusals.NotDirectory)
      by true = refl
      by false = refl
  directory_is path founds.Absent r i e alike = none_there r refusals.NotFound (ap model_refusal (sym e) ∙ path_refused image layout listings nodes sound held path ∙ ap refusal_in i)
  directory_is path founds.NotDirectory r i e alike = none_there r refusals.NotDirectory (ap model_refusal (sym e) ∙ path_refused image layout listings nodes sound held path ∙ ap refusal_in i)

  -- the holder is refused in the tree as among the nodes
  pub holder_is : (path : Path) (name : List ℕ) (r : Result ℕ Refusal) → IsNamed path name → r ≡ directory_found nodes (found_in nodes (holder path))
      → holder_refusal (tree_of image layout listings) path ≡ refusal_of r
  holder_is [] name r n e = absurd (let other = n.other in cc)
  holder_is (x ∷ path) name r n e =
      let q = holder (x ∷ path) in
      directory_is q (found_in nodes q) (found (tree_of image layout listings) q) refl refl (find_law image layout listings nodes q sound held) ∙ ap refusal_of (sym e)

-- ---- the directory

-- the path leads to the node of a directory
pub record IsDirectoryAt (listings : List Listing) (nodes : FinMap nat_cmp Node) (path : Path) (n : ℕ) : Type 0 where
  pub listing : Listing
  pub listed : Contains listings listing
  pub same : is_same_path path listing.object.path ≡ true
  pub number : number_of nodes listing.object.path ≡ Some n

found_directory : (nodes : FinMap nat_cmp Node) (f : Found) (n : ℕ) → Ok n ≡ directory_found nodes f → (Ok n ≡ Rattle.fc_refusals.specs.Places.number_found f) × (is_directory_node nodes n ≡ true)
found_directory nodes (founds.Node m) n e = by (is_directory_node nodes m) refl e
  where
    one : (a b : ℕ) → (let r : Result ℕ Refusal = Ok a in r) ≡ Ok b → a ≡ b
    one a b h = cc

    by : (b : Bool) → is_directory_node nodes m ≡ b → Ok n ≡ (if b then Ok m else Err refusals.NotDirectory) → (Ok n ≡ Rattle.fc_refusals.specs.Places.number_found (founds.Node m)) × (is_directory_node nodes n ≡ true)
    by true is h = (h, ap (is_directory_node nodes) (one n m h) ∙ is)
    by false is h = absurd (cc)
found_directory nodes founds.Absent n e = absurd (cc)
found_directory nodes founds.NotDirectory n e = absurd (cc)

module _ (layout : Layout) (listings : List Listing) (nodes : FinMap nat_cmp Node) (sound : AreSound layout listings) (held : HoldObjects nodes listings) where
  pub directory_there : (path : Path) (n : ℕ) → Ok n ≡ directory_found nodes (found_in nodes path) → IsDirectoryAt listings nodes path n
  directory_there path n e =
      let f = found_directory nodes (found_in nodes path) n e in
      let there = leads_to layout listings nodes path n sound held f.0 in
      let o = there.object in
      let dir : is_directory_object o ≡ true = sym (directory_at layout listings nodes sound held o n there.among there.number) ∙ f.1 in
      let l = from_map (λ (k : Listing). k.object) listings o
      (subst (λ (os : List Object). Contains os o) (directories_listed layout listings sound) (in_filter is_directory_object (objects_of listings) o there.among dir)) in
      record {
        listing = l.0;
        listed = l.1;
        same = subst (λ (p : Object). is_same_path path p.path ≡ true) (sym l.2) there.same;
        number = subst (λ (p : Object). number_of nodes p.path ≡ Some n) (sym l.2) there.number;
      }

  module _ (path : Path) (name : List ℕ) (dir : ℕ) (is : IsNamed path name) (above : IsDirectoryAt listings nodes (holder path) dir) where
    abbrev l : Listing
    l = above.listing

    -- the child of the name is what the path leads to
    pub child_there : (n : ℕ) → Some n ≡ child nodes dir name → LeadsTo listings nodes path n
    child_there n e =
        let s = stepped layout listings nodes sound held l.object (holder path) name dir n above.same above.number (sym e) in
        record { object = s.0; among = s.1; same = subst (λ (p : Path). is_same_path p s.0.path ≡ true) (sym is.whole) s.2; number = s.3 }

    -- without one nothing is there
    pub no_child : (image : List ℕ) → None ≡ child nodes dir name → node_at (tree_of image layout listings) path ≡ None
    no_child image e =
        ap (node_at (tree_of image layout listings)) is.whole
        ∙ nothing_there image layout listings nodes sound held l.object (holder path) name dir above.same above.number (sym e)

    -- something is there if the directory has a child of the name
    pub present_is : (image : List ℕ) → is_some (child nodes dir name) ≡ is_present (tree_of image layout listings) path
    present_is image = by (child nodes dir name) refl
      where
        by : (m : Option ℕ) → child nodes dir name ≡ m → is_some m ≡ is_present (tree_of image layout listings) path
        by None e = ap is_some (sym (no_child image (sym e)))
        by (Some n) e =
            let there = child_there n (sym e) in
            ap is_some (sym (node_of_object image layout listings sound path there.object there.among there.same))

    -- no object is at the path then
    pub never_there : None ≡ child nodes dir name → (p : Object) → Contains (objects_of listings) p → is_same_path path p.path ≡ true → ⊥
    never_there e p at same = no_object [] layout listings path p (no_child [] e) at same

    -- a child of the listing with the name is at the path
    pub named_there : (p : Object) → Contains l.children p → is_same_name name p.entry.name ≡ true → is_same_path path p.path ≡ true
    named_there p at same =
        ap₂ is_same_path is.whole (child_path layout listings sound l p above.listed at)
        ∙ same_last (holder path) l.object.path name p.entry.name
        ∙ ap₂ (λ (a b : Bool). a && b) above.same same

    pub vacant_is : None ≡ child nodes dir name → IsVacant nodes listings path dir
    vacant_is e = record {
      listing = l;
      listed = above.listed;
      above = above.same;
      holder_is = above.number;
      no_root = is.some;
      absent = find_nothing (λ (p : Object). is_same_path path p.path) (objects_of listings)
          (λ j p at. unless (is_same_path path p.path) (never_there e p (contained (objects_of listings) j p at)));
      no_name = ap (λ (n : List ℕ). has_name (entries_of l.content) n) (sym is.last)
          ∙ ap is_some (find_nothing (λ (d : Entry). is_same_name name d.name) (entries_of l.content)
          (λ j d at. unless (is_same_name name d.name) (λ same.
          let p = from_map (λ (x : Object). x.entry) l.children d (subst (λ (es : List Entry). Contains es d) (sym (children_stored layout listings sound l above.listed)) (contained (entries_of l.content) j d at)) in
          never_there e p.0 (child_is_object layout listings sound l p.0 above.listed p.1) (named_there p.0 p.1 (ap (λ (x : Entry). is_same_name name x.name) p.2 ∙ same)))));
    }
