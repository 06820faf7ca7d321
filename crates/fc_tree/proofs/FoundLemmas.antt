-- What is found among the nodes tells of the tree of the image: the refusal of a path, and the object of a node.
use Rattle.std.proofs.Common.{◌≡◌, ℕ, Bool, true, false, List, [], ◌∷◌, ◌++◌, refl, sym, ap, subst, ◌∙◌, Option, Some, None, nat_cmp, if◌then◌else◌}
use Rattle.std.specs.Prelude.{Contains, Ok, Err}
use Rattle.std.specs.Option.{option_map_or}
use Rattle.std.specs.FinMap.{FinMap, get}
use Rattle.fc_names.specs.declared.refusal.Refusal.{Refusal}
use Rattle.fc_names.specs.declared.refusal.Refusal.TheVariants as refusals
use Rattle.fc_names.specs.Names.{Path, is_same_path}
use Rattle.fc_model.specs.Tree.{Node as ModelNode, Body as ModelBody, is_directory_body}
use Rattle.fc_model.specs.Answer.{found, found_below, node_or_absent, path_refusal, refusal_of}
use Rattle.fc_dirs.specs.declared.DirFault.TheVariants as dirs
use Rattle.fc_dirs.specs.Directory.{Directory}
use Rattle.fc_image.specs.Layout.{Layout}
use Rattle.fc_image.specs.Walk.{Object, Listing, is_directory_object, object_bytes}
use Rattle.fc_image.specs.Objects.{objects_of, listing_at, node_of, tree_of}
use Rattle.fc_tree.specs.declared.node.Body.TheVariants as bodies
use Rattle.fc_tree.specs.declared.node.Node.{Node}
use Rattle.fc_tree.specs.declared.node.Found.{Found}
use Rattle.fc_tree.specs.declared.node.Found.TheVariants as founds
use Rattle.fc_tree.specs.Nodes.{child, number_of, found_from, found_in, body_in, body_of, HoldObjects}
use Rattle.fc_tree.specs.Agree.{content_in}
use Rattle.fc_tree.specs.Laws.{AreAlike}
use Rattle.fc_image.specs.Sound.{AreSound}
use Rattle.fc_tree.proofs.WalkedLemmas.{same_some, root, root_path, directories_listed, listing_found}
use Rattle.fc_tree.proofs.MemberLemmas.{from_map, in_filter}
use Rattle.fc_tree.proofs.SoundLemmas.{root_object}
use Rattle.fc_tree.proofs.TreeLemmas.{node_of_object}
use Rattle.fc_tree.proofs.FindLemmas.{find_law, below_some, below_none, directory_at, stepped, nothing_there}
use Rattle.std.proofs.lemmas.Bool.{false_from_ne_true as unless}

-- ---- refusals

-- why a path leads nowhere
abbrev pub refusal_in : Found → Option Refusal
refusal_in (founds.Node n) = None
refusal_in founds.Absent = Some refusals.NotFound
refusal_in founds.NotDirectory = Some refusals.NotDirectory

module _ (image : List ℕ) (layout : Layout) (listings : List Listing) (nodes : FinMap nat_cmp Node) (sound : AreSound layout listings) (held : HoldObjects nodes listings) where
  refused_below : (names : Path) (o : Object) (seen : Path) (at : ℕ) → Contains (objects_of listings) o → is_same_path seen o.path ≡ true → number_of nodes o.path ≡ Some at
      → refusal_of (found_below (tree_of image layout listings) seen names) ≡ refusal_in (found_from nodes at names)
  refused_below [] o seen at c same e = ap (λ (r : Option ModelNode). refusal_of (node_or_absent r)) (node_of_object image layout listings sound seen o c same)
  refused_below (name ∷ names) o seen at c same e =
      ap refusal_of (below_some (tree_of image layout listings) seen name names (node_of image layout o) (node_of_object image layout listings sound seen o c same))
      ∙ rw (directory_at layout listings nodes sound held o at c e) (by (is_directory_object o) (child nodes at name) refl (λ p n d s f. refused_below names p (seen ++ name ∷ []) n d s f))
    where
      by : (d : Bool) (next : Option ℕ) → child nodes at name ≡ next
          → ((p : Object) (n : ℕ) → Contains (objects_of listings) p → is_same_path (seen ++ name ∷ []) p.path ≡ true → number_of nodes p.path ≡ Some n
          → refusal_of (found_below (tree_of image layout listings) (seen ++ name ∷ []) names) ≡ refusal_in (found_from nodes n names))
          → refusal_of (if is_directory_body (if d then ModelBody.Directory else ModelBody.File (object_bytes image layout o))
          then found_below (tree_of image layout listings) (seen ++ name ∷ []) names else Err refusals.NotDirectory)
          ≡ refusal_in (if d then option_map_or (λ n. found_from nodes n names) next founds.Absent else founds.NotDirectory)
      by false next h more = refl
      by true None h more =
          ap refusal_of (below_none (tree_of image layout listings) (seen ++ name ∷ []) names (nothing_there image layout listings nodes sound held o seen name at same e h))
      by true (Some n) h more =
          let p = stepped layout listings nodes sound held o seen name at n same e h in
          more p.0 n p.1 p.2 p.3

  -- A path is refused in the tree as among the nodes.
  pub path_refused : (path : Path) → path_refusal (tree_of image layout listings) path ≡ refusal_in (found_in nodes path)
  path_refused path =
      let top = root_path layout listings sound in
      refused_below path (root layout listings sound) [] 0 (root_object layout listings sound) (ap (is_same_path []) top) (ap (number_of nodes) top)

-- ---- a node that is found

-- the object of a node to which a path leads
pub record IsFound (image : List ℕ) (layout : Layout) (listings : List Listing) (path : Path) (node : Node) : Type 0 where
  pub object : Object
  pub among : Contains (objects_of listings) object
  pub same : is_same_path path object.path ≡ true
  pub entry : node.entry ≡ object.entry
  pub body : node.body ≡ body_of (listing_at listings object.path)
  pub found_is : found (tree_of image layout listings) path ≡ Ok (node_of image layout object)

-- ---- the listing of a directory

pub body_content : (dir : Directory) → content_in (body_in dir) ≡ Ok dir
body_content (Directory.Small dir) = refl
body_content (Directory.Big dir) = refl

module _ (layout : Layout) (listings : List Listing) (sound : AreSound layout listings) (o : Object) (among : Contains (objects_of listings) o) where
  -- A node's body that is a file is that of a file.
  pub file_of_body : body_of (listing_at listings o.path) ≡ bodies.File → is_directory_object o ≡ false
  file_of_body h = unless (is_directory_object o) (λ dir.
      let listed = from_map (λ (l : Listing). l.object) listings o
      (subst (λ (os : List Object). Contains os o) (directories_listed layout listings sound) (in_filter is_directory_object (objects_of listings) o among dir)) in
      let at : listing_at listings o.path ≡ Some listed.0 = ap (λ (p : Object). listing_at listings p.path) (sym listed.2) ∙ listing_found layout listings sound listed.0 listed.1 in
      let content : body_in listed.0.content ≡ bodies.File = ap body_of (sym at) ∙ h in
      let both : Ok listed.0.content ≡ Err dirs.Magic = sym (body_content listed.0.content) ∙ ap content_in content in
      absurd (cc))
