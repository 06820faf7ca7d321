-- What the node to which a path leads says of the tree.
use Rattle.std.proofs.Common.{◌≡◌, inl, inr, ℕ, Bool, true, false, false, List, [], ◌∷◌, length, map, nat_lt, refl, sym, ap, subst, ◌∙◌, Option, Some, None, nat_cmp, if◌then◌else◌}
use Rattle.std.specs.Option.{option_map_or}
use Rattle.std.specs.FinMap.{FinMap, get}
use Rattle.std.proofs.lemmas.List.{length-map}
use Rattle.fc_names.specs.Names.{Path, is_locked}
use Rattle.fc_model.specs.Tree.{Body as ModelBody, Node as ModelNode, is_directory_body}
use Rattle.fc_model.specs.Answer.{has_entries, is_directory_at, is_locked_at}
use Rattle.fc_dirs.specs.declared.Entry.{Entry}
use Rattle.fc_image.specs.Layout.{Layout}
use Rattle.fc_image.specs.Walk.{Object, Listing, is_directory_object, object_bytes}
use Rattle.fc_image.specs.Objects.{listing_at, node_of, tree_of}
use Rattle.fc_image.specs.Sound.{AreSound}
use Rattle.fc_tree.specs.declared.node.Node.{Node}
use Rattle.fc_tree.specs.Nodes.{body_of, is_directory_node, HoldObjects}
use Rattle.fc_tree.proofs.FindLemmas.{directory_at}
use Rattle.fc_tree.proofs.FoundLemmas.{file_of_body}
use Rattle.fc_tree.proofs.SoundLemmas.{children_stored, listing_of, same_object}
use Rattle.fc_tree.proofs.TreeLemmas.{node_of_object}
use Rattle.fc_tree.proofs.WalkedLemmas.{child_is_object, contained, same_some}
use Rattle.fc_refusals.specs.declared.target.Target.{Target}
use Rattle.fc_refusals.specs.Places.{entries_at, entries_in, has_entries_at, is_locked_node}
use Rattle.fc_refusals.specs.Targets.{IsEmpty, IsRemovable, IsTarget}
use Rattle.fc_refusals.proofs.ChildLemmas.{holds_some, kids, some_there}
use Rattle.fc_refusals.proofs.FoundLemmas.{LeadsTo}
use Rattle.fc_refusals.proofs.TargetLemmas.{entries_body}

pub body_test : (image : List ℕ) (layout : Layout) (o : Object) (b : Bool) → is_directory_object o ≡ b → is_directory_body (node_of image layout o).body ≡ b
body_test image layout o true e = ap (λ (c : Bool). is_directory_body (if c then ModelBody.Directory else ModelBody.File (object_bytes image layout o))) e
body_test image layout o false e = ap (λ (c : Bool). is_directory_body (if c then ModelBody.Directory else ModelBody.File (object_bytes image layout o))) e

module _ (layout : Layout) (listings : List Listing) (nodes : FinMap nat_cmp Node) (sound : AreSound layout listings) (held : HoldObjects nodes listings)
    (path : Path) (n : ℕ) (there : LeadsTo listings nodes path n) where
  abbrev o : Object
  o = there.object

  abbrev dir : ℕ
  dir = (held.each o there.among).holder_number

  node_is : get nodes n ≡ Some (record { holder = dir; entry = o.entry; body = body_of (listing_at listings o.path) })
  node_is = let h = held.each o there.among in ap (get nodes) (same_some n h.number (sym there.number ∙ h.at_path)) ∙ h.is

  -- it is locked in the tree
  pub locked_is : (image : List ℕ) → is_locked_node nodes n ≡ is_locked_at (tree_of image layout listings) path
  locked_is image =
      ap (λ (m : Option Node). option_map_or (λ (x : Node). is_locked x.entry.attrs) m false) node_is
      ∙ ap (λ (m : Option ModelNode). option_map_or (λ (x : ModelNode). is_locked x.attrs) m false) (sym (node_of_object image layout listings sound path o there.among there.same))

  -- it is a directory's in the tree
  pub directory_is : (image : List ℕ) → is_directory_node nodes n ≡ is_directory_at (tree_of image layout listings) path
  directory_is image =
      directory_at layout listings nodes sound held o n there.among there.number
      ∙ sym (ap (λ (m : Option ModelNode). option_map_or (λ (x : ModelNode). is_directory_body x.body) m false) (node_of_object image layout listings sound path o there.among there.same)
      ∙ body_test image layout o (is_directory_object o) refl)

  its_entries : entries_at nodes n ≡ entries_in (body_of (listing_at listings o.path))
  its_entries = ap (λ (m : Option Node). option_map_or (λ (x : Node). entries_in x.body) m []) node_is

  stored : (l : Listing) → listing_at listings o.path ≡ Some l → entries_in (body_of (Some l)) ≡ map (λ (p : Object). p.entry) l.children
  stored l e = entries_body l.content ∙ sym (children_stored layout listings sound l (listing_of layout listings sound o l there.among e).0)

  -- it holds something in the tree
  pub entries_is : (image : List ℕ) → has_entries_at nodes n ≡ has_entries (tree_of image layout listings) path
  entries_is image =
      ap (λ (es : List Entry). nat_lt 0 (length es)) its_entries ∙ by (listing_at listings o.path) refl
      ∙ sym (holds_some image layout listings sound path o there.among there.same)
    where
      by : (m : Option Listing) → listing_at listings o.path ≡ m → nat_lt 0 (length (entries_in (body_of m))) ≡ nat_lt 0 (length (kids image layout listings sound path m))
      by None e = refl
      by (Some l) e = ap (nat_lt 0) (ap length (stored l e) ∙ length-map l.children (λ (p : Object). p.entry))

  -- with no entries it is a file or an empty directory
  empty_is : false ≡ has_entries_at nodes n → IsEmpty listings o
  empty_is none = by (listing_at listings o.path) refl (none ∙ ap (λ (es : List Entry). nat_lt 0 (length es)) its_entries)
    where
      by : (m : Option Listing) → listing_at listings o.path ≡ m → false ≡ nat_lt 0 (length (entries_in (body_of m))) → IsEmpty listings o
      by None e full = inl (file_of_body layout listings sound o there.among (ap body_of e))
      by (Some l) e full =
          let is = listing_of layout listings sound o l there.among e in
          inr (l, is.0, is.1, no_kids l.children (full ∙ ap (nat_lt 0) (ap length (stored l e) ∙ length-map l.children (λ (p : Object). p.entry))))
        where
          no_kids : (os : List Object) → false ≡ nat_lt 0 (length os) → os ≡ []
          no_kids [] h = refl
          no_kids (p ∷ os) h = absurd (let some = some_there p os in cc)

  pub removable : (t : Target) → IsTarget nodes listings path t → false ≡ has_entries_at nodes n → IsRemovable nodes listings path t
  removable t is none =
      let among = child_is_object layout listings sound is.listing is.object is.listed (contained is.listing.children t.at is.object is.at) in
      let one : o ≡ is.object = same_object layout listings sound path o is.object there.among among there.same is.path_is in
      record { target = is; empty = subst (IsEmpty listings) one (empty_is none) }
