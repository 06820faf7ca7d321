-- The node of each object is found at its path, and says what the object's listing says.
use Rattle.std.proofs.Common.{◌≡◌, ◌<◌, ℕ, zero, suc, ◌+◌, Bool, true, false, List, [], ◌∷◌, ◌++◌, length, map, refl, sym, ap, subst, ◌∙◌, Option, Some, None, arith, length-append, ⊎_elim}
use Rattle.std.specs.Prelude.{Contains, if◌then◌else◌}
use Rattle.std.specs.Option.{option_map_or}
use Rattle.std.specs.Ordering.{nat_cmp}
use Rattle.std.specs.FinMap.{FinMap, get}
use Rattle.fc_names.specs.Names.{Path}
use Rattle.fc_dirs.specs.Directory.{Directory, entries_of}
use Rattle.fc_image.specs.Layout.{Layout}
use Rattle.fc_image.specs.Sound.{AreSound}
use Rattle.fc_image.specs.Walk.{Listing, Object, is_directory_object}
use Rattle.fc_image.specs.Objects.{listing_at, objects_of}
use Rattle.fc_tree.specs.declared.node.Found.{Found}
use Rattle.fc_tree.specs.declared.node.Found.TheVariants as founds
use Rattle.fc_tree.specs.declared.node.Node.{Node}
use Rattle.fc_tree.specs.Nodes.{HoldObjects, body_in, body_of, child, found_from, found_in, is_directory_node, number_of}
use Rattle.fc_tree.proofs.FindLemmas.{directory_at}
use Rattle.fc_tree.proofs.PlaceLemmas.{LastStep, last_step}
use Rattle.fc_tree.proofs.SoundLemmas.{root_or_child}
use Rattle.fc_tree.proofs.WalkedLemmas.{child_path, listed_directory, listing_found, no_listing, root, root_path, same_some}
use Rattle.fc_fit.specs.Found.{entries_in, node_found, node_in}

-- where a name more leads
pub found_push : (nodes : FinMap nat_cmp Node) (at : ℕ) (path : Path) (name : List ℕ) (dir n : ℕ) → found_from nodes at path ≡ founds.Node dir
    → is_directory_node nodes dir ≡ true → child nodes dir name ≡ Some n → found_from nodes at (path ++ name ∷ []) ≡ founds.Node n
found_push nodes at [] name dir n is directory step = by (is_directory_node nodes at) (child nodes at name) (ap (is_directory_node nodes) same ∙ directory) (ap (λ (k : ℕ). child nodes k name) same ∙ step)
  where
    same : at ≡ dir
    same = cc

    by : (d : Bool) (o : Option ℕ) → d ≡ true → o ≡ Some n → (if d then option_map_or (λ next. found_from nodes next []) o founds.Absent else founds.NotDirectory) ≡ founds.Node n
    by true (Some k) e f = ap founds.Node (same_some k n f)
    by true None e f = absurd (cc)
    by false o e f = absurd (cc)
found_push nodes at (x ∷ path) name dir n is directory step = by (is_directory_node nodes at) (child nodes at x) is (λ next h. found_push nodes next path name dir n h directory step)
  where
    by : (d : Bool) (o : Option ℕ) → (if d then option_map_or (λ next. found_from nodes next path) o founds.Absent else founds.NotDirectory) ≡ founds.Node dir
        → ((next : ℕ) → found_from nodes next path ≡ founds.Node dir → found_from nodes next (path ++ name ∷ []) ≡ founds.Node n)
        → (if d then option_map_or (λ next. found_from nodes next (path ++ name ∷ [])) o founds.Absent else founds.NotDirectory) ≡ founds.Node n
    by true (Some next) h more = more next h
    by true None h more = absurd (cc)
    by false o h more = absurd (cc)

-- an object's number, and that its path leads there
pub record IsThere (nodes : FinMap nat_cmp Node) (o : Object) : Type 0 where
  pub number : ℕ
  pub numbered : number_of nodes o.path ≡ Some number
  pub found : found_in nodes o.path ≡ founds.Node number

module _ (layout : Layout) (listings : List Listing) (nodes : FinMap nat_cmp Node) (sound : AreSound layout listings) (held : HoldObjects nodes listings) where
  -- from the directory that holds it
  there_below : (o : Object) → Contains (objects_of listings) o → (l : Listing) → Contains listings l → Contains l.children o → IsThere nodes l.object → IsThere nodes o
  there_below o among l at_l at_o above =
      let path = child_path layout listings sound l o at_l at_o in
      let dir = listed_directory layout listings sound l at_l in
      let own = held.each o among in
      let step = last_step nodes l.object.path o.entry.name own.number (ap (number_of nodes) (sym path) ∙ own.at_path) in
      let same : step.dir ≡ above.number = same_some step.dir above.number (sym step.above ∙ above.numbered) in
      let is_dir = directory_at layout listings nodes sound held l.object above.number dir.0 above.numbered ∙ dir.1 in
      record {
        number = own.number;
        numbered = own.at_path;
        found = ap (found_in nodes) path
            ∙ found_push nodes 0 l.object.path o.entry.name above.number own.number above.found is_dir (ap (λ (k : ℕ). child nodes k o.entry.name) (sym same) ∙ step.step);
      }

  there_at_top : (o : Object) → root layout listings sound ≡ o → IsThere nodes o
  there_at_top o same =
      let top : o.path ≡ [] = ap (λ (x : Object). x.path) (sym same) ∙ root_path layout listings sound in
      record { number = 0; numbered = ap (number_of nodes) top; found = ap (found_in nodes) top }

  -- a directory's path is shorter
  shorter : (o : Object) (l : Listing) → Contains listings l → Contains l.children o → length o.path ≡ length l.object.path + 1
  shorter o l at_l at_o = ap length (child_path layout listings sound l o at_l at_o) ∙ length-append l.object.path (o.entry.name ∷ [])

  object_there : (long : ℕ) (o : Object) → Contains (objects_of listings) o → length o.path ≡ long → IsThere nodes o
  object_there zero o among is =
      ⊎_elim (λ same. there_at_top o same) (λ under. absurd (omega (arith, is, shorter o under.0 under.1 under.2))) (root_or_child layout listings sound o among)
  object_there (suc k) o among is =
      ⊎_elim (λ same. there_at_top o same)
      (λ under. there_below o among under.0 under.1 under.2
      (object_there k under.0.object (listed_directory layout listings sound under.0 under.1).0 (omega (arith, is, shorter o under.0 under.1 under.2))))
      (root_or_child layout listings sound o among)

  -- an object's node
  pub node_of_object : (o : Object) → Contains (objects_of listings) o
      → (node : Node) × (node_in nodes o.path ≡ Some node) × (node.entry ≡ o.entry) × (node.body ≡ body_of (listing_at listings o.path))
  node_of_object o among =
      let there = object_there (length o.path) o among refl in
      let own = held.each o among in
      let same : there.number ≡ own.number = same_some there.number own.number (sym there.numbered ∙ own.at_path) in (
        record { holder = own.holder_number; entry = o.entry; body = body_of (listing_at listings o.path) },
        ap (node_found nodes) there.found ∙ ap (get nodes) same ∙ own.is,
        refl,
        refl,
      )

  -- of a directory it has the entries,
  pub entries_of_listing : (l : Listing) (node : Node) → Contains listings l → node.body ≡ body_of (listing_at listings l.object.path) → entries_in node.body ≡ entries_of l.content
  entries_of_listing l node among is = ap entries_in (is ∙ ap body_of (listing_found layout listings sound l among)) ∙ by l.content
    where
      by : (dir : Directory) → entries_in (body_in dir) ≡ entries_of dir
      by (Directory.Small dir) = refl
      by (Directory.Big dir) = refl

  -- and of a file none
  pub entries_of_file : (o : Object) (node : Node) → Contains (objects_of listings) o → is_directory_object o ≡ false → node.body ≡ body_of (listing_at listings o.path) → entries_in node.body ≡ []
  entries_of_file o node among file is = ap entries_in (is ∙ ap body_of (no_listing layout listings sound o among file))
