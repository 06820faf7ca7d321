-- What the nodes answer to commands that read is what the model answers.
use Rattle.std.proofs.Common.{◌≡◌, ◌⊎◌, inl, inr, ⊎_elim, ℕ, Bool, true, false, List, [], ◌∷◌, refl, sym, ap, ap₂, subst, ◌∙◌, Option, Some, None, nat_cmp}
use Rattle.std.specs.Prelude.{Contains, not, MatchResult, IfErr, filter, if◌then◌else◌, option_map, Result, Ok, Err}
use Rattle.std.specs.Option.{option_map_or, unwrap_or}
use Rattle.std.specs.FinMap.{FinMap, get}
use Rattle.fc_names.specs.declared.name.NameForm.{NameForm}
use Rattle.fc_names.specs.declared.refusal.Refusal.{Refusal}
use Rattle.fc_names.specs.declared.refusal.Refusal.TheVariants as refusals
use Rattle.fc_names.specs.Names.{Path, is_directory, is_same_path}
use Rattle.fc_record.specs.declared.Kind.{Kind}
use Rattle.fc_dirs.specs.declared.Entry.{Entry}
use Rattle.fc_dirs.specs.Directory.{Directory, directory_size, entries_of}
use Rattle.fc_model.specs.Command.{Command}
use Rattle.fc_model.specs.Answer.{answer, answer_or, first_of, found, refusal_of, is_directory_at, is_file_at, when}
use Rattle.fc_model.specs.Tree.{Tree, Node as ModelNode, Body as ModelBody, bytes_of_body, bytes_of_node, node_at, is_directory_body}
use Rattle.fc_image.specs.Layout.{Layout, bytes_in, dir_form, sector_bytes, sectors_at}
use Rattle.fc_image.specs.Walk.{Object, Listing, is_directory_object, object_bytes, object_size}
use Rattle.fc_image.specs.Objects.{objects_of, node_of, tree_of, listing_at}
use Rattle.fc_image.specs.Opening.{Opened}
use Rattle.fc_image.specs.Stays.{OpensAs}
use Rattle.fc_image.specs.Edits.{AreChildren, IsAt}
use Rattle.fc_tree.specs.declared.node.Body.{Body}
use Rattle.fc_tree.specs.declared.node.Body.TheVariants as bodies
use Rattle.fc_tree.specs.declared.node.Node.{Node}
use Rattle.fc_tree.specs.declared.node.Found.{Found}
use Rattle.fc_tree.specs.declared.node.Found.TheVariants as founds
use Rattle.fc_tree.specs.Nodes.{body_in, body_of, found_in, nodes_of, number_of, HoldObjects}
use Rattle.fc_tree.specs.Parts.{ArePartsOf}
use Rattle.fc_tree.specs.Laws.{AreAlike}
use Rattle.fc_image.specs.Sound.{AreSound}
use Rattle.fc_tree.proofs.FindLemmas.{find_law}
use Rattle.fc_tree.proofs.MemberLemmas.{contains_here, from_map, no_element}
use Rattle.fc_tree.proofs.SoundLemmas.{listing_of, root_or_child}
use Rattle.fc_tree.proofs.TreeLemmas.{node_of_object}
use Rattle.fc_tree.proofs.WalkedLemmas.{directories_listed, follows_each, given, listed_directory, listing_found, place_of, root, same_some, sound_law}
use Rattle.fc_holdings.specs.declared.error.CommandError.{CommandError}
use Rattle.fc_holdings.specs.declared.error.CommandError.TheVariants.{Refused}
use Rattle.fc_volume.specs.declared.lines.FileRef.{FileRef}
use Rattle.fc_volume.specs.Answers.{IsRefusalOf, file_bytes, ref_bytes}
use Rattle.fc_volume.specs.Volume.{Volume, parts_of}
use Rattle.fc_volume.specs.Reading.{entries_at, entries_from, entries_in, entries_in_body, file_at, file_from, file_of, number_found}
use Rattle.fc_image.proofs.EntriesLemmas.{later as contains_later, cases as contains_cases}
use Rattle.fc_refusals.proofs.NodeLemmas.{body_test}

-- ---- where a path leads

absent_is : (nodes : FinMap nat_cmp Node) (image : List ℕ) (layout : Layout) (listings : List Listing) (path : Path) (r : Result ModelNode Refusal)
    → AreAlike nodes image layout listings path founds.Absent r → r ≡ Err refusals.NotFound
absent_is nodes image layout listings path (Ok node) h = absurd h
absent_is nodes image layout listings path (Err refusals.BadCommand) h = absurd h
absent_is nodes image layout listings path (Err refusals.BadName) h = absurd h
absent_is nodes image layout listings path (Err refusals.NotFound) h = refl
absent_is nodes image layout listings path (Err refusals.NotDirectory) h = absurd h
absent_is nodes image layout listings path (Err refusals.IsDirectory) h = absurd h
absent_is nodes image layout listings path (Err refusals.Exists) h = absurd h
absent_is nodes image layout listings path (Err refusals.RootRefused) h = absurd h
absent_is nodes image layout listings path (Err refusals.IntoItself) h = absurd h
absent_is nodes image layout listings path (Err refusals.Locked) h = absurd h
absent_is nodes image layout listings path (Err refusals.NotEmpty) h = absurd h
absent_is nodes image layout listings path (Err refusals.ReadOnly) h = absurd h
absent_is nodes image layout listings path (Err refusals.DirFull) h = absurd h
absent_is nodes image layout listings path (Err refusals.IdsFull) h = absurd h
absent_is nodes image layout listings path (Err refusals.DiscFull) h = absurd h
absent_is nodes image layout listings path (Err refusals.CompactionRequired) h = absurd h
absent_is nodes image layout listings path (Err refusals.MapFull) h = absurd h
absent_is nodes image layout listings path (Err refusals.NoHostFile) h = absurd h
absent_is nodes image layout listings path (Err refusals.HostTooLong) h = absurd h
absent_is nodes image layout listings path (Err refusals.HostExists) h = absurd h
absent_is nodes image layout listings path (Err refusals.NotNewMap) h = absurd h

through_is : (nodes : FinMap nat_cmp Node) (image : List ℕ) (layout : Layout) (listings : List Listing) (path : Path) (r : Result ModelNode Refusal)
    → AreAlike nodes image layout listings path founds.NotDirectory r → r ≡ Err refusals.NotDirectory
through_is nodes image layout listings path (Ok node) h = absurd h
through_is nodes image layout listings path (Err refusals.BadCommand) h = absurd h
through_is nodes image layout listings path (Err refusals.BadName) h = absurd h
through_is nodes image layout listings path (Err refusals.NotFound) h = absurd h
through_is nodes image layout listings path (Err refusals.NotDirectory) h = refl
through_is nodes image layout listings path (Err refusals.IsDirectory) h = absurd h
through_is nodes image layout listings path (Err refusals.Exists) h = absurd h
through_is nodes image layout listings path (Err refusals.RootRefused) h = absurd h
through_is nodes image layout listings path (Err refusals.IntoItself) h = absurd h
through_is nodes image layout listings path (Err refusals.Locked) h = absurd h
through_is nodes image layout listings path (Err refusals.NotEmpty) h = absurd h
through_is nodes image layout listings path (Err refusals.ReadOnly) h = absurd h
through_is nodes image layout listings path (Err refusals.DirFull) h = absurd h
through_is nodes image layout listings path (Err refusals.IdsFull) h = absurd h
through_is nodes image layout listings path (Err refusals.DiscFull) h = absurd h
through_is nodes image layout listings path (Err refusals.CompactionRequired) h = absurd h
through_is nodes image layout listings path (Err refusals.MapFull) h = absurd h
through_is nodes image layout listings path (Err refusals.NoHostFile) h = absurd h
through_is nodes image layout listings path (Err refusals.HostTooLong) h = absurd h
through_is nodes image layout listings path (Err refusals.HostExists) h = absurd h
through_is nodes image layout listings path (Err refusals.NotNewMap) h = absurd h

node_is : (nodes : FinMap nat_cmp Node) (image : List ℕ) (layout : Layout) (listings : List Listing) (path : Path) (n : ℕ) (r : Result ModelNode Refusal)
    → AreAlike nodes image layout listings path (founds.Node n) r
    → (o : Object) × Contains (objects_of listings) o × (is_same_path path o.path ≡ true) × (number_of nodes o.path ≡ Some n)
    × (option_map (λ m. m.entry) (get nodes n) ≡ Some o.entry) × (r ≡ Ok (node_of image layout o))
node_is nodes image layout listings path n (Ok node) h = (h.0, h.1, h.2, h.3, h.4, ap Ok h.5)
node_is nodes image layout listings path n (Err refusal) h = absurd h

-- ---- answers of the model

module _ (t : Tree) (form : NameForm) (read_only : Bool) (path : Path) where
  load_refused : (refusal : Refusal) → found t path ≡ Err refusal → answer t form read_only (Command.Load path) ≡ Err refusal
  unfolding answer
  load_refused refusal e = ap (λ r. answer_or t (first_of (refusal_of r ∷ when (is_directory_at t path) refusals.IsDirectory ∷ []))) e

  load_found : (node : ModelNode) (b : Bool) → found t path ≡ Ok node → is_directory_at t path ≡ b → answer t form read_only (Command.Load path) ≡ (if b then Err refusals.IsDirectory else Ok t)
  unfolding answer
  load_found node true e h = ap₂ (λ r d. answer_or t (first_of (refusal_of r ∷ when d refusals.IsDirectory ∷ []))) e h
  load_found node false e h = ap₂ (λ r d. answer_or t (first_of (refusal_of r ∷ when d refusals.IsDirectory ∷ []))) e h

  cat_refused : (refusal : Refusal) → found t path ≡ Err refusal → answer t form read_only (Command.Cat path) ≡ Err refusal
  unfolding answer
  cat_refused refusal e = ap (λ r. answer_or t (first_of (refusal_of r ∷ when (is_file_at t path) refusals.NotDirectory ∷ []))) e

  cat_found : (node : ModelNode) (b : Bool) → found t path ≡ Ok node → is_file_at t path ≡ b → answer t form read_only (Command.Cat path) ≡ (if b then Err refusals.NotDirectory else Ok t)
  unfolding answer
  cat_found node true e h = ap₂ (λ r d. answer_or t (first_of (refusal_of r ∷ when d refusals.NotDirectory ∷ []))) e h
  cat_found node false e h = ap₂ (λ r d. answer_or t (first_of (refusal_of r ∷ when d refusals.NotDirectory ∷ []))) e h

-- ---- places of objects

child_at : (layout : Layout) (path : Path) (entries : List Entry) (objects : List Object) (o : Object) → AreChildren layout path entries objects → Contains objects o → IsAt layout o
child_at layout path [] [] o c at = absurd (no_element o at)
child_at layout path (e ∷ entries) [] o c at = absurd c
child_at layout path [] (p ∷ objects) o c at = absurd c
child_at layout path (e ∷ entries) (p ∷ objects) o c at =
    ⊎_elim (λ same. subst (IsAt layout) same c.2) (λ later. child_at layout path entries objects o c.3 later) (contains_cases p o objects at)

-- each object of a sound walk has the sectors of its address
pub each_at : (layout : Layout) (listings : List Listing) → AreSound layout listings → (o : Object) → Contains (objects_of listings) o → IsAt layout o
each_at layout listings sound o at =
    let had = given layout listings sound in
    ⊎_elim (λ e. subst (IsAt layout) e had.1.placed)
    (λ held. (let place = place_of listings held.0 held.1 in
    child_at layout held.0.object.path (entries_of held.0.content) held.0.children o
    (follows_each sound.read layout (root layout listings sound ∷ []) listings had.2 place.0 held.0 place.1).1 held.2))
    (root_or_child layout listings sound o at)

pub size_of : (layout : Layout) (o : Object) → is_directory_object o ≡ false → object_size (dir_form layout) o.entry ≡ o.entry.len
size_of layout o file = ap (λ (b : Bool). if b then directory_size (dir_form layout) o.entry.len else o.entry.len) file

-- the sectors of a file, by its entry
pub file_sectors : (layout : Layout) (o : Object) → IsAt layout o → is_directory_object o ≡ false → sectors_at layout o.entry.address o.entry.len ≡ Some o.sectors
file_sectors layout o at file = ap (sectors_at layout o.entry.address) (sym (size_of layout o file)) ∙ at

-- the bytes of a file, by its entry
pub file_object : (image : List ℕ) (layout : Layout) (o : Object) → IsAt layout o → is_directory_object o ≡ false → file_bytes image layout o.entry ≡ object_bytes image layout o
file_object image layout o at file =
    ap₂ (λ (sectors : List ℕ) (n : ℕ). bytes_in (sector_bytes layout) image sectors n)
    (ap (λ (s : Option (List ℕ)). unwrap_or s []) (file_sectors layout o at file)) (sym (size_of layout o file))

entries_body : (dir : Directory) → entries_in_body (body_in dir) ≡ Ok (entries_of dir)
entries_body (Directory.Small dir) = refl
entries_body (Directory.Big dir) = refl

kept : (t : Object → Bool) (xs : List Object) (o : Object) → Contains xs o → t o ≡ true → Contains (filter t xs) o
kept t [] o at e = absurd (no_element o at)
kept t (x ∷ xs) o at e = by (t x) refl (contains_cases x o xs at) (λ later. kept t xs o later e)
  where
    by : (b : Bool) → t x ≡ b → (x ≡ o) ⊎ Contains xs o → (Contains xs o → Contains (filter t xs) o) → Contains (if b then x ∷ filter t xs else filter t xs) o
    by true h (inl same) more = subst (λ (y : Object). Contains (x ∷ filter t xs) y) same (contains_here x (filter t xs))
    by true h (inr later) more = contains_later x o (filter t xs) (more later)
    by false h (inl same) more = absurd (let g : t x ≡ t o = ap t same in cc)
    by false h (inr later) more = more later

-- ---- what is at a path

module _ (image : List ℕ) (layout : Layout) (listings : List Listing) (nodes : FinMap nat_cmp Node) (sound : AreSound layout listings) (held : HoldObjects nodes listings)
    (form : NameForm) (read_only : Bool) (path : Path) where
  abbrev tree : Tree
  tree = tree_of image layout listings

  abbrev load_answer : Result Tree Refusal
  load_answer = answer tree form read_only (Command.Load path)

  abbrev cat_answer : Result Tree Refusal
  cat_answer = answer tree form read_only (Command.Cat path)

  abbrev bytes_named : ℕ → List ℕ
  bytes_named n = option_map_or (λ (node : Node). file_bytes image layout node.entry) (get nodes n) []

  alike : AreAlike nodes image layout listings path (found_in nodes path) (found tree path)
  alike = find_law image layout listings nodes path sound held

  directory_there : (o : Object) (b : Bool) → Contains (objects_of listings) o → is_same_path path o.path ≡ true → is_directory_object o ≡ b → is_directory_at tree path ≡ b
  directory_there o b at same e =
      ap (λ (m : Option ModelNode). option_map_or (λ (n : ModelNode). is_directory_body n.body) m false) (node_of_object image layout listings sound path o at same) ∙ body_test image layout o b e

  file_there : (o : Object) (b : Bool) → Contains (objects_of listings) o → is_same_path path o.path ≡ true → is_directory_object o ≡ b → is_file_at tree path ≡ not b
  file_there o b at same e =
      ap (λ (m : Option ModelNode). option_map_or (λ (n : ModelNode). not (is_directory_body n.body)) m false) (node_of_object image layout listings sound path o at same) ∙ ap not (body_test image layout o b e)

  bytes_there : (o : Object) (n : ℕ) (node : Node) → Contains (objects_of listings) o → is_same_path path o.path ≡ true → is_directory_object o ≡ false → get nodes n ≡ Some node → node.entry ≡ o.entry
      → bytes_of_node (node_at tree path) ≡ bytes_named n
  bytes_there o n node at same file g entry =
      ap bytes_of_node (node_of_object image layout listings sound path o at same)
      ∙ ap (λ (c : Bool). bytes_of_body (if c then ModelBody.Directory else ModelBody.File (object_bytes image layout o))) file
      ∙ sym (file_object image layout o (each_at layout listings sound o at) file)
      ∙ ap (file_bytes image layout) (sym entry)
      ∙ ap (λ (m : Option Node). option_map_or (λ (x : Node). file_bytes image layout x.entry) m []) (sym g)

  -- ---- files

  abbrev LoadIs : Result FileRef CommandError → Type 0
  LoadIs result = MatchResult result (λ (f : FileRef). (load_answer ≡ Ok tree) × (bytes_of_node (node_at tree path) ≡ bytes_named f.node)) (IsRefusalOf load_answer)

  load_node : (n : ℕ) (o : Object) (m : Option Node) (node : ModelNode) → get nodes n ≡ m → Contains (objects_of listings) o → is_same_path path o.path ≡ true
      → option_map (λ (x : Node). x.entry) (get nodes n) ≡ Some o.entry → found tree path ≡ Ok node → LoadIs (file_of n m)
  load_node n o None node g at same e f = absurd (let h = ap (option_map (λ (x : Node). x.entry)) (sym g) ∙ e in cc)
  load_node n o (Some x) node g at same e f = by (is_directory x.entry.attrs) refl
    where
      entry : x.entry ≡ o.entry
      entry = same_some x.entry o.entry (ap (option_map (λ (y : Node). y.entry)) (sym g) ∙ e)

      by : (b : Bool) → is_directory x.entry.attrs ≡ b → LoadIs (if b then Err (Refused refusals.IsDirectory) else Ok (record { len = x.entry.len; node = n }))
      by true h = load_found tree form read_only path node true f (directory_there o true at same (ap (λ (d : Entry). is_directory d.attrs) (sym entry) ∙ h))
      by false h =
          let file = ap (λ (d : Entry). is_directory d.attrs) (sym entry) ∙ h in
          (load_found tree form read_only path node false f (directory_there o false at same file), bytes_there o n x at same file g entry)

  load_found_at : (f : Found) (r : Result ModelNode Refusal) → found tree path ≡ r → AreAlike nodes image layout listings path f r → LoadIs (file_from nodes (number_found f))
  load_found_at founds.Absent r e a = load_refused tree form read_only path refusals.NotFound (e ∙ absent_is nodes image layout listings path r a)
  load_found_at founds.NotDirectory r e a = load_refused tree form read_only path refusals.NotDirectory (e ∙ through_is nodes image layout listings path r a)
  load_found_at (founds.Node n) r e a =
      let is = node_is nodes image layout listings path n r a in
      load_node n is.0 (get nodes n) (node_of image layout is.0) refl is.1 is.2 is.4 (e ∙ is.5)

  -- what is loaded is what the model loads
  pub load_is : LoadIs (file_at nodes path)
  load_is = load_found_at (found_in nodes path) (found tree path) refl alike

  -- ---- directories

  -- the directory at the path has these entries, and the model lists it; or else the model refuses
  abbrev pub CatIs : Result (List Entry) CommandError → Type 0
  CatIs result = MatchResult result
      (λ (entries : List Entry). (l : Listing) × Contains listings l × (is_same_path path l.object.path ≡ true) × (entries_of l.content ≡ entries) × (cat_answer ≡ Ok tree))
      (IsRefusalOf cat_answer)

  not_listed : (o : Object) → Contains (objects_of listings) o → listing_at listings o.path ≡ None → is_directory_object o ≡ false
  not_listed o at none = by (is_directory_object o) refl
    where
      by : (b : Bool) → is_directory_object o ≡ b → b ≡ false
      by false e = refl
      by true e = absurd (
          let in_filter = kept is_directory_object (objects_of listings) o at e in
          let l = from_map (λ (k : Listing). k.object) listings o (subst (λ (os : List Object). Contains os o) (directories_listed layout listings sound) in_filter) in
          let there = listing_found layout listings sound l.0 l.1 in
          let none' : listing_at listings l.0.object.path ≡ None = ap (λ (p : Object). listing_at listings p.path) l.2 ∙ none in cc)

  cat_body : (o : Object) (x : Option Listing) (node : ModelNode) → listing_at listings o.path ≡ x → Contains (objects_of listings) o → is_same_path path o.path ≡ true
      → found tree path ≡ Ok node → CatIs (entries_in_body (body_of x))
  cat_body o None node h at same f = cat_found tree form read_only path node true f (file_there o false at same (not_listed o at h))
  cat_body o (Some l) node h at same f =
      let is = listing_of layout listings sound o l at h in
      let dir = listed_directory layout listings sound l is.0 in
      subst CatIs (sym (entries_body l.content)) (
        l,
        is.0,
        subst (λ (p : Object). is_same_path path p.path ≡ true) (sym is.1) same,
        refl,
        cat_found tree form read_only path node false f (file_there o true at same (ap is_directory_object (sym is.1) ∙ dir.1)),
      )

  cat_node : (n : ℕ) (o : Object) (m : Option Node) (node : ModelNode) → get nodes n ≡ m → Contains (objects_of listings) o → is_same_path path o.path ≡ true → number_of nodes o.path ≡ Some n
      → found tree path ≡ Ok node → CatIs (entries_in m)
  cat_node n o m node g at same number f =
      let has = held.each o at in
      let one = same_some has.number n (sym has.at_path ∙ number) in
      let is = sym g ∙ ap (get nodes) (sym one) ∙ has.is in
      subst (λ (y : Option Node). CatIs (entries_in y)) (sym is) (cat_body o (listing_at listings o.path) node refl at same f)

  cat_found_at : (f : Found) (r : Result ModelNode Refusal) → found tree path ≡ r → AreAlike nodes image layout listings path f r → CatIs (entries_from nodes (number_found f))
  cat_found_at founds.Absent r e a = cat_refused tree form read_only path refusals.NotFound (e ∙ absent_is nodes image layout listings path r a)
  cat_found_at founds.NotDirectory r e a = cat_refused tree form read_only path refusals.NotDirectory (e ∙ through_is nodes image layout listings path r a)
  cat_found_at (founds.Node n) r e a =
      let is = node_is nodes image layout listings path n r a in
      cat_node n is.0 (get nodes n) (node_of image layout is.0) refl is.1 is.2 is.3 (e ∙ is.5)

  -- what is listed is what the model lists
  pub cat_is : CatIs (entries_at nodes path)
  cat_is = cat_found_at (found_in nodes path) (found tree path) refl alike

-- ---- errors

-- the error is a refusal
abbrev pub IsRefused : CommandError → Type 0
IsRefused error = (refusal : Refusal) × (error ≡ Refused refusal)

refused_entries : (m : Option Node) → IfErr (entries_in m) IsRefused
refused_entries None = (refusals.NotFound, refl)
refused_entries (Some node) = by node.body
  where
    by : (b : Body) → IfErr (entries_in_body b) IsRefused
    by bodies.File = (refusals.NotDirectory, refl)
    by (bodies.Small dir) = tt
    by (bodies.Big dir) = tt

pub cat_refuses : (nodes : FinMap nat_cmp Node) (path : Path) → IfErr (entries_at nodes path) IsRefused
cat_refuses nodes path = by (found_in nodes path)
  where
    by : (f : Found) → IfErr (entries_from nodes (number_found f)) IsRefused
    by founds.Absent = (refusals.NotFound, refl)
    by founds.NotDirectory = (refusals.NotDirectory, refl)
    by (founds.Node n) = refused_entries (get nodes n)

-- ---- of a volume

-- what loading a file answers
pub load_answers : (image : List ℕ) (kind : Kind) (view : Opened) → OpensAs image kind view → (v : Volume) (path : Path) (result : Result FileRef CommandError) → ArePartsOf (parts_of v) view
    → result ≡ file_at (nodes_of v.tree) path
    → MatchResult result
    (λ (f : FileRef). (answer (tree_of image view.layout view.listings) (dir_form view.layout) v.read_only (Command.Load path) ≡ Ok (tree_of image view.layout view.listings))
    × (bytes_of_node (node_at (tree_of image view.layout view.listings) path) ≡ ref_bytes image v f))
    (IsRefusalOf (answer (tree_of image view.layout view.listings) (dir_form view.layout) v.read_only (Command.Load path)))
load_answers image kind view opens v path result parts e =
    let is = load_is image view.layout view.listings (nodes_of v.tree) (sound_law image kind view opens) parts.nodes (dir_form view.layout) v.read_only path in
    subst (λ (layout : Layout). MatchResult result
    (λ (f : FileRef). (answer (tree_of image view.layout view.listings) (dir_form view.layout) v.read_only (Command.Load path) ≡ Ok (tree_of image view.layout view.listings))
    × (bytes_of_node (node_at (tree_of image view.layout view.listings) path) ≡ option_map_or (λ (node : Node). file_bytes image layout node.entry) (get (nodes_of v.tree) f.node) []))
    (IsRefusalOf (answer (tree_of image view.layout view.listings) (dir_form view.layout) v.read_only (Command.Load path)))) (sym parts.layout)
    (subst (λ (r : Result FileRef CommandError). MatchResult r
    (λ (f : FileRef). (answer (tree_of image view.layout view.listings) (dir_form view.layout) v.read_only (Command.Load path) ≡ Ok (tree_of image view.layout view.listings))
    × (bytes_of_node (node_at (tree_of image view.layout view.listings) path) ≡ option_map_or (λ (node : Node). file_bytes image view.layout node.entry) (get (nodes_of v.tree) f.node) []))
    (IsRefusalOf (answer (tree_of image view.layout view.listings) (dir_form view.layout) v.read_only (Command.Load path)))) (sym e) is)
