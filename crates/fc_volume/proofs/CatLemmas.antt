-- What a directory lists is what the model lists.
use Rattle.std.proofs.Common.{◌≡◌, ◌≢◌, ◌⊎◌, inl, inr, ⊎_elim, ℕ, Bool, true, false, List, [], ◌∷◌, map, length, refl, sym, ap, ap₂, subst, ◌∙◌}
use Rattle.std.specs.Prelude.{Contains, MatchResult, IfOk, IfErr, IsPermutation, if◌then◌else◌, Result, Ok, Err}
use Rattle.std.proofs.lemmas.List.Sorted.{Contains-permutation, IsPermutation-sym}
use Rattle.fc_names.specs.declared.refusal.Refusal.{Refusal}
use Rattle.fc_names.specs.Names.{Path}
use Rattle.fc_record.specs.declared.Kind.{Kind}
use Rattle.fc_dirs.specs.declared.Entry.{Entry}
use Rattle.fc_model.specs.Command.{Command}
use Rattle.fc_model.specs.Answer.{answer}
use Rattle.fc_model.specs.Tree.{Tree, Node as ModelNode, Body as ModelBody, children}
use Rattle.fc_image.specs.Layout.{Layout, dir_form}
use Rattle.fc_image.specs.Walk.{Object, is_directory_object, object_bytes}
use Rattle.fc_image.specs.Objects.{node_of, tree_of}
use Rattle.fc_image.specs.Opening.{Opened}
use Rattle.fc_image.specs.Stays.{OpensAs}
use Rattle.fc_space.specs.Space.{PlacesSuffice}
use Rattle.fc_tree.specs.Nodes.{Numbers, nodes_of}
use Rattle.fc_image.specs.Sound.{AreSound}
use Rattle.fc_tree.specs.Parts.{ArePartsOf}
use Rattle.fc_tree.proofs.LengthLemmas.{object_long}
use Rattle.fc_tree.proofs.MemberLemmas.{contains_here}
use Rattle.fc_tree.proofs.SortedLemmas.{listed_by}
use Rattle.fc_tree.proofs.SoundLemmas.{children_stored}
use Rattle.fc_tree.proofs.WalkedLemmas.{child_is_object, sound_law}
use Rattle.fc_holdings.specs.declared.error.CommandError.{CommandError}
use Rattle.fc_holdings.specs.declared.error.CommandError.TheVariants.{Refused, NoMemory, DiskFault}
use Rattle.fc_volume.specs.declared.lines.Line.{Line}
use Rattle.fc_volume.specs.declared.lines.Listed.TheVariants as lists
use Rattle.fc_volume.specs.Answers.{IsRefusalOf, line_in, lines_in, listed_in}
use Rattle.fc_volume.specs.Reading.{AreLines, entries_at, line_of}
use Rattle.fc_volume.specs.Volume.{Volume, parts_of}
use Rattle.fc_volume.proofs.BlockLemmas.{image_long}
use Rattle.fc_volume.proofs.ReadingLemmas.{CatIs, IsRefused, cat_is, cat_refuses, each_at, size_of}
use Rattle.fc_image.proofs.EntriesLemmas.{later as contains_later}

map_twice : {X Y Z : Type 0} (f : Y → Z) (g : X → Y) (xs : List X) → map f (map g xs) ≡ map (λ x. f (g x)) xs
map_twice f g [] = refl
map_twice f g (x ∷ xs) = ap (λ ys. f (g x) ∷ ys) (map_twice f g xs)

map_same : {X Y : Type 0} (f g : X → Y) (xs : List X) → ((x : X) → Contains xs x → f x ≡ g x) → map f xs ≡ map g xs
map_same f g [] each = refl
map_same f g (x ∷ xs) each = ap₂ (λ y ys. y ∷ ys) (each x (contains_here x xs)) (map_same f g xs (λ y at. each y (contains_later x y xs at)))

-- a node as a line, where its bytes are as many as its entry says
line_same : (image : List ℕ) (layout : Layout) (o : Object) → (is_directory_object o ≡ false → length (object_bytes image layout o) ≡ o.entry.len) → line_in (node_of image layout o) ≡ line_of o.entry
line_same image layout o long =
    ap (λ listed. let l : Line = record { name = o.entry.name; attrs = o.entry.attrs; load = o.entry.load; exec = o.entry.exec; listed = listed } in l) (by (is_directory_object o) long)
  where
    by : (b : Bool) → (b ≡ false → length (object_bytes image layout o) ≡ o.entry.len)
        → listed_in (if b then ModelBody.Directory else ModelBody.File (object_bytes image layout o)) ≡ (if b then lists.Dir else lists.File o.entry.len)
    by true h = refl
    by false h = ap lists.File (h refl)

module _ (image : List ℕ) (kind : Kind) (view : Opened) (opens : OpensAs image kind view) (v : Volume) (path : Path) (parts : ArePartsOf (parts_of v) view) where
  abbrev tree : Tree
  tree = tree_of image view.layout view.listings

  abbrev sound : AreSound view.layout view.listings
  sound = sound_law image kind view opens

  abbrev answered : Result Tree Refusal
  answered = answer tree (dir_form view.layout) v.read_only (Command.Cat path)

  is : CatIs image view.layout view.listings (nodes_of v.tree) sound parts.nodes (dir_form view.layout) v.read_only path (entries_at (nodes_of v.tree) path)
  is = cat_is image view.layout view.listings (nodes_of v.tree) sound parts.nodes (dir_form view.layout) v.read_only path

  pub cat_refused : (error : CommandError) → (error ≡ NoMemory) ⊎ (entries_at (nodes_of v.tree) path ≡ Err error) → IsRefusalOf answered error
  cat_refused error (inl none) = subst (IsRefusalOf answered) (sym none) tt
  cat_refused error (inr e) = subst (CatIs image view.layout view.listings (nodes_of v.tree) sound parts.nodes (dir_form view.layout) v.read_only path) e is

  pub cat_lists : PlacesSuffice view.layout → (entries : List Entry) (lines : List Line) → entries_at (nodes_of v.tree) path ≡ Ok entries → AreLines entries lines
      → (answered ≡ Ok tree) × (lines ≡ lines_in tree path)
  cat_lists suffice entries lines e are =
      let d = subst (CatIs image view.layout view.listings (nodes_of v.tree) sound parts.nodes (dir_form view.layout) v.read_only path) e is in
      let stored = children_stored view.layout view.listings sound d.0 d.1 in
      let told : map line_of entries ≡ map (λ (o : Object). line_of o.entry) d.0.children =
      ap (map line_of) (sym d.3 ∙ sym stored) ∙ map_twice line_of (λ (o : Object). o.entry) d.0.children in
      let listed = listed_by (λ o. line_of o.entry) (λ l. l.name) (λ o. refl) image view.layout view.listings d.0 path lines sound d.1 d.2
      (subst (λ (ls : List Line). IsPermutation ls lines) told are.all) are.sorted in
      let same = map_same (λ (o : Object). line_in (node_of image view.layout o)) (λ (o : Object). line_of o.entry) listed.0 (λ o at. (
      let child = child_is_object view.layout view.listings sound d.0 o d.1 (Contains-permutation listed.0 d.0.children o (IsPermutation-sym d.0.children listed.0 listed.1) at) in
      let placed = each_at view.layout view.listings sound o child in
      line_same image view.layout o (λ file. object_long image view.layout o suffice placed (image_long image kind view opens) ∙ size_of view.layout o file))) in (
        d.4,
        sym (sym (map_twice line_in (λ (e : Path × ModelNode). e.1) (children tree path)) ∙ ap (map line_in) listed.3 ∙ map_twice line_in (node_of image view.layout) listed.0 ∙ same ∙ listed.2),
      )

-- ---- results

pub matched : {X : Type 0} (result : Result X CommandError) (A P : X → Type 0) (B Q : CommandError → Type 0) → IfOk result A → IfErr result B → ((x : X) → A x → P x) → ((e : CommandError) → B e → Q e) → MatchResult result P Q
matched (Ok x) A P B Q a b p q = p x a
matched (Err e) A P B Q a b p q = q e b

pub err_weaker : {X : Type 0} (result : Result X CommandError) (B Q : CommandError → Type 0) → IfErr result B → ((e : CommandError) → B e → Q e) → IfErr result Q
err_weaker (Ok x) B Q b q = tt
err_weaker (Err e) B Q b q = q e b

-- what listing a directory answers, by its lines or its error
module _ {X : Type 0} (items : X → List Line) (result : Result X CommandError) (v : Volume) (path : Path) (t : Numbers) (same : t ≡ v.tree)
    (listed : IfOk result (λ (lines : X). (entries : List Entry) × (entries_at (nodes_of t) path ≡ Ok entries) × AreLines entries (items lines)))
    (failed : IfErr result (λ (error : CommandError). (error ≡ NoMemory) ⊎ (entries_at (nodes_of t) path ≡ Err error))) where
  pub cat_answers : (image : List ℕ) (kind : Kind) (view : Opened) → OpensAs image kind view → ArePartsOf (parts_of v) view → (layout : Layout) → layout ≡ (parts_of v).layout → PlacesSuffice layout
      → MatchResult result
      (λ (lines : X). (answer (tree_of image view.layout view.listings) (dir_form view.layout) v.read_only (Command.Cat path) ≡ Ok (tree_of image view.layout view.listings))
      × (items lines ≡ lines_in (tree_of image view.layout view.listings) path))
      (IsRefusalOf (answer (tree_of image view.layout view.listings) (dir_form view.layout) v.read_only (Command.Cat path)))
  cat_answers image kind view opens parts layout is suffice =
      matched result _ _ _ _ listed failed
      (λ lines a. cat_lists image kind view opens v path parts (subst (λ (l : Layout). PlacesSuffice l) (is ∙ parts.layout) suffice) a.0 (items lines)
      (ap (λ (s : Numbers). entries_at (nodes_of s) path) (sym same) ∙ a.1) a.2)
      (λ error b. cat_refused image kind view opens v path parts error (⊎_elim (λ none. inl none) (λ e. inr (ap (λ (s : Numbers). entries_at (nodes_of s) path) (sym same) ∙ e)) b))

  pub cat_faults : IfErr result (λ (error : CommandError). error ≢ DiskFault)
  cat_faults = err_weaker result _ _ failed never
    where
      never : (error : CommandError) → (error ≡ NoMemory) ⊎ (entries_at (nodes_of t) path ≡ Err error) → error ≢ DiskFault
      never error (inl none) fault = absurd (let e : NoMemory ≡ DiskFault = sym none ∙ fault in cc)
      never error (inr e) fault =
          let r : IsRefused error = subst (λ r. IfErr r IsRefused) e (cat_refuses (nodes_of t) path) in
          absurd (let f : Refused r.0 ≡ DiskFault = sym r.1 ∙ fault in cc)
