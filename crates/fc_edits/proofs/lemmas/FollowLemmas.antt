-- The nodes follow the listings after an edit.
use Rattle.std.proofs.Common.{◌≡◌, ◌⊎◌, inl, inr, ⊎_elim, ℕ, ◌+◌, false, List, [], ◌∷◌, ◌++◌, length, map, flat_map, refl, sym, ap, ap₂, subst, ◌∙◌, arith, Option, Some, None, length-append}
use Rattle.std.specs.Prelude.{Contains, IsPermutation}
use Rattle.std.specs.Option.{option_map}
use Rattle.std.specs.FinMap.{len}
use Rattle.std.proofs.lemmas.List.{append_assoc, length-map}
use Rattle.std.proofs.lemmas.List.Elements.{Contains-append_cases, Contains-append_left, Contains-append_right}
use Rattle.std.proofs.lemmas.List.Sorted.{IsPermutation-append, IsPermutation-refl, length_permutation}
use Rattle.fc_dirs.specs.declared.Entry.{Entry}
use Rattle.fc_image.specs.Layout.{Layout}
use Rattle.fc_image.specs.Walk.{Object, Listing, is_directory_object}
use Rattle.fc_image.specs.Objects.{objects_of}
use Rattle.fc_image.specs.Order.{held}
use Rattle.fc_tree.specs.declared.node.Body.TheVariants as bodies
use Rattle.fc_tree.specs.Nodes.{number_of, body_in}
use Rattle.fc_tree.proofs.MemberLemmas.{contains_here, from_map, no_element}
use Rattle.fc_tree.proofs.WalkedLemmas.{same_some, root_path, child_is_object}
use Rattle.fc_laws.specs.nodes.Edits.{Nodes, NodesFollow}
use Rattle.fc_laws.specs.nodes.Laws.{IsHeld}
use Rattle.fc_laws.proofs.lemmas.nodes.FitsLemmas.{ChildFits, DirectoryFits, fits, fits_at, kid_lower, not_pushed}
use Rattle.fc_laws.proofs.lemmas.nodes.FollowLemmas.{AllFit, follow}
use Rattle.fc_laws.proofs.lemmas.nodes.ListLemmas.{in_first, in_other}
use Rattle.fc_laws.proofs.lemmas.nodes.OtherLemmas.{no_file}
use Rattle.fc_edits.specs.NodesEdit.{NodesEdit}
use Rattle.fc_laws.specs.nodes.Lookups.{held_as, said, says_at}
use Rattle.fc_edits.specs.Edit.{Amended, AreEdited, Edit, IsEdit, TopStays, TopTurns, joined_in, leaving, left_in, listings_after, now, numbers, objects, still, turned}
use Rattle.fc_edits.proofs.lemmas.ListLemmas.{flat_mapped, in_flat, map_flat, parted}
use Rattle.fc_edits.proofs.lemmas.NumberLemmas as n_
use Rattle.fc_edits.proofs.lemmas.PathNumberLemmas as paths
use Rattle.fc_image.proofs.ShuffleLemmas.{flat_map-append as flat_append}
use Rattle.fc_image.proofs.TreeLemmas.{map_both as map_append}
use Rattle.fc_image.proofs.EntriesLemmas.{later as contains_later}

module _ (ne : NodesEdit) where
  abbrev pub nodes : Nodes
  nodes = ne.nodes

  abbrev pub nodes' : Nodes
  nodes' = ne.nodes'

  abbrev pub layout : Layout
  layout = ne.layout

  abbrev pub listings : List Listing
  listings = ne.listings

  abbrev pub e : Edit
  e = ne.edit

  abbrev pub h : IsHeld nodes layout listings
  h = ne.held

  abbrev pub is : IsEdit nodes listings e
  is = ne.is_edit

  abbrev pub ed : AreEdited nodes nodes' e
  ed = ne.nodes_edited

  abbrev stay : List Listing
  stay = n_.stay ne

  abbrev kids : List Object
  kids = n_.kids ne

  abbrev top : Object
  top = n_.top ne

  abbrev Up : ℕ → Object → Type 0
  Up = n_.Up ne

  number_up : (n : ℕ) (o : Object) → Up n o → number_of nodes' o.path ≡ Some n
  number_up = paths.number_up ne

  stay_in : (k : Listing) → Contains stay k → Contains listings k
  stay_in = n_.stay_in ne

  -- ---- the root

  -- the root is held by itself
  top_held : held_as nodes 0 ≡ Some (0, top.entry) → held_as nodes' 0 ≡ Some (0, (e.turn top).entry)
  top_held was = by (is.top top (n_.top_in ne) (root_path layout listings h.sound))
    where
      none_joins : (Contains (numbers (joined_in e)) 0 → ⊥)
      none_joins at = let q = from_map (λ (p : ℕ × Object). p.0) (joined_in e) 0 at in n_.join_lower ne q.0 q.1 q.2

      none_leaves : (Contains (numbers (left_in e)) 0 → ⊥)
      none_leaves at = n_.left_lower ne 0 at refl

      by : TopStays e top ⊎ TopTurns e top → held_as nodes' 0 ≡ Some (0, (e.turn top).entry)
      by (inl t) =
          ed.others 0 (λ at. none_leaves (subst (λ (ps : List (ℕ × Object)). Contains (numbers (ps ++ left_in e)) 0) t.leaves at))
          (λ at. none_joins (subst (λ (ps : List (ℕ × Object)). Contains (numbers (ps ++ joined_in e)) 0) t.joins at))
          ∙ was ∙ ap (λ (x : Entry). Some (0, x)) (sym t.keeps.entry)
      by (inr t) = ed.top (0, e.turn top) (subst (λ (ps : List (ℕ × Object)). Contains ps (0, e.turn top)) (sym t.joins) (contains_here (0, e.turn top) []))

  root_now : (k : Listing) (n : ℕ) → Contains stay k → number_of nodes k.object.path ≡ Some n → (e.turn k.object).path ≡ [] → held_as nodes' 0 ≡ Some (0, (e.turn k.object).entry)
  root_now k n at f path =
      ⊎_elim
      (λ is_top.
      let top' : k.object.path ≡ [] = ap (λ (x : Object). x.path) (sym is_top) ∙ root_path layout listings h.sound in
      let was = (fits_at layout listings nodes h.sound h.held k n (stay_in k at) f).root top' in
      top_held (was ∙ ap (λ (x : Object). Some (0, x.entry)) (sym is_top)) ∙ ap (λ (x : Object). Some (0, (e.turn x).entry)) is_top)
      (λ u. absurd (not_pushed (e.turn u.1.object).path (e.turn k.object).entry.name (sym path ∙ u.2.path))) (n_.dir_up ne k n at f)

  -- ---- what nodes say

  -- a file still says nothing
  file_still : (p : Object) (n : ℕ) → Contains (objects_of listings) p → number_of nodes p.path ≡ Some n → (Contains (numbers (leaving e)) n → ⊥) → says_at nodes n ≡ Some bodies.File
      → says_at nodes' n ≡ Some bodies.File
  file_still p n among f stays file =
      ed.silent n (λ none. let two : ◌≡◌ {A = Option _} None (Some bodies.File) = sym (ap (option_map said) none) ∙ file in cc)
      (λ at.
      let a = from_map (λ (b : Amended). b.number) e.amended n at in
      let i = is.amends a.0 a.1 in
      let said' = (fits_at layout listings nodes h.sound h.held a.0.was a.0.number (stay_in a.0.was (n_.was_in ne a.0 a.1)) i.number_is).says in
      no_file a.0.was.content (same_some (body_in a.0.was.content) bodies.File (sym said' ∙ ap (says_at nodes) a.2 ∙ file)))
      (λ leaves. absurd (stays leaves)) ∙ file

  -- a directory that says what it said
  says_still : (k : Listing) (n : ℕ) → Contains e.same k → number_of nodes k.object.path ≡ Some n → says_at nodes n ≡ Some (body_in k.content) → says_at nodes' n ≡ Some (body_in k.content)
  says_still k n at f was =
      ed.silent n (λ none. let two : ◌≡◌ {A = Option _} None (Some (body_in k.content)) = sym (ap (option_map said) none) ∙ was in cc)
      (n_.same_other ne k n at f)
      (n_.dir_leaves ne k n (n_.same_in ne k at) f) ∙ was

  -- ---- directories fit

  -- an object fits where it is held
  in_fits : (dir n : ℕ) (k : Listing) (o : Object) → n_.In ne dir k n o → (is_directory_object o ≡ false → says_at nodes' n ≡ Some bodies.File)
      → ChildFits nodes' dir (e.turn k.object).path n o
  in_fits dir n k o u file = record { path_is = u.path; at = number_up n o (dir, k, u); held = u.held; file = file }

  kid_fits : (k : Listing) (p : Object) (d : ℕ) → Contains stay k → Contains k.children p → Contains kids p → number_of nodes k.object.path ≡ Some d
      → (n : ℕ) × ChildFits nodes' d (e.turn k.object).path n (e.turn p)
  kid_fits k p d at kid left f =
      let c = (fits_at layout listings nodes h.sound h.held k d (stay_in k at) f).kids p kid in
      let lower = kid_lower layout listings nodes h.sound h.held k p c.0 (stay_in k at) kid c.1.at in
      let stays = n_.kid_stays ne p c.0 left lower c.1.at in (
        c.0,
        in_fits d c.0 k (e.turn p) (n_.kid_in ne k p d c.0 at kid f c.1.at stays)
            (λ file. file_still p c.0 (child_is_object layout listings h.sound k p (stay_in k at) kid) c.1.at stays (c.1.file (sym (is.kinds p) ∙ file))),
      )

  into_fits : (d : ℕ × Listing) → Contains e.into d → DirectoryFits nodes' d.0 d.1
  into_fits d at =
      let joins = in_first (joined_in e) (e.come ++ map (turned e) e.moving) is.joined (d.0, d.1.object)
      (Contains-append_left e.come (map (turned e) e.moving) (d.0, d.1.object) (is.into_joins d at)) in
      let u = n_.joined_up ne (d.0, d.1.object) joins in
      record {
        at = number_up d.0 d.1.object u;
        says = ed.into_say d at;
        root = λ path. absurd (not_pushed (e.turn u.1.object).path d.1.object.entry.name (sym path ∙ u.2.path));
        kids = λ p kid. absurd (no_element p (subst (λ (os : List Object). Contains os p) (is.into_empty d at) kid));
      }

  amended_fits : (a : Amended) → Contains e.amended a → DirectoryFits nodes' a.number (now e a)
  amended_fits a at =
      let i = is.amends a at in
      let stays = n_.was_in ne a at in
      record {
        at = paths.number_dir ne a.was a.number stays i.number_is;
        says = ed.says a at;
        root = root_now a.was a.number stays i.number_is;
        kids = λ o kid. ⊎_elim (λ joins. joined_fits o joins) (λ kept. kept_fits o (from_map e.turn a.kids o kept))
            (Contains-append_cases (objects a.join) (map e.turn a.kids) o (in_other a.children (objects a.join ++ map e.turn a.kids) i.holds o kid));
      }
    where
      joined_fits : (o : Object) → Contains (objects a.join) o → (n : ℕ) × ChildFits nodes' a.number (e.turn a.was.object).path n o
      joined_fits o joins =
          let q = from_map (λ (p : ℕ × Object). p.1) a.join o joins in
          let u = n_.join_in ne a q.0 at q.1 in
          let file = ed.files q.0 (in_flat (λ (b : Amended). b.join) e.amended a q.0 at q.1) in
          subst (λ (x : Object). (n : ℕ) × ChildFits nodes' a.number (e.turn a.was.object).path n x) q.2 (q.0.0, in_fits a.number q.0.0 a.was q.0.1 u file)

      kept_fits : (o : Object) → (p : Object) × Contains a.kids p × (e.turn p ≡ o) → (n : ℕ) × ChildFits nodes' a.number (e.turn a.was.object).path n o
      kept_fits o p =
          let i = is.amends a at in
          let kid = in_first a.was.children (objects a.leave ++ a.kids) i.held p.0 (Contains-append_right (objects a.leave) a.kids p.0 p.1) in
          let left = Contains-append_left (flat_map (λ (b : Amended). b.kids) e.amended) (held e.same) p.0 (in_flat (λ (b : Amended). b.kids) e.amended a p.0 at p.1) in
          subst (λ (x : Object). (n : ℕ) × ChildFits nodes' a.number (e.turn a.was.object).path n x) p.2
          (kid_fits a.was p.0 a.number (n_.was_in ne a at) kid left i.number_is)

  same_fits : (k : Listing) → Contains e.same k → (n : ℕ) × DirectoryFits nodes' n (still e k)
  same_fits k at =
      let stays = n_.same_in ne k at in
      let f = fits layout listings nodes h.sound h.held k (stay_in k stays) in (
        f.0,
        record {
          at = paths.number_dir ne k f.0 stays f.1.at;
          says = says_still k f.0 at f.1.at f.1.says;
          root = root_now k f.0 stays f.1.at;
          kids = λ o kid.
              (let p = from_map e.turn k.children o kid in
              let left = Contains-append_right (flat_map (λ (b : Amended). b.kids) e.amended) (held e.same) p.0 (in_flat (λ (l : Listing). l.children) e.same k p.0 at p.1) in
              subst (λ (x : Object). (n : ℕ) × ChildFits nodes' f.0 (e.turn k.object).path n x) p.2 (kid_fits k p.0 f.0 stays p.1 left f.1.at));
        },
      )

  all_now : AllFit nodes' (listings_after e)
  all_now l at =
      ⊎_elim
      (λ new. let d = from_map (λ (x : ℕ × Listing). x.1) e.into l new in subst (λ (x : Listing). (n : ℕ) × DirectoryFits nodes' n x) d.2 (d.0.0, into_fits d.0 d.1))
      (λ old. ⊎_elim (λ other. let a = from_map (now e) e.amended l other in subst (λ (x : Listing). (n : ℕ) × DirectoryFits nodes' n x) a.2 (a.0.number, amended_fits a.0 a.1))
      (λ same. let k = from_map (still e) e.same l same in subst (λ (x : Listing). (n : ℕ) × DirectoryFits nodes' n x) k.2 (same_fits k.0 k.1))
      (Contains-append_cases (map (now e) e.amended) (map (still e) e.same) l old))
      (Contains-append_cases (map (λ (x : ℕ × Listing). x.1) e.into) (map (now e) e.amended ++ map (still e) e.same) l at)

  -- ---- as many

  pub no_children : (ds : List (ℕ × Listing)) → ((d : ℕ × Listing) → Contains ds d → d.1.children ≡ []) → held (map (λ (x : ℕ × Listing). x.1) ds) ≡ []
  no_children [] none = refl
  no_children (d ∷ ds) none = ap₂ (λ (xs ys : List Object). xs ++ ys) (none d (contains_here d ds)) (no_children ds (λ x at. none x (contains_later d x ds at)))

  -- what the directories hold afterwards
  pub held_stay_now : IsPermutation (held (map (now e) e.amended ++ map (still e) e.same)) (objects (joined_in e) ++ map e.turn kids)
  held_stay_now =
      let c : Listing → List Object = λ l. l.children in
      let f : Amended → List Object = λ a. a.children in
      let g : Amended → List Object = λ a. objects a.join in
      let k : Amended → List Object = λ a. map e.turn a.kids in
      let rest : held (map (now e) e.amended ++ map (still e) e.same) ≡ flat_map f e.amended ++ map e.turn (held e.same) =
      flat_append c (map (now e) e.amended) (map (still e) e.same)
      ∙ ap₂ (λ (xs ys : List Object). xs ++ ys) (flat_mapped c (now e) e.amended) (flat_mapped c (still e) e.same ∙ sym (map_flat e.turn c e.same)) in
      let amended = parted f g k e.amended (λ a at. (is.amends a at).holds) in
      let both = IsPermutation-append (flat_map f e.amended) (flat_map g e.amended ++ flat_map k e.amended) (map e.turn (held e.same)) (map e.turn (held e.same)) amended
      (IsPermutation-refl (map e.turn (held e.same))) in
      let turned' : (flat_map g e.amended ++ flat_map k e.amended) ++ map e.turn (held e.same) ≡ objects (joined_in e) ++ map e.turn kids =
      append_assoc (flat_map g e.amended) (flat_map k e.amended) (map e.turn (held e.same))
      ∙ ap₂ (λ (xs ys : List Object). xs ++ ys) (sym (map_flat (λ (p : ℕ × Object). p.1) (λ (a : Amended). a.join) e.amended))
      (ap (λ (xs : List Object). xs ++ map e.turn (held e.same)) (sym (map_flat e.turn (λ (a : Amended). a.kids) e.amended))
      ∙ sym (map_append e.turn (flat_map (λ (a : Amended). a.kids) e.amended) (held e.same))) in
      subst (λ (os : List Object). IsPermutation os (objects (joined_in e) ++ map e.turn kids)) (sym rest)
      (subst (IsPermutation (flat_map f e.amended ++ map e.turn (held e.same))) turned' both)

  pub held_now : IsPermutation (held (listings_after e)) (objects (joined_in e) ++ map e.turn kids)
  held_now =
      subst (λ (os : List Object). IsPermutation os (objects (joined_in e) ++ map e.turn kids))
      (sym (flat_append (λ (l : Listing). l.children) (map (λ (x : ℕ × Listing). x.1) e.into) (map (now e) e.amended ++ map (still e) e.same)
      ∙ ap (λ (os : List Object). os ++ held (map (now e) e.amended ++ map (still e) e.same)) (no_children e.into is.into_empty))) held_stay_now

  pub nodes_follow : NodesFollow nodes' (listings_after e)
  nodes_follow = follow nodes' (listings_after e) all_now count
    where
      count : len nodes' ≡ 1 + length (held (listings_after e))
      count =
          let before = length_permutation (objects_of listings) (top ∷ (objects (left_in e) ++ kids)) (n_.all_parted ne) in
          let after = length_permutation (held (listings_after e)) (objects (joined_in e) ++ map e.turn kids) held_now in
          let left = length-append (objects (left_in e)) kids in
          let joined = length-append (objects (joined_in e)) (map e.turn kids) in
          let same = length-map kids e.turn in
          let l = length-map (left_in e) (λ (p : ℕ × Object). p.1) in
          let j = length-map (joined_in e) (λ (p : ℕ × Object). p.1) in
          omega (arith, before, after, left, joined, same, l, j, ed.count, h.held.no_more)
