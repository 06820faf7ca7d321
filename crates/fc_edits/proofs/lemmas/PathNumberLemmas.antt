-- Names in directories after an edit, and the numbers that paths lead to.
use Rattle.std.proofs.Common.{◌≡◌, ◌≤◌, ◌⊎◌, inl, inr, ⊎_elim, ℕ, zero, suc, Bool, List, [], ◌++◌, length, map, refl, sym, ap, subst, ◌∙◌, arith, Option, Some, None}
use Rattle.std.specs.Prelude.{Contains}
use Rattle.std.proofs.lemmas.List.{length_push}
use Rattle.std.proofs.lemmas.List.Elements.{Contains-append_cases}
use Rattle.fc_names.specs.Names.{Path, folded}
use Rattle.fc_dirs.specs.declared.Entry.{Entry}
use Rattle.fc_dirs.specs.Directory.{entries_of}
use Rattle.fc_image.specs.Layout.{Layout}
use Rattle.fc_image.specs.Walk.{Object, Listing}
use Rattle.fc_image.specs.Objects.{objects_of}
use Rattle.fc_image.proofs.PathsLemmas.{has_that, is_at, itself, many, names_once}
use Rattle.fc_tree.specs.Nodes.{number_of}
use Rattle.fc_tree.proofs.MemberLemmas.{from_flat, from_map, in_map, many_mapped, many_permuted, one_passes}
use Rattle.fc_tree.proofs.NumberLemmas.{own_name}
use Rattle.fc_tree.proofs.WalkedLemmas.{same_some, root, child_is_object, root_path}
use Rattle.fc_tree.proofs.SoundLemmas.{root_object}
use Rattle.fc_laws.specs.nodes.Edits.{Nodes}
use Rattle.fc_laws.specs.nodes.Laws.{IsHeld}
use Rattle.fc_laws.proofs.lemmas.nodes.WaysLemmas.{AreApart, folds_same, pushed}
use Rattle.fc_laws.proofs.lemmas.nodes.FitsLemmas.{apart, holds, one_directory}
use Rattle.fc_laws.proofs.lemmas.nodes.ListLemmas.{in_other}
use Rattle.fc_edits.specs.NodesEdit.{NodesEdit}
use Rattle.fc_laws.specs.nodes.Lookups.{held_as}
use Rattle.fc_edits.specs.Edit.{Amended, AreEdited, Edit, IsEdit, joined_in, joining, leaving, left_in, numbers, objects}
use Rattle.fc_edits.proofs.lemmas.ListLemmas.{few_first, few_second, in_flat, is_in, two_apart}
use Rattle.fc_edits.proofs.lemmas.NumberLemmas as n_

module _ (ne : NodesEdit) where
  abbrev nodes : Nodes
  nodes = ne.nodes

  abbrev nodes' : Nodes
  nodes' = ne.nodes'

  abbrev layout : Layout
  layout = ne.layout

  abbrev listings : List Listing
  listings = ne.listings

  abbrev e : Edit
  e = ne.edit

  abbrev h : IsHeld nodes layout listings
  h = ne.held

  abbrev is : IsEdit nodes listings e
  is = ne.is_edit

  abbrev ed : AreEdited nodes nodes' e
  ed = ne.nodes_edited

  abbrev stay : List Listing
  stay = map (λ (a : Amended). a.was) e.amended ++ e.same

  abbrev top : Object
  top = root layout listings h.sound

  abbrev top_in : Contains (objects_of listings) top
  top_in = root_object layout listings h.sound

  -- ---- names are apart

  -- the objects of a directory that says something else, by a name
  few_named : (a : Amended) → Contains e.amended a → (name : List ℕ) → many (λ (o : Object). has_that name o.entry) (objects a.join ++ map e.turn a.kids) ≤ 1
  few_named a at name =
      let i = is.amends a at in
      let few = subst (λ (es : List Entry). many (has_that name) es ≤ 1) (sym i.stored) (names_once (entries_of a.content) name i.apart) in
      let mapped = many_mapped (has_that name) (λ (o : Object). o.entry) a.children in
      let moved = many_permuted (λ (o : Object). has_that name o.entry) a.children (objects a.join ++ map e.turn a.kids) i.holds in
      subst (λ k. k ≤ 1) (mapped ∙ sym moved) few

  -- directories of one number are one
  pub one_amended : (a b : Amended) → Contains e.amended a → Contains e.amended b → a.number ≡ b.number → a ≡ b
  one_amended a b at bt same =
      let t : Amended → Bool = λ c. is_at a.was.object.path c.was.object in
      let few_out = few_second (λ (k : Listing). is_at a.was.object.path k.object) e.out stay ((n_.few_stay ne) a.was.object.path) in
      let few = few_first (λ (k : Listing). is_at a.was.object.path k.object) (map (λ (c : Amended). c.was) e.amended) e.same few_out in
      let few' = subst (λ k. k ≤ 1) (many_mapped (λ (k : Listing). is_at a.was.object.path k.object) (λ (c : Amended). c.was) e.amended) few in
      one_passes t e.amended a b few' at bt (itself a.was.object.path)
      ((n_.same_at ne) a.was.object.path b.was.object.path a.number (is.amends a at).number_is ((is.amends b bt).number_is ∙ ap (λ (k : ℕ). Some k) (sym same)))

  -- a node that joins a directory
  record Joined (m d : ℕ) (x : Entry) : Type 0 where
    pub a : Amended
    pub p : ℕ × Object
    pub at : Contains e.amended a
    pub in_a : Contains a.join p
    pub number : p.0 ≡ m
    pub dir : a.number ≡ d
    pub entry : p.1.entry ≡ x

  abbrev Stayed : ℕ → ℕ → Entry → Type 0
  Stayed m d x = (Contains (numbers (leaving e)) m → ⊥) × (held_as nodes m ≡ Some (d, x))

  origin : (m d : ℕ) (x : Entry) → (m ≡ 0 → ⊥) → held_as nodes' m ≡ Some (d, x) → Joined m d x ⊎ Stayed m d x
  origin m d x lower held' = by (is_in (numbers (joining e)) m) (is_in (numbers (leaving e)) m)
    where
      joined : Contains (numbers (joined_in e)) m → Joined m d x
      joined later =
          let q = from_map (λ (p : ℕ × Object). p.0) (joined_in e) m later in
          let a = from_flat (λ (b : Amended). b.join) e.amended q.0 q.1 in
          let pair : (a.0.number, q.0.1.entry) ≡ (d, x) = same_some (a.0.number, q.0.1.entry) (d, x) (sym (ed.joined a.0 q.0 a.1 a.2) ∙ ap (held_as nodes') q.2 ∙ held') in
          record { a = a.0; p = q.0; at = a.1; in_a = a.2; number = q.2; dir = ap (λ (y : ℕ × Entry). y.0) pair; entry = ap (λ (y : ℕ × Entry). y.1) pair }

      by : Contains (numbers (joining e)) m ⊎ (Contains (numbers (joining e)) m → ⊥) → Contains (numbers (leaving e)) m ⊎ (Contains (numbers (leaving e)) m → ⊥) → Joined m d x ⊎ Stayed m d x
      by (inl joins) stays = inl (⊎_elim (λ own. absurd (lower ((n_.top_joins ne) m own))) joined ((n_.in_numbers ne) e.top_join (joined_in e) m joins))
      by (inr none) (inl leaves) = absurd (let two : ◌≡◌ {A = Option (ℕ × Entry)} None (Some (d, x)) = sym (ed.gone m leaves none) ∙ held' in cc)
      by (inr none) (inr stays) = inr (stays, sym (ed.others m stays none) ∙ held')

  -- what joins a directory has no name of what stays in it
  clash : (m n d : ℕ) (x y : Entry) → Joined m d x → Stayed n d y → (n ≡ 0 → ⊥) → folded x.name ≡ folded y.name → ⊥
  clash m n d x y j s lower same =
      let k = holds layout listings nodes h.sound h.held n d y s.1 lower in
      let i = is.amends j.a j.at in
      let dir : k.dir ≡ j.a.was = one_directory layout listings nodes h.sound h.held k.dir j.a.was d k.listed ((n_.stay_in ne) j.a.was ((n_.was_in ne) j.a j.at)) k.above (i.number_is ∙ ap (λ (z : ℕ). Some z) j.dir) in
      let kid = in_other j.a.was.children (objects j.a.leave ++ j.a.kids) i.held k.o (subst (λ (l : Listing). Contains l.children k.o) dir k.kid) in
      let among = child_is_object layout listings h.sound k.dir k.o k.listed k.kid in
      let keeps = is.keeps k.o n among k.at s.0 in
      let t : Object → Bool = λ o. has_that j.p.1.entry.name o.entry in
      ⊎_elim
      (λ leaves.
      let q = from_map (λ (p : ℕ × Object). p.1) j.a.leave k.o leaves in
      let number : q.0.0 ≡ n = same_some q.0.0 n (sym (i.left q.0 q.1) ∙ ap (λ (o : Object). number_of nodes o.path) q.2 ∙ k.at) in
      s.0 (subst (Contains (numbers (leaving e))) number ((n_.left_leaves ne) q.0.0 (in_map (λ (p : ℕ × Object). p.0) (left_in e) q.0 (in_flat (λ (b : Amended). b.leave) e.amended j.a q.0 j.at q.1)))))
      (λ stays.
      two_apart t (objects j.a.join) (map e.turn j.a.kids) j.p.1 (e.turn k.o) (few_named j.a j.at j.p.1.entry.name) (in_map (λ (p : ℕ × Object). p.1) j.a.join j.p j.in_a) (in_map e.turn j.a.kids k.o stays)
      (own_name j.p.1.entry.name)
      (folds_same j.p.1.entry.name (e.turn k.o).entry.name (ap (λ (z : Entry). folded z.name) j.entry ∙ same ∙ ap (λ (z : Entry). folded z.name) (sym (keeps.entry ∙ k.entry)))))
      (Contains-append_cases (objects j.a.leave) j.a.kids k.o kid)

  -- two that join it have names that are apart
  one_joined : (m n d : ℕ) (x y : Entry) → Joined m d x → Joined n d y → folded x.name ≡ folded y.name → m ≡ n
  one_joined m n d x y j k same =
      let one : k.a ≡ j.a = one_amended k.a j.a k.at j.at (k.dir ∙ sym j.dir) in
      let t : Object → Bool = λ o. has_that j.p.1.entry.name o.entry in
      let few = subst (λ z. z ≤ 1) (many_mapped t (λ (p : ℕ × Object). p.1) j.a.join) (few_first t (objects j.a.join) (map e.turn j.a.kids) (few_named j.a j.at j.p.1.entry.name)) in
      let pair : j.p ≡ k.p =
      one_passes (λ (p : ℕ × Object). t p.1) j.a.join j.p k.p few j.in_a (subst (λ (a : Amended). Contains a.join k.p) one k.in_a) (own_name j.p.1.entry.name)
      (folds_same j.p.1.entry.name k.p.1.entry.name (ap (λ (z : Entry). folded z.name) j.entry ∙ same ∙ ap (λ (z : Entry). folded z.name) (sym k.entry))) in
      sym j.number ∙ ap (λ (p : ℕ × Object). p.0) pair ∙ k.number

  pub apart_now : AreApart nodes'
  apart_now m n d x y is_m is_n lower_m lower_n same = by (origin m d x lower_m is_m) (origin n d y lower_n is_n)
    where
      by : Joined m d x ⊎ Stayed m d x → Joined n d y ⊎ Stayed n d y → m ≡ n
      by (inl j) (inl k) = one_joined m n d x y j k same
      by (inl j) (inr s) = absurd (clash m n d x y j s lower_n same)
      by (inr s) (inl j) = absurd (clash n m d y x j s lower_m (sym same))
      by (inr s) (inr r) = apart layout listings nodes h.sound h.held m n d x y s.1 r.1 lower_m lower_n same

  -- ---- where paths lead

  -- a directory that stays, if what is held leads to its number
  dir_at : (k : Listing) (n : ℕ) → Contains stay k → number_of nodes k.object.path ≡ Some n → ((n_.Up ne) n (e.turn k.object) → number_of nodes' (e.turn k.object).path ≡ Some n)
      → number_of nodes' (e.turn k.object).path ≡ Some n
  dir_at k n at f more = ⊎_elim by more ((n_.dir_up ne) k n at f)
    where
      by : top ≡ k.object → number_of nodes' (e.turn k.object).path ≡ Some n
      by is_top =
          let path : k.object.path ≡ [] = ap (λ (x : Object). x.path) (sym is_top) ∙ root_path layout listings h.sound in
          let now : (e.turn k.object).path ≡ [] = ap (λ (x : Object). (e.turn x).path) (sym is_top) ∙ is.top_path top top_in (root_path layout listings h.sound) in
          ap (number_of nodes') now ∙ sym (ap (number_of nodes) path) ∙ f

  number_long : (long : ℕ) (n : ℕ) (o : Object) → length o.path ≡ long → (n_.Up ne) n o → number_of nodes' o.path ≡ Some n
  number_long zero n o long u =
      absurd (let more = length_push (e.turn u.1.object).path o.entry.name in let same = ap (λ (p : Path). length p) u.2.path in omega (arith, long, more, same))
  number_long (suc k) n o long u =
      let more = length_push (e.turn u.1.object).path o.entry.name in
      let same = ap (λ (p : Path). length p) u.2.path in
      let above = dir_at u.1 u.0 u.2.stays u.2.above_is (λ v. number_long k u.0 (e.turn u.1.object) (omega (arith, long, more, same)) v) in
      ap (number_of nodes') u.2.path ∙ pushed nodes' (e.turn u.1.object).path o.entry.name u.0 n o.entry apart_now above u.2.held u.2.lower refl

  -- an object leads to its number, and so does a directory
  pub number_up : (n : ℕ) (o : Object) → (n_.Up ne) n o → number_of nodes' o.path ≡ Some n
  number_up n o u = number_long (length o.path) n o refl u

  pub number_dir : (k : Listing) (n : ℕ) → Contains stay k → number_of nodes k.object.path ≡ Some n → number_of nodes' (e.turn k.object).path ≡ Some n
  number_dir k n at f = dir_at k n at f (number_up n (e.turn k.object))
