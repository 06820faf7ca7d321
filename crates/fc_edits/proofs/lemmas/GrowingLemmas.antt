-- A directory that grows: what objects become, and that the edit with it is one.
use Rattle.std.proofs.Common.{◌≡◌, ◌≤◌, ◌⊎◌, inl, inr, ⊎_elim, ℕ, Bool, true, false, cond, List, [], ◌∷◌, ◌++◌, map, flat_map, refl, sym, ap, ap₂, subst, ◌∙◌, Some}
use Rattle.std.specs.Prelude.{Contains, IsPermutation}
use Rattle.std.proofs.lemmas.List.Elements.{Contains-append_left, Contains-append_right}
use Rattle.std.proofs.lemmas.List.Sorted.{IsPermutation-append_left, IsPermutation-append_right, IsPermutation-cons, IsPermutation-map, IsPermutation-middle, IsPermutation-sym, IsPermutation-trans}
use Rattle.fc_names.specs.Names.{Path, is_same_path}
use Rattle.fc_model.specs.Tree.{holder}
use Rattle.fc_dirs.specs.declared.Entry.{Entry}
use Rattle.fc_image.specs.Layout.{Layout}
use Rattle.fc_image.specs.Walk.{Listing, Object, is_directory_object}
use Rattle.fc_image.specs.Objects.{objects_of}
use Rattle.fc_image.specs.Order.{held}
use Rattle.fc_image.specs.effects.Steady.{regrown_entry}
use Rattle.fc_image.proofs.PathsLemmas.{is_at, itself}
use Rattle.fc_tree.specs.Nodes.{number_of}
use Rattle.fc_tree.proofs.MemberLemmas.{contains_here, from_map, in_map, many_permuted, no_element}
use Rattle.fc_tree.proofs.WalkedLemmas.{child_is_object, child_path, few_objects, listed_directory}
use Rattle.fc_changes.proofs.BasicLemmas.{clash, holder_pushed}
use Rattle.fc_changes.proofs.RenamedLemmas.{same_turned}
use Rattle.fc_laws.specs.nodes.Edits.{Nodes}
use Rattle.fc_laws.specs.nodes.Laws.{IsHeld}
use Rattle.fc_laws.specs.agree.Agreed.{CanSay}
use Rattle.fc_laws.proofs.lemmas.nodes.FitsLemmas.{kid_lower}
use Rattle.fc_laws.proofs.lemmas.nodes.ListLemmas.{in_first, in_other}
use Rattle.fc_laws.proofs.lemmas.nodes.OtherLemmas.{unlike}
use Rattle.fc_edits.specs.Edit.{Amended, Edit, IsAmended, IsEdit, KeepsEntry, TopStays, TopTurns, joined_in, leaving, left_in, numbers, objects, turned}
use Rattle.fc_edits.specs.Growing.{EditGrowing, Growing, Holder, Holds, IsGrowing, at_place, grown_by, holding, placed_anew, regrown, told}
use Rattle.fc_edits.specs.NodesEdit.{NodesEdit}
use Rattle.fc_edits.proofs.lemmas.AroundLemmas as ar
use Rattle.fc_edits.proofs.lemmas.AroundLemmas.{mapped_same}
use Rattle.fc_edits.proofs.lemmas.ListLemmas.{in_flat, map_map, two_apart}
use Rattle.fc_edits.proofs.lemmas.NumberLemmas as n_
use Rattle.std.proofs.lemmas.Bool.{false_from_ne_true as unless}
use Rattle.fc_image.proofs.EntriesLemmas.{later as contains_later, cases as contains_cases}
use Rattle.fc_tree.proofs.EndLemmas.{no_twin as apart_names}

pub same_both : (p q : Path) → is_same_path p q ≡ is_same_path q p
same_both p q = by (is_same_path p q) refl
  where
    by : (b : Bool) → is_same_path p q ≡ b → b ≡ is_same_path q p
    by true h = sym (same_turned p q h)
    by false h = sym (unless (is_same_path q p) (λ g. clash (is_same_path p q) (same_turned q p g) h))

-- ---- what objects become

module _ (x : EditGrowing) where
  abbrev pub nodes : Nodes
  nodes = x.nodes

  abbrev pub layout : Layout
  layout = x.layout

  abbrev pub listings : List Listing
  listings = x.listings

  abbrev pub e : Edit
  e = x.edit

  abbrev pub g : Growing
  g = x.growing

  abbrev pub h : IsHeld nodes layout listings
  h = x.held

  abbrev pub gr : IsGrowing nodes layout e g
  gr = x.grows

  pub its_path : (p : Object) → (regrown e g p).path ≡ (e.turn p).path
  its_path p = by (is_same_path g.o.path p.path)
    where
      by : (b : Bool) → (cond b (at_place g (e.turn p)) (e.turn p)).path ≡ (e.turn p).path
      by true = refl
      by false = refl

  pub its_kind : (p : Object) → is_directory_object (regrown e g p) ≡ is_directory_object (e.turn p)
  its_kind p = by (is_same_path g.o.path p.path)
    where
      by : (b : Bool) → is_directory_object (cond b (at_place g (e.turn p)) (e.turn p)) ≡ is_directory_object (e.turn p)
      by true = refl
      by false = refl

  pub its_turn : regrown e g g.o ≡ at_place g g.o
  its_turn = ap (λ (b : Bool). cond b (at_place g (e.turn g.o)) (e.turn g.o)) (itself g.o.path) ∙ ap (at_place g) gr.stays

  pub other_turn : (p : Object) → is_same_path g.o.path p.path ≡ false → regrown e g p ≡ e.turn p
  other_turn p other = ap (λ (b : Bool). cond b (at_place g (e.turn p)) (e.turn p)) other

  pub other_number : (p : Object) (n : ℕ) → number_of nodes p.path ≡ Some n → (n ≡ g.dir → ⊥) → regrown e g p ≡ e.turn p
  other_number p n is other = other_turn p (unlike nodes g.o.path p.path g.dir n gr.dir_is is (λ same. other (sym same)))

  -- the directory itself
  abbrev pub ne : NodesEdit
  ne = ar.ne x g.holder gr.amended_is

  pub its_listing : Contains listings gr.listed.0.was
  its_listing = n_.stay_in ne gr.listed.0.was (n_.was_in ne gr.listed.0 gr.listed.1)

  pub o_in : Contains (objects_of listings) g.o
  o_in = subst (Contains (objects_of listings)) gr.listed.2 (listed_directory layout listings h.sound gr.listed.0.was its_listing).0

  pub o_directory : is_directory_object g.o ≡ true
  o_directory = ap is_directory_object (sym gr.listed.2) ∙ (listed_directory layout listings h.sound gr.listed.0.was its_listing).1

  -- none of the other objects has its path
  pub unlike_others : (rest : List Object) → IsPermutation (objects_of listings) (g.o ∷ rest) → (p : Object) → Contains rest p → is_same_path g.o.path p.path ≡ false
  unlike_others rest order p at =
      let t = is_at g.o.path in
      let few = subst (λ (k : ℕ). k ≤ 1) (sym (many_permuted t (objects_of listings) (g.o ∷ rest) order)) (few_objects layout listings h.sound g.o.path) in
      unless (is_same_path g.o.path p.path) (λ same. two_apart t (g.o ∷ []) rest g.o p few (contains_here g.o []) at (itself g.o.path) same)

  -- what other directories hold stays
  pub holds_still : (a : Amended) → ((p : Object) → Contains a.kids p → regrown e g p ≡ e.turn p) → IsPermutation a.children (objects a.join ++ map e.turn a.kids)
      → IsPermutation a.children (objects a.join ++ map (regrown e g) a.kids)
  holds_still a same holds = subst (λ (os : List Object). IsPermutation a.children (objects a.join ++ os)) (sym (mapped_same (regrown e g) e.turn a.kids same)) holds

  pub path_still : (a : Amended) (o : Object) → o.path ≡ (e.turn a.was.object).path ++ o.entry.name ∷ [] → o.path ≡ (regrown e g a.was.object).path ++ o.entry.name ∷ []
  path_still a o path = path ∙ ap (λ (r : Path). r ++ o.entry.name ∷ []) (sym (its_path a.was.object))

-- ---- below the root

module _ (x : EditGrowing) (hd : Holder) (cut : IsPermutation (x.edit.amended ++ map (told x.edit) x.growing.again) (hd.amended ∷ x.growing.others)) (hs : Holds x.growing hd)
    (says : (a : Amended) → Contains (grown_by x.edit x.growing (Some hd)).amended a → CanSay x.layout (regrown x.edit x.growing a.was.object) a.content) where
  abbrev e2 : Edit
  e2 = ar.around (e x) (g x) (Some hd)

  abbrev pub e' : Edit
  e' = grown_by (e x) (g x) (Some hd)

  abbrev pub ne2 : NodesEdit
  ne2 = ar.around_nodes x (Some hd) cut

  abbrev pub is2 : IsEdit (nodes x) (listings x) e2
  is2 = ar.around_edit x (Some hd) cut

  abbrev k : Listing
  k = hd.amended.was

  abbrev o : Object
  o = (g x).o

  i : IsAmended (nodes x) e2 hd.amended
  i = is2.amends hd.amended (contains_here hd.amended (g x).others)

  pub k_in : Contains (listings x) k
  k_in = n_.stay_in ne2 k (n_.was_in ne2 hd.amended (contains_here hd.amended (g x).others))

  kid : (p : Object) → Contains hd.amended.kids p → Contains k.children p
  kid p at = in_first k.children (objects hd.amended.leave ++ hd.amended.kids) i.held p (Contains-append_right (objects hd.amended.leave) hd.amended.kids p at)

  o_kid : Contains hd.amended.kids o
  o_kid = in_first hd.amended.kids (o ∷ hd.kids) hs.kids o (contains_here o hd.kids)

  pub o_held : Contains k.children o
  o_held = kid o o_kid

  in_kids : (p : Object) → Contains hd.amended.kids p → Contains (n_.kids ne2) p
  in_kids p at =
      Contains-append_left (flat_map (λ (a : Amended). a.kids) (hd.amended ∷ (g x).others)) (held (g x).same) p
      (in_flat (λ (a : Amended). a.kids) (hd.amended ∷ (g x).others) hd.amended p (contains_here hd.amended (g x).others) at)

  pub lower : (g x).dir ≡ 0 → ⊥
  lower = kid_lower (layout x) (listings x) (nodes x) (h x).sound (h x).held k o (g x).dir k_in (kid o o_kid) (gr x).dir_is

  pub away : Contains (numbers (leaving e2)) (g x).dir → ⊥
  away = n_.kid_away ne2 o (g x).dir (in_kids o o_kid) (gr x).dir_is

  -- ---- the other objects

  abbrev left : List Object
  left = objects (left_in e2)

  abbrev behind : List Object
  behind = (hd.kids ++ flat_map (λ (a : Amended). a.kids) (g x).others) ++ held (g x).same

  pub others_parted : IsPermutation (objects_of (listings x)) (o ∷ ((n_.top ne2 ∷ left) ++ behind))
  others_parted =
      let more : List Object = flat_map (λ (a : Amended). a.kids) (g x).others in
      let kids_now : IsPermutation (n_.kids ne2) (o ∷ behind) =
      IsPermutation-append_left (held (g x).same) (hd.amended.kids ++ more) ((o ∷ hd.kids) ++ more) (IsPermutation-append_left more hd.amended.kids (o ∷ hd.kids) hs.kids) in
      IsPermutation-trans (objects_of (listings x)) ((n_.top ne2 ∷ left) ++ n_.kids ne2) (o ∷ ((n_.top ne2 ∷ left) ++ behind)) (n_.all_parted ne2)
      (IsPermutation-trans ((n_.top ne2 ∷ left) ++ n_.kids ne2) ((n_.top ne2 ∷ left) ++ o ∷ behind) (o ∷ ((n_.top ne2 ∷ left) ++ behind))
      (IsPermutation-append_right (n_.top ne2 ∷ left) (n_.kids ne2) (o ∷ behind) kids_now) (IsPermutation-middle (n_.top ne2 ∷ left) o behind))

  other : (p : Object) → Contains ((n_.top ne2 ∷ left) ++ behind) p → regrown (e x) (g x) p ≡ (e x).turn p
  other p at = other_turn x p (unlike_others x ((n_.top ne2 ∷ left) ++ behind) others_parted p at)

  other_behind : (p : Object) → Contains behind p → regrown (e x) (g x) p ≡ (e x).turn p
  other_behind p at = other p (Contains-append_right (n_.top ne2 ∷ left) behind p at)

  other_kid : (a : Amended) → Contains (g x).others a → (p : Object) → Contains a.kids p → regrown (e x) (g x) p ≡ (e x).turn p
  other_kid a there p at =
      other_behind p
      (Contains-append_left (hd.kids ++ flat_map (λ (b : Amended). b.kids) (g x).others) (held (g x).same) p
      (Contains-append_right hd.kids (flat_map (λ (b : Amended). b.kids) (g x).others) p (in_flat (λ (b : Amended). b.kids) (g x).others a p there at)))

  other_moving : (p : ℕ × Object) → Contains (e x).moving p → regrown (e x) (g x) p.1 ≡ (e x).turn p.1
  other_moving p at =
      let leaves = in_first (left_in e2) ((e x).gone ++ (e x).moving) is2.left p (Contains-append_right (e x).gone (e x).moving p at) in
      other p.1 (Contains-append_left (n_.top ne2 ∷ left) behind p.1 (contains_later (n_.top ne2) p.1 left (in_map (λ (q : ℕ × Object). q.1) (left_in e2) p leaves)))

  -- ---- the directory that holds it

  o_path : ((e x).turn o).path ≡ ((e x).turn k.object).path ++ o.entry.name ∷ []
  o_path = is2.paths k o (g x).dir k_in (kid o o_kid) (gr x).dir_is away

  k_path : ((e x).turn k.object).path ≡ k.object.path
  k_path =
      sym (holder_pushed ((e x).turn k.object).path o.entry.name)
      ∙ ap holder (sym o_path ∙ ap (λ (p : Object). p.path) (gr x).stays ∙ child_path (layout x) (listings x) (h x).sound k o k_in (kid o o_kid)) ∙ holder_pushed k.object.path o.entry.name

  kid_turned : (p : Object) → Contains hd.amended.kids p → (((e x).turn p).path ≡ p.path) × (((e x).turn p).entry ≡ p.entry)
  kid_turned p at =
      let held' = kid p at in
      let among = child_is_object (layout x) (listings x) (h x).sound k p k_in held' in
      let n = (h x).held.each p among in
      let stays = n_.kid_away ne2 p n.number (in_kids p at) n.at_path in (
        is2.paths k p n.number k_in held' n.at_path stays ∙ ap (λ (r : Path). r ++ p.entry.name ∷ []) k_path ∙ sym (child_path (layout x) (listings x) (h x).sound k p k_in held'),
        (is2.keeps p n.number among n.at_path stays).entry,
      )

  children_were : IsPermutation hd.amended.children (map (e x).turn hd.amended.kids)
  children_were = subst (λ (ps : List (ℕ × Object)). IsPermutation hd.amended.children (objects ps ++ map (e x).turn hd.amended.kids)) hs.none_join i.holds

  children_now : IsPermutation (map (placed_anew (g x)) hd.amended.children) (map (regrown (e x) (g x)) (o ∷ hd.kids))
  children_now =
      let pa = placed_anew (g x) in
      let turn = (e x).turn in
      let first = IsPermutation-trans hd.amended.children (map turn hd.amended.kids) (map turn (o ∷ hd.kids)) children_were (IsPermutation-map turn hd.amended.kids (o ∷ hd.kids) hs.kids) in
      subst (IsPermutation (map pa hd.amended.children))
      (map_map pa turn (o ∷ hd.kids)
      ∙ mapped_same (λ (p : Object). pa (turn p)) (regrown (e x) (g x)) (o ∷ hd.kids)
      (λ p at. ap (λ (r : Path). cond (is_same_path o.path r) (at_place (g x) (turn p)) (turn p)) (kid_turned p (in_first hd.amended.kids (o ∷ hd.kids) hs.kids p at)).0))
      (IsPermutation-map pa hd.amended.children (map turn (o ∷ hd.kids)) first)

  entry_now : (p : Object) → Contains hd.amended.children p → (placed_anew (g x) p).entry ≡ regrown_entry k.object.path (Some (at_place (g x) o)) p.entry
  entry_now p at =
      let q = from_map (e x).turn hd.amended.kids p (in_other hd.amended.children (map (e x).turn hd.amended.kids) children_were p at) in
      let t = kid_turned q.0 q.1 in
      let path : p.path ≡ k.object.path ++ p.entry.name ∷ [] =
      subst (λ (r : Object). r.path ≡ k.object.path ++ r.entry.name ∷ []) q.2
      (t.0 ∙ child_path (layout x) (listings x) (h x).sound k q.0 k_in (kid q.0 q.1) ∙ ap (λ (y : Entry). k.object.path ++ y.name ∷ []) (sym t.1)) in
      by (is_same_path o.path p.path)
      ∙ ap (λ (b : Bool). cond b (record p.entry { address = (g x).address; len = (g x).len }) p.entry) (same_both o.path p.path ∙ ap (λ (r : Path). is_same_path r o.path) path)
    where
      by : (b : Bool) → (cond b (at_place (g x) p) p).entry ≡ cond b (record p.entry { address = (g x).address; len = (g x).len }) p.entry
      by true = refl
      by false = refl

  holding_amended : IsAmended (nodes x) e' (holding (e x) (g x) hd)
  holding_amended = record {
    number_is = i.number_is;
    held = IsPermutation-trans k.children (objects hd.amended.leave ++ hd.amended.kids) (o ∷ (objects hd.amended.leave ++ hd.kids)) i.held
        (IsPermutation-trans (objects hd.amended.leave ++ hd.amended.kids) (objects hd.amended.leave ++ o ∷ hd.kids) (o ∷ (objects hd.amended.leave ++ hd.kids))
        (IsPermutation-append_right (objects hd.amended.leave) hd.amended.kids (o ∷ hd.kids) hs.kids) (IsPermutation-middle (objects hd.amended.leave) o hd.kids));
    holds = subst (λ (ps : List (ℕ × Object)). IsPermutation (map (placed_anew (g x)) hd.amended.children) (regrown (e x) (g x) o ∷ (objects ps ++ map (regrown (e x) (g x)) hd.kids)))
        (sym hs.none_join) children_now;
    stored = map_map (λ (p : Object). p.entry) (placed_anew (g x)) hd.amended.children
        ∙ mapped_same (λ (p : Object). (placed_anew (g x) p).entry) (λ (p : Object). regrown_entry k.object.path (Some (at_place (g x) o)) p.entry) hd.amended.children entry_now
        ∙ sym (map_map (regrown_entry k.object.path (Some (at_place (g x) o))) (λ (p : Object). p.entry) hd.amended.children)
        ∙ ap (map (regrown_entry k.object.path (Some (at_place (g x) o)))) i.stored ∙ sym hs.entries;
    apart = apart_names hd.content (says (holding (e x) (g x) hd) (contains_here (holding (e x) (g x) hd) (g x).others)).body;
    left = λ p at. ⊎_elim (λ same. subst (λ (q : ℕ × Object). number_of (nodes x) q.1.path ≡ Some q.0) same (gr x).dir_is) (λ later. i.left p later)
        (contains_cases ((g x).dir, o) p hd.amended.leave at);
    paths = λ p at.
        ⊎_elim
        (λ same.
        subst (λ (q : ℕ × Object). q.1.path ≡ (regrown (e x) (g x) k.object).path ++ q.1.entry.name ∷ []) same
        (its_path x o ∙ o_path ∙ ap₂ (λ (r : Path) (n : List ℕ). r ++ n ∷ []) (sym (its_path x k.object)) (ap (λ (q : Object). q.entry.name) (sym (its_turn x)))))
        (λ later. absurd (no_element p (subst (λ (ps : List (ℕ × Object)). Contains ps p) hs.none_join later)))
        (contains_cases ((g x).dir, regrown (e x) (g x) o) p hd.amended.join at);
  }

  amends : (a : Amended) → Contains e'.amended a → IsAmended (nodes x) e' a
  amends a at =
      ⊎_elim (λ same. subst (IsAmended (nodes x) e') same holding_amended)
      (λ later.
      let j = is2.amends a (contains_later hd.amended a (g x).others later) in
      record {
        number_is = j.number_is;
        held = j.held;
        holds = holds_still x a (other_kid a later) j.holds;
        stored = j.stored;
        apart = j.apart;
        left = j.left;
        paths = λ p joins. path_still x a p.1 (j.paths p joins);
      })
      (contains_cases (holding (e x) (g x) hd) a (g x).others at)

  -- ---- the edit

  still_leaves : (n : ℕ) → Contains (numbers (leaving e2)) n → Contains (numbers (leaving e')) n
  still_leaves n leaves =
      subst (λ (ts : List (ℕ × Object)). Contains (numbers (ts ++ ((g x).dir, o) ∷ left_in e2)) n) (sym (gr x).none_leave)
      (contains_later (g x).dir n (numbers (left_in e2)) (subst (λ (ts : List (ℕ × Object)). Contains (numbers (ts ++ left_in e2)) n) (gr x).none_leave leaves))

  pub dir_leaves : Contains (numbers (leaving e')) (g x).dir
  dir_leaves =
      subst (λ (ts : List (ℕ × Object)). Contains (numbers (ts ++ ((g x).dir, o) ∷ left_in e2)) (g x).dir) (sym (gr x).none_leave) (contains_here (g x).dir (numbers (left_in e2)))

  keeps_as : (p : Object) → regrown (e x) (g x) p ≡ (e x).turn p → KeepsEntry e2 p → KeepsEntry e' p
  keeps_as p same keep = record { entry = ap (λ (q : Object). q.entry) same ∙ keep.entry; sectors = ap (λ (q : Object). q.sectors) same ∙ keep.sectors }

  top_keeps : (p : Object) → TopStays e2 p ⊎ TopTurns e2 p → KeepsEntry e2 p
  top_keeps p (inl t) = t.keeps
  top_keeps p (inr t) = absurd (let two : (let none : List (ℕ × Object) = [] in none) ≡ (0, p) ∷ [] = sym (gr x).none_leave ∙ t.leaves in cc)

  pub grown_edit : IsEdit (nodes x) (listings x) e'
  grown_edit = record {
    found = is2.found;
    amends = amends;
    out_gone = is2.out_gone;
    out_empty = is2.out_empty;
    into_come = is2.into_come;
    into_empty = is2.into_empty;
    into_joins = is2.into_joins;
    left = IsPermutation-trans (left_in e') (((g x).dir, o) ∷ ((e x).gone ++ (e x).moving)) ((e x).gone ++ ((g x).dir, o) ∷ (e x).moving)
        (IsPermutation-cons ((g x).dir, o) (left_in e2) ((e x).gone ++ (e x).moving) is2.left)
        (IsPermutation-sym ((e x).gone ++ ((g x).dir, o) ∷ (e x).moving) (((g x).dir, o) ∷ ((e x).gone ++ (e x).moving)) (IsPermutation-middle (e x).gone ((g x).dir, o) (e x).moving));
    joined = (let now : ℕ × Object = ((g x).dir, regrown (e x) (g x) o) in
        let same : map (turned e') (e x).moving ≡ map (turned e2) (e x).moving = mapped_same (turned e') (turned e2) (e x).moving (λ p at. ap (λ (q : Object). (p.0, q)) (other_moving p at)) in
        subst (λ (ps : List (ℕ × Object)). IsPermutation (joined_in e') ((e x).come ++ now ∷ ps)) (sym same)
        (IsPermutation-trans (joined_in e') (now ∷ ((e x).come ++ map (turned e2) (e x).moving)) ((e x).come ++ now ∷ map (turned e2) (e x).moving)
        (IsPermutation-cons now (joined_in e2) ((e x).come ++ map (turned e2) (e x).moving) is2.joined)
        (IsPermutation-sym ((e x).come ++ now ∷ map (turned e2) (e x).moving) (now ∷ ((e x).come ++ map (turned e2) (e x).moving))
        (IsPermutation-middle (e x).come now (map (turned e2) (e x).moving)))));
    kinds = λ p. its_kind x p ∙ is2.kinds p;
    top_path = λ p at path. its_path x p ∙ is2.top_path p at path;
    top = λ p at path. inl (record {
      leaves = (gr x).none_leave;
      joins = (gr x).none_join;
      keeps = keeps_as p (other_number x p 0 (ap (number_of (nodes x)) path) (λ same. lower (sym same))) (top_keeps p (is2.top p at path));
    });
    keeps = λ p n at is none.
        keeps_as p (other_number x p n is (λ same. none (subst (Contains (numbers (leaving e'))) (sym same) dir_leaves)))
        (is2.keeps p n at is (λ leaves. none (still_leaves n leaves)));
    paths = λ l p n at held' is none.
        its_path x p ∙ is2.paths l p n at held' is (λ leaves. none (still_leaves n leaves)) ∙ ap (λ (r : Path). r ++ p.entry.name ∷ []) (sym (its_path x l.object));
  }
