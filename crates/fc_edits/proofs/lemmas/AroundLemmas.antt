-- Directories that an edit leaves as they are, and that are told something of the same entries: it is an edit still.
use Rattle.std.proofs.Common.{◌≡◌, ◌≤◌, ◌⊎◌, inl, inr, ⊎_elim, eq-eqb, ℕ, ◌+◌, Bool, true, false, cond, List, [], ◌∷◌, ◌++◌, map, flat_map, refl, sym, ap, ap₂, subst, ◌∙◌, arith, Option}
use Rattle.std.specs.Prelude.{Contains, IsPermutation, ◌==◌}
use Rattle.std.proofs.lemmas.Bool.{eqb-true}
use Rattle.std.proofs.lemmas.List.{append-nil, append_assoc}
use Rattle.std.proofs.lemmas.List.Elements.{Contains-append_cases, Contains-append_left, Contains-append_right}
use Rattle.std.proofs.lemmas.List.Sorted.{IsPermutation-append_left, IsPermutation-append_right, IsPermutation-map, IsPermutation-refl, IsPermutation-sym, IsPermutation-trans}
use Rattle.fc_dirs.specs.Entries.{first_twin}
use Rattle.fc_image.specs.Layout.{Layout}
use Rattle.fc_image.specs.Walk.{Listing, Object}
use Rattle.fc_image.specs.Order.{held}
use Rattle.fc_image.proofs.PathsLemmas.{many}
use Rattle.fc_image.proofs.ShuffleLemmas.{IsPermutation-flat_map, flat_map-append as flat_append}
use Rattle.fc_tree.proofs.MemberLemmas.{contains_here, from_map, in_map, many_permuted, no_element, some_many}
use Rattle.fc_tree.proofs.SoundLemmas.{children_stored}
use Rattle.fc_tree.proofs.WalkedLemmas.{child_is_object}
use Rattle.fc_laws.specs.nodes.Edits.{Nodes}
use Rattle.fc_laws.specs.nodes.Laws.{IsHeld}
use Rattle.fc_laws.proofs.lemmas.nodes.ListLemmas.{in_first, in_other}
use Rattle.fc_edits.specs.Edit.{Amended, Edit, IsAmended, IsEdit, KeepsEntry, TopStays, TopTurns, joined_in, joining, leaving, left_in, numbers, turned}
use Rattle.fc_edits.specs.Growing.{EditGrowing, Growing, Holder, IsGrowing, Told, amended_first, told}
use Rattle.fc_edits.specs.NewNodes.{AreDistinct, HasNumbers, nodes_after}
use Rattle.fc_edits.specs.NodesEdit.{NodesEdit}
use Rattle.fc_edits.proofs.lemmas.AfterLemmas.{after_law}
use Rattle.fc_edits.proofs.lemmas.ListLemmas.{in_flat, map_map}
use Rattle.fc_edits.proofs.lemmas.NumberLemmas as n_
use Rattle.fc_edits.proofs.lemmas.ShapeLemmas.{none_flat}
use Rattle.fc_image.proofs.TreeLemmas.{map_both as map_append}
use Rattle.fc_image.proofs.EntriesLemmas.{later as contains_later}

-- ---- lists

pub mapped_same : {X Y : Type 0} (f g : X → Y) (xs : List X) → ((x : X) → Contains xs x → f x ≡ g x) → map f xs ≡ map g xs
mapped_same f g [] each = refl
mapped_same {Y = Y} f g (x ∷ xs) each = ap₂ (λ (y : Y) (ys : List Y). y ∷ ys) (each x (contains_here x xs)) (mapped_same f g xs (λ z at. each z (contains_later x z xs at)))

-- a number that isn't there stands there never
absent : (ms : List ℕ) (j : ℕ) → (Contains ms j → ⊥) → many (λ (i : ℕ). i == j) ms ≡ 0
unfolding many
absent [] j away = refl
absent (i ∷ ms) j away = by (i == j) refl (absent ms j (λ there. away (contains_later i j ms there)))
  where
    by : (b : Bool) → (i == j) ≡ b → many (λ (x : ℕ). x == j) ms ≡ 0 → cond b 1 0 + many (λ (x : ℕ). x == j) ms ≡ 0
    by true e none = absurd (away (subst (λ (x : ℕ). Contains (i ∷ ms) x) (eqb-true i j e) (contains_here i ms)))
    by false e none = omega (arith, none)

-- numbers of which none stands twice stay so in another order
distinct_few : (ns : List ℕ) → AreDistinct ns → (n : ℕ) → many (λ (k : ℕ). k == n) ns ≤ 1
unfolding many
distinct_few [] once n = omega arith
distinct_few (k ∷ ns) once n = by (k == n) refl (distinct_few ns once.1 n)
  where
    by : (b : Bool) → (k == n) ≡ b → many (λ (x : ℕ). x == n) ns ≤ 1 → cond b 1 0 + many (λ (x : ℕ). x == n) ns ≤ 1
    by true e few = let zero' = absent ns n (subst (λ (x : ℕ). Contains ns x → ⊥) (eqb-true k n e) once.0) in omega (arith, zero')
    by false e few = omega (arith, few)

few_distinct : (ns : List ℕ) → ((n : ℕ) → many (λ (k : ℕ). k == n) ns ≤ 1) → AreDistinct ns
unfolding many
few_distinct [] few = tt
few_distinct (n ∷ ns) few = (
  λ at.
      (let one = some_many (λ (k : ℕ). k == n) ns n at (same_self n) in
      let all = few n in
      let first : cond (n == n) 1 0 ≡ (let x : ℕ = 1 in x) = ap (λ (b : Bool). let x : ℕ = cond b 1 0 in x) (same_self n) in
      omega (arith, one, all, first)),
  few_distinct ns (λ k. let all = few k in omega (arith, all)),
)
  where
    same_self : (k : ℕ) → (k == k) ≡ true
    same_self k = eq-eqb k k refl

pub distinct_permuted : (ns ms : List ℕ) → IsPermutation ns ms → AreDistinct ms → AreDistinct ns
distinct_permuted ns ms same once = few_distinct ns (λ n. subst (λ (k : ℕ). k ≤ 1) (many_permuted (λ (k : ℕ). k == n) ns ms same) (distinct_few ms once n))

-- ---- an edit in which directories are told something

-- the edit before the entry of the grown directory is another
abbrev pub around : Edit → Growing → Option Holder → Edit
around e g q = record e { amended = amended_first q g.others; same = g.same }

module _ (x : EditGrowing) (q : Option Holder) (cut : IsPermutation (x.edit.amended ++ map (told x.edit) x.growing.again) (amended_first q x.growing.others)) where
  abbrev pub nodes : Nodes
  nodes = x.nodes

  abbrev pub layout : Layout
  layout = x.layout

  abbrev pub listings : List Listing
  listings = x.listings

  abbrev pub e : Edit
  e = x.edit

  abbrev pub g : Growing
  g = x.growing

  abbrev pub h : IsHeld nodes layout listings
  h = x.held

  abbrev pub is : IsEdit nodes listings e
  is = x.is_edit

  abbrev pub gr : IsGrowing nodes layout e g
  gr = x.grows

  -- the edit without growth, and the nodes after it
  abbrev pub ne : NodesEdit
  ne = record {
    nodes = nodes;
    nodes' = nodes_after e nodes;
    layout = layout;
    listings = listings;
    edit = e;
    held = h;
    is_edit = is;
    nodes_edited = after_law nodes layout listings e h is x.has_numbers;
  }

  abbrev all : List Amended
  all = e.amended ++ map (told e) g.again

  abbrev first : List Amended
  first = amended_first q g.others

  -- ---- who is told

  pub told_same : (t : Told) → Contains g.again t → Contains e.same t.was
  told_same t at =
      in_first e.same (map (λ (u : Told). u.was) g.again ++ g.same) gr.same_is t.was
      (Contains-append_left (map (λ (u : Told). u.was) g.again) g.same t.was (in_map (λ (u : Told). u.was) g.again t at))

  pub same_same : (k : Listing) → Contains g.same k → Contains e.same k
  same_same k at =
      in_first e.same (map (λ (u : Told). u.was) g.again ++ g.same) gr.same_is k (Contains-append_right (map (λ (u : Told). u.was) g.again) g.same k at)

  told_listed : (t : Told) → Contains g.again t → Contains listings t.was
  told_listed t at = n_.stay_in ne t.was (n_.same_in ne t.was (told_same t at))

  pub amended_cases : (a : Amended) → Contains first a → Contains e.amended a ⊎ ((t : Told) × Contains g.again t × (told e t ≡ a))
  amended_cases a at =
      ⊎_elim (λ was. inl was) (λ more. inr (from_map (told e) g.again a more)) (Contains-append_cases e.amended (map (told e) g.again) a (in_first all first cut a at))

  pub still_amended : (a : Amended) → Contains e.amended a → Contains first a
  still_amended a at = in_other all first cut a (Contains-append_left e.amended (map (told e) g.again) a at)

  kid_keeps : (t : Told) → Contains g.again t → (p : Object) → Contains t.was.children p → KeepsEntry e p
  kid_keeps t there p kid =
      let among = child_is_object layout listings h.sound t.was p (told_listed t there) kid in
      let n = h.held.each p among in
      let in_kids = Contains-append_right (flat_map (λ (a : Amended). a.kids) e.amended) (held e.same) p (in_flat (λ (k : Listing). k.children) e.same t.was p (told_same t there) kid) in
      is.keeps p n.number among n.at_path (n_.kid_away ne p n.number in_kids n.at_path)

  told_amended : (t : Told) → Contains g.again t → IsAmended nodes e (told e t)
  told_amended t there =
      let its = gr.told_is t there in
      record {
        number_is = its.number_is;
        held = IsPermutation-refl t.was.children;
        holds = IsPermutation-refl (map e.turn t.was.children);
        stored = map_map (λ (p : Object). p.entry) e.turn t.was.children
            ∙ mapped_same (λ (p : Object). (e.turn p).entry) (λ (p : Object). p.entry) t.was.children (λ p kid. (kid_keeps t there p kid).entry)
            ∙ children_stored layout listings h.sound t.was (told_listed t there) ∙ sym its.entries;
        apart = ap first_twin its.entries ∙ h.sound.apart t.was (told_listed t there);
        left = λ p none. absurd (no_element p none);
        paths = λ p none. absurd (no_element p none);
      }

  pub first_amended : (a : Amended) → Contains first a → IsAmended nodes (around e g q) a
  first_amended a at =
      let i : IsAmended nodes e a = ⊎_elim (λ was. is.amends a was) (λ t. subst (IsAmended nodes e) t.2 (told_amended t.0 t.1)) (amended_cases a at) in
      record { number_is = i.number_is; held = i.held; holds = i.holds; stored = i.stored; apart = i.apart; left = i.left; paths = i.paths }

  -- ---- who leaves and who joins

  none_more : {Y : Type 0} (f : Amended → List Y) → ((t : Told) → f (told e t) ≡ []) → flat_map f all ≡ flat_map f e.amended
  none_more {Y} f none =
      flat_append f e.amended (map (told e) g.again) ∙ ap (λ (ys : List Y). flat_map f e.amended ++ ys) (none_flat f (told e) g.again none) ∙ append-nil (flat_map f e.amended)

  pub flat_first : {Y : Type 0} (f : Amended → List Y) → ((t : Told) → f (told e t) ≡ []) → IsPermutation (flat_map f first) (flat_map f e.amended)
  flat_first {Y} f none =
      subst (IsPermutation (flat_map f first)) (none_more f none) (IsPermutation-flat_map f first all (IsPermutation-sym all first cut))

  pub left_same : IsPermutation (left_in (around e g q)) (left_in e)
  left_same = flat_first (λ (a : Amended). a.leave) (λ t. refl)

  pub joined_same : IsPermutation (joined_in (around e g q)) (joined_in e)
  joined_same = flat_first (λ (a : Amended). a.join) (λ t. refl)

  pub leaving_same : IsPermutation (leaving (around e g q)) (leaving e)
  leaving_same = IsPermutation-append_right e.top_leave (left_in (around e g q)) (left_in e) left_same

  pub joining_same : IsPermutation (joining (around e g q)) (joining e)
  joining_same = IsPermutation-append_right e.top_join (joined_in (around e g q)) (joined_in e) joined_same

  abbrev number : ℕ × Object → ℕ
  number p = p.0

  pub still_leaves : (n : ℕ) → Contains (numbers (leaving e)) n → Contains (numbers (leaving (around e g q))) n
  still_leaves n at = in_first (numbers (leaving (around e g q))) (numbers (leaving e)) (IsPermutation-map number (leaving (around e g q)) (leaving e) leaving_same) n at

  -- ---- it is an edit

  found_now : IsPermutation listings (e.out ++ (map (λ (a : Amended). a.was) first ++ g.same))
  found_now =
      let was : Amended → Listing = λ a. a.was in
      let again' : List Listing = map (λ (t : Told). t.was) g.again in
      let one : IsPermutation (map was e.amended ++ e.same) (map was e.amended ++ (again' ++ g.same)) = IsPermutation-append_right (map was e.amended) e.same (again' ++ g.same) gr.same_is in
      let same : map was e.amended ++ (again' ++ g.same) ≡ map was all ++ g.same =
      sym (append_assoc (map was e.amended) again' g.same)
      ∙ ap (λ (ks : List Listing). ks ++ g.same) (ap (λ (ks : List Listing). map was e.amended ++ ks) (sym (map_map was (told e) g.again)) ∙ sym (map_append was e.amended (map (told e) g.again))) in
      let two : IsPermutation (map was all ++ g.same) (map was first ++ g.same) = IsPermutation-append_left g.same (map was all) (map was first) (IsPermutation-map was all first cut) in
      IsPermutation-trans listings (e.out ++ (map was e.amended ++ e.same)) (e.out ++ (map was first ++ g.same)) is.found
      (IsPermutation-append_right e.out (map was e.amended ++ e.same) (map was first ++ g.same)
      (IsPermutation-trans (map was e.amended ++ e.same) (map was all ++ g.same) (map was first ++ g.same) (subst (IsPermutation (map was e.amended ++ e.same)) same one) two))

  top_now : (o : Object) → TopStays e o ⊎ TopTurns e o → TopStays (around e g q) o ⊎ TopTurns (around e g q) o
  top_now o (inl t) = inl (record { leaves = t.leaves; joins = t.joins; keeps = record { entry = t.keeps.entry; sectors = t.keeps.sectors } })
  top_now o (inr t) = inr (record { leaves = t.leaves; joins = t.joins })

  pub around_edit : IsEdit nodes listings (around e g q)
  around_edit = record {
    found = found_now;
    amends = first_amended;
    out_gone = is.out_gone;
    out_empty = is.out_empty;
    into_come = is.into_come;
    into_empty = is.into_empty;
    into_joins = is.into_joins;
    left = IsPermutation-trans (left_in (around e g q)) (left_in e) (e.gone ++ e.moving) left_same is.left;
    joined = IsPermutation-trans (joined_in (around e g q)) (joined_in e) (e.come ++ map (turned e) e.moving) joined_same is.joined;
    kinds = is.kinds;
    top_path = is.top_path;
    top = λ o at path. top_now o (is.top o at path);
    keeps = λ o n at number_is stays.
        (let k = is.keeps o n at number_is (λ leaves. stays (still_leaves n leaves)) in
        record { entry = k.entry; sectors = k.sectors });
    paths = λ k o n at kid number_is stays. is.paths k o n at kid number_is (λ leaves. stays (still_leaves n leaves));
  }

  -- ---- its numbers

  told_stays : (t : Told) → Contains g.again t → Contains (numbers e.gone) t.number → ⊥
  told_stays t there gone =
      let p = from_map number e.gone t.number gone in
      let left = in_first (left_in e) (e.gone ++ e.moving) is.left p.0 (Contains-append_left e.gone e.moving p.0 p.1) in
      let leaves : Contains (numbers (left_in e)) t.number = subst (Contains (numbers (left_in e))) p.2 (in_map number (left_in e) p.0 left) in
      let joins = n_.dir_joins ne t.was t.number (n_.same_in ne t.was (told_same t there)) (gr.told_is t there).number_is leaves in
      x.has_numbers.lasting t.number gone (n_.joined_joins ne t.number (in_map number (joined_in e) (t.number, e.turn t.was.object) joins))

  pub around_numbers : HasNumbers nodes (around e g q)
  around_numbers = record {
    once = distinct_permuted (numbers (joining (around e g q))) (numbers (joining e)) (IsPermutation-map number (joining (around e g q)) (joining e) joining_same) x.has_numbers.once;
    gone_once = x.has_numbers.gone_once;
    into_once = x.has_numbers.into_once;
    lasting = λ n gone joins.
        x.has_numbers.lasting n gone
        (in_other (numbers (joining (around e g q))) (numbers (joining e)) (IsPermutation-map number (joining (around e g q)) (joining e) joining_same) n joins);
    new = x.has_numbers.new;
    gone_others = λ a at gone.
        ⊎_elim (λ was. x.has_numbers.gone_others a was gone)
        (λ t. told_stays t.0 t.1 (subst (Contains (numbers e.gone)) (sym (ap (λ (b : Amended). b.number) t.2)) gone)) (amended_cases a at);
    into_others = λ p at file into. x.has_numbers.into_others p (in_other (joined_in (around e g q)) (joined_in e) joined_same p at) file into;
  }

  abbrev pub around_nodes : NodesEdit
  around_nodes = record {
    nodes = nodes;
    nodes' = nodes_after (around e g q) nodes;
    layout = layout;
    listings = listings;
    edit = around e g q;
    held = h;
    is_edit = around_edit;
    nodes_edited = after_law nodes layout listings (around e g q) h around_edit around_numbers;
  }
