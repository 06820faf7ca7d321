-- `rename` that copies its file as an edit, whatever its directories say of it.
use Rattle.std.proofs.Common.{◌≡◌, inl, ⊎_elim, ℕ, Bool, true, false, cond, List, [], ◌∷◌, ◌++◌, refl, sym, ap, subst, ◌∙◌, arith, Some}
use Rattle.std.specs.Prelude.{Contains}
use Rattle.std.proofs.lemmas.List.Sorted.{IsPermutation-refl}
use Rattle.fc_names.specs.Names.{is_same_path}
use Rattle.fc_image.specs.Layout.{Layout}
use Rattle.fc_image.specs.Walk.{Listing, Object, is_directory_object}
use Rattle.fc_image.specs.Objects.{objects_of}
use Rattle.fc_image.proofs.PathsLemmas.{itself}
use Rattle.fc_tree.specs.Nodes.{number_of}
use Rattle.fc_tree.proofs.MemberLemmas.{contains_here, no_element}
use Rattle.fc_tree.proofs.WalkedLemmas.{child_is_object, child_path, listed_directory}
use Rattle.fc_laws.specs.nodes.Edits.{Nodes}
use Rattle.fc_laws.specs.nodes.Laws.{IsHeld}
use Rattle.fc_laws.proofs.lemmas.nodes.FitsLemmas.{kid_lower, one_number}
use Rattle.fc_laws.proofs.lemmas.nodes.ListLemmas.{in_first}
use Rattle.fc_laws.proofs.lemmas.nodes.OtherLemmas.{unlike}
use Rattle.fc_edits.specs.Growing.{CanSayNew}
use Rattle.fc_edits.specs.Edit.{Amended, AreEdited, IsAmended, IsEdit, KeepsEntry}
use Rattle.fc_edits.specs.Copying.{Copies, Copying, copied, edit, from_it, new_path, to_it}
use Rattle.fc_edits.specs.NewNodes.{HasNumbers, nodes_after}
use Rattle.fc_edits.proofs.lemmas.AfterLemmas.{after_law}
use Rattle.fc_edits.proofs.lemmas.ShapeLemmas.{of_one}
use Rattle.fc_image.proofs.EntriesLemmas.{later as contains_later, cases as contains_cases}

pub is_copy : (c : Copying) → copied c c.o ≡ record { path = new_path c; entry = record c.o.entry { name = c.name; address = c.address }; sectors = c.sectors }
is_copy c = ap (λ (b : Bool). cond b (record { path = new_path c; entry = record c.o.entry { name = c.name; address = c.address }; sectors = c.sectors }) c.o) (itself c.o.path)

pub of_both : (c : Copying) (P : Amended → Type 0) → P (from_it c) → P (to_it c) → (a : Amended) → Contains (edit c).amended a → P a
of_both c P first second a at =
    ⊎_elim (λ same. subst P same first) (λ later. of_one P (to_it c) second a later) (contains_cases (from_it c) a (to_it c ∷ []) at)

module _ (nodes : Nodes) (layout : Layout) (listings : List Listing) (c : Copying) (h : IsHeld nodes layout listings) (g : Copies nodes listings c) where
  pub k_in : Contains listings c.k
  k_in = in_first listings (c.k ∷ (c.l ∷ c.rest)) g.found c.k (contains_here c.k (c.l ∷ c.rest))

  pub l_in : Contains listings c.l
  l_in = in_first listings (c.k ∷ (c.l ∷ c.rest)) g.found c.l (contains_later c.k c.l (c.l ∷ c.rest) (contains_here c.l c.rest))

  pub kid_in : Contains c.k.children c.o
  kid_in = in_first c.k.children (c.o ∷ c.kids) g.k_holds c.o (contains_here c.o c.kids)

  pub among : Contains (objects_of listings) c.o
  among = child_is_object layout listings h.sound c.k c.o k_in kid_in

  lower : c.number ≡ 0 → ⊥
  lower = kid_lower layout listings nodes h.sound h.held c.k c.o c.number k_in kid_in g.number_is

  -- an object of another number stays as it is
  pub stays : (p : Object) (n : ℕ) → number_of nodes p.path ≡ Some n → (n ≡ c.number → ⊥) → copied c p ≡ p
  stays p n is other =
      ap (λ (b : Bool). cond b (record { path = new_path c; entry = record p.entry { name = c.name; address = c.address }; sectors = c.sectors }) p)
      (unlike nodes c.o.path p.path c.number n g.number_is is (λ e. other (sym e)))

  -- so does a directory
  pub dir_stays : (k : Listing) → Contains listings k → copied c k.object ≡ k.object
  dir_stays k at =
      let dir = listed_directory layout listings h.sound k at in
      let n = h.held.each k.object dir.0 in
      stays k.object n.number n.at_path (λ e.
      let same = one_number layout listings nodes h.sound h.held k.object c.o n.number dir.0 among n.at_path (g.number_is ∙ ap (λ (i : ℕ). Some i) (sym e)) in
      let two : true ≡ false = sym dir.1 ∙ ap is_directory_object same ∙ g.file in
      cc)

  keeps : (p : Object) → copied c p ≡ p → KeepsEntry (edit c) p
  keeps p same = record { entry = ap (λ (x : Object). x.entry) same; sectors = ap (λ (x : Object). x.sectors) same }

  from_amended : IsAmended nodes (edit c) (from_it c)
  from_amended = record {
    number_is = g.home_is;
    held = g.k_holds;
    holds = g.k_children;
    stored = g.k_entries;
    apart = g.k_apart;
    left = of_one (λ (p : ℕ × Object). number_of nodes p.1.path ≡ Some p.0) (c.number, c.o) g.number_is;
    paths = λ p none. absurd (no_element p none);
  }

  to_amended : IsAmended nodes (edit c) (to_it c)
  to_amended = record {
    number_is = g.dir_is;
    held = IsPermutation-refl c.l.children;
    holds = g.l_children;
    stored = g.l_entries;
    apart = g.l_apart;
    left = λ p none. absurd (no_element p none);
    paths = of_one (λ (p : ℕ × Object). p.1.path ≡ (copied c c.l.object).path ++ p.1.entry.name ∷ []) (c.number, copied c c.o)
        (ap (λ (x : Object). x.path) (is_copy c) ∙ (λ i. (sym (dir_stays c.l l_in) i).path ++ (sym (is_copy c) i).entry.name ∷ []));
  }

  same_kind : (b : Bool) (p : Object) → is_directory_object (cond b (record { path = new_path c; entry = record p.entry { name = c.name; address = c.address }; sectors = c.sectors }) p) ≡ is_directory_object p
  same_kind true p = refl
  same_kind false p = refl

  pub is_edit : IsEdit nodes listings (edit c)
  is_edit = record {
    found = g.found;
    amends = of_both c (IsAmended nodes (edit c)) from_amended to_amended;
    out_gone = refl;
    out_empty = refl;
    into_come = refl;
    into_empty = λ x at. absurd (no_element x at);
    into_joins = λ x at. absurd (no_element x at);
    left = IsPermutation-refl ((c.number, c.o) ∷ []);
    joined = IsPermutation-refl ((c.number, copied c c.o) ∷ []);
    kinds = λ p. same_kind (is_same_path c.o.path p.path) p;
    top_path = λ p at path. ap (λ (x : Object). x.path) (stays p 0 (ap (number_of nodes) path) (λ e. lower (sym e))) ∙ path;
    top = λ p at path. inl (record { leaves = refl; joins = refl; keeps = keeps p (stays p 0 (ap (number_of nodes) path) (λ e. lower (sym e))) });
    keeps = λ p n at is none. keeps p (stays p n is (λ e. none (subst (Contains (c.number ∷ [])) (sym e) (contains_here c.number []))));
    paths = λ k p n at kid is none.
        ap (λ (x : Object). x.path) (stays p n is (λ e. none (subst (Contains (c.number ∷ [])) (sym e) (contains_here c.number []))))
        ∙ child_path layout listings h.sound k p at kid ∙ ap (λ (x : Object). x.path ++ p.entry.name ∷ []) (sym (dir_stays k at));
  }

  pub has_numbers : HasNumbers nodes (edit c)
  has_numbers = record {
    once = ((λ at. no_element c.number at), tt);
    gone_once = tt;
    into_once = tt;
    lasting = λ n gone at. no_element n gone;
    new = λ p at. absurd (no_element p at);
    gone_others = λ a at gone. no_element a.number gone;
    into_others = λ p at file into. no_element p.0 into;
  }

  pub are_edited : AreEdited nodes (nodes_after (edit c) nodes) (edit c)
  are_edited = after_law nodes layout listings (edit c) h is_edit has_numbers

  same_len : (b : Bool) (p : Object) → (cond b (record { path = new_path c; entry = record p.entry { name = c.name; address = c.address }; sectors = c.sectors }) p).entry.len ≡ p.entry.len
  same_len true p = refl
  same_len false p = refl

  pub can_new : CanSayNew layout (edit c)
  can_new = record {
    few = omega arith;
    into = λ x at. absurd (no_element x at);
    into_none = λ x at. absurd (no_element x at);
    same = λ k at. same_len (is_same_path c.o.path k.object.path) k.object;
  }
