-- The root grows: the edit with it is one.
use Rattle.std.proofs.Common.{◌≡◌, inr, ℕ, List, [], ◌∷◌, ◌++◌, map, flat_map, sym, ap, subst, ◌∙◌, None}
use Rattle.std.specs.Prelude.{Contains, IsPermutation}
use Rattle.std.proofs.lemmas.List.Elements.{Contains-append_left, Contains-append_right}
use Rattle.fc_names.specs.Names.{Path}
use Rattle.fc_image.specs.Walk.{Object}
use Rattle.fc_image.specs.Objects.{objects_of}
use Rattle.fc_image.specs.Order.{held}
use Rattle.fc_tree.specs.Nodes.{number_of}
use Rattle.fc_tree.proofs.MemberLemmas.{contains_here, in_map}
use Rattle.fc_tree.proofs.WalkedLemmas.{same_some}
use Rattle.fc_laws.proofs.lemmas.nodes.ListLemmas.{in_first}
use Rattle.fc_laws.proofs.lemmas.nodes.OtherLemmas.{top_object}
use Rattle.fc_edits.specs.Edit.{Amended, Edit, IsAmended, IsEdit, TopTurns, joined_in, leaving, left_in, numbers, objects, turned}
use Rattle.fc_edits.specs.Growing.{EditGrowing, grown_by, regrown, told}
use Rattle.fc_edits.specs.NodesEdit.{NodesEdit}
use Rattle.fc_edits.proofs.lemmas.AroundLemmas as ar
use Rattle.fc_edits.proofs.lemmas.AroundLemmas.{mapped_same}
use Rattle.fc_edits.proofs.lemmas.GrowingLemmas.{e, g, gr, h, holds_still, its_kind, its_path, layout, listings, nodes, o_in, other_number, other_turn, path_still, unlike_others}
use Rattle.fc_edits.proofs.lemmas.ListLemmas.{in_flat}
use Rattle.fc_edits.proofs.lemmas.NumberLemmas as n_
use Rattle.fc_image.proofs.EntriesLemmas.{later as contains_later}

module _ (x : EditGrowing) (cut : IsPermutation (x.edit.amended ++ map (told x.edit) x.growing.again) x.growing.others) (at_top : x.growing.o.path ≡ []) where
  abbrev e2 : Edit
  e2 = ar.around (e x) (g x) None

  abbrev pub e' : Edit
  e' = grown_by (e x) (g x) None

  abbrev pub ne2 : NodesEdit
  ne2 = ar.around_nodes x None cut

  abbrev pub is2 : IsEdit (nodes x) (listings x) e2
  is2 = ar.around_edit x None cut

  abbrev o : Object
  o = (g x).o

  is_top : (p : Object) → Contains (objects_of (listings x)) p → p.path ≡ [] → p ≡ n_.top ne2
  is_top p at path = top_object (layout x) (listings x) (nodes x) (h x).sound (h x).held p at path

  pub zero_is : (g x).dir ≡ 0
  zero_is = same_some (g x).dir 0 (sym (gr x).dir_is ∙ ap (number_of (nodes x)) at_top)

  -- ---- the other objects

  abbrev left : List Object
  left = objects (left_in e2)

  others_parted : IsPermutation (objects_of (listings x)) (o ∷ (left ++ n_.kids ne2))
  others_parted = subst (λ (p : Object). IsPermutation (objects_of (listings x)) (p ∷ (left ++ n_.kids ne2))) (sym (is_top o (o_in x) at_top)) (n_.all_parted ne2)

  other : (p : Object) → Contains (left ++ n_.kids ne2) p → regrown (e x) (g x) p ≡ (e x).turn p
  other p at = other_turn x p (unlike_others x (left ++ n_.kids ne2) others_parted p at)

  other_kid : (a : Amended) → Contains (g x).others a → (p : Object) → Contains a.kids p → regrown (e x) (g x) p ≡ (e x).turn p
  other_kid a there p at =
      other p
      (Contains-append_right left (n_.kids ne2) p
      (Contains-append_left (flat_map (λ (b : Amended). b.kids) (g x).others) (held (g x).same) p (in_flat (λ (b : Amended). b.kids) (g x).others a p there at)))

  other_moving : (p : ℕ × Object) → Contains (e x).moving p → regrown (e x) (g x) p.1 ≡ (e x).turn p.1
  other_moving p at =
      let leaves = in_first (left_in e2) ((e x).gone ++ (e x).moving) is2.left p (Contains-append_right (e x).gone (e x).moving p at) in
      other p.1 (Contains-append_left left (n_.kids ne2) p.1 (in_map (λ (q : ℕ × Object). q.1) (left_in e2) p leaves))

  amends : (a : Amended) → Contains (g x).others a → IsAmended (nodes x) e' a
  amends a at =
      let j = is2.amends a at in
      record {
        number_is = j.number_is;
        held = j.held;
        holds = holds_still x a (other_kid a at) j.holds;
        stored = j.stored;
        apart = j.apart;
        left = j.left;
        paths = λ p joins. path_still x a p.1 (j.paths p joins);
      }

  -- ---- the edit

  pub still_leaves : (n : ℕ) → Contains (numbers (leaving e2)) n → Contains (numbers (leaving e')) n
  still_leaves n leaves = contains_later 0 n (numbers (left_in e2)) (subst (λ (ts : List (ℕ × Object)). Contains (numbers (ts ++ left_in e2)) n) (gr x).none_leave leaves)

  other_stays : (n : ℕ) → (Contains (numbers (leaving e')) n → ⊥) → n ≡ (g x).dir → ⊥
  other_stays n none same = none (subst (Contains (numbers (leaving e'))) (sym (same ∙ zero_is)) (contains_here 0 (numbers (left_in e2))))

  turns : (p : Object) → o ≡ p → TopTurns e' p
  turns p same = record {
    leaves = ap (λ (q : Object). (let pair : ℕ × Object = (0, q) in pair) ∷ []) same;
    joins = ap (λ (q : Object). (let pair : ℕ × Object = (0, regrown (e x) (g x) q) in pair) ∷ []) same;
  }

  pub grown_root : IsEdit (nodes x) (listings x) e'
  grown_root = record {
    found = is2.found;
    amends = amends;
    out_gone = is2.out_gone;
    out_empty = is2.out_empty;
    into_come = is2.into_come;
    into_empty = is2.into_empty;
    into_joins = is2.into_joins;
    left = is2.left;
    joined = subst (λ (ps : List (ℕ × Object)). IsPermutation (joined_in e2) ((e x).come ++ ps))
        (sym (mapped_same (turned e') (turned e2) (e x).moving (λ p at. ap (λ (q : Object). (p.0, q)) (other_moving p at)))) is2.joined;
    kinds = λ p. its_kind x p ∙ is2.kinds p;
    top_path = λ p at path. its_path x p ∙ is2.top_path p at path;
    top = λ p at path. inr (turns p (is_top o (o_in x) at_top ∙ sym (is_top p at path)));
    keeps = λ p n at is none.
        (let same = other_number x p n is (other_stays n none) in
        let keep = is2.keeps p n at is (λ leaves. none (still_leaves n leaves)) in
        record { entry = ap (λ (q : Object). q.entry) same ∙ keep.entry; sectors = ap (λ (q : Object). q.sectors) same ∙ keep.sectors });
    paths = λ l p n at held' is none.
        its_path x p ∙ is2.paths l p n at held' is (λ leaves. none (still_leaves n leaves)) ∙ ap (λ (r : Path). r ++ p.entry.name ∷ []) (sym (its_path x l.object));
  }
