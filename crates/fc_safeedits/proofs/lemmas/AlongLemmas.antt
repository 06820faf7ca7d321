-- What is carried along by an edit with identifiers that move, and what stays beside it.
use Rattle.std.proofs.Common.{◌≡◌, ◌⊎◌, inl, inr, ⊎_elim, ℕ, Bool, true, false, cond, List, [], ◌∷◌, ◌++◌, map, refl, sym, ap, ap₂, subst, ◌∙◌, Some}
use Rattle.std.specs.Prelude.{Contains, IsPermutation}
use Rattle.std.proofs.lemmas.List.{append_assoc}
use Rattle.std.proofs.lemmas.List.Elements.{Contains-append_cases, Contains-append_right}
use Rattle.std.proofs.lemmas.List.Sorted.{IsPermutation-append_right, IsPermutation-cons, IsPermutation-map, IsPermutation-middle, IsPermutation-sym, IsPermutation-trans}
use Rattle.fc_image.specs.Layout.{Layout}
use Rattle.fc_image.specs.Walk.{Object}
use Rattle.fc_image.specs.Objects.{objects_of}
use Rattle.fc_tree.specs.Nodes.{number_of}
use Rattle.fc_tree.proofs.MemberLemmas.{from_map, in_map}
use Rattle.fc_tree.proofs.WalkedLemmas.{root_path}
use Rattle.fc_laws.proofs.lemmas.nodes.FitsLemmas.{one_number}
use Rattle.fc_laws.proofs.lemmas.nodes.ListLemmas.{in_first, in_other}
use Rattle.fc_edits.specs.Edit.{Edit, TopStays, TopTurns, joined_in, joining, leaving, left_in, numbers, objects}
use Rattle.fc_edits.specs.NodesEdit.{NodesEdit}
use Rattle.fc_edits.specs.Places.{Stays}
use Rattle.fc_edits.proofs.lemmas.ListLemmas.{map_map}
use Rattle.fc_edits.proofs.lemmas.LeavingLemmas.{left_among, left_number, left_other}
use Rattle.fc_edits.proofs.lemmas.NumberLemmas as n_
use Rattle.fc_safeedits.specs.Relocation.{Relocation, is_moved, laid_at, laid_in, number_at, relocated, turned_at, turned_in}
use Rattle.fc_safeedits.proofs.lemmas.LaidLemmas.{number_is}
use Rattle.fc_safeedits.proofs.lemmas.RelocatedLemmas.{e', extra, is_edit', joined', left', moved_leaves}
use Rattle.fc_safeedits.proofs.lemmas.RelocatedNodesLemmas.{carried_stays, nodes_now, top_still}
use Rattle.fc_image.proofs.TreeLemmas.{map_both as map_append}
use Rattle.fc_image.proofs.EntriesLemmas.{cases as contains_cases}

-- ---- who stays, by any edit

pub record Beside (ne : NodesEdit) : Type 0 where
  pub os : List Object
  pub parted : IsPermutation (objects_of ne.listings) (objects (leaving ne.edit) ++ os)
  pub each : (o : Object) → Contains os o → Stays ne.nodes ne.listings ne.edit o

module _ (ne : NodesEdit) where
  abbrev top : Object
  top = n_.top ne

  kid_is : (o : Object) → Contains (n_.kids ne) o → Stays ne.nodes ne.listings ne.edit o
  kid_is o at =
      let among = in_first (objects_of ne.listings) (top ∷ (objects (left_in ne.edit) ++ n_.kids ne)) (n_.all_parted ne) o
      (Contains-append_right (top ∷ []) (objects (left_in ne.edit) ++ n_.kids ne) o (Contains-append_right (objects (left_in ne.edit)) (n_.kids ne) o at)) in
      let n = ne.held.held.each o among in
      record { among = among; number = n.number; number_is = n.at_path; stays = n_.kid_away ne o n.number at n.at_path }

  pub beside : Beside ne
  beside = by (ne.is_edit.top top (n_.top_in ne) (root_path ne.layout ne.listings ne.held.sound))
    where
      top_is : TopStays ne.edit top → Stays ne.nodes ne.listings ne.edit top
      top_is t = record {
        among = n_.top_in ne;
        number = 0;
        number_is = ap (number_of ne.nodes) (root_path ne.layout ne.listings ne.held.sound);
        stays = λ at. n_.left_lower ne 0 (subst (λ (ps : List (ℕ × Object)). Contains (numbers (ps ++ left_in ne.edit)) 0) t.leaves at) refl;
      }

      by : TopStays ne.edit top ⊎ TopTurns ne.edit top → Beside ne
      by (inl t) = record {
        os = top ∷ n_.kids ne;
        parted = subst (λ (ps : List (ℕ × Object)). IsPermutation (objects_of ne.listings) (objects (ps ++ left_in ne.edit) ++ top ∷ n_.kids ne)) (sym t.leaves)
            (IsPermutation-trans (objects_of ne.listings) (top ∷ (objects (left_in ne.edit) ++ n_.kids ne)) (objects (left_in ne.edit) ++ top ∷ n_.kids ne) (n_.all_parted ne)
            (IsPermutation-sym (objects (left_in ne.edit) ++ top ∷ n_.kids ne) (top ∷ (objects (left_in ne.edit) ++ n_.kids ne)) (IsPermutation-middle (objects (left_in ne.edit)) top (n_.kids ne))));
        each = λ o at. ⊎_elim (λ same. subst (Stays ne.nodes ne.listings ne.edit) same (top_is t)) (λ later. kid_is o later) (contains_cases top o (n_.kids ne) at);
      }
      by (inr t) = record {
        os = n_.kids ne;
        parted = subst (λ (ps : List (ℕ × Object)). IsPermutation (objects_of ne.listings) (objects (ps ++ left_in ne.edit) ++ n_.kids ne)) (sym t.leaves) (n_.all_parted ne);
        each = kid_is;
      }

-- ---- what is carried along

-- Besides what leaves and joins without the moves these objects do.
pub record Along (x : Relocation) : Type 0 where
  pub os : List Object
  pub leaves : IsPermutation (objects (leaving (relocated x))) (objects (leaving x.edit) ++ os)
  pub joins : IsPermutation (objects (joining (relocated x))) (map (laid_in x) (objects (joining x.edit)) ++ map (turned_in x) os)
  pub each : (o : Object) → Contains os o → Stays x.nodes x.listings x.edit o × (is_moved x.moves o ≡ true)

module _ (x : Relocation) where
  abbrev e : Edit
  e = x.edit

  abbrev moved : Object → Bool
  moved = is_moved x.moves

  abbrev pub ne' : NodesEdit
  ne' = record { nodes = x.nodes; nodes' = x.nodes'; layout = Layout.New x.m; listings = x.listings; edit = relocated x; held = x.held; is_edit = is_edit' x; nodes_edited = nodes_now x }

  abbrev below : List Object
  below = objects (extra x)

  below_each : (o : Object) → Contains below o → Stays x.nodes x.listings e o × (moved o ≡ true)
  below_each o at =
      let q = from_map (λ (p : ℕ × Object). p.1) (extra x) o at in
      subst (λ (p : Object). Stays x.nodes x.listings x.edit p × (is_moved x.moves p ≡ true)) q.2 (carried_stays x q.0 q.1)

  below_leaves : IsPermutation (objects (left_in (e' x))) (objects (left_in e) ++ below)
  below_leaves =
      subst (IsPermutation (objects (left_in (e' x)))) (map_append (λ (p : ℕ × Object). p.1) (left_in e) (extra x))
      (IsPermutation-map (λ (p : ℕ × Object). p.1) (left_in (e' x)) (left_in e ++ extra x) (left' x))

  below_joins : IsPermutation (objects (joined_in (e' x))) (map (laid_in x) (objects (joined_in e)) ++ map (turned_in x) below)
  below_joins =
      subst (IsPermutation (objects (joined_in (e' x))))
      (map_append (λ (p : ℕ × Object). p.1) (map (laid_at x) (joined_in e)) (map (turned_at x) (extra x))
      ∙ ap₂ (λ (os ps : List Object). os ++ ps) (map_map (λ (p : ℕ × Object). p.1) (laid_at x) (joined_in e) ∙ sym (map_map (laid_in x) (λ (p : ℕ × Object). p.1) (joined_in e)))
      (map_map (λ (p : ℕ × Object). p.1) (turned_at x) (extra x) ∙ sym (map_map (turned_in x) (λ (p : ℕ × Object). p.1) (extra x))))
      (IsPermutation-map (λ (p : ℕ × Object). p.1) (joined_in (e' x)) (map (laid_at x) (joined_in e) ++ map (turned_at x) (extra x)) (joined' x))

  -- if the root doesn't come to it
  plain : (ps : List (ℕ × Object)) → e.top_leave ≡ ps → (e' x).top_leave ≡ ps → (e' x).top_join ≡ map (laid_at x) e.top_join → Along x
  plain ps was now joins = record {
    os = below;
    leaves = subst (λ (qs : List (ℕ × Object)). IsPermutation (objects (qs ++ left_in (e' x))) (objects (e.top_leave ++ left_in e) ++ below)) (was ∙ sym now)
        (subst (λ (os : List Object). IsPermutation (objects (e.top_leave ++ left_in (e' x))) (os ++ below)) (sym (map_append (λ (p : ℕ × Object). p.1) e.top_leave (left_in e)))
        (subst (λ (os : List Object). IsPermutation os ((objects e.top_leave ++ objects (left_in e)) ++ below)) (sym (map_append (λ (p : ℕ × Object). p.1) e.top_leave (left_in (e' x))))
        (subst (IsPermutation (objects e.top_leave ++ objects (left_in (e' x)))) (sym (append_assoc (objects e.top_leave) (objects (left_in e)) below))
        (IsPermutation-append_right (objects e.top_leave) (objects (left_in (e' x))) (objects (left_in e) ++ below) below_leaves))));
    joins =
        (let first : List Object = map (laid_in x) (objects e.top_join) in
        let top_now : objects (e' x).top_join ≡ first =
        ap objects joins ∙ map_map (λ (p : ℕ × Object). p.1) (laid_at x) e.top_join ∙ sym (map_map (laid_in x) (λ (p : ℕ × Object). p.1) e.top_join) in
        let was_all : map (laid_in x) (objects (joining e)) ≡ first ++ map (laid_in x) (objects (joined_in e)) =
        ap (λ (os : List Object). map (laid_in x) os) (map_append (λ (p : ℕ × Object). p.1) e.top_join (joined_in e)) ∙ map_append (laid_in x) (objects e.top_join) (objects (joined_in e)) in
        subst (λ (os : List Object). IsPermutation os (map (laid_in x) (objects (joining e)) ++ map (turned_in x) below))
        (ap (λ (os : List Object). os ++ objects (joined_in (e' x))) (sym top_now) ∙ sym (map_append (λ (p : ℕ × Object). p.1) (e' x).top_join (joined_in (e' x))))
        (subst (λ (os : List Object). IsPermutation (first ++ objects (joined_in (e' x))) (os ++ map (turned_in x) below)) (sym was_all)
        (subst (IsPermutation (first ++ objects (joined_in (e' x)))) (sym (append_assoc first (map (laid_in x) (objects (joined_in e))) (map (turned_in x) below)))
        (IsPermutation-append_right first (objects (joined_in (e' x))) (map (laid_in x) (objects (joined_in e)) ++ map (turned_in x) below) below_joins))));
    each = below_each;
  }

  -- if it does
  with_top : (t : TopStays e x.top) → moved x.top ≡ true → Along x
  with_top t m = record {
    os = x.top ∷ below;
    leaves =
        subst (λ (qs : List (ℕ × Object)). IsPermutation (objects (qs ++ left_in (e' x))) (objects (leaving e) ++ x.top ∷ below)) (sym (ap (λ (b : Bool). cond b ((0, x.top) ∷ []) e.top_leave) m))
        (subst (λ (qs : List (ℕ × Object)). IsPermutation (x.top ∷ objects (left_in (e' x))) (objects (qs ++ left_in e) ++ x.top ∷ below)) (sym t.leaves)
        (IsPermutation-trans (x.top ∷ objects (left_in (e' x))) (x.top ∷ (objects (left_in e) ++ below)) (objects (left_in e) ++ x.top ∷ below)
        (IsPermutation-cons x.top (objects (left_in (e' x))) (objects (left_in e) ++ below) below_leaves)
        (IsPermutation-sym (objects (left_in e) ++ x.top ∷ below) (x.top ∷ (objects (left_in e) ++ below)) (IsPermutation-middle (objects (left_in e)) x.top below))));
    joins =
        (let old : List Object = map (laid_in x) (objects (joined_in e)) in
        let new : List Object = map (turned_in x) below in
        subst (λ (qs : List (ℕ × Object)). IsPermutation (objects (qs ++ joined_in (e' x))) (map (laid_in x) (objects (joining e)) ++ turned_in x x.top ∷ new))
        (sym (ap (λ (b : Bool). cond b ((0, turned_in x x.top) ∷ []) (map (laid_at x) e.top_join)) m))
        (subst (λ (qs : List (ℕ × Object)). IsPermutation (turned_in x x.top ∷ objects (joined_in (e' x))) (map (laid_in x) (objects (qs ++ joined_in e)) ++ turned_in x x.top ∷ new)) (sym t.joins)
        (IsPermutation-trans (turned_in x x.top ∷ objects (joined_in (e' x))) (turned_in x x.top ∷ (old ++ new)) (old ++ turned_in x x.top ∷ new)
        (IsPermutation-cons (turned_in x x.top) (objects (joined_in (e' x))) (old ++ new) below_joins)
        (IsPermutation-sym (old ++ turned_in x x.top ∷ new) (turned_in x x.top ∷ (old ++ new)) (IsPermutation-middle old (turned_in x x.top) new)))));
    each = λ o at. ⊎_elim (λ same. subst (λ (p : Object). Stays x.nodes x.listings e p × (moved p ≡ true)) same (top_still x t, m)) (λ later. below_each o later) (contains_cases x.top o below at);
  }

  pub along : Along x
  along = by (moved x.top) refl (x.is_edit.top x.top x.top_in x.top_path)
    where
      by : (b : Bool) → moved x.top ≡ b → TopStays e x.top ⊎ TopTurns e x.top → Along x
      by true m (inl t) = with_top t m
      by true m (inr t) =
          plain ((0, x.top) ∷ []) t.leaves (ap (λ (b : Bool). cond b ((0, x.top) ∷ []) e.top_leave) m)
          (ap (λ (b : Bool). cond b ((0, turned_in x x.top) ∷ []) (map (laid_at x) e.top_join)) m ∙ ap (λ (qs : List (ℕ × Object)). map (laid_at x) qs) (sym t.joins))
      by false m t = plain e.top_leave refl (ap (λ (b : Bool). cond b ((0, x.top) ∷ []) e.top_leave) m) (ap (λ (b : Bool). cond b ((0, turned_in x x.top) ∷ []) (map (laid_at x) e.top_join)) m)

  -- ---- none is missed

  -- An object that would have stayed, and whose identifier moves, is carried along.
  pub moved_along : (o : Object) → Stays x.nodes x.listings e o → moved o ≡ true → Contains along.os o
  moved_along o s m =
      let q = from_map (λ (p : ℕ × Object). p.0) (leaving (e' x)) (number_at x.nodes o.path) (moved_leaves x o s.among m) in
      let number = left_number x.nodes (Layout.New x.m) x.listings (e' x) x.held (is_edit' x) q.0 q.1 ∙ ap (λ (k : ℕ). Some k) q.2 in
      let one : q.0.1 ≡ o = one_number (Layout.New x.m) x.listings x.nodes x.held.sound x.held.held q.0.1 o (number_at x.nodes o.path)
      (left_among x.nodes (Layout.New x.m) x.listings (e' x) x.held (is_edit' x) q.0 q.1) s.among number (number_is x o s.among) in
      let there : Contains (objects (leaving e) ++ along.os) o =
      in_other (objects (leaving (e' x))) (objects (leaving e) ++ along.os) along.leaves o (subst (Contains (objects (leaving (e' x)))) one (in_map (λ (p : ℕ × Object). p.1) (leaving (e' x)) q.0 q.1)) in
      ⊎_elim (λ left. let r = from_map (λ (p : ℕ × Object). p.1) (leaving e) o left in absurd (left_other x.nodes (Layout.New x.m) x.listings e x.held x.is_edit r.0 o r.1 s r.2))
      (λ found. found) (Contains-append_cases (objects (leaving e)) along.os o there)

  -- One that would have stayed, and whose identifier doesn't move, stays.
  pub still_beside : (o : Object) → Stays x.nodes x.listings e o → moved o ≡ false → Contains (beside ne').os o
  still_beside o s m =
      ⊎_elim
      (λ leaves.
      ⊎_elim (λ left. let r = from_map (λ (p : ℕ × Object). p.1) (leaving e) o left in absurd (left_other x.nodes (Layout.New x.m) x.listings e x.held x.is_edit r.0 o r.1 s r.2))
      (λ carries. absurd (let yes' = (along.each o carries).1 in let no' = m in cc))
      (Contains-append_cases (objects (leaving e)) along.os o (in_other (objects (leaving (e' x))) (objects (leaving e) ++ along.os) along.leaves o leaves)))
      (λ stays. stays) (Contains-append_cases (objects (leaving (e' x))) (beside ne').os o (in_other (objects_of x.listings) (objects (leaving (e' x)) ++ (beside ne').os) (beside ne').parted o s.among))
