-- Objects that leave a directory, and those that stay.
use Rattle.std.proofs.Common.{◌≡◌, ◌⊎◌, inl, inr, ⊎_elim, ℕ, true, List, [], ◌∷◌, ◌++◌, map, sym, ap, subst, ◌∙◌, Some}
use Rattle.std.specs.Prelude.{Contains}
use Rattle.std.proofs.lemmas.List.Elements.{Contains-append_cases, Contains-append_left, Contains-append_right}
use Rattle.fc_newmap.proofs.PlaceLemmas.{in_back, in_front}
use Rattle.fc_image.specs.Layout.{Layout, is_among, is_apart}
use Rattle.fc_image.specs.Walk.{Listing, Object}
use Rattle.fc_image.specs.Objects.{objects_of}
use Rattle.fc_image.specs.Edits.{Apart}
use Rattle.fc_image.proofs.HolesLemmas.{apart_at, apart_from}
use Rattle.fc_tree.specs.Nodes.{number_of}
use Rattle.fc_tree.proofs.MemberLemmas.{from_flat, in_map, no_element}
use Rattle.fc_tree.proofs.SoundLemmas.{root_object}
use Rattle.fc_tree.proofs.WalkedLemmas.{child_is_object, root, root_path, same_some}
use Rattle.fc_changes.proofs.BasicLemmas.{clash}
use Rattle.fc_laws.specs.nodes.Edits.{Nodes}
use Rattle.fc_laws.specs.nodes.Laws.{IsHeld}
use Rattle.fc_laws.proofs.lemmas.nodes.ListLemmas.{in_first}
use Rattle.fc_edits.specs.Edit.{Amended, Edit, IsEdit, TopStays, TopTurns, leaving, left_in, numbers, objects}
use Rattle.fc_edits.specs.Places.{Stays}
use Rattle.fc_image.proofs.EntriesLemmas.{cases as contains_cases}

-- ---- objects that lie apart

later_apart : (taken : List ℕ) (os : List Object) (p : Object) (s : ℕ) → Apart taken os → Contains os p → is_among p.sectors s ≡ true → is_among taken s ≡ true → ⊥
later_apart taken [] p s a at u v = no_element p at
later_apart taken (q ∷ os) p s a at u v =
    ⊎_elim
    (λ same. clash (is_among taken s) v (apart_at q.sectors taken s a.0 (subst (λ (x : Object). is_among x.sectors s ≡ true) (sym same) u)))
    (λ later. later_apart (q.sectors ++ taken) os p s a.1 later u (in_back q.sectors taken s v)) (contains_cases q p os at)

-- objects of one sector are one
pub one_of_sector : (taken : List ℕ) (os : List Object) (o p : Object) (s : ℕ) → Apart taken os → Contains os o → Contains os p → is_among o.sectors s ≡ true → is_among p.sectors s ≡ true → o ≡ p
one_of_sector taken [] o p s a at bt u v = absurd (no_element o at)
one_of_sector taken (q ∷ os) o p s a at bt u v =
    ⊎_elim
    (λ o_is.
    ⊎_elim (λ p_is. sym o_is ∙ p_is)
    (λ p_later. absurd (later_apart (q.sectors ++ taken) os p s a.1 p_later v (in_front q.sectors taken s (subst (λ (x : Object). is_among x.sectors s ≡ true) (sym o_is) u))))
    (contains_cases q p os bt))
    (λ o_later.
    ⊎_elim
    (λ p_is. absurd (later_apart (q.sectors ++ taken) os o s a.1 o_later u (in_front q.sectors taken s (subst (λ (x : Object). is_among x.sectors s ≡ true) (sym p_is) v))))
    (λ p_later. one_of_sector (q.sectors ++ taken) os o p s a.1 o_later p_later u v) (contains_cases q p os bt))
    (contains_cases q o os at)

-- ---- an edit

module _ (nodes : Nodes) (layout : Layout) (listings : List Listing) (e : Edit) (h : IsHeld nodes layout listings) (is : IsEdit nodes listings e) where
  abbrev top : Object
  top = root layout listings h.sound

  of_top : (P : ℕ × Object → Type 0) → P (0, top) → (p : ℕ × Object) → Contains e.top_leave p → P p
  of_top P own p first = by (is.top top (root_object layout listings h.sound) (root_path layout listings h.sound))
    where
      by : TopStays e top ⊎ TopTurns e top → P p
      by (inl t) = absurd (no_element p (subst (λ (ps : List (ℕ × Object)). Contains ps p) t.leaves first))
      by (inr t) =
          ⊎_elim (λ same. subst P same own) (λ later. absurd (no_element p later)) (contains_cases (0, top) p [] (subst (λ (ps : List (ℕ × Object)). Contains ps p) t.leaves first))

  -- an object that leaves has the number with which it leaves
  pub left_number : (p : ℕ × Object) → Contains (leaving e) p → number_of nodes p.1.path ≡ Some p.0
  left_number p at =
      ⊎_elim (of_top (λ (q : ℕ × Object). number_of nodes q.1.path ≡ Some q.0) (ap (number_of nodes) (root_path layout listings h.sound)) p)
      (λ later. let b = from_flat (λ (x : Amended). x.leave) e.amended p later in (is.amends b.0 b.1).left p b.2) (Contains-append_cases e.top_leave (left_in e) p at)

  -- it was there
  pub left_among : (p : ℕ × Object) → Contains (leaving e) p → Contains (objects_of listings) p.1
  left_among p at =
      ⊎_elim (of_top (λ (q : ℕ × Object). Contains (objects_of listings) q.1) (root_object layout listings h.sound) p)
      (λ later.
      let b = from_flat (λ (x : Amended). x.leave) e.amended p later in
      let listed = in_first listings (e.out ++ (map (λ (x : Amended). x.was) e.amended ++ e.same)) is.found b.0.was
      (Contains-append_right e.out (map (λ (x : Amended). x.was) e.amended ++ e.same) b.0.was
      (Contains-append_left (map (λ (x : Amended). x.was) e.amended) e.same b.0.was (in_map (λ (x : Amended). x.was) e.amended b.0 b.1))) in
      let kid = in_first b.0.was.children (objects b.0.leave ++ b.0.kids) (is.amends b.0 b.1).held p.1
      (Contains-append_left (objects b.0.leave) b.0.kids p.1 (in_map (λ (q : ℕ × Object). q.1) b.0.leave p b.2)) in
      child_is_object layout listings h.sound b.0.was p.1 listed kid)
      (Contains-append_cases e.top_leave (left_in e) p at)

  -- and is none of those that stay
  pub left_other : (p : ℕ × Object) (o : Object) → Contains (leaving e) p → Stays nodes listings e o → p.1 ≡ o → ⊥
  left_other p o at s same =
      s.stays
      (subst (Contains (numbers (leaving e))) (same_some p.0 s.number (sym (left_number p at) ∙ ap (λ (x : Object). number_of nodes x.path) same ∙ s.number_is))
      (in_map (λ (q : ℕ × Object). q.0) (leaving e) p at))

  -- nor has it a sector of theirs
  pub left_apart : (taken : List ℕ) → Apart taken (objects_of listings) → (p : ℕ × Object) (o : Object) → Contains (leaving e) p → Stays nodes listings e o → is_apart p.1.sectors o.sectors ≡ true
  left_apart taken all p o at s =
      apart_from p.1.sectors o.sectors
      (λ t i j. left_other p o at s (one_of_sector taken (objects_of listings) p.1 o t all (left_among p at) s.among i j))
