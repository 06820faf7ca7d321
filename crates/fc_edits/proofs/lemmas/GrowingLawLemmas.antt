-- An edit in which a directory grows: its nodes and owners, and what directories say.
use Rattle.std.proofs.Common.{◌≡◌, ◌⊎◌, inl, inr, ⊎_elim, ℕ, true, false, List, [], ◌∷◌, ◌++◌, map, flat_map, refl, sym, ap, subst, ◌∙◌, Option, None, Some}
use Rattle.std.specs.Prelude.{Contains, IsPermutation}
use Rattle.std.specs.FinMap.{get}
use Rattle.std.proofs.lemmas.List.{append-nil, append_assoc}
use Rattle.std.proofs.lemmas.List.Elements.{Contains-append_left}
use Rattle.std.proofs.lemmas.List.Sorted.{IsPermutation-append_left, IsPermutation-append_right, IsPermutation-sym, IsPermutation-trans}
use Rattle.fc_names.specs.declared.name.NameForm.{NameForm}
use Rattle.fc_dirs.specs.declared.Entry.{Entry}
use Rattle.fc_dirs.specs.Directory.{directory_size}
use Rattle.fc_alloc.specs.declared.owner.Owner.{Owner}
use Rattle.fc_image.specs.Layout.{Layout}
use Rattle.fc_image.specs.Walk.{Listing, Object, is_directory_object}
use Rattle.fc_tree.specs.Nodes.{number_of}
use Rattle.fc_tree.proofs.MemberLemmas.{contains_here, from_map, in_map}
use Rattle.fc_tree.proofs.WalkedLemmas.{given, listed_directory, same_some}
use Rattle.fc_laws.specs.nodes.Edits.{OwnersEdited, owners_with}
use Rattle.fc_laws.specs.agree.Agreed.{CanSay}
use Rattle.fc_laws.proofs.lemmas.nodes.ListLemmas.{in_first}
use Rattle.fc_laws.proofs.lemmas.nodes.OtherLemmas.{top_object}
use Rattle.fc_edits.specs.Edit.{Amended, AreEdited, Edit, IsEdit, joined_in, joining, leaving, left_in, numbers, owners_in, owners_joined, owners_left}
use Rattle.fc_edits.specs.Growing.{CanSayNew, EditGrowing, GrowingLaw, Holder, Holds, IsHeldBy, amended_first, at_place, grown_by, holding, regrown, told, up_of, with_growth}
use Rattle.fc_edits.specs.NewNodes.{AreDistinct, HasNumbers, nodes_after}
use Rattle.fc_edits.specs.Places.{CanSayAll, IsRootEntry}
use Rattle.fc_edits.proofs.lemmas.AfterLemmas.{after_law}
use Rattle.fc_edits.proofs.lemmas.AroundLemmas as ar
use Rattle.fc_edits.proofs.lemmas.GrowingLemmas as below
use Rattle.fc_edits.proofs.lemmas.GrowingLemmas.{e, g, gr, h, its_turn, layout, listings, nodes, o_directory, o_in, other_number}
use Rattle.fc_edits.proofs.lemmas.GrownRootLemmas as root
use Rattle.fc_edits.proofs.lemmas.NumberLemmas as n_
use Rattle.fc_image.proofs.EntriesLemmas.{later as contains_later, cases as contains_cases}

-- ---- owners

owners_shuffled : (owners owners' gone gone' come come' : List Owner) → IsPermutation gone gone' → IsPermutation come come' → OwnersEdited owners owners' gone come → OwnersEdited owners owners' gone' come'
owners_shuffled owners owners' gone gone' come come' a b edited = record {
  rest = edited.rest;
  before = IsPermutation-trans owners (gone ++ edited.rest) (gone' ++ edited.rest) edited.before (IsPermutation-append_left edited.rest gone gone' a);
  after = IsPermutation-trans owners' (come ++ edited.rest) (come' ++ edited.rest) edited.after (IsPermutation-append_left edited.rest come come' b);
}

-- what one directory has more, before the others
one_more : (its tops first had others : List Owner) → tops ≡ [] → IsPermutation first (had ++ others) → IsPermutation (its ++ (tops ++ first)) (tops ++ ((its ++ had) ++ others))
one_more its tops first had others none same =
    subst (λ (ts : List Owner). IsPermutation (its ++ (ts ++ first)) (ts ++ ((its ++ had) ++ others))) (sym none)
    (subst (IsPermutation (its ++ first)) (sym (append_assoc its had others)) (IsPermutation-append_right its first (had ++ others) same))

-- ---- below the root

module _ (x : EditGrowing) (hd : Holder) (cut : IsPermutation (x.edit.amended ++ map (told x.edit) x.growing.again) (hd.amended ∷ x.growing.others)) (hs : Holds x.growing hd)
    (says : (a : Amended) → Contains (grown_by x.edit x.growing (Some hd)).amended a → CanSay x.layout (regrown x.edit x.growing a.was.object) a.content) where
  abbrev e2 : Edit
  e2 = ar.around (e x) (g x) (Some hd)

  abbrev e' : Edit
  e' = grown_by (e x) (g x) (Some hd)

  hn2 : HasNumbers (nodes x) e2
  hn2 = ar.around_numbers x (Some hd) cut

  away : Contains (numbers (leaving e2)) (g x).dir → ⊥
  away = below.away x hd cut hs says

  not_joining : Contains (numbers (joined_in e2)) (g x).dir → ⊥
  not_joining at =
      let ne2 = below.ne2 x hd cut hs says in
      let r = (h x).held.each (g x).o (o_in x) in
      n_.not_joining ne2 (g x).dir _ (ap (get (nodes x)) (same_some (g x).dir r.number (sym (gr x).dir_is ∙ r.at_path)) ∙ r.is) (below.lower x hd cut hs says) away (n_.joined_joins ne2 (g x).dir at)

  not_going : Contains (numbers (e x).gone) (g x).dir → ⊥
  not_going at =
      let p = from_map (λ (q : ℕ × Object). q.0) (e x).gone (g x).dir at in
      let is2 = below.is2 x hd cut hs says in
      let leaves = in_first (left_in e2) ((e x).gone ++ (e x).moving) is2.left p.0 (Contains-append_left (e x).gone (e x).moving p.0 p.1) in
      away (subst (Contains (numbers (leaving e2))) p.2 (n_.left_leaves (below.ne2 x hd cut hs says) p.0.0 (in_map (λ (q : ℕ × Object). q.0) (left_in e2) p.0 leaves)))

  joins_now : (n : ℕ) → Contains (numbers (joining e')) n → ((g x).dir ≡ n) ⊎ Contains (numbers (joining e2)) n
  joins_now n at =
      ⊎_elim (λ same. inl same) (λ later. inr (n_.joined_joins (below.ne2 x hd cut hs says) n later))
      (contains_cases (g x).dir n (numbers (joined_in e2))
      (subst (λ (ts : List (ℕ × Object)). Contains (numbers (ts ++ ((g x).dir, regrown (e x) (g x) (g x).o) ∷ joined_in e2)) n) (gr x).none_join at))

  pub held_numbers : HasNumbers (nodes x) e'
  held_numbers = record {
    once = subst (λ (ts : List (ℕ × Object)). AreDistinct (numbers (ts ++ ((g x).dir, regrown (e x) (g x) (g x).o) ∷ joined_in e2))) (sym (gr x).none_join)
        (not_joining, subst (λ (ts : List (ℕ × Object)). AreDistinct (numbers (ts ++ joined_in e2))) (gr x).none_join hn2.once);
    gone_once = hn2.gone_once;
    into_once = hn2.into_once;
    lasting = λ n gone joins. ⊎_elim (λ same. not_going (subst (Contains (numbers (e x).gone)) (sym same) gone)) (λ later. hn2.lasting n gone later) (joins_now n joins);
    new = hn2.new;
    gone_others = λ a at gone.
        ⊎_elim (λ same. hn2.gone_others hd.amended (contains_here hd.amended (g x).others) (subst (Contains (numbers (e x).gone)) (sym (ap (λ (b : Amended). b.number) same)) gone))
        (λ later. hn2.gone_others a (contains_later hd.amended a (g x).others later) gone) (contains_cases (holding (e x) (g x) hd) a (g x).others at);
    into_others = λ p at file into.
        ⊎_elim
        (λ same.
        (let two : true ≡ false =
        sym (o_directory x) ∙ ap is_directory_object (sym (gr x).stays) ∙ sym (below.its_kind x (g x).o) ∙ ap (λ (q : ℕ × Object). is_directory_object q.1) same ∙ file in
        cc))
        (λ later. hn2.into_others p later file into) (contains_cases ((g x).dir, regrown (e x) (g x) (g x).o) p (joined_in e2) at);
  }

  pub held_owners : (layout' : Layout) (owners owners' : List Owner)
      → OwnersEdited owners owners' (owners_with (layout x) hd.amended.number (g x).dir (g x).o ++ owners_left (layout x) (e x))
      (owners_with layout' hd.amended.number (g x).dir (at_place (g x) (g x).o) ++ owners_joined layout' (e x))
      → OwnersEdited owners owners' (owners_left (layout x) e') (owners_joined layout' e')
  held_owners layout' owners owners' edited =
      let leave : Amended → List Owner = λ a. owners_in (layout x) a.number a.leave in
      let join : Amended → List Owner = λ a. owners_in layout' a.number a.join in
      owners_shuffled owners owners' (owners_with (layout x) hd.amended.number (g x).dir (g x).o ++ owners_left (layout x) (e x)) (owners_left (layout x) e')
      (owners_with layout' hd.amended.number (g x).dir (at_place (g x) (g x).o) ++ owners_joined layout' (e x)) (owners_joined layout' e')
      (one_more (owners_with (layout x) hd.amended.number (g x).dir (g x).o) (owners_in (layout x) 0 (e x).top_leave) (flat_map leave (e x).amended) (leave hd.amended) (flat_map leave (g x).others)
      (ap (owners_in (layout x) 0) (gr x).none_leave)
      (IsPermutation-sym (leave hd.amended ++ flat_map leave (g x).others) (flat_map leave (e x).amended) (ar.flat_first x (Some hd) cut leave (λ t. refl))))
      (subst (λ (o : Object). IsPermutation (owners_with layout' hd.amended.number (g x).dir o ++ owners_joined layout' (e x)) (owners_joined layout' e')) (its_turn x)
      (one_more (owners_with layout' hd.amended.number (g x).dir (regrown (e x) (g x) (g x).o)) (owners_in layout' 0 (e x).top_join) (flat_map join (e x).amended) (join hd.amended) (flat_map join (g x).others)
      (ap (owners_in layout' 0) (gr x).none_join)
      (IsPermutation-sym (join hd.amended ++ flat_map join (g x).others) (flat_map join (e x).amended) (ar.flat_first x (Some hd) cut join (λ t. refl)))))
      edited

-- ---- the root

module _ (x : EditGrowing) (cut : IsPermutation (x.edit.amended ++ map (told x.edit) x.growing.again) x.growing.others) (at_top : x.growing.o.path ≡ []) where
  abbrev r2 : Edit
  r2 = ar.around (e x) (g x) None

  abbrev r' : Edit
  r' = grown_by (e x) (g x) None

  rn2 : HasNumbers (nodes x) r2
  rn2 = ar.around_numbers x None cut

  not_root : Contains (numbers (joined_in r2)) 0 → ⊥
  not_root at =
      let p = from_map (λ (q : ℕ × Object). q.0) (joined_in r2) 0 at in n_.join_lower (root.ne2 x cut at_top) p.0 p.1 p.2

  root_stays : Contains (numbers (e x).gone) 0 → ⊥
  root_stays at =
      let p = from_map (λ (q : ℕ × Object). q.0) (e x).gone 0 at in
      let is2 = root.is2 x cut at_top in
      let leaves = in_first (left_in r2) ((e x).gone ++ (e x).moving) is2.left p.0 (Contains-append_left (e x).gone (e x).moving p.0 p.1) in
      n_.left_lower (root.ne2 x cut at_top) p.0.0 (in_map (λ (q : ℕ × Object). q.0) (left_in r2) p.0 leaves) p.2

  pub root_numbers : HasNumbers (nodes x) r'
  root_numbers = record {
    once = (not_root, subst (λ (ts : List (ℕ × Object)). AreDistinct (numbers (ts ++ joined_in r2))) (gr x).none_join rn2.once);
    gone_once = rn2.gone_once;
    into_once = rn2.into_once;
    lasting = λ n gone joins.
        ⊎_elim (λ same. root_stays (subst (Contains (numbers (e x).gone)) (sym same) gone)) (λ later. rn2.lasting n gone (n_.joined_joins (root.ne2 x cut at_top) n later))
        (contains_cases 0 n (numbers (joined_in r2)) joins);
    new = rn2.new;
    gone_others = rn2.gone_others;
    into_others = rn2.into_others;
  }

  pub root_owners : (layout' : Layout) (owners owners' : List Owner)
      → OwnersEdited owners owners' (owners_with (layout x) 0 (g x).dir (g x).o ++ owners_left (layout x) (e x)) (owners_with layout' 0 (g x).dir (at_place (g x) (g x).o) ++ owners_joined layout' (e x))
      → OwnersEdited owners owners' (owners_left (layout x) r') (owners_joined layout' r')
  root_owners layout' owners owners' edited =
      let leave : Amended → List Owner = λ a. owners_in (layout x) a.number a.leave in
      let join : Amended → List Owner = λ a. owners_in layout' a.number a.join in
      let zero' = root.zero_is x cut at_top in
      let gone = owners_with (layout x) 0 0 (g x).o in
      let come = owners_with layout' 0 0 (regrown (e x) (g x) (g x).o) in
      owners_shuffled owners owners' (gone ++ owners_left (layout x) (e x)) (owners_left (layout x) r') (come ++ owners_joined layout' (e x)) (owners_joined layout' r')
      (whole gone (owners_in (layout x) 0 (e x).top_leave) (flat_map leave (e x).amended) (flat_map leave (g x).others) (ap (owners_in (layout x) 0) (gr x).none_leave)
      (IsPermutation-sym (flat_map leave (g x).others) (flat_map leave (e x).amended) (ar.flat_first x None cut leave (λ t. refl))))
      (whole come (owners_in layout' 0 (e x).top_join) (flat_map join (e x).amended) (flat_map join (g x).others) (ap (owners_in layout' 0) (gr x).none_join)
      (IsPermutation-sym (flat_map join (g x).others) (flat_map join (e x).amended) (ar.flat_first x None cut join (λ t. refl))))
      (subst (λ (o : Object). OwnersEdited owners owners' (gone ++ owners_left (layout x) (e x)) (owners_with layout' 0 0 o ++ owners_joined layout' (e x))) (sym (its_turn x))
      (subst (λ (n : ℕ). OwnersEdited owners owners' (owners_with (layout x) 0 n (g x).o ++ owners_left (layout x) (e x)) (owners_with layout' 0 n (at_place (g x) (g x).o) ++ owners_joined layout' (e x))) zero' edited))
    where
      whole : (its tops first others : List Owner) → tops ≡ [] → IsPermutation first others → IsPermutation (its ++ (tops ++ first)) ((its ++ []) ++ others)
      whole its tops first others none same =
          subst (λ (ts : List Owner). IsPermutation (its ++ (ts ++ first)) ((its ++ []) ++ others)) (sym none)
          (subst (λ (ws : List Owner). IsPermutation (its ++ first) (ws ++ others)) (sym (append-nil its)) (IsPermutation-append_right its first others same))

  -- its entry is a root's
  pub root_entry_now : IsRootEntry (layout x) (regrown (e x) (g x) (g x).o)
  root_entry_now =
      let w = given (layout x) (listings x) (h x).sound in
      let same = top_object (layout x) (listings x) (nodes x) (h x).sound (h x).held (g x).o (o_in x) at_top in
      record {
        address = (g x).address;
        size = (g x).len;
        entry = ap (λ (o : Object). o.entry) (its_turn x) ∙ ap (λ (y : Entry). let z : Entry = record y { address = (g x).address; len = (g x).len } in z) (ap (λ (o : Object). o.entry) same ∙ w.1.entry);
        whole = ap (λ (f : NameForm). directory_size f (g x).len) (gr x).form;
      }

-- ---- both

module _ (x : EditGrowing) where
  pub is_edit : IsEdit (nodes x) (listings x) (with_growth x)
  is_edit = by (g x).holder (gr x).amended_is (gr x).held (gr x).says
    where
      by : (q : Option Holder) → IsPermutation ((e x).amended ++ map (told (e x)) (g x).again) (amended_first q (g x).others) → IsHeldBy (g x) q
          → ((a : Amended) → Contains (grown_by (e x) (g x) q).amended a → CanSay (layout x) (regrown (e x) (g x) a.was.object) a.content) → IsEdit (nodes x) (listings x) (grown_by (e x) (g x) q)
      by None cut at_top says = root.grown_root x cut at_top
      by (Some hd) cut hs says = below.grown_edit x hd cut hs says

  pub has_numbers : HasNumbers (nodes x) (with_growth x)
  has_numbers = by (g x).holder (gr x).amended_is (gr x).held (gr x).says
    where
      by : (q : Option Holder) → IsPermutation ((e x).amended ++ map (told (e x)) (g x).again) (amended_first q (g x).others) → IsHeldBy (g x) q
          → ((a : Amended) → Contains (grown_by (e x) (g x) q).amended a → CanSay (layout x) (regrown (e x) (g x) a.was.object) a.content) → HasNumbers (nodes x) (grown_by (e x) (g x) q)
      by None cut at_top says = root_numbers x cut at_top
      by (Some hd) cut hs says = held_numbers x hd cut hs says

  pub are_edited : AreEdited (nodes x) (nodes_after (with_growth x) (nodes x)) (with_growth x)
  are_edited = after_law (nodes x) (layout x) (listings x) (with_growth x) (h x) is_edit has_numbers

  pub owners_as : (layout' : Layout) (owners owners' : List Owner)
      → OwnersEdited owners owners' (owners_with (layout x) (up_of (g x).holder) (g x).dir (g x).o ++ owners_left (layout x) (e x))
      (owners_with layout' (up_of (g x).holder) (g x).dir (at_place (g x) (g x).o) ++ owners_joined layout' (e x))
      → OwnersEdited owners owners' (owners_left (layout x) (with_growth x)) (owners_joined layout' (with_growth x))
  owners_as layout' owners owners' = by (g x).holder (gr x).amended_is (gr x).held (gr x).says
    where
      by : (q : Option Holder) → IsPermutation ((e x).amended ++ map (told (e x)) (g x).again) (amended_first q (g x).others) → IsHeldBy (g x) q
          → ((a : Amended) → Contains (grown_by (e x) (g x) q).amended a → CanSay (layout x) (regrown (e x) (g x) a.was.object) a.content)
          → OwnersEdited owners owners' (owners_with (layout x) (up_of q) (g x).dir (g x).o ++ owners_left (layout x) (e x))
          (owners_with layout' (up_of q) (g x).dir (at_place (g x) (g x).o) ++ owners_joined layout' (e x))
          → OwnersEdited owners owners' (owners_left (layout x) (grown_by (e x) (g x) q)) (owners_joined layout' (grown_by (e x) (g x) q))
      by None cut at_top says = root_owners x cut at_top layout' owners owners'
      by (Some hd) cut hs says = held_owners x hd cut hs says layout' owners owners'

  -- ---- what directories say

  -- a directory that says what it said isn't the one that grows
  pub same_other : (k : Listing) (n : ℕ) → Contains (g x).same k → number_of (nodes x) k.object.path ≡ Some n → n ≡ (g x).dir → ⊥
  same_other k n at number_is same =
      let its = (gr x).listed in
      let number : its.0.number ≡ (g x).dir =
      same_some its.0.number (g x).dir (sym (x.is_edit.amends its.0 its.1).number_is ∙ ap (λ (o : Object). number_of (nodes x) o.path) its.2 ∙ (gr x).dir_is) in
      n_.same_other (below.ne x) k n (ar.same_same x (g x).holder (gr x).amended_is k at) number_is
      (subst (Contains (map (λ (b : Amended). b.number) (e x).amended)) (number ∙ sym same) (in_map (λ (b : Amended). b.number) (e x).amended its.0 its.1))

  pub same_still : (k : Listing) → Contains (g x).same k → regrown (e x) (g x) k.object ≡ (e x).turn k.object
  same_still k at =
      let ne = below.ne x in
      let listed = n_.stay_in ne k (n_.same_in ne k (ar.same_same x (g x).holder (gr x).amended_is k at)) in
      let n = (h x).held.each k.object (listed_directory (layout x) (listings x) (h x).sound k listed).0 in
      other_number x k.object n.number n.at_path (same_other k n.number at n.at_path)

  pub can_say : CanSayNew (layout x) (e x) → CanSayAll (layout x) (listings x) (with_growth x)
  can_say can = by (g x).holder (gr x).amended_is (gr x).held (gr x).says
    where
      same_len : (k : Listing) → Contains (g x).same k → (regrown (e x) (g x) k.object).entry.len ≡ k.object.entry.len
      same_len k at = ap (λ (o : Object). o.entry.len) (same_still k at) ∙ can.same k (ar.same_same x (g x).holder (gr x).amended_is k at)

      by : (q : Option Holder) → IsPermutation ((e x).amended ++ map (told (e x)) (g x).again) (amended_first q (g x).others) → IsHeldBy (g x) q
          → ((a : Amended) → Contains (grown_by (e x) (g x) q).amended a → CanSay (layout x) (regrown (e x) (g x) a.was.object) a.content)
          → CanSayAll (layout x) (listings x) (grown_by (e x) (g x) q)
      by None cut at_top says = record {
        few = can.few;
        amended = says;
        into = can.into;
        into_none = can.into_none;
        same = same_len;
        root = λ o at path t.
            subst (λ (p : Object). IsRootEntry (layout x) (regrown (e x) (g x) p))
            (top_object (layout x) (listings x) (nodes x) (h x).sound (h x).held (g x).o (o_in x) at_top ∙ sym (top_object (layout x) (listings x) (nodes x) (h x).sound (h x).held o at path))
            (root_entry_now x cut at_top);
      }
      by (Some hd) cut hs says = record {
        few = can.few;
        amended = says;
        into = can.into;
        into_none = can.into_none;
        same = same_len;
        root = λ o at path t. absurd (let two : (let none : List (ℕ × Object) = [] in none) ≡ (0, o) ∷ [] = sym (gr x).none_leave ∙ t.leaves in cc);
      }

pub growing_law : GrowingLaw
growing_law = record {
  is_edit = is_edit;
  nodes = are_edited;
  owners = λ x layout' owners owners' edited. owners_as x layout' owners owners' edited;
  can = can_say;
}
