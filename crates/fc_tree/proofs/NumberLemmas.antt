-- Nodes numbered in the order of a walk's objects: each object is found at its path, under its number.
use Rattle.std.proofs.Common.{◌≡◌, ℕ, zero, suc, ◌+◌, Bool, true, false, not, ◌&&◌, ◌==◌, List, [], ◌∷◌, ◌++◌, map, length, refl, sym, ap, subst, ◌∙◌, arith, length-append, Some, None, Option, Contains, slice_get, eq-eqb, ne_eqb, eqb-true, inl, inr}
use Rattle.std.specs.Option.{option_map, option_and_then}
use Rattle.std.specs.Ordering.{nat_cmp}
use Rattle.std.specs.FinMap.{FinMap, len-entries}
use Rattle.std.proofs.lemmas.Option.{slice_get-map, slice_get_within}
use Rattle.fc_names.specs.Names.{Path, is_same_name, is_same_path}
use Rattle.fc_names.proofs.FoldOrder.{fold_law}
use Rattle.fc_model.specs.Tree.{holder}
use Rattle.fc_dirs.specs.declared.Entry.{Entry}
use Rattle.fc_image.specs.Layout.{Layout}
use Rattle.fc_image.specs.Walk.{Object, Listing}
use Rattle.fc_image.specs.Objects.{objects_of, listing_at}
use Rattle.fc_image.proofs.PathsLemmas.{same_last, itself}
use Rattle.fc_tree.specs.declared.node.Node.{Node}
use Rattle.fc_tree.specs.Nodes.{Numbers, numbered_from, nodes_of, child, number_from, number_of, body_of, HasNode, HoldObjects}
use Rattle.fc_tree.specs.Agree.{InOrder}
use Rattle.fc_tree.specs.Numbered.{HasBody, HasHolder, IsNodeOf, AreNumbered}
use Rattle.fc_tree.specs.Laws.{NumbersLaw}
use Rattle.fc_image.specs.Sound.{AreSound}
use Rattle.fc_tree.specs.Slots.{slot_at, is_child}
use Rattle.fc_tree.proofs.SlotLemmas.{get-nodes_of, entries-nodes_of, child_is}
use Rattle.fc_tree.proofs.WalkedLemmas.{same_place, place_of, root, root_path, first_is_root, one_object, child_path, listing_found, no_listing, not_first, holder-push}
use Rattle.std.proofs.lemmas.Bool.{false_from_ne_true as unless}
use Rattle.fc_tree.proofs.StepLemmas.{get_there as element_at}

-- ---- names one by one

then_some : (o : Option ℕ) → option_and_then (λ n. Some n) o ≡ o
then_some None = refl
then_some (Some n) = refl

-- where one name more leads
pub number_from-push : (nodes : FinMap nat_cmp Node) (at : ℕ) (path : Path) (name : List ℕ)
    → number_from nodes at (path ++ name ∷ []) ≡ option_and_then (λ dir. child nodes dir name) (number_from nodes at path)
number_from-push nodes at [] name = then_some (child nodes at name)
number_from-push nodes at (x ∷ path) name = by (child nodes at x) (λ next. number_from-push nodes next path name)
  where
    by : (o : Option ℕ) → ((next : ℕ) → number_from nodes next (path ++ name ∷ []) ≡ option_and_then (λ dir. child nodes dir name) (number_from nodes next path))
        → option_and_then (λ next. number_from nodes next (path ++ name ∷ [])) o
        ≡ option_and_then (λ dir. child nodes dir name) (option_and_then (λ next. number_from nodes next path) o)
    by None more = refl
    by (Some next) more = more next

pub own_name : (name : List ℕ) → is_same_name name name ≡ true
own_name name = fold_law.same.refl name

-- ---- tests of a child

pub three_hold : (a b c : Bool) → a ≡ true → b ≡ true → c ≡ true → (a && b && c) ≡ true
three_hold true true true e f g = refl
three_hold false b c e f g = absurd (cc)
three_hold true false c e f g = absurd (cc)
three_hold true true false e f g = absurd (cc)

pub record Three (a b c : Bool) : Type 0 where
  pub first : a ≡ true
  pub second : b ≡ true
  pub third : c ≡ true

three : (a b c : Bool) → (a && b && c) ≡ true → Three a b c
three true true true e = record { first = refl; second = refl; third = refl }
three false b c e = absurd (cc)
three true false c e = absurd (cc)
three true true false e = absurd (cc)

not_zero : (n : ℕ) → not (n == 0) ≡ true → n ≡ 0 → ⊥
not_zero n e is = let zero_test : (n == 0) ≡ true = eq-eqb n 0 is in let turned = ap not zero_test in cc

-- ---- where each slot holds a node

pub full_slot : (nodes : List Node) (n : ℕ) → slot_at (map Some nodes) n ≡ slice_get nodes n
full_slot nodes n = ap (option_and_then (λ o. o)) (slice_get-map Some nodes n) ∙ flat (slice_get nodes n)
  where
    flat : (o : Option Node) → option_and_then (λ s. s) (option_map Some o) ≡ o
    flat None = refl
    flat (Some node) = refl

length-numbered_from : (nodes : List Node) (n : ℕ) → length (numbered_from n (map Some nodes)) ≡ length nodes
length-numbered_from [] n = refl
length-numbered_from (node ∷ nodes) n = let rest = length-numbered_from nodes (n + 1) in omega arith

-- ---- numbered nodes

module _ (layout : Layout) (listings : List Listing) (nodes : List Node) (room : ℕ) (sound : AreSound layout listings) (numbered : AreNumbered nodes listings) where
  abbrev tree : Numbers
  tree = record { slots = map Some nodes; room = room }

  abbrev objects : List Object
  objects = objects_of listings

  -- an object's place has a node, and a node's place an object
  node_at : (i : ℕ) (o : Object) → slice_get objects i ≡ Some o → (n : Node) × (slice_get nodes i ≡ Some n) × IsNodeOf listings i o n
  node_at i o is =
      let low = slice_get_within objects i o is in
      let at = element_at nodes i (omega (arith, low, numbered.all)) in
      (at.0, at.1, numbered.each i at.0 o at.1 is)

  object_at : (i : ℕ) (n : Node) → slice_get nodes i ≡ Some n → (o : Object) × (slice_get objects i ≡ Some o) × IsNodeOf listings i o n
  object_at i n is =
      let low = slice_get_within nodes i n is in
      let at = element_at objects i (omega (arith, low, numbered.all)) in
      (at.0, at.1, numbered.each i n at.0 is at.1)

  -- of the nodes of a directory that have an object's name there is one
  one_child : (l : Listing) (o : Object) (i dir : ℕ) → Contains listings l → Contains l.children o → slice_get objects dir ≡ Some l.object → slice_get objects i ≡ Some o
      → (j : ℕ) (m : Node) → slice_get nodes j ≡ Some m → is_child dir o.entry.name (j, m) ≡ true → j ≡ i
  one_child l o i dir at held above is j m is_m test =
      let t = three (m.holder == dir) (not (j == 0)) (is_same_name o.entry.name m.entry.name) test in
      let p = object_at j m is_m in
      by p.0 p.1 p.2 t p.2.held
    where
      by : (p : Object) → slice_get objects j ≡ Some p → IsNodeOf listings j p m → Three (m.holder == dir) (not (j == 0)) (is_same_name o.entry.name m.entry.name)
          → HasHolder listings j p m → j ≡ i
      by p is_p node t (inl first) = absurd (not_zero j t.second first.0)
      by p is_p node t (inr other) =
          let k = other.0 in
          let same_holder : m.holder ≡ dir = eqb-true m.holder dir t.first in
          let same : k.object ≡ l.object = same_place objects dir k.object l.object (ap (slice_get objects) (sym same_holder) ∙ other.2) above in
          let path_p = child_path layout listings sound k p other.1 other.3 in
          let path_o = child_path layout listings sound l o at held in
          let names : is_same_name o.entry.name p.entry.name ≡ true = ap (λ (e : Entry). is_same_name o.entry.name e.name) (sym node.entry) ∙ t.third in
          let paths : is_same_path l.object.path k.object.path ≡ true = ap (λ (x : Object). is_same_path l.object.path x.path) same ∙ itself l.object.path in
          let joined = same_last l.object.path k.object.path o.entry.name p.entry.name in
          let both : is_same_path o.path p.path ≡ true = rw (path_o, path_p, joined, paths, names) refl in
          one_object layout listings sound o.path j i p o is_p is both (itself o.path)

  -- it is found there
  child_found : (l : Listing) (o : Object) (i : ℕ) (n : Node) → Contains listings l → Contains l.children o → slice_get objects n.holder ≡ Some l.object
      → slice_get objects i ≡ Some o → slice_get nodes i ≡ Some n → n.entry ≡ o.entry → child (nodes_of tree) n.holder o.entry.name ≡ Some i
  child_found l o i n at held above is is_n same =
      let test = is_child n.holder o.entry.name in
      let other_test : not (i == 0) ≡ true = ap not (ne_eqb i 0 (not_first layout listings sound l o i at held is)) in
      let passes : test (i, n) ≡ true = three_hold (n.holder == n.holder) (not (i == 0)) (is_same_name o.entry.name n.entry.name)
      (eq-eqb n.holder n.holder refl) other_test (ap (λ (e : Entry). is_same_name o.entry.name e.name) same ∙ own_name o.entry.name) in
      sym (child_is tree n.holder i o.entry.name n (full_slot nodes i ∙ is_n) passes (λ j m low slot_m.
      unless (test (j, m)) (λ passes_m.
      let there = one_child l o i n.holder at held above is j m (sym (full_slot nodes j) ∙ slot_m) passes_m in
      omega arith)))

  abbrev Known : ℕ → Type 0
  Known long = (i : ℕ) (o : Object) → slice_get objects i ≡ Some o → length o.path ≡ long → number_of (nodes_of tree) o.path ≡ Some i

  root_known : (i : ℕ) (o : Object) → slice_get objects i ≡ Some o → i ≡ 0 → o.path ≡ []
  root_known i o is e =
      ap (λ (x : Object). x.path) (same_place objects 0 o (root layout listings sound) (ap (slice_get objects) (sym e) ∙ is) (first_is_root layout listings sound))
      ∙ root_path layout listings sound

  longer : (path : Path) (name : List ℕ) → length (path ++ name ∷ []) ≡ length path + 1
  longer path name = length-append path (name ∷ [])

  -- an object is found where those with shorter paths are
  known_next : (long i : ℕ) (o : Object) → slice_get objects i ≡ Some o → length o.path ≡ long → ((less : ℕ) → less + 1 ≡ long → Known less)
      → number_of (nodes_of tree) o.path ≡ Some i
  known_next long i o is e shorter =
      let n = node_at i o is in
      by n.0 n.1 n.2 n.2.held
    where
      by : (n : Node) → slice_get nodes i ≡ Some n → IsNodeOf listings i o n → HasHolder listings i o n → number_of (nodes_of tree) o.path ≡ Some i
      by n is_n node (inl first) = ap (λ (path : Path). number_of (nodes_of tree) path) (root_known i o is first.0) ∙ ap (λ (k : ℕ). Some k) (sym first.0)
      by n is_n node (inr other) =
          let l = other.0 in
          let path = child_path layout listings sound l o other.1 other.3 in
          let size = ap length path ∙ longer l.object.path o.entry.name in
          let above = shorter (length l.object.path) (sym size ∙ e) n.holder l.object other.2 refl in
          ap (λ (p : Path). number_of (nodes_of tree) p) path
          ∙ number_from-push (nodes_of tree) 0 l.object.path o.entry.name
          ∙ ap (λ (k : Option ℕ). option_and_then (λ dir. child (nodes_of tree) dir o.entry.name) k) above
          ∙ child_found l o i n other.1 other.3 other.2 is is_n node.entry

  known : (long : ℕ) → Known long
  known zero i o is e = known_next zero i o is e (λ less f. absurd (omega arith))
  known (suc long) i o is e = known_next (suc long) i o is e (λ less f. subst Known (let same : long ≡ less = omega arith in same) (known long))

  in_order : InOrder (nodes_of tree) listings
  in_order i o is = known (length o.path) i o is refl

  -- the body is what the listings say
  says : (o : Object) (n : Node) → Contains objects o → HasBody listings o n → n.body ≡ body_of (listing_at listings o.path)
  says o n at (inl file) = file.1 ∙ ap body_of (sym (no_listing layout listings sound o at file.0))
  says o n at (inr dir) =
      dir.3
      ∙ ap body_of (sym (listing_found layout listings sound dir.0 dir.1))
      ∙ ap (λ (x : Object). body_of (listing_at listings x.path)) dir.2

  holder_known : (i : ℕ) (o : Object) (n : Node) → slice_get objects i ≡ Some o → HasHolder listings i o n → number_of (nodes_of tree) (holder o.path) ≡ Some n.holder
  holder_known i o n is (inl first) =
      ap (λ (path : Path). number_of (nodes_of tree) (holder path)) (root_known i o is first.0) ∙ ap (λ (k : ℕ). Some k) (sym first.1)
  holder_known i o n is (inr other) =
      let l = other.0 in
      ap (λ (path : Path). number_of (nodes_of tree) path) (ap holder (child_path layout listings sound l o other.1 other.3) ∙ holder-push l.object.path o.entry.name)
      ∙ in_order n.holder l.object other.2

  has_node : (o : Object) → Contains objects o → HasNode (nodes_of tree) listings o
  has_node o at =
      let place = place_of objects o at in
      let n = node_at place.0 o place.1 in
      let entry : n.0.entry ≡ o.entry = n.2.entry in
      let body = says o n.0 at n.2.body in
      record {
        number = place.0;
        holder_number = n.0.holder;
        at_path = in_order place.0 o place.1;
        at_holder = holder_known place.0 o n.0 place.1 n.2.held;
        is = get-nodes_of tree place.0 ∙ full_slot nodes place.0 ∙ n.1 ∙ (λ k. Some (record { holder = n.0.holder; entry = entry k; body = body k }));
      }

  hold_objects : HoldObjects (nodes_of tree) listings
  hold_objects = record { each = has_node; no_more = len-entries (nodes_of tree) ∙ ap length (entries-nodes_of tree) ∙ length-numbered_from nodes 0 ∙ numbered.all }

pub numbers_law : NumbersLaw
numbers_law layout listings nodes room sound numbered =
    (hold_objects layout listings nodes room sound numbered, in_order layout listings nodes room sound numbered)
