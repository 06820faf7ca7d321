-- Nodes that hold the objects of a sound walk: each node stands for one object, so either can be counted.
use Rattle.std.proofs.Common.{◌≡◌, ℕ, zero, suc, ◌+◌, Bool, true, false, ◌==◌, List, [], ◌∷◌, map, length, refl, sym, ap, subst, ◌∙◌, arith, Some, Option, Ok, Contains, slice_get, unwrap_or, cond, remove, IsPermutation, eqb-true}
use Rattle.std.specs.Option.{option_map_or, option_and_then}
use Rattle.std.specs.Ordering.{nat_cmp, eq_by_cmp}
use Rattle.std.specs.Cmp.{unsigned_tied}
use Rattle.std.specs.FinMap.{FinMap, entries, get, get-entries, len-entries}
use Rattle.std.specs.FinMap.Entries.{find as seek}
use Rattle.std.proofs.lemmas.Option.{slice_get_within, get_or_from_slice_get}
use Rattle.std.proofs.lemmas.List.Sorted.{IsPermutation-refl, IsPermutation-cons, IsPermutation-trans, IsPermutation-map, IsPermutation-remove}
use Rattle.fc_model.specs.Tree.{holder}
use Rattle.fc_dirs.specs.Directory.{Directory}
use Rattle.fc_image.specs.Layout.{Layout}
use Rattle.fc_image.specs.Walk.{Object, Listing}
use Rattle.fc_image.specs.Objects.{objects_of, listing_at}
use Rattle.fc_image.specs.Report.{holder_address}
use Rattle.fc_image.proofs.PathsLemmas.{itself}
use Rattle.fc_tree.specs.declared.node.Node.{Node}
use Rattle.fc_tree.specs.Nodes.{number_of, body_in, body_of, HasNode, HoldObjects}
use Rattle.fc_tree.specs.Agree.{reader_of_nodes, content_in, said_by, NodesLaw}
use Rattle.fc_image.specs.Sound.{AreSound}
use Rattle.fc_tree.specs.Counts.{address_in, node_says, object_says, HaveCounts, CountsLaw, HolderLaw}
use Rattle.fc_tree.proofs.WalkedLemmas.{same_some, same_place, place_of, contained, one_object, listed_directory, listing_found, no_listing, holder_listed, directories_listed}
use Rattle.fc_tree.proofs.PlaceLemmas.{one_path}
use Rattle.fc_tree.proofs.FoundLemmas.{body_content as body_says}
use Rattle.fc_image.proofs.CommandLemmas.{same_by_folds}

-- ---- bodies

pub nodes_law : NodesLaw
nodes_law nodes listings l h found =
    ap (λ o. said_by (option_and_then (get nodes) o)) h.at_path ∙ ap said_by h.is ∙ ap (λ o. content_in (body_of o)) found ∙ body_says l.content

-- ---- lists of entries

-- a node stands among the entries with its number
sought : (es : List (ℕ × Node)) (n : ℕ) (node : Node) → seek nat_cmp n es ≡ Some node → (j : ℕ) × (slice_get es j ≡ Some (n, node))
sought [] n node is = absurd (cc)
sought (e ∷ es) n node is = by (n == e.0) (unsigned_tied n e.0) (eqb-true n e.0) is (sought es n node)
  where
    by : (b : Bool) → eq_by_cmp nat_cmp n e.0 ≡ b → (b ≡ true → n ≡ e.0) → cond (eq_by_cmp nat_cmp n e.0) (Some e.1) (seek nat_cmp n es) ≡ Some node
        → (seek nat_cmp n es ≡ Some node → (j : ℕ) × (slice_get es j ≡ Some (n, node))) → (j : ℕ) × (slice_get (e ∷ es) j ≡ Some (n, node))
    by true test same found more =
        let here : e.1 ≡ node = same_some e.1 node (ap (λ (b : Bool). cond b (Some e.1) (seek nat_cmp n es)) (sym test) ∙ found) in
        (0, λ k. Some (sym (same refl) k, here k))
    by false test same found more =
        let later = more (ap (λ (b : Bool). cond b (Some e.1) (seek nat_cmp n es)) (sym test) ∙ found) in
        (suc later.0, later.1)

-- what stands elsewhere stays when one goes
left_in : {X : Type 0} (xs : List X) (i j : ℕ) (x : X) → slice_get xs j ≡ Some x → (i ≡ j → ⊥) → (k : ℕ) × (slice_get (remove xs i) k ≡ Some x)
left_in [] i j x is apart = absurd (cc)
left_in (z ∷ xs) zero zero x is apart = absurd (apart refl)
left_in (z ∷ xs) zero (suc j) x is apart = (j, is)
left_in (z ∷ xs) (suc i) zero x is apart = (0, is)
left_in (z ∷ xs) (suc i) (suc j) x is apart =
    let later = left_in xs i j x is (λ e. apart (omega arith)) in
    (suc later.0, later.1)

one_fewer : {X : Type 0} (xs : List X) (i : ℕ) (x : X) → slice_get xs i ≡ Some x → length (remove xs i) + 1 ≡ length xs
one_fewer [] i x is = absurd (cc)
one_fewer (z ∷ xs) zero x is = omega arith
one_fewer (z ∷ xs) (suc i) x is = let later = one_fewer xs i x is in omega arith

no_more_left : {X : Type 0} (xs : List X) → length xs ≡ 0 → xs ≡ []
no_more_left [] e = refl
no_more_left (x ∷ xs) e = absurd (omega arith)

-- Entries and things of equal number, of which each has an entry of its own that says the same, say the same in some order.
matched : {V W X : Type 0} (number : X → ℕ) (f : ℕ × V → W) (g : X → W) (xs : List X) (es : List (ℕ × V)) → length es ≡ length xs
    → ((i j : ℕ) (x y : X) → slice_get xs i ≡ Some x → slice_get xs j ≡ Some y → number x ≡ number y → i ≡ j)
    → ((i : ℕ) (x : X) → slice_get xs i ≡ Some x → (j : ℕ) × (e : ℕ × V) × (slice_get es j ≡ Some e) × (e.0 ≡ number x) × (f e ≡ g x))
    → IsPermutation (map f es) (map g xs)
matched {W = W} number f g [] es size apart each = subst (λ fs. IsPermutation (map f fs) []) (sym (no_more_left es size)) (IsPermutation-refl {X = W} [])
matched {V} {W} {X} number f g (x ∷ xs) es size apart each =
    let own = each zero x refl in
    let out = IsPermutation-remove es own.0 own.1 (slice_get_within es own.0 own.1 own.2) (sym (get_or_from_slice_get es own.0 own.1 own.1 own.2)) in
    let fewer = one_fewer es own.0 own.1 own.2 in
    let rest = matched number f g xs (remove es own.0) (omega (arith, fewer, size))
    (λ i j y z at_y at_z e. let same = apart (suc i) (suc j) y z at_y at_z e in omega arith)
    (λ i y at_y.
    let its = each (suc i) y at_y in
    let kept = left_in es own.0 its.0 its.1 its.2 (λ e.
    let same = same_place es its.0 its.1 own.1 its.2 (ap (slice_get es) (sym e) ∙ own.2) in
    let clash = apart (suc i) zero y x at_y refl (sym its.3 ∙ ap (λ (p : ℕ × V). p.0) same ∙ own.3) in
    omega arith) in
    (kept.0, its.1, kept.1, its.3, its.4)) in
    IsPermutation-trans (map f es) (f own.1 ∷ map f (remove es own.0)) (g x ∷ map g xs)
    (IsPermutation-map f es (own.1 ∷ remove es own.0) out)
    (subst (λ w. IsPermutation (f own.1 ∷ map f (remove es own.0)) (w ∷ map g xs)) own.4
    (IsPermutation-cons (f own.1) (map f (remove es own.0)) (map g xs) rest))

-- ---- nodes of a sound walk

module _ (layout : Layout) (listings : List Listing) (nodes : FinMap nat_cmp Node) (sound : AreSound layout listings) (held : HoldObjects nodes listings) where
  abbrev objects : List Object
  objects = objects_of listings

  node_of : (i : ℕ) (o : Object) → slice_get objects i ≡ Some o → HasNode nodes listings o
  node_of i o is = held.each o (contained objects i o is)

  -- the nodes tell what each directory says
  pub held_tells : (l : Listing) → Contains listings l → reader_of_nodes nodes l.object ≡ Ok l.content
  held_tells l at = nodes_law nodes listings l (held.each l.object (listed_directory layout listings sound l at).0) (listing_found layout listings sound l at)

  -- objects of one number are one
  alone : (i j n : ℕ) (o p : Object) → slice_get objects i ≡ Some o → slice_get objects j ≡ Some p
      → number_of nodes o.path ≡ Some n → number_of nodes p.path ≡ Some n → i ≡ j
  alone i j n o p is_o is_p e f =
      one_object layout listings sound o.path i j o p is_o is_p (itself o.path) (same_by_folds o.path p.path (one_path nodes n (length o.path) o.path p.path refl e f))

  -- the node that holds an object has its holder's address
  address_known : (i : ℕ) (o : Object) (n : ℕ) → slice_get objects i ≡ Some o → number_of nodes (holder o.path) ≡ Some n
      → address_in nodes n ≡ holder_address listings o.path
  address_known i o n is at =
      let l = holder_listed layout listings sound i o is in
      let h = held.each l.0.object (listed_directory layout listings sound l.0 l.1).0 in
      let same : n ≡ h.number = same_some n h.number (sym at ∙ ap (number_of nodes) l.2 ∙ h.at_path) in
      let listing : listing_at listings (holder o.path) ≡ Some l.0 = ap (listing_at listings) l.2 ∙ listing_found layout listings sound l.0 l.1 in
      ap (address_in nodes) same
      ∙ ap (λ x. option_map_or (λ (m : Node). m.entry.address) x 0) h.is
      ∙ ap (λ x. option_map_or (λ (k : Listing). k.object.entry.address) x 0) (sym listing)

  abbrev number : Object → ℕ
  number o = unwrap_or (number_of nodes o.path) 0

  number_is : (i : ℕ) (o : Object) (is : slice_get objects i ≡ Some o) → number_of nodes o.path ≡ Some (number o)
  number_is i o is = let h = node_of i o is in h.at_path ∙ ap (λ (x : Option ℕ). Some (unwrap_or x 0)) (sym h.at_path)

  its_entry : (i : ℕ) (o : Object) → slice_get objects i ≡ Some o
      → (j : ℕ) × (e : ℕ × Node) × (slice_get (entries nodes) j ≡ Some e) × (e.0 ≡ number o) × (node_says nodes e ≡ object_says listings o)
  its_entry i o is =
      let h = node_of i o is in
      let node : Node = record { holder = h.holder_number; entry = o.entry; body = body_of (listing_at listings o.path) } in
      let at = sought (entries nodes) h.number node (sym (get-entries nodes h.number) ∙ h.is) in
      let address = address_known i o h.holder_number is h.at_holder in
      (at.0, (h.number, node), at.1, ap (λ (x : Option ℕ). unwrap_or x 0) (sym h.at_path), λ k. (o.entry, body_of (listing_at listings o.path), address k))

  have_counts : HaveCounts nodes listings
  have_counts = record {
    same = matched number (node_says nodes) (object_says listings) objects (entries nodes) (sym (len-entries nodes) ∙ held.no_more)
        (λ i j o p is_o is_p e. alone i j (number p) o p is_o is_p (number_is i o is_o ∙ ap (λ (n : ℕ). Some n) e) (number_is j p is_p))
        its_entry;
    dirs = directories_listed layout listings sound;
    own = listing_found layout listings sound;
    files = no_listing layout listings sound;
  }

  holder_says : (l : Listing) (n : ℕ) (node above : Node) → Contains listings l → number_of nodes l.object.path ≡ Some n → get nodes n ≡ Some node
      → get nodes node.holder ≡ Some above → (node.body ≡ body_in l.content) × (holder_address listings l.object.path ≡ above.entry.address)
  holder_says l n node above at number_l is over =
      let among = listed_directory layout listings sound l at in
      let place = place_of objects l.object among.0 in
      let h = held.each l.object among.0 in
      let same : n ≡ h.number = same_some n h.number (sym number_l ∙ h.at_path) in
      let one = same_some node _ (sym is ∙ ap (get nodes) same ∙ h.is) in
      let address = address_known place.0 l.object h.holder_number place.1 h.at_holder in (
        ap (λ (x : Node). x.body) one ∙ ap body_of (listing_found layout listings sound l at),
        sym address ∙ ap (λ (x : Node). address_in nodes x.holder) (sym one) ∙ ap (λ x. option_map_or (λ (m : Node). m.entry.address) x 0) over,
      )

pub counts_law : CountsLaw
counts_law layout listings nodes sound held = have_counts layout listings nodes sound held

pub holder_law : HolderLaw
holder_law layout listings nodes l n node above sound held = holder_says layout listings nodes sound held l n node above
