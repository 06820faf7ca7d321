-- Counts over the numbers of nodes are those over a walk's objects and directories.
use Rattle.std.proofs.Common.{◌≡◌, ◌≤◌, ℕ, zero, suc, ◌+◌, Bool, true, false, not, ◌==◌, cond, List, [], ◌∷◌, map, length, refl, sym, ap, subst, ◌∙◌, arith, Some, None, Option, Contains, filter, slice_get, count_by}
use Rattle.std.specs.List.{range_with_len}
use Rattle.std.specs.Option.{option_map_or}
use Rattle.std.specs.Ordering.{nat_cmp}
use Rattle.std.specs.FinMap.{FinMap, entries}
use Rattle.std.proofs.lemmas.List.Sums.{sum_by-cons, count_by-le-length}
use Rattle.std.proofs.lemmas.List.Sorted.{sum_by-IsPermutation}
use Rattle.std.proofs.lemmas.List.FromFn.{length-range_with_len}
use Rattle.fc_dirs.specs.Entries.{is_sorted_by_name}
use Rattle.fc_dirs.specs.Directory.{Directory, entries_of, parent_of}
use Rattle.fc_dirs.specs.declared.Entry.{Entry}
use Rattle.fc_image.specs.Walk.{Object, Listing, is_directory_object}
use Rattle.fc_image.specs.Objects.{objects_of, listing_at}
use Rattle.fc_image.specs.Report.{holder_address, has_right_parent}
use Rattle.fc_tree.specs.declared.node.Body.{Body}
use Rattle.fc_tree.specs.declared.node.Node.{Node}
use Rattle.fc_tree.specs.Nodes.{Numbers, numbered_from, nodes_of, bound_of, body_in, body_of}
use Rattle.fc_tree.specs.Slots.{slot_at}
use Rattle.fc_tree.specs.Counts.{Said, node_says, object_says, HaveCounts, is_file_said, is_directory_said, is_unsorted_said, is_wrong_parent_said, passes_at, tally, HaveTallies, TallyLaw}
use Rattle.fc_tree.proofs.SlotLemmas.{get-nodes_of, entries-nodes_of}
use Rattle.fc_tree.proofs.WalkedLemmas.{same_some, contained}
use Rattle.fc_tree.proofs.HeldLemmas.{counts_law}

-- ---- counts

pub count_cons : {X : Type 0} (p : X → Bool) (x : X) (xs : List X) → count_by p (x ∷ xs) ≡ cond (p x) 1 0 + count_by p xs
count_cons p x xs = sum_by-cons (λ y. cond (p y) 1 0) x xs

count_map : {X Y : Type 0} (p : Y → Bool) (f : X → Y) (xs : List X) → count_by p (map f xs) ≡ count_by (λ x. p (f x)) xs
count_map p f [] = refl
count_map p f (x ∷ xs) = count_cons p (f x) (map f xs) ∙ ap (λ n. cond (p (f x)) 1 0 + n) (count_map p f xs) ∙ sym (count_cons (λ y. p (f y)) x xs)

-- tests that agree at each element
count_same : {X : Type 0} (p q : X → Bool) (xs : List X) → ((i : ℕ) (x : X) → slice_get xs i ≡ Some x → p x ≡ q x) → count_by p xs ≡ count_by q xs
count_same p q [] same = refl
count_same p q (x ∷ xs) same =
    count_cons p x xs
    ∙ ap (λ (b : Bool). cond b 1 0 + count_by p xs) (same zero x refl)
    ∙ ap (λ n. cond (q x) 1 0 + n) (count_same p q xs (λ i. same (suc i)))
    ∙ sym (count_cons q x xs)

count_all : {X : Type 0} (xs : List X) → count_by (λ x. true) xs ≡ length xs
count_all [] = refl
count_all (x ∷ xs) = let rest = count_all xs in let step = count_cons (λ y. true) x xs in omega (arith, rest, step)

-- a test that only some pass counts the same among these
count_filter : {X : Type 0} (p t : X → Bool) (xs : List X) → ((i : ℕ) (x : X) → slice_get xs i ≡ Some x → t x ≡ false → p x ≡ false)
    → count_by p xs ≡ count_by p (filter t xs)
count_filter p t [] never = refl
count_filter {X} p t (x ∷ xs) never = count_cons p x xs ∙ by (t x) (never zero x refl) (count_filter p t xs (λ i. never (suc i)))
  where
    by : (b : Bool) → (b ≡ false → p x ≡ false) → count_by p xs ≡ count_by p (filter t xs) → cond (p x) 1 0 + count_by p xs ≡ count_by p (cond b (x ∷ filter t xs) (filter t xs))
    by true out rest = ap (λ n. cond (p x) 1 0 + n) rest ∙ sym (count_cons p x (filter t xs))
    by false out rest = ap (λ (b : Bool). cond b 1 0 + count_by p xs) (out refl) ∙ (let e : 0 + count_by p xs ≡ count_by p xs = omega arith in e) ∙ rest

-- ---- numbers below a bound

range_more : (from n : ℕ) (p : ℕ → Bool) → count_by p (range_with_len from (n + 1)) ≡ count_by p (range_with_len from n) + cond (p (from + n)) 1 0
range_more from zero p =
    count_cons p from []
    ∙ (let e : cond (p from) 1 0 + 0 ≡ 0 + cond (p from) 1 0 = omega arith in e)
    ∙ ap (λ (k : ℕ). 0 + cond (p k) 1 0) (let e : from ≡ from + zero = omega arith in e)
range_more from (suc n) p =
    ap (λ (k : ℕ). count_by p (range_with_len from k)) (let e : suc n + 1 ≡ suc (n + 1) = omega arith in e)
    ∙ count_cons p from (range_with_len (from + 1) (n + 1))
    ∙ ap (λ k. cond (p from) 1 0 + k) (range_more (from + 1) n p)
    ∙ ap (λ (k : ℕ). cond (p from) 1 0 + (count_by p (range_with_len (from + 1) n) + cond (p k) 1 0)) (let e : from + 1 + n ≡ from + suc n = omega arith in e)
    ∙ (let step = count_cons p from (range_with_len (from + 1) n) in
    let e : cond (p from) 1 0 + (count_by p (range_with_len (from + 1) n) + cond (p (from + suc n)) 1 0) ≡ count_by p (from ∷ range_with_len (from + 1) n) + cond (p (from + suc n)) 1 0 = omega (arith, step) in e)

-- one number more
pub tally-next : (nodes : FinMap nat_cmp Node) (test : Said → Bool) (n : ℕ) → tally nodes test (n + 1) ≡ tally nodes test n + cond (passes_at nodes test n) 1 0
tally-next nodes test n =
    range_more 0 n (passes_at nodes test)
    ∙ ap (λ (k : ℕ). tally nodes test n + cond (passes_at nodes test k) 1 0) (let e : 0 + n ≡ n = omega arith in e)

pub tally-most : (nodes : FinMap nat_cmp Node) (test : Said → Bool) (n : ℕ) → tally nodes test n ≤ n
tally-most nodes test n = subst (λ (k : ℕ). tally nodes test n ≤ k) (length-range_with_len 0 n) (count_by-le-length (passes_at nodes test) (range_with_len 0 n))

slots_counted : (slots : List (Option Node)) (from : ℕ) (p : ℕ → Bool) (t : ℕ × Node → Bool)
    → ((i : ℕ) → p (from + i) ≡ option_map_or (λ node. t (from + i, node)) (slot_at slots i) false)
    → count_by p (range_with_len from (length slots)) ≡ count_by t (numbered_from from slots)
slots_counted [] from p t same = refl
slots_counted (s ∷ slots) from p t same =
    ap (λ (k : ℕ). count_by p (range_with_len from k)) (let e : length (s ∷ slots) ≡ suc (length slots) = omega arith in e)
    ∙ count_cons p from (range_with_len (from + 1) (length slots))
    ∙ ap (λ (k : ℕ). cond (p k) 1 0 + count_by p (range_with_len (from + 1) (length slots))) (let e : from ≡ from + zero = omega arith in e)
    ∙ ap (λ (b : Bool). cond b 1 0 + count_by p (range_with_len (from + 1) (length slots))) (same zero)
    ∙ ap (λ k. cond (option_map_or (λ (node : Node). t (from + zero, node)) (slot_at (s ∷ slots) zero) false) 1 0 + k) (slots_counted slots (from + 1) p t later)
    ∙ by s
  where
    later : (i : ℕ) → p (from + 1 + i) ≡ option_map_or (λ node. t (from + 1 + i, node)) (slot_at slots i) false
    later i = subst (λ (k : ℕ). p k ≡ option_map_or (λ node. t (k, node)) (slot_at slots i) false) (let e : from + suc i ≡ from + 1 + i = omega arith in e) (same (suc i))

    by : (o : Option Node) → cond (option_map_or (λ (node : Node). t (from + zero, node)) o false) 1 0 + count_by t (numbered_from (from + 1) slots) ≡ count_by t (numbered_from from (o ∷ slots))
    by None = omega arith
    by (Some node) =
        ap (λ (k : ℕ). cond (t (k, node)) 1 0 + count_by t (numbered_from (from + 1) slots)) (let e : from + zero ≡ from = omega arith in e)
        ∙ sym (count_cons t (from, node) (numbered_from (from + 1) slots))

-- all numbers
pub tally-all : (tree : Numbers) (test : Said → Bool) → tally (nodes_of tree) test (bound_of tree) ≡ count_by test (map (node_says (nodes_of tree)) (entries (nodes_of tree)))
tally-all tree test =
    slots_counted tree.slots 0 (passes_at (nodes_of tree) test) (λ e. test (node_says (nodes_of tree) e)) same
    ∙ ap (count_by (λ e. test (node_says (nodes_of tree) e))) (sym (entries-nodes_of tree))
    ∙ sym (count_map test (node_says (nodes_of tree)) (entries (nodes_of tree)))
  where
    same : (i : ℕ) → passes_at (nodes_of tree) test (0 + i) ≡ option_map_or (λ node. test (node_says (nodes_of tree) (0 + i, node))) (slot_at tree.slots i) false
    same i =
        ap (λ o. option_map_or (λ (node : Node). test (node_says (nodes_of tree) (0 + i, node))) o false)
        (get-nodes_of tree (0 + i) ∙ ap (slot_at tree.slots) (let e : 0 + i ≡ i = omega arith in e))

-- ---- objects and listings

in_filter : {X : Type 0} (t : X → Bool) (xs : List X) (i : ℕ) (x : X) → slice_get xs i ≡ Some x → t x ≡ true → (j : ℕ) × (slice_get (filter t xs) j ≡ Some x)
in_filter t [] i x is e = absurd (cc)
in_filter {X} t (z ∷ xs) zero x is e = (zero, ap (λ (b : Bool). slice_get (cond b (z ∷ filter t xs) (filter t xs)) zero) (ap t (same_some z x is) ∙ e) ∙ is)
in_filter {X} t (z ∷ xs) (suc i) x is e = by (t z) (in_filter t xs i x is e)
  where
    by : (b : Bool) → (j : ℕ) × (slice_get (filter t xs) j ≡ Some x) → (j : ℕ) × (slice_get (cond b (z ∷ filter t xs) (filter t xs)) j ≡ Some x)
    by true later = (suc later.0, later.1)
    by false later = later

from_map : {X Y : Type 0} (f : X → Y) (xs : List X) (j : ℕ) (y : Y) → slice_get (map f xs) j ≡ Some y → (x : X) × (slice_get xs j ≡ Some x) × (f x ≡ y)
from_map f [] j y is = absurd (cc)
from_map f (x ∷ xs) zero y is = (x, refl, same_some (f x) y is)
from_map f (x ∷ xs) (suc j) y is = from_map f xs j y is

file_says : (entry : Entry) (address : ℕ) (content : Directory) → is_file_said (entry, body_in content, address) ≡ false
file_says entry address (Directory.Small dir) = refl
file_says entry address (Directory.Big dir) = refl

unsorted_says : (entry : Entry) (address : ℕ) (content : Directory) → is_unsorted_said (entry, body_in content, address) ≡ not (is_sorted_by_name (entries_of content))
unsorted_says entry address (Directory.Small dir) = refl
unsorted_says entry address (Directory.Big dir) = refl

parent_says : (listings : List Listing) (l : Listing) (entry : Entry) (content : Directory) → l.content ≡ content
    → is_wrong_parent_said (entry, body_in content, holder_address listings l.object.path) ≡ not (has_right_parent listings l)
parent_says listings l entry (Directory.Small dir) e = ap (λ (c : Directory). not (parent_of c == holder_address listings l.object.path)) (sym e)
parent_says listings l entry (Directory.Big dir) e = ap (λ (c : Directory). not (parent_of c == holder_address listings l.object.path)) (sym e)

module _ (listings : List Listing) (tree : Numbers) (h : HaveCounts (nodes_of tree) listings) where
  abbrev objects : List Object
  objects = objects_of listings

  -- what nodes say is counted as objects say it
  over_objects : (test : Said → Bool) → tally (nodes_of tree) test (bound_of tree) ≡ count_by (λ o. test (object_says listings o)) objects
  over_objects test =
      tally-all tree test
      ∙ sym (sum_by-IsPermutation (λ (s : Said). cond (test s) 1 0) (map (node_says (nodes_of tree)) (entries (nodes_of tree))) (map (object_says listings) objects) h.same)
      ∙ count_map test (object_says listings) objects

  file_body : (o : Object) → Contains objects o → is_directory_object o ≡ false → body_of (listing_at listings o.path) ≡ body_of None
  file_body o at file = ap body_of (h.files o at file)

  own_body : (l : Listing) → Contains listings l → body_of (listing_at listings l.object.path) ≡ body_in l.content
  own_body l at = ap body_of (h.own l at)

  -- a test that no file passes is counted over the listings
  over_listings : (test : Said → Bool) (v : Listing → Bool) → ((entry : Entry) (address : ℕ) → test (entry, body_of None, address) ≡ false)
      → ((l : Listing) → test (l.object.entry, body_in l.content, holder_address listings l.object.path) ≡ v l)
      → tally (nodes_of tree) test (bound_of tree) ≡ count_by v listings
  over_listings test v none some =
      over_objects test
      ∙ count_filter (λ o. test (object_says listings o)) is_directory_object objects
      (λ i o is file.
      ap (λ (b : Body). test (o.entry, b, holder_address listings o.path)) (file_body o (contained objects i o is) file) ∙ none o.entry (holder_address listings o.path))
      ∙ ap (count_by (λ o. test (object_says listings o))) h.dirs
      ∙ count_map (λ o. test (object_says listings o)) (λ (l : Listing). l.object) listings
      ∙ count_same (λ (l : Listing). test (object_says listings l.object)) v listings
      (λ i l is. ap (λ (b : Body). test (l.object.entry, b, holder_address listings l.object.path)) (own_body l (contained listings i l is)) ∙ some l)

  file_or_not : (i : ℕ) (o : Object) → slice_get objects i ≡ Some o → is_file_said (object_says listings o) ≡ not (is_directory_object o)
  file_or_not i o is = by (is_directory_object o) refl
    where
      by : (b : Bool) → is_directory_object o ≡ b → is_file_said (object_says listings o) ≡ not b
      by false e = ap (λ (b : Body). is_file_said (o.entry, b, holder_address listings o.path)) (file_body o (contained objects i o is) e)
      by true e =
          let place = in_filter is_directory_object objects i o is e in
          let l = from_map (λ (k : Listing). k.object) listings place.0 o (ap (λ (os : List Object). slice_get os place.0) (sym h.dirs) ∙ place.1) in
          ap (λ (x : Object). is_file_said (object_says listings x)) (sym l.2)
          ∙ ap (λ (b : Body). is_file_said (l.0.object.entry, b, holder_address listings l.0.object.path)) (own_body l.0 (contained listings place.0 l.0 l.1))
          ∙ file_says l.0.object.entry (holder_address listings l.0.object.path) l.0.content

  have_tallies : HaveTallies tree listings
  have_tallies = record {
    files = over_objects is_file_said ∙ count_same (λ o. is_file_said (object_says listings o)) (λ o. not (is_directory_object o)) objects file_or_not;
    dirs = over_listings is_directory_said (λ l. true) (λ entry address. refl) (λ l. ap not (file_says l.object.entry (holder_address listings l.object.path) l.content))
        ∙ count_all listings;
    unsorted = over_listings is_unsorted_said (λ l. not (is_sorted_by_name (entries_of l.content))) (λ entry address. refl)
        (λ l. unsorted_says l.object.entry (holder_address listings l.object.path) l.content);
    parents = over_listings is_wrong_parent_said (λ l. not (has_right_parent listings l)) (λ entry address. refl) (λ l. parent_says listings l l.object.entry l.content refl);
  }

pub tally_law : TallyLaw
tally_law layout listings tree sound held = have_tallies listings tree (counts_law layout listings (nodes_of tree) sound held)
