-- The owners among the nodes are those among the objects.
use Rattle.std.proofs.Common.{◌≡◌, ◌<◌, ◌≤◌, ◌∷◌, ◌+◌, ◌-◌, ◌*◌, ◌/◌, ◌%◌, inl, inr, ℕ, zero, suc, Bool, true, false, List, [], ◌++◌, length, map, take, drop, refl, sym, ap, ap₂, subst, ◌∙◌, arith, cond}
use Rattle.std.specs.Prelude.{Option, Some, None, Ok, IsPermutation, filter, nat_le, nat_lt, ◌==◌, ◌&&◌, ◌||◌, slice_get}
use Rattle.std.specs.List.{AllByRecursion, flat_map, list_any, range_with_len}
use Rattle.std.specs.Int.{div_ceil}
use Rattle.std.specs.Option.{unwrap_or}
use Rattle.std.specs.Ordering.{nat_cmp}
use Rattle.std.specs.FinMap.{FinMap, get, len-entries}
use Rattle.std.proofs.Math.Nat.{zero-div}
use Rattle.std.proofs.lemmas.Nat.{mod-mul-add}
use Rattle.std.proofs.lemmas.List.Sorted.{IsPermutation-refl}
use Rattle.std.proofs.lemmas.List.{append-nil, length-take-le}
use Rattle.std.proofs.lemmas.List.Folds.{list_any-append}
use Rattle.std.proofs.lemmas.List.FromFn.{length-range_with_len}
use Rattle.std.proofs.lemmas.List.Concat.{flat_map-append}
use Rattle.std.proofs.lemmas.Bool.{eqb-true, ne_eqb, leb-true, cases_lt}
use Rattle.fc_dirs.specs.Directory.{entries_of}
use Rattle.fc_dirs.specs.declared.Entry.{Entry}
use Rattle.fc_names.specs.Names.{Path}
use Rattle.fc_model.specs.Tree.{holder}
use Rattle.fc_alloc.specs.declared.owner.Owner.{Owner}
use Rattle.fc_alloc.specs.Owners.{has_node, is_node}
use Rattle.fc_image.specs.Layout.{Layout, dir_form, first_part, id_sectors, is_object_id, id_of, low_of, low_start, sector_bytes, sectors_at, some_sectors}
use Rattle.fc_image.specs.Walk.{Object, Listing, Reader, is_directory_object, object_size, walk}
use Rattle.fc_image.specs.Objects.{has_sectors, objects_of}
use Rattle.fc_image.specs.Edits.{IsAt, AreChildren, Follows}
use Rattle.fc_image.proofs.EditLemmas.{root_first, walk_gives}
use Rattle.fc_tree.specs.declared.node.Node.{Node}
use Rattle.fc_tree.specs.Agree.{AreWalked, InOrder, reader_of_nodes}
use Rattle.fc_tree.specs.Nodes.{Numbers, bound_of, nodes_of, number_of, numbered_from, HoldObjects}
use Rattle.fc_tree.specs.Parts.{AreOwners, owner_of}
use Rattle.fc_tree.specs.Slots.{slot_at}
use Rattle.fc_tree.proofs.SlotLemmas.{entries-nodes_of, get-nodes_of}
use Rattle.fc_tree.proofs.WalkedLemmas.{contained}
use Rattle.fc_volume.specs.Owners.{node_owner, owner_at, owners_below}
use Rattle.fc_tree.proofs.StepLemmas.{get_there as element_at}

-- ---- sectors of objects

part_long : (n : ℕ) (xs ys : List ℕ) → first_part n xs ≡ Some ys → length ys ≡ n
part_long n xs ys e = by (nat_le n (length xs)) refl e
  where
    by : (b : Bool) → nat_le n (length xs) ≡ b → cond b (Some (take n xs)) None ≡ Some ys → length ys ≡ n
    by true low is = let same : take n xs ≡ ys = cc in ap length (sym same) ∙ length-take-le n xs (leb-true n (length xs) low)
    by false low is = absurd (cc)

some_long : (layout : Layout) (address bytes : ℕ) (sectors : List ℕ) → some_sectors layout address bytes ≡ Some sectors → length sectors ≡ div_ceil bytes (sector_bytes layout)
some_long (Layout.Old space) address bytes sectors e = by ((address % space.sector_units == 0) && nat_le (address / space.sector_units + div_ceil bytes (256 * space.sector_units)) (space.disc_units / space.sector_units)) e
  where
    by : (b : Bool) → cond b (Some (range_with_len (address / space.sector_units) (div_ceil bytes (256 * space.sector_units)))) None ≡ Some sectors → length sectors ≡ div_ceil bytes (256 * space.sector_units)
    by true is = let same : range_with_len (address / space.sector_units) (div_ceil bytes (256 * space.sector_units)) ≡ sectors = cc in ap length (sym same) ∙ length-range_with_len (address / space.sector_units) (div_ceil bytes (256 * space.sector_units))
    by false is = absurd (cc)
some_long (Layout.New m) address bytes sectors e = by (is_object_id m (id_of address)) e
  where
    by : (b : Bool) → cond b (first_part (div_ceil bytes m.geometry.sector) (drop (low_start m (low_of address)) (id_sectors m (id_of address)))) None ≡ Some sectors → length sectors ≡ div_ceil bytes m.geometry.sector
    by true is = part_long (div_ceil bytes m.geometry.sector) (drop (low_start m (low_of address)) (id_sectors m (id_of address))) sectors is
    by false is = absurd (cc)

no_bytes : (s : ℕ) → div_ceil 0 s ≡ 0
no_bytes s = let d = zero-div s in let m = zero_mod s in omega arith
  where
    zero_mod : (k : ℕ) → 0 % k ≡ 0
    zero_mod zero = refl
    zero_mod (suc k) = ap (λ n. n % suc k) (let e : 0 ≡ 0 * suc k + 0 = omega arith in e) ∙ mod-mul-add 0 (suc k) 0 (omega arith)

sectors_long : (layout : Layout) (address bytes : ℕ) (sectors : List ℕ) → sectors_at layout address bytes ≡ Some sectors → length sectors ≡ div_ceil bytes (sector_bytes layout)
unfolding sectors_at
sectors_long layout address bytes sectors e = by (bytes == 0) refl e
  where
    by : (b : Bool) → (bytes == 0) ≡ b → cond b (Some []) (some_sectors layout address bytes) ≡ Some sectors → length sectors ≡ div_ceil bytes (sector_bytes layout)
    by true none is = let same : [] ≡ sectors = cc in ap length (sym same) ∙ sym (ap (λ n. div_ceil n (sector_bytes layout)) (eqb-true bytes 0 none) ∙ no_bytes (sector_bytes layout))
    by false some is = some_long layout address bytes sectors is

-- ---- each object of a walk is at its address

all_children : (layout : Layout) (path : Path) (es : List Entry) (os : List Object) → AreChildren layout path es os → AllByRecursion (IsAt layout) os
all_children layout path [] [] are = tt
all_children layout path [] (o ∷ os) are = absurd are
all_children layout path (e ∷ es) [] are = absurd are
all_children layout path (e ∷ es) (o ∷ os) are = (are.2, all_children layout path es os are.3)

all_both : (P : Object → Type 0) (xs ys : List Object) → AllByRecursion P xs → AllByRecursion P ys → AllByRecursion P (xs ++ ys)
all_both P [] ys a b = b
all_both P (x ∷ xs) ys a b = (a.0, all_both P xs ys a.1 b)

all_listed : (read : Reader) (layout : Layout) (waiting : List Object) (listings : List Listing) → Follows read layout waiting listings → AllByRecursion (IsAt layout) (flat_map (λ l. l.children) listings)
all_listed read layout [] [] f = tt
all_listed read layout (o ∷ waiting) [] f = absurd f
all_listed read layout [] (l ∷ listings) f = absurd f
all_listed read layout (o ∷ waiting) (l ∷ listings) f =
    all_both (IsAt layout) l.children (flat_map (λ k. k.children) listings)
    (all_children layout l.object.path (entries_of l.content) l.children f.1.1) (all_listed read layout (waiting ++ filter is_directory_object l.children) listings f.2)

all_at : (read : Reader) (layout : Layout) (reserved : List ℕ) (address size : ℕ) (listings : List Listing) → walk read layout reserved address size ≡ Ok listings → AllByRecursion (IsAt layout) (objects_of listings)
all_at read layout reserved address size listings walked =
    let gives = walk_gives read layout reserved address size listings walked in
    subst (AllByRecursion (IsAt layout)) (sym (root_first read layout gives.0 reserved listings gives.2)) (gives.1.placed, all_listed read layout (gives.0 ∷ []) listings gives.2)

all_get : (P : Object → Type 0) (os : List Object) (i : ℕ) (o : Object) → AllByRecursion P os → slice_get os i ≡ Some o → P o
all_get P [] i o all is = absurd (cc)
all_get P (x ∷ os) zero o all is = let same : x ≡ o = cc in subst P same all.0
all_get P (x ∷ os) (suc i) o all is = all_get P os i o all.1 is

-- ---- the numbers of nodes

none_numbered : (slots : List (Option Node)) (start i : ℕ) → length (numbered_from start slots) ≡ 0 → slot_at slots i ≡ None
none_numbered [] start i none = refl
none_numbered (None ∷ slots) start zero none = refl
none_numbered (None ∷ slots) start (suc i) none = none_numbered slots (start + 1) i none
none_numbered (Some node ∷ slots) start i none = absurd (omega (arith, none))

few_numbered : (slots : List (Option Node)) (start k i : ℕ) → ((j : ℕ) → j < k → (node : Node) × (slot_at slots j ≡ Some node)) → length (numbered_from start slots) ≡ k → k ≤ i → slot_at slots i ≡ None
few_numbered slots start zero i each all past = none_numbered slots start i all
few_numbered [] start (suc k) i each all past = refl
few_numbered (None ∷ slots) start (suc k) i each all past = absurd (let first = each 0 (omega arith) in let is = first.1 in cc)
few_numbered (Some node ∷ slots) start (suc k) zero each all past = absurd (omega arith)
few_numbered (Some node ∷ slots) start (suc k) (suc i) each all past = few_numbered slots (start + 1) k i (λ j low. each (suc j) (omega arith)) (omega (arith, all)) (omega arith)

-- ---- owners

module _ (tree : Numbers) (layout : Layout) (listings : List Listing) (held : HoldObjects (nodes_of tree) listings) (order : InOrder (nodes_of tree) listings)
    (at : AllByRecursion (IsAt layout) (objects_of listings)) where
  node_at : (i : ℕ) (o : Object) → slice_get (objects_of listings) i ≡ Some o
      → (node : Node) × (get (nodes_of tree) i ≡ Some node) × (node_owner layout i node ≡ owner_of (nodes_of tree) layout o) × ((node_owner layout i node).sectors ≡ length o.sectors)
  node_at i o is =
      let has = held.each o (contained (objects_of listings) i o is) in
      let number = order i o is in
      let same : has.number ≡ i = (let a = has.at_path in let b : Some has.number ≡ Some i = sym a ∙ number in cc) in
      let long = sectors_long layout o.entry.address (object_size (dir_form layout) o.entry) o.sectors (all_get (IsAt layout) (objects_of listings) i o at is) in
      let dir : has.holder_number ≡ unwrap_or (number_of (nodes_of tree) (holder o.path)) 0 = sym (ap (λ n. unwrap_or n 0) has.at_holder) in
      let own : i ≡ unwrap_or (number_of (nodes_of tree) o.path) 0 = sym (ap (λ n. unwrap_or n 0) number) in
      let first : Owner = owner_of (nodes_of tree) layout o in (
        _,
        ap (get (nodes_of tree)) (sym same) ∙ has.is,
        ap₂ (λ (a b : ℕ). record first { dir = a; node = b; sectors = div_ceil (object_size (dir_form layout) o.entry) (sector_bytes layout) }) dir own
            ∙ ap (λ (n : ℕ). record first { sectors = n }) (sym long),
        sym long,
      )

  abbrev object_owner : Object → List Owner
  object_owner o = cond (has_sectors o) (owner_of (nodes_of tree) layout o ∷ []) []

  at_number : (i : ℕ) (o : Object) → slice_get (objects_of listings) i ≡ Some o → owner_at layout i (get (nodes_of tree) i) ≡ object_owner o
  at_number i o is =
      let n = node_at i o is in
      ap (owner_at layout i) n.1 ∙ ap₂ (λ (k : ℕ) (w : Owner). cond (nat_lt 0 k) (w ∷ []) []) n.3 n.2

  past : (i : ℕ) → length (objects_of listings) ≤ i → get (nodes_of tree) i ≡ None
  past i high =
      get-nodes_of tree i ∙ few_numbered tree.slots 0 (length (objects_of listings)) i
      (λ j low. let o = element_at (objects_of listings) j low in let n = node_at j o.0 o.1 in (n.0, sym (get-nodes_of tree j) ∙ n.1))
      (ap length (sym (entries-nodes_of tree)) ∙ sym (len-entries (nodes_of tree)) ∙ held.no_more) high

  each_number : (os : List Object) (a : ℕ) → ((i : ℕ) (o : Object) → slice_get os i ≡ Some o → owner_at layout (a + i) (get (nodes_of tree) (a + i)) ≡ object_owner o)
      → flat_map (λ n. owner_at layout n (get (nodes_of tree) n)) (range_with_len a (length os)) ≡ map (owner_of (nodes_of tree) layout) (filter has_sectors os)
  each_number [] a each = refl
  each_number (o ∷ os) a each =
      let here = each 0 o refl in
      let start : a + 0 ≡ a = omega arith in
      let later = each_number os (a + 1) (λ i p is. subst (λ n. owner_at layout n (get (nodes_of tree) n) ≡ object_owner p) (let e : a + suc i ≡ (a + 1) + i = omega arith in e) (each (suc i) p is)) in
      ap₂ (λ xs ys. xs ++ ys) (subst (λ n. owner_at layout n (get (nodes_of tree) n) ≡ object_owner o) start here) later ∙ by (has_sectors o) refl
    where
      by : (b : Bool) → has_sectors o ≡ b → object_owner o ++ map (owner_of (nodes_of tree) layout) (filter has_sectors os) ≡ map (owner_of (nodes_of tree) layout) (filter has_sectors (o ∷ os))
      by true e = rw e refl
      by false e = rw e refl

  no_number : (count a : ℕ) → length (objects_of listings) ≤ a → flat_map (λ n. owner_at layout n (get (nodes_of tree) n)) (range_with_len a count) ≡ []
  no_number zero a high = refl
  no_number (suc count) a high = ap (λ xs. xs ++ flat_map (λ n. owner_at layout n (get (nodes_of tree) n)) (range_with_len (a + 1) count)) (ap (owner_at layout a) (past a high)) ∙ no_number count (a + 1) (omega arith)

  range_parts : (a k n : ℕ) → range_with_len a (k + n) ≡ range_with_len a k ++ range_with_len (a + k) n
  range_parts a zero n = ap₂ (λ m b. range_with_len b m) (let z : 0 + n ≡ n = omega arith in z) (let e : a ≡ a + 0 = omega arith in e)
  range_parts a (suc k) n = ap (range_with_len a) (let z : suc k + n ≡ suc (k + n) = omega arith in z) ∙ ap (λ xs. a ∷ xs) (range_parts (a + 1) k n ∙ ap (λ b. range_with_len (a + 1) k ++ range_with_len b n) (let e : (a + 1) + k ≡ a + suc k = omega arith in e))

  pub owners_same : ((n : ℕ) → bound_of tree ≤ n → get (nodes_of tree) n ≡ None) → owners_below layout (nodes_of tree) (bound_of tree) ≡ map (owner_of (nodes_of tree) layout) (filter has_sectors (objects_of listings))
  owners_same above =
      let k = length (objects_of listings) in
      let f : ℕ → List Owner = (λ n. owner_at layout n (get (nodes_of tree) n)) in
      let fits : k ≤ bound_of tree = elim (cases_lt (bound_of tree) k) [
        | inl less ↦ absurd (let o = element_at (objects_of listings) (bound_of tree) less in let n = node_at (bound_of tree) o.0 o.1 in let none = above (bound_of tree) (omega arith) in let some = n.1 in cc)
        | inr other ↦ omega arith
      ] in
      let count : bound_of tree ≡ k + (bound_of tree - k) = omega arith in
      let first = each_number (objects_of listings) 0 (λ i o is. subst (λ n. owner_at layout n (get (nodes_of tree) n) ≡ object_owner o) (let e : i ≡ 0 + i = omega arith in e) (at_number i o is)) in
      ap (λ n. flat_map f (range_with_len 0 n)) count
      ∙ ap (flat_map f) (range_parts 0 k (bound_of tree - k))
      ∙ flat_map-append f (range_with_len 0 k) (range_with_len (0 + k) (bound_of tree - k))
      ∙ ap₂ (λ xs ys. xs ++ ys) first (no_number (bound_of tree - k) (0 + k) (omega arith))
      ∙ append-nil (map (owner_of (nodes_of tree) layout) (filter has_sectors (objects_of listings)))

pub owners_are : (tree : Numbers) (layout : Layout) (owners : List Owner) (reserved : List ℕ) (address size : ℕ) (listings : List Listing) → ((n : ℕ) → bound_of tree ≤ n → get (nodes_of tree) n ≡ None)
    → owners ≡ owners_below layout (nodes_of tree) (bound_of tree) → AreWalked (nodes_of tree) layout reserved address size listings → InOrder (nodes_of tree) listings → AreOwners owners (nodes_of tree) layout (objects_of listings)
owners_are tree layout owners reserved address size listings above is walked order =
    let all = all_at (reader_of_nodes (nodes_of tree)) layout reserved address size listings walked.walked in
    subst (λ (os : List Owner). IsPermutation owners os) (is ∙ owners_same tree layout listings walked.held order all above) (IsPermutation-refl owners)

-- ---- one number more

owner_apart : (layout : Layout) (i n : ℕ) (node : Option Node) → i < n → list_any (is_node n) (owner_at layout i node) ≡ false
owner_apart layout i n None low = refl
owner_apart layout i n (Some node) low = by (nat_lt 0 (node_owner layout i node).sectors)
  where
    by : (b : Bool) → list_any (is_node n) (cond b (node_owner layout i node ∷ []) []) ≡ false
    by true = ap (λ b. b || false) (ne_eqb i n (λ e. omega arith))
    by false = refl

below_apart : (layout : Layout) (nodes : FinMap nat_cmp Node) (count a n : ℕ) → a + count ≤ n → list_any (is_node n) (flat_map (λ k. owner_at layout k (get nodes k)) (range_with_len a count)) ≡ false
below_apart layout nodes zero a n low = refl
below_apart layout nodes (suc count) a n low =
    list_any-append (is_node n) (owner_at layout a (get nodes a)) (flat_map (λ k. owner_at layout k (get nodes k)) (range_with_len (a + 1) count))
    ∙ ap₂ (λ x y. x || y) (owner_apart layout a n (get nodes a) (omega arith)) (below_apart layout nodes count (a + 1) n (omega arith))

pub no_owner : (layout : Layout) (nodes : FinMap nat_cmp Node) (owners : List Owner) (n : ℕ) → owners ≡ owners_below layout nodes n → has_node owners n ≡ false
no_owner layout nodes owners n is = ap (list_any (is_node n)) is ∙ below_apart layout nodes n 0 n (omega arith)

pub one_more : (layout : Layout) (nodes : FinMap nat_cmp Node) (n : ℕ) → owners_below layout nodes n ++ owner_at layout n (get nodes n) ≡ owners_below layout nodes (n + 1)
one_more layout nodes n =
    let f : ℕ → List Owner = (λ k. owner_at layout k (get nodes k)) in
    ap (λ xs. owners_below layout nodes n ++ xs) (sym (append-nil (f n)))
    ∙ sym (flat_map-append f (range_with_len 0 n) (n ∷ [])) ∙ ap (flat_map f) (sym (range-more 0 n ∙ ap (λ m. range_with_len 0 n ++ m ∷ []) (let e : 0 + n ≡ n = omega arith in e)))
  where
    range-more : (a k : ℕ) → range_with_len a (k + 1) ≡ range_with_len a k ++ (a + k) ∷ []
    range-more a zero = ap (λ b. b ∷ []) (let e : a ≡ a + 0 = omega arith in e)
    range-more a (suc k) = ap (range_with_len a) (let z : suc k + 1 ≡ suc (k + 1) = omega arith in z) ∙ ap (λ xs. a ∷ xs) (range-more (a + 1) k ∙ ap (λ b. range_with_len (a + 1) k ++ b ∷ []) (let e : (a + 1) + k ≡ a + suc k = omega arith in e))
