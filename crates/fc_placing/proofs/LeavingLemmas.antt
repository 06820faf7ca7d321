-- Which identifiers go back if an object goes.
use Rattle.std.proofs.Common.{◌≡◌, ◌&&◌, ◌||◌, ◌==◌, ◌⊎◌, inl, inr, ℕ, Bool, true, false, cond, List, [], ◌∷◌, ◌++◌, map, filter, refl, sym, ap, ap₂, subst, ◌∙◌, arith, Some, None, Option, nat_cmp, eq-eqb}
use Rattle.std.specs.Prelude.{Contains, IsPermutation, not}
use Rattle.std.specs.List.{find, list_any}
use Rattle.std.specs.FinMap.{FinMap}
use Rattle.std.specs.Option.{option_and_then, option_to_list, unwrap_or}
use Rattle.std.proofs.lemmas.Bool.{eqb-true, ne_eqb}
use Rattle.std.proofs.lemmas.List.Sorted.{Contains-permutation, IsPermutation-sym, list_any-IsPermutation}
use Rattle.fc_names.specs.Names.{is_same_path}
use Rattle.fc_alloc.specs.declared.owner.Owner.{Owner}
use Rattle.fc_alloc.specs.Owners.{is_node}
use Rattle.fc_newmap.specs.Map.{Map, is_used}
use Rattle.fc_image.specs.Layout.{Layout, id_of}
use Rattle.fc_image.specs.Walk.{Object, Listing}
use Rattle.fc_image.specs.Objects.{has_sectors, is_owner_of, objects_of}
use Rattle.fc_image.specs.Sound.{AreSound}
use Rattle.fc_image.proofs.PathsLemmas.{is_at, itself, many}
use Rattle.fc_image.specs.effects.Steady.{is_given_back}
use Rattle.fc_plan.specs.Giving.{is_one_of}
use Rattle.fc_changes.specs.Owed.{GivesBack}
use Rattle.fc_changes.proofs.BasicLemmas.{clash, cases_cons, first_in, next_in}
use Rattle.fc_changes.proofs.SpaceLemmas.{owned_same}
use Rattle.fc_changes.proofs.StepsLemmas.{any_append}
use Rattle.fc_tree.specs.declared.node.Node.{Node}
use Rattle.fc_tree.specs.Nodes.{HoldObjects, number_of}
use Rattle.fc_tree.specs.Parts.{AreOwners, owner_of}
use Rattle.fc_tree.proofs.MemberLemmas.{found_passes, from_map, in_filter, in_map, many_permuted, some_many}
use Rattle.fc_tree.proofs.PlaceLemmas.{one_path}
use Rattle.fc_tree.proofs.SoundLemmas.{same_object}
use Rattle.fc_tree.proofs.WalkedLemmas.{few_objects}
use Rattle.fc_placing.specs.Leaving.{LeavesIds, OwnOnly, has_other, is_kept, left_among, left_of}
use Rattle.fc_image.proofs.CommandLemmas.{same_by_folds}

-- ---- lists

pub any_same : {X : Type 0} (p q : X → Bool) (xs : List X) → ((x : X) → Contains xs x → p x ≡ q x) → list_any p xs ≡ list_any q xs
any_same p q [] same = refl
any_same p q (x ∷ xs) same = ap₂ (λ (a b : Bool). a || b) (same x (first_in x xs)) (any_same p q xs (λ y at. same y (next_in x y xs at)))

-- a test of the owners that objects are
pub any_owner : (q : Owner → Bool) (f : Object → Owner) (objects : List Object) → list_any q (map f (filter has_sectors objects)) ≡ list_any (λ p. has_sectors p && q (f p)) objects
any_owner q f [] = refl
any_owner q f (p ∷ objects) = by (has_sectors p) (any_owner q f objects)
  where
    by : (b : Bool) → list_any q (map f (filter has_sectors objects)) ≡ list_any (λ o. has_sectors o && q (f o)) objects
        → list_any q (map f (cond b (p ∷ filter has_sectors objects) (filter has_sectors objects))) ≡ ((b && q (f p)) || list_any (λ o. has_sectors o && q (f o)) objects)
    by true h = ap (λ (b : Bool). q (f p) || b) h
    by false h = h

pub from_kept : {X : Type 0} (t : X → Bool) (xs : List X) (x : X) → Contains (filter t xs) x → Contains xs x × (t x ≡ true)
from_kept t [] x at = absurd (omega (arith, at.1))
from_kept {X} t (y ∷ xs) x at = by (t y) refl at (from_kept t xs x)
  where
    by : (b : Bool) → t y ≡ b → Contains (cond b (y ∷ filter t xs) (filter t xs)) x → (Contains (filter t xs) x → Contains xs x × (t x ≡ true)) → Contains (y ∷ xs) x × (t x ≡ true)
    by true e h more = elim (cases_cons y (filter t xs) x h) [
      | inl same ↦ (subst (λ (z : X). Contains (y ∷ xs) z) same (first_in y xs), subst (λ (z : X). t z ≡ true) same e)
      | inr later ↦ (let r = more later in (next_in y x xs r.0, r.1))
    ]
    by false e h more = let r = more h in (next_in y x xs r.0, r.1)

pub none_or_some : {X : Type 0} (t : X → Bool) (xs : List X) (x : X) → Contains xs x → t x ≡ true → (find t xs ≡ None → ⊥)
none_or_some t [] x at h none = omega (arith, at.1)
none_or_some {X} t (y ∷ xs) x at h none = by (t y) refl none (cases_cons y xs x at) (λ later is. none_or_some t xs x later h is)
  where
    by : (b : Bool) → t y ≡ b → cond b (Some y) (find t xs) ≡ None → (y ≡ x) ⊎ Contains xs x → (Contains xs x → find t xs ≡ None → ⊥) → ⊥
    by true e is at' more = cc
    by false e is (inl same) more = clash (t y) (ap t same ∙ h) e
    by false e is (inr later) more = more later is

-- ---- the owners of an opened disc

module _ (m : Map) (nodes : FinMap nat_cmp Node) (listings : List Listing) (owners : List Owner) (o : Object) (stay : List Object) (node : ℕ)
    (sound : AreSound (Layout.New m) listings) (held : HoldObjects nodes listings) (are : AreOwners owners nodes (Layout.New m) (objects_of listings))
    (numbered : number_of nodes o.path ≡ Some node) (order : IsPermutation (objects_of listings) (o ∷ stay)) where
  abbrev objects : List Object
  objects = objects_of listings

  abbrev as_owner : Object → Owner
  as_owner = owner_of nodes (Layout.New m)

  in_objects : (p : Object) → Contains (o ∷ stay) p → Contains objects p
  in_objects p at = Contains-permutation (o ∷ stay) objects p (IsPermutation-sym objects (o ∷ stay) order) at

  number_is : (p : Object) → Contains objects p → number_of nodes p.path ≡ Some (as_owner p).node
  number_is p at = let h = (held.each p at).at_path in h ∙ ap (λ (r : Option ℕ). let s : Option ℕ = Some (unwrap_or r 0) in s) (sym h)

  o_is : (as_owner o).node ≡ node
  o_is = ap (λ (r : Option ℕ). unwrap_or r 0) numbered

  -- the object of that number is o
  same_path : (p : Object) → Contains objects p → (as_owner p).node ≡ node → is_same_path o.path p.path ≡ true
  same_path p at e = same_by_folds o.path p.path (one_path nodes node _ o.path p.path refl numbered (number_is p at ∙ ap (λ (k : ℕ). let r : Option ℕ = Some k in r) e))

  is_o : (p : Object) → Contains objects p → (as_owner p).node ≡ node → p ≡ o
  is_o p at e = same_object (Layout.New m) listings sound o.path p o at (in_objects o (first_in o stay)) (same_path p at e) (itself o.path)

  -- no other has it
  other_number : (p : Object) → Contains stay p → (as_owner p).node ≡ node → ⊥
  unfolding many
  other_number p at e =
      let few = few_objects (Layout.New m) listings sound o.path in
      let all : many (is_at o.path) (o ∷ stay) ≡ many (is_at o.path) objects = many_permuted (is_at o.path) objects (o ∷ stay) order in
      let here : cond (is_at o.path o) 1 0 ≡ 1 = ap (λ (b : Bool). let n : ℕ = cond b 1 0 in n) (itself o.path) in
      let more = some_many (is_at o.path) stay p at (same_path p (in_objects p (next_in o p stay at)) e) in
      omega (arith, few, all, here, more)

  pub others_are : (id : ℕ) → has_other owners node id ≡ list_any (is_owner_of id) stay
  others_are id =
      list_any-IsPermutation test owners (map as_owner (filter has_sectors objects)) are
      ∙ any_owner test as_owner objects
      ∙ list_any-IsPermutation by_object objects (o ∷ stay) order
      ∙ ap₂ (λ (a b : Bool). a || b) not_o (any_same by_object (is_owner_of id) stay each)
    where
      test : Owner → Bool
      test p = (p.id == id) && not (p.node == node)

      by_object : Object → Bool
      by_object p = has_sectors p && test (as_owner p)

      drop_last : (a b c : Bool) → c ≡ false → (a && (b && not c)) ≡ (a && b)
      drop_last a true c e = ap (λ (d : Bool). a && not d) e
      drop_last a false c e = refl

      none_last : (a b c : Bool) → c ≡ true → (a && (b && not c)) ≡ false
      none_last false b c e = refl
      none_last true false c e = refl
      none_last true true c e = ap not e

      not_o : by_object o ≡ false
      not_o = none_last (has_sectors o) ((as_owner o).id == id) ((as_owner o).node == node) (eq-eqb (as_owner o).node node o_is)

      each : (p : Object) → Contains stay p → by_object p ≡ is_owner_of id p
      each p at = drop_last (has_sectors p) ((as_owner p).id == id) ((as_owner p).node == node) (ne_eqb (as_owner p).node node (other_number p at))

  -- the node's owner is o, if it has sectors
  pub owner_is : find (is_node node) owners ≡ cond (has_sectors o) (Some (as_owner o)) None
  owner_is = by (has_sectors o) refl (find (is_node node) owners) refl
    where
      in_owners : has_sectors o ≡ true → Contains owners (as_owner o)
      in_owners some = Contains-permutation (map as_owner (filter has_sectors objects)) owners (as_owner o) (IsPermutation-sym owners (map as_owner (filter has_sectors objects)) are)
          (in_map as_owner (filter has_sectors objects) o (in_filter has_sectors objects o (in_objects o (first_in o stay)) some))

      from_owners : (own : Owner) → Contains owners own → own.node ≡ node → (own ≡ as_owner o) × (has_sectors o ≡ true)
      from_owners own at e =
          let p = from_map as_owner (filter has_sectors objects) own (Contains-permutation owners (map as_owner (filter has_sectors objects)) own are at) in
          let q = from_kept has_sectors objects p.0 p.1 in
          let same = is_o p.0 q.0 (ap (λ (w : Owner). w.node) p.2 ∙ e) in
          (sym p.2 ∙ ap as_owner same, ap has_sectors (sym same) ∙ q.1)

      by : (b : Bool) → has_sectors o ≡ b → (r : Option Owner) → find (is_node node) owners ≡ r → r ≡ cond b (Some (as_owner o)) None
      by true some None none = absurd (none_or_some (is_node node) owners (as_owner o) (in_owners some) (eq-eqb (as_owner o).node node o_is) none)
      by true some (Some own) found = let f = found_passes (is_node node) owners own found in ap (λ (w : Owner). let r : Option Owner = Some w in r) (from_owners own f.0 (eqb-true own.node node f.1)).0
      by false empty None none = refl
      by false empty (Some own) found = let f = found_passes (is_node node) owners own found in absurd (clash (has_sectors o) (from_owners own f.0 (eqb-true own.node node f.1)).1 empty)

  -- ---- what goes back

  module _ (kept : Option ℕ) (new : List Object) (only : OwnOnly m kept new) where
    abbrev gone : List ℕ
    gone = option_to_list (left_among owners node kept)

    abbrev own_id : ℕ
    own_id = id_of o.entry.address

    abbrev stays : ℕ → Bool
    stays id = (id == 2) || (is_kept kept id || list_any (is_owner_of id) stay)

    gone_is : gone ≡ cond (has_sectors o) (option_to_list (cond (stays own_id) None (Some own_id))) []
    gone_is = ap (λ (r : Option Owner). option_to_list (option_and_then (left_of owners node kept) r)) owner_is ∙ by (has_sectors o)
      where
        by : (b : Bool) → option_to_list (option_and_then (left_of owners node kept) (cond b (Some (as_owner o)) None)) ≡ cond b (option_to_list (cond (stays own_id) None (Some own_id))) []
        by true = ap (λ (b : Bool). option_to_list (cond ((own_id == 2) || (is_kept kept own_id || b)) None (Some own_id))) (others_are own_id)
        by false = refl

    one_gone : (id : ℕ) → is_one_of gone id ≡ (has_sectors o && (own_id == id) && not (stays id))
    one_gone id = ap (λ (ids : List ℕ). is_one_of ids id) gone_is ∙ by (has_sectors o) (stays own_id) refl
      where
        same_id : (b : Bool) → (own_id == id) ≡ b → (c : Bool) → stays own_id ≡ c → is_one_of (option_to_list (cond c None (Some own_id))) id ≡ (b && not (stays id))
        same_id true e true f = ap not (sym f ∙ ap stays (eqb-true own_id id e))
        same_id true e false f = ap (λ (b : Bool). b || false) e ∙ ap not (sym f ∙ ap stays (eqb-true own_id id e))
        same_id false e true f = refl
        same_id false e false f = ap (λ (b : Bool). b || false) e

        by : (b c : Bool) → stays own_id ≡ c → is_one_of (cond b (option_to_list (cond c None (Some own_id))) []) id ≡ (b && (own_id == id) && not (stays id))
        by true c f = same_id (own_id == id) refl c f
        by false c f = refl

    back_is : (id : ℕ) → is_used m id ≡ true → is_given_back objects (new ++ stay) id ≡ (has_sectors o && (own_id == id) && not (stays id))
    back_is id used =
        ap₂ (λ (a b : Bool). a && not b) (owned_same objects (o ∷ stay) id order) (ap (λ (b : Bool). (id == 2) || b) (any_append (is_owner_of id) new stay ∙ ap (λ (b : Bool). b || list_any (is_owner_of id) stay) (only id used)))
        ∙ by (id == 2) (has_sectors o && (own_id == id)) (list_any (is_owner_of id) stay) (is_kept kept id)
      where
        by : (two own others is_kept : Bool) → ((two || (own || others)) && not (two || (is_kept || others))) ≡ (own && not (two || (is_kept || others)))
        by true true others k = refl
        by true false others k = refl
        by false true others k = refl
        by false false true true = refl
        by false false true false = refl
        by false false false k = refl

    pub gives_back : GivesBack m gone objects (new ++ stay)
    gives_back = record { exactly = λ id used. one_gone id ∙ sym (back_is id used) }

pub leaves_ids : (owners : List Owner) (node : ℕ) (kept : Option ℕ) → LeavesIds owners node kept (option_to_list (left_among owners node kept))
leaves_ids owners node kept m nodes listings o stay new sound held are numbered order only =
    gives_back m nodes listings owners o stay node sound held are numbered order kept new only
