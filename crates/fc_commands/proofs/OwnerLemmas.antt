-- The owner of a node, and what becomes of the owners when its object goes.
use Rattle.std.proofs.Common.{◌≡◌, ◌⊎◌, inl, inr, ℕ, Bool, true, false, cond, List, [], ◌∷◌, find, map, filter, refl, sym, ap, subst, ◌∙◌, arith, Some, None, Option, nat_cmp, eq-eqb, is_some}
use Rattle.std.specs.Prelude.{Contains, IsPermutation}
use Rattle.std.specs.FinMap.{FinMap}
use Rattle.std.specs.Option.{unwrap_or}
use Rattle.std.proofs.lemmas.Bool.{eqb-true}
use Rattle.std.proofs.lemmas.List.Sorted.{Contains-permutation, IsPermutation-refl, IsPermutation-sym}
use Rattle.fc_names.specs.Names.{Path, is_same_path}
use Rattle.fc_alloc.specs.declared.owner.Owner.{Owner}
use Rattle.fc_alloc.specs.Owners.{has_node, is_node}
use Rattle.fc_dirs.proofs.SearchLemmas.{is_some-find}
use Rattle.fc_image.specs.Layout.{Layout}
use Rattle.fc_image.specs.Walk.{Object, Listing}
use Rattle.fc_image.specs.Objects.{has_sectors, object_at, objects_of}
use Rattle.fc_image.specs.Sound.{AreSound}
use Rattle.fc_image.proofs.PathsLemmas.{itself}
use Rattle.fc_changes.proofs.BasicLemmas.{clash, cases_cons, first_in, next_in}
use Rattle.fc_laws.specs.nodes.Edits.{OwnersEdited}
use Rattle.fc_tree.specs.declared.node.Node.{Node}
use Rattle.fc_tree.specs.Nodes.{HoldObjects, number_of}
use Rattle.fc_tree.specs.Parts.{AreOwners, owner_of}
use Rattle.fc_tree.proofs.MemberLemmas.{found_passes, from_map, in_filter, in_map}
use Rattle.fc_tree.proofs.PlaceLemmas.{one_path}
use Rattle.fc_tree.proofs.SoundLemmas.{same_object}
use Rattle.fc_tree.proofs.WalkedLemmas.{find_only, one_object, place_of, same_some}
use Rattle.fc_placing.proofs.LeavingLemmas.{from_kept, none_or_some}
use Rattle.fc_image.proofs.CommandLemmas.{same_by_folds}

module _ (layout : Layout) (nodes : FinMap nat_cmp Node) (listings : List Listing) (owners : List Owner) (o : Object) (node : ℕ) (sound : AreSound layout listings) (held : HoldObjects nodes listings)
    (are : AreOwners owners nodes layout (objects_of listings)) (numbered : number_of nodes o.path ≡ Some node) (among : Contains (objects_of listings) o) where
  abbrev objects : List Object
  objects = objects_of listings

  abbrev as_owner : Object → Owner
  as_owner = owner_of nodes layout

  number_is : (p : Object) → Contains objects p → number_of nodes p.path ≡ Some (as_owner p).node
  number_is p at = let h = (held.each p at).at_path in h ∙ ap (λ (r : Option ℕ). let s : Option ℕ = Some (unwrap_or r 0) in s) (sym h)

  o_is : (as_owner o).node ≡ node
  o_is = ap (λ (r : Option ℕ). unwrap_or r 0) numbered

  -- the object of that number is o
  pub same_path : (p : Object) → Contains objects p → (as_owner p).node ≡ node → is_same_path o.path p.path ≡ true
  same_path p at e = same_by_folds o.path p.path (one_path nodes node _ o.path p.path refl numbered (number_is p at ∙ ap (λ (k : ℕ). let r : Option ℕ = Some k in r) e))

  is_o : (p : Object) → Contains objects p → (as_owner p).node ≡ node → p ≡ o
  is_o p at e = same_object layout listings sound o.path p o at among (same_path p at e) (itself o.path)

  in_owners : has_sectors o ≡ true → Contains owners (as_owner o)
  in_owners some = Contains-permutation (map as_owner (filter has_sectors objects)) owners (as_owner o) (IsPermutation-sym owners (map as_owner (filter has_sectors objects)) are)
      (in_map as_owner (filter has_sectors objects) o (in_filter has_sectors objects o among some))

  -- No other owner has the node, and it has sectors.
  pub only_owner : (own : Owner) → Contains owners own → own.node ≡ node → (own ≡ as_owner o) × (has_sectors o ≡ true)
  only_owner own at e =
      let p = from_map as_owner (filter has_sectors objects) own (Contains-permutation owners (map as_owner (filter has_sectors objects)) own are at) in
      let q = from_kept has_sectors objects p.0 p.1 in
      let same = is_o p.0 q.0 (ap (λ (w : Owner). w.node) p.2 ∙ e) in
      (sym p.2 ∙ ap as_owner same, ap has_sectors (sym same) ∙ q.1)

  -- the node's owner is o, if it has sectors
  pub owner_is : find (is_node node) owners ≡ cond (has_sectors o) (Some (as_owner o)) None
  owner_is = by (has_sectors o) refl (find (is_node node) owners) refl
    where
      by : (b : Bool) → has_sectors o ≡ b → (r : Option Owner) → find (is_node node) owners ≡ r → r ≡ cond b (Some (as_owner o)) None
      by true some None none = absurd (none_or_some (is_node node) owners (as_owner o) (in_owners some) (eq-eqb (as_owner o).node node o_is) none)
      by true some (Some own) found = let f = found_passes (is_node node) owners own found in ap (λ (w : Owner). let r : Option Owner = Some w in r) (only_owner own f.0 (eqb-true own.node node f.1)).0
      by false empty None none = refl
      by false empty (Some own) found = let f = found_passes (is_node node) owners own found in absurd (clash (has_sectors o) (only_owner own f.0 (eqb-true own.node node f.1)).1 empty)

-- what stands at a path, however it is spelled
pub object_as : (layout : Layout) (listings : List Listing) → AreSound layout listings → (path : Path) (x : Object) → Contains (objects_of listings) x → is_same_path path x.path ≡ true → object_at listings path ≡ Some x
object_as layout listings sound path x among same =
    let w = place_of (objects_of listings) x among in
    find_only (λ (y : Object). is_same_path path y.path) (objects_of listings) w.0 x w.1 same (λ j y at_y e. one_object layout listings sound path w.0 j x y w.1 at_y same e)

-- ---- the owner goes

-- what is found is there, and passes
found_there : (t : Owner → Bool) (xs : List Owner) (x : Owner) → find t xs ≡ Some x → Contains xs x × (t x ≡ true)
found_there t [] x e = absurd (cc)
found_there t (y ∷ xs) x e = by (t y) refl e (found_there t xs x)
  where
    by : (b : Bool) → t y ≡ b → cond b (Some y) (find t xs) ≡ Some x → (find t xs ≡ Some x → Contains xs x × (t x ≡ true)) → Contains (y ∷ xs) x × (t x ≡ true)
    by true h f more = let same = same_some y x f in subst (λ (z : Owner). Contains (y ∷ xs) z × (t z ≡ true)) same (first_in y xs, h)
    by false h f more = let r = more f in (next_in y x xs r.0, r.1)

-- The owner of the object that goes is out, if it had one.
pub owners_left : (some : Bool) (node : ℕ) (owners owners' : List Owner) (own : Owner) → find (is_node node) owners ≡ cond some (Some own) None
    → ((w : Owner) → Contains owners w → w.node ≡ node → IsPermutation owners (w ∷ owners')) → ((has_node owners node ≡ false) → owners' ≡ owners)
    → OwnersEdited owners owners' (cond some (own ∷ []) []) []
owners_left true node owners owners' own found there absent =
    let f = found_there (is_node node) owners own found in
    record { rest = owners'; before = there own f.0 (eqb-true own.node node f.1); after = IsPermutation-refl owners' }
owners_left false node owners owners' own found there absent =
    let none : has_node owners node ≡ false = sym (is_some-find (is_node node) owners) ∙ ap is_some found in
    let same = absent none in
    record { rest = owners'; before = subst (IsPermutation owners) (sym same) (IsPermutation-refl owners); after = IsPermutation-refl owners' }
