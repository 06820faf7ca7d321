-- What goes back has runs.
use Rattle.std.proofs.Common.{◌≡◌, ◌<◌, ◌||◌, ◌==◌, ℕ, zero, suc, Bool, true, false, cond, List, [], length, map, take, drop, filter, refl, sym, ap, ◌∙◌, arith, Some, None, Option, nat_cmp}
use Rattle.std.specs.Prelude.{Contains}
use Rattle.std.specs.List.{find}
use Rattle.std.specs.FinMap.{FinMap}
use Rattle.std.specs.Option.{option_and_then, option_to_list}
use Rattle.std.proofs.lemmas.Bool.{eqb-true, ltb-true, false_from_ne_true as unless}
use Rattle.std.proofs.lemmas.List.Sorted.{Contains-permutation}
use Rattle.fc_alloc.specs.declared.owner.Owner.{Owner}
use Rattle.fc_alloc.specs.Owners.{is_node}
use Rattle.fc_newmap.specs.Map.{Map, is_used, sectors_of}
use Rattle.fc_newmap.specs.NewMap.{IsNewMap}
use Rattle.fc_newmap.proofs.HeldLemmas.{geometry_facts}
use Rattle.fc_image.specs.Layout.{Layout, id_of, id_sectors, low_of, low_start}
use Rattle.fc_image.specs.Walk.{Listing}
use Rattle.fc_image.specs.Objects.{has_sectors, objects_of}
use Rattle.fc_image.specs.Sound.{AreSound}
use Rattle.fc_image.specs.Edits.{IsAt}
use Rattle.fc_image.proofs.EntriesLemmas.{from_filter}
use Rattle.fc_image.proofs.HolesLemmas.{Each-contains, Each-objects, Lies, walk_lies}
use Rattle.fc_plan.specs.Giving.{is_one_of}
use Rattle.fc_changes.proofs.BasicLemmas.{or_false}
use Rattle.fc_changes.proofs.PlacedLemmas.{filter_test}
use Rattle.fc_changes.proofs.SpaceLemmas.{no_runs}
use Rattle.fc_tree.specs.declared.node.Node.{Node}
use Rattle.fc_tree.specs.Parts.{AreOwners, owner_of}
use Rattle.fc_tree.proofs.MemberLemmas.{found_passes, from_map}
use Rattle.fc_placing.specs.Leaving.{LeavesUsed, has_other, is_kept, left_among, left_of}
use Rattle.fc_placing.proofs.SlackLemmas.{own_part}

nothing_of : (n k : ℕ) → take n (drop k (let none : List ℕ = [] in none)) ≡ []
nothing_of zero zero = refl
nothing_of zero (suc k) = refl
nothing_of (suc n) zero = refl
nothing_of (suc n) (suc k) = refl

module _ (m : Map) (nodes : FinMap nat_cmp Node) (listings : List Listing) (owners : List Owner) (is : IsNewMap m) (sound : AreSound (Layout.New m) listings)
    (are : AreOwners owners nodes (Layout.New m) (objects_of listings)) (id : ℕ) (unused : is_used m id ≡ false) where
  empty : id_sectors m id ≡ []
  empty = ap (sectors_of m.geometry) (no_runs m id (geometry_facts m.geometry is.of_record).zones unused)

  never_owned : (own : Owner) → Contains owners own → own.id ≡ id → ⊥
  never_owned own at same =
      let own_objects = filter has_sectors (objects_of listings) in
      let p = from_map (owner_of nodes (Layout.New m)) own_objects own (Contains-permutation owners (map (owner_of nodes (Layout.New m)) own_objects) own are at) in
      let o = p.0 in
      let there = from_filter has_sectors (objects_of listings) o p.1 in
      let some : 0 < length o.sectors = ltb-true 0 (length o.sectors) (filter_test has_sectors (objects_of listings) o p.1) in
      let placed : IsAt (Layout.New m) o =
      (Each-contains (Lies (Layout.New m) sound.reserved) (objects_of listings) o
      (Each-objects (Lies (Layout.New m) sound.reserved) listings (walk_lies sound.read (Layout.New m) sound.reserved sound.address sound.size listings sound.walked)) there).placed in
      let same_id : id_of o.entry.address ≡ id = ap (λ (w : Owner). w.id) p.2 ∙ same in
      let part : take (length o.sectors) (drop (low_start m (low_of o.entry.address)) (id_sectors m (id_of o.entry.address))) ≡ o.sectors = own_part m o placed in
      let none : [] ≡ o.sectors =
      sym (nothing_of (length o.sectors) (low_start m (low_of o.entry.address)))
      ∙ ap (λ (xs : List ℕ). take (length o.sectors) (drop (low_start m (low_of o.entry.address)) xs)) (sym (ap (id_sectors m) same_id ∙ empty)) ∙ part in
      let long = ap (λ (xs : List ℕ). length xs) none in
      omega (arith, long, some)

  none_goes : (node : ℕ) (kept : Option ℕ) → is_one_of (option_to_list (left_among owners node kept)) id ≡ false
  none_goes node kept = by (find (is_node node) owners) refl
    where
      stays : (own : Owner) → Contains owners own → (b : Bool) → is_one_of (option_to_list (cond b None (Some own.id))) id ≡ false
      stays own at true = refl
      stays own at false = or_false (own.id == id) ∙ unless (own.id == id) (λ e. never_owned own at (eqb-true own.id id e))

      by : (r : Option Owner) → find (is_node node) owners ≡ r → is_one_of (option_to_list (option_and_then (left_of owners node kept) r)) id ≡ false
      by None e = refl
      by (Some own) e = stays own (found_passes (is_node node) owners own e).0 ((own.id == 2) || (is_kept kept own.id || has_other owners node own.id))

pub leaves_used : (owners : List Owner) (node : ℕ) (kept : Option ℕ) → LeavesUsed owners (option_to_list (left_among owners node kept))
leaves_used owners node kept m nodes listings id is sound are unused = none_goes m nodes listings owners is sound are id unused node kept
