-- Room for a directory, and being alone, by owners and by objects.
use Rattle.std.proofs.Common.{◌≡◌, ◌<◌, ◌≤◌, ◌&&◌, ◌||◌, ◌==◌, ℕ, ◌+◌, zero, suc, Bool, true, false, cond, List, [], ◌∷◌, length, map, take, drop, filter, refl, sym, ap, ap₂, subst, ◌∙◌, arith, Some, None, Option, nat_le, eq-eqb}
use Rattle.std.specs.Prelude.{Contains, IsPermutation, not, nat_lt, is_some, remove}
use Rattle.std.specs.List.{flat_map, list_all, list_any}
use Rattle.std.specs.Int.{div_ceil}
use Rattle.std.specs.Option.{option_map_or, unwrap_or}
use Rattle.std.proofs.lemmas.Bool.{eqb-true, leb-true, lt-ltb, ltb-true, ne_eqb}
use Rattle.std.proofs.lemmas.List.{length-drop}
use Rattle.std.proofs.lemmas.List.Sorted.{IsPermutation-remove}
use Rattle.fc_names.specs.Names.{is_same_path}
use Rattle.fc_alloc.specs.declared.owner.Owner.{Owner}
use Rattle.fc_newmap.specs.Map.{Map}
use Rattle.fc_newmap.specs.RunsLaw.{IsGeometry}
use Rattle.fc_newmap.proofs.CoverLemmas.{id_Distinct}
use Rattle.fc_newmap.proofs.GeometryLemmas.{geometry_of_valid}
use Rattle.fc_newmap.proofs.HeldLemmas.{geometry_facts}
use Rattle.fc_image.specs.Layout.{Layout, first_part, id_of, id_sectors, is_among, is_apart, is_object_id, low_of, low_start, new_sectors}
use Rattle.fc_image.specs.Walk.{Object, Listing}
use Rattle.fc_image.specs.Edits.{IsAt}
use Rattle.fc_image.specs.Objects.{has_sectors, is_owner_of, objects_of, owner_count}
use Rattle.fc_image.proofs.EntriesLemmas.{in_filter}
use Rattle.fc_image.proofs.HolesLemmas.{Each-contains, Each-objects, Lies, in_id, walk_lies}
use Rattle.fc_image.proofs.MoveLemmas.{one_id}
use Rattle.fc_image.specs.effects.Short.{has_room, is_alone, sectors_of_others}
use Rattle.fc_changes.proofs.BasicLemmas.{clash, first_in, next_in}
use Rattle.fc_placing.specs.Slack.{leaves_free}
use Rattle.fc_placing.proofs.Intervals.{apart-append, apart_by_places, apart_is, apart_none, meets_no}
use Rattle.fc_placing.proofs.Shares.{some_sectors}
use Rattle.fc_tree.specs.Nodes.{number_of, HoldObjects}
use Rattle.fc_tree.specs.Parts.{owner_of, AreOwners}
use Rattle.fc_tree.proofs.WalkedLemmas.{same_some}
use Rattle.fc_placing.proofs.CopyingLemmas.{dirs_same, shared_is}
use Rattle.fc_placing.proofs.LeavingLemmas.{others_are}
use Rattle.fc_placing.proofs.SlackLemmas.{list_all-IsPermutation, own_part}
use Rattle.fc_laws.specs.nodes.Edits.{Nodes}
use Rattle.fc_change.specs.Shortage.{has_room_by, is_alone_by, leaves_free_for, others_leave_free}
use Rattle.fc_image.specs.Sound.{AreSound}
use Rattle.fc_newmap.specs.NewMap.{IsNewMap}
use Rattle.fc_placing.proofs.LowLemmas.{or_true}

-- ---- tests of lists

all_same : {X : Type 0} (p q : X → Bool) (xs : List X) → ((x : X) → Contains xs x → p x ≡ q x) → list_all p xs ≡ list_all q xs
all_same p q [] same = refl
all_same p q (x ∷ xs) same = ap₂ (λ (a b : Bool). a && b) (same x (first_in x xs)) (all_same p q xs (λ y at. same y (next_in x y xs at)))

-- a test of the owners that objects are
all_owner : (q : Owner → Bool) (f : Object → Owner) (objects : List Object) → list_all q (map f (filter has_sectors objects)) ≡ list_all (λ p. not (has_sectors p) || q (f p)) objects
all_owner q f [] = refl
all_owner q f (p ∷ objects) = by (has_sectors p) (all_owner q f objects)
  where
    by : (b : Bool) → list_all q (map f (filter has_sectors objects)) ≡ list_all (λ o. not (has_sectors o) || q (f o)) objects
        → list_all q (map f (cond b (p ∷ filter has_sectors objects) (filter has_sectors objects))) ≡ ((not b || q (f p)) && list_all (λ o. not (has_sectors o) || q (f o)) objects)
    by true h = ap (λ (b : Bool). q (f p) && b) h
    by false h = h

-- sectors that are apart from those of the objects that pass a test
all_apart : (row : List ℕ) (t : Object → Bool) (objects : List Object)
    → is_apart row (flat_map (λ p. p.sectors) (filter (λ p. not (t p)) objects)) ≡ list_all (λ p. t p || is_apart row p.sectors) objects
all_apart row t [] = apart_none row
all_apart row t (p ∷ objects) = by (t p) (all_apart row t objects)
  where
    by : (b : Bool) → is_apart row (flat_map (λ p. p.sectors) (filter (λ p. not (t p)) objects)) ≡ list_all (λ p. t p || is_apart row p.sectors) objects
        → is_apart row (flat_map (λ p. p.sectors) (cond (not b) (p ∷ filter (λ p. not (t p)) objects) (filter (λ p. not (t p)) objects)))
        ≡ ((b || is_apart row p.sectors) && list_all (λ p. t p || is_apart row p.sectors) objects)
    by true h = h
    by false h = apart-append row p.sectors (flat_map (λ p. p.sectors) (filter (λ p. not (t p)) objects)) ∙ ap (λ (b : Bool). is_apart row p.sectors && b) h

none_in : (xs : List ℕ) → nat_lt 0 (length xs) ≡ false → xs ≡ []
none_in [] e = refl
none_in (x ∷ xs) e = absurd (clash (nat_lt 0 (length (x ∷ xs))) (lt-ltb 0 (length (x ∷ xs)) (omega arith)) e)

-- ---- the row of sectors

-- the bytes at an address have a place: a row of their identifier
pub record IsRow (m : Map) (address bytes : ℕ) (sectors : List ℕ) : Type 0 where
  pub object : is_object_id m (id_of address) ≡ true
  pub is : sectors ≡ take (div_ceil bytes m.geometry.sector) (drop (low_start m (low_of address)) (id_sectors m (id_of address)))
  pub fits : low_start m (low_of address) + div_ceil bytes m.geometry.sector ≤ length (id_sectors m (id_of address))

pub row_of : (m : Map) (address bytes : ℕ) (sectors : List ℕ) → 0 < div_ceil bytes m.geometry.sector → new_sectors m address bytes ≡ Some sectors → IsRow m address bytes sectors
row_of m address bytes sectors some e = by (is_object_id m (id_of address)) refl e
  where
    need : ℕ
    need = div_ceil bytes m.geometry.sector

    rest : List ℕ
    rest = drop (low_start m (low_of address)) (id_sectors m (id_of address))

    long : nat_le need (length rest) ≡ true → low_start m (low_of address) + need ≤ length (id_sectors m (id_of address))
    long fits = let low = leb-true need (length rest) fits in let size = length-drop (low_start m (low_of address)) (id_sectors m (id_of address)) in omega (arith, low, size, some)

    part : (b : Bool) → nat_le need (length rest) ≡ b → is_object_id m (id_of address) ≡ true → (let q : Option (List ℕ) = cond b (Some (take need rest)) None in q) ≡ Some sectors → IsRow m address bytes sectors
    part true fits object is = record { object = object; is = sym (same_some (take need rest) sectors is); fits = long fits }
    part false fits object is = absurd (cc)

    by : (b : Bool) → is_object_id m (id_of address) ≡ b → cond b (first_part need rest) None ≡ Some sectors → IsRow m address bytes sectors
    by true object is = part (nat_le need (length rest)) refl object is
    by false object is = absurd (cc)

-- ---- by owners and by objects

-- Object o of node `node`, among the objects of a walk with these owners.
pub record IsNodeOf (m : Map) (nodes : Nodes) (owners : List Owner) (listings : List Listing) (o : Object) (node : ℕ) : Type 0 where
  pub is_map : IsNewMap m
  pub sound : AreSound (Layout.New m) listings
  pub held : HoldObjects nodes listings
  pub owned : AreOwners owners nodes (Layout.New m) (objects_of listings)
  pub there : Contains (objects_of listings) o
  pub number : number_of nodes o.path ≡ Some node

module _ (m : Map) (nodes : Nodes) (owners : List Owner) (listings : List Listing) (o : Object) (node : ℕ) (n : IsNodeOf m nodes owners listings o node) where
  abbrev objects : List Object
  objects = objects_of listings

  abbrev as_owner : Object → Owner
  as_owner = owner_of nodes (Layout.New m)

  abbrev own_id : ℕ
  own_id = id_of o.entry.address

  abbrev first : ℕ
  first = low_start m (low_of o.entry.address)

  pub good : IsGeometry m.geometry
  good = let r = n.is_map.of_record in subst IsGeometry r.1.1 (geometry_of_valid r.0 r.1.0)

  pub zones : 1 ≤ m.geometry.zones
  zones = (geometry_facts m.geometry n.is_map.of_record).zones

  pub placed : (p : Object) → Contains objects p → IsAt (Layout.New m) p
  placed p at =
      (Each-contains (Lies (Layout.New m) n.sound.reserved) objects p
      (Each-objects (Lies (Layout.New m) n.sound.reserved) listings (walk_lies n.sound.read (Layout.New m) n.sound.reserved n.sound.address n.sound.size listings n.sound.walked)) at).placed

  number_is : (p : Object) → Contains objects p → number_of nodes p.path ≡ Some (as_owner p).node
  number_is p at = let h = (n.held.each p at).at_path in h ∙ ap (λ (r : Option ℕ). let s : Option ℕ = Some (unwrap_or r 0) in s) (sym h)

  -- the node's object, or none of its sectors
  module _ (bytes : ℕ) (sectors : List ℕ) (some : 0 < div_ceil bytes m.geometry.sector) (row : IsRow m o.entry.address bytes sectors) where
    abbrev need : ℕ
    need = div_ceil bytes m.geometry.sector

    in_row : (s : ℕ) → is_among sectors s ≡ true → is_among (id_sectors m own_id) s ≡ true
    in_row s h = in_part need first (id_sectors m own_id) s (subst (λ (xs : List ℕ). is_among xs s ≡ true) row.is h)
      where
        in_part : (k from : ℕ) (xs : List ℕ) (s : ℕ) → is_among (take k (drop from xs)) s ≡ true → is_among xs s ≡ true
        in_part zero zero [] s h = h
        in_part zero zero (x ∷ xs) s h = absurd (cc)
        in_part (suc k) zero [] s h = h
        in_part (suc k) zero (x ∷ xs) s h = by (x == s) h (in_part k zero xs s)
          where
            by : (b : Bool) → (b || is_among (take k xs) s) ≡ true → (is_among (take k xs) s ≡ true → is_among xs s ≡ true) → (b || is_among xs s) ≡ true
            by true h more = refl
            by false h more = more h
        in_part zero (suc from) [] s h = absurd (cc)
        in_part (suc k) (suc from) [] s h = absurd (cc)
        in_part k (suc from) (x ∷ xs) s h = ap (λ (b : Bool). (x == s) || b) (in_part k from xs s h) ∙ or_true (x == s)

    one_apart : (p : Object) → Contains objects p → is_apart sectors p.sectors ≡ leaves_free own_id first need (as_owner p)
    one_apart p at = by ((as_owner p).id == own_id) refl
      where
        by : (b : Bool) → ((as_owner p).id == own_id) ≡ b
            → is_apart sectors p.sectors ≡ (not b || (nat_le (first + need) (as_owner p).first || (nat_le ((as_owner p).first + (as_owner p).sectors) first || ((as_owner p).sectors == 0))))
        by true e =
            let same : (as_owner p).id ≡ own_id = eqb-true (as_owner p).id own_id e in
            ap₂ (λ (xs ys : List ℕ). is_apart xs ys) row.is
            (sym (own_part m p (placed p at)) ∙ ap (λ (k : ℕ). take (as_owner p).sectors (drop (as_owner p).first (id_sectors m k))) same)
            ∙ apart_by_places (id_sectors m own_id) (id_Distinct m good n.is_map.right zones own_id) first need (as_owner p).first (as_owner p).sectors some row.fits
        by false e =
            apart_is sectors p.sectors
            ∙ ap not (meets_no sectors p.sectors (λ s i j.
            clash ((as_owner p).id == own_id)
            (eq-eqb (as_owner p).id own_id (one_id m good n.is_map.right zones (as_owner p).id own_id s (in_id m p.entry.address _ p.sectors s (placed p at) j) (in_row s i))) e))

    each : (p : Object) → Contains objects p
        → (is_same_path p.path o.path || is_apart sectors p.sectors) ≡ (not (has_sectors p) || leaves_free_for node own_id first need (as_owner p))
    each p at = by (has_sectors p) refl
      where
        by : (b : Bool) → has_sectors p ≡ b → (is_same_path p.path o.path || is_apart sectors p.sectors) ≡ (not b || leaves_free_for node own_id first need (as_owner p))
        by true e = ap₂ (λ (a b : Bool). a || b) (sym (dirs_same nodes p.path o.path (as_owner p).node node (number_is p at) n.number)) (one_apart p at)
        by false e =
            ap (λ (b : Bool). is_same_path p.path o.path || b) (ap (is_apart sectors) (none_in p.sectors e) ∙ apart_none sectors) ∙ or_true (is_same_path p.path o.path)

    all_free : is_apart sectors (sectors_of_others objects o) ≡ others_leave_free owners node own_id first need
    all_free =
        all_apart sectors (λ p. is_same_path p.path o.path) objects
        ∙ all_same (λ p. is_same_path p.path o.path || is_apart sectors p.sectors) (λ p. not (has_sectors p) || leaves_free_for node own_id first need (as_owner p)) objects each
        ∙ sym (list_all-IsPermutation (leaves_free_for node own_id first need) owners (map as_owner (filter has_sectors objects)) n.owned ∙ all_owner (leaves_free_for node own_id first need) as_owner objects)

  pub room_is : (bytes : ℕ) → 0 < bytes → has_room (Layout.New m) objects (o, bytes) ≡ has_room_by m owners node o.entry.address bytes
  room_is bytes more = ap (λ (b : Bool). not (own_id == 2) && b) (by (new_sectors m o.entry.address bytes) refl)
    where
      some : 0 < div_ceil bytes m.geometry.sector
      some = some_sectors m bytes n.is_map (λ e. omega (arith, e, more))

      by : (q : Option (List ℕ)) → new_sectors m o.entry.address bytes ≡ q
          → option_map_or (λ sectors. is_apart sectors (sectors_of_others objects o)) q false ≡ (is_some q && others_leave_free owners node own_id first (div_ceil bytes m.geometry.sector))
      by None e = refl
      by (Some sectors) e = all_free bytes sectors some (row_of m o.entry.address bytes sectors some e)

  -- ---- alone

  abbrev stay : List Object
  stay = remove objects n.there.0

  pub order : IsPermutation objects (o ∷ stay)
  order = IsPermutation-remove objects n.there.0 o n.there.1 (sym n.there.2)

  one_owns : has_sectors o ≡ true → 1 ≤ owner_count objects own_id
  one_owns some =
      let own : is_owner_of own_id o ≡ true = ap₂ (λ (a b : Bool). a && b) some (eq-eqb own_id own_id refl) in
      let at = in_filter (is_owner_of own_id) objects o n.there own in
      long (filter (is_owner_of own_id) objects) at.0 at.1
    where
      long : (xs : List Object) (k : ℕ) → k < length xs → 1 ≤ length xs + (let c : ℕ = cond (own_id == 2) 1 0 in c)
      long xs k low = omega (arith, low)

  pub alone_is : has_sectors o ≡ true → is_alone objects o ≡ is_alone_by owners node o.entry.address
  alone_is some =
      ap (λ (b : Bool). b && nat_le (low_of o.entry.address) 1)
      (count_is (owner_count objects own_id) (one_owns some) _ (shared_is m objects stay o order some)
      ∙ not_or (own_id == 2) (list_any (is_owner_of own_id) stay)
      ∙ ap (λ (b : Bool). not (own_id == 2) && not b) (sym (others_are m nodes listings owners o stay node n.sound n.held n.owned n.number order own_id)))
    where
      not_or : (a b : Bool) → not (a || b) ≡ (not a && not b)
      not_or true b = refl
      not_or false b = refl

      count_is : (k : ℕ) → 1 ≤ k → (b : Bool) → b ≡ nat_lt 1 k → (k == 1) ≡ not b
      count_is k low true e = let more = ltb-true 1 k (sym e) in ne_eqb k 1 (λ is. omega (arith, is, more))
      count_is k low false e = eq-eqb k 1 (one k low (sym e))
        where
          one : (j : ℕ) → 1 ≤ j → nat_lt 1 j ≡ false → j ≡ 1
          one zero low e = absurd (omega (arith, low))
          one (suc zero) low e = refl
          one (suc (suc j)) low e = absurd (clash (nat_lt 1 (suc (suc j))) (lt-ltb 1 (suc (suc j)) (omega arith)) e)
