-- What a map and its owners tell of lost space is what the objects of an opened image tell.
use Rattle.std.proofs.Common.{◌≡◌, ◌≤◌, ◌⊎◌, ℕ, ◌+◌, ◌-◌, ◌*◌, ◌/◌, ◌==◌, ◌&&◌, ◌||◌, not, inl, inr, Bool, true, false, cond, List, [], ◌∷◌, ◌++◌, length, map, refl, sym, ap, subst, ◌∙◌, arith, Some, None, Option, Ok, Result, sum_by, count_by, filter}
use Rattle.std.specs.List.{list_any, range_with_len}
use Rattle.std.specs.Ordering.{nat_cmp}
use Rattle.std.specs.FinMap.{FinMap}
use Rattle.std.proofs.lemmas.Bool.{eqb-true, ltb-false, and_parts as both}
use Rattle.std.proofs.lemmas.List.Sums.{sum_by-cons}
use Rattle.std.proofs.lemmas.List.Sorted.{list_any-IsPermutation, sum_by-IsPermutation}
use Rattle.fc_record.specs.declared.Kind.{Kind}
use Rattle.fc_record.specs.declared.Kind.TheVariants.{Boot, OneZone, DiscD, DiscL}
use Rattle.fc_record.specs.Kinds.{IsKind, fits_kind, is_old_map, old_units}
use Rattle.fc_zone.specs.declared.RunKind.{RunKind}
use Rattle.fc_zone.specs.declared.RunKind.TheVariants as kinds
use Rattle.fc_oldmap.specs.Holes.{AreHoles, hole_sum}
use Rattle.fc_oldmap.specs.OldMap.{OldMapContent, free_end, free_space, hole_fault, is_free_end, map_units, stored_holes, wrong_hole}
use Rattle.fc_oldmap.proofs.ReadLemmas.{AreHoles-right}
use Rattle.fc_newmap.specs.Map.{Map, ZoneRun, all_runs, bits_in}
use Rattle.fc_alloc.specs.declared.owner.Owner.{Owner}
use Rattle.fc_alloc.specs.Owners.{is_id_owned, owns}
use Rattle.fc_image.specs.declared.ImageFault.{ImageFault}
use Rattle.fc_image.specs.Layout.{Layout, disc_sectors, hole_sectors, id_of, map_place, sector_bytes}
use Rattle.fc_image.specs.Walk.{Object, reader_of}
use Rattle.fc_image.specs.Objects.{has_sectors, is_owner_of, objects_of}
use Rattle.fc_image.specs.Opening.{MapAndRoot, Opened, holes_or, map_and_root, reserved_in}
use Rattle.fc_image.specs.Report.{is_lost_run, is_lost_sector, lost_bytes}
use Rattle.fc_image.specs.Stays.{OpensAs}
use Rattle.fc_image.specs.Edits.{Apart, IsAt as IsPlaced}
use Rattle.fc_image.proofs.FreeLemmas.{parts_of}
use Rattle.fc_image.proofs.HolesLemmas.{Each, Each-objects, Lies, found_map, walk_lies}
use Rattle.fc_image.proofs.EditLemmas.{walk_gives}
use Rattle.fc_tree.specs.declared.node.Node.{Node}
use Rattle.fc_tree.specs.Parts.{AreOwners, owner_of}
use Rattle.fc_check.specs.Space.{bytes_lost_to, is_lost_kind, left_sectors}
use Rattle.fc_check.proofs.LostLemmas.{lost_left}
use Rattle.fc_check.proofs.SumLemmas.{left_sum}
use Rattle.fc_image.proofs.OldMapLemmas.{old_same, not_old}

-- ---- owners and objects

module _ (nodes : FinMap nat_cmp Node) (layout : Layout) where
  owned_of : (id : ℕ) (objects : List Object) → list_any (owns id) (map (owner_of nodes layout) (filter has_sectors objects)) ≡ list_any (is_owner_of id) objects
  owned_of id [] = refl
  owned_of id (o ∷ objects) = by (has_sectors o) (owned_of id objects)
    where
      by : (b : Bool) → list_any (owns id) (map (owner_of nodes layout) (filter has_sectors objects)) ≡ list_any (is_owner_of id) objects
          → list_any (owns id) (map (owner_of nodes layout) (cond b (o ∷ filter has_sectors objects) (filter has_sectors objects)))
          ≡ ((b && (id_of o.entry.address == id)) || list_any (is_owner_of id) objects)
      by true rest = ap (λ c. (id_of o.entry.address == id) || c) rest
      by false rest = rest

  sectors_of_all : (objects : List Object) → sum_by (λ o. o.sectors) (map (owner_of nodes layout) (filter has_sectors objects)) ≡ sum_by (λ o. length o.sectors) objects
  sectors_of_all [] = refl
  sectors_of_all (o ∷ objects) = by (has_sectors o) refl (sectors_of_all objects)
    where
      rest_of : List Owner
      rest_of = map (owner_of nodes layout) (filter has_sectors objects)

      all : sum_by (λ (p : Object). length p.sectors) (o ∷ objects) ≡ length o.sectors + sum_by (λ (p : Object). length p.sectors) objects
      all = sum_by-cons (λ (p : Object). length p.sectors) o objects

      by : (b : Bool) → has_sectors o ≡ b → sum_by (λ (p : Owner). p.sectors) rest_of ≡ sum_by (λ (p : Object). length p.sectors) objects
          → sum_by (λ (p : Owner). p.sectors) (map (owner_of nodes layout) (cond b (o ∷ filter has_sectors objects) (filter has_sectors objects)))
          ≡ sum_by (λ (p : Object). length p.sectors) (o ∷ objects)
      by true e rest = let first = sum_by-cons (λ (p : Owner). p.sectors) (owner_of nodes layout o) rest_of in omega (arith, first, all, rest)
      by false e rest = let none = ltb-false 0 (length o.sectors) e in omega (arith, none, all, rest)

  module _ (owners : List Owner) (objects : List Object) (are : AreOwners owners nodes layout objects) where
    owned_same : (id : ℕ) → is_id_owned owners id ≡ list_any (is_owner_of id) objects
    owned_same id = list_any-IsPermutation (owns id) owners (map (owner_of nodes layout) (filter has_sectors objects)) are ∙ owned_of id objects

    sectors_same : sum_by (λ o. o.sectors) owners ≡ sum_by (λ o. length o.sectors) objects
    sectors_same = sym (sum_by-IsPermutation (λ (p : Owner). p.sectors) owners (map (owner_of nodes layout) (filter has_sectors objects)) are) ∙ sectors_of_all objects

    lost_same : (kind : RunKind) → is_lost_kind owners kind ≡ is_lost_run objects kind
    lost_same kinds.Hole = refl
    lost_same (kinds.Id id) =
        ap (λ b. not (id == 1) && not (id == 2) && not b) (owned_same id)
        ∙ turned (id == 1) (id == 2) (list_any (is_owner_of id) objects)
      where
        turned : (one two any : Bool) → (not one && not two && not any) ≡ (not (two || any) && not one && not two)
        turned true true any = refl
        turned true false true = refl
        turned true false false = refl
        turned false true any = refl
        turned false false true = refl
        turned false false false = refl

    new_lost : (m : Map) → bytes_lost_to (Layout.New m) owners ≡ lost_bytes (Layout.New m) objects
    new_lost m = ap (λ (t : ZoneRun → Bool). bits_in (filter t (all_runs m)) * m.geometry.bit_bytes) (λ k p. lost_same p.1.kind k)

-- ---- old maps

record IsOldDisc (space : OldMapContent) : Type 0 where
  pub units : (space.sector_units ≡ 1) ⊎ (space.sector_units ≡ 4)
  pub holes : AreHoles space.disc_units space.sector_units (map_units space.sector_units) space.holes
  pub room : map_units space.sector_units ≤ space.disc_units

right_holes : (image : List ℕ) (units : ℕ) → hole_fault image units ≡ None → AreHoles (old_units image) units (map_units units) (stored_holes image)
right_holes image units e = by (is_free_end (free_end image)) e
  where
    by : (b : Bool) → cond b (wrong_hole (old_units image) units 0 (map_units units) (stored_holes image)) (Some (free_end image / 3)) ≡ None
        → AreHoles (old_units image) units (map_units units) (stored_holes image)
    by true f = AreHoles-right (old_units image) units 0 (map_units units) (stored_holes image) f
    by false f = absurd (cc)

old_found : (image : List ℕ) (units root : ℕ) (found : MapAndRoot) (space : OldMapContent) (fault : Option ℕ) → hole_fault image units ≡ fault
    → holes_or (Layout.Old (free_space image units), root, 0) fault ≡ Ok found → found.0 ≡ Layout.Old space
    → (units ≡ 1) ⊎ (units ≡ 4) → map_units units ≤ old_units image → IsOldDisc space
old_found image units root found space None right e is of room =
    subst IsOldDisc (old_same (free_space image units) space (ap (λ (f : MapAndRoot). f.0) (ok_same (Layout.Old (free_space image units), root, 0) found e) ∙ is))
    (record { units = of; holes = right_holes image units right; room = room })
  where
    ok_same : (x y : MapAndRoot) → (let r : Result MapAndRoot ImageFault = Ok x in r) ≡ Ok y → x ≡ y
    ok_same x y f = cc
old_found image units root found space (Some index) wrong e is of room = absurd (cc)

old_disc : (image : List ℕ) (kind : Kind) (found : MapAndRoot) (space : OldMapContent) → IsKind kind → fits_kind image kind ≡ true → map_and_root image kind ≡ Ok found
    → found.0 ≡ Layout.Old space → IsOldDisc space
old_disc image (Boot r) found space right fits e is =
    let f = found_map image (Boot r) r found refl e in absurd (not_old _ space (ap (λ (x : MapAndRoot). x.0) f.is ∙ is))
old_disc image (OneZone r) found space right fits e is =
    let f = found_map image (OneZone r) r found refl e in absurd (not_old _ space (ap (λ (x : MapAndRoot). x.0) f.is ∙ is))
old_disc image DiscD found space right fits e is =
    let units = eqb-true (old_units image) 3200 (both (is_old_map image) (old_units image == 3200) fits).1 in
    old_found image 4 4 found space (hole_fault image 4) refl e is (inr refl) (omega (arith, units))
old_disc image (DiscL n) found space right fits e is =
    let units = eqb-true (old_units image) n (both _ (old_units image == n) fits).1 in
    old_found image 1 2 found space (hole_fault image 1) refl e is (inl refl) (omega (arith, units, right.0))

each_placed : (layout : Layout) (reserved : List ℕ) (objects : List Object) → Each (Lies layout reserved) objects → Each (IsPlaced layout) objects
each_placed layout reserved [] a = tt
each_placed layout reserved (o ∷ objects) a = (a.0.placed, each_placed layout reserved objects a.1)

old_lost : (space : OldMapContent) (nodes : FinMap nat_cmp Node) (owners : List Owner) (objects : List Object) → AreOwners owners nodes (Layout.Old space) objects → IsOldDisc space
    → Each (IsPlaced (Layout.Old space)) objects → Apart (map_place (Layout.Old space) ++ hole_sectors (Layout.Old space)) objects
    → bytes_lost_to (Layout.Old space) owners ≡ lost_bytes (Layout.Old space) objects
old_lost space nodes owners objects are is placed apart =
    let left = lost_left space objects is.units is.holes is.room placed apart in
    let sectors = sectors_same nodes (Layout.Old space) owners objects are in
    let n = space.disc_units / space.sector_units - map_units space.sector_units / space.sector_units - hole_sum space.holes / space.sector_units in
    let taken = left_sum n owners in
    let same : left_sectors space owners ≡ count_by (is_lost_sector (Layout.Old space) objects) (range_with_len 0 (disc_sectors (Layout.Old space))) = omega (arith, left, sectors, taken) in
    ap (λ (k : ℕ). k * sector_bytes (Layout.Old space)) same

-- ---- opened images

pub lost_of_opened : (image : List ℕ) (kind : Kind) (v : Opened) (nodes : FinMap nat_cmp Node) (owners : List Owner) → OpensAs image kind v
    → AreOwners owners nodes v.layout (objects_of v.listings) → bytes_lost_to v.layout owners ≡ lost_bytes v.layout (objects_of v.listings)
lost_of_opened image kind v nodes owners opens are = by v.layout refl are
  where
    by : (layout : Layout) → v.layout ≡ layout → AreOwners owners nodes layout (objects_of v.listings) → bytes_lost_to layout owners ≡ lost_bytes layout (objects_of v.listings)
    by (Layout.New m) e of = new_lost nodes (Layout.New m) owners (objects_of v.listings) of m
    by (Layout.Old space) e of =
        let parts = parts_of image kind v opens.opened in
        let found = parts.0 in
        let layout : found.0 ≡ Layout.Old space = ap (λ (w : Opened). w.layout) parts.1.4 ∙ e in
        let walked = parts.1.2 in
        let reserved = reserved_in kind found.0 in
        let lies = each_placed found.0 reserved (objects_of v.listings)
        (Each-objects (Lies found.0 reserved) v.listings (walk_lies (reader_of image found.0) found.0 reserved found.1 found.2 v.listings walked)) in
        let had = walk_gives (reader_of image found.0) found.0 reserved found.1 found.2 v.listings walked in
        old_lost space nodes owners (objects_of v.listings) of (old_disc image kind found space opens.kind_right parts.1.5 parts.1.1 layout)
        (subst (λ (l : Layout). Each (IsPlaced l) (objects_of v.listings)) layout lies)
        (subst (λ (l : Layout). Apart (reserved_in kind l) (objects_of v.listings)) layout had.3)
