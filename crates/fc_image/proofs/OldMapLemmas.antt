-- What an opened image with an old map says of its holes and objects.
use Rattle.std.proofs.Common.{◌≡◌, ◌⊎◌, inl, inr, ℕ, ◌+◌, ◌*◌, ◌/◌, ◌%◌, Bool, true, false, cond, List, [], ◌∷◌, ◌++◌, length, length-append, refl, sym, ap, subst, ◌∙◌, arith, Some, None, Option}
use Rattle.std.specs.Prelude.{◌==◌, ◌||◌, ◌&&◌, nat_le, nat_lt, Result, Ok}
use Rattle.std.specs.List.{flat_map, filter, range_with_len}
use Rattle.std.specs.Int.{div_ceil}
use Rattle.std.proofs.lemmas.Bool.{eqb-true}
use Rattle.std.proofs.lemmas.List.Folds.{list_any-append}
use Rattle.std.proofs.lemmas.List.FromFn.{length-range_with_len}
use Rattle.fc_record.specs.declared.Kind.{Kind}
use Rattle.fc_record.specs.declared.Kind.TheVariants.{Boot, OneZone, DiscD, DiscL}
use Rattle.fc_oldmap.specs.Holes.{AreHoles}
use Rattle.fc_oldmap.specs.OldMap.{OldMapContent, map_units, free_space, free_end, is_free_end, hole_fault, stored_holes, wrong_hole}
use Rattle.fc_oldmap.proofs.ReadLemmas.{AreHoles-right}
use Rattle.fc_bytes.specs.Words.{u24_at}
use Rattle.fc_names.specs.Names.{Path}
use Rattle.fc_dirs.specs.declared.Entry.{Entry}
use Rattle.fc_dirs.specs.Directory.{entries_of}
use Rattle.fc_newmap.specs.Map.{Map}
use Rattle.fc_image.specs.declared.ImageFault.{ImageFault}
use Rattle.fc_image.specs.Layout.{Layout, dir_form, hole_sectors, is_among, map_place, sectors_at, old_sectors}
use Rattle.fc_image.specs.Walk.{Object, Listing, Reader, reader_of, object_size, is_directory_object}
use Rattle.fc_image.specs.Objects.{has_sectors, objects_of}
use Rattle.fc_image.specs.Opening.{Opened, MapAndRoot, map_and_root, reserved_in, holes_or}
use Rattle.fc_image.specs.Edits.{AreChildren, Follows, IsRoot}
use Rattle.fc_image.proofs.FreeLemmas.{parts_of}
use Rattle.fc_image.proofs.HolesLemmas.{Each, Each-append, Each-objects, Each-contains, Lies, apart_at, found_map, walk_lies}
use Rattle.fc_image.specs.OldMaps.{LiesOnOldMap, OldMapLaw}
use Rattle.fc_image.proofs.EditLemmas.{walk_gives}
use Rattle.fc_record.proofs.KindLemmas.{or_second as or_right}

-- ---- the map

-- a map that was found with its root
record IsOldMapAt (space : OldMapContent) (root : ℕ) : Type 0 where
  pub units : (space.sector_units ≡ 1) ⊎ (space.sector_units ≡ 4)
  pub holes : AreHoles space.disc_units space.sector_units (map_units space.sector_units) space.holes
  pub begins : root ≡ map_units space.sector_units

pub old_same : (x y : OldMapContent) → Layout.Old x ≡ Layout.Old y → x ≡ y
old_same x y e = cc

pub not_old : (m : Map) (space : OldMapContent) → Layout.New m ≡ Layout.Old space → ⊥
not_old m space e = cc

right_holes : (image : List ℕ) (units : ℕ) → hole_fault image units ≡ None → AreHoles (u24_at image 252) units (map_units units) (stored_holes image)
right_holes image units e = by (is_free_end (free_end image)) e
  where
    by : (b : Bool) → cond b (wrong_hole (u24_at image 252) units 0 (map_units units) (stored_holes image)) (Some (free_end image / 3)) ≡ None
        → AreHoles (u24_at image 252) units (map_units units) (stored_holes image)
    by true f = AreHoles-right (u24_at image 252) units 0 (map_units units) (stored_holes image) f
    by false f = absurd (cc)

old_found : (image : List ℕ) (units root : ℕ) (found : MapAndRoot) (space : OldMapContent) (fault : Option ℕ) → hole_fault image units ≡ fault
    → holes_or (Layout.Old (free_space image units), root, 0) fault ≡ Ok found → found.0 ≡ Layout.Old space
    → (units ≡ 1) ⊎ (units ≡ 4) → root ≡ map_units units → IsOldMapAt space found.1
old_found image units root found space None right e is of begins =
    let same = ok_same (Layout.Old (free_space image units), root, 0) found e in
    let place : root ≡ found.1 = ap (λ (f : MapAndRoot). f.1) same in
    subst (λ n. IsOldMapAt space n) place
    (subst (λ s. IsOldMapAt s root) (old_same (free_space image units) space (ap (λ (f : MapAndRoot). f.0) same ∙ is))
    (record { units = of; holes = right_holes image units right; begins = begins }))
  where
    ok_same : (x y : MapAndRoot) → (let r : Result MapAndRoot ImageFault = Ok x in r) ≡ Ok y → x ≡ y
    ok_same x y f = cc
old_found image units root found space (Some index) wrong e is of begins = absurd (cc)

old_disc : (image : List ℕ) (kind : Kind) (found : MapAndRoot) (space : OldMapContent) → map_and_root image kind ≡ Ok found
    → found.0 ≡ Layout.Old space → IsOldMapAt space found.1
old_disc image (Boot r) found space e is =
    let f = found_map image (Boot r) r found refl e in absurd (not_old _ space (ap (λ (x : MapAndRoot). x.0) f.is ∙ is))
old_disc image (OneZone r) found space e is =
    let f = found_map image (OneZone r) r found refl e in absurd (not_old _ space (ap (λ (x : MapAndRoot). x.0) f.is ∙ is))
old_disc image DiscD found space e is = old_found image 4 4 found space (hole_fault image 4) refl e is (inr refl) refl
old_disc image (DiscL n) found space e is = old_found image 1 2 found space (hole_fault image 1) refl e is (inl refl) refl

-- ---- the root alone has an empty path

abbrev IsDeep : Object → Type 0
IsDeep o = length o.path ≡ 0 → ⊥

deep_children : (layout : Layout) (path : Path) (entries : List Entry) (objects : List Object) → AreChildren layout path entries objects → Each IsDeep objects
deep_children layout path [] [] are = tt
deep_children layout path (e ∷ entries) [] are = tt
deep_children layout path [] (o ∷ objects) are = absurd are
deep_children layout path (e ∷ entries) (o ∷ objects) (at, is, placed, are) =
    (λ none. omega (arith, none, ap (λ (p : Path). length p) at, length-append path (e.name ∷ [])), deep_children layout path entries objects are)

deep_listed : (read : Reader) (layout : Layout) (waiting : List Object) (listings : List Listing) → Follows read layout waiting listings
    → Each IsDeep (flat_map (λ (l : Listing). l.children) listings)
deep_listed read layout waiting [] follows = tt
deep_listed read layout [] (l ∷ listings) follows = absurd follows
deep_listed read layout (o ∷ waiting) (l ∷ listings) (is, listed, follows) =
    Each-append IsDeep l.children (flat_map (λ (k : Listing). k.children) listings)
    (deep_children layout l.object.path (entries_of l.content) l.children listed.1)
    (deep_listed read layout (waiting ++ filter_directories l) listings follows)
  where
    filter_directories : Listing → List Object
    filter_directories k = filter is_directory_object k.children

abbrev RootAt : ℕ → Object → Type 0
RootAt address o = length o.path ≡ 0 → o.entry.address ≡ address

root_alone : (read : Reader) (layout : Layout) (address size : ℕ) (root : Object) (listings : List Listing) → IsRoot layout address size root
    → Follows read layout (root ∷ []) listings → Each (RootAt address) (objects_of listings)
root_alone read layout address size root [] is follows = tt
root_alone read layout address size root (l ∷ listings) is follows = (
  (λ none. ap (λ (o : Object). o.entry.address) follows.0 ∙ ap (λ (e : Entry). e.address) is.entry),
  weaker (flat_map (λ (k : Listing). k.children) (l ∷ listings)) (deep_listed read layout (root ∷ []) (l ∷ listings) follows),
)
  where
    weaker : (objects : List Object) → Each IsDeep objects → Each (RootAt address) objects
    weaker [] all = tt
    weaker (o ∷ objects) (deep, all) = ((λ none. absurd (deep none)), weaker objects all)

-- ---- an object

lies_old : (space : OldMapContent) (o : Object) → Lies (Layout.Old space) (map_place (Layout.Old space) ++ hole_sectors (Layout.Old space)) o
    → RootAt (map_units space.sector_units) o → has_sectors o ≡ true → LiesOnOldMap space o
unfolding sectors_at
lies_old space o lies root has =
    let at = row (size == 0) lies.placed in
    record {
      begins = at.0;
      row = at.1;
      apart = λ s there.
          or_right (is_among (map_place (Layout.Old space)) s) (is_among (hole_sectors (Layout.Old space)) s)
          (sym (list_any-append (λ t. t == s) (map_place (Layout.Old space)) (hole_sectors (Layout.Old space)))
          ∙ apart_at o.sectors (map_place (Layout.Old space) ++ hole_sectors (Layout.Old space)) s lies.apart there);
      root = root;
    }
  where
    size : ℕ
    size = object_size (dir_form (Layout.Old space)) o.entry

    u : ℕ
    u = space.sector_units

    first : ℕ
    first = o.entry.address / u

    count : ℕ
    count = div_ceil size (256 * u)

    some_same : (x y : List ℕ) → Some x ≡ Some y → x ≡ y
    some_same x y e = cc

    empty : [] ≡ o.sectors → ⊥
    empty e = none (ap (λ (l : List ℕ). nat_lt 0 (length l)) e ∙ has)
      where
        none : false ≡ true → ⊥
        none f = cc

    in_row : (b c : Bool) → (o.entry.address % u == 0) ≡ b → cond (b && c) (Some (range_with_len first count)) None ≡ Some o.sectors
        → (o.entry.address % u ≡ 0) × (o.sectors ≡ range_with_len first (length o.sectors))
    in_row true true e f =
        let same = some_same (range_with_len first count) o.sectors f in
        let long : count ≡ length o.sectors = sym (length-range_with_len first count) ∙ ap (λ (l : List ℕ). length l) same in
        (eqb-true (o.entry.address % u) 0 e, sym same ∙ ap (λ n. range_with_len first n) long)
    in_row true false e f = absurd (cc)
    in_row false c e f = absurd (cc)

    row : (b : Bool) → cond b (Some []) (old_sectors space o.entry.address size) ≡ Some o.sectors
        → (o.entry.address % u ≡ 0) × (o.sectors ≡ range_with_len first (length o.sectors))
    row true e = absurd (empty (some_same [] o.sectors e))
    row false e = in_row (o.entry.address % u == 0) (nat_le (first + count) (space.disc_units / u)) refl e

-- ---- the image

pub old_map_law : OldMapLaw
old_map_law image kind v space opens is =
    let parts = parts_of image kind v opens.opened in
    let found = parts.0 in
    let layout : found.0 ≡ Layout.Old space = ap (λ (w : Opened). w.layout) parts.1.4 ∙ is in
    let walked = parts.1.2 in
    let reserved = reserved_in kind found.0 in
    let disc = old_disc image kind found space parts.1.1 layout in
    let lies = Each-objects (Lies found.0 reserved) v.listings (walk_lies (reader_of image found.0) found.0 reserved found.1 found.2 v.listings walked) in
    let lies_here = subst (λ (l : Layout). Each (Lies l (reserved_in kind l)) (objects_of v.listings)) layout lies in
    let had = walk_gives (reader_of image found.0) found.0 reserved found.1 found.2 v.listings walked in
    let roots = root_alone (reader_of image found.0) found.0 found.1 found.2 had.0 v.listings had.1 had.2 in
    let roots_here = subst (λ n. Each (RootAt n) (objects_of v.listings)) disc.begins roots in
    record {
      units = disc.units;
      holes = disc.holes;
      objects_lie = λ o there has.
          lies_old space o
          (Each-contains (Lies (Layout.Old space) (reserved_in kind (Layout.Old space))) (objects_of v.listings) o lies_here there)
          (Each-contains (RootAt (map_units space.sector_units)) (objects_of v.listings) o roots_here there) has;
    }
