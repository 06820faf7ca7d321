-- An image whose map is edited, and lost identifiers with it, opens as before.
use Rattle.std.proofs.Common.{◌≡◌, ◌<◌, ◌≤◌, inl, inr, ℕ, zero, suc, ◌+◌, ◌*◌, ◌/◌, ◌%◌, Bool, true, false, cond, List, [], ◌∷◌, ◌++◌, length, take, drop, map, refl, sym, ap, ap₂, subst, ◌∙◌, arith, Some, None, eq-eqb}
use Rattle.std.specs.Prelude.{Result, Ok, Err, Contains, filter, min, nat_le, not, ◌==◌, ◌||◌, ◌&&◌}
use Rattle.std.specs.List.{flat_map, list_any, zip}
use Rattle.std.specs.Int.{div_ceil}
use Rattle.std.proofs.lemmas.Bool.{cases_eq, cases_lt, leb-true, lt-ltb, ne_eqb, false_from_ne_true as unless}
use Rattle.std.proofs.lemmas.List.{length-take-le}
use Rattle.std.proofs.Math.Nat.{mod-add-div}
use Rattle.fc_device.specs.Sectors.{sector_at}
use Rattle.fc_record.specs.declared.DiscRecord.{DiscRecord}
use Rattle.fc_record.specs.declared.Geometry.{Geometry}
use Rattle.fc_record.specs.declared.Kind.{Kind}
use Rattle.fc_record.specs.declared.Kind.TheVariants.{Boot, OneZone, DiscD, DiscL}
use Rattle.fc_record.specs.Record.{geometry}
use Rattle.fc_record.specs.Kinds.{disc_size, fits_kind}
use Rattle.fc_newmap.specs.Map.{Map, first_fault, id_runs, map_sectors, zone_numbers}
use Rattle.fc_newmap.proofs.MapLemmas.{no_fault_of_map}
use Rattle.fc_newmap.proofs.PlaceLemmas.{in_back, in_either, in_front, in_range}
use Rattle.fc_newmap.specs.Copies.{ChangesCopies, Chooses}
use Rattle.fc_names.specs.Names.{Path}
use Rattle.fc_dirs.specs.declared.Entry.{Entry}
use Rattle.fc_dirs.specs.Directory.{directory_of, directory_size, entries_of}
use Rattle.fc_image.specs.Layout.{Layout, dir_form, disc_sectors, first_part, id_of, id_sectors, is_among, is_object_id, low_of, low_start, sectors_at}
use Rattle.fc_image.specs.Walk.{Listing, Object, Reader, at_path, children_of, is_directory_object, listings_from, object_of, object_size, reader_of, root_entry, walk}
use Rattle.fc_image.specs.Objects.{first_object, is_lost, is_owner_of, objects_of}
use Rattle.fc_image.specs.declared.ImageFault.{ImageFault}
use Rattle.fc_image.specs.EditedImage.{HasMap}
use Rattle.fc_image.specs.Opening.{MapAndRoot, Opened, agreement, boot_place, difference, map_and_root, reserved_in}
use Rattle.fc_image.specs.Edits.{Apart, AreChildren, Follows, IsAt}
use Rattle.fc_image.specs.Stays.{HasSectorsOf, IsNewKind, OpensAs, stored_object, stored_objects}
use Rattle.fc_image.proofs.EditLemmas.{root_first, walk_form_law, ok_listings, children_there}
use Rattle.fc_image.proofs.FreeLemmas.{fits_same, object_same}
use Rattle.fc_image.proofs.HolesLemmas.{Each-contains, Each-objects, EachListed, Lies, Listed-contains, OpenMap, apart_at, apart_from, none_loose, walk_lies}
use Rattle.fc_image.proofs.MapEditLemmas.{places_law}
use Rattle.fc_image.proofs.KindLemmas.{boot_bytes}
use Rattle.fc_image.proofs.OneZoneLemmas.{zone_fits}
use Rattle.fc_image.proofs.OpenedLemmas.{edited_image_law, any_there as any_of}
use Rattle.fc_image.proofs.MoveLemmas.{found_kind, found_with, open_by, at_zones}
use Rattle.fc_image.proofs.WalkLemmas.{bind_ok, open_as-spelled, walk-Tells}
use Rattle.fc_reclaim.specs.Settled.{IsSettledEdit, SettledLaw, by_map}
use Rattle.fc_tree.proofs.EndLemmas.{some_up, some_first}

-- ---- walks that find the same

-- a walk finds no more directories than it has fuel
listings_short : (read : Reader) (layout : Layout) (fuel : ℕ) (taken : List ℕ) (waiting : List Object) (listings : List Listing)
    → listings_from read layout fuel taken waiting ≡ Ok listings → length listings ≤ fuel
unfolding listings_from
listings_short read layout zero taken [] listings e = (let h = ap (λ (ls : List Listing). length ls) (ok_listings [] listings e) in omega (arith, h))
listings_short read layout zero taken (o ∷ waiting) listings e = absurd (cc)
listings_short read layout (suc fuel) taken [] listings e = (let h = ap (λ (ls : List Listing). length ls) (ok_listings [] listings e) in omega (arith, h))
listings_short read layout (suc fuel) taken (o ∷ waiting) listings e =
    let a = bind_ok (at_path o.path (read o)) _ listings e in
    let b = bind_ok (children_of layout taken o.path (entries_of a.0)) _ listings a.2 in
    let d = bind_ok (listings_from read layout fuel b.0.1 (waiting ++ filter is_directory_object b.0.0)) _ listings b.2 in
    let rest = listings_short read layout fuel b.0.1 (waiting ++ filter is_directory_object b.0.0) d.0 d.1 in
    let first : Listing = record { object = o; content = a.0; children = b.0.0 } in
    let h = ap (λ (ls : List Listing). length ls) (ok_listings (first ∷ d.0) listings d.2) in
    omega (arith, h, rest)

walk_short : (read : Reader) (layout : Layout) (reserved : List ℕ) (address size : ℕ) (listings : List Listing)
    → walk read layout reserved address size ≡ Ok listings → length listings ≤ disc_sectors layout + 1
unfolding walk
walk_short read layout reserved address size listings e =
    let root = bind_ok (object_of layout reserved [] (root_entry address (directory_size (dir_form layout) size))) _ listings e in
    listings_short read layout (disc_sectors layout + 1) (root.0.sectors ++ reserved) (root.0 ∷ []) listings root.2

-- fewer sectors are taken at the start
apart_less : (taken taken' : List ℕ) (objects : List Object) → ((s : ℕ) → is_among taken' s ≡ true → is_among taken s ≡ true) → Apart taken objects → Apart taken' objects
apart_less taken taken' [] less a = tt
apart_less taken taken' (o ∷ objects) less a = (
  apart_from o.sectors taken' (λ s here there. let no = apart_at o.sectors taken s a.0 here in let yes = less s there in cc),
  apart_less (o.sectors ++ taken) (o.sectors ++ taken') objects
      (λ s h. elim (in_either o.sectors taken' s h) [
        | Ok own ↦ in_front o.sectors taken s own
        | Err other ↦ in_back o.sectors taken s (less s other)
      ]) a.1,
)

follows_there : (read read' : Reader) (layout layout' : Layout) (waiting : List Object) (listings : List Listing) → Follows read layout waiting listings
    → ((l : Listing) → Contains listings l → read' l.object ≡ Ok l.content) → ((l : Listing) → Contains listings l → (o : Object) → Contains l.children o → IsAt layout' o)
    → Follows read' layout' waiting listings
follows_there read read' layout layout' [] [] f tells at = tt
follows_there read read' layout layout' (o ∷ waiting) [] f tells at = absurd f
follows_there read read' layout layout' [] (l ∷ listings) f tells at = absurd f
follows_there read read' layout layout' (o ∷ waiting) (l ∷ listings) f tells at = (
  f.0,
  (tells l (0, omega arith, refl), children_there layout layout' l.object.path (entries_of l.content) l.children f.1.1 (at l (0, omega arith, refl))),
  follows_there read read' layout layout' (waiting ++ filter is_directory_object l.children) listings f.2
      (λ k c. tells k (suc c.0, omega (arith, c.1), c.2)) (λ k c. at k (suc c.0, omega (arith, c.1), c.2)),
)

-- an object that a listing holds is one of all objects
behind : {X : Type 0} (xs ys : List X) (x : X) → Contains ys x → Contains (xs ++ ys) x
behind [] ys x at = at
behind (y ∷ xs) ys x at = let r = behind xs ys x at in (suc r.0, omega (arith, r.1), r.2)

before : {X : Type 0} (xs ys : List X) (x : X) → Contains xs x → Contains (xs ++ ys) x
before [] ys x at = absurd (omega (arith, at.1))
before (y ∷ xs) ys x (zero, low, e) = (0, omega arith, e)
before (y ∷ xs) ys x (suc k, low, e) = let r = before xs ys x (k, omega (arith, low), e) in (suc r.0, omega (arith, r.1), r.2)

held_by : (listings : List Listing) (l : Listing) (o : Object) → Contains listings l → Contains l.children o → Contains (flat_map (λ (k : Listing). k.children) listings) o
held_by [] l o at child = absurd (omega (arith, at.1))
held_by (k ∷ listings) l o (zero, low, e) child = before k.children (flat_map (λ (j : Listing). j.children) listings) o (subst (λ (x : Listing). Contains x.children o) (sym e) child)
held_by (k ∷ listings) l o (suc i, low, e) child = behind k.children (flat_map (λ (j : Listing). j.children) listings) o (held_by listings l o (i, omega (arith, low), e) child)

pub child_in : (listings : List Listing) (l : Listing) (o : Object) → Contains listings l → Contains l.children o → Contains (objects_of listings) o
child_in listings l o at child = behind (first_object listings) (flat_map (λ (k : Listing). k.children) listings) o (held_by listings l o at child)

-- Another walk finds the same directories, if each object is at its place by its layout and its reader tells each directory. Fewer
-- sectors may be reserved.
module _ (read read' : Reader) (layout layout' : Layout) (reserved reserved' : List ℕ) (address size : ℕ) (listings : List Listing)
    (form : dir_form layout' ≡ dir_form layout) (disc : disc_sectors layout' ≡ disc_sectors layout) (less : (s : ℕ) → is_among reserved' s ≡ true → is_among reserved s ≡ true)
    (at : (o : Object) → Contains (objects_of listings) o → IsAt layout' o) (tells : (l : Listing) → Contains listings l → read' l.object ≡ Ok l.content)
    (walked : walk read layout reserved address size ≡ Ok listings) where
  pub walked_there : walk read' layout' reserved' address size ≡ Ok listings
  walked_there =
      let had = walk_form_law.gives read layout reserved address size listings walked in
      let objects = root_first read layout had.0 reserved listings had.2 in
      let root : Contains (objects_of listings) had.0 = subst (λ (os : List Object). Contains os had.0) (sym objects) (0, omega arith, refl) in
      walk_form_law.makes read' layout' reserved' address size had.0 listings
      (record { path = had.1.path; entry = had.1.entry ∙ ap (λ f. root_entry address (directory_size f size)) (sym form); placed = at had.0 root })
      (follows_there read read' layout layout' (had.0 ∷ []) listings had.2 tells (λ l c o i. at o (child_in listings l o c i)))
      (apart_less reserved reserved' (objects_of listings) less had.3)
      (subst (λ (n : ℕ). length listings ≤ n + 1) (sym disc) (walk_short read layout reserved address size listings walked))

-- ---- objects at their places

has_some : (m : Map) (address bytes : ℕ) (sectors : List ℕ) → 0 < bytes → sectors_at (Layout.New m) address bytes ≡ Some sectors → 0 < length sectors
unfolding sectors_at
has_some m address bytes sectors some e = by (bytes == 0) (is_object_id m (id_of address)) (ne_eqb bytes 0 (λ z. omega (arith, z, some))) e
  where
    by : (b i : Bool) → b ≡ false
        → cond b (Some []) (cond i (first_part (div_ceil bytes m.geometry.sector) (drop (low_start m (low_of address)) (id_sectors m (id_of address)))) None) ≡ Some sectors → 0 < length sectors
    by true i h f = absurd (cc)
    by false true h f = some_first (div_ceil bytes m.geometry.sector) (drop (low_start m (low_of address)) (id_sectors m (id_of address))) sectors (some_up bytes m.geometry.sector some) f
    by false false h f = absurd (cc)

-- the identifier of an object with bytes isn't lost
owned_id : (m : Map) (objects : List Object) (o : Object) → Contains objects o → IsAt (Layout.New m) o → 0 < object_size (dir_form (Layout.New m)) o.entry → is_lost objects (id_of o.entry.address) ≡ false
owned_id m objects o at placed some =
    let id = id_of o.entry.address in
    let long = has_some m o.entry.address (object_size (dir_form (Layout.New m)) o.entry) o.sectors some placed in
    let owner : is_owner_of id o ≡ true = ap₂ (λ (a b : Bool). a && b) (lt-ltb 0 (length o.sectors) long) (eq-eqb id id refl) in
    by (id == 2) (list_any (is_owner_of id) objects) (any_of (is_owner_of id) objects o at owner)
  where
    by : (a b : Bool) → b ≡ true → (not (a || b) && not (id_of o.entry.address == 1) && not a) ≡ false
    by true b e = refl
    by false true e = refl
    by false false e = absurd (cc)

-- If each identifier that isn't lost keeps its runs, each object keeps its place.
pub places_kept : (m m' : Map) (objects : List Object) → m'.geometry ≡ m.geometry → ((id : ℕ) → is_lost objects id ≡ false → id_runs m' id ≡ id_runs m id)
    → (o : Object) → Contains objects o → IsAt (Layout.New m) o → IsAt (Layout.New m') o
places_kept m m' objects geometry owned o at placed =
    places_law m m' o geometry
    (elim (cases_eq (object_size (dir_form (Layout.New m)) o.entry) 0) [
      | inl none ↦ inl none
      | inr some ↦ inr (owned (id_of o.entry.address) (owned_id m objects o at placed (positive (object_size (dir_form (Layout.New m)) o.entry) some)))
    ]) placed
  where
    positive : (n : ℕ) → (n ≡ 0 → ⊥) → 0 < n
    positive zero never = absurd (never refl)
    positive (suc n) never = omega arith

-- ---- the image

-- a sector that isn't the map's has its bytes
pub beside_map : (g : Geometry) (image other : List ℕ) → ChangesCopies g image other → (s : ℕ) → is_among (map_sectors g) s ≡ false → sector_at g.sector other s ≡ sector_at g.sector image s
beside_map g image other frame s out = frame.outside s (elim (cases_lt s g.map_sector) [
  | inl before ↦ inl before
  | inr from ↦ elim (cases_lt s (g.map_sector + 2 * g.zones)) [
    | inl inside ↦ absurd (let t = in_range g.map_sector (2 * g.zones) s from inside in cc)
    | inr behind ↦ inr behind
  ]
])

-- the kind's own test is passed: no sector of a boot block is the map's
fits : (image other : List ℕ) (kind : Kind) (r : DiscRecord) (v : Opened) (m : Map) (found : MapAndRoot) → IsNewKind kind r → OpenMap image kind r v m → ChangesCopies m.geometry image other
    → disc_size kind ≤ length other → map_and_root other kind ≡ Ok found → fits_kind other kind ≡ true
fits image other (Boot s) r v m found new o frame long e =
    let same : HasSectorsOf m.geometry.sector (boot_place (Boot s) m.geometry.sector) image other =
    λ t i. beside_map m.geometry image other frame t (none_loose (map_sectors m.geometry) (boot_place (Boot s) m.geometry.sector) o.apart t i) in
    let same' : HasSectorsOf (geometry r).sector (boot_place (Boot s) (geometry r).sector) image other =
    subst (λ (g : Geometry). HasSectorsOf g.sector (boot_place (Boot s) g.sector) image other) o.geometry_is same in
    fits_same image other (Boot s) frame.same_length (boot_bytes s r.log2_sector image other o.facts.sector_low o.facts.sector_high same') ∙ o.fits
fits image other (OneZone s) r v m found new o frame long e = zone_fits other s found o.kind_right long e
fits image other DiscD r v m found new o frame long e = absurd new
fits image other (DiscL units) r v m found new o frame long e = absurd new

module _ (image other : List ℕ) (kind : Kind) (r : DiscRecord) (v : Opened) (m : Map) (zs : List (List ℕ)) (new : IsNewKind kind r) (opens : OpensAs image kind v) (o : OpenMap image kind r v m)
    (e : IsSettledEdit kind v m (at_zones m zs) image other) where
  abbrev m' : Map
  m' = at_zones m zs

  abbrev objects : List Object
  objects = objects_of v.listings

  abbrev reserved : List ℕ
  reserved = reserved_in kind (Layout.New m)

  lie : EachListed (Lies (Layout.New m) reserved) v.listings
  lie = walk_lies (reader_of image (Layout.New m)) (Layout.New m) reserved o.root o.size v.listings o.walked

  lies : (x : Object) → Contains objects x → Lies (Layout.New m) reserved x
  lies x c = Each-contains (Lies (Layout.New m) reserved) objects x (Each-objects (Lies (Layout.New m) reserved) v.listings lie) c

  -- an object's sectors aren't the map's
  bytes : (x : Object) → Lies (Layout.New m) reserved x → HasSectorsOf m.geometry.sector x.sectors image other
  bytes x at s i =
      beside_map m.geometry image other e.frame s
      (unless (is_among (map_sectors m.geometry) s)
      (λ h. let no' = apart_at x.sectors reserved s at.apart i in let yes' = in_front (map_sectors m.geometry) (boot_place kind m.geometry.sector) s h in cc))

  there : (h : HasMap image kind r v m) → map_and_root other kind ≡ Ok (Layout.New m', h.own.root, h.own.root_size)
  there h =
      let ch : Chooses (geometry r) zs other = subst (λ (g : Geometry). Chooses g zs other) o.geometry_is e.chosen_map in
      let right : first_fault (geometry r) (zip (zone_numbers (geometry r)) zs) ≡ None =
      subst (λ (g : Geometry). first_fault g (zip (zone_numbers g) zs) ≡ None) o.geometry_is (no_fault_of_map m' e.is_map) in
      let agreed = ap (λ (t : DiscRecord). agreement r t (difference r t)) e.record_stays ∙ h.agreed in
      found_kind other kind r _ new (found_with other r h.own ch.which zs zs ch.chosen_one ch.content refl agreed right)
      ∙ ap (λ (g : Geometry). let q : Result MapAndRoot ImageFault = Ok (Layout.New (record { geometry = g; zones = zs }), h.own.root, h.own.root_size) in q) (sym o.geometry_is)

  long : disc_size kind ≤ length other
  long = let same = e.frame.same_length in let was = o.long in omega (arith, same, was)

  stored_from : (list : List Object) → ((x : Object) → Contains list x → Contains objects x) → map (stored_object other (Layout.New m')) list ≡ map (stored_object image (Layout.New m)) list
  stored_from [] within = refl
  stored_from (x ∷ list) within =
      ap₂ (λ (y : Path × Entry × List ℕ) (ys : List (Path × Entry × List ℕ)). y ∷ ys)
      (ap (λ (bs : List ℕ). let y : Path × Entry × List ℕ = (x.path, x.entry, bs) in y) (object_same m.geometry.sector image other (Layout.New m) x refl (bytes x (lies x (within x (0, omega arith, refl))))))
      (stored_from list (λ y c. within y (suc c.0, omega (arith, c.1), c.2)))

  settled_core : OpensAs other kind (by_map kind v m') × (stored_objects other (by_map kind v m') ≡ stored_objects image v)
  settled_core =
      let h = edited_image_law.map image kind r v m new opens o.layout in
      let found = there h in
      let at : (x : Object) → Contains objects x → IsAt (Layout.New m') x = λ x c. places_kept m m' objects refl e.owned x c (lies x c).placed in
      let told = walk-Tells (reader_of image (Layout.New m)) (Layout.New m) reserved h.own.root h.own.root_size v.listings h.walked in
      let tells : (l : Listing) → Contains v.listings l → reader_of other (Layout.New m') l.object ≡ Ok l.content =
      λ l c. ap (directory_of (dir_form (Layout.New m))) (object_same m.geometry.sector image other (Layout.New m) l.object refl (bytes l.object (Listed-contains (Lies (Layout.New m) reserved) v.listings l lie c))) ∙ told l c in
      let walked = walked_there (reader_of image (Layout.New m)) (reader_of other (Layout.New m')) (Layout.New m) (Layout.New m') reserved reserved h.own.root h.own.root_size v.listings refl refl (λ s i. i)
      at tells h.walked in (
        record {
          kind_right = o.kind_right;
          opened = open_as-spelled other kind (Layout.New m') h.own.root h.own.root_size (reader_of other (Layout.New m')) v.listings
              (fits image other kind r v m _ new o e.frame long found) long found walked e.placed tells;
        },
        stored_from objects (λ x c. c) ∙ ap (λ (l : Layout). map (stored_object image l) objects) (sym o.layout),
      )

pub settled_law : SettledLaw
settled_law image other kind r v m m' new opens layout e =
    let back : at_zones m m'.zones ≡ m' = λ i. record { geometry = sym e.geometry_stays i; zones = m'.zones } in
    subst (λ (n : Map). OpensAs other kind (by_map kind v n) × (stored_objects other (by_map kind v n) ≡ stored_objects image v)) back
    (settled_core image other kind r v m m'.zones new opens (open_by image kind r v m new opens layout) (subst (λ (n : Map). IsSettledEdit kind v m n image other) (sym back) e))
