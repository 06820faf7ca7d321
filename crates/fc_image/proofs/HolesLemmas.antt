-- The map of an opened image, and where its objects lie.
use Rattle.std.proofs.Common.{◌≡◌, ◌<◌, ◌≤◌, ℕ, zero, suc, ◌+◌, ◌*◌, Bool, true, false, cond, List, [], ◌∷◌, ◌++◌, length, map, refl, sym, ap, subst, ◌∙◌, arith, Some, None, Option, take, drop}
use Rattle.std.proofs.Math.Nat.{mul-le-mul_right}
use Rattle.std.specs.Prelude.{Result, Ok, Err, Contains, filter, nat_le, ◌==◌, ◌||◌, slice_index_or, is_none}
use Rattle.std.specs.List.{flat_map, range_with_len, list_any, zip}
use Rattle.std.specs.Int.{div_ceil}
use Rattle.std.proofs.lemmas.Bool.{eqb-true, false_from_ne_true as unless}
use Rattle.std.proofs.lemmas.List.{length-take, length-drop, length-map}
use Rattle.std.proofs.lemmas.List.FromFn.{length-range_with_len}
use Rattle.fc_device.specs.Sectors.{sector_at}
use Rattle.fc_record.specs.declared.DiscRecord.{DiscRecord}
use Rattle.fc_record.specs.declared.Geometry.{Geometry}
use Rattle.fc_record.specs.declared.Kind.{Kind}
use Rattle.fc_record.specs.declared.Kind.TheVariants.{Boot, OneZone, DiscD, DiscL}
use Rattle.fc_record.specs.Record.{geometry, record_fault, is_valid}
use Rattle.fc_record.specs.Kinds.{disc_size, map_record, fits_kind, IsKind}
use Rattle.fc_zone.specs.declared.ZoneFault.{ZoneFault}
use Rattle.fc_zone.specs.declared.RunKind.{RunKind}
use Rattle.fc_zone.specs.declared.RunKind.TheVariants as kinds
use Rattle.fc_newmap.specs.Map.{Map, ZoneRun, IsMap, first_fault, zone_numbers, map_sectors, all_runs, hole_runs, id_runs, sectors_of, has_id, is_hole}
use Rattle.fc_newmap.specs.RunsLaw.{IsGeometry, HasZones}
use Rattle.fc_newmap.proofs.RunsLemmas.{runs_apart}
use Rattle.fc_newmap.proofs.GeometryLemmas.{ValidFacts, facts_of_valid, geometry_of_valid, zone_within}
use Rattle.fc_newmap.proofs.PlaceLemmas.{in_front, in_back, holder_of, held_in, filter_in, in_filter, id_run_in}
use Rattle.fc_newmap.proofs.MapLemmas.{zones_of_map, map_of_no_fault}
use Rattle.fc_newmap.specs.declared.copies.Which.{Which}
use Rattle.fc_newmap.specs.declared.copies.Which.TheVariants.{One, Two}
use Rattle.fc_newmap.specs.Copies.{chosen, copy_of, copy_start}
use Rattle.fc_names.specs.Names.{Path}
use Rattle.fc_dirs.specs.declared.Entry.{Entry}
use Rattle.fc_dirs.specs.Directory.{entries_of, directory_size}
use Rattle.fc_image.specs.declared.ImageFault.{ImageFault}
use Rattle.fc_image.specs.declared.ImageFault.TheVariants as faults
use Rattle.fc_image.specs.Layout.{Layout, dir_form, map_place, hole_sectors, id_of, low_of, low_start, first_part, id_sectors, is_object_id, sectors_at, is_among, is_apart}
use Rattle.fc_image.specs.Walk.{Object, Listing, Reader, reader_of, at_path, object_of, placed_on, children_of, is_directory_object, object_size, listings_from, root_entry, walk}
use Rattle.fc_image.specs.Objects.{objects_of, first_object}
use Rattle.fc_image.specs.Opening.{Opened, MapAndRoot, map_and_root, copy_or, agreement, difference, zones_or, reserved_in, boot_place, misplaced_sector, is_hole_or_movable, least_of}
use Rattle.fc_image.specs.Stays.{IsNewKind, OpensAs, HolesLaw, HoleWriteLaw, HasSectorsOf, SameOutsideHoles}
use Rattle.fc_image.specs.Moves.{BootApartLaw}
use Rattle.fc_image.proofs.WalkLemmas.{bind_ok}
use Rattle.fc_image.proofs.KindLemmas.{kind_place}
use Rattle.fc_image.proofs.FreeLemmas.{layout_by, layout_is, parts_of, among_here, free_opens, free_stored}
use Rattle.fc_image.specs.Edits.{IsAt as IsPlaced}

-- ---- the map that is found

pub record FoundMap (image : List ℕ) (r : DiscRecord) (found : MapAndRoot) : Type 0 where
  pub which : Which
  pub chosen_one : chosen (geometry r) image ≡ Ok which
  pub own : DiscRecord
  pub agreed : agreement r (map_record (slice_index_or (copy_of (geometry r) which image) 0 [])) (difference r (map_record (slice_index_or (copy_of (geometry r) which image) 0 []))) ≡ Ok own
  pub right : first_fault (geometry r) (zip (zone_numbers (geometry r)) (copy_of (geometry r) which image)) ≡ None
  pub is : (Layout.New (record { geometry = geometry r; zones = copy_of (geometry r) which image }), own.root, own.root_size) ≡ found

copy_is : (choice : Result Which (ℕ × ℕ)) (w : Which) → copy_or choice ≡ Ok w → choice ≡ Ok w
copy_is (Ok v) w e = ap (λ (x : Which). let q : Result Which (ℕ × ℕ) = Ok x in q) (cc)
copy_is (Err wrong) w e = absurd (cc)

zones_are : (g : Geometry) (zones : List (List ℕ)) (fault : Option ZoneFault) (m : Map) → zones_or g zones fault ≡ Ok m → (fault ≡ None) × (record { geometry = g; zones = zones } ≡ m)
zones_are g zones None m e = (refl, map_ok _ m e)
  where
    map_ok : (x y : Map) → (let r : Result Map ImageFault = Ok x in r) ≡ Ok y → x ≡ y
    map_ok x y h = cc
zones_are g zones (Some fault) m e = absurd (cc)

found_by : (image : List ℕ) (r : DiscRecord) (found : MapAndRoot) → layout_by r (chosen (geometry r) image) (λ w. copy_of (geometry r) w image) ≡ Ok found → FoundMap image r found
unfolding layout_by
found_by image r found e =
    let g = geometry r in
    let a = bind_ok (copy_or (chosen g image)) _ found e in
    let zones = copy_of g a.0 image in
    let b = bind_ok (agreement r (map_record (slice_index_or zones 0 [])) (difference r (map_record (slice_index_or zones 0 [])))) _ found a.2 in
    let d = bind_ok (zones_or g zones (first_fault g (zip (zone_numbers g) zones))) _ found b.2 in
    let f = zones_are g zones (first_fault g (zip (zone_numbers g) zones)) d.0 d.1 in
    record {
      which = a.0;
      chosen_one = copy_is (chosen g image) a.0 a.1;
      own = b.0;
      agreed = b.1;
      right = f.0;
      is = ap (λ (m : Map). let found' : MapAndRoot = (Layout.New m, b.0.root, b.0.root_size) in found') f.1 ∙ found_ok _ found d.2;
    }
  where
    found_ok : (x y : MapAndRoot) → (let q : Result MapAndRoot ImageFault = Ok x in q) ≡ Ok y → x ≡ y
    found_ok x y h = cc

pub found_map : (image : List ℕ) (kind : Kind) (r : DiscRecord) (found : MapAndRoot) → IsNewKind kind r → map_and_root image kind ≡ Ok found → FoundMap image r found
found_map image (Boot s) r found is e = subst (λ (t : DiscRecord). FoundMap image t found) is (found_by image s found (sym (layout_is image s) ∙ e))
found_map image (OneZone s) r found is e = subst (λ (t : DiscRecord). FoundMap image t found) is (found_by image s found (sym (layout_is image s) ∙ e))
found_map image DiscD r found is e = absurd is
found_map image (DiscL units) r found is e = absurd is

-- ---- its zones

length-copy : (g : Geometry) (w : Which) (image : List ℕ) → length (copy_of g w image) ≡ g.zones
length-copy g w image = length-map (range_with_len (copy_start g w) g.zones) (sector_at g.sector image) ∙ length-range_with_len (copy_start g w) g.zones

copy_at : (size : ℕ) (image : List ℕ) (from n z : ℕ) → z < n → slice_index_or (map (sector_at size image) (range_with_len from n)) z [] ≡ sector_at size image (from + z)
copy_at size image from zero z low = absurd (omega arith)
copy_at size image from (suc n) zero low = ap (sector_at size image) (let e : from ≡ from + zero = omega arith in e)
copy_at size image from (suc n) (suc z) low = copy_at size image (from + 1) n z (omega arith) ∙ ap (sector_at size image) (let e : from + 1 + z ≡ from + suc z = omega arith in e)

whole_sector : (size n s : ℕ) (image : List ℕ) → s + 1 ≤ n → n * size ≤ length image → length (sector_at size image s) ≡ size
unfolding sector_at
whole_sector size n s image low long =
    let d = length-drop (s * size) image in
    let t = length-take size (drop (s * size) image) in
    let m : (s + 1) * size ≤ n * size = mul-le-mul_right {m = s + 1} {n = n} size low in
    let e : (s + 1) * size ≡ s * size + size = omega arith in
    omega arith

start_low : (g : Geometry) (w : Which) → copy_start g w + g.zones ≤ g.map_sector + 2 * g.zones
start_low g One = omega arith
start_low g Two = omega arith

pub copy_sectors : (r : DiscRecord) (w : Which) (image : List ℕ) → ValidFacts r → r.size ≤ length image → (z : ℕ) → z < r.zones
    → length (slice_index_or (copy_of (geometry r) w image) z []) ≡ (geometry r).sector
copy_sectors r w image is long z low =
    let g = geometry r in
    let fits = is.fits in
    let start = start_low g w in
    ap length (copy_at g.sector image (copy_start g w) g.zones z low)
    ∙ whole_sector g.sector (g.map_sector + 2 * r.zones) (copy_start g w + z) image (omega arith) (omega arith)

pub new_size : (kind : Kind) (r : DiscRecord) → IsNewKind kind r → disc_size kind ≡ r.size
new_size (Boot s) r is = ap (λ (t : DiscRecord). t.size) is
new_size (OneZone s) r is = ap (λ (t : DiscRecord). t.size) is
new_size DiscD r is = absurd is
new_size (DiscL units) r is = absurd is

pub is_map_of : (image : List ℕ) (r : DiscRecord) (w : Which) → ValidFacts r → r.size ≤ length image
    → first_fault (geometry r) (zip (zone_numbers (geometry r)) (copy_of (geometry r) w image)) ≡ None
    → IsMap (record { geometry = geometry r; zones = copy_of (geometry r) w image })
is_map_of image r w is long right =
    map_of_no_fault (record { geometry = geometry r; zones = copy_of (geometry r) w image }) (length-copy (geometry r) w image) (copy_sectors r w image is long) right

pub zones_of_valid : (r : DiscRecord) (zones : List (List ℕ)) → ValidFacts r → IsMap (record { geometry = geometry r; zones = zones })
    → HasZones (record { geometry = geometry r; zones = zones })
zones_of_valid r zones is right = zones_of_map (record { geometry = geometry r; zones = zones }) right (zone_within r is)

-- ---- an opened image with a new map

-- the sectors of holes and of identifiers that may move
abbrev pub loose_sectors : Map → List Object → List ℕ
loose_sectors m objects = sectors_of m.geometry (filter (λ p. is_hole_or_movable objects p.1.kind) (all_runs m))

pub some_least : (n : ℕ) (ns : List ℕ) → least_of (n ∷ ns) ≡ None → ⊥
some_least n ns e = cc

-- Two lists that have no least number have none together.
pub none_least : (xs ys : List ℕ) → least_of (xs ++ ys) ≡ None → (least_of xs ≡ None) × (least_of ys ≡ None)
none_least [] ys e = (refl, e)
none_least (x ∷ xs) ys e = absurd (some_least x (xs ++ ys) e)

pub least_none : (xs ys : List ℕ) → least_of xs ≡ None → least_of ys ≡ None → least_of (xs ++ ys) ≡ None
least_none [] ys e h = h
least_none (x ∷ xs) ys e h = absurd (some_least x xs e)

pub valid_of : (kind : Kind) (r : DiscRecord) → IsNewKind kind r → IsKind kind → is_valid r ≡ true
valid_of (Boot s) r new is = ap is_none (subst (λ (t : DiscRecord). record_fault t ≡ None) new is.valid)
valid_of (OneZone s) r new is = ap is_none (subst (λ (t : DiscRecord). record_fault t ≡ None) new is.0.valid)
valid_of DiscD r new is = absurd new
valid_of (DiscL units) r new is = absurd new

-- what an opened image says of its map
pub record OpenMap (image : List ℕ) (kind : Kind) (r : DiscRecord) (v : Opened) (m : Map) : Type 0 where
  pub layout : v.layout ≡ Layout.New m
  pub kind_is : v.kind ≡ kind
  pub kind_right : IsKind kind
  pub geometry_is : m.geometry ≡ geometry r
  pub facts : ValidFacts r
  pub shape : IsGeometry m.geometry
  pub map_is : IsMap m
  pub zones : HasZones m
  pub some : 1 ≤ m.geometry.zones
  pub root : ℕ
  pub size : ℕ
  pub found : map_and_root image kind ≡ Ok (Layout.New m, root, size)
  pub found_map : FoundMap image r (Layout.New m, root, size)
  pub fits : fits_kind image kind ≡ true
  pub long : disc_size kind ≤ length image
  pub walked : walk (reader_of image (Layout.New m)) (Layout.New m) (reserved_in kind (Layout.New m)) root size ≡ Ok v.listings
  pub tight : least_of (filter (is_among (loose_sectors m (objects_of v.listings))) (reserved_in kind (Layout.New m))) ≡ None
  pub apart : least_of (filter (is_among (map_sectors m.geometry)) (boot_place kind m.geometry.sector)) ≡ None

pub open_map : (image : List ℕ) (kind : Kind) (r : DiscRecord) (v : Opened) → IsNewKind kind r → OpensAs image kind v → (m : Map) × OpenMap image kind r v m
open_map image kind r v new e =
    let valid = valid_of kind r new e.kind_right in
    let p = parts_of image kind v e.opened in
    let f = found_map image kind r p.0 new p.1.1 in
    let g = geometry r in
    let m : Map = record { geometry = g; zones = copy_of g f.which image } in
    let facts = facts_of_valid r valid in
    let size = new_size kind r new in
    let right = is_map_of image r f.which facts (omega (arith, p.1.0)) f.right in
    let placed = none_least (filter (is_among (loose_sectors m (objects_of v.listings))) (reserved_in kind (Layout.New m))) (filter (is_among (map_sectors g)) (boot_place kind g.sector))
    (subst (λ (q : MapAndRoot). misplaced_sector kind q.0 (objects_of v.listings) ≡ None) (sym f.is) p.1.3) in (
      m,
      record {
        layout = ap (λ (w : Opened). w.layout) (sym p.1.4) ∙ ap (λ (q : MapAndRoot). q.0) (sym f.is);
        kind_is = ap (λ (w : Opened). w.kind) (sym p.1.4);
        kind_right = e.kind_right;
        geometry_is = refl;
        facts = facts;
        shape = geometry_of_valid r valid;
        map_is = right;
        zones = zones_of_valid r (copy_of g f.which image) facts right;
        some = facts.zones;
        root = f.own.root;
        size = f.own.root_size;
        found = p.1.1 ∙ ap (λ (q : MapAndRoot). let a : Result MapAndRoot ImageFault = Ok q in a) (sym f.is);
        found_map = subst (λ (q : MapAndRoot). FoundMap image r q) (sym f.is) f;
        fits = p.1.5;
        long = p.1.0;
        walked = subst (λ (q : MapAndRoot). walk (reader_of image q.0) q.0 (reserved_in kind q.0) q.1 q.2 ≡ Ok v.listings) (sym f.is) p.1.2;
        tight = placed.0;
        apart = placed.1;
      },
    )

-- ---- where objects lie

abbrev pub Each : (Object → Type 0) → List Object → Type 0
Each P [] = Unit {0}
Each P (o ∷ objects) = P o × Each P objects

abbrev pub EachListed : (Object → Type 0) → List Listing → Type 0
EachListed P [] = Unit {0}
EachListed P (l ∷ listings) = P l.object × Each P l.children × EachListed P listings

pub Each-append : (P : Object → Type 0) (xs ys : List Object) → Each P xs → Each P ys → Each P (xs ++ ys)
Each-append P [] ys a b = b
Each-append P (x ∷ xs) ys a b = (a.0, Each-append P xs ys a.1 b)

pub Each-filter : (P : Object → Type 0) (t : Object → Bool) (xs : List Object) → Each P xs → Each P (filter t xs)
Each-filter P t [] a = tt
Each-filter P t (x ∷ xs) a = by (t x) (Each-filter P t xs a.1)
  where
    by : (b : Bool) → Each P (filter t xs) → Each P (cond b (x ∷ filter t xs) (filter t xs))
    by true rest = (a.0, rest)
    by false rest = rest

pub Each-contains : (P : Object → Type 0) (xs : List Object) (o : Object) → Each P xs → Contains xs o → P o
Each-contains P [] o a (k, h, e) = absurd (omega arith)
Each-contains P (x ∷ xs) o a (zero, h, e) = subst P e a.0
Each-contains P (x ∷ xs) o a (suc k, h, e) = Each-contains P xs o a.1 (k, omega arith, e)

pub Each-objects : (P : Object → Type 0) (listings : List Listing) → EachListed P listings → Each P (objects_of listings)
Each-objects P listings a = Each-append P (first_object listings) (flat_map (λ l. l.children) listings) (first listings a) (all listings a)
  where
    first : (ls : List Listing) → EachListed P ls → Each P (first_object ls)
    first [] b = tt
    first (l ∷ ls) b = (b.0, tt)

    all : (ls : List Listing) → EachListed P ls → Each P (flat_map (λ (l : Listing). l.children) ls)
    all [] b = tt
    all (l ∷ ls) b = Each-append P l.children (flat_map (λ (k : Listing). k.children) ls) b.1 (all ls b.2)

pub object_placed : (layout : Layout) (taken : List ℕ) (path : Path) (e : Entry) (o : Object) → object_of layout taken path e ≡ Ok o → IsPlaced layout o
object_placed layout taken path e o h = by (sectors_at layout e.address (object_size (dir_form layout) e)) refl h
  where
    object_ok : (x y : Object) → (let q : Result Object ImageFault = Ok x in q) ≡ Ok y → x ≡ y
    object_ok x y g = cc

    then : (sectors : List ℕ) (b : Bool) → sectors_at layout e.address (object_size (dir_form layout) e) ≡ Some sectors
        → cond b (Ok (record { path = path; entry = e; sectors = sectors })) (Err (faults.Overlap path)) ≡ Ok o → IsPlaced layout o
    then sectors true f g = subst (IsPlaced layout) (object_ok (record { path = path; entry = e; sectors = sectors }) o g) f
    then sectors false f g = absurd (cc)

    by : (s : Option (List ℕ)) → sectors_at layout e.address (object_size (dir_form layout) e) ≡ s → placed_on taken path e s ≡ Ok o → IsPlaced layout o
    by None f g = absurd (cc)
    by (Some sectors) f g = then sectors (is_apart sectors taken) f g

pub children_ok : (x y : List Object × List ℕ) → (let q : Result (List Object × List ℕ) ImageFault = Ok x in q) ≡ Ok y → x ≡ y
children_ok x y g = cc

pub listings_ok : (x y : List Listing) → (let q : Result (List Listing) ImageFault = Ok x in q) ≡ Ok y → x ≡ y
listings_ok x y g = cc

-- What holds of each object that is placed where Q holds of the sectors that are taken, holds of each object of a walk.
module _ (read : Reader) (layout : Layout) (P : Object → Type 0) (Q : List ℕ → Type 0)
    (step : (taken : List ℕ) (path : Path) (e : Entry) (o : Object) → Q taken → object_of layout taken path e ≡ Ok o → P o × Q (o.sectors ++ taken)) where
  pub children_each : (taken : List ℕ) (path : Path) (entries : List Entry) (got : List Object × List ℕ) → Q taken → children_of layout taken path entries ≡ Ok got
      → Each P got.0 × Q got.1
  unfolding children_of
  children_each taken path [] got q h = subst (λ (g : List Object × List ℕ). Each P g.0 × Q g.1) (children_ok ([], taken) got h) (tt, q)
  children_each taken path (e ∷ entries) got q h =
      let a = bind_ok (object_of layout taken (path ++ e.name ∷ []) e) _ got h in
      let b = bind_ok (children_of layout (a.0.sectors ++ taken) path entries) _ got a.2 in
      let first = step taken (path ++ e.name ∷ []) e a.0 q a.1 in
      let rest = children_each (a.0.sectors ++ taken) path entries b.0 first.1 b.1 in
      subst (λ (g : List Object × List ℕ). Each P g.0 × Q g.1) (children_ok (a.0 ∷ b.0.0, b.0.1) got b.2) ((first.0, rest.0), rest.1)

  listings_each : (fuel : ℕ) (taken : List ℕ) (waiting : List Object) (listings : List Listing)
      → Q taken → Each P waiting → listings_from read layout fuel taken waiting ≡ Ok listings → EachListed P listings
  unfolding listings_from
  listings_each zero taken [] listings q w h = subst (EachListed P) (listings_ok [] listings h) tt
  listings_each zero taken (o ∷ waiting) listings q w h = absurd (cc)
  listings_each (suc fuel) taken [] listings q w h = subst (EachListed P) (listings_ok [] listings h) tt
  listings_each (suc fuel) taken (o ∷ waiting) listings q w h =
      let a = bind_ok (at_path o.path (read o)) _ listings h in
      let b = bind_ok (children_of layout taken o.path (entries_of a.0)) _ listings a.2 in
      let d = bind_ok (listings_from read layout fuel b.0.1 (waiting ++ filter is_directory_object b.0.0)) _ listings b.2 in
      let first : Listing = record { object = o; content = a.0; children = b.0.0 } in
      let kids = children_each taken o.path (entries_of a.0) b.0 q b.1 in
      let next = Each-append P waiting (filter is_directory_object b.0.0) w.1 (Each-filter P is_directory_object b.0.0 kids.0) in
      subst (EachListed P) (listings_ok (first ∷ d.0) listings d.2) (w.0, kids.0, listings_each fuel b.0.1 (waiting ++ filter is_directory_object b.0.0) d.0 kids.1 next d.1)

  pub walk_each : (reserved : List ℕ) (address size : ℕ) (listings : List Listing) → Q reserved → walk read layout reserved address size ≡ Ok listings → EachListed P listings
  unfolding walk
  walk_each reserved address size listings q h =
      let root = bind_ok (object_of layout reserved [] (root_entry address (directory_size (dir_form layout) size))) _ listings h in
      let first = step reserved [] (root_entry address (directory_size (dir_form layout) size)) root.0 q root.1 in
      listings_each _ (root.0.sectors ++ reserved) (root.0 ∷ []) listings first.1 (first.0, tt) root.2

-- ---- among an identifier's sectors

in_take : (n : ℕ) (xs : List ℕ) (s : ℕ) → is_among (take n xs) s ≡ true → is_among xs s ≡ true
in_take zero xs s e = absurd (cc)
in_take (suc n) [] s e = e
in_take (suc n) (x ∷ xs) s e = by (x == s) e (in_take n xs s)
  where
    by : (b : Bool) → (b || is_among (take n xs) s) ≡ true → (is_among (take n xs) s ≡ true → is_among xs s ≡ true) → (b || is_among xs s) ≡ true
    by true h more = refl
    by false h more = more h

pub in_drop : (n : ℕ) (xs : List ℕ) (s : ℕ) → is_among (drop n xs) s ≡ true → is_among xs s ≡ true
in_drop zero xs s e = e
in_drop (suc n) [] s e = e
in_drop (suc n) (x ∷ xs) s e = in_back (x ∷ []) xs s (in_drop n xs s e)

in_first : (n : ℕ) (xs sectors : List ℕ) (s : ℕ) → first_part n xs ≡ Some sectors → is_among sectors s ≡ true → is_among xs s ≡ true
in_first n xs sectors s e h = by (nat_le n (length xs)) e
  where
    by : (b : Bool) → cond b (Some (take n xs)) None ≡ Some sectors → is_among xs s ≡ true
    by true f = in_take n xs s (let g : take n xs ≡ sectors = cc in subst (λ (ys : List ℕ). is_among ys s ≡ true) (sym g) h)
    by false f = absurd (cc)

-- an object's sectors are among its identifier's
pub in_id : (m : Map) (address bytes : ℕ) (sectors : List ℕ) (s : ℕ) → sectors_at (Layout.New m) address bytes ≡ Some sectors → is_among sectors s ≡ true
    → is_among (id_sectors m (id_of address)) s ≡ true
unfolding sectors_at
in_id m address bytes sectors s e h = by (bytes == 0) (is_object_id m (id_of address)) e
  where
    by : (b i : Bool)
        → cond b (Some []) (cond i (first_part (div_ceil bytes m.geometry.sector) (drop (low_start m (low_of address)) (id_sectors m (id_of address)))) None) ≡ Some sectors
        → is_among (id_sectors m (id_of address)) s ≡ true
    by true i f = absurd (let none : [] ≡ sectors = cc in let g : is_among [] s ≡ true = subst (λ (ys : List ℕ). is_among ys s ≡ true) (sym none) h in cc)
    by false true f = in_drop (low_start m (low_of address)) (id_sectors m (id_of address)) s
        (in_first (div_ceil bytes m.geometry.sector) (drop (low_start m (low_of address)) (id_sectors m (id_of address))) sectors s f h)
    by false false f = absurd (cc)

-- ---- apart from holes

not_hole : (id : ℕ) (k : RunKind) → is_hole k ≡ true → has_id id k ≡ true → ⊥
not_hole id kinds.Hole a b = cc
not_hole id (kinds.Id other) a b = cc

-- an identifier's sector lies in no hole
pub id_no_hole : (m : Map) → IsGeometry m.geometry → HasZones m → 1 ≤ m.geometry.zones → (id s : ℕ)
    → is_among (id_sectors m id) s ≡ true → is_among (hole_sectors (Layout.New m)) s ≡ true → ⊥
id_no_hole m is has some id s a b =
    let p = holder_of m.geometry (id_runs m id) s a in
    let q = holder_of m.geometry (hole_runs m) s b in
    let p_in = id_run_in m id p.0 some p.1.0 in
    let q_in = filter_in (λ x. is_hole x.1.kind) (all_runs m) q.0 q.1.0 in
    let same = runs_apart m is has p.0 q.0 p_in.0 q_in.0 s p.1.1 q.1.1 in
    not_hole id q.0.1.kind q_in.1 (subst (λ (x : ZoneRun). has_id id x.1.kind ≡ true) same p_in.1)

pub apart_from : (xs ys : List ℕ) → ((s : ℕ) → is_among xs s ≡ true → is_among ys s ≡ true → ⊥) → is_apart xs ys ≡ true
apart_from xs ys never = ap (λ b. cond b false true) (none xs (λ s e. e))
  where
    here : (z : ℕ) → is_among (z ∷ []) z ≡ true
    here z = among_here z false

    none : (zs : List ℕ) → ((s : ℕ) → is_among zs s ≡ true → is_among xs s ≡ true) → list_any (is_among ys) zs ≡ false
    none [] within = refl
    none (z ∷ zs) within =
        ap (λ b. b || list_any (is_among ys) zs) (unless (is_among ys z) (never z (within z (in_front (z ∷ []) zs z (here z)))))
        ∙ none zs (λ s e. within s (in_back (z ∷ []) zs s e))

pub apart_at : (xs ys : List ℕ) (s : ℕ) → is_apart xs ys ≡ true → is_among xs s ≡ true → is_among ys s ≡ false
apart_at xs ys s e h = never xs (no_any (list_any (is_among ys) xs) e) h
  where
    no_any : (b : Bool) → cond b false true ≡ true → b ≡ false
    no_any true f = absurd (cc)
    no_any false f = refl

    never : (zs : List ℕ) → list_any (is_among ys) zs ≡ false → is_among zs s ≡ true → is_among ys s ≡ false
    never [] f g = absurd (cc)
    never (z ∷ zs) f g = by (z == s) (is_among ys z) refl refl f g (never zs)
      where
        by : (c b : Bool) → (z == s) ≡ c → is_among ys z ≡ b → (b || list_any (is_among ys) zs) ≡ false → (c || is_among zs s) ≡ true
            → (list_any (is_among ys) zs ≡ false → is_among zs s ≡ true → is_among ys s ≡ false) → is_among ys s ≡ false
        by c true t u f' g' more = absurd (cc)
        by true false t u f' g' more = subst (λ (y : ℕ). is_among ys y ≡ false) (eqb-true z s t) u
        by false false t u f' g' more = more f' g'

-- where an object of a walk lies: its sectors are those of its address, and none of them is reserved
pub record Lies (layout : Layout) (reserved : List ℕ) (o : Object) : Type 0 where
  pub placed : IsPlaced layout o
  pub apart : is_apart o.sectors reserved ≡ true

object_apart : (layout : Layout) (taken : List ℕ) (path : Path) (e : Entry) (o : Object) → object_of layout taken path e ≡ Ok o → is_apart o.sectors taken ≡ true
object_apart layout taken path e o h = by (sectors_at layout e.address (object_size (dir_form layout) e)) h
  where
    object_ok : (x y : Object) → (let q : Result Object ImageFault = Ok x in q) ≡ Ok y → x ≡ y
    object_ok x y g = cc

    then : (sectors : List ℕ) (b : Bool) → is_apart sectors taken ≡ b → cond b (Ok (record { path = path; entry = e; sectors = sectors })) (Err (faults.Overlap path)) ≡ Ok o
        → is_apart o.sectors taken ≡ true
    then sectors true f g = subst (λ (x : Object). is_apart x.sectors taken ≡ true) (object_ok (record { path = path; entry = e; sectors = sectors }) o g) f
    then sectors false f g = absurd (cc)

    by : (s : Option (List ℕ)) → placed_on taken path e s ≡ Ok o → is_apart o.sectors taken ≡ true
    by None g = absurd (cc)
    by (Some sectors) g = then sectors (is_apart sectors taken) refl g

abbrev pub Has : List ℕ → List ℕ → Type 0
Has reserved taken = (s : ℕ) → is_among reserved s ≡ true → is_among taken s ≡ true

pub lies_step : (layout : Layout) (reserved taken : List ℕ) (path : Path) (e : Entry) (o : Object) → Has reserved taken → object_of layout taken path e ≡ Ok o
    → Lies layout reserved o × Has reserved (o.sectors ++ taken)
lies_step layout reserved taken path e o q h = (
  record {
    placed = object_placed layout taken path e o h;
    apart = apart_from o.sectors reserved (λ s a b. let no = apart_at o.sectors taken s (object_apart layout taken path e o h) a in let yes = q s b in cc);
  },
  λ s b. in_back o.sectors taken s (q s b),
)

pub walk_lies : (read : Reader) (layout : Layout) (reserved : List ℕ) (address size : ℕ) (listings : List Listing)
    → walk read layout reserved address size ≡ Ok listings → EachListed (Lies layout reserved) listings
walk_lies read layout reserved address size listings =
    walk_each read layout (Lies layout reserved) (Has reserved) (lies_step layout reserved) reserved address size listings (λ s b. b)

-- ---- the map's place

pub none_loose : (loose reserved : List ℕ) → least_of (filter (is_among loose) reserved) ≡ None → (s : ℕ) → is_among reserved s ≡ true → is_among loose s ≡ false
none_loose loose [] e s h = absurd (cc)
none_loose loose (x ∷ reserved) e s h = by (is_among loose x) refl e (none_loose loose reserved)
  where
    then : (b c : Bool) → (x == s) ≡ c → is_among loose x ≡ false → (c || is_among reserved s) ≡ true → (is_among reserved s ≡ true → is_among loose s ≡ false) → is_among loose s ≡ false
    then b true t f g more = subst (λ (y : ℕ). is_among loose y ≡ false) (eqb-true x s t) f
    then b false t f g more = more g

    by : (b : Bool) → is_among loose x ≡ b → least_of (cond b (x ∷ filter (is_among loose) reserved) (filter (is_among loose) reserved)) ≡ None
        → (least_of (filter (is_among loose) reserved) ≡ None → (t : ℕ) → is_among reserved t ≡ true → is_among loose t ≡ false) → is_among loose s ≡ false
    by true f g more = absurd (some_least x (filter (is_among loose) reserved) g)
    by false f g more = then false (x == s) refl f h (more g s)

pub boot_apart_law : BootApartLaw
boot_apart_law image kind v m e layout =
    let p = parts_of image kind v e.opened in
    let at : p.0.0 ≡ Layout.New m = ap (λ (w : Opened). w.layout) p.1.4 ∙ layout in
    let placed = none_least (filter (is_among (loose_sectors m (objects_of v.listings))) (reserved_in kind (Layout.New m))) (filter (is_among (map_sectors m.geometry)) (boot_place kind m.geometry.sector))
    (subst (λ (l : Layout). misplaced_sector kind l (objects_of v.listings) ≡ None) at p.1.3) in
    apart_from (boot_place kind m.geometry.sector) (map_sectors m.geometry)
    (λ s a b. let no = none_loose (map_sectors m.geometry) (boot_place kind m.geometry.sector) placed.1 s a in cc)

loose_hole : (objects : List Object) (k : RunKind) → is_hole k ≡ true → is_hole_or_movable objects k ≡ true
loose_hole objects kinds.Hole e = refl
loose_hole objects (kinds.Id id) e = absurd (cc)

pub holes_loose : (m : Map) (objects : List Object) (s : ℕ) → is_among (hole_sectors (Layout.New m)) s ≡ true → is_among (loose_sectors m objects) s ≡ true
holes_loose m objects s e =
    let p = holder_of m.geometry (hole_runs m) s e in
    let f = filter_in (λ x. is_hole x.1.kind) (all_runs m) p.0 p.1.0 in
    held_in m.geometry (filter (λ q. is_hole_or_movable objects q.1.kind) (all_runs m)) p.0 s
    (in_filter (λ q. is_hole_or_movable objects q.1.kind) (all_runs m) p.0 f.0 (loose_hole objects p.0.1.kind f.1)) p.1.1

pub holes_law : HolesLaw
holes_law image kind r v new e =
    let found = open_map image kind r v new e in
    let m = found.0 in
    let o = found.1 in
    let place : is_apart (map_place (Layout.New m)) (hole_sectors (Layout.New m)) ≡ true =
    apart_from (map_place (Layout.New m)) (hole_sectors (Layout.New m)) (λ s a b.
    let no = none_loose (loose_sectors m (objects_of v.listings)) (reserved_in kind (Layout.New m)) o.tight s (in_front (map_place (Layout.New m)) (boot_place kind m.geometry.sector) s a) in
    let yes = holes_loose m (objects_of v.listings) s b in
    cc) in
    let placed = walk_lies (reader_of image (Layout.New m)) (Layout.New m) (reserved_in kind (Layout.New m)) o.root o.size v.listings o.walked in (
      subst (λ (l : Layout). is_apart (map_place l) (hole_sectors l) ≡ true) (sym o.layout) place,
      λ object c.
          subst (λ (l : Layout). is_apart object.sectors (hole_sectors l) ≡ true) (sym o.layout)
          (apart_from object.sectors (hole_sectors (Layout.New m)) (λ s a b.
          let at = Each-contains (Lies (Layout.New m) (reserved_in kind (Layout.New m))) (objects_of v.listings) object (Each-objects (Lies (Layout.New m) (reserved_in kind (Layout.New m))) v.listings placed) c in
          id_no_hole m o.shape o.zones o.some (id_of object.entry.address) s (in_id m object.entry.address _ object.sectors s at.placed a) b)),
    )

-- ---- what is written into holes

pub Listed-contains : (P : Object → Type 0) (listings : List Listing) (l : Listing) → EachListed P listings → Contains listings l → P l.object
Listed-contains P [] l a (k, h, e) = absurd (omega arith)
Listed-contains P (x ∷ xs) l a (zero, h, e) = subst (λ (y : Listing). P y.object) e a.0
Listed-contains P (x ∷ xs) l a (suc k, h, e) = Listed-contains P xs l a.2 (k, omega arith, e)

-- what is reserved lies in no hole
pub no_hole_in : (m : Map) (objects : List Object) (reserved : List ℕ) → least_of (filter (is_among (loose_sectors m objects)) reserved) ≡ None
    → (s : ℕ) → is_among reserved s ≡ true → is_among (hole_sectors (Layout.New m)) s ≡ false
no_hole_in m objects reserved tight s h = unless (is_among (hole_sectors (Layout.New m)) s) (λ i.
    let no = none_loose (loose_sectors m objects) reserved tight s h in
    let is = holes_loose m objects s i in
    cc)

pub hole_write_law : HoleWriteLaw
hole_write_law image other kind r v new e len same =
    let found = open_map image kind r v new e in
    let m = found.0 in
    let o = found.1 in
    let apart = holes_law image kind r v new e in
    let placed = walk_lies (reader_of image (Layout.New m)) (Layout.New m) (reserved_in kind (Layout.New m)) o.root o.size v.listings o.walked in
    let same' : SameOutsideHoles (geometry r).sector (Layout.New m) image other = subst (λ (l : Layout). SameOutsideHoles (geometry r).sector l image other) o.layout same in
    let place : is_apart (map_sectors (geometry r)) (hole_sectors (Layout.New m)) ≡ true =
    subst (λ (g : Geometry). is_apart (map_sectors g) (hole_sectors (Layout.New m)) ≡ true) o.geometry_is
    (subst (λ (l : Layout). is_apart (map_place l) (hole_sectors l) ≡ true) o.layout apart.0) in
    let keeps : (object : Object) → IsPlaced (Layout.New m) object → HasSectorsOf (geometry r).sector object.sectors image other =
    λ object at s h.
    same' s (unless (is_among (hole_sectors (Layout.New m)) s) (id_no_hole m o.shape o.zones o.some (id_of object.entry.address) s (in_id m object.entry.address _ object.sectors s at h))) in
    let fits = (parts_of image kind v e.opened).1.5 in
    let map_same : HasSectorsOf (geometry r).sector (map_sectors (geometry r)) image other =
    λ s h. same' s (apart_at (map_sectors (geometry r)) (hole_sectors (Layout.New m)) s place h) in
    let boot_same : HasSectorsOf (geometry r).sector (boot_place kind (geometry r).sector) image other =
    subst (λ (g : Geometry). HasSectorsOf (geometry r).sector (boot_place kind g.sector) image other) o.geometry_is
    (λ s h. same' s (no_hole_in m (objects_of v.listings) (reserved_in kind (Layout.New m)) o.tight s (in_back (map_place (Layout.New m)) (boot_place kind m.geometry.sector) s h))) in
    let objects : (object : Object) → Contains (objects_of v.listings) object → HasSectorsOf (geometry r).sector object.sectors image other =
    λ object c. keeps object (Each-contains (Lies (Layout.New m) (reserved_in kind (Layout.New m))) (objects_of v.listings) object (Each-objects (Lies (Layout.New m) (reserved_in kind (Layout.New m))) v.listings placed) c).placed in (
      record {
        kind_right = e.kind_right;
        opened = free_opens image other kind r v new e.opened len (kind_place image other kind r new o.facts fits map_same boot_same) map_same
            (λ l c. keeps l.object (Listed-contains (Lies (Layout.New m) (reserved_in kind (Layout.New m))) v.listings l placed c).placed);
      },
      free_stored image other kind r v new e.opened objects,
    )
