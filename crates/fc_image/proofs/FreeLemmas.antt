-- Images that have the same map and the same objects.
use Rattle.std.proofs.Common.{◌≡◌, ◌<◌, ◌≤◌, ℕ, zero, suc, ◌+◌, ◌*◌, Bool, true, false, cond, List, [], ◌∷◌, ◌++◌, length, map, refl, sym, ap, ap₂, subst, ◌∙◌, arith, Some, None, Option, take}
use Rattle.std.specs.Prelude.{Result, Ok, Err, Contains, nat_lt, nat_le, not, ◌==◌, ◌||◌, ◌&&◌, slice_index, slice_index_or}
use Rattle.std.specs.Str.{bytes_eq}
use Rattle.fc_bytes.specs.Words.{bytes_at}
use Rattle.fc_bytes.specs.Checks.{boot_check}
use Rattle.std.specs.List.{flat_map, range_with_len, zip}
use Rattle.std.proofs.lemmas.Bool.{eq-eqb, eqb-true, eqb-false, ltb-false}
use Rattle.fc_device.specs.Sectors.{sector_at}
use Rattle.fc_record.specs.declared.DiscRecord.{DiscRecord}
use Rattle.fc_record.specs.declared.Geometry.{Geometry}
use Rattle.fc_record.specs.declared.Kind.{Kind}
use Rattle.fc_record.specs.declared.Kind.TheVariants.{Boot, OneZone, DiscD, DiscL}
use Rattle.fc_record.specs.Record.{geometry, record_of, is_valid}
use Rattle.fc_record.specs.Kinds.{disc_size, map_record, fits_kind, boot_block, is_whole_map}
use Rattle.fc_zone.specs.declared.ZoneFault.{ZoneFault}
use Rattle.fc_newmap.specs.Map.{Map, first_fault, zone_numbers, map_sectors}
use Rattle.fc_newmap.specs.declared.copies.Which.{Which}
use Rattle.fc_newmap.specs.declared.copies.Which.TheVariants.{One, Two}
use Rattle.fc_newmap.specs.Copies.{copy_start, copy_of, chosen}
use Rattle.fc_dirs.specs.Directory.{directory_of}
use Rattle.fc_image.specs.declared.ImageFault.{ImageFault}
use Rattle.fc_image.specs.declared.ImageFault.TheVariants as faults
use Rattle.fc_image.specs.Layout.{Layout, sector_bytes, dir_form, bytes_in, is_among}
use Rattle.fc_image.specs.Walk.{◌>>=◌, Object, Listing, reader_of, object_bytes, walk}
use Rattle.fc_image.specs.Objects.{objects_of}
use Rattle.fc_image.specs.Opening.{Opened, MapAndRoot, new_layout, map_and_root, copy_or, agreement, difference, zones_or, reserved_in, misplaced_sector, unless_misplaced, open_parts, open_as}
use Rattle.fc_names.specs.Names.{Path}
use Rattle.fc_dirs.specs.declared.Entry.{Entry}
use Rattle.fc_image.specs.Stays.{HasSectorsOf, IsNewKind, SameKindPlace, stored_object, stored_objects}
use Rattle.fc_image.proofs.WalkLemmas.{bind_ok, walk-Tells, open_as-spelled}
use Rattle.fc_newmap.proofs.PlaceLemmas.{either}

-- ---- lists of sectors

pub among_here : (s : ℕ) (b : Bool) → ((s == s) || b) ≡ true
among_here s b = ap (λ c. c || b) (eq-eqb s s refl)

pub among_later : (t s : ℕ) (b : Bool) → b ≡ true → ((t == s) || b) ≡ true
among_later t s b e = by (t == s)
  where
    by : (c : Bool) → (c || b) ≡ true
    by true = refl
    by false = e

pub among_range : (from n s : ℕ) → from ≤ s → s < from + n → is_among (range_with_len from n) s ≡ true
among_range from zero s low high = absurd (omega arith)
among_range from (suc n) s low high = by (from == s) refl (λ ne. among_range (from + 1) n s (omega arith) (omega arith))
  where
    by : (c : Bool) → (from == s) ≡ c → ((from ≡ s → ⊥) → is_among (range_with_len (from + 1) n) s ≡ true) → (c || is_among (range_with_len (from + 1) n) s) ≡ true
    by true e rest = refl
    by false e rest = rest (eqb-false from s e)

pub range_bounds : (from n s : ℕ) → is_among (range_with_len from n) s ≡ true → (from ≤ s) × (s < from + n)
range_bounds from zero s e = absurd (cc)
range_bounds from (suc n) s e =
    elim (either (from == s) (is_among (range_with_len (from + 1) n) s) e) [
      | Ok here ↦ (let same = eqb-true from s here in (omega arith, omega arith))
      | Err later ↦ (let rest = range_bounds (from + 1) n s later in (omega (arith, rest.0), omega (arith, rest.1)))
    ]

pub map_same : (f g : ℕ → List ℕ) (xs : List ℕ) → ((s : ℕ) → is_among xs s ≡ true → f s ≡ g s) → map f xs ≡ map g xs
map_same f g [] same = refl
map_same f g (x ∷ xs) same = ap₂ (λ (y : List ℕ) (ys : List (List ℕ)). y ∷ ys) (same x (among_here x (is_among xs x))) (map_same f g xs (λ s e. same s (among_later x s (is_among xs s) e)))

pub flat_same : (f g : ℕ → List ℕ) (xs : List ℕ) → ((s : ℕ) → is_among xs s ≡ true → f s ≡ g s) → flat_map f xs ≡ flat_map g xs
flat_same f g [] same = refl
flat_same f g (x ∷ xs) same = ap₂ (λ (y ys : List ℕ). y ++ ys) (same x (among_here x (is_among xs x))) (flat_same f g xs (λ s e. same s (among_later x s (is_among xs s) e)))

-- ---- the copies, and the layout

pub copy_same : (g : Geometry) (w : Which) (image other : List ℕ) → HasSectorsOf g.sector (map_sectors g) image other → copy_of g w other ≡ copy_of g w image
copy_same g One image other same =
    map_same _ _ (range_with_len (copy_start g One) g.zones) (λ s e.
    let b = range_bounds (copy_start g One) g.zones s e in
    same s (among_range g.map_sector (2 * g.zones) s (omega (arith, b.0)) (omega (arith, b.1))))
copy_same g Two image other same =
    map_same _ _ (range_with_len (copy_start g Two) g.zones) (λ s e.
    let b = range_bounds (copy_start g Two) g.zones s e in
    same s (among_range g.map_sector (2 * g.zones) s (omega (arith, b.0)) (omega (arith, b.1))))

pub chosen_same : (g : Geometry) (image other : List ℕ) → HasSectorsOf g.sector (map_sectors g) image other → chosen g other ≡ chosen g image
unfolding chosen
chosen_same g image other same = rw (copy_same g One image other same, copy_same g Two image other same) refl

-- the layout by the choice and the copies
unfoldable pub layout_by : DiscRecord → Result Which (ℕ × ℕ) → (Which → List (List ℕ)) → Result MapAndRoot ImageFault
layout_by r choice copies =
    copy_or choice >>= λ which.
    agreement r (map_record (slice_index_or (copies which) 0 [])) (difference r (map_record (slice_index_or (copies which) 0 []))) >>= λ own.
    zones_or (geometry r) (copies which) (first_fault (geometry r) (zip (zone_numbers (geometry r)) (copies which))) >>= λ m.
    Ok (Layout.New m, own.root, own.root_size)

pub layout_is : (image : List ℕ) (r : DiscRecord) → new_layout image r ≡ layout_by r (chosen (geometry r) image) (λ w. copy_of (geometry r) w image)
unfolding layout_by
layout_is image r = refl

layout_same : (image other : List ℕ) (r : DiscRecord) → HasSectorsOf (geometry r).sector (map_sectors (geometry r)) image other → new_layout other r ≡ new_layout image r
layout_same image other r same =
    layout_is other r
    ∙ ap₂ (layout_by r) (chosen_same (geometry r) image other same) (λ i w. copy_same (geometry r) w image other same i)
    ∙ sym (layout_is image r)

zones_geometry : (g : Geometry) (zones : List (List ℕ)) (fault : Option ZoneFault) (m : Map) → zones_or g zones fault ≡ Ok m → m.geometry ≡ g
zones_geometry g zones None m e = ap (λ (n : Map). n.geometry) (sym (map_ok _ m e))
  where
    map_ok : (x y : Map) → (let r : Result Map ImageFault = Ok x in r) ≡ Ok y → x ≡ y
    map_ok x y h = cc
zones_geometry g zones (Some fault) m e = absurd (cc)

layout_sector : (r : DiscRecord) (choice : Result Which (ℕ × ℕ)) (copies : Which → List (List ℕ)) (found : MapAndRoot) → layout_by r choice copies ≡ Ok found
    → sector_bytes found.0 ≡ (geometry r).sector
unfolding layout_by
layout_sector r choice copies found e =
    let a = bind_ok (copy_or choice) _ found e in
    let b = bind_ok (agreement r (map_record (slice_index_or (copies a.0) 0 [])) (difference r (map_record (slice_index_or (copies a.0) 0 [])))) _ found a.2 in
    let d = bind_ok (zones_or (geometry r) (copies a.0) (first_fault (geometry r) (zip (zone_numbers (geometry r)) (copies a.0)))) _ found b.2 in
    let is : (Layout.New d.0, b.0.root, b.0.root_size) ≡ found = found_ok _ found d.2 in
    ap (λ (f : MapAndRoot). sector_bytes f.0) (sym is) ∙ ap (λ (g : Geometry). g.sector) (zones_geometry _ _ _ d.0 d.1)
  where
    found_ok : (x y : MapAndRoot) → (let q : Result MapAndRoot ImageFault = Ok x in q) ≡ Ok y → x ≡ y
    found_ok x y h = cc

-- ---- the parts of an opened image

opened_by : (v w : Opened) (misplaced : Option ℕ) → unless_misplaced v misplaced ≡ Ok w → (misplaced ≡ None) × (v ≡ w)
opened_by v w None e = (refl, opened_ok v w e)
  where
    opened_ok : (x y : Opened) → (let q : Result Opened ImageFault = Ok x in q) ≡ Ok y → x ≡ y
    opened_ok x y h = cc
opened_by v w (Some sector) e = absurd (cc)

abbrev pub HasParts : List ℕ → Kind → Opened → MapAndRoot → Type 0
HasParts image kind v found =
    (disc_size kind ≤ length image) × (map_and_root image kind ≡ Ok found)
    × (walk (reader_of image found.0) found.0 (reserved_in kind found.0) found.1 found.2 ≡ Ok v.listings)
    × (misplaced_sector kind found.0 (objects_of v.listings) ≡ None)
    × (record { kind = kind; layout = found.0; listings = v.listings } ≡ v)
    × (fits_kind image kind ≡ true)

parts_from : (image : List ℕ) (kind : Kind) (v : Opened) → fits_kind image kind ≡ true → disc_size kind ≤ length image → open_parts image kind ≡ Ok v → (found : MapAndRoot) × HasParts image kind v found
parts_from image kind v fits long e =
    let a = bind_ok (map_and_root image kind) _ v e in
    let b = bind_ok (walk (reader_of image a.0.0) a.0.0 (reserved_in kind a.0.0) a.0.1 a.0.2) _ v a.2 in
    let d = opened_by (record { kind = kind; layout = a.0.0; listings = b.0 }) v (misplaced_sector kind a.0.0 (objects_of b.0)) b.2 in
    let same : b.0 ≡ v.listings = ap (λ (w : Opened). w.listings) d.1 in (
      a.0,
      (
        long,
        a.1,
        b.1 ∙ ap (λ (ls : List Listing). Ok ls) same,
        ap (λ (ls : List Listing). misplaced_sector kind a.0.0 (objects_of ls)) (sym same) ∙ d.0,
        ap (λ (ls : List Listing). let w : Opened = record { kind = kind; layout = a.0.0; listings = ls } in w) (sym same) ∙ d.1,
        fits,
      ),
    )

pub parts_of : (image : List ℕ) (kind : Kind) (v : Opened) → open_as image kind ≡ Ok v → (found : MapAndRoot) × HasParts image kind v found
unfolding open_as
parts_of image kind v e = by (fits_kind image kind) (nat_lt (length image) (disc_size kind)) refl refl e
  where
    by : (f b : Bool) → fits_kind image kind ≡ f → nat_lt (length image) (disc_size kind) ≡ b
        → cond (not f) (Err faults.NoKind) (cond b (Err (faults.Short (disc_size kind) (length image))) (open_parts image kind)) ≡ Ok v
        → (found : MapAndRoot) × HasParts image kind v found
    by false b h t e' = absurd (cc)
    by true true h t e' = absurd (cc)
    by true false h t e' = parts_from image kind v h (ltb-false _ _ t) e'

-- ---- objects

bytes_same : (size : ℕ) (image other sectors : List ℕ) (n : ℕ) → HasSectorsOf size sectors image other → bytes_in size other sectors n ≡ bytes_in size image sectors n
unfolding bytes_in
bytes_same size image other sectors n same = ap (take n) (flat_same (sector_at size other) (sector_at size image) sectors same)

pub object_same : (size : ℕ) (image other : List ℕ) (layout : Layout) (o : Object) → sector_bytes layout ≡ size → HasSectorsOf size o.sectors image other
    → object_bytes other layout o ≡ object_bytes image layout o
object_same size image other layout o is same =
    bytes_same (sector_bytes layout) image other o.sectors _ (subst (λ (n : ℕ). HasSectorsOf n o.sectors image other) (sym is) same)

pub stored_same : (size : ℕ) (image other : List ℕ) (layout : Layout) (objects : List Object) → sector_bytes layout ≡ size
    → ((o : Object) → Contains objects o → HasSectorsOf size o.sectors image other) → map (stored_object other layout) objects ≡ map (stored_object image layout) objects
stored_same size image other layout [] is same = refl
stored_same size image other layout (o ∷ objects) is same =
    ap₂ (λ e es. e ∷ es)
    (ap (λ (bs : List ℕ). let s : Path × Entry × List ℕ = (o.path, o.entry, bs) in s) (object_same size image other layout o is (same o (0, omega arith, refl))))
    (stored_same size image other layout objects is (λ p c. same p (suc c.0, omega (arith, c.1), c.2)))

-- ---- the law

found_same : (image other : List ℕ) (kind : Kind) (r : DiscRecord) → IsNewKind kind r → HasSectorsOf (geometry r).sector (map_sectors (geometry r)) image other
    → map_and_root other kind ≡ map_and_root image kind
found_same image other (Boot s) r is same = layout_same image other s (subst (λ (t : DiscRecord). HasSectorsOf (geometry t).sector (map_sectors (geometry t)) image other) (sym is) same)
found_same image other (OneZone s) r is same = layout_same image other s (subst (λ (t : DiscRecord). HasSectorsOf (geometry t).sector (map_sectors (geometry t)) image other) (sym is) same)
found_same image other DiscD r is same = absurd is
found_same image other (DiscL units) r is same = absurd is

pub found_sector : (image : List ℕ) (kind : Kind) (r : DiscRecord) (found : MapAndRoot) → IsNewKind kind r → map_and_root image kind ≡ Ok found → sector_bytes found.0 ≡ (geometry r).sector
found_sector image (Boot s) r found is e = layout_sector s _ _ found (sym (layout_is image s) ∙ e) ∙ ap (λ (t : DiscRecord). (geometry t).sector) is
found_sector image (OneZone s) r found is e = layout_sector s _ _ found (sym (layout_is image s) ∙ e) ∙ ap (λ (t : DiscRecord). (geometry t).sector) is
found_sector image DiscD r found is e = absurd is
found_sector image (DiscL units) r found is e = absurd is

boot_fits : ℕ → List ℕ → DiscRecord → Bool
boot_fits n block r =
    nat_le 0xE00 n && (slice_index block 511 == boot_check block) && is_valid (record_of (bytes_at block 0x1C0 60))
    && bytes_eq (record_of (bytes_at block 0x1C0 60)).raw r.raw

boot_fits_is : (image : List ℕ) (r : DiscRecord) → fits_kind image (Boot r) ≡ boot_fits (length image) (boot_block image) r
unfolding boot_fits
boot_fits_is image r = refl

pub fits_same : (image other : List ℕ) (kind : Kind) → length other ≡ length image → SameKindPlace kind image other → fits_kind other kind ≡ fits_kind image kind
fits_same image other (Boot r) len same =
    boot_fits_is other r ∙ ap₂ (λ (n : ℕ) (block : List ℕ). boot_fits n block r) len same ∙ sym (boot_fits_is image r)
fits_same image other (OneZone r) len same =
    ap₂ (λ (a b : List ℕ). (is_whole_map a || is_whole_map b) && (is_valid r && (r.log2_sector == 10) && (r.zones == 1))) same.0 same.1
fits_same image other DiscD len same = absurd same
fits_same image other (DiscL units) len same = absurd same

pub free_opens : (image other : List ℕ) (kind : Kind) (r : DiscRecord) (v : Opened) → IsNewKind kind r → open_as image kind ≡ Ok v → length other ≡ length image
    → SameKindPlace kind image other → HasSectorsOf (geometry r).sector (map_sectors (geometry r)) image other
    → ((l : Listing) → Contains v.listings l → HasSectorsOf (geometry r).sector l.object.sectors image other)
    → open_as other kind ≡ Ok v
free_opens image other kind r v is e len place same dirs =
    let p = parts_of image kind v e in
    let found = p.0 in
    let size = found_sector image kind r found is p.1.1 in
    let told = walk-Tells (reader_of image found.0) found.0 (reserved_in kind found.0) found.1 found.2 v.listings p.1.2 in
    open_as-spelled other kind found.0 found.1 found.2 (reader_of image found.0) v.listings (fits_same image other kind len place ∙ p.1.5) (omega (arith, p.1.0))
    (found_same image other kind r is same ∙ p.1.1) p.1.2 p.1.3
    (λ l c. ap (directory_of (dir_form found.0)) (object_same (geometry r).sector image other found.0 l.object size (dirs l c)) ∙ told l c)
    ∙ ap (λ (w : Opened). Ok w) p.1.4

pub free_stored : (image other : List ℕ) (kind : Kind) (r : DiscRecord) (v : Opened) → IsNewKind kind r → open_as image kind ≡ Ok v
    → ((o : Object) → Contains (objects_of v.listings) o → HasSectorsOf (geometry r).sector o.sectors image other)
    → stored_objects other v ≡ stored_objects image v
free_stored image other kind r v is e objects =
    let p = parts_of image kind v e in
    let size : sector_bytes v.layout ≡ (geometry r).sector = ap (λ (w : Opened). sector_bytes w.layout) (sym p.1.4) ∙ found_sector image kind r p.0 is p.1.1 in
    stored_same (geometry r).sector image other v.layout (objects_of v.listings) size objects
