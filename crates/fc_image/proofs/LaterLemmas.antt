-- That a later opening by itself takes the kind as which an image opens.
use Rattle.std.proofs.Common.{◌≡◌, ◌≤◌, ℕ, Bool, true, false, cond, List, [], ◌∷◌, length, refl, sym, ap, ap₂, subst, ◌∙◌, Option, Some, None}
use Rattle.std.specs.Prelude.{Result, Ok, nat_le, ◌==◌, ◌&&◌, ◌||◌, slice_index, slice_index_or, is_none}
use Rattle.std.specs.List.{zip}
use Rattle.std.specs.Int.{is_in_range}
use Rattle.std.specs.Str.{bytes_eq}
use Rattle.std.proofs.lemmas.Bool.{eqb-true, leb-true}
use Rattle.std.proofs.lemmas.Slice.Eq.{bytes_eq-Decides}
use Rattle.fc_bytes.specs.Words.{bytes_at}
use Rattle.fc_device.specs.Sectors.{sector_at}
use Rattle.fc_bytes.specs.Checks.{boot_check}
use Rattle.fc_record.specs.declared.DiscRecord.{DiscRecord}
use Rattle.fc_record.specs.declared.Geometry.{Geometry}
use Rattle.fc_record.specs.declared.RecordFault.{RecordFault}
use Rattle.fc_record.specs.declared.Kind.{Kind}
use Rattle.fc_record.specs.declared.Kind.TheVariants.{Boot, OneZone, DiscD, DiscL}
use Rattle.fc_record.specs.Record.{record_of, geometry, record_fault, is_valid, IsRecord}
use Rattle.fc_record.specs.Kinds.{IsKind, boot_block, boot_record, map_record, is_boot, is_whole_map, is_old_map, old_units, kind_of, looks_earlier}
use Rattle.fc_newmap.specs.Map.{first_fault, zone_numbers}
use Rattle.fc_newmap.specs.declared.copies.Which.{Which}
use Rattle.fc_newmap.specs.declared.copies.Which.TheVariants.{One, Two}
use Rattle.fc_newmap.specs.Copies.{copy_of, is_check_right, is_sound, chosen}
use Rattle.fc_newmap.proofs.GeometryLemmas.{facts_of_valid}
use Rattle.fc_image.specs.declared.ImageFault.{ImageFault}
use Rattle.fc_image.specs.Layout.{Layout}
use Rattle.fc_image.specs.Walk.{Object, reader_of, walk}
use Rattle.fc_image.specs.Objects.{objects_of}
use Rattle.fc_image.specs.Opening.{Opened, MapAndRoot, map_and_root, agreement, difference, reserved_in, misplaced_sector, open_as_some, open_image}
use Rattle.fc_image.specs.Stays.{OpensAs}
use Rattle.fc_image.specs.Laws.{AcceptedLaw, LaterOpeningLaw}
use Rattle.fc_image.proofs.WalkLemmas.{walk-Tells, open_as-spelled}
use Rattle.fc_image.proofs.FreeLemmas.{parts_of}
use Rattle.fc_image.proofs.KindLemmas.{first_place, second_place}
use Rattle.fc_image.proofs.HolesLemmas.{found_map, valid_of}
use Rattle.fc_image.proofs.OneZoneLemmas.{place, one_copy, whole_sound, SaysOf, choice_says, one_whole, zone_fits}
use Rattle.fc_image.proofs.MoveLemmas.{found_with, found_kind}
use Rattle.fc_image.proofs.RecordLemmas.{agrees_itself}
use Rattle.fc_record.proofs.KindLemmas.{Choice as KindChoice, or_first, or_second, and_first, and_second}

-- ---- the kind that is found

kind_by : (image : List ℕ) (boot first second discd discl : Bool) → is_boot image ≡ boot → is_whole_map (bytes_at image 0 1024) ≡ first
    → is_whole_map (bytes_at image 1024 1024) ≡ second → (is_old_map image && (old_units image == 3200)) ≡ discd
    → (is_old_map image && is_in_range 7 2560 (old_units image)) ≡ discl → kind_of image ≡ KindChoice boot first second discd discl image
unfolding kind_of
kind_by image boot first second discd discl a b c d e = λ i. KindChoice (a i) (b i) (c i) (d i) (e i) image

-- the kind of an image with one zone is that of the copy that counts
zone_kind : (image : List ℕ) (g : Geometry) (w : Which) → is_boot image ≡ false → ((x : Which) → copy_of g x image ≡ sector_at 1024 image (place x) ∷ []) → SaysOf image g w
    → is_whole_map (sector_at 1024 image (place w)) ≡ true → kind_of image ≡ Some (OneZone (map_record (sector_at 1024 image (place w))))
zone_kind image g One boot copy says whole =
    kind_by image false true _ _ _ boot (ap is_whole_map (first_place image) ∙ whole) refl refl refl ∙ ap (λ (z : List ℕ). Some (OneZone (map_record z))) (first_place image)
zone_kind image g Two boot copy says whole =
    kind_by image false false true _ _ boot (unsound (is_whole_map (bytes_at image 0 1024)) refl) (ap is_whole_map (second_place image) ∙ whole) refl refl
    ∙ ap (λ (z : List ℕ). Some (OneZone (map_record z))) (second_place image)
  where
    unsound : (b : Bool) → is_whole_map (bytes_at image 0 1024) ≡ b → b ≡ false
    unsound false e = refl
    unsound true e = absurd (
        let sound = ap is_sound (copy One) ∙ ap (λ (z : List ℕ). is_sound (z ∷ [])) (sym (first_place image)) ∙ whole_sound (bytes_at image 0 1024) e in
        let not_sound = says.0 in
        cc)

-- ---- the records of kinds

none_is : (o : Option RecordFault) → is_none o ≡ true → o ≡ None
none_is None e = refl
none_is (Some fault) e = absurd (cc)

valid_record : (xs : List ℕ) → is_valid (record_of xs) ≡ true → IsRecord (record_of xs)
valid_record xs e = record { from_raw = refl; valid = none_is (record_fault (record_of xs)) e }

whole_kind : (z : List ℕ) → is_whole_map z ≡ true → IsKind (OneZone (map_record z))
whole_kind z e =
    let r = map_record z in
    let size : Bool = r.log2_sector == 10 in
    let one : Bool = r.zones == 1 in
    let front : Bool = (length z == 1024) && is_check_right z && (slice_index z 3 == 255) in
    let rest = and_first (front && is_valid r && size) one e in (
      valid_record (bytes_at z 4 60) (and_second front (is_valid r) (and_first (front && is_valid r) size rest)),
      eqb-true r.log2_sector 10 (and_second (front && is_valid r) size rest),
      eqb-true r.zones 1 (and_second (front && is_valid r && size) one e),
    )

-- ---- one zone

reserved_zone : (r s : DiscRecord) (l : Layout) → reserved_in (OneZone r) l ≡ reserved_in (OneZone s) l
reserved_zone r s (Layout.Old space) = refl
reserved_zone r s (Layout.New m) = refl

misplaced_zone : (r s : DiscRecord) (l : Layout) (objects : List Object) → misplaced_sector (OneZone s) l objects ≡ misplaced_sector (OneZone r) l objects
misplaced_zone r s (Layout.Old space) objects = refl
misplaced_zone r s (Layout.New m) objects = refl

abbrev Later : List ℕ → Opened → Type 0
Later image v = (w : Opened) × (open_image image ≡ Ok w) × (w.layout ≡ v.layout) × (w.listings ≡ v.listings)

later_zone : (image : List ℕ) (r : DiscRecord) (v : Opened) → OpensAs image (OneZone r) v → is_boot image ≡ false → Later image v
unfolding open_image
later_zone image r v e boot =
    let p = parts_of image (OneZone r) v e.opened in
    let f = found_map image (OneZone r) r p.0 refl p.1.1 in
    let facts = facts_of_valid r (valid_of (OneZone r) r refl e.kind_right) in
    let w = f.which in
    let z = sector_at 1024 image (place w) in
    let s = map_record z in
    let copy = one_copy r w image e.kind_right.1 e.kind_right.2 in
    let a = one_whole image r f.own w e.kind_right facts p.1.0 f.chosen_one f.agreed in
    let zones = copy_of (geometry r) w image in
    let same : geometry s ≡ geometry r = ap geometry a.1.same in
    let kind : kind_of image ≡ Some (OneZone s) = zone_kind image (geometry r) w boot (λ x. one_copy r x image e.kind_right.1 e.kind_right.2) (choice_says (geometry r) image w f.chosen_one) a.0 in
    let own : map_record (slice_index_or zones 0 []) ≡ s = ap (λ (zs : List (List ℕ)). map_record (slice_index_or zs 0 [])) copy in
    let agreed : agreement s (map_record (slice_index_or zones 0 [])) (difference s (map_record (slice_index_or zones 0 []))) ≡ Ok s =
    ap (λ (t : DiscRecord). agreement s t (difference s t)) own ∙ agrees_itself s a.1.root a.1.root_size in
    let found_s = found_kind image (OneZone s) s _ refl
    (found_with image s s w zones zones (ap (λ (g : Geometry). chosen g image) same ∙ f.chosen_one) (ap (λ (g : Geometry). copy_of g w image) same) refl agreed
    (ap (λ (g : Geometry). first_fault g (zip (zone_numbers g) zones)) same ∙ f.right)) in
    let found : map_and_root image (OneZone s) ≡ Ok p.0 =
    found_s
    ∙ ap₂ (λ (g : Geometry) (t : DiscRecord). let q : Result MapAndRoot ImageFault = Ok (Layout.New (record { geometry = g; zones = zones }), t.root, t.root_size) in q) same a.2
    ∙ ap (λ (q : MapAndRoot). let x : Result MapAndRoot ImageFault = Ok q in x) f.is in
    let long : s.size ≤ length image = subst (λ (t : DiscRecord). t.size ≤ length image) (sym a.1.same) p.1.0 in
    let fits = zone_fits image s p.0 (whole_kind z a.0) long found in
    let walked : walk (reader_of image p.0.0) p.0.0 (reserved_in (OneZone s) p.0.0) p.0.1 p.0.2 ≡ Ok v.listings =
    subst (λ (xs : List ℕ). walk (reader_of image p.0.0) p.0.0 xs p.0.1 p.0.2 ≡ Ok v.listings) (reserved_zone r s p.0.0) p.1.2 in
    let opened = open_as-spelled image (OneZone s) p.0.0 p.0.1 p.0.2 (reader_of image p.0.0) v.listings fits long found walked
    (misplaced_zone r s p.0.0 (objects_of v.listings) ∙ p.1.3)
    (walk-Tells (reader_of image p.0.0) p.0.0 (reserved_in (OneZone s) p.0.0) p.0.1 p.0.2 v.listings walked) in
    (record { kind = OneZone s; layout = p.0.0; listings = v.listings }, ap (open_as_some image) kind ∙ opened, ap (λ (x : Opened). x.layout) p.1.4, refl)

-- ---- other kinds

later_boot : (image : List ℕ) (r : DiscRecord) (v : Opened) → OpensAs image (Boot r) v → Later image v
unfolding open_image
later_boot image r v e =
    let fits = (parts_of image (Boot r) v e.opened).1.5 in
    let boot = and_first (is_boot image) (bytes_eq (boot_record image).raw r.raw) fits in
    let raw : (boot_record image).raw ≡ r.raw = (bytes_eq-Decides (boot_record image).raw r.raw).0 (and_second (is_boot image) (bytes_eq (boot_record image).raw r.raw) fits) in
    let same : boot_record image ≡ r = ap record_of raw ∙ sym e.kind_right.from_raw in
    let kind : kind_of image ≡ Some (Boot r) = kind_by image true _ _ _ _ boot refl refl refl refl ∙ ap (λ (t : DiscRecord). Some (Boot t)) same in
    (v, ap (open_as_some image) kind ∙ e.opened, refl, refl)

later_d : (image : List ℕ) (v : Opened) → OpensAs image DiscD v → looks_earlier image DiscD ≡ false → Later image v
unfolding open_image
later_d image v e earlier =
    let fits = (parts_of image DiscD v e.opened).1.5 in
    let first = is_whole_map (bytes_at image 0 1024) in
    let second = is_whole_map (bytes_at image 1024 1024) in
    let zone = or_second (is_boot image) (first || second) earlier in
    let kind : kind_of image ≡ Some DiscD = kind_by image false false false true _ (or_first (is_boot image) (first || second) earlier) (or_first first second zone) (or_second first second zone) fits refl in
    (v, ap (open_as_some image) kind ∙ e.opened, refl, refl)

later_l : (image : List ℕ) (units : ℕ) (v : Opened) → OpensAs image (DiscL units) v → looks_earlier image (DiscL units) ≡ false → Later image v
unfolding open_image
later_l image units v e earlier =
    let fits = (parts_of image (DiscL units) v e.opened).1.5 in
    let old = is_old_map image in
    let first = is_whole_map (bytes_at image 0 1024) in
    let second = is_whole_map (bytes_at image 1024 1024) in
    let front = or_first (is_boot image || (first || second)) (old && (old_units image == 3200)) earlier in
    let zone = or_second (is_boot image) (first || second) front in
    let same : old_units image ≡ units = eqb-true (old_units image) units (and_second (old && is_in_range 7 2560 units) (old_units image == units) fits) in
    let range : (old && is_in_range 7 2560 (old_units image)) ≡ true = ap (λ (n : ℕ). old && is_in_range 7 2560 n) same ∙ and_first (old && is_in_range 7 2560 units) (old_units image == units) fits in
    let kind : kind_of image ≡ Some (DiscL units) =
    kind_by image false false false false true (or_first (is_boot image) (first || second) front) (or_first first second zone) (or_second first second zone)
    (or_second (is_boot image || (first || second)) (old && (old_units image == 3200)) earlier) range
    ∙ ap (λ (n : ℕ). Some (DiscL n)) same in
    (v, ap (open_as_some image) kind ∙ e.opened, refl, refl)

pub later_opening_law : LaterOpeningLaw
later_opening_law image (Boot r) v e earlier = later_boot image r v e
later_opening_law image (OneZone r) v e earlier = later_zone image r v e earlier
later_opening_law image DiscD v e earlier = later_d image v e earlier
later_opening_law image (DiscL units) v e earlier = later_l image units v e earlier

-- ---- accepted images

kind_right : (image : List ℕ) (kind : Kind) → kind_of image ≡ Some kind → IsKind kind
kind_right image kind e =
    by (is_boot image) (is_whole_map (bytes_at image 0 1024)) (is_whole_map (bytes_at image 1024 1024)) (is_old_map image && (old_units image == 3200))
    (is_old_map image && is_in_range 7 2560 (old_units image)) refl refl refl refl
    (sym (kind_by image _ _ _ _ _ refl refl refl refl refl) ∙ e)
  where
    some_kind : (x y : Kind) → Some x ≡ Some y → x ≡ y
    some_kind x y h = cc

    by : (b f s d l : Bool) → is_boot image ≡ b → is_whole_map (bytes_at image 0 1024) ≡ f → is_whole_map (bytes_at image 1024 1024) ≡ s
        → (is_old_map image && is_in_range 7 2560 (old_units image)) ≡ l → KindChoice b f s d l image ≡ Some kind → IsKind kind
    by true f s d l g h i j k =
        subst IsKind (some_kind (Boot (boot_record image)) kind k)
        (valid_record (bytes_at (boot_block image) 0x1C0 60) (and_second (nat_le 0xE00 (length image) && (slice_index (boot_block image) 511 == boot_check (boot_block image))) (is_valid (boot_record image)) g))
    by false true s d l g h i j k = subst IsKind (some_kind (OneZone (map_record (bytes_at image 0 1024))) kind k) (whole_kind (bytes_at image 0 1024) h)
    by false false true d l g h i j k = subst IsKind (some_kind (OneZone (map_record (bytes_at image 1024 1024))) kind k) (whole_kind (bytes_at image 1024 1024) i)
    by false false false true l g h i j k = subst IsKind (some_kind DiscD kind k) tt
    by false false false false true g h i j k =
        let range = and_second (is_old_map image) (is_in_range 7 2560 (old_units image)) j in
        subst IsKind (some_kind (DiscL (old_units image)) kind k)
        (leb-true 7 (old_units image) (and_first (nat_le 7 (old_units image)) (nat_le (old_units image) 2560) range), leb-true (old_units image) 2560 (and_second (nat_le 7 (old_units image)) (nat_le (old_units image) 2560) range))
    by false false false false false g h i j k = absurd (cc)

pub accepted_law : AcceptedLaw
unfolding open_image
accepted_law image v e = by (kind_of image) refl e
  where
    by : (o : Option Kind) → kind_of image ≡ o → open_as_some image o ≡ Ok v → OpensAs image v.kind v
    by None h opened = absurd (cc)
    by (Some kind) h opened =
        let is : kind ≡ v.kind = ap (λ (w : Opened). w.kind) (parts_of image kind v opened).1.4 in
        subst (λ (k : Kind). OpensAs image k v) is (record { kind_right = kind_right image kind h; opened = opened })
