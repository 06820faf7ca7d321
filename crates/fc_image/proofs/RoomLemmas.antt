-- A walk finds no more directories than there are sectors.
use Rattle.std.proofs.Common.{◌≡◌, ◌<◌, ◌≤◌, ℕ, zero, suc, ◌+◌, ◌-◌, ◌*◌, ◌/◌, ◌%◌, Bool, true, false, cond, List, [], ◌∷◌, ◌++◌, length, take, refl, sym, ap, subst, ◌∙◌, arith, eqb, Some, None, Option, leb-true, lt_of_lt_of_le}
use Rattle.std.specs.Prelude.{Result, Ok, Err, Contains, filter, ◌==◌, ◌||◌, ◌&&◌, nat_le}
use Rattle.std.specs.List.{flat_map, list_any, range_with_len, IsDistinct, AllByRecursion}
use Rattle.std.proofs.lemmas.Bool.{eqb-true, eqb-false, eq-eqb, ne_eqb, false_from_ne_true as unless}
use Rattle.std.proofs.lemmas.Map.Steps.{length-le_from_distinct_below}
use Rattle.std.proofs.lemmas.List.{length-append}
use Rattle.std.proofs.lemmas.List.Concat.{flat_map-append}
use Rattle.std.specs.Int.{div_ceil}
use Rattle.fc_oldmap.specs.OldMap.{OldMapContent, free_space, hole_fault}
use Rattle.fc_record.specs.declared.DiscRecord.{DiscRecord}
use Rattle.fc_record.specs.declared.Kind.{Kind}
use Rattle.fc_record.specs.declared.Kind.TheVariants.{Boot, OneZone, DiscD, DiscL}
use Rattle.fc_record.specs.declared.Geometry.{Geometry}
use Rattle.fc_record.specs.Record.{base}
use Rattle.fc_names.specs.declared.name.NameForm.{NameForm}
use Rattle.fc_names.specs.declared.name.NameForm.TheVariants.{Seven, Ten, Long}
use Rattle.fc_newmap.specs.Map.{id_runs}
use Rattle.fc_newmap.proofs.PlaceLemmas.{in_front, in_back, in_either, holder_of, id_run_in}
use Rattle.fc_newmap.proofs.CoverLemmas.{Distinct, Distinct-append, run_on_disc}
use Rattle.fc_dirs.specs.Directory.{Directory, directory_of, directory_size, entries_of}
use Rattle.fc_dirs.specs.Small.{small_fault}
use Rattle.fc_dirs.specs.Big.{big_fault}
use Rattle.fc_image.specs.declared.ImageFault.{ImageFault}
use Rattle.fc_image.specs.Layout.{Layout, dir_form, disc_sectors, sector_bytes, id_of, sectors_at, bytes_in, is_among}
use Rattle.fc_image.specs.Walk.{Object, Listing, Reader, reader_of, at_path, object_of, children_of, is_directory_object, object_size, listings_from, root_entry, walk}
use Rattle.fc_image.specs.Opening.{Opened, MapAndRoot, map_and_root, holes_or, reserved_in}
use Rattle.fc_image.specs.Stays.{IsNewKind, OpensAs}
use Rattle.fc_image.specs.Edits.{Apart, RoomLaw}
use Rattle.fc_image.proofs.FreeLemmas.{parts_of, range_bounds}
use Rattle.fc_image.proofs.WalkLemmas.{bind_ok, walk-Tells}
use Rattle.fc_image.proofs.HolesLemmas.{open_map, EachListed, Lies, walk_lies, in_id, apart_at}
use Rattle.fc_image.proofs.EditLemmas.{children_have, taken_by, ok_listings as listings_ok}

-- the first sector of each object that has one
firsts : List Object → List ℕ
firsts objects = flat_map (λ o. take 1 o.sectors) objects

firsts_of : List Listing → List ℕ
firsts_of listings = flat_map (λ l. take 1 l.object.sectors) listings

pub first_in : (xs : List ℕ) (s : ℕ) → is_among (take 1 xs) s ≡ true → is_among xs s ≡ true
first_in [] s e = e
first_in (x ∷ xs) s e = in_front (x ∷ []) xs s e

pub first_Distinct : (xs : List ℕ) → Distinct (take 1 xs)
first_Distinct [] = tt
first_Distinct (x ∷ xs) = (refl, tt)

taken_more : (taken : List ℕ) (objects : List Object) (s : ℕ) → is_among taken s ≡ true → is_among (taken_by taken objects) s ≡ true
taken_more taken [] s e = e
taken_more taken (o ∷ objects) s e = taken_more (o.sectors ++ taken) objects s (in_back o.sectors taken s e)

-- the first sectors of objects that are apart are different, were not taken, and are then
record IsNew (taken : List ℕ) (objects kept : List Object) : Type 0 where
  pub once : Distinct (firsts kept)
  pub free : (s : ℕ) → is_among (firsts kept) s ≡ true → is_among taken s ≡ false
  pub after : (s : ℕ) → is_among (firsts kept) s ≡ true → is_among (taken_by taken objects) s ≡ true

are_new : (t : Object → Bool) (taken : List ℕ) (objects : List Object) → Apart taken objects → IsNew taken objects (filter t objects)
unfolding firsts
are_new t taken [] a = record { once = tt; free = λ s e. absurd (cc); after = λ s e. absurd (cc) }
are_new t taken (o ∷ objects) a = by (t o) (are_new t (o.sectors ++ taken) objects a.1)
  where
    later_free : (s : ℕ) → is_among (o.sectors ++ taken) s ≡ false → is_among taken s ≡ false
    later_free s e = unless (is_among taken s) (λ i. let h = in_back o.sectors taken s i in cc)

    by : (b : Bool) → IsNew (o.sectors ++ taken) objects (filter t objects) → IsNew taken (o ∷ objects) (cond b (o ∷ filter t objects) (filter t objects))
    by false n = record { once = n.once; free = λ s e. later_free s (n.free s e); after = n.after }
    by true n = record {
      once = Distinct-append (take 1 o.sectors) (firsts (filter t objects)) (first_Distinct o.sectors) n.once
          (λ s i j. let h = n.free s j in let k = in_front o.sectors taken s (first_in o.sectors s i) in cc);
      free = λ s e. elim (in_either (take 1 o.sectors) (firsts (filter t objects)) s e) [
        | Ok here ↦ apart_at o.sectors taken s a.0 (first_in o.sectors s here)
        | Err later ↦ later_free s (n.free s later)
      ];
      after = λ s e. elim (in_either (take 1 o.sectors) (firsts (filter t objects)) s e) [
        | Ok here ↦ taken_more (o.sectors ++ taken) objects s (in_front o.sectors taken s (first_in o.sectors s here))
        | Err later ↦ n.after s later
      ];
    }

record AreOnce (taken : List ℕ) (waiting : List Object) (listings : List Listing) : Type 0 where
  pub once : Distinct (firsts_of listings)
  pub whence : (s : ℕ) → is_among (firsts_of listings) s ≡ true → Result (is_among (firsts waiting) s ≡ true) (is_among taken s ≡ false)

listings_once : (read : Reader) (layout : Layout) (fuel : ℕ) (taken : List ℕ) (waiting : List Object) (listings : List Listing)
    → listings_from read layout fuel taken waiting ≡ Ok listings → Distinct (firsts waiting)
    → ((s : ℕ) → is_among (firsts waiting) s ≡ true → is_among taken s ≡ true) → AreOnce taken waiting listings
unfolding listings_from firsts firsts_of
listings_once read layout zero taken [] listings h d w = subst (AreOnce taken []) (listings_ok [] listings h) (record { once = tt; whence = λ s e. absurd (cc) })
listings_once read layout zero taken (o ∷ waiting) listings h d w = absurd (cc)
listings_once read layout (suc fuel) taken [] listings h d w = subst (AreOnce taken []) (listings_ok [] listings h) (record { once = tt; whence = λ s e. absurd (cc) })
listings_once read layout (suc fuel) taken (o ∷ waiting) listings h d w =
    let a = bind_ok (at_path o.path (read o)) _ listings h in
    let b = bind_ok (children_of layout taken o.path (entries_of a.0)) _ listings a.2 in
    let e = bind_ok (listings_from read layout fuel b.0.1 (waiting ++ filter is_directory_object b.0.0)) _ listings b.2 in
    let first : Listing = record { object = o; content = a.0; children = b.0.0 } in
    let dirs = filter is_directory_object b.0.0 in
    let kids = children_have layout taken o.path (entries_of a.0) b.0 b.1 in
    let new = are_new is_directory_object taken b.0.0 kids.1 in
    let both : firsts (waiting ++ dirs) ≡ firsts waiting ++ firsts dirs = flat_map-append (λ (p : Object). take 1 p.sectors) waiting dirs in
    let mine : (s : ℕ) → is_among (take 1 o.sectors) s ≡ true → is_among taken s ≡ true = λ s i. w s (in_front (take 1 o.sectors) (firsts waiting) s i) in
    let rest_taken : (s : ℕ) → is_among (firsts waiting) s ≡ true → is_among taken s ≡ true = λ s i. w s (in_back (take 1 o.sectors) (firsts waiting) s i) in
    let after : (s : ℕ) → is_among taken s ≡ true → is_among b.0.1 s ≡ true = λ s i. subst (λ (xs : List ℕ). is_among xs s ≡ true) kids.2 (taken_more taken b.0.0 s i) in
    let cut = apart_parts (take 1 o.sectors) (firsts waiting) d in
    let rest = listings_once read layout fuel b.0.1 (waiting ++ dirs) e.0 e.1
    (subst Distinct (sym both) (Distinct-append (firsts waiting) (firsts dirs) cut.1.0 new.once (λ s i j. let no' = new.free s j in let yes' = rest_taken s i in cc)))
    (λ s i. elim (in_either (firsts waiting) (firsts dirs) s (subst (λ (xs : List ℕ). is_among xs s ≡ true) both i)) [
      | Ok here ↦ after s (rest_taken s here)
      | Err later ↦ subst (λ (xs : List ℕ). is_among xs s ≡ true) kids.2 (new.after s later)
    ]) in
    let from_rest : (s : ℕ) → is_among (firsts_of e.0) s ≡ true → Result (is_among (firsts waiting) s ≡ true) (is_among taken s ≡ false) =
    λ s i. elim (rest.whence s i) [
      | Ok here ↦ elim (in_either (firsts waiting) (firsts dirs) s (subst (λ (xs : List ℕ). is_among xs s ≡ true) both here)) [
        | Ok front ↦ Ok front
        | Err back ↦ Err (new.free s back)
      ]
      | Err free ↦ Err (unless (is_among taken s) (λ j. let yes' = after s j in cc))
    ] in
    subst (AreOnce taken (o ∷ waiting)) (listings_ok (first ∷ e.0) listings e.2)
    (record {
      once = Distinct-append (take 1 o.sectors) (firsts_of e.0) cut.0 rest.once
          (λ s i j. elim (from_rest s j) [ Ok here ↦ cut.1.1 s i here | Err free ↦ (let yes' = mine s i in cc) ]);
      whence = λ s i. elim (in_either (take 1 o.sectors) (firsts_of e.0) s i) [
        | Ok here ↦ Ok (in_front (take 1 o.sectors) (firsts waiting) s here)
        | Err later ↦ elim (from_rest s later) [ Ok here ↦ Ok (in_back (take 1 o.sectors) (firsts waiting) s here) | Err free ↦ Err free ]
      ];
    })
  where
    apart_parts : (xs ys : List ℕ) → Distinct (xs ++ ys) → Distinct xs × (Distinct ys × ((s : ℕ) → is_among xs s ≡ true → is_among ys s ≡ true → ⊥))
    apart_parts [] ys g = (tt, (g, λ s i j. cc))
    apart_parts (x ∷ xs) ys g =
        let r = apart_parts xs ys g.1 in (
          (unless (is_among xs x) (λ i. let yes' = in_front xs ys x i in let no' = g.0 in cc), r.0),
          (r.1.0, λ s i j. here x xs ys s g.0 (r.1.1 s) (x == s) refl i j),
        )
      where
        here : (x : ℕ) (xs ys : List ℕ) (s : ℕ) → is_among (xs ++ ys) x ≡ false → (is_among xs s ≡ true → is_among ys s ≡ true → ⊥) → (b : Bool) → (x == s) ≡ b
            → (b || is_among xs s) ≡ true → is_among ys s ≡ true → ⊥
        here x xs ys s out more true t i j = let yes' = in_back xs ys x (subst (λ (k : ℕ). is_among ys k ≡ true) (sym (eqb-true x s t)) j) in cc
        here x xs ys s out more false t i j = more i j

-- ---- numbers

pub std_Distinct : (xs : List ℕ) → Distinct xs → IsDistinct eqb xs
unfolding IsDistinct
std_Distinct [] d = tt
std_Distinct (x ∷ xs) d = (differ x xs d.0, std_Distinct xs d.1)
  where
    differ : (x : ℕ) (ys : List ℕ) → is_among ys x ≡ false → AllByRecursion (λ y. eqb x y ≡ false) ys
    differ x [] e = tt
    differ x (y ∷ ys) e = by (y == x) refl e (differ x ys)
      where
        by : (b : Bool) → (y == x) ≡ b → (b || is_among ys x) ≡ false → (is_among ys x ≡ false → AllByRecursion (λ z. eqb x z ≡ false) ys) → AllByRecursion (λ z. eqb x z ≡ false) (y ∷ ys)
        by true t g more = absurd (cc)
        by false t g more = (ne_eqb x y (λ same. eqb-false y x t (sym same)), more g)

pub std_any : (q : ℕ) (xs : List ℕ) → list_any (eqb q) xs ≡ true → is_among xs q ≡ true
std_any q [] e = e
std_any q (x ∷ xs) e = by (eqb q x) refl e (std_any q xs)
  where
    by : (b : Bool) → eqb q x ≡ b → (b || list_any (eqb q) xs) ≡ true → (list_any (eqb q) xs ≡ true → is_among xs q ≡ true) → is_among (x ∷ xs) q ≡ true
    by true t g more = ap (λ c. c || is_among xs q) (eq-eqb x q (sym (eqb-true q x t)))
    by false t g more = in_back (x ∷ []) xs q (more g)

-- ---- each directory has a sector

empty_fails : (form : NameForm) (dir : Directory) → directory_of form [] ≡ Ok dir → ⊥
unfolding small_fault big_fault
empty_fails Seven dir e = cc
empty_fails Ten dir e = cc
empty_fails Long dir e = cc

has_first : (image : List ℕ) (layout : Layout) (o : Object) (dir : Directory) → reader_of image layout o ≡ Ok dir → length (take 1 o.sectors) ≡ 1
unfolding bytes_in
has_first image layout o dir e = by o.sectors refl
  where
    none : (n : ℕ) → take {A = ℕ} n [] ≡ []
    none zero = refl
    none (suc n) = refl

    by : (xs : List ℕ) → o.sectors ≡ xs → length (take 1 xs) ≡ 1
    by [] h = absurd (empty_fails (dir_form layout) dir
        (ap (directory_of (dir_form layout)) (sym (ap (λ (xs : List ℕ). bytes_in (sector_bytes layout) image xs (object_size (dir_form layout) o.entry)) h ∙ none (object_size (dir_form layout) o.entry))) ∙ e))
    by (x ∷ xs) h = refl

count_firsts : (image : List ℕ) (layout : Layout) (listings : List Listing) → ((l : Listing) → Contains listings l → reader_of image layout l.object ≡ Ok l.content)
    → length (firsts_of listings) ≡ length listings
unfolding firsts_of
count_firsts image layout [] told = refl
count_firsts image layout (l ∷ listings) told =
    let here = has_first image layout l.object l.content (told l (0, omega arith, refl)) in
    let rest = count_firsts image layout listings (λ k c. told k (suc c.0, omega (arith, c.1), c.2)) in
    omega (arith, here, rest, length-append (take 1 l.object.sectors) (firsts_of listings))

firsts_low : (n : ℕ) (P : Object → Type 0) → ((o : Object) → P o → (s : ℕ) → is_among o.sectors s ≡ true → s < n) → (listings : List Listing) → EachListed P listings
    → (s : ℕ) → is_among (firsts_of listings) s ≡ true → s < n
unfolding firsts_of
firsts_low n P low [] each s e = absurd (cc)
firsts_low n P low (l ∷ listings) each s e = elim (in_either (take 1 l.object.sectors) (firsts_of listings) s e) [
  | Ok here ↦ low l.object each.0 s (first_in l.object.sectors s here)
  | Err later ↦ firsts_low n P low listings each.2 s later
]

walk_once : (read : Reader) (layout : Layout) (reserved : List ℕ) (address size : ℕ) (listings : List Listing) → walk read layout reserved address size ≡ Ok listings → Distinct (firsts_of listings)
unfolding walk firsts
walk_once read layout reserved address size listings h =
    let root = bind_ok (object_of layout reserved [] (root_entry address (directory_size (dir_form layout) size))) _ listings h in
    (listings_once read layout _ (root.0.sectors ++ reserved) (root.0 ∷ []) listings root.2
    (Distinct-append (take 1 root.0.sectors) [] (first_Distinct root.0.sectors) tt (λ s i j. cc))
    (λ s i. elim (in_either (take 1 root.0.sectors) [] s i) [
      | Ok here ↦ in_front root.0.sectors reserved s (first_in root.0.sectors s here)
      | Err later ↦ absurd (cc)
    ])).once

pub new_room : (image : List ℕ) (kind : Kind) (r : DiscRecord) (v : Opened) → IsNewKind kind r → OpensAs image kind v → length v.listings ≤ disc_sectors v.layout
new_room image kind r v new e =
    let found = open_map image kind r v new e in
    let m = found.0 in
    let o = found.1 in
    let layout = Layout.New m in
    let lies = walk_lies (reader_of image layout) layout (reserved_in kind layout) o.root o.size v.listings o.walked in
    let begun : base m.geometry (m.geometry.zones - 1) < m.geometry.disc_bits =
    subst (λ (g : Geometry). base g (g.zones - 1) < g.disc_bits) (sym o.geometry_is) o.facts.begun in
    let low : (x : Object) → Lies layout (reserved_in kind layout) x → (s : ℕ) → is_among x.sectors s ≡ true → s < disc_sectors layout =
    λ x l s i.
    (let p = holder_of m.geometry (id_runs m (id_of x.entry.address)) s (in_id m x.entry.address _ x.sectors s l.placed i) in
    let p_in = id_run_in m (id_of x.entry.address) p.0 o.some p.1.0 in
    run_on_disc m o.shape o.zones o.some begun p.0 s p_in.0 p.1.1) in
    let firsts' = firsts_of v.listings in
    let once = walk_once (reader_of image layout) layout (reserved_in kind layout) o.root o.size v.listings o.walked in
    let told = walk-Tells (reader_of image layout) layout (reserved_in kind layout) o.root o.size v.listings o.walked in
    let count = count_firsts image layout v.listings told in
    let most = length-le_from_distinct_below firsts' (disc_sectors layout) (std_Distinct firsts' once)
    (λ q h. firsts_low (disc_sectors layout) (Lies layout (reserved_in kind layout)) low v.listings lies q (std_any q firsts' h)) in
    subst (λ (l : Layout). length v.listings ≤ disc_sectors l) (sym o.layout) (omega arith)

-- ---- discs with old maps

-- an address of an old map leads to sectors of the disc
old_low : (space : OldMapContent) (address bytes : ℕ) (xs : List ℕ) → sectors_at (Layout.Old space) address bytes ≡ Some xs → (s : ℕ) → is_among xs s ≡ true → s < disc_sectors (Layout.Old space)
unfolding sectors_at
old_low space address bytes xs h s i =
    by (bytes == 0) (address % space.sector_units == 0)
    (nat_le (address / space.sector_units + div_ceil bytes (256 * space.sector_units)) (space.disc_units / space.sector_units)) refl h
  where
    first : ℕ
    first = address / space.sector_units

    count : ℕ
    count = div_ceil bytes (256 * space.sector_units)

    inside : (ys : List ℕ) → (let o : Option (List ℕ) = Some ys in o) ≡ Some xs → is_among ys s ≡ true
    inside ys e = subst (λ (zs : List ℕ). is_among zs s ≡ true) (sym (some_one ys xs e)) i
      where
        some_one : (a b : List ℕ) → Some a ≡ Some b → a ≡ b
        some_one a b g = cc

    by : (none whole low : Bool) → nat_le (address / space.sector_units + div_ceil bytes (256 * space.sector_units)) (space.disc_units / space.sector_units) ≡ low
        → cond none (Some []) (cond (whole && low) (Some (range_with_len (address / space.sector_units) (div_ceil bytes (256 * space.sector_units)))) None) ≡ Some xs
        → s < space.disc_units / space.sector_units
    by true whole low t e = absurd (let none = inside [] e in cc)
    by false false low t e = absurd (cc)
    by false true false t e = absurd (cc)
    by false true true t e =
        let most = leb-true (address / space.sector_units + div_ceil bytes (256 * space.sector_units)) (space.disc_units / space.sector_units) t in
        let bounds = range_bounds (address / space.sector_units) (div_ceil bytes (256 * space.sector_units)) s
        (inside (range_with_len (address / space.sector_units) (div_ceil bytes (256 * space.sector_units))) e) in
        lt_of_lt_of_le bounds.1 most

-- a walk over an old disc finds no more directories than sectors
pub old_room : (image : List ℕ) (space : OldMapContent) (reserved : List ℕ) (address size : ℕ) (listings : List Listing)
    → walk (reader_of image (Layout.Old space)) (Layout.Old space) reserved address size ≡ Ok listings → length listings ≤ disc_sectors (Layout.Old space)
old_room image space reserved address size listings h =
    let layout = Layout.Old space in
    let lies = walk_lies (reader_of image layout) layout reserved address size listings h in
    let once = walk_once (reader_of image layout) layout reserved address size listings h in
    let told = walk-Tells (reader_of image layout) layout reserved address size listings h in
    let count = count_firsts image layout listings told in
    let most = length-le_from_distinct_below (firsts_of listings) (disc_sectors layout) (std_Distinct (firsts_of listings) once)
    (λ q f. firsts_low (disc_sectors layout) (Lies layout reserved) (λ x l s i. old_low space x.entry.address _ x.sectors l.placed s i) listings lies q (std_any q (firsts_of listings) f)) in
    subst (λ (n : ℕ). n ≤ disc_sectors layout) count most

-- ---- all discs

-- an opened image whose old map is found in this way
old_kind_room : (image : List ℕ) (kind : Kind) (v : Opened) (units root : ℕ) (fault : Option ℕ) → map_and_root image kind ≡ holes_or (Layout.Old (free_space image units), root, 0) fault
    → OpensAs image kind v → length v.listings ≤ disc_sectors v.layout
old_kind_room image kind v units root fault is e =
    let parts = parts_of image kind v e.opened in
    let found = parts.0 in
    let same : (Layout.Old (free_space image units), root, 0) ≡ found = found_is (Layout.Old (free_space image units), root, 0) found fault (sym is ∙ parts.1.1) in
    let layout : Layout.Old (free_space image units) ≡ found.0 = ap (λ (f : MapAndRoot). f.0) same in
    let walked = subst (λ (l : Layout). walk (reader_of image l) l (reserved_in kind l) found.1 found.2 ≡ Ok v.listings) (sym layout) parts.1.2 in
    subst (λ (l : Layout). length v.listings ≤ disc_sectors l) (layout ∙ ap (λ (w : Opened). w.layout) parts.1.4)
    (old_room image (free_space image units) (reserved_in kind (Layout.Old (free_space image units))) found.1 found.2 v.listings walked)
  where
    found_is : (x y : MapAndRoot) (fault : Option ℕ) → holes_or x fault ≡ Ok y → x ≡ y
    found_is x y None f = cc
    found_is x y (Some index) f = absurd (cc)

pub room_law : RoomLaw
room_law image (Boot r) v e = new_room image (Boot r) r v refl e
room_law image (OneZone r) v e = new_room image (OneZone r) r v refl e
room_law image DiscD v e = old_kind_room image DiscD v 4 4 (hole_fault image 4) refl e
room_law image (DiscL n) v e = old_kind_room image (DiscL n) v 1 2 (hole_fault image 1) refl e
