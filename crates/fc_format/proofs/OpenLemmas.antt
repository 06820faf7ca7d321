-- How an image opens, from its parts.
use Rattle.std.proofs.Common.{◌≡◌, ◌<◌, ◌≤◌, ◌+◌, ◌*◌, take, drop, slice_index, slice_index_or, ℕ, zero, suc, Bool, true, false, ◌&&◌, ◌==◌, List, [], ◌∷◌, ◌++◌, length, Some, None, Result, Ok, refl, ap, sym, ◌∙◌, subst, arith, length-append, append_assoc}
use Rattle.fc_bytes.specs.Words.{bytes_at}
use Rattle.std.proofs.lemmas.Bool.{le-leb}
use Rattle.std.proofs.lemmas.List.{drop_at, take_at}
use Rattle.std.specs.List.{zip}
use Rattle.std.specs.Str.{bytes_eq}
use Rattle.fc_device.specs.Sectors.{sector_at}
use Rattle.fc_bytes.specs.Checks.{boot_check, is_half_right}
use Rattle.fc_record.specs.declared.DiscRecord.{DiscRecord}
use Rattle.fc_record.specs.declared.Kind.{Kind}
use Rattle.fc_record.specs.declared.Kind.TheVariants.{Boot, OneZone, DiscD, DiscL}
use Rattle.fc_record.specs.declared.Geometry.{Geometry}
use Rattle.fc_record.specs.Record.{geometry, is_valid, record_of}
use Rattle.fc_record.specs.Kinds.{boot_record, disc_size, fits_kind, is_boot, is_old_map, is_whole_map, kind_of, map_record, old_units}
use Rattle.fc_dirs.specs.Directory.{entries_of}
use Rattle.fc_newmap.specs.Map.{first_fault, zone_numbers}
use Rattle.fc_newmap.specs.declared.copies.Which.TheVariants.{One}
use Rattle.fc_newmap.specs.Copies.{chosen, copy_of, is_sound}
use Rattle.fc_image.specs.declared.ImageFault.{ImageFault}
use Rattle.fc_names.specs.declared.name.NameForm.{NameForm}
use Rattle.fc_image.specs.Layout.{Layout, dir_form}
use Rattle.fc_image.specs.Laws.{OpensLaw, Tells}
use Rattle.fc_image.specs.Walk.{◌>>=◌, Listing, Reader, reader_of, walk}
use Rattle.fc_image.specs.Objects.{objects_of}
use Rattle.fc_image.specs.Opening.{MapAndRoot, Opened, agreement, copy_or, difference, map_and_root, misplaced_sector, new_layout, open_as_some, open_image, reserved_in, zones_or}
use Rattle.fc_format.specs.Opens.{IsRootAlone}

never : (a : Bool) → a && false ≡ false
never true = refl
never false = refl

-- without a valid record there is no boot block
pub not_boot : (image : List ℕ) → is_valid (boot_record image) ≡ false → is_boot image ≡ false
not_boot image none = rw none (never _)

-- a whole map at the front makes the kind
pub one_zone_kind : (image : List ℕ) → is_boot image ≡ false → is_whole_map (bytes_at image 0 1024) ≡ true → kind_of image ≡ Some (OneZone (map_record (bytes_at image 0 1024)))
unfolding kind_of
one_zone_kind image other whole = rw (other, whole) refl

pub one_zone_fits : (image : List ℕ) (r : DiscRecord) → is_whole_map (bytes_at image 0 1024) ≡ true → (is_valid r && (r.log2_sector == 10) && (r.zones == 1)) ≡ true → fits_kind image (OneZone r) ≡ true
one_zone_fits image r whole right = rw (whole, right) refl

tells_one : (read : Reader) (root : Listing) → read root.object ≡ Ok root.content → Tells read (root ∷ [])
tells_one read root says l (zero, h, e) = subst (λ (x : Listing). read x.object ≡ Ok x.content) e says
tells_one read root says l (suc k, h, e) = absurd (omega (arith, h))

-- it opens, its tree is the root alone, and its directories have names of this form
abbrev pub OpensAlone : NameForm → List ℕ → Type 0
OpensAlone form image = (v : Opened) × (open_image image ≡ Ok v) × IsRootAlone v.listings × (dir_form v.layout ≡ form)

pub opens_alone : OpensLaw → (image : List ℕ) (kind : Kind) (layout : Layout) (address size : ℕ) (root : Listing) → kind_of image ≡ Some kind → fits_kind image kind ≡ true → disc_size kind ≤ length image
    → map_and_root image kind ≡ Ok (layout, address, size) → walk (λ o. Ok root.content) layout (reserved_in kind layout) address size ≡ Ok (root ∷ [])
    → misplaced_sector kind layout (objects_of (root ∷ [])) ≡ None → reader_of image layout root.object ≡ Ok root.content
    → root.object.path ≡ [] → entries_of root.content ≡ [] → root.children ≡ [] → OpensAlone (dir_form layout) image
unfolding open_image
opens_alone law image kind layout address size root is fits long found walked placed says top empty alone = (
  record { kind = kind; layout = layout; listings = root ∷ [] },
  ap (open_as_some image) is
      ∙ law image kind layout address size (λ o. Ok root.content) (root ∷ []) fits long found walked placed (tells_one (reader_of image layout) root says),
  record { root = root; alone = refl; at_top = top; empty = empty; no_children = alone },
  refl,
)

-- ---- old maps

pub is_old : (image : List ℕ) → 512 ≤ length image → is_half_right (bytes_at image 0 256) ≡ true → is_half_right (bytes_at image 256 256) ≡ true → is_old_map image ≡ true
is_old image long first second = rw (le-leb 512 (length image) long, first, second) refl

pub disc_d_kind : (image : List ℕ) → is_boot image ≡ false → is_whole_map (bytes_at image 0 1024) ≡ false → is_whole_map (bytes_at image 1024 1024) ≡ false
    → is_old_map image ≡ true → old_units image ≡ 3200 → kind_of image ≡ Some DiscD
unfolding kind_of
disc_d_kind image other first second old units = rw (other, first, second, old, units) refl

pub disc_l_kind : (image : List ℕ) → is_boot image ≡ false → is_whole_map (bytes_at image 0 1024) ≡ false → is_whole_map (bytes_at image 1024 1024) ≡ false
    → is_old_map image ≡ true → old_units image ≡ 2560 → kind_of image ≡ Some (DiscL 2560)
unfolding kind_of
disc_l_kind image other first second old units = rw (other, first, second, old, units) refl

pub disc_d_fits : (image : List ℕ) → is_old_map image ≡ true → old_units image ≡ 3200 → fits_kind image DiscD ≡ true
disc_d_fits image old units = rw (old, units) refl

pub disc_l_fits : (image : List ℕ) → is_old_map image ≡ true → old_units image ≡ 2560 → fits_kind image (DiscL 2560) ≡ true
disc_l_fits image old units = rw (old, units) refl

-- ---- boot blocks

pub boot_kind : (image block : List ℕ) → 0xE00 ≤ length image → bytes_at image 0xC00 512 ≡ block → (slice_index block 511 == boot_check block) ≡ true → is_valid (record_of (bytes_at block 0x1C0 60)) ≡ true
    → kind_of image ≡ Some (Boot (record_of (bytes_at block 0x1C0 60)))
unfolding kind_of
boot_kind image block long is check valid = rw (le-leb 0xE00 (length image) long, is, check, valid) refl

pub boot_fits : (image block : List ℕ) → 0xE00 ≤ length image → bytes_at image 0xC00 512 ≡ block → (slice_index block 511 == boot_check block) ≡ true → is_valid (record_of (bytes_at block 0x1C0 60)) ≡ true
    → bytes_eq (bytes_at block 0x1C0 60) (bytes_at block 0x1C0 60) ≡ true → fits_kind image (Boot (record_of (bytes_at block 0x1C0 60))) ≡ true
boot_fits image block long is check valid same = rw (le-leb 0xE00 (length image) long, is, check, valid, same) refl

-- ---- the copy that counts

-- the layout of these zones
abbrev pub layout_of : DiscRecord → List (List ℕ) → Result MapAndRoot ImageFault
layout_of r zones =
    let own = map_record (slice_index_or zones 0 []) in
    agreement r own (difference r own) >>= (λ s. zones_or (geometry r) zones (first_fault (geometry r) (zip (zone_numbers (geometry r)) zones)) >>= (λ m. Ok (Layout.New m, s.root, s.root_size)))

chosen_one : (g : Geometry) (image : List ℕ) (zones : List (List ℕ)) → copy_of g One image ≡ zones → is_sound zones ≡ true → chosen g image ≡ Ok One
unfolding chosen
chosen_one g image zones copy sound = rw (copy, sound) refl

pub first_layout : (image : List ℕ) (r : DiscRecord) (zones : List (List ℕ)) → copy_of (geometry r) One image ≡ zones → is_sound zones ≡ true → new_layout image r ≡ layout_of r zones
first_layout image r zones copy sound =
    ap (λ c. copy_or c >>= (λ which. layout_of r (copy_of (geometry r) which image))) (chosen_one (geometry r) image zones copy sound) ∙ ap (layout_of r) copy

-- ---- sectors of an image that is put together

-- some pieces, one after another, and what comes then
abbrev pub pieces : List (List ℕ) → List ℕ → List ℕ
pieces [] post = post
pieces (x ∷ xs) post = x ++ pieces xs post

-- each has the bytes of a sector
abbrev pub AreSectors : List (List ℕ) → Type 0
AreSectors [] = Unit {0}
AreSectors (x ∷ xs) = (length x ≡ 1024) × AreSectors xs

pub part_at : (pre x post : List ℕ) (at n : ℕ) → length pre ≡ at → length x ≡ n → take n (drop at (pre ++ (x ++ post))) ≡ x
part_at pre x post at n place whole = ap (λ (l : List ℕ). take n l) (drop_at pre (x ++ post) at place) ∙ take_at x post n whole

pub sector_is : (xs : List (List ℕ)) (pre post : List ℕ) (n k m : ℕ) → length pre ≡ n * 1024 → AreSectors xs → k < length xs → m ≡ n + k
    → sector_at 1024 (pre ++ pieces xs post) m ≡ slice_index_or xs k []
unfolding sector_at
sector_is [] pre post n k m place are lt is = absurd (omega (arith, lt))
sector_is (x ∷ xs) pre post n zero m place are lt is = part_at pre x (pieces xs post) (m * 1024) 1024 (omega (arith, place, is)) are.0
sector_is (x ∷ xs) pre post n (suc k) m place are lt is =
    ap (λ (l : List ℕ). take 1024 (drop (m * 1024) l)) (sym (append_assoc pre x (pieces xs post)))
    ∙ sector_is xs (pre ++ x) post (n + 1) k m (omega (arith, place, length-append pre x, are.0)) are.1 (omega (arith, lt)) (omega (arith, is))
