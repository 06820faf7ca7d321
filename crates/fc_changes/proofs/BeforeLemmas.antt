-- What an opened disc with a new map has, and the map that comes after it.
use Rattle.std.proofs.Common.{◌≡◌, ◌≤◌, ◌⊎◌, inl, inr, ℕ, Bool, true, false, cond, List, [], ◌∷◌, ◌++◌, length, drop, refl, sym, ap, subst, ◌∙◌, Some, None, Option}
use Rattle.std.specs.Option.{option_map_or}
use Rattle.std.specs.Prelude.{Contains, ◌==◌, ◌&&◌, nat_le}
use Rattle.std.specs.Int.{div_ceil}
use Rattle.std.proofs.lemmas.Bool.{leb-true, false_from_ne_true as unless}
use Rattle.std.proofs.lemmas.List.Sorted.{Contains-permutation, IsPermutation-sym}
use Rattle.fc_names.specs.Names.{Path, is_same_path}
use Rattle.fc_record.specs.declared.DiscRecord.{DiscRecord}
use Rattle.fc_record.specs.declared.Geometry.{Geometry}
use Rattle.fc_record.specs.declared.Kind.{Kind}
use Rattle.fc_record.specs.Kinds.{map_record}
use Rattle.fc_newmap.specs.Map.{Map, IsMap, map_sectors, sector_of}
use Rattle.fc_newmap.specs.NewMap.{IsNewMap}
use Rattle.fc_newmap.proofs.MapLemmas.{map_of_no_fault, no_fault_of_zones}
use Rattle.fc_newmap.proofs.PlaceLemmas.{in_back}
use Rattle.fc_newmap.specs.declared.copies.Which.TheVariants.{One}
use Rattle.fc_newmap.specs.Copies.{Chooses, HoldsCopies, chosen, copy_of, is_sound}
use Rattle.fc_model.specs.Tree.{holder}
use Rattle.fc_image.specs.Layout.{Layout, first_part, id_of, id_sectors, is_among, is_apart, low_of, low_start, map_place, sectors_at}
use Rattle.fc_image.specs.Report.{holder_address}
use Rattle.fc_image.specs.Walk.{Listing, Object, is_directory_object, reader_of}
use Rattle.fc_image.specs.Objects.{first_object, objects_of}
use Rattle.fc_image.specs.Opening.{Opened, agreement, boot_place, difference, reserved_in}
use Rattle.fc_image.specs.Stays.{HasSectorsOf, IsNewKind, OpensAs}
use Rattle.fc_image.specs.Edits.{IsListing, IsRoot}
use Rattle.fc_image.specs.Order.{AreListings, directories, held, listed}
use Rattle.fc_image.specs.Sound.{AreSound}
use Rattle.fc_image.specs.MapEdits.{IsMapEdit}
use Rattle.fc_image.specs.Written.{WritesOnly}
use Rattle.fc_image.proofs.HolesLemmas.{Each-contains, Each-objects, Lies, OpenMap, apart_at, none_loose, walk_lies}
use Rattle.fc_image.proofs.MoveLemmas.{open_by}
use Rattle.fc_image.proofs.OrderLemmas.{order_law}
use Rattle.fc_image.proofs.OpenedLemmas.{edited_image_law}
use Rattle.fc_image.proofs.ShuffleLemmas.{same_first}
use Rattle.fc_image.proofs.EntriesLemmas.{from_filter, from_map, in_mapped}
use Rattle.fc_image.proofs.MapEditLemmas.{listed_old}
use Rattle.fc_image.proofs.LookupLemmas.{lookup_law}
use Rattle.fc_image.proofs.TreeLemmas.{tree_edit_law}
use Rattle.fc_changes.proofs.BasicLemmas.{cases_cons, clash, first_in, in_flat, next_in}

-- ---- copies

if_true : {X : Type 0} (b : Bool) (x y : X) → b ≡ true → cond b x y ≡ x
if_true true x y e = refl
if_true false x y e = absurd (cc)

pub chosen_copies : (g : Geometry) (zones : List (List ℕ)) (image : List ℕ) → HoldsCopies g zones image → Chooses g zones image
unfolding chosen
chosen_copies g zones image copies = record {
  which = One;
  chosen_one = if_true (is_sound (copy_of g One image)) _ _ (ap is_sound copies.first ∙ copies.sound);
  content = copies.first;
}

pub map_of_new : (m : Map) → IsNewMap m → IsMap m
map_of_new m is = map_of_no_fault m is.all is.whole (no_fault_of_zones m is.right)

-- ---- an object's identifier

-- an object with sectors has an identifier from 2 on
pub id_high : (m : Map) (address bytes : ℕ) (sectors : List ℕ) (s : ℕ) → sectors_at (Layout.New m) address bytes ≡ Some sectors → is_among sectors s ≡ true → 2 ≤ id_of address
unfolding sectors_at
id_high m address bytes sectors s e h = by (bytes == 0) (nat_le 2 (id_of address)) _ refl e
  where
    by : (b high low : Bool) → nat_le 2 (id_of address) ≡ high
        → cond b (Some []) (cond (high && low) (first_part (div_ceil bytes m.geometry.sector) (drop (low_start m (low_of address)) (id_sectors m (id_of address)))) None) ≡ Some sectors
        → 2 ≤ id_of address
    by true high low t f = absurd (let none : [] ≡ sectors = cc in let g : is_among [] s ≡ true = subst (λ (ys : List ℕ). is_among ys s ≡ true) (sym none) h in cc)
    by false true low t f = leb-true 2 (id_of address) t
    by false false low t f = absurd (cc)

-- the address of the directory that holds a path
pub address_by : (layout : Layout) (found : List Listing) (p : Path) (dir : Listing) → AreSound layout found → Contains found dir → is_same_path (holder p) dir.object.path ≡ true
    → holder_address found p ≡ dir.object.entry.address
address_by layout found p dir is at same =
    ap (λ (o : Option Listing). option_map_or (λ (l : Listing). l.object.entry.address) o 0) (lookup_law.listing layout found (holder p) dir is at same)

-- ---- the disc before

-- what is opened is of this kind and has this map
pub opened_as : (kind : Kind) (r : DiscRecord) (image : List ℕ) (v : Opened) (m : Map) → IsNewKind kind r → OpensAs image kind v → v.layout ≡ Layout.New m
    → (let u : Opened = record { kind = kind; layout = Layout.New m; listings = v.listings } in u) ≡ v
opened_as kind r image v m new opens layout =
    let o = open_by image kind r v m new opens layout in
    λ j. record { kind = sym o.kind_is j; layout = sym layout j; listings = v.listings }

module _ (kind : Kind) (r : DiscRecord) (image : List ℕ) (m : Map) (ls : List Listing) (new : IsNewKind kind r)
    (opens : OpensAs image kind (record { kind = kind; layout = Layout.New m; listings = ls })) where
  abbrev pub old : Opened
  old = record { kind = kind; layout = Layout.New m; listings = ls }

  abbrev pub reserved : List ℕ
  reserved = reserved_in kind (Layout.New m)

  pub parts : OpenMap image kind r old m
  parts = open_by image kind r old m new opens refl

  -- the root, and what the directories say
  pub record Had : Type 0 where
    pub root : Object
    pub is_root : IsRoot (Layout.New m) parts.root parts.size root
    pub all : AreListings (reader_of image (Layout.New m)) (Layout.New m) root ls
    pub objects : objects_of ls ≡ root ∷ held ls
    pub first : first_object ls ≡ root ∷ []

  pub had : Had
  had =
      let h = order_law.gives (reader_of image (Layout.New m)) (Layout.New m) reserved parts.root parts.size ls parts.walked in
      record { root = h.0; is_root = h.1; all = h.2; objects = h.4; first = top ls h.0 (held ls) h.4 }
    where
      top : (xs : List Listing) (root : Object) (others : List Object) → first_object xs ++ held xs ≡ root ∷ others → first_object xs ≡ root ∷ []
      top [] root others e = absurd (cc)
      top (l ∷ xs) root others e = ap (λ (o : Object). o ∷ []) (same_first l.object root (l.children ++ held xs) others e)

  pub sound : AreSound (Layout.New m) ls
  sound = tree_edit_law.opened image kind old opens

  -- where an object lies
  pub object_lies : (o : Object) → Contains (objects_of ls) o → Lies (Layout.New m) reserved o
  object_lies o at =
      Each-contains (Lies (Layout.New m) reserved) (objects_of ls) o
      (Each-objects (Lies (Layout.New m) reserved) ls (walk_lies (reader_of image (Layout.New m)) (Layout.New m) reserved parts.root parts.size ls parts.walked)) at

  -- a listed directory is an object
  pub listed_in : (l : Listing) → Contains ls l → Contains (objects_of ls) l.object
  listed_in l at =
      subst (λ (os : List Object). Contains os l.object) (sym had.objects)
      (elim (cases_cons had.root (directories (held ls)) l.object
      (Contains-permutation (listed ls) (had.root ∷ directories (held ls)) l.object had.all.all (in_mapped (λ (x : Listing). x.object) ls l at))) [
        | inl top ↦ subst (λ (o : Object). Contains (had.root ∷ held ls) o) top (first_in had.root (held ls))
        | inr kept ↦ next_in had.root l.object (held ls) (from_filter is_directory_object (held ls) l.object kept)
      ])

  -- an object is a listed directory's, or is held by one
  pub object_from : (o : Object) → Contains (objects_of ls) o → ((l : Listing) × Contains ls l × (l.object ≡ o)) ⊎ ((l : Listing) × Contains ls l × Contains l.children o)
  object_from o at = elim (cases_cons had.root (held ls) o (subst (λ (os : List Object). Contains os o) had.objects at)) [
    | inl top ↦ (let l = from_map (λ (x : Listing). x.object) ls had.root
        (Contains-permutation (had.root ∷ directories (held ls)) (listed ls) had.root (IsPermutation-sym (listed ls) (had.root ∷ directories (held ls)) had.all.all) (first_in had.root (directories (held ls)))) in
        inl (l.0, l.1, l.2 ∙ top))
    | inr kept ↦ inr (in_flat (λ (x : Listing). x.children) ls o kept)
  ]

  -- the new map
  pub map_edit : (m' : Map) (image' : List ℕ) → IsNewMap m' → m'.geometry ≡ m.geometry → HoldsCopies m.geometry m'.zones image' → map_record (sector_of m' 0) ≡ map_record (sector_of m 0)
      → length image' ≡ length image → HasSectorsOf m.geometry.sector (boot_place kind m.geometry.sector) image image'
      → (own : DiscRecord) × IsMapEdit kind r own image image' old m m' had.root
  map_edit m' image' is same copies stays long boot =
      let h = edited_image_law.map image kind r old m new opens refl in (
        h.own,
        record {
          new_kind = new;
          opens = opens;
          layout = refl;
          first = had.first;
          geometry_stays = same;
          agreed = ap (λ (s : DiscRecord). agreement r s (difference r s)) stays ∙ h.agreed;
          is_map = map_of_new m' is;
          chosen_map = chosen_copies m.geometry m'.zones image' copies;
          length_stays = long;
          boot_stays = boot;
        },
      )

  -- the boot block's sectors are not written
  pub boot_stays : (sectors image' : List ℕ) → is_apart sectors reserved ≡ true → WritesOnly m sectors image image' → HasSectorsOf m.geometry.sector (boot_place kind m.geometry.sector) image image'
  boot_stays sectors image' apart writes s h =
      let in_reserved = in_back (map_place (Layout.New m)) (boot_place kind m.geometry.sector) s h in
      writes s
      (unless (is_among sectors s) (λ i. clash (is_among reserved s) in_reserved (apart_at sectors reserved s apart i)))
      (none_loose (map_sectors m.geometry) (boot_place kind m.geometry.sector) parts.apart s h)

  -- ---- the directory that holds a directory

  module _ (own : DiscRecord) (image' : List ℕ) (m' : Map) (e : IsMapEdit kind r own image image' old m m' had.root) where
    pub says_old : (l : Listing) → Contains ls l → IsListing (reader_of image (Layout.New m)) (Layout.New m) l
    says_old l at = listed_old kind r own image image' old m m' had.root e l at
