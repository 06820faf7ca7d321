-- Discs with new maps of which directories are edited.
use Rattle.std.proofs.Common.{◌≡◌, ◌<◌, ◌≤◌, ◌⊎◌, inl, inr, ℕ, zero, suc, ◌-◌, ◌*◌, ◌/◌, Bool, true, false, cond, List, [], ◌∷◌, ◌++◌, length, map, drop, refl, sym, ap, subst, ◌∙◌, arith, Some, None, eq-eqb, length-append}
use Rattle.std.specs.Prelude.{Result, Ok, Contains, IsPermutation, nat_le, nat_lt, ◌==◌, ◌||◌, ◌&&◌, not}
use Rattle.std.specs.List.{list_any}
use Rattle.std.specs.Int.{div_ceil}
use Rattle.std.proofs.lemmas.List.{length-map}
use Rattle.std.proofs.lemmas.List.Sorted.{IsPermutation-refl, IsPermutation-trans, IsPermutation-sym, IsPermutation-cons, IsPermutation-middle, length_permutation, list_any-IsPermutation}
use Rattle.fc_names.specs.Names.{Path}
use Rattle.fc_record.specs.declared.DiscRecord.{DiscRecord}
use Rattle.fc_record.specs.declared.Geometry.{Geometry}
use Rattle.fc_record.specs.declared.Kind.{Kind}
use Rattle.fc_names.specs.declared.name.NameForm.TheVariants.{Ten, Long}
use Rattle.fc_record.specs.Record.{id_limit}
use Rattle.fc_record.specs.Kinds.{map_record}
use Rattle.fc_newmap.specs.Map.{Map, ZoneRun, id_runs, sector_of, sectors_of}
use Rattle.fc_dirs.specs.declared.Entry.{Entry}
use Rattle.fc_dirs.specs.Directory.{entries_of, directory_size}
use Rattle.fc_image.specs.declared.ImageFault.{ImageFault}
use Rattle.fc_image.specs.Layout.{Layout, dir_form, disc_sectors, id_of, low_of, first_part, sectors_at}
use Rattle.fc_image.specs.Walk.{Object, Listing, Reader, reader_of, object_size, object_bytes, root_entry, walk, is_directory_object}
use Rattle.fc_image.specs.Objects.{first_object, objects_of, is_movable, is_owner_of}
use Rattle.fc_image.specs.Opening.{Opened, reserved_in, agreement, difference}
use Rattle.fc_image.specs.Stays.{IsNewKind, OpensAs, HasSectorsOf}
use Rattle.fc_image.specs.Edits.{IsAt, AreChildren, IsListing, Apart, IsRoot, StayListed}
use Rattle.fc_image.specs.Order.{listed, held, AreListings}
use Rattle.fc_image.specs.TreeEdits.{IsObjectEdit, IsMove}
use Rattle.fc_image.specs.Commanded.{IsKept, IsMoved, moved_path, moved_name}
use Rattle.fc_image.specs.EditedWalk.{IsImageEdit, IsWalkedAgain, moved_object}
use Rattle.fc_image.specs.EditedImage.{HasMap}
use Rattle.fc_image.specs.MapEdits.{KeepsPlace, PlacesLaw, IsMapEdit, IsNewMapEdit, EachApartFrom, IsDirectoryEdit, IsMovingEdit, OpensEdited, MapEditLaw}
use Rattle.fc_image.proofs.FreeLemmas.{object_same}
use Rattle.fc_image.proofs.EditLemmas.{apart_law, stay_law}
use Rattle.fc_image.proofs.RoomLemmas.{new_room}
use Rattle.fc_image.proofs.ShuffleLemmas.{same_first}
use Rattle.fc_image.proofs.OrderLemmas.{order_law, apart_shuffled, stay_shuffled, stay_append}
use Rattle.fc_image.proofs.RelistLemmas.{all_before, root_once, root_path_stays, root_name_stays, map_itself, apart_behind, apart_mapped, listed_itself, edited_walk_law, relisting_law}
use Rattle.fc_image.proofs.EntriesLemmas.{later}
use Rattle.fc_image.proofs.OpenedLemmas.{edited_image_law}
use Rattle.fc_zone.proofs.ZoneLemmas.{Contains-head as here}

-- ---- places

sectors_same : (g : Geometry) (zones zones' : List (List ℕ)) (a n : ℕ) (xs : List ℕ)
    → (n ≡ 0) ⊎ (id_runs (record { geometry = g; zones = zones' }) (id_of a) ≡ id_runs (record { geometry = g; zones = zones }) (id_of a))
    → sectors_at (Layout.New (record { geometry = g; zones = zones })) a n ≡ Some xs → sectors_at (Layout.New (record { geometry = g; zones = zones' })) a n ≡ Some xs
unfolding sectors_at
sectors_same g zones zones' a n xs (inl none) h =
    let test : (n == 0) ≡ true = eq-eqb n 0 none in
    ap (λ (b : Bool). cond b (Some []) (cond (nat_le 2 (id_of a) && nat_lt (id_of a) (id_limit g))
    (first_part (div_ceil n g.sector) (drop ((low_of a - 1) * (g.share / g.sector)) (sectors_of g (id_runs (record { geometry = g; zones = zones' }) (id_of a))))) None)) test
    ∙ sym (ap (λ (b : Bool). cond b (Some []) (cond (nat_le 2 (id_of a) && nat_lt (id_of a) (id_limit g))
    (first_part (div_ceil n g.sector) (drop ((low_of a - 1) * (g.share / g.sector)) (sectors_of g (id_runs (record { geometry = g; zones = zones }) (id_of a))))) None)) test)
    ∙ h
sectors_same g zones zones' a n xs (inr runs) h =
    ap (λ (ps : List ZoneRun). cond (n == 0) (Some []) (cond (nat_le 2 (id_of a) && nat_lt (id_of a) (id_limit g))
    (first_part (div_ceil n g.sector) (drop ((low_of a - 1) * (g.share / g.sector)) (sectors_of g ps))) None)) runs ∙ h

pub places_law : PlacesLaw
places_law m m' o geometry keeps at =
    subst (λ (n : Map). IsAt (Layout.New n) o) back
    (sectors_same m.geometry m.zones m'.zones o.entry.address (object_size (dir_form (Layout.New m)) o.entry) o.sectors
    (subst (λ (n : Map). KeepsPlace m n o) (sym back) keeps) at)
  where
    back : (let n : Map = record { geometry = m.geometry; zones = m'.zones } in n) ≡ m'
    back = λ i. record { geometry = sym geometry i; zones = m'.zones }

-- ---- elements

behind : {X : Type 0} (xs ys : List X) (x : X) → Contains ys x → Contains (xs ++ ys) x
behind [] ys x at = at
behind (y ∷ xs) ys x at = later y x (xs ++ ys) (behind xs ys x at)

before : {X : Type 0} (xs ys : List X) (x : X) → Contains xs x → Contains (xs ++ ys) x
before [] ys x at = absurd (omega (arith, at.1))
before (y ∷ xs) ys x (zero, low, e) = (0, omega arith, e)
before (y ∷ xs) ys x (suc k, low, e) = later y x (xs ++ ys) (before xs ys x (k, omega (arith, low), e))

pub held_in : (listings : List Listing) (k : Listing) (o : Object) → Contains listings k → Contains k.children o → Contains (held listings) o
held_in [] k o at child = absurd (omega (arith, at.1))
held_in (l ∷ listings) k o (zero, low, e) child = before l.children (held listings) o (subst (λ (x : Listing). Contains x.children o) (sym e) child)
held_in (l ∷ listings) k o (suc i, low, e) child = behind l.children (held listings) o (held_in listings k o (i, omega (arith, low), e) child)

pub stays_listed : (read : Reader) (layout : Layout) (listings : List Listing) (k : Listing) → StayListed read layout listings → Contains listings k → IsListing read layout k
stays_listed read layout [] k stay at = absurd (omega (arith, at.1))
stays_listed read layout (l ∷ listings) k stay (zero, low, e) = subst (IsListing read layout) e stay.0
stays_listed read layout (l ∷ listings) k stay (suc i, low, e) = stays_listed read layout listings k stay.1 (i, omega (arith, low), e)

pub child_at : (layout : Layout) (path : Path) (entries : List Entry) (objects : List Object) (o : Object) → AreChildren layout path entries objects → Contains objects o → IsAt layout o
child_at layout path [] [] o c at = absurd (omega (arith, at.1))
child_at layout path (e ∷ entries) [] o c at = absurd c
child_at layout path [] (p ∷ objects) o c at = absurd c
child_at layout path (e ∷ entries) (p ∷ objects) o c (zero, low, is) = subst (IsAt layout) is c.2
child_at layout path (e ∷ entries) (p ∷ objects) o c (suc i, low, is) = child_at layout path entries objects o c.3 (i, omega (arith, low), is)

stay_behind : (read : Reader) (layout : Layout) (xs ys : List Listing) → StayListed read layout (xs ++ ys) → StayListed read layout ys
stay_behind read layout [] ys stay = stay
stay_behind read layout (x ∷ xs) ys stay = stay_behind read layout xs ys stay.1

pub come_apart' : (taken : List ℕ) (others come : List Object) → Apart taken others → EachApartFrom taken others come → Apart taken (come ++ others)
come_apart' taken others [] a each = a
come_apart' taken others (o ∷ come) a each = apart_law.added taken [] (come ++ others) o (come_apart' taken others come a each.1) each.0

-- ---- what an opened image has

abbrev pub at_zones : Map → List (List ℕ) → Map
at_zones m zs = record { geometry = m.geometry; zones = zs }

-- the old walk, its root, and what it found
record Before (kind : Kind) (image : List ℕ) (v : Opened) (m : Map) (root : Object) (own : DiscRecord) : Type 0 where
  walked : walk (reader_of image (Layout.New m)) (Layout.New m) (reserved_in kind (Layout.New m)) own.root own.root_size ≡ Ok v.listings
  is_root : IsRoot (Layout.New m) own.root own.root_size root
  all : AreListings (reader_of image (Layout.New m)) (Layout.New m) root v.listings
  apart : Apart (reserved_in kind (Layout.New m)) (root ∷ held v.listings)
  objects : objects_of v.listings ≡ root ∷ held v.listings
  room : length v.listings ≤ disc_sectors (Layout.New m)

known : (kind : Kind) (r : DiscRecord) (image : List ℕ) (v : Opened) (m : Map) (root : Object) → IsNewKind kind r → OpensAs image kind v → v.layout ≡ Layout.New m
    → first_object v.listings ≡ root ∷ [] → (h : HasMap image kind r v m) × Before kind image v m root h.own
known kind r image v m root new opens layout first =
    let h = edited_image_law.map image kind r v m new opens layout in
    let had = order_law.gives (reader_of image (Layout.New m)) (Layout.New m) (reserved_in kind (Layout.New m)) h.own.root h.own.root_size v.listings h.walked in
    let objects : objects_of v.listings ≡ root ∷ held v.listings = ap (λ (os : List Object). os ++ held v.listings) first in
    let same : had.0 ≡ root = same_first had.0 root (held v.listings) (held v.listings) (sym had.4 ∙ objects) in (
      h,
      record {
        walked = h.walked;
        is_root = subst (IsRoot (Layout.New m) h.own.root h.own.root_size) same had.1;
        all = subst (λ (o : Object). AreListings (reader_of image (Layout.New m)) (Layout.New m) o v.listings) same had.2;
        apart = subst (λ (o : Object). Apart (reserved_in kind (Layout.New m)) (o ∷ held v.listings)) same had.3;
        objects = objects;
        room = subst (λ (l : Layout). length v.listings ≤ disc_sectors l) layout (new_room image kind r v new opens);
      },
    )

-- a map with the same record has the same root
own_same : (r own other : DiscRecord) (m m' : Map) → map_record (sector_of m' 0) ≡ map_record (sector_of m 0)
    → agreement r (map_record (sector_of m 0)) (difference r (map_record (sector_of m 0))) ≡ Ok own
    → agreement r (map_record (sector_of m' 0)) (difference r (map_record (sector_of m' 0))) ≡ Ok other → own ≡ other
own_same r own other m m' same a b = record_ok own other (sym a ∙ ap (λ (t : DiscRecord). agreement r t (difference r t)) (sym same) ∙ b)
  where
    record_ok : (x y : DiscRecord) → (let q : Result DiscRecord ImageFault = Ok x in q) ≡ Ok y → x ≡ y
    record_ok x y h = cc

-- what a directory of the old image says
pub listed_old : (kind : Kind) (r own : DiscRecord) (image image' : List ℕ) (v : Opened) (m m' : Map) (root : Object) → IsMapEdit kind r own image image' v m m' root
    → (l : Listing) → Contains v.listings l → IsListing (reader_of image (Layout.New m)) (Layout.New m) l
listed_old kind r own image image' v m m' root e l at =
    let k = known kind r image v m root e.new_kind e.opens e.layout e.first in
    stays_listed (reader_of image (Layout.New m)) (Layout.New m) v.listings l k.1.all.say at

-- its objects are the root and those that are held
pub objects_known : (kind : Kind) (r own : DiscRecord) (image image' : List ℕ) (v : Opened) (m m' : Map) (root : Object) → IsMapEdit kind r own image image' v m m' root
    → objects_of v.listings ≡ root ∷ held v.listings
objects_known kind r own image image' v m m' root e = ap (λ (os : List Object). os ++ held v.listings) e.first

-- an object that stays where it was, with its bytes
bytes_stay : (m : Map) (zs : List (List ℕ)) (image image' : List ℕ) (o : Object) → HasSectorsOf m.geometry.sector o.sectors image image'
    → object_bytes image' (Layout.New (at_zones m zs)) o ≡ object_bytes image (Layout.New m) o
bytes_stay m zs image image' o same = object_same m.geometry.sector image image' (Layout.New m) o refl same

none_listed : (listings : List Listing) → listed listings ≡ [] → listings ≡ []
none_listed [] e = refl
none_listed (l ∷ listings) e = absurd (let long = ap (λ (os : List Object). length os) e in omega (arith, long))

-- its objects are apart
pub known_apart : (kind : Kind) (r own : DiscRecord) (image image' : List ℕ) (v : Opened) (m m' : Map) (root : Object) → IsMapEdit kind r own image image' v m m' root
    → Apart (reserved_in kind (Layout.New m)) (root ∷ held v.listings)
known_apart kind r own image image' v m m' root e = (known kind r image v m root e.new_kind e.opens e.layout e.first).1.apart

-- the root where its place and the map's record stay
pub known_root : (kind : Kind) (r own : DiscRecord) (image image' : List ℕ) (v : Opened) (m m' : Map) (root : Object) → IsMapEdit kind r own image image' v m m' root
    → map_record (sector_of m' 0) ≡ map_record (sector_of m 0) → KeepsPlace m m' root → IsRoot (Layout.New m') own.root own.root_size root
known_root kind r own image image' v m m' root e same keeps =
    let k = known kind r image v m root e.new_kind e.opens e.layout e.first in
    let old = k.1.is_root in
    subst (λ (d : DiscRecord). IsRoot (Layout.New m') d.root d.root_size root) (own_same r k.0.own own m m' same k.0.agreed e.agreed)
    (record {
      path = old.path;
      entry = old.entry ∙ ap (λ (g : Geometry). root_entry k.0.own.root (directory_size (cond (g.version == 0) Ten Long) k.0.own.root_size)) (sym e.geometry_stays);
      placed = places_law m m' root e.geometry_stays keeps old.placed;
    })

-- a file's bytes stay with its sectors
pub file_stays : (m m' : Map) (image image' : List ℕ) (o : Object) → m'.geometry ≡ m.geometry → HasSectorsOf m.geometry.sector o.sectors image image'
    → object_bytes image' (Layout.New m') o ≡ object_bytes image (Layout.New m) o
file_stays m m' image image' o geometry same =
    ap (λ (g : Geometry). object_bytes image' (Layout.New (record { geometry = g; zones = m'.zones })) o) geometry ∙ bytes_stay m m'.zones image image' o same

-- an object that isn't a directory
abbrev pub is_file : Object → Bool
is_file o = not (is_directory_object o)

-- ---- any edit

module _ (kind : Kind) (r own : DiscRecord) (image image' : List ℕ) (v : Opened) (m : Map) (zs : List (List ℕ)) (root : Object) (g : Object → Object) (listings' : List Listing)
    (gone come kept : List Object) (e : IsNewMapEdit kind r own image image' v m (at_zones m zs) root g listings' gone come kept) where
  abbrev new : Map
  new = at_zones m zs

  -- the walk that the law of edited walks is about
  abbrev TheEdit : DiscRecord → Type 0
  TheEdit was = IsImageEdit image image' (Layout.New m) (Layout.New new) (reserved_in kind (Layout.New m)) (reserved_in kind (Layout.New m)) was.root own.root was.root_size own.root_size g
      v.listings listings' gone come kept

  abbrev TheWalk : DiscRecord → Type 0
  TheWalk was = IsWalkedAgain (reader_of image' (Layout.New new)) (Layout.New m) (Layout.New new) (reserved_in kind (Layout.New m)) was.root own.root was.root_size own.root_size g v.listings listings' gone come kept

  -- it was walked before, is walked again, and opens
  record Walked : Type 0 where
    was : DiscRecord
    is : TheEdit was
    walk_now : TheWalk was
    opens : OpensAs image' kind (record { kind = kind; layout = Layout.New new; listings = walk_now.found })

  walked : Walked
  walked =
      let k = known kind r image v m root e.maps.new_kind e.maps.opens e.maps.layout e.maps.first in
      let was = k.0.own in
      let old = k.1 in
      let few = e.few in
      let room = old.room in
      let is : TheEdit was =
      record {
        walked = old.walked;
        relisted = e.relisted;
        say = e.say;
        root = λ p is. subst (λ (o : Object). IsRoot (Layout.New new) own.root own.root_size (g o)) (root_once (Layout.New m) was.root was.root_size root p old.is_root is) e.root_now;
        apart = λ p is. subst (λ (o : Object). Apart (reserved_in kind (Layout.New m)) (come ++ map g (o ∷ kept))) (root_once (Layout.New m) was.root was.root_size root p old.is_root is) e.apart;
        room = omega (arith, few, room);
      } in
      let w : TheWalk was =
      edited_walk_law.again (reader_of image (Layout.New m)) (reader_of image' (Layout.New new)) (Layout.New m) (Layout.New new) (reserved_in kind (Layout.New m)) (reserved_in kind (Layout.New m)) was.root own.root was.root_size own.root_size g
      v.listings listings' gone come kept is in
      let now : IsPermutation (objects_of w.found) (come ++ map g (root ∷ kept)) =
      subst (λ (o : Object). IsPermutation (objects_of w.found) (come ++ map g (o ∷ kept))) (root_once (Layout.New m) was.root was.root_size w.root root w.is_root old.is_root) w.after in
      record {
        was = was;
        is = is;
        walk_now = w;
        opens = edited_image_law.opens image image' kind r own v m new w.found (come ++ map g (root ∷ kept)) e.maps.new_kind e.maps.opens e.maps.layout now
            (record {
              geometry_stays = refl;
              is_map = e.maps.is_map;
              chosen_map = e.maps.chosen_map;
              agreed = e.maps.agreed;
              length_stays = e.maps.length_stays;
              boot_stays = e.maps.boot_stays;
              fixed = e.fixed;
            }) w.walked;
      }

  any_core : (changing others : List Object) → IsPermutation kept (changing ++ others) → ((o : Object) → Contains others o → IsKept image image' (Layout.New m) (Layout.New new) o (g o))
      → (w : OpensEdited kind image' (Layout.New new) listings') × IsObjectEdit image image' v.layout (Layout.New new) v.listings w.found (changing ++ gone) (map g changing ++ come)
  any_core changing others order nodes =
      let k = walked in (
        record { found = k.walk_now.found; opens = k.opens; order = k.walk_now.order },
        subst (λ (y : Layout). IsObjectEdit image image' y (Layout.New new) v.listings k.walk_now.found (changing ++ gone) (map g changing ++ come)) (sym e.maps.layout)
            (edited_walk_law.edited image image' (Layout.New m) (Layout.New new) (reserved_in kind (Layout.New m)) (reserved_in kind (Layout.New m)) k.was.root own.root k.was.root_size own.root_size g
            v.listings listings' gone come kept changing others k.is k.walk_now order nodes),
      )

any_moved_core : (kind : Kind) (r own : DiscRecord) (image image' : List ℕ) (v : Opened) (m : Map) (zs : List (List ℕ)) (root : Object) (g : Object → Object) (listings' : List Listing)
    (kept : List Object) (from to : Path) → IsNewMapEdit kind r own image image' v m (at_zones m zs) root g listings' [] [] kept → 0 < length from
    → ((o : Object) → Contains kept o → IsMoved from to image image' (Layout.New m) (Layout.New (at_zones m zs)) o (g o))
    → (w : OpensEdited kind image' (Layout.New (at_zones m zs)) listings') × IsMove image image' v.layout (Layout.New (at_zones m zs)) v.listings w.found from to
any_moved_core kind r own image image' v m zs root g listings' kept from to e some nodes =
    let k = walked kind r own image image' v m zs root g listings' [] [] kept e in (
      record { found = k.walk_now.found; opens = k.opens; order = k.walk_now.order },
      subst (λ (y : Layout). IsMove image image' y (Layout.New (at_zones m zs)) v.listings k.walk_now.found from to) (sym e.maps.layout)
          (edited_walk_law.moved image image' (Layout.New m) (Layout.New (at_zones m zs)) (reserved_in kind (Layout.New m)) (reserved_in kind (Layout.New m)) k.was.root own.root k.was.root_size own.root_size g
          v.listings listings' kept from to k.is k.walk_now some nodes),
    )

-- the map of the same geometry is that map
pub zones_back : (m m' : Map) → m'.geometry ≡ m.geometry → at_zones m m'.zones ≡ m'
zones_back m m' same = λ i. record { geometry = sym same i; zones = m'.zones }

any' : (kind : Kind) (r own : DiscRecord) (image image' : List ℕ) (v : Opened) (m m' : Map) (root : Object) (g : Object → Object) (listings' : List Listing)
    (gone come kept changing others : List Object) → IsNewMapEdit kind r own image image' v m m' root g listings' gone come kept
    → IsPermutation kept (changing ++ others) → ((o : Object) → Contains others o → IsKept image image' (Layout.New m) (Layout.New m') o (g o))
    → (w : OpensEdited kind image' (Layout.New m') listings') × IsObjectEdit image image' v.layout (Layout.New m') v.listings w.found (changing ++ gone) (map g changing ++ come)
any' kind r own image image' v m m' root g listings' gone come kept changing others e order =
    let back = zones_back m m' e.maps.geometry_stays in
    subst (λ (n : Map). ((o : Object) → Contains others o → IsKept image image' (Layout.New m) (Layout.New n) o (g o))
    → (w : OpensEdited kind image' (Layout.New n) listings') × IsObjectEdit image image' v.layout (Layout.New n) v.listings w.found (changing ++ gone) (map g changing ++ come)) back
    (any_core kind r own image image' v m m'.zones root g listings' gone come kept
    (subst (λ (n : Map). IsNewMapEdit kind r own image image' v m n root g listings' gone come kept) (sym back) e) changing others order)

any_moved' : (kind : Kind) (r own : DiscRecord) (image image' : List ℕ) (v : Opened) (m m' : Map) (root : Object) (g : Object → Object) (listings' : List Listing) (kept : List Object) (from to : Path)
    → IsNewMapEdit kind r own image image' v m m' root g listings' [] [] kept → 0 < length from
    → ((o : Object) → Contains kept o → IsMoved from to image image' (Layout.New m) (Layout.New m') o (g o))
    → (w : OpensEdited kind image' (Layout.New m') listings') × IsMove image image' v.layout (Layout.New m') v.listings w.found from to
any_moved' kind r own image image' v m m' root g listings' kept from to e some =
    let back = zones_back m m' e.maps.geometry_stays in
    subst (λ (n : Map). ((o : Object) → Contains kept o → IsMoved from to image image' (Layout.New m) (Layout.New n) o (g o))
    → (w : OpensEdited kind image' (Layout.New n) listings') × IsMove image image' v.layout (Layout.New n) v.listings w.found from to) back
    (any_moved_core kind r own image image' v m m'.zones root g listings' kept from to
    (subst (λ (n : Map). IsNewMapEdit kind r own image image' v m n root g listings' [] [] kept) (sym back) e) some)

-- ---- one directory is edited

edited_core : (kind : Kind) (r : DiscRecord) (image image' : List ℕ) (v : Opened) (m : Map) (zs : List (List ℕ)) (root : Object) (out into rest : List Listing) (l l' : Listing) (gone come kids : List Object)
    → IsDirectoryEdit kind r image image' v m (at_zones m zs) root out into rest l l' gone come kids
    → (w : OpensEdited kind image' (Layout.New (at_zones m zs)) (into ++ l' ∷ rest)) × IsObjectEdit image image' v.layout (Layout.New (at_zones m zs)) v.listings w.found gone come
edited_core kind r image image' v m zs root out into rest l l' gone come kids e =
    let m' : Map = at_zones m zs in
    let layout : Layout = Layout.New m in
    let layout' : Layout = Layout.New m' in
    let reserved = reserved_in kind layout in
    let k = known kind r image v m root e.maps.new_kind e.maps.opens e.maps.layout e.maps.first in
    let was = k.0.own in
    let own = own_same r was e.own m m' e.record_stays k.0.agreed e.maps.agreed in
    let old = k.1 in
    let kept = kids ++ held rest in
    let relisted = relisting_law.one (λ o. o) v.listings out rest into rest l l' gone come kids (λ o. refl) e.found e.object e.holds
    (subst (λ (os : List Object). IsPermutation l'.children (come ++ os)) (sym (map_itself kids)) e.holds_now) (listed_itself rest) e.out_gone e.out_empty e.into_come e.into_empty in
    let stay = stay_behind (reader_of image layout) layout out (l ∷ rest) (stay_shuffled (reader_of image layout) layout v.listings (out ++ l ∷ rest) old.all.say e.found) in
    let others : StayListed (reader_of image' layout') layout' rest =
    stay_law.other image image' layout layout' rest refl refl stay.1 e.dirs (λ d at o child.
    places_law m m' o refl (e.places o (later root o kept (behind kids (held rest) o (held_in rest d o at child))))
    (child_at layout d.object.path (entries_of d.content) d.children o (stays_listed (reader_of image layout) layout rest d stay.1 at).1 child)) in
    let root_now : IsRoot layout' was.root was.root_size root =
    record { path = old.is_root.path; entry = old.is_root.entry; placed = places_law m m' root refl (e.places root (here root kept)) old.is_root.placed } in
    let into_few = e.into_few in
    let long = length_permutation v.listings (out ++ l ∷ rest) e.found in
    let all = all_before (λ o. o) v.listings (into ++ l' ∷ rest) gone come kept relisted in
    let apart_old : Apart reserved (root ∷ kept) =
    apart_behind reserved gone (root ∷ kept)
    (apart_shuffled reserved (root ∷ held v.listings) (gone ++ root ∷ kept) old.apart
    (IsPermutation-trans (root ∷ held v.listings) (root ∷ (gone ++ kept)) (gone ++ root ∷ kept)
    (IsPermutation-cons root (held v.listings) (gone ++ kept) all) (IsPermutation-sym (gone ++ root ∷ kept) (root ∷ (gone ++ kept)) (IsPermutation-middle gone root kept)))) in
    any_core kind r e.own image image' v m zs root (λ o. o) (into ++ l' ∷ rest) gone come kept
    (record {
      maps = e.maps;
      relisted = relisted;
      few = omega (arith, into_few, long, length-append into (l' ∷ rest), length-append out (l ∷ rest));
      say = stay_append (reader_of image' layout') layout' into (l' ∷ rest) e.into_say (e.says, others);
      root_now = subst (λ (d : DiscRecord). IsRoot layout' d.root d.root_size root) own root_now;
      apart = subst (λ (os : List Object). Apart reserved (come ++ os)) (sym (map_itself (root ∷ kept))) (come_apart' reserved (root ∷ kept) come apart_old e.come_apart);
      fixed = λ n h u. (let f = e.fixed n h u in (f.0, subst (λ (os : List Object). is_movable (come ++ os) n ≡ false) (sym (map_itself (root ∷ kept))) f.1));
    })
    [] kept (IsPermutation-refl kept)
    (λ o at. record { path = refl; name = refl; attrs = refl; load = refl; exec = refl; bytes = λ file. bytes_stay m zs image image' o (e.files o at file) })

edited' : (kind : Kind) (r : DiscRecord) (image image' : List ℕ) (v : Opened) (m m' : Map) (root : Object) (out into rest : List Listing) (l l' : Listing) (gone come kids : List Object)
    → IsDirectoryEdit kind r image image' v m m' root out into rest l l' gone come kids
    → (w : OpensEdited kind image' (Layout.New m') (into ++ l' ∷ rest)) × IsObjectEdit image image' v.layout (Layout.New m') v.listings w.found gone come
edited' kind r image image' v m m' root out into rest l l' gone come kids e =
    let back = zones_back m m' e.maps.geometry_stays in
    subst (λ (n : Map). (w : OpensEdited kind image' (Layout.New n) (into ++ l' ∷ rest)) × IsObjectEdit image image' v.layout (Layout.New n) v.listings w.found gone come) back
    (edited_core kind r image image' v m m'.zones root out into rest l l' gone come kids
    (subst (λ (n : Map). IsDirectoryEdit kind r image image' v m n root out into rest l l' gone come kids) (sym back) e))

-- ---- what is at or below a path moves

-- the same owners, wherever the objects stand
owners_moved : (from to : Path) (k : ℕ) (objects : List Object) → list_any (is_owner_of k) (map (moved_object from to) objects) ≡ list_any (is_owner_of k) objects
owners_moved from to k [] = refl
owners_moved from to k (o ∷ objects) = ap (λ b. is_owner_of k o || b) (owners_moved from to k objects)

moved_core : (kind : Kind) (r : DiscRecord) (image image' : List ℕ) (v : Opened) (m : Map) (zs : List (List ℕ)) (root : Object) (listings' : List Listing) (kept : List Object) (from to : Path)
    → IsMovingEdit kind r image image' v m (at_zones m zs) root listings' kept from to
    → (w : OpensEdited kind image' (Layout.New (at_zones m zs)) listings') × IsMove image image' v.layout (Layout.New (at_zones m zs)) v.listings w.found from to
moved_core kind r image image' v m zs root listings' kept from to e =
    let m' : Map = at_zones m zs in
    let layout : Layout = Layout.New m in
    let layout' : Layout = Layout.New m' in
    let reserved = reserved_in kind layout in
    let g : Object → Object = moved_object from to in
    let k = known kind r image v m root e.maps.new_kind e.maps.opens e.maps.layout e.maps.first in
    let was = k.0.own in
    let own = own_same r was e.own m m' e.record_stays k.0.agreed e.maps.agreed in
    let old = k.1 in
    let relisted = e.relisted in
    let root_now : IsRoot layout' was.root was.root_size (g root) =
    record {
      path = ap (moved_path from to) old.is_root.path ∙ root_path_stays from to e.no_root;
      entry =
          ap (λ (name : List ℕ). let x : Entry = record root.entry { name = name } in x)
          (ap (λ (q : Path). moved_name from to q root.entry.name) old.is_root.path ∙ root_name_stays from to root.entry.name e.no_root)
          ∙ old.is_root.entry;
      placed = places_law m m' root refl (e.places root (here root kept)) old.is_root.placed;
    } in
    let all = all_before g v.listings listings' [] [] kept relisted in
    let whole : IsPermutation (objects_of v.listings) (root ∷ kept) =
    subst (λ (os : List Object). IsPermutation os (root ∷ kept)) (sym old.objects) (IsPermutation-cons root (held v.listings) kept all) in
    let owners : (n : ℕ) → is_movable (map g (root ∷ kept)) n ≡ is_movable (objects_of v.listings) n =
    λ n. ap (λ b. ((n == 2) || b) && nat_le 3 n) (owners_moved from to n (root ∷ kept) ∙ sym (list_any-IsPermutation (is_owner_of n) (objects_of v.listings) (root ∷ kept) whole)) in
    let into : length relisted.into ≡ 0 = ap (λ (ls : List Listing). length ls) (none_listed relisted.into relisted.into_come) in
    let had = length_permutation v.listings (relisted.out ++ relisted.stay) relisted.had in
    let has = length_permutation listings' (relisted.into ++ relisted.stay') relisted.has in
    let same : length relisted.stay' ≡ length relisted.stay =
    sym (length-map relisted.stay' (λ (x : Listing). x.object)) ∙ ap (λ (os : List Object). length os) relisted.same
    ∙ length-map (listed relisted.stay) g ∙ length-map relisted.stay (λ (x : Listing). x.object) in
    any_moved_core kind r e.own image image' v m zs root g listings' kept from to
    (record {
      maps = e.maps;
      relisted = relisted;
      few = omega (arith, had, has, into, same, length-append relisted.out relisted.stay, length-append relisted.into relisted.stay');
      say = e.say;
      root_now = subst (λ (d : DiscRecord). IsRoot layout' d.root d.root_size (g root)) own root_now;
      apart = apart_mapped reserved g (root ∷ kept) (λ o. refl) (apart_shuffled reserved (root ∷ held v.listings) (root ∷ kept) old.apart (IsPermutation-cons root (held v.listings) kept all));
      fixed = λ n h u. (e.fixed n h u, owners n ∙ h);
    }) e.no_root
    (λ o at. record { path = refl; name = refl; attrs = refl; load = refl; exec = refl; bytes = λ file. bytes_stay m zs image image' o (e.files o at file) })

moved' : (kind : Kind) (r : DiscRecord) (image image' : List ℕ) (v : Opened) (m m' : Map) (root : Object) (listings' : List Listing) (kept : List Object) (from to : Path)
    → IsMovingEdit kind r image image' v m m' root listings' kept from to
    → (w : OpensEdited kind image' (Layout.New m') listings') × IsMove image image' v.layout (Layout.New m') v.listings w.found from to
moved' kind r image image' v m m' root listings' kept from to e =
    let back = zones_back m m' e.maps.geometry_stays in
    subst (λ (n : Map). (w : OpensEdited kind image' (Layout.New n) listings') × IsMove image image' v.layout (Layout.New n) v.listings w.found from to) back
    (moved_core kind r image image' v m m'.zones root listings' kept from to
    (subst (λ (n : Map). IsMovingEdit kind r image image' v m n root listings' kept from to) (sym back) e))

pub map_edit_law : MapEditLaw
map_edit_law = record { any = any'; any_moved = any_moved'; edited = edited'; moved = moved' }
