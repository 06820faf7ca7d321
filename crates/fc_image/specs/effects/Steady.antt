-- What a changing command leaves as it was: v is the opened image before the command, and w after it.
use Rattle.fc_image.specs.Report.{is_lost_sector, holder_address}
use Rattle.std.specs.Prelude.{◌≡◌, ◌<◌, ◌⊎◌, ℕ, ◌-◌, ◌*◌, Bool, true, false, not, ◌&&◌, ◌||◌, ◌==◌, nat_le, List, [], ◌∷◌, ◌++◌, length, map, filter, drop, slice_range, sum_by, min, max, if◌then◌else◌, Option, Some, None, IfSome, IsSomeAnd, Contains, All}
use Rattle.std.specs.List.{flat_map, fold, list_any, range_with_len}
use Rattle.std.specs.Option.{option_map_or, option_and_then}
use Rattle.std.specs.Str.{bytes_eq}
use Rattle.fc_bytes.specs.Bits.{bits}
use Rattle.fc_bytes.specs.Words.{bytes_at}
use Rattle.fc_device.specs.Sectors.{sector_at}
use Rattle.fc_names.specs.Names.{Path, folded_path, is_same_path}
use Rattle.fc_record.specs.declared.Geometry.{Geometry}
use Rattle.fc_record.specs.declared.Kind.{Kind}
use Rattle.fc_record.specs.Record.{first_bit, end_bit}
use Rattle.fc_record.specs.Kinds.{disc_size}
use Rattle.fc_oldmap.specs.declared.Hole.{Hole}
use Rattle.fc_oldmap.specs.Holes.{hole, after_give}
use Rattle.fc_oldmap.specs.OldMap.{with_holes, OldMapContent}
use Rattle.fc_zone.specs.declared.RunKind.{RunKind}
use Rattle.fc_zone.specs.declared.RunKind.TheVariants as kinds
use Rattle.fc_zone.specs.Edits.{KeepsLinks}
use Rattle.fc_newmap.specs.Map.{Map, ZoneRun, shape, sector_of, runs_of, hole_runs, id_runs, all_runs, with_root, is_used, sectors_of}
use Rattle.fc_model.specs.Tree.{holder, last_name, is_prefix}
use Rattle.fc_model.specs.Command.{Command}
use Rattle.fc_dirs.specs.declared.Entry.{Entry}
use Rattle.fc_dirs.specs.Entries.{with_entry, has_name, padded_name}
use Rattle.fc_names.specs.declared.name.NameForm.{NameForm}
use Rattle.fc_names.specs.declared.name.NameForm.TheVariants as forms
use Rattle.fc_dirs.specs.declared.SmallForm.TheVariants.{Bytes1280, Bytes2048}
use Rattle.fc_dirs.specs.Small.{empty_small, next_sequence}
use Rattle.fc_dirs.specs.SmallBytes.{IsWrittenSmall}
use Rattle.fc_dirs.specs.BigBytes.{IsWrittenBig}
use Rattle.fc_dirs.specs.Big.{BigDir, size_for, head_space, name_space, packed_heap, form_of, empty_big}
use Rattle.fc_dirs.specs.Directory.{Directory, entries_of, parent_of}
use Rattle.fc_image.specs.Layout.{Layout, dir_form, id_of, map_place, is_among, disc_sectors}
use Rattle.fc_image.specs.Walk.{Object, Listing, is_directory_object, object_bytes}
use Rattle.fc_image.specs.Objects.{objects_of, is_owned, is_lost, object_at, listing_at}
use Rattle.fc_image.specs.Opening.{Opened, boot_place}
use Rattle.fc_image.specs.effects.Short.{Growth, growth_in, moved_growth, is_alone, old_holes_after, new_dir_size}
use Rattle.fc_image.specs.effects.Placed.{made_object, holes_left, object_parts}
pub use Rattle.fc_dirs.specs.Edits.{replaced_entry, without_name}

-- ---- where objects are afterwards

-- What stood at or below the first path of a rename stands at or below the second.
abbrev pub path_after : Command → Path → Path
path_after (Command.Rename from to) p = if is_prefix (folded_path from) (folded_path p) then to ++ drop (length from) p else p
path_after _ p = p

-- the directory is where a named path has its last name
abbrev pub holds_named : Command → Path → Bool
holds_named (Command.Save path load exec bytes) dir = is_same_path (holder path) dir
holds_named (Command.Create path load exec len) dir = is_same_path (holder path) dir
holds_named (Command.Cdir path) dir = is_same_path (holder path) dir
holds_named (Command.Delete path) dir = is_same_path (holder path) dir
holds_named (Command.Rename from to) dir = is_same_path (holder from) dir || is_same_path (holder to) dir
holds_named (Command.Set path load exec access) dir = is_same_path (holder path) dir
holds_named (Command.Mark path attrs) dir = is_same_path (holder path) dir
holds_named _ dir = false

-- ---- entries

-- An entry that is there is replaced, and a new one stands in its place by name.
abbrev pub with_made : Option Entry → List Entry → List Entry
with_made None entries = entries
with_made (Some new) entries = if has_name entries new.name then map (replaced_entry new) entries else with_entry new entries

-- the entries of a directory after the command, where `made` is the entry of the object that it makes or changes
abbrev pub edited : Command → Path → Option Entry → List Entry → List Entry
edited (Command.Save path load exec bytes) dir made entries = if is_same_path (holder path) dir then with_made made entries else entries
edited (Command.Create path load exec len) dir made entries = if is_same_path (holder path) dir then with_made made entries else entries
edited (Command.Cdir path) dir made entries = if is_same_path (holder path) dir then with_made made entries else entries
edited (Command.Delete path) dir made entries = if is_same_path (holder path) dir then without_name (last_name path) entries else entries
edited (Command.Rename from to) dir made entries =
    let kept = (if is_same_path (holder from) dir then without_name (last_name from) entries else entries) in
    if is_same_path (holder to) dir then with_made made kept else kept
edited (Command.Set path load exec access) dir made entries = if is_same_path (holder path) dir then with_made made entries else entries
edited (Command.Mark path attrs) dir made entries = if is_same_path (holder path) dir then with_made made entries else entries
edited _ dir made entries = entries

-- the entry for a grown directory has its new address and length
abbrev pub regrown_entry : Path → Option Object → Entry → Entry
regrown_entry dir None e = e
regrown_entry dir (Some new) e = if is_same_path (dir ++ e.name ∷ []) new.path then record e { address = new.entry.address; len = new.entry.len } else e

-- the grown directory after the command
abbrev pub grown_object : Opened → Opened → Command → Option Object
grown_object v w c = option_and_then (λ growth. object_at w.listings growth.0.path) (growth_in v c)

-- the object at a named path, after the command
abbrev pub named_object : Opened → Command → Option Object
named_object w (Command.Set path load exec access) = object_at w.listings path
named_object w (Command.Mark path attrs) = object_at w.listings path
named_object w c = made_object w c

-- its entry
abbrev pub named_entry : Opened → Command → Option Entry
named_entry w c = entry_of (named_object w c)
  where
    entry_of : Option Object → Option Entry
    entry_of None = None
    entry_of (Some o) = Some o.entry

-- the entries of a directory after the command
abbrev pub entries_after : Opened → Opened → Command → Listing → List Entry
entries_after v w c l = edited c l.object.path (named_entry w c) (map (regrown_entry l.object.path (grown_object v w c)) (entries_of l.content))

-- ---- heads

-- The head's name stays, or is the new last name, if the directory is the one that is renamed.
abbrev pub small_name_after : Command → Path → List ℕ → List ℕ
small_name_after (Command.Rename from to) path name = if is_same_path from path then padded_name 10 (last_name to) else name
small_name_after _ path name = name

-- beside so much heap a big directory has space for the name in its head
abbrev pub holds_name : BigDir → ℕ → List ℕ → Bool
holds_name dir heap name = nat_le (size_for (head_space dir.second_form (length name)) (length dir.entries) heap) dir.size

-- the space of exactly the names that are there
abbrev pub packed_len : BigDir → ℕ
packed_len dir = sum_by (λ e. name_space e.name) dir.entries

-- A renamed big directory has its new name in its head if the larger of the two heaps leaves space for it, its old one
-- if not even the smaller does, and else either.
abbrev pub RenamedHead : Bool → BigDir → List ℕ → List ℕ → Type 0
RenamedHead false dir last name = name ≡ dir.name
RenamedHead true dir last name =
    ((name ≡ last) × (holds_name dir (min (length dir.heap) (packed_len dir)) last ≡ true))
    ⊎ ((name ≡ dir.name) × (holds_name dir (max (length dir.heap) (packed_len dir)) last ≡ false))

-- the name in the head of a big directory after the command
abbrev pub BigNameAfter : Command → Path → BigDir → List ℕ → Type 0
BigNameAfter (Command.Rename from to) path dir name = RenamedHead (is_same_path from path) dir (last_name to) name
BigNameAfter _ path dir name = name ≡ dir.name

-- the names that weren't there byte for byte
abbrev pub names_added : BigDir → BigDir → List (List ℕ)
names_added old new = filter (λ name. not (list_any (λ e. bytes_eq e.name name) old.entries)) (map (λ e. e.name) new.entries)

-- The heap is made anew, or it is the old one with the new names after it.
abbrev pub HeapAfter : BigDir → BigDir → Type 0
HeapAfter old new =
    (new.heap ≡ packed_heap new.entries)
    ⊎ (new.heap ≡ old.heap ++ flat_map (λ name. padded_name (name_space name) name) (names_added old new))

-- A rewritten directory has a new sequence byte and the address of its holder; word, title and reserved bytes stay.
abbrev pub IsRewritten : Command → Path → ℕ → Directory → Directory → Type 0
IsRewritten c path parent (Directory.Small old) (Directory.Small new) =
    new ≡ record old { sequence = next_sequence old.sequence; parent = parent; name = small_name_after c path old.name; entries = new.entries }
IsRewritten c path parent (Directory.Big old) (Directory.Big new) =
    BigNameAfter c path old new.name
    × HeapAfter old new
    × (new ≡ record old {
      size = new.size;
      sequence = next_sequence old.sequence;
      parent = parent;
      name = new.name;
      second_form = form_of old.second_form new.name;
      heap = new.heap;
      name_places = new.name_places;
      entries = new.entries;
    })
IsRewritten c path parent _ _ = ⊥

-- the directory lies directly in a grown one that got a new address
abbrev pub has_new_holder : Opened → Command → Path → Bool
has_new_holder v c dir =
    option_map_or (λ growth. is_same_path (holder dir) growth.0.path && not (is_alone (objects_of v.listings) growth.0)) (moved_growth v c) false

-- the directory holds a grown one
abbrev pub has_grown : Opened → Command → Path → Bool
has_grown v c dir = option_map_or (λ growth. is_same_path (holder growth.0.path) dir) (growth_in v c) false

-- The object is the one that the command renames.
abbrev pub is_renamed_by : Command → Path → Bool
is_renamed_by (Command.Rename from to) p = is_same_path p from
is_renamed_by _ p = false

-- the directories whose bytes may change
abbrev pub may_be_rewritten : Opened → Command → Path → Bool
may_be_rewritten v c dir = holds_named c dir || is_renamed_by c dir || has_grown v c dir || has_new_holder v c dir

-- the name in the head is already as it has to be
abbrev pub HasName : Command → Path → Directory → Type 0
HasName c path (Directory.Small dir) = small_name_after c path dir.name ≡ dir.name
HasName c path (Directory.Big dir) = BigNameAfter c path dir dir.name

-- A directory that is renamed, or whose holder got a new address, has its new holder's address as its parent, and its new name.
abbrev pub gets_parent : Opened → Command → Path → Bool
gets_parent v c dir = is_renamed_by c dir || has_new_holder v c dir

-- A directory's bytes are as writing makes them, also those that reading ignores: the padding of names, the last mark, and the
-- check that isn't read.
abbrev pub AreWritten : List ℕ → Directory → Type 0
AreWritten bytes (Directory.Small dir) = IsWrittenSmall bytes dir
AreWritten bytes (Directory.Big dir) = IsWrittenBig bytes dir

-- a directory that has the bytes that it had, and already says what it has to
pub record IsKept (before after : List ℕ) (v w : Opened) (c : Command) (l new : Listing) : Type 0 where
  pub bytes : object_bytes after w.layout new.object ≡ object_bytes before v.layout l.object
  pub parent : gets_parent v c l.object.path ≡ true → parent_of l.content ≡ holder_address w.listings new.object.path
  pub name : HasName c l.object.path l.content

-- a directory that the command may rewrite and has rewritten, all its bytes included
pub record IsWrittenAnew (after : List ℕ) (v w : Opened) (c : Command) (l new : Listing) : Type 0 where
  pub may : may_be_rewritten v c l.object.path ≡ true
  pub says : IsRewritten c l.object.path (holder_address w.listings new.object.path) l.content new.content
  pub bytes : AreWritten (object_bytes after w.layout new.object) new.content

-- A directory that isn't gone: its entries are as the command edits them, and it keeps its bytes or is rewritten.
pub record DirectorySteady (before after : List ℕ) (v w : Opened) (c : Command) (l new : Listing) : Type 0 where
  pub entries : entries_of new.content ≡ entries_after v w c l
  pub head : IsKept before after v w c l new ⊎ IsWrittenAnew after v w c l new

-- The command deletes the object.
abbrev pub is_gone : Command → Path → Bool
is_gone (Command.Delete path) p = is_same_path path p
is_gone _ p = false

-- Each directory that is not deleted is there, and as it has to be.
abbrev pub DirectoriesSteady : List ℕ → List ℕ → Opened → Opened → Command → Type 0
DirectoriesSteady before after v w c = (l : Listing) → Contains v.listings l → is_gone c l.object.path ≡ false
    → IsSomeAnd (listing_at w.listings (path_after c l.object.path)) (DirectorySteady before after v w c l)

-- ---- addresses of named objects

-- The object is there, and has the address that it had.
abbrev pub HasSameAddress : Option Object → Option Object → Type 0
HasSameAddress None new = Unit {0}
HasSameAddress (Some old) new = IsSomeAnd new (λ o. o.entry.address ≡ old.entry.address)

-- what is renamed, and not copied, and what is set, stays where it is
abbrev pub NamedStays : Opened → Opened → Command → Bool → Type 0
NamedStays v w (Command.Rename from to) false = HasSameAddress (object_at v.listings from) (object_at w.listings to)
NamedStays v w (Command.Set path load exec access) copied = HasSameAddress (object_at v.listings path) (object_at w.listings path)
NamedStays v w (Command.Mark path attrs) copied = HasSameAddress (object_at v.listings path) (object_at w.listings path)
NamedStays v w c copied = Unit {0}

-- the object whose entry the command makes anew, as it is before
abbrev pub source_object : Opened → Command → Option Object
source_object v (Command.Save path load exec bytes) = object_at v.listings path
source_object v (Command.Create path load exec len) = object_at v.listings path
source_object v (Command.Rename from to) = object_at v.listings from
source_object v (Command.Set path load exec access) = object_at v.listings path
source_object v (Command.Mark path attrs) = object_at v.listings path
source_object v _ = None

-- the object is taken to another directory
abbrev pub is_moved_by : Command → Bool
is_moved_by (Command.Rename from to) = not (is_same_path (holder from) (holder to))
is_moved_by _ = false

-- A directory that stays has its length in its entry; in a small form, where nothing reads it, the right one may be written.
abbrev pub IsDirLength : NameForm → ℕ → ℕ → Type 0
IsDirLength forms.Long old new = new ≡ old
IsDirLength form old new = (new ≡ old) ⊎ (new ≡ new_dir_size form)

-- The last byte of an entry is carried, and is 0 in a new one; either in one that is taken to another directory.
pub record EntrySteady (form : NameForm) (moved : Bool) (old : Option Object) (new : Object) : Type 0 where
  pub last : (new.entry.last ≡ option_map_or (λ o. o.entry.last) old 0) ⊎ ((moved ≡ true) × (new.entry.last ≡ 0))
  pub len : is_directory_object new ≡ true → IfSome old (λ o. IsDirLength form o.entry.len new.entry.len)

-- the entry of the object that the command names, in fields that the tree does not show
abbrev pub NamedEntrySteady : Opened → Opened → Command → Type 0
NamedEntrySteady v w c = IfSome (named_object w c) (EntrySteady (dir_form v.layout) (is_moved_by c) (source_object v c))

-- a new directory is empty, and held by the directory that holds its path
abbrev pub new_directory : NameForm → ℕ → List ℕ → Directory
new_directory forms.Seven parent name = Directory.Small (empty_small Bytes1280 parent name)
new_directory forms.Ten parent name = Directory.Small (empty_small Bytes2048 parent name)
new_directory forms.Long parent name = Directory.Big (empty_big parent name)

-- an empty directory at this path, all its bytes included
pub record IsMadeDirectory (after : List ℕ) (w : Opened) (path : Path) (l : Listing) : Type 0 where
  pub says : l.content ≡ new_directory (dir_form w.layout) (holder_address w.listings path) (last_name path)
  pub len : l.object.entry.len ≡ new_dir_size (dir_form w.layout)
  pub bytes : AreWritten (object_bytes after w.layout l.object) l.content

-- what `cdir` makes
abbrev pub NewDirectory : List ℕ → Opened → Command → Type 0
NewDirectory after w (Command.Cdir path) = IsSomeAnd (listing_at w.listings path) (IsMadeDirectory after w path)
NewDirectory after w c = Unit {0}

-- ---- space

-- an identifier that is given back: an object owned it, and none does any more
abbrev pub is_given_back : List Object → List Object → ℕ → Bool
is_given_back old new id = is_owned old id && not (is_owned new id)

-- the runs of an alone directory that grows into new space go back too
abbrev pub is_left_by_growth : Opened → Command → ℕ → Bool
is_left_by_growth v c id =
    option_map_or (λ growth. is_alone (objects_of v.listings) growth.0 && (id_of growth.0.entry.address == id)) (moved_growth v c) false

-- The runs of the identifier are given back.
abbrev pub goes_back : Opened → Opened → Command → ℕ → Bool
goes_back v w c id = is_given_back (objects_of v.listings) (objects_of w.listings) id || is_left_by_growth v c id

-- the runs of the identifiers that pass a test
abbrev pub has_id_that : (ℕ → Bool) → RunKind → Bool
has_id_that test kinds.Hole = false
has_id_that test (kinds.Id id) = test id

-- the runs of the identifiers that pass a test
abbrev pub runs_that : (ℕ → Bool) → Map → List ZoneRun
runs_that test m = filter (λ p. has_id_that test p.1.kind) (all_runs m)

-- the holes of one zone, as starts and lengths
abbrev pub zone_holes : List ZoneRun → ℕ → List Hole
zone_holes places z = map (λ p. hole p.1.start p.1.len) (filter (λ p. p.0 == z) places)

-- the holes after runs are given back, each joined with the holes that it touches
abbrev pub holes_with : List Hole → List Hole → List Hole
holes_with holes runs = fold (λ hs run. after_give run hs) holes runs

-- the runs that were taken for a grown directory
abbrev pub grown_parts : Opened → Opened → Command → Map → List ZoneRun
grown_parts v w c m' = option_map_or (λ growth. parts (object_at w.listings growth.0.path)) (moved_growth v c) []
  where
    parts : Option Object → List ZoneRun
    parts None = []
    parts (Some o) = id_runs m' (id_of o.entry.address)

-- the holes that are left when the new object has taken its space, and then the directory: a part of the second may lie
-- in what the first left of a hole
abbrev pub holes_untaken : Opened → Opened → Command → Map → Map → List ZoneRun
holes_untaken v w c m m' = holes_left (holes_left (hole_runs m) (object_parts m m' v c (made_object w c))) (grown_parts v w c m')

-- the runs that it gives back
abbrev pub back_runs : Opened → Opened → Command → Map → List ZoneRun
back_runs v w c m = runs_that (goes_back v w c) m

-- the holes of a zone after the command
abbrev pub holes_after : Opened → Opened → Command → Map → Map → ℕ → List Hole
holes_after v w c m m' z = holes_with (zone_holes (holes_untaken v w c m m') z) (zone_holes (back_runs v w c m) z)

-- The identifier has the runs that it had.
abbrev pub keeps_runs : Map → Map → ℕ → Type 0
keeps_runs m m' id = id_runs m' id ≡ id_runs m id

-- A grown directory with new space is the one object that may have other runs, and no identifier comes to be lost.
abbrev pub NewMapSteady : Opened → Opened → Command → Map → Map → Type 0
NewMapSteady v w c m m' =
    ((id : ℕ) → is_owned (objects_of w.listings) id ≡ true → is_used m id ≡ true → is_left_by_growth v c id ≡ false → keeps_runs m m' id)
    × ((id : ℕ) → is_lost (objects_of v.listings) id ≡ true → is_used m id ≡ true → keeps_runs m m' id)
    × ((id : ℕ) → is_owned (objects_of w.listings) id ≡ false → is_used m id ≡ false → is_used m' id ≡ false)
    × keeps_runs m m' 1
    × keeps_runs m m' 2
    × ((z : ℕ) → z < m.geometry.zones → zone_holes (hole_runs m') z ≡ holes_after v w c m m' z)

-- ---- what is outside

-- These sectors have the bytes that they had.
abbrev pub SameSectors : ℕ → List ℕ → List ℕ → List ℕ → Type 0
SameSectors size sectors old new = All (λ s. sector_at size new s ≡ sector_at size old s) sectors

-- the record in zone 0, with the root's new address and size if the root grows
abbrev pub zone0_after : Opened → Option Growth → List ℕ → List ℕ
zone0_after w None sector = sector
zone0_after w (Some growth) sector =
    if length growth.0.path == 0 then option_map_or (λ o. with_root sector o.entry.address o.entry.len) (object_at w.listings []) sector else sector

-- bits of a zone's sector outside its allocation bits, without ZoneCheck, FreeLink and CrossCheck
pub record ZoneSteady (g : Geometry) (z : ℕ) (old new : List ℕ) : Type 0 where
  pub header : slice_range (bits new) 32 (first_bit z) ≡ slice_range (bits old) 32 (first_bit z)
  pub behind : drop (end_bit g z) (bits new) ≡ drop (end_bit g z) (bits old)

-- a zone's sector, with the root's new place in zone 0 if the root grows
abbrev pub expected_zone : Opened → Opened → Command → Map → ℕ → List ℕ
expected_zone v w c m z = if z == 0 then zone0_after w (growth_in v c) (sector_of m 0) else sector_of m z

-- the runs of identifier 1 and of lost identifiers
abbrev pub is_idle : List Object → RunKind → Bool
is_idle objects kinds.Hole = false
is_idle objects (kinds.Id id) = (id == 1) || is_lost objects id

-- the sectors of identifier 1 and of lost identifiers that don't hold the map
abbrev pub idle_sectors : Opened → Map → List ℕ
idle_sectors v m =
    filter (λ s. not (is_among (map_place (Layout.New m)) s))
    (sectors_of m.geometry (filter (λ p. is_idle (objects_of v.listings) p.1.kind) (all_runs m)))

-- the sectors of lost space on an old map
abbrev pub lost_sectors : OldMapContent → List Object → List ℕ
lost_sectors space objects = filter (is_lost_sector (Layout.Old space) objects) (range_with_len 0 (disc_sectors (Layout.Old space)))

-- Each link of a zone is kept with all its bits, or written in full: FreeLink with its top bit, a hole's field with its link alone.
abbrev pub KeepsOrWritesLinks : Map → Map → ℕ → Type 0
KeepsOrWritesLinks m m' z = KeepsLinks (shape m.geometry z) (bits (sector_of m z)) (bits (sector_of m' z)) (runs_of m z) (runs_of m' z)

-- The zones are the expected ones except for their allocation bits and checks, and each link is kept or written in full. The boot
-- block and the kept sectors stay.
pub record MapOutside (old new : List ℕ) (kind : Kind) (expected : ℕ → List ℕ) (kept : List ℕ) (m m' : Map) : Type 0 where
  pub geometry : m'.geometry ≡ m.geometry
  pub zones : (z : ℕ) → z < m.geometry.zones → ZoneSteady m.geometry z (expected z) (sector_of m' z)
  pub links : (z : ℕ) → z < m.geometry.zones → KeepsOrWritesLinks m m' z
  pub boot : SameSectors m.geometry.sector (boot_place kind m.geometry.sector) old new
  pub kept_stay : SameSectors m.geometry.sector kept old new

-- An old map stays as it is, or is written anew with its holes.
abbrev pub OldMapOutside : List ℕ → List ℕ → OldMapContent → OldMapContent → Type 0
OldMapOutside old new space space' =
    ((space'.holes ≡ space.holes) × (bytes_at new 0 512 ≡ bytes_at old 0 512)) ⊎ (bytes_at new 0 512 ≡ with_holes (bytes_at old 0 512) space'.holes)

-- the record's other bytes, the bits outside the allocation bits, the boot block, and what is in identifier 1 and in lost space;
-- on an old map every byte of the map but those that say its holes
abbrev pub OutsideSteady : List ℕ → List ℕ → Opened → Opened → Command → Layout → Layout → Type 0
OutsideSteady old new v w c (Layout.New m) (Layout.New m') = MapOutside old new v.kind (expected_zone v w c m) (idle_sectors v m) m m'
OutsideSteady old new v w c (Layout.Old space) (Layout.Old space') =
    OldMapOutside old new space space'
    × (bytes_at new 512 (256 * space.sector_units - 512) ≡ bytes_at old 512 (256 * space.sector_units - 512))
    × SameSectors (256 * space.sector_units) (lost_sectors space (objects_of v.listings)) old new
OutsideSteady old new v w c _ _ = ⊥

-- what a command does to the map
abbrev pub SpaceSteady : Opened → Opened → Command → Layout → Layout → Type 0
SpaceSteady v w c (Layout.New m) (Layout.New m') = NewMapSteady v w c m m'
SpaceSteady v w c (Layout.Old space) (Layout.Old space') = space'.holes ≡ old_holes_after space v c
SpaceSteady v w c _ _ = ⊥

-- all that stays, beside the tree and the places of what is new
pub record Steady (old new : List ℕ) (v w : Opened) (c : Command) (copied : Bool) : Type 0 where
  pub directories : DirectoriesSteady old new v w c
  pub named : NamedStays v w c copied
  pub entry : NamedEntrySteady v w c
  pub made : NewDirectory new w c
  pub space : SpaceSteady v w c v.layout w.layout
  pub outside : OutsideSteady old new v w c v.layout w.layout
  pub behind : drop (disc_size v.kind) new ≡ drop (disc_size v.kind) old
