-- The space that a command needs, and the refusals for want of it.
use Rattle.std.specs.Prelude.{ℕ, ◌+◌, ◌*◌, Bool, false, not, ◌&&◌, ◌==◌, nat_lt, nat_le, List, [], ◌∷◌, ◌++◌, length, map, filter, if◌then◌else◌, Option, Some, None, is_some, is_none}
use Rattle.std.specs.List.{flat_map}
use Rattle.std.specs.Str.{bytes_eq}
use Rattle.std.specs.Option.{option_map_or, option_map, option_and_then}
use Rattle.std.specs.Int.{div_ceil}
use Rattle.fc_names.specs.declared.name.NameForm.{NameForm}
use Rattle.fc_names.specs.declared.name.NameForm.TheVariants.{Seven, Ten, Long}
use Rattle.fc_names.specs.declared.refusal.Refusal.{Refusal}
use Rattle.fc_names.specs.declared.refusal.Refusal.TheVariants as refusals
use Rattle.fc_names.specs.Names.{Path, is_same_path, is_same_name}
use Rattle.fc_oldmap.specs.declared.Hole.{Hole}
use Rattle.fc_oldmap.specs.Holes.{hole, hole_sum, hole_limit, after_take, after_give, first_fit_place}
use Rattle.fc_oldmap.specs.OldMap.{OldMapContent}
use Rattle.fc_newmap.specs.Map.{Map, hole_runs, bits_in}
use Rattle.fc_model.specs.Tree.{holder, last_name}
use Rattle.fc_model.specs.Command.{Command}
use Rattle.fc_model.specs.Answer.{when, first_of}
use Rattle.fc_dirs.specs.Small.{tail_of}
use Rattle.fc_dirs.specs.Big.{needed_size}
use Rattle.fc_dirs.specs.Directory.{Directory, entries_of}
use Rattle.fc_image.specs.Layout.{Layout, dir_form, id_of, low_of, new_sectors, is_apart}
use Rattle.fc_image.specs.Walk.{Object, Listing, is_directory_object}
use Rattle.fc_image.specs.Objects.{objects_of, owner_count, has_sectors, object_at, listing_at}
use Rattle.fc_image.specs.Opening.{Opened}
use Rattle.fc_image.specs.effects.Sharing.{units, new_ids, slack}

-- ---- the new object

-- the bytes of a new directory
abbrev pub new_dir_size : NameForm → ℕ
new_dir_size Seven = 1280
new_dir_size Ten = 2048
new_dir_size Long = 2048

-- another object has the same identifier
abbrev pub is_sharing : Layout → List Object → Object → Bool
is_sharing (Layout.Old space) objects o = false
is_sharing (Layout.New m) objects o = has_sectors o && nat_lt 1 (owner_count objects (id_of o.entry.address))

-- A file that shares its identifier is copied if it is moved to another directory.
abbrev pub is_copied : Opened → Path → Path → Object → Bool
is_copied v from to o =
    not (is_directory_object o) && not (is_same_path (holder from) (holder to)) && is_sharing v.layout (objects_of v.listings) o

-- the bytes of the object for which new space is needed
abbrev pub new_length : Opened → Command → ℕ
new_length v (Command.Save path load exec bytes) = length bytes
new_length v (Command.Create path load exec len) = len
new_length v (Command.Cdir path) = new_dir_size (dir_form v.layout)
new_length v (Command.Rename from to) = option_map_or (λ o. if is_copied v from to o then o.entry.len else 0) (object_at v.listings from) 0
new_length v _ = 0

-- the slack on a new map; an old one has none
abbrev pub slack_in : Layout → List Object → Path → ℕ → Option (ℕ × ℕ)
slack_in (Layout.Old space) objects dir bytes = None
slack_in (Layout.New m) objects dir bytes = slack m objects dir bytes

-- the slack that the command's file takes
abbrev pub slack_for : Opened → Command → Option (ℕ × ℕ)
slack_for v (Command.Save path load exec bytes) = slack_in v.layout (objects_of v.listings) (holder path) (length bytes)
slack_for v (Command.Create path load exec len) = slack_in v.layout (objects_of v.listings) (holder path) len
slack_for v _ = None

-- ---- the directory that gets a name

-- a directory, the new name, and the names that it then has
pub record Gain : Type 0 where
  pub listing : Listing
  pub name : List ℕ
  pub names : List (List ℕ)

-- the names in a directory
abbrev pub names_in : Listing → List (List ℕ)
names_in l = map (λ e. e.name) (entries_of l.content)

-- a directory that gets a name more
abbrev pub gain_of : Path → Listing → Gain
gain_of path l = record { listing = l; name = last_name path; names = names_in l ++ last_name path ∷ [] }

-- the directory that holds a path gets its last name
abbrev pub gain_at : Opened → Path → Option Gain
gain_at v path = option_map (gain_of path) (listing_at v.listings (holder path))

-- an object that isn't there yet
abbrev pub gain_if_absent : Opened → Path → Option Gain
gain_if_absent v path = if is_some (object_at v.listings path) then None else gain_at v path

-- the names of which one is another now
abbrev pub gain_by_new_name : List ℕ → List ℕ → Listing → Gain
gain_by_new_name old new l = record { listing = l; name = new; names = filter (λ name. not (is_same_name name old)) (names_in l) ++ new ∷ [] }

-- the entry's name as it stands, and the new one, if they differ byte for byte
abbrev pub gain_by_rename : Opened → Path → Path → Object → Option Gain
gain_by_rename v from to o =
    if not (is_same_path (holder from) (holder to)) then gain_at v to
    else if bytes_eq o.entry.name (last_name to) then None
    else option_map (gain_by_new_name o.entry.name (last_name to)) (listing_at v.listings (holder to))

-- the directory to which the command gives a name that it has not, byte for byte
abbrev pub gain_in : Opened → Command → Option Gain
gain_in v (Command.Save path load exec bytes) = gain_if_absent v path
gain_in v (Command.Create path load exec len) = gain_if_absent v path
gain_in v (Command.Cdir path) = gain_if_absent v path
gain_in v (Command.Rename from to) = option_and_then (gain_by_rename v from to) (object_at v.listings from)
gain_in v _ = None

-- the directory has too many names, or can't be so large
abbrev pub is_full_with : Directory → Gain → Bool
is_full_with (Directory.Small dir) gain = nat_lt (tail_of dir.form).places (length gain.names)
is_full_with (Directory.Big dir) gain = nat_lt 4194304 (needed_size dir gain.names gain.name)

-- ---- growth

-- a big directory that grows, and the size that it then has
abbrev pub Growth : Type 0
Growth = Object × ℕ

-- the growth of a directory that says this
abbrev pub growth_with : Object → Directory → Gain → Option Growth
growth_with o (Directory.Small dir) gain = None
growth_with o (Directory.Big dir) gain =
    if nat_lt dir.size (needed_size dir gain.names gain.name) then Some (o, needed_size dir gain.names gain.name) else None

-- the growth that a new name makes
abbrev pub growth_of : Gain → Option Growth
growth_of gain = growth_with gain.listing.object gain.listing.content gain

-- the growth that a command makes
abbrev pub growth_in : Opened → Command → Option Growth
growth_in v c = option_and_then growth_of (gain_in v c)

-- the only owner of its identifier, from the identifier's first sector on
abbrev pub is_alone : List Object → Object → Bool
is_alone objects o = (owner_count objects (id_of o.entry.address) == 1) && nat_le (low_of o.entry.address) 1

-- the sectors of the other objects
abbrev pub sectors_of_others : List Object → Object → List ℕ
sectors_of_others objects o = flat_map (λ p. p.sectors) (filter (λ p. not (is_same_path p.path o.path)) objects)

-- the directory may grow where it lies
abbrev pub has_room : Layout → List Object → Growth → Bool
has_room (Layout.Old space) objects growth = false
has_room (Layout.New m) objects growth =
    not (id_of growth.0.entry.address == 2)
    && option_map_or (λ sectors. is_apart sectors (sectors_of_others objects growth.0)) (new_sectors m growth.0.entry.address growth.1) false

-- a directory that grows and needs new space for it
abbrev pub moved_growth : Opened → Command → Option Growth
moved_growth v c =
    option_and_then (λ growth. if has_room v.layout (objects_of v.listings) growth then None else Some growth) (growth_in v c)

-- ---- needs

-- new bits for the object, and for the directory
abbrev pub object_units : Map → Opened → Command → ℕ
object_units m v c = if is_some (slack_for v c) then 0 else units m.geometry (new_length v c)

-- the new bits of the grown directory
abbrev pub growth_units : Map → Opened → Command → ℕ
growth_units m v c = option_map_or (λ growth. units m.geometry growth.1) (moved_growth v c) 0

-- the bits that the holes must have together
abbrev pub needed_bits : Map → Opened → Command → ℕ
needed_bits m v c =
    let a = object_units m v c in
    let b = growth_units m v c in
    if nat_lt 0 a && nat_lt 0 b then a + b + 2 * m.geometry.min else a + b

-- 1 if the test holds, else 0
abbrev pub one_if : Bool → ℕ
one_if test = if test then 1 else 0

-- new identifiers for the object, and for a directory that isn't alone in its own
abbrev pub needed_ids : Map → Opened → Command → ℕ
needed_ids m v c =
    one_if (nat_lt 0 (object_units m v c))
    + option_map_or (λ growth. one_if (not (is_alone (objects_of v.listings) growth.0))) (moved_growth v c) 0

-- the units of whole sectors that so many bytes take on an old map
abbrev pub old_need : OldMapContent → ℕ → ℕ
old_need space bytes = div_ceil bytes (256 * space.sector_units) * space.sector_units

-- the space that an object takes on an old map
abbrev pub space_of : OldMapContent → Object → Hole
space_of space o = hole o.entry.address (length o.sectors * space.sector_units)

-- the object whose space the command gives back on an old map
abbrev pub replaced_object : Opened → Command → Option Object
replaced_object v (Command.Save path load exec bytes) = object_at v.listings path
replaced_object v (Command.Create path load exec len) = object_at v.listings path
replaced_object v (Command.Delete path) = object_at v.listings path
replaced_object v _ = None

-- the holes with the space of an object, if it has any
abbrev pub with_space_of : OldMapContent → Option Object → List Hole → List Hole
with_space_of space None holes = holes
with_space_of space (Some o) holes = if has_sectors o then after_give (space_of space o) holes else holes

-- taking nothing leaves the holes
abbrev pub holes_without : ℕ → List Hole → List Hole
holes_without n holes = if n == 0 then holes else after_take n holes

-- the holes of an old map after the command: new space is taken first, and then the old is given back
abbrev pub old_holes_after : OldMapContent → Opened → Command → List Hole
old_holes_after space v c = with_space_of space (replaced_object v c) (holes_without (old_need space (new_length v c)) space.holes)

-- ---- refusals

-- the refusals for want of space on the disc, in their order
abbrev pub space_reasons : Layout → Opened → Command → List (Option Refusal)
space_reasons (Layout.New m) v c =
    when (nat_lt (length (new_ids m)) (needed_ids m v c)) refusals.IdsFull
    ∷ when (nat_lt (bits_in (hole_runs m)) (needed_bits m v c)) refusals.DiscFull ∷ []
space_reasons (Layout.Old space) v c =
    let need = old_need space (new_length v c) in
    when (nat_lt (hole_sum space.holes) need) refusals.DiscFull
    ∷ when (nat_lt 0 need && is_none (first_fit_place need space.holes)) refusals.CompactionRequired
    ∷ when (nat_lt hole_limit (length (old_holes_after space v c))) refusals.MapFull ∷ []

-- the first refusal for want of space
unfoldable pub short : Opened → Command → Option Refusal
short v c =
    first_of (when (option_map_or (λ gain. is_full_with gain.listing.content gain) (gain_in v c) false) refusals.DirFull ∷ space_reasons v.layout v c)
