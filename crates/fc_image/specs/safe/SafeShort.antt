-- What a command needs in the safe mode, and why it is refused.
use Rattle.std.specs.Prelude.{ℕ, ◌+◌, ◌-◌, ◌*◌, ◌/◌, max, Bool, false, not, ◌&&◌, ◌||◌, ◌==◌, nat_lt, List, [], ◌∷◌, ◌++◌, length, map, filter, if◌then◌else◌, Option, Some, None}
use Rattle.std.specs.List.{flat_map, fold, list_any, range_with_len}
use Rattle.std.specs.Option.{option_map, option_map_or, option_and_then}
use Rattle.fc_names.specs.declared.refusal.Refusal.{Refusal}
use Rattle.fc_names.specs.declared.refusal.Refusal.TheVariants as refusals
use Rattle.fc_names.specs.Names.{Path, is_same_path, is_directory}
use Rattle.fc_dirs.specs.declared.Entry.{Entry}
use Rattle.fc_record.specs.Record.{id_limit}
use Rattle.fc_newmap.specs.Map.{Map, ZoneRun, hole_runs, id_runs, zone_numbers}
use Rattle.fc_model.specs.Command.{Command}
use Rattle.fc_image.specs.Layout.{Layout, id_of, low_of, low_start}
use Rattle.fc_image.specs.Walk.{Object, is_directory_object}
use Rattle.fc_image.specs.Objects.{objects_of, object_at, is_owner_of}
use Rattle.fc_image.specs.Opening.{Opened}
use Rattle.fc_image.specs.effects.Sharing.{units}
use Rattle.fc_image.specs.effects.Short.{Growth, short, is_copied, slack_for, growth_in, moved_growth, object_units, is_alone, replaced_object}
use Rattle.fc_image.specs.effects.Placed.{holes_left}
use Rattle.fc_image.specs.effects.Steady.{may_be_rewritten, is_gone}
use Rattle.fc_image.specs.safe.FirstFit.{first_fit}

-- no directory lies in the map's identifier, and directories are big; said of all entries, so that the parts of a volume have it too
abbrev pub suits : Layout → List Entry → Bool
suits (Layout.Old space) entries = false
suits (Layout.New m) entries = not (m.geometry.version == 0) && not (list_any (λ e. is_directory e.attrs && (id_of e.address == 2)) entries)

-- The safe mode serves the volume.
abbrev pub is_suitable : Opened → Bool
is_suitable v = suits v.layout (map (λ o. o.entry) (objects_of v.listings))

-- ---- what stays in an identifier

-- a directory that grows, and gets a new identifier: it is not alone, and has no room
abbrev pub new_id_growth : Opened → Command → Option Growth
new_id_growth v c =
    option_and_then (λ growth. if is_alone (objects_of v.listings) growth.0 then None else Some growth) (moved_growth v c)

-- The directory gets a new identifier.
abbrev pub leaves_id : Opened → Command → Path → Bool
leaves_id v c path = option_map_or (λ growth. is_same_path growth.0.path path) (new_id_growth v c) false

-- The object is deleted or saved over.
abbrev pub is_replaced : Opened → Command → Path → Bool
is_replaced v c path = option_map_or (λ o. is_same_path o.path path) (replaced_object v c) false

-- the changed directories that are there after the command
abbrev pub is_changed_directory : Opened → Command → Object → Bool
is_changed_directory v c o =
    is_directory_object o && may_be_rewritten v c o.path && not (is_gone c o.path)

-- a file that a rename copies gets space of its own
abbrev pub copies_away : Opened → Command → Path → Bool
copies_away v (Command.Rename from to) path = is_same_path from path && option_map_or (is_copied v from to) (object_at v.listings from) false
copies_away v _ path = false

-- an object that owns the identifier after the command too
abbrev pub remains_in : Opened → Command → ℕ → Object → Bool
remains_in v c id o =
    is_owner_of id o && not (is_replaced v c o.path) && not (copies_away v c o.path) && not (leaves_id v c o.path)

-- the sectors that an object takes after the command
abbrev pub sectors_after : Map → Opened → Command → Object → ℕ
sectors_after m v c o =
    option_map_or (λ growth. if is_same_path growth.0.path o.path then growth.1 / m.geometry.sector else length o.sectors) (growth_in v c) (length o.sectors)

-- the bytes of the identifier up to an object's end
abbrev pub end_of : Map → Opened → Command → Object → ℕ
end_of m v c o = (low_start m (low_of o.entry.address) + sectors_after m v c o) * m.geometry.sector

-- the end of the last owner, in bytes; no new file lies after it, since only identifiers whose owners are all files are shared
abbrev pub last_end : Map → Opened → Command → ℕ → ℕ
last_end m v c id = fold (λ n o. max n (end_of m v c o)) 0 (filter (remains_in v c id) (objects_of v.listings))

-- ---- needs

-- the identifiers that hold a changed directory which stays in them, rising
abbrev pub holds_changed : Opened → Command → ℕ → Bool
holds_changed v c id = list_any (λ o. is_changed_directory v c o && remains_in v c id o) (objects_of v.listings)

-- these identifiers, rising
abbrev pub changed_ids : Map → Opened → Command → List ℕ
changed_ids m v c = filter (holds_changed v c) (range_with_len 0 (id_limit m.geometry))

-- the bits, unless there are none
abbrev pub if_some_bits : ℕ → List ℕ
if_some_bits bits = if bits == 0 then [] else bits ∷ []

-- the bits of the needs, in their order
abbrev pub needs : Map → Opened → Command → List ℕ
needs m v c =
    if_some_bits (object_units m v c)
    ++ map (λ id. units m.geometry (last_end m v c id)) (changed_ids m v c)
    ++ option_map_or (λ growth. units m.geometry growth.1 ∷ []) (new_id_growth v c) []

-- each need in the holes that those before it left
unfoldable pub fitted : Map → List ℕ → List ZoneRun → Option (List (List ZoneRun))
fitted m [] holes = Some []
fitted m (bits ∷ needs) holes =
    option_and_then (λ parts. option_map (λ others. parts ∷ others) (fitted m needs (holes_left holes parts))) (first_fit m.geometry bits holes)

-- the parts of all needs
abbrev pub fitted_needs : Map → Opened → Command → Option (List (List ZoneRun))
fitted_needs m v c = fitted m (needs m v c) (hole_runs m)

-- ---- refusals

-- why the safe mode refuses a command: as ever, or because too many zones would change
pub data SafeRefusal : Type 0 where
  Refused : (refusal : Refusal) → SafeRefusal
  Spread : (zones : ℕ) → SafeRefusal

-- a new file is put into the slack of this identifier
abbrev pub takes_slack : Opened → Command → ℕ → Bool
takes_slack v c id = option_map_or (λ share. share.0 == id) (slack_for v c) false

-- an object owned it, and none does any more
abbrev pub loses_owner : Opened → Command → ℕ → Bool
loses_owner v c id =
    list_any (is_owner_of id) (objects_of v.listings)
    && not (list_any (remains_in v c id) (objects_of v.listings)) && not (takes_slack v c id)

-- the runs of an identifier with a changed directory go back, and those of one whose last owner goes
abbrev pub is_given_up : Map → Opened → Command → ℕ → Bool
is_given_up m v c id = holds_changed v c id || loses_owner v c id

-- the runs that go back
abbrev pub places_given_up : Map → Opened → Command → List ZoneRun
places_given_up m v c = flat_map (λ id. if is_given_up m v c id then id_runs m id else []) (range_with_len 3 (id_limit m.geometry - 3))

-- The command makes the root grow.
abbrev pub root_grows : Opened → Command → Bool
root_grows v c = option_map_or (λ growth. length growth.0.path == 0) (growth_in v c) false

-- the number of zones in which a run is taken or given back; zone 0 is one of them if the root grows
abbrev pub changed_zones : Map → Opened → Command → List (List ZoneRun) → ℕ
changed_zones m v c parts =
    length (filter (λ z. list_any (λ p. p.0 == z) (flat_map (λ ps. ps) parts ++ places_given_up m v c) || ((z == 0) && root_grows v c)) (zone_numbers m.geometry))

-- too many zones
abbrev pub spread_or : ℕ → Option SafeRefusal
spread_or zones = if nat_lt 9 zones then Some (Spread zones) else None

-- why the needs are not met
abbrev pub fit_refusal : Map → Opened → Command → Option (List (List ZoneRun)) → Option SafeRefusal
fit_refusal m v c None = Some (Refused refusals.DiscFull)
fit_refusal m v c (Some parts) = spread_or (changed_zones m v c parts)

-- DirFull and IdsFull are as ever; DiscFull comes if the needs find no holes
abbrev pub early_refusal : Option Refusal → Option SafeRefusal
early_refusal (Some refusals.DirFull) = Some (Refused refusals.DirFull)
early_refusal (Some refusals.IdsFull) = Some (Refused refusals.IdsFull)
early_refusal _ = None

-- the first refusal
abbrev pub safe_or : Option SafeRefusal → Option SafeRefusal → Option SafeRefusal
safe_or (Some refusal) later = Some refusal
safe_or None later = later

-- the first refusal for want of space in the safe mode
unfoldable pub safe_short : Map → Opened → Command → Option SafeRefusal
safe_short m v c = safe_or (early_refusal (short v c)) (fit_refusal m v c (fitted_needs m v c))

-- the safe mode has new maps alone
abbrev pub safe_refusal : Opened → Command → Option SafeRefusal
safe_refusal v c = refused v.layout
  where
    refused : Layout → Option SafeRefusal
    refused (Layout.Old space) = None
    refused (Layout.New m) = safe_short m v c
