-- What a command that changes the tree takes of free space, and which map a crash or an I/O error in it leaves.
use Rattle.std.specs.Prelude.{◌≡◌, ◌<◌, ◌≤◌, ◌⊎◌, ℕ, ◌*◌, ◌==◌, Bool, true, false, not, ◌&&◌, ◌||◌, List, [], ◌++◌, length, filter, take, if◌then◌else◌, Option, Some, None, is_some, Contains}
use Rattle.std.specs.List.{list_all, list_any}
use Rattle.std.specs.Option.{option_map_or}
use Rattle.fc_device.specs.Sectors.{sector_at}
use Rattle.fc_names.specs.Names.{Path, is_same_path}
use Rattle.fc_record.specs.declared.Geometry.{Geometry}
use Rattle.fc_oldmap.specs.Holes.{first_fit_place}
use Rattle.fc_oldmap.specs.OldMap.{OldMapContent, map_units}
use Rattle.fc_zone.specs.declared.RunKind.TheVariants.{Id}
use Rattle.fc_newmap.specs.Map.{Map, ZoneRun, hole_runs, id_runs, is_used, runs_of, sector_of, sectors_of, with_root, zone_numbers}
use Rattle.fc_newmap.specs.RunsLaw.{HasZones}
use Rattle.fc_newmap.specs.Copies.{Chooses}
use Rattle.fc_model.specs.Command.{Command}
use Rattle.fc_image.specs.Layout.{Layout, hole_sectors, is_among, map_place, sectors_at}
use Rattle.fc_image.specs.Walk.{Object}
use Rattle.fc_image.specs.Objects.{is_owner_of, objects_of}
use Rattle.fc_image.specs.Opening.{Opened}
use Rattle.fc_image.specs.effects.Effect.{copies_file}
use Rattle.fc_image.specs.effects.Placed.{IsTaken, holes_left}
use Rattle.fc_image.specs.effects.Sharing.{units}
use Rattle.fc_image.specs.effects.Short.{Growth, growth_in, new_length, old_need}
use Rattle.fc_image.specs.effects.Steady.{ZoneSteady, has_id_that, keeps_runs}

-- ---- free space on a new map

-- Nothing is taken, or as much as so many bytes need.
abbrev pub MayTake : Geometry → List ZoneRun → ℕ → List ZoneRun → Type 0
MayTake g holes bytes parts = (parts ≡ []) ⊎ IsTaken g holes (units g bytes) parts

-- the same for a directory that grows
abbrev pub MayTakeToGrow : Geometry → List ZoneRun → Option Growth → List ZoneRun → Type 0
MayTakeToGrow g holes None parts = parts ≡ []
MayTakeToGrow g holes (Some growth) parts = MayTake g holes growth.1 parts

-- the parts of holes that a command may take: those of its object, and those of a directory that grows, from what these leave
pub record Takes (m : Map) (v : Opened) (c : Command) : Type 0 where
  pub object : List ZoneRun
  pub directory : List ZoneRun
  pub object_is : MayTake m.geometry (hole_runs m) (new_length v c) object
  pub directory_is : MayTakeToGrow m.geometry (holes_left (hole_runs m) object) (growth_in v c) directory

abbrev pub parts_taken : {m : Map} {v : Opened} {c : Command} → Takes m v c → List ZoneRun
parts_taken takes = takes.object ++ takes.directory

-- ---- which identifiers may go back

-- the path whose object the command removes, replaces or copies away
abbrev pub left_path : Opened → Command → Option Path
left_path v (Command.Save path load exec bytes) = Some path
left_path v (Command.Create path load exec len) = Some path
left_path v (Command.Delete path) = Some path
left_path v (Command.Rename from to) = if copies_file v (Command.Rename from to) then Some from else None
left_path v _ = None

-- The object is there, or is a directory that the command makes grow: so it may leave its place.
abbrev pub may_leave : Opened → Command → Object → Bool
may_leave v c o =
    option_map_or (λ path. is_same_path path o.path) (left_path v c) false || option_map_or (λ growth. is_same_path growth.0.path o.path) (growth_in v c) false

-- An identifier, not the map's, may go back if such objects own it, and no others.
abbrev pub may_go_back : Opened → Command → ℕ → Bool
may_go_back v c id =
    not (id == 2) && list_any (is_owner_of id) (objects_of v.listings) && list_all (λ o. not (is_owner_of id o) || may_leave v c o) (objects_of v.listings)

-- ---- a new map of the command's own

-- The run is one of these parts, as a run of the identifier.
abbrev pub IsOfPart : List ZoneRun → ℕ → ZoneRun → Type 0
IsOfPart parts id run = (part : ZoneRun) × Contains parts part × (run ≡ (part.0, record part.1 { kind = Id id }))

-- A zone has no other byte than its runs, FreeLink and the checks, but for the root's place in the record if a directory grows.
abbrev pub KeepsZone : Opened → Command → Map → Map → ℕ → Type 0
KeepsZone v c m n z =
    ZoneSteady m.geometry z (sector_of m z) (sector_of n z)
    ⊎ ((z ≡ 0) × (is_some (growth_in v c) ≡ true) × ((address len : ℕ) × ZoneSteady m.geometry z (with_root (sector_of m z) address len) (sector_of n z)))

-- The map n has runs in each zone. These are those of m, but that identifiers may have gone back, and parts of holes may be taken.
pub record IsOwnMap (m : Map) (v : Opened) (c : Command) (parts : List ZoneRun) (n : Map) : Type 0 where
  pub geometry : n.geometry ≡ m.geometry
  pub right : HasZones n
  pub stay : (id : ℕ) → is_used m id ≡ true → may_go_back v c id ≡ false → keeps_runs m n id
  pub added : (id : ℕ) (run : ZoneRun) → Contains (id_runs n id) run → Contains (id_runs m id) run ⊎ IsOfPart parts id run
  pub zones : (z : ℕ) → z < m.geometry.zones → KeepsZone v c m n z

-- The zone may have other runs, or another root.
abbrev pub may_change : Map → Opened → Command → List ZoneRun → ℕ → Bool
may_change m v c parts z =
    list_any (λ p. p.0 == z) parts || list_any (λ run. has_id_that (may_go_back v c) run.kind) (runs_of m z) || ((z == 0) && is_some (growth_in v c))

-- The command takes no space, and gives none back.
pub record TakesNone (v : Opened) (c : Command) : Type 0 where
  pub bytes : new_length v c ≡ 0
  pub growth : growth_in v c ≡ None
  pub left : left_path v c ≡ None

-- Free space that isn't taken has the bytes that it had. The copy of the map that counts is the one before or one of the command's own,
-- unless more than nine zones may change; if the command takes no space and gives none back, it is the one before.
pub record SparesNew (m : Map) (v : Opened) (c : Command) (was image : List ℕ) : Type 0 where
  pub takes : Takes m v c
  pub free : (s : ℕ) → is_among (hole_sectors (Layout.New m)) s ≡ true → is_among (sectors_of m.geometry (parts_taken takes)) s ≡ false
      → sector_at m.geometry.sector image s ≡ sector_at m.geometry.sector was s
  pub map : length (filter (may_change m v c (parts_taken takes)) (zone_numbers m.geometry)) ≤ 9 → (n : Map) × IsOwnMap m v c (parts_taken takes) n × Chooses m.geometry n.zones image
  pub still : TakesNone v c → Chooses m.geometry m.zones image

-- ---- an old map

-- Nothing is taken, or the first sectors of the first hole that is long enough.
abbrev pub TakesOld : OldMapContent → ℕ → List ℕ → Type 0
TakesOld space bytes sectors =
    (sectors ≡ []) ⊎ ((address : ℕ) × (first_fit_place (old_need space bytes) space.holes ≡ Some address) × (sectors_at (Layout.Old space) address bytes ≡ Some sectors))

-- the bytes of the map's sectors
abbrev pub front_of : OldMapContent → List ℕ → List ℕ
front_of space image = take (256 * map_units space.sector_units) image

-- Free space that isn't taken has the bytes that it had. If the command takes no space and gives none back, the map, which has no copy, is as
-- it was.
pub record SparesOld (space : OldMapContent) (v : Opened) (c : Command) (was image : List ℕ) : Type 0 where
  pub taken : List ℕ
  pub takes : TakesOld space (new_length v c) taken
  pub free : (s : ℕ) → is_among (hole_sectors (Layout.Old space)) s ≡ true → is_among (map_place (Layout.Old space)) s ≡ false → is_among taken s ≡ false
      → sector_at (256 * space.sector_units) image s ≡ sector_at (256 * space.sector_units) was s
  pub still : TakesNone v c → front_of space image ≡ front_of space was

-- ---- on either

abbrev pub SparesSpace : Layout → Opened → Command → List ℕ → List ℕ → Type 0
SparesSpace (Layout.New m) v c was image = SparesNew m v c was image
SparesSpace (Layout.Old space) v c was image = SparesOld space v c was image
