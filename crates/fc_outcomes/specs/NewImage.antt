-- An edit on an image with a new map, and what a command has done there.
use Rattle.std.specs.Prelude.{◌≡◌, ◌<◌, ◌≤◌, ◌⊎◌, ◌++◌, ℕ, ◌==◌, true, false, List, [], length, drop, map, Option, Some, None, Ok, Contains, IsPermutation, if◌then◌else◌}
use Rattle.std.proofs.Common.{inl, inr}
use Rattle.fc_record.specs.declared.DiscRecord.{DiscRecord}
use Rattle.fc_record.specs.declared.Kind.{Kind}
use Rattle.fc_record.specs.Kinds.{map_record}
use Rattle.fc_newmap.specs.Map.{Map, hole_runs, is_used, sector_of, with_root}
use Rattle.fc_newmap.specs.NewMap.{IsNewMap}
use Rattle.fc_newmap.specs.Copies.{HoldsCopies}
use Rattle.fc_dirs.specs.Directory.{directory_size}
use Rattle.fc_model.specs.Answer.{changed}
use Rattle.fc_model.specs.Command.{Command}
use Rattle.fc_names.specs.Names.{Path}
use Rattle.fc_image.specs.Layout.{Layout, dir_form}
use Rattle.fc_image.specs.Walk.{Listing, Object, root_entry}
use Rattle.fc_image.specs.Objects.{is_owned, objects_of, tree_of}
use Rattle.fc_image.specs.Opening.{Opened, agreement, difference}
use Rattle.fc_image.specs.Sound.{AreSound}
use Rattle.fc_image.specs.Stays.{IsNewKind, OpensAs}
use Rattle.fc_image.specs.TreeEdits.{IsMove, IsObjectEdit}
use Rattle.fc_image.specs.effects.Effect.{Changes, copies_file}
use Rattle.fc_image.specs.effects.Placed.{Placed}
use Rattle.fc_image.specs.effects.Short.{Growth, growth_in}
use Rattle.fc_image.specs.effects.Steady.{KeepsOrWritesLinks, MapOutside, NamedEntrySteady, NamedStays, NewDirectory, NewMapSteady, ZoneSteady, expected_zone, holes_untaken, idle_sectors, is_left_by_growth, zone0_after}
use Rattle.fc_record.specs.Kinds.{disc_size}
use Rattle.fc_tree.specs.Parts.{ArePartsOf, Parts}
use Rattle.fc_changes.specs.Owed.{IsMapAfter}
use Rattle.fc_laws.specs.agree.Agreed.{parts_with}
use Rattle.fc_edits.specs.Edit.{TopStays, listings_after, objects}
use Rattle.fc_edits.specs.NewPlaces.{NewPlaces, Taking, is_taken, untaken}
use Rattle.fc_edits.specs.PartsEdit.{NewPartsEdit}
use Rattle.fc_outcomes.specs.Puts.{ArePutOut, ArePutsOf, Put}
use Rattle.fc_outcomes.specs.Steady.{AreAsked}
use Rattle.fc_outcomes.specs.Written.{KeepsPaths, MovesPaths}

-- ---- what is promised

-- The command does what it promises, and the new image opens with these parts.
abbrev pub Outcome : Kind → List ℕ → List ℕ → Opened → Command → Parts → Type 0
Outcome kind image image' v c now = (after : Opened)
    × Changes kind (record { image = image; view = v }) (record { image = image'; view = after }) c (changed (tree_of image v.layout v.listings) c)
    × ArePartsOf now after

-- ---- what is known

-- The root stays, and the map's record with it. Both copies of the map are the new map.
pub record RootStays (parts : NewPartsEdit) (image' : List ℕ) : Type 0 where
  pub after : IsMapAfter parts.m parts.m' image'
  pub stays : (o : Object) → Contains (objects_of parts.listings) o → o.path ≡ [] → TopStays parts.edit o

-- zone 0 with this place of the root in its record, and the other zones
abbrev pub rooted_zone : Map → ℕ → ℕ → ℕ → List ℕ
rooted_zone m address len z = if z == 0 then with_root (sector_of m 0) address len else sector_of m z

-- The map m' stands in both copies. It is m but for the bits of its runs, FreeLink and the checks, and the root's place.
pub record IsMapRooted (m m' : Map) (image' : List ℕ) (address len : ℕ) : Type 0 where
  pub is_map : IsNewMap m'
  pub geometry : m'.geometry ≡ m.geometry
  pub copies : HoldsCopies m.geometry m'.zones image'
  pub zones : (z : ℕ) → z < m.geometry.zones → ZoneSteady m.geometry z (rooted_zone m address len z) (sector_of m' z)
  pub links : (z : ℕ) → z < m.geometry.zones → KeepsOrWritesLinks m m' z

-- The root has another place or length, which the map's record has too. It agrees with that of the kind.
pub record RootTurns (parts : NewPartsEdit) (r : DiscRecord) (image' : List ℕ) : Type 0 where
  pub address : ℕ
  pub len : ℕ
  pub after : IsMapRooted parts.m parts.m' image' address len
  pub own : DiscRecord
  pub agreed : agreement r (map_record (sector_of parts.m' 0)) (difference r (map_record (sector_of parts.m' 0))) ≡ Ok own
  pub turned : (o : Object) → Contains (objects_of parts.listings) o → o.path ≡ [] → (parts.edit.turn o).entry ≡ root_entry own.root (directory_size (dir_form (Layout.New parts.m')) own.root_size)

abbrev pub RootLeft : NewPartsEdit → DiscRecord → List ℕ → Type 0
RootLeft parts r image' = RootStays parts image' ⊎ RootTurns parts r image'

-- An edit of the parts of an image with a new map. Parts are taken for each of `takings`, the identifiers `gone` go back, the sectors of
-- `puts` get their bytes, and both copies of the map are the new map. The root stays, or has its new place in the map's record.
pub record NewImageEdit : Type 0 where
  pub parts : NewPartsEdit
  pub takings : List Taking
  pub gone : List ℕ
  pub r : DiscRecord
  pub image : List ℕ
  pub image' : List ℕ
  pub puts : List Put
  pub new_kind : IsNewKind parts.kind r
  pub opens : OpensAs image parts.kind (record { kind = parts.kind; layout = Layout.New parts.m; listings = parts.listings })
  pub places : NewPlaces parts.kind parts.m parts.m' parts.nodes parts.listings parts.edit takings gone
  pub out : ArePutOut (Layout.New parts.m) puts image image'
  pub puts_of : ArePutsOf (Layout.New parts.m) (Layout.New parts.m') parts.nodes parts.edit puts image image'
  pub root : RootLeft parts r image'

-- the image as it opened before
abbrev pub was : NewImageEdit → Opened
was x = record { kind = x.parts.kind; layout = Layout.New x.parts.m; listings = x.parts.listings }

-- and as it opens now
abbrev pub is_now : NewImageEdit → List Listing → Opened
is_now x found = record { kind = x.parts.kind; layout = Layout.New x.parts.m'; listings = found }

-- ---- what the command asks of it

-- The edit of the map is the command's: it takes from the holes what the command takes, an identifier that had runs and gets others is the
-- one that growth leaves, and one that had none is owned afterwards.
pub record IsMapAsked (x : NewImageEdit) (c : Command) (found : List Listing) : Type 0 where
  pub left : (k : ℕ) → is_used x.parts.m k ≡ true → is_taken x.takings k ≡ is_left_by_growth (was x) c k
  pub fresh : (k : ℕ) → is_taken x.takings k ≡ true → is_used x.parts.m k ≡ false → (3 ≤ k) × (is_owned (objects_of found) k ≡ true)
  pub untaken_is : untaken (hole_runs x.parts.m) x.takings ≡ holes_untaken (was x) (is_now x found) c x.parts.m x.parts.m'

-- The directory that grows, if one does, isn't the root, whose place stands in the map's record.
abbrev pub IsBelowRoot : Option Growth → Type 0
IsBelowRoot None = Unit {0}
IsBelowRoot (Some growth) = 0 < length growth.0.path

-- If the root stays, it doesn't grow. Else the record has the place that it has after the command.
abbrev pub IsRootAsked : (x : NewImageEdit) → Command → List Listing → RootLeft x.parts x.r x.image' → Type 0
IsRootAsked x c found (inl stays) = IsBelowRoot (growth_in (was x) c)
IsRootAsked x c found (inr turns) = zone0_after (is_now x found) (growth_in (was x) c) (sector_of x.parts.m 0) ≡ with_root (sector_of x.parts.m 0) turns.address turns.len

-- So are its objects and its directories.
pub record IsAsked (x : NewImageEdit) (c : Command) (found : List Listing) : Type 0 where
  pub root_keeps : IsRootAsked x c found x.root
  pub map : IsMapAsked x c found
  pub placed : Placed (was x) (is_now x found) c
  pub directories : AreAsked x.image x.image' (was x) (is_now x found) c x.parts.edit
  pub named : NamedStays (was x) (is_now x found) c (copies_file (was x) c)
  pub entry : NamedEntrySteady (was x) (is_now x found) c
  pub made : NewDirectory x.image' (is_now x found) c

-- It is so of each order in which the listings after the edit may be found.
abbrev pub IsAskedOf : NewImageEdit → Command → Type 0
IsAskedOf x c = (found : List Listing) → AreSound (Layout.New x.parts.m') found → IsPermutation (listings_after x.parts.edit) found → IsAsked x c found

-- ---- the law

pub record NewImageLaw : Type 0 where
  -- The map is as the command leaves it.
  pub space : (x : NewImageEdit) (c : Command) (found : List Listing) → IsPermutation (listings_after x.parts.edit) found → AreSound (Layout.New x.parts.m') found → IsMapAsked x c found
      → NewMapSteady (was x) (is_now x found) c x.parts.m x.parts.m'
  -- What lies outside is as before, and so is what comes after the disc.
  pub outside : (x : NewImageEdit) (c : Command) (found : List Listing) → IsRootAsked x c found x.root
      → MapOutside x.image x.image' x.parts.kind (expected_zone (was x) (is_now x found) c x.parts.m) (idle_sectors (was x) x.parts.m) x.parts.m x.parts.m'
  pub behind : (x : NewImageEdit) → drop (disc_size x.parts.kind) x.image' ≡ drop (disc_size x.parts.kind) x.image
  -- The command does what it promises, if no path changes, and if all at or below one moves.
  pub changes : (x : NewImageEdit) (c : Command) (changing : List Object)
      → KeepsPaths x.image x.image' (Layout.New x.parts.m) (Layout.New x.parts.m') x.parts.nodes x.parts.listings x.parts.edit changing → IsAskedOf x c
      → ((found : List Listing)
      → IsObjectEdit x.image x.image' (Layout.New x.parts.m) (Layout.New x.parts.m') x.parts.listings found (changing ++ objects x.parts.edit.gone)
      (map x.parts.edit.turn changing ++ objects x.parts.edit.come)
      → tree_of x.image' (Layout.New x.parts.m') found ≡ changed (tree_of x.image (Layout.New x.parts.m) x.parts.listings) c)
      → Outcome x.parts.kind x.image x.image' (was x) c (parts_with x.parts.m' x.parts.nodes' x.parts.owners')
  pub moves : (x : NewImageEdit) (c : Command) (from to : Path)
      → MovesPaths x.image x.image' (Layout.New x.parts.m) (Layout.New x.parts.m') x.parts.nodes x.parts.listings x.parts.edit from to → IsAskedOf x c
      → ((found : List Listing) → IsMove x.image x.image' (Layout.New x.parts.m) (Layout.New x.parts.m') x.parts.listings found from to
      → tree_of x.image' (Layout.New x.parts.m') found ≡ changed (tree_of x.image (Layout.New x.parts.m) x.parts.listings) c)
      → Outcome x.parts.kind x.image x.image' (was x) c (parts_with x.parts.m' x.parts.nodes' x.parts.owners')
