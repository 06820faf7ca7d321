-- A directory that grows in the safe mode: where it comes to lie, and the root's place in the record of the map.
use Rattle.std.specs.Prelude.{◌≡◌, ◌<◌, ◌⊎◌, ◌==◌, ℕ, true, false, List, [], ◌∷◌, length, Ok, if◌then◌else◌}
use Rattle.std.specs.Option.{option_map_or}
use Rattle.fc_record.specs.declared.DiscRecord.{DiscRecord}
use Rattle.fc_record.specs.Kinds.{map_record}
use Rattle.fc_newmap.specs.Map.{Map, is_used, sector_of}
use Rattle.fc_newmap.specs.Copies.{HoldsCopies}
use Rattle.fc_model.specs.Command.{Command}
use Rattle.fc_image.specs.Layout.{Layout, id_of, low_of}
use Rattle.fc_image.specs.Objects.{objects_of}
use Rattle.fc_image.specs.Opening.{Opened, agreement, difference}
use Rattle.fc_image.specs.Edits.{IsAt}
use Rattle.fc_image.specs.effects.Short.{has_room, is_alone}
use Rattle.fc_image.specs.effects.Steady.{KeepsOrWritesLinks, ZoneSteady}
use Rattle.fc_image.specs.safe.SafeShort.{new_id_growth}
use Rattle.fc_edits.specs.Growing.{Growing, at_place}
use Rattle.fc_outcomes.specs.NewImage.{rooted_zone}
use Rattle.fc_safelaws.specs.Relaid.{Reaches}
use Rattle.fc_safeedits.specs.Relocation.{is_moved}
use Rattle.fc_safeedits.specs.SafeChange.{KeepsRecord, MovedParts, SafeChange, moves_in}

-- ---- its place

-- Its identifier, which moves, has room for it. It keeps its address, and is told in its sectors by the old map.
pub record GrowsInside (x : MovedParts) (g : Growing) : Type 0 where
  pub room : has_room (Layout.New x.m) (objects_of x.listings) (g.o, g.len) ≡ true
  pub address : g.address ≡ g.o.entry.address
  pub moves : is_moved (moves_in x) g.o ≡ true
  pub before : IsAt (Layout.New x.m) (at_place g g.o)
  pub reaches : Reaches x.m' (at_place g g.o)

-- There is no room, but it is alone in its identifier, which moves. It keeps its address, and is told in its sectors by the new map.
pub record GrowsAnew (x : MovedParts) (g : Growing) : Type 0 where
  pub no_room : has_room (Layout.New x.m) (objects_of x.listings) (g.o, g.len) ≡ false
  pub alone : is_alone (objects_of x.listings) g.o ≡ true
  pub address : g.address ≡ g.o.entry.address
  pub moves : is_moved (moves_in x) g.o ≡ true
  pub at : IsAt (Layout.New x.m') (at_place g g.o)

-- Otherwise it lies from the begin of another identifier on, which had no runs.
pub record GrowsAway (x : MovedParts) (g : Growing) : Type 0 where
  pub no_room : has_room (Layout.New x.m) (objects_of x.listings) (g.o, g.len) ≡ false
  pub not_alone : is_alone (objects_of x.listings) g.o ≡ false
  pub is_new : is_used x.m (id_of g.address) ≡ false
  pub begins : low_of g.address ≡ 0
  pub at : IsAt (Layout.New x.m') (at_place g g.o)

-- It grows in one of these ways.
abbrev pub IsGrownSafely : MovedParts → Growing → Type 0
IsGrownSafely x g = GrowsInside x g ⊎ GrowsAnew x g ⊎ GrowsAway x g

-- its identifier, if it is another one
abbrev pub its_new_id : Opened → Command → Growing → List ℕ
its_new_id v c g = option_map_or (λ growth. id_of g.address ∷ []) (new_id_growth v c) []

-- ---- the record of the map

-- It isn't the root: the record stays.
pub record GrowsBelow (x : SafeChange) (g : Growing) : Type 0 where
  pub below : 0 < length g.o.path
  pub record_stays : KeepsRecord x.parts

-- The root grows: the record has its new place, and agrees with that of the kind.
pub record GrowsAtTop (x : SafeChange) (g : Growing) : Type 0 where
  pub at_top : g.o.path ≡ []
  pub own : DiscRecord
  pub agreed : agreement x.r (map_record (sector_of x.parts.m' 0)) (difference x.r (map_record (sector_of x.parts.m' 0))) ≡ Ok own
  pub address : own.root ≡ g.address
  pub len : own.root_size ≡ g.len

-- The record of the map says where the root lies then.
abbrev pub IsRecorded : SafeChange → Growing → Type 0
IsRecorded x g = GrowsBelow x g ⊎ GrowsAtTop x g

-- a zone of the map before, with the root's new place in its record if the root grows
abbrev pub zone_with : Map → Growing → ℕ → List ℕ
zone_with m g z = if length g.o.path == 0 then rooted_zone m g.address g.len z else sector_of m z

-- Both copies of the map are the new map. It is the old one but for its runs, FreeLink, the checks, and the root's place.
pub record IsWholeGrown (x : SafeChange) (g : Growing) : Type 0 where
  pub copies : HoldsCopies x.parts.m.geometry x.parts.m'.zones x.image'
  pub zones : (z : ℕ) → z < x.parts.m.geometry.zones → ZoneSteady x.parts.m.geometry z (zone_with x.parts.m g z) (sector_of x.parts.m' z)
  pub links : (z : ℕ) → z < x.parts.m.geometry.zones → KeepsOrWritesLinks x.parts.m x.parts.m' z
