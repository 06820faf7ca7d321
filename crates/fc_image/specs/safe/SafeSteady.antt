-- What a changing command leaves as it was in the safe mode: v is the opened image before it, and w after it.
use Rattle.std.specs.Prelude.{◌≡◌, ◌<◌, ℕ, ◌+◌, ◌*◌, Bool, true, false, ◌==◌, List, [], ◌∷◌, ◌++◌, length, take, drop, map, filter, if◌then◌else◌, Option, Some, None, is_some, IfSome, IsSomeAnd, Contains}
use Rattle.std.specs.List.{fold, list_any}
use Rattle.std.specs.Option.{option_map_or}
use Rattle.fc_record.specs.Kinds.{disc_size}
use Rattle.fc_oldmap.specs.declared.Hole.{Hole}
use Rattle.fc_newmap.specs.Map.{Map, ZoneRun, all_runs, has_id, hole_runs, id_runs, is_used}
use Rattle.fc_model.specs.Command.{Command}
use Rattle.fc_image.specs.Layout.{Layout, id_of, low_of}
use Rattle.fc_image.specs.Walk.{Object, Listing}
use Rattle.fc_image.specs.Objects.{objects_of, is_owned, is_lost, object_at, listing_at}
use Rattle.fc_image.specs.Opening.{Opened}
use Rattle.fc_image.specs.Report.{holder_address}
use Rattle.fc_image.specs.effects.Sharing.{new_ids}
use Rattle.fc_image.specs.effects.Short.{object_units, slack_for, growth_in}
use Rattle.fc_image.specs.effects.Placed.{made_object, is_written_empty, HasAddress, first_low, holes_left}
use Rattle.fc_image.specs.effects.Steady.{DirectoriesSteady, NamedStays, NamedEntrySteady, NewDirectory, OutsideSteady, keeps_runs, zone_holes, holes_with, IsRewritten, path_after}
use Rattle.fc_image.specs.safe.SafeShort.{changed_ids, new_id_growth, fitted_needs, places_given_up, is_changed_directory}

-- the identifier of an object in space of its own
abbrev pub own_id : Map → Opened → Command → Option Object → List ℕ
own_id m v c None = []
own_id m v c (Some o) = if object_units m v c == 0 then [] else id_of o.entry.address ∷ []

-- an object's identifier
abbrev pub id_list : Option Object → List ℕ
id_list None = []
id_list (Some o) = id_of o.entry.address ∷ []

-- the identifier of a grown directory that got a new one
abbrev pub grown_id : Opened → Opened → Command → List ℕ
grown_id v w c = option_map_or (λ growth. id_list (object_at w.listings growth.0.path)) (new_id_growth v c) []

-- the identifiers of the needs, in their order, and those of them that are new
abbrev pub need_ids : Map → Opened → Opened → Command → List ℕ
need_ids m v w c = own_id m v c (made_object w c) ++ changed_ids m v c ++ grown_id v w c

-- those of them that are new
abbrev pub new_id_list : Map → Opened → Opened → Command → List ℕ
new_id_list m v w c = own_id m v c (made_object w c) ++ grown_id v w c

-- a run's zone, start and length
abbrev pub place_in_zone : ZoneRun → ℕ × ℕ × ℕ
place_in_zone p = (p.0, p.1.start, p.1.len)

-- the extents of an identifier in the order of the disc
abbrev pub disc_extents : Map → ℕ → List (ℕ × ℕ × ℕ)
disc_extents m id = map place_in_zone (filter (λ p. has_id id p.1.kind) (all_runs m))

-- each need's identifier has exactly the parts of its need, which rise over the disc as the holes do
abbrev pub HaveRuns : Map → List ℕ → List (List ZoneRun) → Type 0
HaveRuns m' [] [] = Unit {0}
HaveRuns m' (id ∷ ids) (parts ∷ others) = (disc_extents m' id ≡ map place_in_zone parts) × HaveRuns m' ids others
HaveRuns m' _ _ = ⊥

-- New identifiers are the least that had no run.
abbrev pub AreLeast : Map → List ℕ → Type 0
AreLeast m ids = ids ≡ take (length ids) (new_ids m)

-- where the new object lies
abbrev pub SafeObjectPlaced : Map → Map → ℕ → Option (ℕ × ℕ) → Option Object → Type 0
SafeObjectPlaced m m' bits (Some share) o = HasAddress o (256 * share.0 + share.1)
SafeObjectPlaced m m' bits None o = 0 < bits → IsSomeAnd o (λ o. low_of o.entry.address ≡ first_low m' o (id_runs m' (id_of o.entry.address)))

-- in its new identifier, or where it was
abbrev pub GrownAddress : Bool → Object → Object → Type 0
GrownAddress true old new = low_of new.entry.address ≡ 0
GrownAddress false old new = new.entry.address ≡ old.entry.address

-- a grown directory has the size N, and keeps its address but for a new identifier
abbrev pub SafeGrown : Opened → Opened → Command → Type 0
SafeGrown v w c = IfSome (growth_in v c) (λ growth. IsSomeAnd (object_at w.listings growth.0.path) (λ new.
    (new.entry.len ≡ growth.1) × GrownAddress (is_some (new_id_growth v c)) growth.0 new))

-- what the needs leave of the holes: each is met in the holes that those before it left
abbrev pub holes_unneeded : Map → List (List ZoneRun) → List ZoneRun
holes_unneeded m parts = fold holes_left (hole_runs m) parts

-- the holes of a zone after the command
abbrev pub safe_holes_after : Map → Opened → Command → List (List ZoneRun) → ℕ → List Hole
safe_holes_after m v c parts z = holes_with (zone_holes (holes_unneeded m parts) z) (zone_holes (places_given_up m v c) z)

-- what a changing command does to the map, if its needs are met by these parts
pub record SafeMapSteady (m m' : Map) (v w : Opened) (c : Command) (parts : List (List ZoneRun)) : Type 0 where
  pub needs_met : HaveRuns m' (need_ids m v w c) parts
  pub least : AreLeast m (new_id_list m v w c)
  pub object : SafeObjectPlaced m m' (object_units m v c) (slack_for v c) (made_object w c)
  pub grown : SafeGrown v w c
  pub others : (id : ℕ) → is_owned (objects_of w.listings) id ≡ true → list_any (λ n. n == id) (need_ids m v w c) ≡ false → keeps_runs m m' id
  pub lost : (id : ℕ) → is_lost (objects_of v.listings) id ≡ true → is_used m id ≡ true → keeps_runs m m' id
  pub one : keeps_runs m m' 1
  pub two : keeps_runs m m' 2
  pub holes : (z : ℕ) → z < m.geometry.zones → zone_holes (hole_runs m') z ≡ safe_holes_after m v c parts z

-- what is done to the map
abbrev pub SafeSpaceSteady : Opened → Opened → Command → Layout → Layout → Type 0
SafeSpaceSteady v w c (Layout.New m) (Layout.New m') = IsSomeAnd (fitted_needs m v c) (SafeMapSteady m m' v w c)
SafeSpaceSteady v w c _ _ = ⊥

-- A changed directory is written anew, even if it says the same.
abbrev pub ChangedRewritten : Opened → Opened → Command → Type 0
ChangedRewritten v w c = (l : Listing) → Contains v.listings l → is_changed_directory v c l.object ≡ true
    → IsSomeAnd (listing_at w.listings (path_after c l.object.path)) (λ new. IsRewritten c l.object.path (holder_address w.listings new.object.path) l.content new.content)

-- all that stays in the safe mode
pub record SafeSteady (old new : List ℕ) (v w : Opened) (c : Command) (copied : Bool) : Type 0 where
  pub directories : DirectoriesSteady old new v w c
  pub rewritten : ChangedRewritten v w c
  pub named : NamedStays v w c copied
  pub entry : NamedEntrySteady v w c
  pub made : NewDirectory new w c
  pub empty : is_written_empty c ≡ true → HasAddress (made_object w c) 0
  pub space : SafeSpaceSteady v w c v.layout w.layout
  pub outside : OutsideSteady old new v w c v.layout w.layout
  pub behind : drop (disc_size v.kind) new ≡ drop (disc_size v.kind) old
