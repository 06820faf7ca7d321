-- Layouts that compaction leaves, and what it may change.
use Rattle.std.specs.Prelude.{◌≡◌, ◌<◌, ◌≤◌, ◌⊎◌, ℕ, ◌+◌, ◌*◌, Bool, true, false, not, ◌&&◌, ◌||◌, ◌==◌, nat_lt, nat_le, List, [], ◌∷◌, length, map, filter, if◌then◌else◌, IsSomeAnd, Contains}
use Rattle.std.specs.List.{list_any, list_all}
use Rattle.std.specs.Str.{bytes_eq}
use Rattle.fc_record.specs.declared.Geometry.{Geometry}
use Rattle.fc_zone.specs.declared.Run.{Run}
use Rattle.fc_zone.specs.declared.RunKind.{RunKind}
use Rattle.fc_zone.specs.declared.RunKind.TheVariants as kinds
use Rattle.fc_oldmap.specs.declared.Hole.{Hole}
use Rattle.fc_oldmap.specs.Holes.{hole_end, hole_sum}
use Rattle.fc_oldmap.specs.OldMap.{OldMapContent}
use Rattle.fc_newmap.specs.Map.{Map, runs_of, zone_numbers, id_runs, hole_runs, bits_in, longest, is_used}
use Rattle.fc_dirs.specs.declared.Entry.{Entry}
use Rattle.fc_dirs.specs.Directory.{Directory}
use Rattle.fc_dirs.specs.Small.{SmallDir, next_sequence}
use Rattle.fc_dirs.specs.SmallBytes.{IsWrittenSmall}
use Rattle.fc_image.specs.Layout.{Layout, id_of}
use Rattle.fc_image.specs.Walk.{Object, Listing, object_bytes}
use Rattle.fc_image.specs.Objects.{objects_of, is_movable, is_lost, has_sectors, listing_at, object_at}
use Rattle.fc_image.specs.Opening.{Opened}
use Rattle.fc_image.specs.Report.{holder_address}
use Rattle.fc_image.specs.Stays.{stored_objects}
use Rattle.fc_image.specs.effects.Steady.{keeps_runs, lost_sectors}

-- a test of each run and the next
abbrev pub passes_adjacent : (Run → Run → Bool) → List Run → Bool
passes_adjacent test [] = true
passes_adjacent test (run ∷ []) = true
passes_adjacent test (run ∷ next ∷ runs) = test run next && passes_adjacent test (next ∷ runs)

-- ---- new maps

-- A run of this length can slide into a hole before it: at once, or in pieces of at least min bits.
abbrev pub can_slide : Geometry → ℕ → ℕ → Bool
can_slide g hole len = nat_le len hole || nat_le (2 * g.min) len

-- Nothing is left to do between a run and the next: no slide, no two holes and no two runs of one movable identifier.
abbrev pub is_done : Geometry → List Object → Run → Run → Bool
is_done g objects run next = done run.kind next.kind
  where
    done : RunKind → RunKind → Bool
    done kinds.Hole kinds.Hole = false
    done kinds.Hole (kinds.Id id) = not (is_movable objects id && can_slide g run.len next.len)
    done (kinds.Id id) kinds.Hole = true
    done (kinds.Id id) (kinds.Id other) = not ((id == other) && is_movable objects id)

-- the zones in which an identifier has runs
abbrev pub zones_with : Map → ℕ → List ℕ
zones_with m id = filter (λ z. list_any (λ p. p.0 == z) (id_runs m id)) (zone_numbers m.geometry)

-- an identifier of several runs in at most eight zones, for which there is a hole that holds them all
abbrev pub can_join : Map → ℕ → Bool
can_join m id =
    nat_lt 1 (length (id_runs m id)) && nat_le (length (zones_with m id)) 8 && nat_le (bits_in (id_runs m id)) (longest (hole_runs m))

-- Nothing is left to do on a new map.
abbrev pub is_settled_map : Map → List Object → Bool
is_settled_map m objects =
    list_all (λ z. passes_adjacent (is_done m.geometry objects) (runs_of m z)) (zone_numbers m.geometry)
    && list_all (λ o. not (is_movable objects (id_of o.entry.address) && can_join m (id_of o.entry.address))) objects

-- ---- old maps

-- an object with sectors, other than the root, begins there
abbrev pub is_object_start : List Object → ℕ → Bool
is_object_start objects at = list_any (λ o. has_sectors o && not (length o.path == 0) && (o.entry.address == at)) objects

-- No two holes touch.
abbrev pub are_apart : List Hole → Bool
are_apart [] = true
are_apart (h ∷ []) = true
are_apart (h ∷ next ∷ holes) = not (hole_end h == next.start) && are_apart (next ∷ holes)

-- No hole is followed by an object other than the root, or by a hole.
abbrev pub is_settled_space : OldMapContent → List Object → Bool
is_settled_space space objects = are_apart space.holes && list_all (λ h. not (is_object_start objects (hole_end h))) space.holes

-- ---- both

-- Nothing is left for compaction to do.
abbrev pub is_settled : Opened → Bool
is_settled v = settled v.layout
  where
    settled : Layout → Bool
    settled (Layout.New m) = is_settled_map m (objects_of v.listings)
    settled (Layout.Old space) = is_settled_space space (objects_of v.listings)

-- as many bits, or one run for several with hardly more
abbrev pub KeepsBits : Map → Map → ℕ → Type 0
KeepsBits m m' id =
    (bits_in (id_runs m' id) ≡ bits_in (id_runs m id))
    ⊎ ((1 < length (id_runs m id)) × (length (id_runs m' id) ≡ 1) × (bits_in (id_runs m id) ≤ bits_in (id_runs m' id))
    × (bits_in (id_runs m' id) < bits_in (id_runs m id) + m.geometry.min))

-- what compaction does to a new map
pub record CompactedMap (m m' : Map) (objects : List Object) : Type 0 where
  pub no_new : (id : ℕ) → is_used m id ≡ false → is_used m' id ≡ false
  pub bits : (id : ℕ) → is_movable objects id ≡ true → KeepsBits m m' id
  pub runs : (id : ℕ) → is_movable objects id ≡ true → length (id_runs m' id) ≤ length (id_runs m id)

-- What compaction does to a map, by the objects before and after. On an old map as much is free as before, and the lost
-- sectors are the same ones.
abbrev pub CompactedLayout : Layout → Layout → List Object → List Object → Type 0
CompactedLayout (Layout.New m) (Layout.New m') was now = CompactedMap m m' was
CompactedLayout (Layout.Old space) (Layout.Old space') was now =
    (hole_sum space'.holes ≡ hole_sum space.holes) × (lost_sectors space' now ≡ lost_sectors space was)
CompactedLayout _ _ was now = ⊥

-- w is v compacted
pub record Compacted (v w : Opened) : Type 0 where
  pub settled : is_settled w ≡ true
  pub layout : CompactedLayout v.layout w.layout (objects_of v.listings) (objects_of w.listings)

-- ---- which identifiers and directories stay

-- On a new map identifiers 1 and 2 and lost ones keep their runs.
abbrev pub IdleStay : Layout → Layout → List Object → Type 0
IdleStay (Layout.New m) (Layout.New m') objects =
    keeps_runs m m' 1 × keeps_runs m m' 2 × ((id : ℕ) → is_lost objects id ≡ true → keeps_runs m m' id)
IdleStay _ _ objects = Unit {0}

-- an entry, but for its address
abbrev pub SameButAddress : Entry → Entry → Type 0
SameButAddress old new = new ≡ record old { address = new.address }

-- the same entries in the same order, but for their addresses
abbrev pub SameEntries : List Entry → List Entry → Type 0
SameEntries [] [] = Unit {0}
SameEntries (e ∷ old) (f ∷ new) = SameButAddress e f × SameEntries old new
SameEntries _ _ = ⊥

-- The addresses of the entries and the parent field are as they were.
abbrev pub has_same_places : SmallDir → SmallDir → Bool
has_same_places old new = bytes_eq (map (λ e. e.address) new.entries) (map (λ e. e.address) old.entries) && (new.parent == old.parent)

-- On an old map a directory keeps all but addresses and the parent field if its holder moved. If one of these changes it is
-- rewritten once, and else it keeps its sequence byte.
abbrev pub CompactedDir : ℕ → ℕ → Directory → Directory → Type 0
CompactedDir was is (Directory.Small old) (Directory.Small new) =
    (new ≡ record old { sequence = new.sequence; parent = new.parent; entries = new.entries }) × SameEntries old.entries new.entries
    × (new.parent ≡ (if was == is then old.parent else is))
    × (new.sequence ≡ (if has_same_places old new then old.sequence else next_sequence old.sequence))
CompactedDir was is _ _ = ⊥

-- the same bytes as before, or bytes as writing makes them
abbrev pub KeptOrWritten : Bool → List ℕ → List ℕ → SmallDir → Type 0
KeptOrWritten true before after dir = after ≡ before
KeptOrWritten false before after dir = IsWrittenSmall after dir

-- A directory in which nothing changes keeps all its bytes, and one in which something does is written in full.
abbrev pub CompactedBytes : List ℕ → List ℕ → Directory → Directory → Type 0
CompactedBytes before after (Directory.Small old) (Directory.Small new) = KeptOrWritten (has_same_places old new) before after new
CompactedBytes before after _ _ = ⊥

-- a directory of an old map, before compaction and after
pub record CompactedListing (old new : List ℕ) (v w : Opened) (l k : Listing) : Type 0 where
  pub says : CompactedDir (holder_address v.listings l.object.path) (holder_address w.listings l.object.path) l.content k.content
  pub bytes : CompactedBytes (object_bytes old v.layout l.object) (object_bytes new w.layout k.object) l.content k.content

-- On an old map each directory is as it was but for addresses and parent, and a file of no bytes keeps its address.
pub record OldListingsStay (old new : List ℕ) (v w : Opened) : Type 0 where
  pub each : (l : Listing) → Contains v.listings l → IsSomeAnd (listing_at w.listings l.object.path) (CompactedListing old new v w l)
  pub empty : (o : Object) → Contains (objects_of v.listings) o → has_sectors o ≡ false
      → IsSomeAnd (object_at w.listings o.path) (λ new. new.entry.address ≡ o.entry.address)

-- On a new map every object keeps its address and its bytes.
abbrev pub ObjectsStay : List ℕ → List ℕ → Layout → Opened → Opened → Type 0
ObjectsStay old new (Layout.New m) v w = stored_objects new w ≡ stored_objects old v
ObjectsStay old new (Layout.Old space) v w = OldListingsStay old new v w
