-- Giving lost space back.
use Rattle.std.specs.Prelude.{◌≡◌, ◌<◌, ℕ, ◌+◌, ◌-◌, ◌/◌, Bool, false, not, ◌&&◌, ◌||◌, ◌==◌, nat_le, nat_lt, List, [], ◌∷◌, filter, drop, if◌then◌else◌}
use Rattle.std.specs.List.{range_with_len, fold}
use Rattle.std.specs.Int.{div_ceil}
use Rattle.fc_record.specs.declared.Kind.{Kind}
use Rattle.fc_record.specs.Kinds.{is_boot, disc_size}
use Rattle.fc_zone.specs.declared.RunKind.{RunKind}
use Rattle.fc_zone.specs.declared.RunKind.TheVariants as kinds
use Rattle.fc_oldmap.specs.Holes.{hole, hole_end}
use Rattle.fc_oldmap.specs.declared.Hole.{Hole}
use Rattle.fc_newmap.specs.Map.{Map, ZoneRun, all_runs, has_id, run_sectors, hole_runs, map_sectors, sector_of, sectors_of}
use Rattle.fc_image.specs.Layout.{Layout, is_among, is_apart}
use Rattle.fc_image.specs.Walk.{Object}
use Rattle.fc_image.specs.Objects.{objects_of, tree_of, is_lost}
use Rattle.fc_image.specs.Opening.{Opened}
use Rattle.fc_image.specs.Report.{is_lost_run, lost_bytes}
use Rattle.fc_image.specs.Stays.{OpensAs}
use Rattle.fc_image.specs.effects.Steady.{zone_holes, keeps_runs, SameSectors, MapOutside}
use Rattle.fc_image.specs.effects.Effect.{State, tree_in, OpensAgain}

-- the sectors from &C00 to &DFF, if the image fits a boot block, whatever kind it was opened as
abbrev pub boot_sectors : List ℕ → ℕ → List ℕ
boot_sectors image sector = filter (λ s. is_boot image) (range_with_len (0xC00 / sector) (div_ceil 512 sector))

-- a lost run that holds no sector of the map or of a boot block
abbrev pub is_reclaimable : List ℕ → Map → List Object → ZoneRun → Bool
is_reclaimable image m objects p =
    is_lost_run objects p.1.kind && is_apart (run_sectors m.geometry p) (map_sectors m.geometry) && is_apart (run_sectors m.geometry p) (boot_sectors image m.geometry.sector)

-- a lost run that is kept
abbrev pub is_held : List ℕ → Map → List Object → ZoneRun → Bool
is_held image m objects p = is_lost_run objects p.1.kind && not (is_reclaimable image m objects p)

-- a hole before others, joined with the first of them if they touch and that one has the place
abbrev pub joined_over : ℕ → Hole → List Hole → List Hole
joined_over place h [] = h ∷ []
joined_over place h (g ∷ holes) =
    if (hole_end h == g.start) && nat_le g.start place && nat_lt place (hole_end g) then hole h.start (h.len + g.len) ∷ holes else h ∷ g ∷ holes

-- the holes with the space, which is joined with all holes that touch it or each other next to it
unfoldable pub absorbed : Hole → List Hole → List Hole
absorbed space [] = space ∷ []
absorbed space (h ∷ holes) =
    if nat_lt h.start space.start then joined_over space.start h (absorbed space holes)
    else if hole_end space == h.start then absorbed (hole space.start (space.len + h.len)) holes
    else space ∷ h ∷ holes

-- the holes with all of this space
abbrev pub all_absorbed : List Hole → List Hole → List Hole
all_absorbed holes runs = fold (λ hs run. absorbed run hs) holes runs

-- The lost runs are now holes, with no hole beside them, but for the held ones, which stay as they are; so do all other runs.
pub record Reclaimed (image : List ℕ) (m m' : Map) (objects : List Object) : Type 0 where
  pub holes : (z : ℕ) → z < m.geometry.zones
      → zone_holes (hole_runs m') z ≡ all_absorbed (zone_holes (hole_runs m) z) (zone_holes (filter (is_reclaimable image m objects) (all_runs m)) z)
  pub owned : (id : ℕ) → is_lost objects id ≡ false → keeps_runs m m' id
  pub held : filter (λ p. is_lost_run objects p.1.kind) (all_runs m') ≡ filter (is_held image m objects) (all_runs m)

-- what is done to a new map
abbrev pub ReclaimedLayout : List ℕ → Layout → Layout → List Object → Type 0
ReclaimedLayout image (Layout.New m) (Layout.New m') objects = Reclaimed image m m' objects
ReclaimedLayout image _ _ objects = ⊥

-- ---- what stays

-- a run of an identifier that is owned, or of 1 or 2
abbrev pub is_owned_run : List Object → RunKind → Bool
is_owned_run objects kinds.Hole = false
is_owned_run objects (kinds.Id id) = not (is_lost objects id)

-- the sectors of the runs that pass a test and don't hold the map
abbrev pub sectors_that : (ZoneRun → Bool) → Map → List ℕ
sectors_that test m = filter (λ s. not (is_among (map_sectors m.geometry) s)) (sectors_of m.geometry (filter test (all_runs m)))

-- owned identifiers, and 1 and 2, keep their extents, and their bytes outside the map
abbrev pub OwnedStay : List ℕ → List ℕ → Layout → Layout → List Object → Type 0
OwnedStay old new (Layout.New m) (Layout.New m') objects =
    ((id : ℕ) → is_lost objects id ≡ false → keeps_runs m m' id)
    × SameSectors m.geometry.sector (sectors_that (λ p. is_owned_run objects p.1.kind) m) old new
OwnedStay old new _ _ objects = ⊥

-- what every crash and every exit leaves
pub record StaysOwned (kind : Kind) (old : List ℕ) (v : Opened) (image : List ℕ) : Type 0 where
  pub view : Opened
  pub opens : OpensAs image kind view
  pub tree : tree_of image view.layout view.listings ≡ tree_of old v.layout v.listings
  pub owned : OwnedStay old image v.layout view.layout (objects_of v.listings)

-- the map's other bits, the boot block, identifier 1 and what is held stay
abbrev pub ReclaimOutside : List ℕ → List ℕ → Kind → Layout → Layout → List Object → Type 0
ReclaimOutside old new kind (Layout.New m) (Layout.New m') objects =
    MapOutside old new kind (sector_of m) (sectors_that (λ p. has_id 1 p.1.kind || is_held old m objects p) m) m m'
ReclaimOutside old new kind _ _ objects = ⊥

-- what giving lost space back does
pub record Reclaims (kind : Kind) (s s' : State) : Type 0 where
  pub opens : OpensAgain kind s'
  pub tree : tree_in s' ≡ tree_in s
  pub owned : OwnedStay s.image s'.image s.view.layout s'.view.layout (objects_of s.view.listings)
  pub reclaimed : ReclaimedLayout s.image s.view.layout s'.view.layout (objects_of s.view.listings)
  pub outside : ReclaimOutside s.image s'.image kind s.view.layout s'.view.layout (objects_of s.view.listings)
  pub behind : drop (disc_size kind) s'.image ≡ drop (disc_size kind) s.image

-- the bytes given back
abbrev pub reclaimed_bytes : Opened → Opened → ℕ
reclaimed_bytes v w = lost_bytes v.layout (objects_of v.listings) - lost_bytes w.layout (objects_of w.listings)
