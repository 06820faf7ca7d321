-- What giving back lost space of a volume answers and leaves.
use Rattle.std.specs.Prelude.{◌≡◌, ℕ, Bool, true, false, List, Option, Some, None, Result}
use Rattle.std.specs.Option.{ForSome}
use Rattle.fc_device.specs.declared.disk.Disk.{Ghosts}
use Rattle.fc_names.specs.declared.refusal.Refusal.{Refusal}
use Rattle.fc_names.specs.declared.refusal.Refusal.TheVariants as refusals
use Rattle.fc_record.specs.declared.Kind.{Kind}
use Rattle.fc_record.specs.Kinds.{map_record}
use Rattle.fc_newmap.specs.Map.{Map, sector_of}
use Rattle.fc_alloc.specs.declared.owner.Owner.{Owner}
use Rattle.fc_newmap.specs.declared.copies.Which.{Which}
use Rattle.fc_image.specs.Layout.{Layout}
use Rattle.fc_image.specs.Opening.{Opened}
use Rattle.fc_image.specs.Stays.{OpensAs}
use Rattle.fc_image.specs.safe.Reclaim.{Reclaims, StaysOwned, reclaimed_bytes}
use Rattle.fc_tree.specs.Parts.{ArePartsOf, Parts}
use Rattle.fc_writing.specs.declared.copies.Copies.{Copies}
use Rattle.fc_writing.specs.declared.copies.Copies.TheVariants.{Equal, Chosen}
use Rattle.fc_holdings.specs.declared.error.CommandError.{CommandError}
use Rattle.fc_volume.specs.Changing.{KeepsVolume}
use Rattle.fc_volume.specs.Volume.{Volume, parts_of}
use Rattle.fc_reclaim.specs.Reclaiming.{HasReclaimed as HasReclaimedMap, ReclaimsMap}

-- ---- refusals

-- why giving back is refused
abbrev pub reclaim_refusal : Bool → Layout → Option Refusal
reclaim_refusal true layout = Some refusals.ReadOnly
reclaim_refusal false (Layout.Old space) = Some refusals.NotNewMap
reclaim_refusal false (Layout.New m) = None

-- ---- the map

-- the copy that counts, if the other may differ from it
abbrev pub which_in : Copies → Option Which
which_in Equal = None
which_in (Chosen which) = Some which

-- If the first layout is a new map, the other is one of the same geometry.
abbrev pub HasGeometryOf : Layout → Layout → Type 0
HasGeometryOf was now = (m : Map) → was ≡ Layout.New m → (m' : Map) × (now ≡ Layout.New m') × (m'.geometry ≡ m.geometry)

-- The map's lost runs have gone back, in memory and on the disk, and its record tells the version that it told.
pub record HasGivenBack {D : Type 0} (d : Ghosts D) (m m' : Map) (owners : List Owner) (bytes : ℕ) (old new : D) : Type 0 where
  pub map : HasReclaimedMap d old new m m' owners bytes
  pub image : ForSome (d.bytes old) (λ was. ForSome (d.bytes new) (ReclaimsMap m m' owners bytes was))
  pub version : (map_record (sector_of m' 0)).version ≡ (map_record (sector_of m 0)).version

-- ---- the volume

-- As each kind as which the image opens, and by each view whose parts these are, every object is in the other image, and what is
-- owned has its runs and its bytes.
abbrev pub LeavesOwnedOf : Parts → List ℕ → List ℕ → Type 0
LeavesOwnedOf was image other = (kind : Kind) (view : Opened) → OpensAs image kind view → ArePartsOf was view → StaysOwned kind image view other

-- As each such kind and by each such view, so many bytes of lost space have been given back, and the other image has the other parts.
abbrev pub ReclaimsParts : Parts → Parts → ℕ → List ℕ → List ℕ → Type 0
ReclaimsParts was now bytes image other = (kind : Kind) (view : Opened) → OpensAs image kind view → ArePartsOf was view
    → (after : Opened) × Reclaims kind (record { image = image; view = view }) (record { image = other; view = after })
    × (bytes ≡ reclaimed_bytes view after) × ArePartsOf now after

-- If the disk tells its bytes, it has another image afterwards, in which they were.
abbrev pub HasReclaimed : {D : Type 0} → Ghosts D → Parts → Parts → ℕ → D → D → Type 0
HasReclaimed d was now bytes old new = ForSome (d.bytes old) (λ image. (other : List ℕ) × (d.bytes new ≡ Some other) × ReclaimsParts was now bytes image other)

-- ---- what stays, whatever is known of the disk's bytes

-- What each call that changes a volume keeps; and objects and owners stay, and of a new map its geometry.
pub record ReclaimKeeps {D : Type 0} (d : Ghosts D) (old new : D) (was v : Volume) (result : Result ℕ CommandError) : Type 0 where
  pub volume : KeepsVolume d old new was v result
  pub geometry : HasGeometryOf (parts_of was).layout (parts_of v).layout
  pub tree : v.tree ≡ was.tree
  pub owners : v.owners ≡ was.owners
