-- What giving lost space back asks of an image, and what it leaves and does.
use Rattle.std.specs.Prelude.{◌≡◌, ◌*◌, ℕ, Bool, List, Option, Some, None, Ok}
use Rattle.std.specs.Option.{ForSome}
use Rattle.fc_device.specs.declared.disk.Disk.{Ghosts}
use Rattle.fc_record.specs.declared.DiscRecord.{DiscRecord}
use Rattle.fc_record.specs.declared.Kind.{Kind}
use Rattle.fc_record.specs.Kinds.{is_boot}
use Rattle.fc_newmap.specs.Map.{Map}
use Rattle.fc_alloc.specs.declared.owner.Owner.{Owner}
use Rattle.fc_newmap.specs.declared.copies.Which.{Which}
use Rattle.fc_newmap.specs.Copies.{ChangesCopies, Chooses, HoldsCopies, chosen, copy_of}
use Rattle.fc_image.specs.Layout.{Layout}
use Rattle.fc_image.specs.Objects.{objects_of}
use Rattle.fc_image.specs.Opening.{Opened}
use Rattle.fc_image.specs.Stays.{IsNewKind, OpensAs}
use Rattle.fc_image.specs.safe.Reclaim.{Reclaims, StaysOwned, reclaimed_bytes}
use Rattle.fc_compact.specs.Ready.{AreOwnersOf}
use Rattle.fc_reclaim.specs.Kept.{IsReadyBy}
use Rattle.fc_reclaim.specs.Map.{IsReclaimed, bits_back}
use Rattle.fc_reclaim.specs.Settled.{by_map}

-- ---- the copies

-- The copies are equal, or this one counts and has the map's zones.
abbrev pub CountsIn : Map → Option Which → List ℕ → Type 0
CountsIn m None image = HoldsCopies m.geometry m.zones image
CountsIn m (Some which) image = (chosen m.geometry image ≡ Ok which) × (copy_of m.geometry which image ≡ m.zones)

-- Of an image before, only the copies of the map have changed, and the one that counts still has the map's zones.
pub record KeepsContent (m : Map) (was image : List ℕ) : Type 0 where
  pub frame : ChangesCopies m.geometry was image
  pub content : Chooses m.geometry m.zones image

-- ---- the image

-- The image opens as a kind with this map, its copies are as they are known to be, and these own what its objects own.
pub record CanReclaim (m : Map) (which : Option Which) (owners : List Owner) (image : List ℕ) : Type 0 where
  pub kind : Kind
  pub of_record : DiscRecord
  pub view : Opened
  pub new_kind : IsNewKind kind of_record
  pub opens : OpensAs image kind view
  pub layout : view.layout ≡ Layout.New m
  pub copies_are : CountsIn m which image
  pub owned : AreOwnersOf owners (objects_of view.listings)

-- The map's lost runs have gone back, and if the disk tells its bytes, its image has that map; a boot block was looked for.
pub record HasReclaimed {D : Type 0} (d : Ghosts D) (old new : D) (m m' : Map) (owners : List Owner) (bytes : ℕ) : Type 0 where
  pub boot : Bool
  pub fits : ForSome (d.bytes old) (λ image. boot ≡ is_boot image)
  pub map : IsReclaimed boot owners m m'
  pub ready : ForSome (d.bytes new) (IsReadyBy boot m' owners)
  pub given : bytes ≡ bits_back boot owners m * m.geometry.bit_bytes

-- As each kind as which the image opens by this map, with objects that own what these own, every object is in the other image, and
-- what is owned has its runs and its bytes.
abbrev pub LeavesOwned : Map → List Owner → List ℕ → List ℕ → Type 0
LeavesOwned m owners was image = (kind : Kind) (view : Opened) → OpensAs was kind view → view.layout ≡ Layout.New m → AreOwnersOf owners (objects_of view.listings) → StaysOwned kind was view image

-- As each such kind so many bytes of lost space have been given back, and the map is now the second one.
abbrev pub ReclaimsMap : Map → Map → List Owner → ℕ → List ℕ → List ℕ → Type 0
ReclaimsMap m m' owners bytes was image = (kind : Kind) (view : Opened) → OpensAs was kind view → view.layout ≡ Layout.New m → AreOwnersOf owners (objects_of view.listings)
    → Reclaims kind (record { image = was; view = view }) (record { image = image; view = by_map kind view m' }) × (bytes ≡ reclaimed_bytes view (by_map kind view m'))
