-- What every crash and every exit leaves of a disc on which lost space is given back.
use Rattle.std.specs.Prelude.{◌≡◌, ℕ, Bool, false, List}
use Rattle.fc_record.specs.declared.DiscRecord.{DiscRecord}
use Rattle.fc_record.specs.declared.Geometry.{Geometry}
use Rattle.fc_record.specs.declared.Kind.{Kind}
use Rattle.fc_record.specs.Kinds.{is_boot}
use Rattle.fc_newmap.specs.Map.{Map}
use Rattle.fc_alloc.specs.declared.owner.Owner.{Owner}
use Rattle.fc_newmap.specs.Copies.{ChangesCopies}
use Rattle.fc_image.specs.Layout.{Layout}
use Rattle.fc_image.specs.Objects.{is_lost, objects_of, tree_of}
use Rattle.fc_image.specs.Opening.{Opened}
use Rattle.fc_image.specs.Stays.{IsNewKind, OpensAs}
use Rattle.fc_image.specs.effects.Steady.{keeps_runs}
use Rattle.fc_compact.specs.Ready.{AreOwnersOf, IsReady}
use Rattle.fc_reclaim.specs.Lost.{Covers}
use Rattle.fc_reclaim.specs.Settled.{by_map}

-- The image opens as before, by the map m', with the same tree, and each identifier that isn't lost has the runs that it had.
pub record OwnedStayBy (kind : Kind) (was : List ℕ) (v : Opened) (m m' : Map) (image : List ℕ) : Type 0 where
  pub geometry : m'.geometry ≡ m.geometry
  pub opens : OpensAs image kind (by_map kind v m')
  pub tree : tree_of image (Layout.New m') v.listings ≡ tree_of was v.layout v.listings
  pub runs : (id : ℕ) → is_lost (objects_of v.listings) id ≡ false → keeps_runs m m' id

-- As each kind that has a boot block only if one fits, and whose map has this geometry, it opens so, if these are the owners of
-- its objects. No sector has changed but those of the two copies of the map.
pub record KeepsOwned (boot : Bool) (owners : List Owner) (g : Geometry) (was image : List ℕ) : Type 0 where
  pub frame : ChangesCopies g was image
  pub opens : (kind : Kind) (r : DiscRecord) (v : Opened) (m : Map) → IsNewKind kind r → Covers boot kind → OpensAs was kind v → v.layout ≡ Layout.New m → m.geometry ≡ g
      → AreOwnersOf owners (objects_of v.listings) → (m' : Map) × OwnedStayBy kind was v m m' image

-- The image opens by this map, with two equal and sound copies of it, as a kind that has a boot block only if one fits.
pub record IsReadyBy (boot : Bool) (m : Map) (owners : List Owner) (image : List ℕ) : Type 0 where
  pub ready : IsReady m owners image
  pub covers : Covers boot ready.kind

-- So it is by the boot block that fits the first image.
abbrev pub KeepsOwnedAll : List Owner → Geometry → List ℕ → List ℕ → Type 0
KeepsOwnedAll owners g was image = KeepsOwned (is_boot was) owners g was image
