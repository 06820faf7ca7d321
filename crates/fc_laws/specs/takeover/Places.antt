-- The places of objects, and the sectors that a command may write beside those of the map.
use Rattle.std.specs.Prelude.{◌≡◌, ◌<◌, ℕ, true, false, List, [], ◌∷◌, ◌++◌, if◌then◌else◌, Contains}
use Rattle.fc_names.specs.Names.{Path}
use Rattle.fc_record.specs.declared.Kind.{Kind}
use Rattle.fc_newmap.specs.Map.{Map, ZoneRun}
use Rattle.fc_newmap.specs.NewMap.{IsNewMap}
use Rattle.fc_model.specs.Command.{Command}
use Rattle.fc_image.specs.Layout.{Layout, dir_form, disc_sectors, hole_sectors, is_among, is_apart}
use Rattle.fc_image.specs.Walk.{Listing, Object, is_directory_object, object_size}
use Rattle.fc_image.specs.Objects.{objects_of}
use Rattle.fc_image.specs.Opening.{Opened, boot_place}
use Rattle.fc_image.specs.Edits.{IsAt}
use Rattle.fc_image.specs.Stays.{OpensAs}
use Rattle.fc_image.specs.effects.Steady.{idle_sectors, may_be_rewritten}
use Rattle.fc_changes.specs.Owed.{GivesBack, IsSpaceEdit}
use Rattle.fc_changes.specs.Changed.{IsFileAt, IsInNewSpace}

-- The image opens as this kind, by this map.
pub record OpensBy (kind : Kind) (image : List ℕ) (view : Opened) (m : Map) : Type 0 where
  pub opens : OpensAs image kind view
  pub layout : view.layout ≡ Layout.New m

-- ---- what may be written

-- These sectors lie on the disc. They are none of an object other than a directory that the command may rewrite, none of the boot
-- block, and none of lost space.
pub record MayBeWritten (kind : Kind) (view : Opened) (m : Map) (c : Command) (sectors : List ℕ) : Type 0 where
  pub files : (o : Object) → Contains (objects_of view.listings) o → is_directory_object o ≡ false → is_apart o.sectors sectors ≡ true
  pub dirs : (o : Object) → Contains (objects_of view.listings) o → may_be_rewritten view c o.path ≡ false → is_apart o.sectors sectors ≡ true
  pub boot : is_apart (boot_place kind m.geometry.sector) sectors ≡ true
  pub idle : is_apart (idle_sectors view m) sectors ≡ true
  pub inside : (s : ℕ) → is_among sectors s ≡ true → s < disc_sectors (Layout.New m)

-- a new object of n bytes, by the map m'
pub record IsNewObject (view : Opened) (m m' : Map) (n id : ℕ) (parts : List ZoneRun) (gone : List ℕ) (o : Object) (stay : List Object) : Type 0 where
  pub is_map : IsNewMap m
  pub geometry : m'.geometry ≡ m.geometry
  pub space : IsSpaceEdit m m' id parts gone
  pub gives : GivesBack m gone (objects_of view.listings) (o ∷ stay)
  pub at : IsAt (Layout.New m') o
  pub size : object_size (dir_form (Layout.New m')) o.entry ≡ n

pub record PlacesLaw : Type 0 where
  pub none : (kind : Kind) (view : Opened) (m : Map) (c : Command) → MayBeWritten kind view m c []
  pub both : (kind : Kind) (view : Opened) (m : Map) (c : Command) (xs ys : List ℕ) → MayBeWritten kind view m c xs → MayBeWritten kind view m c ys → MayBeWritten kind view m c (xs ++ ys)
  pub within : (kind : Kind) (view : Opened) (m : Map) (c : Command) (xs ys : List ℕ) → ((s : ℕ) → is_among xs s ≡ true → is_among ys s ≡ true) → MayBeWritten kind view m c ys
      → MayBeWritten kind view m c xs
  -- a directory that the command may rewrite
  pub directory : (kind : Kind) (image : List ℕ) (view : Opened) (m : Map) (c : Command) (l : Listing) → OpensBy kind image view m → Contains view.listings l
      → may_be_rewritten view c l.object.path ≡ true → MayBeWritten kind view m c l.object.sectors
  -- an object that is renamed, if it is a directory
  pub own : (kind : Kind) (image : List ℕ) (view : Opened) (m : Map) (c : Command) (o : Object) → OpensBy kind image view m → Contains (objects_of view.listings) o
      → may_be_rewritten view c o.path ≡ true → MayBeWritten kind view m c (if is_directory_object o then o.sectors else [])
  -- holes
  pub holes : (kind : Kind) (image : List ℕ) (view : Opened) (m : Map) (c : Command) (sectors : List ℕ) → OpensBy kind image view m
      → ((s : ℕ) → is_among sectors s ≡ true → is_among (hole_sectors (Layout.New m)) s ≡ true) → MayBeWritten kind view m c sectors
  -- a new file, and a new directory
  pub file : (kind : Kind) (image : List ℕ) (view : Opened) (m m' : Map) (c : Command) (dir : Path) (n id : ℕ) (parts : List ZoneRun) (gone : List ℕ) (o : Object) (stay : List Object)
      → OpensBy kind image view m → IsNewObject view m m' n id parts gone o stay → IsFileAt m (objects_of view.listings) dir n id parts o → MayBeWritten kind view m c o.sectors
  pub new_directory : (kind : Kind) (image : List ℕ) (view : Opened) (m m' : Map) (c : Command) (n low id : ℕ) (parts : List ZoneRun) (gone : List ℕ) (o : Object) (stay : List Object)
      → low < 256 → OpensBy kind image view m → IsNewObject view m m' n id parts gone o stay → IsInNewSpace m n low id parts o → MayBeWritten kind view m c o.sectors
