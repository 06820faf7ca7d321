-- The places of objects on a disc with an old map, and the sectors that a command may write beside those of the map.
use Rattle.std.specs.Prelude.{◌≡◌, ◌<◌, ◌⊎◌, ℕ, true, false, List, [], ◌++◌, if◌then◌else◌, Contains}
use Rattle.fc_record.specs.declared.Kind.{Kind}
use Rattle.fc_oldmap.specs.OldMap.{OldMapContent}
use Rattle.fc_model.specs.Command.{Command}
use Rattle.fc_image.specs.Layout.{Layout, disc_sectors, hole_sectors, is_among, is_apart}
use Rattle.fc_image.specs.Walk.{Listing, Object, is_directory_object, object_size}
use Rattle.fc_image.specs.Layout.{dir_form}
use Rattle.fc_image.specs.Objects.{objects_of}
use Rattle.fc_image.specs.Opening.{Opened}
use Rattle.fc_image.specs.Edits.{IsAt}
use Rattle.fc_image.specs.effects.Steady.{lost_sectors, may_be_rewritten}
use Rattle.fc_changes.specs.old.Owed.{IsBefore}
use Rattle.fc_changes.specs.old.Changed.{IsFileAt, IsFirstFitted}

-- ---- what may be written

-- The sector lies in a directory that the command may rewrite.
pub record IsOfRewritten (view : Opened) (c : Command) (s : ℕ) : Type 0 where
  pub object : Object
  pub there : Contains (objects_of view.listings) object
  pub directory : is_directory_object object ≡ true
  pub may : may_be_rewritten view c object.path ≡ true
  pub within : is_among object.sectors s ≡ true

-- Each of these sectors was free, or lies in a directory that the command may rewrite.
abbrev pub MayBeWritten : Opened → OldMapContent → Command → List ℕ → Type 0
MayBeWritten view space c sectors = (s : ℕ) → is_among sectors s ≡ true → (is_among (hole_sectors (Layout.Old space)) s ≡ true) ⊎ IsOfRewritten view c s

-- These sectors lie on the disc. They are none of an object other than a directory that the command may rewrite, and none of lost
-- space.
pub record AreSpared (view : Opened) (space : OldMapContent) (c : Command) (sectors : List ℕ) : Type 0 where
  pub files : (o : Object) → Contains (objects_of view.listings) o → is_directory_object o ≡ false → is_apart o.sectors sectors ≡ true
  pub dirs : (o : Object) → Contains (objects_of view.listings) o → may_be_rewritten view c o.path ≡ false → is_apart o.sectors sectors ≡ true
  pub lost : is_apart (lost_sectors space (objects_of view.listings)) sectors ≡ true
  pub inside : (s : ℕ) → is_among sectors s ≡ true → s < disc_sectors (Layout.Old space)

pub record PlacesLaw : Type 0 where
  pub none : (view : Opened) (space : OldMapContent) (c : Command) → MayBeWritten view space c []
  pub both : (view : Opened) (space : OldMapContent) (c : Command) (xs ys : List ℕ) → MayBeWritten view space c xs → MayBeWritten view space c ys → MayBeWritten view space c (xs ++ ys)
  pub within : (view : Opened) (space : OldMapContent) (c : Command) (xs ys : List ℕ) → ((s : ℕ) → is_among xs s ≡ true → is_among ys s ≡ true) → MayBeWritten view space c ys
      → MayBeWritten view space c xs
  -- a directory that the command may rewrite
  pub directory : (kind : Kind) (image : List ℕ) (view : Opened) (space : OldMapContent) (c : Command) (l : Listing) → IsBefore kind image view space → Contains view.listings l
      → may_be_rewritten view c l.object.path ≡ true → MayBeWritten view space c l.object.sectors
  -- an object that is renamed, if it is a directory
  pub own : (view : Opened) (space : OldMapContent) (c : Command) (o : Object) → Contains (objects_of view.listings) o
      → may_be_rewritten view c o.path ≡ true → MayBeWritten view space c (if is_directory_object o then o.sectors else [])
  -- a new directory of n bytes, and a new file
  pub fitted : (kind : Kind) (image : List ℕ) (view : Opened) (space : OldMapContent) (c : Command) (n : ℕ) (o : Object) → IsBefore kind image view space
      → object_size (dir_form (Layout.Old space)) o.entry ≡ n → IsAt (Layout.Old space) o → IsFirstFitted space n o → MayBeWritten view space c o.sectors
  pub file : (kind : Kind) (image : List ℕ) (view : Opened) (space : OldMapContent) (c : Command) (n : ℕ) (o : Object) → IsBefore kind image view space
      → object_size (dir_form (Layout.Old space)) o.entry ≡ n → IsAt (Layout.Old space) o → IsFileAt space n o → MayBeWritten view space c o.sectors
  -- what such sectors are apart from
  pub spared : (kind : Kind) (image : List ℕ) (view : Opened) (space : OldMapContent) (c : Command) (sectors : List ℕ) → IsBefore kind image view space → MayBeWritten view space c sectors
      → AreSpared view space c sectors
