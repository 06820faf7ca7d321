-- `save`, `create` and `cdir` in a directory that grows, on a new map: from what is written to what they promise.
use Rattle.std.specs.Prelude.{◌≡◌, ◌⊎◌, ℕ, true, List, [], ◌∷◌, length, None, Contains}
use Rattle.fc_names.specs.Names.{Path, is_same_path}
use Rattle.fc_record.specs.declared.DiscRecord.{DiscRecord}
use Rattle.fc_model.specs.Command.{Command}
use Rattle.fc_model.specs.Tree.{holder, last_name}
use Rattle.fc_image.specs.Layout.{Layout, dir_form}
use Rattle.fc_image.specs.Objects.{object_at, objects_of}
use Rattle.fc_image.specs.Walk.{Listing, object_size}
use Rattle.fc_image.specs.Opening.{Opened}
use Rattle.fc_image.specs.Stays.{IsNewKind, OpensAs}
use Rattle.fc_image.specs.effects.Short.{new_dir_size}
use Rattle.fc_image.specs.effects.Steady.{AreWritten, IsRewritten, holds_named, new_directory}
use Rattle.fc_changes.specs.Changed.{IsFileAt, IsInNewSpace}
use Rattle.fc_laws.specs.agree.Agreed.{parts_with}
use Rattle.fc_laws.specs.takeover.Places.{MayBeWritten}
use Rattle.fc_edits.specs.Addition.{Addition, edit}
use Rattle.fc_edits.specs.Edit.{Amended}
use Rattle.fc_edits.specs.Growing.{Growing, regrown}
use Rattle.fc_edits.specs.GrownAddition.{NewGrownAddition, grown_edit}
use Rattle.fc_outcomes.specs.Addition.{HasEntry, IsItsFile}
use Rattle.fc_outcomes.specs.Growth.{Grows, MapGrows, holder_now}
use Rattle.fc_outcomes.specs.NewImage.{Outcome}
use Rattle.fc_outcomes.specs.Puts.{ArePutOut, IsDirectoryPut, Put}

-- the image as it opens before
abbrev pub grown_view : NewGrownAddition → Opened
grown_view x = record { kind = x.kind; layout = Layout.New x.m; listings = x.listings }

-- The object is at the path, where nothing stood. Each directory that is told something is rewritten, at its new place if it grows, and
-- `stored` are the object's bytes. Nothing else is written but the map, of which both copies are the new map.
pub record NewGrownAdditionWritten (x : NewGrownAddition) (c : Command) (path : Path) (puts : List Put) (stored image image' : List ℕ) : Type 0 where
  pub r : DiscRecord
  pub new_kind : IsNewKind x.kind r
  pub opens : OpensAs image x.kind (grown_view x)
  pub grows : Grows (grown_view x) c x.growing
  pub path_is : is_same_path path x.c.o.path ≡ true
  pub stood : object_at x.listings path ≡ None
  pub entry : HasEntry None path x.c
  pub says : (a : Amended) → Contains (grown_edit x.c x.growing).amended a
      → IsRewritten c a.was.object.path (holder_now x.listings x.growing a.was.object.path) a.was.content a.content
  pub written : (a : Amended) → Contains (grown_edit x.c x.growing).amended a → IsDirectoryPut (Layout.New x.m') (regrown (edit x.c) x.growing a.was.object) a.content puts
  pub stored_put : Contains puts (record { sectors = x.c.o.sectors; bytes = stored })
  pub stored_long : length stored ≡ object_size (dir_form (Layout.New x.m)) x.c.o.entry
  pub own : (d : Listing) → Contains x.c.into d → AreWritten stored d.content
  pub whose : (p : Put) → Contains puts p
      → ((a : Amended) × Contains (grown_edit x.c x.growing).amended a × (p.sectors ≡ (regrown (edit x.c) x.growing a.was.object).sectors)) ⊎ (p.sectors ≡ x.c.o.sectors)
  pub out : ArePutOut (Layout.New x.m) puts image image'
  pub map : MapGrows x.m x.m' x.growing r image'

-- The object is a new empty directory, which says the address of the grown one.
pub record IsItsGrownDirectory (path : Path) (layout : Layout) (a : Addition) (g : Growing) (d : Listing) : Type 0 where
  pub listed : a.into ≡ d ∷ []
  pub attrs : a.o.entry.attrs ≡ 8
  pub load : a.o.entry.load ≡ 0
  pub exec : a.o.entry.exec ≡ 0
  pub len : a.o.entry.len ≡ new_dir_size (dir_form layout)
  pub says : d.content ≡ new_directory (dir_form layout) g.address (last_name path)

-- The command does what it promises, and the new image has the parts after it.
abbrev pub GrownAdded : NewGrownAddition → Command → List ℕ → List ℕ → Type 0
GrownAdded x c image image' = Outcome x.kind image image' (grown_view x) c (parts_with x.m' x.nodes' x.owners')

pub record GrownAdditionLaw : Type 0 where
  pub new_file : (x : NewGrownAddition) (c : Command) (path : Path) (load exec : ℕ) (puts : List Put) (stored image image' : List ℕ) → NewGrownAdditionWritten x c path puts stored image image'
      → IsItsFile c path load exec x.c stored → IsFileAt x.m (objects_of x.listings) (holder path) (length stored) x.id x.parts x.c.o → GrownAdded x c image image'
  pub new_directory : (x : NewGrownAddition) (path : Path) (d : Listing) (puts : List Put) (stored image image' : List ℕ) → NewGrownAdditionWritten x (Command.Cdir path) path puts stored image image'
      → IsItsGrownDirectory path (Layout.New x.m) x.c x.growing d → IsInNewSpace x.m (new_dir_size (dir_form (Layout.New x.m))) 0 x.id x.parts x.c.o → GrownAdded x (Command.Cdir path) image image'
  -- At every exit the sectors of the object, and of each directory that says something else, at its new place if it grows, may be written
  -- beside the map: they are none of another object, nor of lost space.
  pub object_may : (x : NewGrownAddition) (c : Command) (image : List ℕ) → OpensAs image x.kind (grown_view x) → holds_named c x.c.l.object.path ≡ true
      → MayBeWritten x.kind (grown_view x) x.m c x.c.o.sectors
  pub directory_may : (x : NewGrownAddition) (c : Command) (image : List ℕ) (a : Amended) → OpensAs image x.kind (grown_view x) → holds_named c x.c.l.object.path ≡ true
      → Grows (grown_view x) c x.growing → Contains (grown_edit x.c x.growing).amended a → MayBeWritten x.kind (grown_view x) x.m c (regrown (edit x.c) x.growing a.was.object).sectors
