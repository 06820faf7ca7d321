-- `rename` that copies its file into a directory that grows by it, on a new map: from what is written to what it promises.
use Rattle.std.specs.Prelude.{◌≡◌, ◌⊎◌, ℕ, ◌*◌, true, List, length, Contains, Some}
use Rattle.fc_names.specs.Names.{Path, is_same_path}
use Rattle.fc_record.specs.declared.DiscRecord.{DiscRecord}
use Rattle.fc_newmap.specs.Map.{bits_in}
use Rattle.fc_model.specs.Command.{Command}
use Rattle.fc_model.specs.Tree.{last_name}
use Rattle.fc_dirs.specs.Directory.{entries_of}
use Rattle.fc_image.specs.Layout.{Layout}
use Rattle.fc_image.specs.Walk.{object_bytes}
use Rattle.fc_image.specs.Opening.{Opened}
use Rattle.fc_image.specs.Stays.{IsNewKind, OpensAs}
use Rattle.fc_image.specs.effects.Placed.{file_low}
use Rattle.fc_image.specs.effects.Short.{is_copied}
use Rattle.fc_image.specs.effects.Steady.{IsRewritten, with_made, without_name}
use Rattle.fc_changes.specs.Changed.{IsInNewSpace}
use Rattle.fc_laws.specs.agree.Agreed.{parts_with}
use Rattle.fc_laws.specs.takeover.Places.{MayBeWritten}
use Rattle.fc_edits.specs.Copying.{copied, edit, new_path}
use Rattle.fc_edits.specs.Edit.{Amended}
use Rattle.fc_edits.specs.Growing.{regrown}
use Rattle.fc_edits.specs.GrownCopying.{NewGrownCopying, grown_edit}
use Rattle.fc_outcomes.specs.Growth.{Grows, MapGrows, holder_now}
use Rattle.fc_outcomes.specs.NewImage.{Outcome}
use Rattle.fc_outcomes.specs.Puts.{ArePutOut, IsDirectoryPut, Put}

-- the image as it opens before
abbrev pub grown_view : NewGrownCopying → Opened
grown_view x = record { kind = x.kind; layout = Layout.New x.m; listings = x.listings }

-- The file at the first path shares its identifier, so it is copied, to the second path under its last name. The directory grows by it.
pub record IsToCopyGrown (x : NewGrownCopying) (from to : Path) : Type 0 where
  pub from_is : is_same_path from x.c.o.path ≡ true
  pub to_is : is_same_path to (new_path x.c) ≡ true
  pub name_is : last_name to ≡ x.c.name
  pub shares : is_copied (grown_view x) from to x.c.o ≡ true
  pub grows : Grows (grown_view x) (Command.Rename from to) x.growing
  pub into_it : x.c.l.object ≡ x.growing.o
  pub place : IsInNewSpace x.m x.c.o.entry.len (file_low x.m.geometry (bits_in x.parts * x.m.geometry.bit_bytes) x.c.o.entry.len) x.id x.parts (copied x.c x.c.o)

-- Each directory that says something else is rewritten, at its new place if it grows: the one without the entry, the other with it. `stored`
-- are the file's bytes, in new space. Nothing else is written but the map, of which both copies are the new map.
pub record NewGrownCopyingWritten (x : NewGrownCopying) (from to : Path) (puts : List Put) (stored image image' : List ℕ) : Type 0 where
  pub r : DiscRecord
  pub new_kind : IsNewKind x.kind r
  pub opens : OpensAs image x.kind (grown_view x)
  pub its : IsToCopyGrown x from to
  pub left : entries_of x.c.k_content ≡ without_name (last_name from) (entries_of x.c.k.content)
  pub joined : entries_of x.c.l_content ≡ with_made (Some (copied x.c x.c.o).entry) (entries_of x.c.l.content)
  pub says : (a : Amended) → Contains (grown_edit x.c x.growing).amended a
      → IsRewritten (Command.Rename from to) a.was.object.path (holder_now x.listings x.growing a.was.object.path) a.was.content a.content
  pub written : (a : Amended) → Contains (grown_edit x.c x.growing).amended a → IsDirectoryPut (Layout.New x.m') (regrown (edit x.c) x.growing a.was.object) a.content puts
  pub stored_put : Contains puts (record { sectors = x.c.sectors; bytes = stored })
  pub stored_is : stored ≡ object_bytes image (Layout.New x.m) x.c.o
  pub stored_long : length stored ≡ x.c.o.entry.len
  pub whose : (p : Put) → Contains puts p
      → ((a : Amended) × Contains (grown_edit x.c x.growing).amended a × (p.sectors ≡ (regrown (edit x.c) x.growing a.was.object).sectors)) ⊎ (p.sectors ≡ x.c.sectors)
  pub out : ArePutOut (Layout.New x.m) puts image image'
  pub map : MapGrows x.m x.m' x.growing r image'

-- It does what it promises, and the new image has the parts after it.
pub record GrownCopyingLaw : Type 0 where
  pub new : (x : NewGrownCopying) (from to : Path) (puts : List Put) (stored image image' : List ℕ) → NewGrownCopyingWritten x from to puts stored image image'
      → Outcome x.kind image image' (grown_view x) (Command.Rename from to) (parts_with x.m' x.nodes' x.owners')
  -- At every exit the sectors of the copy, and of each directory that says something else, at its new place if it grows, may be written beside
  -- the map: they are none of another object, nor of lost space. The file at its old place is such another object.
  pub object_may : (x : NewGrownCopying) (from to : Path) (image : List ℕ) → OpensAs image x.kind (grown_view x) → IsToCopyGrown x from to
      → MayBeWritten x.kind (grown_view x) x.m (Command.Rename from to) (copied x.c x.c.o).sectors
  pub directory_may : (x : NewGrownCopying) (from to : Path) (image : List ℕ) (a : Amended) → OpensAs image x.kind (grown_view x) → IsToCopyGrown x from to
      → Contains (grown_edit x.c x.growing).amended a → MayBeWritten x.kind (grown_view x) x.m (Command.Rename from to) (regrown (edit x.c) x.growing a.was.object).sectors
