-- `delete`, from what is written to what it promises.
use Rattle.std.specs.Prelude.{◌≡◌, ℕ, true, List, [], ◌∷◌, length}
use Rattle.fc_names.specs.Names.{Path, is_same_path}
use Rattle.fc_record.specs.declared.DiscRecord.{DiscRecord}
use Rattle.fc_model.specs.Command.{Command}
use Rattle.fc_model.specs.Tree.{last_name}
use Rattle.fc_dirs.specs.Directory.{entries_of}
use Rattle.fc_image.specs.Layout.{Layout, dir_form}
use Rattle.fc_image.specs.Report.{holder_address}
use Rattle.fc_image.specs.Walk.{Listing, object_size}
use Rattle.fc_image.specs.Stays.{IsNewKind, OpensAs}
use Rattle.fc_image.specs.effects.Steady.{AreWritten, IsRewritten, without_name}
use Rattle.fc_changes.specs.Owed.{IsMapAfter}
use Rattle.fc_laws.specs.agree.Agreed.{parts_with}
use Rattle.fc_laws.specs.takeover.Places.{MayBeWritten}
use Rattle.fc_changes.specs.old.Owed.{IsMapAfter as IsOldMapAfter, holding}
use Rattle.fc_laws.specs.old.agree.Laws.{parts_with as old_parts_with}
use Rattle.fc_laws.specs.old.takeover.Places.{AreSpared, MayBeWritten as OldMayBeWritten}
use Rattle.fc_edits.specs.Deletion.{Deletion, NewDeletion, OldDeletion, holes_with_it}
use Rattle.fc_outcomes.specs.NewImage.{Outcome}
use Rattle.fc_outcomes.specs.Puts.{ArePutOut}

-- The object is the one at the path, its directory is rewritten without the entry, and these are all its bytes.
pub record LeavesOut (path : Path) (layout : Layout) (listings : List Listing) (c : Deletion) (bytes : List ℕ) : Type 0 where
  pub path_is : is_same_path path c.o.path ≡ true
  pub says : IsRewritten (Command.Delete path) c.l.object.path (holder_address listings c.l.object.path) c.l.content c.content
  pub entries : entries_of c.content ≡ without_name (last_name path) (entries_of c.l.content)
  pub written : AreWritten bytes c.content
  pub long : length bytes ≡ object_size (dir_form layout) c.l.object.entry

-- On a new map: the directory's sectors have its bytes, and both copies of the map are the new map.
pub record NewDeletionWritten (x : NewDeletion) (path : Path) (bytes image image' : List ℕ) : Type 0 where
  pub r : DiscRecord
  pub new_kind : IsNewKind x.kind r
  pub opens : OpensAs image x.kind (record { kind = x.kind; layout = Layout.New x.m; listings = x.listings })
  pub leaves : LeavesOut path (Layout.New x.m) x.listings x.c bytes
  pub out : ArePutOut (Layout.New x.m) (record { sectors = x.c.l.object.sectors; bytes = bytes } ∷ []) image image'
  pub after : IsMapAfter x.m x.m' image'

-- On an old map: so they have, and the map has the object's space in its holes.
pub record OldDeletionWritten (x : OldDeletion) (path : Path) (bytes image image' : List ℕ) : Type 0 where
  pub opens : OpensAs image x.kind (record { kind = x.kind; layout = Layout.Old x.space; listings = x.listings })
  pub leaves : LeavesOut path (Layout.Old x.space) x.listings x.c bytes
  pub out : ArePutOut (Layout.Old x.space) (record { sectors = x.c.l.object.sectors; bytes = bytes } ∷ []) image image'
  pub after : IsOldMapAfter x.space (holes_with_it x.space x.c) image image'

-- It does what it promises, and the new image has the parts after it.
pub record DeletionLaw : Type 0 where
  pub new : (x : NewDeletion) (path : Path) (bytes image image' : List ℕ) → NewDeletionWritten x path bytes image image'
      → Outcome x.kind image image' (record { kind = x.kind; layout = Layout.New x.m; listings = x.listings }) (Command.Delete path) (parts_with x.m' x.nodes' x.owners')
  pub old : (x : OldDeletion) (path : Path) (bytes image image' : List ℕ) → OldDeletionWritten x path bytes image image'
      → Outcome x.kind image image' (record { kind = x.kind; layout = Layout.Old x.space; listings = x.listings }) (Command.Delete path)
      (old_parts_with (holding x.space (holes_with_it x.space x.c)) x.nodes' x.owners')
  -- At every exit the directory's sectors may be written beside the map: they are none of another object, nor of lost space.
  pub new_may : (x : NewDeletion) (path : Path) (image : List ℕ) → OpensAs image x.kind (record { kind = x.kind; layout = Layout.New x.m; listings = x.listings }) → is_same_path path x.c.o.path ≡ true
      → MayBeWritten x.kind (record { kind = x.kind; layout = Layout.New x.m; listings = x.listings }) x.m (Command.Delete path) x.c.l.object.sectors
  pub old_may : (x : OldDeletion) (path : Path) (image : List ℕ) → OpensAs image x.kind (record { kind = x.kind; layout = Layout.Old x.space; listings = x.listings }) → is_same_path path x.c.o.path ≡ true
      → OldMayBeWritten (record { kind = x.kind; layout = Layout.Old x.space; listings = x.listings }) x.space (Command.Delete path) x.c.l.object.sectors
      × AreSpared (record { kind = x.kind; layout = Layout.Old x.space; listings = x.listings }) x.space (Command.Delete path) x.c.l.object.sectors
