-- `set` and `mark`, from what is written to what they promise.
use Rattle.std.specs.Prelude.{◌≡◌, ◌⊎◌, ℕ, true, List, [], ◌∷◌, length, Some}
use Rattle.fc_names.specs.Names.{Path, is_same_path}
use Rattle.fc_record.specs.declared.DiscRecord.{DiscRecord}
use Rattle.fc_model.specs.Command.{Command}
use Rattle.fc_dirs.specs.Directory.{entries_of}
use Rattle.fc_image.specs.Layout.{Layout, dir_form}
use Rattle.fc_image.specs.Commanded.{mark_object, set_object}
use Rattle.fc_image.specs.Report.{holder_address}
use Rattle.fc_image.specs.Walk.{Listing, Object, object_size}
use Rattle.fc_image.specs.Opening.{Opened}
use Rattle.fc_image.specs.Stays.{IsNewKind, OpensAs}
use Rattle.fc_image.specs.effects.Steady.{AreWritten, IsRewritten, with_made}
use Rattle.fc_changes.specs.Owed.{IsMapAfter}
use Rattle.fc_laws.specs.agree.Agreed.{parts_with}
use Rattle.fc_laws.specs.takeover.Places.{MayBeWritten}
use Rattle.fc_changes.specs.old.Owed.{IsMapAfter as IsOldMapAfter}
use Rattle.fc_laws.specs.old.agree.Laws.{parts_with as old_parts_with}
use Rattle.fc_laws.specs.old.takeover.Places.{AreSpared, MayBeWritten as OldMayBeWritten}
use Rattle.fc_edits.specs.Rewording.{NewRewording, OldRewording, Rewording}
use Rattle.fc_outcomes.specs.NewImage.{Outcome}
use Rattle.fc_outcomes.specs.Puts.{ArePutOut}

-- The command gives the object of this path these words.
abbrev pub Words : Command → Path → Path → (Object → Object) → Type 0
Words c path there turn =
    ((load : ℕ) × (exec : ℕ) × (access : ℕ) × (c ≡ Command.Set path load exec access) × (turn ≡ set_object there load exec access))
    ⊎ ((attrs : ℕ) × (c ≡ Command.Mark path attrs) × (turn ≡ mark_object there attrs))

-- The object is the one at the path, and gets the command's words.
pub record IsToReword (command : Command) (path : Path) (c : Rewording) : Type 0 where
  pub words : Words command path c.o.path c.turn
  pub path_is : is_same_path path c.o.path ≡ true

-- Its directory is rewritten with the new entry, and these are all its bytes.
pub record HasReworded (command : Command) (path : Path) (layout : Layout) (listings : List Listing) (c : Rewording) (bytes : List ℕ) : Type 0 where
  pub its : IsToReword command path c
  pub says : IsRewritten command c.l.object.path (holder_address listings c.l.object.path) c.l.content c.content
  pub entries : entries_of c.content ≡ with_made (Some (c.turn c.o).entry) (entries_of c.l.content)
  pub written : AreWritten bytes c.content
  pub long : length bytes ≡ object_size (dir_form layout) c.l.object.entry

-- the image as it opens before
abbrev pub new_view : NewRewording → Opened
new_view x = record { kind = x.kind; layout = Layout.New x.m; listings = x.listings }

abbrev pub old_view : OldRewording → Opened
old_view x = record { kind = x.kind; layout = Layout.Old x.space; listings = x.listings }

-- On a new map: the directory's sectors have its bytes, and both copies of the map are as they count.
pub record NewRewordingWritten (x : NewRewording) (command : Command) (path : Path) (bytes image image' : List ℕ) : Type 0 where
  pub r : DiscRecord
  pub new_kind : IsNewKind x.kind r
  pub opens : OpensAs image x.kind (new_view x)
  pub reworded : HasReworded command path (Layout.New x.m) x.listings x.c bytes
  pub out : ArePutOut (Layout.New x.m) (record { sectors = x.c.l.object.sectors; bytes = bytes } ∷ []) image image'
  pub after : IsMapAfter x.m x.m image'

-- the same on an old map, which stays
pub record OldRewordingWritten (x : OldRewording) (command : Command) (path : Path) (bytes image image' : List ℕ) : Type 0 where
  pub opens : OpensAs image x.kind (old_view x)
  pub reworded : HasReworded command path (Layout.Old x.space) x.listings x.c bytes
  pub out : ArePutOut (Layout.Old x.space) (record { sectors = x.c.l.object.sectors; bytes = bytes } ∷ []) image image'
  pub after : IsOldMapAfter x.space x.space.holes image image'

-- It does what it promises, and the new image has the parts after it.
pub record RewordingLaw : Type 0 where
  pub new : (x : NewRewording) (command : Command) (path : Path) (bytes image image' : List ℕ) → NewRewordingWritten x command path bytes image image'
      → Outcome x.kind image image' (new_view x) command (parts_with x.m x.nodes' x.owners)
  pub old : (x : OldRewording) (command : Command) (path : Path) (bytes image image' : List ℕ) → OldRewordingWritten x command path bytes image image'
      → Outcome x.kind image image' (old_view x) command (old_parts_with x.space x.nodes' x.owners)
  -- At every exit the directory's sectors may be written beside the map: they are none of another object, nor of lost space.
  pub new_may : (x : NewRewording) (command : Command) (path : Path) (image : List ℕ) → OpensAs image x.kind (new_view x) → IsToReword command path x.c
      → MayBeWritten x.kind (new_view x) x.m command x.c.l.object.sectors
  pub old_may : (x : OldRewording) (command : Command) (path : Path) (image : List ℕ) → OpensAs image x.kind (old_view x) → IsToReword command path x.c
      → OldMayBeWritten (old_view x) x.space command x.c.l.object.sectors × AreSpared (old_view x) x.space command x.c.l.object.sectors
