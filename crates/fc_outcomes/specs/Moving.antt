-- `rename` without a copied file and without growth, from what is written to what it promises.
use Rattle.std.specs.Prelude.{◌≡◌, ℕ, true, false, List, Contains, Some, None}
use Rattle.fc_names.specs.Names.{Path, is_same_path}
use Rattle.fc_record.specs.declared.DiscRecord.{DiscRecord}
use Rattle.fc_model.specs.Command.{Command}
use Rattle.fc_model.specs.Tree.{last_name}
use Rattle.fc_dirs.specs.Directory.{Directory, entries_of}
use Rattle.fc_image.specs.Layout.{Layout}
use Rattle.fc_image.specs.Report.{holder_address}
use Rattle.fc_image.specs.Walk.{Listing}
use Rattle.fc_image.specs.Opening.{Opened}
use Rattle.fc_image.specs.Stays.{IsNewKind, OpensAs}
use Rattle.fc_image.specs.effects.Short.{growth_in, is_copied}
use Rattle.fc_image.specs.effects.Steady.{IsRewritten, edited, with_made, without_name}
use Rattle.fc_changes.specs.Owed.{IsMapAfter}
use Rattle.fc_laws.specs.nodes.Edits.{Nodes}
use Rattle.fc_laws.specs.nodes.Laws.{IsHeld}
use Rattle.fc_laws.specs.agree.Agreed.{parts_with}
use Rattle.fc_laws.specs.takeover.Places.{MayBeWritten}
use Rattle.fc_changes.specs.old.Owed.{IsMapAfter as IsOldMapAfter}
use Rattle.fc_laws.specs.old.agree.Laws.{parts_with as old_parts_with}
use Rattle.fc_laws.specs.old.takeover.Places.{AreSpared, MayBeWritten as OldMayBeWritten}
use Rattle.fc_edits.specs.Edit.{Amended}
use Rattle.fc_edits.specs.Moving.{Moving, NewMoving, OldMoving, edit, moved, new_path}
use Rattle.fc_edits.specs.Transfer.{IsRenaming, IsTransfer, Renaming, Transfer, renaming_of, transfer_of}
use Rattle.fc_outcomes.specs.NewImage.{Outcome}
use Rattle.fc_outcomes.specs.Puts.{ArePutOut, IsDirectoryPut, Put}

-- The object is at the first path and will be at the second, under its last name. It isn't copied, and no directory grows.
pub record IsToMove (v : Opened) (from to : Path) (c : Moving) : Type 0 where
  pub from_is : is_same_path from c.o.path ≡ true
  pub to_is : is_same_path to (new_path c) ≡ true
  pub name_is : last_name to ≡ c.name
  pub not_copied : is_copied v from to c.o ≡ false
  pub no_growth : growth_in v (Command.Rename from to) ≡ None

-- The entries that the command leaves in its directories, without and with the object's.
abbrev pub HasEntries : Path → Path → Moving → Type 0
HasEntries from to c = (a : Amended) → Contains c.dirs a → entries_of a.content ≡ edited (Command.Rename from to) a.was.object.path (Some (moved c c.o).entry) (entries_of a.was.content)

-- The directories that it leaves and joins are rewritten with the entries that the command leaves them, and its own with its new name and
-- parent. These are all their bytes, and nothing else is written.
pub record HasMoved (v : Opened) (from to : Path) (c : Moving) (puts : List Put) : Type 0 where
  pub its : IsToMove v from to c
  pub entries : HasEntries from to c
  pub says : (a : Amended) → Contains c.dirs a → IsRewritten (Command.Rename from to) a.was.object.path (holder_address v.listings a.was.object.path) a.was.content a.content
  pub own_says : (d : Listing × Directory) → Contains c.own d → IsRewritten (Command.Rename from to) d.0.object.path c.l.object.entry.address d.0.content d.1
  pub written : (a : Amended) → Contains (edit c).amended a → IsDirectoryPut v.layout (moved c a.was.object) a.content puts
  pub whose : (p : Put) → Contains puts p → (a : Amended) × Contains (edit c).amended a × (p.sectors ≡ a.was.object.sectors)

-- the image as it opens before
abbrev pub new_view : NewMoving → Opened
new_view x = record { kind = x.kind; layout = Layout.New x.m; listings = x.listings }

abbrev pub old_view : OldMoving → Opened
old_view x = record { kind = x.kind; layout = Layout.Old x.space; listings = x.listings }

-- On a new map: the directories' sectors have their bytes, and both copies of the map are as they count.
pub record NewMovingWritten (x : NewMoving) (from to : Path) (puts : List Put) (image image' : List ℕ) : Type 0 where
  pub r : DiscRecord
  pub new_kind : IsNewKind x.kind r
  pub opens : OpensAs image x.kind (new_view x)
  pub has_moved : HasMoved (new_view x) from to x.c puts
  pub out : ArePutOut (Layout.New x.m) puts image image'
  pub after : IsMapAfter x.m x.m image'

-- the same on an old map, which stays
pub record OldMovingWritten (x : OldMoving) (from to : Path) (puts : List Put) (image image' : List ℕ) : Type 0 where
  pub opens : OpensAs image x.kind (old_view x)
  pub has_moved : HasMoved (old_view x) from to x.c puts
  pub out : ArePutOut (Layout.Old x.space) puts image image'
  pub after : IsOldMapAfter x.space x.space.holes image image'

-- It does what it promises, and the new image has the parts after it.
pub record MovingLaw : Type 0 where
  -- The one directory is without the old entry, and the other has the new one; or the one directory has it in place of the old one.
  pub across : (v : Opened) (nodes : Nodes) (from to : Path) (c : Transfer) → IsHeld nodes v.layout v.listings → IsTransfer nodes v.layout v.listings c → IsToMove v from to (transfer_of c)
      → entries_of c.k_content ≡ without_name (last_name from) (entries_of c.k.content) → entries_of c.l_content ≡ with_made (Some (moved (transfer_of c) c.o).entry) (entries_of c.l.content)
      → HasEntries from to (transfer_of c)
  pub within : (v : Opened) (nodes : Nodes) (from to : Path) (c : Renaming) → IsHeld nodes v.layout v.listings → IsRenaming nodes v.layout v.listings c → IsToMove v from to (renaming_of c)
      → entries_of c.content ≡ with_made (Some (moved (renaming_of c) c.o).entry) (without_name (last_name from) (entries_of c.l.content)) → HasEntries from to (renaming_of c)
  pub new : (x : NewMoving) (from to : Path) (puts : List Put) (image image' : List ℕ) → NewMovingWritten x from to puts image image'
      → Outcome x.kind image image' (new_view x) (Command.Rename from to) (parts_with x.m x.nodes' x.owners')
  pub old : (x : OldMoving) (from to : Path) (puts : List Put) (image image' : List ℕ) → OldMovingWritten x from to puts image image'
      → Outcome x.kind image image' (old_view x) (Command.Rename from to) (old_parts_with x.space x.nodes' x.owners')
  -- At every exit the sectors of its directories may be written: they are none of another object, nor of lost space.
  pub new_may : (x : NewMoving) (from to : Path) (a : Amended) (image : List ℕ) → OpensAs image x.kind (new_view x) → IsToMove (new_view x) from to x.c → Contains (edit x.c).amended a
      → MayBeWritten x.kind (new_view x) x.m (Command.Rename from to) a.was.object.sectors
  pub old_may : (x : OldMoving) (from to : Path) (a : Amended) (image : List ℕ) → OpensAs image x.kind (old_view x) → IsToMove (old_view x) from to x.c → Contains (edit x.c).amended a
      → OldMayBeWritten (old_view x) x.space (Command.Rename from to) a.was.object.sectors × AreSpared (old_view x) x.space (Command.Rename from to) a.was.object.sectors
