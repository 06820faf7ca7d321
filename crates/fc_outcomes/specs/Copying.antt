-- `rename` that copies its file, without growth, on a new map: from what is written to what it promises.
use Rattle.std.specs.Prelude.{◌≡◌, ℕ, ◌*◌, true, List, [], ◌∷◌, ◌++◌, length, Some, None}
use Rattle.fc_names.specs.Names.{Path, is_same_path}
use Rattle.fc_record.specs.declared.DiscRecord.{DiscRecord}
use Rattle.fc_newmap.specs.Map.{bits_in}
use Rattle.fc_model.specs.Command.{Command}
use Rattle.fc_model.specs.Tree.{last_name}
use Rattle.fc_dirs.specs.Directory.{entries_of}
use Rattle.fc_image.specs.Layout.{Layout, dir_form}
use Rattle.fc_image.specs.Report.{holder_address}
use Rattle.fc_image.specs.Walk.{object_bytes, object_size}
use Rattle.fc_image.specs.Opening.{Opened}
use Rattle.fc_image.specs.Stays.{IsNewKind, OpensAs}
use Rattle.fc_image.specs.effects.Placed.{file_low}
use Rattle.fc_image.specs.effects.Short.{growth_in, is_copied}
use Rattle.fc_image.specs.effects.Steady.{AreWritten, IsRewritten, with_made, without_name}
use Rattle.fc_changes.specs.Changed.{IsInNewSpace}
use Rattle.fc_changes.specs.Owed.{IsMapAfter}
use Rattle.fc_laws.specs.agree.Agreed.{parts_with}
use Rattle.fc_laws.specs.takeover.Places.{MayBeWritten}
use Rattle.fc_edits.specs.Copying.{NewCopying, copied, new_path}
use Rattle.fc_outcomes.specs.NewImage.{Outcome}
use Rattle.fc_outcomes.specs.Puts.{ArePutOut}

-- the image as it opens before
abbrev pub new_view : NewCopying → Opened
new_view x = record { kind = x.kind; layout = Layout.New x.m; listings = x.listings }

-- The file at the first path shares its identifier, so it is copied, to the second path under its last name. No directory grows.
pub record IsToCopy (x : NewCopying) (from to : Path) : Type 0 where
  pub from_is : is_same_path from x.c.o.path ≡ true
  pub to_is : is_same_path to (new_path x.c) ≡ true
  pub name_is : last_name to ≡ x.c.name
  pub shares : is_copied (new_view x) from to x.c.o ≡ true
  pub no_growth : growth_in (new_view x) (Command.Rename from to) ≡ None
  pub place : IsInNewSpace x.m x.c.o.entry.len (file_low x.m.geometry (bits_in x.parts * x.m.geometry.bit_bytes) x.c.o.entry.len) x.id x.parts (copied x.c x.c.o)

-- The one directory is rewritten without the entry, the other with it, and `stored` are the file's bytes, in new space. Both copies of the map
-- are the new map.
pub record CopyingWritten (x : NewCopying) (from to : Path) (k_bytes l_bytes stored image image' : List ℕ) : Type 0 where
  pub r : DiscRecord
  pub new_kind : IsNewKind x.kind r
  pub opens : OpensAs image x.kind (new_view x)
  pub its : IsToCopy x from to
  pub left : entries_of x.c.k_content ≡ without_name (last_name from) (entries_of x.c.k.content)
  pub joined : entries_of x.c.l_content ≡ with_made (Some (copied x.c x.c.o).entry) (entries_of x.c.l.content)
  pub k_says : IsRewritten (Command.Rename from to) x.c.k.object.path (holder_address x.listings x.c.k.object.path) x.c.k.content x.c.k_content
  pub l_says : IsRewritten (Command.Rename from to) x.c.l.object.path (holder_address x.listings x.c.l.object.path) x.c.l.content x.c.l_content
  pub k_written : AreWritten k_bytes x.c.k_content
  pub l_written : AreWritten l_bytes x.c.l_content
  pub k_long : length k_bytes ≡ object_size (dir_form (Layout.New x.m)) x.c.k.object.entry
  pub l_long : length l_bytes ≡ object_size (dir_form (Layout.New x.m)) x.c.l.object.entry
  pub stored_is : stored ≡ object_bytes image (Layout.New x.m) x.c.o
  pub stored_long : length stored ≡ x.c.o.entry.len
  pub out : ArePutOut (Layout.New x.m)
      (record { sectors = x.c.k.object.sectors; bytes = k_bytes } ∷ (record { sectors = x.c.l.object.sectors; bytes = l_bytes } ∷ (record { sectors = x.c.sectors; bytes = stored } ∷ []))) image image'
  pub after : IsMapAfter x.m x.m' image'

-- It does what it promises, and the new image has the parts after it.
pub record CopyingLaw : Type 0 where
  pub new : (x : NewCopying) (from to : Path) (k_bytes l_bytes stored image image' : List ℕ) → CopyingWritten x from to k_bytes l_bytes stored image image'
      → Outcome x.kind image image' (new_view x) (Command.Rename from to) (parts_with x.m' x.nodes' x.owners')
  -- At every exit the sectors of both directories and of the copy may be written beside the map: they are none of another object, nor of
  -- lost space.
  pub new_may : (x : NewCopying) (from to : Path) (image : List ℕ) → OpensAs image x.kind (new_view x) → IsToCopy x from to
      → MayBeWritten x.kind (new_view x) x.m (Command.Rename from to) (x.c.k.object.sectors ++ (x.c.l.object.sectors ++ (copied x.c x.c.o).sectors))
