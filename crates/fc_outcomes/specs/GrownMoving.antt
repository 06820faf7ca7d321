-- `rename` without a copy, into a directory that grows by it, on a new map: from what is written to what it promises.
use Rattle.std.specs.Prelude.{◌≡◌, ℕ, true, false, List, Contains, Some, if◌then◌else◌}
use Rattle.fc_names.specs.Names.{Path, is_same_path}
use Rattle.fc_record.specs.declared.DiscRecord.{DiscRecord}
use Rattle.fc_model.specs.Command.{Command}
use Rattle.fc_model.specs.Tree.{last_name}
use Rattle.fc_dirs.specs.Directory.{entries_of}
use Rattle.fc_image.specs.Layout.{Layout}
use Rattle.fc_image.specs.Walk.{Listing}
use Rattle.fc_image.specs.Opening.{Opened}
use Rattle.fc_image.specs.Stays.{IsNewKind, OpensAs}
use Rattle.fc_image.specs.effects.Short.{is_copied}
use Rattle.fc_image.specs.effects.Steady.{IsRewritten, with_made, without_name}
use Rattle.fc_laws.specs.nodes.Edits.{Nodes}
use Rattle.fc_laws.specs.nodes.Laws.{IsHeld}
use Rattle.fc_laws.specs.agree.Agreed.{parts_with}
use Rattle.fc_laws.specs.takeover.Places.{MayBeWritten}
use Rattle.fc_edits.specs.Edit.{Amended}
use Rattle.fc_edits.specs.Growing.{Growing, regrown}
use Rattle.fc_edits.specs.GrownMoving.{NewGrownMoving, grown_edit}
use Rattle.fc_edits.specs.Moving.{Moving, edit, moved, new_path}
use Rattle.fc_edits.specs.Transfer.{Renames, Renaming, Transfer, Transfers, renaming_of, transfer_of}
use Rattle.fc_outcomes.specs.Growth.{Grows, MapGrows, holder_now}
use Rattle.fc_outcomes.specs.Moving.{HasEntries}
use Rattle.fc_outcomes.specs.NewImage.{Outcome}
use Rattle.fc_outcomes.specs.Puts.{ArePutOut, IsDirectoryPut, Put}

-- The object is at the first path and will be at the second, under its last name. It isn't copied, and the directory grows by it.
pub record IsToMoveGrown (v : Opened) (from to : Path) (c : Moving) (g : Growing) : Type 0 where
  pub from_is : is_same_path from c.o.path ≡ true
  pub to_is : is_same_path to (new_path c) ≡ true
  pub name_is : last_name to ≡ c.name
  pub not_copied : is_copied v from to c.o ≡ false
  pub grows : Grows v (Command.Rename from to) g
  pub into_it : c.l.object ≡ g.o

-- the address of the directory that holds one, afterwards: the grown one holds what moves
abbrev pub parent_now : List Listing → Moving → Growing → Path → ℕ
parent_now listings c g path = if is_same_path c.o.path path then g.address else holder_now listings g path

-- the image as it opens before
abbrev pub grown_view : NewGrownMoving → Opened
grown_view x = record { kind = x.kind; layout = Layout.New x.m; listings = x.listings }

-- Each directory that says something else is rewritten, at its new place if it grows. Nothing else is written but the map, of which both copies
-- are the new map.
pub record NewGrownMovingWritten (x : NewGrownMoving) (from to : Path) (puts : List Put) (image image' : List ℕ) : Type 0 where
  pub r : DiscRecord
  pub new_kind : IsNewKind x.kind r
  pub opens : OpensAs image x.kind (grown_view x)
  pub its : IsToMoveGrown (grown_view x) from to x.c x.growing
  pub entries : HasEntries from to x.c
  pub says : (a : Amended) → Contains (grown_edit x.c x.growing).amended a
      → IsRewritten (Command.Rename from to) a.was.object.path (parent_now x.listings x.c x.growing a.was.object.path) a.was.content a.content
  pub written : (a : Amended) → Contains (grown_edit x.c x.growing).amended a → IsDirectoryPut (Layout.New x.m') (regrown (edit x.c) x.growing a.was.object) a.content puts
  pub whose : (p : Put) → Contains puts p → (a : Amended) × Contains (grown_edit x.c x.growing).amended a × (p.sectors ≡ (regrown (edit x.c) x.growing a.was.object).sectors)
  pub out : ArePutOut (Layout.New x.m) puts image image'
  pub map : MapGrows x.m x.m' x.growing r image'

-- It does what it promises, and the new image has the parts after it.
pub record GrownMovingLaw : Type 0 where
  -- The one directory is without the old entry, and the other has the new one; or the one directory has it in place of the old one.
  pub across : (v : Opened) (nodes : Nodes) (from to : Path) (c : Transfer) (g : Growing) → IsHeld nodes v.layout v.listings → Transfers nodes v.listings c
      → IsToMoveGrown v from to (transfer_of c) g → entries_of c.k_content ≡ without_name (last_name from) (entries_of c.k.content)
      → entries_of c.l_content ≡ with_made (Some (moved (transfer_of c) c.o).entry) (entries_of c.l.content) → HasEntries from to (transfer_of c)
  pub within : (v : Opened) (nodes : Nodes) (from to : Path) (c : Renaming) (g : Growing) → IsHeld nodes v.layout v.listings → Renames nodes v.listings c
      → IsToMoveGrown v from to (renaming_of c) g → entries_of c.content ≡ with_made (Some (moved (renaming_of c) c.o).entry) (without_name (last_name from) (entries_of c.l.content))
      → HasEntries from to (renaming_of c)
  pub new : (x : NewGrownMoving) (from to : Path) (puts : List Put) (image image' : List ℕ) → NewGrownMovingWritten x from to puts image image'
      → Outcome x.kind image image' (grown_view x) (Command.Rename from to) (parts_with x.m' x.nodes' x.owners')
  -- At every exit the sectors of each directory that says something else, at its new place if it grows, may be written beside the map: they
  -- are none of another object, nor of lost space.
  pub new_may : (x : NewGrownMoving) (from to : Path) (image : List ℕ) (a : Amended) → OpensAs image x.kind (grown_view x) → IsToMoveGrown (grown_view x) from to x.c x.growing
      → Contains (grown_edit x.c x.growing).amended a → MayBeWritten x.kind (grown_view x) x.m (Command.Rename from to) (regrown (edit x.c) x.growing a.was.object).sectors
