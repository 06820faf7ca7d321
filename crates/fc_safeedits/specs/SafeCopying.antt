-- `rename` in the safe mode that copies its file, without growth, from what is written to what it promises.
use Rattle.std.specs.Prelude.{◌≡◌, true, false, Some, None, Contains}
use Rattle.fc_names.specs.Names.{Path, is_same_path}
use Rattle.fc_dirs.specs.Directory.{entries_of}
use Rattle.fc_model.specs.Answer.{changed}
use Rattle.fc_model.specs.Command.{Command}
use Rattle.fc_model.specs.Tree.{last_name}
use Rattle.fc_image.specs.Layout.{Layout}
use Rattle.fc_image.specs.Walk.{Object, object_bytes}
use Rattle.fc_image.specs.Objects.{tree_of}
use Rattle.fc_image.specs.Opening.{Opened}
use Rattle.fc_image.specs.Report.{holder_address}
use Rattle.fc_image.specs.Edits.{IsAt}
use Rattle.fc_image.specs.Moves.{object_in}
use Rattle.fc_image.specs.effects.Short.{growth_in, is_copied}
use Rattle.fc_image.specs.effects.Steady.{AreWritten, IsRewritten, with_made, without_name}
use Rattle.fc_image.specs.safe.SafeEffect.{HasTree}
use Rattle.fc_tree.specs.Agree.{Agree}
use Rattle.fc_laws.specs.nodes.Edits.{OwnersEdited, owners_with}
use Rattle.fc_laws.specs.agree.Agreed.{parts_with}
use Rattle.fc_edits.specs.Copying.{Copying, IsCopying, copied, edit, new_path}
use Rattle.fc_edits.specs.Edit.{Amended, AreEdited}
use Rattle.fc_edits.specs.NewPlaces.{GivesBack, LiesAgain}
use Rattle.fc_edits.specs.Places.{Stays}
use Rattle.fc_safelaws.specs.Relaid.{AreCopied, Reaches}
use Rattle.fc_safeedits.specs.Relocation.{is_moved}
use Rattle.fc_safeedits.specs.SafeChange.{IsWholeMap, KeepsRecord, MovedParts, SafeChange, moves_in, view_before}
use Rattle.fc_safeedits.specs.SafeOutcome.{SafeOutcome}
use Rattle.fc_safeedits.specs.SafeAddition.{TakesForObject}

-- The file goes from one directory to another, and to another place. Both directories are in identifiers that move; so may be others that
-- stay, and each has its place there. The copy lies at its address, in none of these identifiers, and apart from what stays in its own.
pub record CopiedParts (x : MovedParts) : Type 0 where
  pub c : Copying
  pub copying : IsCopying x.nodes (Layout.New x.m) x.listings c
  pub nodes_edited : AreEdited x.nodes x.nodes' (edit c)
  pub owners_edited : OwnersEdited x.owners x.owners' (owners_with (Layout.New x.m) c.home c.number c.o) (owners_with (Layout.New x.m') c.dir c.number (copied c c.o))
  pub gives : GivesBack x.m x.takings x.gone x.listings (edit c)
  pub moves : (a : Amended) → Contains (edit c).amended a → is_moved (moves_in x) a.was.object ≡ true
  pub elsewhere : is_moved (moves_in x) (copied c c.o) ≡ false
  pub at : IsAt (Layout.New x.m') (copied c c.o)
  pub lies : LiesAgain x.m x.nodes x.listings (edit c) (copied c c.o)
  pub reaches : (o : Object) → Stays x.nodes x.listings (edit c) o → is_moved (moves_in x) o ≡ true → Reaches x.m' o

-- The file at the first path shares its identifier, so it is copied, to the second path under its last name.
pub record IsItsCopy (v : Opened) (from to : Path) (c : Copying) : Type 0 where
  pub from_is : is_same_path from c.o.path ≡ true
  pub to_is : is_same_path to (new_path c) ≡ true
  pub name_is : last_name to ≡ c.name
  pub shares : is_copied v from to c.o ≡ true

-- Both directories, the one without the entry and the other with it, have their new bytes in their new sectors. The file's bytes are copied
-- to its new sectors; and so is what else stays in an identifier that moves. No directory grows.
pub record SafeCopying : Type 0 where
  pub x : SafeChange
  pub parts : CopiedParts x.parts
  pub from : Path
  pub to : Path
  pub record_stays : KeepsRecord x.parts
  pub its : IsItsCopy (view_before x.parts) from to parts.c
  pub no_growth : growth_in (view_before x.parts) (Command.Rename from to) ≡ None
  pub left : entries_of parts.c.k_content ≡ without_name (last_name from) (entries_of parts.c.k.content)
  pub joined : entries_of parts.c.l_content ≡ with_made (Some (copied parts.c parts.c.o).entry) (entries_of parts.c.l.content)
  pub says : (a : Amended) → Contains (edit parts.c).amended a
      → IsRewritten (Command.Rename from to) a.was.object.path (holder_address x.parts.listings a.was.object.path) a.was.content a.content
  pub there : (a : Amended) → Contains (edit parts.c).amended a → AreWritten (object_bytes x.image' (Layout.New x.parts.m') (object_in (Layout.New x.parts.m') a.was.object)) a.content
  pub stored : AreCopied x.parts.m.geometry.sector x.image x.image' parts.c.o.sectors parts.c.sectors
  pub carried : (o : Object) → Stays x.parts.nodes x.parts.listings (edit parts.c) o → is_moved (moves_in x.parts) o ≡ true → ((a : Amended) → Contains (edit parts.c).amended a → a.was.object ≡ o → ⊥)
      → AreCopied x.parts.m.geometry.sector x.image x.image' o.sectors (object_in (Layout.New x.parts.m') o).sectors

pub record SafeCopyingLaw : Type 0 where
  -- The parts after it agree.
  pub agrees : (x : MovedParts) → CopiedParts x → Agree x.kind (parts_with x.m' x.nodes' x.owners')
  -- If the copy of the map that counts is the new one, the image has the tree after the command,
  pub tree : (d : SafeCopying) → HasTree d.x.parts.kind (changed (tree_of d.x.image (Layout.New d.x.parts.m) d.x.parts.listings) (Command.Rename d.from d.to)) d.x.image'
  -- and if both are, the command has done what it promises.
  pub outcome : (d : SafeCopying) → TakesForObject d.x.parts (Command.Rename d.from d.to) (copied d.parts.c d.parts.c.o) → IsWholeMap d.x
      → SafeOutcome d.x.parts.kind d.x.image d.x.image' (view_before d.x.parts) (Command.Rename d.from d.to) (parts_with d.x.parts.m' d.x.parts.nodes' d.x.parts.owners')
