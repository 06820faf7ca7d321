-- `rename` that copies its file into a directory that grows by it, in the safe mode: from what is written to what it promises.
use Rattle.std.specs.Prelude.{◌≡◌, ◌<◌, ◌++◌, true, false, Some, Contains}
use Rattle.fc_names.specs.Names.{Path, is_same_path}
use Rattle.fc_dirs.specs.Directory.{entries_of}
use Rattle.fc_model.specs.Answer.{changed}
use Rattle.fc_model.specs.Command.{Command}
use Rattle.fc_model.specs.Tree.{last_name}
use Rattle.fc_image.specs.Layout.{Layout, id_of}
use Rattle.fc_image.specs.Walk.{Object, object_bytes}
use Rattle.fc_image.specs.Objects.{tree_of}
use Rattle.fc_image.specs.Edits.{IsAt}
use Rattle.fc_image.specs.Moves.{object_in}
use Rattle.fc_image.specs.effects.Steady.{AreWritten, IsRewritten, with_made, without_name}
use Rattle.fc_image.specs.safe.SafeEffect.{HasTree}
use Rattle.fc_tree.specs.Agree.{Agree}
use Rattle.fc_laws.specs.nodes.Edits.{OwnersEdited, owners_with}
use Rattle.fc_laws.specs.agree.Agreed.{parts_with}
use Rattle.fc_edits.specs.Copying.{Copies, Copying, copied, edit}
use Rattle.fc_edits.specs.Edit.{Amended, AreEdited, owners_joined, owners_left}
use Rattle.fc_edits.specs.Growing.{Growing, IsGrowing, at_place, regrown, up_of}
use Rattle.fc_edits.specs.GrownCopying.{grown_edit}
use Rattle.fc_edits.specs.NewPlaces.{GivesBack, LiesAgain}
use Rattle.fc_edits.specs.Places.{Stays}
use Rattle.fc_outcomes.specs.Growth.{Grows, holder_now}
use Rattle.fc_safelaws.specs.Relaid.{AreCopied, Reaches}
use Rattle.fc_safeedits.specs.Relocation.{is_moved}
use Rattle.fc_safeedits.specs.SafeChange.{MovedParts, SafeChange, moves_in, view_before}
use Rattle.fc_safeedits.specs.SafeImage.{IsUnamended}
use Rattle.fc_safeedits.specs.SafeOutcome.{SafeOutcome}
use Rattle.fc_safeedits.specs.SafeGrowth.{IsGrownSafely, IsRecorded, IsWholeGrown}
use Rattle.fc_safeedits.specs.SafeGrownAddition.{TakesForGrown}
use Rattle.fc_safeedits.specs.SafeCopying.{IsItsCopy}

-- The file goes to another directory, which grows by it, and to another place. Every other directory that says something else is in an
-- identifier that moves; so may be others that stay, and each has its place there. The copy lies at its address, in none of these
-- identifiers, and apart from what stays in its own, which isn't the grown directory's.
pub record GrownCopiedParts (x : MovedParts) : Type 0 where
  pub c : Copying
  pub growing : Growing
  pub copies : Copies x.nodes x.listings c
  pub grows : IsGrowing x.nodes (Layout.New x.m) (edit c) growing
  pub nodes_edited : AreEdited x.nodes x.nodes' (grown_edit c growing)
  pub owners_edited : OwnersEdited x.owners x.owners' (owners_with (Layout.New x.m) (up_of growing.holder) growing.dir growing.o ++ owners_left (Layout.New x.m) (edit c))
      (owners_with (Layout.New x.m') (up_of growing.holder) growing.dir (at_place growing growing.o) ++ owners_joined (Layout.New x.m') (edit c))
  pub gives : GivesBack x.m x.takings x.gone x.listings (grown_edit c growing)
  pub some : 0 < growing.len
  pub lies_grown : IsGrownSafely x growing
  pub moves : (a : Amended) → Contains (grown_edit c growing).amended a → is_same_path growing.o.path a.was.object.path ≡ false → is_moved (moves_in x) a.was.object ≡ true
  pub elsewhere : is_moved (moves_in x) (copied c c.o) ≡ false
  pub at : IsAt (Layout.New x.m') (copied c c.o)
  pub lies : LiesAgain x.m x.nodes x.listings (edit c) (copied c c.o)
  pub other : id_of (copied c c.o).entry.address ≡ id_of growing.address → ⊥
  pub reaches : (o : Object) → Stays x.nodes x.listings (grown_edit c growing) o → is_moved (moves_in x) o ≡ true → Reaches x.m' o

-- Each directory that says something else has all its bytes in its new sectors, the grown one in those of its new place: the one without
-- the entry, the other with it. The file's bytes are copied to its new sectors; and so is what else stays in an identifier that moves.
pub record SafeGrownCopying : Type 0 where
  pub x : SafeChange
  pub parts : GrownCopiedParts x.parts
  pub from : Path
  pub to : Path
  pub recorded : IsRecorded x parts.growing
  pub its : IsItsCopy (view_before x.parts) from to parts.c
  pub grows : Grows (view_before x.parts) (Command.Rename from to) parts.growing
  pub into_it : parts.c.l.object ≡ parts.growing.o
  pub left : entries_of parts.c.k_content ≡ without_name (last_name from) (entries_of parts.c.k.content)
  pub joined : entries_of parts.c.l_content ≡ with_made (Some (copied parts.c parts.c.o).entry) (entries_of parts.c.l.content)
  pub says : (a : Amended) → Contains (grown_edit parts.c parts.growing).amended a
      → IsRewritten (Command.Rename from to) a.was.object.path (holder_now x.parts.listings parts.growing a.was.object.path) a.was.content a.content
  pub there : (a : Amended) → Contains (grown_edit parts.c parts.growing).amended a
      → AreWritten (object_bytes x.image' (Layout.New x.parts.m') (object_in (Layout.New x.parts.m') (regrown (edit parts.c) parts.growing a.was.object))) a.content
  pub stored : AreCopied x.parts.m.geometry.sector x.image x.image' parts.c.o.sectors parts.c.sectors
  pub carried : (o : Object) → Stays x.parts.nodes x.parts.listings (grown_edit parts.c parts.growing) o → is_moved (moves_in x.parts) o ≡ true
      → IsUnamended (grown_edit parts.c parts.growing) o → AreCopied x.parts.m.geometry.sector x.image x.image' o.sectors (object_in (Layout.New x.parts.m') o).sectors

pub record SafeGrownCopyingLaw : Type 0 where
  -- The parts after it agree.
  pub agrees : (x : MovedParts) → GrownCopiedParts x → Agree x.kind (parts_with x.m' x.nodes' x.owners')
  -- If the copy of the map that counts is the new one, the image has the tree after the command,
  pub tree : (d : SafeGrownCopying) → HasTree d.x.parts.kind (changed (tree_of d.x.image (Layout.New d.x.parts.m) d.x.parts.listings) (Command.Rename d.from d.to)) d.x.image'
  -- and if both are, the command has done what it promises.
  pub outcome : (d : SafeGrownCopying) → TakesForGrown d.x.parts (Command.Rename d.from d.to) (copied d.parts.c d.parts.c.o) d.parts.growing → IsWholeGrown d.x d.parts.growing
      → SafeOutcome d.x.parts.kind d.x.image d.x.image' (view_before d.x.parts) (Command.Rename d.from d.to) (parts_with d.x.parts.m' d.x.parts.nodes' d.x.parts.owners')
