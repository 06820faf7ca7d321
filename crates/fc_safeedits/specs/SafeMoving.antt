-- `rename` in the safe mode, without a copied file and without growth, from what is written to what it promises.
use Rattle.std.specs.Prelude.{◌≡◌, true, Contains}
use Rattle.fc_names.specs.Names.{Path}
use Rattle.fc_dirs.specs.Directory.{Directory}
use Rattle.fc_model.specs.Answer.{changed}
use Rattle.fc_model.specs.Command.{Command}
use Rattle.fc_image.specs.Layout.{Layout}
use Rattle.fc_image.specs.Walk.{Listing, Object, object_bytes}
use Rattle.fc_image.specs.Objects.{objects_of, tree_of}
use Rattle.fc_image.specs.Report.{holder_address}
use Rattle.fc_image.specs.Moves.{object_in}
use Rattle.fc_image.specs.effects.Steady.{AreWritten, IsRewritten}
use Rattle.fc_image.specs.safe.SafeEffect.{HasTree}
use Rattle.fc_tree.specs.Agree.{Agree}
use Rattle.fc_laws.specs.nodes.Edits.{OwnersEdited}
use Rattle.fc_laws.specs.agree.Agreed.{parts_with}
use Rattle.fc_edits.specs.Edit.{Amended, AreEdited, owners_joined, owners_left}
use Rattle.fc_edits.specs.Moving.{IsMoving, Moving, edit}
use Rattle.fc_edits.specs.NewPlaces.{GivesBack}
use Rattle.fc_outcomes.specs.Moving.{HasEntries, IsToMove}
use Rattle.fc_safelaws.specs.Relaid.{AreCopied, Reaches}
use Rattle.fc_safeedits.specs.Relocation.{is_moved}
use Rattle.fc_safeedits.specs.SafeChange.{IsWholeMap, KeepsRecord, MovedParts, SafeChange, TakesForChanged, moves_in, view_before}
use Rattle.fc_safeedits.specs.SafeOutcome.{SafeOutcome}

-- The object goes to another name or directory. The directories that it leaves and joins are in identifiers that move, and so is its own,
-- if it is one; so may be others, and each has its place there.
pub record RenamedParts (x : MovedParts) : Type 0 where
  pub c : Moving
  pub moving : IsMoving x.nodes (Layout.New x.m) x.listings c
  pub nodes_edited : AreEdited x.nodes x.nodes' (edit c)
  pub owners_edited : OwnersEdited x.owners x.owners' (owners_left (Layout.New x.m) (edit c)) (owners_joined (Layout.New x.m') (edit c))
  pub gives : GivesBack x.m x.takings x.gone x.listings (edit c)
  pub moves : (a : Amended) → Contains (edit c).amended a → is_moved (moves_in x) a.was.object ≡ true
  pub reaches : (o : Object) → Contains (objects_of x.listings) o → is_moved (moves_in x) o ≡ true → Reaches x.m' o

-- Those directories have their new bytes in their new sectors; what else is in an identifier that moves is copied.
pub record SafeMoving : Type 0 where
  pub x : SafeChange
  pub parts : RenamedParts x.parts
  pub from : Path
  pub to : Path
  pub record_stays : KeepsRecord x.parts
  pub its : IsToMove (view_before x.parts) from to parts.c
  pub entries : HasEntries from to parts.c
  pub says : (a : Amended) → Contains parts.c.dirs a
      → IsRewritten (Command.Rename from to) a.was.object.path (holder_address x.parts.listings a.was.object.path) a.was.content a.content
  pub own_says : (d : Listing × Directory) → Contains parts.c.own d → IsRewritten (Command.Rename from to) d.0.object.path parts.c.l.object.entry.address d.0.content d.1
  pub there : (a : Amended) → Contains (edit parts.c).amended a → AreWritten (object_bytes x.image' (Layout.New x.parts.m') (object_in (Layout.New x.parts.m') a.was.object)) a.content
  pub copied : (o : Object) → Contains (objects_of x.parts.listings) o → is_moved (moves_in x.parts) o ≡ true → ((a : Amended) → Contains (edit parts.c).amended a → a.was.object ≡ o → ⊥)
      → AreCopied x.parts.m.geometry.sector x.image x.image' o.sectors (object_in (Layout.New x.parts.m') o).sectors

pub record SafeMovingLaw : Type 0 where
  -- The parts after it agree.
  pub agrees : (x : MovedParts) → RenamedParts x → Agree x.kind (parts_with x.m' x.nodes' x.owners')
  -- If the copy of the map that counts is the new one, the image has the tree after the command,
  pub tree : (d : SafeMoving) → HasTree d.x.parts.kind (changed (tree_of d.x.image (Layout.New d.x.parts.m) d.x.parts.listings) (Command.Rename d.from d.to)) d.x.image'
  -- and if both are, the command has done what it promises.
  pub outcome : (d : SafeMoving) → TakesForChanged d.x.parts (Command.Rename d.from d.to) → IsWholeMap d.x
      → SafeOutcome d.x.parts.kind d.x.image d.x.image' (view_before d.x.parts) (Command.Rename d.from d.to) (parts_with d.x.parts.m' d.x.parts.nodes' d.x.parts.owners')
