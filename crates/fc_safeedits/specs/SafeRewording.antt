-- `set` in the safe mode, from what is written to what it promises.
use Rattle.std.specs.Prelude.{◌≡◌, ℕ, true, List, Contains}
use Rattle.fc_names.specs.Names.{Path}
use Rattle.fc_model.specs.Answer.{changed}
use Rattle.fc_model.specs.Command.{Command}
use Rattle.fc_image.specs.Layout.{Layout}
use Rattle.fc_image.specs.Walk.{Object, object_bytes}
use Rattle.fc_image.specs.Objects.{objects_of, tree_of}
use Rattle.fc_image.specs.Moves.{object_in}
use Rattle.fc_image.specs.safe.SafeEffect.{HasTree}
use Rattle.fc_tree.specs.Agree.{Agree}
use Rattle.fc_laws.specs.agree.Agreed.{parts_with}
use Rattle.fc_edits.specs.Edit.{AreEdited}
use Rattle.fc_edits.specs.NewPlaces.{GivesBack}
use Rattle.fc_edits.specs.Rewording.{IsReworded, Rewording, edit}
use Rattle.fc_outcomes.specs.Rewording.{HasReworded}
use Rattle.fc_safelaws.specs.Relaid.{AreCopied, Reaches}
use Rattle.fc_safeedits.specs.Relocation.{is_moved}
use Rattle.fc_safeedits.specs.SafeChange.{IsWholeMap, KeepsRecord, MovedParts, SafeChange, TakesForChanged, moves_in, view_before}
use Rattle.fc_safeedits.specs.SafeOutcome.{SafeOutcome}

-- The object gets other words, and its directory is in an identifier that moves; so may be others, the object too, and each has its place
-- there.
pub record RewordedParts (x : MovedParts) : Type 0 where
  pub c : Rewording
  pub reworded : IsReworded x.nodes (Layout.New x.m) x.listings c
  pub nodes_edited : AreEdited x.nodes x.nodes' (edit c)
  pub owners_stay : x.owners' ≡ x.owners
  pub gives : GivesBack x.m x.takings x.gone x.listings (edit c)
  pub moves : is_moved (moves_in x) c.l.object ≡ true
  pub reaches : (o : Object) → Contains (objects_of x.listings) o → is_moved (moves_in x) o ≡ true → Reaches x.m' o

-- Its directory, with the new entry, has these bytes in its new sectors; what else is in an identifier that moves is copied.
pub record SafeRewording : Type 0 where
  pub x : SafeChange
  pub parts : RewordedParts x.parts
  pub command : Command
  pub path : Path
  pub bytes : List ℕ
  pub record_stays : KeepsRecord x.parts
  pub has_words : HasReworded command path (Layout.New x.parts.m) x.parts.listings parts.c bytes
  pub there : object_bytes x.image' (Layout.New x.parts.m') (object_in (Layout.New x.parts.m') parts.c.l.object) ≡ bytes
  pub copied : (o : Object) → Contains (objects_of x.parts.listings) o → is_moved (moves_in x.parts) o ≡ true → (parts.c.l.object ≡ o → ⊥)
      → AreCopied x.parts.m.geometry.sector x.image x.image' o.sectors (object_in (Layout.New x.parts.m') o).sectors

pub record SafeRewordingLaw : Type 0 where
  -- The parts after it agree.
  pub agrees : (x : MovedParts) → RewordedParts x → Agree x.kind (parts_with x.m' x.nodes' x.owners')
  -- If the copy of the map that counts is the new one, the image has the tree after the command,
  pub tree : (d : SafeRewording) → HasTree d.x.parts.kind (changed (tree_of d.x.image (Layout.New d.x.parts.m) d.x.parts.listings) d.command) d.x.image'
  -- and if both are, the command has done what it promises.
  pub outcome : (d : SafeRewording) → TakesForChanged d.x.parts d.command → IsWholeMap d.x
      → SafeOutcome d.x.parts.kind d.x.image d.x.image' (view_before d.x.parts) d.command (parts_with d.x.parts.m' d.x.parts.nodes' d.x.parts.owners')
