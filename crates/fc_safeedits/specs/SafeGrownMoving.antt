-- `rename` without a copied file, into a directory that grows by it, in the safe mode: from what is written to what it promises.
use Rattle.std.specs.Prelude.{◌≡◌, ◌<◌, ◌≤◌, ℕ, true, false, List, ◌++◌, map, Some, Contains}
use Rattle.fc_names.specs.Names.{Path, is_same_path}
use Rattle.fc_newmap.specs.Map.{ZoneRun, is_used}
use Rattle.fc_model.specs.Answer.{changed}
use Rattle.fc_model.specs.Command.{Command}
use Rattle.fc_image.specs.Layout.{Layout}
use Rattle.fc_image.specs.Walk.{Object, object_bytes}
use Rattle.fc_image.specs.Objects.{objects_of, tree_of}
use Rattle.fc_image.specs.Moves.{object_in}
use Rattle.fc_image.specs.effects.Steady.{AreWritten, IsRewritten, holes_with, runs_that, zone_holes}
use Rattle.fc_image.specs.safe.SafeEffect.{HasTree}
use Rattle.fc_image.specs.safe.SafeShort.{changed_ids, fitted_needs, places_given_up}
use Rattle.fc_image.specs.safe.SafeSteady.{AreLeast, HaveRuns, holes_unneeded}
use Rattle.fc_plan.specs.Giving.{is_one_of}
use Rattle.fc_tree.specs.Agree.{Agree}
use Rattle.fc_laws.specs.nodes.Edits.{OwnersEdited, owners_with}
use Rattle.fc_laws.specs.agree.Agreed.{parts_with}
use Rattle.fc_edits.specs.Edit.{Amended, AreEdited, owners_joined, owners_left}
use Rattle.fc_edits.specs.Growing.{Growing, IsGrowing, at_place, regrown, up_of}
use Rattle.fc_edits.specs.GrownMoving.{grown_edit}
use Rattle.fc_edits.specs.Moving.{Moves, Moving, edit}
use Rattle.fc_edits.specs.NewPlaces.{GivesBack, Taking, ids_of, is_taken}
use Rattle.fc_outcomes.specs.GrownMoving.{IsToMoveGrown, parent_now}
use Rattle.fc_outcomes.specs.Moving.{HasEntries}
use Rattle.fc_safelaws.specs.Relaid.{AreCopied, Reaches}
use Rattle.fc_safeedits.specs.Relocation.{is_moved}
use Rattle.fc_safeedits.specs.SafeChange.{MovedParts, SafeChange, moves_in, view_before}
use Rattle.fc_safeedits.specs.SafeImage.{IsUnamended}
use Rattle.fc_safeedits.specs.SafeOutcome.{SafeOutcome}
use Rattle.fc_safeedits.specs.SafeGrowth.{IsGrownSafely, IsRecorded, IsWholeGrown, its_new_id}

-- The object goes to another name or directory, which grows by it. Every other directory that says something else is in an identifier that
-- moves; so may be others, and each has its place there.
pub record GrownRenamedParts (x : MovedParts) : Type 0 where
  pub c : Moving
  pub growing : Growing
  pub moving : Moves x.nodes x.listings c
  pub grows : IsGrowing x.nodes (Layout.New x.m) (edit c) growing
  pub nodes_edited : AreEdited x.nodes x.nodes' (grown_edit c growing)
  pub owners_edited : OwnersEdited x.owners x.owners' (owners_with (Layout.New x.m) (up_of growing.holder) growing.dir growing.o ++ owners_left (Layout.New x.m) (edit c))
      (owners_with (Layout.New x.m') (up_of growing.holder) growing.dir (at_place growing growing.o) ++ owners_joined (Layout.New x.m') (edit c))
  pub gives : GivesBack x.m x.takings x.gone x.listings (grown_edit c growing)
  pub some : 0 < growing.len
  pub lies_grown : IsGrownSafely x growing
  pub moves : (a : Amended) → Contains (grown_edit c growing).amended a → is_same_path growing.o.path a.was.object.path ≡ false → is_moved (moves_in x) a.was.object ≡ true
  pub reaches : (o : Object) → Contains (objects_of x.listings) o → is_same_path growing.o.path o.path ≡ false → is_moved (moves_in x) o ≡ true → Reaches x.m' o

-- Each directory that says something else has all its bytes in its new sectors, the grown one in those of its new place; what else is in an
-- identifier that moves is copied.
pub record SafeGrownMoving : Type 0 where
  pub x : SafeChange
  pub parts : GrownRenamedParts x.parts
  pub from : Path
  pub to : Path
  pub recorded : IsRecorded x parts.growing
  pub its : IsToMoveGrown (view_before x.parts) from to parts.c parts.growing
  pub entries : HasEntries from to parts.c
  pub says : (a : Amended) → Contains (grown_edit parts.c parts.growing).amended a
      → IsRewritten (Command.Rename from to) a.was.object.path (parent_now x.parts.listings parts.c parts.growing a.was.object.path) a.was.content a.content
  pub there : (a : Amended) → Contains (grown_edit parts.c parts.growing).amended a
      → AreWritten (object_bytes x.image' (Layout.New x.parts.m') (object_in (Layout.New x.parts.m') (regrown (edit parts.c) parts.growing a.was.object))) a.content
  pub copied : (o : Object) → Contains (objects_of x.parts.listings) o → is_moved (moves_in x.parts) o ≡ true → IsUnamended (grown_edit parts.c parts.growing) o
      → AreCopied x.parts.m.geometry.sector x.image x.image' o.sectors (object_in (Layout.New x.parts.m') o).sectors

-- The parts that are taken are those of the command's needs: for the identifiers that hold a changed directory, and for a directory that
-- leaves its identifier, in the least one that had no run. What goes back makes the holes that the command's own makes.
pub record TakesForGrowth (x : MovedParts) (c : Command) (g : Growing) : Type 0 where
  pub parts : List (List ZoneRun)
  pub fitted : fitted_needs x.m (view_before x) c ≡ Some parts
  pub takes : map (λ (t : Taking). t.parts) x.takings ≡ parts
  pub ids : ids_of x.takings ≡ changed_ids x.m (view_before x) c ++ its_new_id (view_before x) c g
  pub fresh : (k : ℕ) → is_taken x.takings k ≡ true → is_used x.m k ≡ false → 3 ≤ k
  pub needs_met : HaveRuns x.m' (changed_ids x.m (view_before x) c ++ its_new_id (view_before x) c g) parts
  pub least : AreLeast x.m (its_new_id (view_before x) c g)
  pub back : (z : ℕ) → z < x.m.geometry.zones
      → holes_with (zone_holes (holes_unneeded x.m parts) z) (zone_holes (runs_that (is_one_of x.gone) x.m) z)
      ≡ holes_with (zone_holes (holes_unneeded x.m parts) z) (zone_holes (places_given_up x.m (view_before x) c) z)

pub record SafeGrownMovingLaw : Type 0 where
  -- The parts after it agree.
  pub agrees : (x : MovedParts) → GrownRenamedParts x → Agree x.kind (parts_with x.m' x.nodes' x.owners')
  -- If the copy of the map that counts is the new one, the image has the tree after the command,
  pub tree : (d : SafeGrownMoving) → HasTree d.x.parts.kind (changed (tree_of d.x.image (Layout.New d.x.parts.m) d.x.parts.listings) (Command.Rename d.from d.to)) d.x.image'
  -- and if both are, the command has done what it promises.
  pub outcome : (d : SafeGrownMoving) → TakesForGrowth d.x.parts (Command.Rename d.from d.to) d.parts.growing → IsWholeGrown d.x d.parts.growing
      → SafeOutcome d.x.parts.kind d.x.image d.x.image' (view_before d.x.parts) (Command.Rename d.from d.to) (parts_with d.x.parts.m' d.x.parts.nodes' d.x.parts.owners')
