-- `save`, `create` and `cdir` in a directory that grows, in the safe mode: from what is written to what they promise.
use Rattle.std.specs.Prelude.{◌≡◌, ◌<◌, ◌≤◌, ◌⊎◌, ℕ, true, false, List, [], ◌++◌, map, Some, None, Contains}
use Rattle.fc_names.specs.Names.{Path, is_same_path}
use Rattle.fc_newmap.specs.Map.{ZoneRun, is_used}
use Rattle.fc_model.specs.Answer.{changed}
use Rattle.fc_model.specs.Command.{Command}
use Rattle.fc_image.specs.Layout.{Layout, id_of}
use Rattle.fc_image.specs.Walk.{Listing, Object, object_bytes}
use Rattle.fc_image.specs.Objects.{object_at, tree_of}
use Rattle.fc_image.specs.Edits.{IsAt}
use Rattle.fc_image.specs.Moves.{object_in}
use Rattle.fc_image.specs.effects.Placed.{is_written_empty}
use Rattle.fc_image.specs.effects.Short.{object_units, slack_for}
use Rattle.fc_image.specs.effects.Steady.{AreWritten, IsRewritten, holes_with, runs_that, zone_holes}
use Rattle.fc_image.specs.safe.SafeEffect.{HasTree}
use Rattle.fc_image.specs.safe.SafeShort.{changed_ids, fitted_needs, places_given_up}
use Rattle.fc_image.specs.safe.SafeSteady.{AreLeast, HaveRuns, SafeObjectPlaced, holes_unneeded, own_id}
use Rattle.fc_plan.specs.Giving.{is_one_of}
use Rattle.fc_tree.specs.Agree.{Agree}
use Rattle.fc_laws.specs.nodes.Edits.{OwnersEdited, owners_with}
use Rattle.fc_laws.specs.agree.Agreed.{parts_with}
use Rattle.fc_edits.specs.Addition.{Addition, Comes, edit}
use Rattle.fc_edits.specs.Edit.{Amended, AreEdited}
use Rattle.fc_edits.specs.Growing.{Growing, IsGrowing, at_place, regrown, up_of}
use Rattle.fc_edits.specs.GrownAddition.{grown_edit}
use Rattle.fc_edits.specs.NewPlaces.{GivesBack, LiesAgain, Taking, ids_of, is_taken}
use Rattle.fc_edits.specs.Places.{Stays}
use Rattle.fc_outcomes.specs.Addition.{HasEntry, IsItsFile}
use Rattle.fc_outcomes.specs.GrownAddition.{IsItsGrownDirectory}
use Rattle.fc_outcomes.specs.Growth.{Grows, holder_now}
use Rattle.fc_safelaws.specs.Relaid.{AreCopied, Reaches}
use Rattle.fc_safeedits.specs.Relocation.{is_moved}
use Rattle.fc_safeedits.specs.SafeChange.{MovedParts, SafeChange, moves_in, view_before}
use Rattle.fc_safeedits.specs.SafeImage.{IsUnamended}
use Rattle.fc_safeedits.specs.SafeOutcome.{SafeOutcome}
use Rattle.fc_safeedits.specs.SafeGrowth.{IsGrownSafely, IsRecorded, IsWholeGrown, its_new_id}

-- The object comes, and its directory grows by it. Every other directory that says something else is in an identifier that moves; so may be
-- others that stay, and each has its place there. The object lies at its address, in none of these identifiers, and apart from what stays in
-- its own, which isn't the grown directory's.
pub record GrownAddedParts (x : MovedParts) : Type 0 where
  pub c : Addition
  pub growing : Growing
  pub comes : Comes x.nodes (Layout.New x.m) x.listings c
  pub new : c.over ≡ []
  pub its : growing.o ≡ c.l.object
  pub grows : IsGrowing x.nodes (Layout.New x.m) (edit c) growing
  pub nodes_edited : AreEdited x.nodes x.nodes' (grown_edit c growing)
  pub owners_edited : OwnersEdited x.owners x.owners' (owners_with (Layout.New x.m) (up_of growing.holder) growing.dir growing.o)
      (owners_with (Layout.New x.m') (up_of growing.holder) growing.dir (at_place growing growing.o) ++ owners_with (Layout.New x.m') c.dir c.number c.o)
  pub gives : GivesBack x.m x.takings x.gone x.listings (grown_edit c growing)
  pub some : 0 < growing.len
  pub lies_grown : IsGrownSafely x growing
  pub moves : (a : Amended) → Contains (grown_edit c growing).amended a → is_same_path growing.o.path a.was.object.path ≡ false → is_moved (moves_in x) a.was.object ≡ true
  pub elsewhere : is_moved (moves_in x) c.o ≡ false
  pub at : IsAt (Layout.New x.m') c.o
  pub lies : LiesAgain x.m x.nodes x.listings (edit c) c.o
  pub other : id_of c.o.entry.address ≡ id_of growing.address → ⊥
  pub reaches : (o : Object) → Stays x.nodes x.listings (grown_edit c growing) o → is_moved (moves_in x) o ≡ true → Reaches x.m' o

-- The object is the file that the command makes, or its new directory, which says the new address of the grown one.
abbrev pub IsItsGrownObject : Command → Path → Layout → Addition → Growing → List ℕ → Type 0
IsItsGrownObject command path layout c g stored =
    ((load exec : ℕ) × IsItsFile command path load exec c stored) ⊎ ((d : Listing) × IsItsGrownDirectory path layout c g d × (command ≡ Command.Cdir path))

-- Each directory that says something else has all its bytes in its new sectors, the grown one in those of its new place, and the object has
-- those that are stored; what else stays in an identifier that moves is copied.
pub record SafeGrownAddition : Type 0 where
  pub x : SafeChange
  pub parts : GrownAddedParts x.parts
  pub command : Command
  pub path : Path
  pub stored : List ℕ
  pub recorded : IsRecorded x parts.growing
  pub grows : Grows (view_before x.parts) command parts.growing
  pub path_is : is_same_path path parts.c.o.path ≡ true
  pub stood : object_at x.parts.listings path ≡ None
  pub entry : HasEntry None path parts.c
  pub is_its : IsItsGrownObject command path (Layout.New x.parts.m) parts.c parts.growing stored
  pub says : (a : Amended) → Contains (grown_edit parts.c parts.growing).amended a
      → IsRewritten command a.was.object.path (holder_now x.parts.listings parts.growing a.was.object.path) a.was.content a.content
  pub own : (d : Listing) → Contains parts.c.into d → AreWritten stored d.content
  pub there : (a : Amended) → Contains (grown_edit parts.c parts.growing).amended a
      → AreWritten (object_bytes x.image' (Layout.New x.parts.m') (object_in (Layout.New x.parts.m') (regrown (edit parts.c) parts.growing a.was.object))) a.content
  pub stored_there : object_bytes x.image' (Layout.New x.parts.m') parts.c.o ≡ stored
  pub copied : (o : Object) → Stays x.parts.nodes x.parts.listings (grown_edit parts.c parts.growing) o → is_moved (moves_in x.parts) o ≡ true
      → IsUnamended (grown_edit parts.c parts.growing) o → AreCopied x.parts.m.geometry.sector x.image x.image' o.sectors (object_in (Layout.New x.parts.m') o).sectors

-- The parts that are taken are those of the command's needs: for the object, if it has space of its own, and for a directory that leaves its
-- identifier, in the least ones that had no run; and for the identifiers that hold a changed directory. What goes back makes the holes that
-- the command's own makes.
pub record TakesForGrown (x : MovedParts) (c : Command) (o : Object) (g : Growing) : Type 0 where
  pub parts : List (List ZoneRun)
  pub fitted : fitted_needs x.m (view_before x) c ≡ Some parts
  pub takes : map (λ (t : Taking). t.parts) x.takings ≡ parts
  pub ids : ids_of x.takings ≡ own_id x.m (view_before x) c (Some o) ++ changed_ids x.m (view_before x) c ++ its_new_id (view_before x) c g
  pub fresh : (k : ℕ) → is_taken x.takings k ≡ true → is_used x.m k ≡ false → 3 ≤ k
  pub needs_met : HaveRuns x.m' (own_id x.m (view_before x) c (Some o) ++ changed_ids x.m (view_before x) c ++ its_new_id (view_before x) c g) parts
  pub least : AreLeast x.m (own_id x.m (view_before x) c (Some o) ++ its_new_id (view_before x) c g)
  pub object : SafeObjectPlaced x.m x.m' (object_units x.m (view_before x) c) (slack_for (view_before x) c) (Some o)
  pub empty : is_written_empty c ≡ true → o.entry.address ≡ 0
  pub back : (z : ℕ) → z < x.m.geometry.zones
      → holes_with (zone_holes (holes_unneeded x.m parts) z) (zone_holes (runs_that (is_one_of x.gone) x.m) z)
      ≡ holes_with (zone_holes (holes_unneeded x.m parts) z) (zone_holes (places_given_up x.m (view_before x) c) z)

pub record SafeGrownAdditionLaw : Type 0 where
  -- The parts after it agree.
  pub agrees : (x : MovedParts) → GrownAddedParts x → Agree x.kind (parts_with x.m' x.nodes' x.owners')
  -- If the copy of the map that counts is the new one, the image has the tree after the command,
  pub tree : (d : SafeGrownAddition) → HasTree d.x.parts.kind (changed (tree_of d.x.image (Layout.New d.x.parts.m) d.x.parts.listings) d.command) d.x.image'
  -- and if both are, the command has done what it promises.
  pub outcome : (d : SafeGrownAddition) → TakesForGrown d.x.parts d.command d.parts.c.o d.parts.growing → IsWholeGrown d.x d.parts.growing
      → SafeOutcome d.x.parts.kind d.x.image d.x.image' (view_before d.x.parts) d.command (parts_with d.x.parts.m' d.x.parts.nodes' d.x.parts.owners')
