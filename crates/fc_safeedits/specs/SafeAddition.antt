-- `save`, `create` and `cdir` in the safe mode, without growth, from what is written to what they promise.
use Rattle.std.specs.Prelude.{◌≡◌, ◌<◌, ◌≤◌, ◌⊎◌, ℕ, true, false, List, ◌++◌, map, Some, None}
use Rattle.fc_names.specs.Names.{Path}
use Rattle.fc_newmap.specs.Map.{ZoneRun, is_used}
use Rattle.fc_model.specs.Answer.{changed}
use Rattle.fc_model.specs.Command.{Command}
use Rattle.fc_image.specs.Layout.{Layout}
use Rattle.fc_image.specs.Walk.{Listing, Object, object_bytes}
use Rattle.fc_image.specs.Objects.{tree_of}
use Rattle.fc_image.specs.Edits.{IsAt}
use Rattle.fc_image.specs.Moves.{object_in}
use Rattle.fc_image.specs.effects.Placed.{is_written_empty}
use Rattle.fc_image.specs.effects.Short.{growth_in, object_units, slack_for}
use Rattle.fc_image.specs.effects.Steady.{holes_with, runs_that, zone_holes}
use Rattle.fc_image.specs.safe.SafeEffect.{HasTree}
use Rattle.fc_image.specs.safe.SafeShort.{changed_ids, fitted_needs, places_given_up}
use Rattle.fc_image.specs.safe.SafeSteady.{AreLeast, HaveRuns, SafeObjectPlaced, holes_unneeded, own_id}
use Rattle.fc_plan.specs.Giving.{is_one_of}
use Rattle.fc_tree.specs.Agree.{Agree}
use Rattle.fc_laws.specs.nodes.Edits.{OwnersEdited, owners_with}
use Rattle.fc_laws.specs.agree.Agreed.{parts_with}
use Rattle.fc_edits.specs.Addition.{Addition, IsAddition, edit, owners_before}
use Rattle.fc_edits.specs.Edit.{AreEdited}
use Rattle.fc_edits.specs.NewPlaces.{GivesBack, LiesAgain, Taking, ids_of, is_taken}
use Rattle.fc_edits.specs.Places.{Stays}
use Rattle.fc_outcomes.specs.Addition.{IsItsDirectory, IsItsFile, Joins}
use Rattle.fc_safelaws.specs.Relaid.{AreCopied, Reaches}
use Rattle.fc_safeedits.specs.Relocation.{is_moved}
use Rattle.fc_safeedits.specs.SafeChange.{IsWholeMap, KeepsRecord, MovedParts, SafeChange, moves_in, view_before}
use Rattle.fc_safeedits.specs.SafeOutcome.{SafeOutcome}

-- The object comes, and its directory is in an identifier that moves; so may be others that stay, and each has its place there. The object
-- lies at its address, in none of these identifiers, and apart from what stays in its own.
pub record AddedParts (x : MovedParts) : Type 0 where
  pub c : Addition
  pub addition : IsAddition x.nodes (Layout.New x.m) x.listings c
  pub nodes_edited : AreEdited x.nodes x.nodes' (edit c)
  pub owners_edited : OwnersEdited x.owners x.owners' (owners_before (Layout.New x.m) c) (owners_with (Layout.New x.m') c.dir c.number c.o)
  pub gives : GivesBack x.m x.takings x.gone x.listings (edit c)
  pub moves : is_moved (moves_in x) c.l.object ≡ true
  pub elsewhere : is_moved (moves_in x) c.o ≡ false
  pub at : IsAt (Layout.New x.m') c.o
  pub lies : LiesAgain x.m x.nodes x.listings (edit c) c.o
  pub reaches : (o : Object) → Stays x.nodes x.listings (edit c) o → is_moved (moves_in x) o ≡ true → Reaches x.m' o

-- The object is the file that the command makes, or its new directory.
abbrev pub IsItsObject : Command → Path → Layout → Addition → List ℕ → Type 0
IsItsObject command path layout c stored = ((load exec : ℕ) × IsItsFile command path load exec c stored) ⊎ ((d : Listing) × IsItsDirectory path layout c d × (command ≡ Command.Cdir path))

-- Its directory, with the new entry, has these bytes in its new sectors, and the object has those that are stored; what else stays in an
-- identifier that moves is copied. No directory grows.
pub record SafeAddition : Type 0 where
  pub x : SafeChange
  pub parts : AddedParts x.parts
  pub command : Command
  pub path : Path
  pub bytes : List ℕ
  pub stored : List ℕ
  pub record_stays : KeepsRecord x.parts
  pub joins : Joins command path (Layout.New x.parts.m) x.parts.listings parts.c bytes stored
  pub is_its : IsItsObject command path (Layout.New x.parts.m) parts.c stored
  pub no_growth : growth_in (view_before x.parts) command ≡ None
  pub there : object_bytes x.image' (Layout.New x.parts.m') (object_in (Layout.New x.parts.m') parts.c.l.object) ≡ bytes
  pub stored_there : object_bytes x.image' (Layout.New x.parts.m') parts.c.o ≡ stored
  pub copied : (o : Object) → Stays x.parts.nodes x.parts.listings (edit parts.c) o → is_moved (moves_in x.parts) o ≡ true → (parts.c.l.object ≡ o → ⊥)
      → AreCopied x.parts.m.geometry.sector x.image x.image' o.sectors (object_in (Layout.New x.parts.m') o).sectors

-- The parts that are taken are those of the command's needs: for the object, if it has space of its own, in the least identifier that had no
-- run; and for the identifiers that hold a changed directory. What goes back makes the holes that the command's own makes.
pub record TakesForObject (x : MovedParts) (c : Command) (o : Object) : Type 0 where
  pub parts : List (List ZoneRun)
  pub fitted : fitted_needs x.m (view_before x) c ≡ Some parts
  pub takes : map (λ (t : Taking). t.parts) x.takings ≡ parts
  pub ids : ids_of x.takings ≡ own_id x.m (view_before x) c (Some o) ++ changed_ids x.m (view_before x) c
  pub fresh : (k : ℕ) → is_taken x.takings k ≡ true → is_used x.m k ≡ false → 3 ≤ k
  pub needs_met : HaveRuns x.m' (own_id x.m (view_before x) c (Some o) ++ changed_ids x.m (view_before x) c) parts
  pub least : AreLeast x.m (own_id x.m (view_before x) c (Some o))
  pub object : SafeObjectPlaced x.m x.m' (object_units x.m (view_before x) c) (slack_for (view_before x) c) (Some o)
  pub empty : is_written_empty c ≡ true → o.entry.address ≡ 0
  pub back : (z : ℕ) → z < x.m.geometry.zones
      → holes_with (zone_holes (holes_unneeded x.m parts) z) (zone_holes (runs_that (is_one_of x.gone) x.m) z)
      ≡ holes_with (zone_holes (holes_unneeded x.m parts) z) (zone_holes (places_given_up x.m (view_before x) c) z)

pub record SafeAdditionLaw : Type 0 where
  -- The parts after it agree.
  pub agrees : (x : MovedParts) → AddedParts x → Agree x.kind (parts_with x.m' x.nodes' x.owners')
  -- If the copy of the map that counts is the new one, the image has the tree after the command,
  pub tree : (d : SafeAddition) → HasTree d.x.parts.kind (changed (tree_of d.x.image (Layout.New d.x.parts.m) d.x.parts.listings) d.command) d.x.image'
  -- and if both are, the command has done what it promises.
  pub outcome : (d : SafeAddition) → TakesForObject d.x.parts d.command d.parts.c.o → IsWholeMap d.x
      → SafeOutcome d.x.parts.kind d.x.image d.x.image' (view_before d.x.parts) d.command (parts_with d.x.parts.m' d.x.parts.nodes' d.x.parts.owners')
