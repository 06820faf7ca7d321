-- What a command in the safe mode has done on an image with a new map.
use Rattle.std.specs.Prelude.{◌≡◌, ◌<◌, ◌≤◌, ℕ, true, false, List, ◌++◌, map, Some, Contains, IsPermutation}
use Rattle.fc_names.specs.Names.{Path, is_same_path}
use Rattle.fc_record.specs.declared.Kind.{Kind}
use Rattle.fc_newmap.specs.Map.{ZoneRun, is_used, sector_of}
use Rattle.fc_newmap.specs.Copies.{HoldsCopies}
use Rattle.fc_dirs.specs.Directory.{entries_of}
use Rattle.fc_model.specs.Answer.{changed}
use Rattle.fc_model.specs.Command.{Command}
use Rattle.fc_model.specs.Tree.{Tree}
use Rattle.fc_image.specs.Layout.{Layout}
use Rattle.fc_image.specs.Walk.{Listing, Object, object_bytes}
use Rattle.fc_image.specs.Objects.{tree_of}
use Rattle.fc_image.specs.Report.{holder_address}
use Rattle.fc_image.specs.Opening.{Opened}
use Rattle.fc_image.specs.Sound.{AreSound}
use Rattle.fc_image.specs.TreeEdits.{IsMove, IsObjectEdit}
use Rattle.fc_image.specs.effects.Effect.{copies_file}
use Rattle.fc_image.specs.effects.Placed.{HasAddress, is_written_empty, made_object}
use Rattle.fc_image.specs.effects.Short.{object_units, slack_for}
use Rattle.fc_image.specs.effects.Steady.{AreWritten, IsRewritten, KeepsOrWritesLinks, NamedEntrySteady, NamedStays, NewDirectory, ZoneSteady, entries_after, expected_zone, holes_with, is_gone, may_be_rewritten, path_after, runs_that, zone_holes}
use Rattle.fc_image.specs.safe.SafeEffect.{HasTree, SafeChanges}
use Rattle.fc_image.specs.safe.SafeShort.{fitted_needs, is_changed_directory, places_given_up}
use Rattle.fc_image.specs.safe.SafeSteady.{AreLeast, HaveRuns, SafeGrown, SafeObjectPlaced, holes_unneeded, need_ids, new_id_list}
use Rattle.fc_plan.specs.Giving.{is_one_of}
use Rattle.fc_tree.specs.Parts.{ArePartsOf, Parts}
use Rattle.fc_laws.specs.agree.Agreed.{parts_with}
use Rattle.fc_edits.specs.Edit.{Amended, listings_after, objects}
use Rattle.fc_edits.specs.NewPlaces.{Taking, ids_of, is_taken}
use Rattle.fc_outcomes.specs.Steady.{AsksNothing}
use Rattle.fc_safeedits.specs.Relocation.{relocated, turned_in}
use Rattle.fc_safeedits.specs.SafeImage.{KeepsAllPaths, MovesAllPaths, SafeImage}

-- The command does what it promises in the safe mode, and the new image opens with these parts.
abbrev pub SafeOutcome : Kind → List ℕ → List ℕ → Opened → Command → Parts → Type 0
SafeOutcome kind image image' v c now = (after : Opened)
    × SafeChanges kind (record { image = image; view = v }) (record { image = image'; view = after }) c (changed (tree_of image v.layout v.listings) c)
    × ArePartsOf now after

-- the image as it opened before, and as it opens now
abbrev pub was : SafeImage → Opened
was y = record { kind = y.parts.kind; layout = Layout.New y.parts.move.m; listings = y.parts.move.listings }

abbrev pub is_now : SafeImage → List Listing → Opened
is_now y found = record { kind = y.parts.kind; layout = Layout.New y.parts.move.m'; listings = found }

-- ---- what the command asks of the edit

-- A directory that says something else is one that the command may rewrite, and says what the command makes of it, in all its bytes.
pub record IsAskedAnew (y : SafeImage) (c : Command) (found : List Listing) (a : Amended) : Type 0 where
  pub entries : entries_of a.content ≡ entries_after (was y) (is_now y found) c a.was
  pub may : may_be_rewritten (was y) c a.was.object.path ≡ true
  pub says : IsRewritten c a.was.object.path (holder_address found (turned_in y.parts.move a.was.object).path) a.was.content a.content
  pub bytes : AreWritten (object_bytes y.image' (Layout.New y.parts.move.m') (turned_in y.parts.move a.was.object)) a.content

-- What goes is deleted, each other directory is where the command puts it, and says what it asks; all that change are written anew.
pub record AreSafelyAsked (y : SafeImage) (c : Command) (found : List Listing) : Type 0 where
  pub out : (k : Listing) → Contains y.parts.move.edit.out k → is_gone c k.object.path ≡ true
  pub paths : (k : Listing) → Contains (map (λ (a : Amended). a.was) y.parts.move.edit.amended ++ y.parts.move.edit.same) k → is_same_path (path_after c k.object.path) (y.parts.move.edit.turn k.object).path ≡ true
  pub amended : (a : Amended) → Contains y.parts.move.edit.amended a → IsAskedAnew y c found a
  pub same : (k : Listing) → Contains y.parts.move.edit.same k → AsksNothing (was y) (is_now y found) c y.parts.move.edit k
  pub all : (k : Listing) → Contains y.parts.move.edit.same k → is_changed_directory (was y) c k.object ≡ false

-- The parts that are taken are those of the command's needs, for their identifiers; and what goes back makes the holes that its own makes.
pub record IsSafeSpaceAsked (y : SafeImage) (c : Command) (found : List Listing) : Type 0 where
  pub parts : List (List ZoneRun)
  pub fitted : fitted_needs y.parts.move.m (was y) c ≡ Some parts
  pub takes : map (λ (t : Taking). t.parts) y.parts.takings ≡ parts
  pub ids : ids_of y.parts.takings ≡ need_ids y.parts.move.m (was y) (is_now y found) c
  pub fresh : (k : ℕ) → is_taken y.parts.takings k ≡ true → is_used y.parts.move.m k ≡ false → 3 ≤ k
  pub needs_met : HaveRuns y.parts.move.m' (need_ids y.parts.move.m (was y) (is_now y found) c) parts
  pub least : AreLeast y.parts.move.m (new_id_list y.parts.move.m (was y) (is_now y found) c)
  pub object : SafeObjectPlaced y.parts.move.m y.parts.move.m' (object_units y.parts.move.m (was y) c) (slack_for (was y) c) (made_object (is_now y found) c)
  pub grown : SafeGrown (was y) (is_now y found) c
  pub back : (z : ℕ) → z < y.parts.move.m.geometry.zones
      → holes_with (zone_holes (holes_unneeded y.parts.move.m parts) z) (zone_holes (runs_that (is_one_of y.parts.gone) y.parts.move.m) z)
      ≡ holes_with (zone_holes (holes_unneeded y.parts.move.m parts) z) (zone_holes (places_given_up y.parts.move.m (was y) c) z)

pub record IsSafelyAsked (y : SafeImage) (c : Command) (found : List Listing) : Type 0 where
  pub directories : AreSafelyAsked y c found
  pub space : IsSafeSpaceAsked y c found
  pub named : NamedStays (was y) (is_now y found) c (copies_file (was y) c)
  pub entry : NamedEntrySteady (was y) (is_now y found) c
  pub made : NewDirectory y.image' (is_now y found) c
  pub empty : is_written_empty c ≡ true → HasAddress (made_object (is_now y found) c) 0
  pub zones : (z : ℕ) → z < y.parts.move.m.geometry.zones → ZoneSteady y.parts.move.m.geometry z (expected_zone (was y) (is_now y found) c y.parts.move.m z) (sector_of y.parts.move.m' z)

-- Both copies of the map are the new map, which is the old one but for its runs, FreeLink and the checks, and the root's place; and it is so
-- of each order in which the listings after the edit may be found.
pub record IsSafelyDone (y : SafeImage) (c : Command) : Type 0 where
  pub copies : HoldsCopies y.parts.move.m.geometry y.parts.move.m'.zones y.image'
  pub links : (z : ℕ) → z < y.parts.move.m.geometry.zones → KeepsOrWritesLinks y.parts.move.m y.parts.move.m' z
  pub asked : (found : List Listing) → AreSound (Layout.New y.parts.move.m') found → IsPermutation (listings_after (relocated y.parts.move)) found → IsSafelyAsked y c found

-- ---- the law

pub record SafeOutcomeLaw : Type 0 where
  -- The other image has the tree that these objects make, if no path changes, and if all at or below one moves.
  pub kept_tree : (y : SafeImage) (changing : List Object) (t : Tree) → KeepsAllPaths y.parts.move changing
      → ((found : List Listing)
      → IsObjectEdit y.image y.image' (Layout.New y.parts.move.m) (Layout.New y.parts.move.m') y.parts.move.listings found (changing ++ objects y.parts.move.edit.gone)
      (map (turned_in y.parts.move) changing ++ objects y.parts.move.edit.come)
      → tree_of y.image' (Layout.New y.parts.move.m') found ≡ t) → HasTree y.parts.kind t y.image'
  pub moved_tree : (y : SafeImage) (from to : Path) (t : Tree) → MovesAllPaths y.parts.move from to
      → ((found : List Listing) → IsMove y.image y.image' (Layout.New y.parts.move.m) (Layout.New y.parts.move.m') y.parts.move.listings found from to → tree_of y.image' (Layout.New y.parts.move.m') found ≡ t)
      → HasTree y.parts.kind t y.image'
  -- The command does what it promises.
  pub kept : (y : SafeImage) (c : Command) (changing : List Object) → KeepsAllPaths y.parts.move changing → IsSafelyDone y c
      → ((found : List Listing)
      → IsObjectEdit y.image y.image' (Layout.New y.parts.move.m) (Layout.New y.parts.move.m') y.parts.move.listings found (changing ++ objects y.parts.move.edit.gone)
      (map (turned_in y.parts.move) changing ++ objects y.parts.move.edit.come)
      → tree_of y.image' (Layout.New y.parts.move.m') found ≡ changed (tree_of y.image (Layout.New y.parts.move.m) y.parts.move.listings) c)
      → SafeOutcome y.parts.kind y.image y.image' (was y) c (parts_with y.parts.move.m' y.parts.move.nodes' y.parts.owners')
  pub moved : (y : SafeImage) (c : Command) (from to : Path) → MovesAllPaths y.parts.move from to → IsSafelyDone y c
      → ((found : List Listing) → IsMove y.image y.image' (Layout.New y.parts.move.m) (Layout.New y.parts.move.m') y.parts.move.listings found from to
      → tree_of y.image' (Layout.New y.parts.move.m') found ≡ changed (tree_of y.image (Layout.New y.parts.move.m) y.parts.move.listings) c)
      → SafeOutcome y.parts.kind y.image y.image' (was y) c (parts_with y.parts.move.m' y.parts.move.nodes' y.parts.owners')
