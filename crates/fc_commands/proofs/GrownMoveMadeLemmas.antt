-- `rename` by which a directory grows: all that is known of its edit, whether the object stays in its directory or not, and whether its file
-- is copied or not.
use Rattle.fc_change.specs.Drafts.{IsChangeOf}
use Rattle.fc_change.specs.Prepared.{IsNewPiece, IsReadyFor, IsSourceOf}
use Rattle.fc_change.specs.declared.change.Says.{Says}
use Rattle.fc_change.specs.declared.change.Turned.{Turned}
use Rattle.fc_change.specs.declared.change.Turned.TheVariants as turns
use Rattle.fc_change.specs.declared.job.Job.TheVariants as jobs
use Rattle.fc_change.specs.declared.spaces.Place.{Place}
use Rattle.fc_commands.proofs.GrownAroundLemmas.{IsCutAround}
use Rattle.fc_commands.proofs.GrownMoveEditLemmas.{AllSaidNow, KeepsBody, become}
use Rattle.fc_commands.proofs.GrownMoveReadyLemmas.{PlainRename}
use Rattle.fc_commands.proofs.GrownMoveSaidLemmas.{FirstSays, anew, now}
use Rattle.fc_commands.proofs.GrownMoveToldLemmas.{entry_now}
use Rattle.fc_commands.proofs.GrownMoveWalkLemmas as walk
use Rattle.fc_commands.proofs.GrownMoveWantLemmas.{GrownRename, IsPlacedRename}
use Rattle.fc_commands.proofs.GrownMoveWantLemmas as want
use Rattle.fc_commands.proofs.GrownPieceLemmas.{IsGrownReady}
use Rattle.fc_commands.proofs.GrownSpaceLemmas.{growing_of}
use Rattle.fc_commands.specs.declared.stages.Prepared.{Prepared}
use Rattle.fc_device.specs.declared.disk.Extent.{Extent}
use Rattle.fc_drafts.specs.Draft.{directory_in}
use Rattle.fc_edits.specs.Edit.{Amended, AreEdited, Edit, joining, leaving, objects, owners_joined, owners_left}
use Rattle.fc_edits.specs.Growing.{Holder, IsGrowing, Told, amended_by, grown as grown_with, grown_by, up_of}
use Rattle.fc_edits.specs.Moving.{Moves, Moving, edit, moved}
use Rattle.fc_edits.specs.NewNodes.{enter, entering, tell}
use Rattle.fc_image.specs.Layout.{Layout}
use Rattle.fc_image.specs.Walk.{Listing, Object}
use Rattle.fc_image.specs.effects.Steady.{holds_named, is_renamed_by}
use Rattle.fc_laws.specs.agree.Agreed.{parts_with}
use Rattle.fc_laws.specs.nodes.Edits.{Nodes, owners_with}
use Rattle.fc_model.specs.Command.{Command}
use Rattle.fc_model.specs.Tree.{holder as holder_path}
use Rattle.fc_names.specs.Names.{Path, is_same_path}
use Rattle.fc_newmap.specs.Map.{is_used}
use Rattle.fc_outcomes.specs.Moving.{HasEntries}
use Rattle.fc_plan.specs.Giving.{is_one_of}
use Rattle.fc_tree.specs.Nodes.{number_of}
use Rattle.fc_writing.specs.declared.ready.Source.TheVariants as sources
use Rattle.std.proofs.Common.{List, None, Option, Some, [], cond, false, map, subst, true, ℕ, ◌++◌, ◌==◌, ◌||◌, ◌∷◌, ◌≡◌, ◌⊎◌}
use Rattle.std.specs.Prelude.{Contains, IsPermutation, Vec}
use Rattle.std.specs.declared.alloc.Global.{Global}

-- the address of the directory that holds a path, afterwards: the grown one holds the object
abbrev pub up_in : (q : GrownRename) (o : Object) → Path → ℕ
up_in q o path = cond (is_same_path o.path path) (want.grown q).0.directory.address (now q path)

-- A rename, ready to be written, with the edit that it is beside the growth, and what the object becomes by it.
pub record EditedRename : Type 0 where
  pub q : GrownRename
  pub pr : Prepared
  pub change : IsChangeOf (parts_with q.m q.nodes q.owners) (jobs.Move q.r) q.name q.spaces pr.change
  pub ready : IsReadyFor (parts_with q.m q.nodes q.owners) pr.change q.spaces pr.ready
  pub e : Edit
  pub then : Object

-- It is placed so, and what goes back at last was used.
pub record IsPlacedEdit (w : EditedRename) : Type 0 where
  pub placed : IsPlacedRename w.q
  pub unused : (n : ℕ) → is_used w.q.m n ≡ false → is_one_of (want.back w.q placed) n ≡ false

-- The growth is a part of that edit. `tops`, `kids` and `left` are the directories around the grown one.
pub record MadeEdit (w : EditedRename) : Type 0 where
  pub said : Says
  pub others_said : List Says
  pub says : w.pr.change.says.items ≡ said ∷ others_said
  pub ready : IsGrownReady (Layout.New w.q.m) w.q.nodes (want.grown w.q).0 said others_said w.ready.made w.pr.ready
  pub said_node : said.node ≡ (want.grown w.q).0.directory.node
  pub says_own : FirstSays w.q (directory_in said.draft)
  pub grown : w.pr.change.grown ≡ Some (want.grown w.q).0.directory
  pub turned : w.pr.change.object ≡ turns.Turns w.q.r.target.node w.q.r.holder (entry_now w.q)
  pub none_made : w.ready.made ≡ []
  -- the object, and the directories by the edit
  pub entry : w.then.entry ≡ entry_now w.q
  pub keeps : (d : Listing) → Contains w.q.listings d → KeepsBody (w.e.turn d.object) d.object
  pub lefts : (layout : Layout) → owners_left layout w.e ≡ owners_with layout w.q.r.target.holder w.q.r.target.node w.q.seen.known.target.object
  pub joins : (layout : Layout) → owners_joined layout w.e ≡ owners_with layout w.q.r.holder w.q.r.target.node w.then
  -- the growth
  pub tops : List Listing
  pub kids : List Listing
  pub left : List Listing
  pub cut : IsCutAround w.q.listings w.q.seen.known.destination.listing tops kids left
  pub again : List Told
  pub same : List Listing
  pub holder : Option Holder
  pub others : List Amended
  pub order : List Amended
  pub above : number_of w.q.nodes (holder_path w.q.seen.known.destination.listing.object.path) ≡ Some (up_of holder)
  pub grows : IsGrowing w.q.nodes (Layout.New w.q.m) w.e (growing_of w.q.seen.known.destination.listing.object (want.grown w.q).0 again same holder others)
  pub all : AllSaidNow w.q (become w.q w.e) (up_in w.q w.q.seen.known.target.object) order (said ∷ others_said) (ready.own ∷ ready.pieces)
  pub among : (a : Amended) → Contains (amended_by w.e (growing_of w.q.seen.known.destination.listing.object (want.grown w.q).0 again same holder others) holder) a → Contains order a
  pub back : (a : Amended) → Contains order a → Contains (amended_by w.e (growing_of w.q.seen.known.destination.listing.object (want.grown w.q).0 again same holder others) holder) a
  pub order_is : IsPermutation (amended_by w.e (growing_of w.q.seen.known.destination.listing.object (want.grown w.q).0 again same holder others) holder) order
  pub retold : (ns : Nodes) → tell order ns ≡ tell (amended_by w.e (growing_of w.q.seen.known.destination.listing.object (want.grown w.q).0 again same holder others) holder) ns
  pub enters : entering (grown_by w.e (growing_of w.q.seen.known.destination.listing.object (want.grown w.q).0 again same holder others) holder)
      ≡ (up_of holder, ((want.grown w.q).0.directory.node, anew w.q)) ∷ ((want.grown w.q).0.directory.node, (w.q.r.target.node, w.then)) ∷ []
  pub leave : objects (leaving (grown_by w.e (growing_of w.q.seen.known.destination.listing.object (want.grown w.q).0 again same holder others) holder))
      ≡ w.q.seen.known.destination.listing.object ∷ w.q.seen.known.target.object ∷ []
  pub join : objects (joining (grown_by w.e (growing_of w.q.seen.known.destination.listing.object (want.grown w.q).0 again same holder others) holder)) ≡ anew w.q ∷ w.then ∷ []
  pub told_by : (t : Told) → Contains again t
      → Contains tops t.was ⊎ ((w.q.seen.known.destination.listing.object.entry.address == (want.grown w.q).0.directory.address) ≡ false) × Contains kids t.was
  pub kept_by : (d : Listing) → Contains same d → (((w.q.seen.known.destination.listing.object.entry.address == (want.grown w.q).0.directory.address) ≡ true) × Contains kids d) ⊎ Contains left d
  -- it is an edit
  pub found : IsPermutation w.q.listings (map (λ (a : Amended). a.was) (amended_by w.e (growing_of w.q.seen.known.destination.listing.object (want.grown w.q).0 again same holder others) holder) ++ same)
  pub nodes_edited : AreEdited w.q.nodes (tell (grown_with w.e (growing_of w.q.seen.known.destination.listing.object (want.grown w.q).0 again same holder others)).amended (enter (entering (grown_with w.e (growing_of w.q.seen.known.destination.listing.object (want.grown w.q).0 again same holder others))) w.q.nodes)) (grown_with w.e (growing_of w.q.seen.known.destination.listing.object (want.grown w.q).0 again same holder others))
  -- who may be rewritten: those around it for the growth, and else by name
  pub named : (a : Amended) → Contains order a
      → ((holds_named (Command.Rename w.q.from w.q.to) a.was.object.path || is_renamed_by (Command.Rename w.q.from w.q.to) a.was.object.path) ≡ true)
      ⊎ (Contains (tops ++ cond (w.q.seen.known.destination.listing.object.entry.address == (want.grown w.q).0.directory.address) [] kids) a.was)

-- ---- without a copy

abbrev pub moving_of : PlainRename → Moving → EditedRename
moving_of w c = record {
  q = w.q;
  pr = w.pr;
  change = w.change;
  ready = w.ready;
  e = edit c;
  then = moved c w.q.seen.known.target.object;
}

abbrev pub placed_move : (w : PlainRename) (c : Moving) → IsPlacedRename w.q → IsPlacedEdit (moving_of w c)
placed_move w c placed = record { placed = placed; unused = walk.back_unused w.q placed w.plain }

-- The object moves, and keeps its place.
pub record MadeMove (w : PlainRename) : Type 0 where
  pub c : Moving
  pub part : MadeEdit (moving_of w c)
  pub moves : Moves w.q.nodes w.q.listings c
  pub o_is : c.o ≡ w.q.seen.known.target.object
  pub name_is : c.name ≡ w.q.name
  pub l_is : c.l.object ≡ w.q.seen.known.destination.listing.object
  pub entries : HasEntries w.q.from w.q.to c

-- Nothing else is ready.
module _ (w : PlainRename) (turned : w.pr.change.object ≡ turns.Turns w.q.r.target.node w.q.r.holder (entry_now w.q)) where
  abbrev object_then : Turned
  object_then = turns.Turns w.q.r.target.node w.q.r.holder (entry_now w.q)

  pub none_made : w.ready.made ≡ []
  none_made =
      subst (λ (o : Option Place). IsNewPiece object_then o w.ready.made) (want.no_place w.q w.plain) (subst (λ (y : Turned). IsNewPiece y w.q.spaces.object w.ready.made) turned w.ready.makes)

  pub none_given : w.pr.ready.source ≡ sources.Nothing
  none_given =
      of_none w.q.spaces.copied
      (subst (λ (o : Option Place). IsSourceOf object_then o w.q.spaces.copied w.pr.ready.source) (want.no_place w.q w.plain)
      (subst (λ (y : Turned). IsSourceOf y w.q.spaces.object w.q.spaces.copied w.pr.ready.source) turned w.ready.source))
    where
      of_none : (from : Option (Vec Extent Global)) → IsSourceOf object_then None from w.pr.ready.source → w.pr.ready.source ≡ sources.Nothing
      of_none None is = is
      of_none (Some v) is = is
