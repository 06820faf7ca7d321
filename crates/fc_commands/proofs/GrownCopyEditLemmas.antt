-- `rename` that copies its file into a directory that grows by it: what both directories are told, and that all others stay as they are.
use Rattle.fc_change.specs.Directories.{Rewriting, TellAll, numbers}
use Rattle.fc_change.specs.declared.change.Says.{Says}
use Rattle.fc_change.specs.declared.spaces.Place.{Place}
use Rattle.fc_changes.proofs.BasicLemmas.{clash}
use Rattle.fc_commands.proofs.CopyingFileLemmas.{IsCopiedFile}
use Rattle.fc_commands.proofs.GrownCopyWantLemmas.{IsCopySpot, SpottedRename, base, file}
use Rattle.fc_commands.proofs.GrownMoveReadyLemmas.{IsHomeTold, about_cut, above_free, home_told_of, own_cut, pieces_are, told, whole, whole_home}
use Rattle.fc_commands.proofs.GrownMoveReadyLemmas as ready_of
use Rattle.fc_commands.proofs.GrownMoveSaidLemmas.{FirstSays, entered_says, it, layout, listed, now, rewritten_own}
use Rattle.fc_commands.proofs.GrownMoveToldLemmas.{IsToldGrown, all_numbers, entry_now, home_told}
use Rattle.fc_commands.proofs.GrownMoveWantLemmas.{GrownRename}
use Rattle.fc_commands.proofs.GrownMoveWantLemmas as want
use Rattle.fc_commands.proofs.GrownPieceLemmas.{AllPieces, IsGrownReady}
use Rattle.fc_commands.proofs.MoveLemmas as seen_of
use Rattle.fc_commands.proofs.MoveTellLemmas.{own_told}
use Rattle.fc_dirs.specs.Directory.{Directory}
use Rattle.fc_dirs.specs.declared.Entry.{Entry}
use Rattle.fc_drafts.specs.Draft.{directory_in}
use Rattle.fc_drafts.specs.Entries.{renamed_entry}
use Rattle.fc_drafts.specs.Rewriting.{HasEntered}
use Rattle.fc_edits.specs.Copying.{Copying, copied, new_path}
use Rattle.fc_image.proofs.EntriesLemmas.{later as contains_later}
use Rattle.fc_image.proofs.PathsLemmas.{itself}
use Rattle.fc_image.specs.Layout.{Layout}
use Rattle.fc_image.specs.Walk.{Listing, Object, is_directory_object}
use Rattle.fc_names.specs.Names.{is_same_path}
use Rattle.fc_tree.proofs.MemberLemmas.{contains_here}
use Rattle.fc_tree.proofs.SoundLemmas.{same_object}
use Rattle.fc_tree.proofs.WalkedLemmas.{listed_directory}
use Rattle.fc_tree.specs.Nodes.{is_directory_node}
use Rattle.fc_writing.specs.declared.ready.Piece.{Piece}
use Rattle.std.proofs.Common.{Bool, List, Option, Some, [], ap, ap₂, cond, false, map, refl, subst, ℕ, ◌++◌, ◌==◌, ◌∙◌, ◌∷◌, ◌≡◌}
use Rattle.std.proofs.lemmas.Bool.{false_from_ne_true as unless, ne_eqb}
use Rattle.std.specs.Option.{option_map, unwrap_or}
use Rattle.std.specs.Prelude.{Contains}

module _ (w : SpottedRename) where
  abbrev q : GrownRename
  q = w.q

  abbrev pub lies_at : IsCopySpot w.q
  lies_at = w.spot

  abbrev pub its : IsCopiedFile w.q.m w.q.nodes w.q.listings w.q.from w.q.to w.q.r w.q.seen.known.target.object
  its = file w.q w.copied

  pub away : w.q.r.holder ≡ w.q.r.target.holder → ⊥
  away = its.away

  pub is_b : (w.q.r.holder == w.q.r.target.holder) ≡ false
  is_b = ne_eqb q.r.holder q.r.target.holder away

  abbrev pub tl : IsToldGrown w.q (entry_now w.q) false w.pr.change
  tl = told (base w) false is_b

  abbrev pub rd : IsGrownReady (Layout.New w.q.m) w.q.nodes (want.grown w.q).0 (told (base w) false is_b).said ((told (base w) false is_b).about ++ ((told (base w) false is_b).own ++ (told (base w) false is_b).home)) w.ready.made w.pr.ready
  rd = ready_of.ready (base w) false is_b

  abbrev pub there : Entry
  there = renamed_entry w.q.seen.known.target.object.entry w.q.name lies_at.place.address

  pub entry_at : entry_now w.q ≡ renamed_entry w.q.seen.known.target.object.entry w.q.name w.spot.place.address
  entry_at = ap (λ (o : Option Place). renamed_entry (it q).entry q.name (unwrap_or (option_map (λ (y : Place). y.address) o) (it q).entry.address)) lies_at.object

  abbrev pub content : Directory
  content = directory_in tl.said.draft

  pub entered : HasEntered (now w.q w.q.seen.known.destination.listing.object.path) (entry_now w.q) w.q.seen.known.destination.listing.content content
  entered = rewritten_own q (Rewriting.Enters (entry_now q)) tl.said tl.tells (λ n. refl)

  pub says : FirstSays w.q content
  says = entered_says q (entry_now q) refl away content entered

  -- a file isn't told anything
  node_file : is_directory_node w.q.nodes w.q.r.target.node ≡ false
  node_file = seen_of.node_kind (layout q) q.nodes q.listings q.from q.to q.r q.name q.seen ∙ its.file

  pub no_own : (told (base w) false is_b).own ≡ []
  no_own = none (told (base w) false is_b).own (subst (λ (d : Bool). TellAll (Some (want.grown q).0.directory) q.nodes (own_told d q.r q.name) (told (base w) false is_b).own) node_file (told (base w) false is_b).tell_own)
    where
      none : (ss : List Says) → TellAll (Some (want.grown w.q).0.directory) w.q.nodes [] ss → ss ≡ []
      none [] tell = refl
      none (s ∷ ss) tell = absurd tell

  pub no_own_piece : (own_cut (base w) false is_b).0 ≡ []
  no_own_piece = none (own_cut (base w) false is_b).0 (subst (λ (ss : List Says). AllPieces (Layout.New q.m) q.nodes ss (own_cut (base w) false is_b).0) no_own (own_cut (base w) false is_b).3)
    where
      none : (ps : List Piece) → AllPieces (Layout.New w.q.m) w.q.nodes [] ps → ps ≡ []
      none [] all = refl
      none (p ∷ ps) all = absurd all

  abbrev ns : List ℕ
  ns = all_numbers w.q.nodes w.q.r w.q.name false

  pub ns_are : all_numbers w.q.nodes w.q.r w.q.name false ≡ w.q.r.holder ∷ w.q.r.target.holder ∷ []
  ns_are = ap (λ (d : Bool). q.r.holder ∷ numbers (own_told d q.r q.name ++ home_told false q.r)) node_file

  abbrev pub home : IsHomeTold (base w) is_b
  home = home_told_of (base w) is_b

  -- ---- directories aren't at the path of a file

  pub dir_other : (d : Listing) → Contains w.q.listings d → is_same_path w.q.seen.known.target.object.path d.object.path ≡ false
  dir_other d listed = unless (is_same_path (it q).path d.object.path) (λ same.
      let there = listed_directory (layout q) q.listings q.seen.sound d listed in
      let one = same_object (layout q) q.listings q.seen.sound (it q).path (it q) d.object (seen_of.among (layout q) q.nodes q.listings q.from q.to q.r q.name q.seen) there.0 (itself (it q).path) same in
      clash (is_directory_object (it q)) (ap is_directory_object one ∙ there.1) its.file)

  pub stays_as : (c : Copying) → c.o ≡ w.q.seen.known.target.object → (o : Object) → is_same_path w.q.seen.known.target.object.path o.path ≡ false → copied c o ≡ o
  stays_as c same o other =
      ap (λ (d : Bool). cond d (record { path = new_path c; entry = record o.entry { name = c.name; address = c.address }; sectors = c.sectors }) o) (ap (λ (x : Object). is_same_path x.path o.path) same ∙ other)

  pub all_stay : (c : Copying) → c.o ≡ w.q.seen.known.target.object → (os : List Object) → ((o : Object) → Contains os o → is_same_path w.q.seen.known.target.object.path o.path ≡ false) → map (copied c) os ≡ os
  all_stay c same [] other = refl
  all_stay c same (o ∷ os) other = ap₂ (λ (x : Object) (xs : List Object). x ∷ xs) (stays_as c same o (other o (contains_here o os))) (all_stay c same os (λ x at. other x (contains_later o x os at)))
