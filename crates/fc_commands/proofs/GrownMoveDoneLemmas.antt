-- `rename` by which a directory grows: what is written of it, and, without a copy, that the command has done then what it promises.
use Rattle.fc_outcomes.specs.Growth.{Grows}
use Rattle.fc_alloc.specs.declared.owner.Owner.{Owner}
use Rattle.fc_change.specs.After.{AreOwnersAfter, nodes_after, owners_admitted}
use Rattle.fc_change.specs.GrownSpace.{root_of}
use Rattle.fc_change.specs.declared.change.Says.{Says}
use Rattle.fc_changes.specs.Owed.{IsBefore}
use Rattle.fc_commands.proofs.GrownMapLemmas.{map_grows}
use Rattle.fc_commands.proofs.GrownMoveEditLemmas.{IsSaidNow, KeepsBody, back_now, become, said_now}
use Rattle.fc_commands.proofs.GrownMoveGrowsLemmas.{big, its_grows, step_of}
use Rattle.fc_commands.proofs.GrownMoveMadeLemmas.{EditedRename, IsPlacedEdit, MadeEdit, MadeMove, moving_of, none_given, placed_move, up_in}
use Rattle.fc_commands.proofs.GrownMoveNodeLemmas.{growing_in}
use Rattle.fc_commands.proofs.GrownMoveReadyLemmas.{PlainRename}
use Rattle.fc_commands.proofs.GrownMoveRunLemmas.{grown_at, mv, stepped}
use Rattle.fc_commands.proofs.GrownMoveSaidLemmas.{anew, it, l, layout, listed}
use Rattle.fc_commands.proofs.GrownMoveWalkLemmas as walk
use Rattle.fc_commands.proofs.GrownMoveWantLemmas.{GrownRename, IsPlacedRename}
use Rattle.fc_commands.proofs.GrownMoveWantLemmas as want
use Rattle.fc_commands.proofs.GrownPieceLemmas.{piece_put, put_back}
use Rattle.fc_commands.proofs.GrownRootLemmas.{version_by}
use Rattle.fc_commands.proofs.MoveEditLemmas.{lies_there}
use Rattle.fc_commands.proofs.NodeLemmas.{each_at}
use Rattle.fc_commands.proofs.PutLemmas.{AreLong, CopiesNone, put_of, put_out, puts_of, source_puts}
use Rattle.fc_dirs.specs.Directory.{directory_size}
use Rattle.fc_edits.specs.Edit.{Amended}
use Rattle.fc_edits.specs.Growing.{grown as grown_with, regrown}
use Rattle.fc_edits.specs.GrownMoving.{NewGrownMoving}
use Rattle.fc_edits.specs.Moving.{edit}
use Rattle.fc_image.specs.Layout.{Layout, dir_form}
use Rattle.fc_image.specs.Opening.{Opened}
use Rattle.fc_image.specs.Stays.{IsNewKind, OpensAs}
use Rattle.fc_image.specs.Walk.{Listing, Object, is_directory_object, object_size}
use Rattle.fc_image.specs.effects.Short.{is_copied as is_copied_in}
use Rattle.fc_image.specs.effects.Steady.{IsRewritten}
use Rattle.fc_laws.proofs.lemmas.takeover.KindLemmas.{new_kind}
use Rattle.fc_laws.proofs.lemmas.takeover.WriteLemmas.{written_bytes_law}
use Rattle.fc_laws.specs.agree.Agreed.{parts_with}
use Rattle.fc_model.specs.Command.{Command}
use Rattle.fc_names.specs.Names.{is_directory, is_same_path}
use Rattle.fc_names.specs.declared.name.NameForm.{NameForm}
use Rattle.fc_names.specs.declared.name.NameForm.TheVariants as forms
use Rattle.fc_newmap.specs.Map.{Map}
use Rattle.fc_objects.specs.Extents.{sectors_in}
use Rattle.fc_outcomes.proofs.lemmas.GrownMovingLemmas.{grown_moving_law as outcome_law}
use Rattle.fc_outcomes.specs.GrownMoving.{IsToMoveGrown, NewGrownMovingWritten}
use Rattle.fc_outcomes.specs.Growth.{MapGrows}
use Rattle.fc_outcomes.specs.NewImage.{Outcome}
use Rattle.fc_outcomes.specs.Puts.{IsDirectoryPut, Put}
use Rattle.fc_record.specs.declared.DiscRecord.{DiscRecord}
use Rattle.fc_record.specs.declared.Geometry.{Geometry}
use Rattle.fc_tree.proofs.MemberLemmas.{no_element}
use Rattle.fc_tree.proofs.WalkedLemmas.{listed_directory}
use Rattle.fc_writing.specs.New.{IsChanged, IsGiven}
use Rattle.fc_writing.specs.Ready.{place_of}
use Rattle.fc_writing.specs.declared.ready.Piece.{Piece}
use Rattle.fc_writing.specs.declared.ready.Source.{Source}
use Rattle.fc_writing.specs.declared.ready.Source.TheVariants as sources
use Rattle.std.proofs.Common.{Bool, List, Some, [], ap, ap₂, cond, false, inl, inr, length, refl, subst, sym, true, ℕ, ⊎_elim, ◌*◌, ◌++◌, ◌==◌, ◌∙◌, ◌∷◌, ◌≡◌, ◌≤◌, ◌⊎◌}
use Rattle.std.proofs.lemmas.List.Elements.{Contains-append_cases, Contains-append_right}
use Rattle.std.specs.Prelude.{Contains}

-- ---- what the edit asks

module _ (w : EditedRename) (md : MadeEdit w) where
  pub says_all : (a : Amended) → Contains (grown_with w.e (growing_in w md)).amended a
      → IsRewritten (Command.Rename w.q.from w.q.to) a.was.object.path (up_in w.q (it w.q) a.was.object.path) a.was.content a.content
  says_all a at = (said_now w.q (become w.q w.e) (up_in w.q (it w.q)) md.order (md.said ∷ md.others_said) (md.ready.own ∷ md.ready.pieces) md.all a (md.among a at)).3.says

  pub found_all : (a : Amended) → Contains (grown_with w.e (growing_in w md)).amended a → Contains w.q.listings a.was
  found_all a at = (said_now w.q (become w.q w.e) (up_in w.q (it w.q)) md.order (md.said ∷ md.others_said) (md.ready.own ∷ md.ready.pieces) md.all a (md.among a at)).3.found

-- Without a copy it asks for a move, if the directory grows by it.
pub asks_move : (w : PlainRename) (md : MadeMove w) → Grows (record { kind = w.q.kind; layout = Layout.New w.q.m; listings = w.q.listings }) (Command.Rename w.q.from w.q.to) (growing_in (moving_of w md.c) md.part)
    → is_copied_in (record { kind = w.q.kind; layout = Layout.New w.q.m; listings = w.q.listings }) w.q.from w.q.to w.q.seen.known.target.object ≡ false
    → IsToMoveGrown (record { kind = w.q.kind; layout = Layout.New w.q.m; listings = w.q.listings }) w.q.from w.q.to md.c (growing_in (moving_of w md.c) md.part)
asks_move w md grows not_copied = record {
  from_is = ap (λ (p : Object). is_same_path w.q.from p.path) md.o_is ∙ w.q.seen.known.target.path_is;
  to_is = ap₂ (λ (o : Object) (n : List ℕ). is_same_path w.q.to (o.path ++ n ∷ [])) md.l_is md.name_is
      ∙ ap (λ (n : List ℕ). is_same_path w.q.to ((l w.q).object.path ++ n ∷ [])) w.q.seen.name_is ∙ lies_there w.q.to (l w.q).object.path w.q.seen.known.destination.no_root w.q.seen.known.destination.above;
  name_is = sym w.q.seen.name_is ∙ sym md.name_is;
  not_copied = ap (is_copied_in (record { kind = w.q.kind; layout = Layout.New w.q.m; listings = w.q.listings }) w.q.from w.q.to) md.o_is ∙ not_copied;
  grows = grows;
  into_it = md.l_is;
}

-- ---- what is written

module _ (w : EditedRename) (pl : IsPlacedEdit w) (md : MadeEdit w) (m' : Map) (given : IsGiven w.q.m w.pr.ready m') (bytes : List ℕ) where
  abbrev q : GrownRename
  q = w.q

  abbrev cmd : Command
  cmd = Command.Rename q.from q.to

  abbrev then : Object → Object
  then = become q w.e

  abbrev puts : List Put
  puts = puts_of w.pr.ready bytes

  pub same_sector : m'.geometry.sector ≡ w.q.m.geometry.sector
  same_sector = ap (λ (g : Geometry). g.sector) (stepped w pl m' given).geometry

  pub same_form : dir_form (Layout.New m') ≡ dir_form (Layout.New w.q.m)
  same_form = ap (λ (g : Geometry). let f : NameForm = cond (g.version == 0) forms.Ten forms.Long in f) (stepped w pl m' given).geometry

  -- ---- the puts

  -- each piece is of a directory that is told something
  told_piece : (p : Piece) → Contains (w.ready.made ++ md.ready.own ∷ md.ready.pieces) p → (a : Amended) × Contains md.order a × (s : Says) × IsSaidNow w.q (become w.q w.e) (up_in w.q (it w.q)) a s p
  told_piece p there =
      ⊎_elim (λ new_one. absurd (no_element p (subst (λ (ps : List Piece). Contains ps p) md.none_made new_one)))
      (λ told. back_now q then (up_in q (it q)) md.order (md.said ∷ md.others_said) (md.ready.own ∷ md.ready.pieces) md.all p told)
      (Contains-append_cases w.ready.made (md.ready.own ∷ md.ready.pieces) p there)

  -- and each put is such a piece, or of a source
  pub put_of_told : (x : Put) → Contains (puts_of w.pr.ready bytes) x → Contains (source_puts w.pr.ready.source bytes) x
      ⊎ ((p : Piece) × (put_of p ≡ x) × (a : Amended) × Contains md.order a × (s : Says) × IsSaidNow w.q (become w.q w.e) (up_in w.q (it w.q)) a s p)
  put_of_told x there =
      ⊎_elim (λ own. inl own) (λ piece. inr (let t = told_piece piece.0 piece.1 in (piece.0, piece.2, t.0, t.1, t.2, t.3)))
      (put_back (layout q) q.nodes (want.grown q).0 md.said md.others_said w.ready.made w.pr.ready md.ready bytes x there)

  -- ---- their places are long enough

  -- The same for any directory of the walk, at its place then.
  room_of_dir : (d : Listing) → Contains q.listings d → object_size (dir_form (Layout.New w.q.m)) (become w.q w.e d.object).entry ≤ length (become w.q w.e d.object).sectors * w.q.m.geometry.sector
  room_of_dir d there = by (is_same_path (l q).object.path d.object.path)
    where
      body : KeepsBody (w.e.turn d.object) d.object
      body = md.keeps d there

      plain_room : object_size (dir_form (layout q)) (w.e.turn d.object).entry ≤ length (w.e.turn d.object).sectors * q.m.geometry.sector
      plain_room =
          subst (λ (ss : List ℕ). object_size (dir_form (layout q)) (w.e.turn d.object).entry ≤ length ss * q.m.geometry.sector) (sym body.sectors)
          (subst (λ (n : ℕ). n ≤ length d.object.sectors * q.m.geometry.sector)
          (sym (ap₂ (λ (len attrs : ℕ). cond (is_directory attrs) (directory_size (dir_form (layout q)) len) len) body.len body.attrs))
          (written_bytes_law.room q.m d.object q.agreed.is_map (each_at (layout q) q.listings q.seen.sound d.object (listed_directory (layout q) q.listings q.seen.sound d there).0)))

      big_size : (o : Object) → is_directory_object o ≡ true → (a : ℕ) → object_size (dir_form (layout q)) (record o.entry { address = a; len = (want.grown q).0.directory.len }) ≡ (want.grown q).0.directory.len
      big_size o dir a = ap₂ (λ (b : Bool) (f : NameForm). cond b (directory_size f (want.grown q).0.directory.len) (want.grown q).0.directory.len) dir (walk.form q)

      grown_room : object_size (dir_form (layout q)) (record (w.e.turn d.object).entry { address = (want.grown q).0.directory.address; len = (want.grown q).0.directory.len })
          ≤ length (sectors_in (want.grown q).0.extents.items) * q.m.geometry.sector
      grown_room =
          subst (λ (n : ℕ). n ≤ length (sectors_in (want.grown q).0.extents.items) * q.m.geometry.sector)
          (ap (λ (f : NameForm). object_size f (anew q).entry) same_form
          ∙ big_size (l q).object (listed_directory (layout q) q.listings q.seen.sound (l q) (listed q)).1 (want.grown q).0.directory.address
          ∙ sym (big_size (w.e.turn d.object) (ap is_directory body.attrs ∙ (listed_directory (layout q) q.listings q.seen.sound d there).1) (want.grown q).0.directory.address))
          (subst (λ (n : ℕ). object_size (dir_form (Layout.New m')) (anew q).entry ≤ length (sectors_in (want.grown q).0.extents.items) * n) same_sector
          (written_bytes_law.room m' (anew q) (stepped w pl m' given).edited.is_map (grown_at w pl m' given)))

      by : (b : Bool) → (let y : Object = cond b (record (w.e.turn d.object) { entry = record (w.e.turn d.object).entry { address = (want.grown q).0.directory.address; len = (want.grown q).0.directory.len }; sectors = sectors_in (want.grown q).0.extents.items }) (w.e.turn d.object) in
          object_size (dir_form (layout q)) y.entry ≤ length y.sectors * q.m.geometry.sector)
      by true = grown_room
      by false = plain_room

  pub long_told : (x : Put) (p : Piece) → put_of p ≡ x → (a : Amended) (s : Says) → IsSaidNow w.q (become w.q w.e) (up_in w.q (it w.q)) a s p → length x.bytes ≤ length x.sectors * w.q.m.geometry.sector
  long_told x p is a s told =
      subst (λ (y : Put). length y.bytes ≤ length y.sectors * q.m.geometry.sector) is
      (subst (λ (n : ℕ). n ≤ length (place_of p) * q.m.geometry.sector) (sym told.long)
      (subst (λ (ss : List ℕ). object_size (dir_form (layout q)) (then a.was.object).entry ≤ length ss * q.m.geometry.sector) (sym told.place) (room_of_dir a.was told.found)))

  pub written_all : (a : Amended) → Contains (grown_with w.e (growing_in w md)).amended a → IsDirectoryPut (Layout.New m') (regrown w.e (growing_in w md) a.was.object) a.content (puts_of w.pr.ready bytes)
  written_all a at =
      let f = said_now q then (up_in q (it q)) md.order (md.said ∷ md.others_said) (md.ready.own ∷ md.ready.pieces) md.all a (md.among a at) in
      record {
        bytes = f.1.bytes.items;
        among = subst (λ (ss : List ℕ). Contains puts (record { sectors = ss; bytes = f.1.bytes.items })) f.3.place
            (piece_put (layout q) q.nodes (want.grown q).0 md.said md.others_said w.ready.made w.pr.ready md.ready bytes f.1 (Contains-append_right w.ready.made (md.ready.own ∷ md.ready.pieces) f.1 f.2));
        says = f.3.bytes;
        long = f.3.long ∙ ap (λ (n : NameForm). object_size n (then a.was.object).entry) (sym same_form);
      }

  pub whose_told : (x : Put) (p : Piece) → put_of p ≡ x → (a : Amended) → Contains md.order a → (s : Says) → IsSaidNow w.q (become w.q w.e) (up_in w.q (it w.q)) a s p
      → (c : Amended) × Contains (grown_with w.e (growing_in w md)).amended c × (x.sectors ≡ (regrown w.e (growing_in w md) c.was.object).sectors)
  whose_told x p is a there s told = (a, md.back a there, ap (λ (y : Put). y.sectors) (sym is) ∙ told.place)

  -- ---- the map

  module _ (was image : List ℕ) (opens : OpensAs was w.q.kind (record { kind = w.q.kind; layout = Layout.New w.q.m; listings = w.q.listings })) (changed : IsChanged w.q.m m' w.pr.ready bytes was image) where
    abbrev view : Opened
    view = record { kind = w.q.kind; layout = Layout.New w.q.m; listings = w.q.listings }

    pub kind_is : (r : DiscRecord) × IsNewKind w.q.kind r
    kind_is = new_kind was w.q.kind view w.q.m opens refl

    before : IsBefore w.q.kind kind_is.0 was view w.q.m
    before = record { new_kind = kind_is.1; opens = opens; layout = refl; is_map = q.agreed.is_map }

    pub map_now : MapGrows w.q.m m' (growing_in w md) kind_is.0 image
    map_now = map_grows q.m m' (growing_in w md) (root_of (Some (want.grown q).0)) q.kind kind_is.0 was image view before (stepped w pl m' given).edited
        (step_of q pl.placed (big w md) (version_by q.kind kind_is.0 was view q.m before (walk.form q)) (growing_in w md) refl refl refl) changed.copies

-- ---- without a copy

module _ (w : PlainRename) (placed : IsPlacedRename w.q) (md : MadeMove w) (m' : Map) (given : IsGiven w.q.m w.pr.ready m') (bytes : List ℕ) where
  abbrev e : EditedRename
  e = moving_of w md.c

  abbrev pl : IsPlacedEdit (moving_of w md.c)
  pl = placed_move w md.c placed

  abbrev its_view : Opened
  its_view = record { kind = w.q.kind; layout = Layout.New w.q.m; listings = w.q.listings }

  abbrev its_puts : List Put
  its_puts = puts_of w.pr.ready bytes

  no_source : w.pr.ready.source ≡ sources.Nothing
  no_source = none_given w md.part.turned

  -- each put is of a directory that is told something
  piece_of : (x : Put) → Contains its_puts x → (p : Piece) × (put_of p ≡ x) × (a : Amended) × Contains md.part.order a × (s : Says) × IsSaidNow w.q (become w.q (edit md.c)) (up_in w.q (it w.q)) a s p
  piece_of x there = ⊎_elim (λ own. absurd (no_element x (subst (λ (s : Source). Contains (source_puts s bytes) x) no_source own))) (λ told. told) (put_of_told e pl md.part m' given bytes x there)

  long : AreLong w.q.m.geometry.sector its_puts
  long x there = let t = piece_of x there in long_told e pl md.part m' given bytes x t.0 t.1 t.2 t.4 t.5

  module _ (not_copied : is_copied_in (record { kind = w.q.kind; layout = Layout.New w.q.m; listings = w.q.listings }) w.q.from w.q.to w.q.seen.known.target.object ≡ false) where
    pub to_move : IsToMoveGrown (record { kind = w.q.kind; layout = Layout.New w.q.m; listings = w.q.listings }) w.q.from w.q.to md.c (growing_in (moving_of w md.c) md.part)
    to_move = asks_move w md (its_grows e pl md.part) not_copied

    module _ (owners' : List Owner) (number : ℕ) (after : AreOwnersAfter (Layout.New m') w.q.nodes w.pr.change (owners_admitted (Layout.New w.q.m) w.pr.change.object number w.q.owners) owners') (was image : List ℕ)
        (opens : OpensAs was w.q.kind (record { kind = w.q.kind; layout = Layout.New w.q.m; listings = w.q.listings })) (changed : IsChanged w.q.m m' w.pr.ready bytes was image) where
      abbrev x : NewGrownMoving
      x = mv w placed md m' given owners' number after

      written : NewGrownMovingWritten x w.q.from w.q.to (puts_of w.pr.ready bytes) was image
      written = record {
        r = (kind_is e pl md.part m' given bytes was image opens changed).0;
        new_kind = (kind_is e pl md.part m' given bytes was image opens changed).1;
        opens = opens;
        its = to_move;
        entries = md.entries;
        says = λ a at.
            subst (λ (o : Object). IsRewritten (Command.Rename w.q.from w.q.to) a.was.object.path (up_in w.q o a.was.object.path) a.was.content a.content) (sym md.o_is) (says_all e md.part a at);
        written = written_all e pl md.part m' given bytes;
        whose = λ y there. let t = piece_of y there in whose_told e pl md.part m' given bytes y t.0 t.1 t.2 t.3 t.4 t.5;
        out = put_out (layout w.q) was bytes image w.pr.ready (subst CopiesNone (sym no_source) tt) w.ready.carried long changed.written changed.others;
        map = map_now e pl md.part m' given bytes was image opens changed;
      }

      -- The command has done what it promises.
      pub outcome : Outcome w.q.kind was image (record { kind = w.q.kind; layout = Layout.New w.q.m; listings = w.q.listings }) (Command.Rename w.q.from w.q.to) (parts_with m' (nodes_after w.pr.change number w.q.nodes) owners')
      outcome = outcome_law.new x w.q.from w.q.to its_puts was image written
