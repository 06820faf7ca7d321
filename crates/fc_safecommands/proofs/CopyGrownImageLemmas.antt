-- `rename` that copies its file into a directory that grows, in the safe mode: what then stands in the image.
use Rattle.std.proofs.Common.{◌≡◌, ◌<◌, ◌==◌, ◌&&◌, ◌||◌, ◌*◌, ◌⊎◌, ℕ, Bool, true, false, cond, length, List, [], ◌∷◌, ◌++◌, inl, inr, refl, sym, ap, ap₂, subst, ◌∙◌, arith, eq-eqb, Option, Some, None, flat_map, get_or, ◌≤◌}
use Rattle.std.specs.Prelude.{Contains, IfSome, Vec}
use Rattle.std.proofs.lemmas.Bool.{eqb-true}
use Rattle.fc_alloc.specs.declared.owner.Owner.{Owner}
use Rattle.fc_names.specs.Names.{is_directory, is_same_path}
use Rattle.fc_names.specs.declared.name.NameForm.{NameForm}
use Rattle.fc_record.specs.declared.DiscRecord.{DiscRecord}
use Rattle.fc_newmap.specs.Map.{Map, is_used}
use Rattle.fc_model.specs.Command.{Command}
use Rattle.fc_model.specs.Answer.{changed}
use Rattle.fc_dirs.specs.Directory.{Directory, directory_size}
use Rattle.fc_drafts.specs.Draft.{directory_in, size_of}
use Rattle.fc_image.specs.Layout.{Layout, dir_form, id_of, is_among}
use Rattle.fc_image.specs.Moves.{object_in}
use Rattle.fc_image.specs.Objects.{has_sectors, objects_of, tree_of}
use Rattle.fc_image.specs.Stays.{IsNewKind, OpensAs}
use Rattle.fc_image.specs.Walk.{Object, is_directory_object, object_bytes, object_size}
use Rattle.fc_image.specs.Opening.{Opened}
use Rattle.fc_image.specs.effects.Short.{has_room as has_room_in, is_alone as is_alone_in, is_copied as is_copied_in}
use Rattle.fc_image.specs.effects.Steady.{AreWritten, IsRewritten}
use Rattle.fc_image.specs.safe.SafeEffect.{HasTree}
use Rattle.fc_image.proofs.PathsLemmas.{itself}
use Rattle.fc_changes.proofs.BasicLemmas.{clash}
use Rattle.fc_tree.proofs.SoundLemmas.{same_object}
use Rattle.fc_tree.proofs.WalkedLemmas.{listed_directory, same_some}
use Rattle.fc_edits.specs.Edit.{Amended, Edit}
use Rattle.fc_edits.specs.Growing.{at_place, grown as grown_edit_of, regrown}
use Rattle.fc_edits.specs.Copying.{edit, copied}
use Rattle.fc_edits.proofs.lemmas.IdentifierLemmas.{used_of}
use Rattle.fc_outcomes.specs.Growth.{Grows}
use Rattle.fc_laws.specs.agree.Agreed.{parts_with}
use Rattle.fc_laws.proofs.lemmas.agree.SayLemmas.{say_law}
use Rattle.fc_safelaws.specs.Relaid.{AreCopied}
use Rattle.fc_writing.specs.declared.ready.Piece.{Piece}
use Rattle.fc_writing.specs.New.{IsTaken}
use Rattle.fc_writing.specs.Steps.{CanRoot}
use Rattle.fc_change.specs.After.{AreOwnersAfter, nodes_after, owners_admitted}
use Rattle.fc_change.specs.GrownSpace.{has_room, is_alone, root_of, place_of_plan}
use Rattle.fc_change.specs.declared.change.Says.{Says}
use Rattle.fc_change.specs.declared.job.Growth.{Growth}
use Rattle.fc_commands.proofs.GrownAskedLemmas.{IsKnownByRoom}
use Rattle.fc_commands.proofs.GrownMoveDoneLemmas.{found_all, says_all}
use Rattle.fc_commands.proofs.GrownMoveEditLemmas.{KeepsBody, become, said_now}
use Rattle.fc_commands.proofs.GrownMoveGrowsLemmas.{growth_is}
use Rattle.fc_commands.proofs.GrownMoveMadeLemmas.{up_in}
use Rattle.fc_commands.proofs.GrownMoveSaidLemmas.{it, now}
use Rattle.fc_safe.specs.FirstNeeds.{moving_out}
use Rattle.fc_safecrash.specs.Crash.{IsThere}
use Rattle.fc_safeedits.specs.Relocation.{is_moved}
use Rattle.fc_safeedits.specs.SafeChange.{SafeChange, moves_in}
use Rattle.fc_safeedits.specs.SafeSpace.{SafeSpaceLaw}
use Rattle.fc_safeedits.specs.SafeWriting.{SafeWritingLaw}
use Rattle.fc_safeedits.specs.SafeGrowth.{IsRecorded, IsWholeGrown}
use Rattle.fc_safeedits.specs.SafeImage.{IsUnamended}
use Rattle.fc_safeedits.specs.SafeOutcome.{SafeOutcome}
use Rattle.fc_safecommands.specs.Laws.{mapped}
use Rattle.fc_safecommands.proofs.GrownLaidLemmas.{is_grown, grown_new}
use Rattle.fc_safecommands.proofs.CopyGrownLemmas.{bytes_is, file, form, growing, h}
use Rattle.fc_safecommands.proofs.CopyGrownPartsLemmas.{CopyRun, g, its, len_is, none_grown, parts, shown_of, stays_in, stays_plain, stays_unfiled}
use Rattle.fc_safecommands.proofs.GrownPutLemmas.{IsPutThere}
use Rattle.fc_safecommands.proofs.GrownSpaceLemmas.{unused}
use Rattle.fc_safecommands.proofs.GrownSpotLemmas.{d_grown, grower}
use Rattle.fc_safecommands.proofs.GrownStirLemmas.{GrowingJob, sound}
use Rattle.fc_safecommands.proofs.GrownWrittenLemmas.{IsPieceOfTold, IsTold, piece_of_told}
use Rattle.std.specs.declared.alloc.Global.{Global}
use Rattle.std.specs.Int.{div_ceil}
use Rattle.std.proofs.lemmas.List.Elements.{Contains-append_left}
use Rattle.fc_device.specs.Sectors.{sector_at}
use Rattle.fc_device.specs.declared.disk.Extent.{Extent}
use Rattle.fc_edits.specs.Places.{Stays}
use Rattle.fc_objects.specs.Extents.{sectors_in}
use Rattle.fc_writing.specs.Ready.{IsSourceEnough, carried_by, content_of, from_of, place_of, source_content, source_from, source_place, to_of}
use Rattle.fc_writing.specs.declared.ready.Source.{Source}
use Rattle.fc_writing.specs.declared.ready.Transfer.{Transfer}
use Rattle.fc_writing.proofs.ContentLemmas.{numbered_here}
use Rattle.fc_change.specs.declared.change.Turned.{Turned}
use Rattle.fc_change.specs.declared.spaces.Place.{Place}
use Rattle.fc_change.specs.Prepared.{IsNewPiece, IsSourceOf}
use Rattle.fc_commands.proofs.GrownCopyEditLemmas.{dir_other, stays_as}
use Rattle.fc_commands.proofs.MoveEditLemmas.{lies_there}
use Rattle.fc_commands.proofs.StayingLemmas.{count as sector_count}
use Rattle.fc_safecommands.proofs.ApartLemmas.{few_taken}
use Rattle.fc_safeedits.specs.SafeCopying.{IsItsCopy}
use Rattle.fc_safeedits.specs.SafeGrownCopying.{SafeGrownCopying, SafeGrownCopyingLaw}
use Rattle.fc_safeedits.specs.SafeGrownAddition.{TakesForGrown}
use Rattle.fc_safecommands.proofs.GrownMoveImageLemmas.{one_said}
use Rattle.fc_commands.proofs.GrownAskedLemmas as asked
use Rattle.fc_safecommands.proofs.GrownImageLemmas as image_of
use Rattle.fc_safecommands.proofs.CopyGrownEditLemmas as edit_of
use Rattle.fc_safecommands.proofs.GrownSafelyLemmas as safely_of
use Rattle.fc_safecommands.proofs.GrownStepLemmas as step_of
use Rattle.fc_writing.specs.declared.ready.Source.TheVariants as sources
use Rattle.fc_change.specs.declared.change.Turned.TheVariants as turns
use Rattle.fc_commands.proofs.MoveLemmas as seen_of
use Rattle.fc_commands.proofs.TargetLemmas as target_of
use Rattle.fc_safecommands.proofs.CopyGrownPlaceLemmas as lies_at

module _ (w : CopyRun) where
  abbrev x : GrowingJob
  x = growing w.a

  -- ---- the command makes it grow

  l_some : has_sectors w.a.seen.known.destination.listing.object ≡ true
  l_some = ap has_sectors (its w) ∙ (grower (growing w.a)).2.some

  l_in : Contains (objects_of w.a.listings) w.a.seen.known.destination.listing.object
  l_in = (listed_directory (Layout.New w.a.m) w.a.listings w.a.seen.sound w.a.seen.known.destination.listing w.a.seen.known.destination.listed).0

  known : IsKnownByRoom w.a.kind w.a.m w.a.listings w.a.seen.known.destination.listing (edit_of.place_as (shown_of w)) (Command.Rename w.a.from w.a.to) (growth_is (edit_of.q (shown_of w)))
  known = record { there = there (has_room w.a.m (h w.a) w.a.growth) refl (is_alone (h w.a) w.a.growth) refl; elsewhere = elsewhere (has_room w.a.m (h w.a) w.a.growth) refl (is_alone (h w.a) w.a.growth) refl }
    where
      l : Object
      l = w.a.seen.known.destination.listing.object

      room_in : has_room_in (Layout.New w.a.m) (objects_of w.a.listings) (l, (g w).len) ≡ has_room w.a.m (h w.a) w.a.growth
      room_in = (λ i. has_room_in (Layout.New w.a.m) (objects_of w.a.listings) (its w i, len_is w i)) ∙ safely_of.room_same (growing w.a)

      alone_in : is_alone_in (objects_of w.a.listings) l ≡ is_alone (h w.a) w.a.growth
      alone_in = ap (is_alone_in (objects_of w.a.listings)) (its w) ∙ safely_of.alone_same (growing w.a)

      stays : moving_out w.a.m (h w.a) (Some w.a.growth) ≡ None → (l.entry.address == (g w).address) ≡ true
      stays e = eq-eqb l.entry.address (g w).address (sym (safely_of.address_by (growing w.a) w.s w.placed None e ∙ ap (λ (o : Object). o.entry.address) (sym (its w))))

      out : (r a : Bool) → has_room w.a.m (h w.a) w.a.growth ≡ r → is_alone (h w.a) w.a.growth ≡ a → moving_out w.a.m (h w.a) (Some w.a.growth) ≡ cond (r || a) None (Some w.a.growth)
      out r a er ea = ap₂ (λ (b c : Bool). let o : Option Growth = cond (b || c) None (Some w.a.growth) in o) er ea

      there : (r : Bool) → has_room w.a.m (h w.a) w.a.growth ≡ r → (a : Bool) → is_alone (h w.a) w.a.growth ≡ a → (l.entry.address == (g w).address) ≡ true
          → (has_room_in (Layout.New w.a.m) (objects_of w.a.listings) (l, (g w).len) ≡ true) ⊎ (is_alone_in (objects_of w.a.listings) l ≡ true)
      there true er a ea e = inl (room_in ∙ er)
      there false er true ea e = inr (alone_in ∙ ea)
      there false er false ea e =
          let goes = out false false er ea in
          let plan = (step_of.grown_at (growing w.a) w.s w.placed).2.plan in
          let fresh = unused (growing w.a) plan.id (grown_new (growing w.a) w.s w.placed w.a.growth goes) in
          let id : id_of l.entry.address ≡ plan.id = ap id_of (eqb-true l.entry.address (g w).address e ∙ safely_of.address_by (growing w.a) w.s w.placed (Some w.a.growth) goes) ∙ (let z : id_of (256 * plan.id) ≡ plan.id = omega arith in z) in
          let used = used_of w.a.kind w.a.m w.a.nodes w.a.owners w.a.root w.a.listings w.a.agreed l l_in (id_of l.entry.address) (ap₂ (λ (b c : Bool). b && c) l_some (eq-eqb (id_of l.entry.address) (id_of l.entry.address) refl)) in
          absurd (clash (is_used w.a.m (id_of l.entry.address)) used (ap (is_used w.a.m) id ∙ fresh))

      elsewhere : (r : Bool) → has_room w.a.m (h w.a) w.a.growth ≡ r → (a : Bool) → is_alone (h w.a) w.a.growth ≡ a → (l.entry.address == (g w).address) ≡ false
          → (has_room_in (Layout.New w.a.m) (objects_of w.a.listings) (l, (g w).len) ≡ false) × (is_alone_in (objects_of w.a.listings) l ≡ false)
      elsewhere true er a ea e = absurd (clash (l.entry.address == (g w).address) (stays (out true a er ea)) e)
      elsewhere false er true ea e = absurd (clash (l.entry.address == (g w).address) (stays (out false true er ea)) e)
      elsewhere false er false ea e = (room_in ∙ er, alone_in ∙ ea)

  abbrev view_of : Opened
  view_of = record { kind = w.a.kind; layout = Layout.New w.a.m; listings = w.a.listings }

  grows : Grows (record { kind = w.a.kind; layout = Layout.New w.a.m; listings = w.a.listings }) (Command.Rename w.a.from w.a.to) (g w)
  grows =
      let part = (edit_of.md (shown_of w)).part in
      asked.grows_by w.a.kind w.a.m w.a.listings w.a.seen.known.destination.listing (edit_of.place_as (shown_of w)) (Command.Rename w.a.from w.a.to) (growth_is (edit_of.q (shown_of w))) known w.a.nodes w.a.seen.sound w.a.seen.held
      w.a.seen.known.destination.listed part.tops part.kids part.left part.cut part.again part.same part.holder part.others part.told_by part.kept_by

  its_copy : IsItsCopy (record { kind = w.a.kind; layout = Layout.New w.a.m; listings = w.a.listings }) w.a.from w.a.to (edit_of.md (shown_of w)).c
  its_copy =
      let md = edit_of.md (shown_of w) in
      record {
        from_is = ap (λ (o : Object). is_same_path w.a.from o.path) md.o_is ∙ w.a.seen.known.target.path_is;
        to_is = ap₂ (λ (o : Object) (n : List ℕ). is_same_path w.a.to (o.path ++ n ∷ [])) md.l_is md.name_is
            ∙ ap (λ (n : List ℕ). is_same_path w.a.to (w.a.seen.known.destination.listing.object.path ++ n ∷ [])) w.a.seen.name_is
            ∙ lies_there w.a.to w.a.seen.known.destination.listing.object.path w.a.seen.known.destination.no_root w.a.seen.known.destination.above;
        name_is = sym w.a.seen.name_is ∙ sym md.name_is;
        shares = ap (is_copied_in view_of w.a.from w.a.to) md.o_is ∙ (file w.a).copied w.a.kind;
      }

  -- ---- the file is put there

  transfer : (t : Transfer) × (w.p.ready.source ≡ sources.Sectors t) × (from_of t ≡ sectors_in (lies_at.spot w.a w.s w.placed).from.items) × (to_of t ≡ sectors_in (lies_at.spot w.a w.s w.placed).place.extents.items)
  transfer =
      let sp = lies_at.spot w.a w.s w.placed in
      let source : IsSourceOf w.p.change.object (Some sp.place) (Some sp.from) w.p.ready.source =
      subst (λ (q : Option (Vec Extent Global)). IsSourceOf w.p.change.object (Some sp.place) q w.p.ready.source) sp.copied (subst (λ (q : Option Place). IsSourceOf w.p.change.object q w.s.copied w.p.ready.source) sp.object w.ready.source) in
      (source.0, source.1, ap sectors_in source.2, ap sectors_in source.3)

  made_none : w.ready.early.made ≡ []
  made_none =
      subst (λ (q : Option Place). IsNewPiece (turns.Turns w.a.r.target.node w.a.r.holder w.change.entry) q w.ready.early.made) (lies_at.spot w.a w.s w.placed).object
      (subst (λ (y : Turned). IsNewPiece y w.s.object w.ready.early.made) w.change.object w.ready.early.makes)

  from_is : sectors_in (lies_at.spot w.a w.s w.placed).from.items ≡ w.a.seen.known.target.object.sectors
  from_is =
      same_some (sectors_in (lies_at.spot w.a w.s w.placed).from.items) w.a.seen.known.target.object.sectors
      (sym ((lies_at.spot w.a w.s w.placed).lies (target_of.node (Layout.New w.a.m) w.a.nodes w.a.listings w.a.seen.sound w.a.seen.held w.a.from w.a.r.target w.a.seen.known.target)
      (target_of.node_is (Layout.New w.a.m) w.a.nodes w.a.listings w.a.seen.sound w.a.seen.held w.a.from w.a.r.target w.a.seen.known.target))
      ∙ target_of.placed (Layout.New w.a.m) w.a.nodes w.a.listings w.a.seen.sound w.a.seen.held w.a.from w.a.r.target w.a.seen.known.target)

  long : length w.a.seen.known.target.object.sectors ≡ div_ceil w.a.wants.bytes w.a.m.geometry.sector
  long =
      sector_count (Layout.New w.a.m) w.a.seen.known.target.object.entry.address (object_size (dir_form (Layout.New w.a.m)) w.a.seen.known.target.object.entry) w.a.seen.known.target.object.sectors
      (target_of.placed (Layout.New w.a.m) w.a.nodes w.a.listings w.a.seen.sound w.a.seen.held w.a.from w.a.r.target w.a.seen.known.target)
      ∙ ap (λ (n : ℕ). div_ceil n w.a.m.geometry.sector) ((file w.a).size ∙ sym (bytes_is w.a))

  pub put : IsPutThere (growing w.a) (place_of_plan w.a.m.geometry (lies_at.spot w.a w.s w.placed).plan w.a.wants.bytes) w.p.ready w.ready.early.made
  put =
      let t = transfer in
      let sp = lies_at.spot w.a w.s w.placed in
      record {
        from = λ u i. (
          w.a.seen.known.target.object,
          seen_of.among (Layout.New w.a.m) w.a.nodes w.a.listings w.a.from w.a.to w.a.r w.a.name w.a.seen,
          subst (λ (us : List ℕ). is_among us u ≡ true) (t.2 ∙ from_is) (subst (λ (y : Source). is_among (source_from y) u ≡ true) t.1 i),
        );
        enough = subst IsSourceEnough (sym t.1)
            (subst (λ (us : List ℕ). length us ≤ length (from_of t.0)) (sym (t.3 ∙ sp.sectors))
            (subst (λ (us : List ℕ). length (place_of_plan w.a.m.geometry sp.plan w.a.wants.bytes) ≤ length us) (sym (t.2 ∙ from_is))
            (subst (λ (n : ℕ). length (place_of_plan w.a.m.geometry sp.plan w.a.wants.bytes) ≤ n) (sym long) (few_taken (div_ceil w.a.wants.bytes w.a.m.geometry.sector) _))));
        place = inl (ap source_place t.1 ∙ t.3 ∙ sp.sectors, ap (flat_map place_of) made_none);
      }

  -- ---- the image

  module _ (m' : Map) (taken : IsTaken w.a.m w.p.ready m') (law : SafeSpaceLaw) (number : ℕ) (owners' : List Owner)
      (after : AreOwnersAfter (Layout.New m') w.a.nodes w.p.change (owners_admitted (Layout.New w.a.m) w.p.change.object number w.a.owners) owners')
      (rooted : IfSome (root_of w.s.grown) (CanRoot w.a.m)) (writing : SafeWritingLaw) where
    module _ (disc : DiscRecord) (image : List ℕ) (new_kind : IsNewKind w.a.kind disc) (opens : OpensAs image w.a.kind (record { kind = w.a.kind; layout = Layout.New w.a.m; listings = w.a.listings }))
        (bytes image' : List ℕ) (there : IsThere (mapped w.a.m (image_of.by (growing w.a) disc image new_kind opens)) w.p.ready bytes m' image') where
      abbrev pub changed_image : SafeChange
      changed_image =
          image_of.changed_image (growing w.a) disc image new_kind opens w.s w.placed w.p.change (edit_of.tells (shown_of w)) w.p.ready w.ready (place_of_plan w.a.m.geometry (lies_at.spot w.a w.s w.placed).plan w.a.wants.bytes) (lies_at.beside w.a w.s w.placed) put rooted m' taken law writing (nodes_after w.p.change number w.a.nodes) owners' bytes image' there

      abbrev e_move : Edit
      e_move = edit (edit_of.md (shown_of w)).c

      abbrev Told : Amended → Type 0
      Told b = (q : Says) × Contains w.p.change.says.items q × IsTold (growing w.a) q b.was.object × (p : Piece) × Contains w.ready.early.told p × IsPieceOfTold (growing w.a) w.s w.placed w.p.change (edit_of.tells (shown_of w)) w.p.ready w.ready q b.was.object p

      of_told : (b : Amended) → Contains (grown_edit_of e_move (g w)).amended b → (c : Bool) → is_same_path (g w).o.path b.was.object.path ≡ c → (t : Told b) → length t.3.bytes.items ≡ size_of b.content → is_directory_object b.was.object ≡ true → KeepsBody (e_move.turn b.was.object) b.was.object
          → size_of b.content ≡ directory_size (dir_form (Layout.New w.a.m)) (let k : Object = cond (is_same_path (g w).o.path b.was.object.path) (at_place (g w) (e_move.turn b.was.object)) (e_move.turn b.was.object) in k.entry.len)
          → AreWritten (object_bytes image' (Layout.New m') (object_in (Layout.New m') (cond (is_same_path (g w).o.path b.was.object.path) (at_place (g w) (e_move.turn b.was.object)) (e_move.turn b.was.object)))) (directory_in t.0.draft)
      of_told b at true e t long dir keeps size =
          let o_in = (edit_of.in_listed (shown_of w) b at) in
          let same : (g w).o ≡ b.was.object = same_object (Layout.New w.a.m) w.a.listings w.a.seen.sound (g w).o.path (g w).o b.was.object l_in o_in (itself (g w).o.path) e in
          let grows : is_grown (growing w.a) b.was.object ≡ true = subst (λ (k : Object). is_grown (growing w.a) k ≡ true) (sym (its w) ∙ same) (d_grown (growing w.a)) in
          let kind : is_directory_object (at_place (g w) (e_move.turn b.was.object)) ≡ true = ap is_directory keeps.attrs ∙ dir in
          let its_size : object_size (dir_form (Layout.New w.a.m)) (at_place (g w) (e_move.turn b.was.object)).entry ≡ w.a.growth.len =
          ap₂ (λ (c : Bool) (f : NameForm). cond c (directory_size f (g w).len) (g w).len) kind (form w.a) ∙ len_is w in
          let bytes_long : length t.3.bytes.items ≡ w.a.growth.len =
          long ∙ size ∙ ap (λ (c : Bool). directory_size (dir_form (Layout.New w.a.m)) (let k : Object = cond c (at_place (g w) (e_move.turn b.was.object)) (e_move.turn b.was.object) in k.entry.len)) e ∙ ap (λ (f : NameForm). directory_size f (g w).len) (form w.a) ∙ len_is w in
          subst (λ (c : Bool). AreWritten (object_bytes image' (Layout.New m') (object_in (Layout.New m') (cond c (at_place (g w) (e_move.turn b.was.object)) (e_move.turn b.was.object)))) (directory_in t.0.draft)) (sym e)
          (subst (λ (ns : List ℕ). AreWritten ns (directory_in t.0.draft))
          (sym (image_of.grown_bytes (growing w.a) w.s w.placed w.p.change (edit_of.tells (shown_of w)) w.p.ready w.ready m' taken law (nodes_after w.p.change number w.a.nodes) owners' writing
          (image_of.by (growing w.a) disc image new_kind opens) refl refl bytes image' there b.was.object grows t.0 t.3 t.4 t.5 (at_place (g w) (e_move.turn b.was.object)) its_size refl bytes_long)) t.5.drafted.bytes)
      of_told b at false e t long dir keeps size =
          let o_in = (edit_of.in_listed (shown_of w) b at) in
          let plain = none_grown w b.was.object o_in e in
          let bytes_long : length t.3.bytes.items ≡ object_size (dir_form (Layout.New w.a.m)) b.was.object.entry =
          long ∙ size ∙ ap (λ (c : Bool). directory_size (dir_form (Layout.New w.a.m)) (let k : Object = cond c (at_place (g w) (e_move.turn b.was.object)) (e_move.turn b.was.object) in k.entry.len)) e
          ∙ ap (directory_size (dir_form (Layout.New w.a.m))) keeps.len ∙ sym (ap (λ (c : Bool). cond c (directory_size (dir_form (Layout.New w.a.m)) b.was.object.entry.len) b.was.object.entry.len) dir) in
          let found = found_all (edit_of.e (shown_of w)) (edit_of.md (shown_of w)).part b at in
          let turned : e_move.turn b.was.object ≡ b.was.object = stays_as (edit_of.spotted (shown_of w)) (edit_of.md (shown_of w)).c (edit_of.md (shown_of w)).o_is b.was.object (dir_other (edit_of.spotted (shown_of w)) b.was found) in
          subst (λ (c : Bool). AreWritten (object_bytes image' (Layout.New m') (object_in (Layout.New m') (cond c (at_place (g w) (e_move.turn b.was.object)) (e_move.turn b.was.object)))) (directory_in t.0.draft)) (sym e)
          (subst (λ (o : Object). AreWritten (object_bytes image' (Layout.New m') (object_in (Layout.New m') o)) (directory_in t.0.draft)) (sym turned)
          (subst (λ (ns : List ℕ). AreWritten ns (directory_in t.0.draft))
          (sym (image_of.dir_there (growing w.a) w.s w.placed w.p.change (edit_of.tells (shown_of w)) w.p.ready w.ready m' taken law (nodes_after w.p.change number w.a.nodes) owners' writing
          (image_of.by (growing w.a) disc image new_kind opens) refl refl bytes image' there b.was.object (edit_of.in_tells (shown_of w) b ((edit_of.md (shown_of w)).part.among b at)) plain t.0 t.3 t.4 t.5 bytes_long)) t.5.drafted.bytes))

      -- what each directory of the edit has
      told_there : (b : Amended) → Contains (grown_edit_of e_move (g w)).amended b → AreWritten (object_bytes image' (Layout.New m') (object_in (Layout.New m') (regrown e_move (g w) b.was.object))) b.content
      told_there b at =
          let part = (edit_of.md (shown_of w)).part in
          let order = part.among b at in
          let f = said_now (edit_of.q (shown_of w)) (become (edit_of.q (shown_of w)) e_move) (up_in (edit_of.q (shown_of w)) (it (edit_of.q (shown_of w)))) part.order (part.said ∷ part.others_said) (part.ready.own ∷ part.ready.pieces) part.all b order in
          let t = piece_of_told (growing w.a) w.s w.placed w.p.change (edit_of.tells (shown_of w)) w.p.ready w.ready b.was.object (edit_of.in_tells (shown_of w) b order) in
          let s_in = edit_of.said_in (shown_of w) b order in
          let same_node : s_in.0.node ≡ t.0.node = same_some s_in.0.node t.0.node (sym s_in.2 ∙ t.2.is.number) in
          let same = one_said (growing w.a) w.p.change.says.items (edit_of.tells (shown_of w)).ds (edit_of.tells (shown_of w)).are (edit_of.tells (shown_of w)).once s_in.0 t.0 s_in.1 t.1 same_node in
          let content : b.content ≡ directory_in t.0.draft = s_in.3 ∙ ap (λ (q : Says). directory_in q.draft) same in
          let dir = (listed_directory (Layout.New w.a.m) w.a.listings w.a.seen.sound b.was f.3.found).1 in
          let size = say_law.size (Layout.New w.a.m) (become (edit_of.q (shown_of w)) e_move b.was.object) b.content f.3.can in
          subst (λ (c : Directory). AreWritten (object_bytes image' (Layout.New m') (object_in (Layout.New m') (regrown e_move (g w) b.was.object))) c) (sym content)
          (of_told b at (is_same_path (g w).o.path b.was.object.path) refl t (t.5.drafted.length_is ∙ ap size_of (sym content)) dir (part.keeps b.was f.3.found) size)

      carried : (o : Object) → Stays w.a.nodes w.a.listings (grown_edit_of e_move (g w)) o → is_moved (moves_in changed_image.parts) o ≡ true → IsUnamended (grown_edit_of e_move (g w)) o
          → AreCopied w.a.m.geometry.sector image image' o.sectors (object_in (Layout.New m') o).sectors
      carried o st moves none =
          let other : (p : Object) → Contains (edit_of.tells (shown_of w)).ds p → p ≡ o → ⊥ =
          λ p in_ds same. (let b = edit_of.of_tells (shown_of w) p in_ds in none b.0 ((edit_of.md (shown_of w)).part.back b.0 b.1) (b.2 ∙ same)) in
          image_of.copied_as (growing w.a) w.s w.placed w.p.change (edit_of.tells (shown_of w)) w.p.ready w.ready m' taken law (nodes_after w.p.change number w.a.nodes) owners' writing
          (image_of.by (growing w.a) disc image new_kind opens) refl refl bytes image' there o st.among moves (λ some. stays_in w o (stays_plain w o st) (stays_unfiled w o st) (id_of o.entry.address) refl) other

      -- what is copied from its old place
      stored : AreCopied w.a.m.geometry.sector image image' (edit_of.md (shown_of w)).c.o.sectors (edit_of.md (shown_of w)).c.sectors
      stored =
          let t = transfer in
          let md = edit_of.md (shown_of w) in
          let old : from_of t.0 ≡ md.c.o.sectors = t.2 ∙ from_is ∙ sym (ap (λ (y : Object). y.sectors) md.o_is) in
          let new : to_of t.0 ≡ md.c.sectors = t.3 ∙ sym md.sectors in
          subst (λ (us : List ℕ). AreCopied w.a.m.geometry.sector image image' us md.c.sectors) old (subst (λ (us : List ℕ). AreCopied w.a.m.geometry.sector image image' (from_of t.0) us) new (by t.0 t.1))
        where
          by : (t : Transfer) → w.p.ready.source ≡ sources.Sectors t → AreCopied w.a.m.geometry.sector image image' (from_of t) (to_of t)
          by t is j less =
              there.written (get_or (to_of t) j 0, sector_at w.a.m.geometry.sector image (get_or (from_of t) j 0))
              (Contains-append_left (source_content w.a.m.geometry.sector image bytes w.p.ready.source)
              (flat_map (carried_by w.a.m.geometry.sector image) w.p.ready.carried.items ++ flat_map (content_of w.a.m.geometry.sector) w.p.ready.early.items)
              (get_or (to_of t) j 0, sector_at w.a.m.geometry.sector image (get_or (from_of t) j 0))
              (subst (λ (y : Source). Contains (source_content w.a.m.geometry.sector image bytes y) (get_or (to_of t) j 0, sector_at w.a.m.geometry.sector image (get_or (from_of t) j 0))) (sym is)
              (numbered_here (λ (i : ℕ). sector_at w.a.m.geometry.sector image (get_or (from_of t) i 0)) (to_of t) j less)))

      module _ (recorded : IsRecorded changed_image (g w)) where
        pub done : SafeGrownCopying
        done = record {
          x = changed_image;
          parts = parts w m' taken law number owners' after;
          from = w.a.from;
          to = w.a.to;
          recorded = recorded;
          its = its_copy;
          grows = grows;
          into_it = (edit_of.md (shown_of w)).l_is;
          left = (edit_of.md (shown_of w)).left;
          joined = (edit_of.md (shown_of w)).joined;
          says = λ b at.
              subst (λ (n : ℕ). IsRewritten (Command.Rename w.a.from w.a.to) b.was.object.path n b.was.content b.content)
              (ap (λ (f : Bool). cond f (g w).address (now (edit_of.q (shown_of w)) b.was.object.path)) (dir_other (edit_of.spotted (shown_of w)) b.was (found_all (edit_of.e (shown_of w)) (edit_of.md (shown_of w)).part b at)))
              (says_all (edit_of.e (shown_of w)) (edit_of.md (shown_of w)).part b at);
          there = told_there;
          stored = stored;
          carried = carried;
        }

        pub tree : SafeGrownCopyingLaw → HasTree w.a.kind (changed (tree_of image (Layout.New w.a.m) w.a.listings) (Command.Rename w.a.from w.a.to)) image'
        unfolding done
        tree copying = copying.tree done

        pub outcome : SafeGrownCopyingLaw → TakesForGrown changed_image.parts (Command.Rename w.a.from w.a.to) (copied (edit_of.md (shown_of w)).c (edit_of.md (shown_of w)).c.o) (g w) → IsWholeGrown changed_image (g w)
            → SafeOutcome w.a.kind image image' (record { kind = w.a.kind; layout = Layout.New w.a.m; listings = w.a.listings }) (Command.Rename w.a.from w.a.to) (parts_with m' (nodes_after w.p.change number w.a.nodes) owners')
        unfolding done
        outcome copying takes whole = copying.outcome done takes whole
