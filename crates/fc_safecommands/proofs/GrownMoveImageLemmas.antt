-- `rename` by which a directory grows and nothing is copied, in the safe mode: what then stands in the image.
use Rattle.std.proofs.Common.{◌≡◌, ◌==◌, ◌&&◌, ◌||◌, ◌*◌, ◌⊎◌, ⊎_elim, ℕ, Bool, true, false, cond, length, List, [], ◌∷◌, inl, inr, refl, sym, ap, ap₂, subst, ◌∙◌, arith, eq-eqb, Option, Some, None}
use Rattle.std.specs.Prelude.{Contains, IfSome}
use Rattle.std.proofs.lemmas.Bool.{eqb-true}
use Rattle.fc_alloc.specs.declared.owner.Owner.{Owner}
use Rattle.fc_names.specs.Names.{is_directory, is_same_path}
use Rattle.fc_names.specs.declared.name.NameForm.{NameForm}
use Rattle.fc_record.specs.declared.DiscRecord.{DiscRecord}
use Rattle.fc_newmap.specs.Map.{Map, is_used}
use Rattle.fc_model.specs.Command.{Command}
use Rattle.fc_model.specs.Answer.{changed}
use Rattle.fc_dirs.specs.Directory.{Directory, directory_size}
use Rattle.fc_drafts.specs.Draft.{directory_in, size_of}
use Rattle.fc_image.specs.Layout.{Layout, dir_form, id_of}
use Rattle.fc_image.specs.Moves.{object_in}
use Rattle.fc_image.specs.Objects.{has_sectors, objects_of, tree_of}
use Rattle.fc_image.specs.Stays.{IsNewKind, OpensAs}
use Rattle.fc_image.specs.Walk.{Object, is_directory_object, object_bytes, object_size}
use Rattle.fc_image.specs.Opening.{Opened}
use Rattle.fc_image.specs.effects.Short.{has_room as has_room_in, is_alone as is_alone_in, is_copied as is_copied_in}
use Rattle.fc_image.specs.effects.Steady.{AreWritten, IsRewritten}
use Rattle.fc_image.specs.safe.SafeEffect.{HasTree}
use Rattle.fc_image.proofs.CommandLemmas.{same_by_folds}
use Rattle.fc_image.proofs.EntriesLemmas.{cases as contains_cases}
use Rattle.fc_image.proofs.PathsLemmas.{itself}
use Rattle.fc_changes.proofs.BasicLemmas.{clash}
use Rattle.fc_tree.proofs.MemberLemmas.{no_element}
use Rattle.fc_tree.proofs.PlaceLemmas.{one_path}
use Rattle.fc_tree.proofs.SoundLemmas.{same_object}
use Rattle.fc_tree.proofs.WalkedLemmas.{listed_directory, same_some}
use Rattle.fc_edits.specs.Edit.{Amended, Edit}
use Rattle.fc_edits.specs.Growing.{at_place, grown as grown_edit_of, regrown}
use Rattle.fc_edits.specs.Moving.{edit}
use Rattle.fc_edits.proofs.lemmas.IdentifierLemmas.{used_of}
use Rattle.fc_outcomes.specs.Growth.{Grows}
use Rattle.fc_outcomes.specs.GrownMoving.{IsToMoveGrown}
use Rattle.fc_laws.specs.agree.Agreed.{parts_with}
use Rattle.fc_laws.proofs.lemmas.agree.SayLemmas.{say_law}
use Rattle.fc_safelaws.specs.Relaid.{AreCopied}
use Rattle.fc_writing.specs.declared.ready.Piece.{Piece}
use Rattle.fc_writing.specs.New.{IsTaken}
use Rattle.fc_writing.specs.Steps.{CanRoot}
use Rattle.fc_change.specs.After.{AreOwnersAfter, nodes_after, owners_admitted}
use Rattle.fc_change.specs.GrownSpace.{has_room, is_alone, root_of}
use Rattle.fc_change.specs.declared.change.Says.{Says}
use Rattle.fc_change.specs.declared.job.Growth.{Growth}
use Rattle.fc_commands.proofs.GrownAskedLemmas as asked
use Rattle.fc_commands.proofs.GrownAskedLemmas.{IsKnownByRoom}
use Rattle.fc_commands.proofs.GrownMoveDoneLemmas.{asks_move, says_all}
use Rattle.fc_commands.proofs.GrownMoveEditLemmas.{KeepsBody, become, said_now}
use Rattle.fc_commands.proofs.GrownMoveGrowsLemmas.{growth_is}
use Rattle.fc_commands.proofs.GrownMoveMadeLemmas.{up_in}
use Rattle.fc_commands.proofs.GrownMoveSaidLemmas.{it}
use Rattle.fc_commands.proofs.MoveShortLemmas.{plain as plain_is}
use Rattle.fc_safe.specs.FirstNeeds.{moving_out}
use Rattle.fc_safecrash.specs.Crash.{IsThere}
use Rattle.fc_safeedits.specs.Relocation.{is_moved}
use Rattle.fc_safeedits.specs.SafeChange.{SafeChange, moves_in}
use Rattle.fc_safeedits.specs.SafeSpace.{SafeSpaceLaw}
use Rattle.fc_safeedits.specs.SafeWriting.{SafeWritingLaw}
use Rattle.fc_safeedits.specs.SafeGrowth.{IsRecorded, IsWholeGrown}
use Rattle.fc_safeedits.specs.SafeGrownMoving.{SafeGrownMoving, SafeGrownMovingLaw, TakesForGrowth}
use Rattle.fc_safeedits.specs.SafeImage.{IsUnamended}
use Rattle.fc_safeedits.specs.SafeOutcome.{SafeOutcome}
use Rattle.fc_safecommands.specs.Laws.{mapped}
use Rattle.fc_safecommands.proofs.GrownImageLemmas as image_of
use Rattle.fc_safecommands.proofs.GrownLaidLemmas.{is_grown}
use Rattle.fc_safecommands.proofs.GrownMoveEditLemmas as edit_of
use Rattle.fc_safecommands.proofs.GrownMoveJobLemmas.{form, growing, h}
use Rattle.fc_safecommands.proofs.GrownMovePartsLemmas.{MoveRun, g, its, len_is, none_grown, parts, shown_of, stays_in}
use Rattle.fc_safecommands.proofs.GrownPutLemmas.{IsPutThere, LiesBeside}
use Rattle.fc_safecommands.proofs.GrownSafelyLemmas as safely_of
use Rattle.fc_safecommands.proofs.GrownLaidLemmas.{grown_new}
use Rattle.fc_safecommands.proofs.GrownSpaceLemmas.{unused}
use Rattle.fc_safecommands.proofs.GrownSpotLemmas.{d_grown, grower}
use Rattle.fc_safecommands.proofs.GrownStepLemmas as step_of
use Rattle.fc_safecommands.proofs.GrownStirLemmas.{GrowingJob, IsChanged, sound}
use Rattle.fc_safecommands.proofs.GrownWrittenLemmas.{AreTold, Differ, IsPieceOfTold, IsTold, not_grown, object_told, piece_of_told, untold}

-- ---- who is told what

module _ (x : GrowingJob) where
  one_object : (n : ℕ) (p o : Object) → IsChanged x n p → IsChanged x n o → p ≡ o
  one_object n p o is other =
      same_object (Layout.New x.m) x.listings (sound x) p.path p o is.there other.there (itself p.path) (same_by_folds p.path o.path (one_path x.nodes n (length p.path) p.path o.path refl is.number other.number))

  -- Each is told once.
  pub one_said : (ss : List Says) (ds : List Object) → AreTold x ss ds → Differ ds → (s q : Says) → Contains ss s → Contains ss q → s.node ≡ q.node → s ≡ q
  one_said [] ds are once s q at there same = absurd (no_element s at)
  one_said (t ∷ ss) [] are once s q at there same = absurd are
  one_said (t ∷ ss) (p ∷ ds) are once s q at there same =
      ⊎_elim
      (λ first. ⊎_elim (λ also. sym first ∙ also) (λ later. absurd (never q later (ap (λ (k : Says). k.node) first ∙ same))) (contains_cases t q ss there))
      (λ later. ⊎_elim (λ first. absurd (never s later (ap (λ (k : Says). k.node) first ∙ sym same))) (λ also. one_said ss ds are.1 once.1 s q later also same) (contains_cases t q ss there)) (contains_cases t s ss at)
    where
      never : (k : Says) → Contains ss k → t.node ≡ k.node → ⊥
      never k later alike =
          let o = object_told x ss ds k are.1 later in
          once.0 o.0 o.1 (one_object t.node p o.0 are.0.is (subst (λ (n : ℕ). IsChanged x n o.0) (sym alike) o.2.is))

module _ (w : MoveRun) where
  abbrev x : GrowingJob
  x = growing w.a

  -- ---- the command makes it grow

  l_some : has_sectors w.a.seen.known.destination.listing.object ≡ true
  l_some = ap has_sectors (its w) ∙ (grower (growing w.a)).2.some

  l_in : Contains (objects_of w.a.listings) w.a.seen.known.destination.listing.object
  l_in = (listed_directory (Layout.New w.a.m) w.a.listings w.a.seen.sound w.a.seen.known.destination.listing w.a.seen.known.destination.listed).0

  known : IsKnownByRoom w.a.kind w.a.m w.a.listings w.a.seen.known.destination.listing (edit_of.place_as (shown_of w)) (Command.Rename w.a.from w.a.to) (growth_is (edit_of.q (shown_of w)))
  known = record { there = there (has_room w.a.m (h w.a) w.a.growth) refl (is_alone (h w.a) w.a.growth) refl; elsewhere = elsewhere (has_room w.a.m (h w.a) w.a.growth) refl (is_alone (h w.a) w.a.growth) refl }
    where
      l : Object
      l = w.a.seen.known.destination.listing.object

      room_in : has_room_in (Layout.New w.a.m) (objects_of w.a.listings) (l, (g w).len) ≡ has_room w.a.m (h w.a) w.a.growth
      room_in = (λ i. has_room_in (Layout.New w.a.m) (objects_of w.a.listings) (its w i, len_is w i)) ∙ safely_of.room_same (growing w.a)

      alone_in : is_alone_in (objects_of w.a.listings) l ≡ is_alone (h w.a) w.a.growth
      alone_in = ap (is_alone_in (objects_of w.a.listings)) (its w) ∙ safely_of.alone_same (growing w.a)

      stays : moving_out w.a.m (h w.a) (Some w.a.growth) ≡ None → (l.entry.address == (g w).address) ≡ true
      stays e = eq-eqb l.entry.address (g w).address (sym (safely_of.address_by (growing w.a) w.s w.placed None e ∙ ap (λ (o : Object). o.entry.address) (sym (its w))))

      out : (r a : Bool) → has_room w.a.m (h w.a) w.a.growth ≡ r → is_alone (h w.a) w.a.growth ≡ a → moving_out w.a.m (h w.a) (Some w.a.growth) ≡ cond (r || a) None (Some w.a.growth)
      out r a er ea = ap₂ (λ (b c : Bool). let o : Option Growth = cond (b || c) None (Some w.a.growth) in o) er ea

      there : (r : Bool) → has_room w.a.m (h w.a) w.a.growth ≡ r → (a : Bool) → is_alone (h w.a) w.a.growth ≡ a → (l.entry.address == (g w).address) ≡ true
          → (has_room_in (Layout.New w.a.m) (objects_of w.a.listings) (l, (g w).len) ≡ true) ⊎ (is_alone_in (objects_of w.a.listings) l ≡ true)
      there true er a ea e = inl (room_in ∙ er)
      there false er true ea e = inr (alone_in ∙ ea)
      there false er false ea e =
          let goes = out false false er ea in
          let plan = (step_of.grown_at (growing w.a) w.s w.placed).2.plan in
          let fresh = unused (growing w.a) plan.id (grown_new (growing w.a) w.s w.placed w.a.growth goes) in
          let id : id_of l.entry.address ≡ plan.id = ap id_of (eqb-true l.entry.address (g w).address e ∙ safely_of.address_by (growing w.a) w.s w.placed (Some w.a.growth) goes) ∙ (let z : id_of (256 * plan.id) ≡ plan.id = omega arith in z) in
          let used = used_of w.a.kind w.a.m w.a.nodes w.a.owners w.a.root w.a.listings w.a.agreed l l_in (id_of l.entry.address) (ap₂ (λ (b c : Bool). b && c) l_some (eq-eqb (id_of l.entry.address) (id_of l.entry.address) refl)) in
          absurd (clash (is_used w.a.m (id_of l.entry.address)) used (ap (is_used w.a.m) id ∙ fresh))

      elsewhere : (r : Bool) → has_room w.a.m (h w.a) w.a.growth ≡ r → (a : Bool) → is_alone (h w.a) w.a.growth ≡ a → (l.entry.address == (g w).address) ≡ false
          → (has_room_in (Layout.New w.a.m) (objects_of w.a.listings) (l, (g w).len) ≡ false) × (is_alone_in (objects_of w.a.listings) l ≡ false)
      elsewhere true er a ea e = absurd (clash (l.entry.address == (g w).address) (stays (out true a er ea)) e)
      elsewhere false er true ea e = absurd (clash (l.entry.address == (g w).address) (stays (out false true er ea)) e)
      elsewhere false er false ea e = (room_in ∙ er, alone_in ∙ ea)

  view_of : Opened
  view_of = record { kind = w.a.kind; layout = Layout.New w.a.m; listings = w.a.listings }

  grows : Grows (record { kind = w.a.kind; layout = Layout.New w.a.m; listings = w.a.listings }) (Command.Rename w.a.from w.a.to) (g w)
  grows =
      let part = (edit_of.md (shown_of w)).part in
      asked.grows_by w.a.kind w.a.m w.a.listings w.a.seen.known.destination.listing (edit_of.place_as (shown_of w)) (Command.Rename w.a.from w.a.to) (growth_is (edit_of.q (shown_of w))) known w.a.nodes w.a.seen.sound w.a.seen.held
      w.a.seen.known.destination.listed part.tops part.kids part.left part.cut part.again part.same part.holder part.others part.told_by part.kept_by

  not_copied : is_copied_in (record { kind = w.a.kind; layout = Layout.New w.a.m; listings = w.a.listings }) w.a.from w.a.to w.a.seen.known.target.object ≡ false
  not_copied =
      plain_is (record { kind = w.a.kind; layout = Layout.New w.a.m; listings = w.a.listings }) w.a.nodes w.a.seen.sound w.a.seen.held w.a.from w.a.to w.a.r w.a.seen.known w.a.name w.a.seen.name_is (h w.a) refl
      (record { layout = refl; nodes = w.a.seen.held; owners = w.a.agreed.owned }) w.a.plain

  its_move : IsToMoveGrown (record { kind = w.a.kind; layout = Layout.New w.a.m; listings = w.a.listings }) w.a.from w.a.to (edit_of.md (shown_of w)).c (g w)
  its_move = asks_move (edit_of.plain (shown_of w)) (edit_of.md (shown_of w)) grows not_copied

  -- ---- the image

  module _ (m' : Map) (taken : IsTaken w.a.m w.p.ready m') (law : SafeSpaceLaw) (number : ℕ) (owners' : List Owner)
      (after : AreOwnersAfter (Layout.New m') w.a.nodes w.p.change (owners_admitted (Layout.New w.a.m) w.p.change.object number w.a.owners) owners')
      (lies : LiesBeside (growing w.a) w.s w.placed []) (put : IsPutThere (growing w.a) [] w.p.ready w.ready.early.made) (rooted : IfSome (root_of w.s.grown) (CanRoot w.a.m)) (writing : SafeWritingLaw) where
    module _ (disc : DiscRecord) (image : List ℕ) (new_kind : IsNewKind w.a.kind disc) (opens : OpensAs image w.a.kind (record { kind = w.a.kind; layout = Layout.New w.a.m; listings = w.a.listings }))
        (bytes image' : List ℕ) (there : IsThere (mapped w.a.m (image_of.by (growing w.a) disc image new_kind opens)) w.p.ready bytes m' image') where
      abbrev pub changed_image : SafeChange
      changed_image =
          image_of.changed_image (growing w.a) disc image new_kind opens w.s w.placed w.p.change (edit_of.tells (shown_of w)) w.p.ready w.ready [] lies put rooted m' taken law writing (nodes_after w.p.change number w.a.nodes) owners' bytes image' there

      abbrev e_move : Edit
      e_move = edit (edit_of.md (shown_of w)).c

      abbrev Told : Amended → Type 0
      Told b = (q : Says) × Contains w.p.change.says.items q × IsTold (growing w.a) q b.was.object × (p : Piece) × Contains w.ready.early.told p × IsPieceOfTold (growing w.a) w.s w.placed w.p.change (edit_of.tells (shown_of w)) w.p.ready w.ready q b.was.object p

      of_told : (b : Amended) → Contains (grown_edit_of e_move (g w)).amended b → (c : Bool) → is_same_path (g w).o.path b.was.object.path ≡ c → (t : Told b) → length t.3.bytes.items ≡ size_of b.content → is_directory_object b.was.object ≡ true → KeepsBody (e_move.turn b.was.object) b.was.object
          → size_of b.content ≡ directory_size (dir_form (Layout.New w.a.m)) (let k : Object = cond (is_same_path (g w).o.path b.was.object.path) (at_place (g w) (e_move.turn b.was.object)) (e_move.turn b.was.object) in k.entry.len)
          → AreWritten (object_bytes image' (Layout.New m') (object_in (Layout.New m') (cond (is_same_path (g w).o.path b.was.object.path) (at_place (g w) (e_move.turn b.was.object)) (e_move.turn b.was.object)))) (directory_in t.0.draft)
      of_told b at true e t long dir keeps size =
          let o_in = (edit_of.in_listed (shown_of w) b at) in
          let same : (g w).o ≡ b.was.object = same_object (Layout.New w.a.m) w.a.listings w.a.seen.sound (g w).o.path (g w).o b.was.object l_in o_in (itself (g w).o.path) e in
          let grows : is_grown (growing w.a) b.was.object ≡ true = subst (λ (k : Object). is_grown (growing w.a) k ≡ true) (sym (its w) ∙ same) (d_grown (growing w.a)) in
          let kind : is_directory_object (at_place (g w) (e_move.turn b.was.object)) ≡ true = ap is_directory keeps.attrs ∙ dir in
          let its_size : object_size (dir_form (Layout.New w.a.m)) (at_place (g w) (e_move.turn b.was.object)).entry ≡ w.a.growth.len =
          ap₂ (λ (c : Bool) (f : NameForm). cond c (directory_size f (g w).len) (g w).len) kind (form w.a) ∙ len_is w in
          let bytes_long : length t.3.bytes.items ≡ w.a.growth.len =
          long ∙ size ∙ ap (λ (c : Bool). directory_size (dir_form (Layout.New w.a.m)) (let k : Object = cond c (at_place (g w) (e_move.turn b.was.object)) (e_move.turn b.was.object) in k.entry.len)) e ∙ ap (λ (f : NameForm). directory_size f (g w).len) (form w.a) ∙ len_is w in
          subst (λ (c : Bool). AreWritten (object_bytes image' (Layout.New m') (object_in (Layout.New m') (cond c (at_place (g w) (e_move.turn b.was.object)) (e_move.turn b.was.object)))) (directory_in t.0.draft)) (sym e)
          (subst (λ (ns : List ℕ). AreWritten ns (directory_in t.0.draft))
          (sym (image_of.grown_bytes (growing w.a) w.s w.placed w.p.change (edit_of.tells (shown_of w)) w.p.ready w.ready m' taken law (nodes_after w.p.change number w.a.nodes) owners' writing
          (image_of.by (growing w.a) disc image new_kind opens) refl refl bytes image' there b.was.object grows t.0 t.3 t.4 t.5 (at_place (g w) (e_move.turn b.was.object)) its_size refl bytes_long)) t.5.drafted.bytes)
      of_told b at false e t long dir keeps size =
          let o_in = (edit_of.in_listed (shown_of w) b at) in
          let plain = none_grown w b.was.object o_in e in
          let bytes_long : length t.3.bytes.items ≡ object_size (dir_form (Layout.New w.a.m)) b.was.object.entry =
          long ∙ size ∙ ap (λ (c : Bool). directory_size (dir_form (Layout.New w.a.m)) (let k : Object = cond c (at_place (g w) (e_move.turn b.was.object)) (e_move.turn b.was.object) in k.entry.len)) e
          ∙ ap (directory_size (dir_form (Layout.New w.a.m))) keeps.len ∙ sym (ap (λ (c : Bool). cond c (directory_size (dir_form (Layout.New w.a.m)) b.was.object.entry.len) b.was.object.entry.len) dir) in
          subst (λ (c : Bool). AreWritten (object_bytes image' (Layout.New m') (object_in (Layout.New m') (cond c (at_place (g w) (e_move.turn b.was.object)) (e_move.turn b.was.object)))) (directory_in t.0.draft)) (sym e)
          (subst (λ (ns : List ℕ). AreWritten ns (directory_in t.0.draft))
          (sym (image_of.dir_there (growing w.a) w.s w.placed w.p.change (edit_of.tells (shown_of w)) w.p.ready w.ready m' taken law (nodes_after w.p.change number w.a.nodes) owners' writing
          (image_of.by (growing w.a) disc image new_kind opens) refl refl bytes image' there b.was.object (edit_of.in_tells (shown_of w) b ((edit_of.md (shown_of w)).part.among b at)) plain t.0 t.3 t.4 t.5 bytes_long)) t.5.drafted.bytes)

      -- what each directory of the edit has
      told_there : (b : Amended) → Contains (grown_edit_of e_move (g w)).amended b → AreWritten (object_bytes image' (Layout.New m') (object_in (Layout.New m') (regrown e_move (g w) b.was.object))) b.content
      told_there b at =
          let part = (edit_of.md (shown_of w)).part in
          let order = part.among b at in
          let f = said_now (edit_of.q (shown_of w)) (become (edit_of.q (shown_of w)) e_move) (up_in (edit_of.q (shown_of w)) (it (edit_of.q (shown_of w)))) part.order (part.said ∷ part.others_said) (part.ready.own ∷ part.ready.pieces) part.all b order in
          let t = piece_of_told (growing w.a) w.s w.placed w.p.change (edit_of.tells (shown_of w)) w.p.ready w.ready b.was.object (edit_of.in_tells (shown_of w) b order) in
          let s_in = edit_of.said_in (shown_of w) b order in
          let same_node : s_in.0.node ≡ t.0.node = same_some s_in.0.node t.0.node (sym s_in.2 ∙ t.2.is.number) in
          let same = one_said (growing w.a) w.p.change.says.items (edit_of.tells (shown_of w)).ds (edit_of.tells (shown_of w)).are (edit_of.tells (shown_of w)).once s_in.0 t.0 s_in.1 t.1 same_node in
          let content : b.content ≡ directory_in t.0.draft = s_in.3 ∙ ap (λ (q : Says). directory_in q.draft) same in
          let dir = (listed_directory (Layout.New w.a.m) w.a.listings w.a.seen.sound b.was f.3.found).1 in
          let size = say_law.size (Layout.New w.a.m) (become (edit_of.q (shown_of w)) e_move b.was.object) b.content f.3.can in
          subst (λ (c : Directory). AreWritten (object_bytes image' (Layout.New m') (object_in (Layout.New m') (regrown e_move (g w) b.was.object))) c) (sym content)
          (of_told b at (is_same_path (g w).o.path b.was.object.path) refl t (t.5.drafted.length_is ∙ ap size_of (sym content)) dir (part.keeps b.was f.3.found) size)

      copied_there : (o : Object) → Contains (objects_of w.a.listings) o → is_moved (moves_in changed_image.parts) o ≡ true → IsUnamended (grown_edit_of e_move (g w)) o
          → AreCopied w.a.m.geometry.sector image image' o.sectors (object_in (Layout.New m') o).sectors
      copied_there o at moves none =
          let other : (p : Object) → Contains (edit_of.tells (shown_of w)).ds p → p ≡ o → ⊥ =
          λ p in_ds same. (let b = edit_of.of_tells (shown_of w) p in_ds in none b.0 ((edit_of.md (shown_of w)).part.back b.0 b.1) (b.2 ∙ same)) in
          let plain = not_grown (growing w.a) w.s w.placed w.p.change (edit_of.tells (shown_of w)) w.p.ready w.ready o (untold (growing w.a) w.s w.placed w.p.change (edit_of.tells (shown_of w)) w.p.ready w.ready o at other) in
          image_of.copied_as (growing w.a) w.s w.placed w.p.change (edit_of.tells (shown_of w)) w.p.ready w.ready m' taken law (nodes_after w.p.change number w.a.nodes) owners' writing
          (image_of.by (growing w.a) disc image new_kind opens) refl refl bytes image' there o at moves (λ some. stays_in w o plain (id_of o.entry.address) refl) other

      module _ (recorded : IsRecorded changed_image (g w)) where
        pub done : SafeGrownMoving
        unfolding parts
        done = record {
          x = changed_image;
          parts = parts w m' taken law number owners' after;
          from = w.a.from;
          to = w.a.to;
          recorded = recorded;
          its = its_move;
          entries = (edit_of.md (shown_of w)).entries;
          says = λ b at.
              subst (λ (o : Object). IsRewritten (Command.Rename w.a.from w.a.to) b.was.object.path (up_in (edit_of.q (shown_of w)) o b.was.object.path) b.was.content b.content) (sym (edit_of.md (shown_of w)).o_is)
              (says_all (edit_of.e (shown_of w)) (edit_of.md (shown_of w)).part b at);
          there = told_there;
          copied = copied_there;
        }

        pub tree : SafeGrownMovingLaw → HasTree w.a.kind (changed (tree_of image (Layout.New w.a.m) w.a.listings) (Command.Rename w.a.from w.a.to)) image'
        unfolding done parts
        tree moving = moving.tree done

        pub outcome : SafeGrownMovingLaw → TakesForGrowth changed_image.parts (Command.Rename w.a.from w.a.to) (g w) → IsWholeGrown changed_image (g w)
            → SafeOutcome w.a.kind image image' (record { kind = w.a.kind; layout = Layout.New w.a.m; listings = w.a.listings }) (Command.Rename w.a.from w.a.to) (parts_with m' (nodes_after w.p.change number w.a.nodes) owners')
        unfolding done parts
        outcome moving takes whole = moving.outcome done takes whole
