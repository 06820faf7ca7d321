-- An entry comes to a directory that grows, in the safe mode: what then stands in the image.
use Rattle.std.proofs.Common.{◌≡◌, ◌<◌, ◌≤◌, ◌*◌, ◌==◌, ◌⊎◌, ◌++◌, inl, inr, ⊎_elim, ℕ, zero, suc, Bool, true, false, cond, List, [], ◌∷◌, length, refl, sym, ap, ap₂, subst, ◌∙◌, arith, eq-eqb, Option, Some, None}
use Rattle.std.specs.Prelude.{Contains, IfSome}
use Rattle.std.specs.FinMap.{get}
use Rattle.std.specs.Int.{div_ceil}
use Rattle.std.proofs.lemmas.List.Elements.{Contains-append_right}
use Rattle.fc_names.specs.Names.{is_same_path}
use Rattle.fc_alloc.specs.declared.owner.Owner.{Owner}
use Rattle.fc_record.specs.declared.DiscRecord.{DiscRecord}
use Rattle.fc_record.specs.declared.Geometry.{Geometry}
use Rattle.fc_newmap.specs.Map.{Map}
use Rattle.fc_dirs.specs.Directory.{Directory}
use Rattle.fc_drafts.specs.Draft.{directory_in, size_of}
use Rattle.fc_holdings.specs.Holdings.{TellsVersion}
use Rattle.fc_image.specs.Edits.{IsAt}
use Rattle.fc_image.specs.Layout.{Layout, bytes_in, dir_form}
use Rattle.fc_image.specs.Moves.{object_in, sectors_or_none}
use Rattle.fc_image.specs.Objects.{has_sectors, objects_of}
use Rattle.fc_image.specs.Stays.{IsNewKind, OpensAs}
use Rattle.fc_image.specs.Walk.{Listing, Object, is_directory_object, object_bytes, object_size}
use Rattle.fc_image.specs.effects.Steady.{AreWritten}
use Rattle.fc_image.proofs.EntriesLemmas.{cases as contains_cases, later as contains_later}
use Rattle.fc_image.proofs.PathsLemmas.{itself}
use Rattle.fc_changes.proofs.BasicLemmas.{clash}
use Rattle.fc_laws.specs.agree.Agreed.{CanSay}
use Rattle.fc_laws.proofs.lemmas.takeover.WriteLemmas.{written_bytes_law}
use Rattle.fc_edits.specs.Addition.{edit}
use Rattle.fc_edits.specs.Edit.{Amended}
use Rattle.fc_edits.specs.Growing.{at_place, regrown}
use Rattle.fc_edits.specs.GrownAddition.{grown_edit}
use Rattle.fc_edits.specs.Places.{Stays}
use Rattle.fc_placing.proofs.CopyingLemmas.{dirs_same}
use Rattle.fc_outcomes.specs.Puts.{Put}
use Rattle.fc_tree.specs.Nodes.{number_of}
use Rattle.fc_tree.proofs.MemberLemmas.{contains_here, no_element}
use Rattle.fc_tree.proofs.SoundLemmas.{same_object}
use Rattle.fc_tree.proofs.WalkedLemmas.{listed_directory, same_some}
use Rattle.fc_writing.specs.declared.ready.Piece.{Piece}
use Rattle.fc_writing.specs.declared.ready.Source.{Source}
use Rattle.fc_writing.specs.Content.{stored as content_stored}
use Rattle.fc_writing.specs.New.{IsTaken}
use Rattle.fc_writing.specs.Ready.{place_of, source_content}
use Rattle.fc_writing.specs.Steps.{CanRoot}
use Rattle.fc_change.specs.declared.change.Says.{Says}
use Rattle.fc_change.specs.After.{AreOwnersAfter, nodes_after, owners_admitted}
use Rattle.fc_change.specs.GrownSpace.{root_of}
use Rattle.fc_change.specs.Prepared.{IsDrafted}
use Rattle.fc_commands.specs.Given.{filled}
use Rattle.fc_commands.proofs.ArrivalLemmas.{Arrival, Brings}
use Rattle.fc_commands.proofs.FilledLemmas.{stored_filled}
use Rattle.fc_commands.proofs.GrownComerLemmas.{WritesIt, given_to}
use Rattle.fc_commands.proofs.NodeLemmas.{size_of_form}
use Rattle.fc_commands.proofs.PutLemmas.{source_puts}
use Rattle.fc_safelaws.specs.Relaid.{AreCopied}
use Rattle.fc_safecrash.specs.Crash.{IsThere}
use Rattle.fc_safeedits.specs.Relocation.{is_moved}
use Rattle.fc_safeedits.specs.SafeChange.{SafeChange, moves_in}
use Rattle.fc_safeedits.specs.SafeImage.{IsUnamended}
use Rattle.fc_safeedits.specs.SafeSpace.{SafeSpaceLaw}
use Rattle.fc_safeedits.specs.SafeWriting.{SafeWritingLaw}
use Rattle.fc_safeedits.specs.SafeGrownAddition.{SafeGrownAddition}
use Rattle.fc_safeedits.specs.SafeGrowth.{IsRecorded}
use Rattle.fc_safecommands.specs.Laws.{mapped}
use Rattle.fc_safecommands.proofs.GrownAddedLemmas as parts_of
use Rattle.fc_safecommands.proofs.GrownAddedLemmas.{l_dir, l_grown, one}
use Rattle.fc_safecommands.proofs.GrownArrivalLemmas.{growing, sound as sound_of}
use Rattle.fc_safecommands.proofs.GrownArrivalStageLemmas.{first}
use Rattle.fc_safecommands.proofs.GrownComesLemmas.{GrownRun, e, o, own, p, place, sectors, tells, writes}
use Rattle.fc_safecommands.proofs.GrownEditionLemmas.{c_add, ge, grows}
use Rattle.fc_safecommands.proofs.GrownImageLemmas as image_of
use Rattle.fc_safecommands.proofs.GrownLaidLemmas.{is_grown}
use Rattle.fc_safecommands.proofs.GrownObjectSpotLemmas.{IsSpot}
use Rattle.fc_safecommands.proofs.GrownOldLemmas.{ready, tells_these, written}
use Rattle.fc_safecommands.proofs.GrownPutLemmas.{IsPutThere}
use Rattle.fc_safecommands.proofs.GrownSpotLemmas.{grown_is}
use Rattle.fc_safecommands.proofs.GrownStirLemmas.{GrowingJob, IsChanged}
use Rattle.fc_safecommands.proofs.GrownWaysLemmas as ways
use Rattle.fc_safecommands.proofs.GrownWordsLemmas as words_of
use Rattle.fc_safecommands.proofs.GrownWrittenLemmas.{IsTold, told_of}
use Rattle.fc_safecommands.proofs.OldPieceLemmas.{source_there}

module _ (w : GrownRun) (number : ℕ) (free : get w.a.nodes number ≡ None) (at_spot : IsSpot (growing w.a) w.s w.placed (o w)) (law : SafeSpaceLaw) (m' : Map) (taken : IsTaken w.a.m w.r m') (owners' : List Owner)
    (after : AreOwnersAfter (Layout.New m') w.a.nodes w.c (owners_admitted (Layout.New w.a.m) w.c.object number w.a.owners) owners') (put : IsPutThere (growing w.a) (sectors w) w.r w.ready.early.made) (rooted : IfSome (root_of w.s.grown) (CanRoot w.a.m))
    (bytes : List ℕ) (brings : Brings w.a.x w.a.path bytes w.a.command) (writing : SafeWritingLaw) (disc : DiscRecord) (image : List ℕ) (new_kind : IsNewKind w.a.kind disc)
    (opens : OpensAs image w.a.kind (record { kind = w.a.kind; layout = Layout.New w.a.m; listings = w.a.listings })) (image' : List ℕ) (there : IsThere (mapped w.a.m (image_of.by (growing w.a) disc image new_kind opens)) w.r bytes m' image') where
  abbrev x : GrowingJob
  x = growing w.a

  abbrev l : Listing
  l = w.a.spot.listing

  abbrev stored : List ℕ
  stored = (words_of.its w number bytes brings).stored

  abbrev pub change : SafeChange
  change = image_of.changed_image (growing w.a) disc image new_kind opens w.s w.placed w.c (tells_these w) w.r w.ready (sectors w) at_spot.lies put rooted m' taken law writing (nodes_after w.c number w.a.nodes) owners' bytes image' there

  same : m'.geometry ≡ w.a.m.geometry
  same = parts_of.same w number free at_spot law m' taken owners' after

  lies_now : IsAt (Layout.New m') (o w)
  lies_now = parts_of.lies_now w number free at_spot law m' taken owners' after

  -- ---- the object

  size_now : object_size (dir_form (Layout.New m')) (o w).entry ≡ length (words_of.its w number bytes brings).stored
  size_now = ap (λ (f : Geometry). object_size (dir_form (Layout.New (record { geometry = f; zones = [] }))) (o w).entry) same ∙ sym (words_of.stored_long w number bytes brings)

  room_own : length (words_of.its w number bytes brings).stored ≤ length (sectors w) * w.a.m.geometry.sector
  room_own =
      subst (λ (n : ℕ). n ≤ length (sectors w) * w.a.m.geometry.sector) size_now
      (subst (λ (g : Geometry). object_size (dir_form (Layout.New m')) (o w).entry ≤ length (sectors w) * g.sector) same (written_bytes_law.room m' (o w) change.parts.is_map lies_now))

  own_there : bytes_in w.a.m.geometry.sector image' (sectors w) (length (words_of.its w number bytes brings).stored) ≡ (words_of.its w number bytes brings).stored
  own_there = elim (words_of.its w number bytes brings).some [
    | inl made ↦
        (let own = (words_of.its w number bytes brings).makes made.0 made.1 in
        let among : Contains w.r.early.items made.0 = subst (λ (ps : List Piece). Contains ps made.0) (sym w.ready.early.all) (Contains-append_right w.ready.early.told w.ready.early.made made.0 made.1) in
        let long : length made.0.bytes.items ≤ length (place_of made.0) * w.a.m.geometry.sector =
        subst (λ (ss : List ℕ). length made.0.bytes.items ≤ length ss * w.a.m.geometry.sector) (sym own.0) (subst (λ (bs : List ℕ). length bs ≤ length (sectors w) * w.a.m.geometry.sector) (sym own.1) room_own) in
        ap₂ (λ (ss bs : List ℕ). bytes_in w.a.m.geometry.sector image' ss (length bs)) (sym own.0) (sym own.1)
        ∙ writing.pieces (mapped w.a.m (image_of.by x disc image new_kind opens)) w.r bytes m' image' made.0 there among long ∙ own.1)
    | inr source ↦ by w.a.x (writes w) source
  ]
    where
      by : (y : Arrival) → WritesIt y (own w) (place w) w.ready.early.made w.r.source → Contains (source_puts w.r.source (given_to y bytes)) (let q : Put = record { sectors = sectors w; bytes = stored } in q)
          → bytes_in w.a.m.geometry.sector image' (sectors w) (length stored) ≡ stored
      by Arrival.Makes is at = absurd (no_element _ (subst (λ (k : Source). Contains (source_puts k bytes) (let q : Put = record { sectors = sectors w; bytes = stored } in q)) is.6 at))
      by (Arrival.Saves ws) is at =
          let q : Put = record { sectors = sectors w; bytes = stored } in
          let f : Put = record { sectors = sectors w; bytes = filled ws.len bytes } in
          let one' : f ≡ q = ⊎_elim (λ here. here) (λ none. absurd (no_element q none)) (contains_cases f q [] (subst (λ (k : Source). Contains (source_puts k (filled ws.len bytes)) q) is.1 at)) in
          let as_filled : stored ≡ filled ws.len bytes = ap (λ (k : Put). k.bytes) (sym one') in
          source_there (mapped w.a.m (image_of.by x disc image new_kind opens)) w.r bytes m' image' (sectors w) stored there
          (ap (source_content w.a.m.geometry.sector image bytes) is.1 ∙ stored_filled w.a.m.geometry.sector ws.len (sectors w) bytes ∙ ap (content_stored w.a.m.geometry.sector (sectors w)) (sym as_filled)) room_own

  pub stored_there : object_bytes image' (Layout.New m') (o w) ≡ (words_of.its w number bytes brings).stored
  stored_there = (λ j. bytes_in (same j).sector image' (sectors w) (size_now j)) ∙ own_there

  -- ---- the directories

  abbrev if_same : Bool → Object → Object → Object
  if_same b q k = cond b k q

  not_it : (q : Object) → Contains (objects_of w.a.listings) q → (l.object ≡ q → ⊥) → is_grown x q ≡ false
  not_it q among other = by (is_grown x q) refl
    where
      by : (b : Bool) → is_grown x q ≡ b → b ≡ false
      by false e' = refl
      by true e' = absurd (other (sym (one w) ∙ grown_is x q among e'))

  pub dir_there : (am : Amended) → Contains (grown_edit (c_add w number) (grows w number)).amended am
      → AreWritten (object_bytes image' (Layout.New m') (object_in (Layout.New m') (regrown (edit (c_add w number)) (grows w number) am.was.object))) am.content
  dir_there am at = by (is_same_path l.object.path am.was.object.path) refl
    where
      t : (q : Says) × (i : Contains w.c.says.items q) × ((written w q i).0 ≡ am.was.object) × (am.content ≡ directory_in q.draft)
      t = parts_of.told_by w number free at_spot law m' taken owners' after am at

      s : (q : Says) × Contains w.c.says.items q × (n : Piece) × parts_of.Said w number free at_spot law m' taken owners' after am q n
      s = parts_of.it_says w number free at_spot law m' taken owners' after am at

      among : Contains (objects_of w.a.listings) am.was.object
      among = (listed_directory (Layout.New w.a.m) w.a.listings (sound_of w.a) am.was s.3.found).0

      -- its bytes are those of what it says
      bytes_are : AreWritten (written w t.0 t.1).3.bytes.items am.content
      bytes_are = subst (AreWritten (written w t.0 t.1).3.bytes.items) (sym t.3) (written w t.0 t.1).5.drafted.bytes

      long : (k : Object) → is_directory_object k ≡ true → CanSay (Layout.New w.a.m) k am.content → length (written w t.0 t.1).3.bytes.items ≡ object_size (dir_form (Layout.New w.a.m)) k.entry
      long k dir can = (written w t.0 t.1).5.drafted.length_is ∙ ap size_of (sym t.3) ∙ size_of_form (dir_form (Layout.New w.a.m)) k.entry am.content can.form dir

      was_dir : is_directory_object am.was.object ≡ true
      was_dir = (listed_directory (Layout.New w.a.m) w.a.listings (sound_of w.a) am.was s.3.found).1

      by : (b : Bool) → is_same_path l.object.path am.was.object.path ≡ b → AreWritten (object_bytes image' (Layout.New m') (object_in (Layout.New m') (regrown (edit (c_add w number)) (grows w number) am.was.object))) am.content
      by true e =
          let it : l.object ≡ am.was.object = same_object (Layout.New w.a.m) w.a.listings (sound_of w.a) l.object.path l.object am.was.object (parts_of.of w).there among (itself l.object.path) e in
          let is_it : is_grown x (written w t.0 t.1).0 ≡ true = subst (λ (q : Object). is_grown x q ≡ true) (it ∙ sym t.2) (l_grown w) in
          let k : Object = ways.placed_in x w.s w.placed am.was.object (subst (IsChanged x w.a.growth.node) it (parts_of.of w)) (parts_of.l_at w ∙ ap (λ (q : Object). q.entry.address) it) was_dir (grows w number).sectors in
          let size : object_size (dir_form (Layout.New w.a.m)) k.entry ≡ w.a.growth.len =
          ways.size_is x w.s w.placed am.was.object (subst (IsChanged x w.a.growth.node) it (parts_of.of w)) (parts_of.l_at w ∙ ap (λ (q : Object). q.entry.address) it) was_dir (grows w number).sectors in
          let then : regrown (edit (c_add w number)) (grows w number) am.was.object ≡ k =
          ap (λ (b : Bool). let q : Object = if_same b am.was.object k in q) e in
          subst (λ (q : Object). AreWritten (object_bytes image' (Layout.New m') (object_in (Layout.New m') q)) am.content) (sym then)
          (subst (λ (bs : List ℕ). AreWritten bs am.content)
          (sym (image_of.grown_bytes x w.s w.placed w.c (tells_these w) w.r w.ready m' taken law (nodes_after w.c number w.a.nodes) owners' writing (image_of.by x disc image new_kind opens) refl refl bytes image' there (written w t.0 t.1).0 is_it t.0 (written w t.0 t.1).3
          (written w t.0 t.1).4 (written w t.0 t.1).5 k size refl (long k was_dir (subst (λ (q : Object). CanSay (Layout.New w.a.m) q am.content) then s.3.can) ∙ size))) bytes_are)
      by false e =
          let plain : is_grown x (written w t.0 t.1).0 ≡ false = not_it (written w t.0 t.1).0 (written w t.0 t.1).2.is.there (λ it. clash (is_same_path l.object.path am.was.object.path) (ap (λ (q : Object). is_same_path l.object.path q.path) (sym t.2 ∙ sym it) ∙ itself l.object.path) e) in
          let then : regrown (edit (c_add w number)) (grows w number) am.was.object ≡ am.was.object =
          ap (λ (b : Bool). let q : Object = if_same b am.was.object (at_place (grows w number) am.was.object) in q) e in
          subst (λ (q : Object). AreWritten (object_bytes image' (Layout.New m') (object_in (Layout.New m') q)) am.content) (sym then)
          (subst (λ (bs : List ℕ). AreWritten bs am.content)
          (sym (ap (λ (q : Object). object_bytes image' (Layout.New m') (object_in (Layout.New m') q)) (sym t.2)
          ∙ image_of.dir_there x w.s w.placed w.c (tells_these w) w.r w.ready m' taken law (nodes_after w.c number w.a.nodes) owners' writing (image_of.by x disc image new_kind opens) refl refl bytes image' there (written w t.0 t.1).0 (written w t.0 t.1).1 plain t.0 (written w t.0 t.1).3
          (written w t.0 t.1).4 (written w t.0 t.1).5
          (long am.was.object was_dir (subst (λ (q : Object). CanSay (Layout.New w.a.m) q am.content) then s.3.can) ∙ ap (λ (q : Object). object_size (dir_form (Layout.New w.a.m)) q.entry) (sym t.2)))) bytes_are)

  -- ---- what is copied

  -- each directory that is told something says something else
  amended_of : (q : Says) → Contains w.c.says.items q → (am : Amended) × Contains (grown_edit (c_add w number) (grows w number)).amended am × (am.number ≡ q.node)
  amended_of q at =
      let r = back_at (ge w number).said ((tells w).said ∷ (tells w).others) ((ready w).own ∷ (ready w).pieces) (ge w number).all q (subst (λ (qs : List Says). Contains qs q) (tells w).says at) in
      (r.0, (ge w number).back r.0 r.1, r.2)
    where
      back_at : (ams : List Amended) (qs : List Says) (ps : List Piece) → parts_of.All w number free at_spot law m' taken owners' after ams qs ps → (k : Says) → Contains qs k → (am : Amended) × Contains ams am × (am.number ≡ k.node)
      back_at [] [] ps all k i = absurd (no_element k i)
      back_at [] (q' ∷ qs) ps all k i = absurd all
      back_at (b ∷ ams) [] ps all k i = absurd all
      back_at (b ∷ ams) (q' ∷ qs) [] all k i = absurd all
      back_at (b ∷ ams) (q' ∷ qs) (n ∷ ps) all k (zero, low, f) = (b, contains_here b ams, all.0.number_is ∙ ap (λ (u : Says). u.node) f)
      back_at (b ∷ ams) (q' ∷ qs) (n ∷ ps) all k (suc i, low, f) = let r = back_at ams qs ps all.1 k (i, omega (arith, low), f) in (r.0, contains_later b r.0 ams r.1, r.2)

  pub copied : (q : Object) → Stays w.a.nodes w.a.listings (grown_edit (c_add w number) (grows w number)) q → is_moved (moves_in change.parts) q ≡ true
      → IsUnamended (grown_edit (c_add w number) (grows w number)) q → AreCopied w.a.m.geometry.sector image image' q.sectors (object_in (Layout.New m') q).sectors
  copied q stays moves plain =
      image_of.copied_as x w.s w.placed w.c (tells_these w) w.r w.ready m' taken law (nodes_after w.c number w.a.nodes) owners' writing (image_of.by x disc image new_kind opens) refl refl bytes image' there q stays.among moves
      (λ some. parts_of.remains_plain w q (parts_of.plain_stays w number free at_spot law m' taken owners' after q stays))
      (λ d at same'.
      (let t = told_of x w.c.says.items (tells_these w).ds d (tells_these w).are at in
      let am = amended_of t.0 t.1 in
      let found = (parts_of.it_says w number free at_spot law m' taken owners' after am.0 am.1).3.found in
      let among = (listed_directory (Layout.New w.a.m) w.a.listings (sound_of w.a) am.0.was found).0 in
      let number_then = ((parts_of.edited w number free at_spot law m' taken owners' after).amends am.0 am.1).number_is ∙ ap (λ (n : ℕ). let o : Option ℕ = Some n in o) am.2 in
      plain am.0 am.1 (same_object (Layout.New w.a.m) w.a.listings (sound_of w.a) am.0.was.object.path am.0.was.object d among t.2.is.there (itself am.0.was.object.path)
      (sym (dirs_same w.a.nodes am.0.was.object.path d.path t.0.node t.0.node number_then t.2.is.number) ∙ eq-eqb t.0.node t.0.node refl) ∙ same')))

  -- ---- all of it

  abbrev pub addition : IsRecorded change (grows w number) → SafeGrownAddition
  addition recorded = record {
    x = change;
    parts = parts_of.added w number free at_spot law m' taken owners' after;
    command = w.a.command;
    path = w.a.path;
    stored = (words_of.its w number bytes brings).stored;
    recorded = recorded;
    grows = words_of.it_grows w number bytes brings;
    path_is = words_of.path_is w number bytes brings;
    stood = w.a.spot.absent;
    entry = words_of.entry w number bytes brings;
    is_its = words_of.is_its w number bytes brings;
    says = words_of.says w number bytes brings;
    own = words_of.says_own w number bytes brings;
    there = dir_there;
    stored_there = stored_there;
    copied = copied;
  }
