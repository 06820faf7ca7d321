-- `rename` in the safe mode that copies its file: the parts after it, what it takes and gives back, and what then stands in the image.
use Rattle.std.proofs.Common.{◌≡◌, ◌==◌, ◌&&◌, ◌||◌, inr, ℕ, zero, suc, Bool, true, false, not, cond, List, [], ◌∷◌, ◌++◌, find, length, remove, refl, sym, ap, ap₂, subst, ◌∙◌, arith, eq-eqb, Option, Some, None}
use Rattle.std.specs.Prelude.{Contains, IsPermutation}
use Rattle.std.specs.Int.{div_ceil}
use Rattle.std.specs.List.{list_any}
use Rattle.std.specs.Option.{option_map, unwrap_or}
use Rattle.std.proofs.lemmas.Bool.{eqb-true, ne_eqb}
use Rattle.std.proofs.lemmas.List.Sorted.{IsPermutation-refl, IsPermutation-remove}
use Rattle.fc_names.specs.declared.name.NameForm.{NameForm}
use Rattle.fc_alloc.specs.declared.owner.Owner.{Owner}
use Rattle.fc_alloc.specs.Owners.{is_node}
use Rattle.fc_record.specs.declared.Geometry.{Geometry}
use Rattle.fc_newmap.specs.Map.{Map, is_used}
use Rattle.fc_dirs.specs.declared.Entry.{Entry}
use Rattle.fc_drafts.specs.Entries.{renamed_entry}
use Rattle.fc_model.specs.Command.{Command}
use Rattle.fc_image.specs.Edits.{IsAt}
use Rattle.fc_image.specs.Layout.{Layout, dir_form, id_of, is_among, sectors_at}
use Rattle.fc_image.specs.Objects.{has_sectors, is_owner_of, objects_of}
use Rattle.fc_image.specs.Opening.{Opened}
use Rattle.fc_image.specs.Walk.{Object, object_size}
use Rattle.fc_image.proofs.HolesLemmas.{apart_at, apart_from}
use Rattle.fc_plan.specs.declared.plan.Plan.{Plan}
use Rattle.fc_plan.specs.Applied.{IsTakenIn}
use Rattle.fc_placing.specs.Leaving.{is_kept}
use Rattle.fc_changes.specs.Space.{IsMapEdited}
use Rattle.fc_placing.proofs.LeavingLemmas.{others_are}
use Rattle.fc_tree.specs.Agree.{Agree}
use Rattle.fc_tree.specs.Parts.{owner_of}
use Rattle.fc_tree.proofs.MemberLemmas.{contains_here, found_passes}
use Rattle.fc_laws.specs.nodes.Edits.{Nodes, OwnersEdited, owner_with, owners_with}
use Rattle.fc_laws.specs.agree.Agreed.{parts_with}
use Rattle.fc_laws.proofs.lemmas.agree.CutLemmas.{cut_law}
use Rattle.fc_laws.proofs.lemmas.nodes.OwnerLemmas.{owner_law}
use Rattle.fc_edits.specs.Copying.{Copying, copied, edit}
use Rattle.fc_edits.specs.Edit.{Amended}
use Rattle.fc_edits.specs.NewPlaces.{GivesBack, is_taken, LiesAgain}
use Rattle.fc_edits.specs.Places.{Stays}
use Rattle.fc_edits.proofs.lemmas.CopyingLemmas.{copying_law, is_copy}
use Rattle.fc_writing.specs.declared.ready.Ready.{Ready}
use Rattle.fc_writing.specs.New.{IsTaken}
use Rattle.fc_change.specs.declared.change.Change.{Change}
use Rattle.fc_change.specs.declared.change.Turned.{Turned}
use Rattle.fc_change.specs.declared.spaces.Spaces.{Spaces}
use Rattle.fc_change.specs.After.{AreOwnersAfter, CanTurnOwner, nodes_after, owners_admitted}
use Rattle.fc_change.specs.Drafts.{IsChangeOf}
use Rattle.fc_change.specs.GrownSpace.{place_of_plan}
use Rattle.fc_commands.proofs.CopyingEditLemmas.{nodes_are}
use Rattle.fc_commands.proofs.CopyingOwnerLemmas.{admitted, can_turn, edited as owner_edited}
use Rattle.fc_commands.proofs.MoveLemmas.{among, h as held_by, k, o}
use Rattle.fc_commands.proofs.OwnerLemmas.{owner_is}
use Rattle.fc_commands.proofs.StayingLemmas.{count}
use Rattle.fc_safe.specs.FirstNeeds.{first_gone}
use Rattle.fc_safe.specs.FirstSpace.{ArePlacedFirst}
use Rattle.fc_safe.specs.Staying.{remains}
use Rattle.fc_safelaws.specs.Relaid.{Reaches}
use Rattle.fc_safeedits.specs.Relocation.{is_moved}
use Rattle.fc_safeedits.specs.SafeChange.{MovedParts, moves_in}
use Rattle.fc_safeedits.specs.SafeSpace.{SafeSpaceLaw, takings_of}
use Rattle.fc_safeedits.specs.SafeCopying.{CopiedParts, SafeCopyingLaw}
use Rattle.fc_safecommands.specs.Anew.{IsReadyAnew}
use Rattle.fc_safecommands.proofs.CopyMoveChangeLemmas.{address, cp, e, none, sectors, tells, turned}
use Rattle.fc_safecommands.proofs.CopyMoveLemmas.{CopyMove, bytes_is, file, it, job, leaving_is}
use Rattle.fc_safecommands.proofs.CopyMovePlaceLemmas.{beside, id_is, leads_there, new_unused, no_slack, spot}
use Rattle.fc_safecommands.proofs.OldPlaceLemmas.{any_alike}
use Rattle.fc_safecommands.proofs.StirredChangeLemmas.{exactly}
use Rattle.fc_safecommands.proofs.StirredLaidLemmas.{IsStaying, staying}
use Rattle.fc_safecommands.proofs.StirredLemmas.{StirredJob, leaving, moves}
use Rattle.fc_names.specs.declared.name.NameForm.TheVariants as forms
use Rattle.fc_edits.specs.NewNodes as edited
use Rattle.fc_change.specs.declared.change.Turned.TheVariants as turns
use Rattle.fc_change.specs.declared.job.Job.TheVariants as jobs
use Rattle.fc_commands.proofs.TargetLemmas as target_of
use Rattle.fc_safecommands.proofs.StirredImageLemmas as im
use Rattle.fc_safecommands.proofs.StirredStepLemmas as step_of
use Rattle.fc_changes.proofs.BasicLemmas.{and_false}

module _ (c : CopyMove) (s : Spaces) (placed : ArePlacedFirst c.m (parts_with c.m c.nodes c.owners) (jobs.Move c.r) c.wants s) (ch : Change) (is_change : IsChangeOf (parts_with c.m c.nodes c.owners) (jobs.Move c.r) c.name s ch) (r : Ready)
    (ready : IsReadyAnew c.m (parts_with c.m c.nodes c.owners) c.wants ch s r) where
  abbrev x : StirredJob
  x = job c

  abbrev v : Opened
  v = record { kind = c.kind; layout = Layout.New c.m; listings = c.listings }

  abbrev command : Command
  command = Command.Rename c.from c.to

  abbrev c' : Copying
  c' = e c s placed ch is_change r ready

  abbrev pub copy : Object
  copy = copied (e c s placed ch is_change r ready) (e c s placed ch is_change r ready).o

  -- ---- the file, under its name and where it is copied

  pub entry_now : (copied (e c s placed ch is_change r ready) (e c s placed ch is_change r ready).o).entry ≡ renamed_entry (o (Layout.New c.m) c.nodes c.listings c.from c.to c.r c.name c.seen).entry c.name (spot c s placed).place.address
  entry_now = let p = cp c s placed ch is_change r ready in p.is.entry ∙ ap (renamed_entry (it c).entry c.name) p.address_is

  sectors_now : copy.sectors ≡ place_of_plan c.m.geometry (spot c s placed).plan c.wants.bytes
  sectors_now = ap (λ (y : Object). y.sectors) (is_copy c') ∙ (cp c s placed ch is_change r ready).sectors_are ∙ (spot c s placed).sectors

  address_now : copy.entry.address ≡ (spot c s placed).place.address
  address_now = ap (λ (d : Entry). d.address) entry_now

  pub id_now : id_of copy.entry.address ≡ (spot c s placed).plan.id
  id_now = ap id_of address_now ∙ id_is c s placed

  turned_now : ch.object ≡ turns.Turns c.r.target.node c.r.holder copy.entry
  turned_now = turned c s placed ch is_change r ready ∙ ap (turns.Turns c.r.target.node c.r.holder) (sym entry_now)

  -- Nobody else has its identifier.
  pub not_owner : (k : ℕ) → is_used c.m k ≡ true → is_owner_of k copy ≡ false
  not_owner k used = ap (λ (b : Bool). has_sectors copy && b) (ne_eqb (id_of copy.entry.address) k (λ same.
      (let no = new_unused c s placed in let yes : is_used c.m (spot c s placed).plan.id ≡ true = ap (is_used c.m) (sym id_now ∙ same) ∙ used in cc))) ∙ and_false (has_sectors copy)

  -- ---- the nodes

  abbrev pub nodes_now : Nodes
  nodes_now = edited.nodes_after (edit (e c s placed ch is_change r ready)) c.nodes

  pub nodes_same : (number : ℕ) → edited.nodes_after (edit (e c s placed ch is_change r ready)) c.nodes ≡ nodes_after ch number c.nodes
  nodes_same number =
      sym (nodes_are (Layout.New c.m) c.nodes c.listings c.from c.to c.r c.name c.seen (address c s placed ch is_change r ready) (sectors c s placed ch is_change r ready) ch.says.items
      (cp c s placed ch is_change r ready) ch number (none c s placed ch is_change r ready) (turned c s placed ch is_change r ready) refl)

  -- ---- by a map after the step

  module _ (space : SafeSpaceLaw) (m' : Map) (taken : IsTaken c.m r m') where
    pub map_edited : IsMapEdited c.m m'
    map_edited = im.edited x s placed ch (tells c s placed ch is_change r ready) r ready m' taken

    plans_taken : (q : Plan) → Contains placed.plans q → IsTakenIn m' q
    plans_taken = step_of.taken x s placed m' (im.done x s placed ch (tells c s placed ch is_change r ready) r ready m' taken) space

    form_stays : dir_form (Layout.New m') ≡ dir_form (Layout.New c.m)
    form_stays = ap (λ (g : Geometry). let f : NameForm = cond (g.version == 0) forms.Ten forms.Long in f) map_edited.geometry

    size_now : object_size (dir_form (Layout.New m')) copy.entry ≡ (it c).entry.len
    size_now = ap (object_size (dir_form (Layout.New m'))) entry_now ∙ ap (λ (f : NameForm). object_size f (it c).entry) form_stays ∙ (file c).size

    pub lies_now : IsAt (Layout.New m') (copied (e c s placed ch is_change r ready) (e c s placed ch is_change r ready).o)
    lies_now =
        ap₂ (λ (a n : ℕ). sectors_at (Layout.New m') a n) address_now (size_now ∙ sym (bytes_is c))
        ∙ leads_there c s placed m' map_edited.geometry plans_taken
        ∙ ap (λ (ss : List ℕ). let y : Option (List ℕ) = Some ss in y) (sym sectors_now)

    as_long : length copy.sectors ≡ length (it c).sectors
    as_long =
        count (Layout.New m') copy.entry.address (object_size (dir_form (Layout.New m')) copy.entry) copy.sectors lies_now
        ∙ ap₂ (λ (n : ℕ) (g : Geometry). div_ceil n g.sector) (size_now ∙ sym (file c).size) map_edited.geometry
        ∙ sym (count (Layout.New c.m) (it c).entry.address (object_size (dir_form (Layout.New c.m)) (it c).entry) (it c).sectors (target_of.placed (Layout.New c.m) c.nodes c.listings c.seen.sound c.seen.held c.from c.r.target c.seen.known.target))

    -- ---- the owners after it

    pub owners_stay : (number : ℕ) → owners_admitted (Layout.New c.m) ch.object number c.owners ≡ c.owners
    owners_stay number =
        ap (λ (y : Turned). owners_admitted (Layout.New c.m) y number c.owners) turned_now
        ∙ admitted c.m m' map_edited.geometry c.nodes c.listings c.from c.to c.r c.name c.seen c.owners c.agreed.owned copy lies_now as_long number

    pub can_turn_owner : CanTurnOwner (Layout.New m') c.owners ch.object
    can_turn_owner = subst (CanTurnOwner (Layout.New m') c.owners) (sym turned_now) (can_turn c.m m' map_edited.geometry c.nodes c.listings c.from c.to c.r c.name c.seen c.owners c.agreed.owned copy lies_now as_long)

    abbrev pub Goes : List Owner → Type 0
    Goes owners' = OwnersEdited c.owners owners' (owners_with (Layout.New c.m) (e c s placed ch is_change r ready).home (e c s placed ch is_change r ready).number (e c s placed ch is_change r ready).o)
        (owners_with (Layout.New m') (e c s placed ch is_change r ready).dir (e c s placed ch is_change r ready).number (copied (e c s placed ch is_change r ready) (e c s placed ch is_change r ready).o))

    from_plain : (owners' : List Owner) → OwnersEdited c.owners owners' (owners_with (Layout.New c.m) c.r.target.holder c.r.target.node (it c)) (owners_with (Layout.New m') c.r.holder c.r.target.node copy) → Goes owners'
    from_plain owners' plain =
        let is = (cp c s placed ch is_change r ready).is in
        subst (λ (d : ℕ). OwnersEdited c.owners owners' (owners_with (Layout.New c.m) c'.home c'.number c'.o) (owners_with (Layout.New m') d c'.number copy)) (sym is.dir_is)
        (subst (λ (n : ℕ). OwnersEdited c.owners owners' (owners_with (Layout.New c.m) c'.home n c'.o) (owners_with (Layout.New m') c.r.holder n copy)) (sym is.number_is)
        (subst (λ (y : Object). OwnersEdited c.owners owners' (owners_with (Layout.New c.m) c'.home c.r.target.node y) (owners_with (Layout.New m') c.r.holder c.r.target.node copy)) (sym is.o_is)
        (subst (λ (d : ℕ). OwnersEdited c.owners owners' (owners_with (Layout.New c.m) d c.r.target.node (it c)) (owners_with (Layout.New m') c.r.holder c.r.target.node copy)) (sym is.home_is) plain)))

    -- those that are taken over,
    pub goes : (owners' : List Owner) (number : ℕ) → AreOwnersAfter (Layout.New m') c.nodes ch (owners_admitted (Layout.New c.m) ch.object number c.owners) owners' → Goes owners'
    goes owners' number run =
        from_plain owners'
        (owner_edited c.m m' map_edited.geometry c.nodes c.listings c.from c.to c.r c.name c.seen c.owners c.agreed.owned copy lies_now as_long ch owners' (none c s placed ch is_change r ready) turned_now number run)

    abbrev old : Owner
    old = owner_with (Layout.New c.m) c.r.target.holder c.r.target.node (it c)

    abbrev come : List Owner
    come = owners_with (Layout.New m') c.r.holder c.r.target.node copy

    -- and there are such
    pub owners_there : (owners' : List Owner) × Goes owners'
    owners_there = let b = by (has_sectors (it c)) found in (b.0, from_plain b.0 b.1)
      where
        own_is : owner_of c.nodes (Layout.New c.m) (it c) ≡ old
        own_is = owner_law c.nodes (Layout.New c.m) c.listings c.seen.known.target.listing c.r.target.at (it c) c.r.target.holder c.r.target.node (record { sound = c.seen.sound; held = c.seen.held })
            (record { listed = c.seen.known.target.listed; at = c.seen.known.target.at; dir_is = c.seen.known.target.holder_is; number_is = c.seen.known.target.node_is })

        found : find (is_node c.r.target.node) c.owners ≡ cond (has_sectors (it c)) (Some old) None
        found = owner_is (Layout.New c.m) c.nodes c.listings c.owners (it c) c.r.target.node c.seen.sound c.seen.held c.agreed.owned c.seen.known.target.node_is (among (Layout.New c.m) c.nodes c.listings c.from c.to c.r c.name c.seen)
            ∙ ap (λ (w : Owner). cond (has_sectors (it c)) (Some w) None) own_is

        by : (b : Bool) → find (is_node c.r.target.node) c.owners ≡ cond b (Some old) None → (owners' : List Owner) × OwnersEdited c.owners owners' (cond b (old ∷ []) []) come
        by true is =
            let at = (found_passes (is_node c.r.target.node) c.owners old is).0 in
            (come ++ remove c.owners at.0, record { rest = remove c.owners at.0; before = IsPermutation-remove c.owners at.0 old at.1 (sym at.2); after = IsPermutation-refl (come ++ remove c.owners at.0) })
        by false is = (come ++ c.owners, record { rest = c.owners; before = IsPermutation-refl c.owners; after = IsPermutation-refl (come ++ c.owners) })

    -- ---- the parts after it

    cut : (stay : List Object) × IsPermutation (objects_of c.listings) (it c ∷ stay)
    cut = cut_law.others (Layout.New c.m) c.listings (k (Layout.New c.m) c.nodes c.listings c.from c.to c.r c.name c.seen) c.r.target.at (it c) c.seen.sound c.seen.known.target.listed c.seen.known.target.at

    cut_now : IsPermutation (objects_of c.listings) (c'.o ∷ cut.0)
    cut_now = subst (λ (y : Object). IsPermutation (objects_of c.listings) (y ∷ cut.0)) (sym (cp c s placed ch is_change r ready).is.o_is) cut.1

    those_left : (j : ℕ) → list_any (is_owner_of j) cut.0 ≡ list_any (remains (leaving (job c)) j) c.owners
    those_left j =
        sym (others_are c.m c.nodes c.listings c.owners (it c) cut.0 c.r.target.node c.seen.sound c.seen.held c.agreed.owned c.seen.known.target.node_is cut.1 j)
        ∙ any_alike (λ (w : Owner). (w.id == j) && not (w.node == c.r.target.node)) (remains (c.r.target.node ∷ []) j) (λ w. ap (λ (b : Bool). (w.id == j) && not b) (turned_about w.node c.r.target.node)) c.owners
        ∙ ap (λ (ns : List ℕ). list_any (remains ns j) c.owners) (sym (leaving_is c))
      where
        turned_about : (a b : ℕ) → (a == b) ≡ ((b == a) || false)
        turned_about a b = by (a == b) refl (b == a) refl
          where
            by : (u : Bool) → (a == b) ≡ u → (w : Bool) → (b == a) ≡ w → u ≡ (w || false)
            by true f true g = refl
            by false f false g = refl
            by true f false g = absurd (let yes = eq-eqb b a (sym (eqb-true a b f)) in cc)
            by false f true g = absurd (let yes = eq-eqb a b (sym (eqb-true b a g)) in cc)

    those_now : (j : ℕ) → is_used c.m j ≡ true → list_any (is_owner_of j) (copy ∷ cut.0) ≡ (is_kept (step_of.shared (job c)) j || list_any (remains (leaving (job c)) j) c.owners)
    those_now j used =
        ap₂ (λ (a b : Bool). a || b) (not_owner j used) (those_left j)
        ∙ sym (ap (λ (q : Option (ℕ × ℕ)). is_kept (option_map (λ (share : ℕ × ℕ). share.0) q) j || list_any (remains (leaving (job c)) j) c.owners) (no_slack c s placed))

    pub gives : GivesBack c.m (takings_of placed.plans) (first_gone c.m (parts_with c.m c.nodes c.owners) (jobs.Move c.r) c.wants) c.listings (edit (e c s placed ch is_change r ready))
    gives = record { stay = cut.0; others = cut_now; exactly = λ j used. exactly x s placed (copy ∷ cut.0) j used (those_now j used) }

    module _ (owners' : List Owner) (owned : Goes owners') where
      abbrev pub moved : MovedParts
      moved = im.moved (job c) s placed ch (tells c s placed ch is_change r ready) r ready m' taken space (edited.nodes_after (edit (e c s placed ch is_change r ready)) c.nodes) owners'

      -- what stays in an identifier that moves
      pub stays_in : (p : Object) → Stays c.nodes c.listings (edit (e c s placed ch is_change r ready)) p → remains (leaving (job c)) (id_of p.entry.address) (owner_of c.nodes (Layout.New c.m) p) ≡ true
      stays_in p st =
          let number : (owner_of c.nodes (Layout.New c.m) p).node ≡ st.number = ap (λ (n : Option ℕ). unwrap_or n 0) st.number_is in
          let other : (c.r.target.node == st.number) ≡ false = ne_eqb c.r.target.node st.number (λ same. st.stays (subst (λ (n : ℕ). Contains (c'.number ∷ []) n) ((cp c s placed ch is_change r ready).is.number_is ∙ same) (contains_here c'.number []))) in
          ap (λ (ns : List ℕ). remains ns (id_of p.entry.address) (owner_of c.nodes (Layout.New c.m) p)) (leaving_is c)
          ∙ ap₂ (λ (a b : Bool). a && not (b || false)) (eq-eqb (id_of p.entry.address) (id_of p.entry.address) refl) (ap (λ (n : ℕ). c.r.target.node == n) number ∙ other)

      it_moves : (p : Object) → is_moved (moves_in moved) p ≡ true → moves (job c) (id_of p.entry.address) ≡ true
      it_moves p m = im.it_moves x s placed ch (tells c s placed ch is_change r ready) r ready m' taken space nodes_now owners' p m

      stays_where : (p : Object) → Stays c.nodes c.listings (edit (e c s placed ch is_change r ready)) p → is_moved (moves_in moved) p ≡ true → has_sectors p ≡ true → IsStaying (job c) p
      stays_where p st m some = staying x p st.among some (it_moves p m) (stays_in p st)

      pub dir_moves : (a : Amended) → Contains (edit (e c s placed ch is_change r ready)).amended a → is_moved (moves_in moved) a.was.object ≡ true
      dir_moves a (zero, low, same) =
          subst (λ (b : Amended). is_moved (moves_in moved) b.was.object ≡ true) same
          (im.dir_moves x s placed ch (tells c s placed ch is_change r ready) r ready m' taken space nodes_now owners' c'.k.object (suc zero, omega arith, refl))
      dir_moves a (suc zero, low, same) =
          subst (λ (b : Amended). is_moved (moves_in moved) b.was.object ≡ true) same
          (im.dir_moves x s placed ch (tells c s placed ch is_change r ready) r ready m' taken space nodes_now owners' c'.l.object (zero, omega arith, refl))
      dir_moves a (suc (suc i), low, same) = absurd (omega (arith, low))

      pub elsewhere : is_moved (moves_in moved) (copied (e c s placed ch is_change r ready) (e c s placed ch is_change r ready).o) ≡ false
      elsewhere = ap (λ (b : Bool). is_taken (takings_of placed.plans) (id_of copy.entry.address) && b) (ap (is_used c.m) id_now ∙ new_unused c s placed) ∙ and_false (is_taken (takings_of placed.plans) (id_of copy.entry.address))

      pub lies_again : LiesAgain c.m c.nodes c.listings (edit (e c s placed ch is_change r ready)) (copied (e c s placed ch is_change r ready) (e c s placed ch is_change r ready).o)
      lies_again = inr (
        λ j owns used. absurd (let no = not_owner j used in cc),
        λ p st same. apart_from copy.sectors p.sectors (λ u i j.
            (let no = apart_at p.sectors (place_of_plan c.m.geometry (spot c s placed).plan c.wants.bytes) u ((beside c s placed).apart p st.among) j in
            let yes : is_among (place_of_plan c.m.geometry (spot c s placed).plan c.wants.bytes) u ≡ true = ap (λ (ss : List ℕ). is_among ss u) (sym sectors_now) ∙ i in cc)),
      )

      pub reaches : (p : Object) → Stays c.nodes c.listings (edit (e c s placed ch is_change r ready)) p → is_moved (moves_in moved) p ≡ true → Reaches m' p
      reaches p st m = im.each_reaches x s placed ch (tells c s placed ch is_change r ready) r ready m' taken space nodes_now owners' p st.among m (stays_where p st m)

      abbrev pub copied_parts : CopiedParts moved
      copied_parts = record {
        c = e c s placed ch is_change r ready;
        copying = (cp c s placed ch is_change r ready).is.copying;
        nodes_edited = copying_law.nodes c.nodes (Layout.New c.m) c.listings (e c s placed ch is_change r ready) (held_by (Layout.New c.m) c.nodes c.listings c.from c.to c.r c.name c.seen) (cp c s placed ch is_change r ready).is.copying;
        owners_edited = owned;
        gives = gives;
        moves = dir_moves;
        elsewhere = elsewhere;
        at = lies_now;
        lies = lies_again;
        reaches = reaches;
      }

      pub agrees : SafeCopyingLaw → Agree c.kind (parts_with m' (edited.nodes_after (edit (e c s placed ch is_change r ready)) c.nodes) owners')
      agrees law = law.agrees moved copied_parts
