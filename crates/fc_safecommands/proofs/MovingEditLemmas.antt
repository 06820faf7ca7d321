-- `rename` in the safe mode that copies nothing, where no directory grows: the edit that it makes, which directories say something, what it
-- gives back, and the parts after it.
use Rattle.std.proofs.Common.{◌≡◌, ◌==◌, ◌&&◌, ◌||◌, ⊎_elim, inl, ℕ, zero, suc, Bool, true, false, not, cond, List, [], ◌∷◌, ◌++◌, find, flat_map, map, remove, refl, sym, ap, ap₂, subst, ◌∙◌, arith, eq-eqb, Option, Some, None}
use Rattle.std.specs.Prelude.{Contains, IsPermutation, Vec, is_none}
use Rattle.std.specs.declared.alloc.Global.{Global}
use Rattle.std.specs.List.{list_any}
use Rattle.std.specs.Option.{option_map}
use Rattle.std.proofs.lemmas.Bool.{or_right}
use Rattle.std.proofs.lemmas.List.Elements.{Contains-append_cases}
use Rattle.std.proofs.lemmas.List.Sorted.{IsPermutation-refl, IsPermutation-remove, list_any-IsPermutation}
use Rattle.fc_device.specs.declared.disk.Extent.{Extent}
use Rattle.fc_alloc.specs.declared.owner.Owner.{Owner}
use Rattle.fc_alloc.specs.Owners.{is_node, owns}
use Rattle.fc_record.specs.declared.Geometry.{Geometry}
use Rattle.fc_newmap.specs.Map.{Map, map_sectors}
use Rattle.fc_dirs.specs.declared.Entry.{Entry}
use Rattle.fc_drafts.specs.Draft.{IsSayable, directory_in}
use Rattle.fc_image.specs.Layout.{Layout, id_of, is_among}
use Rattle.fc_image.specs.Objects.{has_sectors, is_owner_of, objects_of}
use Rattle.fc_image.specs.Walk.{Object}
use Rattle.fc_image.proofs.HolesLemmas.{apart_from}
use Rattle.fc_plan.specs.declared.plan.Plan.{Plan}
use Rattle.fc_plan.specs.Giving.{is_one_of}
use Rattle.fc_placing.specs.Leaving.{is_kept}
use Rattle.fc_changes.specs.Space.{IsMapEdited}
use Rattle.fc_placing.specs.declared.placing.Placing.{Placing}
use Rattle.fc_tree.specs.Agree.{Agree}
use Rattle.fc_tree.specs.Nodes.{is_directory_node, number_of}
use Rattle.fc_tree.specs.Parts.{owner_of}
use Rattle.fc_tree.proofs.MemberLemmas.{contains_here, found_passes, from_map, in_map, no_element}
use Rattle.fc_tree.proofs.WalkedLemmas.{same_some}
use Rattle.fc_laws.specs.nodes.Edits.{Nodes, OwnersEdited, owner_with, owners_with}
use Rattle.fc_laws.specs.agree.Agreed.{parts_with}
use Rattle.fc_laws.proofs.lemmas.agree.CutLemmas.{cut_law}
use Rattle.fc_laws.proofs.lemmas.nodes.OwnerLemmas.{owner_law}
use Rattle.fc_edits.specs.Edit.{Amended, objects, owners_joined, owners_left}
use Rattle.fc_edits.specs.Moving.{edit, moved as moved_by}
use Rattle.fc_edits.specs.NewNodes as edited
use Rattle.fc_edits.specs.NewPlaces.{GivesBack}
use Rattle.fc_edits.proofs.lemmas.MovingLemmas.{joined_is, left_is, moving_law}
use Rattle.fc_edits.proofs.lemmas.TellLemmas.{AreOnce}
use Rattle.fc_writing.specs.declared.ready.Piece.{Piece}
use Rattle.fc_writing.specs.declared.ready.Ready.{Ready}
use Rattle.fc_writing.specs.declared.ready.Source.{Source}
use Rattle.fc_writing.specs.declared.ready.Source.TheVariants as sources
use Rattle.fc_writing.specs.New.{IsTaken}
use Rattle.fc_writing.specs.Ready.{IsSourceEnough, place_of, source_from, source_place}
use Rattle.fc_change.specs.declared.change.Change.{Change}
use Rattle.fc_change.specs.declared.change.Says.{Says}
use Rattle.fc_change.specs.declared.change.Turned.{Turned}
use Rattle.fc_change.specs.declared.change.Turned.TheVariants as turns
use Rattle.fc_change.specs.declared.job.Job.TheVariants as jobs
use Rattle.fc_change.specs.declared.spaces.GrownPlace.{GrownPlace}
use Rattle.fc_change.specs.declared.spaces.Place.{Place}
use Rattle.fc_change.specs.declared.spaces.Spaces.{Spaces}
use Rattle.fc_change.specs.After.{AreOwnersAfter, nodes_after, owners_admitted}
use Rattle.fc_change.specs.Directories.{Rewriting}
use Rattle.fc_change.specs.Drafts.{IsChangeOf, told}
use Rattle.fc_change.specs.Places.{IsPlaceFor}
use Rattle.fc_change.specs.Prepared.{IsNewPiece, IsSourceOf}
use Rattle.fc_commands.proofs.MoveEditLemmas.{IsMoved}
use Rattle.fc_commands.proofs.MoveLemmas.{among, h as held_by, k, o}
use Rattle.fc_commands.proofs.MoveOwnerLemmas.{edited as owner_edited}
use Rattle.fc_commands.proofs.MovePieceLemmas.{said_listed}
use Rattle.fc_commands.proofs.MoveReadyLemmas.{it_moved, nodes_are}
use Rattle.fc_commands.proofs.MoveSaidLemmas.{AreSaid}
use Rattle.fc_commands.proofs.MoveStageLemmas.{IsMoveChange, entry_now, move_change, tells_it, turns_it}
use Rattle.fc_commands.proofs.MoveTellLemmas.{own_told, told_by}
use Rattle.fc_commands.proofs.OwnerLemmas.{owner_is}
use Rattle.fc_safe.specs.FirstNeeds.{first_gone}
use Rattle.fc_safe.specs.FirstSpace.{ArePlacedFirst}
use Rattle.fc_safe.specs.Staying.{remains}
use Rattle.fc_safelaws.specs.Relaid.{Reaches}
use Rattle.fc_safeedits.specs.Relocation.{is_moved}
use Rattle.fc_safeedits.specs.SafeChange.{MovedParts, moves_in}
use Rattle.fc_safeedits.specs.SafeSpace.{SafeSpaceLaw, takings_of}
use Rattle.fc_safeedits.specs.SafeMoving.{RenamedParts, SafeMovingLaw}
use Rattle.fc_safecommands.specs.Anew.{IsReadyAnew, PiecesAnew, plans_in}
use Rattle.fc_safecommands.proofs.MovingLemmas.{StillMove, it, job, leaving_is, no_slack, room, wanted}
use Rattle.fc_safecommands.proofs.OldPlaceLemmas.{any_alike}
use Rattle.fc_safecommands.proofs.RewordingJobLemmas.{after_alike}
use Rattle.fc_safecommands.proofs.StirredChangeLemmas.{exactly, owns_any}
use Rattle.fc_safecommands.proofs.StirredImageLemmas as im
use Rattle.fc_safecommands.proofs.StirredLaidLemmas.{IsStaying, staying}
use Rattle.fc_safecommands.proofs.StirredLemmas.{StirredJob, changed, changed_at, leaving}
use Rattle.fc_safecommands.proofs.StirredPutLemmas.{IsPutThere, LiesBeside}
use Rattle.fc_safecommands.proofs.StirredStepLemmas as step_of
use Rattle.fc_safecommands.proofs.StirredWrittenLemmas.{AreTold, Differ, TellsThese}

-- What is drafted can be said.
sayable_from : (c : StillMove) (plans : List Plan) (ss : List Says) (ps : List Piece) → PiecesAnew c.m (parts_with c.m c.nodes c.owners) plans None ss ps → (s : Says) → Contains ss s → IsSayable (directory_in s.draft)
sayable_from c plans [] ps are s at = absurd (no_element s at)
sayable_from c plans (t ∷ ss) [] are s at = absurd are
sayable_from c plans (t ∷ ss) (p ∷ ps) are s (zero, low, e) = subst (λ (u : Says). IsSayable (directory_in u.draft)) e are.0.drafted.sayable
sayable_from c plans (t ∷ ss) (p ∷ ps) are s (suc i, low, e) = sayable_from c plans ss ps are.1 s (i, omega (arith, low), e)

-- Directories with different numbers are different.
pub differ : (c : StillMove) (bs : List Amended) (ss : List Says) → AreSaid c.nodes c.listings bs ss → AreOnce bs → Differ (map (λ (a : Amended). a.was.object) bs)
differ c [] ss said once = tt
differ c (a ∷ bs) [] said once = absurd said
differ c (a ∷ bs) (q ∷ ss) said once = (
  λ d at same.
      (let b = from_map (λ (e : Amended). e.was.object) bs d at in
      once.0 b.0 b.1
      (same_some a.number b.0.number (sym said.0.number ∙ ap (λ (p : Object). number_of c.nodes p.path) (same ∙ sym b.2) ∙ (said_listed c.nodes c.listings bs ss said.1 b.0 b.1).1))),
  differ c bs ss said.1 once.1,
)

module _ (c : StillMove) (s : Spaces) (placed : ArePlacedFirst c.m (parts_with c.m c.nodes c.owners) (jobs.Move c.r) c.wants s) where
  no_object : (q : Placing) (p : Option Place) → IsPlaceFor c.m c.wants q p → p ≡ None
  no_object q None is = refl
  no_object q (Some p) is = absurd (never is.2)
    where
      never : ((c.wants.bytes == 0) && is_none c.wants.shares) ≡ false → ⊥
      never some = let both : true ≡ false = sym (ap₂ (λ (n : ℕ) (d : Option ℕ). (n == 0) && is_none d) (wanted c).0.bytes (wanted c).0.slack) ∙ some in cc

  pub no_place : s.object ≡ None
  no_place = no_object placed.placing s.object placed.object

module _ (c : StillMove) (s : Spaces) (placed : ArePlacedFirst c.m (parts_with c.m c.nodes c.owners) (jobs.Move c.r) c.wants s) (ch : Change) (is_change : IsChangeOf (parts_with c.m c.nodes c.owners) (jobs.Move c.r) c.name s ch) where
  abbrev x : StirredJob
  x = job c

  -- ---- its change

  pub change : IsMoveChange c.nodes c.r c.name None ch
  change = move_change (parts_with c.m c.nodes c.owners) c.r c.name None s ch (ap (option_map (λ (y : Place). y.address)) (no_place c s placed)) (step_of.none_grown x s placed) is_change

  pub none : ch.grown ≡ None
  none = change.none

  pub turned : ch.object ≡ turns.Turns c.r.target.node c.r.holder (entry_now (Layout.New c.m) c.nodes c.listings c.from c.to c.r c.name c.seen)
  turned = turns_it (Layout.New c.m) c.nodes c.listings c.from c.to c.r c.name c.seen None ch change

  -- ---- whoever says something changes

  abbrev e : Entry
  e = entry_now (Layout.New c.m) c.nodes c.listings c.from c.to c.r c.name c.seen

  abbrev renamed : List ℕ
  renamed = cond (is_directory_node c.nodes c.r.target.node) (c.r.target.node ∷ []) [] ++ []

  aim_changes : is_one_of (changed (job c)) c.r.holder ≡ true
  aim_changes = ap (λ (b : Bool). b || is_one_of (c.r.target.holder ∷ renamed) c.r.holder) (eq-eqb c.r.holder c.r.holder refl)

  home_changes : is_one_of (changed (job c)) c.r.target.holder ≡ true
  home_changes =
      or_right (c.r.holder == c.r.target.holder) (is_one_of (c.r.target.holder ∷ renamed) c.r.target.holder) (ap (λ (b : Bool). b || is_one_of renamed c.r.target.holder) (eq-eqb c.r.target.holder c.r.target.holder refl))

  own_changes : is_directory_node c.nodes c.r.target.node ≡ true → is_one_of (changed (job c)) c.r.target.node ≡ true
  own_changes dir =
      or_right (c.r.holder == c.r.target.node) (is_one_of (c.r.target.holder ∷ renamed) c.r.target.node)
      (or_right (c.r.target.holder == c.r.target.node) (is_one_of renamed c.r.target.node)
      (ap (λ (b : Bool). is_one_of (cond b (c.r.target.node ∷ []) [] ++ []) c.r.target.node) dir ∙ ap (λ (b : Bool). b || false) (eq-eqb c.r.target.node c.r.target.node refl)))

  one_only : (n : ℕ) (w : Rewriting) (q : ℕ × Rewriting) → Contains ((n, w) ∷ []) q → is_one_of (changed (job c)) n ≡ true → is_one_of (changed (job c)) q.0 ≡ true
  one_only n w q (zero, low, same) at = ap (λ (p : ℕ × Rewriting). is_one_of (changed (job c)) p.0) (sym same) ∙ at
  one_only n w q (suc i, low, same) at = absurd (omega (arith, low))

  its_changes : (q : ℕ × Rewriting) → Contains (told c.nodes (jobs.Move c.r) c.name None e) q → is_one_of (changed (job c)) q.0 ≡ true
  its_changes q there =
      ⊎_elim (first (c.r.holder == c.r.target.holder))
      (λ later.
      ⊎_elim (own (is_directory_node c.nodes c.r.target.node) refl) (left (c.r.holder == c.r.target.holder))
      (Contains-append_cases (own_told (is_directory_node c.nodes c.r.target.node) c.r c.name) (cond (c.r.holder == c.r.target.holder) [] ((c.r.target.holder, Rewriting.Leaves c.r.target.at) ∷ [])) q later))
      (Contains-append_cases (cond (c.r.holder == c.r.target.holder) ((c.r.holder, Rewriting.Renames c.r.target.at e) ∷ []) ((c.r.holder, Rewriting.Enters e) ∷ []))
      (own_told (is_directory_node c.nodes c.r.target.node) c.r c.name ++ cond (c.r.holder == c.r.target.holder) [] ((c.r.target.holder, Rewriting.Leaves c.r.target.at) ∷ [])) q there)
    where
      first : (b : Bool) → Contains (cond b ((c.r.holder, Rewriting.Renames c.r.target.at e) ∷ []) ((c.r.holder, Rewriting.Enters e) ∷ [])) q → is_one_of (changed (job c)) q.0 ≡ true
      first true here = one_only c.r.holder (Rewriting.Renames c.r.target.at e) q here aim_changes
      first false here = one_only c.r.holder (Rewriting.Enters e) q here aim_changes

      own : (b : Bool) → is_directory_node c.nodes c.r.target.node ≡ b → Contains (own_told b c.r c.name) q → is_one_of (changed (job c)) q.0 ≡ true
      own true dir here = one_only c.r.target.node (Rewriting.Turns c.r.holder c.name) q here (own_changes dir)
      own false dir here = absurd (no_element q here)

      left : (b : Bool) → Contains (cond b [] ((c.r.target.holder, Rewriting.Leaves c.r.target.at) ∷ [])) q → is_one_of (changed (job c)) q.0 ≡ true
      left true here = absurd (no_element q here)
      left false here = one_only c.r.target.holder (Rewriting.Leaves c.r.target.at) q here home_changes

  pub said_changes : (q : Says) → Contains ch.says.items q → is_one_of (changed (job c)) q.node ≡ true
  said_changes q at =
      let t = told_by c.nodes (told c.nodes (jobs.Move c.r) c.name None e) ch.says.items (tells_it (Layout.New c.m) c.nodes c.listings c.from c.to c.r c.name c.seen None ch change) q at in
      ap (is_one_of (changed (job c))) t.2.number ∙ its_changes t.0 t.1

  -- ---- what is ready

  module _ (r : Ready) (ready : IsReadyAnew c.m (parts_with c.m c.nodes c.owners) c.wants ch s r) where
    sayable : (q : Says) → Contains ch.says.items q → IsSayable (directory_in q.draft)
    sayable = sayable_from c (plans_in s.take) ch.says.items ready.early.told
        (subst (λ (g : Option GrownPlace). PiecesAnew c.m (parts_with c.m c.nodes c.owners) (plans_in s.take) g ch.says.items ready.early.told) (step_of.none_grown x s placed) ready.early.tells)

    pub mv : IsMoved (Layout.New c.m) c.nodes c.listings c.from c.to c.r c.name (o (Layout.New c.m) c.nodes c.listings c.from c.to c.r c.name c.seen) ch.says.items
    mv = it_moved (Layout.New c.m) c.nodes c.listings c.from c.to c.r c.name c.seen ch.says.items (room c) sayable (tells_it (Layout.New c.m) c.nodes c.listings c.from c.to c.r c.name c.seen None ch change)

    -- ---- the directories that say something

    pub told_all : (bs : List Amended) (ss : List Says) → AreSaid c.nodes c.listings bs ss → ((q : Says) → Contains ss q → is_one_of (changed (job c)) q.node ≡ true) → AreTold (job c) ss (map (λ (a : Amended). a.was.object) bs)
    told_all [] [] said all = tt
    told_all [] (q ∷ ss) said all = absurd said
    told_all (a ∷ bs) [] said all = absurd said
    told_all (a ∷ bs) (q ∷ ss) said all = (
      record {
        changes = all q (contains_here q ss);
        is = changed_at (job c) q.node a.was said.0.listed (said.0.number ∙ ap (λ (n : ℕ). let k : Option ℕ = Some n in k) (sym said.0.node));
      },
      told_all bs ss said.1 (λ t at. all t (suc at.0, (let low = at.1 in omega (arith, low)), at.2)),
    )

    abbrev pub tells : TellsThese (job c) ch
    tells = record {
      ds = map (λ (a : Amended). a.was.object) mv.order;
      are = told_all mv.order ch.says.items mv.is.said said_changes;
      once = differ c mv.order ch.says.items mv.is.said mv.is.once;
    }

    pub is_told : (a : Amended) → Contains (edit mv.c).amended a → Contains tells.ds a.was.object
    is_told a at = in_map (λ (b : Amended). b.was.object) mv.order a (mv.is.in_order a at)

    -- ---- nothing else is written

    pub source : r.source ≡ sources.Nothing
    source = of_none s.copied (subst (λ (p : Option Place). IsSourceOf (turns.Turns c.r.target.node c.r.holder e) p s.copied r.source) (no_place c s placed) (subst (λ (y : Turned). IsSourceOf y s.object s.copied r.source) turned ready.source))
      where
        of_none : (q : Option (Vec Extent Global)) → IsSourceOf (turns.Turns c.r.target.node c.r.holder e) None q r.source → r.source ≡ sources.Nothing
        of_none None is = is
        of_none (Some v) is = is

    made_none : ready.early.made ≡ []
    made_none = subst (λ (p : Option Place). IsNewPiece (turns.Turns c.r.target.node c.r.holder e) p ready.early.made) (no_place c s placed) (subst (λ (y : Turned). IsNewPiece y s.object ready.early.made) turned ready.early.makes)

    nowhere : (u : ℕ) → is_among [] u ≡ true → ⊥
    nowhere u i = let bad : false ≡ true = i in cc

    pub put : IsPutThere (job c) [] r ready.early.made
    put = record {
      from = λ u i. absurd (nowhere u (ap (λ (y : Source). is_among (source_from y) u) (sym source) ∙ i));
      enough = subst IsSourceEnough (sym source) tt;
      place = inl (ap source_place source, ap (flat_map place_of) made_none);
    }

    pub beside : LiesBeside (job c) s placed []
    beside = record {
      free = λ u i. absurd (nowhere u i);
      room = record {
        low = λ u i. absurd (nowhere u i);
        once = λ i j less low same. absurd (omega (arith, low));
        beside = apart_from [] (map_sectors c.m.geometry) (λ u i f. nowhere u i);
      };
      apart = λ p at. apart_from p.sectors [] (λ u i f. nowhere u f);
      beside = λ p st u i f. nowhere u i;
    }

    -- ---- the nodes

    abbrev pub nodes_now : Nodes
    nodes_now = edited.nodes_after (edit mv.c) c.nodes

    pub nodes_same : (number : ℕ) → edited.nodes_after (edit mv.c) c.nodes ≡ nodes_after ch number c.nodes
    nodes_same number = sym (nodes_are (Layout.New c.m) c.nodes c.listings c.from c.to c.r c.name c.seen ch.says.items mv ch number none turned refl)

    -- ---- by a map after the step

    module _ (space : SafeSpaceLaw) (m' : Map) (taken : IsTaken c.m r m') where
      pub map_edited : IsMapEdited c.m m'
      map_edited = im.edited (job c) s placed ch tells r ready m' taken

      -- ---- the owners after it

      abbrev pub Goes : List Owner → Type 0
      Goes owners' = OwnersEdited c.owners owners' (owners_left (Layout.New c.m) (edit mv.c)) (owners_joined (Layout.New m') (edit mv.c))

      from_plain : (owners' : List Owner)
          → OwnersEdited c.owners owners' (owners_with (Layout.New c.m) c.r.target.holder c.r.target.node (o (Layout.New c.m) c.nodes c.listings c.from c.to c.r c.name c.seen))
          (owners_with (Layout.New c.m) c.r.holder c.r.target.node (o (Layout.New c.m) c.nodes c.listings c.from c.to c.r c.name c.seen)) → Goes owners'
      from_plain owners' plain =
          subst (λ (os : List Owner). OwnersEdited c.owners owners' (owners_left (Layout.New c.m) (edit mv.c)) os)
          (ap (λ (g : Geometry). owners_joined (Layout.New (record { geometry = g; zones = [] })) (edit mv.c)) (sym map_edited.geometry)) (mv.is.owners c.owners owners' plain)

      pub goes : (owners' : List Owner) (number : ℕ) → AreOwnersAfter (Layout.New m') c.nodes ch (owners_admitted (Layout.New c.m) ch.object number c.owners) owners' → Goes owners'
      goes owners' number run =
          from_plain owners'
          (owner_edited (Layout.New c.m) c.nodes c.listings c.from c.to c.r c.name c.seen c.owners c.agreed.owned ch owners' none turned number
          (after_alike c.m m' map_edited.geometry c.nodes ch c.r.target.node c.r.holder e (owners_admitted (Layout.New c.m) ch.object number c.owners) owners' none turned run))

      abbrev old : Owner
      old = owner_with (Layout.New c.m) c.r.target.holder c.r.target.node (o (Layout.New c.m) c.nodes c.listings c.from c.to c.r c.name c.seen)

      abbrev come : List Owner
      come = owners_with (Layout.New c.m) c.r.holder c.r.target.node (o (Layout.New c.m) c.nodes c.listings c.from c.to c.r c.name c.seen)

      -- There are such.
      pub owners_there : (owners' : List Owner) × Goes owners'
      owners_there = let b = by (has_sectors (it c)) found in (b.0, from_plain b.0 b.1)
        where
          own_is : owner_of c.nodes (Layout.New c.m) (it c) ≡ old
          own_is = owner_law c.nodes (Layout.New c.m) c.listings c.seen.known.target.listing c.r.target.at (it c) c.r.target.holder c.r.target.node (record { sound = c.seen.sound; held = c.seen.held })
              (record { listed = c.seen.known.target.listed; at = c.seen.known.target.at; dir_is = c.seen.known.target.holder_is; number_is = c.seen.known.target.node_is })

          found : find (is_node c.r.target.node) c.owners ≡ cond (has_sectors (it c)) (Some old) None
          found = owner_is (Layout.New c.m) c.nodes c.listings c.owners (it c) c.r.target.node c.seen.sound c.seen.held c.agreed.owned c.seen.known.target.node_is (among (Layout.New c.m) c.nodes c.listings c.from c.to c.r c.name c.seen)
              ∙ ap (λ (w : Owner). cond (has_sectors (it c)) (Some w) None) own_is

          by : (b : Bool) → find (is_node c.r.target.node) c.owners ≡ cond b (Some old) None → (owners' : List Owner) × OwnersEdited c.owners owners' (cond b (old ∷ []) []) come
          by true is =
              let at = (found_passes (is_node c.r.target.node) c.owners old is).0 in
              (come ++ remove c.owners at.0, record { rest = remove c.owners at.0; before = IsPermutation-remove c.owners at.0 old at.1 (sym at.2); after = IsPermutation-refl (come ++ remove c.owners at.0) })
          by false is = (come ++ c.owners, record { rest = c.owners; before = IsPermutation-refl c.owners; after = IsPermutation-refl (come ++ c.owners) })

      -- ---- what goes back

      cut : (stay : List Object) × IsPermutation (objects_of c.listings) (it c ∷ stay)
      cut = cut_law.others (Layout.New c.m) c.listings (k (Layout.New c.m) c.nodes c.listings c.from c.to c.r c.name c.seen) c.r.target.at (it c) c.seen.sound c.seen.known.target.listed c.seen.known.target.at

      cut_now : IsPermutation (objects_of c.listings) (mv.c.o ∷ cut.0)
      cut_now = subst (λ (y : Object). IsPermutation (objects_of c.listings) (y ∷ cut.0)) (sym mv.is.o_is) cut.1

      -- nobody leaves
      all_stay : (j : ℕ) → list_any (is_owner_of j) (objects_of c.listings) ≡ list_any (remains (leaving (job c)) j) c.owners
      all_stay j =
          sym (owns_any (job c) s placed j)
          ∙ any_alike (owns j) (remains (leaving (job c)) j) (λ w. sym (ap (λ (ns : List ℕ). (w.id == j) && not (is_one_of ns w.node)) (leaving_is c) ∙ and_true (w.id == j))) c.owners
        where
          and_true : (b : Bool) → (b && true) ≡ b
          and_true true = refl
          and_true false = refl

      those_now : (j : ℕ) → list_any (is_owner_of j) (objects ((mv.c.number, moved_by mv.c mv.c.o) ∷ []) ++ cut.0) ≡ (is_kept (step_of.shared (job c)) j || list_any (remains (leaving (job c)) j) c.owners)
      those_now j =
          sym (list_any-IsPermutation (is_owner_of j) (objects_of c.listings) (mv.c.o ∷ cut.0) cut_now)
          ∙ all_stay j
          ∙ sym (ap (λ (q : Option (ℕ × ℕ)). is_kept (option_map (λ (share : ℕ × ℕ). share.0) q) j || list_any (remains (leaving (job c)) j) c.owners) (no_slack c))

      pub gives : GivesBack c.m (takings_of placed.plans) (first_gone c.m (parts_with c.m c.nodes c.owners) (jobs.Move c.r) c.wants) c.listings (edit mv.c)
      gives =
          let held = held_by (Layout.New c.m) c.nodes c.listings c.from c.to c.r c.name c.seen in
          record {
            stay = cut.0;
            others = subst (λ (qs : List (ℕ × Object)). IsPermutation (objects_of c.listings) (objects qs ++ cut.0)) (sym (left_is c.nodes (Layout.New c.m) c.listings mv.c held mv.is.moving)) cut_now;
            exactly = λ j used.
                exactly (job c) s placed (objects (([]) ++ flat_map (λ (a : Amended). a.join) (edit mv.c).amended) ++ cut.0) j used
                (ap (λ (qs : List (ℕ × Object)). list_any (is_owner_of j) (objects qs ++ cut.0)) (joined_is c.nodes (Layout.New c.m) c.listings mv.c held mv.is.moving) ∙ those_now j);
          }

      -- ---- the parts after it

      module _ (owners' : List Owner) (owned : Goes owners') where
        abbrev pub moved : MovedParts
        moved = im.moved (job c) s placed ch tells r ready m' taken space (edited.nodes_after (edit mv.c) c.nodes) owners'

        -- what stays in an identifier that moves
        pub stays_in : (p : Object) → remains (leaving (job c)) (id_of p.entry.address) (owner_of c.nodes (Layout.New c.m) p) ≡ true
        stays_in p =
            ap₂ (λ (b : Bool) (ns : List ℕ). b && not (is_one_of ns (owner_of c.nodes (Layout.New c.m) p).node)) (eq-eqb (id_of p.entry.address) (id_of p.entry.address) refl) (leaving_is c)

        stays_where : (p : Object) → Contains (objects_of c.listings) p → is_moved (moves_in moved) p ≡ true → has_sectors p ≡ true → IsStaying (job c) p
        stays_where p at m some = staying (job c) p at some (im.it_moves (job c) s placed ch tells r ready m' taken space nodes_now owners' p m) (stays_in p)

        pub dir_moves : (a : Amended) → Contains (edit mv.c).amended a → is_moved (moves_in moved) a.was.object ≡ true
        dir_moves a at = im.dir_moves (job c) s placed ch tells r ready m' taken space nodes_now owners' a.was.object (is_told a at)

        pub reaches : (p : Object) → Contains (objects_of c.listings) p → is_moved (moves_in moved) p ≡ true → Reaches m' p
        reaches p at m = im.each_reaches (job c) s placed ch tells r ready m' taken space nodes_now owners' p at m (stays_where p at m)

        abbrev pub renamed_parts : RenamedParts moved
        renamed_parts = record {
          c = mv.c;
          moving = mv.is.moving;
          nodes_edited = moving_law.nodes c.nodes (Layout.New c.m) c.listings mv.c (held_by (Layout.New c.m) c.nodes c.listings c.from c.to c.r c.name c.seen) mv.is.moving;
          owners_edited = owned;
          gives = gives;
          moves = dir_moves;
          reaches = reaches;
        }

        pub agrees : SafeMovingLaw → Agree c.kind (parts_with m' (edited.nodes_after (edit mv.c) c.nodes) owners')
        agrees law = law.agrees moved renamed_parts
