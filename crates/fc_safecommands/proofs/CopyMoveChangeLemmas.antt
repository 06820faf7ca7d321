-- `rename` in the safe mode that copies its file: the edit that it makes, which directories say something, and where the file is put.
use Rattle.std.proofs.Common.{◌≡◌, ◌≤◌, ◌||◌, ◌==◌, inl, ℕ, zero, suc, Bool, true, false, List, [], ◌∷◌, flat_map, length, map, refl, sym, ap, subst, ◌∙◌, arith, eq-eqb, Option, Some, None}
use Rattle.std.specs.Prelude.{Contains, Vec}
use Rattle.std.specs.declared.alloc.Global.{Global}
use Rattle.std.specs.Int.{div_ceil}
use Rattle.std.specs.Option.{option_map}
use Rattle.std.proofs.lemmas.Bool.{or_right}
use Rattle.fc_device.specs.declared.disk.Extent.{Extent}
use Rattle.fc_drafts.specs.Draft.{IsSayable, directory_in}
use Rattle.fc_drafts.specs.Entries.{renamed_entry}
use Rattle.fc_image.specs.Layout.{Layout, dir_form, is_among}
use Rattle.fc_image.specs.Walk.{Object, object_size}
use Rattle.fc_image.proofs.PathsLemmas.{itself}
use Rattle.fc_laws.specs.agree.Agreed.{parts_with}
use Rattle.fc_newmap.specs.Map.{Map}
use Rattle.fc_objects.specs.Extents.{sectors_in}
use Rattle.fc_edits.specs.Copying.{Copying, from_it, to_it}
use Rattle.fc_edits.specs.Edit.{Amended}
use Rattle.fc_plan.specs.declared.plan.Plan.{Plan}
use Rattle.fc_plan.specs.Giving.{is_one_of}
use Rattle.fc_tree.specs.Nodes.{number_of}
use Rattle.fc_tree.proofs.MemberLemmas.{contains_here, no_element}
use Rattle.fc_tree.proofs.SoundLemmas.{same_object}
use Rattle.fc_tree.proofs.WalkedLemmas.{listed_directory, same_some}
use Rattle.fc_writing.specs.declared.ready.Piece.{Piece}
use Rattle.fc_writing.specs.declared.ready.Ready.{Ready}
use Rattle.fc_writing.specs.declared.ready.Source.{Source}
use Rattle.fc_writing.specs.declared.ready.Transfer.{Transfer}
use Rattle.fc_writing.specs.Ready.{IsSourceEnough, from_of, place_of, source_from, source_place, to_of}
use Rattle.fc_change.specs.declared.change.Change.{Change}
use Rattle.fc_change.specs.declared.change.Says.{Says}
use Rattle.fc_change.specs.declared.change.Turned.{Turned}
use Rattle.fc_change.specs.declared.spaces.GrownPlace.{GrownPlace}
use Rattle.fc_change.specs.declared.spaces.Place.{Place}
use Rattle.fc_change.specs.declared.spaces.Spaces.{Spaces}
use Rattle.fc_change.specs.Directories.{Rewriting, TellAll}
use Rattle.fc_change.specs.Drafts.{IsChangeOf}
use Rattle.fc_change.specs.GrownSpace.{place_of_plan}
use Rattle.fc_change.specs.Prepared.{IsNewPiece, IsSourceOf}
use Rattle.fc_commands.proofs.CopyingEditLemmas.{IsCopied, copies, two_told}
use Rattle.fc_commands.proofs.MoveLemmas.{alike, among, o}
use Rattle.fc_commands.proofs.MoveSaidLemmas.{AreSaid, IsSaid}
use Rattle.fc_commands.proofs.MoveShortLemmas.{room_across}
use Rattle.fc_commands.proofs.MoveStageLemmas.{IsMoveChange, move_change, tells_it, turns_it}
use Rattle.fc_commands.proofs.StayingLemmas.{count}
use Rattle.fc_safe.specs.FirstSpace.{ArePlacedFirst}
use Rattle.fc_safecommands.specs.Anew.{IsReadyAnew, PiecesAnew, plans_in}
use Rattle.fc_safecommands.proofs.ApartLemmas.{few_taken}
use Rattle.fc_safecommands.proofs.CopyMoveLemmas.{CopyMove, bytes_is, changed_is, file, it, job, wanted}
use Rattle.fc_safecommands.proofs.CopyMovePlaceLemmas.{spot}
use Rattle.fc_safecommands.proofs.StirredLemmas.{IsChanged, StirredJob, changed, changed_object}
use Rattle.fc_safecommands.proofs.StirredPutLemmas.{IsPutThere}
use Rattle.fc_safecommands.proofs.StirredStepLemmas.{none_grown}
use Rattle.fc_safecommands.proofs.StirredWrittenLemmas.{AreTold, IsTold, TellsThese}
use Rattle.fc_drafts.specs.declared.room.Room.TheVariants as rooms
use Rattle.fc_writing.specs.declared.ready.Source.TheVariants as sources
use Rattle.fc_change.specs.declared.change.Turned.TheVariants as turns
use Rattle.fc_change.specs.declared.job.Job.TheVariants as jobs
use Rattle.fc_commands.proofs.TargetLemmas as target_of

-- What is drafted can be said.
sayable_from : (m : Map) (c : CopyMove) (plans : List Plan) (ss : List Says) (ps : List Piece) → PiecesAnew m (parts_with c.m c.nodes c.owners) plans None ss ps → (s : Says) → Contains ss s → IsSayable (directory_in s.draft)
sayable_from m c plans [] ps are s at = absurd (no_element s at)
sayable_from m c plans (t ∷ ss) [] are s at = absurd are
sayable_from m c plans (t ∷ ss) (p ∷ ps) are s (zero, low, e) = subst (λ (u : Says). IsSayable (directory_in u.draft)) e are.0.drafted.sayable
sayable_from m c plans (t ∷ ss) (p ∷ ps) are s (suc i, low, e) = sayable_from m c plans ss ps are.1 s (i, omega (arith, low), e)

module _ (c : CopyMove) (s : Spaces) (placed : ArePlacedFirst c.m (parts_with c.m c.nodes c.owners) (jobs.Move c.r) c.wants s) (ch : Change) (is_change : IsChangeOf (parts_with c.m c.nodes c.owners) (jobs.Move c.r) c.name s ch) (r : Ready)
    (ready : IsReadyAnew c.m (parts_with c.m c.nodes c.owners) c.wants ch s r) where
  abbrev x : StirredJob
  x = job c

  -- where it goes
  abbrev pub address : ℕ
  address = (spot c s placed).place.address

  abbrev pub sectors : List ℕ
  sectors = sectors_in (spot c s placed).place.extents.items

  -- ---- its change

  pub change : IsMoveChange c.nodes c.r c.name (Some (spot c s placed).place.address) ch
  change = move_change (parts_with c.m c.nodes c.owners) c.r c.name (Some (spot c s placed).place.address) s ch (ap (option_map (λ (y : Place). y.address)) (spot c s placed).object) (none_grown x s placed) is_change

  pub none : ch.grown ≡ None
  none = change.none

  pub turned : ch.object ≡ turns.Turns c.r.target.node c.r.holder (renamed_entry (o (Layout.New c.m) c.nodes c.listings c.from c.to c.r c.name c.seen).entry c.name (spot c s placed).place.address)
  turned = turns_it (Layout.New c.m) c.nodes c.listings c.from c.to c.r c.name c.seen (Some (spot c s placed).place.address) ch change

  sayable : (q : Says) → Contains ch.says.items q → IsSayable (directory_in q.draft)
  sayable = sayable_from c.m c (plans_in s.take) ch.says.items ready.early.told
      (subst (λ (g : Option GrownPlace). PiecesAnew c.m (parts_with c.m c.nodes c.owners) (plans_in s.take) g ch.says.items ready.early.told) (none_grown x s placed) ready.early.tells)

  -- ---- its edit

  pub cp : IsCopied (Layout.New c.m) c.nodes c.listings c.from c.to c.r c.name (o (Layout.New c.m) c.nodes c.listings c.from c.to c.r c.name c.seen) (spot c s placed).place.address (sectors_in (spot c s placed).place.extents.items) ch.says.items
  cp =
      copies (Layout.New c.m) c.nodes c.listings c.from c.to c.r c.name c.seen (file c).away (file c).file address sectors ch.says.items
      (room_across (Layout.New c.m) c.nodes c.listings c.seen.sound c.seen.held c.from c.to c.r c.seen.known c.name rooms.Fits (file c).away (wanted c).room)
      sayable
      (subst (λ (qs : List (ℕ × Rewriting)). TellAll None c.nodes qs ch.says.items)
      (two_told (Layout.New c.m) c.nodes c.listings c.from c.to c.r c.name c.seen (file c).away (file c).file address sectors ch.says.items)
      (tells_it (Layout.New c.m) c.nodes c.listings c.from c.to c.r c.name c.seen (Some address) ch change))

  abbrev pub e : Copying
  e = cp.c

  -- ---- the directories that say something

  -- that of a number is the directory that changes
  told_one : (a : Amended) (q : Says) → IsSaid c.nodes c.listings a q → is_one_of (changed (job c)) a.number ≡ true → IsTold (job c) q a.was.object
  told_one a q said e' =
      let t = changed_object x a.number e' in
      let at = (listed_directory (Layout.New c.m) c.listings c.seen.sound a.was said.listed).0 in
      let same : t.0.object ≡ a.was.object = same_object (Layout.New c.m) c.listings c.seen.sound t.0.object.path t.0.object a.was.object t.2.there at (itself t.0.object.path)
      (alike (Layout.New c.m) c.nodes c.listings c.from c.to c.r c.name c.seen t.0.object.path a.was.object.path a.number t.2.number said.number) in
      subst (λ (d : Object). IsTold x q d) same
      (record { changes = ap (is_one_of (changed x)) said.node ∙ e'; is = subst (λ (n : ℕ). IsChanged x n t.0.object) (sym said.node) t.2 })

  pub told_all : (bs : List Amended) (ss : List Says) → AreSaid c.nodes c.listings bs ss → ((a : Amended) → Contains bs a → is_one_of (changed (job c)) a.number ≡ true) → AreTold (job c) ss (map (λ (a : Amended). a.was.object) bs)
  told_all [] [] said all = tt
  told_all [] (q ∷ ss) said all = absurd said
  told_all (a ∷ bs) [] said all = absurd said
  told_all (a ∷ bs) (q ∷ ss) said all = (told_one a q said.0 (all a (contains_here a bs)), told_all bs ss said.1 (λ b at. all b (suc at.0, (let low = at.1 in omega (arith, low)), at.2)))

  first_changes : is_one_of (changed (job c)) e.dir ≡ true
  first_changes = ap (is_one_of (changed x)) cp.is.dir_is ∙ ap (λ (ns : List ℕ). is_one_of ns c.r.holder) (changed_is c) ∙ ap (λ (b : Bool). b || (is_one_of (c.r.target.holder ∷ []) c.r.holder)) (eq-eqb c.r.holder c.r.holder refl)

  second_changes : is_one_of (changed (job c)) e.home ≡ true
  second_changes =
      ap (is_one_of (changed x)) cp.is.home_is ∙ ap (λ (ns : List ℕ). is_one_of ns c.r.target.holder) (changed_is c)
      ∙ or_right (c.r.holder == c.r.target.holder) (is_one_of (c.r.target.holder ∷ []) c.r.target.holder) (ap (λ (b : Bool). b || false) (eq-eqb c.r.target.holder c.r.target.holder refl))

  pub both_change : (a : Amended) → Contains (to_it e ∷ (from_it e ∷ [])) a → is_one_of (changed (job c)) a.number ≡ true
  both_change a (zero, low, same) = subst (λ (b : Amended). is_one_of (changed x) b.number ≡ true) same first_changes
  both_change a (suc zero, low, same) = subst (λ (b : Amended). is_one_of (changed x) b.number ≡ true) same second_changes
  both_change a (suc (suc i), low, same) = absurd (omega (arith, low))

  two_directories : e.l.object ≡ e.k.object → ⊥
  two_directories same =
      let said = cp.is.copying in
      cp.is.apart (same_some e.dir e.home (sym said.dir_is ∙ ap (λ (d : Object). number_of c.nodes d.path) same ∙ said.home_is))

  pub other_one : (d : Object) → Contains (e.k.object ∷ []) d → e.l.object ≡ d → ⊥
  other_one d (zero, low, same) is = two_directories (is ∙ sym same)
  other_one d (suc i, low, same) is = absurd (omega (arith, low))

  abbrev pub tells : TellsThese (job c) ch
  tells = record {
    ds = e.l.object ∷ (e.k.object ∷ []);
    are = told_all (to_it e ∷ (from_it e ∷ [])) ch.says.items cp.is.said both_change;
    once = (λ d at. other_one d at, (λ d at. absurd (no_element d at), tt));
  }

  -- ---- the file is put there

  pub transfer : (t : Transfer) × (r.source ≡ sources.Sectors t) × (from_of t ≡ sectors_in (spot c s placed).from.items) × (to_of t ≡ sectors_in (spot c s placed).place.extents.items)
  transfer =
      let sp = spot c s placed in
      let source : IsSourceOf ch.object (Some sp.place) (Some sp.from) r.source =
      subst (λ (q : Option (Vec Extent Global)). IsSourceOf ch.object (Some sp.place) q r.source) sp.copied (subst (λ (q : Option Place). IsSourceOf ch.object q s.copied r.source) sp.object ready.source) in
      (source.0, source.1, ap sectors_in source.2, ap sectors_in source.3)

  made_none : ready.early.made ≡ []
  made_none =
      subst (λ (q : Option Place). IsNewPiece (turns.Turns c.r.target.node c.r.holder (renamed_entry (it c).entry c.name address)) q ready.early.made) (spot c s placed).object
      (subst (λ (y : Turned). IsNewPiece y s.object ready.early.made) turned ready.early.makes)

  -- It is copied from where it lies.
  pub from_is : sectors_in (spot c s placed).from.items ≡ (o (Layout.New c.m) c.nodes c.listings c.from c.to c.r c.name c.seen).sectors
  from_is =
      same_some (sectors_in (spot c s placed).from.items) (it c).sectors
      (sym ((spot c s placed).lies (target_of.node (Layout.New c.m) c.nodes c.listings c.seen.sound c.seen.held c.from c.r.target c.seen.known.target)
      (target_of.node_is (Layout.New c.m) c.nodes c.listings c.seen.sound c.seen.held c.from c.r.target c.seen.known.target))
      ∙ target_of.placed (Layout.New c.m) c.nodes c.listings c.seen.sound c.seen.held c.from c.r.target c.seen.known.target)

  long : length (it c).sectors ≡ div_ceil c.wants.bytes c.m.geometry.sector
  long =
      count (Layout.New c.m) (it c).entry.address (object_size (dir_form (Layout.New c.m)) (it c).entry) (it c).sectors (target_of.placed (Layout.New c.m) c.nodes c.listings c.seen.sound c.seen.held c.from c.r.target c.seen.known.target)
      ∙ ap (λ (n : ℕ). div_ceil n c.m.geometry.sector) ((file c).size ∙ sym (bytes_is c))

  pub put : IsPutThere (job c) (place_of_plan c.m.geometry (spot c s placed).plan c.wants.bytes) r ready.early.made
  put =
      let t = transfer in
      let sp = spot c s placed in
      record {
        from = λ u i. (
          it c,
          among (Layout.New c.m) c.nodes c.listings c.from c.to c.r c.name c.seen,
          subst (λ (us : List ℕ). is_among us u ≡ true) (t.2 ∙ from_is) (subst (λ (y : Source). is_among (source_from y) u ≡ true) t.1 i),
        );
        enough = subst IsSourceEnough (sym t.1)
            (subst (λ (us : List ℕ). length us ≤ length (from_of t.0)) (sym (t.3 ∙ sp.sectors))
            (subst (λ (us : List ℕ). length (place_of_plan c.m.geometry sp.plan c.wants.bytes) ≤ length us) (sym (t.2 ∙ from_is))
            (subst (λ (n : ℕ). length (place_of_plan c.m.geometry sp.plan c.wants.bytes) ≤ n) (sym long) (few_taken (div_ceil c.wants.bytes c.m.geometry.sector) _))));
        place = inl (ap source_place t.1 ∙ t.3 ∙ sp.sectors, ap (flat_map place_of) made_none);
      }
