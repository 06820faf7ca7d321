-- `rename` in the safe mode that copies its file into a directory that grows by it: the laws of its job.
use Rattle.std.proofs.Common.{◌≡◌, ◌<◌, ◌≤◌, ◌∷◌, ◌^◌, ℕ, true, List, refl, sym, ap, subst, ◌∙◌, Some}
use Rattle.std.specs.Prelude.{Contains, IfSome}
use Rattle.fc_names.specs.Names.{Path}
use Rattle.fc_alloc.specs.declared.owner.Owner.{Owner}
use Rattle.fc_record.specs.declared.DiscRecord.{DiscRecord}
use Rattle.fc_record.specs.declared.Kind.{Kind}
use Rattle.fc_newmap.specs.Map.{Map}
use Rattle.fc_newmap.specs.NewMap.{IsNewMap}
use Rattle.fc_holdings.specs.Holdings.{TellsVersion}
use Rattle.fc_model.specs.Answer.{changed}
use Rattle.fc_model.specs.Command.{Command}
use Rattle.fc_edits.specs.Copying.{copied as copied_by}
use Rattle.fc_image.specs.Layout.{Layout, disc_sectors, is_among}
use Rattle.fc_image.specs.Objects.{objects_of, tree_of}
use Rattle.fc_image.specs.Opening.{Opened}
use Rattle.fc_image.specs.Stays.{IsNewKind, OpensAs}
use Rattle.fc_image.specs.Walk.{Listing}
use Rattle.fc_image.specs.safe.SafeEffect.{HasTree}
use Rattle.fc_changes.proofs.lemmas.old.BeforeLemmas.{opened_as}
use Rattle.fc_tree.specs.Agree.{Agree}
use Rattle.fc_tree.specs.Parts.{ArePartsOf, Parts}
use Rattle.fc_tree.specs.declared.node.Node.{Node}
use Rattle.fc_tree.proofs.WalkedLemmas.{listed_directory}
use Rattle.fc_laws.specs.nodes.Edits.{Nodes}
use Rattle.fc_laws.specs.agree.Agreed.{AgreeOn, parts_with}
use Rattle.fc_laws.proofs.lemmas.agree.BeforeLemmas.{agreed_law}
use Rattle.fc_laws.proofs.lemmas.takeover.KindLemmas.{new_kind}
use Rattle.fc_refusals.specs.declared.target.Renaming.{Renaming}
use Rattle.fc_writing.specs.New.{CanWrite, IsChanged, IsGiven, IsTaken}
use Rattle.fc_writing.specs.Ready.{written_place}
use Rattle.fc_writing.specs.Steps.{CanRoot, HasStepped}
use Rattle.fc_change.specs.declared.change.Change.{Change}
use Rattle.fc_change.specs.declared.job.Growth.{Growth}
use Rattle.fc_change.specs.declared.job.Job.TheVariants as jobs
use Rattle.fc_change.specs.declared.job.Wants.{Wants}
use Rattle.fc_change.specs.After.{AreOwnersAfter, CanTakeOver, nodes_after, owners_admitted}
use Rattle.fc_change.specs.GrownSpace.{place_of_plan, root_of}
use Rattle.fc_change.specs.Needs.{AreWants, is_copied, len_at}
use Rattle.fc_commands.specs.declared.stages.Prepared.{Prepared}
use Rattle.fc_commands.specs.Run.{IsRun}
use Rattle.fc_commands.proofs.MoveLemmas.{IsSeen}
use Rattle.fc_commands.proofs.MoveRunLemmas.{new_seen}
use Rattle.fc_commands.proofs.MoveStageLemmas.{IsRenamer, can_want, renamer}
use Rattle.fc_commands.proofs.RemovalRunLemmas.{new_view}
use Rattle.fc_safe.specs.Suits.{Suits}
use Rattle.fc_safelaws.specs.Free.{IsFreeSector, view}
use Rattle.fc_safecrash.specs.Crash.{IsOneStep, IsThere, LeadsTo}
use Rattle.fc_safeedits.specs.SafeOutcome.{SafeOutcome}
use Rattle.fc_safeedits.specs.SafeSpace.{SafeSpaceLaw}
use Rattle.fc_safeedits.specs.SafeWriting.{SafeWritingLaw}
use Rattle.fc_safeedits.specs.SafeGrowth.{IsRecorded, IsWholeGrown}
use Rattle.fc_safeedits.specs.SafeGrownAddition.{TakesForGrown}
use Rattle.fc_safeedits.specs.SafeGrownCopying.{SafeGrownCopyingLaw}
use Rattle.fc_safecommands.specs.Anew.{IsPreparedAnew}
use Rattle.fc_safecommands.specs.Laws.{MappedBy, SafeJobLaws, mapped}
use Rattle.fc_safecommands.specs.Promises.{ChangesPartsSafely}
use Rattle.fc_safecommands.specs.Stages.{CanPrepareAnew}
use Rattle.fc_safecommands.proofs.CopyGrownEditLemmas as edit_of
use Rattle.fc_safecommands.proofs.CopyGrownImageLemmas as done_of
use Rattle.fc_safecommands.proofs.CopyGrownLemmas.{GrownCopy, can_place, growing, number as its_number}
use Rattle.fc_safecommands.proofs.CopyGrownPartsLemmas as parts_of
use Rattle.fc_safecommands.proofs.CopyGrownPartsLemmas.{CopyRun, g, shown_of}
use Rattle.fc_safecommands.proofs.CopyGrownPlaceLemmas as lies_at
use Rattle.fc_safecommands.proofs.CopyGrownStageLemmas as stage
use Rattle.fc_safecommands.proofs.CopyGrownTakeLemmas as take_of
use Rattle.fc_safecommands.proofs.CopyGrownTakesLemmas as takes_of
use Rattle.fc_safecommands.proofs.GrownImageLemmas as image_of
use Rattle.fc_safecommands.proofs.GrownPutLemmas as put_of
use Rattle.fc_safecommands.proofs.GrownRecordLemmas as record_of
use Rattle.fc_safecommands.proofs.GrownStillLemmas.{copy_suits}
use Rattle.fc_safecommands.proofs.JudgedLemmas.{full_as, short_as}

-- ---- a rename that is ready

module _ (w : CopyRun) (version : TellsVersion (Layout.New w.a.m)) where
  abbrev can_be : IfSome (root_of w.s.grown) (CanRoot w.a.m)
  can_be = record_of.rooted (growing w.a) w.s w.placed version

  pub write_it : (n : ℕ) → disc_sectors (Layout.New w.a.m) ≤ n → CanWrite n w.a.m w.p.ready
  write_it n room =
      put_of.can_write (growing w.a) w.s w.placed w.p.change (edit_of.tells (shown_of w)) w.p.ready w.ready (place_of_plan w.a.m.geometry (lies_at.spot w.a w.s w.placed).plan w.a.wants.bytes) (lies_at.beside w.a w.s w.placed) (done_of.put w) can_be n room

  pub one_step : IsOneStep w.p.ready
  one_step =
      put_of.one_step (growing w.a) w.s w.placed w.p.change (edit_of.tells (shown_of w)) w.p.ready w.ready (place_of_plan w.a.m.geometry (lies_at.spot w.a w.s w.placed).plan w.a.wants.bytes) (lies_at.beside w.a w.s w.placed) (done_of.put w) can_be

  pub written_free : (u : ℕ) → is_among (written_place w.p.ready) u ≡ true → IsFreeSector w.a.m (objects_of w.a.listings) u
  written_free u e =
      put_of.written_free (growing w.a) w.s w.placed w.p.change (edit_of.tells (shown_of w)) w.p.ready w.ready (place_of_plan w.a.m.geometry (lies_at.spot w.a w.s w.placed).plan w.a.wants.bytes) (lies_at.beside w.a w.s w.placed) (done_of.put w) can_be u e

  pub same_map : (m' : Map) → IsTaken w.a.m w.p.ready m' → m'.geometry ≡ w.a.m.geometry
  same_map m' taken = image_of.geometry (growing w.a) w.s w.placed w.p.change (edit_of.tells (shown_of w)) w.p.ready w.ready m' taken

  pub take_over : (m' : Map) (number room : ℕ) → IsTaken w.a.m w.p.ready m' → CanTakeOver (Layout.New m') w.a.nodes (owners_admitted (Layout.New w.a.m) w.p.change.object number w.a.owners) room w.p.change
  take_over m' number room taken = take_of.can_take w.a w.s w.placed w.p.change w.change m' (same_map m' taken) number room

  pub still_suits : (m' : Map) → IsTaken w.a.m w.p.ready m' → (number : ℕ) → Suits (Layout.New m') (nodes_after w.p.change number w.a.nodes)
  still_suits m' taken number = copy_suits w.a w.s w.placed w.p.change w.change m' (same_map m' taken) number

  -- ---- after it

  module _ (is_rename : w.a.command ≡ Command.Rename w.a.from w.a.to) (space : SafeSpaceLaw) (m' : Map) (taken : IsTaken w.a.m w.p.ready m') (number : ℕ) (owners' : List Owner)
      (after : AreOwnersAfter (Layout.New m') w.a.nodes w.p.change (owners_admitted (Layout.New w.a.m) w.p.change.object number w.a.owners) owners') (writing : SafeWritingLaw) (disc : DiscRecord) (image : List ℕ) (new : IsNewKind w.a.kind disc)
      (opens : OpensAs image w.a.kind (record { kind = w.a.kind; layout = Layout.New w.a.m; listings = w.a.listings })) (bytes image' : List ℕ) (there : IsThere (mapped w.a.m (image_of.by (growing w.a) disc image new opens)) w.p.ready bytes m' image') where
    it : record_of.IsItsGrowing (growing w.a) w.s w.placed (g w)
    it = record {
      there = (listed_directory (Layout.New w.a.m) w.a.listings w.a.seen.sound w.a.seen.known.destination.listing w.a.seen.known.destination.listed).0;
      number = its_number w.a;
      address = refl;
      len = refl;
    }

    recorded : IsRecorded (done_of.changed_image w m' taken space number owners' after can_be writing disc image new opens bytes image' there) (g w)
    recorded =
        record_of.recorded (growing w.a) w.s w.placed disc image new opens w.p.change (edit_of.tells (shown_of w)) w.p.ready w.ready (place_of_plan w.a.m.geometry (lies_at.spot w.a w.s w.placed).plan w.a.wants.bytes) (lies_at.beside w.a w.s w.placed) (done_of.put w) can_be m' taken space writing
        (nodes_after w.p.change number w.a.nodes) owners' bytes image' there version (g w) it

    -- The image has the tree after the command,
    pub tree : SafeGrownCopyingLaw → HasTree w.a.kind (changed (tree_of image (Layout.New w.a.m) w.a.listings) (Command.Rename w.a.from w.a.to)) image'
    tree copying = done_of.tree w m' taken space number owners' after can_be writing disc image new opens bytes image' there recorded copying

    -- takes what it needs,
    takes : TakesForGrown (parts_of.moved w m' taken space number owners' after) (Command.Rename w.a.from w.a.to) (copied_by (edit_of.md (shown_of w)).c (edit_of.md (shown_of w)).c.o) (g w)
    takes =
        let sp = lies_at.spot w.a w.s w.placed in
        subst (λ (c : Command). TakesForGrown (parts_of.moved w m' taken space number owners' after) c (copied_by (edit_of.md (shown_of w)).c (edit_of.md (shown_of w)).c.o) (g w)) is_rename
        (takes_of.takes w.a w.s w.placed is_rename (copied_by (edit_of.md (shown_of w)).c (edit_of.md (shown_of w)).c.o) (g w) refl (λ some. (sp.least.0, sp.least.1 ∙ ap (λ (k : ℕ). k ∷ sp.least.0) (sym (parts_of.id_now w)))) w.p.change
        (edit_of.tells (shown_of w)) w.p.ready w.ready m' taken space (nodes_after w.p.change number w.a.nodes) owners' (λ some. parts_of.low_then w m' taken space))

    whole : IsChanged w.a.m m' w.p.ready bytes image image' → IsWholeGrown (done_of.changed_image w m' taken space number owners' after can_be writing disc image new opens bytes image' there) (g w)
    whole is =
        record_of.whole (growing w.a) w.s w.placed disc image new opens w.p.change (edit_of.tells (shown_of w)) w.p.ready w.ready (place_of_plan w.a.m.geometry (lies_at.spot w.a w.s w.placed).plan w.a.wants.bytes) (lies_at.beside w.a w.s w.placed) (done_of.put w) can_be m' taken space writing
        (nodes_after w.p.change number w.a.nodes) owners' bytes image' there version (g w) it is

    -- and once all is written, the command has done what it promises.
    pub outcome : SafeGrownCopyingLaw → IsChanged w.a.m m' w.p.ready bytes image image'
        → SafeOutcome w.a.kind image image' (record { kind = w.a.kind; layout = Layout.New w.a.m; listings = w.a.listings }) (Command.Rename w.a.from w.a.to) (parts_with m' (nodes_after w.p.change number w.a.nodes) owners')
    outcome copying is = done_of.outcome w m' taken space number owners' after can_be writing disc image new opens bytes image' there recorded copying takes (whole is)

-- ---- the laws

module _ (space : SafeSpaceLaw) (writing : SafeWritingLaw) (law : SafeGrownCopyingLaw) (kind : Kind) (m : Map) (nodes : Nodes) (owners : List Owner) (is_map : IsNewMap m) (a : Agree kind (parts_with m nodes owners))
    (r : Renaming) (from to : Path) (name bytes : List ℕ) (it : IsRenamer (parts_with m nodes owners) from to r name) (suits : Suits (Layout.New m) nodes) (copied : is_copied (parts_with m nodes owners) r ≡ true) (few : len_at nodes r.target.node < 2 ^ 32)
    (growth : Growth) (grows : (w : Wants) → AreWants (parts_with m nodes owners) (jobs.Move r) name w → w.grows ≡ Some growth) (version : TellsVersion (Layout.New m)) where
  abbrev h : Parts
  h = parts_with m nodes owners

  on : AgreeOn kind m nodes owners a.root a.listings
  on = agreed_law.named kind h m refl is_map a

  own_view : ArePartsOf h (record { kind = kind; layout = Layout.New m; listings = a.listings })
  own_view = agreed_law.viewed kind h a

  -- by a view
  abbrev by_view : (q : Kind) (root : Node) (listings : List Listing) → AgreeOn q m nodes owners root listings → ArePartsOf (parts_with m nodes owners) (record { kind = q; layout = Layout.New m; listings = listings })
      → (w : Wants) → AreWants (parts_with m nodes owners) (jobs.Move r) name w → GrownCopy
  by_view q root listings agreed viewed w are = record {
    kind = q;
    m = m;
    nodes = nodes;
    owners = owners;
    root = root;
    listings = listings;
    agreed = agreed;
    parts = viewed;
    suits = suits;
    from = from;
    to = to;
    r = r;
    name = name;
    command = Command.Rename from to;
    job_is = ((new_seen m nodes owners q root listings from to r name agreed it).known, it.name_is);
    seen = new_seen m nodes owners q root listings from to r name agreed it;
    copied = copied;
    few = few;
    wants = w;
    are = are;
    growth = growth;
    grows = grows w are;
  }

  abbrev own : (w : Wants) → AreWants (parts_with m nodes owners) (jobs.Move r) name w → GrownCopy
  own w are = by_view kind a.root a.listings on own_view w are

  can_prepare : CanPrepareAnew m (parts_with m nodes owners) (jobs.Move r) name
  can_prepare = record {
    want = can_want (Layout.New m) nodes a.listings from to r name (new_seen m nodes owners kind a.root a.listings from to r name on it);
    place = λ w are. can_place (own w are);
    draft = λ w s spaced. stage.can_draft (own w spaced.wants) s spaced.placed;
    placed = λ w s spaced. tt;
    write = λ w s ch spaced is. stage.can_write (own w spaced.wants) s spaced.placed ch is;
    zones = λ w s spaced p at. stage.zones (own w spaced.wants) s spaced.placed p at;
  }

  -- ---- after it

  module _ (p : Prepared) (prep : IsPreparedAnew m (parts_with m nodes owners) (jobs.Move r) name p) where
    abbrev run_by : (q : Kind) (root : Node) (listings : List Listing) → AgreeOn q m nodes owners root listings → ArePartsOf (parts_with m nodes owners) (record { kind = q; layout = Layout.New m; listings = listings }) → CopyRun
    run_by q root listings agreed viewed =
        record { a = by_view q root listings agreed viewed prep.wants prep.are_wants; s = prep.spaces; placed = prep.placed; p = p; change = prep.change; ready = prep.ready }

    abbrev own_run : CopyRun
    own_run = run_by kind a.root a.listings on own_view

    can_write_it : (n : ℕ) → disc_sectors (Layout.New m) ≤ n → CanWrite n m p.ready
    can_write_it n room = write_it own_run version n room

    can_take_over : (m' : Map) (number room : ℕ) → IsTaken m p.ready m' → CanTakeOver (Layout.New m') nodes (owners_admitted (Layout.New m) p.change.object number owners) room p.change
    can_take_over m' number room taken = take_over own_run version m' number room taken

    -- the map after it is the one that its single step makes
    one_map : (m' : Map) → IsGiven m p.ready m' → IsTaken m p.ready m'
    one_map m' given = subst (IsTaken m p.ready) (sym (subst (HasStepped given.0 m') prep.ready.no_give given.2)) given.1

    agrees_new : (m' : Map) (nodes' : Nodes) (owners' : List Owner) (number : ℕ) → IsRun (parts_with m nodes owners) (parts_with m' nodes' owners') p number → Agree kind (parts_with m' nodes' owners') × Suits (Layout.New m') nodes'
    agrees_new m' nodes' owners' number run =
        let taken = one_map m' run.given in (
          subst (λ (ns : Nodes). Agree kind (parts_with m' ns owners')) (sym run.nodes) (parts_of.agrees own_run m' taken space number owners' run.owners law),
          subst (Suits (Layout.New m')) (sym run.nodes) (still_suits own_run version m' taken number),
        )

    agrees_then : (now : Layout) (nodes' : Nodes) (owners' : List Owner) (number : ℕ) → IsRun (parts_with m nodes owners) (record { layout = now; nodes = nodes'; owners = owners' }) p number
        → Agree kind (record { layout = now; nodes = nodes'; owners = owners' }) × Suits now nodes'
    agrees_then (Layout.New m') nodes' owners' number run = agrees_new m' nodes' owners' number run
    agrees_then (Layout.Old space') nodes' owners' number run = absurd run.given

    -- ---- by each image

    leads : (x : MappedBy m) → ArePartsOf (parts_with m nodes owners) (view (mapped m x)) → LeadsTo (mapped m x) p.ready bytes (changed (tree_of x.image (Layout.New m) x.listings) (Command.Rename from to))
    leads by held =
        let agreed = new_view m nodes owners kind is_map a by.kind by.image (view (mapped m by)) by.opens held in
        let w = run_by by.kind agreed.0 by.listings agreed.1 held in
        record {
          one_step = one_step w version;
          free = λ u i. written_free w version u i;
          after = λ m' image taken at.
              (let os = parts_of.owners_there w m' taken space 0 in
              tree w version refl space m' taken 0 os.0 os.1 writing by.r by.image by.new_kind by.opens bytes image at law);
        }

    changes_new : (m' : Map) (nodes' : Nodes) (owners' : List Owner) (number : ℕ) (was image : List ℕ) → IsRun (parts_with m nodes owners) (parts_with m' nodes' owners') p number → IsChanged m m' p.ready bytes was image
        → ChangesPartsSafely (Command.Rename from to) (parts_with m nodes owners) (parts_with m' nodes' owners') was image
    changes_new m' nodes' owners' number was image run is other view' opens held =
        let at_map : view'.layout ≡ Layout.New m = sym held.layout in
        let same = opened_as other was view' (Layout.New m) opens at_map in
        let agreed = new_view m nodes owners kind is_map a other was view' opens held in
        let opened = subst (OpensAs was other) (sym same) opens in
        let viewed = subst (ArePartsOf h) (sym same) held in
        let disc = new_kind was other (record { kind = other; layout = Layout.New m; listings = view'.listings }) m opened refl in
        let w = run_by other agreed.0 view'.listings agreed.1 viewed in
        let taken = one_map m' run.given in
        let at = image_of.there_of (growing w.a) disc.0 was disc.1 opened p.ready bytes image m' (one_step w version) is in
        subst (λ (v : Opened). SafeOutcome other was image v (Command.Rename from to) (parts_with m' nodes' owners')) same
        (subst (λ (ns : Nodes). SafeOutcome other was image (record { kind = other; layout = Layout.New m; listings = view'.listings }) (Command.Rename from to) (parts_with m' ns owners')) (sym run.nodes)
        (outcome w version refl space m' taken number owners' run.owners writing disc.0 was disc.1 opened bytes image at law is))

    changes_then : (now : Parts) (m' : Map) (number : ℕ) (was image : List ℕ) → IsRun (parts_with m nodes owners) now p number → now.layout ≡ Layout.New m' → IsChanged m m' p.ready bytes was image
        → ChangesPartsSafely (Command.Rename from to) (parts_with m nodes owners) now was image
    changes_then now m' number was image run at is =
        subst (λ (q : Layout). ChangesPartsSafely (Command.Rename from to) h (record { layout = q; nodes = now.nodes; owners = now.owners }) was image) (sym at)
        (changes_new m' now.nodes now.owners number was image (subst (λ (q : Layout). IsRun h (record { layout = q; nodes = now.nodes; owners = now.owners }) p number) at run) is)

-- the laws of such a `rename`
pub copy_grown_laws : SafeSpaceLaw → SafeWritingLaw → SafeGrownCopyingLaw → (kind : Kind) (m : Map) (nodes : Nodes) (owners : List Owner) → IsNewMap m → Agree kind (parts_with m nodes owners) → (r : Renaming) (from to : Path) (name bytes : List ℕ)
    → IsRenamer (parts_with m nodes owners) from to r name → Suits (Layout.New m) nodes → is_copied (parts_with m nodes owners) r ≡ true → len_at nodes r.target.node < 2 ^ 32 → (growth : Growth)
    → ((w : Wants) → AreWants (parts_with m nodes owners) (jobs.Move r) name w → w.grows ≡ Some growth) → TellsVersion (Layout.New m) → SafeJobLaws kind m (parts_with m nodes owners) (jobs.Move r) name bytes
copy_grown_laws space writing law kind m nodes owners is_map a r from to name bytes it suits copied few growth grows version =
    let h = parts_with m nodes owners in
    record {
      can_prepare = can_prepare space writing law kind m nodes owners is_map a r from to name bytes it suits copied few growth grows version;
      can_write = λ p n prep room. can_write_it space writing law kind m nodes owners is_map a r from to name bytes it suits copied few growth grows version p prep n room;
      can_take = λ p m' number room prep taken more. can_take_over space writing law kind m nodes owners is_map a r from to name bytes it suits copied few growth grows version p prep m' number room taken;
      agrees = λ p now number prep run. agrees_then space writing law kind m nodes owners is_map a r from to name bytes it suits copied few growth grows version p prep now.layout now.nodes now.owners number run;
      leads = λ c p x j prep held.
          (let its = renamer h kind a c r name bytes j in
          subst (λ (d : Command). LeadsTo (mapped m x) p.ready bytes (changed (tree_of x.image (Layout.New m) x.listings) d)) (sym its.2)
          (leads space writing law kind m nodes owners is_map a r its.0 its.1 name bytes its.3 suits copied few growth grows version p prep x held));
      changes = λ c p m' now number was image j prep run at is.
          (let its = renamer h kind a c r name bytes j in
          subst (λ (d : Command). ChangesPartsSafely d h now was image) (sym its.2)
          (changes_then space writing law kind m nodes owners is_map a r its.0 its.1 name bytes its.3 suits copied few growth grows version p prep now m' number was image run at is));
      short_is = λ c w v j are sound held. short_as kind m h c (jobs.Move r) name bytes (record { is_map = is_map; layout = refl; suits = suits; agree = a; judged = j }) v sound held w are;
      full = λ c v j full sound held. full_as kind m h c (jobs.Move r) name bytes (record { is_map = is_map; layout = refl; suits = suits; agree = a; judged = j }) v sound held full;
    }
