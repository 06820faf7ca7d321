-- `rename` by which a directory grows and nothing is copied, in the safe mode: the laws of its job.
use Rattle.std.proofs.Common.{◌≡◌, ◌≤◌, ◌==◌, ◌||◌, ℕ, Bool, true, false, cond, List, [], ◌∷◌, refl, sym, ap, ap₂, subst, ◌∙◌, eq-eqb, Option, Some, None}
use Rattle.std.specs.Prelude.{IfSome}
use Rattle.std.proofs.lemmas.Bool.{eqb-true}
use Rattle.std.specs.FinMap.{get}
use Rattle.fc_changes.proofs.BasicLemmas.{clash}
use Rattle.fc_image.specs.safe.SafeEffect.{HasTree}
use Rattle.fc_tree.specs.Nodes.{number_of}
use Rattle.fc_tree.proofs.WalkedLemmas.{listed_directory}
use Rattle.fc_commands.proofs.GrownMoveMadeLemmas.{MadeEdit}
use Rattle.fc_commands.proofs.GrownMoveToldLemmas.{entry_now}
use Rattle.fc_commands.proofs.GrownMoveWalkLemmas as walk
use Rattle.fc_safe.proofs.ListLemmas.{any_of}
use Rattle.fc_safeedits.specs.SafeOutcome.{SafeOutcome}
use Rattle.fc_safecommands.specs.Jobs.{IsJudgedIn}
use Rattle.fc_safecommands.proofs.JudgedLemmas.{full_as, short_as}
use Rattle.fc_alloc.specs.declared.owner.Owner.{Owner}
use Rattle.fc_alloc.specs.Owners.{has_node, is_node, with_changed}
use Rattle.fc_record.specs.declared.Kind.{Kind}
use Rattle.fc_newmap.specs.Map.{Map}
use Rattle.fc_newmap.specs.NewMap.{IsNewMap}
use Rattle.fc_model.specs.Answer.{changed}
use Rattle.fc_model.specs.Command.{Command}
use Rattle.fc_drafts.specs.Entries.{regrown}
use Rattle.fc_image.specs.Layout.{Layout, disc_sectors}
use Rattle.fc_image.specs.Objects.{has_sectors, tree_of}
use Rattle.fc_image.specs.Opening.{Opened}
use Rattle.fc_image.specs.Stays.{OpensAs}
use Rattle.fc_image.specs.Walk.{Listing}
use Rattle.fc_changes.proofs.lemmas.old.BeforeLemmas.{opened_as}
use Rattle.fc_tree.specs.Agree.{Agree}
use Rattle.fc_tree.specs.Parts.{ArePartsOf, Parts}
use Rattle.fc_tree.specs.declared.node.Node.{Node}
use Rattle.fc_tree.proofs.WalkedLemmas.{same_some}
use Rattle.fc_laws.specs.nodes.Edits.{Nodes}
use Rattle.fc_laws.specs.agree.Agreed.{AgreeOn, parts_with}
use Rattle.fc_laws.proofs.lemmas.agree.BeforeLemmas.{agreed_law}
use Rattle.fc_holdings.specs.Holdings.{TellsVersion}
use Rattle.fc_refusals.specs.declared.target.Renaming.{Renaming}
use Rattle.fc_writing.specs.New.{CanWrite, IsChanged, IsGiven, IsTaken}
use Rattle.fc_writing.specs.Steps.{CanRoot, HasStepped}
use Rattle.fc_change.specs.After.{AreOwnersAfter, CanTakeOver, IsRegrownOwner, IsTurnedOwner, nodes_after, owners_admitted}
use Rattle.fc_change.specs.Owned.{IsOwnerNow, entry_owner, owner_if}
use Rattle.fc_change.specs.declared.change.Regrowth.{Regrowth}
use Rattle.fc_change.specs.declared.change.Turned.{Turned}
use Rattle.fc_change.specs.declared.job.Growth.{Growth}
use Rattle.fc_change.specs.declared.job.Job.TheVariants as jobs
use Rattle.fc_change.specs.declared.job.Wants.{Wants}
use Rattle.fc_change.specs.GrownSpace.{root_of}
use Rattle.fc_change.specs.Jobs.{IsJob}
use Rattle.fc_change.specs.Needs.{AreWants, is_copied}
use Rattle.fc_commands.specs.declared.stages.Prepared.{Prepared}
use Rattle.fc_commands.specs.Jobs.{IsJobFor}
use Rattle.fc_commands.specs.Run.{IsRun}
use Rattle.fc_commands.proofs.GrownMoveNodeLemmas as node_of
use Rattle.fc_commands.proofs.GrownMoveRunLemmas.{owned_by}
use Rattle.fc_commands.proofs.GrownMoveReadyLemmas.{plain_entry}
use Rattle.fc_commands.proofs.TargetLemmas as target_of
use Rattle.fc_laws.proofs.lemmas.takeover.KindLemmas.{new_kind}
use Rattle.fc_safe.specs.Suits.{is_low_directory}
use Rattle.fc_safe.proofs.SuitsLemmas.{low_of}
use Rattle.fc_commands.proofs.MoveOwnerLemmas as mover
use Rattle.fc_commands.proofs.MoveRunLemmas.{new_seen}
use Rattle.fc_commands.proofs.MoveStageLemmas.{renamer}
use Rattle.fc_commands.proofs.MoveStageLemmas as move_stage
use Rattle.fc_commands.proofs.NodeLemmas as its_node
use Rattle.fc_commands.proofs.RemovalRunLemmas.{new_view}
use Rattle.fc_safe.specs.Suits.{Suits}
use Rattle.fc_safecrash.specs.Crash.{LeadsTo}
use Rattle.fc_safeedits.specs.SafeSpace.{SafeSpaceLaw}
use Rattle.fc_safeedits.specs.SafeWriting.{SafeWritingLaw}
use Rattle.fc_safeedits.specs.SafeGrownMoving.{SafeGrownMovingLaw}
use Rattle.fc_safelaws.specs.Free.{view}
use Rattle.fc_safecommands.specs.Anew.{IsPreparedAnew}
use Rattle.fc_safecommands.specs.Laws.{MappedBy, SafeJobLaws, mapped}
use Rattle.fc_safecommands.specs.Promises.{ChangesPartsSafely}
use Rattle.fc_safecommands.specs.Stages.{CanPrepareAnew}
use Rattle.fc_safecommands.proofs.GrownImageLemmas as image_of
use Rattle.fc_safecommands.proofs.GrownMoveEditLemmas as edit_of
use Rattle.fc_safecommands.proofs.GrownMoveImageLemmas as done_of
use Rattle.fc_safecommands.proofs.GrownMoveJobLemmas.{GrownMove, can_place, growing, number as number_at}
use Rattle.fc_safecommands.proofs.GrownMovePartsLemmas as after_of
use Rattle.fc_safecommands.proofs.GrownMovePartsLemmas.{MoveRun, shown_of}
use Rattle.fc_safecommands.proofs.GrownMovePutLemmas as put_of
use Rattle.fc_safecommands.proofs.GrownMoveStageLemmas as stage
use Rattle.fc_safecommands.proofs.GrownMoveTakeLemmas as take_of
use Rattle.fc_safecommands.proofs.GrownMoveTakesLemmas as takes_of
use Rattle.fc_safecommands.proofs.GrownPutLemmas as written_of
use Rattle.fc_safecommands.proofs.GrownRecordLemmas as record_of
use Rattle.fc_safecommands.proofs.GrownSuitsLemmas.{IsNoneLow, suits_after}

-- ---- owners after it

changed_node : (v : Owner) (os : List Owner) (n : ℕ) → has_node (with_changed v os) n ≡ has_node os n
changed_node v [] n = refl
changed_node v (o ∷ os) n = ap₂ (λ (a b : Bool). a || b) (by (o.node == v.node) refl) (changed_node v os n)
  where
    by : (c : Bool) → (o.node == v.node) ≡ c → is_node n (cond c v o) ≡ is_node n o
    by true e = ap (λ (x : ℕ). x == n) (sym (eqb-true o.node v.node e))
    by false e = refl

-- There are some.
module _ (w : MoveRun) (m' : Map) (same : m'.geometry ≡ w.a.m.geometry) (number : ℕ) where
  abbrev part : MadeEdit (edit_of.e (shown_of w))
  part = (edit_of.md (shown_of w)).part

  abbrev dir : Regrowth
  dir = (stage.p w.a w.s w.placed).directory

  abbrev n : ℕ
  n = w.a.r.target.node

  abbrev was : List Owner
  was = owners_admitted (Layout.New w.a.m) w.p.change.object number w.a.owners

  ow : node_of.IsOwnedThen (edit_of.e (shown_of w)) (edit_of.md (shown_of w)).part m'
  ow = owned_by (edit_of.plain (shown_of w)) (edit_of.md (shown_of w)) m' same

  was_is : was ≡ w.a.owners
  was_is = ap (λ (t : Turned). owners_admitted (Layout.New w.a.m) t number w.a.owners) part.turned ∙ ow.admitted number

  dir_at : number_of w.a.nodes w.a.seen.known.destination.listing.object.path ≡ Some dir.node
  dir_at = walk.number (edit_of.q (shown_of w))

  abbrev own : Node
  own = its_node.node w.a.nodes (Layout.New w.a.m) w.a.listings w.a.seen.sound w.a.seen.held w.a.seen.known.destination.listing w.a.seen.known.destination.listed dir.node dir_at

  own_there : get w.a.nodes dir.node ≡ Some own
  own_there = its_node.there w.a.nodes (Layout.New w.a.m) w.a.listings w.a.seen.sound w.a.seen.held w.a.seen.known.destination.listing w.a.seen.known.destination.listed dir.node dir_at

  -- with the grown directory's
  abbrev middle : List Owner
  middle = with_changed (entry_owner (Layout.New m') dir.node own.holder (regrown own.entry dir.address dir.len)) was

  is_middle : IsRegrownOwner (Layout.New m') w.a.nodes (Some dir) was middle
  is_middle node at = ap (λ (k : Node). with_changed (entry_owner (Layout.New m') dir.node k.holder (regrown k.entry dir.address dir.len)) was) (same_some own node (sym own_there ∙ at))

  none : has_sectors w.a.seen.known.target.object ≡ false → has_node middle n ≡ false
  none e =
      changed_node (entry_owner (Layout.New m') dir.node own.holder (regrown own.entry dir.address dir.len)) was n ∙ ap (λ (os : List Owner). has_node os n) was_is
      ∙ mover.has (Layout.New w.a.m) w.a.nodes w.a.listings w.a.from w.a.to w.a.r w.a.name w.a.seen w.a.owners w.a.agreed.owned ∙ e

  now : (o : Option Owner) → (o ≡ None → has_node middle n ≡ false) → (owners' : List Owner) × IsOwnerNow n o middle owners'
  now (Some o) free = (with_changed o middle, refl)
  now None free = (middle, record { gone = λ o at its. absurd (clash (has_node middle n) (any_of (is_node n) middle o at (eq-eqb o.node n its)) (free refl)); none = λ e. refl })

  -- and the object's
  pub owners_then : (owners' : List Owner) × AreOwnersAfter (Layout.New m') w.a.nodes w.p.change (owners_admitted (Layout.New w.a.m) w.p.change.object number w.a.owners) owners'
  owners_then =
      let r = now (owner_if (Layout.New m') w.a.r.target.node w.a.r.holder (entry_now (edit_of.q (shown_of w)))) (λ e. by (has_sectors w.a.seen.known.target.object) refl _ (sym ow.now ∙ e)) in (
        r.0,
        record {
          middle = middle;
          grown = subst (λ (g : Option Regrowth). IsRegrownOwner (Layout.New m') w.a.nodes g was middle) (sym part.grown) is_middle;
          object = subst (λ (t : Turned). IsTurnedOwner (Layout.New m') t middle r.0) (sym part.turned) r.1;
        },
      )
    where
      by : (b : Bool) → has_sectors w.a.seen.known.target.object ≡ b → (o : Owner) → (let q : Option Owner = cond (has_sectors w.a.seen.known.target.object) (Some o) None in q) ≡ None → has_node middle n ≡ false
      by true e o f = absurd (let bad : (let q : Option Owner = Some o in q) ≡ None = sym (ap (λ (c : Bool). let q : Option Owner = cond c (Some o) None in q) e) ∙ f in cc)
      by false e o f = none e

-- The object doesn't come to lie in the map's identifier, if it is a directory.
none_low : (w : MoveRun) → is_low_directory (entry_now (edit_of.q (shown_of w))) ≡ false
none_low w =
    ap is_low_directory (plain_entry (edit_of.plain (shown_of w)))
    ∙ sym (ap low_of (target_of.node_is (Layout.New w.a.m) w.a.nodes w.a.listings w.a.seen.sound w.a.seen.held w.a.from w.a.r.target w.a.seen.known.target)) ∙ w.a.suits.1 w.a.r.target.node

-- ---- the laws of the job

module _ (space : SafeSpaceLaw) (writing : SafeWritingLaw) (moving : SafeGrownMovingLaw) (kind : Kind) (m : Map) (nodes : Nodes) (owners : List Owner) (is_map : IsNewMap m) (a : Agree kind (parts_with m nodes owners)) (r : Renaming)
    (name bytes : List ℕ) (suits : Suits (Layout.New m) nodes) (version : TellsVersion (Layout.New m)) (plain : is_copied (parts_with m nodes owners) r ≡ false) (growth : Growth)
    (grows : (w : Wants) → AreWants (parts_with m nodes owners) (jobs.Move r) name w → w.grows ≡ Some growth) where
  abbrev h : Parts
  h = parts_with m nodes owners

  -- by any walk, for whichever command's job it is
  abbrev move : (kind : Kind) (root : Node) (listings : List Listing) (agreed : AgreeOn kind m nodes owners root listings) → ArePartsOf (parts_with m nodes owners) (record { kind = kind; layout = Layout.New m; listings = listings })
      → (c : Command) → IsJobFor c (parts_with m nodes owners) (jobs.Move r) name bytes → (w : Wants) → AreWants (parts_with m nodes owners) (jobs.Move r) name w → GrownMove
  move walk_kind root listings agreed parts c k w are = record {
    kind = walk_kind;
    m = m;
    nodes = nodes;
    owners = owners;
    root = root;
    listings = listings;
    agreed = agreed;
    parts = parts;
    suits = suits;
    from = (renamer h kind a c r name bytes k).0;
    to = (renamer h kind a c r name bytes k).1;
    r = r;
    name = name;
    command = Command.Rename (renamer h kind a c r name bytes k).0 (renamer h kind a c r name bytes k).1;
    job_is = subst (λ (d : Command). IsJob nodes listings d (jobs.Move r) name) (renamer h kind a c r name bytes k).2
        (k.is (record { kind = walk_kind; layout = Layout.New m; listings = listings }) (agreed_law.sound walk_kind m nodes owners root listings agreed) parts);
    seen = new_seen m nodes owners walk_kind root listings (renamer h kind a c r name bytes k).0 (renamer h kind a c r name bytes k).1 r name agreed (renamer h kind a c r name bytes k).3;
    plain = plain;
    wants = w;
    are = are;
    growth = growth;
    grows = grows w are;
  }

  abbrev run : (kind : Kind) (root : Node) (listings : List Listing) (agreed : AgreeOn kind m nodes owners root listings) → ArePartsOf (parts_with m nodes owners) (record { kind = kind; layout = Layout.New m; listings = listings })
      → (c : Command) → IsJobFor c (parts_with m nodes owners) (jobs.Move r) name bytes → (p : Prepared) → IsPreparedAnew m (parts_with m nodes owners) (jobs.Move r) name p → MoveRun
  run walk_kind root listings agreed parts c k p prep = record { a = move walk_kind root listings agreed parts c k prep.wants prep.are_wants; s = prep.spaces; placed = prep.placed; p = p; change = prep.change; ready = prep.ready }

  on : AgreeOn kind m nodes owners a.root a.listings
  on = agreed_law.named kind h m refl is_map a

  own_view : ArePartsOf h (record { kind = kind; layout = Layout.New m; listings = a.listings })
  own_view = agreed_law.viewed kind h a

  rooted : (w : MoveRun) → TellsVersion (Layout.New w.a.m) → IfSome (root_of w.s.grown) (CanRoot w.a.m)
  rooted w tells = record_of.rooted (growing w.a) w.s w.placed tells

  its_growing : (w : MoveRun) → record_of.IsItsGrowing (growing w.a) w.s w.placed (after_of.g w)
  its_growing w = record {
    there = (listed_directory (Layout.New w.a.m) w.a.listings w.a.seen.sound w.a.seen.known.destination.listing w.a.seen.known.destination.listed).0;
    number = number_at w.a;
    address = refl;
    len = refl;
  }

  same_map : (w : MoveRun) (m' : Map) → IsTaken w.a.m w.p.ready m' → m'.geometry ≡ w.a.m.geometry
  same_map w m' taken = image_of.geometry (growing w.a) w.s w.placed w.p.change (edit_of.tells (shown_of w)) w.p.ready w.ready m' taken

  -- the map after it is the one that its single step makes
  one_map : (p : Prepared) → IsPreparedAnew m h (jobs.Move r) name p → (m' : Map) → IsGiven m p.ready m' → IsTaken m p.ready m'
  one_map p prep m' given = subst (IsTaken m p.ready) (sym (subst (HasStepped given.0 m') prep.ready.no_give given.2)) given.1

  module _ (c : Command) (k : IsJobFor c (parts_with m nodes owners) (jobs.Move r) name bytes) where
    abbrev own_run : (p : Prepared) → IsPreparedAnew m (parts_with m nodes owners) (jobs.Move r) name p → MoveRun
    own_run p prep = run kind a.root a.listings on own_view c k p prep

    abbrev own_move : (w : Wants) → AreWants (parts_with m nodes owners) (jobs.Move r) name w → GrownMove
    own_move w are = move kind a.root a.listings on own_view c k w are

    can_prepare : CanPrepareAnew m h (jobs.Move r) name
    can_prepare = record {
      want = move_stage.can_want (Layout.New m) nodes a.listings (renamer h kind a c r name bytes k).0 (renamer h kind a c r name bytes k).1 r name
          (new_seen m nodes owners kind a.root a.listings (renamer h kind a c r name bytes k).0 (renamer h kind a c r name bytes k).1 r name on (renamer h kind a c r name bytes k).3);
      place = λ w are. can_place (own_move w are);
      draft = λ w s spaced. stage.can_draft (own_move w spaced.wants) s spaced.placed;
      placed = λ w s spaced. tt;
      write = λ w s change spaced is. stage.can_write (own_move w spaced.wants) s spaced.placed change is;
      zones = λ w s spaced p at. stage.zones (own_move w spaced.wants) s spaced.placed p at;
    }

    can_write : (p : Prepared) (n : ℕ) → IsPreparedAnew m h (jobs.Move r) name p → disc_sectors (Layout.New m) ≤ n → CanWrite n m p.ready
    can_write p n prep room = put_of.can_write (own_run p prep) (rooted (own_run p prep) version) n room

    can_take : (p : Prepared) (m' : Map) (number room : ℕ) → IsPreparedAnew m h (jobs.Move r) name p → IsTaken m p.ready m' → CanTakeOver (Layout.New m') nodes (owners_admitted (Layout.New m) p.change.object number owners) room p.change
    can_take p m' number room prep taken =
        take_of.can_take (own_move prep.wants prep.are_wants) prep.spaces prep.placed p.change prep.change m' (same_map (own_run p prep) m' taken) number room

    agrees_new : (p : Prepared) (prep : IsPreparedAnew m h (jobs.Move r) name p) (m' : Map) (nodes' : Nodes) (owners' : List Owner) (number : ℕ) → IsRun h (parts_with m' nodes' owners') p number
        → Agree kind (parts_with m' nodes' owners') × Suits (Layout.New m') nodes'
    agrees_new p prep m' nodes' owners' number ran =
        let w = own_run p prep in
        let taken = one_map p prep m' ran.given in
        let part = (edit_of.md (shown_of w)).part in (
          subst (λ (ns : Nodes). Agree kind (parts_with m' ns owners')) (sym ran.nodes) (after_of.agrees w m' taken space number owners' ran.owners moving),
          subst (Suits (Layout.New m')) (sym ran.nodes)
              (suits_after (growing w.a) prep.spaces prep.placed p.change part.grown (subst IsNoneLow (sym part.turned) (none_low w)) m' (same_map w m' taken) number),
        )

    agrees_then : (p : Prepared) (prep : IsPreparedAnew m h (jobs.Move r) name p) (now : Layout) (nodes' : Nodes) (owners' : List Owner) (number : ℕ) → IsRun h (record { layout = now; nodes = nodes'; owners = owners' }) p number
        → Agree kind (record { layout = now; nodes = nodes'; owners = owners' }) × Suits now nodes'
    agrees_then p prep (Layout.New m') nodes' owners' number ran = agrees_new p prep m' nodes' owners' number ran
    agrees_then p prep (Layout.Old s) nodes' owners' number ran = absurd ran.given

    -- ---- by each image

    leads : (p : Prepared) (prep : IsPreparedAnew m h (jobs.Move r) name p) (x : MappedBy m) → ArePartsOf h (view (mapped m x)) → LeadsTo (mapped m x) p.ready bytes (changed (tree_of x.image (Layout.New m) x.listings) c)
    leads p prep by held =
        let seen = new_view m nodes owners kind is_map a by.kind by.image (view (mapped m by)) by.opens held in
        let w = run by.kind seen.0 by.listings seen.1 held c k p prep in
        let root = rooted w version in
        record {
          one_step = put_of.one_step w root;
          free = λ u e. written_of.written_free (growing w.a) w.s w.placed w.p.change (edit_of.tells (shown_of w)) w.p.ready w.ready [] (put_of.lies w) (put_of.put w) root u e;
          after = λ m' image taken there.
              (let then = owners_then w m' (same_map w m' taken) 0 in
              let recorded = record_of.recorded (growing w.a) w.s w.placed by.r by.image by.new_kind by.opens w.p.change (edit_of.tells (shown_of w)) w.p.ready w.ready [] (put_of.lies w) (put_of.put w) root m' taken space writing
              (nodes_after w.p.change 0 nodes) then.0 bytes image there version (after_of.g w) (its_growing w) in
              subst (λ (d : Command). HasTree by.kind (changed (tree_of by.image (Layout.New m) by.listings) d) image) (sym (renamer h kind a c r name bytes k).2)
              (done_of.tree w m' taken space 0 then.0 then.1 (put_of.lies w) (put_of.put w) root writing by.r by.image by.new_kind by.opens bytes image there recorded moving));
        }

    changes_new : (p : Prepared) (prep : IsPreparedAnew m h (jobs.Move r) name p) (m' : Map) (nodes' : Nodes) (owners' : List Owner) (number : ℕ) (was image : List ℕ) → IsRun h (parts_with m' nodes' owners') p number
        → IsChanged m m' p.ready bytes was image → ChangesPartsSafely c h (parts_with m' nodes' owners') was image
    changes_new p prep m' nodes' owners' number was image ran is other viewed_as opens held =
        let same = opened_as other was viewed_as (Layout.New m) opens (sym held.layout) in
        let seen = new_view m nodes owners kind is_map a other was viewed_as opens held in
        let opened = subst (OpensAs was other) (sym same) opens in
        let viewed = subst (ArePartsOf h) (sym same) held in
        let disc = new_kind was other (record { kind = other; layout = Layout.New m; listings = viewed_as.listings }) m opened refl in
        let w = run other seen.0 viewed_as.listings seen.1 viewed c k p prep in
        let taken = one_map p prep m' ran.given in
        let root = rooted w version in
        let there = image_of.there_of (growing w.a) disc.0 was disc.1 opened p.ready bytes image m' (put_of.one_step w root) is in
        let recorded = record_of.recorded (growing w.a) w.s w.placed disc.0 was disc.1 opened w.p.change (edit_of.tells (shown_of w)) w.p.ready w.ready [] (put_of.lies w) (put_of.put w) root m' taken space writing
        (nodes_after w.p.change number nodes) owners' bytes image there version (after_of.g w) (its_growing w) in
        let whole = record_of.whole (growing w.a) w.s w.placed disc.0 was disc.1 opened w.p.change (edit_of.tells (shown_of w)) w.p.ready w.ready [] (put_of.lies w) (put_of.put w) root m' taken space writing
        (nodes_after w.p.change number nodes) owners' bytes image there version (after_of.g w) (its_growing w) is in
        let takes = takes_of.takes w.a w.s w.placed (after_of.g w) refl w.p.change (edit_of.tells (shown_of w)) w.p.ready w.ready m' taken space (nodes_after w.p.change number nodes) owners' in
        subst (λ (v : Opened). SafeOutcome other was image v c (parts_with m' nodes' owners')) same
        (subst (λ (d : Command). SafeOutcome other was image (record { kind = other; layout = Layout.New m; listings = viewed_as.listings }) d (parts_with m' nodes' owners')) (sym (renamer h kind a c r name bytes k).2)
        (subst (λ (ns : Nodes). SafeOutcome other was image (record { kind = other; layout = Layout.New m; listings = viewed_as.listings }) (Command.Rename w.a.from w.a.to) (parts_with m' ns owners')) (sym ran.nodes)
        (done_of.outcome w m' taken space number owners' ran.owners (put_of.lies w) (put_of.put w) root writing disc.0 was disc.1 opened bytes image there recorded moving takes whole)))

    changes_then : (p : Prepared) (prep : IsPreparedAnew m h (jobs.Move r) name p) (now : Parts) (m' : Map) (number : ℕ) (was image : List ℕ) → IsRun h now p number → now.layout ≡ Layout.New m' → IsChanged m m' p.ready bytes was image
        → ChangesPartsSafely c h now was image
    changes_then p prep now m' number was image ran at is =
        subst (λ (l : Layout). ChangesPartsSafely c h (record { layout = l; nodes = now.nodes; owners = now.owners }) was image) (sym at)
        (changes_new p prep m' now.nodes now.owners number was image (subst (λ (l : Layout). IsRun h (record { layout = l; nodes = now.nodes; owners = now.owners }) p number) at ran) is)

  judged : (c : Command) → IsJobFor c (parts_with m nodes owners) (jobs.Move r) name bytes → IsJudgedIn kind m h c (jobs.Move r) name bytes
  judged c k = record { is_map = is_map; layout = refl; suits = suits; agree = a; judged = k }

  -- the laws of `rename`
  pub grown_move_laws : (c : Command) → IsJobFor c (parts_with m nodes owners) (jobs.Move r) name bytes → SafeJobLaws kind m (parts_with m nodes owners) (jobs.Move r) name bytes
  grown_move_laws command j = record {
    can_prepare = can_prepare command j;
    can_write = λ p n prep room. can_write command j p n prep room;
    can_take = λ p m' number room prep taken some. can_take command j p m' number room prep taken;
    agrees = λ p now number prep ran. agrees_then command j p prep now.layout now.nodes now.owners number ran;
    leads = λ c p x k prep held. leads c k p prep x held;
    changes = λ c p m' now number was image k prep ran at is. changes_then c k p prep now m' number was image ran at is;
    short_is = λ c w v k are sound held. short_as kind m h c (jobs.Move r) name bytes (judged c k) v sound held w are;
    full = λ c v k full sound held. full_as kind m h c (jobs.Move r) name bytes (judged c k) v sound held full;
  }
