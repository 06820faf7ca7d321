-- `save`, `create` and `cdir` of what is new in the safe mode, by which a directory grows: the laws of their jobs.
use Rattle.std.proofs.Common.{◌≡◌, ◌<◌, ◌≤◌, ◌⊎◌, ◌++◌, inl, inr, ℕ, List, [], ◌∷◌, refl, sym, ap, subst, ◌∙◌, arith, Option, Some, None}
use Rattle.std.specs.Prelude.{Contains}
use Rattle.fc_alloc.specs.Owners.{with_changed}
use Rattle.fc_alloc.specs.declared.owner.Owner.{Owner}
use Rattle.fc_record.specs.declared.Kind.{Kind}
use Rattle.fc_newmap.specs.Map.{Map}
use Rattle.fc_newmap.specs.NewMap.{IsNewMap}
use Rattle.fc_holdings.specs.Holdings.{TellsVersion}
use Rattle.fc_names.specs.Names.{Path}
use Rattle.fc_model.specs.Answer.{changed}
use Rattle.fc_model.specs.Command.{Command}
use Rattle.fc_model.specs.Tree.{last_name}
use Rattle.fc_drafts.specs.Entries.{regrown}
use Rattle.fc_drafts.specs.Gains.{HasRoom}
use Rattle.fc_image.specs.Layout.{Layout, dir_form, id_of}
use Rattle.fc_image.specs.Objects.{tree_of}
use Rattle.fc_image.specs.Opening.{Opened}
use Rattle.fc_image.specs.Sound.{AreSound}
use Rattle.fc_image.specs.Stays.{OpensAs}
use Rattle.fc_image.specs.Walk.{Listing}
use Rattle.fc_image.specs.effects.Short.{Gain, Growth as Grown, gain_of, growth_with}
use Rattle.fc_changes.proofs.lemmas.old.BeforeLemmas.{opened_as}
use Rattle.fc_laws.specs.nodes.Edits.{Nodes}
use Rattle.fc_laws.specs.agree.Agreed.{AgreeOn, parts_with}
use Rattle.fc_laws.proofs.lemmas.agree.BeforeLemmas.{agreed_law}
use Rattle.fc_laws.proofs.lemmas.takeover.KindLemmas.{new_kind}
use Rattle.fc_refusals.specs.Targets.{IsVacant}
use Rattle.fc_tree.specs.declared.node.Node.{Node}
use Rattle.fc_tree.specs.Agree.{Agree}
use Rattle.fc_tree.specs.Parts.{ArePartsOf, Parts}
use Rattle.fc_tree.proofs.WalkedLemmas.{same_some}
use Rattle.fc_writing.specs.New.{IsChanged, IsGiven, IsTaken}
use Rattle.fc_writing.specs.Steps.{HasStepped}
use Rattle.fc_change.specs.After.{AreOwnersAfter, CanTakeOver, IsRegrownOwner, IsTurnedOwner, nodes_more, owners_admitted}
use Rattle.fc_change.specs.Jobs.{IsJob}
use Rattle.fc_change.specs.Needs.{AreWants, CanWant, room_of}
use Rattle.fc_change.specs.Owned.{entry_owner}
use Rattle.fc_change.specs.declared.change.Regrowth.{Regrowth}
use Rattle.fc_change.specs.declared.change.Turned.{Turned}
use Rattle.fc_change.specs.declared.change.Turned.TheVariants as turns
use Rattle.fc_change.specs.declared.job.Growth.{Growth}
use Rattle.fc_change.specs.declared.job.Wants.{Wants}
use Rattle.fc_commands.specs.declared.stages.Prepared.{Prepared}
use Rattle.fc_commands.specs.Jobs.{IsJobFor}
use Rattle.fc_commands.specs.Run.{IsRun}
use Rattle.fc_commands.proofs.ArrivalLemmas.{Arrival, Brings, CanArrive, IsShort, address_is, job_of}
use Rattle.fc_commands.proofs.ArrivalStageLemmas.{Arrives, arrives}
use Rattle.fc_commands.proofs.ArrivalTakenLemmas.{GrowsNone}
use Rattle.fc_commands.proofs.GrownWantLemmas.{its_want}
use Rattle.fc_commands.proofs.HolderLemmas.{says_at}
use Rattle.fc_commands.proofs.NodeLemmas as its_node
use Rattle.fc_commands.proofs.RemovalRunLemmas.{new_view, sound_in}
use Rattle.fc_commands.proofs.RemovalStageLemmas.{view_of}
use Rattle.fc_safe.specs.Suits.{Suits}
use Rattle.fc_safelaws.specs.Free.{view}
use Rattle.fc_safecrash.specs.Crash.{LeadsTo}
use Rattle.fc_safeedits.specs.SafeOutcome.{SafeOutcome}
use Rattle.fc_safeedits.specs.SafeSpace.{SafeSpaceLaw}
use Rattle.fc_safeedits.specs.SafeWriting.{SafeWritingLaw}
use Rattle.fc_safeedits.specs.SafeGrownAddition.{SafeGrownAdditionLaw}
use Rattle.fc_safecommands.specs.Jobs.{IsJudgedIn}
use Rattle.fc_safecommands.specs.Anew.{IsPreparedAnew}
use Rattle.fc_safecommands.specs.Laws.{MappedBy, SafeJobLaws, mapped}
use Rattle.fc_safecommands.specs.Promises.{ChangesPartsSafely}
use Rattle.fc_safecommands.specs.Stages.{CanPrepareAnew}
use Rattle.fc_safecommands.proofs.GrownArrivalLemmas as arrival_of
use Rattle.fc_safecommands.proofs.GrownArrivalLemmas.{GrownArrival}
use Rattle.fc_safecommands.proofs.GrownArrivalStageLemmas as stage_of
use Rattle.fc_safecommands.proofs.GrownComesLemmas.{GrownRun, comes, e, own, p, place, tells}
use Rattle.fc_safecommands.proofs.GrownEndLemmas as end_of
use Rattle.fc_safecommands.proofs.GrownImageLemmas as image_of
use Rattle.fc_safecommands.proofs.GrownItsSpotLemmas.{its_spot}
use Rattle.fc_safecommands.proofs.GrownNeedsLemmas.{new_high}
use Rattle.fc_safecommands.proofs.GrownStillLemmas.{arrival_suits}
use Rattle.fc_safecommands.proofs.GrownStirLemmas.{own_bytes}
use Rattle.fc_safecommands.proofs.GrownTakeLemmas as take_of
use Rattle.fc_safecommands.proofs.JudgedLemmas.{full_as, short_as}
use Rattle.fc_safecommands.proofs.NumberLemmas.{free_number}

-- By whatever it wants a directory grows.
abbrev pub GrowsSome : Parts → ℕ → Arrival → List ℕ → Type 0
GrowsSome h dir b name = (w : Wants) → AreWants h (job_of dir b) name w → (g : Growth) × (w.grows ≡ Some g)

module _ (kind : Kind) (m : Map) (nodes : Nodes) (owners : List Owner) (is_map : IsNewMap m) (a : Agree kind (parts_with m nodes owners)) (suits : Suits (Layout.New m) nodes) (dir : ℕ) (b : Arrival) where
  abbrev h : Parts
  h = parts_with m nodes owners

  -- The directory's room tells which: it hangs on no wants.
  pub grows_or_none : (path : Path) → CanArrive (parts_with m nodes owners) path dir → GrowsNone (parts_with m nodes owners) dir b (last_name path) ⊎ GrowsSome (parts_with m nodes owners) dir b (last_name path)
  grows_or_none path can = by (growth_with spot.listing.object spot.listing.content gain) refl
    where
      sound : AreSound (Layout.New m) a.listings
      sound = agreed_law.sound_by kind h a

      spot : IsVacant nodes a.listings path dir
      spot = can.vacant (view_of h kind a) sound (agreed_law.viewed kind h a)

      gain : Gain
      gain = gain_of path spot.listing

      room : (w : Wants) → AreWants h (job_of dir b) (last_name path) w → HasRoom spot.listing.content gain (room_of w.grows)
      room w are = (its_want h dir b (last_name path) w are).room spot.listing.content gain (says_at (Layout.New m) nodes a.listings sound a.walked.held spot.listing spot.listed dir spot.holder_is) (record { name_is = refl; names_are = refl })

      none_of : (o : Option Growth) → HasRoom spot.listing.content gain (room_of o) → growth_with spot.listing.object spot.listing.content gain ≡ None → o ≡ None
      none_of None has none = refl
      none_of (Some g) has none = absurd (let bad = sym (has.1 spot.listing.object) ∙ none in cc)

      some_of : (o : Option Growth) (g : Grown) → HasRoom spot.listing.content gain (room_of o) → growth_with spot.listing.object spot.listing.content gain ≡ Some g → (k : Growth) × (o ≡ Some k)
      some_of None g has some = absurd (let bad = sym (has.1 spot.listing.object) ∙ some in cc)
      some_of (Some k) g has some = (k, refl)

      by : (o : Option Grown) → growth_with spot.listing.object spot.listing.content gain ≡ o → GrowsNone h dir b (last_name path) ⊎ GrowsSome h dir b (last_name path)
      by None none = inl (λ w are. none_of w.grows (room w are) none)
      by (Some g) some = inr (λ w are. some_of w.grows g (room w are) some)

module _ (space : SafeSpaceLaw) (writing : SafeWritingLaw) (law : SafeGrownAdditionLaw) (kind : Kind) (m : Map) (nodes : Nodes) (owners : List Owner) (is_map : IsNewMap m) (a : Agree kind (parts_with m nodes owners))
    (suits : Suits (Layout.New m) nodes) (version : TellsVersion (Layout.New m)) (dir : ℕ) (b : Arrival) (few : IsShort b) where
  abbrev hh : Parts
  hh = parts_with m nodes owners

  module _ (path : Path) (can : CanArrive (parts_with m nodes owners) path dir) (some : GrowsSome (parts_with m nodes owners) dir b (last_name path)) where
    abbrev name : List ℕ
    name = last_name path

    module _ (other : Kind) (root : Node) (listings : List Listing) (on : AgreeOn other m nodes owners root listings) (held : ArePartsOf (parts_with m nodes owners) (record { kind = other; layout = Layout.New m; listings = listings }))
        (spot : IsVacant nodes listings path dir) (command : Command) (job_is : IsJob nodes listings command (job_of dir b) (last_name path)) where
      -- as the job of a command, by a view
      abbrev pub arrival : (w : Wants) → AreWants (parts_with m nodes owners) (job_of dir b) (last_name path) w → GrownArrival
      arrival w are = record {
        kind = other;
        m = m;
        nodes = nodes;
        owners = owners;
        root = root;
        listings = listings;
        agreed = on;
        parts = held;
        suits = suits;
        dir = dir;
        x = b;
        path = path;
        command = command;
        job_is = job_is;
        spot = spot;
        short = few;
        wants = w;
        are = are;
        growth = (some w are).0;
        grows = (some w are).1;
      }

      abbrev pub run : (pr : Prepared) → IsPreparedAnew m (parts_with m nodes owners) (job_of dir b) (last_name path) pr → GrownRun
      run pr prep = record { a = arrival prep.wants prep.are_wants; s = prep.spaces; placed = prep.placed; c = pr.change; change = prep.change; r = pr.ready; ready = prep.ready }

      want : (y : Arrival) → CanWant nodes (job_of dir y)
      want Arrival.Makes = tt
      want (Arrival.Saves words) = tt

      pub can_prepare : CanPrepareAnew m (parts_with m nodes owners) (job_of dir b) (last_name path)
      can_prepare = record {
        want = want b;
        place = λ w are. arrival_of.can_place (arrival w are);
        draft = λ w s spaced. stage_of.can_draft (arrival w spaced.wants) s spaced.placed;
        placed = λ w s spaced. stage_of.is_placed (arrival w spaced.wants) s spaced.placed;
        write = λ w s c spaced is. stage_of.can_write (arrival w spaced.wants) s spaced.placed c is;
        zones = λ w s spaced q at. stage_of.zones (arrival w spaced.wants) s spaced.placed q at;
      }

      module _ (pr : Prepared) (prep : IsPreparedAnew m (parts_with m nodes owners) (job_of dir b) (last_name path) pr) where
        pub can_take_over : (m' : Map) (number room : ℕ) → nodes_more pr.change.object ≤ room → CanTakeOver (Layout.New m') nodes (owners_admitted (Layout.New m) pr.change.object number owners) room pr.change
        can_take_over m' number room enough = take_of.can_take (arrival prep.wants prep.are_wants) pr prep refl m' number room enough

        -- the map after it is the one that its single step makes
        pub one_map : (m' : Map) → IsGiven m pr.ready m' → IsTaken m pr.ready m'
        one_map m' given = subst (IsTaken m pr.ready) (sym (subst (HasStepped given.0 m') prep.ready.no_give given.2)) given.1

        high : 0 < own_bytes (arrival_of.growing (arrival prep.wants prep.are_wants)) → 3 ≤ id_of (place (run pr prep)).address
        high own =
            let first = (its_spot (run pr prep)).first own in
            subst (λ (n : ℕ). 3 ≤ id_of n) (address_is (dir_form (Layout.New m)) b (last_name path) (place (run pr prep)).address)
            (new_high m (id_of (e (run pr prep)).address) (subst (λ (ks : List ℕ). Contains ks (id_of (e (run pr prep)).address)) (sym first.1) (0, omega arith, refl)))

        agrees_new : (m' : Map) (nodes' : Nodes) (owners' : List Owner) (number : ℕ) → IsRun (parts_with m nodes owners) (parts_with m' nodes' owners') pr number → Agree other (parts_with m' nodes' owners') × Suits (Layout.New m') nodes'
        agrees_new m' nodes' owners' number it =
            let taken = one_map m' it.given in (
              subst (λ (ns : Nodes). Agree other (parts_with m' ns owners')) (sym it.nodes) (end_of.agrees (run pr prep) version number it.free space m' taken owners' it.owners law),
              subst (λ (ns : Nodes). Suits (Layout.New m') ns) (sym it.nodes)
                  (arrival_suits (arrival prep.wants prep.are_wants) prep.spaces prep.placed pr.change prep.change (place (run pr prep)).address (own (run pr prep))
                  (comes (run pr prep) ∙ ap (λ (n : ℕ). turns.Comes n (e (run pr prep)) (own (run pr prep))) (stage_of.dir_is (arrival prep.wants prep.are_wants) prep.spaces prep.placed)) high m'
                  (end_of.same (run pr prep) version number it.free space m' taken owners' it.owners) number),
            )

        pub agrees_then : (now : Layout) (nodes' : Nodes) (owners' : List Owner) (number : ℕ) → IsRun (parts_with m nodes owners) (record { layout = now; nodes = nodes'; owners = owners' }) pr number
            → Agree other (record { layout = now; nodes = nodes'; owners = owners' }) × Suits now nodes'
        agrees_then (Layout.New m') nodes' owners' number it = agrees_new m' nodes' owners' number it
        agrees_then (Layout.Old s) nodes' owners' number it = absurd it.given

        -- owners that there may be then
        pub some_owners : (m' : Map) (number : ℕ) → (owners' : List Owner) × AreOwnersAfter (Layout.New m') nodes pr.change (owners_admitted (Layout.New m) pr.change.object number owners) owners'
        some_owners m' number =
            let w = run pr prep in
            let g = (p w).directory in
            let was = owners_admitted (Layout.New m) pr.change.object number owners in
            let sound = agreed_law.sound other m nodes owners root listings on in
            let at = stage_of.number_then w.a w.s w.placed in
            let node = its_node.node nodes (Layout.New m) listings sound on.walked.held spot.listing spot.listed g.node at in
            let there = its_node.there nodes (Layout.New m) listings sound on.walked.held spot.listing spot.listed g.node at in
            let now = with_changed (entry_owner (Layout.New m') g.node node.holder (regrown node.entry g.address g.len)) was in (
              now,
              record {
                middle = now;
                grown = subst (λ (q : Option Regrowth). IsRegrownOwner (Layout.New m') nodes q was now) (sym (tells w).grown)
                    (λ k i. ap (λ (n : Node). with_changed (entry_owner (Layout.New m') g.node n.holder (regrown n.entry g.address g.len)) was) (same_some node k (sym there ∙ i)));
                object = subst (λ (t : Turned). IsTurnedOwner (Layout.New m') t now now) (sym (comes w)) refl;
              },
            )

    -- ---- by each command whose job it is, and each image

    module _ (command : Command) (bytes : List ℕ) (brings : Brings b path bytes command)
        (job_is : (v : Opened) → AreSound v.layout v.listings → ArePartsOf (parts_with m nodes owners) v → IsJob nodes v.listings command (job_of dir b) (last_name path)) (pr : Prepared)
        (prep : IsPreparedAnew m (parts_with m nodes owners) (job_of dir b) (last_name path) pr) where
      pub leads : (x : MappedBy m) → ArePartsOf hh (view (mapped m x)) → LeadsTo (mapped m x) pr.ready bytes (changed (tree_of x.image (Layout.New m) x.listings) command)
      leads by held =
          let seen = new_view m nodes owners kind is_map a by.kind by.image (view (mapped m by)) by.opens held in
          let sound = agreed_law.sound by.kind m nodes owners seen.0 by.listings seen.1 in
          let at = can.vacant (view (mapped m by)) sound held in
          let it = job_is (view (mapped m by)) sound held in
          let w = run by.kind seen.0 by.listings seen.1 held at command it pr prep in
          let n = free_number nodes in
          record {
            one_step = end_of.one_step w version;
            free = λ u i. end_of.written_free w version u i;
            after = λ m' image taken there.
                (let os = some_owners by.kind seen.0 by.listings seen.1 held at command it pr prep m' n.0 in
                end_of.tree w version n.0 n.1 space m' taken os.0 os.1 bytes brings writing by.r by.image by.new_kind by.opens image there law);
          }

      changes_new : (m' : Map) (nodes' : Nodes) (owners' : List Owner) (number : ℕ) (was image : List ℕ) → IsRun hh (parts_with m' nodes' owners') pr number → IsChanged m m' pr.ready bytes was image
          → ChangesPartsSafely command hh (parts_with m' nodes' owners') was image
      changes_new m' nodes' owners' number was image it is other v opens held =
          let at_map : v.layout ≡ Layout.New m = sym held.layout in
          let same = opened_as other was v (Layout.New m) opens at_map in
          let seen = new_view m nodes owners kind is_map a other was v opens held in
          let sound' = sound_in (Layout.New m) nodes owners v (agreed_law.sound other m nodes owners seen.0 v.listings seen.1) held in
          let at = can.vacant v sound' held in
          let opened = subst (OpensAs was other) (sym same) opens in
          let viewed = subst (ArePartsOf hh) (sym same) held in
          let disc = new_kind was other (record { kind = other; layout = Layout.New m; listings = v.listings }) m opened refl in
          let w = run other seen.0 v.listings seen.1 viewed at command (job_is v sound' held) pr prep in
          let taken = one_map other seen.0 v.listings seen.1 viewed at command (job_is v sound' held) pr prep m' it.given in
          let there = image_of.there_of (arrival_of.growing w.a) disc.0 was disc.1 opened pr.ready bytes image m' (end_of.one_step w version) is in
          subst (λ (u : Opened). SafeOutcome other was image u command (parts_with m' nodes' owners')) same
          (subst (λ (ns : Nodes). SafeOutcome other was image (record { kind = other; layout = Layout.New m; listings = v.listings }) command (parts_with m' ns owners')) (sym it.nodes)
          (end_of.outcome w version number it.free space m' taken owners' it.owners bytes brings writing disc.0 was disc.1 opened image there law is))

      pub changes_then : (now : Parts) (m' : Map) (number : ℕ) (was image : List ℕ) → IsRun hh now pr number → now.layout ≡ Layout.New m' → IsChanged m m' pr.ready bytes was image → ChangesPartsSafely command hh now was image
      changes_then now m' number was image it at is =
          subst (λ (y : Layout). ChangesPartsSafely command hh (record { layout = y; nodes = now.nodes; owners = now.owners }) was image) (sym at)
          (changes_new m' now.nodes now.owners number was image (subst (λ (y : Layout). IsRun hh (record { layout = y; nodes = now.nodes; owners = now.owners }) pr number) at it) is)

  -- ---- the laws

  module _ (name bytes : List ℕ) (some : GrowsSome (parts_with m nodes owners) dir b name) (c : Command) (j : IsJobFor c (parts_with m nodes owners) (job_of dir b) name bytes) where
    came : (d : Command) → IsJobFor d (parts_with m nodes owners) (job_of dir b) name bytes → Arrives (parts_with m nodes owners) d dir b name bytes
    came d k = arrives hh kind a d dir b name bytes k

    some_at : (d : Command) (k : IsJobFor d (parts_with m nodes owners) (job_of dir b) name bytes) → GrowsSome (parts_with m nodes owners) dir b (last_name (came d k).path)
    some_at d k = subst (GrowsSome hh dir b) (came d k).name_is some

    as_named : (d : Command) (k : IsJobFor d (parts_with m nodes owners) (job_of dir b) name bytes) (pr : Prepared) → IsPreparedAnew m hh (job_of dir b) name pr → IsPreparedAnew m hh (job_of dir b) (last_name (came d k).path) pr
    as_named d k pr prep = subst (λ (n : List ℕ). IsPreparedAnew m hh (job_of dir b) n pr) (came d k).name_is prep

    judged : (d : Command) → IsJobFor d (parts_with m nodes owners) (job_of dir b) name bytes → IsJudgedIn kind m (parts_with m nodes owners) d (job_of dir b) name bytes
    judged d k = record { is_map = is_map; layout = refl; suits = suits; agree = a; judged = k }

    job_at : (d : Command) (k : IsJobFor d (parts_with m nodes owners) (job_of dir b) name bytes) (v : Opened) → AreSound v.layout v.listings → ArePartsOf (parts_with m nodes owners) v → IsJob nodes v.listings d (job_of dir b) (last_name (came d k).path)
    job_at d k v sound held = subst (λ (n : List ℕ). IsJob nodes v.listings d (job_of dir b) n) (came d k).name_is (k.is v sound held)

    own_sound : AreSound (Layout.New m) a.listings
    own_sound = agreed_law.sound_by kind hh a

    own_on : AgreeOn kind m nodes owners a.root a.listings
    own_on = agreed_law.named kind hh m refl is_map a

    own_view : ArePartsOf hh (record { kind = kind; layout = Layout.New m; listings = a.listings })
    own_view = agreed_law.viewed kind hh a

    own_spot : IsVacant nodes a.listings (came c j).path dir
    own_spot = (came c j).can.vacant (view_of hh kind a) own_sound own_view

    own_job : IsJob nodes a.listings c (job_of dir b) (last_name (came c j).path)
    own_job = job_at c j (view_of hh kind a) own_sound own_view

    pub grown_laws : SafeJobLaws kind m (parts_with m nodes owners) (job_of dir b) name bytes
    grown_laws = record {
      can_prepare = subst (CanPrepareAnew m hh (job_of dir b)) (sym (came c j).name_is) (can_prepare (came c j).path (came c j).can (some_at c j) kind a.root a.listings own_on own_view own_spot c own_job);
      can_write = λ pr n prep room. end_of.can_write (run (came c j).path (came c j).can (some_at c j) kind a.root a.listings own_on own_view own_spot c own_job pr (as_named c j pr prep)) version n room;
      can_take = λ pr m' number room prep taken enough. can_take_over (came c j).path (came c j).can (some_at c j) kind a.root a.listings own_on own_view own_spot c own_job pr (as_named c j pr prep) m' number room enough;
      agrees = λ pr now number prep it. agrees_then (came c j).path (came c j).can (some_at c j) kind a.root a.listings own_on own_view own_spot c own_job pr (as_named c j pr prep) now.layout now.nodes now.owners number it;
      leads = λ d pr x k prep held. leads (came d k).path (came d k).can (some_at d k) d bytes (came d k).brings (job_at d k) pr (as_named d k pr prep) x held;
      changes = λ d pr m' now number was image k prep it at is. changes_then (came d k).path (came d k).can (some_at d k) d bytes (came d k).brings (job_at d k) pr (as_named d k pr prep) now m' number was image it at is;
      short_is = λ d w v k are sound held. short_as kind m hh d (job_of dir b) name bytes (judged d k) v sound held w are;
      full = λ d v k full sound held. full_as kind m hh d (job_of dir b) name bytes (judged d k) v sound held full;
    }
