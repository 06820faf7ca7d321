-- `rename` in the safe mode that copies nothing, where no directory grows: the laws of its job.
use Rattle.std.proofs.Common.{◌≡◌, ◌≤◌, ℕ, false, List, [], refl, sym, ap, subst, ◌∙◌, arith, is_some, IsSome, Option, Some, None, ◌<◌, ◌^◌}
use Rattle.std.specs.FinMap.{get}
use Rattle.std.specs.Option.{option_map}
use Rattle.fc_names.specs.Names.{Path}
use Rattle.fc_alloc.specs.declared.owner.Owner.{Owner}
use Rattle.fc_record.specs.declared.Kind.{Kind}
use Rattle.fc_newmap.specs.Map.{Map}
use Rattle.fc_newmap.specs.NewMap.{IsNewMap}
use Rattle.fc_dirs.specs.declared.Entry.{Entry}
use Rattle.fc_model.specs.Answer.{changed as changed_by}
use Rattle.fc_model.specs.Command.{Command}
use Rattle.fc_image.specs.Layout.{Layout, disc_sectors}
use Rattle.fc_image.specs.Objects.{tree_of}
use Rattle.fc_image.specs.Opening.{Opened}
use Rattle.fc_image.specs.Stays.{OpensAs}
use Rattle.fc_image.specs.Walk.{Listing, Object}
use Rattle.fc_changes.proofs.lemmas.old.BeforeLemmas.{opened_as}
use Rattle.fc_tree.specs.Agree.{Agree}
use Rattle.fc_tree.specs.Parts.{ArePartsOf, Parts}
use Rattle.fc_tree.specs.declared.node.Node.{Node}
use Rattle.fc_tree.proofs.MemberLemmas.{no_element}
use Rattle.fc_laws.specs.nodes.Edits.{Nodes, with_edited}
use Rattle.fc_laws.specs.agree.Agreed.{AgreeOn, parts_with}
use Rattle.fc_laws.proofs.lemmas.agree.BeforeLemmas.{agreed_law}
use Rattle.fc_laws.proofs.lemmas.takeover.KindLemmas.{new_kind}
use Rattle.fc_refusals.specs.declared.target.Renaming.{Renaming}
use Rattle.fc_writing.specs.New.{CanWrite, IsChanged, IsGiven, IsTaken}
use Rattle.fc_writing.specs.Steps.{HasStepped}
use Rattle.fc_change.specs.declared.change.Change.{Change}
use Rattle.fc_change.specs.declared.change.Regrowth.{Regrowth}
use Rattle.fc_change.specs.declared.change.Turned.{Turned}
use Rattle.fc_change.specs.declared.job.Job.TheVariants as jobs
use Rattle.fc_change.specs.declared.job.Wants.{Wants}
use Rattle.fc_change.specs.declared.spaces.Place.{Place}
use Rattle.fc_change.specs.declared.spaces.Spaces.{Spaces}
use Rattle.fc_change.specs.After.{CanRegrowNode, CanTakeOver, CanTurnNode, CanTurnOwner, gone_in, nodes_after, owners_admitted, with_regrown, with_said, with_turned, without_gone}
use Rattle.fc_change.specs.Directories.{CanTellAround, IsGrownThere}
use Rattle.fc_change.specs.Drafts.{CanDraft, CanTellJob, IsChangeOf, address_in, told}
use Rattle.fc_change.specs.Needs.{AreWants, is_copied}
use Rattle.fc_change.specs.Prepared.{HasPlace}
use Rattle.fc_commands.specs.declared.stages.Prepared.{Prepared}
use Rattle.fc_commands.specs.Run.{IsRun}
use Rattle.fc_commands.proofs.EmptySpaceLemmas.{none_grown as none_regrown}
use Rattle.fc_commands.proofs.MoveLemmas.{IsSeen, o}
use Rattle.fc_commands.proofs.MoveOwnerLemmas.{admitted, can_turn}
use Rattle.fc_commands.proofs.MoveRunLemmas.{new_seen}
use Rattle.fc_commands.proofs.MoveStageLemmas.{IsRenamer, can_first, can_last, can_want, entry_now, places as have_places, renamer, tells_it}
use Rattle.fc_commands.proofs.MoveTellLemmas.{told_by}
use Rattle.fc_commands.proofs.RemovalRunLemmas.{new_view}
use Rattle.fc_commands.proofs.RoomyLemmas.{NoneGrows}
use Rattle.fc_commands.proofs.TargetLemmas as target_of
use Rattle.fc_safe.specs.FirstSpace.{CanPlaceFirst}
use Rattle.fc_safe.specs.Suits.{Suits, is_low_directory}
use Rattle.fc_safe.proofs.SuitsLemmas.{low_of}
use Rattle.fc_safelaws.specs.Free.{view}
use Rattle.fc_safecrash.specs.Crash.{LeadsTo}
use Rattle.fc_safeedits.specs.SafeOutcome.{SafeOutcome}
use Rattle.fc_safeedits.specs.SafeSpace.{SafeSpaceLaw}
use Rattle.fc_safeedits.specs.SafeWriting.{SafeWritingLaw}
use Rattle.fc_safeedits.specs.SafeMoving.{SafeMovingLaw}
use Rattle.fc_safecommands.specs.Anew.{CanWriteAnew, IsPreparedAnew}
use Rattle.fc_safecommands.specs.Laws.{MappedBy, SafeJobLaws, mapped}
use Rattle.fc_safecommands.specs.Promises.{ChangesPartsSafely}
use Rattle.fc_safecommands.specs.Stages.{CanPrepareAnew, IsSpacedFirst}
use Rattle.fc_safecommands.proofs.CopyMoveJobLemmas.{all_said, one_turned}
use Rattle.fc_safecommands.proofs.JudgedLemmas.{full_as, short_as}
use Rattle.fc_safecommands.proofs.MovingLemmas.{StillMove, job, wanted}
use Rattle.fc_safecommands.proofs.MovingEditLemmas.{agrees, beside, change, goes, map_edited, no_place, nodes_same, none, owners_there, put, said_changes, tells, turned}
use Rattle.fc_safecommands.proofs.MovingDoneLemmas.{outcome, tree}
use Rattle.fc_safecommands.proofs.RewordingJobLemmas.{take_alike}
use Rattle.fc_safecommands.proofs.StirredImageLemmas as im
use Rattle.fc_safecommands.proofs.StirredLemmas.{changed_object}
use Rattle.fc_safecommands.proofs.StirredPutLemmas.{can_write, one_step, written_free}
use Rattle.fc_safecommands.proofs.StirredStepLemmas.{none_grown}
use Rattle.fc_safecommands.proofs.SuitsLemmas.{NoneLow, still_suits}

module _ (space : SafeSpaceLaw) (writing : SafeWritingLaw) (law : SafeMovingLaw) (kind : Kind) (m : Map) (nodes : Nodes) (owners : List Owner) (is_map : IsNewMap m) (a : Agree kind (parts_with m nodes owners))
    (r : Renaming) (from to : Path) (name bytes : List ℕ) (it : IsRenamer (parts_with m nodes owners) from to r name) (suits : Suits (Layout.New m) nodes) (plain : is_copied (parts_with m nodes owners) r ≡ false)
    (grows : NoneGrows (parts_with m nodes owners) (jobs.Move r) name) where
  abbrev h : Parts
  h = parts_with m nodes owners

  on : AgreeOn kind m nodes owners a.root a.listings
  on = agreed_law.named kind h m refl is_map a

  own_view : ArePartsOf h (record { kind = kind; layout = Layout.New m; listings = a.listings })
  own_view = agreed_law.viewed kind h a

  -- by a view
  abbrev by_view : (q : Kind) (root : Node) (listings : List Listing) → AgreeOn q m nodes owners root listings → ArePartsOf (parts_with m nodes owners) (record { kind = q; layout = Layout.New m; listings = listings })
      → (w : Wants) → AreWants (parts_with m nodes owners) (jobs.Move r) name w → StillMove
  by_view q root listings agreed viewed w are = record {
    kind = q;
    m = m;
    nodes = nodes;
    owners = owners;
    root = root;
    listings = listings;
    agreed = agreed;
    parts = viewed;
    suits = suits;
    from = from;
    to = to;
    r = r;
    name = name;
    seen = new_seen m nodes owners q root listings from to r name agreed it;
    plain = plain;
    grows = grows;
    wants = w;
    are = are;
  }

  abbrev own : (w : Wants) → AreWants (parts_with m nodes owners) (jobs.Move r) name w → StillMove
  own w are = by_view kind a.root a.listings on own_view w are

  abbrev seen : IsSeen (Layout.New m) nodes a.listings from to r name
  seen = new_seen m nodes owners kind a.root a.listings from to r name on it

  abbrev object : Object
  object = o (Layout.New m) nodes a.listings from to r name seen

  -- under its name
  abbrev d : Entry
  d = entry_now (Layout.New m) nodes a.listings from to r name seen

  -- ---- the stages

  can_place : (w : Wants) → AreWants (parts_with m nodes owners) (jobs.Move r) name w → CanPlaceFirst m (parts_with m nodes owners) (jobs.Move r) w
  can_place w are =
      let c = own w are in
      let wants = (wanted c).0 in
      record {
        few = subst (λ (n : ℕ). n < 2 ^ 32) (sym wants.bytes) (omega arith);
        grows = λ g is. absurd (let none' = sym wants.grows ∙ is in cc);
        copied = λ n is. absurd (let none' = sym wants.copy ∙ is in cc);
        placed = λ w' at. im.placed_first (job c) w' at;
      }

  module _ (w : Wants) (s : Spaces) (spaced : IsSpacedFirst m (parts_with m nodes owners) (jobs.Move r) name w s) where
    abbrev c : StillMove
    c = own w spaced.wants

    can_tell_job : CanTellJob h (jobs.Move r) name None None
    can_tell_job = record {
      entry = d;
      made = (object.entry, target_of.entry (Layout.New m) nodes a.listings seen.sound seen.held from r.target seen.known.target, refl);
      first = can_first (Layout.New m) nodes a.listings from to r name seen;
      last = can_last (Layout.New m) nodes a.listings from to r name seen;
      begins = tt;
    }

    can_draft : s.object ≡ None → CanDraft (parts_with m nodes owners) (jobs.Move r) name s
    can_draft nowhere =
        let no = none_regrown s (none_grown (job c) s spaced.placed) in
        record {
          own = subst (λ (g : Option Regrowth). CanTellJob h (jobs.Move r) name (address_in s) g) (sym no)
              (subst (λ (q : Option ℕ). CanTellJob h (jobs.Move r) name q None) (sym (ap (option_map (λ (q : Place). q.address)) nowhere)) can_tell_job);
          there = subst (IsGrownThere nodes) (sym no) tt;
          others = subst (λ (g : Option Regrowth). (ns : List ℕ) → CanTellAround nodes g ns) (sym no) (λ ns q at. absurd (no_element q at)) _;
        }

    can_write_anew : (ch : Change) → IsChangeOf (parts_with m nodes owners) (jobs.Move r) name s ch → CanWriteAnew (parts_with m nodes owners) ch
    can_write_anew ch is = record {
      told = λ q at. (let t = changed_object (job c) q.node (said_changes c s spaced.placed ch is q at) in ap is_some t.2.own_found);
      placed = λ w' at. im.placed_at (job c) w' at;
    }

  can_prepare : CanPrepareAnew m (parts_with m nodes owners) (jobs.Move r) name
  can_prepare = record {
    want = can_want (Layout.New m) nodes a.listings from to r name seen;
    place = can_place;
    draft = λ w s spaced. can_draft w s spaced (no_place (own w spaced.wants) s spaced.placed);
    placed = λ w s spaced. tt;
    write = λ w s ch spaced is. can_write_anew w s spaced ch is;
    zones = λ w s spaced p at. im.zones (job (own w spaced.wants)) s spaced.placed p at;
  }

  -- ---- after it

  module _ (p : Prepared) (prep : IsPreparedAnew m (parts_with m nodes owners) (jobs.Move r) name p) where
    abbrev cm : StillMove
    cm = own prep.wants prep.are_wants

    can_write_it : (n : ℕ) → disc_sectors (Layout.New m) ≤ n → CanWrite n m p.ready
    can_write_it n room =
        can_write (job cm) prep.spaces prep.placed p.change (tells cm prep.spaces prep.placed p.change prep.change p.ready prep.ready) p.ready prep.ready [] (beside cm prep.spaces prep.placed p.change prep.change p.ready prep.ready)
        (put cm prep.spaces prep.placed p.change prep.change p.ready prep.ready) n room

    has_some : (n : ℕ) → HasPlace (parts_with m nodes owners) n → IsSome (get nodes n)
    has_some n y = ap is_some y.there

    can_take_over : (m' : Map) (number room : ℕ) → IsTaken m p.ready m' → CanTakeOver (Layout.New m') nodes (owners_admitted (Layout.New m) p.change.object number owners) room p.change
    can_take_over m' number room taken =
        let is_turned = turned cm prep.spaces prep.placed p.change prep.change in
        let stay : owners_admitted (Layout.New m) p.change.object number owners ≡ owners =
        ap (λ (y : Turned). owners_admitted (Layout.New m) y number owners) is_turned ∙ admitted (Layout.New m) nodes a.listings from to r name seen owners on.owned number in
        take_alike m m' (map_edited cm prep.spaces prep.placed p.change prep.change p.ready prep.ready space m' taken).geometry nodes (owners_admitted (Layout.New m) p.change.object number owners) room p.change r.target.node r.holder d is_turned
        (record {
          says = λ q at.
              (let t = told_by nodes (told nodes (jobs.Move r) name None d) p.change.says.items
              (tells_it (Layout.New m) nodes a.listings from to r name seen None p.change (change cm prep.spaces prep.placed p.change prep.change)) q at in
              subst (λ (n : ℕ). IsSome (get nodes n)) (sym t.2.number) (has_some t.0.0 (have_places (Layout.New m) nodes a.listings from to r name seen h refl refl d t.0 t.1)));
          object = subst (CanTurnNode nodes room) (sym is_turned) (target_of.has_node (Layout.New m) nodes a.listings seen.sound seen.held from r.target seen.known.target);
          owner = subst (λ (os : List Owner). CanTurnOwner (Layout.New m) os p.change.object) (sym stay)
              (subst (CanTurnOwner (Layout.New m) owners) (sym is_turned) (can_turn (Layout.New m) nodes a.listings from to r name seen owners on.owned));
          grown = subst (CanRegrowNode nodes (owners_admitted (Layout.New m) p.change.object number owners)) (sym (none cm prep.spaces prep.placed p.change prep.change)) tt;
        })

    -- the map after it is the one that its single step makes
    one_map : (m' : Map) → IsGiven m p.ready m' → IsTaken m p.ready m'
    one_map m' given = subst (IsTaken m p.ready) (sym (subst (HasStepped given.0 m') prep.ready.no_give given.2)) given.1

    still_none : (number : ℕ) → NoneLow (nodes_after p.change number nodes)
    still_none number = subst NoneLow (sym after_is) (all_said p.change.says.items _ (one_turned nodes r.target.node r.holder d low suits.1))
      where
        after_is : nodes_after p.change number nodes ≡ with_said p.change.says.items (with_edited r.target.node (λ (x : Node). record x { holder = r.holder; entry = entry_now (Layout.New m) nodes a.listings from to r name seen }) nodes)
        after_is = (λ i. without_gone (gone_in (turned cm prep.spaces prep.placed p.change prep.change i))
            (with_said p.change.says.items (with_turned (turned cm prep.spaces prep.placed p.change prep.change i) number (with_regrown (none cm prep.spaces prep.placed p.change prep.change i) nodes))))

        own_is : get nodes r.target.node ≡ Some (target_of.node (Layout.New m) nodes a.listings seen.sound seen.held from r.target seen.known.target)
        own_is = target_of.node_is (Layout.New m) nodes a.listings seen.sound seen.held from r.target seen.known.target

        low : is_low_directory d ≡ false
        low = sym (ap low_of own_is) ∙ suits.1 r.target.node

    agrees_new : (m' : Map) (nodes' : Nodes) (owners' : List Owner) (number : ℕ) → IsRun (parts_with m nodes owners) (parts_with m' nodes' owners') p number → Agree kind (parts_with m' nodes' owners') × Suits (Layout.New m') nodes'
    agrees_new m' nodes' owners' number run =
        let taken = one_map m' run.given in
        let same = nodes_same cm prep.spaces prep.placed p.change prep.change p.ready prep.ready number ∙ sym run.nodes in (
          subst (λ (ns : Nodes). Agree kind (parts_with m' ns owners')) same
              (agrees cm prep.spaces prep.placed p.change prep.change p.ready prep.ready space m' taken owners' (goes cm prep.spaces prep.placed p.change prep.change p.ready prep.ready space m' taken owners' number run.owners) law),
          still_suits m m' nodes nodes' (map_edited cm prep.spaces prep.placed p.change prep.change p.ready prep.ready space m' taken).geometry suits (subst NoneLow (sym run.nodes) (still_none number)),
        )

    agrees_then : (now : Layout) (nodes' : Nodes) (owners' : List Owner) (number : ℕ) → IsRun (parts_with m nodes owners) (record { layout = now; nodes = nodes'; owners = owners' }) p number
        → Agree kind (record { layout = now; nodes = nodes'; owners = owners' }) × Suits now nodes'
    agrees_then (Layout.New m') nodes' owners' number run = agrees_new m' nodes' owners' number run
    agrees_then (Layout.Old space') nodes' owners' number run = absurd run.given

    -- ---- by each image

    leads : (x : MappedBy m) → ArePartsOf (parts_with m nodes owners) (view (mapped m x)) → LeadsTo (mapped m x) p.ready bytes (changed_by (tree_of x.image (Layout.New m) x.listings) (Command.Rename from to))
    leads by held =
        let agreed = new_view m nodes owners kind is_map a by.kind by.image (view (mapped m by)) by.opens held in
        let c' = by_view by.kind agreed.0 by.listings agreed.1 held prep.wants prep.are_wants in
        let its = tells c' prep.spaces prep.placed p.change prep.change p.ready prep.ready in
        let put' = put c' prep.spaces prep.placed p.change prep.change p.ready prep.ready in
        let beside' = beside c' prep.spaces prep.placed p.change prep.change p.ready prep.ready in
        record {
          one_step = one_step (job c') prep.spaces prep.placed p.change its p.ready prep.ready [] beside' put';
          free = λ u i. written_free (job c') prep.spaces prep.placed p.change its p.ready prep.ready [] beside' put' u i;
          after = λ m' image taken at.
              (let os = owners_there c' prep.spaces prep.placed p.change prep.change p.ready prep.ready space m' taken in
              tree c' prep.spaces prep.placed p.change prep.change p.ready prep.ready space m' taken os.0 os.1 writing by.r by.image by.new_kind by.opens bytes image at law);
        }

    changes_new : (m' : Map) (nodes' : Nodes) (owners' : List Owner) (number : ℕ) (was image : List ℕ) → IsRun (parts_with m nodes owners) (parts_with m' nodes' owners') p number → IsChanged m m' p.ready bytes was image
        → ChangesPartsSafely (Command.Rename from to) (parts_with m nodes owners) (parts_with m' nodes' owners') was image
    changes_new m' nodes' owners' number was image run is other view' opens held =
        let at_map : view'.layout ≡ Layout.New m = sym held.layout in
        let same = opened_as other was view' (Layout.New m) opens at_map in
        let agreed = new_view m nodes owners kind is_map a other was view' opens held in
        let opened = subst (OpensAs was other) (sym same) opens in
        let viewed = subst (ArePartsOf h) (sym same) held in
        let disc = new_kind was other (record { kind = other; layout = Layout.New m; listings = view'.listings }) m opened refl in
        let c' = by_view other agreed.0 view'.listings agreed.1 viewed prep.wants prep.are_wants in
        let its = tells c' prep.spaces prep.placed p.change prep.change p.ready prep.ready in
        let put' = put c' prep.spaces prep.placed p.change prep.change p.ready prep.ready in
        let taken = one_map m' run.given in
        let owned = goes c' prep.spaces prep.placed p.change prep.change p.ready prep.ready space m' taken owners' number run.owners in
        let one = one_step (job c') prep.spaces prep.placed p.change its p.ready prep.ready [] (beside c' prep.spaces prep.placed p.change prep.change p.ready prep.ready) put' in
        let at = im.there_of (job c') disc.0 was disc.1 opened p.ready bytes image m' one is in
        let as_taken = nodes_same c' prep.spaces prep.placed p.change prep.change p.ready prep.ready number ∙ sym run.nodes in
        subst (λ (v : Opened). SafeOutcome other was image v (Command.Rename from to) (parts_with m' nodes' owners')) same
        (subst (λ (ns : Nodes). SafeOutcome other was image (record { kind = other; layout = Layout.New m; listings = view'.listings }) (Command.Rename from to) (parts_with m' ns owners')) as_taken
        (outcome c' prep.spaces prep.placed p.change prep.change p.ready prep.ready space m' taken owners' owned writing disc.0 was disc.1 opened bytes image at law is))

    changes_then : (now : Parts) (m' : Map) (number : ℕ) (was image : List ℕ) → IsRun (parts_with m nodes owners) now p number → now.layout ≡ Layout.New m' → IsChanged m m' p.ready bytes was image
        → ChangesPartsSafely (Command.Rename from to) (parts_with m nodes owners) now was image
    changes_then now m' number was image run at is =
        subst (λ (q : Layout). ChangesPartsSafely (Command.Rename from to) h (record { layout = q; nodes = now.nodes; owners = now.owners }) was image) (sym at)
        (changes_new m' now.nodes now.owners number was image (subst (λ (q : Layout). IsRun h (record { layout = q; nodes = now.nodes; owners = now.owners }) p number) at run) is)

-- the laws of such a `rename`
pub moving_laws : SafeSpaceLaw → SafeWritingLaw → SafeMovingLaw → (kind : Kind) (m : Map) (nodes : Nodes) (owners : List Owner) → IsNewMap m → Agree kind (parts_with m nodes owners) → (r : Renaming) (from to : Path) (name bytes : List ℕ)
    → IsRenamer (parts_with m nodes owners) from to r name → Suits (Layout.New m) nodes → is_copied (parts_with m nodes owners) r ≡ false → NoneGrows (parts_with m nodes owners) (jobs.Move r) name
    → SafeJobLaws kind m (parts_with m nodes owners) (jobs.Move r) name bytes
moving_laws space writing law kind m nodes owners is_map a r from to name bytes it suits plain grows =
    let h = parts_with m nodes owners in
    record {
      can_prepare = can_prepare space writing law kind m nodes owners is_map a r from to name bytes it suits plain grows;
      can_write = λ p n prep room. can_write_it space writing law kind m nodes owners is_map a r from to name bytes it suits plain grows p prep n room;
      can_take = λ p m' number room prep taken more. can_take_over space writing law kind m nodes owners is_map a r from to name bytes it suits plain grows p prep m' number room taken;
      agrees = λ p now number prep run. agrees_then space writing law kind m nodes owners is_map a r from to name bytes it suits plain grows p prep now.layout now.nodes now.owners number run;
      leads = λ c p x j prep held.
          (let its = renamer h kind a c r name bytes j in
          subst (λ (e : Command). LeadsTo (mapped m x) p.ready bytes (changed_by (tree_of x.image (Layout.New m) x.listings) e)) (sym its.2)
          (leads space writing law kind m nodes owners is_map a r its.0 its.1 name bytes its.3 suits plain grows p prep x held));
      changes = λ c p m' now number was image j prep run at is.
          (let its = renamer h kind a c r name bytes j in
          subst (λ (e : Command). ChangesPartsSafely e h now was image) (sym its.2)
          (changes_then space writing law kind m nodes owners is_map a r its.0 its.1 name bytes its.3 suits plain grows p prep now m' number was image run at is));
      short_is = λ c w v j are sound held. short_as kind m h c (jobs.Move r) name bytes (record { is_map = is_map; layout = refl; suits = suits; agree = a; judged = j }) v sound held w are;
      full = λ c v j full sound held. full_as kind m h c (jobs.Move r) name bytes (record { is_map = is_map; layout = refl; suits = suits; agree = a; judged = j }) v sound held full;
    }
