-- `save` and `create` over a file in the safe mode: the laws of their job.
use Rattle.std.proofs.Common.{◌≡◌, ◌<◌, ◌≤◌, ◌^◌, ◌==◌, ◌&&◌, ℕ, Bool, true, false, cond, List, [], ◌∷◌, refl, sym, ap, ap₂, subst, ◌∙◌, arith, eq-eqb, Option, Some, None}
use Rattle.std.specs.Prelude.{Contains, IsSome, is_some}
use Rattle.std.specs.FinMap.{get, insert as put}
use Rattle.std.specs.Option.{option_map, option_map_or, unwrap_or}
use Rattle.std.proofs.lemmas.Bool.{ne_eqb}
use Rattle.fc_names.specs.Names.{Path}
use Rattle.fc_names.specs.declared.name.NameForm.{NameForm}
use Rattle.fc_names.specs.declared.name.NameForm.TheVariants as forms
use Rattle.fc_alloc.specs.declared.owner.Owner.{Owner}
use Rattle.fc_record.specs.declared.Geometry.{Geometry}
use Rattle.fc_record.specs.declared.Kind.{Kind}
use Rattle.fc_newmap.specs.Map.{Map}
use Rattle.fc_newmap.specs.NewMap.{IsNewMap}
use Rattle.fc_model.specs.Answer.{changed}
use Rattle.fc_model.specs.Command.{Command}
use Rattle.fc_model.specs.Tree.{last_name}
use Rattle.fc_dirs.specs.Directory.{entries_of}
use Rattle.fc_dirs.specs.Entries.{has_name}
use Rattle.fc_dirs.specs.declared.Entry.{Entry}
use Rattle.fc_drafts.specs.Draft.{CanAddress, CanBeCalled, CanName, directory_in}
use Rattle.fc_image.specs.Layout.{Layout, dir_form, id_of}
use Rattle.fc_image.specs.Objects.{objects_of, tree_of}
use Rattle.fc_image.specs.Opening.{Opened}
use Rattle.fc_image.specs.Sound.{AreSound}
use Rattle.fc_image.specs.Stays.{OpensAs}
use Rattle.fc_image.specs.Walk.{Listing}
use Rattle.fc_changes.proofs.lemmas.old.BeforeLemmas.{opened_as}
use Rattle.fc_edits.proofs.lemmas.ShapeLemmas.{of_one, only}
use Rattle.fc_laws.specs.nodes.Edits.{Nodes, with_body, with_edited}
use Rattle.fc_laws.specs.agree.Agreed.{AgreeOn, parts_with}
use Rattle.fc_laws.proofs.lemmas.agree.BeforeLemmas.{agreed_law}
use Rattle.fc_laws.proofs.lemmas.takeover.KindLemmas.{new_kind}
use Rattle.fc_refusals.specs.Slots.{IsFile}
use Rattle.fc_refusals.specs.declared.target.Target.{Target}
use Rattle.fc_drafts.specs.Entries.{saved_entry}
use Rattle.fc_change.specs.declared.job.FileWords.{FileWords}
use Rattle.fc_tree.specs.Agree.{Agree}
use Rattle.fc_tree.specs.Nodes.{body_in}
use Rattle.fc_tree.specs.Parts.{ArePartsOf, Parts}
use Rattle.fc_tree.specs.declared.node.Node.{Node}
use Rattle.fc_tree.proofs.MemberLemmas.{no_element}
use Rattle.fc_writing.specs.New.{IsChanged, IsGiven, IsTaken}
use Rattle.fc_writing.specs.Steps.{HasStepped}
use Rattle.fc_change.specs.After.{gone_in, with_regrown, with_said, with_turned, without_gone, AreOwnersAfter, CanRegrowNode, CanTakeOver, CanTurnNode, CanTurnOwner, IsRegrownOwner, IsTurnedOwner, body_said, nodes_after, nodes_more, owners_admitted}
use Rattle.fc_change.specs.Directories.{CanBe, CanTell, CanTellAround, IsGrownThere, Rewriting}
use Rattle.fc_change.specs.Drafts.{CanBegin, CanDraft, CanTellJob, IsChangeOf, IsPlaced, address_in}
use Rattle.fc_change.specs.Jobs.{IsJob}
use Rattle.fc_change.specs.Needs.{AreWants, CanWant}
use Rattle.fc_change.specs.Shortage.{slack_for}
use Rattle.fc_change.specs.declared.change.Change.{Change}
use Rattle.fc_change.specs.declared.change.Regrowth.{Regrowth}
use Rattle.fc_change.specs.declared.change.Says.{Says}
use Rattle.fc_change.specs.declared.change.Turned.{Turned}
use Rattle.fc_change.specs.declared.change.Turned.TheVariants as turns
use Rattle.fc_drafts.specs.declared.draft.Draft.{Draft}
use Rattle.fc_change.specs.declared.job.Growth.{Growth}
use Rattle.fc_change.specs.declared.job.Wants.{Wants}
use Rattle.fc_change.specs.declared.spaces.Place.{Place}
use Rattle.fc_change.specs.declared.spaces.Spaces.{Spaces}
use Rattle.fc_commands.specs.declared.stages.Prepared.{Prepared}
use Rattle.fc_commands.specs.Jobs.{IsJobFor}
use Rattle.fc_commands.specs.Run.{IsRun}
use Rattle.fc_commands.proofs.EmptySpaceLemmas.{none_grown as none_regrown}
use Rattle.fc_commands.proofs.RemovalRunLemmas.{new_view, sound_in}
use Rattle.fc_commands.proofs.RemovalStageLemmas.{view_of}
use Rattle.fc_commands.proofs.ArrivalLemmas.{Arrival, Brings}
use Rattle.fc_commands.proofs.ArrivalPlaceLemmas.{IsItsPlace, WantsPlace}
use Rattle.fc_commands.proofs.EnteredLemmas.{fits_form}
use Rattle.fc_commands.proofs.NewArrivalLemmas.{new_alike}
use Rattle.fc_commands.proofs.OverLemmas as over
use Rattle.fc_commands.proofs.OverStageLemmas.{Covers, IsOverChange, covers, job_of, over_change}
use Rattle.fc_commands.proofs.OverTakenLemmas.{can_take}
use Rattle.fc_commands.proofs.TargetLemmas as target_of
use Rattle.fc_safe.specs.FirstSpace.{CanPlaceFirst}
use Rattle.fc_safe.specs.Suits.{Suits, is_low_directory}
use Rattle.fc_safeedits.specs.SafeAddition.{SafeAdditionLaw}
use Rattle.fc_safeedits.specs.SafeOutcome.{SafeOutcome}
use Rattle.fc_safeedits.specs.SafeSpace.{SafeSpaceLaw}
use Rattle.fc_safeedits.specs.SafeWriting.{SafeWritingLaw}
use Rattle.fc_safecrash.specs.Crash.{LeadsTo}
use Rattle.fc_safelaws.specs.Free.{view}
use Rattle.fc_safecommands.specs.Jobs.{IsJudgedIn}
use Rattle.fc_safecommands.specs.Anew.{IsPreparedAnew}
use Rattle.fc_safecommands.specs.Laws.{MappedBy, SafeJobLaws, mapped}
use Rattle.fc_safecommands.specs.Promises.{ChangesPartsSafely}
use Rattle.fc_safecommands.specs.Stages.{CanPrepareAnew, IsSpacedFirst}
use Rattle.fc_safecommands.proofs.SavingLemmas as saving
use Rattle.fc_safecommands.proofs.SavingEditLemmas as edit_of
use Rattle.fc_safecommands.proofs.SavingDoneLemmas as done_of
use Rattle.fc_safecommands.proofs.JudgedLemmas.{full_as, short_as}
use Rattle.fc_safecommands.proofs.StirredImageLemmas as image_of
use Rattle.fc_safecommands.proofs.StirredLemmas.{StirredJob, changed_at, own_bytes}
use Rattle.fc_safecommands.proofs.StirredPutLemmas as put_of
use Rattle.fc_safecommands.proofs.StirredSpaceLemmas.{new_high}
use Rattle.fc_safecommands.proofs.SuitsLemmas.{NoneLow, put_low, said_low, still_suits}

module _ (space : SafeSpaceLaw) (writing : SafeWritingLaw) (law : SafeAdditionLaw) (kind : Kind) (m : Map) (nodes : Nodes) (owners : List Owner) (is_map : IsNewMap m) (a : Agree kind (parts_with m nodes owners))
    (suits : Suits (Layout.New m) nodes) (t : Target) (words : FileWords) (few : words.len < 2 ^ 32) (name : List ℕ) where
  abbrev h : Parts
  h = parts_with m nodes owners

  module _ (path : Path) (can : Covers (parts_with m nodes owners) path t) where
    pub on : AgreeOn kind m nodes owners a.root a.listings
    on = agreed_law.named kind h m refl is_map a

    pub own_view : ArePartsOf h (record { kind = kind; layout = Layout.New m; listings = a.listings })
    own_view = agreed_law.viewed kind h a

    pub sound : AreSound (Layout.New m) a.listings
    sound = agreed_law.sound_by kind h a

    pub spot : IsFile nodes a.listings path t
    spot = can (view_of h kind a) sound own_view

    abbrev l : Listing
    l = spot.target.listing

    abbrev own_job : (w : Wants) → AreWants (parts_with m nodes owners) (job_of t words) name w → StirredJob
    own_job w are = saving.job kind m nodes owners a.root a.listings on own_view suits t words few path spot name w are

    -- ---- the stages

    big : dir_form (Layout.New m) ≡ forms.Long
    big = ap (λ (c : Bool). let f : NameForm = cond c forms.Ten forms.Long in f) suits.0

    fits : (address : ℕ) → CanAddress l.content address
    fits address = fits_form (dir_form (Layout.New m)) l.content l.object.entry.len address (a.walked.forms l spot.target.listed) (λ small. absurd (small big))

    tell : (address : ℕ) → CanTell None nodes t.holder (Rewriting.Replaces t.at (saved_entry spot.target.object.entry words.load words.exec words.len address))
    tell address = over.can_tell (Layout.New m) nodes a.listings sound a.walked.held path t spot words address a.walked.forms a.walked.bodies (fits address) is_map

    can_tell_job : (address : Option ℕ) → CanTellJob h (job_of t words) name address None
    can_tell_job address =
        let e = saved_entry spot.target.object.entry words.load words.exec words.len (unwrap_or address 0) in
        record {
          entry = e;
          made = (spot.target.object.entry, target_of.entry (Layout.New m) nodes a.listings sound a.walked.held path t spot.target, refl);
          first = of_one (λ (q : ℕ × Rewriting). CanTell None nodes q.0 q.1) (t.holder, Rewriting.Replaces t.at e) (tell (unwrap_or address 0));
          last = λ q at. absurd (no_element q at);
          begins = tt;
        }

    place_of_it : (w : Wants) (s : Spaces) → IsSpacedFirst m h (job_of t words) name w s → IsItsPlace s
    place_of_it w s spaced = saving.its kind m nodes owners a.root a.listings on own_view suits t words few path spot name w spaced.wants s spaced.placed

    can_draft : (w : Wants) (s : Spaces) → IsSpacedFirst m h (job_of t words) name w s → CanDraft h (job_of t words) name s
    can_draft w s spaced =
        let no = none_regrown s (place_of_it w s spaced).grown in
        record {
          own = subst (λ (g : Option Regrowth). CanTellJob h (job_of t words) name (address_in s) g) (sym no) (can_tell_job (address_in s));
          there = subst (IsGrownThere nodes) (sym no) tt;
          others = subst (λ (g : Option Regrowth). (ns : List ℕ) → CanTellAround nodes g ns) (sym no) (λ ns q at. absurd (no_element q at)) _;
        }

    pub can_prepare : CanPrepareAnew m h (job_of t words) name
    can_prepare = record {
      want = tt;
      place = λ w are. record {
        few = (own_job w are).few;
        grows = λ g e. absurd (let no = sym (own_job w are).still ∙ e in cc);
        copied = λ n some. absurd (let no = sym (saving.is_wanted kind m nodes owners a.root a.listings on own_view suits t words few path spot name w are).0.copy ∙ some in cc);
        placed = image_of.placed_first (own_job w are);
      };
      draft = can_draft;
      placed = λ w s spaced. ap (λ (q : Option Place). is_some (option_map (λ (k : Place). k.address) q)) (place_of_it w s spaced).is;
      write = λ w s c spaced is.
          (let x = own_job w spaced.wants in
          let ch = over_change h t words name s c (place_of_it w s spaced).grown is in
          image_of.can_write_anew x c (saving.tells_of kind m nodes owners a.root a.listings on own_view suits t words few path spot name w spaced.wants c ch.said ch.says ch.tells.number));
      zones = λ w s spaced p at. image_of.zones (own_job w spaced.wants) s spaced.placed p at;
    }

    -- ---- after it

    module _ (p : Prepared) (prep : IsPreparedAnew m (parts_with m nodes owners) (job_of t words) name p) where
      pub ch : IsOverChange nodes t words (edit_of.address kind m nodes owners a.root a.listings on own_view suits t words few path spot name p prep) p.change
      ch = edit_of.change kind m nodes owners a.root a.listings on own_view suits t words few path spot name p prep

      -- the map after it is the one that its single step makes
      pub one_map : (m' : Map) → IsGiven m p.ready m' → IsTaken m p.ready m'
      one_map m' given = subst (IsTaken m p.ready) (sym (subst (HasStepped given.0 m') prep.ready.no_give given.2)) given.1

      pub can_take_over : (m' : Map) (number room : ℕ) → IsTaken m p.ready m' → CanTakeOver (Layout.New m') nodes (owners_admitted (Layout.New m) p.change.object number owners) room p.change
      can_take_over m' number room taken =
          can_take (Layout.New m) (Layout.New m') nodes a.listings owners path t words (edit_of.address kind m nodes owners a.root a.listings on own_view suits t words few path spot name p prep) number room p.change sound a.walked.held spot
          (new_alike m m' (edit_of.same kind m nodes owners a.root a.listings on own_view suits t words few path spot name p prep number space m' taken)) ch

      -- no directory comes to lie in the map's identifier
      still_none : (number : ℕ) → NoneLow (nodes_after p.change number nodes)
      still_none number = subst NoneLow (sym said_is) (said_low turned_nodes ch.said.node (λ (n : Node). record n { body = body_in (directory_in ch.said.draft) }) (λ n. refl) turned_low)
        where
          e : Entry
          e = saved_entry spot.target.object.entry words.load words.exec words.len (edit_of.address kind m nodes owners a.root a.listings on own_view suits t words few path spot name p prep)

          turned : p.change.object ≡ turns.Turns t.node t.holder e
          turned = edit_of.turns_it kind m nodes owners a.root a.listings on own_view suits t words few path spot name p prep

          turned_nodes : Nodes
          turned_nodes = with_edited t.node (λ (n : Node). record n { holder = t.holder; entry = e }) nodes

          said_is : nodes_after p.change number nodes ≡ with_body ch.said.node (body_in (directory_in ch.said.draft)) turned_nodes
          said_is = (λ i. without_gone (gone_in (turned i)) (with_said (ch.says i) (with_turned (turned i) number (with_regrown (ch.none i) nodes))))

          own_node : Node
          own_node = target_of.node (Layout.New m) nodes a.listings sound a.walked.held path t spot.target

          own_is : get nodes t.node ≡ Some own_node
          own_is = target_of.node_is (Layout.New m) nodes a.listings sound a.walked.held path t spot.target

          low : is_low_directory e ≡ false
          low = ap (λ (b : Bool). b && (id_of (edit_of.address kind m nodes owners a.root a.listings on own_view suits t words few path spot name p prep) == 2)) spot.file

          turned_low : NoneLow turned_nodes
          turned_low =
              subst (λ (o : Option Node). NoneLow (option_map_or (λ (n : Node). put nodes t.node (record n { holder = t.holder; entry = e })) o nodes)) (sym own_is)
              (put_low nodes t.node (record own_node { holder = t.holder; entry = e }) low suits.1)

      agrees_new : (m' : Map) (nodes' : Nodes) (owners' : List Owner) (number : ℕ) → IsRun h (parts_with m' nodes' owners') p number → Agree kind (parts_with m' nodes' owners') × Suits (Layout.New m') nodes'
      agrees_new m' nodes' owners' number run =
          let taken = one_map m' run.given in
          let same = edit_of.nodes_same kind m nodes owners a.root a.listings on own_view suits t words few path spot name p prep number ∙ sym run.nodes in (
            subst (λ (ns : Nodes). Agree kind (parts_with m' ns owners')) same (edit_of.agrees kind m nodes owners a.root a.listings on own_view suits t words few path spot name p prep number space m' taken owners' (edit_of.owners_then kind m nodes owners a.root a.listings on own_view suits t words few path spot name p prep number space m' taken owners' run.owners) law),
            still_suits m m' nodes nodes' (edit_of.same kind m nodes owners a.root a.listings on own_view suits t words few path spot name p prep number space m' taken) suits (subst NoneLow (sym run.nodes) (still_none number)),
          )

      pub agrees_then : (now : Layout) (nodes' : Nodes) (owners' : List Owner) (number : ℕ) → IsRun h (record { layout = now; nodes = nodes'; owners = owners' }) p number
          → Agree kind (record { layout = now; nodes = nodes'; owners = owners' }) × Suits now nodes'
      agrees_then (Layout.New m') nodes' owners' number run = agrees_new m' nodes' owners' number run
      agrees_then (Layout.Old s) nodes' owners' number run = absurd run.given

      -- ---- by each command whose job it is, and each image

      module _ (c : Command) (bytes : List ℕ) (brings : Brings (Arrival.Saves words) path bytes c) where
        pub leads : (x : MappedBy m) → ArePartsOf h (view (mapped m x)) → LeadsTo (mapped m x) p.ready bytes (changed (tree_of x.image (Layout.New m) x.listings) c)
        leads by held =
            let seen = new_view m nodes owners kind is_map a by.kind by.image (view (mapped m by)) by.opens held in
            let at = can (view (mapped m by)) (agreed_law.sound by.kind m nodes owners seen.0 by.listings seen.1) held in
            record {
              one_step = edit_of.one_step by.kind m nodes owners seen.0 by.listings seen.1 held suits t words few path at name p prep;
              free = λ u e.
                  put_of.written_free (edit_of.x by.kind m nodes owners seen.0 by.listings seen.1 held suits t words few path at name p prep) prep.spaces prep.placed p.change
                  (edit_of.tells by.kind m nodes owners seen.0 by.listings seen.1 held suits t words few path at name p prep) p.ready prep.ready (edit_of.own by.kind m nodes owners seen.0 by.listings seen.1 held suits t words few path at name p prep)
                  (edit_of.lies by.kind m nodes owners seen.0 by.listings seen.1 held suits t words few path at name p prep) (edit_of.put by.kind m nodes owners seen.0 by.listings seen.1 held suits t words few path at name p prep) u e;
              after = λ m' image taken there.
                  (let left = edit_of.owners_left by.kind m nodes owners seen.0 by.listings seen.1 held suits t words few path at name p prep 0 space m' taken in
                  done_of.tree by.kind m nodes owners seen.0 by.listings seen.1 held suits t words few path at name p prep 0 c bytes brings space m' taken left.0 left.1 writing by.r by.image by.new_kind by.opens image there law);
            }

        module _ (job_is : (v : Opened) → AreSound v.layout v.listings → ArePartsOf (parts_with m nodes owners) v → IsJob nodes v.listings c (job_of t words) name) where
          changes_new : (m' : Map) (nodes' : Nodes) (owners' : List Owner) (number : ℕ) (was image : List ℕ) → IsRun h (parts_with m' nodes' owners') p number → IsChanged m m' p.ready bytes was image
              → ChangesPartsSafely c h (parts_with m' nodes' owners') was image
          changes_new m' nodes' owners' number was image run is other view opens held =
              let at_map : view.layout ≡ Layout.New m = sym held.layout in
              let same = opened_as other was view (Layout.New m) opens at_map in
              let seen = new_view m nodes owners kind is_map a other was view opens held in
              let sound' = sound_in (Layout.New m) nodes owners view (agreed_law.sound other m nodes owners seen.0 view.listings seen.1) held in
              let at = can view sound' held in
              let opened = subst (OpensAs was other) (sym same) opens in
              let viewed = subst (ArePartsOf h) (sym same) held in
              let disc = new_kind was other (record { kind = other; layout = Layout.New m; listings = view.listings }) m opened refl in
              let taken = one_map m' run.given in
              let x = edit_of.x other m nodes owners seen.0 view.listings seen.1 viewed suits t words few path at name p prep in
              let there = image_of.there_of x disc.0 was disc.1 opened p.ready bytes image m' (edit_of.one_step other m nodes owners seen.0 view.listings seen.1 viewed suits t words few path at name p prep) is in
              let as_taken = edit_of.nodes_same other m nodes owners seen.0 view.listings seen.1 viewed suits t words few path at name p prep number ∙ sym run.nodes in
              subst (λ (v : Opened). SafeOutcome other was image v c (parts_with m' nodes' owners')) same
              (subst (λ (ns : Nodes). SafeOutcome other was image (record { kind = other; layout = Layout.New m; listings = view.listings }) c (parts_with m' ns owners')) as_taken
              (done_of.outcome other m nodes owners seen.0 view.listings seen.1 viewed suits t words few path at name p prep number c bytes brings space m' taken owners' (edit_of.owners_then other m nodes owners seen.0 view.listings seen.1 viewed suits t words few path at name p prep number space m' taken owners' run.owners) writing disc.0 was disc.1 opened image there
              (job_is view sound' held) law is))

          pub changes_then : (now : Parts) (m' : Map) (number : ℕ) (was image : List ℕ) → IsRun h now p number → now.layout ≡ Layout.New m' → IsChanged m m' p.ready bytes was image → ChangesPartsSafely c h now was image
          changes_then now m' number was image run at is =
              subst (λ (y : Layout). ChangesPartsSafely c h (record { layout = y; nodes = now.nodes; owners = now.owners }) was image) (sym at)
              (changes_new m' now.nodes now.owners number was image (subst (λ (y : Layout). IsRun h (record { layout = y; nodes = now.nodes; owners = now.owners }) p number) at run) is)

  -- ---- the laws

  module _ (bytes : List ℕ) (c : Command) (j : IsJobFor c (parts_with m nodes owners) (job_of t words) name bytes) where
    came : (d : Command) → IsJobFor d (parts_with m nodes owners) (job_of t words) name bytes → (path : Path) × Brings (Arrival.Saves words) path bytes d × Covers (parts_with m nodes owners) path t
    came d k = covers h kind a d t words name bytes k

    judged : (d : Command) → IsJobFor d (parts_with m nodes owners) (job_of t words) name bytes → IsJudgedIn kind m (parts_with m nodes owners) d (job_of t words) name bytes
    judged d k = record { is_map = is_map; layout = refl; suits = suits; agree = a; judged = k }

    pub saving_laws : SafeJobLaws kind m (parts_with m nodes owners) (job_of t words) name bytes
    saving_laws = record {
      can_prepare = can_prepare (came c j).0 (came c j).2;
      can_write = λ p n prep room. edit_of.can_write kind m nodes owners a.root a.listings (on (came c j).0 (came c j).2) (own_view (came c j).0 (came c j).2) suits t words few (came c j).0 (spot (came c j).0 (came c j).2) name p prep n room;
      can_take = λ p m' number room prep taken some. can_take_over (came c j).0 (came c j).2 p prep m' number room taken;
      agrees = λ p now number prep run. agrees_then (came c j).0 (came c j).2 p prep now.layout now.nodes now.owners number run;
      leads = λ d p x k prep held. leads (came d k).0 (came d k).2 p prep d bytes (came d k).1 x held;
      changes = λ d p m' now number was image k prep run at is. changes_then (came d k).0 (came d k).2 p prep d bytes (came d k).1 (λ v sound held. k.is v sound held) now m' number was image run at is;
      short_is = λ d w v k are sound held. short_as kind m h d (job_of t words) name bytes (judged d k) v sound held w are;
      full = λ d v k full sound held. full_as kind m h d (job_of t words) name bytes (judged d k) v sound held full;
    }
