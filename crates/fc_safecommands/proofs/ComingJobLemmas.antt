-- `save`, `create` and `cdir` of what is new in the safe mode, without growth: the laws of their jobs.
use Rattle.std.proofs.Common.{◌≡◌, ◌<◌, ◌≤◌, ◌^◌, ◌==◌, ◌&&◌, ℕ, Bool, true, false, cond, List, [], ◌∷◌, refl, sym, ap, ap₂, subst, ◌∙◌, arith, eq-eqb, Option, Some, None}
use Rattle.std.specs.Prelude.{Contains, IsSome, is_some}
use Rattle.std.specs.FinMap.{get, insert as put}
use Rattle.std.specs.Option.{option_and_then, option_map, unwrap_or}
use Rattle.std.proofs.lemmas.Bool.{ne_eqb}
use Rattle.fc_names.specs.Names.{Path}
use Rattle.fc_names.specs.declared.name.NameForm.{NameForm}
use Rattle.fc_names.specs.declared.name.NameForm.TheVariants as forms
use Rattle.fc_alloc.specs.declared.owner.Owner.{Owner}
use Rattle.fc_record.specs.declared.Geometry.{Geometry}
use Rattle.fc_record.specs.declared.Kind.{Kind}
use Rattle.fc_newmap.specs.Map.{Map}
use Rattle.fc_newmap.specs.NewMap.{IsNewMap}
use Rattle.fc_model.specs.Answer.{changed}
use Rattle.fc_model.specs.Command.{Command}
use Rattle.fc_model.specs.Tree.{last_name}
use Rattle.fc_dirs.specs.Directory.{entries_of}
use Rattle.fc_dirs.specs.Entries.{has_name}
use Rattle.fc_dirs.specs.declared.Entry.{Entry}
use Rattle.fc_drafts.specs.Draft.{CanAddress, CanBeCalled, CanName, directory_in}
use Rattle.fc_image.specs.Layout.{Layout, dir_form, id_of}
use Rattle.fc_image.specs.Objects.{objects_of, tree_of}
use Rattle.fc_image.specs.Opening.{Opened}
use Rattle.fc_image.specs.Sound.{AreSound}
use Rattle.fc_image.specs.Stays.{OpensAs}
use Rattle.fc_image.specs.Walk.{Listing}
use Rattle.fc_image.specs.effects.Short.{new_dir_size}
use Rattle.fc_image.specs.effects.Steady.{new_directory}
use Rattle.fc_changes.proofs.lemmas.old.BeforeLemmas.{opened_as}
use Rattle.fc_edits.proofs.lemmas.ShapeLemmas.{of_one, only}
use Rattle.fc_laws.specs.nodes.Edits.{Nodes, with_body, with_edited}
use Rattle.fc_laws.specs.agree.Agreed.{AgreeOn, parts_with}
use Rattle.fc_laws.proofs.lemmas.agree.BeforeLemmas.{agreed_law}
use Rattle.fc_laws.proofs.lemmas.takeover.KindLemmas.{new_kind}
use Rattle.fc_placing.specs.Places.{slack_left}
use Rattle.fc_refusals.specs.Targets.{IsVacant}
use Rattle.fc_tree.specs.Agree.{Agree, HasForm}
use Rattle.fc_tree.specs.Nodes.{body_in}
use Rattle.fc_tree.specs.Parts.{ArePartsOf, Parts}
use Rattle.fc_tree.specs.declared.node.Node.{Node}
use Rattle.fc_tree.proofs.MemberLemmas.{no_element}
use Rattle.fc_writing.specs.New.{IsChanged, IsGiven, IsTaken}
use Rattle.fc_writing.specs.Steps.{HasStepped}
use Rattle.fc_change.specs.After.{AreOwnersAfter, CanRegrowNode, CanTakeOver, CanTurnNode, CanTurnOwner, IsRegrownOwner, IsTurnedOwner, body_said, nodes_after, nodes_more, owners_admitted}
use Rattle.fc_change.specs.Directories.{CanBe, CanTell, CanTellAround, IsGrownThere, Rewriting}
use Rattle.fc_change.specs.Drafts.{CanBegin, CanDraft, CanTellJob, IsChangeOf, IsPlaced, address_in}
use Rattle.fc_change.specs.Jobs.{IsJob}
use Rattle.fc_change.specs.Needs.{AreWants, CanWant}
use Rattle.fc_change.specs.Shortage.{slack_for}
use Rattle.fc_change.specs.declared.change.Change.{Change}
use Rattle.fc_change.specs.declared.change.Regrowth.{Regrowth}
use Rattle.fc_change.specs.declared.change.Says.{Says}
use Rattle.fc_change.specs.declared.change.Turned.{Turned}
use Rattle.fc_change.specs.declared.change.Turned.TheVariants as turns
use Rattle.fc_drafts.specs.declared.draft.Draft.{Draft}
use Rattle.fc_change.specs.declared.job.Growth.{Growth}
use Rattle.fc_change.specs.declared.job.Wants.{Wants}
use Rattle.fc_change.specs.declared.spaces.Place.{Place}
use Rattle.fc_change.specs.declared.spaces.Spaces.{Spaces}
use Rattle.fc_commands.specs.declared.stages.Prepared.{Prepared}
use Rattle.fc_commands.specs.Jobs.{IsJobFor}
use Rattle.fc_commands.specs.Run.{IsRun}
use Rattle.fc_commands.proofs.ArrivalLemmas.{Arrival, Brings, CanArrive, IsShort, address_is, bytes_of, entry_of, few_attrs, job_of, name_is, no_last}
use Rattle.fc_commands.proofs.ArrivalPartsLemmas.{taken_over}
use Rattle.fc_commands.proofs.ArrivalPlaceLemmas.{IsItsPlace, IsWanted, dir_some, shares_of}
use Rattle.fc_commands.proofs.ArrivalStageLemmas.{Arrives, IsArrivalChange, arrival_change, arrives}
use Rattle.fc_commands.proofs.ArrivalTakenLemmas.{GrowsNone}
use Rattle.fc_commands.proofs.EmptySpaceLemmas.{none_grown as none_regrown}
use Rattle.fc_commands.proofs.EnteredLemmas.{can_hold, can_name, fits_form}
use Rattle.fc_commands.proofs.HolderLemmas as holder_of
use Rattle.fc_commands.proofs.RemovalRunLemmas.{new_view, sound_in}
use Rattle.fc_commands.proofs.RemovalStageLemmas.{view_of}
use Rattle.fc_safe.specs.FirstSpace.{CanPlaceFirst}
use Rattle.fc_safe.specs.Suits.{Suits, is_low_directory}
use Rattle.fc_safeedits.specs.SafeAddition.{SafeAdditionLaw}
use Rattle.fc_safeedits.specs.SafeOutcome.{SafeOutcome}
use Rattle.fc_safeedits.specs.SafeSpace.{SafeSpaceLaw}
use Rattle.fc_safeedits.specs.SafeWriting.{SafeWritingLaw}
use Rattle.fc_safecrash.specs.Crash.{LeadsTo}
use Rattle.fc_safelaws.specs.Free.{view}
use Rattle.fc_safecommands.specs.Jobs.{IsJudgedIn}
use Rattle.fc_safecommands.specs.Anew.{IsPreparedAnew}
use Rattle.fc_safecommands.specs.Laws.{MappedBy, SafeJobLaws, mapped}
use Rattle.fc_safecommands.specs.Promises.{ChangesPartsSafely}
use Rattle.fc_safecommands.specs.Stages.{CanPrepareAnew, IsSpacedFirst}
use Rattle.fc_safecommands.proofs.ComingLemmas as coming
use Rattle.fc_safecommands.proofs.ComingEditLemmas as edit_of
use Rattle.fc_safecommands.proofs.ComingDoneLemmas as done_of
use Rattle.fc_safecommands.proofs.JudgedLemmas.{full_as, short_as}
use Rattle.fc_safecommands.proofs.NumberLemmas.{free_number}
use Rattle.fc_safecommands.proofs.StirredImageLemmas as image_of
use Rattle.fc_safecommands.proofs.StirredLemmas.{StirredJob, changed_at, own_bytes}
use Rattle.fc_safecommands.proofs.StirredPutLemmas as put_of
use Rattle.fc_safecommands.proofs.StirredSpaceLemmas.{new_high}
use Rattle.fc_safecommands.proofs.SuitsLemmas.{NoneLow, put_low, said_low, still_suits}

module _ (space : SafeSpaceLaw) (writing : SafeWritingLaw) (law : SafeAdditionLaw) (kind : Kind) (m : Map) (nodes : Nodes) (owners : List Owner) (is_map : IsNewMap m) (a : Agree kind (parts_with m nodes owners))
    (suits : Suits (Layout.New m) nodes) (dir : ℕ) (b : Arrival) (few : IsShort b) where
  abbrev h : Parts
  h = parts_with m nodes owners

  abbrev form : NameForm
  form = dir_form (Layout.New m)

  big : form ≡ forms.Long
  big = ap (λ (c : Bool). let f : NameForm = cond c forms.Ten forms.Long in f) suits.0

  module _ (path : Path) (can : CanArrive (parts_with m nodes owners) path dir) (none : GrowsNone (parts_with m nodes owners) dir b (last_name path)) where
    abbrev name : List ℕ
    name = last_name path

    pub on : AgreeOn kind m nodes owners a.root a.listings
    on = agreed_law.named kind h m refl is_map a

    pub own_view : ArePartsOf h (record { kind = kind; layout = Layout.New m; listings = a.listings })
    own_view = agreed_law.viewed kind h a

    pub sound : AreSound (Layout.New m) a.listings
    sound = agreed_law.sound_by kind h a

    pub spot : IsVacant nodes a.listings path dir
    spot = can.vacant (view_of h kind a) sound own_view

    abbrev l : Listing
    l = spot.listing

    abbrev own_job : (w : Wants) → AreWants (parts_with m nodes owners) (job_of dir b) (last_name path) w → StirredJob
    own_job w are = coming.job kind m nodes owners a.root a.listings on own_view suits dir b few path spot w are (none w are)

    -- ---- the stages

    formed : HasForm form l.object.entry.len l.content
    formed = a.walked.forms l spot.listed

    fits : (address : ℕ) → CanAddress l.content address
    fits address = fits_form form l.content l.object.entry.len address formed (λ small. absurd (small big))

    tell : (address : ℕ) → CanTell None nodes dir (Rewriting.Enters (entry_of form b name address))
    tell address =
        let e = entry_of form b name address in
        let can_be : CanBe (Rewriting.Enters e) l.content = (
          subst (λ (n : List ℕ). CanName l.content n) (sym (name_is form b name address)) (can_name form l.content l.object.entry.len name formed can.writable),
          can_hold l.content e (few_attrs form b name address) (no_last form b name address) (subst (CanAddress l.content) (sym (address_is form b name address)) (fits address)),
          ap (has_name (entries_of l.content)) (name_is form b name address) ∙ spot.no_name,
        ) in
        holder_of.can_tell (Layout.New m) nodes a.listings sound a.walked.held l spot.listed dir spot.holder_is (Rewriting.Enters e) refl can_be a.walked.forms is_map

    begins : (parent : ℕ) → CanAddress (new_directory form parent name) parent × CanBeCalled (new_directory form parent name) name
    begins parent = subst (λ (f : NameForm). CanAddress (new_directory f parent name) parent × CanBeCalled (new_directory f parent name) name) (sym big) (tt, tt)

    can_tell_job : (y : Arrival) (address : Option ℕ) → CanTell None nodes dir (Rewriting.Enters (entry_of form y name (unwrap_or address 0))) → CanTellJob h (job_of dir y) name address None
    can_tell_job Arrival.Makes address tells = record {
      entry = entry_of form Arrival.Makes name (unwrap_or address 0);
      made = refl;
      first = of_one (λ (q : ℕ × Rewriting). CanTell None nodes q.0 q.1) (dir, Rewriting.Enters (entry_of form Arrival.Makes name (unwrap_or address 0))) tells;
      last = λ q at. absurd (no_element q at);
      begins = λ parent is. begins parent;
    }
    can_tell_job (Arrival.Saves words) address tells = record {
      entry = entry_of form (Arrival.Saves words) name (unwrap_or address 0);
      made = refl;
      first = of_one (λ (q : ℕ × Rewriting). CanTell None nodes q.0 q.1) (dir, Rewriting.Enters (entry_of form (Arrival.Saves words) name (unwrap_or address 0))) tells;
      last = λ q at. absurd (no_element q at);
      begins = tt;
    }

    want : (y : Arrival) → CanWant nodes (job_of dir y)
    want Arrival.Makes = tt
    want (Arrival.Saves words) = tt

    place_of_it : (w : Wants) (s : Spaces) → IsSpacedFirst m h (job_of dir b) name w s → IsItsPlace s
    place_of_it w s spaced = coming.its kind m nodes owners a.root a.listings on own_view suits dir b few path spot w spaced.wants (none w spaced.wants) s spaced.placed

    can_draft : (w : Wants) (s : Spaces) → IsSpacedFirst m h (job_of dir b) name w s → CanDraft h (job_of dir b) name s
    can_draft w s spaced =
        let no = none_regrown s (place_of_it w s spaced).grown in
        record {
          own = subst (λ (g : Option Regrowth). CanTellJob h (job_of dir b) name (address_in s) g) (sym no) (can_tell_job b (address_in s) (tell (unwrap_or (address_in s) 0)));
          there = subst (IsGrownThere nodes) (sym no) tt;
          others = subst (λ (g : Option Regrowth). (ns : List ℕ) → CanTellAround nodes g ns) (sym no) (λ ns q at. absurd (no_element q at)) _;
        }

    is_placed : (y : Arrival) (s : Spaces) → IsItsPlace s → IsPlaced (job_of dir y) (address_in s)
    is_placed Arrival.Makes s its = ap (λ (q : Option Place). is_some (option_map (λ (k : Place). k.address) q)) its.is
    is_placed (Arrival.Saves words) s its = ap (λ (q : Option Place). is_some (option_map (λ (k : Place). k.address) q)) its.is

    pub can_prepare : CanPrepareAnew m h (job_of dir b) name
    can_prepare = record {
      want = want b;
      place = λ w are. record {
        few = (own_job w are).few;
        grows = λ g e. absurd (let no = sym (none w are) ∙ e in cc);
        copied = λ n some. absurd (let no = sym (coming.is_wanted kind m nodes owners a.root a.listings on own_view suits dir b few path spot w are (none w are)).copy ∙ some in cc);
        placed = image_of.placed_first (own_job w are);
      };
      draft = can_draft;
      placed = λ w s spaced. is_placed b s (place_of_it w s spaced);
      write = λ w s c spaced is.
          (let x = own_job w spaced.wants in
          let ch = arrival_change h dir b name s c (place_of_it w s spaced).grown is in
          image_of.can_write_anew x c (coming.tells_of kind m nodes owners a.root a.listings on own_view suits dir b few path spot w spaced.wants (none w spaced.wants) c ch.said ch.says ch.tells.number));
      zones = λ w s spaced p at. image_of.zones (own_job w spaced.wants) s spaced.placed p at;
    }

    -- ---- after it

    module _ (p : Prepared) (prep : IsPreparedAnew m (parts_with m nodes owners) (job_of dir b) (last_name path) p) where
      abbrev pub still : prep.wants.grows ≡ None
      still = none prep.wants prep.are_wants

      pub ch : IsArrivalChange h dir b name (edit_of.address kind m nodes owners a.root a.listings on own_view suits dir b few path spot p prep (none prep.wants prep.are_wants)) p.change
      ch = edit_of.change kind m nodes owners a.root a.listings on own_view suits dir b few path spot p prep (none prep.wants prep.are_wants)

      pub can_take_over : (m' : Map) (number room : ℕ) → nodes_more p.change.object ≤ room → CanTakeOver (Layout.New m') nodes (owners_admitted (Layout.New m) p.change.object number owners) room p.change
      can_take_over m' number room some = record {
        says = λ s at.
            subst (λ (n : ℕ). IsSome (get nodes n)) (sym ch.tells.number ∙ ap (λ (y : Says). y.node) (only ch.said s (subst (λ (ss : List Says). Contains ss s) ch.says at)))
            (holder_of.has_node (Layout.New m) nodes a.listings sound a.walked.held l spot.listed dir spot.holder_is);
        object = subst (CanTurnNode nodes room) (sym ch.comes) (subst (λ (t : Turned). nodes_more t ≤ room) ch.comes some);
        owner = subst (CanTurnOwner (Layout.New m') (owners_admitted (Layout.New m) p.change.object number owners)) (sym ch.comes) tt;
        grown = subst (CanRegrowNode nodes (owners_admitted (Layout.New m) p.change.object number owners)) (sym ch.none) tt;
      }

      -- the map after it is the one that its single step makes
      pub one_map : (m' : Map) → IsGiven m p.ready m' → IsTaken m p.ready m'
      one_map m' given = subst (IsTaken m p.ready) (sym (subst (HasStepped given.0 m') prep.ready.no_give given.2)) given.1

      -- a new directory lies in no map's identifier
      new_low : (y : Arrival) → prep.wants.shares ≡ shares_of dir y → prep.wants.bytes ≡ bytes_of form y → (address : ℕ)
          → (0 < own_bytes (edit_of.x kind m nodes owners a.root a.listings on own_view suits dir b few path spot p prep (none prep.wants prep.are_wants)) → 3 ≤ id_of address) → is_low_directory (entry_of form y name address) ≡ false
      new_low (Arrival.Saves words) shares bytes address high = refl
      new_low Arrival.Makes shares bytes address high = ne_eqb (id_of address) 2 (λ two. (let least = high own_some in omega (arith, least, two)))
        where
          no_slack : slack_for m owners prep.wants ≡ None
          no_slack = ap (λ (d : Option ℕ). option_and_then (λ (k : ℕ). slack_left m owners k prep.wants.bytes) d) shares

          own_some : 0 < own_bytes (edit_of.x kind m nodes owners a.root a.listings on own_view suits dir b few path spot p prep (none prep.wants prep.are_wants))
          own_some =
              let all : own_bytes (edit_of.x kind m nodes owners a.root a.listings on own_view suits dir b few path spot p prep (none prep.wants prep.are_wants)) ≡ prep.wants.bytes = ap (λ (o : Option (ℕ × ℕ)). let n : ℕ = cond (is_some o) 0 prep.wants.bytes in n) no_slack in
              let some = dir_some form in
              omega (arith, all, bytes, some)

      still_none : (number : ℕ) → NoneLow (nodes_after p.change number nodes)
      still_none number =
          subst NoneLow (sym (taken_over p.change number dir (entry_of form b name (edit_of.address kind m nodes owners a.root a.listings on own_view suits dir b few path spot p prep (none prep.wants prep.are_wants))) ch.own ch.said nodes ch.none ch.comes ch.says ch.tells.number))
          (said_low (put nodes number new) dir (λ (n : Node). record n { body = body_in (directory_in ch.said.draft) }) (λ n. refl) (put_low nodes number new low suits.1))
        where
          new : Node
          new = record { holder = dir; entry = entry_of form b name (edit_of.address kind m nodes owners a.root a.listings on own_view suits dir b few path spot p prep (none prep.wants prep.are_wants)); body = body_said ch.own }

          wanted_is : IsWanted h dir b name prep.wants
          wanted_is = coming.is_wanted kind m nodes owners a.root a.listings on own_view suits dir b few path spot prep.wants prep.are_wants still

          low : is_low_directory (entry_of form b name (edit_of.address kind m nodes owners a.root a.listings on own_view suits dir b few path spot p prep (none prep.wants prep.are_wants))) ≡ false
          low = new_low b wanted_is.slack wanted_is.bytes (edit_of.address kind m nodes owners a.root a.listings on own_view suits dir b few path spot p prep (none prep.wants prep.are_wants)) (λ some.
              (let first = (edit_of.at_spot kind m nodes owners a.root a.listings on own_view suits dir b few path spot p prep (none prep.wants prep.are_wants)).first some in
              let high = (new_high (edit_of.x kind m nodes owners a.root a.listings on own_view suits dir b few path spot p prep (none prep.wants prep.are_wants)) (id_of (edit_of.o kind m nodes owners a.root a.listings on own_view suits dir b few path spot p prep (none prep.wants prep.are_wants)).entry.address) (subst (λ (ks : List ℕ). Contains ks (id_of (edit_of.o kind m nodes owners a.root a.listings on own_view suits dir b few path spot p prep (none prep.wants prep.are_wants)).entry.address)) (sym first.1) (0, omega arith, refl))).0 in
              subst (λ (n : ℕ). 3 ≤ id_of n) (address_is form b name (edit_of.address kind m nodes owners a.root a.listings on own_view suits dir b few path spot p prep (none prep.wants prep.are_wants))) high))

      agrees_new : (m' : Map) (nodes' : Nodes) (owners' : List Owner) (number : ℕ) → IsRun h (parts_with m' nodes' owners') p number → Agree kind (parts_with m' nodes' owners') × Suits (Layout.New m') nodes'
      agrees_new m' nodes' owners' number run =
          let taken = one_map m' run.given in
          let same = edit_of.nodes_same kind m nodes owners a.root a.listings on own_view suits dir b few path spot p prep (none prep.wants prep.are_wants) number run.free ∙ sym run.nodes in (
            subst (λ (ns : Nodes). Agree kind (parts_with m' ns owners')) same (edit_of.agrees kind m nodes owners a.root a.listings on own_view suits dir b few path spot p prep (none prep.wants prep.are_wants) number run.free space m' taken owners' run.owners law),
            still_suits m m' nodes nodes' (edit_of.same kind m nodes owners a.root a.listings on own_view suits dir b few path spot p prep (none prep.wants prep.are_wants) number run.free space m' taken owners' run.owners) suits (subst NoneLow (sym run.nodes) (still_none number)),
          )

      pub agrees_then : (now : Layout) (nodes' : Nodes) (owners' : List Owner) (number : ℕ) → IsRun h (record { layout = now; nodes = nodes'; owners = owners' }) p number
          → Agree kind (record { layout = now; nodes = nodes'; owners = owners' }) × Suits now nodes'
      agrees_then (Layout.New m') nodes' owners' number run = agrees_new m' nodes' owners' number run
      agrees_then (Layout.Old s) nodes' owners' number run = absurd run.given

      -- ---- by each command whose job it is, and each image

      module _ (c : Command) (bytes : List ℕ) (brings : Brings b path bytes c) where
        pub leads : (x : MappedBy m) → ArePartsOf h (view (mapped m x)) → LeadsTo (mapped m x) p.ready bytes (changed (tree_of x.image (Layout.New m) x.listings) c)
        leads by held =
            let seen = new_view m nodes owners kind is_map a by.kind by.image (view (mapped m by)) by.opens held in
            let at = can.vacant (view (mapped m by)) (agreed_law.sound by.kind m nodes owners seen.0 by.listings seen.1) held in
            let n = free_number nodes in
            record {
              one_step = edit_of.one_step by.kind m nodes owners seen.0 by.listings seen.1 held suits dir b few path at p prep still;
              free = λ u e.
                  put_of.written_free (edit_of.x by.kind m nodes owners seen.0 by.listings seen.1 held suits dir b few path at p prep still) prep.spaces prep.placed p.change
                  (edit_of.tells by.kind m nodes owners seen.0 by.listings seen.1 held suits dir b few path at p prep still) p.ready prep.ready (edit_of.own by.kind m nodes owners seen.0 by.listings seen.1 held suits dir b few path at p prep still)
                  (edit_of.lies by.kind m nodes owners seen.0 by.listings seen.1 held suits dir b few path at p prep still) (edit_of.put by.kind m nodes owners seen.0 by.listings seen.1 held suits dir b few path at p prep still) u e;
              after = λ m' image taken there.
                  done_of.tree by.kind m nodes owners seen.0 by.listings seen.1 held suits dir b few path at p prep still n.0 n.1 c bytes brings space m' taken (owners_admitted (Layout.New m) p.change.object n.0 owners)
                  (admitted (edit_of.change by.kind m nodes owners seen.0 by.listings seen.1 held suits dir b few path at p prep still).none (edit_of.change by.kind m nodes owners seen.0 by.listings seen.1 held suits dir b few path at p prep still).comes m' n.0)
                  writing by.r by.image by.new_kind by.opens image there law;
            }
          where
            admitted : {d : Option Draft} {e : Entry} → p.change.grown ≡ None → p.change.object ≡ turns.Comes dir e d → (m' : Map) (number : ℕ)
                → AreOwnersAfter (Layout.New m') nodes p.change (owners_admitted (Layout.New m) p.change.object number owners) (owners_admitted (Layout.New m) p.change.object number owners)
            admitted none comes m' number = record {
              middle = owners_admitted (Layout.New m) p.change.object number owners;
              grown = subst (λ (g : Option Regrowth). IsRegrownOwner (Layout.New m') nodes g (owners_admitted (Layout.New m) p.change.object number owners) (owners_admitted (Layout.New m) p.change.object number owners)) (sym none) refl;
              object = subst (λ (t : Turned). IsTurnedOwner (Layout.New m') t (owners_admitted (Layout.New m) p.change.object number owners) (owners_admitted (Layout.New m) p.change.object number owners)) (sym comes) refl;
            }

        module _ (job_is : (v : Opened) → AreSound v.layout v.listings → ArePartsOf (parts_with m nodes owners) v → IsJob nodes v.listings c (job_of dir b) (last_name path)) where
          changes_new : (m' : Map) (nodes' : Nodes) (owners' : List Owner) (number : ℕ) (was image : List ℕ) → IsRun h (parts_with m' nodes' owners') p number → IsChanged m m' p.ready bytes was image
              → ChangesPartsSafely c h (parts_with m' nodes' owners') was image
          changes_new m' nodes' owners' number was image run is other view opens held =
              let at_map : view.layout ≡ Layout.New m = sym held.layout in
              let same = opened_as other was view (Layout.New m) opens at_map in
              let seen = new_view m nodes owners kind is_map a other was view opens held in
              let sound' = sound_in (Layout.New m) nodes owners view (agreed_law.sound other m nodes owners seen.0 view.listings seen.1) held in
              let at = can.vacant view sound' held in
              let opened = subst (OpensAs was other) (sym same) opens in
              let viewed = subst (ArePartsOf h) (sym same) held in
              let disc = new_kind was other (record { kind = other; layout = Layout.New m; listings = view.listings }) m opened refl in
              let taken = one_map m' run.given in
              let x = edit_of.x other m nodes owners seen.0 view.listings seen.1 viewed suits dir b few path at p prep still in
              let there = image_of.there_of x disc.0 was disc.1 opened p.ready bytes image m' (edit_of.one_step other m nodes owners seen.0 view.listings seen.1 viewed suits dir b few path at p prep still) is in
              let as_taken = edit_of.nodes_same other m nodes owners seen.0 view.listings seen.1 viewed suits dir b few path at p prep still number run.free ∙ sym run.nodes in
              subst (λ (v : Opened). SafeOutcome other was image v c (parts_with m' nodes' owners')) same
              (subst (λ (ns : Nodes). SafeOutcome other was image (record { kind = other; layout = Layout.New m; listings = view.listings }) c (parts_with m' ns owners')) as_taken
              (done_of.outcome other m nodes owners seen.0 view.listings seen.1 viewed suits dir b few path at p prep still number run.free c bytes brings space m' taken owners' run.owners writing disc.0 was disc.1 opened image there
              (job_is view sound' held) law is))

          pub changes_then : (now : Parts) (m' : Map) (number : ℕ) (was image : List ℕ) → IsRun h now p number → now.layout ≡ Layout.New m' → IsChanged m m' p.ready bytes was image → ChangesPartsSafely c h now was image
          changes_then now m' number was image run at is =
              subst (λ (y : Layout). ChangesPartsSafely c h (record { layout = y; nodes = now.nodes; owners = now.owners }) was image) (sym at)
              (changes_new m' now.nodes now.owners number was image (subst (λ (y : Layout). IsRun h (record { layout = y; nodes = now.nodes; owners = now.owners }) p number) at run) is)

  -- ---- the laws

  module _ (name bytes : List ℕ) (none : GrowsNone (parts_with m nodes owners) dir b name) (c : Command) (j : IsJobFor c (parts_with m nodes owners) (job_of dir b) name bytes) where
    came : (d : Command) → IsJobFor d (parts_with m nodes owners) (job_of dir b) name bytes → Arrives (parts_with m nodes owners) d dir b name bytes
    came d k = arrives h kind a d dir b name bytes k

    none_at : (d : Command) (k : IsJobFor d (parts_with m nodes owners) (job_of dir b) name bytes) → GrowsNone (parts_with m nodes owners) dir b (last_name (came d k).path)
    none_at d k = subst (GrowsNone h dir b) (came d k).name_is none

    as_named : (d : Command) (k : IsJobFor d (parts_with m nodes owners) (job_of dir b) name bytes) (p : Prepared) → IsPreparedAnew m h (job_of dir b) name p → IsPreparedAnew m h (job_of dir b) (last_name (came d k).path) p
    as_named d k p prep = subst (λ (n : List ℕ). IsPreparedAnew m h (job_of dir b) n p) (came d k).name_is prep

    judged : (d : Command) → IsJobFor d (parts_with m nodes owners) (job_of dir b) name bytes → IsJudgedIn kind m (parts_with m nodes owners) d (job_of dir b) name bytes
    judged d k = record { is_map = is_map; layout = refl; suits = suits; agree = a; judged = k }

    pub coming_laws : SafeJobLaws kind m (parts_with m nodes owners) (job_of dir b) name bytes
    coming_laws = record {
      can_prepare = subst (CanPrepareAnew m h (job_of dir b)) (sym (came c j).name_is) (can_prepare (came c j).path (came c j).can (none_at c j));
      can_write = λ p n prep room.
          edit_of.can_write kind m nodes owners a.root a.listings (on (came c j).path (came c j).can (none_at c j)) (own_view (came c j).path (came c j).can (none_at c j)) suits dir b few (came c j).path (spot (came c j).path (came c j).can (none_at c j))
          p (as_named c j p prep) (none_at c j (as_named c j p prep).wants (as_named c j p prep).are_wants) n room;
      can_take = λ p m' number room prep taken some. can_take_over (came c j).path (came c j).can (none_at c j) p (as_named c j p prep) m' number room some;
      agrees = λ p now number prep run. agrees_then (came c j).path (came c j).can (none_at c j) p (as_named c j p prep) now.layout now.nodes now.owners number run;
      leads = λ d p x k prep held. leads (came d k).path (came d k).can (none_at d k) p (as_named d k p prep) d bytes (came d k).brings x held;
      changes = λ d p m' now number was image k prep run at is.
          changes_then (came d k).path (came d k).can (none_at d k) p (as_named d k p prep) d bytes (came d k).brings
          (λ v sound held. subst (λ (n : List ℕ). IsJob nodes v.listings d (job_of dir b) n) (came d k).name_is (k.is v sound held)) now m' number was image run at is;
      short_is = λ d w v k are sound held. short_as kind m h d (job_of dir b) name bytes (judged d k) v sound held w are;
      full = λ d v k full sound held. full_as kind m h d (job_of dir b) name bytes (judged d k) v sound held full;
    }
