-- `set` and `mark` in the safe mode: the laws of their jobs.
use Rattle.std.proofs.Common.{◌≡◌, ◌==◌, ◌&&◌, inl, ℕ, Bool, true, false, List, [], refl, sym, ap, ap₂, subst, ◌∙◌, Option, Some, None}
use Rattle.std.specs.FinMap.{get, insert as put}
use Rattle.std.specs.Option.{option_map_or}
use Rattle.fc_names.specs.Names.{Path}
use Rattle.fc_alloc.specs.declared.owner.Owner.{Owner}
use Rattle.fc_record.specs.declared.Kind.{Kind}
use Rattle.fc_drafts.specs.declared.room.Room.TheVariants as rooms
use Rattle.fc_oldmap.specs.OldMap.{OldMapContent}
use Rattle.fc_newmap.specs.Map.{Map}
use Rattle.fc_newmap.specs.NewMap.{IsNewMap}
use Rattle.fc_model.specs.Answer.{changed}
use Rattle.fc_model.specs.Command.{Command}
use Rattle.fc_image.specs.Layout.{Layout}
use Rattle.fc_image.specs.Objects.{tree_of}
use Rattle.fc_image.specs.Opening.{Opened}
use Rattle.fc_image.specs.Sound.{AreSound}
use Rattle.fc_image.specs.Stays.{OpensAs}
use Rattle.fc_image.specs.safe.SafeShort.{safe_refusal}
use Rattle.fc_changes.proofs.lemmas.old.BeforeLemmas.{opened_as}
use Rattle.fc_tree.specs.Agree.{Agree}
use Rattle.fc_tree.specs.Parts.{ArePartsOf, Parts}
use Rattle.fc_tree.proofs.MemberLemmas.{no_element}
use Rattle.fc_laws.specs.nodes.Edits.{Nodes}
use Rattle.fc_laws.specs.agree.Agreed.{AgreeOn, parts_with}
use Rattle.fc_laws.proofs.lemmas.agree.BeforeLemmas.{agreed_law}
use Rattle.fc_laws.proofs.lemmas.takeover.KindLemmas.{new_kind}
use Rattle.fc_refusals.specs.declared.target.Target.{Target}
use Rattle.fc_writing.specs.New.{IsChanged, IsGiven, IsTaken}
use Rattle.fc_writing.specs.Steps.{HasStepped}
use Rattle.fc_change.specs.declared.change.Regrowth.{Regrowth}
use Rattle.fc_change.specs.declared.change.Turned.{Turned}
use Rattle.fc_change.specs.declared.job.Wants.{Wants}
use Rattle.fc_change.specs.declared.spaces.Spaces.{Spaces}
use Rattle.fc_change.specs.Directories.{CanTellAround, IsGrownThere}
use Rattle.fc_change.specs.Needs.{AreWants}
use Rattle.fc_commands.specs.declared.stages.Prepared.{Prepared}
use Rattle.fc_commands.specs.Run.{IsRun}
use Rattle.fc_commands.proofs.EmptySpaceLemmas.{none_grown as none_regrown}
use Rattle.fc_safe.specs.FirstNeeds.{first_shortage}
use Rattle.fc_safe.specs.Suits.{Suits}
use Rattle.fc_safe.proofs.PlainLawLemmas.{plain_law}
use Rattle.fc_safe.proofs.SuitsLemmas.{low_of, suits_are}
use Rattle.fc_safelaws.specs.Free.{view}
use Rattle.fc_safecrash.specs.Crash.{LeadsTo}
use Rattle.fc_safeedits.specs.SafeOutcome.{SafeOutcome}
use Rattle.fc_safeedits.specs.SafeSpace.{SafeSpaceLaw}
use Rattle.fc_safeedits.specs.SafeWriting.{SafeWritingLaw}
use Rattle.fc_safecommands.specs.Anew.{IsPreparedAnew}
use Rattle.fc_safecommands.specs.Laws.{MappedBy, SafeJobLaws, mapped}
use Rattle.fc_safecommands.specs.Promises.{ChangesPartsSafely}
use Rattle.fc_safecommands.specs.Stages.{CanPrepareAnew, IsSpacedFirst}
use Rattle.fc_safecommands.proofs.ChangeLemmas as change_of
use Rattle.fc_safecommands.proofs.PlainLemmas.{PlainJob}
use Rattle.fc_safecommands.proofs.SpaceLemmas.{none_grown}
use Rattle.fc_safecommands.proofs.StageLemmas.{can_place, can_write_anew, there_of, zones}
use Rattle.fc_safecommands.proofs.WrittenLemmas.{written_free}
use Rattle.fc_dirs.specs.declared.Entry.{Entry}
use Rattle.fc_drafts.specs.Draft.{directory_in}
use Rattle.fc_image.specs.Layout.{dir_form, id_of}
use Rattle.fc_record.specs.declared.Geometry.{Geometry}
use Rattle.fc_tree.specs.declared.node.Node.{Node}
use Rattle.fc_tree.specs.Nodes.{body_in}
use Rattle.fc_laws.specs.nodes.Edits.{with_body, with_edited}
use Rattle.fc_refusals.specs.Targets.{IsTarget}
use Rattle.fc_change.specs.declared.change.Change.{Change}
use Rattle.fc_change.specs.declared.change.Turned.TheVariants as turns
use Rattle.fc_change.specs.After.{AreOwnersAfter, CanTakeOver, CanTurnOwner, HasPlaceFor, IsRegrownOwner, IsTurnedOwner, gone_in, nodes_after, owners_admitted, with_regrown, with_said, with_turned, without_gone}
use Rattle.fc_change.specs.Drafts.{CanDraft, CanTellJob, address_in}
use Rattle.fc_change.specs.Jobs.{IsJob}
use Rattle.fc_change.specs.Needs.{HasRoomOf}
use Rattle.fc_change.specs.Owned.{IsOwnerNow, owner_if}
use Rattle.fc_commands.specs.Jobs.{IsJobFor}
use Rattle.fc_commands.proofs.RemovalRunLemmas.{new_view, sound_in}
use Rattle.fc_commands.proofs.RemovalStageLemmas.{view_of}
use Rattle.fc_commands.proofs.RewordingLemmas.{Fit, Gives, Wording, job_of as job_by, worded}
use Rattle.fc_commands.proofs.RewordingLemmas as rewording
use Rattle.fc_commands.proofs.RewordingRunLemmas.{can_take, owners_same}
use Rattle.fc_commands.proofs.RewordingStageLemmas.{IsRewordingChange, Targets, can_tell_job, placed, rewording_change, targets, tell, turns_it, wanted, wants_none}
use Rattle.fc_commands.proofs.TargetLemmas as target_of
use Rattle.fc_safe.specs.Suits.{is_low_directory}
use Rattle.fc_safeedits.specs.SafeRewording.{SafeRewordingLaw}
use Rattle.fc_commands.proofs.NewOverRunLemmas.{no_full}
use Rattle.fc_safecommands.proofs.RewordingLemmas.{agrees, can_write, change, job_of, nodes_same, outcome, plain_of, tells, tree}
use Rattle.fc_safecommands.proofs.SuitsLemmas.{NoneLow, put_low, refusal_new, said_low, still_suits}

-- ---- the owner of the object

-- The owner by another map of the same geometry is the same.
module _ (m m' : Map) (same : m'.geometry ≡ m.geometry) where
  owner_alike : (n dir : ℕ) (e : Entry) → owner_if (Layout.New m') n dir e ≡ owner_if (Layout.New m) n dir e
  owner_alike n dir e = ap (λ (g : Geometry). owner_if (Layout.New (record { geometry = g; zones = [] })) n dir e) same

  pub after_alike : (nodes : Nodes) (c : Change) (n dir : ℕ) (e : Entry) (was now : List Owner) → c.grown ≡ None → c.object ≡ turns.Turns n dir e → AreOwnersAfter (Layout.New m') nodes c was now → AreOwnersAfter (Layout.New m) nodes c was now
  after_alike nodes c n dir e was now none turned after = record {
    middle = after.middle;
    grown = subst (λ (g : Option Regrowth). IsRegrownOwner (Layout.New m) nodes g was after.middle) (sym none) (subst (λ (g : Option Regrowth). IsRegrownOwner (Layout.New m') nodes g was after.middle) none after.grown);
    object = subst (λ (x : Turned). IsTurnedOwner (Layout.New m) x after.middle now) (sym turned)
        (subst (λ (o : Option Owner). IsOwnerNow n o after.middle now) (owner_alike n dir e) (subst (λ (x : Turned). IsTurnedOwner (Layout.New m') x after.middle now) turned after.object));
  }

  pub take_alike : (nodes : Nodes) (owners : List Owner) (room : ℕ) (c : Change) (n dir : ℕ) (e : Entry) → c.object ≡ turns.Turns n dir e → CanTakeOver (Layout.New m) nodes owners room c → CanTakeOver (Layout.New m') nodes owners room c
  take_alike nodes owners room c n dir e turned can = record {
    says = can.says;
    object = can.object;
    owner = subst (CanTurnOwner (Layout.New m') owners) (sym turned)
        (subst (λ (o : Option Owner). HasPlaceFor o owners) (sym (owner_alike n dir e)) (subst (CanTurnOwner (Layout.New m) owners) turned can.owner));
    grown = can.grown;
  }

-- ---- the laws of the jobs

module _ (space : SafeSpaceLaw) (writing : SafeWritingLaw) (law : SafeRewordingLaw) (kind : Kind) (m : Map) (nodes : Nodes) (owners : List Owner) (is_map : IsNewMap m) (a : Agree kind (parts_with m nodes owners))
    (t : Target) (w : Wording) (fit : Fit (dir_form (Layout.New m)) w) (suits : Suits (Layout.New m) nodes) (name bytes : List ℕ) (command : Command) (j : IsJobFor command (parts_with m nodes owners) (job_by t w) name bytes) where
  abbrev h : Parts
  h = parts_with m nodes owners

  pub on : AgreeOn kind m nodes owners a.root a.listings
  on = agreed_law.named kind h m refl is_map a

  pub own_view : ArePartsOf h (record { kind = kind; layout = Layout.New m; listings = a.listings })
  own_view = agreed_law.viewed kind h a

  pub its : (path : Path) × Gives w path command × Targets h path t
  its = targets h kind a command t w name bytes j

  pub target : IsTarget nodes a.listings its.0 t
  target = its.2 (view_of h kind a) (agreed_law.sound_by kind h a) own_view

  pub job_is : IsJob nodes a.listings command (job_by t w) name
  job_is = j.is (view_of h kind a) (agreed_law.sound_by kind h a) own_view

  abbrev own_job : (wants : Wants) → AreWants h (job_by t w) name wants → PlainJob
  own_job wants are = job_of kind m nodes owners a.root a.listings on own_view t w its.0 target command its.1 fit suits name job_is wants are

  -- ---- the stages

  no_old : (s : OldMapContent) → Layout.New m ≡ Layout.Old s → ⊥
  no_old s at = cc

  pub can_prepare : CanPrepareAnew m h (job_by t w) name
  can_prepare = record {
    want = wanted h kind a t its.0 w its.2 fit name is_map (λ s at. absurd (no_old s at)) w;
    place = λ wants are. can_place (own_job wants are) (wants_none h t w name wants are).0.copy;
    draft = draft;
    placed = λ wants s spaced. placed h kind a t its.0 w its.2 fit name is_map (λ o at. absurd (no_old o at)) w (address_in s);
    write = λ wants s c spaced is.
        (let x = own_job wants spaced.wants in
        let ch = rewording_change h t w name s c (none_grown x s spaced.placed) is in
        can_write_anew x c (record { said = ch.said; says = ch.says; node = ch.tells.number }));
    zones = λ wants s spaced p at. zones (own_job wants spaced.wants) s spaced.placed p at;
  }
    where
      draft : (wants : Wants) (s : Spaces) → IsSpacedFirst m h (job_by t w) name wants s → CanDraft h (job_by t w) name s
      draft wants s spaced =
          let no = none_regrown s (none_grown (own_job wants spaced.wants) s spaced.placed) in
          record {
            own = subst (λ (g : Option Regrowth). CanTellJob h (job_by t w) name (address_in s) g) (sym no)
                (can_tell_job h kind a t its.0 w its.2 fit name is_map (λ o at. absurd (no_old o at)) w (address_in s) fit (tell h kind a t its.0 w its.2 fit name is_map (λ o at. absurd (no_old o at))));
            there = subst (IsGrownThere nodes) (sym no) tt;
            others = subst (λ (g : Option Regrowth). (ns : List ℕ) → CanTellAround nodes g ns) (sym no) (λ ns q at. absurd (no_element q at)) _;
          }

  -- ---- after it

  module _ (p : Prepared) (prep : IsPreparedAnew m h (job_by t w) name p) where
    pub own_change : IsRewordingChange nodes t w p.change
    own_change = change kind m nodes owners a.root a.listings on own_view t w its.0 target command its.1 fit suits name job_is p prep

    pub turned : p.change.object ≡ turns.Turns t.node t.holder (worded w target.object.entry)
    turned = turns_it (Layout.New m) nodes a.listings (agreed_law.sound_by kind h a) a.walked.held its.0 t target w p.change own_change

    same_map : (m' : Map) → IsTaken m p.ready m' → m'.geometry ≡ m.geometry
    same_map m' taken =
        (change_of.edited (own_job prep.wants prep.are_wants) prep.spaces prep.placed p.change
        (tells kind m nodes owners a.root a.listings on own_view t w its.0 target command its.1 fit suits name job_is p prep) p.ready prep.ready m' taken).geometry

    pub can_take_over : (m' : Map) (number room : ℕ) → IsTaken m p.ready m' → CanTakeOver (Layout.New m') nodes (owners_admitted (Layout.New m) p.change.object number owners) room p.change
    can_take_over m' number room taken =
        take_alike m m' (same_map m' taken) nodes (owners_admitted (Layout.New m) p.change.object number owners) room p.change t.node t.holder (worded w target.object.entry) turned
        (can_take (Layout.New m) nodes owners t w its.0 kind a its.2 fit p own_change number room)

    -- the map after it is the one that its single step makes
    one_map : (m' : Map) → IsGiven m p.ready m' → IsTaken m p.ready m'
    one_map m' given = subst (IsTaken m p.ready) (sym (subst (HasStepped given.0 m') prep.ready.no_give given.2)) given.1

    same_owners : (m' : Map) (owners' : List Owner) (number : ℕ) → IsTaken m p.ready m' → AreOwnersAfter (Layout.New m') nodes p.change (owners_admitted (Layout.New m) p.change.object number owners) owners' → owners' ≡ owners
    same_owners m' owners' number taken after =
        owners_same (Layout.New m) nodes owners t w its.0 kind a its.2 fit p own_change number owners'
        (after_alike m m' (same_map m' taken) nodes p.change t.node t.holder (worded w target.object.entry) (owners_admitted (Layout.New m) p.change.object number owners) owners' own_change.none turned after)

    -- no directory comes to lie in the map's identifier
    still_none : (number : ℕ) → NoneLow (nodes_after p.change number nodes)
    still_none number =
        subst NoneLow (sym said_is) (said_low turned_nodes own_change.said.node (λ (x : Node). record x { body = body_in (directory_in own_change.said.draft) }) (λ x. refl) turned_low)
      where
        sound : AreSound (Layout.New m) a.listings
        sound = agreed_law.sound_by kind h a

        e : Entry
        e = worded w target.object.entry

        turned_nodes : Nodes
        turned_nodes = with_edited t.node (λ (x : Node). record x { holder = t.holder; entry = e }) nodes

        said_is : nodes_after p.change number nodes ≡ with_body own_change.said.node (body_in (directory_in own_change.said.draft)) turned_nodes
        said_is = (λ i. without_gone (gone_in (turned i)) (with_said (own_change.says i) (with_turned (turned i) number (with_regrown (own_change.none i) nodes))))

        own : Node
        own = target_of.node (Layout.New m) nodes a.listings sound a.walked.held its.0 t target

        own_is : get nodes t.node ≡ Some own
        own_is = target_of.node_is (Layout.New m) nodes a.listings sound a.walked.held its.0 t target

        own_entry : own.entry ≡ target.object.entry
        own_entry = refl

        low : is_low_directory e ≡ false
        low =
            let keeps = rewording.keeps (Layout.New m) nodes a.listings sound a.walked.held its.0 t target w fit a.walked.forms in
            ap₂ (λ (b : Bool) (n : ℕ). b && (id_of n == 2)) keeps.kind keeps.address
            ∙ ap is_low_directory (sym own_entry)
            ∙ sym (ap low_of own_is) ∙ suits.1 t.node

        turned_low : NoneLow turned_nodes
        turned_low =
            subst (λ (o : Option Node). NoneLow (option_map_or (λ (x : Node). put nodes t.node (record x { holder = t.holder; entry = e })) o nodes)) (sym own_is)
            (put_low nodes t.node (record own { holder = t.holder; entry = e }) low suits.1)

    agrees_new : (m' : Map) (nodes' : Nodes) (owners' : List Owner) (number : ℕ) → IsRun h (parts_with m' nodes' owners') p number → Agree kind (parts_with m' nodes' owners') × Suits (Layout.New m') nodes'
    agrees_new m' nodes' owners' number run =
        let taken = one_map m' run.given in
        let stay = same_owners m' owners' number taken run.owners in
        let same = nodes_same kind m nodes owners a.root a.listings on own_view t w its.0 target command its.1 fit suits name job_is p prep number ∙ sym run.nodes in (
          subst (λ (ns : Nodes). Agree kind (parts_with m' ns owners')) same (agrees kind m nodes owners a.root a.listings on own_view t w its.0 target command its.1 fit suits name job_is p prep space m' taken owners' stay law),
          still_suits m m' nodes nodes' (same_map m' taken) suits (subst NoneLow (sym run.nodes) (still_none number)),
        )

    pub agrees_then : (now : Layout) (nodes' : Nodes) (owners' : List Owner) (number : ℕ) → IsRun h (record { layout = now; nodes = nodes'; owners = owners' }) p number
        → Agree kind (record { layout = now; nodes = nodes'; owners = owners' }) × Suits now nodes'
    agrees_then (Layout.New m') nodes' owners' number run = agrees_new m' nodes' owners' number run
    agrees_then (Layout.Old s) nodes' owners' number run = absurd run.given

  -- ---- by each command whose job it is, and each image

  module _ (p : Prepared) (prep : IsPreparedAnew m h (job_by t w) name p) (c : Command) (k : IsJobFor c (parts_with m nodes owners) (job_by t w) name bytes) where
    abbrev theirs : (path : Path) × Gives w path c × Targets h path t
    theirs = targets h kind a c t w name bytes k

    pub leads : (x : MappedBy m) → ArePartsOf h (view (mapped m x)) → LeadsTo (mapped m x) p.ready bytes (changed (tree_of x.image (Layout.New m) x.listings) c)
    leads by held =
        let seen = new_view m nodes owners kind is_map a by.kind by.image (view (mapped m by)) by.opens held in
        let sound = agreed_law.sound by.kind m nodes owners seen.0 by.listings seen.1 in
        let at = theirs.2 (view (mapped m by)) sound held in
        let is = k.is (view (mapped m by)) sound held in
        let x = job_of by.kind m nodes owners seen.0 by.listings seen.1 held t w theirs.0 at c theirs.1 fit suits name is prep.wants prep.are_wants in
        let told = tells by.kind m nodes owners seen.0 by.listings seen.1 held t w theirs.0 at c theirs.1 fit suits name is p prep in
        record {
          one_step = change_of.one_step x prep.spaces prep.placed p.change told p.ready prep.ready;
          free = λ u e. inl (written_free x prep.spaces prep.placed p.change told p.ready prep.ready u e);
          after = λ m' image taken there.
              tree by.kind m nodes owners seen.0 by.listings seen.1 held t w theirs.0 at c theirs.1 fit suits name is p prep space m' taken owners refl writing by.r by.image by.new_kind by.opens bytes image there law;
        }

    changes_new : (m' : Map) (nodes' : Nodes) (owners' : List Owner) (number : ℕ) (was image : List ℕ) → IsRun h (parts_with m' nodes' owners') p number → IsChanged m m' p.ready bytes was image
        → ChangesPartsSafely c h (parts_with m' nodes' owners') was image
    changes_new m' nodes' owners' number was image run is other view opens held =
        let at_map : view.layout ≡ Layout.New m = sym held.layout in
        let same = opened_as other was view (Layout.New m) opens at_map in
        let seen = new_view m nodes owners kind is_map a other was view opens held in
        let sound = sound_in (Layout.New m) nodes owners view (agreed_law.sound other m nodes owners seen.0 view.listings seen.1) held in
        let at = theirs.2 view sound held in
        let its_job = k.is view sound held in
        let opened = subst (OpensAs was other) (sym same) opens in
        let viewed = subst (ArePartsOf h) (sym same) held in
        let disc = new_kind was other (record { kind = other; layout = Layout.New m; listings = view.listings }) m opened refl in
        let x = job_of other m nodes owners seen.0 view.listings seen.1 viewed t w theirs.0 at c theirs.1 fit suits name its_job prep.wants prep.are_wants in
        let told = tells other m nodes owners seen.0 view.listings seen.1 viewed t w theirs.0 at c theirs.1 fit suits name its_job p prep in
        let taken = one_map p prep m' run.given in
        let stay = same_owners p prep m' owners' number taken run.owners in
        let there = there_of x disc.0 was disc.1 opened p.ready bytes image m' (change_of.one_step x prep.spaces prep.placed p.change told p.ready prep.ready) is in
        let as_taken = nodes_same other m nodes owners seen.0 view.listings seen.1 viewed t w theirs.0 at c theirs.1 fit suits name its_job p prep number ∙ sym run.nodes in
        subst (λ (v : Opened). SafeOutcome other was image v c (parts_with m' nodes' owners')) same
        (subst (λ (ns : Nodes). SafeOutcome other was image (record { kind = other; layout = Layout.New m; listings = view.listings }) c (parts_with m' ns owners')) as_taken
        (outcome other m nodes owners seen.0 view.listings seen.1 viewed t w theirs.0 at c theirs.1 fit suits name its_job p prep space m' taken owners' stay writing disc.0 was disc.1 opened bytes image there law is))

    pub changes_then : (now : Parts) (m' : Map) (number : ℕ) (was image : List ℕ) → IsRun h now p number → now.layout ≡ Layout.New m' → IsChanged m m' p.ready bytes was image → ChangesPartsSafely c h now was image
    changes_then now m' number was image run at is =
        subst (λ (l : Layout). ChangesPartsSafely c h (record { layout = l; nodes = now.nodes; owners = now.owners }) was image) (sym at)
        (changes_new m' now.nodes now.owners number was image (subst (λ (l : Layout). IsRun h (record { layout = l; nodes = now.nodes; owners = now.owners }) p number) at run) is)

  short_by : (c : Command) (k : IsJobFor c (parts_with m nodes owners) (job_by t w) name bytes) (v : Opened) (wants : Wants) → AreWants h (job_by t w) name wants → AreSound v.layout v.listings → ArePartsOf h v
      → safe_refusal v c ≡ first_shortage m h (job_by t w) wants
  short_by c k v wants are sound held =
      refusal_new v c m (sym held.layout)
      ∙ plain_law.short m h v c (job_by t w) wants
      (record {
        view = record { is_map = is_map; layout = sym held.layout; sound = sound; parts = held };
        suits = sym (suits_are h true v suits sound held);
        name = name;
        job_is = k.is v sound held;
        plain = plain_of t w;
        wants = are;
      })

  none_full : (y : Wording) → HasRoomOf nodes (job_by t y) name rooms.Full → ⊥
  none_full (Wording.Set words) full = absurd (no_full full)
  none_full (Wording.Mark attrs) full = absurd (no_full full)

  -- the laws of `set` and `mark`
  pub rewording_laws : SafeJobLaws kind m h (job_by t w) name bytes
  rewording_laws = record {
    can_prepare = can_prepare;
    can_write = λ p n prep room. can_write kind m nodes owners a.root a.listings on own_view t w its.0 target command its.1 fit suits name job_is p prep n room;
    can_take = λ p m' number room prep taken some. can_take_over p prep m' number room taken;
    agrees = λ p now number prep run. agrees_then p prep now.layout now.nodes now.owners number run;
    leads = λ c p x k prep held. leads p prep c k x held;
    changes = λ c p m' now number was image k prep run at is. changes_then p prep c k now m' number was image run at is;
    short_is = λ c wants v k are sound held. short_by c k v wants are sound held;
    full = λ c v k full sound held. absurd (none_full w full);
  }
