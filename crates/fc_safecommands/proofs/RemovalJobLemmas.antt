-- `delete` in the safe mode: the laws of its job.
use Rattle.std.proofs.Common.{◌≡◌, inl, ℕ, true, List, refl, sym, ap, subst, ◌∙◌, Option}
use Rattle.fc_names.specs.Names.{Path}
use Rattle.fc_alloc.specs.declared.owner.Owner.{Owner}
use Rattle.fc_record.specs.declared.Kind.{Kind}
use Rattle.fc_oldmap.specs.OldMap.{OldMapContent}
use Rattle.fc_newmap.specs.Map.{Map}
use Rattle.fc_newmap.specs.NewMap.{IsNewMap}
use Rattle.fc_model.specs.Answer.{changed}
use Rattle.fc_model.specs.Command.{Command}
use Rattle.fc_image.specs.Layout.{Layout}
use Rattle.fc_image.specs.Objects.{tree_of}
use Rattle.fc_image.specs.Opening.{Opened}
use Rattle.fc_image.specs.Sound.{AreSound}
use Rattle.fc_image.specs.Stays.{OpensAs}
use Rattle.fc_image.specs.safe.SafeShort.{safe_refusal}
use Rattle.fc_changes.proofs.lemmas.old.BeforeLemmas.{opened_as}
use Rattle.fc_tree.specs.Agree.{Agree}
use Rattle.fc_tree.specs.Parts.{ArePartsOf, Parts}
use Rattle.fc_tree.proofs.MemberLemmas.{no_element}
use Rattle.fc_laws.specs.nodes.Edits.{Nodes}
use Rattle.fc_laws.specs.agree.Agreed.{AgreeOn, parts_with}
use Rattle.fc_laws.proofs.lemmas.agree.BeforeLemmas.{agreed_law}
use Rattle.fc_laws.proofs.lemmas.takeover.KindLemmas.{new_kind}
use Rattle.fc_refusals.specs.Targets.{IsRemovable}
use Rattle.fc_refusals.specs.declared.target.Target.{Target}
use Rattle.fc_writing.specs.New.{IsChanged, IsGiven, IsTaken}
use Rattle.fc_writing.specs.Steps.{HasStepped}
use Rattle.fc_change.specs.declared.change.Regrowth.{Regrowth}
use Rattle.fc_change.specs.declared.change.Turned.{Turned}
use Rattle.fc_change.specs.declared.job.Job.TheVariants as jobs
use Rattle.fc_change.specs.declared.job.Wants.{Wants}
use Rattle.fc_change.specs.declared.spaces.Spaces.{Spaces}
use Rattle.fc_change.specs.After.{AreOwnersAfter, owners_admitted}
use Rattle.fc_change.specs.Directories.{CanTellAround, IsGrownThere}
use Rattle.fc_change.specs.Drafts.{CanDraft, CanTellJob, address_in}
use Rattle.fc_change.specs.Needs.{AreWants}
use Rattle.fc_commands.specs.declared.stages.Prepared.{Prepared}
use Rattle.fc_commands.specs.Run.{IsRun}
use Rattle.fc_commands.proofs.EmptySpaceLemmas.{none_grown as none_regrown}
use Rattle.fc_commands.proofs.NewOverRunLemmas.{no_full}
use Rattle.fc_commands.proofs.RemovalRunLemmas.{can_take, new_view, sound_in}
use Rattle.fc_commands.proofs.RemovalStageLemmas.{IsRemovalChange, MayGo, can_tell_job, may_go, removal_change, view_of}
use Rattle.fc_safe.specs.FirstNeeds.{first_shortage}
use Rattle.fc_safe.specs.Suits.{Suits}
use Rattle.fc_safe.proofs.PlainLawLemmas.{plain_law}
use Rattle.fc_safe.proofs.SuitsLemmas.{suits_are}
use Rattle.fc_safelaws.specs.Free.{view}
use Rattle.fc_safecrash.specs.Crash.{LeadsTo}
use Rattle.fc_safeedits.specs.SafeDeletion.{SafeDeletionLaw}
use Rattle.fc_safeedits.specs.SafeOutcome.{SafeOutcome}
use Rattle.fc_safeedits.specs.SafeSpace.{SafeSpaceLaw}
use Rattle.fc_safeedits.specs.SafeWriting.{SafeWritingLaw}
use Rattle.fc_safecommands.specs.Anew.{IsPreparedAnew}
use Rattle.fc_safecommands.specs.Laws.{MappedBy, SafeJobLaws, mapped}
use Rattle.fc_safecommands.specs.Promises.{ChangesPartsSafely}
use Rattle.fc_safecommands.specs.Stages.{CanPrepareAnew, IsSpacedFirst}
use Rattle.fc_safecommands.proofs.ChangeLemmas as change_of
use Rattle.fc_safecommands.proofs.PlainLemmas.{PlainJob}
use Rattle.fc_safecommands.proofs.RemovalLemmas.{agrees, c, can_write, change, job_of, nodes_same, outcome, owners_left, owners_then, tells, tree}
use Rattle.fc_safecommands.proofs.SpaceLemmas.{none_grown}
use Rattle.fc_safecommands.proofs.StageLemmas.{can_place, can_write_anew, there_of, zones}
use Rattle.fc_safecommands.proofs.SuitsLemmas.{NoneLow, refusal_new, still_suits, without_low}
use Rattle.fc_safecommands.proofs.WrittenLemmas.{written_free}

-- ---- the laws of the job

module _ (space : SafeSpaceLaw) (writing : SafeWritingLaw) (law : SafeDeletionLaw) (kind : Kind) (m : Map) (nodes : Nodes) (owners : List Owner) (is_map : IsNewMap m) (a : Agree kind (parts_with m nodes owners))
    (t : Target) (path : Path) (may : MayGo (parts_with m nodes owners) path t) (suits : Suits (Layout.New m) nodes) (name : List ℕ) where
  abbrev h : Parts
  h = parts_with m nodes owners

  pub on : AgreeOn kind m nodes owners a.root a.listings
  on = agreed_law.named kind h m refl is_map a

  pub own_view : ArePartsOf h (record { kind = kind; layout = Layout.New m; listings = a.listings })
  own_view = agreed_law.viewed kind h a

  pub goes : IsRemovable nodes a.listings path t
  goes = may (view_of h kind a) (agreed_law.sound_by kind h a) own_view

  abbrev own_job : (w : Wants) → AreWants h (jobs.Removal t) name w → PlainJob
  own_job w are = job_of kind m nodes owners a.root a.listings on own_view t path goes suits name w are

  -- ---- the stages

  no_old : (s : OldMapContent) → Layout.New m ≡ Layout.Old s → ⊥
  no_old s at = cc

  can_prepare : CanPrepareAnew m h (jobs.Removal t) name
  can_prepare = record {
    want = tt;
    place = λ w are. can_place (job_of kind m nodes owners a.root a.listings on own_view t path goes suits name w are) are.copy;
    draft = draft;
    placed = λ w s spaced. tt;
    write = λ w s c spaced is.
        (let x = job_of kind m nodes owners a.root a.listings on own_view t path goes suits name w spaced.wants in
        let ch = removal_change h t name s c (none_grown x s spaced.placed) is in
        can_write_anew x c (record { said = ch.said; says = ch.says; node = ch.tells.number }));
    zones = λ w s spaced p at. zones (job_of kind m nodes owners a.root a.listings on own_view t path goes suits name w spaced.wants) s spaced.placed p at;
  }
    where
      draft : (w : Wants) (s : Spaces) → IsSpacedFirst m h (jobs.Removal t) name w s → CanDraft h (jobs.Removal t) name s
      draft w s spaced =
          let x = job_of kind m nodes owners a.root a.listings on own_view t path goes suits name w spaced.wants in
          let no = none_regrown s (none_grown x s spaced.placed) in
          record {
            own = subst (λ (g : Option Regrowth). CanTellJob h (jobs.Removal t) name (address_in s) g) (sym no)
                (can_tell_job h kind a t path may name is_map (λ s at. absurd (no_old s at)) (λ s n at same. absurd (no_old s at)) (address_in s));
            there = subst (IsGrownThere nodes) (sym no) tt;
            others = subst (λ (g : Option Regrowth). (ns : List ℕ) → CanTellAround nodes g ns) (sym no) (λ ns q at. absurd (no_element q at)) _;
          }

  -- ---- after it

  module _ (p : Prepared) (prep : IsPreparedAnew m h (jobs.Removal t) name p) where
    -- the map after it is the one that its single step makes
    one_map : (m' : Map) → IsGiven m p.ready m' → IsTaken m p.ready m'
    one_map m' given = subst (IsTaken m p.ready) (sym (subst (HasStepped given.0 m') prep.ready.no_give given.2)) given.1

    module _ (m' : Map) (nodes' : Nodes) (owners' : List Owner) (number : ℕ) (run : IsRun h (parts_with m' nodes' owners') p number) where
      after : IsRemovalChange nodes t p.change → AreOwnersAfter (Layout.New m') nodes p.change owners owners'
      after ch = subst (λ (x : Turned). AreOwnersAfter (Layout.New m') nodes p.change (owners_admitted (Layout.New m) x number owners) owners') ch.goes run.owners

    own_change : IsRemovalChange nodes t p.change
    own_change = change kind m nodes owners a.root a.listings on own_view t path goes suits name p prep

    agrees_new : (m' : Map) (nodes' : Nodes) (owners' : List Owner) (number : ℕ) → IsRun h (parts_with m' nodes' owners') p number → Agree kind (parts_with m' nodes' owners') × Suits (Layout.New m') nodes'
    agrees_new m' nodes' owners' number run =
        let taken = one_map m' run.given in
        let owned = owners_then kind m nodes owners a.root a.listings on own_view t path goes suits name p prep m' owners' (after m' nodes' owners' number run own_change) in
        let same = nodes_same kind m nodes owners a.root a.listings on own_view t path goes suits name p prep space m' taken owners' owned number ∙ sym run.nodes in (
          subst (λ (ns : Nodes). Agree kind (parts_with m' ns owners')) same (agrees kind m nodes owners a.root a.listings on own_view t path goes suits name p prep space m' taken owners' owned law),
          still_suits m m' nodes nodes' (change_of.edited (own_job prep.wants prep.are_wants) prep.spaces prep.placed p.change (tells kind m nodes owners a.root a.listings on own_view t path goes suits name p prep) p.ready prep.ready m' taken).geometry suits
              (subst NoneLow same (without_low (c kind m nodes owners a.root a.listings on own_view t path goes suits name p prep) nodes suits.1)),
        )

    pub agrees_then : (now : Layout) (nodes' : Nodes) (owners' : List Owner) (number : ℕ) → IsRun h (record { layout = now; nodes = nodes'; owners = owners' }) p number
        → Agree kind (record { layout = now; nodes = nodes'; owners = owners' }) × Suits now nodes'
    agrees_then (Layout.New m') nodes' owners' number run = agrees_new m' nodes' owners' number run
    agrees_then (Layout.Old s) nodes' owners' number run = absurd run.given

    -- ---- by each image

    pub leads : (bytes : List ℕ) (x : MappedBy m) → ArePartsOf h (view (mapped m x)) → LeadsTo (mapped m x) p.ready bytes (changed (tree_of x.image (Layout.New m) x.listings) (Command.Delete path))
    leads bytes by held =
        let seen = new_view m nodes owners kind is_map a by.kind by.image (view (mapped m by)) by.opens held in
        let its = may (view (mapped m by)) (agreed_law.sound by.kind m nodes owners seen.0 by.listings seen.1) held in
        let x = job_of by.kind m nodes owners seen.0 by.listings seen.1 held t path its suits name prep.wants prep.are_wants in
        let told = tells by.kind m nodes owners seen.0 by.listings seen.1 held t path its suits name p prep in
        record {
          one_step = change_of.one_step x prep.spaces prep.placed p.change told p.ready prep.ready;
          free = λ u e. inl (written_free x prep.spaces prep.placed p.change told p.ready prep.ready u e);
          after = λ m' image taken there.
              (let left = owners_left by.kind m nodes owners seen.0 by.listings seen.1 held t path its suits name p prep in
              tree by.kind m nodes owners seen.0 by.listings seen.1 held t path its suits name p prep space m' taken left.0 left.1 writing by.r by.image by.new_kind by.opens bytes image there law);
        }

    changes_new : (m' : Map) (nodes' : Nodes) (owners' : List Owner) (number : ℕ) (bytes was image : List ℕ) → IsRun h (parts_with m' nodes' owners') p number → IsChanged m m' p.ready bytes was image
        → ChangesPartsSafely (Command.Delete path) h (parts_with m' nodes' owners') was image
    changes_new m' nodes' owners' number bytes was image run is k view opens held =
        let at : view.layout ≡ Layout.New m = sym held.layout in
        let same = opened_as k was view (Layout.New m) opens at in
        let seen = new_view m nodes owners kind is_map a k was view opens held in
        let its = may view (sound_in (Layout.New m) nodes owners view (agreed_law.sound k m nodes owners seen.0 view.listings seen.1) held) held in
        let opened = subst (OpensAs was k) (sym same) opens in
        let viewed = subst (ArePartsOf h) (sym same) held in
        let disc = new_kind was k (record { kind = k; layout = Layout.New m; listings = view.listings }) m opened refl in
        let x = job_of k m nodes owners seen.0 view.listings seen.1 viewed t path its suits name prep.wants prep.are_wants in
        let told = tells k m nodes owners seen.0 view.listings seen.1 viewed t path its suits name p prep in
        let taken = one_map m' run.given in
        let owned = owners_then k m nodes owners seen.0 view.listings seen.1 viewed t path its suits name p prep m' owners' (after m' nodes' owners' number run own_change) in
        let there = there_of x disc.0 was disc.1 opened p.ready bytes image m' (change_of.one_step x prep.spaces prep.placed p.change told p.ready prep.ready) is in
        let as_taken = nodes_same k m nodes owners seen.0 view.listings seen.1 viewed t path its suits name p prep space m' taken owners' owned number ∙ sym run.nodes in
        subst (λ (v : Opened). SafeOutcome k was image v (Command.Delete path) (parts_with m' nodes' owners')) same
        (subst (λ (ns : Nodes). SafeOutcome k was image (record { kind = k; layout = Layout.New m; listings = view.listings }) (Command.Delete path) (parts_with m' ns owners')) as_taken
        (outcome k m nodes owners seen.0 view.listings seen.1 viewed t path its suits name p prep space m' taken owners' owned writing disc.0 was disc.1 opened bytes image there law is))

    pub changes_then : (now : Parts) (m' : Map) (number : ℕ) (bytes was image : List ℕ) → IsRun h now p number → now.layout ≡ Layout.New m' → IsChanged m m' p.ready bytes was image
        → ChangesPartsSafely (Command.Delete path) h now was image
    changes_then now m' number bytes was image run at is =
        subst (λ (l : Layout). ChangesPartsSafely (Command.Delete path) h (record { layout = l; nodes = now.nodes; owners = now.owners }) was image) (sym at)
        (changes_new m' now.nodes now.owners number bytes was image (subst (λ (l : Layout). IsRun h (record { layout = l; nodes = now.nodes; owners = now.owners }) p number) at run) is)

  -- ---- what it is refused

  pub short_by : (v : Opened) (w : Wants) → AreWants h (jobs.Removal t) name w → AreSound v.layout v.listings → ArePartsOf h v → safe_refusal v (Command.Delete path) ≡ first_shortage m h (jobs.Removal t) w
  short_by v w are sound held =
      refusal_new v (Command.Delete path) m (sym held.layout)
      ∙ plain_law.short m h v (Command.Delete path) (jobs.Removal t) w
      (record {
        view = record { is_map = is_map; layout = sym held.layout; sound = sound; parts = held };
        suits = sym (suits_are h true v suits sound held);
        name = name;
        job_is = may v sound held;
        plain = tt;
        wants = are;
      })

-- the laws of `delete`
pub removal_laws : SafeSpaceLaw → SafeWritingLaw → SafeDeletionLaw → (kind : Kind) (m : Map) (nodes : Nodes) (owners : List Owner) → IsNewMap m → Agree kind (parts_with m nodes owners) → (t : Target) (path : Path)
    → MayGo (parts_with m nodes owners) path t → Suits (Layout.New m) nodes → (name bytes : List ℕ) → SafeJobLaws kind m (parts_with m nodes owners) (jobs.Removal t) name bytes
removal_laws space writing law kind m nodes owners is_map a t path may suits name bytes =
    let h = parts_with m nodes owners in
    record {
      can_prepare = can_prepare space writing law kind m nodes owners is_map a t path may suits name;
      can_write = λ p n prep room. can_write kind m nodes owners a.root a.listings (on space writing law kind m nodes owners is_map a t path may suits name) (own_view space writing law kind m nodes owners is_map a t path may suits name) t path
          (goes space writing law kind m nodes owners is_map a t path may suits name) suits name p prep n room;
      can_take = λ p m' number room prep taken some.
          can_take (Layout.New m) (Layout.New m') nodes owners (owners_admitted (Layout.New m) p.change.object number owners) t path kind p room a may
          (own_change space writing law kind m nodes owners is_map a t path may suits name p prep);
      agrees = λ p now number prep run. agrees_then space writing law kind m nodes owners is_map a t path may suits name p prep now.layout now.nodes now.owners number run;
      leads = λ c p x j prep held.
          (let its = may_go h kind a c t name bytes j in
          subst (λ (y : Command). LeadsTo (mapped m x) p.ready bytes (changed (tree_of x.image (Layout.New m) x.listings) y)) (sym its.1)
          (leads space writing law kind m nodes owners is_map a t its.0 its.2 suits name p prep bytes x held));
      changes = λ c p m' now number was image j prep run at is.
          (let its = may_go h kind a c t name bytes j in
          subst (λ (y : Command). ChangesPartsSafely y h now was image) (sym its.1)
          (changes_then space writing law kind m nodes owners is_map a t its.0 its.2 suits name p prep now m' number bytes was image run at is));
      short_is = λ c w v j are sound held.
          (let its = may_go h kind a c t name bytes j in ap (safe_refusal v) its.1 ∙ short_by space writing law kind m nodes owners is_map a t its.0 its.2 suits name v w are sound held);
      full = λ c v j full sound held. absurd (no_full full);
    }
