-- `set` and `mark` on any map: what their stages need, what they promise, and what they answer.
use Rattle.std.proofs.Common.{◌≡◌, ◌≤◌, ℕ, cond, find, List, refl, sym, ap, subst, ◌∙◌, Option, Some, None}
use Rattle.std.specs.Prelude.{Contains, IsSome}
use Rattle.std.specs.FinMap.{get}
use Rattle.fc_alloc.specs.declared.owner.Owner.{Owner}
use Rattle.fc_alloc.specs.Owners.{is_node}
use Rattle.fc_drafts.specs.declared.room.Room.TheVariants as rooms
use Rattle.fc_dirs.specs.declared.Entry.{Entry}
use Rattle.fc_names.specs.Names.{Path}
use Rattle.fc_record.specs.declared.Kind.{Kind}
use Rattle.fc_oldmap.specs.OldMap.{OldMapContent}
use Rattle.fc_model.specs.Command.{Command}
use Rattle.fc_image.specs.Layout.{Layout, dir_form, disc_sectors}
use Rattle.fc_image.specs.Objects.{has_sectors, objects_of}
use Rattle.fc_image.specs.Opening.{Opened}
use Rattle.fc_image.specs.Sound.{AreSound}
use Rattle.fc_image.specs.Stays.{OpensAs}
use Rattle.fc_image.specs.Walk.{Object}
use Rattle.fc_image.specs.effects.Short.{short}
use Rattle.fc_changes.proofs.lemmas.old.BeforeLemmas.{opened_as}
use Rattle.fc_space.specs.Space.{PlacesSuffice}
use Rattle.fc_tree.specs.Agree.{Agree}
use Rattle.fc_tree.specs.Parts.{ArePartsOf, Parts, owner_of}
use Rattle.fc_laws.specs.nodes.Edits.{Nodes, owner_with}
use Rattle.fc_laws.proofs.lemmas.agree.BeforeLemmas.{agreed_law}
use Rattle.fc_laws.proofs.lemmas.nodes.OwnerLemmas.{owner_law}
use Rattle.fc_laws.proofs.lemmas.old.agree.BeforeLemmas.{sound as old_sound}
use Rattle.fc_laws.proofs.lemmas.old.agree.GivenLemmas.{space_law}
use Rattle.fc_outcomes.specs.NewImage.{Outcome}
use Rattle.fc_outcomes.specs.Rewording as outcomes
use Rattle.fc_edits.proofs.lemmas.ShapeLemmas.{only}
use Rattle.fc_refusals.specs.Targets.{IsTarget}
use Rattle.fc_refusals.specs.declared.target.Target.{Target}
use Rattle.fc_writing.proofs.LeavesLemmas.{leaves_law}
use Rattle.fc_change.specs.declared.change.Regrowth.{Regrowth}
use Rattle.fc_change.specs.declared.change.Says.{Says}
use Rattle.fc_change.specs.declared.change.Turned.{Turned}
use Rattle.fc_change.specs.declared.change.Turned.TheVariants as turns
use Rattle.fc_change.specs.declared.job.Wants.{Wants}
use Rattle.fc_change.specs.After.{AreOwnersAfter, CanTakeOver, CanTurnNode, CanTurnOwner, CanRegrowNode, IsRegrownOwner, IsTurnedOwner, nodes_after, owners_admitted}
use Rattle.fc_change.specs.Needs.{AreWants, HasRoomOf}
use Rattle.fc_change.specs.OldSpace.{LieBehind}
use Rattle.fc_change.specs.Owned.{IsOwnerNow, owner_if}
use Rattle.fc_change.specs.Shortage.{shortage}
use Rattle.fc_commands.specs.declared.stages.Prepared.{Prepared}
use Rattle.fc_commands.specs.Laws.{HasFront, JobLaws}
use Rattle.fc_commands.specs.Promises.{ChangesParts, WritesPlacesOf}
use Rattle.fc_commands.specs.Run.{IsMapOf, IsRun, KeepsBehind}
use Rattle.fc_commands.specs.Stages.{CanPrepareJob, IsPreparedFor}
use Rattle.fc_commands.specs.Written.{CanWriteOn, ChangeLeavesOn, IsChangedOn, IsGivenOn}
use Rattle.fc_commands.proofs.EmptySpaceLemmas.{empty_space}
use Rattle.fc_commands.proofs.NewRewordingLemmas as new
use Rattle.fc_commands.proofs.OldRewordingLemmas as old
use Rattle.fc_commands.proofs.OwnerLemmas.{only_owner, owner_is}
use Rattle.fc_commands.proofs.RemovalRunLemmas.{new_view, old_view, parts, sound_in}
use Rattle.fc_commands.proofs.RemovalStageLemmas.{view_of}
use Rattle.fc_commands.proofs.RewordingLemmas.{Fit, Gives, Wording, job_of, worded}
use Rattle.fc_commands.proofs.RewordingLemmas as rewording
use Rattle.fc_commands.proofs.RewordingStageLemmas.{IsRewordingChange, Targets, can_prepare_job, rewording_change, targets, turns_it, wants_none}
use Rattle.fc_commands.proofs.StayingLemmas.{can_turn, no_room, owner_if_is, owners_stay}
use Rattle.fc_commands.proofs.TargetLemmas as target_of
use Rattle.fc_commands.proofs.UnspacedLemmas.{new_short, old_short}

pub change_of : (h : Parts) (t : Target) (x : Wording) (name : List ℕ) (p : Prepared) → IsPreparedFor h (job_of t x) name p → IsRewordingChange h.nodes t x p.change
change_of h t x name p prep =
    rewording_change h t x name prep.spaces p.change (empty_space h prep.wants (wants_none h t x name prep.wants prep.spaced.wants).0 prep.spaces prep.spaced.places).grown prep.change

-- ---- the owner

module _ (layout : Layout) (nodes : Nodes) (owners : List Owner) (t : Target) (x : Wording) (path : Path) (kind : Kind) (a : Agree kind (parts layout nodes owners)) (on : Targets (parts layout nodes owners) path t)
    (fit : Fit (dir_form layout) x) (p : Prepared) (change : IsRewordingChange nodes t x p.change) where
  abbrev sound : AreSound layout a.listings
  sound = agreed_law.sound_by kind (parts layout nodes owners) a

  abbrev target : IsTarget nodes a.listings path t
  target = on (view_of (parts layout nodes owners) kind a) sound (agreed_law.viewed kind (parts layout nodes owners) a)

  abbrev o : Object
  o = target.object

  abbrev e : Entry
  e = worded x o.entry

  abbrev own : Owner
  own = owner_with layout t.holder t.node o

  turned : p.change.object ≡ turns.Turns t.node t.holder e
  turned = turns_it layout nodes a.listings sound a.walked.held path t target x p.change change

  among : Contains (objects_of a.listings) o
  among = target_of.among layout nodes a.listings sound a.walked.held path t target

  own_is : owner_of nodes layout o ≡ own
  own_is = owner_law nodes layout a.listings target.listing t.at o t.holder t.node (record { sound = sound; held = a.walked.held })
      (record { listed = target.listed; at = target.at; dir_is = target.holder_is; number_is = target.node_is })

  found : find (is_node t.node) owners ≡ cond (has_sectors o) (Some own) None
  found = owner_is layout nodes a.listings owners o t.node sound a.walked.held a.owned target.node_is among ∙ ap (λ (w : Owner). cond (has_sectors o) (Some w) None) own_is

  only_own : (w : Owner) → Contains owners w → w.node ≡ t.node → w ≡ own
  only_own w at same = (only_owner layout nodes a.listings owners o t.node sound a.walked.held a.owned target.node_is among w at same).0 ∙ own_is

  now_is : owner_if layout t.node t.holder e ≡ cond (has_sectors o) (Some own) None
  now_is = owner_if_is layout t.node t.holder o e (target_of.placed layout nodes a.listings sound a.walked.held path t target)
      (rewording.keeps layout nodes a.listings sound a.walked.held path t target x fit a.walked.forms)

  -- no memory is taken for an owner
  admitted : (number : ℕ) → owners_admitted layout p.change.object number owners ≡ owners
  admitted number = ap (λ (y : Turned). owners_admitted layout y number owners) turned ∙ no_room t.node own (has_sectors o) owners refl found only_own (owner_if layout t.node t.holder e) now_is

  -- they stay as they are
  pub owners_same : (number : ℕ) (owners' : List Owner) → AreOwnersAfter layout nodes p.change (owners_admitted layout p.change.object number owners) owners' → owners' ≡ owners
  owners_same number owners' run =
      let after = subst (λ (os : List Owner). AreOwnersAfter layout nodes p.change os owners') (admitted number) run in
      let middle : after.middle ≡ owners = subst (λ (g : Option Regrowth). IsRegrownOwner layout nodes g owners after.middle) change.none after.grown in
      owners_stay t.node own (has_sectors o) owners refl found only_own (owner_if layout t.node t.holder e) owners' now_is
      (subst (λ (os : List Owner). IsOwnerNow t.node (owner_if layout t.node t.holder e) os owners') middle (subst (λ (y : Turned). IsTurnedOwner layout y after.middle owners') turned after.object))

  -- What is taken over can be: the nodes are there, and so is the owner.
  pub can_take : (number room : ℕ) → CanTakeOver layout nodes (owners_admitted layout p.change.object number owners) room p.change
  can_take number room = record {
    says = λ s at.
        subst (λ (n : ℕ). IsSome (get nodes n)) (sym change.tells.number ∙ ap (λ (y : Says). y.node) (only change.said s (subst (λ (ss : List Says). Contains ss s) change.says at)))
        (target_of.has_dir layout nodes a.listings sound a.walked.held path t target);
    object = subst (CanTurnNode nodes room) (sym turned) (target_of.has_node layout nodes a.listings sound a.walked.held path t target);
    owner = subst (λ (os : List Owner). CanTurnOwner layout os p.change.object) (sym (admitted number))
        (subst (CanTurnOwner layout owners) (sym turned) (can_turn t.node own (has_sectors o) owners refl found only_own (owner_if layout t.node t.holder e) now_is));
    grown = subst (CanRegrowNode nodes (owners_admitted layout p.change.object number owners)) (sym change.none) tt;
  }

-- ---- the map stays

layout_stays : outcomes.RewordingLaw → (layout layout' : Layout) (nodes : Nodes) (owners : List Owner) (t : Target) (x : Wording) (name : List ℕ) (p : Prepared) → IsMapOf layout
    → IsPreparedFor (parts layout nodes owners) (job_of t x) name p → IsGivenOn layout p.ready layout' → layout' ≡ layout
layout_stays law (Layout.New m) (Layout.New m') nodes owners t x name p is prep given = ap Layout.New (new.map_stays law m nodes owners is t x name p prep m' given)
layout_stays law (Layout.Old space) (Layout.Old now) nodes owners t x name p is prep given = ap Layout.Old (given ∙ old.map_stays law space nodes owners is.0 t x name p prep)
layout_stays law (Layout.New m) (Layout.Old now) nodes owners t x name p is prep given = absurd given
layout_stays law (Layout.Old space) (Layout.New m') nodes owners t x name p is prep given = absurd given

-- ---- before anything is written

can_prepare : (layout : Layout) (nodes : Nodes) (owners : List Owner) (t : Target) (x : Wording) (path : Path) (name : List ℕ) (kind : Kind) → IsMapOf layout → Agree kind (parts layout nodes owners)
    → Targets (parts layout nodes owners) path t → Fit (dir_form layout) x → CanPrepareJob (parts layout nodes owners) (job_of t x) name
can_prepare (Layout.New m) nodes owners t x path name kind is a on fit = can_prepare_job (parts (Layout.New m) nodes owners) kind a t path x on fit name is (λ space at. absurd (cc))
can_prepare (Layout.Old space) nodes owners t x path name kind is a on fit =
    can_prepare_job (parts (Layout.Old space) nodes owners) kind a t path x on fit name is.0 (λ other at. subst LieBehind (one space other at) is.1)
  where
    one : (a b : OldMapContent) → Layout.Old a ≡ Layout.Old b → a ≡ b
    one a b same = cc

can_write : outcomes.RewordingLaw → (layout : Layout) (nodes : Nodes) (owners : List Owner) (t : Target) (x : Wording) (path : Path) (name : List ℕ) (kind : Kind) (p : Prepared) (n : ℕ) → IsMapOf layout
    → (a : Agree kind (parts layout nodes owners)) → IsTarget nodes a.listings path t → IsPreparedFor (parts layout nodes owners) (job_of t x) name p → disc_sectors layout ≤ n → PlacesSuffice layout → CanWriteOn layout n p.ready
can_write law (Layout.New m) nodes owners t x path name kind p n is a target prep room suffice = new.can_write law m nodes owners is t x name p prep path kind a target n room suffice
can_write law (Layout.Old space) nodes owners t x path name kind p n is a target prep room suffice = old.can_write law space nodes owners is.0 t x name p prep path kind a target n room suffice

-- ---- after it

-- the parts agree afterwards, if the map and the owners are those before
agrees_on : outcomes.RewordingLaw → (layout : Layout) (nodes nodes' : Nodes) (owners owners' : List Owner) (t : Target) (x : Wording) (path : Path) (name : List ℕ) (kind : Kind) (p : Prepared) (number : ℕ) → IsMapOf layout
    → (a : Agree kind (parts layout nodes owners)) → IsTarget nodes a.listings path t → Fit (dir_form layout) x → IsPreparedFor (parts layout nodes owners) (job_of t x) name p
    → nodes' ≡ nodes_after p.change number nodes → owners' ≡ owners → Agree kind (parts layout nodes' owners') × KeepsBehind layout
agrees_on law (Layout.New m) nodes nodes' owners owners' t x path name kind p number is a target fit prep nodes_are owners_are =
    let on = agreed_law.named kind (parts (Layout.New m) nodes owners) m refl is a in (
      subst (λ (ns : Nodes). Agree kind (parts (Layout.New m) ns owners')) (sym nodes_are)
          (new.agrees law m nodes owners is t x name p prep owners' number owners_are kind a.root path a.listings on target fit),
      tt,
    )
agrees_on law (Layout.Old space) nodes nodes' owners owners' t x path name kind p number is a target fit prep nodes_are owners_are =
    let on = space_law.named kind (parts (Layout.Old space) nodes owners) space refl is.0 is.1 a in (
      subst (λ (ns : Nodes). Agree kind (parts (Layout.Old space) ns owners')) (sym nodes_are)
          (old.agrees law space nodes owners is.0 t x name p prep owners' number owners_are kind a.root path a.listings on target fit),
      is.1,
    )

-- ---- on the disc

changes_on : outcomes.RewordingLaw → (layout : Layout) (nodes nodes' : Nodes) (owners owners' : List Owner) (t : Target) (x : Wording) (path : Path) (name : List ℕ) (kind : Kind) (p : Prepared) (number : ℕ)
    (was bytes image : List ℕ) (command : Command) → Gives x path command → IsMapOf layout → Agree kind (parts layout nodes owners) → Targets (parts layout nodes owners) path t → Fit (dir_form layout) x
    → IsPreparedFor (parts layout nodes owners) (job_of t x) name p → nodes' ≡ nodes_after p.change number nodes → owners' ≡ owners → IsChangedOn layout layout p.ready bytes was image → HasFront layout was
    → ChangesParts command (parts layout nodes owners) (parts layout nodes' owners') was image
changes_on law (Layout.New m) nodes nodes' owners owners' t x path name other p number was bytes image command gives is a target fit prep nodes_are owners_are changed long kind view opens held =
    let at : view.layout ≡ Layout.New m = sym held.layout in
    let same = opened_as kind was view (Layout.New m) opens at in
    let on = new_view m nodes owners other is a kind was view opens held in
    let its = target view (sound_in (Layout.New m) nodes owners view (agreed_law.sound kind m nodes owners on.0 view.listings on.1) held) held in
    subst (λ (v : Opened). Outcome kind was image v command (parts (Layout.New m) nodes' owners')) same
    (subst (λ (ns : Nodes). Outcome kind was image (record { kind = kind; layout = Layout.New m; listings = view.listings }) command (parts (Layout.New m) ns owners')) (sym nodes_are)
    (new.outcome law m nodes owners is t x name p prep owners' number owners_are kind on.0 path view.listings on.1 its fit command gives was bytes image (subst (OpensAs was kind) (sym same) opens) changed))
changes_on law (Layout.Old space) nodes nodes' owners owners' t x path name other p number was bytes image command gives is a target fit prep nodes_are owners_are changed long kind view opens held =
    let at : view.layout ≡ Layout.Old space = sym held.layout in
    let same = opened_as kind was view (Layout.Old space) opens at in
    let on = old_view space nodes owners other is.0 is.1 a kind was view opens held in
    let its = target view (sound_in (Layout.Old space) nodes owners view (old_sound kind space nodes owners on.0 view.listings on.1) held) held in
    subst (λ (v : Opened). Outcome kind was image v command (parts (Layout.Old space) nodes' owners')) same
    (subst (λ (ns : Nodes). Outcome kind was image (record { kind = kind; layout = Layout.Old space; listings = view.listings }) command (parts (Layout.Old space) ns owners')) (sym nodes_are)
    (old.outcome law space nodes owners is.0 t x name p prep owners' number owners_are kind on.0 path view.listings on.1 its fit command gives was bytes image (subst (OpensAs was kind) (sym same) opens) long changed))

-- At any moment nothing differs but the target's directory and the map.
places : outcomes.RewordingLaw → (layout : Layout) (nodes : Nodes) (owners : List Owner) (t : Target) (x : Wording) (path : Path) (name : List ℕ) (kind : Kind) (p : Prepared) (was bytes image : List ℕ) (command : Command)
    → Gives x path command → IsMapOf layout → Agree kind (parts layout nodes owners) → Targets (parts layout nodes owners) path t → IsPreparedFor (parts layout nodes owners) (job_of t x) name p
    → ChangeLeavesOn layout p.ready bytes was image → WritesPlacesOf command (parts layout nodes owners) was image
places law (Layout.New m) nodes owners t x path name other p was bytes image command gives is a target prep left kind view opens held =
    let on = new_view m nodes owners other is a kind was view opens held in
    let its = target view (sound_in (Layout.New m) nodes owners view (agreed_law.sound kind m nodes owners on.0 view.listings on.1) held) held in
    new.places law m nodes owners is t x name p prep kind was view opens held on.0 path on.1 its command gives image (leaves_law.frame m p.ready bytes was image left)
places law (Layout.Old space) nodes owners t x path name other p was bytes image command gives is a target prep left kind view opens held =
    let on = old_view space nodes owners other is.0 is.1 a kind was view opens held in
    let its = target view (sound_in (Layout.Old space) nodes owners view (old_sound kind space nodes owners on.0 view.listings on.1) held) held in
    old.places law space nodes owners is.0 t x name p prep kind was view opens held on.0 path on.1 its command gives image (leaves_law.old_frame space p.ready bytes was image left)

-- ---- what is answered

short_is : (layout : Layout) (nodes : Nodes) (owners : List Owner) (t : Target) (x : Wording) (path : Path) (name : List ℕ) (w : Wants) (v : Opened) (c : Command) → Gives x path c
    → AreWants (parts layout nodes owners) (job_of t x) name w → ArePartsOf (parts layout nodes owners) v → short v c ≡ shortage (parts layout nodes owners) w
short_is (Layout.New m) nodes owners t x path name w v c gives are held = new_short m nodes owners w v x path c gives (wants_none (parts (Layout.New m) nodes owners) t x name w are) (sym held.layout)
short_is (Layout.Old space) nodes owners t x path name w v c gives are held = old_short space nodes owners w v x path c gives (wants_none (parts (Layout.Old space) nodes owners) t x name w are) (sym held.layout)

never_full : (h : Parts) (t : Target) (x : Wording) (name : List ℕ) → HasRoomOf h.nodes (job_of t x) name rooms.Full → ⊥
never_full h t (Wording.Set w) name full = cc
never_full h t (Wording.Mark marks) name full = cc

-- the laws of `set` and `mark`
pub rewording_laws : outcomes.RewordingLaw → (layout : Layout) (nodes : Nodes) (owners : List Owner) (t : Target) (x : Wording) (path : Path) (name bytes : List ℕ) (kind : Kind) → IsMapOf layout → PlacesSuffice layout
    → (a : Agree kind (parts layout nodes owners)) → Targets (parts layout nodes owners) path t → Fit (dir_form layout) x → JobLaws kind (parts layout nodes owners) (job_of t x) name bytes
rewording_laws law layout nodes owners t x path name bytes kind is suffice a on fit =
    let h = parts layout nodes owners in
    let target = on (view_of h kind a) (agreed_law.sound_by kind h a) (agreed_law.viewed kind h a) in
    let stays = λ (p : Prepared) (layout' : Layout) (prep : IsPreparedFor h (job_of t x) name p) (given : IsGivenOn layout p.ready layout'). layout_stays law layout layout' nodes owners t x name p is prep given in
    let same_owners : (p : Prepared) (now : Parts) (number : ℕ) → IsPreparedFor h (job_of t x) name p → IsRun h now p number → now.owners ≡ owners =
    λ p now number prep run. owners_same layout nodes owners t x path kind a on fit p (change_of (parts layout nodes owners) t x name p prep) number now.owners
    (subst (λ (l : Layout). AreOwnersAfter l nodes p.change (owners_admitted layout p.change.object number owners) now.owners) (stays p now.layout prep run.given) run.owners) in
    record {
      can_prepare = can_prepare layout nodes owners t x path name kind is a on fit;
      can_write = λ p n prep room. can_write law layout nodes owners t x path name kind p n is a target prep room suffice;
      can_take = λ p layout' number room prep given some.
          subst (λ (l : Layout). CanTakeOver l nodes (owners_admitted layout p.change.object number owners) room p.change) (sym (stays p layout' prep given))
          (can_take layout nodes owners t x path kind a on fit p (change_of (parts layout nodes owners) t x name p prep) number room);
      agrees = λ p now number prep run.
          subst (λ (l : Layout). Agree kind (parts l now.nodes now.owners) × KeepsBehind l) (sym (stays p now.layout prep run.given))
          (agrees_on law layout nodes now.nodes owners now.owners t x path name kind p number is a target fit prep run.nodes (same_owners p now number prep run));
      changes = λ c p now number was image j prep run changed long.
          (let its = targets h kind a c t x name bytes j in
          let at = stays p now.layout prep run.given in
          subst (λ (l : Layout). ChangesParts c h (parts l now.nodes now.owners) was image) (sym at)
          (changes_on law layout nodes now.nodes owners now.owners t x its.0 name kind p number was bytes image c its.1 is a its.2 fit prep run.nodes (same_owners p now number prep run)
          (subst (λ (l : Layout). IsChangedOn layout l p.ready bytes was image) at changed) long));
      places = λ c p was image j prep left.
          (let its = targets h kind a c t x name bytes j in places law layout nodes owners t x its.0 name kind p was bytes image c its.1 is a its.2 prep left);
      short_is = λ c w v j are sound held. (let its = targets h kind a c t x name bytes j in short_is layout nodes owners t x its.0 name w v c its.1 are held);
      full = λ c v j full sound held. absurd (never_full h t x name full);
    }
