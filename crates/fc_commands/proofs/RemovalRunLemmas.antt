-- `delete` on any map: what its stages need, what it promises, and what it answers.
use Rattle.std.proofs.Common.{◌≡◌, ◌≤◌, ℕ, List, refl, sym, ap, subst, ◌∙◌, Some}
use Rattle.std.specs.Prelude.{Contains, IsSome}
use Rattle.std.specs.FinMap.{get}
use Rattle.fc_alloc.specs.declared.owner.Owner.{Owner}
use Rattle.fc_drafts.specs.declared.room.Room.TheVariants as rooms
use Rattle.fc_names.specs.Names.{Path}
use Rattle.fc_record.specs.declared.Kind.{Kind}
use Rattle.fc_oldmap.specs.OldMap.{OldMapContent, IsOldMap}
use Rattle.fc_newmap.specs.Map.{Map}
use Rattle.fc_newmap.specs.NewMap.{IsNewMap}
use Rattle.fc_model.specs.Command.{Command}
use Rattle.fc_image.specs.Layout.{Layout, disc_sectors}
use Rattle.fc_image.specs.Opening.{Opened}
use Rattle.fc_image.specs.Sound.{AreSound}
use Rattle.fc_image.specs.Stays.{OpensAs}
use Rattle.fc_image.specs.effects.Short.{short, with_space_of}
use Rattle.fc_changes.specs.old.Owed.{holding}
use Rattle.fc_changes.proofs.lemmas.old.BeforeLemmas.{opened_as}
use Rattle.fc_space.specs.Space.{PlacesSuffice}
use Rattle.fc_tree.specs.declared.node.Node.{Node}
use Rattle.fc_tree.specs.Agree.{Agree}
use Rattle.fc_tree.specs.Parts.{ArePartsOf, Parts}
use Rattle.fc_laws.specs.nodes.Edits.{Nodes}
use Rattle.fc_laws.specs.agree.Agreed.{AgreeOn}
use Rattle.fc_laws.proofs.lemmas.agree.BeforeLemmas.{agreed_law}
use Rattle.fc_laws.specs.old.agree.Laws.{AgreeOn as OldAgreeOn}
use Rattle.fc_laws.proofs.lemmas.old.agree.BeforeLemmas.{sound as old_sound}
use Rattle.fc_laws.proofs.lemmas.old.agree.GivenLemmas.{space_law}
use Rattle.fc_edits.proofs.lemmas.ViewLemmas.{view_law}
use Rattle.fc_outcomes.specs.NewImage.{Outcome}
use Rattle.fc_outcomes.specs.Deletion as outcomes
use Rattle.fc_edits.proofs.lemmas.ShapeLemmas.{only}
use Rattle.fc_refusals.specs.declared.target.Target.{Target}
use Rattle.fc_writing.proofs.LeavesLemmas.{leaves_law}
use Rattle.fc_change.specs.declared.change.Says.{Says}
use Rattle.fc_change.specs.declared.change.Turned.{Turned}
use Rattle.fc_change.specs.declared.job.Job.TheVariants as jobs
use Rattle.fc_change.specs.declared.job.Wants.{Wants}
use Rattle.fc_change.specs.After.{AreOwnersAfter, CanTakeOver, CanTurnNode, CanTurnOwner, CanRegrowNode, owners_admitted}
use Rattle.fc_change.specs.Needs.{AreWants}
use Rattle.fc_change.specs.OldSpace.{LieBehind, map_given}
use Rattle.fc_change.specs.Shortage.{shortage}
use Rattle.fc_commands.specs.declared.stages.Prepared.{Prepared}
use Rattle.fc_commands.specs.Laws.{HasFront, JobLaws}
use Rattle.fc_commands.specs.Promises.{ChangesParts, WritesPlacesOf}
use Rattle.fc_commands.specs.Run.{IsMapOf, IsRun, KeepsBehind}
use Rattle.fc_commands.specs.Stages.{CanPrepareJob, IsPreparedFor}
use Rattle.fc_commands.specs.Written.{CanWriteOn, ChangeLeavesOn, IsChangedOn}
use Rattle.fc_commands.proofs.NewRemovalLemmas as new
use Rattle.fc_commands.proofs.EmptySpaceLemmas.{empty_space}
use Rattle.fc_commands.proofs.OldRemovalLemmas as old
use Rattle.fc_commands.proofs.TargetLemmas as target_of
use Rattle.fc_commands.proofs.RemovalStageLemmas.{IsRemovalChange, MayGo, can_prepare_job, may_go, removal_change, removal_wants, view_of}
use Rattle.fc_commands.proofs.ShortLemmas.{new_short, old_short}

abbrev pub parts : Layout → Nodes → List Owner → Parts
parts layout nodes owners = record { layout = layout; nodes = nodes; owners = owners }

-- ---- views

-- parts that agree agree by each view of them
pub new_view : (m : Map) (nodes : Nodes) (owners : List Owner) (other : Kind) → IsNewMap m → Agree other (parts (Layout.New m) nodes owners) → (kind : Kind) (was : List ℕ) (view : Opened) → OpensAs was kind view
    → ArePartsOf (parts (Layout.New m) nodes owners) view → (root : Node) × AgreeOn kind m nodes owners root view.listings
new_view m nodes owners other is a kind was view opens held =
    view_law.new kind other was view m nodes owners a.root a.listings (agreed_law.named other (parts (Layout.New m) nodes owners) m refl is a) opens held

pub old_view : (space : OldMapContent) (nodes : Nodes) (owners : List Owner) (other : Kind) → IsOldMap space → LieBehind space → Agree other (parts (Layout.Old space) nodes owners) → (kind : Kind) (was : List ℕ) (view : Opened)
    → OpensAs was kind view → ArePartsOf (parts (Layout.Old space) nodes owners) view → (root : Node) × OldAgreeOn kind space nodes owners root view.listings
old_view space nodes owners other is behind a kind was view opens held =
    view_law.old kind other was view space nodes owners a.root a.listings (space_law.named other (parts (Layout.Old space) nodes owners) space refl is behind a) opens held

pub sound_in : (layout : Layout) (nodes : Nodes) (owners : List Owner) (view : Opened) → AreSound layout view.listings → ArePartsOf (parts layout nodes owners) view → AreSound view.layout view.listings
sound_in layout nodes owners view sound held = subst (λ (l : Layout). AreSound l view.listings) held.layout sound

-- ---- what a removal is

pub change_of : (h : Parts) (t : Target) (name : List ℕ) (p : Prepared) → IsPreparedFor h (jobs.Removal t) name p → IsRemovalChange h.nodes t p.change
change_of h t name p prep =
    removal_change h t name prep.spaces p.change (empty_space h prep.wants (removal_wants h t name prep.wants prep.spaced.wants) prep.spaces prep.spaced.places).grown prep.change

-- no memory is taken for an owner
owners_of : (h now : Parts) (t : Target) (name : List ℕ) (p : Prepared) (number : ℕ) → IsPreparedFor h (jobs.Removal t) name p → IsRun h now p number → AreOwnersAfter now.layout h.nodes p.change h.owners now.owners
owners_of h now t name p number prep run =
    subst (λ (x : Turned). AreOwnersAfter now.layout h.nodes p.change (owners_admitted h.layout x number h.owners) now.owners) (change_of h t name p prep).goes run.owners

-- ---- before anything is written

pub can_prepare : (layout : Layout) (nodes : Nodes) (owners : List Owner) (t : Target) (path : Path) (name : List ℕ) (kind : Kind) → IsMapOf layout → Agree kind (parts layout nodes owners)
    → MayGo (parts layout nodes owners) path t → CanPrepareJob (parts layout nodes owners) (jobs.Removal t) name
can_prepare (Layout.New m) nodes owners t path name kind is a may =
    can_prepare_job (parts (Layout.New m) nodes owners) kind a t path may name is (λ space at. absurd (cc)) (λ space n at same. absurd (cc))
can_prepare (Layout.Old space) nodes owners t path name kind is a may =
    can_prepare_job (parts (Layout.Old space) nodes owners) kind a t path may name is.0 (λ other at. subst LieBehind (one space other at) is.1)
    (old.can_free space nodes owners is.0 is.1 t path kind a may)
  where
    one : (x y : OldMapContent) → Layout.Old x ≡ Layout.Old y → x ≡ y
    one x y e = cc

pub can_write : outcomes.DeletionLaw → (layout : Layout) (nodes : Nodes) (owners : List Owner) (t : Target) (path : Path) (name : List ℕ) (kind : Kind) (p : Prepared) (n : ℕ) → IsMapOf layout
    → Agree kind (parts layout nodes owners) → MayGo (parts layout nodes owners) path t → IsPreparedFor (parts layout nodes owners) (jobs.Removal t) name p → disc_sectors layout ≤ n → PlacesSuffice layout
    → CanWriteOn layout n p.ready
can_write law (Layout.New m) nodes owners t path name kind p n is a may prep room suffice = new.can_write law m nodes owners is t path name p prep kind a may n room suffice
can_write law (Layout.Old space) nodes owners t path name kind p n is a may prep room suffice =
    let h = parts (Layout.Old space) nodes owners in
    let sound = agreed_law.sound_by kind h a in
    old.can_write space nodes owners is.0 is.1 t path law name p prep a.listings sound a.walked.held (may (view_of h kind a) sound (agreed_law.viewed kind h a)) kind a refl n room suffice a.walked.forms

-- ---- after it

module _ (law : outcomes.DeletionLaw) (nodes : Nodes) (owners : List Owner) (t : Target) (path : Path) (name : List ℕ) (p : Prepared) (now : Parts) (number : ℕ) where
  agrees_new : (m m' : Map) (nodes' : Nodes) (owners' : List Owner) (kind : Kind) → IsNewMap m → Agree kind (parts (Layout.New m) nodes owners) → MayGo (parts (Layout.New m) nodes owners) path t
      → IsPreparedFor (parts (Layout.New m) nodes owners) (jobs.Removal t) name p → IsRun (parts (Layout.New m) nodes owners) (parts (Layout.New m') nodes' owners') p number
      → Agree kind (parts (Layout.New m') nodes' owners')
  agrees_new m m' nodes' owners' kind is a may prep run =
      let h = parts (Layout.New m) nodes owners in
      let on = agreed_law.named kind h m refl is a in
      let its = may (view_of h kind a) (agreed_law.sound_by kind h a) (agreed_law.viewed kind h a) in
      subst (λ (ns : Nodes). Agree kind (parts (Layout.New m') ns owners')) (sym run.nodes)
      (new.agrees law m nodes owners is t path name p prep m' owners' number run.given (owners_of (parts (Layout.New m) nodes owners) (parts (Layout.New m') nodes' owners') t name p number prep run) kind a.root a.listings on its)

  agrees_old : (space now' : OldMapContent) (nodes' : Nodes) (owners' : List Owner) (kind : Kind) → IsOldMap space → LieBehind space → Agree kind (parts (Layout.Old space) nodes owners)
      → MayGo (parts (Layout.Old space) nodes owners) path t → IsPreparedFor (parts (Layout.Old space) nodes owners) (jobs.Removal t) name p
      → IsRun (parts (Layout.Old space) nodes owners) (parts (Layout.Old now') nodes' owners') p number → Agree kind (parts (Layout.Old now') nodes' owners') × LieBehind now'
  agrees_old space now' nodes' owners' kind is behind a may prep run =
      let h = parts (Layout.Old space) nodes owners in
      let on = space_law.named kind h space refl is behind a in
      let its = may (view_of h kind a) (agreed_law.sound_by kind h a) (agreed_law.viewed kind h a) in
      let both = old.agrees space nodes owners is behind t path law name p prep owners' number now' (run.given ∙ old.map_is space nodes owners is behind t path law name p prep) (owners_of (parts (Layout.Old space) nodes owners) (parts (Layout.Old now') nodes' owners') t name p number prep run) kind a.root a.listings on its in
      subst (λ (ns : Nodes). Agree kind (parts (Layout.Old now') ns owners') × LieBehind now') (sym run.nodes) both

-- The parts agree afterwards.
pub agrees : outcomes.DeletionLaw → (layout layout' : Layout) (nodes nodes' : Nodes) (owners owners' : List Owner) (t : Target) (path : Path) (name : List ℕ) (kind : Kind) (p : Prepared) (number : ℕ) → IsMapOf layout
    → Agree kind (parts layout nodes owners) → MayGo (parts layout nodes owners) path t → IsPreparedFor (parts layout nodes owners) (jobs.Removal t) name p
    → IsRun (parts layout nodes owners) (parts layout' nodes' owners') p number → Agree kind (parts layout' nodes' owners') × KeepsBehind layout'
agrees law (Layout.New m) (Layout.New m') nodes nodes' owners owners' t path name kind p number is a may prep run =
    (agrees_new law nodes owners t path name p (parts (Layout.New m) nodes owners) number m m' nodes' owners' kind is a may prep run, tt)
agrees law (Layout.Old space) (Layout.Old now') nodes nodes' owners owners' t path name kind p number is a may prep run =
    agrees_old law nodes owners t path name p (parts (Layout.Old space) nodes owners) number space now' nodes' owners' kind is.0 is.1 a may prep run
agrees law (Layout.New m) (Layout.Old now') nodes nodes' owners owners' t path name kind p number is a may prep run = absurd run.given
agrees law (Layout.Old space) (Layout.New m') nodes nodes' owners owners' t path name kind p number is a may prep run = absurd run.given

-- ---- on the disc

changes_new : outcomes.DeletionLaw → (m m' : Map) (nodes nodes' : Nodes) (owners owners' : List Owner) (t : Target) (path : Path) (name : List ℕ) (kind : Kind) (p : Prepared) (number : ℕ) (was bytes image : List ℕ)
    → IsNewMap m → Agree kind (parts (Layout.New m) nodes owners) → MayGo (parts (Layout.New m) nodes owners) path t → IsPreparedFor (parts (Layout.New m) nodes owners) (jobs.Removal t) name p
    → IsRun (parts (Layout.New m) nodes owners) (parts (Layout.New m') nodes' owners') p number → IsChangedOn (Layout.New m) (Layout.New m') p.ready bytes was image
    → ChangesParts (Command.Delete path) (parts (Layout.New m) nodes owners) (parts (Layout.New m') nodes' owners') was image
changes_new law m m' nodes nodes' owners owners' t path name other p number was bytes image is a may prep run changed kind view opens held =
    let at : view.layout ≡ Layout.New m = sym held.layout in
    let same = opened_as kind was view (Layout.New m) opens at in
    let on = new_view m nodes owners other is a kind was view opens held in
    let its = may view (sound_in (Layout.New m) nodes owners view (agreed_law.sound kind m nodes owners on.0 view.listings on.1) held) held in
    subst (λ (v : Opened). Outcome kind was image v (Command.Delete path) (parts (Layout.New m') nodes' owners')) same
    (subst (λ (ns : Nodes). Outcome kind was image (record { kind = kind; layout = Layout.New m; listings = view.listings }) (Command.Delete path) (parts (Layout.New m') ns owners')) (sym run.nodes)
    (new.outcome law m nodes owners is t path name p prep m' owners' number run.given (owners_of (parts (Layout.New m) nodes owners) (parts (Layout.New m') nodes' owners') t name p number prep run) kind on.0 view.listings on.1 its was bytes image (subst (OpensAs was kind) (sym same) opens) changed))

changes_old : outcomes.DeletionLaw → (space now' : OldMapContent) (nodes nodes' : Nodes) (owners owners' : List Owner) (t : Target) (path : Path) (name : List ℕ) (kind : Kind) (p : Prepared) (number : ℕ) (was bytes image : List ℕ)
    → IsOldMap space → LieBehind space → Agree kind (parts (Layout.Old space) nodes owners) → MayGo (parts (Layout.Old space) nodes owners) path t
    → IsPreparedFor (parts (Layout.Old space) nodes owners) (jobs.Removal t) name p → IsRun (parts (Layout.Old space) nodes owners) (parts (Layout.Old now') nodes' owners') p number
    → IsChangedOn (Layout.Old space) (Layout.Old now') p.ready bytes was image → HasFront (Layout.Old space) was
    → ChangesParts (Command.Delete path) (parts (Layout.Old space) nodes owners) (parts (Layout.Old now') nodes' owners') was image
changes_old law space now' nodes nodes' owners owners' t path name other p number was bytes image is behind a may prep run changed long kind view opens held =
    let at : view.layout ≡ Layout.Old space = sym held.layout in
    let same = opened_as kind was view (Layout.Old space) opens at in
    let on = old_view space nodes owners other is behind a kind was view opens held in
    let sound = old_sound kind space nodes owners on.0 view.listings on.1 in
    let its = may view (sound_in (Layout.Old space) nodes owners view sound held) held in
    subst (λ (v : Opened). Outcome kind was image v (Command.Delete path) (parts (Layout.Old now') nodes' owners')) same
    (subst (λ (ns : Nodes). Outcome kind was image (record { kind = kind; layout = Layout.Old space; listings = view.listings }) (Command.Delete path) (parts (Layout.Old now') ns owners')) (sym run.nodes)
    (old.outcome space nodes owners is behind t path law name p prep owners' number now' (run.given ∙ old.map_is space nodes owners is behind t path law name p prep) (owners_of (parts (Layout.Old space) nodes owners) (parts (Layout.Old now') nodes' owners') t name p number prep run) kind on.0 view.listings on.1 its was bytes image
    (subst (OpensAs was kind) (sym same) opens) long changed))

-- The command has done what it promises.
pub changes : outcomes.DeletionLaw → (layout layout' : Layout) (nodes nodes' : Nodes) (owners owners' : List Owner) (t : Target) (path : Path) (name : List ℕ) (kind : Kind) (p : Prepared) (number : ℕ) (was bytes image : List ℕ)
    → IsMapOf layout → Agree kind (parts layout nodes owners) → MayGo (parts layout nodes owners) path t → IsPreparedFor (parts layout nodes owners) (jobs.Removal t) name p
    → IsRun (parts layout nodes owners) (parts layout' nodes' owners') p number → IsChangedOn layout layout' p.ready bytes was image → HasFront layout was
    → ChangesParts (Command.Delete path) (parts layout nodes owners) (parts layout' nodes' owners') was image
changes law (Layout.New m) (Layout.New m') nodes nodes' owners owners' t path name kind p number was bytes image is a may prep run changed long =
    changes_new law m m' nodes nodes' owners owners' t path name kind p number was bytes image is a may prep run changed
changes law (Layout.Old space) (Layout.Old now') nodes nodes' owners owners' t path name kind p number was bytes image is a may prep run changed long =
    changes_old law space now' nodes nodes' owners owners' t path name kind p number was bytes image is.0 is.1 a may prep run changed long
changes law (Layout.New m) (Layout.Old now') nodes nodes' owners owners' t path name kind p number was bytes image is a may prep run changed long = absurd run.given
changes law (Layout.Old space) (Layout.New m') nodes nodes' owners owners' t path name kind p number was bytes image is a may prep run changed long = absurd run.given

-- At any moment nothing differs but its directory and the map.
pub places : outcomes.DeletionLaw → (layout : Layout) (nodes : Nodes) (owners : List Owner) (t : Target) (path : Path) (name : List ℕ) (kind : Kind) (p : Prepared) (was bytes image : List ℕ) → IsMapOf layout
    → Agree kind (parts layout nodes owners) → MayGo (parts layout nodes owners) path t → IsPreparedFor (parts layout nodes owners) (jobs.Removal t) name p → ChangeLeavesOn layout p.ready bytes was image
    → WritesPlacesOf (Command.Delete path) (parts layout nodes owners) was image
places law (Layout.New m) nodes owners t path name other p was bytes image is a may prep left kind view opens held =
    let on = new_view m nodes owners other is a kind was view opens held in
    let its = may view (sound_in (Layout.New m) nodes owners view (agreed_law.sound kind m nodes owners on.0 view.listings on.1) held) held in
    new.places law m nodes owners is t path name p prep kind was view opens held on.0 on.1 its image (leaves_law.frame m p.ready bytes was image left)
places law (Layout.Old space) nodes owners t path name other p was bytes image is a may prep left kind view opens held =
    let on = old_view space nodes owners other is.0 is.1 a kind was view opens held in
    let sound = old_sound kind space nodes owners on.0 view.listings on.1 in
    let its = may view (sound_in (Layout.Old space) nodes owners view sound held) held in
    old.places space nodes owners is.0 is.1 t path law name p prep kind was view opens held on.0 on.1 its image (leaves_law.old_frame space p.ready bytes was image left)

-- ---- what is answered

-- It is refused for want of space as what it wants is.
pub short_is : (layout : Layout) (nodes : Nodes) (owners : List Owner) (t : Target) (path : Path) (name : List ℕ) (w : Wants) (v : Opened) → IsMapOf layout → MayGo (parts layout nodes owners) path t
    → AreWants (parts layout nodes owners) (jobs.Removal t) name w → AreSound v.layout v.listings → ArePartsOf (parts layout nodes owners) v
    → short v (Command.Delete path) ≡ shortage (parts layout nodes owners) w
short_is (Layout.New m) nodes owners t path name w v is may are sound held = new_short m nodes owners t name w v path are (sym held.layout)
short_is (Layout.Old space) nodes owners t path name w v is may are sound held =
    let its = may v sound held in
    let sound' = subst (λ (l : Layout). AreSound l v.listings) (sym held.layout) sound in
    let o = its.target.object in
    let given : map_given space nodes (Some t.node) space ≡ holding space (with_space_of space (Some o) space.holes) =
    old.given_at space nodes is.0 t path v.listings sound' held.nodes its in
    old_short space nodes owners t name w v path o are (sym held.layout) is.0 (target_of.there (Layout.Old space) nodes v.listings sound' held.nodes path t its.target) given

-- ---- all of it

-- What was taken over can be: the nodes are there, and nothing comes.
pub can_take : (layout layout' : Layout) (nodes : Nodes) (owners owners' : List Owner) (t : Target) (path : Path) (kind : Kind) (p : Prepared) (room : ℕ) → Agree kind (parts layout nodes owners)
    → MayGo (parts layout nodes owners) path t → IsRemovalChange nodes t p.change → CanTakeOver layout' nodes owners' room p.change
can_take layout layout' nodes owners owners' t path kind p room a may ch =
    let h = parts layout nodes owners in
    let sound = agreed_law.sound_by kind h a in
    let its = may (view_of h kind a) sound (agreed_law.viewed kind h a) in
    record {
      says = λ s at.
          subst (λ (n : ℕ). IsSome (get nodes n)) (sym ch.tells.number ∙ ap (λ (x : Says). x.node) (only ch.said s (subst (λ (ss : List Says). Contains ss s) ch.says at)))
          (target_of.has_dir layout nodes a.listings sound a.walked.held path t its.target);
      object = subst (CanTurnNode nodes room) (sym ch.goes) (target_of.has_node layout nodes a.listings sound a.walked.held path t its.target);
      owner = subst (CanTurnOwner layout' owners') (sym ch.goes) tt;
      grown = subst (CanRegrowNode nodes owners') (sym ch.none) tt;
    }

pub no_full : (rooms.Full ≡ rooms.Fits) → ⊥
no_full e = cc

-- the laws of `delete`
pub removal_laws : outcomes.DeletionLaw → (layout : Layout) (nodes : Nodes) (owners : List Owner) (t : Target) (path : Path) (name bytes : List ℕ) (kind : Kind) → IsMapOf layout → PlacesSuffice layout
    → Agree kind (parts layout nodes owners) → MayGo (parts layout nodes owners) path t → JobLaws kind (parts layout nodes owners) (jobs.Removal t) name bytes
removal_laws law layout nodes owners t path name bytes kind is suffice a may =
    let h = parts layout nodes owners in
    record {
      can_prepare = can_prepare layout nodes owners t path name kind is a may;
      can_write = λ p n prep room. can_write law layout nodes owners t path name kind p n is a may prep room suffice;
      can_take = λ p layout' number room prep given some. can_take layout layout' nodes owners (owners_admitted layout p.change.object number owners) t path kind p room a may (change_of h t name p prep);
      agrees = λ p now number prep run. agrees law layout now.layout nodes now.nodes owners now.owners t path name kind p number is a may prep run;
      changes = λ c p now number was image j prep run changed long.
          (let its = may_go h kind a c t name bytes j in
          subst (λ (x : Command). ChangesParts x h now was image) (sym its.1)
          (changes law layout now.layout nodes now.nodes owners now.owners t its.0 name kind p number was bytes image is a its.2 prep run changed long));
      places = λ c p was image j prep left.
          (let its = may_go h kind a c t name bytes j in
          subst (λ (x : Command). WritesPlacesOf x h was image) (sym its.1) (places law layout nodes owners t its.0 name kind p was bytes image is a its.2 prep left));
      short_is = λ c w v j are sound held.
          (let its = may_go h kind a c t name bytes j in ap (short v) its.1 ∙ short_is layout nodes owners t its.0 name w v is its.2 are sound held);
      full = λ c v j full sound held. absurd (no_full full);
    }
