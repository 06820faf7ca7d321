-- `cdir`, `save` and `create` of what is new on a new map: what their stages need, what they promise, and what they answer.
use Rattle.std.proofs.Common.{◌≡◌, ◌≤◌, ℕ, List, refl, sym, subst, None}
use Rattle.fc_alloc.specs.declared.owner.Owner.{Owner}
use Rattle.fc_names.specs.Names.{Path}
use Rattle.fc_newmap.specs.Map.{Map}
use Rattle.fc_newmap.specs.NewMap.{IsNewMap}
use Rattle.fc_record.specs.declared.Kind.{Kind}
use Rattle.fc_model.specs.Command.{Command}
use Rattle.fc_model.specs.Tree.{last_name}
use Rattle.fc_image.specs.Layout.{Layout, disc_sectors}
use Rattle.fc_image.specs.Objects.{objects_of}
use Rattle.fc_image.specs.Opening.{Opened}
use Rattle.fc_image.specs.Sound.{AreSound}
use Rattle.fc_image.specs.Stays.{OpensAs}
use Rattle.fc_image.specs.effects.Short.{short}
use Rattle.fc_changes.proofs.lemmas.old.BeforeLemmas.{opened_as}
use Rattle.fc_tree.specs.Agree.{Agree}
use Rattle.fc_tree.specs.Parts.{AreOwners, ArePartsOf, Parts}
use Rattle.fc_laws.specs.nodes.Edits.{Nodes}
use Rattle.fc_laws.specs.agree.Agreed.{AgreeOn}
use Rattle.fc_laws.proofs.lemmas.agree.BeforeLemmas.{agreed_law}
use Rattle.fc_outcomes.specs.Addition.{AdditionLaw}
use Rattle.fc_outcomes.specs.NewImage.{Outcome}
use Rattle.fc_refusals.specs.Targets.{IsVacant}
use Rattle.fc_writing.proofs.LeavesLemmas.{leaves_law}
use Rattle.fc_change.specs.declared.job.Wants.{Wants}
use Rattle.fc_change.specs.After.{owners_admitted}
use Rattle.fc_change.specs.Needs.{AreWants}
use Rattle.fc_change.specs.Shortage.{shortage}
use Rattle.fc_commands.specs.declared.stages.Prepared.{Prepared}
use Rattle.fc_commands.specs.Jobs.{IsJobFor}
use Rattle.fc_commands.specs.Laws.{JobLaws}
use Rattle.fc_commands.specs.Promises.{ChangesParts, WritesPlacesOf}
use Rattle.fc_commands.specs.Run.{IsRun, KeepsBehind}
use Rattle.fc_commands.specs.Stages.{CanPrepareJob, IsPreparedFor}
use Rattle.fc_commands.specs.Written.{CanWriteOn, ChangeLeavesOn, IsChangedOn}
use Rattle.fc_commands.proofs.ArrivalLemmas.{Arrival, Brings, CanArrive, IsShort, job_of}
use Rattle.fc_commands.proofs.ArrivalPlaceLemmas.{wanted}
use Rattle.fc_commands.proofs.ArrivalShortLemmas.{new_short}
use Rattle.fc_commands.proofs.ArrivalStageLemmas.{Arrives, arrives, can_prepare_job}
use Rattle.fc_commands.proofs.ArrivalTakenLemmas.{GrowsNone, can_take, full_is}
use Rattle.fc_commands.proofs.NewArrivalLemmas as new
use Rattle.fc_commands.proofs.RemovalRunLemmas.{new_view, parts, sound_in}
use Rattle.fc_commands.proofs.RemovalStageLemmas.{view_of}

module _ (law : AdditionLaw) (m : Map) (nodes : Nodes) (owners : List Owner) (is : IsNewMap m) (other : Kind) (a : Agree other (parts (Layout.New m) nodes owners)) (dir : ℕ) (x : Arrival) (few : IsShort x) where
  abbrev h : Parts
  h = parts (Layout.New m) nodes owners

  -- ---- of one path

  module _ (path : Path) (can : CanArrive h path dir) (none : GrowsNone h dir x (last_name path)) where
    sound : AreSound (Layout.New m) a.listings
    sound = agreed_law.sound_by other h a

    on : AgreeOn other m nodes owners a.root a.listings
    on = agreed_law.named other h m refl is a

    spot : IsVacant nodes a.listings path dir
    spot = can.vacant (view_of h other a) sound (agreed_law.viewed other h a)

    grows_none : (p : Prepared) (prep : IsPreparedFor h (job_of dir x) (last_name path) p) → prep.wants.grows ≡ None
    grows_none p prep = none prep.wants prep.spaced.wants

    pub can_prepare : CanPrepareJob h (job_of dir x) (last_name path)
    can_prepare = can_prepare_job h other a path dir x can few is (λ space at. absurd (cc)) none

    pub can_write : (p : Prepared) (n : ℕ) → IsPreparedFor h (job_of dir x) (last_name path) p → disc_sectors (Layout.New m) ≤ n → CanWriteOn (Layout.New m) n p.ready
    can_write p n prep most = new.can_write m nodes owners is dir x path p prep (grows_none p prep) other a.root a.listings on spot n most

    agrees_at : (m' : Map) (nodes' : Nodes) (owners' : List Owner) (p : Prepared) (number : ℕ) → IsPreparedFor h (job_of dir x) (last_name path) p → IsRun h (parts (Layout.New m') nodes' owners') p number
        → Agree other (parts (Layout.New m') nodes' owners')
    agrees_at m' nodes' owners' p number prep run =
        subst (λ (ns : Nodes). Agree other (parts (Layout.New m') ns owners')) (sym run.nodes)
        (new.agrees m nodes owners is dir x path p prep (grows_none p prep) other a.root a.listings on spot m' owners' number run.given run.free run.owners)

    -- The parts agree afterwards.
    pub agrees : (layout' : Layout) (nodes' : Nodes) (owners' : List Owner) (p : Prepared) (number : ℕ) → IsPreparedFor h (job_of dir x) (last_name path) p → IsRun h (parts layout' nodes' owners') p number
        → Agree other (parts layout' nodes' owners') × KeepsBehind layout'
    agrees (Layout.New m') nodes' owners' p number prep run = (agrees_at m' nodes' owners' p number prep run, tt)
    agrees (Layout.Old now) nodes' owners' p number prep run = absurd run.given

    -- ---- by any view

    module _ (c : Command) (bytes : List ℕ) (brings : Brings x path bytes c) (p : Prepared) (prep : IsPreparedFor h (job_of dir x) (last_name path) p) where
      changes_at : (m' : Map) (nodes' : Nodes) (owners' : List Owner) (number : ℕ) (was image : List ℕ) → IsRun h (parts (Layout.New m') nodes' owners') p number
          → IsChangedOn (Layout.New m) (Layout.New m') p.ready bytes was image → ChangesParts c h (parts (Layout.New m') nodes' owners') was image
      changes_at m' nodes' owners' number was image run changed kind view opens held =
          let same = opened_as kind was view (Layout.New m) opens (sym held.layout) in
          let seen = new_view m nodes owners other is a kind was view opens held in
          let here = can.vacant view (sound_in (Layout.New m) nodes owners view (agreed_law.sound kind m nodes owners seen.0 view.listings seen.1) held) held in
          subst (λ (v : Opened). Outcome kind was image v c (parts (Layout.New m') nodes' owners')) same
          (subst (λ (ns : Nodes). Outcome kind was image (record { kind = kind; layout = Layout.New m; listings = view.listings }) c (parts (Layout.New m') ns owners')) (sym run.nodes)
          (new.outcome m nodes owners is dir x path p prep (grows_none p prep) kind seen.0 view.listings seen.1 here m' owners' number run.given run.free run.owners c bytes brings was image (subst (OpensAs was kind) (sym same) opens) changed law))

      -- The command is done.
      pub changes : (layout' : Layout) (nodes' : Nodes) (owners' : List Owner) (number : ℕ) (was image : List ℕ) → IsRun h (parts layout' nodes' owners') p number → IsChangedOn (Layout.New m) layout' p.ready bytes was image
          → ChangesParts c h (parts layout' nodes' owners') was image
      changes (Layout.New m') nodes' owners' number was image run changed = changes_at m' nodes' owners' number was image run changed
      changes (Layout.Old now) nodes' owners' number was image run changed = absurd run.given

      -- At any moment nothing else was written.
      pub places : (was image : List ℕ) → ChangeLeavesOn (Layout.New m) p.ready bytes was image → WritesPlacesOf c h was image
      places was image left kind view opens held =
          let seen = new_view m nodes owners other is a kind was view opens held in
          let here = can.vacant view (sound_in (Layout.New m) nodes owners view (agreed_law.sound kind m nodes owners seen.0 view.listings seen.1) held) held in
          new.places m nodes owners is dir x path p prep (grows_none p prep) kind was view opens held seen.0 seen.1 here c bytes brings image (leaves_law.frame m p.ready bytes was image left)

    -- It is refused for want of space as what it wants is.
    pub short_is : (c : Command) (bytes : List ℕ) → Brings x path bytes c → (w : Wants) (v : Opened) → AreWants h (job_of dir x) (last_name path) w → AreSound v.layout v.listings → ArePartsOf h v → short v c ≡ shortage h w
    short_is c bytes brings w v are sound' held =
        new_short m nodes owners is dir x path w (wanted h dir x (last_name path) w (none w are) are) bytes c brings v (sym held.layout) (subst (λ (l : Layout). AreSound l v.listings) (sym held.layout) sound') held.nodes
        (subst (λ (l : Layout). AreOwners owners nodes l (objects_of v.listings)) (sym held.layout) held.owners) (can.vacant v sound' held)

  -- ---- of its name

  module _ (name bytes : List ℕ) (c : Command) (j : IsJobFor c h (job_of dir x) name bytes) (none : GrowsNone h dir x name) where
    came : Arrives h c dir x name bytes
    came = arrives h other a c dir x name bytes j

    none_at : GrowsNone h dir x (last_name came.path)
    none_at = subst (GrowsNone h dir x) came.name_is none

    as_named : (p : Prepared) → IsPreparedFor h (job_of dir x) name p → IsPreparedFor h (job_of dir x) (last_name came.path) p
    as_named p prep = subst (λ (n : List ℕ). IsPreparedFor h (job_of dir x) n p) came.name_is prep

    pub arrival_laws : JobLaws other h (job_of dir x) name bytes
    arrival_laws = record {
      can_prepare = subst (CanPrepareJob h (job_of dir x)) (sym came.name_is) (can_prepare came.path came.can none_at);
      can_write = λ p n prep most. can_write came.path came.can none_at p n (as_named p prep) most;
      can_take = λ p layout' number room prep given some.
          can_take h layout' (owners_admitted (Layout.New m) p.change.object number owners) dir x came.path other p room a came.can (as_named p prep) none_at some;
      agrees = λ p now number prep run. agrees came.path came.can none_at now.layout now.nodes now.owners p number (as_named p prep) run;
      changes = λ d p now number was image k prep run changed long.
          (let its = arrives h other a d dir x name bytes k in
          changes its.path its.can (subst (GrowsNone h dir x) its.name_is none) d bytes its.brings p (subst (λ (n : List ℕ). IsPreparedFor h (job_of dir x) n p) its.name_is prep) now.layout now.nodes now.owners number was image
          run changed);
      places = λ d p was image k prep left.
          (let its = arrives h other a d dir x name bytes k in
          places its.path its.can (subst (GrowsNone h dir x) its.name_is none) d bytes its.brings p (subst (λ (n : List ℕ). IsPreparedFor h (job_of dir x) n p) its.name_is prep) was image left);
      short_is = λ d w v k are sound' held.
          (let its = arrives h other a d dir x name bytes k in
          short_is its.path its.can (subst (GrowsNone h dir x) its.name_is none) d bytes its.brings w v (subst (λ (n : List ℕ). AreWants h (job_of dir x) n w) its.name_is are) sound' held);
      full = λ d v k full sound' held. full_is h other a dir x name bytes d v k full sound' held;
    }
