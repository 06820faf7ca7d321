-- `cdir`, `save` and `create` of what is new in a directory that grows by it, on a new map: what their stages need, what they promise, and
-- what they answer.
use Rattle.std.proofs.Common.{◌≡◌, ℕ, List, refl, sym, subst, Some}
use Rattle.fc_alloc.specs.declared.owner.Owner.{Owner}
use Rattle.fc_names.specs.Names.{Path}
use Rattle.fc_record.specs.declared.Kind.{Kind}
use Rattle.fc_newmap.specs.Map.{Map}
use Rattle.fc_newmap.specs.NewMap.{IsNewMap}
use Rattle.fc_model.specs.Command.{Command}
use Rattle.fc_model.specs.Tree.{last_name}
use Rattle.fc_image.specs.Layout.{Layout}
use Rattle.fc_image.specs.Opening.{Opened}
use Rattle.fc_image.specs.Objects.{objects_of}
use Rattle.fc_image.specs.Sound.{AreSound}
use Rattle.fc_image.specs.Stays.{OpensAs}
use Rattle.fc_image.specs.effects.Short.{short}
use Rattle.fc_laws.specs.nodes.Edits.{Nodes}
use Rattle.fc_laws.specs.agree.Agreed.{AgreeOn}
use Rattle.fc_laws.specs.takeover.Places.{MayBeWritten}
use Rattle.fc_laws.proofs.lemmas.agree.BeforeLemmas.{agreed_law}
use Rattle.fc_changes.proofs.lemmas.old.BeforeLemmas.{opened_as}
use Rattle.fc_refusals.specs.Targets.{IsVacant}
use Rattle.fc_tree.specs.Agree.{Agree}
use Rattle.fc_tree.specs.Parts.{AreOwners, ArePartsOf, Parts}
use Rattle.fc_writing.specs.Ready.{written_place}
use Rattle.fc_writing.proofs.LeavesLemmas.{leaves_law}
use Rattle.fc_change.specs.declared.job.Growth.{Growth}
use Rattle.fc_change.specs.declared.job.Wants.{Wants}
use Rattle.fc_change.specs.Needs.{AreWants}
use Rattle.fc_change.specs.Shortage.{shortage}
use Rattle.fc_commands.specs.declared.stages.Prepared.{Prepared}
use Rattle.fc_holdings.specs.Holdings.{TellsVersion}
use Rattle.fc_commands.specs.Jobs.{IsJobFor}
use Rattle.fc_commands.specs.Laws.{JobLaws}
use Rattle.fc_commands.specs.Promises.{ChangesParts, WritesPlacesOf}
use Rattle.fc_commands.specs.Run.{IsRun, KeepsBehind}
use Rattle.fc_commands.specs.Stages.{CanPrepareJob, IsPreparedFor}
use Rattle.fc_commands.specs.Written.{ChangeLeavesOn, IsChangedOn}
use Rattle.fc_commands.proofs.ArrivalLemmas.{Arrival, Brings, CanArrive, IsShort, job_of}
use Rattle.fc_commands.proofs.ArrivalStageLemmas.{Arrives, arrives}
use Rattle.fc_commands.proofs.ArrivalTakenLemmas.{full_is}
use Rattle.fc_commands.proofs.GrownNewAskedLemmas as asked
use Rattle.fc_commands.proofs.GrownNewMayLemmas as may
use Rattle.fc_commands.proofs.GrownNewPutLemmas as put
use Rattle.fc_commands.proofs.GrownNewRunLemmas as run_of
use Rattle.fc_commands.proofs.GrownNewStageLemmas as stage
use Rattle.fc_commands.proofs.GrownNeedLemmas as need
use Rattle.fc_commands.proofs.RemovalRunLemmas.{new_view, parts, sound_in}
use Rattle.fc_commands.proofs.RemovalStageLemmas.{view_of}

module _ (m : Map) (nodes : Nodes) (owners : List Owner) (is : IsNewMap m) (tells : TellsVersion (Layout.New m)) (other : Kind) (a : Agree other (parts (Layout.New m) nodes owners)) (dir : ℕ) (x : Arrival) (few : IsShort x) (growth : Growth) where
  abbrev h : Parts
  h = parts (Layout.New m) nodes owners

  -- By what it wants this directory grows.
  abbrev pub Grows : List ℕ → Type 0
  Grows name = (w : Wants) → AreWants h (job_of dir x) name w → w.grows ≡ Some growth

  sound : AreSound (Layout.New m) a.listings
  sound = agreed_law.sound_by other h a

  on : AgreeOn other m nodes owners a.root a.listings
  on = agreed_law.named other h m refl is a

  -- ---- of one path

  module _ (path : Path) (can : CanArrive (parts (Layout.New m) nodes owners) path dir) (grows : Grows (last_name path)) where
    spot : IsVacant nodes a.listings path dir
    spot = can.vacant (view_of h other a) sound (agreed_law.viewed other h a)

    some : (p : Prepared) (prep : IsPreparedFor h (job_of dir x) (last_name path) p) → prep.wants.grows ≡ Some growth
    some p prep = grows prep.wants prep.spaced.wants

    can_prepare : CanPrepareJob h (job_of dir x) (last_name path)
    can_prepare = record {
      want = stage.want nodes dir x;
      place = λ w are. need.can_place h other a path dir spot x w are growth (grows w are) few;
      draft = λ w s spaced. stage.can_draft m nodes owners dir x path w s spaced growth (grows w spaced.wants) other a.root a.listings on spot;
      placed = λ w s spaced. stage.placed m nodes owners dir x path w s spaced growth (grows w spaced.wants) other a.root a.listings on spot;
      prepare = λ w s c spaced change. stage.can_prepare m nodes owners dir x path w s spaced growth (grows w spaced.wants) other a.root a.listings on spot c change;
    }

    -- The parts agree afterwards.
    agrees : (layout' : Layout) (nodes' : Nodes) (owners' : List Owner) (p : Prepared) (number : ℕ) → IsPreparedFor h (job_of dir x) (last_name path) p → IsRun h (parts layout' nodes' owners') p number
        → Agree other (parts layout' nodes' owners') × KeepsBehind layout'
    agrees (Layout.New m') nodes' owners' p number prep run = (
      subst (λ (ns : Nodes). Agree other (parts (Layout.New m') ns owners')) (sym run.nodes)
          (run_of.agrees m nodes owners is other a dir x path can.vacant p prep growth (some p prep) m' owners' number run.free run.given run.owners),
      tt,
    )
    agrees (Layout.Old now) nodes' owners' p number prep run = absurd run.given

    module _ (p : Prepared) (prep : IsPreparedFor (parts (Layout.New m) nodes owners) (job_of dir x) (last_name path) p) (c : Command) (bytes : List ℕ) (brings : Brings x path bytes c) where
      -- The command is done.
      changes : (layout' : Layout) (nodes' : Nodes) (owners' : List Owner) (number : ℕ) (was image : List ℕ) → IsRun h (parts layout' nodes' owners') p number → IsChangedOn (Layout.New m) layout' p.ready bytes was image
          → ChangesParts c h (parts layout' nodes' owners') was image
      changes (Layout.New m') nodes' owners' number was image run changed =
          subst (λ (ns : Nodes). ChangesParts c h (parts (Layout.New m') ns owners') was image) (sym run.nodes)
          (run_of.changes m nodes owners is other a dir x path can.vacant p prep growth (some p prep) m' owners' number run.free run.given run.owners c bytes brings was image changed)
      changes (Layout.Old now) nodes' owners' number was image run changed = absurd run.given

      -- At any moment nothing else was written.
      places : (was image : List ℕ) → ChangeLeavesOn (Layout.New m) p.ready bytes was image → WritesPlacesOf c h was image
      places was image left kind view opens held =
          let same = opened_as kind was view (Layout.New m) opens (sym held.layout) in
          let seen = new_view m nodes owners other is a kind was view opens held in
          let here = can.vacant view (sound_in (Layout.New m) nodes owners view (agreed_law.sound kind m nodes owners seen.0 view.listings seen.1) held) held in
          record {
            sectors = written_place p.ready;
            only = leaves_law.frame m p.ready bytes was image left;
            may = subst (λ (v : Opened). MayBeWritten kind v m c (written_place p.ready)) same
                (may.all_may m nodes owners dir x path p prep growth (some p prep) is kind was view.listings (subst (OpensAs was kind) (sym same) opens) seen.0 seen.1 here c bytes brings);
          }

    -- It is refused for want of space as what it wants is.
    short_is : (c : Command) (bytes : List ℕ) → Brings x path bytes c → (w : Wants) (v : Opened) → AreWants h (job_of dir x) (last_name path) w → AreSound v.layout v.listings → ArePartsOf h v → short v c ≡ shortage h w
    short_is c bytes brings w v are sound' held =
        asked.short_is m nodes owners dir x path w are growth (grows w are) is other a.root a.listings on spot v (sym held.layout) (subst (λ (l : Layout). AreSound l v.listings) (sym held.layout) sound') held.nodes
        (subst (λ (l : Layout). AreOwners owners nodes l (objects_of v.listings)) (sym held.layout) held.owners) (can.vacant v sound' held) bytes c brings

  -- ---- of its name

  module _ (name bytes : List ℕ) (c : Command) (j : IsJobFor c (parts (Layout.New m) nodes owners) (job_of dir x) name bytes) (grows : Grows name) where
    came : Arrives h c dir x name bytes
    came = arrives h other a c dir x name bytes j

    grows_at : Grows (last_name came.path)
    grows_at = subst Grows came.name_is grows

    as_named : (p : Prepared) → IsPreparedFor h (job_of dir x) name p → IsPreparedFor h (job_of dir x) (last_name came.path) p
    as_named p prep = subst (λ (n : List ℕ). IsPreparedFor h (job_of dir x) n p) came.name_is prep

    spot_at : IsVacant nodes a.listings came.path dir
    spot_at = spot came.path came.can grows_at

    pub grown_laws : JobLaws other h (job_of dir x) name bytes
    grown_laws = record {
      can_prepare = subst (CanPrepareJob h (job_of dir x)) (sym came.name_is) (can_prepare came.path came.can grows_at);
      can_write = λ p n prep most.
          put.can_write m nodes owners dir x came.path p (as_named p prep) growth (some came.path came.can grows_at p (as_named p prep)) is other a.root a.listings on spot_at tells n most;
      can_take = λ p layout' number room prep given enough.
          asked.can_take m nodes owners dir x came.path p (as_named p prep) growth (some came.path came.can grows_at p (as_named p prep)) is other a.root a.listings on spot_at layout' number room enough;
      agrees = λ p now number prep run. agrees came.path came.can grows_at now.layout now.nodes now.owners p number (as_named p prep) run;
      changes = λ d p now number was image k prep run changed long.
          (let its = arrives h other a d dir x name bytes k in
          changes its.path its.can (subst Grows its.name_is grows) p (subst (λ (n : List ℕ). IsPreparedFor h (job_of dir x) n p) its.name_is prep) d bytes its.brings now.layout now.nodes now.owners number was image run changed);
      places = λ d p was image k prep left.
          (let its = arrives h other a d dir x name bytes k in
          places its.path its.can (subst Grows its.name_is grows) p (subst (λ (n : List ℕ). IsPreparedFor h (job_of dir x) n p) its.name_is prep) d bytes its.brings was image left);
      short_is = λ d w v k are sound' held.
          (let its = arrives h other a d dir x name bytes k in
          short_is its.path its.can (subst Grows its.name_is grows) d bytes its.brings w v (subst (λ (n : List ℕ). AreWants h (job_of dir x) n w) its.name_is are) sound' held);
      full = λ d v k full sound' held. full_is h other a dir x name bytes d v k full sound' held;
    }
