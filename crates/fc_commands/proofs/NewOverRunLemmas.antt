-- `save` and `create` over a file on a new map: what their stages need, what they promise, and what they answer.
use Rattle.std.proofs.Common.{◌≡◌, ◌<◌, ◌≤◌, ◌^◌, ℕ, List, refl, sym, subst}
use Rattle.fc_alloc.specs.declared.owner.Owner.{Owner}
use Rattle.fc_drafts.specs.declared.room.Room.TheVariants as rooms
use Rattle.fc_names.specs.Names.{Path}
use Rattle.fc_newmap.specs.Map.{Map}
use Rattle.fc_newmap.specs.NewMap.{IsNewMap}
use Rattle.fc_record.specs.declared.Kind.{Kind}
use Rattle.fc_model.specs.Command.{Command}
use Rattle.fc_image.specs.Layout.{Layout, disc_sectors}
use Rattle.fc_image.specs.Objects.{objects_of}
use Rattle.fc_image.specs.Opening.{Opened}
use Rattle.fc_image.specs.Sound.{AreSound}
use Rattle.fc_image.specs.Stays.{OpensAs}
use Rattle.fc_image.specs.effects.Short.{short}
use Rattle.fc_changes.proofs.lemmas.old.BeforeLemmas.{opened_as}
use Rattle.fc_tree.specs.declared.node.Node.{Node}
use Rattle.fc_tree.specs.Agree.{Agree}
use Rattle.fc_tree.specs.Parts.{AreOwners, ArePartsOf, Parts}
use Rattle.fc_laws.specs.nodes.Edits.{Nodes}
use Rattle.fc_laws.specs.agree.Agreed.{AgreeOn}
use Rattle.fc_laws.proofs.lemmas.agree.BeforeLemmas.{agreed_law}
use Rattle.fc_outcomes.specs.Addition.{AdditionLaw}
use Rattle.fc_outcomes.specs.NewImage.{Outcome}
use Rattle.fc_refusals.specs.Slots.{IsFile}
use Rattle.fc_refusals.specs.declared.target.Target.{Target}
use Rattle.fc_writing.proofs.LeavesLemmas.{leaves_law}
use Rattle.fc_change.specs.declared.job.FileWords.{FileWords}
use Rattle.fc_change.specs.declared.job.Wants.{Wants}
use Rattle.fc_change.specs.After.{CanTakeOver, owners_admitted}
use Rattle.fc_change.specs.Needs.{AreWants}
use Rattle.fc_change.specs.Shortage.{shortage}
use Rattle.fc_commands.specs.declared.stages.Prepared.{Prepared}
use Rattle.fc_commands.specs.Jobs.{IsJobFor}
use Rattle.fc_commands.specs.Laws.{JobLaws}
use Rattle.fc_commands.specs.Promises.{ChangesParts, WritesPlacesOf}
use Rattle.fc_commands.specs.Run.{IsRun, KeepsBehind}
use Rattle.fc_commands.specs.Stages.{CanPrepareJob, IsPreparedFor}
use Rattle.fc_commands.specs.Written.{CanWriteOn, ChangeLeavesOn, IsChangedOn, IsGivenOn}
use Rattle.fc_commands.proofs.ArrivalLemmas.{Arrival, Brings}
use Rattle.fc_commands.proofs.NewArrivalLemmas.{new_alike}
use Rattle.fc_commands.proofs.NewOverLemmas as new
use Rattle.fc_commands.proofs.OverShortLemmas.{new_short}
use Rattle.fc_commands.proofs.OverStageLemmas.{Covers, can_prepare_job, covers, job_of, over_wants}
use Rattle.fc_commands.proofs.OverTakenLemmas as taken
use Rattle.fc_commands.proofs.RemovalRunLemmas.{new_view, parts, sound_in}
use Rattle.fc_commands.proofs.RemovalStageLemmas.{view_of}
pub use Rattle.fc_commands.proofs.RemovalRunLemmas.{no_full}

module _ (law : AdditionLaw) (m : Map) (nodes : Nodes) (owners : List Owner) (is : IsNewMap m) (other : Kind) (a : Agree other (parts (Layout.New m) nodes owners)) (t : Target) (words : FileWords) (few : words.len < 2 ^ 32)
    (name : List ℕ) where
  abbrev h : Parts
  h = parts (Layout.New m) nodes owners

  -- ---- of one path

  module _ (path : Path) (on : Covers h path t) where
    sound : AreSound (Layout.New m) a.listings
    sound = agreed_law.sound_by other h a

    agreed : AgreeOn other m nodes owners a.root a.listings
    agreed = agreed_law.named other h m refl is a

    file : IsFile nodes a.listings path t
    file = on (view_of h other a) sound (agreed_law.viewed other h a)

    pub can_prepare : CanPrepareJob h (job_of t words) name
    can_prepare = can_prepare_job h other a t path words on few name is (λ space at. absurd (cc)) (λ space bytes n at same. absurd (cc))

    pub can_write : (p : Prepared) (n : ℕ) → IsPreparedFor h (job_of t words) name p → disc_sectors (Layout.New m) ≤ n → CanWriteOn (Layout.New m) n p.ready
    can_write p n prep most = new.can_write m nodes owners is t words name p prep other a.root path a.listings agreed file n most

    pub can_take : (p : Prepared) (layout' : Layout) (number room : ℕ) → IsPreparedFor h (job_of t words) name p → IsGivenOn (Layout.New m) p.ready layout'
        → CanTakeOver layout' nodes (owners_admitted (Layout.New m) p.change.object number owners) room p.change
    can_take p (Layout.New m') number room prep given =
        taken.can_take (Layout.New m) (Layout.New m') nodes a.listings owners path t words _ number room p.change sound a.walked.held file
        (new_alike m m' (new.same_geometry m nodes owners is t words name p prep other a.root path a.listings agreed file m' given)) (new.change m nodes owners is t words name p prep)
    can_take p (Layout.Old now) number room prep given = absurd given

    agrees_at : (m' : Map) (nodes' : Nodes) (owners' : List Owner) (p : Prepared) (number : ℕ) → IsPreparedFor h (job_of t words) name p → IsRun h (parts (Layout.New m') nodes' owners') p number
        → Agree other (parts (Layout.New m') nodes' owners')
    agrees_at m' nodes' owners' p number prep run =
        subst (λ (ns : Nodes). Agree other (parts (Layout.New m') ns owners')) (sym run.nodes)
        (new.agrees m nodes owners is t words name p prep other a.root path a.listings agreed file m' owners' number run.given run.owners)

    -- The parts agree afterwards.
    pub agrees : (layout' : Layout) (nodes' : Nodes) (owners' : List Owner) (p : Prepared) (number : ℕ) → IsPreparedFor h (job_of t words) name p → IsRun h (parts layout' nodes' owners') p number
        → Agree other (parts layout' nodes' owners') × KeepsBehind layout'
    agrees (Layout.New m') nodes' owners' p number prep run = (agrees_at m' nodes' owners' p number prep run, tt)
    agrees (Layout.Old now) nodes' owners' p number prep run = absurd run.given

    -- ---- by any view

    module _ (c : Command) (bytes : List ℕ) (brings : Brings (Arrival.Saves words) path bytes c) (p : Prepared) (prep : IsPreparedFor h (job_of t words) name p) where
      seen : (kind : Kind) (was : List ℕ) (view : Opened) → OpensAs was kind view → ArePartsOf h view → (root : Node) × AgreeOn kind m nodes owners root view.listings
      seen kind was view opens held = new_view m nodes owners other is a kind was view opens held

      here : (kind : Kind) (root : Node) (view : Opened) → AgreeOn kind m nodes owners root view.listings → ArePartsOf h view → IsFile nodes view.listings path t
      here kind root view agreed' held = on view (sound_in (Layout.New m) nodes owners view (agreed_law.sound kind m nodes owners root view.listings agreed') held) held

      changes_at : (m' : Map) (nodes' : Nodes) (owners' : List Owner) (number : ℕ) (was image : List ℕ) → IsRun h (parts (Layout.New m') nodes' owners') p number
          → IsChangedOn (Layout.New m) (Layout.New m') p.ready bytes was image → ChangesParts c h (parts (Layout.New m') nodes' owners') was image
      changes_at m' nodes' owners' number was image run changed kind view opens held =
          let same = opened_as kind was view (Layout.New m) opens (sym held.layout) in
          let x = seen kind was view opens held in
          subst (λ (v : Opened). Outcome kind was image v c (parts (Layout.New m') nodes' owners')) same
          (subst (λ (ns : Nodes). Outcome kind was image (record { kind = kind; layout = Layout.New m; listings = view.listings }) c (parts (Layout.New m') ns owners')) (sym run.nodes)
          (new.outcome m nodes owners is t words name p prep kind x.0 path view.listings x.1 (here kind x.0 view x.1 held) m' owners' number run.given run.owners c bytes brings was image (subst (OpensAs was kind) (sym same) opens) changed
          law))

      -- The command is done.
      pub changes : (layout' : Layout) (nodes' : Nodes) (owners' : List Owner) (number : ℕ) (was image : List ℕ) → IsRun h (parts layout' nodes' owners') p number → IsChangedOn (Layout.New m) layout' p.ready bytes was image
          → ChangesParts c h (parts layout' nodes' owners') was image
      changes (Layout.New m') nodes' owners' number was image run changed = changes_at m' nodes' owners' number was image run changed
      changes (Layout.Old now) nodes' owners' number was image run changed = absurd run.given

      -- At any moment nothing else was written.
      pub places : (was image : List ℕ) → ChangeLeavesOn (Layout.New m) p.ready bytes was image → WritesPlacesOf c h was image
      places was image left kind view opens held =
          let x = seen kind was view opens held in
          new.places m nodes owners is t words name p prep kind was view opens held x.0 path x.1 (here kind x.0 view x.1 held) c bytes brings image (leaves_law.frame m p.ready bytes was image left)

    -- It is refused for want of space as what it wants is.
    pub short_is : (c : Command) (bytes : List ℕ) → Brings (Arrival.Saves words) path bytes c → (w : Wants) (v : Opened) → AreWants h (job_of t words) name w → AreSound v.layout v.listings → ArePartsOf h v → short v c ≡ shortage h w
    short_is c bytes brings w v are sound' held =
        new_short m nodes owners is t words path w (over_wants h t words name w are).0 bytes c brings v (sym held.layout) (subst (λ (l : Layout). AreSound l v.listings) (sym held.layout) sound') held.nodes
        (subst (λ (l : Layout). AreOwners owners nodes l (objects_of v.listings)) (sym held.layout) held.owners) (on v sound' held)

  -- ---- all of it

  pub over_laws : (bytes : List ℕ) (c : Command) → IsJobFor c h (job_of t words) name bytes → JobLaws other h (job_of t words) name bytes
  over_laws bytes c j =
      let first = covers h other a c t words name bytes j in
      record {
        can_prepare = can_prepare first.0 first.2;
        can_write = λ p n prep most. can_write first.0 first.2 p n prep most;
        can_take = λ p layout' number room prep given some. can_take first.0 first.2 p layout' number room prep given;
        agrees = λ p now number prep run. agrees first.0 first.2 now.layout now.nodes now.owners p number prep run;
        changes = λ d p now number was image k prep run changed long.
            (let its = covers h other a d t words name bytes k in changes its.0 its.2 d bytes its.1 p prep now.layout now.nodes now.owners number was image run changed);
        places = λ d p was image k prep left. (let its = covers h other a d t words name bytes k in places its.0 its.2 d bytes its.1 p prep was image left);
        short_is = λ d w v k are sound' held. (let its = covers h other a d t words name bytes k in short_is its.0 its.2 d bytes its.1 w v are sound' held);
        full = λ d v k full sound' held. absurd (no_full full);
      }
