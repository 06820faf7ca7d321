-- `save` and `create` over a file on an old map: what their stages need, what they promise, and what they answer.
use Rattle.std.proofs.Common.{◌≡◌, ◌<◌, ◌≤◌, ◌^◌, ℕ, List, refl, sym, subst, ◌∙◌}
use Rattle.fc_alloc.specs.declared.owner.Owner.{Owner}
use Rattle.fc_drafts.specs.declared.room.Room.TheVariants as rooms
use Rattle.fc_names.specs.Names.{Path}
use Rattle.fc_oldmap.specs.OldMap.{OldMapContent, IsOldMap}
use Rattle.fc_record.specs.declared.Kind.{Kind}
use Rattle.fc_model.specs.Command.{Command}
use Rattle.fc_image.specs.Layout.{Layout, disc_sectors}
use Rattle.fc_image.specs.Opening.{Opened}
use Rattle.fc_image.specs.Sound.{AreSound}
use Rattle.fc_image.specs.Stays.{OpensAs}
use Rattle.fc_image.specs.effects.Short.{short}
use Rattle.fc_changes.proofs.lemmas.old.BeforeLemmas.{opened_as}
use Rattle.fc_space.specs.Space.{PlacesSuffice}
use Rattle.fc_tree.specs.declared.node.Node.{Node}
use Rattle.fc_tree.specs.Agree.{Agree}
use Rattle.fc_tree.specs.Parts.{ArePartsOf, Parts}
use Rattle.fc_laws.specs.nodes.Edits.{Nodes}
use Rattle.fc_laws.specs.old.agree.Laws.{AgreeOn}
use Rattle.fc_laws.proofs.lemmas.old.agree.BeforeLemmas.{sound as old_sound}
use Rattle.fc_laws.proofs.lemmas.old.agree.GivenLemmas.{space_law}
use Rattle.fc_laws.proofs.lemmas.agree.BeforeLemmas.{agreed_law}
use Rattle.fc_outcomes.specs.Addition.{AdditionLaw}
use Rattle.fc_outcomes.specs.NewImage.{Outcome}
use Rattle.fc_refusals.specs.Slots.{IsFile}
use Rattle.fc_refusals.specs.declared.target.Target.{Target}
use Rattle.fc_writing.proofs.LeavesLemmas.{leaves_law}
use Rattle.fc_change.specs.declared.job.FileWords.{FileWords}
use Rattle.fc_change.specs.declared.job.Wants.{Wants}
use Rattle.fc_change.specs.After.{CanTakeOver, owners_admitted}
use Rattle.fc_change.specs.Needs.{AreWants}
use Rattle.fc_change.specs.OldSpace.{LieBehind}
use Rattle.fc_change.specs.Shortage.{shortage}
use Rattle.fc_commands.specs.declared.stages.Prepared.{Prepared}
use Rattle.fc_commands.specs.Jobs.{IsJobFor}
use Rattle.fc_commands.specs.Laws.{HasFront, JobLaws}
use Rattle.fc_commands.specs.Promises.{ChangesParts, WritesPlacesOf}
use Rattle.fc_commands.specs.Run.{IsRun, KeepsBehind}
use Rattle.fc_commands.specs.Stages.{CanPrepareJob, IsPreparedFor}
use Rattle.fc_commands.specs.Written.{CanWriteOn, ChangeLeavesOn, IsChangedOn, IsGivenOn}
use Rattle.fc_commands.proofs.ArrivalLemmas.{Arrival, Brings}
use Rattle.fc_commands.proofs.OldOverLemmas.{alike_now, can_free}
use Rattle.fc_commands.proofs.OldOverLemmas as old
use Rattle.fc_commands.proofs.OverShortLemmas.{old_short}
use Rattle.fc_commands.proofs.OverStageLemmas.{Covers, can_prepare_job, covers, job_of, over_wants}
use Rattle.fc_commands.proofs.OverTakenLemmas as taken
use Rattle.fc_commands.proofs.RemovalRunLemmas.{old_view, parts, sound_in}
use Rattle.fc_commands.proofs.RemovalStageLemmas.{view_of}
use Rattle.fc_commands.proofs.NewOverRunLemmas.{no_full}

module _ (law : AdditionLaw) (space : OldMapContent) (nodes : Nodes) (owners : List Owner) (is : IsOldMap space) (behind : LieBehind space) (suffice : PlacesSuffice (Layout.Old space)) (other : Kind)
    (a : Agree other (parts (Layout.Old space) nodes owners)) (t : Target) (words : FileWords) (few : words.len < 2 ^ 32) (name : List ℕ) where
  abbrev h : Parts
  h = parts (Layout.Old space) nodes owners

  -- ---- of one path

  module _ (path : Path) (on : Covers h path t) where
    sound : AreSound (Layout.Old space) a.listings
    sound = agreed_law.sound_by other h a

    agreed : AgreeOn other space nodes owners a.root a.listings
    agreed = space_law.named other h space refl is behind a

    file : IsFile nodes a.listings path t
    file = on (view_of h other a) sound (agreed_law.viewed other h a)

    pub can_prepare : CanPrepareJob h (job_of t words) name
    can_prepare = can_prepare_job h other a t path words on few name is (λ disc at. subst LieBehind (one space disc at) behind)
        (λ disc bytes n at same. can_free space nodes owners is behind t path other a on disc bytes n at same)
      where
        one : (x y : OldMapContent) → Layout.Old x ≡ Layout.Old y → x ≡ y
        one x y e = cc

    pub can_write : (p : Prepared) (n : ℕ) → IsPreparedFor h (job_of t words) name p → disc_sectors (Layout.Old space) ≤ n → CanWriteOn (Layout.Old space) n p.ready
    can_write p n prep most = old.can_write space nodes owners is t words name p prep other a.root path a.listings agreed file n most suffice

    pub can_take : (p : Prepared) (layout' : Layout) (number room : ℕ) → IsPreparedFor h (job_of t words) name p → IsGivenOn (Layout.Old space) p.ready layout'
        → CanTakeOver layout' nodes (owners_admitted (Layout.Old space) p.change.object number owners) room p.change
    can_take p (Layout.Old now) number room prep given =
        taken.can_take (Layout.Old space) (Layout.Old now) nodes a.listings owners path t words _ number room p.change sound a.walked.held file
        (alike_now space now (old.same_disc space nodes owners is t words name p prep other a.root path a.listings agreed file now (given ∙ old.map_is space nodes owners is t words name p prep)))
        (old.change space nodes owners is t words name p prep)
    can_take p (Layout.New m') number room prep given = absurd given

    agrees_at : (now : OldMapContent) (nodes' : Nodes) (owners' : List Owner) (p : Prepared) (number : ℕ) → IsPreparedFor h (job_of t words) name p → IsRun h (parts (Layout.Old now) nodes' owners') p number
        → Agree other (parts (Layout.Old now) nodes' owners') × LieBehind now
    agrees_at now nodes' owners' p number prep run =
        subst (λ (ns : Nodes). Agree other (parts (Layout.Old now) ns owners') × LieBehind now) (sym run.nodes)
        (old.agrees space nodes owners is t words name p prep other a.root path a.listings agreed file now (run.given ∙ old.map_is space nodes owners is t words name p prep) owners' number run.owners)

    -- The parts agree afterwards.
    pub agrees : (layout' : Layout) (nodes' : Nodes) (owners' : List Owner) (p : Prepared) (number : ℕ) → IsPreparedFor h (job_of t words) name p → IsRun h (parts layout' nodes' owners') p number
        → Agree other (parts layout' nodes' owners') × KeepsBehind layout'
    agrees (Layout.Old now) nodes' owners' p number prep run = agrees_at now nodes' owners' p number prep run
    agrees (Layout.New m') nodes' owners' p number prep run = absurd run.given

    -- ---- by any view

    module _ (c : Command) (bytes : List ℕ) (brings : Brings (Arrival.Saves words) path bytes c) (p : Prepared) (prep : IsPreparedFor h (job_of t words) name p) where
      seen : (kind : Kind) (was : List ℕ) (view : Opened) → OpensAs was kind view → ArePartsOf h view → (root : Node) × AgreeOn kind space nodes owners root view.listings
      seen kind was view opens held = old_view space nodes owners other is behind a kind was view opens held

      here : (kind : Kind) (root : Node) (view : Opened) → AgreeOn kind space nodes owners root view.listings → ArePartsOf h view → IsFile nodes view.listings path t
      here kind root view agreed' held = on view (sound_in (Layout.Old space) nodes owners view (old_sound kind space nodes owners root view.listings agreed') held) held

      changes_at : (now : OldMapContent) (nodes' : Nodes) (owners' : List Owner) (number : ℕ) (was image : List ℕ) → IsRun h (parts (Layout.Old now) nodes' owners') p number → HasFront (Layout.Old space) was
          → IsChangedOn (Layout.Old space) (Layout.Old now) p.ready bytes was image → ChangesParts c h (parts (Layout.Old now) nodes' owners') was image
      changes_at now nodes' owners' number was image run long changed kind view opens held =
          let same = opened_as kind was view (Layout.Old space) opens (sym held.layout) in
          let x = seen kind was view opens held in
          subst (λ (v : Opened). Outcome kind was image v c (parts (Layout.Old now) nodes' owners')) same
          (subst (λ (ns : Nodes). Outcome kind was image (record { kind = kind; layout = Layout.Old space; listings = view.listings }) c (parts (Layout.Old now) ns owners')) (sym run.nodes)
          (old.outcome space nodes owners is t words name p prep kind x.0 path view.listings x.1 (here kind x.0 view x.1 held) now (run.given ∙ old.map_is space nodes owners is t words name p prep) owners' number run.owners c bytes brings
          was image (subst (OpensAs was kind) (sym same) opens) long changed law))

      -- The command is done.
      pub changes : (layout' : Layout) (nodes' : Nodes) (owners' : List Owner) (number : ℕ) (was image : List ℕ) → IsRun h (parts layout' nodes' owners') p number → HasFront (Layout.Old space) was
          → IsChangedOn (Layout.Old space) layout' p.ready bytes was image → ChangesParts c h (parts layout' nodes' owners') was image
      changes (Layout.Old now) nodes' owners' number was image run long changed = changes_at now nodes' owners' number was image run long changed
      changes (Layout.New m') nodes' owners' number was image run long changed = absurd run.given

      -- At any moment nothing else was written.
      pub places : (was image : List ℕ) → ChangeLeavesOn (Layout.Old space) p.ready bytes was image → WritesPlacesOf c h was image
      places was image left kind view opens held =
          let x = seen kind was view opens held in
          old.places space nodes owners is t words name p prep kind was view opens held x.0 path x.1 (here kind x.0 view x.1 held) c bytes brings image (leaves_law.old_frame space p.ready bytes was image left)

    -- It is refused for want of space as what it wants is.
    pub short_is : (c : Command) (bytes : List ℕ) → Brings (Arrival.Saves words) path bytes c → (w : Wants) (v : Opened) → AreWants h (job_of t words) name w → AreSound v.layout v.listings → ArePartsOf h v → short v c ≡ shortage h w
    short_is c bytes brings w v are sound' held =
        old_short space nodes owners is t words path w (over_wants h t words name w are).0 (over_wants h t words name w are).1 bytes c brings v (sym held.layout) (subst (λ (l : Layout). AreSound l v.listings) (sym held.layout) sound')
        held.nodes (on v sound' held)

  -- ---- all of it

  pub over_laws : (bytes : List ℕ) (c : Command) → IsJobFor c h (job_of t words) name bytes → JobLaws other h (job_of t words) name bytes
  over_laws bytes c j =
      let first = covers h other a c t words name bytes j in
      record {
        can_prepare = can_prepare first.0 first.2;
        can_write = λ p n prep most. can_write first.0 first.2 p n prep most;
        can_take = λ p layout' number room prep given some. can_take first.0 first.2 p layout' number room prep given;
        agrees = λ p now number prep run. agrees first.0 first.2 now.layout now.nodes now.owners p number prep run;
        changes = λ d p now number was image k prep run changed long.
            (let its = covers h other a d t words name bytes k in changes its.0 its.2 d bytes its.1 p prep now.layout now.nodes now.owners number was image run long changed);
        places = λ d p was image k prep left. (let its = covers h other a d t words name bytes k in places its.0 its.2 d bytes its.1 p prep was image left);
        short_is = λ d w v k are sound' held. (let its = covers h other a d t words name bytes k in short_is its.0 its.2 d bytes its.1 w v are sound' held);
        full = λ d v k full sound' held. absurd (no_full full);
      }
