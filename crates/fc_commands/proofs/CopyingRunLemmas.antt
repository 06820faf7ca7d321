-- `rename` that copies its file, where no directory grows: what its stages need, what it promises, and what it answers.
use Rattle.std.proofs.Common.{◌≡◌, ◌<◌, ◌^◌, ℕ, true, List, refl, sym, ap, subst, ◌∙◌, None}
use Rattle.std.specs.Prelude.{IsSome, is_some}
use Rattle.std.specs.FinMap.{get}
use Rattle.fc_alloc.specs.declared.owner.Owner.{Owner}
use Rattle.fc_drafts.specs.Entries.{renamed_entry}
use Rattle.fc_names.specs.Names.{Path}
use Rattle.fc_record.specs.declared.Kind.{Kind}
use Rattle.fc_newmap.specs.Map.{Map}
use Rattle.fc_newmap.specs.NewMap.{IsNewMap}
use Rattle.fc_model.specs.Command.{Command}
use Rattle.fc_image.specs.Layout.{Layout}
use Rattle.fc_image.specs.Objects.{objects_of}
use Rattle.fc_image.specs.Opening.{Opened}
use Rattle.fc_image.specs.Sound.{AreSound}
use Rattle.fc_image.specs.Stays.{OpensAs}
use Rattle.fc_image.specs.effects.Short.{short}
use Rattle.fc_changes.proofs.lemmas.old.BeforeLemmas.{opened_as}
use Rattle.fc_space.specs.Space.{PlacesSuffice}
use Rattle.fc_tree.specs.Agree.{Agree}
use Rattle.fc_tree.specs.Parts.{AreOwners, ArePartsOf, Parts}
use Rattle.fc_laws.specs.nodes.Edits.{Nodes}
use Rattle.fc_laws.specs.agree.Agreed.{AgreeOn, parts_with}
use Rattle.fc_laws.proofs.lemmas.agree.BeforeLemmas.{agreed_law}
use Rattle.fc_outcomes.specs.Copying.{CopyingLaw}
use Rattle.fc_outcomes.specs.NewImage.{Outcome}
use Rattle.fc_refusals.specs.declared.target.Renaming.{Renaming}
use Rattle.fc_writing.proofs.LeavesLemmas.{leaves_law}
use Rattle.fc_change.specs.declared.job.Job.TheVariants as jobs
use Rattle.fc_change.specs.declared.job.Wants.{Wants}
use Rattle.fc_change.specs.After.{AreOwnersAfter, CanRegrowNode, CanTakeOver, CanTurnNode, CanTurnOwner, nodes_after, owners_admitted}
use Rattle.fc_change.specs.Drafts.{told}
use Rattle.fc_change.specs.Needs.{AreWants, is_copied, len_at}
use Rattle.fc_change.specs.Prepared.{HasPlace}
use Rattle.fc_change.specs.Shortage.{shortage}
use Rattle.fc_commands.specs.declared.stages.Prepared.{Prepared}
use Rattle.fc_commands.proofs.RoomyLemmas.{NoneGrows}
use Rattle.fc_commands.specs.Laws.{JobLaws}
use Rattle.fc_commands.specs.Promises.{ChangesParts, WritesPlacesOf}
use Rattle.fc_commands.specs.Run.{KeepsBehind}
use Rattle.fc_commands.specs.Stages.{CanPrepareJob, IsPreparedFor}
use Rattle.fc_commands.specs.Written.{ChangeLeavesOn, IsChangedOn, IsGivenOn}
use Rattle.fc_commands.proofs.CopyingAfterLemmas.{agrees as they_agree, can_turn_owner, owners_stay}
use Rattle.fc_commands.proofs.CopyingFileLemmas.{copied_file}
use Rattle.fc_commands.proofs.CopyingPlaceLemmas.{copy_wanted}
use Rattle.fc_commands.proofs.CopyingPreparedLemmas.{IsCopyAsked, change, none, placed, turned}
use Rattle.fc_commands.proofs.CopyingShortLemmas.{copy_short}
use Rattle.fc_commands.proofs.CopyingStageLemmas.{can_prepare_job}
use Rattle.fc_commands.proofs.CopyingWrittenLemmas.{outcome}
use Rattle.fc_commands.proofs.MoveLemmas.{IsSeen}
use Rattle.fc_commands.proofs.MoveRunLemmas.{new_seen}
use Rattle.fc_commands.proofs.MoveShortLemmas.{full_short}
use Rattle.fc_commands.proofs.MoveStageLemmas.{IsRenamer, places as have_places, renamer}
use Rattle.fc_commands.proofs.MoveTellLemmas.{told_by}
use Rattle.fc_commands.proofs.NewCopyingLemmas.{can_write, places}
use Rattle.fc_commands.proofs.RemovalRunLemmas.{new_view}
use Rattle.fc_commands.proofs.TargetLemmas as target_of

module _ (m : Map) (nodes : Nodes) (owners : List Owner) (is_map : IsNewMap m) (r : Renaming) (name : List ℕ) (grows : NoneGrows (parts_with m nodes owners) (jobs.Move r) name)
    (copied : is_copied (parts_with m nodes owners) r ≡ true) where
  abbrev h : Parts
  h = parts_with m nodes owners

  ask : (p : Prepared) → IsPreparedFor h (jobs.Move r) name p → IsCopyAsked m nodes owners r name p
  ask p prep = record { is_map = is_map; prep = prep; grows = grows; copied = copied }

  has_some : (n : ℕ) → HasPlace (parts_with m nodes owners) n → IsSome (get nodes n)
  has_some n y = ap is_some y.there

  module _ (from to : Path) (it : IsRenamer (parts_with m nodes owners) from to r name) (kind : Kind) (a : Agree kind (parts_with m nodes owners)) where
    on : AgreeOn kind m nodes owners a.root a.listings
    on = agreed_law.named kind h m refl is_map a

    seen : IsSeen (Layout.New m) nodes a.listings from to r name
    seen = new_seen m nodes owners kind a.root a.listings from to r name on it

    prepares : len_at nodes r.target.node < 2 ^ 32 → CanPrepareJob (parts_with m nodes owners) (jobs.Move r) name
    prepares few =
        can_prepare_job m nodes owners a.listings from to r name seen (copied_file m nodes owners a.listings from to r seen.sound seen.held seen.known kind on.owned copied) grows copied few

    takes : (p : Prepared) (prep : IsPreparedFor (parts_with m nodes owners) (jobs.Move r) name p) (layout : Layout) (number room : ℕ) → IsGivenOn (Layout.New m) p.ready layout
        → CanTakeOver layout nodes (owners_admitted (Layout.New m) p.change.object number owners) room p.change
    takes p prep (Layout.Old space) number room given = absurd given
    takes p prep (Layout.New m') number room given =
        let q = ask p prep in
        let ch = change m nodes owners r name p q kind a.root a.listings on from to seen in
        let at = placed m nodes owners r name p q kind a.root a.listings on from to seen in
        let e = renamed_entry ch.was name at.place.address in
        let same = owners_stay m nodes owners r name p q kind a.root a.listings on from to seen m' given number in
        record {
          says = λ s there.
              (let t = told_by nodes (told nodes (jobs.Move r) name None e) p.change.says.items ch.tells s there in
              subst (λ (n : ℕ). IsSome (get nodes n)) (sym t.2.number) (has_some t.0.0 (have_places (Layout.New m) nodes a.listings from to r name seen h refl refl e t.0 t.1)));
          object = subst (CanTurnNode nodes room) (sym (turned m nodes owners r name p q kind a.root a.listings on from to seen))
              (target_of.has_node (Layout.New m) nodes a.listings seen.sound seen.held from r.target seen.known.target);
          owner = subst (λ (os : List Owner). CanTurnOwner (Layout.New m') os p.change.object) (sym same) (can_turn_owner m nodes owners r name p q kind a.root a.listings on from to seen m' given);
          grown = subst (CanRegrowNode nodes (owners_admitted (Layout.New m) p.change.object number owners)) (sym (none m nodes owners r name p q kind a.root a.listings on from to seen)) tt;
        }

    agrees : (p : Prepared) (prep : IsPreparedFor (parts_with m nodes owners) (jobs.Move r) name p) (layout : Layout) (nodes' : Nodes) (owners' : List Owner) (number : ℕ) → IsGivenOn (Layout.New m) p.ready layout
        → nodes' ≡ nodes_after p.change number nodes → AreOwnersAfter layout nodes p.change (owners_admitted (Layout.New m) p.change.object number owners) owners'
        → Agree kind (record { layout = layout; nodes = nodes'; owners = owners' }) × KeepsBehind layout
    agrees p prep (Layout.Old space) nodes' owners' number given nodes_are run = absurd given
    agrees p prep (Layout.New m') nodes' owners' number given nodes_are run = (
      subst (λ (ns : Nodes). Agree kind (parts_with m' ns owners')) (sym nodes_are) (they_agree m nodes owners r name p (ask p prep) kind a.root a.listings on from to seen m' given owners' number run),
      tt,
    )

    changes : CopyingLaw → PlacesSuffice (Layout.New m) → (p : Prepared) (prep : IsPreparedFor (parts_with m nodes owners) (jobs.Move r) name p) (layout : Layout) (nodes' : Nodes) (owners' : List Owner) (number : ℕ) (was bytes image : List ℕ)
        → IsGivenOn (Layout.New m) p.ready layout → nodes' ≡ nodes_after p.change number nodes → AreOwnersAfter layout nodes p.change (owners_admitted (Layout.New m) p.change.object number owners) owners'
        → IsChangedOn (Layout.New m) layout p.ready bytes was image → ChangesParts (Command.Rename from to) (parts_with m nodes owners) (record { layout = layout; nodes = nodes'; owners = owners' }) was image
    changes law suffice p prep (Layout.Old space) nodes' owners' number was bytes image given nodes_are run changed other view opens held = absurd given
    changes law suffice p prep (Layout.New m') nodes' owners' number was bytes image given nodes_are run changed other view opens held =
        let at : view.layout ≡ Layout.New m = sym held.layout in
        let same = opened_as other was view (Layout.New m) opens at in
        let by = new_view m nodes owners kind is_map a other was view opens held in
        let x = new_seen m nodes owners other by.0 view.listings from to r name by.1 it in
        subst (λ (w : Opened). Outcome other was image w (Command.Rename from to) (parts_with m' nodes' owners')) same
        (subst (λ (ns : Nodes). Outcome other was image (record { kind = other; layout = Layout.New m; listings = view.listings }) (Command.Rename from to) (parts_with m' ns owners')) (sym nodes_are)
        (outcome m nodes owners r name p (ask p prep) other by.0 view.listings by.1 from to x m' given was bytes image (subst (OpensAs was other) (sym same) opens) changed owners' number run law suffice))

    at_places : (p : Prepared) (prep : IsPreparedFor (parts_with m nodes owners) (jobs.Move r) name p) (was bytes image : List ℕ) → ChangeLeavesOn (Layout.New m) p.ready bytes was image
        → WritesPlacesOf (Command.Rename from to) (parts_with m nodes owners) was image
    at_places p prep was bytes image left other view opens held =
        let by = new_view m nodes owners kind is_map a other was view opens held in
        places m nodes owners r name p (ask p prep) other by.0 view.listings by.1 from to (new_seen m nodes owners other by.0 view.listings from to r name by.1 it) was view opens (sym held.layout) refl image
        (leaves_law.frame m p.ready bytes was image left)

  shorts : (from to : Path) → IsRenamer (parts_with m nodes owners) from to r name → (w : Wants) (v : Opened) → AreWants (parts_with m nodes owners) (jobs.Move r) name w → AreSound v.layout v.listings
      → ArePartsOf (parts_with m nodes owners) v → short v (Command.Rename from to) ≡ shortage (parts_with m nodes owners) w
  shorts from to it w v are sound held =
      let at : v.layout ≡ Layout.New m = sym held.layout in
      let sound' = subst (λ (l : Layout). AreSound l v.listings) at sound in
      let known = it.known v sound held in
      let file = copied_file m nodes owners v.listings from to r sound' held.nodes known v.kind (subst (λ (l : Layout). AreOwners owners nodes l (objects_of v.listings)) at held.owners) copied in
      copy_short m nodes owners v from to r name w at sound' held.nodes known it.name_is file (copy_wanted m nodes owners r name w grows copied are)

-- the laws of such a `rename`
pub copy_laws : CopyingLaw → (m : Map) (nodes : Nodes) (owners : List Owner) (r : Renaming) (from to : Path) (name bytes : List ℕ) (kind : Kind) → IsNewMap m → PlacesSuffice (Layout.New m)
    → Agree kind (parts_with m nodes owners) → IsRenamer (parts_with m nodes owners) from to r name → len_at nodes r.target.node < 2 ^ 32 → NoneGrows (parts_with m nodes owners) (jobs.Move r) name
    → is_copied (parts_with m nodes owners) r ≡ true → JobLaws kind (parts_with m nodes owners) (jobs.Move r) name bytes
copy_laws law m nodes owners r from to name bytes kind is_map suffice a it few grows copied =
    let h = parts_with m nodes owners in
    let on = agreed_law.named kind h m refl is_map a in
    record {
      can_prepare = prepares m nodes owners is_map r name grows copied from to it kind a few;
      can_write = λ p n prep room.
          can_write m nodes owners r name p (ask m nodes owners is_map r name grows copied p prep) kind a.root a.listings on from to (seen m nodes owners is_map r name grows copied from to it kind a) n room;
      can_take = λ p layout number room prep given more. takes m nodes owners is_map r name grows copied from to it kind a p prep layout number room given;
      agrees = λ p now number prep run. agrees m nodes owners is_map r name grows copied from to it kind a p prep now.layout now.nodes now.owners number run.given run.nodes run.owners;
      changes = λ c p now number was image j prep run changed long.
          (let its = renamer h kind a c r name bytes j in
          subst (λ (d : Command). ChangesParts d h now was image) (sym its.2)
          (changes m nodes owners is_map r name grows copied its.0 its.1 its.3 kind a law suffice p prep now.layout now.nodes now.owners number was bytes image run.given run.nodes run.owners changed));
      places = λ c p was image j prep left.
          (let its = renamer h kind a c r name bytes j in
          subst (λ (d : Command). WritesPlacesOf d h was image) (sym its.2) (at_places m nodes owners is_map r name grows copied its.0 its.1 its.3 kind a p prep was bytes image left));
      short_is = λ c w v j are sound held.
          (let its = renamer h kind a c r name bytes j in ap (short v) its.2 ∙ shorts m nodes owners is_map r name grows copied its.0 its.1 its.3 w v are sound held);
      full = λ c v j full sound held.
          (let its = renamer h kind a c r name bytes j in ap (short v) its.2 ∙ full_short v nodes sound held.nodes its.0 its.1 r (its.3.known v sound held) name its.3.name_is full);
    }
