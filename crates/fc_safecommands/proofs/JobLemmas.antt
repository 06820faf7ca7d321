-- The laws of each job in the safe mode.
use Rattle.std.proofs.Common.{◌≡◌, ◌<◌, ◌^◌, ℕ, Bool, true, false, List, refl, sym, subst, ◌∙◌, Option, Some, None}
use Rattle.std.specs.Option.{option_map}
use Rattle.fc_names.specs.Names.{Path}
use Rattle.fc_alloc.specs.declared.owner.Owner.{Owner}
use Rattle.fc_record.specs.declared.Kind.{Kind}
use Rattle.fc_newmap.specs.Map.{Map}
use Rattle.fc_newmap.specs.NewMap.{IsNewMap}
use Rattle.fc_model.specs.Command.{Command}
use Rattle.fc_image.specs.Layout.{Layout}
use Rattle.fc_image.specs.effects.Short.{Growth as Grown}
use Rattle.fc_tree.specs.Agree.{Agree}
use Rattle.fc_tree.specs.Parts.{Parts}
use Rattle.fc_laws.specs.nodes.Edits.{Nodes}
use Rattle.fc_laws.specs.agree.Agreed.{parts_with}
use Rattle.fc_refusals.specs.declared.target.Renaming.{Renaming}
use Rattle.fc_refusals.specs.declared.target.Slot.TheVariants as slots
use Rattle.fc_change.specs.declared.job.Job.{Job}
use Rattle.fc_change.specs.declared.job.Job.TheVariants as jobs
use Rattle.fc_change.specs.declared.job.Wants.{Wants}
use Rattle.fc_change.specs.Needs.{AreWants, is_copied, len_at}
use Rattle.fc_holdings.specs.Holdings.{TellsVersion}
use Rattle.fc_commands.specs.Jobs.{HasLaws, IsJobFor, IsJudged}
use Rattle.fc_commands.proofs.ArrivalLemmas.{Arrival, IsShort, job_of}
use Rattle.fc_commands.proofs.GrownMoveBigLemmas.{growth_to}
use Rattle.fc_commands.proofs.GrownMoveNeedLemmas.{grows_by as move_grows_by}
use Rattle.fc_commands.proofs.GrownNeedLemmas.{grows_by, to_bytes}
use Rattle.fc_commands.proofs.MoveStageLemmas.{IsRenamer, renamer}
use Rattle.fc_commands.proofs.RemovalStageLemmas.{may_go}
use Rattle.fc_commands.proofs.RewordingLemmas.{Wording}
use Rattle.fc_safe.specs.Suits.{Suits}
use Rattle.fc_safeedits.specs.SafeAddition.{SafeAdditionLaw}
use Rattle.fc_safeedits.specs.SafeCopying.{SafeCopyingLaw}
use Rattle.fc_safeedits.specs.SafeGrownCopying.{SafeGrownCopyingLaw}
use Rattle.fc_safeedits.specs.SafeDeletion.{SafeDeletionLaw}
use Rattle.fc_safeedits.specs.SafeRewording.{SafeRewordingLaw}
use Rattle.fc_safeedits.specs.SafeSpace.{SafeSpaceLaw}
use Rattle.fc_safeedits.specs.SafeWriting.{SafeWritingLaw}
use Rattle.fc_safeedits.specs.SafeGrownAddition.{SafeGrownAdditionLaw}
use Rattle.fc_safeedits.specs.SafeGrownMoving.{SafeGrownMovingLaw}
use Rattle.fc_safeedits.specs.SafeMoving.{SafeMovingLaw}
use Rattle.fc_safecommands.specs.Laws.{SafeCourseLaw, SafeJobLaws}
use Rattle.fc_safecommands.proofs.ComingJobLemmas.{coming_laws}
use Rattle.fc_safecommands.proofs.CopyGrownJobLemmas.{copy_grown_laws}
use Rattle.fc_safecommands.proofs.CopyMoveJobLemmas.{copy_move_laws}
use Rattle.fc_safecommands.proofs.GrownJobLemmas.{grown_laws}
use Rattle.fc_safecommands.proofs.GrownMoveLawsLemmas.{grown_move_laws}
use Rattle.fc_safecommands.proofs.MovingJobLemmas.{moving_laws}
use Rattle.fc_safecommands.proofs.RemovalJobLemmas.{removal_laws}
use Rattle.fc_safecommands.proofs.RewordingJobLemmas.{rewording_laws}
use Rattle.fc_safecommands.proofs.SavingJobLemmas.{saving_laws}

-- what the edits promise
pub record EditLaws : Type 0 where
  pub deletes : SafeDeletionLaw
  pub rewords : SafeRewordingLaw
  pub adds : SafeAdditionLaw
  pub grows : SafeGrownAdditionLaw
  pub moves : SafeMovingLaw
  pub grown_moves : SafeGrownMovingLaw
  pub copies : SafeCopyingLaw
  pub grown_copies : SafeGrownCopyingLaw

module _ (space : SafeSpaceLaw) (writing : SafeWritingLaw) (edits : EditLaws) where
  module _ (kind : Kind) (m : Map) (nodes : Nodes) (owners : List Owner) (is : IsNewMap m) (tells : TellsVersion (Layout.New m)) (suits : Suits (Layout.New m) nodes) (a : Agree kind (parts_with m nodes owners)) where
    -- of what comes, whether a directory grows by it or not
    arriving : (dir : ℕ) (x : Arrival) (name bytes : List ℕ) → IsShort x → (c : Command) → IsJobFor c (parts_with m nodes owners) (job_of dir x) name bytes → SafeJobLaws kind m (parts_with m nodes owners) (job_of dir x) name bytes
    arriving dir x name bytes few c j = let g = grows_by (parts_with m nodes owners) kind a c dir x name bytes j in by g.0 g.1
      where
        by : (o : Option ℕ) → ((w : Wants) → AreWants (parts_with m nodes owners) (job_of dir x) name w → w.grows ≡ option_map (to_bytes dir) o) → SafeJobLaws kind m (parts_with m nodes owners) (job_of dir x) name bytes
        by None none = coming_laws space writing edits.adds kind m nodes owners is a suits dir x few name bytes none c j
        by (Some n) some = grown_laws space writing edits.grows kind m nodes owners is a suits tells dir x few name bytes (λ w are. (to_bytes dir n, some w are)) c j

    -- of what gets another name, whether it is copied and a directory grows by it or not
    renaming : (r : Renaming) (from to : Path) (name bytes : List ℕ) → IsRenamer (parts_with m nodes owners) from to r name → len_at nodes r.target.node < 2 ^ 32 → (c : Command) → IsJobFor c (parts_with m nodes owners) (jobs.Move r) name bytes
        → SafeJobLaws kind m (parts_with m nodes owners) (jobs.Move r) name bytes
    renaming r from to name bytes it few c j = let g = move_grows_by m nodes owners r from to name kind is a it in by g.0 g.1 (is_copied (parts_with m nodes owners) r) refl
      where
        by : (o : Option Grown) → ((w : Wants) → AreWants (parts_with m nodes owners) (jobs.Move r) name w → w.grows ≡ option_map (growth_to r) o) → (b : Bool) → is_copied (parts_with m nodes owners) r ≡ b
            → SafeJobLaws kind m (parts_with m nodes owners) (jobs.Move r) name bytes
        by None none true copied = copy_move_laws space writing edits.copies kind m nodes owners is a r from to name bytes it suits copied none few
        by None none false plain = moving_laws space writing edits.moves kind m nodes owners is a r from to name bytes it suits plain none
        by (Some g) some true copied = copy_grown_laws space writing edits.grown_copies kind m nodes owners is a r from to name bytes it suits copied few (growth_to r g) some tells
        by (Some g) some false plain = grown_move_laws space writing edits.grown_moves kind m nodes owners is a r name bytes suits tells plain (growth_to r g) some c j

    of_map : (job : Job) (name bytes : List ℕ) → HasLaws (parts_with m nodes owners) job name → IsJudged (parts_with m nodes owners) job name bytes → SafeJobLaws kind m (parts_with m nodes owners) job name bytes
    of_map (jobs.Removal t) name bytes has judged =
        let mine = may_go (parts_with m nodes owners) kind a judged.0 t name bytes judged.1 in removal_laws space writing edits.deletes kind m nodes owners is a t mine.0 mine.2 suits name bytes
    of_map (jobs.Words t words) name bytes has judged = rewording_laws space writing edits.rewords kind m nodes owners is a t (Wording.Set words) has suits name bytes judged.0 judged.1
    of_map (jobs.Marks t attrs) name bytes has judged = rewording_laws space writing edits.rewords kind m nodes owners is a t (Wording.Mark attrs) has suits name bytes judged.0 judged.1
    of_map (jobs.Directory dir) name bytes has judged = arriving dir Arrival.Makes name bytes tt judged.0 judged.1
    of_map (jobs.File (slots.New dir) words) name bytes has judged = arriving dir (Arrival.Saves words) name bytes has judged.0 judged.1
    of_map (jobs.File (slots.Over t) words) name bytes has judged = saving_laws space writing edits.adds kind m nodes owners is a suits t words has name bytes judged.0 judged.1
    of_map (jobs.Move r) name bytes has judged =
        let mine = renamer (parts_with m nodes owners) kind a judged.0 r name bytes judged.1 in renaming r mine.0 mine.1 name bytes mine.3 has judged.0 judged.1

  pub laws_of : SafeCourseLaw
  laws_of kind m h job name bytes has is tells at suits a judged =
      subst (λ (l : Layout). (let k : Parts = record { layout = l; nodes = h.nodes; owners = h.owners } in HasLaws k job name → Suits l k.nodes → Agree kind k → IsJudged k job name bytes → SafeJobLaws kind m k job name bytes))
      (sym at) (λ has suits a judged. of_map kind m h.nodes h.owners is tells suits a job name bytes has judged) has suits a judged
