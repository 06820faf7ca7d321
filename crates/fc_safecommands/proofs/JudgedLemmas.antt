-- A judged command's job, whichever it is, is refused for want of space in the safe mode as the command is.
use Rattle.std.proofs.Common.{◌≡◌, ℕ, List, refl, sym, subst, ◌∙◌, Option, Some}
use Rattle.fc_names.specs.declared.refusal.Refusal.TheVariants as refusals
use Rattle.fc_record.specs.declared.Kind.{Kind}
use Rattle.fc_newmap.specs.Map.{Map}
use Rattle.fc_model.specs.Command.{Command}
use Rattle.fc_drafts.specs.declared.room.Room.TheVariants as rooms
use Rattle.fc_image.specs.Opening.{Opened}
use Rattle.fc_image.specs.Sound.{AreSound}
use Rattle.fc_image.specs.safe.SafeShort.{SafeRefusal, safe_refusal}
use Rattle.fc_tree.specs.Parts.{ArePartsOf, Parts}
use Rattle.fc_change.specs.declared.job.Job.{Job}
use Rattle.fc_change.specs.declared.job.Wants.{Wants}
use Rattle.fc_change.specs.Needs.{AreWants, HasRoomOf}
use Rattle.fc_safe.specs.FirstNeeds.{first_shortage}
use Rattle.fc_safecommands.specs.Jobs.{IsJudgedIn}
use Rattle.fc_safecommands.proofs.lemmas.JobLemmas.{job_law}
use Rattle.fc_safecommands.proofs.lemmas.JudgedLemmas.{judged_law}
use Rattle.fc_safecommands.proofs.SuitsLemmas.{refusal_new}

module _ (kind : Kind) (m : Map) (h : Parts) (c : Command) (job : Job) (name bytes : List ℕ) (is : IsJudgedIn kind m h c job name bytes) (v : Opened) (sound : AreSound v.layout v.listings) (parts : ArePartsOf h v) where
  pub short_as : (w : Wants) → AreWants h job name w → safe_refusal v c ≡ first_shortage m h job w
  short_as w are = refusal_new v c m (sym parts.layout ∙ is.layout) ∙ job_law.short m h v c job w (judged_law.wanted kind m h c job name bytes w v is sound parts are)

  pub full_as : HasRoomOf h.nodes job name rooms.Full → safe_refusal v c ≡ Some (SafeRefusal.Refused refusals.DirFull)
  full_as full = refusal_new v c m (sym parts.layout ∙ is.layout) ∙ job_law.full m h v c job (judged_law.full kind m h c job name bytes v is sound parts full)
