-- What follows from a judgment.
use Rattle.std.proofs.Common.{◌≡◌, ◌⊎◌, inl, inr, ⊎_elim, ℕ, Bool, false, List, refl, sym, ap, subst, ◌∙◌, arith, Option, Some, None}
use Rattle.std.specs.Prelude.{Err, IsFalse, Ok, OnOk, Result}
use Rattle.fc_device.specs.declared.disk.Disk.{Ghosts}
use Rattle.fc_device.specs.Calls.{StopsAndExitsLeave}
use Rattle.fc_device.proofs.DiskLaws.{Laws}
use Rattle.fc_device.proofs.StopLemmas.{keeps_weaker}
use Rattle.fc_names.specs.declared.refusal.Refusal.{Refusal}
use Rattle.fc_names.specs.declared.name.NameForm.{NameForm}
use Rattle.fc_model.specs.Answer.{first_of, reasons}
use Rattle.fc_model.specs.Command.{Command}
use Rattle.fc_model.specs.Tree.{Tree}
use Rattle.fc_image.specs.Layout.{Layout, dir_form}
use Rattle.fc_image.specs.Objects.{tree_of}
use Rattle.fc_image.specs.Opening.{Opened}
use Rattle.fc_image.specs.Sound.{AreSound}
use Rattle.fc_image.specs.Walk.{Listing}
use Rattle.fc_image.specs.effects.Short.{short}
use Rattle.fc_tree.specs.Parts.{ArePartsOf, Parts}
use Rattle.fc_change.specs.Jobs.{IsJob}
use Rattle.fc_change.specs.declared.job.Job.{Job}
use Rattle.fc_holdings.specs.declared.error.CommandError.{CommandError}
use Rattle.fc_holdings.specs.declared.error.CommandError.TheVariants.{Refused, NoMemory, DiskFault}
use Rattle.fc_holdings.specs.declared.holdings.Holdings.{Holdings}
use Rattle.fc_holdings.specs.Answers.{AnswersBy}
use Rattle.fc_commands.specs.Answers.{AnswersShort}
use Rattle.fc_holdings.specs.Holdings.{Stands, parts_of}
use Rattle.fc_commands.specs.Jobs.{HasBytes, IsJobFor}
use Rattle.fc_commands.specs.Promises.{ChangeKeeps, IsAsBefore, JobLeaves}
use Rattle.fc_commands.proofs.AnswerLemmas.{no_memory, refused_by}
use Rattle.fc_commands.proofs.KeepLemmas.{kept_same}
use Rattle.fc_commands.proofs.MomentLemmas.{nothing_left}
use Rattle.fc_commands.specs.declared.judged.Judged.{Judged}
use Rattle.fc_commands.specs.Answers.{AnswersOver, refusal_in}
use Rattle.fc_commands.specs.Judgments.{CommandLeaves, IsJudgment, IsRefusalOf, RefusesBy}
use Rattle.fc_commands.proofs.ReasonLemmas.{first_last, first_some, rights}

-- ---- refused by the tree

pub judged_refused : (read_only : Bool) (c : Command) (h : Parts) (error : CommandError) → IsRefusalOf read_only c h error → AnswersOver {T = Unit {0}} read_only c h (Err error)
judged_refused read_only c h (Refused r) is v image sound held =
    refused_by (Unit {0}) (refusal_in v image read_only c) r (first_some (reasons (tree_of image v.layout v.listings) (dir_form v.layout) read_only c) (short v c) r (is v image sound held))
judged_refused read_only c h NoMemory is v image sound held = no_memory (Unit {0}) (refusal_in v image read_only c)
judged_refused read_only c h DiskFault is v image sound held = absurd is

pub no_fault : (read_only : Bool) (c : Command) (h : Parts) (error : CommandError) → IsRefusalOf read_only c h error → error ≡ DiskFault → ⊥
no_fault read_only c h (Refused r) is e = cc
no_fault read_only c h NoMemory is e = cc
no_fault read_only c h DiskFault is e = absurd is

-- nothing has changed
pub judged_kept : {D : Type 0} (d : Ghosts D) (disk : D) (was : Holdings) (read_only : Bool) (c : Command) (error : CommandError) → Stands d was disk → IsFalse (d.pending disk) → IsRefusalOf read_only c (parts_of was) error
    → ChangeKeeps d disk disk was was (Err error)
judged_kept d disk was read_only c error stands quiet is = kept_same d disk was error stands quiet (no_fault read_only c (parts_of was) error is)

-- The judge's error is the first reason.
pub not_judged : (read_only : Bool) (c : Command) (h : Parts) (bytes : List ℕ) (refusal : Refusal) (result : Result Judged CommandError) (error : CommandError) → result ≡ Err error → error ≡ Refused refusal
    → RefusesBy (Some refusal) read_only c h → IsJudgment read_only c h bytes result
not_judged read_only c h bytes refusal result error at is refuses =
    subst (IsJudgment read_only c h bytes) (sym (at ∙ ap (λ (e : CommandError). let r : Result Judged CommandError = Err e in r) is)) refuses

-- a judgment by the form of the disc's directories
pub by_form : (form : NameForm) (layout : Layout) (image : List ℕ) (v : Opened) (read_only : Bool) (c : Command) (refusal : Option Refusal) → form ≡ dir_form layout → layout ≡ v.layout
    → refusal ≡ first_of (reasons (tree_of image v.layout v.listings) form read_only c) → first_of (reasons (tree_of image v.layout v.listings) (dir_form v.layout) read_only c) ≡ refusal
by_form form layout image v read_only c refusal is at judged =
    ap (λ (f : NameForm). first_of (reasons (tree_of image v.layout v.listings) f read_only c)) (sym (is ∙ ap dir_form at)) ∙ sym judged

-- ---- accepted by the tree

-- It is refused for want of space or not at all.
pub judged_short : {T : Type 0} (read_only : Bool) (c : Command) (h : Parts) (result : Result T CommandError) → RefusesBy None read_only c h → AnswersShort c h result → AnswersOver read_only c h result
judged_short read_only c h result none answers v image sound held =
    subst (λ (o : Option Refusal). AnswersBy o result) (sym (first_last (reasons (tree_of image v.layout v.listings) (dir_form v.layout) read_only c) (short v c) (none v image sound held))) (answers v sound held)

-- A job is the command's if its judge says so.
pub judged_job : (read_only : Bool) (c : Command) (h : Parts) (job : Job) (name bytes : List ℕ) → ((v : Opened) → AreSound v.layout v.listings → ArePartsOf h v → IsJob h.nodes v.listings c job name)
    → RefusesBy None read_only c h → HasBytes c bytes → IsJobFor c h job name bytes × RefusesBy None read_only c h
judged_job read_only c h job name bytes is none with_bytes = (
  record {
    is = is;
    accepted = λ v image sound held. rights (tree_of image v.layout v.listings) (dir_form v.layout) read_only c (none v image sound held);
    bytes_are = with_bytes;
  },
  none,
)

-- ---- a moment

module _ {D : Type 0} (d : Ghosts D) (law : Laws d) (c : Command) where
  pub leaves_command : (old new : D) (h : Parts) (job : Job) (name bytes : List ℕ) → IsJobFor c h job name bytes → StopsAndExitsLeave d old new (JobLeaves h job name) → StopsAndExitsLeave d old new (CommandLeaves c h)
  leaves_command old new h job name bytes is keeps =
      keeps_weaker law keeps (λ first image left. ⊎_elim (λ before. inl before) (λ way. inr (record { job = job; name = name; bytes = bytes; of_command = is; moment = way })) left)

  pub leaves_none : (disk : D) (was : Holdings) → Stands d was disk → IsFalse (d.pending disk) → StopsAndExitsLeave d disk disk (CommandLeaves c (parts_of was))
  leaves_none disk was stands quiet = keeps_weaker law (nothing_left d law was disk stands quiet) (λ first image left. inl left)

-- what follows of a value
pub ok_then : {T E : Type 0} {A B : Type 0} (r : Result T E) → (A → B) → OnOk r A → OnOk r B
ok_then (Ok value) f a = f a
ok_then (Err e) f a = a

pub ok_both : {T E : Type 0} {A B C : Type 0} (r : Result T E) → (A → B → C) → OnOk r A → OnOk r B → OnOk r C
ok_both (Ok value) f a b = f a b
ok_both (Err e) f a b = a
