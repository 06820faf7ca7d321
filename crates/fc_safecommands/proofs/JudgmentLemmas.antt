-- What follows from a judgment in the safe mode.
use Rattle.std.proofs.Common.{◌≡◌, ℕ, Bool, refl, sym, subst, Option, Some, None}
use Rattle.std.specs.Prelude.{Err, IsFalse, Result}
use Rattle.fc_device.specs.declared.disk.Disk.{Ghosts}
use Rattle.fc_names.specs.declared.refusal.Refusal.{Refusal}
use Rattle.fc_model.specs.Answer.{first_of, reasons}
use Rattle.fc_model.specs.Command.{Command}
use Rattle.fc_image.specs.Layout.{Layout, dir_form}
use Rattle.fc_image.specs.Objects.{tree_of}
use Rattle.fc_image.specs.safe.SafeShort.{SafeRefusal, safe_refusal}
use Rattle.fc_laws.specs.nodes.Edits.{Nodes}
use Rattle.fc_tree.specs.Parts.{Parts}
use Rattle.fc_holdings.specs.declared.error.CommandError.{CommandError}
use Rattle.fc_holdings.specs.declared.error.CommandError.TheVariants.{Refused, NoMemory, DiskFault}
use Rattle.fc_holdings.specs.declared.holdings.Holdings.{Holdings}
use Rattle.fc_holdings.specs.Holdings.{Stands, parts_of}
use Rattle.fc_commands.specs.Jobs.{FitAttributes}
use Rattle.fc_commands.specs.Judgments.{IsRefusalOf, RefusesBy}
use Rattle.fc_safe.specs.declared.error.SafeError.{SafeError}
use Rattle.fc_safe.specs.declared.error.SafeError.TheVariants as errors
use Rattle.fc_safe.specs.Suits.{Suits}
use Rattle.fc_safecommands.specs.JobAnswers.{AnswersSafeOver, AnswersSafely}
use Rattle.fc_safecommands.specs.Promises.{SafeKeeps}
use Rattle.fc_safecommands.proofs.CourseLemmas.{kept_same, no_memory}
use Rattle.fc_safecommands.specs.Answers.{AnswersSafelyOver, refused_or, safe_error, safe_refusal_in}

-- ---- refused by the tree

refused_first : (o : Option Refusal) (later : Option SafeRefusal) (r : Refusal) → o ≡ Some r → refused_or o later ≡ Some (SafeRefusal.Refused r)
refused_first None later r e = absurd (cc)
refused_first (Some s) later r e = cc

refused_last : (o : Option Refusal) (later : Option SafeRefusal) → o ≡ None → refused_or o later ≡ later
refused_last None later e = refl
refused_last (Some s) later e = absurd (cc)

pub judged_refused : (read_only : Bool) (c : Command) (h : Parts) (error : CommandError) → IsRefusalOf read_only c h error → AnswersSafelyOver {T = Unit {0}} read_only c h (Err (safe_error error))
judged_refused read_only c h (Refused r) is v image sound held =
    subst (λ (o : Option SafeRefusal). AnswersSafely {T = Unit {0}} o (Err (errors.Refused r)))
    (sym (refused_first (first_of (reasons (tree_of image v.layout v.listings) (dir_form v.layout) read_only c)) (safe_refusal v c) r (is v image sound held))) refl
judged_refused read_only c h NoMemory is v image sound held = no_memory (safe_refusal_in v image read_only c)
judged_refused read_only c h DiskFault is v image sound held = absurd is

no_fault : (read_only : Bool) (c : Command) (h : Parts) (error : CommandError) → IsRefusalOf read_only c h error → safe_error error ≡ errors.DiskFault → ⊥
no_fault read_only c h (Refused r) is e = cc
no_fault read_only c h NoMemory is e = cc
no_fault read_only c h DiskFault is e = absurd is

-- nothing has changed
pub judged_kept : {D : Type 0} (d : Ghosts D) (disk : D) (was : Holdings) (read_only : Bool) (c : Command) (error : CommandError) → Stands d was disk → IsFalse (d.pending disk)
    → Suits (parts_of was).layout (parts_of was).nodes → IsRefusalOf read_only c (parts_of was) error → SafeKeeps d disk disk was was (Err (safe_error error))
judged_kept d disk was read_only c error stands quiet suits is = kept_same d disk was (safe_error error) stands quiet suits (no_fault read_only c (parts_of was) error is)

-- ---- accepted by the tree

-- It is refused for want of space or not at all.
pub judged_short : {T : Type 0} (read_only : Bool) (c : Command) (h : Parts) (result : Result T SafeError) → RefusesBy None read_only c h → AnswersSafeOver c h result → AnswersSafelyOver read_only c h result
judged_short read_only c h result none answers v image sound held =
    subst (λ (o : Option SafeRefusal). AnswersSafely o result)
    (sym (refused_last (first_of (reasons (tree_of image v.layout v.listings) (dir_form v.layout) read_only c)) (safe_refusal v c) (none v image sound held))) (answers v sound held)

-- ---- the laws of jobs

-- Entries of big directories hold any attributes.
pub fit_any : (layout : Layout) (nodes : Nodes) (attrs : ℕ) → Suits layout nodes → FitAttributes (dir_form layout) attrs
fit_any (Layout.New m) nodes attrs suits = rw suits.0 tt
fit_any (Layout.Old space) nodes attrs suits = absurd suits
