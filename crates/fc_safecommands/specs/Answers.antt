-- What a command answers in the safe mode.
use Rattle.std.specs.Prelude.{ℕ, Bool, List, Option, Some, None, Result}
use Rattle.fc_names.specs.declared.refusal.Refusal.{Refusal}
use Rattle.fc_model.specs.Command.{Command}
use Rattle.fc_model.specs.Answer.{first_of, reasons}
use Rattle.fc_image.specs.Layout.{dir_form}
use Rattle.fc_image.specs.Objects.{tree_of}
use Rattle.fc_image.specs.Opening.{Opened}
use Rattle.fc_image.specs.Sound.{AreSound}
use Rattle.fc_image.specs.safe.SafeShort.{SafeRefusal, safe_refusal}
use Rattle.fc_tree.specs.Parts.{ArePartsOf, Parts}
use Rattle.fc_holdings.specs.declared.error.CommandError.{CommandError}
use Rattle.fc_holdings.specs.declared.error.CommandError.TheVariants as judged
use Rattle.fc_safe.specs.declared.error.SafeError.{SafeError}
use Rattle.fc_safe.specs.declared.error.SafeError.TheVariants as errors
use Rattle.fc_safecommands.specs.JobAnswers.{AnswersSafely}

-- a judge's error, as one of the safe mode
abbrev pub safe_error : CommandError → SafeError
safe_error (judged.Refused refusal) = errors.Refused refusal
safe_error judged.NoMemory = errors.NoMemory
safe_error judged.DiskFault = errors.DiskFault

-- the refusal by the tree, or else the later one
abbrev pub refused_or : Option Refusal → Option SafeRefusal → Option SafeRefusal
refused_or (Some refusal) later = Some (SafeRefusal.Refused refusal)
refused_or None later = later

-- why a command is refused, if it is: by the model over the tree, and then for want of space in the safe mode
abbrev pub safe_refusal_in : Opened → List ℕ → Bool → Command → Option SafeRefusal
safe_refusal_in v image read_only c = refused_or (first_of (reasons (tree_of image v.layout v.listings) (dir_form v.layout) read_only c)) (safe_refusal v c)

-- It answers this refusal, over each sound view whose parts these are, whatever bytes the files have.
abbrev pub AnswersSafelyOver : {T : Type 0} → Bool → Command → Parts → Result T SafeError → Type 0
AnswersSafelyOver read_only c h result = (v : Opened) (image : List ℕ) → AreSound v.layout v.listings → ArePartsOf h v → AnswersSafely (safe_refusal_in v image read_only c) result
