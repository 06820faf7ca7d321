-- What a command answers.
use Rattle.std.specs.Prelude.{◌++◌, ◌∷◌, [], ℕ, Bool, List, Option, Result}
use Rattle.fc_names.specs.declared.refusal.Refusal.{Refusal}
use Rattle.fc_model.specs.Command.{Command}
use Rattle.fc_model.specs.Answer.{first_of, reasons}
use Rattle.fc_image.specs.Layout.{dir_form}
use Rattle.fc_image.specs.Objects.{tree_of}
use Rattle.fc_image.specs.Opening.{Opened}
use Rattle.fc_image.specs.Sound.{AreSound}
use Rattle.fc_image.specs.effects.Short.{short}
use Rattle.fc_tree.specs.Parts.{ArePartsOf, Parts}
use Rattle.fc_holdings.specs.declared.error.CommandError.{CommandError}
use Rattle.fc_holdings.specs.Answers.{AnswersBy}

-- why a command is refused, if it is: by the model over the tree, and then for lack of space
abbrev pub refusal_in : Opened → List ℕ → Bool → Command → Option Refusal
refusal_in v image read_only c = first_of (reasons (tree_of image v.layout v.listings) (dir_form v.layout) read_only c ++ short v c ∷ [])

-- It answers this refusal, over each sound view whose parts these are, whatever bytes the files have.
abbrev pub AnswersOver : {T : Type 0} → Bool → Command → Parts → Result T CommandError → Type 0
AnswersOver read_only c h result = (v : Opened) (image : List ℕ) → AreSound v.layout v.listings → ArePartsOf h v → AnswersBy (refusal_in v image read_only c) result

-- It refuses for want of space as the command does, over each sound view whose parts these are.
abbrev pub AnswersShort : {T : Type 0} → Command → Parts → Result T CommandError → Type 0
AnswersShort c h result = (v : Opened) → AreSound v.layout v.listings → ArePartsOf h v → AnswersBy (short v c) result
