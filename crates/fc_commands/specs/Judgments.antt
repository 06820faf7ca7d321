-- What the judge of a command answers, and what the command leaves at any moment.
use Rattle.std.specs.Prelude.{◌≡◌, ◌⊎◌, ℕ, Bool, List, Option, Some, None, Result, Ok, Err}
use Rattle.fc_names.specs.declared.refusal.Refusal.{Refusal}
use Rattle.fc_model.specs.Command.{Command}
use Rattle.fc_model.specs.Answer.{first_of, reasons}
use Rattle.fc_image.specs.Layout.{dir_form}
use Rattle.fc_image.specs.Objects.{tree_of}
use Rattle.fc_image.specs.Opening.{Opened}
use Rattle.fc_image.specs.Sound.{AreSound}
use Rattle.fc_tree.specs.Parts.{ArePartsOf, Parts}
use Rattle.fc_change.specs.declared.job.Job.{Job}
use Rattle.fc_holdings.specs.declared.error.CommandError.{CommandError}
use Rattle.fc_holdings.specs.declared.error.CommandError.TheVariants.{Refused, NoMemory, DiskFault}
use Rattle.fc_commands.specs.Given.{IsFilling}
use Rattle.fc_commands.specs.Jobs.{IsJobFor}
use Rattle.fc_commands.specs.Promises.{IsAsBefore, IsUnderWay}
use Rattle.fc_commands.specs.declared.judged.Judged.{Judged}

-- ---- judges

-- The tree refuses the command so, or not at all, over each sound view whose parts these are.
abbrev pub RefusesBy : Option Refusal → Bool → Command → Parts → Type 0
RefusesBy refusal read_only c h = (v : Opened) (image : List ℕ) → AreSound v.layout v.listings → ArePartsOf h v
    → first_of (reasons (tree_of image v.layout v.listings) (dir_form v.layout) read_only c) ≡ refusal

-- The judge's error is the first reason in the tree, or that memory is short. It asks nothing of the disk.
abbrev pub IsRefusalOf : Bool → Command → Parts → CommandError → Type 0
IsRefusalOf read_only c h (Refused refusal) = RefusesBy (Some refusal) read_only c h
IsRefusalOf read_only c h NoMemory = Unit {0}
IsRefusalOf read_only c h DiskFault = ⊥

-- If nothing in the tree refuses the command, its job; `bytes` are those of a file that is saved.
abbrev pub IsJudgment : Bool → Command → Parts → List ℕ → Result Judged CommandError → Type 0
IsJudgment read_only c h bytes (Ok judged) = IsJobFor c h judged.job judged.name bytes × RefusesBy None read_only c h
IsJudgment read_only c h bytes (Err error) = IsRefusalOf read_only c h error

-- ---- a moment of a command

-- A job of the command is under way.
pub record IsInProgress (c : Command) (h : Parts) (was image : List ℕ) : Type 0 where
  pub job : Job
  pub name : List ℕ
  pub bytes : List ℕ
  pub of_command : IsJobFor c h job name bytes
  pub moment : IsUnderWay h job name was image

-- What a crash at any moment and every exit leaves.
abbrev pub CommandLeaves : Command → Parts → List ℕ → List ℕ → Type 0
CommandLeaves c h was image = IsAsBefore h.layout was image ⊎ IsInProgress c h was image

-- A job of the command has space for what comes, and no other sector has changed.
pub record FillsPlace (c : Command) (h : Parts) (was image : List ℕ) : Type 0 where
  pub job : Job
  pub name : List ℕ
  pub bytes : List ℕ
  pub of_command : IsJobFor c h job name bytes
  pub filling : IsFilling h job name was image
