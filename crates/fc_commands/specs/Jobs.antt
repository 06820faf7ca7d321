-- Whose job a job is.
use Rattle.std.specs.Prelude.{◌≡◌, ◌<◌, ◌^◌, ℕ, false, List, [], None}
use Rattle.fc_names.specs.declared.name.NameForm.{NameForm}
use Rattle.fc_names.specs.declared.name.NameForm.TheVariants as forms
use Rattle.fc_dirs.specs.declared.SmallForm.TheVariants.{Bytes1280, Bytes2048}
use Rattle.fc_dirs.specs.Small.{attrs_limit}
use Rattle.fc_model.specs.Answer.{first_of, reasons}
use Rattle.fc_model.specs.Command.{Command}
use Rattle.fc_image.specs.Layout.{dir_form}
use Rattle.fc_image.specs.Objects.{tree_of}
use Rattle.fc_image.specs.Opening.{Opened}
use Rattle.fc_image.specs.Sound.{AreSound}
use Rattle.fc_tree.specs.Parts.{ArePartsOf, Parts}
use Rattle.fc_change.specs.Jobs.{IsJob}
use Rattle.fc_change.specs.Needs.{len_at}
use Rattle.fc_change.specs.declared.job.Job.{Job}
use Rattle.fc_change.specs.declared.job.Job.TheVariants as jobs

-- the bytes of a file that is saved
abbrev pub HasBytes : Command → List ℕ → Type 0
HasBytes (Command.Save path load exec saved) bytes = bytes ≡ saved
HasBytes _ bytes = bytes ≡ []

-- Over each sound view whose parts these are it is the command's job, and nothing in the tree refuses the command.
pub record IsJobFor (c : Command) (h : Parts) (job : Job) (name bytes : List ℕ) : Type 0 where
  pub is : (v : Opened) → AreSound v.layout v.listings → ArePartsOf h v → IsJob h.nodes v.listings c job name
  pub accepted : (v : Opened) (image : List ℕ) → AreSound v.layout v.listings → ArePartsOf h v → first_of (reasons (tree_of image v.layout v.listings) (dir_form v.layout) false c) ≡ None
  pub bytes_are : HasBytes c bytes

abbrev pub IsJudged : Parts → Job → List ℕ → List ℕ → Type 0
IsJudged h job name bytes = (c : Command) × IsJobFor c h job name bytes

-- An entry of a directory of this form can hold the attributes.
abbrev pub FitAttributes : NameForm → ℕ → Type 0
FitAttributes forms.Seven attrs = attrs < attrs_limit Bytes1280
FitAttributes forms.Ten attrs = attrs < attrs_limit Bytes2048
FitAttributes forms.Long attrs = Unit {0}

-- The laws of these jobs stand, if an entry can hold the access bits, the attributes and the length that they give.
abbrev pub HasLaws : Parts → Job → List ℕ → Type 0
HasLaws h (jobs.Removal target) name = Unit {0}
HasLaws h (jobs.Words target words) name = words.access < 8
HasLaws h (jobs.Marks target attrs) name = FitAttributes (dir_form h.layout) attrs
HasLaws h (jobs.Directory dir) name = Unit {0}
HasLaws h (jobs.File slot words) name = words.len < 2 ^ 32
HasLaws h (jobs.Move renaming) name = len_at h.nodes renaming.target.node < 2 ^ 32
