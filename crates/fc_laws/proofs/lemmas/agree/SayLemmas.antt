-- Directories that objects can say.
use Rattle.std.proofs.Common.{◌≡◌, ℕ, List, refl, sym, ap, ◌∙◌}
use Rattle.fc_names.specs.declared.name.NameForm.{NameForm}
use Rattle.fc_names.specs.declared.name.NameForm.TheVariants.{Long, Seven, Ten}
use Rattle.fc_names.specs.Names.{Path}
use Rattle.fc_model.specs.Command.{Command}
use Rattle.fc_dirs.specs.declared.SmallForm.{SmallForm}
use Rattle.fc_dirs.specs.Small.{SmallDir, tail_of}
use Rattle.fc_dirs.specs.Directory.{Directory, directory_size}
use Rattle.fc_drafts.specs.Draft.{IsSayable, size_of}
use Rattle.fc_image.specs.Layout.{dir_form}
use Rattle.fc_image.specs.effects.Short.{new_dir_size}
use Rattle.fc_image.specs.effects.Steady.{IsRewritten, new_directory}
use Rattle.fc_tree.specs.Agree.{HasForm, IsDirectory}
use Rattle.fc_laws.specs.agree.Sayable.{SayLaw}

-- both crates' words say the same
pub as_directory : (content : Directory) → IsSayable content → IsDirectory content
as_directory (Directory.Small dir) is = is
as_directory (Directory.Big dir) is = is

form_size : (form : NameForm) (len : ℕ) (content : Directory) → HasForm form len content → size_of content ≡ directory_size form len
form_size Seven len (Directory.Small dir) h = ap (λ (f : SmallForm). (tail_of f).size) h
form_size Seven len (Directory.Big dir) h = absurd h
form_size Ten len (Directory.Small dir) h = ap (λ (f : SmallForm). (tail_of f).size) h
form_size Ten len (Directory.Big dir) h = absurd h
form_size Long len (Directory.Small dir) h = absurd h
form_size Long len (Directory.Big dir) h = h

form_stays : (form : NameForm) (len : ℕ) (c : Command) (path : Path) (parent : ℕ) (old new : Directory) → HasForm form len old → IsRewritten c path parent old new → size_of new ≡ size_of old
    → HasForm form len new
form_stays Seven len c path parent (Directory.Small old) (Directory.Small new) h is size = ap (λ (d : SmallDir). d.form) is ∙ h
form_stays Seven len c path parent (Directory.Small old) (Directory.Big new) h is size = absurd is
form_stays Seven len c path parent (Directory.Big old) new h is size = absurd h
form_stays Ten len c path parent (Directory.Small old) (Directory.Small new) h is size = ap (λ (d : SmallDir). d.form) is ∙ h
form_stays Ten len c path parent (Directory.Small old) (Directory.Big new) h is size = absurd is
form_stays Ten len c path parent (Directory.Big old) new h is size = absurd h
form_stays Long len c path parent (Directory.Small old) new h is size = absurd h
form_stays Long len c path parent (Directory.Big old) (Directory.Small new) h is size = absurd is
form_stays Long len c path parent (Directory.Big old) (Directory.Big new) h is size = size ∙ h

new_form : (form : NameForm) (len parent : ℕ) (name : List ℕ) → len ≡ new_dir_size form → HasForm form len (new_directory form parent name)
new_form Seven len parent name is = refl
new_form Ten len parent name is = refl
new_form Long len parent name is = sym is

pub say_law : SayLaw
say_law = record {
  before = λ kind m nodes owners root listings a l at. record { form = a.walked.forms l at; body = a.walked.bodies l at };
  size = λ layout o content can. form_size (dir_form layout) o.entry.len content can.form;
  rewritten = λ layout o c path parent old new can is size sayable. record {
    form = form_stays (dir_form layout) o.entry.len c path parent old new can.form is size;
    body = as_directory new sayable;
  };
  new = λ layout o parent name len sayable. record {
    form = new_form (dir_form layout) o.entry.len parent name len;
    body = as_directory (new_directory (dir_form layout) parent name) sayable;
  };
}
