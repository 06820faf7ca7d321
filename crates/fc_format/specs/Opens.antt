-- What fresh volumes open as.
use Rattle.std.specs.Prelude.{◌≡◌, ℕ, List, [], ◌∷◌, Ok}
use Rattle.fc_dirs.specs.Directory.{entries_of}
use Rattle.fc_names.specs.declared.name.NameForm.{NameForm}
use Rattle.fc_names.specs.declared.name.NameForm.TheVariants.{Seven, Ten, Long}
use Rattle.fc_image.specs.Layout.{dir_form}
use Rattle.fc_image.specs.Walk.{Listing}
use Rattle.fc_image.specs.Opening.{Opened, open_image}
use Rattle.fc_format.specs.declared.Format.{Format}
use Rattle.fc_format.specs.declared.Format.TheVariants.{E, F, D, L, EPlus, FPlus}
use Rattle.fc_format.specs.Fresh.{fresh_image}

-- The root is the only directory, and holds nothing.
pub record IsRootAlone (listings : List Listing) : Type 0 where
  pub root : Listing
  pub alone : listings ≡ root ∷ []
  pub at_top : root.object.path ≡ []
  pub empty : entries_of root.content ≡ []
  pub no_children : root.children ≡ []

-- the names of a format
abbrev pub form_of : Format → NameForm
form_of E = Ten
form_of F = Ten
form_of D = Ten
form_of L = Seven
form_of EPlus = Long
form_of FPlus = Long

-- A fresh volume is accepted, whatever stood there before. Its tree is the root alone, and its directories have the format's names.
abbrev pub FreshLaw : Type 0
FreshLaw = (format : Format) (old : List ℕ) → (v : Opened) × (open_image (fresh_image format old) ≡ Ok v) × IsRootAlone v.listings × (dir_form v.layout ≡ form_of format)
