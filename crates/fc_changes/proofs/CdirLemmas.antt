-- Cdir: an empty directory comes.
use Rattle.std.proofs.Common.{◌≡◌, refl}
use Rattle.fc_names.specs.declared.name.NameForm.{NameForm}
use Rattle.fc_names.specs.declared.name.NameForm.TheVariants.{Seven, Ten, Long}
use Rattle.fc_dirs.specs.Directory.{directory_size}
use Rattle.fc_image.specs.effects.Short.{new_dir_size}

pub size_of_new : (form : NameForm) → directory_size form (new_dir_size form) ≡ new_dir_size form
size_of_new Seven = refl
size_of_new Ten = refl
size_of_new Long = refl
