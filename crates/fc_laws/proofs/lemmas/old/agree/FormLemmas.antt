-- Directories of discs with old maps are small.
use Rattle.std.proofs.Common.{◌≡◌, ℕ, Bool, true, false, cond, List, refl, Option, Some, None}
use Rattle.std.specs.Prelude.{Ok, ◌==◌}
use Rattle.fc_names.specs.declared.name.NameForm.{NameForm}
use Rattle.fc_names.specs.declared.name.NameForm.TheVariants.{Seven, Ten, Long}
use Rattle.fc_oldmap.specs.OldMap.{OldMapContent}
use Rattle.fc_dirs.specs.declared.DirFault.{DirFault}
use Rattle.fc_dirs.specs.declared.SmallForm.TheVariants.{Bytes1280, Bytes2048}
use Rattle.fc_dirs.specs.Small.{SmallDir, small_dir, small_fault}
use Rattle.fc_dirs.specs.Big.{BigDir}
use Rattle.fc_dirs.specs.Directory.{Directory, directory_of, read_or}
use Rattle.fc_image.specs.Layout.{Layout, dir_form}

never_big : (fault : Option DirFault) (a : SmallDir) (b : BigDir) → read_or fault (Directory.Small a) ≡ Ok (Directory.Big b) → ⊥
never_big None a b h = cc
never_big (Some fault) a b h = cc

pub no_big : (form : NameForm) (bytes : List ℕ) (dir : BigDir) → directory_of form bytes ≡ Ok (Directory.Big dir) → (form ≡ Long → ⊥) → ⊥
no_big Seven bytes dir e not = never_big (small_fault Bytes1280 bytes) (small_dir Bytes1280 bytes) dir e
no_big Ten bytes dir e not = never_big (small_fault Bytes2048 bytes) (small_dir Bytes2048 bytes) dir e
no_big Long bytes dir e not = not refl

pub not_long : (space : OldMapContent) → dir_form (Layout.Old space) ≡ Long → ⊥
not_long space e = by (space.sector_units == 4) e
  where
    by : (b : Bool) → cond b Ten Seven ≡ Long → ⊥
    by true h = cc
    by false h = cc
