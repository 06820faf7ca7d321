-- How many sectors of directories a walk reads, whatever it meets.
use Rattle.std.specs.Prelude.{ℕ, zero, suc, ◌+◌, List, [], ◌∷◌, ◌++◌, filter, Result, Ok, Err}
use Rattle.fc_dirs.specs.Directory.{directory_size}
use Rattle.fc_image.specs.declared.ImageFault.{ImageFault}
use Rattle.fc_image.specs.Layout.{Layout, dir_form, disc_sectors}
use Rattle.fc_image.specs.Walk.{Object, Reader, is_directory_object, object_of, root_entry}
use Rattle.fc_tree.specs.Calls.{entry_sectors}
use Rattle.fc_tree.specs.Walking.{said_children}

-- the number that comes after a value; after a fault nothing
abbrev pub unless_fault : {A : Type 0} → Result A ImageFault → (A → ℕ) → ℕ
unless_fault (Ok x) number = number x
unless_fault (Err fault) number = 0

-- The sectors of the directories that a walk reads, one after another, up to its end or to the first directory with a
-- fault, that one's included.
unfoldable pub sectors_from : Reader → Layout → ℕ → List ℕ → List Object → ℕ
sectors_from read layout zero taken waiting = 0
sectors_from read layout (suc fuel) taken [] = 0
sectors_from read layout (suc fuel) taken (o ∷ waiting) =
    entry_sectors layout o.entry
    + unless_fault (said_children layout taken o.path (read o)) (λ children. sectors_from read layout fuel children.1 (waiting ++ filter is_directory_object children.0))

-- those of the whole walk, the root's first; nothing, if the root has no place
unfoldable pub walk_sectors : Reader → Layout → List ℕ → ℕ → ℕ → ℕ
walk_sectors read layout reserved address size =
    unless_fault (object_of layout reserved [] (root_entry address (directory_size (dir_form layout) size)))
    (λ root. sectors_from read layout (disc_sectors layout + 1) (root.sectors ++ reserved) (root ∷ []))
