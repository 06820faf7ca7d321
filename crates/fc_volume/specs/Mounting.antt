-- What is known of a volume while it is mounted.
use Rattle.std.specs.Prelude.{◌≡◌, ℕ, List, None, Option, Result}
use Rattle.std.specs.Option.{ForSome}
use Rattle.fc_record.specs.declared.Kind.{Kind}
use Rattle.fc_image.specs.declared.ImageFault.{ImageFault}
use Rattle.fc_image.specs.Walk.{◌>>=◌, Listing, reader_of, walk}
use Rattle.fc_image.specs.Objects.{objects_of}
use Rattle.fc_image.specs.Opening.{MapAndRoot, Opened, misplaced_sector, reserved_in, unless_misplaced}
use Rattle.fc_image.specs.Laws.{Tells}
use Rattle.fc_tree.specs.declared.node.TreeError.{TreeError}
use Rattle.fc_tree.specs.Agree.{AreWalked}
use Rattle.fc_tree.specs.Parts.{Parts, AreOwners}
use Rattle.fc_volume.specs.declared.lines.MountError.{MountError}

-- what the image says, if its map and root were found
abbrev pub opened_with : List ℕ → Kind → MapAndRoot → Result Opened ImageFault
opened_with image kind found = do
  listings ← walk (reader_of image found.0) found.0 (reserved_in kind found.0) found.1 found.2
  unless_misplaced (record { kind = kind; layout = found.0; listings = listings }) (misplaced_sector kind found.0 (objects_of listings))

-- The parts are those of a walk from the root's address and size, and none of the map's sectors is misplaced; if the disk
-- tells its bytes, they say what the nodes' directories say.
pub record AreMounted (kind : Kind) (address size : ℕ) (parts : Parts) (told : Option (List ℕ)) : Type 0 where
  pub listings : List Listing
  pub walked : AreWalked parts.nodes parts.layout (reserved_in kind parts.layout) address size listings
  pub map_placed : misplaced_sector kind parts.layout (objects_of listings) ≡ None
  pub owned : AreOwners parts.owners parts.nodes parts.layout (objects_of listings)
  pub tells : ForSome told (λ image. Tells (reader_of image parts.layout) listings)

-- a tree's error as a mount's
abbrev pub mount_error : TreeError → MountError
mount_error (TreeError.Image fault) = MountError.Image fault
mount_error TreeError.DiskFault = MountError.DiskFault
mount_error TreeError.NoMemory = MountError.NoMemory
