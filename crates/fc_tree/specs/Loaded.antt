-- What a walk over a disk gives.
use Rattle.std.specs.Prelude.{◌≡◌, ℕ, List, ◌++◌, Option, Result, Err}
use Rattle.std.specs.Option.{ForSome}
use Rattle.std.specs.Ordering.{nat_cmp}
use Rattle.std.specs.FinMap.{FinMap}
use Rattle.fc_image.specs.declared.ImageFault.{ImageFault}
use Rattle.fc_image.specs.Layout.{Layout, hole_sectors}
use Rattle.fc_image.specs.Walk.{Listing, reader_of}
use Rattle.fc_image.specs.Laws.{Tells}
use Rattle.fc_tree.specs.declared.node.Node.{Node}
use Rattle.fc_tree.specs.declared.node.TreeError.{TreeError}
use Rattle.fc_tree.specs.Agree.{AreWalked, InOrder}

-- what no object may take, if these sectors are reserved: on an old map the holes too
abbrev pub not_free : Layout → List ℕ → List ℕ
not_free (Layout.Old space) reserved = reserved ++ hole_sectors (Layout.Old space)
not_free (Layout.New m) reserved = reserved

-- The nodes are those of a walk from the root's address and size, in the order in which it finds them; if the disk tells
-- its bytes, they say what the nodes' directories say.
pub record IsLoaded (nodes : FinMap nat_cmp Node) (layout : Layout) (reserved : List ℕ) (address size : ℕ) (told : Option (List ℕ)) : Type 0 where
  pub listings : List Listing
  pub walked : AreWalked nodes layout (not_free layout reserved) address size listings
  pub in_order : InOrder nodes listings
  pub tells : ForSome told (λ image. Tells (reader_of image layout) listings)

-- The error is the walk's first fault. A disk's fault and out of memory say nothing.
abbrev pub IsFaultOf : Result (List Listing) ImageFault → TreeError → Type 0
IsFaultOf walked (TreeError.Image fault) = walked ≡ Err fault
IsFaultOf walked TreeError.DiskFault = Unit {0}
IsFaultOf walked TreeError.NoMemory = Unit {0}
