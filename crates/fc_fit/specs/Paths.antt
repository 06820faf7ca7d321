-- The paths of objects, in order.
use Rattle.std.specs.Prelude.{List, map, IsPermutation, IsSortedByKey}
use Rattle.fc_names.specs.Names.{Path, folded_path, key_cmp}
use Rattle.fc_image.specs.Walk.{Listing}
use Rattle.fc_image.specs.Objects.{objects_of}

-- the paths of these listings' objects, the root's first, in the order of the walk
abbrev pub stored_paths : List Listing → List Path
stored_paths listings = map (λ o. o.path) (objects_of listings)

-- The paths of these listings' objects, rising by folded names.
pub record AreRisingPaths (listings : List Listing) (paths : List Path) : Type 0 where
  pub all : IsPermutation (stored_paths listings) paths
  pub sorted : IsSortedByKey folded_path key_cmp paths
