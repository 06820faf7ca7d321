-- Commands on discs with new maps whose directories are written to their old places: the new image opens, with the tree that the model
-- gives.
use Rattle.std.specs.Prelude.{◌≡◌, ℕ, List, IsPermutation}
use Rattle.fc_record.specs.declared.Kind.{Kind}
use Rattle.fc_newmap.specs.Map.{Map}
use Rattle.fc_model.specs.Tree.{Tree}
use Rattle.fc_image.specs.Layout.{Layout}
use Rattle.fc_image.specs.Walk.{Listing}
use Rattle.fc_image.specs.Objects.{tree_of}
use Rattle.fc_image.specs.Stays.{OpensAs}

-- The image opens with this map and these listings, in some order, and has this tree.
pub record OpensWithTree (kind : Kind) (image : List ℕ) (m : Map) (listings : List Listing) (t : Tree) : Type 0 where
  pub found : List Listing
  pub opens : OpensAs image kind (record { kind = kind; layout = Layout.New m; listings = found })
  pub order : IsPermutation listings found
  pub tree : tree_of image (Layout.New m) found ≡ t
