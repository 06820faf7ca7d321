-- The parts of a volume, and the owners among its objects.
use Rattle.std.specs.Prelude.{◌≡◌, ℕ, not, List, length, map, filter, IsPermutation}
use Rattle.std.specs.Option.{unwrap_or}
use Rattle.std.specs.Ordering.{nat_cmp}
use Rattle.std.specs.FinMap.{FinMap}
use Rattle.fc_model.specs.Tree.{holder}
use Rattle.fc_alloc.specs.declared.owner.Owner.{Owner}
use Rattle.fc_image.specs.Layout.{Layout, id_of, low_of, low_start}
use Rattle.fc_image.specs.Walk.{Object, is_directory_object}
use Rattle.fc_image.specs.Objects.{objects_of, has_sectors}
use Rattle.fc_image.specs.Opening.{Opened}
use Rattle.fc_tree.specs.declared.node.Node.{Node}
use Rattle.fc_tree.specs.Nodes.{number_of, HoldObjects}

-- how many sectors into its identifier an object begins
abbrev pub first_in : Layout → ℕ → ℕ
first_in (Layout.New m) low = low_start m low
first_in (Layout.Old space) low = 0

-- the owner that an object is
abbrev pub owner_of : FinMap nat_cmp Node → Layout → Object → Owner
owner_of nodes layout o = record {
  id = id_of o.entry.address;
  dir = unwrap_or (number_of nodes (holder o.path)) 0;
  node = unwrap_or (number_of nodes o.path) 0;
  file = not (is_directory_object o);
  low = low_of o.entry.address;
  first = first_in layout (low_of o.entry.address);
  sectors = length o.sectors;
}

-- the owners are those of the objects with at least one sector, in any order
abbrev pub AreOwners : List Owner → FinMap nat_cmp Node → Layout → List Object → Type 0
AreOwners owners nodes layout objects = IsPermutation owners (map (owner_of nodes layout) (filter has_sectors objects))

-- the parts of a volume
pub record Parts : Type 0 where
  pub layout : Layout
  pub nodes : FinMap nat_cmp Node
  pub owners : List Owner

-- the parts are those of this opened image
pub record ArePartsOf (parts : Parts) (v : Opened) : Type 0 where
  pub layout : parts.layout ≡ v.layout
  pub nodes : HoldObjects parts.nodes v.listings
  pub owners : AreOwners parts.owners parts.nodes v.layout (objects_of v.listings)
