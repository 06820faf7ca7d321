-- Laws of the edits of a volume's objects: the nodes follow the new listings, and so do the owners.
use Rattle.std.specs.Prelude.{◌≡◌, ℕ, List}
use Rattle.fc_alloc.specs.declared.owner.Owner.{Owner}
use Rattle.fc_image.specs.Layout.{Layout}
use Rattle.fc_image.specs.Walk.{Object, Listing}
use Rattle.fc_image.specs.Objects.{objects_of}
use Rattle.fc_image.specs.Sound.{AreSound}
use Rattle.fc_tree.specs.Nodes.{HoldObjects}
use Rattle.fc_tree.specs.Parts.{AreOwners, first_in, owner_of}
use Rattle.fc_laws.specs.nodes.Edits.{Nodes, IsChild, owner_with}

-- the nodes hold the objects of sound listings
pub record IsHeld (nodes : Nodes) (layout : Layout) (listings : List Listing) : Type 0 where
  pub sound : AreSound layout listings
  pub held : HoldObjects nodes listings

-- The owners are those of its objects, and by the new layout each low byte of an address leads as far into an identifier as by the old one.
pub record IsOwned (owners : List Owner) (nodes : Nodes) (layout layout' : Layout) (listings : List Listing) : Type 0 where
  pub owned : AreOwners owners nodes layout (objects_of listings)
  pub first : (low : ℕ) → first_in layout' low ≡ first_in layout low

-- the owner that an object is, by the numbers of its node and of its directory's
abbrev pub OwnerLaw : Type 0
OwnerLaw = (nodes : Nodes) (layout : Layout) (listings : List Listing) (l : Listing) (i : ℕ) (o : Object) (dir number : ℕ)
    → IsHeld nodes layout listings → IsChild nodes listings l i o dir number → owner_of nodes layout o ≡ owner_with layout dir number o
