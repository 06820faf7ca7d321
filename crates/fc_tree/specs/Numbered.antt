-- Nodes numbered in the order in which a walk finds its objects.
use Rattle.std.specs.Prelude.{◌≡◌, ◌⊎◌, ℕ, false, List, length, slice_get, Some, Contains}
use Rattle.fc_image.specs.Walk.{Object, Listing, is_directory_object}
use Rattle.fc_image.specs.Objects.{objects_of}
use Rattle.fc_tree.specs.declared.node.Body.TheVariants as bodies
use Rattle.fc_tree.specs.declared.node.Node.{Node}
use Rattle.fc_tree.specs.Nodes.{body_in}

-- the body is that of the object: a file's, or what its listing says
abbrev pub HasBody : List Listing → Object → Node → Type 0
HasBody listings o n =
    ((is_directory_object o ≡ false) × (n.body ≡ bodies.File))
    ⊎ ((l : Listing) × Contains listings l × (l.object ≡ o) × (n.body ≡ body_in l.content))

-- the object is the root, which holds itself, or one of a directory whose object has the holder's number
abbrev pub HasHolder : List Listing → ℕ → Object → Node → Type 0
HasHolder listings i o n =
    ((i ≡ 0) × (n.holder ≡ 0))
    ⊎ ((l : Listing) × Contains listings l × (slice_get (objects_of listings) n.holder ≡ Some l.object) × Contains l.children o)

-- the node of the object of this number
pub record IsNodeOf (listings : List Listing) (i : ℕ) (o : Object) (n : Node) : Type 0 where
  pub entry : n.entry ≡ o.entry
  pub body : HasBody listings o n
  pub held : HasHolder listings i o n

-- Each object has the node of its number.
pub record AreNumbered (nodes : List Node) (listings : List Listing) : Type 0 where
  pub all : length nodes ≡ length (objects_of listings)
  pub each : (i : ℕ) (n : Node) (o : Object) → slice_get nodes i ≡ Some n → slice_get (objects_of listings) i ≡ Some o → IsNodeOf listings i o n
