-- Edits of a volume's objects: what they make of the listings, and what they make of the nodes.
use Rattle.std.specs.Prelude.{◌≡◌, ℕ, not, false, List, [], ◌∷◌, ◌++◌, length, insert, slice_get, if◌then◌else◌, Some, None, Ok, Contains, IsPermutation}
use Rattle.std.specs.Option.{option_map_or}
use Rattle.std.specs.Ordering.{nat_cmp}
use Rattle.std.specs.FinMap.{FinMap, get, insert as put}
use Rattle.fc_dirs.specs.declared.Entry.{Entry}
use Rattle.fc_dirs.specs.Entries.{has_name}
use Rattle.fc_dirs.specs.Directory.{Directory, entries_of}
use Rattle.fc_alloc.specs.declared.owner.Owner.{Owner}
use Rattle.fc_image.specs.Layout.{Layout, id_of, low_of}
use Rattle.fc_image.specs.Walk.{Listing, Object, is_directory_object}
use Rattle.fc_image.specs.Objects.{has_sectors, objects_of}
use Rattle.fc_image.specs.Sound.{AreSound}
use Rattle.fc_image.specs.InPlace.{says_now}
use Rattle.fc_tree.specs.declared.node.Body.{Body}
use Rattle.fc_tree.specs.declared.node.Body.TheVariants as bodies
use Rattle.fc_tree.specs.declared.node.Node.{Node}
use Rattle.fc_tree.specs.Agree.{reader_of_nodes}
use Rattle.fc_tree.specs.Nodes.{HoldObjects, body_in, number_of}
use Rattle.fc_tree.specs.Parts.{AreOwners, first_in}

abbrev pub Nodes : Type 0
Nodes = FinMap nat_cmp Node

-- ---- edits of nodes

-- the node of a number, if it has one, edited
abbrev pub with_edited : ℕ → (Node → Node) → Nodes → Nodes
with_edited n f nodes = option_map_or (λ node. put nodes n (f node)) (get nodes n) nodes

-- it says something else
abbrev pub with_body : ℕ → Body → Nodes → Nodes
with_body n body nodes = with_edited n (λ node. record node { body = body }) nodes

-- it has another entry
abbrev pub with_entry : ℕ → Entry → Nodes → Nodes
with_entry n e nodes = with_edited n (λ node. record node { entry = e }) nodes

-- another directory holds it
abbrev pub with_holder : ℕ → ℕ → Nodes → Nodes
with_holder n dir nodes = with_edited n (λ node. record node { holder = dir }) nodes

-- ---- where objects stand among the listings and nodes

-- Child i of the listed directory l is o, and these are the numbers of their nodes.
pub record IsChild (nodes : Nodes) (listings : List Listing) (l : Listing) (i : ℕ) (o : Object) (dir number : ℕ) : Type 0 where
  pub listed : Contains listings l
  pub at : slice_get l.children i ≡ Some o
  pub dir_is : number_of nodes l.object.path ≡ Some dir
  pub number_is : number_of nodes o.path ≡ Some number

-- ---- the edits, one a record: listings become listings', nodes become nodes'

-- `save`, `create`: the new file o gets place j in l
pub record IsAdded (nodes nodes' : Nodes) (listings listings' rest : List Listing) (l : Listing) (content : Directory) (j : ℕ) (o : Object) (dir number : ℕ) : Type 0 where
  pub found : IsPermutation listings (l ∷ rest)
  pub dir_is : number_of nodes l.object.path ≡ Some dir
  pub free : get nodes number ≡ None
  pub file : is_directory_object o ≡ false
  pub path : o.path ≡ l.object.path ++ o.entry.name ∷ []
  pub absent : has_name (entries_of l.content) o.entry.name ≡ false
  pub entries : entries_of content ≡ insert (entries_of l.content) j o.entry
  pub listings_are : listings' ≡ says_now l content (insert l.children j o) ∷ rest
  pub nodes_are : nodes' ≡ put (with_body dir (body_in content) nodes) number (record { holder = dir; entry = o.entry; body = bodies.File })

-- ---- what is concluded

-- The nodes say what each of these directories says; and they hold the objects of each walk that finds these listings.
pub record NodesFollow (nodes : Nodes) (listings : List Listing) : Type 0 where
  pub say : (l : Listing) → Contains listings l → reader_of_nodes nodes l.object ≡ Ok l.content
  pub hold : (layout : Layout) (found : List Listing) → AreSound layout found → IsPermutation listings found → HoldObjects nodes found

-- The owners are those of the objects of each walk that finds these listings.
abbrev pub OwnersFollow : List Owner → Nodes → Layout → List Listing → Type 0
OwnersFollow owners nodes layout listings = (found : List Listing) → AreSound layout found → IsPermutation listings found → AreOwners owners nodes layout (objects_of found)

-- ---- owners

-- the owner that an object is, held by the node `dir` and itself the node `number`
abbrev pub owner_with : Layout → ℕ → ℕ → Object → Owner
owner_with layout dir number o = record {
  id = id_of o.entry.address;
  dir = dir;
  node = number;
  file = not (is_directory_object o);
  low = low_of o.entry.address;
  first = first_in layout (low_of o.entry.address);
  sectors = length o.sectors;
}

-- none if it has no sectors
abbrev pub owners_with : Layout → ℕ → ℕ → Object → List Owner
owners_with layout dir number o = if has_sectors o then owner_with layout dir number o ∷ [] else []

-- Some owners went and some came.
pub record OwnersEdited (owners owners' gone come : List Owner) : Type 0 where
  pub rest : List Owner
  pub before : IsPermutation owners (gone ++ rest)
  pub after : IsPermutation owners' (come ++ rest)
