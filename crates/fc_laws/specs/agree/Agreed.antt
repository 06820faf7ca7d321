-- Parts of a volume with a new map that agree, their root's node and their listings named; and what is known of an edit of them.
use Rattle.std.specs.Prelude.{◌≡◌, ℕ, List, Some, None}
use Rattle.std.specs.FinMap.{get}
use Rattle.fc_record.specs.declared.Kind.{Kind}
use Rattle.fc_newmap.specs.Map.{Map, ZoneRun}
use Rattle.fc_newmap.specs.NewMap.{IsNewMap}
use Rattle.fc_dirs.specs.Directory.{Directory}
use Rattle.fc_alloc.specs.declared.owner.Owner.{Owner}
use Rattle.fc_image.specs.Layout.{Layout, dir_form}
use Rattle.fc_image.specs.Walk.{Listing, Object}
use Rattle.fc_image.specs.Objects.{objects_of}
use Rattle.fc_image.specs.Opening.{misplaced_sector, reserved_in}
use Rattle.fc_tree.specs.declared.node.Node.{Node}
use Rattle.fc_tree.specs.Agree.{AreWalked, HasForm, IsDirectory}
use Rattle.fc_tree.specs.Parts.{AreOwners, Parts}
use Rattle.fc_changes.specs.Owed.{GivesBack, IsSpaceEdit}
use Rattle.fc_laws.specs.nodes.Edits.{Nodes, NodesFollow, OwnersFollow}

-- the parts of a volume with a new map
abbrev pub parts_with : Map → Nodes → List Owner → Parts
parts_with m nodes owners = record { layout = Layout.New m; nodes = nodes; owners = owners }

-- These parts agree (fc_tree `Agree`): `root` is the root's node, and the walk over the nodes finds `listings`. The map is one.
pub record AgreeOn (kind : Kind) (m : Map) (nodes : Nodes) (owners : List Owner) (root : Node) (listings : List Listing) : Type 0 where
  pub is_map : IsNewMap m
  pub root_is : get nodes 0 ≡ Some root
  pub walked : AreWalked nodes (Layout.New m) (reserved_in kind (Layout.New m)) root.entry.address root.entry.len listings
  pub map_placed : misplaced_sector kind (Layout.New m) (objects_of listings) ≡ None
  pub owned : AreOwners owners nodes (Layout.New m) (objects_of listings)

-- ---- an edit

-- bytes can say this directory, and it has the form and the length that its object needs
pub record CanSay (layout : Layout) (o : Object) (content : Directory) : Type 0 where
  pub form : HasForm (dir_form layout) o.entry.len content
  pub body : IsDirectory content

-- The nodes and owners are those of these listings. (`nodes` has both for each of its edits.)
pub record PartsFollow (nodes : Nodes) (owners : List Owner) (layout : Layout) (listings : List Listing) : Type 0 where
  pub nodes_follow : NodesFollow nodes listings
  pub owners_follow : OwnersFollow owners nodes layout listings

-- Runs of the map are taken for objects that come, and go back from objects that go.
pub record IsMapChange (m m' : Map) (id : ℕ) (parts : List ZoneRun) (gone : List ℕ) (before after : List Object) : Type 0 where
  pub is_map : IsNewMap m'
  pub geometry : m'.geometry ≡ m.geometry
  pub space : IsSpaceEdit m m' id parts gone
  pub gives : GivesBack m gone before after
