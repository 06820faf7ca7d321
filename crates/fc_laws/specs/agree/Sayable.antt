-- Which directories an object can say, from what calls that rewrite and make directories leave.
use Rattle.std.specs.Prelude.{◌≡◌, ℕ, List, Contains}
use Rattle.fc_record.specs.declared.Kind.{Kind}
use Rattle.fc_names.specs.Names.{Path}
use Rattle.fc_newmap.specs.Map.{Map}
use Rattle.fc_model.specs.Command.{Command}
use Rattle.fc_dirs.specs.Directory.{Directory, directory_size}
use Rattle.fc_drafts.specs.Draft.{IsSayable, size_of}
use Rattle.fc_alloc.specs.declared.owner.Owner.{Owner}
use Rattle.fc_image.specs.Layout.{Layout, dir_form}
use Rattle.fc_image.specs.Walk.{Listing, Object}
use Rattle.fc_image.specs.effects.Short.{new_dir_size}
use Rattle.fc_image.specs.effects.Steady.{IsRewritten, new_directory}
use Rattle.fc_tree.specs.declared.node.Node.{Node}
use Rattle.fc_laws.specs.nodes.Edits.{Nodes}
use Rattle.fc_laws.specs.agree.Agreed.{AgreeOn, CanSay}

pub record SayLaw : Type 0 where
  -- Each directory of agreeing parts can be said, and has the size of its object.
  pub before : (kind : Kind) (m : Map) (nodes : Nodes) (owners : List Owner) (root : Node) (listings : List Listing) → AgreeOn kind m nodes owners root listings
      → (l : Listing) → Contains listings l → CanSay (Layout.New m) l.object l.content
  pub size : (layout : Layout) (o : Object) (content : Directory) → CanSay layout o content → size_of content ≡ directory_size (dir_form layout) o.entry.len
  -- So can a rewritten one of the same size,
  pub rewritten : (layout : Layout) (o : Object) (c : Command) (path : Path) (parent : ℕ) (old new : Directory) → CanSay layout o old → IsRewritten c path parent old new
      → size_of new ≡ size_of old → IsSayable new → CanSay layout o new
  -- and a new one.
  pub new : (layout : Layout) (o : Object) (parent : ℕ) (name : List ℕ) → o.entry.len ≡ new_dir_size (dir_form layout) → IsSayable (new_directory (dir_form layout) parent name)
      → CanSay layout o (new_directory (dir_form layout) parent name)
