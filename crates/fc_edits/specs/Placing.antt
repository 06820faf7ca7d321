-- An edit by which one object joins a directory on a new map, and where it lies.
use Rattle.std.specs.Prelude.{◌≡◌, ◌⊎◌, ℕ, List, [], ◌∷◌, ◌++◌, IsPermutation}
use Rattle.fc_names.specs.Names.{Path}
use Rattle.fc_record.specs.declared.Kind.{Kind}
use Rattle.fc_newmap.specs.Map.{Map, ZoneRun}
use Rattle.fc_newmap.specs.NewMap.{IsNewMap}
use Rattle.fc_alloc.specs.declared.owner.Owner.{Owner}
use Rattle.fc_image.specs.Layout.{Layout, dir_form}
use Rattle.fc_image.specs.Walk.{Listing, Object, object_size}
use Rattle.fc_image.specs.Objects.{objects_of}
use Rattle.fc_image.specs.Edits.{IsAt}
use Rattle.fc_tree.specs.declared.node.Node.{Node}
use Rattle.fc_changes.specs.Changed.{IsFileAt, IsInNewSpace}
use Rattle.fc_changes.specs.Owed.{GivesBack, IsSpaceEdit}
use Rattle.fc_laws.specs.nodes.Edits.{Nodes}
use Rattle.fc_laws.specs.agree.Agreed.{AgreeOn}
use Rattle.fc_edits.specs.Edit.{Edit, joining, leaving, objects as objects_in}
use Rattle.fc_edits.specs.NewPlaces.{Taking}

-- In n bytes a file lies where files lie that come to this directory, and a directory in new space.
abbrev pub IsPlaced : Map → List Object → Path → ℕ → ℕ → List ZoneRun → Object → Type 0
IsPlaced m objects path n id parts o = IsFileAt m objects path n id parts o ⊎ IsInNewSpace m n 0 id parts o

-- what is taken, if anything is
abbrev pub takings_of : ℕ → List ZoneRun → List Taking
takings_of id [] = []
takings_of id (p ∷ parts) = record { id = id; parts = p ∷ parts } ∷ []

-- Object o, of node `number`, is the one that joins a directory. `stay` are the objects that leave none; the identifiers `gone` go back.
pub record Placing : Type 0 where
  pub kind : Kind
  pub m : Map
  pub m' : Map
  pub nodes : Nodes
  pub owners : List Owner
  pub root : Node
  pub listings : List Listing
  pub edit : Edit
  pub number : ℕ
  pub o : Object
  pub id : ℕ
  pub parts : List ZoneRun
  pub gone : List ℕ
  pub stay : List Object
  pub near : Path
  pub agreed : AgreeOn kind m nodes owners root listings
  pub joins : joining edit ≡ (number, o) ∷ []
  pub is_map : IsNewMap m'
  pub geometry : m'.geometry ≡ m.geometry
  pub space : IsSpaceEdit m m' id parts gone
  pub others : IsPermutation (objects_of listings) (objects_in (leaving edit) ++ stay)
  pub gives : GivesBack m gone (objects_of listings) (o ∷ stay)
  pub at : IsAt (Layout.New m') o
  pub place : IsPlaced m (objects_of listings) near (object_size (dir_form (Layout.New m')) o.entry) id parts o
