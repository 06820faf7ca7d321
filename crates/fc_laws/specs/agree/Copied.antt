-- The parts of a volume with a new map still agree after a `rename` that copies a file.
use Rattle.std.specs.Prelude.{◌≡◌, ◌*◌, ℕ, true, List, [], ◌∷◌, IsPermutation}
use Rattle.fc_record.specs.declared.Kind.{Kind}
use Rattle.fc_newmap.specs.Map.{Map, ZoneRun, bits_in}
use Rattle.fc_dirs.specs.Directory.{Directory}
use Rattle.fc_alloc.specs.declared.owner.Owner.{Owner}
use Rattle.fc_image.specs.Layout.{Layout}
use Rattle.fc_image.specs.Walk.{Listing, Object}
use Rattle.fc_image.specs.Objects.{objects_of}
use Rattle.fc_image.specs.Edits.{IsAt}
use Rattle.fc_image.specs.effects.Placed.{file_low}
use Rattle.fc_image.specs.effects.Short.{is_sharing}
use Rattle.fc_tree.specs.declared.node.Node.{Node}
use Rattle.fc_tree.specs.Agree.{Agree}
use Rattle.fc_changes.specs.Owed.{GivesBack}
use Rattle.fc_changes.specs.Changed.{IsInNewSpace}
use Rattle.fc_laws.specs.nodes.Edits.{Nodes}
use Rattle.fc_laws.specs.nodes.Copied.{IsCopied}
use Rattle.fc_laws.specs.agree.Agreed.{AgreeOn, CanSay, IsMapChange, PartsFollow, parts_with}

pub record CopiedLaw : Type 0 where
  -- The copy lies in new space. `stay` are all objects but the file.
  pub agree : (kind : Kind) (m m' : Map) (nodes nodes' : Nodes) (owners owners' : List Owner) (root : Node) (listings listings' rest : List Listing) (k l : Listing)
      (k_content l_content : Directory) (i j : ℕ) (o copy : Object) (from_dir dir number : ℕ) (name : List ℕ) (id : ℕ) (parts : List ZoneRun) (stay : List Object) → AgreeOn kind m nodes owners root listings
      → IsCopied nodes nodes' listings listings' rest k l k_content l_content i j o copy from_dir dir number name
      → CanSay (Layout.New m) k.object k_content → CanSay (Layout.New m) l.object l_content → PartsFollow nodes' owners' (Layout.New m') listings'
      → IsAt (Layout.New m') copy → IsInNewSpace m o.entry.len (file_low m.geometry (bits_in parts * m.geometry.bit_bytes) o.entry.len) id parts copy
      → IsPermutation (objects_of listings) (o ∷ stay) → IsMapChange m m' id parts [] (objects_of listings) (copy ∷ stay)
      → Agree kind (parts_with m' nodes' owners')
  -- Nothing goes back, since the file shares its identifier.
  pub none_back : (m : Map) (objects stay : List Object) (o copy : Object) → is_sharing (Layout.New m) objects o ≡ true → IsPermutation objects (o ∷ stay) → GivesBack m [] objects (copy ∷ stay)
