-- The parts of a volume with a new map still agree after an edit of its objects, whatever the bytes of its image are.
use Rattle.std.specs.Prelude.{◌≡◌, ◌<◌, ℕ, true, List, Contains}
use Rattle.fc_record.specs.declared.Kind.{Kind}
use Rattle.fc_newmap.specs.Map.{Map}
use Rattle.fc_newmap.specs.NewMap.{IsNewMap}
use Rattle.fc_alloc.specs.declared.owner.Owner.{Owner}
use Rattle.fc_image.specs.Layout.{Layout, disc_sectors, is_among, is_apart}
use Rattle.fc_image.specs.Walk.{Listing, Object}
use Rattle.fc_image.specs.Objects.{objects_of}
use Rattle.fc_image.specs.Opening.{reserved_in}
use Rattle.fc_image.specs.Sound.{AreSound}
use Rattle.fc_image.specs.Edits.{IsAt}
use Rattle.fc_tree.specs.declared.node.Node.{Node}
use Rattle.fc_tree.specs.Agree.{Agree}
use Rattle.fc_tree.specs.Nodes.{HoldObjects}
use Rattle.fc_tree.specs.Parts.{ArePartsOf, Parts}
use Rattle.fc_laws.specs.nodes.Edits.{Nodes}
use Rattle.fc_laws.specs.agree.Agreed.{AgreeOn, parts_with}

-- What agreement is, with and without its listings named, and what it gives.
pub record AgreedLaw : Type 0 where
  pub named : (kind : Kind) (parts : Parts) (m : Map) → parts.layout ≡ Layout.New m → IsNewMap m → (a : Agree kind parts) → AgreeOn kind m parts.nodes parts.owners a.root a.listings
  pub agree : (kind : Kind) (m : Map) (nodes : Nodes) (owners : List Owner) (root : Node) (listings : List Listing) → AgreeOn kind m nodes owners root listings
      → Agree kind (parts_with m nodes owners)
  -- Parts that are the same agree too.
  pub same : (kind : Kind) (parts : Parts) (m : Map) (nodes : Nodes) (owners : List Owner) → parts.layout ≡ Layout.New m → parts.nodes ≡ nodes → parts.owners ≡ owners
      → Agree kind (parts_with m nodes owners) → Agree kind parts
  -- The listings are sound, and the nodes hold their objects.
  pub sound : (kind : Kind) (m : Map) (nodes : Nodes) (owners : List Owner) (root : Node) (listings : List Listing) → AgreeOn kind m nodes owners root listings → AreSound (Layout.New m) listings
  pub held : (kind : Kind) (m : Map) (nodes : Nodes) (owners : List Owner) (root : Node) (listings : List Listing) → AgreeOn kind m nodes owners root listings → HoldObjects nodes listings
  -- So it is on an old map too: the parts are those of a view with these listings.
  pub sound_by : (kind : Kind) (parts : Parts) (a : Agree kind parts) → AreSound parts.layout a.listings
  pub viewed : (kind : Kind) (parts : Parts) (a : Agree kind parts) → ArePartsOf parts (record { kind = kind; layout = parts.layout; listings = a.listings })
  -- Each object lies at its address, and has no sector of the map or of a boot block.
  pub placed : (kind : Kind) (m : Map) (nodes : Nodes) (owners : List Owner) (root : Node) (listings : List Listing) → AgreeOn kind m nodes owners root listings
      → (o : Object) → Contains (objects_of listings) o → IsAt (Layout.New m) o × (is_apart o.sectors (reserved_in kind (Layout.New m)) ≡ true)
  -- What lies at its address on a map lies on the disc.
  pub on_disc : (m : Map) (o : Object) → IsNewMap m → IsAt (Layout.New m) o → (s : ℕ) → is_among o.sectors s ≡ true → s < disc_sectors (Layout.New m)
