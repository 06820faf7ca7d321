-- Volumes, and when one stands for a disk.
use Rattle.std.specs.Prelude.{◌≡◌, ◌≤◌, Bool, List}
use Rattle.fc_device.specs.declared.disk.Disk.{Ghosts}
use Rattle.fc_device.specs.Calls.{StopsAsBefore}
use Rattle.fc_device.specs.Stops.{StillLeaves}
use Rattle.fc_alloc.specs.declared.owner.Owner.{Owner}
use Rattle.fc_space.specs.declared.space.Space.{Space}
use Rattle.fc_tree.specs.Nodes.{Numbers}
use Rattle.fc_tree.specs.Parts.{Parts}
use Rattle.fc_writing.specs.declared.copies.Copies.{Copies}
use Rattle.fc_holdings.specs.declared.holdings.Holdings.{Holdings}
use Rattle.fc_holdings.specs.Holdings.{Stands}
use Rattle.fc_holdings.specs.Holdings as held

-- a volume: its map, what is known of the map's copies, its objects, who owns which identifier, and whether it may be changed, and
-- used at all
pub record Volume : Type 0 where
  pub space : Space
  pub copies : Copies
  pub tree : Numbers
  pub owners : List Owner
  pub read_only : Bool
  pub fit : Bool

-- what it holds of its disc
abbrev pub holdings_of : Volume → Holdings
holdings_of v = record { tree = v.tree; places = v.space; owners = v.owners; copies = v.copies }

-- its parts
abbrev pub parts_of : Volume → Parts
parts_of v = held.parts_of (holdings_of v)

-- The volume stands for the disk if what it holds does.
abbrev pub StandsFor : {D : Type 0} → Ghosts D → Volume → D → Type 0
StandsFor d v disk = Stands d (holdings_of v) disk

-- What stays of a disk that is read, and of which the size of sectors may be set.
pub record OnlyShapes {D : Type 0} (d : Ghosts D) (old new : D) : Type 0 where
  pub attached_stays : d.attached new ≡ d.attached old
  pub tells_stays : d.tells_stops new ≡ d.tells_stops old
  pub gives_stays : d.gives new ≡ d.gives old
  pub asked_stays : d.asked new ≡ d.asked old
  pub length_stays : d.image_length new ≡ d.image_length old
  pub bytes_stay : d.bytes new ≡ d.bytes old
  pub pending_stays : d.pending new ≡ d.pending old
  pub stops : StopsAsBefore d old new
  pub still : StillLeaves d.moment d.left_since old new
  pub faults : d.faults old ≤ d.faults new
