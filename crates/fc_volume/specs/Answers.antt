-- What calls of volumes answer.
use Rattle.std.specs.Prelude.{◌≡◌, ◌<◌, ℕ, ◌-◌, ◌%◌, min, false, List, [], map, Option, Some, None, Result, Ok, Err, All}
use Rattle.std.specs.Option.{option_map_or, unwrap_or}
use Rattle.std.specs.FinMap.{get}
use Rattle.fc_device.specs.declared.disk.Extent.{Extent}
use Rattle.fc_objects.specs.Extents.{sectors_in}
use Rattle.fc_names.specs.declared.refusal.Refusal.{Refusal}
use Rattle.fc_names.specs.Names.{Path, is_directory}
use Rattle.fc_dirs.specs.declared.Entry.{Entry}
use Rattle.fc_model.specs.Tree.{Tree, Body, Node as ModelNode, children}
use Rattle.fc_image.specs.declared.ImageFault.{ImageFault}
use Rattle.fc_image.specs.Layout.{Layout, sector_bytes, disc_sectors, bytes_in, sectors_at}
use Rattle.fc_tree.specs.declared.node.Node.{Node}
use Rattle.fc_tree.specs.Nodes.{nodes_of}
use Rattle.fc_holdings.specs.declared.error.CommandError.{CommandError}
use Rattle.fc_volume.specs.declared.lines.FileRef.{FileRef}
use Rattle.fc_volume.specs.declared.lines.Line.{Line}
use Rattle.fc_volume.specs.declared.lines.Listed.{Listed}
use Rattle.fc_volume.specs.declared.lines.MountError.{MountError}
use Rattle.fc_volume.specs.Volume.{Volume, parts_of}

-- ---- mounting

-- The error is the first fault of the image. A disk's fault and out of memory say nothing.
abbrev pub IsFaultOf : {T : Type 0} → Result T ImageFault → MountError → Type 0
IsFaultOf opened (MountError.Image fault) = opened ≡ Err fault
IsFaultOf opened MountError.DiskFault = Unit {0}
IsFaultOf opened MountError.NoMemory = Unit {0}

-- ---- commands that read

-- The error is the refusal that the model answers. A disk's fault and out of memory say nothing.
abbrev pub IsRefusalOf : Result Tree Refusal → CommandError → Type 0
IsRefusalOf answered (CommandError.Refused refusal) = answered ≡ Err refusal
IsRefusalOf answered CommandError.DiskFault = Unit {0}
IsRefusalOf answered CommandError.NoMemory = Unit {0}

-- a directory, or a file with its length
abbrev pub listed_in : Body → Listed
listed_in Body.Directory = Listed.Dir
listed_in (Body.File bytes) = Listed.File (Rattle.std.specs.Prelude.length bytes)

-- a node as a line
abbrev pub line_in : ModelNode → Line
line_in n = record { name = n.name; attrs = n.attrs; load = n.load; exec = n.exec; listed = listed_in n.body }

-- what a directory lists
abbrev pub lines_in : Tree → Path → List Line
lines_in t path = map (λ e. line_in e.1) (children t path)

-- ---- files

-- the bytes of a file's entry
abbrev pub file_bytes : List ℕ → Layout → Entry → List ℕ
file_bytes image layout e = bytes_in (sector_bytes layout) image (unwrap_or (sectors_at layout e.address e.len) []) e.len

-- the file that a reference names is in the volume's tree, and has its length
abbrev pub IsRef : Volume → FileRef → Type 0
IsRef v f = (node : Node) × (get (nodes_of v.tree) f.node ≡ Some node) × (is_directory node.entry.attrs ≡ false) × (f.len ≡ node.entry.len)

-- the bytes of the file that a reference names
abbrev pub ref_bytes : List ℕ → Volume → FileRef → List ℕ
ref_bytes image v f = option_map_or (λ node. file_bytes image (parts_of v).layout node.entry) (get (nodes_of v.tree) f.node) []

-- These are the sectors of the file that a reference names, and they lie on the disc.
pub record IsPlace (v : Volume) (f : FileRef) (place : List Extent) : Type 0 where
  pub node : Node
  pub named : get (nodes_of v.tree) f.node ≡ Some node
  pub sectors : sectors_at (parts_of v).layout node.entry.address f.len ≡ Some (sectors_in place)
  pub on_disc : All (λ s. s < disc_sectors (parts_of v).layout) (sectors_in place)

-- how many bytes of a file of this length one call gives from a place on: at most to the end of a sector, and at most so many
abbrev pub piece_length : ℕ → ℕ → ℕ → ℕ → ℕ
piece_length sector len at most = min most (min (sector - at % sector) (len - at))
