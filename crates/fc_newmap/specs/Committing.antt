-- What a commit asks of the disk and of the image before it, and what it leaves of the map.
use Rattle.std.specs.Prelude.{◌≡◌, ◌<◌, ◌≤◌, ℕ, ◌+◌, ◌*◌, List, [], slice_index, slice_index_or, Contains, IsTrue, IsFalse}
use Rattle.fc_device.specs.declared.disk.Disk.{Ghosts}
use Rattle.fc_record.specs.declared.Geometry.{Geometry}
use Rattle.fc_newmap.specs.Map.{Map, sector_of}
use Rattle.fc_newmap.specs.Copies.{HoldsCopies}

-- The disk takes both copies of a map: it is attached, nothing is pending, its sectors are the geometry's, and it has those of both copies.
pub record TakesCopies {D : Type 0} (d : Ghosts D) (disk : D) (g : Geometry) : Type 0 where
  pub attached : IsTrue (d.attached disk)
  pub settled : IsFalse (d.pending disk)
  pub size : d.sector_size disk ≡ g.sector
  pub on_disk : g.map_sector + 2 * g.zones ≤ d.sectors disk

-- Both copies are equal and sound, the map has their CrossChecks, and its other zones are theirs.
pub record CanWrite (m : Map) (changed image : List ℕ) : Type 0 where
  pub base : List (List ℕ)
  pub copies : HoldsCopies m.geometry base image
  pub crosses : (z : ℕ) → z < m.geometry.zones → slice_index (sector_of m z) 3 ≡ slice_index (slice_index_or base z []) 3
  pub others : (z : ℕ) → z < m.geometry.zones → (Contains changed z → ⊥) → sector_of m z ≡ slice_index_or base z []

-- Each zone has the bytes that it had, but for its checks in bytes 0 and 3.
abbrev pub KeepsContents : Map → Map → Type 0
KeepsContents old new = (z k : ℕ) → (k ≡ 0 → ⊥) → (k ≡ 3 → ⊥) → slice_index (sector_of new z) k ≡ slice_index (sector_of old z) k
