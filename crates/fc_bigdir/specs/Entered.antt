-- What a directory becomes if an entry is put in: its heap and places, with the names as they stand or made anew.
use Rattle.std.specs.Prelude.{◌≡◌, ◌<◌, ◌≤◌, ◌+◌, ◌^◌, ℕ, Bool, true, false, List, ◌++◌, length, insert, min, max, nat_le}
use Rattle.fc_dirs.specs.declared.Entry.{Entry}
use Rattle.fc_dirs.specs.Entries.{entry_place, padded_name, with_entry}
use Rattle.fc_dirs.specs.Big.{BigDir, bytes_for, head_space_of, name_space, packed_heap, packed_places, size_for, size_limit, size_with}
use Rattle.fc_bigdir.specs.declared.enter.Room.{Room}
use Rattle.fc_bigdir.specs.declared.needed.Parts.{Parts}
use Rattle.fc_bigdir.specs.Fields.{packed_size}

-- the heap: the present one with the new name after it, or all names alone
abbrev pub entered_heap : Bool → List ℕ → Entry → List Entry → List ℕ
entered_heap true heap e entries = heap ++ padded_name (name_space e.name) e.name
entered_heap false heap e entries = packed_heap (with_entry e entries)

-- where the names then begin
abbrev pub entered_places : Bool → List ℕ → List ℕ → Entry → List Entry → List ℕ
entered_places true heap places e entries = insert places (entry_place e.name entries) (length heap)
entered_places false heap places e entries = packed_places 0 (with_entry e entries)

-- the needed size, if so many entries have a heap of `loose` or of `tight` bytes
abbrev pub needed_for : ℕ → ℕ → ℕ → ℕ → ℕ
needed_for head entries loose tight = min (size_for head entries loose) (size_for head entries tight)

-- No part has more bytes, or entries, than a word tells.
pub record AreSmall (parts : Parts) : Type 0 where
  pub head : parts.head < 2 ^ 32
  pub entries : parts.entries < 2 ^ 32
  pub loose : parts.loose < 2 ^ 32
  pub tight : parts.tight < 2 ^ 32

-- the parts of a directory with one name more
pub record ArePartsWith (dir : BigDir) (name : List ℕ) (parts : Parts) : Type 0 where
  pub head : parts.head ≡ head_space_of dir
  pub entries : parts.entries ≡ length dir.entries + 1
  pub loose : parts.loose ≡ length dir.heap + name_space name
  pub tight : parts.tight ≡ packed_size dir.entries + name_space name

-- the room that a directory of this size has or gets
pub record IsRoomFor (size head entries loose tight : ℕ) (room : Room) : Type 0 where
  pub least : needed_for head entries loose tight ≤ size_limit
  pub size_is : room.size ≡ max (needed_for head entries loose tight) size
  pub is_loose : room.is_loose ≡ nat_le (bytes_for head entries loose) room.size
  pub tight_is : room.tight ≡ tight

-- the room that a directory has or gets for a new entry
pub record HasRoomFor (e : Entry) (dir : BigDir) (room : Room) : Type 0 where
  pub least : size_with e dir ≤ size_limit
  pub size_is : room.size ≡ max (size_with e dir) dir.size
  pub is_loose : room.is_loose ≡ nat_le (bytes_for (head_space_of dir) (length dir.entries + 1) (length dir.heap + name_space e.name)) room.size
  pub tight_is : room.tight ≡ packed_size dir.entries + name_space e.name
