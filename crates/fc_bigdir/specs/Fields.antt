-- A directory as it is kept in memory.
use Rattle.std.specs.Prelude.{◌≡◌, ℕ, Bool, List, sum_by}
use Rattle.fc_dirs.specs.declared.Entry.{Entry}
use Rattle.fc_dirs.specs.Big.{BigDir, IsBig, name_space}

-- the directory of these parts
abbrev pub dir_of : (size sequence parent : ℕ) → List ℕ → Bool → (reserved heap places : List ℕ) → List Entry → BigDir
dir_of size sequence parent name second_form reserved heap places entries = record {
  size = size;
  sequence = sequence;
  parent = parent;
  name = name;
  second_form = second_form;
  reserved = reserved;
  heap = heap;
  name_places = places;
  entries = entries;
}

-- the size of a heap of exactly the names of entries
abbrev pub packed_size : List Entry → ℕ
packed_size entries = sum_by (λ e. name_space e.name) entries

-- Bytes can say the directory, and that is the size of a heap of exactly its names.
pub record IsKept (packed : ℕ) (dir : BigDir) : Type 0 where
  pub big : IsBig dir
  pub packed_is : packed ≡ packed_size dir.entries
