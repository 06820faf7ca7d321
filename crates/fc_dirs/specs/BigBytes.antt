-- Big directories: which bytes are written of them.
use Rattle.std.specs.Prelude.{◌≡◌, ℕ, ◌-◌, ◌&&◌, false, List, [], ◌∷◌, ◌++◌, length, replicate, slice_set, if◌then◌else◌}
use Rattle.byteorder.specs.Endian.{little_bytes}
use Rattle.fc_bytes.specs.Checks.{big_dir_check}
use Rattle.fc_dirs.specs.declared.Entry.{Entry}
use Rattle.fc_dirs.specs.Entries.{padded_name}
use Rattle.fc_dirs.specs.Big.{BigDir, IsBigDir, bytes_taken, head_space_of, is_check_right}

-- the words `SBPr` in the head and `oven` in the tail
abbrev pub head_word : List ℕ
head_word = 83 ∷ 66 ∷ 80 ∷ 114 ∷ []

abbrev pub tail_word : List ℕ
tail_word = 111 ∷ 118 ∷ 101 ∷ 110 ∷ []

-- the 28 bytes of an entry whose name begins at that place in the heap
abbrev pub entry_bytes : ℕ → Entry → List ℕ
entry_bytes place e =
    little_bytes 4 e.load ++ little_bytes 4 e.exec ++ little_bytes 4 e.len ++ little_bytes 4 e.address ++ little_bytes 4 e.attrs
    ++ little_bytes 4 (length e.name) ++ little_bytes 4 place

-- those of all entries
abbrev pub entries_bytes : List ℕ → List Entry → List ℕ
entries_bytes [] entries = []
entries_bytes (place ∷ places) [] = []
entries_bytes (place ∷ places) (e ∷ entries) = entry_bytes place e ++ entries_bytes places entries

-- the head, with the space of its name
abbrev pub head_bytes : BigDir → List ℕ
head_bytes dir =
    dir.sequence ∷ 0 ∷ 0 ∷ 0 ∷ head_word ++ little_bytes 4 (length dir.name) ++ little_bytes 4 dir.size ++ little_bytes 4 (length dir.entries)
    ++ little_bytes 4 (length dir.heap) ++ little_bytes 4 dir.parent ++ padded_name (head_space_of dir) dir.name

-- head, entries and heap, which the check covers
abbrev pub parts_bytes : BigDir → List ℕ
parts_bytes dir = head_bytes dir ++ entries_bytes dir.name_places dir.entries ++ dir.heap

-- where the heap ends
abbrev pub parts_end : BigDir → ℕ
parts_end dir = bytes_taken dir - 8

-- the tail without the check
abbrev pub tail_bytes : BigDir → List ℕ
tail_bytes dir = tail_word ++ dir.sequence ∷ dir.reserved

-- all bytes, with these between the heap and the tail, and this check
abbrev pub laid : BigDir → List ℕ → ℕ → List ℕ
laid dir free check = parts_bytes dir ++ free ++ tail_bytes dir ++ check ∷ []

-- the bytes 0 between the heap and the tail
abbrev pub free_bytes : BigDir → List ℕ
free_bytes dir = replicate (dir.size - bytes_taken dir) 0

-- all bytes with the right check
abbrev pub checked_bytes : BigDir → List ℕ
checked_bytes dir = laid dir (free_bytes dir) (big_dir_check (laid dir (free_bytes dir) 0) (parts_end dir))

-- The bytes of a directory. If one of the second form would be read by the first, whose check takes the word after the
-- heap, too, that word becomes 1.
unfoldable pub big_bytes : BigDir → List ℕ
big_bytes dir =
    let bytes = checked_bytes dir in
    if dir.second_form && is_check_right false bytes then slice_set bytes (parts_end dir) 1 else bytes

-- What writing gives: bytes that read as the directory, and of these the only ones that are written. Beyond what reading looks
-- at, 13 and bytes 0 follow the head's name, and 0 stands between the heap and the tail, but for the word above.
pub record IsWrittenBig (bytes : List ℕ) (dir : BigDir) : Type 0 where
  pub reads : IsBigDir bytes dir
  pub spelled : bytes ≡ big_bytes dir
