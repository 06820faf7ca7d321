-- Directories of 2048 and of 1280 bytes: which bytes are written of them.
use Rattle.std.specs.Prelude.{◌≡◌, ℕ, ◌+◌, ◌-◌, ◌*◌, ◌/◌, ◌%◌, Bool, true, false, List, [], ◌∷◌, ◌++◌, length, replicate}
use Rattle.std.specs.List.{flat_map}
use Rattle.byteorder.specs.Endian.{little_bytes}
use Rattle.fc_bytes.specs.Checks.{small_dir_check}
use Rattle.fc_dirs.specs.declared.Entry.{Entry}
use Rattle.fc_dirs.specs.declared.SmallForm.{SmallForm}
use Rattle.fc_dirs.specs.declared.SmallForm.TheVariants.{Bytes1280, Bytes2048}
use Rattle.fc_dirs.specs.Entries.{padded_name}
use Rattle.fc_dirs.specs.Small.{SmallDir, IsSmallDir, tail_of, entries_end, hugo_word, nick_word}

-- the bytes with the bits of a number as their top bits, the lowest bit at the first
abbrev pub with_tops : ℕ → List ℕ → List ℕ
with_tops tops [] = []
with_tops tops (c ∷ bytes) = (c + 128 * (tops % 2)) ∷ with_tops (tops / 2) bytes

-- the ten bytes of an entry's name; in 1280 bytes their top bits are the attributes
abbrev pub name_bytes : SmallForm → Entry → List ℕ
name_bytes Bytes2048 e = padded_name 10 e.name
name_bytes Bytes1280 e = with_tops e.attrs (padded_name 10 e.name)

-- the last byte of an entry, which in 2048 bytes is the attributes
abbrev pub last_byte : SmallForm → Entry → ℕ
last_byte Bytes2048 e = e.attrs
last_byte Bytes1280 e = e.last

-- the 26 bytes of an entry
abbrev pub entry_bytes : SmallForm → Entry → List ℕ
entry_bytes form e =
    name_bytes form e ++ little_bytes 4 e.load ++ little_bytes 4 e.exec ++ little_bytes 4 e.len ++ little_bytes 3 e.address
    ++ last_byte form e ∷ []

-- the word in head and tail
abbrev pub magic_word : Bool → List ℕ
magic_word true = hugo_word
magic_word false = nick_word

-- the sequence byte and the word, in the head
abbrev pub head_bytes : SmallDir → List ℕ
head_bytes dir = dir.sequence ∷ magic_word dir.is_hugo

-- the bytes 0 from the last entry to the tail: the places that are free, and the last mark
abbrev pub free_bytes : SmallDir → List ℕ
free_bytes dir = replicate (26 * (tail_of dir.form).places + 1 - 26 * length dir.entries) 0

-- the first and the last field of the tail, of which the parent and the title stand in the middle
abbrev pub first_field : SmallForm → SmallDir → List ℕ
first_field Bytes2048 dir = dir.reserved
first_field Bytes1280 dir = dir.name

abbrev pub last_field : SmallForm → SmallDir → List ℕ
last_field Bytes2048 dir = dir.name
last_field Bytes1280 dir = dir.reserved

abbrev pub tail_bytes : SmallDir → List ℕ
tail_bytes dir =
    first_field dir.form dir ++ little_bytes 3 dir.parent ++ dir.title ++ last_field dir.form dir ++ head_bytes dir

-- all bytes but the check
abbrev pub bytes_before_check : SmallDir → List ℕ
bytes_before_check dir = head_bytes dir ++ flat_map (entry_bytes dir.form) dir.entries ++ free_bytes dir ++ tail_bytes dir

-- the check of bytes that have any: in 1280 bytes it is 0
abbrev pub check_of : SmallForm → List ℕ → ℕ → ℕ
check_of Bytes2048 bytes end = small_dir_check bytes end
check_of Bytes1280 bytes end = 0

-- the bytes of a directory
unfoldable pub small_bytes : SmallDir → List ℕ
small_bytes dir =
    let bytes = bytes_before_check dir in
    bytes ++ check_of dir.form (bytes ++ 0 ∷ []) (entries_end dir.entries) ∷ []

-- What writing gives: bytes that read as the directory, and of these the only ones that are written. Beyond what reading looks
-- at, 13 and bytes 0 follow a short name, free places and the last mark are 0, and so is the check that is not read.
pub record IsWrittenSmall (bytes : List ℕ) (dir : SmallDir) : Type 0 where
  pub reads : IsSmallDir bytes dir
  pub spelled : bytes ≡ small_bytes dir
