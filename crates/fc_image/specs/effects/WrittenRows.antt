-- What writing owes in bytes that reading ignores, worked out: maps and directories that read alike, of which some aren't written right.
use Rattle.std.specs.Prelude.{◌≡◌, ℕ, List, [], ◌∷◌, ◌++◌, take, drop, replicate, codes}
use Rattle.fc_bytes.specs.Rows.{e_root, e_plus_root}
use Rattle.fc_record.specs.Record.{geometry}
use Rattle.fc_record.specs.Kinds.{map_record}
use Rattle.fc_zone.specs.declared.RunKind.TheVariants.{Hole, Id}
use Rattle.fc_newmap.specs.Map.{Map}
use Rattle.fc_newmap.specs.Rows.{run}
use Rattle.fc_dirs.specs.declared.SmallForm.TheVariants.{Bytes1280, Bytes2048}
use Rattle.fc_dirs.specs.Small.{SmallDir, empty_small, hugo_word}
use Rattle.fc_dirs.specs.Big.{empty_big}
use Rattle.fc_dirs.specs.Directory.{Directory}
use Rattle.fc_dirs.specs.Rows.{dollar, named, spoilt}
use Rattle.fc_image.specs.Rows.{fresh_sector, small_sector, used_sector}
use Rattle.fc_image.specs.effects.Steady.{AreWritten, KeepsOrWritesLinks}
use Rattle.fc_image.specs.effects.Settled.{CompactedBytes}
use Rattle.fc_image.specs.effects.Moves.{runs_joined, with_holes_joined}

-- ---- maps

-- a map of one zone, of which identifiers have so many bits
abbrev pub map_with : ℕ → List ℕ → Map
map_with idlen sector = record { geometry = record (geometry (map_record used_sector)) { idlen = idlen }; zones = sector ∷ [] }

-- identifier 3 with 16 bits, and a hole of 16
abbrev pub used : Map
used = map_with 15 used_sector

-- the same without the top bit of FreeLink
abbrev pub without_top : Map
without_top = map_with 15 (small_sector 0x28 0x02 (3 ∷ 0x80 ∷ 0 ∷ 0x80 ∷ []))

-- identifier 3 with 32 bits, by fields of 16 bits
abbrev pub full : Map
full = map_with 16 (small_sector 0 0x80 (3 ∷ 0 ∷ 0 ∷ 0x80 ∷ []))

-- a hole in its place, whose field is its link alone, or has bit 15 too
abbrev pub freed : Map
freed = map_with 16 fresh_sector

-- the same with that bit
abbrev pub freed_high : Map
freed_high = map_with 16 (small_sector 0x18 0x82 (0 ∷ 0x80 ∷ 0 ∷ 0x80 ∷ []))

-- ---- directories

-- 2048 bytes: a root with this entry, whose check isn't looked at here
abbrev pub root_with : List ℕ → List ℕ
root_with entry = take 5 e_root ++ entry ++ drop 31 e_root

-- what it says: one file of no bytes
abbrev pub one_file : SmallDir
one_file = record (empty_small Bytes2048 0x203 dollar) { entries = named (codes "A") ∷ [] }

-- 1280 bytes, empty, with this last byte
abbrev pub old_root : ℕ → List ℕ
old_root last = 0 ∷ hugo_word ++ replicate 1223 0 ++ (36 ∷ 13 ∷ []) ++ replicate 8 0 ++ (2 ∷ 0 ∷ 0 ∷ []) ++ (36 ∷ 13 ∷ []) ++ replicate 31 0 ++ 0 ∷ hugo_word ++ last ∷ []

-- what it says
abbrev pub old_empty : SmallDir
old_empty = empty_small Bytes1280 2 dollar

-- maps and directories
pub record WrittenRows : Type 0 where
  -- links may stay as they are, and new ones are written in full
  pub links_stay : KeepsOrWritesLinks without_top without_top 0
  pub link_written : KeepsOrWritesLinks full freed 0
  -- the top bit of FreeLink may not go, and a new hole's field has no bit but those of its link
  pub no_top : KeepsOrWritesLinks used without_top 0 → ⊥
  pub high_bit : KeepsOrWritesLinks full freed_high 0 → ⊥
  -- bytes after a name's 13, free places, the mark after them, the last byte of 1280, bytes after the 13 of a big directory's name and
  -- those between its heap and its tail
  pub padding : AreWritten (root_with ((65 ∷ 13 ∷ 7 ∷ []) ++ replicate 22 0 ++ 3 ∷ [])) (Directory.Small one_file) → ⊥
  pub free : AreWritten (spoilt 6 1 e_root) (Directory.Small (empty_small Bytes2048 0x203 dollar)) → ⊥
  pub mark : AreWritten (spoilt 2007 1 e_root) (Directory.Small (empty_small Bytes2048 0x203 dollar)) → ⊥
  pub last_byte : AreWritten (old_root 9) (Directory.Small old_empty) → ⊥
  pub head : AreWritten (spoilt 30 1 e_plus_root) (Directory.Big (empty_big 0x301 dollar)) → ⊥
  pub heap : AreWritten (spoilt 2039 1 e_plus_root) (Directory.Big (empty_big 0x301 dollar)) → ⊥
  -- compaction keeps all bytes of a directory of which nothing changes, and writes one in which something does
  pub moved : CompactedBytes (old_root 0) (old_root 0) (Directory.Small old_empty) (Directory.Small old_empty)
  pub touched : CompactedBytes (old_root 9) (old_root 0) (Directory.Small old_empty) (Directory.Small old_empty) → ⊥
  pub rewritten : CompactedBytes (old_root 0) (old_root 9) (Directory.Small old_empty) (Directory.Small (record old_empty { sequence = 1; parent = 9 })) → ⊥
  -- identifier 3 moves into the hole, and its old run is one
  pub joined : runs_joined used (0, run 560 16 Hole) 3 0 ≡ run 512 32 (Id 2) ∷ run 544 16 Hole ∷ run 560 16 (Id 3) ∷ []
  pub touching : with_holes_joined (run 32 16 Hole ∷ run 48 16 Hole ∷ run 64 16 (Id 3) ∷ run 80 16 Hole ∷ []) ≡ run 32 32 Hole ∷ run 64 16 (Id 3) ∷ run 80 16 Hole ∷ []
