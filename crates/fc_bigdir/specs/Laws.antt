-- What holds of big directories.
use Rattle.std.specs.Prelude.{◌<◌, ◌^◌, ℕ, List}
use Rattle.std.specs.List.{AllByRecursion}
use Rattle.fc_dirs.specs.declared.Entry.{Entry}
use Rattle.fc_dirs.specs.Big.{BigDir, IsBig}
use Rattle.fc_dirs.specs.BigBytes.{IsWrittenBig, big_bytes}

-- The numbers of an entry have 32 bits.
pub record HasWords (e : Entry) : Type 0 where
  pub load : e.load < 2 ^ 32
  pub exec : e.exec < 2 ^ 32
  pub len : e.len < 2 ^ 32
  pub address : e.address < 2 ^ 32
  pub attrs : e.attrs < 2 ^ 32

-- Each is a byte.
abbrev pub AreBytes : List ℕ → Type 0
AreBytes = AllByRecursion (λ c. c < 256)

-- Each number of a directory is as wide as its type.
pub record HasWidths (dir : BigDir) : Type 0 where
  pub entries : AllByRecursion HasWords dir.entries
  pub name : AreBytes dir.name
  pub heap : AreBytes dir.heap
  pub reserved : AreBytes dir.reserved

-- What is written reads as the same directory, in both forms.
abbrev pub ReadsBack : Type 0
ReadsBack = (dir : BigDir) → IsBig dir → HasWidths dir → IsWrittenBig (big_bytes dir) dir
