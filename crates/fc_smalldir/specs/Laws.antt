-- What holds of small directories.
use Rattle.fc_dirs.specs.Small.{SmallDir, IsSmall}
use Rattle.fc_dirs.specs.SmallBytes.{IsWrittenSmall, small_bytes}

-- What is written reads as the same directory, head and entries.
abbrev pub ReadsBack : Type 0
ReadsBack = (dir : SmallDir) → IsSmall dir → IsWrittenSmall (small_bytes dir) dir
