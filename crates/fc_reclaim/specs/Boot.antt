-- The block of 512 bytes in which a boot block may fit.
use Rattle.std.specs.Prelude.{ℕ, Bool, ◌&&◌, ◌==◌, List, slice_index}
use Rattle.fc_bytes.specs.Words.{bytes_at}
use Rattle.fc_bytes.specs.Checks.{boot_check}
use Rattle.fc_record.specs.Record.{is_valid, record_of}

-- its check is right, and its disc record is valid
abbrev pub is_boot_block : List ℕ → Bool
is_boot_block block = (slice_index block 511 == boot_check block) && is_valid (record_of (bytes_at block 0x1C0 60))
