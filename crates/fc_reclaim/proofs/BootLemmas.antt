-- Whether a boot block fits.
use Rattle.std.proofs.Common.{◌≡◌, ◌<◌, ◌≤◌, ℕ, Bool, false, List, length, sym, ap, ◌∙◌}
use Rattle.std.specs.Prelude.{slice_index, ◌==◌, ◌&&◌}
use Rattle.std.proofs.lemmas.Bool.{le-leb, lt-leb}
use Rattle.fc_bytes.specs.Checks.{boot_check}
use Rattle.fc_record.specs.Kinds.{boot_block, boot_record, is_boot}
use Rattle.fc_record.specs.Record.{is_valid}
use Rattle.fc_reclaim.specs.Boot.{is_boot_block}

pub too_short : (image : List ℕ) → length image < 0xE00 → false ≡ is_boot image
too_short image short = sym (ap (λ (b : Bool). b && (slice_index (boot_block image) 511 == boot_check (boot_block image)) && is_valid (boot_record image)) (lt-leb 0xE00 (length image) short))

pub block_fits : (image block : List ℕ) → 0xE00 ≤ length image → block ≡ boot_block image → is_boot_block block ≡ is_boot image
block_fits image block long is =
    ap is_boot_block is ∙ sym (ap (λ (b : Bool). b && (slice_index (boot_block image) 511 == boot_check (boot_block image)) && is_valid (boot_record image)) (le-leb 0xE00 (length image) long))
