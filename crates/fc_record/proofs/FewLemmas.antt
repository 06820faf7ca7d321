-- How many sectors are read on the way to a kind.
use Rattle.std.proofs.Common.{◌≡◌, ◌≤◌, ◌<◌, ◌+◌, ◌*◌, ℕ, Bool, true, false, cond, List, length, Some, None, arith}
use Rattle.std.proofs.lemmas.Bool.{le-ltb, lt-ltb}
use Rattle.std.specs.Prelude.{nat_le}
use Rattle.fc_bytes.specs.Words.{bytes_at}
use Rattle.fc_record.specs.Kinds.{boot_record, front_reads, is_boot, is_whole_map, map_record, sectors_there}
use Rattle.fc_record.specs.Parts.{record_in_map}
use Rattle.fc_record.proofs.PartLemmas.{passed}

pub boot_within : (image : List ℕ) → sectors_there image 0xE00 2 ≤ front_reads image
unfolding front_reads
boot_within image = omega arith

module _ (image : List ℕ) (boot : None ≡ cond (is_boot image) (Some (boot_record image)) None) where
  pub old_within : length image < 1024 → sectors_there image 0xE00 2 + sectors_there image 512 2 ≤ front_reads image
  unfolding front_reads
  old_within short = rw (passed (boot_record image) (is_boot image) boot, lt-ltb (length image) 1024 short) (omega arith)

  pub first_within : 1024 ≤ length image → sectors_there image 0xE00 2 + sectors_there image (256 * 0 + 1024) 4 ≤ front_reads image
  unfolding front_reads
  first_within long = rw (passed (boot_record image) (is_boot image) boot, le-ltb (length image) 1024 long) (by (is_whole_map (bytes_at image 0 1024)) (sectors_there image 0xE00 2) (sectors_there image 1024 4) (sectors_there image 2048 4) (four (nat_le 1024 (length image))))
    where
      four : (b : Bool) → cond b 4 0 ≤ 4
      four true = omega arith
      four false = omega arith

      by : (b : Bool) (x y z : ℕ) → y ≤ 4 → x + y ≤ x + cond b 4 (4 + z)
      by true x y z few = omega (arith, few)
      by false x y z few = omega (arith, few)

  pub second_within : 1024 ≤ length image → None ≡ record_in_map (bytes_at image 0 1024)
      → sectors_there image 0xE00 2 + sectors_there image (256 * 0 + 1024) 4 + sectors_there image (256 * 4 + 1024) 4 ≤ front_reads image
  unfolding front_reads
  second_within long first =
      rw (passed (boot_record image) (is_boot image) boot, le-ltb (length image) 1024 long, passed (map_record (bytes_at image 0 1024)) (is_whole_map (bytes_at image 0 1024)) first)
      (four (nat_le 1024 (length image)) (sectors_there image 0xE00 2) (sectors_there image 2048 4))
    where
      four : (b : Bool) (x z : ℕ) → x + cond b 4 0 + z ≤ x + (4 + z)
      four true x z = omega arith
      four false x z = omega arith
