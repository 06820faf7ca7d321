-- What a pass of writes over the sectors of an object leaves on a disk.
use Rattle.std.proofs.Common.{◌≡◌, ◌≤◌, ◌<◌, ℕ, ◌+◌, ◌-◌, ◌*◌, ◌^◌, Option, Some, None, List, ◌∷◌, ◌++◌, All, IsFalse, length, drop, get_or, option_map, refl, sym, ap, subst, ◌∙◌, arith}
use Rattle.std.specs.Option.{ForSome}
use Rattle.std.specs.List.{range_with_len}
use Rattle.std.proofs.Math.Nat.{div-le_self}
use Rattle.fc_device.specs.declared.disk.Disk.{Ghosts}
use Rattle.fc_device.specs.declared.disk.Extent.{Extent}
use Rattle.fc_device.specs.Calls.{StopsAndExitsLeave, StopsTearRow}
use Rattle.fc_device.specs.Sectors.{with_row, IsMixOf}
use Rattle.fc_device.specs.Stops.{HasRowPart, LeavesOnly, RowOldOrNew}
use Rattle.fc_device.proofs.DiskLaws.{Laws, row_fits_in, sector_fits}
use Rattle.fc_device.proofs.StopLemmas.{goes_on, left_now, weaker}
use Rattle.fc_objects.specs.Extents.{extent_sectors}
use Rattle.fc_objects.specs.Written.{AreApart, AreIn, HasParts, IsPartWritten, StopsTear, padded}
use Rattle.fc_objects.proofs.CallLemmas.{both, one_more}
use Rattle.fc_objects.proofs.WriteLemmas.{IsNext, IsNextRow, length-padded, part_more, parts_more}

told_from : (f : List ℕ → List ℕ) (o : Option (List ℕ)) (image : List ℕ) → option_map f o ≡ Some image → (was : List ℕ) × (o ≡ Some was) × (f was ≡ image)
told_from f None image is = absurd (cc)
told_from f (Some was) image is = (was, refl, cc)

-- the next sector stands before those after it
pub next_sector : (sectors done ahead after : List ℕ) (row : Extent) → sectors ≡ done ++ ahead → ahead ≡ extent_sectors row ++ after → 0 < row.sectors → row.sectors ≤ 1
    → sectors ≡ done ++ (row.first ∷ after)
next_sector sectors done ahead after row cut next some most =
    let one : row.sectors ≡ 1 = omega (arith, some, most) in
    cut ∙ ap (λ (xs : List ℕ). done ++ xs) (next ∙ ap (λ (k : ℕ). range_with_len row.first k ++ after) one)

-- and so does the next row
pub next_row : (sectors done ahead after : List ℕ) (row : Extent) → sectors ≡ done ++ ahead → ahead ≡ extent_sectors row ++ after → sectors ≡ done ++ (range_with_len row.first row.sectors ++ after)
next_row sectors done ahead after row cut next = cut ∙ ap (λ (xs : List ℕ). done ++ xs) next

module _ {D : Type 0} {d : Ghosts D} (law : Laws d) where
  -- sectors of a disk are numbers of 64 bits
  pub sectors_fit : (disk : D) (sectors : List ℕ) → All (λ n. n < d.sectors disk) sectors → All (λ n. n + 1 < 2 ^ 64) sectors
  sectors_fit disk sectors on_disk = λ i e within.
      let low = on_disk i e within in
      omega (arith, low, law.whole_sectors disk, div-le_self (d.image_length disk) (d.sector_size disk), law.length_fits disk)

  -- they are whole in the image that it tells
  pub are_in : (disk : D) (sectors image : List ℕ) → All (λ n. n < d.sectors disk) sectors → d.bytes disk ≡ Some image → AreIn (d.sector_size disk) sectors image
  are_in disk sectors image on_disk told = λ i e within. sector_fits law disk (get_or sectors i e) (on_disk i e within) image told

  -- the next sector is on the disk
  pub next_on_disk : (disk : D) (sectors done : List ℕ) (n : ℕ) → All (λ k. k < d.sectors disk) sectors → IsNext sectors done n → n < d.sectors disk
  next_on_disk disk sectors done n on_disk next = subst (λ (k : ℕ). k < d.sectors disk) next.at (on_disk (length done) 0 next.within)

  -- the next row is on the disk
  pub next_row_on_disk : (disk : D) (sectors done : List ℕ) (n count : ℕ) → 0 < count → All (λ k. k < d.sectors disk) sectors → IsNextRow sectors done n count → n + count ≤ d.sectors disk
  next_row_on_disk disk sectors done n count some on_disk next =
      let last : n + (count - 1) < d.sectors disk =
      subst (λ (k : ℕ). k < d.sectors disk) (next.at (count - 1) (omega (arith, some))) (on_disk (length done + (count - 1)) 0 (omega (arith, next.within, some))) in
      omega (arith, last, some)

  module _ {start mid new : D} (sectors done bytes piece : List ℕ) (n count : ℕ) (some : 0 < count) (next : IsNextRow sectors done n count) (same : d.sector_size mid ≡ d.sector_size start)
      (is : piece ≡ padded (count * d.sector_size start) (drop (length done * d.sector_size start) bytes)) where
    -- what a crash may leave after a row more
    pub tear_more : StopsTear d start mid sectors bytes → StopsTearRow d mid new n piece → StopsTear d start new sectors bytes
    tear_more first second =
        let size = d.sector_size start in
        let one : LeavesOnly d.moment d.left_since mid new (RowOldOrNew size n piece (d.left_since mid (d.moment mid))) =
        subst (λ (k : ℕ). LeavesOnly d.moment d.left_since mid new (RowOldOrNew k n piece (d.left_since mid (d.moment mid)))) same second in
        goes_on law first one
        (λ image torn.
        let had = left_now law first torn.0 torn.1 in (
          had.0,
          had.1,
          λ inside.
              let so_far = had.2 inside in
              let fits : n * size + count * size ≤ length torn.0 = row_in_image size had.0 torn.0 inside so_far.length_stays in
              let room : n * size + length piece ≤ length torn.0 = omega (arith, fits, ap length is, length-padded (count * size) (drop (length done * size) bytes)) in
              part_more size sectors bytes had.0 torn.0 image done n count piece next is fits so_far (torn.2 room),
        ))
      where
        row_in_image : (size : ℕ) (was image : List ℕ) → AreIn size sectors was → length image ≡ length was → n * size + count * size ≤ length image
        row_in_image size was image inside long =
            let last : (n + (count - 1)) * size + size ≤ length was =
            subst (λ (k : ℕ). k * size + size ≤ length was) (next.at (count - 1) (omega (arith, some))) (inside (length done + (count - 1)) 0 (omega (arith, next.within, some))) in
            let e : n + count ≡ n + (count - 1) + 1 = omega (arith, some) in
            let up : (n + (count - 1) + 1) * size ≡ (n + (count - 1)) * size + size = one_more (n + (count - 1)) size in
            let all : (n + count) * size ≡ n * size + count * size = both n count size in
            omega (arith, last, ap (λ (k : ℕ). k * size) e, up, all, long)

    -- what is read then
    pub exit_more : (was image : List ℕ) → d.bytes start ≡ Some was → All (λ k. k < d.sectors start) sectors → d.bytes mid ≡ Some image → IsPartWritten (d.sector_size start) sectors bytes was image
        → HasRowPart (d.sector_size mid) n piece (d.bytes mid) (d.bytes new)
        → (after : List ℕ) × (d.bytes new ≡ Some after) × IsPartWritten (d.sector_size start) sectors bytes was after
    exit_more was image told on_disk here so_far written =
        let size = d.sector_size start in
        let fits = row_fits_in law start n count (next_row_on_disk start sectors done n count some on_disk next) was told in
        let now = written.part image here in
        let mix : IsMixOf size image (with_row size image n piece) now.0 = subst (λ (k : ℕ). IsMixOf k image (with_row k image n piece) now.0) same now.2 in
        (now.0, now.1, part_more size sectors bytes was image now.0 done n count piece next is (omega (arith, fits, so_far.length_stays)) so_far mix)

    -- the sectors that are done have their parts
    pub done_more : (after : List ℕ) → sectors ≡ done ++ (range_with_len n count ++ after) → n + count ≤ d.sectors mid
        → d.bytes new ≡ option_map (λ image. with_row (d.sector_size mid) image n piece) (d.bytes mid)
        → (AreApart sectors → ForSome (d.bytes mid) (HasParts (d.sector_size start) done bytes))
        → AreApart sectors → ForSome (d.bytes new) (HasParts (d.sector_size start) (done ++ range_with_len n count) bytes)
    done_more after cut within written so_far apart image told =
        let size = d.sector_size start in
        let from = told_from (λ image. with_row (d.sector_size mid) image n piece) (d.bytes mid) image (sym written ∙ told) in
        let fits : n * size + count * size ≤ length from.0 = subst (λ (k : ℕ). n * k + count * k ≤ length from.0) same (row_fits_in law mid n count within from.0 from.1) in
        let all = parts_more size sectors bytes from.0 done after n count piece cut apart is fits (so_far apart from.0 from.1) in
        subst (HasParts size (done ++ range_with_len n count) bytes) (ap (λ (k : ℕ). with_row k from.0 n piece) (sym same) ∙ from.2) all

  -- the image is told only if it was
  pub told_more : {start mid new : D} {size n : ℕ} {piece : List ℕ} → HasRowPart size n piece (d.bytes mid) (d.bytes new)
      → ForSome (d.bytes mid) (λ image. (was : List ℕ) × (d.bytes start ≡ Some was)) → ForSome (d.bytes new) (λ image. (was : List ℕ) × (d.bytes start ≡ Some was))
  told_more written before image told = let from = written.told image told in before from.0 from.1

  -- with nothing pending at first
  pub keeps_of : {start new : D} (sectors bytes : List ℕ) → IsFalse (d.pending start) → All (λ k. k < d.sectors start) sectors → StopsTear d start new sectors bytes
      → ForSome (d.bytes start) (λ was. (image : List ℕ) × (d.bytes new ≡ Some image) × IsPartWritten (d.sector_size start) sectors bytes was image)
      → ForSome (d.bytes new) (λ image. (was : List ℕ) × (d.bytes start ≡ Some was)) → StopsAndExitsLeave d start new (IsPartWritten (d.sector_size start) sectors bytes)
  keeps_of {start = start} sectors bytes quiet on_disk stops exit told = record {
    stops = weaker law (λ image. ForSome (d.bytes start) (λ was. IsPartWritten (d.sector_size start) sectors bytes was image)) stops (λ image p was said.
        let same : p.0 ≡ was = law.settled start quiet was said p.0 p.1 in
        subst (λ (x : List ℕ). AreIn (d.sector_size start) sectors x → IsPartWritten (d.sector_size start) sectors bytes x image) same p.2 (are_in start sectors was on_disk said));
    exit = exit;
    told = told;
  }
